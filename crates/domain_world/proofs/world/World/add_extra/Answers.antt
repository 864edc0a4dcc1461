use Rattle.std.proofs.Common.{sym, ap, ◌∙◌}
use Rattle.run_journal.specs.declared.domain.Domain.{Domain}
use Rattle.run_journal.specs.Listing.{with_extra}
use Rattle.domain_world.specs.State.{State}
use Rattle.domain_world.proofs.Owned.{own_extra, since_first, since_more}
use Rattle.domain_world.proofs.Begun.{started_extra}
use Rattle.domain_world.proofs.world.World.add_extra.Goals as goal

pub returns-clause-own : goal.returns-clause-own
returns-clause-own c = λ j own.
    let domain = c.add_extra.ensures.domain ∙ ap (λ (w : State). with_extra w.domain c.args.extra) c.self.view_is in
    own_extra c.args.self.now _ c.args.extra j own c.requires.first domain (ap (λ (w : State). w.rounds) c.self.view_is) (ap (λ (w : State). w.usable) c.self.view_is)
    (ap (λ (w : State). w.frames) c.self.view_is) (c.add_extra.ensures.rows ∙ ap (λ (w : State). w.rows) c.self.view_is) c.add_extra.ensures.listed (c.add_extra.ensures.stand j)

pub returns-clause-started : goal.returns-clause-started
returns-clause-started c = λ j before.
    let domain = c.add_extra.ensures.domain ∙ ap (λ (w : State). with_extra w.domain c.args.extra) c.self.view_is in
    started_extra c.args.self.now.domain c.add_extra.new.self.domain c.args.extra j c.requires.no_aps domain before

pub returns-clause-since : goal.returns-clause-since
returns-clause-since c = λ d j own since.
    let domain = c.add_extra.ensures.domain ∙ ap (λ (w : State). with_extra w.domain c.args.extra) c.self.view_is in
    let rounds = ap (λ (w : State). w.rounds) c.self.view_is ∙ c.requires.first in
    since_more (with_extra d c.args.extra) _ j (returns-clause-own c j own) rounds
    (ap (λ (x : Domain). with_extra x c.args.extra) (since_first d c.args.self.now j own c.requires.first since) ∙ sym domain)
