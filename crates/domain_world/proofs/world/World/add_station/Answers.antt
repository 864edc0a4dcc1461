use Rattle.std.proofs.Common.{◌≡◌, List, [], length, sym, ap, subst, ◌∙◌}
use Rattle.domain_base.specs.declared.names.Node.TheVariants.{Sta}
use Rattle.run_journal.specs.declared.domain.Domain.{Domain}
use Rattle.run_journal.specs.declared.acts.Entry.{Entry}
use Rattle.run_journal.specs.Questions.{history}
use Rattle.run_journal.specs.Listing.{with_sta}
use Rattle.domain_world.specs.State.{State}
use Rattle.domain_world.specs.Owning.{Stand, nodes_of}
use Rattle.domain_world.proofs.Owned.{own_sta, since_first, since_more}
use Rattle.domain_world.proofs.Begun.{started_sta}
use Rattle.domain_world.proofs.world.World.add_station.Goals as goal

pub returns-clause-own : goal.returns-clause-own
returns-clause-own c = λ j own.
    let domain = c.in_ok-add_station.ensures.domain ∙ ap (λ (w : State). with_sta w.domain c.args.address c.args.psk) c.self.view_is in
    let new = c.add_station.new.self in
    let stand = subst (λ (w : State). (i : List Entry) → Stand (nodes_of w) i → history (Sta (length w.domain.stas)) i ≡ [] → Stand new i) c.self.view_is c.in_ok-add_station.ensures.stand in
    own_sta c.args.self.now _ c.args.address c.args.psk j own c.requires.first c.requires.form c.six.ensures.size c.six.ensures.octets domain (ap (λ (w : State). w.rounds) c.self.view_is) (ap (λ (w : State). w.usable) c.self.view_is)
    (ap (λ (w : State). w.frames) c.self.view_is) (c.add_station.ensures.rows ∙ ap (λ (w : State). w.rows) c.self.view_is) c.add_station.ensures.listed stand

pub returns-clause-started : goal.returns-clause-started
returns-clause-started c = λ j before.
    let domain = c.in_ok-add_station.ensures.domain ∙ ap (λ (w : State). with_sta w.domain c.args.address c.args.psk) c.self.view_is in
    started_sta c.args.self.now.domain c.add_station.new.self.domain c.args.address c.args.psk j domain before

pub returns-clause-since : goal.returns-clause-since
returns-clause-since c = λ d j own since.
    let domain = c.in_ok-add_station.ensures.domain ∙ ap (λ (w : State). with_sta w.domain c.args.address c.args.psk) c.self.view_is in
    let rounds = ap (λ (w : State). w.rounds) c.self.view_is ∙ c.requires.first in
    since_more (with_sta d c.args.address c.args.psk) _ j (returns-clause-own c j own) rounds
    (ap (λ (x : Domain). with_sta x c.args.address c.args.psk) (since_first d c.args.self.now j own c.requires.first since) ∙ sym domain)
