use Rattle.std.proofs.Common.{◌≡◌, ◌≤◌, ◌+◌, List, [], length, refl, sym, ap, subst, ◌∙◌, arith}
use Rattle.domain_rules.specs.Network.{InForm}
use Rattle.domain_base.specs.Octets.{AreOctets}
use Rattle.domain_base.specs.declared.names.Node.TheVariants.{Ap}
use Rattle.run_journal.specs.declared.domain.Domain.{Domain}
use Rattle.run_journal.specs.declared.domain.Event.TheVariants.{Leave}
use Rattle.run_journal.specs.declared.acts.Entry.{Entry}
use Rattle.run_journal.specs.Questions.{history}
use Rattle.domain_rules.specs.Explained.{push}
use Rattle.run_journal.specs.Listing.{with_ap}
use Rattle.domain_world.specs.State.{State}
use Rattle.domain_world.specs.Owning.{Stand, HoldNone, nodes_of, places}
use Rattle.domain_world.proofs.Owned.{own_ap, since_first, since_more}
use Rattle.domain_world.proofs.Begun.{started_ap}
use Rattle.domain_world.proofs.Few.{few_started}
use Rattle.domain_world.proofs.world.World.add_ap.Goals as goal

pub returns-clause-own : goal.returns-clause-own
returns-clause-own c =
    let node = c.in_ok-node.node in
    let acts = c.add_ap.new.out.acts in
    let new = c.add_ap.new.self in
    let at = c.in_ok-node.ensures.node ∙ ap (λ (w : State). Ap (length w.domain.aps)) c.self.view_is in
    let domain = c.in_ok-node.ensures.domain ∙ ap (λ (w : State). with_ap w.domain c.args.address c.args.r0kh_id) c.self.view_is in
    let is = c.journal_acts.ensures.entries ∙ ap (push 0 node acts) c.in_ok-reserve.ensures.entries in
    let stand = subst (λ (w : State). (i : List Entry) → Stand (nodes_of w) i → HoldNone w.rows → history node i ≡ [] → Stand new (push 0 node acts i)) c.self.view_is c.in_ok-node.ensures.stand in
    own_ap c.args.self.now _ c.args.address c.args.r0kh_id node acts c.args.journal.now.entries c.journal_acts.new.journal.entries c.requires.own c.requires.first c.requires.form c.six.ensures.size c.six.ensures.octets (subst AreOctets c.as_slice.ensures c.octets.ensures) at domain
    c.in_ok-node.ensures.acts (ap (λ (w : State). w.rounds) c.self.view_is) (ap (λ (w : State). w.usable) c.self.view_is) c.journal_acts.ensures.noted is c.add_ap.ensures.listed c.in_ok-node.ensures.quiet stand

pub returns-clause-started : goal.returns-clause-started
returns-clause-started c =
    let node = c.in_ok-node.node in
    let acts = c.add_ap.new.out.acts in
    let at = c.in_ok-node.ensures.node ∙ ap (λ (w : State). Ap (length w.domain.aps)) c.self.view_is in
    let domain = c.in_ok-node.ensures.domain ∙ ap (λ (w : State). with_ap w.domain c.args.address c.args.r0kh_id) c.self.view_is in
    let is = c.journal_acts.ensures.entries ∙ ap (push 0 node acts) c.in_ok-reserve.ensures.entries in
    λ before. started_ap c.args.self.now.domain c.add_ap.new.self.domain c.args.address c.args.r0kh_id node acts c.args.journal.now.entries c.journal_acts.new.journal.entries domain at c.in_ok-node.ensures.acts is before

pub add_ap-requires-clause-form : goal.add_ap-requires-clause-form
add_ap-requires-clause-form c = subst (λ (w : State). InForm (with_ap w.domain c.args.address c.args.r0kh_id)) (sym c.self.view_is) c.requires.form

pub returns-clause-rounds : goal.returns-clause-rounds
returns-clause-rounds c = ap (λ (w : State). w.rounds) c.self.view_is

pub returns-clause-domain : goal.returns-clause-domain
returns-clause-domain c = c.in_ok-node.ensures.domain ∙ ap (λ (w : State). with_ap w.domain c.args.address c.args.r0kh_id) c.self.view_is

pub journal_acts-requires-clause-noted : goal.journal_acts-requires-clause-noted
journal_acts-requires-clause-noted c = c.reserve-2.ensures.items ∙ ap (λ (w : State). w.frames) c.self.view_is ∙ c.requires.own.placed.places ∙ ap places (sym c.in_ok-reserve.ensures.entries)

pub journal_acts-requires-clause-room : goal.journal_acts-requires-clause-room
journal_acts-requires-clause-room c =
    let four : length c.add_ap.new.out.acts ≤ 4 = few_started _ _ _ _ c.in_ok-node.ensures.acts in
    let most : 9 + length c.self.inside.nodes.stas ≤ c.most_acts-most.result = c.most_acts-most.ensures.most (Leave 0) refl in
    omega (arith, four, most, c.in_ok-reserve.ensures.spare)

pub journal_acts-requires-clause-places : goal.journal_acts-requires-clause-places
journal_acts-requires-clause-places c =
    let four : length c.add_ap.new.out.acts ≤ 4 = few_started _ _ _ _ c.in_ok-node.ensures.acts in
    let most : 9 + length c.self.inside.nodes.stas ≤ c.most_acts-most.result = c.most_acts-most.ensures.most (Leave 0) refl in
    omega (arith, four, most, c.in_ok-reserve-2.ensures.ok)

pub returns-clause-since : goal.returns-clause-since
returns-clause-since c = λ d since.
    let domain = c.in_ok-node.ensures.domain ∙ ap (λ (w : State). with_ap w.domain c.args.address c.args.r0kh_id) c.self.view_is in
    let rounds = ap (λ (w : State). w.rounds) c.self.view_is ∙ c.requires.first in
    since_more (with_ap d c.args.address c.args.r0kh_id) _ c.journal_acts.new.journal.entries (returns-clause-own c) rounds
    (ap (λ (x : Domain). with_ap x c.args.address c.args.r0kh_id) (since_first d c.args.self.now c.args.journal.now.entries c.requires.own c.requires.first since) ∙ sym domain)
