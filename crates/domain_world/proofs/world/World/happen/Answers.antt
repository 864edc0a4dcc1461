use Rattle.std.proofs.Common.{◌≡◌, ◌≤◌, ◌+◌, suc, ℕ, List, sym, ap, subst, ◌∙◌, arith}
use Rattle.run_journal.specs.declared.acts.Entry.{Entry}
use Rattle.run_journal.specs.Questions.{history}
use Rattle.node_base.specs.Events.{event_of}
use Rattle.domain_rules.specs.Network.{InForm}
use Rattle.run_journal.specs.Events.{IsListed}
use Rattle.domain_rules.specs.Explained.{push, HappensAt}
use Rattle.domain_rules.specs.Rounds.{most_acts}
use Rattle.domain_world.specs.State.{State}
use Rattle.domain_world.specs.Owning.{AreListed, Stand, nodes_of, places}
use Rattle.domain_world.specs.Acting.{Acted, IsChanged}
use Rattle.domain_world.proofs.Few.{few}
use Rattle.domain_world.proofs.Turning.{stays}
use Rattle.domain_rules.proofs.Unchanged.{happens_still}
use Rattle.domain_world.proofs.Owned.{own_event, since_event, step_event, still_since}
use Rattle.domain_world.proofs.Stepping.{on_err, world_before, own_before, placed_before, event_before}
use Rattle.domain_world.proofs.world.World.happen.Goals as goal

pub journal_acts-requires-clause-room : goal.journal_acts-requires-clause-room
journal_acts-requires-clause-room c =
    let j = c.args.journal.now.entries in
    let stand = subst (λ (w : State). Stand (nodes_of w) j) (sym c.self.view_is) c.requires.own.stand in
    let acted = c.in_ok-step.ensures.acted j stand in
    let listed = subst (λ (w : State). AreListed (nodes_of w)) (sym c.self.view_is) c.requires.own.listed in
    let most = subst (λ n. most_acts c.args.event.now n ≤ c.most_acts-most.result) listed.count_stas (c.most_acts-most.ensures.most c.args.event.now c.requires.event.1) in
    let short = few _ c.args.event.now 0 c.at_node-node.result.0 (history c.at_node-node.result.0 j) (event_of c.at_node-node.result.1) c.step.new.out.acts c.requires.event.1 (happens_still c.args.event.now _ _ _ _ c.at_node-node.ensures.happens).1 acted.adds in
    omega (arith, short, most, c.in_ok-reserve.ensures.spare)

pub journal_acts-requires-clause-places : goal.journal_acts-requires-clause-places
journal_acts-requires-clause-places c =
    let j = c.args.journal.now.entries in
    let stand = subst (λ (w : State). Stand (nodes_of w) j) (sym c.self.view_is) c.requires.own.stand in
    let acted = c.in_ok-step.ensures.acted j stand in
    let listed = subst (λ (w : State). AreListed (nodes_of w)) (sym c.self.view_is) c.requires.own.listed in
    let most = subst (λ n. most_acts c.args.event.now n ≤ c.most_acts-most.result) listed.count_stas (c.most_acts-most.ensures.most c.args.event.now c.requires.event.1) in
    let short = few _ c.args.event.now 0 c.at_node-node.result.0 (history c.at_node-node.result.0 j) (event_of c.at_node-node.result.1) c.step.new.out.acts c.requires.event.1 (happens_still c.args.event.now _ _ _ _ c.at_node-node.ensures.happens).1 acted.adds in
    omega (arith, short, most, c.in_ok-reserve-2.ensures.ok)

pub returns-clause-step : goal.returns-clause-step
returns-clause-step c =
    let j = c.args.journal.now.entries in
    let node = c.at_node-node.result.0 in
    let at = event_of c.at_node-node.result.1 in
    let acts = c.step.new.out.acts in
    let new = c.step.new.self in
    let rounds : c.self.inside.rounds ≡ c.args.self.now.rounds = ap (λ (w : State). w.rounds) c.self.view_is in
    let happens : HappensAt c.args.event.now c.reserve.new.self.entries (suc c.self.inside.rounds) node at = c.at_node-node.ensures.happens in
    let here = subst (λ (i : List Entry). HappensAt c.args.event.now i (suc c.self.inside.rounds) node at) c.in_ok-reserve.ensures.entries happens in
    let now = subst (λ (r : ℕ). HappensAt c.args.event.now j (suc r) node at) rounds here in
    let acted = subst (λ (w : State). (i : List Entry) → Stand (nodes_of w) i → Acted node at i (nodes_of w) new acts) c.self.view_is c.in_ok-step.ensures.acted in
    let round : c.self.inside.rounds + 1 ≡ suc c.args.self.now.rounds = omega (arith, rounds) in
    let is = c.journal_acts.ensures.entries ∙ ap (push (c.self.inside.rounds + 1) node acts) c.in_ok-reserve.ensures.entries ∙ ap (λ (r : ℕ). push r node acts j) round in
    λ d since. step_event d c.args.self.now new c.args.event.now node at acts j c.journal_acts.new.journal.entries since.is_present now (acted j c.requires.own.stand) is

pub returns-clause-own : goal.returns-clause-own
returns-clause-own c =
    let j = c.args.journal.now.entries in
    let node = c.at_node-node.result.0 in
    let at = event_of c.at_node-node.result.1 in
    let acts = c.step.new.out.acts in
    let new = c.step.new.self in
    let rounds : c.self.inside.rounds ≡ c.args.self.now.rounds = ap (λ (w : State). w.rounds) c.self.view_is in
    let listed = subst (λ (w : State). IsListed w.domain node) c.self.view_is c.at_node-node.ensures.listed in
    let acted = subst (λ (w : State). (i : List Entry) → Stand (nodes_of w) i → Acted node at i (nodes_of w) new acts) c.self.view_is c.in_ok-step.ensures.acted in
    let round : c.self.inside.rounds + 1 ≡ suc c.args.self.now.rounds = omega (arith, rounds) in
    let is = c.journal_acts.ensures.entries ∙ ap (push (c.self.inside.rounds + 1) node acts) c.in_ok-reserve.ensures.entries ∙ ap (λ (r : ℕ). push r node acts j) round in
    own_event c.args.self.now _ node at acts j c.journal_acts.new.journal.entries c.requires.own listed (happens_still c.args.event.now _ _ _ _ c.at_node-node.ensures.happens).1 (acted j c.requires.own.stand) c.step.ensures.listed
    (c.step.ensures.domain ∙ ap (λ (w : State). w.domain) c.self.view_is) round (ap (λ (w : State). w.usable) c.self.view_is) c.journal_acts.ensures.noted is

pub returns-clause-since : goal.returns-clause-since
returns-clause-since c =
    let j = c.args.journal.now.entries in
    let node = c.at_node-node.result.0 in
    let at = event_of c.at_node-node.result.1 in
    let acts = c.step.new.out.acts in
    let new = c.step.new.self in
    let rounds : c.self.inside.rounds ≡ c.args.self.now.rounds = ap (λ (w : State). w.rounds) c.self.view_is in
    let acted = subst (λ (w : State). (i : List Entry) → Stand (nodes_of w) i → Acted node at i (nodes_of w) new acts) c.self.view_is c.in_ok-step.ensures.acted in
    let round : c.self.inside.rounds + 1 ≡ suc c.args.self.now.rounds = omega (arith, rounds) in
    let is = c.journal_acts.ensures.entries ∙ ap (push (c.self.inside.rounds + 1) node acts) c.in_ok-reserve.ensures.entries ∙ ap (λ (r : ℕ). push r node acts j) round in
    λ d since. since_event d c.args.self.now _ node at acts j c.journal_acts.new.journal.entries since c.requires.own.placed.past (happens_still c.args.event.now _ _ _ _ c.at_node-node.ensures.happens).1
    (acted j c.requires.own.stand) (c.step.ensures.domain ∙ ap (λ (w : State). w.domain) c.self.view_is) is

pub step-requires-clause-still : goal.step-requires-clause-still
step-requires-clause-still c = stays (event_of c.at_node-node.result.1) (happens_still c.args.event.now _ _ _ _ c.at_node-node.ensures.happens).1

pub returns-in_err-step-clause-since : goal.returns-in_err-step-clause-since
returns-in_err-step-clause-since c = λ d since.
    let old : State = record { domain = c.self.inside.nodes.domain; aps = c.self.inside.nodes.aps; stas = c.self.inside.nodes.stas; rows = c.self.inside.nodes.rows; frames = c.self.inside.frames.items; rounds = c.self.inside.rounds; usable = c.self.inside.usable } in
    still_since d c.args.self.now _ c.args.journal.now.entries _ (world_before old c.args.self.now c.step.new.self c.reserve-2.new.self.items c.self.view_is c.in_err-step.ensures.same c.reserve-2.ensures.items) c.in_ok-reserve.ensures.entries since

pub step-requires-clause-form : goal.step-requires-clause-form
step-requires-clause-form c = subst (λ (w : State). InForm w.domain) (sym c.self.view_is) c.requires.own.form

pub returns-clause-rounds : goal.returns-clause-rounds
returns-clause-rounds c =
    let rounds : c.self.inside.rounds ≡ c.args.self.now.rounds = ap (λ (w : State). w.rounds) c.self.view_is in
    omega (arith, rounds)

pub returns-clause-domain : goal.returns-clause-domain
returns-clause-domain c = c.step.ensures.domain ∙ ap (λ (w : State). w.domain) c.self.view_is

pub at_node-node-requires-clause-placed : goal.at_node-node-requires-clause-placed
at_node-node-requires-clause-placed c =
    let old : State = record { domain = c.self.inside.nodes.domain; aps = c.self.inside.nodes.aps; stas = c.self.inside.nodes.stas; rows = c.self.inside.nodes.rows; frames = c.self.inside.frames.items; rounds = c.self.inside.rounds; usable = c.self.inside.usable } in
    placed_before old c.args.self.now c.reserve-2.new.self.items c.args.journal.now.entries c.reserve.new.self.entries c.self.view_is c.reserve-2.ensures.items c.in_ok-reserve.ensures.entries c.requires.own.placed

pub at_node-node-requires-clause-event : goal.at_node-node-requires-clause-event
at_node-node-requires-clause-event c =
    let old : State = record { domain = c.self.inside.nodes.domain; aps = c.self.inside.nodes.aps; stas = c.self.inside.nodes.stas; rows = c.self.inside.nodes.rows; frames = c.self.inside.frames.items; rounds = c.self.inside.rounds; usable = c.self.inside.usable } in
    event_before old c.args.self.now c.reserve-2.new.self.items c.args.journal.now.entries c.reserve.new.self.entries c.args.event.now c.self.view_is c.reserve-2.ensures.items c.in_ok-reserve.ensures.entries c.requires.event

pub at_node-node-requires-clause-changed : goal.at_node-node-requires-clause-changed
at_node-node-requires-clause-changed c =
    let j = c.args.journal.now.entries in
    subst (λ (i : List Entry). IsChanged c.args.event.now i (suc c.self.inside.rounds) c.as_slice.result.now) (sym c.in_ok-reserve.ensures.entries)
    (subst (λ (w : State). IsChanged c.args.event.now j (suc w.rounds) c.as_slice.result.now) (sym c.self.view_is)
    (subst (IsChanged c.args.event.now j (suc c.args.self.now.rounds)) (sym c.as_slice.ensures.value) c.in_ok-changed.ensures))

pub journal_acts-requires-clause-noted : goal.journal_acts-requires-clause-noted
journal_acts-requires-clause-noted c = c.reserve-2.ensures.items ∙ ap (λ (w : State). w.frames) c.self.view_is ∙ c.requires.own.placed.places ∙ ap places (sym c.in_ok-reserve.ensures.entries)

pub returns-in_err-step-clause-own : goal.returns-in_err-step-clause-own
returns-in_err-step-clause-own c =
    let old : State = record { domain = c.self.inside.nodes.domain; aps = c.self.inside.nodes.aps; stas = c.self.inside.nodes.stas; rows = c.self.inside.nodes.rows; frames = c.self.inside.frames.items; rounds = c.self.inside.rounds; usable = c.self.inside.usable } in
    own_before old c.args.self.now c.step.new.self c.reserve-2.new.self.items c.args.journal.now.entries c.reserve.new.self.entries c.self.view_is c.in_err-step.ensures.same c.reserve-2.ensures.items c.in_ok-reserve.ensures.entries c.requires.own

pub returns-in_err-step-clause-same : goal.returns-in_err-step-clause-same
returns-in_err-step-clause-same c =
    let old : State = record { domain = c.self.inside.nodes.domain; aps = c.self.inside.nodes.aps; stas = c.self.inside.nodes.stas; rows = c.self.inside.nodes.rows; frames = c.self.inside.frames.items; rounds = c.self.inside.rounds; usable = c.self.inside.usable } in
    on_err c.from_residual-in_err-step.result _ (world_before old c.args.self.now c.step.new.self c.reserve-2.new.self.items c.self.view_is c.in_err-step.ensures.same c.reserve-2.ensures.items)

pub returns-in_err-step-clause-domain : goal.returns-in_err-step-clause-domain
returns-in_err-step-clause-domain c = c.step.ensures.domain ∙ ap (λ (w : State). w.domain) c.self.view_is

pub overflow_add-round : goal.overflow_add-round
overflow_add-round c =
    let rounds : c.self.inside.rounds ≡ c.args.self.now.rounds = ap (λ (w : State). w.rounds) c.self.view_is in
    omega (arith, rounds, c.requires.few)
