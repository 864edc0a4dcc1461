use Rattle.std.proofs.Common.{◌≡◌, ℕ, length, List, refl, sym, ap, subst, ◌∙◌}
use Rattle.std.specs.Prelude.{slice_set}
use Rattle.domain_base.specs.declared.names.Node.{Node}
use Rattle.domain_base.specs.declared.names.Node.TheVariants.{Ap, Sta}
use Rattle.run_journal.specs.declared.acts.Entry.{Entry}
use Rattle.key_holders.specs.Rows.{is_in}
use Rattle.holder_table.specs.Histories.{held_at}
use Rattle.domain_rules.specs.Network.{InForm}
use Rattle.node_base.specs.Events.{event_of}
use Rattle.domain_world.specs.State.{Nodes, rows_below}
use Rattle.domain_world.specs.Holding.{seen_of}
use Rattle.domain_world.specs.Owning.{Stand}
use Rattle.domain_world.specs.Acting.{Acted}
use Rattle.domain_world.proofs.Standing.{with_ap_node, with_station_node, listed_ap, listed_sta, at_ap, at_sta}
use Rattle.domain_world.proofs.Running.{on_ok, both_err}
use Rattle.domain_world.proofs.Stilled.{still_station}
use Rattle.domain_world.proofs.Turns.{LeavesAll, acted_ap, acted_sta, unchanged}
use Rattle.domain_world.proofs.Stepping.{below_ap, number_ap, low_ap, event_ap, below_sta, number_sta, low_sta, event_sta, station_listed, station_same, on_err, none_closed}
use Rattle.domain_world.proofs.nodes.Nodes.step.Goals as goal

pub invariant_of-self-in-Ap : goal.invariant_of-self-in-Ap
invariant_of-self-in-Ap c =
    let old : Nodes = record { domain = c.self.inside.domain; aps = c.self.inside.aps.items; stas = c.self.inside.stas.items; rows = rows_below (length c.self.inside.aps.items) (seen_of c.self.inside.holders) } in
    let k = c.from.result in
    let node : Ap k ≡ c.args.node = ap (λ (i : ℕ). Ap i) c.from.ensures ∙ sym c.in-Ap.is in
    let low = below_ap old c.args.self.now k c.args.node c.self.view_is node c.requires.listed in
    let at = at_ap old k c.index_mut-ap.result.now c.self.invariant.0 low c.index_mut-ap.ensures.value in
    let number = c.self.invariant.0.aps k c.index_mut-ap.result.now at in
    (listed_ap old k c.turn_alone-shared.new.ap _ c.self.invariant.0 (c.turn_alone-shared.ensures.number ∙ number), (c.turn_alone-shared.ensures.still.0 ∙ c.in_ok-shared-in-Ap.ensures.held.0, λ r l. ap (is_in r) c.turn_alone-shared.ensures.still.1 ∙ c.in_ok-shared-in-Ap.ensures.held.1 r l))

pub returns-in_ok-shared-in-Ap-clause-listed : goal.returns-in_ok-shared-in-Ap-clause-listed
returns-in_ok-shared-in-Ap-clause-listed c =
    let old : Nodes = record { domain = c.self.inside.domain; aps = c.self.inside.aps.items; stas = c.self.inside.stas.items; rows = rows_below (length c.self.inside.aps.items) (seen_of c.self.inside.holders) } in
    let k = c.from.result in
    let node : Ap k ≡ c.args.node = ap (λ (i : ℕ). Ap i) c.from.ensures ∙ sym c.in-Ap.is in
    let low = below_ap old c.args.self.now k c.args.node c.self.view_is node c.requires.listed in
    let at = at_ap old k c.index_mut-ap.result.now c.self.invariant.0 low c.index_mut-ap.ensures.value in
    let number = c.self.invariant.0.aps k c.index_mut-ap.result.now at in
    listed_ap old k c.turn_alone-shared.new.ap _ c.self.invariant.0 (c.turn_alone-shared.ensures.number ∙ number)

pub returns-in_ok-shared-in-Ap-clause-acted : goal.returns-in_ok-shared-in-Ap-clause-acted
returns-in_ok-shared-in-Ap-clause-acted c =
    let old : Nodes = record { domain = c.self.inside.domain; aps = c.self.inside.aps.items; stas = c.self.inside.stas.items; rows = rows_below (length c.self.inside.aps.items) (seen_of c.self.inside.holders) } in
    let k = c.from.result in
    let node : Ap k ≡ c.args.node = ap (λ (i : ℕ). Ap i) c.from.ensures ∙ sym c.in-Ap.is in
    let low = below_ap old c.args.self.now k c.args.node c.self.view_is node c.requires.listed in
    let at = at_ap old k c.index_mut-ap.result.now c.self.invariant.0 low c.index_mut-ap.ensures.value in
    let number = c.self.invariant.0.aps k c.index_mut-ap.result.now at in
    let begun = c.in_ok-shared-in-Ap.shared.pass.knows.seen in
    let done = c.turn_alone-shared.result.0.pass.knows.seen in
    let rows : old.rows ≡ rows_below (length old.aps) begun = ap (rows_below (length old.aps)) (sym c.in_ok-shared-in-Ap.ensures.seen) in
    let event = event_of c.args.event.now in
    let acts = c.turn_alone-shared.new.out.acts in
    let new = with_ap_node old k c.turn_alone-shared.new.ap (rows_below (length (slice_set old.aps k c.turn_alone-shared.new.ap)) done) in
    let form = subst (λ (n : Nodes). InForm n.domain) (sym c.self.view_is) c.requires.form in
    on_ok c.turn_alone-shared.result.1 _ _
    (λ turned. subst (λ (n : Nodes). (j : List Entry) → Stand n j → Acted c.args.node event j n new acts) c.self.view_is
    (λ j is. subst (λ (m : Node). Acted m event j old new acts) node
    (acted_ap old begun done k c.index_mut-ap.result.now c.turn_alone-shared.new.ap event acts j form c.self.invariant.0 rows low c.index_mut-ap.ensures.value c.turn_alone-shared.ensures.number turned
    (λ r other l. c.turn_alone-shared.ensures.others r other (c.in_ok-shared-in-Ap.ensures.held.1 r l)) is)))
    c.turn_alone-shared.ensures.turned

pub returns-in_ok-shared-in-Ap-clause-same : goal.returns-in_ok-shared-in-Ap-clause-same
returns-in_ok-shared-in-Ap-clause-same c =
    let old : Nodes = record { domain = c.self.inside.domain; aps = c.self.inside.aps.items; stas = c.self.inside.stas.items; rows = rows_below (length c.self.inside.aps.items) (seen_of c.self.inside.holders) } in
    let k = c.from.result in
    let node : Ap k ≡ c.args.node = ap (λ (i : ℕ). Ap i) c.from.ensures ∙ sym c.in-Ap.is in
    let low = below_ap old c.args.self.now k c.args.node c.self.view_is node c.requires.listed in
    let at = at_ap old k c.index_mut-ap.result.now c.self.invariant.0 low c.index_mut-ap.ensures.value in
    let number = c.self.invariant.0.aps k c.index_mut-ap.result.now at in
    let begun = c.in_ok-shared-in-Ap.shared.pass.knows.seen in
    let done = c.turn_alone-shared.result.0.pass.knows.seen in
    let rows : old.rows ≡ rows_below (length old.aps) begun = ap (rows_below (length old.aps)) (sym c.in_ok-shared-in-Ap.ensures.seen) in
    let leaves : LeavesAll old k begun done = subst (λ i. LeavesAll old i begun done) number (λ r other l. c.turn_alone-shared.ensures.others r other (c.in_ok-shared-in-Ap.ensures.held.1 r l)) in
    both_err c.turn_alone-shared.result.1 _ _ _
    (λ same own. unchanged old begun done k c.index_mut-ap.result.now c.turn_alone-shared.new.ap c.self.invariant.0 rows c.index_mut-ap.ensures.value same leaves
    (subst (λ i. held_at i done ≡ held_at i begun) number own) ∙ c.self.view_is)
    c.turn_alone-shared.ensures.same c.turn_alone-shared.ensures.same_rows

pub step_station-requires-clause-listed : goal.step_station-requires-clause-listed
step_station-requires-clause-listed c =
    let old : Nodes = record { domain = c.self.inside.domain; aps = c.self.inside.aps.items; stas = c.self.inside.stas.items; rows = rows_below (length c.self.inside.aps.items) (seen_of c.self.inside.holders) } in
    let k = c.from-in-Sta.result in
    let node : Sta k ≡ c.args.node = ap (λ (i : ℕ). Sta i) c.from-in-Sta.ensures ∙ sym c.in-Sta.is in
    let low = below_sta old c.args.self.now k c.args.node c.self.view_is node c.requires.listed in
    low_sta old k c.index_mut-station.result.now c.self.invariant.0 low c.index_mut-station.ensures.value

pub invariant_of-self-in-Sta : goal.invariant_of-self-in-Sta
invariant_of-self-in-Sta c =
    let old : Nodes = record { domain = c.self.inside.domain; aps = c.self.inside.aps.items; stas = c.self.inside.stas.items; rows = rows_below (length c.self.inside.aps.items) (seen_of c.self.inside.holders) } in
    let k = c.from-in-Sta.result in
    let node : Sta k ≡ c.args.node = ap (λ (i : ℕ). Sta i) c.from-in-Sta.ensures ∙ sym c.in-Sta.is in
    let low = below_sta old c.args.self.now k c.args.node c.self.view_is node c.requires.listed in
    let at = at_sta old k c.index_mut-station.result.now c.self.invariant.0 low c.index_mut-station.ensures.value in
    let listed = listed_sta old k c.step_station.new.station c.self.invariant.0 (c.step_station.ensures.number ∙ c.self.invariant.0.stas k c.index_mut-station.result.now at) in
    (record { count_aps = listed.count_aps; count_stas = listed.count_stas; aps = listed.aps; stas = listed.stas }, c.self.invariant.1)

pub returns-in_ok-step_station-in-Sta-clause-listed : goal.returns-in_ok-step_station-in-Sta-clause-listed
returns-in_ok-step_station-in-Sta-clause-listed c =
    let old : Nodes = record { domain = c.self.inside.domain; aps = c.self.inside.aps.items; stas = c.self.inside.stas.items; rows = rows_below (length c.self.inside.aps.items) (seen_of c.self.inside.holders) } in
    let k = c.from-in-Sta.result in
    let node : Sta k ≡ c.args.node = ap (λ (i : ℕ). Sta i) c.from-in-Sta.ensures ∙ sym c.in-Sta.is in
    let low = below_sta old c.args.self.now k c.args.node c.self.view_is node c.requires.listed in
    let at = at_sta old k c.index_mut-station.result.now c.self.invariant.0 low c.index_mut-station.ensures.value in
    let listed = listed_sta old k c.step_station.new.station c.self.invariant.0 (c.step_station.ensures.number ∙ c.self.invariant.0.stas k c.index_mut-station.result.now at) in
    record { count_aps = listed.count_aps; count_stas = listed.count_stas; aps = listed.aps; stas = listed.stas }

pub returns-in_ok-step_station-in-Sta-clause-acted : goal.returns-in_ok-step_station-in-Sta-clause-acted
returns-in_ok-step_station-in-Sta-clause-acted c =
    let old : Nodes = record { domain = c.self.inside.domain; aps = c.self.inside.aps.items; stas = c.self.inside.stas.items; rows = rows_below (length c.self.inside.aps.items) (seen_of c.self.inside.holders) } in
    let k = c.from-in-Sta.result in
    let node : Sta k ≡ c.args.node = ap (λ (i : ℕ). Sta i) c.from-in-Sta.ensures ∙ sym c.in-Sta.is in
    let low = below_sta old c.args.self.now k c.args.node c.self.view_is node c.requires.listed in
    let at = at_sta old k c.index_mut-station.result.now c.self.invariant.0 low c.index_mut-station.ensures.value in
    let event = event_of c.args.event.now in
    let acts = c.step_station.new.out.acts in
    subst (λ (n : Nodes). (j : List Entry) → Stand n j → Acted c.args.node event j n (with_station_node old k c.step_station.new.station) acts) c.self.view_is (λ j is.
    subst (λ (m : Node). Acted m event j old (with_station_node old k c.step_station.new.station) acts) node
    (acted_sta old k c.index_mut-station.result.now c.step_station.new.station event c.args.out.now.acts acts c.in_ok-step_station-in-Sta.field-0 j c.self.invariant.0 low c.index_mut-station.ensures.value c.requires.waiting
    (still_station old.domain event c.index_mut-station.result.now c.step_station.new.station c.args.out.now.acts acts c.in_ok-step_station-in-Sta.field-0 c.requires.still c.in_ok-step_station-in-Sta.ensures.steps) is))

pub held-requires-clause-form : goal.held-requires-clause-form
held-requires-clause-form c = subst (λ (n : Nodes). InForm n.domain) (sym c.self.view_is) c.requires.form

pub turn_alone-shared-requires-clause-form : goal.turn_alone-shared-requires-clause-form
turn_alone-shared-requires-clause-form c = subst (λ (n : Nodes). InForm n.domain) (sym c.self.view_is) c.requires.form

pub step_station-requires-clause-form : goal.step_station-requires-clause-form
step_station-requires-clause-form c = subst (λ (n : Nodes). InForm n.domain) (sym c.self.view_is) c.requires.form

pub returns-in_ok-shared-in-Ap-clause-domain : goal.returns-in_ok-shared-in-Ap-clause-domain
returns-in_ok-shared-in-Ap-clause-domain c = ap (λ (n : Nodes). n.domain) c.self.view_is

pub returns-in_ok-step_station-in-Sta-clause-domain : goal.returns-in_ok-step_station-in-Sta-clause-domain
returns-in_ok-step_station-in-Sta-clause-domain c = ap (λ (n : Nodes). n.domain) c.self.view_is

pub returns-in_err-step_station-in-Sta-clause-domain : goal.returns-in_err-step_station-in-Sta-clause-domain
returns-in_err-step_station-in-Sta-clause-domain c = ap (λ (n : Nodes). n.domain) c.self.view_is

pub turn_alone-shared-requires-clause-listed : goal.turn_alone-shared-requires-clause-listed
turn_alone-shared-requires-clause-listed c =
    let old : Nodes = record { domain = c.self.inside.domain; aps = c.self.inside.aps.items; stas = c.self.inside.stas.items; rows = rows_below (length c.self.inside.aps.items) (seen_of c.self.inside.holders) } in
    let k = c.from.result in
    let node : Ap k ≡ c.args.node = ap (λ (i : ℕ). Ap i) c.from.ensures ∙ sym c.in-Ap.is in
    let low = below_ap old c.args.self.now k c.args.node c.self.view_is node c.requires.listed in
    low_ap old k c.index_mut-ap.result.now c.self.invariant.0 low c.index_mut-ap.ensures.value

pub turn_alone-shared-requires-clause-has : goal.turn_alone-shared-requires-clause-has
turn_alone-shared-requires-clause-has c =
    let old : Nodes = record { domain = c.self.inside.domain; aps = c.self.inside.aps.items; stas = c.self.inside.stas.items; rows = rows_below (length c.self.inside.aps.items) (seen_of c.self.inside.holders) } in
    let k = c.from.result in
    let node : Ap k ≡ c.args.node = ap (λ (i : ℕ). Ap i) c.from.ensures ∙ sym c.in-Ap.is in
    let low = below_ap old c.args.self.now k c.args.node c.self.view_is node c.requires.listed in
    c.in_ok-shared-in-Ap.ensures.held.1 c.index_mut-ap.result.now.number (low_ap old k c.index_mut-ap.result.now c.self.invariant.0 low c.index_mut-ap.ensures.value)

pub turn_alone-shared-requires-clause-event : goal.turn_alone-shared-requires-clause-event
turn_alone-shared-requires-clause-event c =
    let old : Nodes = record { domain = c.self.inside.domain; aps = c.self.inside.aps.items; stas = c.self.inside.stas.items; rows = rows_below (length c.self.inside.aps.items) (seen_of c.self.inside.holders) } in
    let k = c.from.result in
    let node : Ap k ≡ c.args.node = ap (λ (i : ℕ). Ap i) c.from.ensures ∙ sym c.in-Ap.is in
    let low = below_ap old c.args.self.now k c.args.node c.self.view_is node c.requires.listed in
    event_ap old c.args.self.now k c.index_mut-ap.result.now c.args.node (event_of c.args.event.now) c.self.view_is node (number_ap old k c.index_mut-ap.result.now c.self.invariant.0 low c.index_mut-ap.ensures.value) c.requires.event

pub step_station-requires-clause-event : goal.step_station-requires-clause-event
step_station-requires-clause-event c =
    let old : Nodes = record { domain = c.self.inside.domain; aps = c.self.inside.aps.items; stas = c.self.inside.stas.items; rows = rows_below (length c.self.inside.aps.items) (seen_of c.self.inside.holders) } in
    let k = c.from-in-Sta.result in
    let node : Sta k ≡ c.args.node = ap (λ (i : ℕ). Sta i) c.from-in-Sta.ensures ∙ sym c.in-Sta.is in
    let low = below_sta old c.args.self.now k c.args.node c.self.view_is node c.requires.listed in
    event_sta old c.args.self.now k c.index_mut-station.result.now c.args.node (event_of c.args.event.now) c.self.view_is node (number_sta old k c.index_mut-station.result.now c.self.invariant.0 low c.index_mut-station.ensures.value) c.requires.event

pub invariant_of-self-in_err-step_station-in-Sta : goal.invariant_of-self-in_err-step_station-in-Sta
invariant_of-self-in_err-step_station-in-Sta c =
    let old : Nodes = record { domain = c.self.inside.domain; aps = c.self.inside.aps.items; stas = c.self.inside.stas.items; rows = rows_below (length c.self.inside.aps.items) (seen_of c.self.inside.holders) } in
    let k = c.from-in-Sta.result in
    let node : Sta k ≡ c.args.node = ap (λ (i : ℕ). Sta i) c.from-in-Sta.ensures ∙ sym c.in-Sta.is in
    let low = below_sta old c.args.self.now k c.args.node c.self.view_is node c.requires.listed in
    (station_listed old k c.index_mut-station.result.now c.step_station.new.station _ c.self.invariant.0 low c.index_mut-station.ensures.value c.step_station.ensures.number, c.self.invariant.1)

pub returns-in_err-step_station-in-Sta-clause-listed : goal.returns-in_err-step_station-in-Sta-clause-listed
returns-in_err-step_station-in-Sta-clause-listed c =
    let old : Nodes = record { domain = c.self.inside.domain; aps = c.self.inside.aps.items; stas = c.self.inside.stas.items; rows = rows_below (length c.self.inside.aps.items) (seen_of c.self.inside.holders) } in
    let k = c.from-in-Sta.result in
    let node : Sta k ≡ c.args.node = ap (λ (i : ℕ). Sta i) c.from-in-Sta.ensures ∙ sym c.in-Sta.is in
    let low = below_sta old c.args.self.now k c.args.node c.self.view_is node c.requires.listed in
    station_listed old k c.index_mut-station.result.now c.step_station.new.station _ c.self.invariant.0 low c.index_mut-station.ensures.value c.step_station.ensures.number

pub returns-in_err-step_station-in-Sta-clause-same : goal.returns-in_err-step_station-in-Sta-clause-same
returns-in_err-step_station-in-Sta-clause-same c =
    let old : Nodes = record { domain = c.self.inside.domain; aps = c.self.inside.aps.items; stas = c.self.inside.stas.items; rows = rows_below (length c.self.inside.aps.items) (seen_of c.self.inside.holders) } in
    on_err c.from_residual-in_err-step_station-in-Sta.result _
    (station_same old c.args.self.now c.from-in-Sta.result c.index_mut-station.result.now c.step_station.new.station _ c.self.view_is c.index_mut-station.ensures.value refl c.in_err-step_station-in-Sta.ensures.same)

pub returns-in_err-step_station-in-Sta-clause-kept : goal.returns-in_err-step_station-in-Sta-clause-kept
returns-in_err-step_station-in-Sta-clause-kept c = on_err c.from_residual-in_err-step_station-in-Sta.result _ (c.in_err-step_station-in-Sta.ensures.kept ∙ c.requires.waiting)

pub invariant_of-self : goal.invariant_of-self
invariant_of-self c = none_closed c.self.inside.domain c.self.inside.aps.items c.self.inside.stas.items c.self.inside.holders _ c.held.ensures.taken c.self.invariant
