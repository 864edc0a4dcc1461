use Rattle.std.proofs.Common.{◌≡◌, ◌≤◌, ◌+◌, ◌∙◌, ℕ, List, length, sym, ap, subst, arith}
use Rattle.std.proofs.lemmas.Option.{slice_get_within}
use Rattle.domain_base.specs.declared.names.Node.TheVariants.{Ap, Sta}
use Rattle.run_journal.specs.declared.domain.Domain.{Domain}
use Rattle.run_journal.specs.declared.domain.ListedSta.{ListedSta}
use Rattle.run_journal.specs.declared.acts.Entry.{Entry}
use Rattle.run_journal.specs.Changed.{changed}
use Rattle.run_journal.specs.Events.{NamesSta}
use Rattle.run_journal.specs.Questions.{history}
use Rattle.domain_rules.specs.Network.{InForm}
use Rattle.key_holders.specs.declared.rows.HeldRow.{HeldRow}
use Rattle.key_holders.specs.Listed.{rows_at}
use Rattle.holder_table.specs.declared.history.HolderEvent.{HolderEvent}
use Rattle.ap_node.specs.Stands.{StandsWith as ApStands}
use Rattle.station_node.specs.Stands.{Stands as StationStands}
use Rattle.domain_world.specs.Changing.{KeyChange, ApsSo, ApsStand, StasStand, AreChanged, count_named, room_of}
use Rattle.domain_world.specs.Holding.{seen_of}
use Rattle.domain_world.specs.Owning.{AreListed, Stand}
use Rattle.domain_world.specs.State.{Nodes, rows_below}
use Rattle.domain_world.proofs.ChangingNodes.{are_changed, still_listed, room_more}
use Rattle.domain_world.proofs.Standing.{below_at}
use Rattle.domain_world.proofs.Stepping.{none_closed}
use Rattle.domain_world.proofs.nodes.Nodes.change.Goals as goal

-- ---- how much room there is

pub room-most-requires-clause-form : goal.room-most-requires-clause-form
room-most-requires-clause-form c = subst (λ (n : Nodes). InForm n.domain) (sym c.self.view_is) c.requires.form

pub room-most-requires-clause-aps : goal.room-most-requires-clause-aps
room-most-requires-clause-aps c =
    let form : InForm c.self.inside.domain = subst (λ (n : Nodes). InForm n.domain) (sym c.self.view_is) c.requires.form in
    omega (arith, form.few_aps, c.self.invariant.0.count_aps, c.len-aps.ensures, c.self.inside.aps.ok.0)

pub room-most-requires-clause-stas : goal.room-most-requires-clause-stas
room-most-requires-clause-stas c =
    let form : InForm c.self.inside.domain = subst (λ (n : Nodes). InForm n.domain) (sym c.self.view_is) c.requires.form in
    omega (arith, form.few_stas, c.self.invariant.0.count_stas, c.len-stas.ensures, c.self.inside.stas.ok.0)

-- for access points, and for stations beside them
for_aps : (d : Domain) (most a b n m : ℕ) → most ≡ room_of d (a + b) → a ≡ n → b ≡ m → (room_of d n ≤ most) × (room_of d n + room_of d m ≡ most)
for_aps d most a b n m is first second =
    let all : most ≡ room_of d n + room_of d m = is ∙ ap (λ (k : ℕ). room_of d (k + b)) first ∙ ap (λ (k : ℕ). room_of d (n + k)) second ∙ room_more d n m in
    (omega (arith, all), sym all)

-- ---- what was done

-- each access point stands with the rows that the pass has seen
aps_stand : (n : Nodes) (seen : List HolderEvent) (j : List Entry) → n.rows ≡ rows_below (length n.aps) seen → Stand n j → ApsStand n.domain n.aps seen j
aps_stand n seen j rows stand i s at =
    subst (λ (xs : List HeldRow). ApStands n.domain 0 s xs (history (Ap i) j)) (ap (λ (l : List (List HeldRow)). rows_at l i) rows ∙ below_at (length n.aps) i seen (slice_get_within n.aps i s at)) (stand.aps i s at)

-- behind access points a station's part of the journal is as it was
stas_stand : (n : Nodes) (i j : List Entry) → Stand n j → ((k : ℕ) → history (Sta k) i ≡ history (Sta k) j) → StasStand n.domain n.stas i
stas_stand n i j stand same k s at = subst (StationStands n.domain 0 s) (sym (same k)) (stand.stas k s at)

pub returns-clause-changed : goal.returns-clause-changed
returns-clause-changed c =
    let old : Nodes = record { domain = c.self.inside.domain; aps = c.self.inside.aps.items; stas = c.self.inside.stas.items; rows = rows_below (length c.self.inside.aps.items) (seen_of c.self.inside.holders) } in
    let x : KeyChange = record { round = c.args.round; named = c.args.sta; psk = c.args.psk.now } in
    let j = c.args.journal.now.entries in
    let k = c.change_stas.new.journal.entries in
    let aps = c.change_aps-shared.new.aps.items in
    let stas = c.change_stas.new.stas.items in
    let before = c.in_ok-shared.shared.pass.knows.seen in
    let behind = c.change_aps-shared.result.pass.knows.seen in
    let stand = subst (λ (n : Nodes). Stand n j) (sym c.self.view_is) c.requires.stand in
    let names = subst (λ (n : Nodes). NamesSta n.domain c.args.sta) (sym c.self.view_is) c.requires.sta in
    let so = subst (λ (i : List Entry). ApsSo old.domain x (length old.aps) old.aps aps before behind i c.change_aps-shared.new.journal.entries) c.in_ok-reserve.ensures.entries c.change_aps-shared.ensures.changed in
    let same : record old.domain { stas = c.change_keys.new.self } ≡ changed old.domain x.named x.psk = ap (λ (l : List ListedSta). record old.domain { stas = l }) c.change_keys.ensures in
    subst (λ (n : Nodes). AreChanged x n (record { domain = record old.domain { stas = c.change_keys.new.self }; aps = aps; stas = stas; rows = rows_below (length aps) behind }) j k) c.self.view_is
    (subst (λ (d : Domain). AreChanged x old (record { domain = d; aps = aps; stas = stas; rows = rows_below (length aps) behind }) j k) (sym same)
    (are_changed old x aps stas before behind j c.change_aps-shared.new.journal.entries k c.self.invariant.0 names stand so c.change_stas.ensures.changed))

pub returns-clause-listed : goal.returns-clause-listed
returns-clause-listed c =
    let old : Nodes = record { domain = c.self.inside.domain; aps = c.self.inside.aps.items; stas = c.self.inside.stas.items; rows = rows_below (length c.self.inside.aps.items) (seen_of c.self.inside.holders) } in
    let x : KeyChange = record { round = c.args.round; named = c.args.sta; psk = c.args.psk.now } in
    let aps = c.change_aps-shared.new.aps.items in
    let stas = c.change_stas.new.stas.items in
    let rows = rows_below (length aps) c.change_aps-shared.result.pass.knows.seen in
    let same : record old.domain { stas = c.change_keys.new.self } ≡ changed old.domain x.named x.psk = ap (λ (l : List ListedSta). record old.domain { stas = l }) c.change_keys.ensures in
    subst (λ (d : Domain). AreListed (record { domain = d; aps = aps; stas = stas; rows = rows })) (sym same)
    (still_listed old x aps stas rows c.self.invariant.0 c.change_aps-shared.ensures.changed.count c.change_stas.ensures.changed.count c.change_aps-shared.ensures.numbered c.change_stas.ensures.numbered)

-- ---- at access points

pub held-requires-clause-form : goal.held-requires-clause-form
held-requires-clause-form c = subst (λ (n : Nodes). InForm n.domain) (sym c.self.view_is) c.requires.form

pub change_aps-shared-requires-clause-form : goal.change_aps-shared-requires-clause-form
change_aps-shared-requires-clause-form c = subst (λ (n : Nodes). InForm n.domain) (sym c.self.view_is) c.requires.form

pub change_aps-shared-requires-clause-sta : goal.change_aps-shared-requires-clause-sta
change_aps-shared-requires-clause-sta c = subst (λ (n : Nodes). NamesSta n.domain c.args.sta) (sym c.self.view_is) c.requires.sta

pub change_aps-shared-requires-clause-stand : goal.change_aps-shared-requires-clause-stand
change_aps-shared-requires-clause-stand c =
    let old : Nodes = record { domain = c.self.inside.domain; aps = c.self.inside.aps.items; stas = c.self.inside.stas.items; rows = rows_below (length c.self.inside.aps.items) (seen_of c.self.inside.holders) } in
    let stand = subst (λ (n : Nodes). Stand n c.args.journal.now.entries) (sym c.self.view_is) c.requires.stand in
    let rows : old.rows ≡ rows_below (length old.aps) c.in_ok-shared.shared.pass.knows.seen = ap (rows_below (length old.aps)) (sym c.in_ok-shared.ensures.seen) in
    subst (ApsStand old.domain old.aps c.in_ok-shared.shared.pass.knows.seen) (sym c.in_ok-reserve.ensures.entries) (aps_stand old c.in_ok-shared.shared.pass.knows.seen c.args.journal.now.entries rows stand)

pub change_aps-shared-requires-clause-waiting : goal.change_aps-shared-requires-clause-waiting
change_aps-shared-requires-clause-waiting c = c.reserve-3.ensures.acts ∙ c.requires.waiting

pub change_aps-shared-requires-clause-room : goal.change_aps-shared-requires-clause-room
change_aps-shared-requires-clause-room c =
    let aps : c.len-aps.result ≡ length c.self.inside.aps.items = omega (arith, c.len-aps.ensures, c.self.inside.aps.ok.0) in
    let stas : c.len-stas.result ≡ length c.self.inside.stas.items = omega (arith, c.len-stas.ensures, c.self.inside.stas.ok.0) in
    omega (arith, (for_aps c.self.inside.domain c.room-most.result c.len-aps.result (count_named c.args.sta c.len-stas.result) (length c.self.inside.aps.items) (count_named c.args.sta (length c.self.inside.stas.items)) c.room-most.ensures aps (ap (count_named c.args.sta) stas)).0, c.in_ok-reserve-3.ensures.spare)

pub change_aps-shared-requires-clause-entries : goal.change_aps-shared-requires-clause-entries
change_aps-shared-requires-clause-entries c =
    let aps : c.len-aps.result ≡ length c.self.inside.aps.items = omega (arith, c.len-aps.ensures, c.self.inside.aps.ok.0) in
    let stas : c.len-stas.result ≡ length c.self.inside.stas.items = omega (arith, c.len-stas.ensures, c.self.inside.stas.ok.0) in
    omega (arith, (for_aps c.self.inside.domain c.room-most.result c.len-aps.result (count_named c.args.sta c.len-stas.result) (length c.self.inside.aps.items) (count_named c.args.sta (length c.self.inside.stas.items)) c.room-most.ensures aps (ap (count_named c.args.sta) stas)).0, c.in_ok-reserve.ensures.spare)

pub change_aps-shared-requires-clause-places : goal.change_aps-shared-requires-clause-places
change_aps-shared-requires-clause-places c =
    let aps : c.len-aps.result ≡ length c.self.inside.aps.items = omega (arith, c.len-aps.ensures, c.self.inside.aps.ok.0) in
    let stas : c.len-stas.result ≡ length c.self.inside.stas.items = omega (arith, c.len-stas.ensures, c.self.inside.stas.ok.0) in
    omega (arith, (for_aps c.self.inside.domain c.room-most.result c.len-aps.result (count_named c.args.sta c.len-stas.result) (length c.self.inside.aps.items) (count_named c.args.sta (length c.self.inside.stas.items)) c.room-most.ensures aps (ap (count_named c.args.sta) stas)).0, c.in_ok-reserve-2.ensures.ok)

pub change_aps-shared-requires-clause-noted : goal.change_aps-shared-requires-clause-noted
change_aps-shared-requires-clause-noted c = search (c.reserve-2.ensures.items, c.requires.noted, c.in_ok-reserve.ensures.entries)

-- ---- then at stations

pub change_stas-requires-clause-form : goal.change_stas-requires-clause-form
change_stas-requires-clause-form c = subst (λ (n : Nodes). InForm n.domain) (sym c.self.view_is) c.requires.form

pub change_stas-requires-clause-sta : goal.change_stas-requires-clause-sta
change_stas-requires-clause-sta c = subst (λ (n : Nodes). NamesSta n.domain c.args.sta) (sym c.self.view_is) c.requires.sta

pub change_stas-requires-clause-stand : goal.change_stas-requires-clause-stand
change_stas-requires-clause-stand c =
    let old : Nodes = record { domain = c.self.inside.domain; aps = c.self.inside.aps.items; stas = c.self.inside.stas.items; rows = rows_below (length c.self.inside.aps.items) (seen_of c.self.inside.holders) } in
    let stand = subst (λ (n : Nodes). Stand n c.args.journal.now.entries) (sym c.self.view_is) c.requires.stand in
    stas_stand old c.change_aps-shared.new.journal.entries c.args.journal.now.entries stand (λ k. c.change_aps-shared.ensures.changed.stations k ∙ ap (history (Sta k)) c.in_ok-reserve.ensures.entries)

pub change_stas-requires-clause-room : goal.change_stas-requires-clause-room
change_stas-requires-clause-room c =
    let aps : c.len-aps.result ≡ length c.self.inside.aps.items = omega (arith, c.len-aps.ensures, c.self.inside.aps.ok.0) in
    let stas : c.len-stas.result ≡ length c.self.inside.stas.items = omega (arith, c.len-stas.ensures, c.self.inside.stas.ok.0) in
    omega (arith, (for_aps c.self.inside.domain c.room-most.result c.len-aps.result (count_named c.args.sta c.len-stas.result) (length c.self.inside.aps.items) (count_named c.args.sta (length c.self.inside.stas.items)) c.room-most.ensures aps (ap (count_named c.args.sta) stas)).1, c.in_ok-reserve-3.ensures.spare, c.change_aps-shared.ensures.spare)

pub change_stas-requires-clause-entries : goal.change_stas-requires-clause-entries
change_stas-requires-clause-entries c =
    let aps : c.len-aps.result ≡ length c.self.inside.aps.items = omega (arith, c.len-aps.ensures, c.self.inside.aps.ok.0) in
    let stas : c.len-stas.result ≡ length c.self.inside.stas.items = omega (arith, c.len-stas.ensures, c.self.inside.stas.ok.0) in
    omega (arith, (for_aps c.self.inside.domain c.room-most.result c.len-aps.result (count_named c.args.sta c.len-stas.result) (length c.self.inside.aps.items) (count_named c.args.sta (length c.self.inside.stas.items)) c.room-most.ensures aps (ap (count_named c.args.sta) stas)).1, c.in_ok-reserve.ensures.spare, c.change_aps-shared.ensures.entries)

pub change_stas-requires-clause-places : goal.change_stas-requires-clause-places
change_stas-requires-clause-places c =
    let aps : c.len-aps.result ≡ length c.self.inside.aps.items = omega (arith, c.len-aps.ensures, c.self.inside.aps.ok.0) in
    let stas : c.len-stas.result ≡ length c.self.inside.stas.items = omega (arith, c.len-stas.ensures, c.self.inside.stas.ok.0) in
    omega (arith, (for_aps c.self.inside.domain c.room-most.result c.len-aps.result (count_named c.args.sta c.len-stas.result) (length c.self.inside.aps.items) (count_named c.args.sta (length c.self.inside.stas.items)) c.room-most.ensures aps (ap (count_named c.args.sta) stas)).1, c.in_ok-reserve-2.ensures.ok, c.change_aps-shared.ensures.places, c.change_aps-shared.ensures.capacity)

-- ---- where no key holders could be made

pub invariant_of-self : goal.invariant_of-self
invariant_of-self c = none_closed c.self.inside.domain c.self.inside.aps.items c.self.inside.stas.items c.self.inside.holders _ c.held.ensures.taken c.self.invariant

-- ---- at the end

pub invariant_of-self-2 : goal.invariant_of-self-2
invariant_of-self-2 c = (returns-clause-listed c, c.change_aps-shared.ensures.held)
