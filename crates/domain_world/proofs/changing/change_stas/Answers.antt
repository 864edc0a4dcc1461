use Rattle.std.proofs.Common.{◌≡◌, ◌<◌, ◌≤◌, ◌+◌, suc, ℕ, Option, List, true, false, length, refl, sym, ap, subst, ◌∙◌, arith, vec_len, vec_capacity}
use Rattle.std.specs.Prelude.{slice_set}
use Rattle.std.proofs.lemmas.Option.{slice_get_read}
use Rattle.run_journal.specs.declared.domain.Domain.{Domain}
use Rattle.run_journal.specs.declared.acts.Entry.{Entry}
use Rattle.run_journal.specs.Changed.{is_named}
use Rattle.domain_rules.specs.Network.{InForm}
use Rattle.node_base.specs.Changing.{most_changed}
use Rattle.station_node.specs.State.{State as StationState}
use Rattle.domain_world.specs.Changing.{StasSo, AreStations, change_of, count_below, count_named, room_of}
use Rattle.domain_world.specs.Owning.{places}
use Rattle.domain_world.proofs.ChangingNodes.{no_station_so, next_station, station_left, few_station, stations_set, room_next, room_low, count_low, count_next}
use Rattle.domain_world.proofs.changing.change_stas.Goals as goal
use Rattle.domain_world.proofs.changing.change_stas.Goals.{then-is_named, else-is_named}

pub loop-place-init : goal.loop-place-init
loop-place-init c = record {
  changed = no_station_so c.args.change.domain.now (change_of c.args.change) c.args.stas.now.items c.args.journal.now.entries;
  numbered = c.requires.numbered;
  waiting = c.requires.waiting;
  noted = c.requires.noted;
  spare = omega arith;
  entries = omega arith;
  places_left = omega arith;
  capacity = omega arith;
}

-- ---- one that is named

pub index_mut-station-requires : goal.index_mut-station-requires
index_mut-station-requires c = omega (arith, c.loop-place-test.true, c.len-place-end.ensures, c.loop-place.invariant.changed.count)

pub change_sta-requires-clause-listed : goal.change_sta-requires-clause-listed
change_sta-requires-clause-listed c =
    let l = c.loop-place.invariant in
    let n = c.loop-place.place in
    let mid = c.loop-place.stas.items in
    let within : n < length mid = omega (arith, c.loop-place-test.true, c.len-place-end.ensures, l.changed.count) in
    let number = l.numbered n c.index_mut-station.result.now (slice_get_read mid (length mid) n c.index_mut-station.result.now refl within c.index_mut-station.ensures.value) in
    omega (arith, number, within, l.changed.count, c.requires.listed)

pub change_sta-requires-clause-sta : goal.change_sta-requires-clause-sta
change_sta-requires-clause-sta c =
    let l = c.loop-place.invariant in
    let n = c.loop-place.place in
    let mid = c.loop-place.stas.items in
    let within : n < length mid = omega (arith, c.loop-place-test.true, c.len-place-end.ensures, l.changed.count) in
    let number = l.numbered n c.index_mut-station.result.now (slice_get_read mid (length mid) n c.index_mut-station.result.now refl within c.index_mut-station.ensures.value) in
    ap (is_named c.args.change.sta) number ∙ sym c.is_named.ensures ∙ c.if-is_named.true

small : (d : Domain) → InForm d → length d.stas < 65536
small d form = omega (arith, form.few_stas)

pub overflow_cast-node : goal.overflow_cast-node
overflow_cast-node c = omega (arith, c.loop-place-test.true, c.len-place-end.ensures, c.loop-place.invariant.changed.count, c.requires.listed, small c.args.change.domain.now c.requires.form)

-- there is room for one more that is named
left_room : (d : Domain) (named : Option ℕ) (n m : ℕ) → n < m → is_named named n ≡ true → room_of d (count_below named n) + most_changed (length d.stas) ≤ room_of d (count_named named m)
left_room d named n m low named_ =
    let one : count_below named n + 1 ≡ suc (count_below named n) = omega arith in
    omega (arith, room_low d (count_below named n + 1) (count_named named m) (count_low named n m low named_), room_next d (count_below named n) (count_below named n + 1) one)

pub change_sta-requires-clause-room : goal.change_sta-requires-clause-room
change_sta-requires-clause-room c =
    let l = c.loop-place.invariant in
    let low : c.loop-place.place < length c.args.stas.now.items = omega (arith, c.loop-place-test.true, c.len-place-end.ensures, l.changed.count) in
    omega (arith, left_room c.args.change.domain.now c.args.change.sta c.loop-place.place (length c.args.stas.now.items) low (sym c.is_named.ensures ∙ c.if-is_named.true), c.requires.room, l.spare)

pub journal_acts-requires-clause-room : goal.journal_acts-requires-clause-room
journal_acts-requires-clause-room c =
    let l = c.loop-place.invariant in
    let n = c.loop-place.place in
    let mid = c.loop-place.stas.items in
    let within : n < length mid = omega (arith, c.loop-place-test.true, c.len-place-end.ensures, l.changed.count) in
    let low : n < length c.args.stas.now.items = omega (arith, within, l.changed.count) in
    let old = c.index_mut-station.result.now in
    let at = slice_get_read mid (length mid) n old refl within c.index_mut-station.ensures.value in
    let few = few_station c.args.change.domain.now (change_of c.args.change) n c.args.stas.now.items mid c.args.journal.now.entries c.loop-place.journal.entries old c.change_sta.new.station c.change_sta.new.out.acts
    l.changed c.requires.stand at (l.numbered n old at) c.change_sta.ensures.changed in
    omega (arith, few, left_room c.args.change.domain.now c.args.change.sta n (length c.args.stas.now.items) low (sym c.is_named.ensures ∙ c.if-is_named.true), c.requires.entries, l.entries)

pub journal_acts-requires-clause-places : goal.journal_acts-requires-clause-places
journal_acts-requires-clause-places c =
    let l = c.loop-place.invariant in
    let n = c.loop-place.place in
    let mid = c.loop-place.stas.items in
    let within : n < length mid = omega (arith, c.loop-place-test.true, c.len-place-end.ensures, l.changed.count) in
    let low : n < length c.args.stas.now.items = omega (arith, within, l.changed.count) in
    let old = c.index_mut-station.result.now in
    let at = slice_get_read mid (length mid) n old refl within c.index_mut-station.ensures.value in
    let few = few_station c.args.change.domain.now (change_of c.args.change) n c.args.stas.now.items mid c.args.journal.now.entries c.loop-place.journal.entries old c.change_sta.new.station c.change_sta.new.out.acts
    l.changed c.requires.stand at (l.numbered n old at) c.change_sta.ensures.changed in
    omega (arith, few, left_room c.args.change.domain.now c.args.change.sta n (length c.args.stas.now.items) low (sym c.is_named.ensures ∙ c.if-is_named.true), c.requires.places, l.places_left, l.capacity)

-- ---- a station that is not named is as it was, and one that is did its part

pub loop-place-preserved : goal.loop-place-preserved
loop-place-preserved c = elim c.if-is_named.branch [
  | then-is_named w ↦
      let d = c.args.change.domain.now in
      let x = change_of c.args.change in
      let l = c.loop-place.invariant in
      let n = c.loop-place.place in
      let mid = c.loop-place.stas.items in
      let named_ = sym c.is_named.ensures ∙ w.if-is_named.true in
      let within : n < length mid = omega (arith, c.loop-place-test.true, c.len-place-end.ensures, l.changed.count) in
      let old = w.index_mut-station.result.now in
      let new = w.change_sta.new.station in
      let at = slice_get_read mid (length mid) n old refl within w.index_mut-station.ensures.value in
      let number = l.numbered n old at in
      let one : suc n ≡ n + 1 = omega arith in
      let acts = w.change_sta.new.out.acts in
      let next = next_station d x n c.args.stas.now.items mid c.args.journal.now.entries c.loop-place.journal.entries old new acts l.changed c.requires.stand named_ within at number w.change_sta.ensures.changed in
      let few = few_station d x n c.args.stas.now.items mid c.args.journal.now.entries c.loop-place.journal.entries old new acts l.changed c.requires.stand at number w.change_sta.ensures.changed in
      let counted : count_below x.named (n + 1) ≡ suc (count_below x.named n) = omega (arith, count_next x.named n (n + 1) true (sym one) named_) in
      let room = room_next d (count_below x.named n) (count_below x.named (n + 1)) counted in
      let so = subst (λ (m : ℕ). StasSo d x m c.args.stas.now.items (slice_set mid n new) c.args.journal.now.entries w.journal_acts.new.journal.entries) one
      (subst (StasSo d x (suc n) c.args.stas.now.items (slice_set mid n new) c.args.journal.now.entries) (sym w.journal_acts.ensures.entries) next) in
      let stas_are : c.if-is_named.stas.items ≡ slice_set mid n new = ap (λ v. v.items) w.stas-is in
      let spare_ : c.args.out.now.spare ≤ w.journal_acts.new.out.spare + room_of d (count_below x.named (n + 1)) = omega (arith, l.spare, w.change_sta.ensures.spare, w.journal_acts.ensures.spare, room) in
      let entries_ : c.args.journal.now.spare ≤ w.journal_acts.new.journal.spare + room_of d (count_below x.named (n + 1)) = omega (arith, l.entries, w.journal_acts.ensures.room, few, room) in
      let places_ : vec_len w.journal_acts.new.frames ≤ vec_len c.args.frames.now + room_of d (count_below x.named (n + 1)) = omega (arith, l.places_left, w.journal_acts.ensures.length, few, room) in
      let capacity_ : vec_capacity c.args.frames.now ≤ vec_capacity w.journal_acts.new.frames = omega (arith, l.capacity, w.journal_acts.ensures.capacity) in
      record {
        changed = subst (λ (stas : List StationState). StasSo d x (n + 1) c.args.stas.now.items stas c.args.journal.now.entries c.if-is_named.journal.entries) (sym stas_are)
            (subst (λ (j : List Entry). StasSo d x (n + 1) c.args.stas.now.items (slice_set mid n new) c.args.journal.now.entries j) (sym (ap (λ v. v.entries) w.journal-is)) so);
        numbered = subst AreStations (sym stas_are) (stations_set mid n new l.numbered (w.change_sta.ensures.number ∙ number));
        waiting = ap (λ v. v.acts) w.out-is ∙ w.journal_acts.ensures.out;
        noted = subst (λ f. f.items ≡ places c.if-is_named.journal.entries) (sym w.frames-is) (subst (λ v. w.journal_acts.new.frames.items ≡ places v.entries) (sym w.journal-is) w.journal_acts.ensures.noted);
        spare = subst (λ o. c.args.out.now.spare ≤ o.spare + room_of d (count_below x.named (n + 1))) (sym w.out-is) spare_;
        entries = subst (λ v. c.args.journal.now.spare ≤ v.spare + room_of d (count_below x.named (n + 1))) (sym w.journal-is) entries_;
        places_left = subst (λ f. vec_len f ≤ vec_len c.args.frames.now + room_of d (count_below x.named (n + 1))) (sym w.frames-is) places_;
        capacity = subst (λ f. vec_capacity c.args.frames.now ≤ vec_capacity f) (sym w.frames-is) capacity_;
      }
  | else-is_named w ↦
      let d = c.args.change.domain.now in
      let x = change_of c.args.change in
      let l = c.loop-place.invariant in
      let n = c.loop-place.place in
      let other = sym c.is_named.ensures ∙ w.if-is_named.false in
      let one : suc n ≡ n + 1 = omega arith in
      let left = subst (λ (m : ℕ). StasSo d x m c.args.stas.now.items c.loop-place.stas.items c.args.journal.now.entries c.loop-place.journal.entries) one
      (station_left d x n c.args.stas.now.items c.loop-place.stas.items c.args.journal.now.entries c.loop-place.journal.entries l.changed other) in
      let same : count_below x.named (n + 1) ≡ count_below x.named n = omega (arith, count_next x.named n (n + 1) false (sym one) other) in
      let room : room_of d (count_below x.named (n + 1)) ≡ room_of d (count_below x.named n) = ap (room_of d) same in
      let spare_ : c.args.out.now.spare ≤ c.loop-place.out.spare + room_of d (count_below x.named (n + 1)) = omega (arith, l.spare, room) in
      let entries_ : c.args.journal.now.spare ≤ c.loop-place.journal.spare + room_of d (count_below x.named (n + 1)) = omega (arith, l.entries, room) in
      let places_ : vec_len c.loop-place.frames ≤ vec_len c.args.frames.now + room_of d (count_below x.named (n + 1)) = omega (arith, l.places_left, room) in
      record {
        changed = subst (λ v. StasSo d x (n + 1) c.args.stas.now.items v.items c.args.journal.now.entries c.if-is_named.journal.entries) (sym w.stas-is)
            (subst (λ v. StasSo d x (n + 1) c.args.stas.now.items c.loop-place.stas.items c.args.journal.now.entries v.entries) (sym w.journal-is) left);
        numbered = subst (λ v. AreStations v.items) (sym w.stas-is) l.numbered;
        waiting = ap (λ v. v.acts) w.out-is ∙ l.waiting;
        noted = subst (λ f. f.items ≡ places c.if-is_named.journal.entries) (sym w.frames-is) (subst (λ v. c.loop-place.frames.items ≡ places v.entries) (sym w.journal-is) l.noted);
        spare = subst (λ o. c.args.out.now.spare ≤ o.spare + room_of d (count_below x.named (n + 1))) (sym w.out-is) spare_;
        entries = subst (λ v. c.args.journal.now.spare ≤ v.spare + room_of d (count_below x.named (n + 1))) (sym w.journal-is) entries_;
        places_left = subst (λ f. vec_len f ≤ vec_len c.args.frames.now + room_of d (count_below x.named (n + 1))) (sym w.frames-is) places_;
        capacity = subst (λ f. vec_capacity c.args.frames.now ≤ vec_capacity f) (sym w.frames-is) l.capacity;
      }
]

-- ---- at the end

pub returns-clause-changed : goal.returns-clause-changed
returns-clause-changed c =
    let l = c.loop-place.invariant in
    let last : c.loop-place.place ≡ length c.args.stas.now.items = omega (arith, c.loop-place-test.false, c.loop-place.auto.place-end, c.len-place-end.ensures, l.changed.count) in
    subst (λ (m : ℕ). StasSo c.args.change.domain.now (change_of c.args.change) m c.args.stas.now.items c.loop-place.stas.items c.args.journal.now.entries c.loop-place.journal.entries) last l.changed
