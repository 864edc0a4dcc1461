use Rattle.std.proofs.Common.{◌≡◌, ◌<◌, ◌≤◌, ◌+◌, suc, ℕ, length, refl, sym, ap, subst, ◌∙◌, arith}
use Rattle.std.specs.Prelude.{slice_set}
use Rattle.std.proofs.lemmas.Option.{slice_get_read}
use Rattle.key_holders.specs.Rows.{is_in}
use Rattle.run_journal.specs.declared.domain.Domain.{Domain}
use Rattle.domain_rules.specs.Network.{InForm}
use Rattle.domain_world.specs.Changing.{ApsSo, change_of}
use Rattle.domain_world.proofs.ChangingNodes.{none_so, next_so, few_ap, numbered_set, room_next, room_low}
use Rattle.domain_world.proofs.changing.change_aps.Goals as goal

pub loop-place-init : goal.loop-place-init
loop-place-init c = record {
  changed = none_so c.args.change.domain.now (change_of c.args.change) c.args.aps.now.items c.args.shared.pass.knows.seen c.args.journal.now.entries;
  numbered = c.requires.numbered;
  held = c.requires.held;
  waiting = c.requires.waiting;
  noted = c.requires.noted;
  spare = omega arith;
  entries = omega arith;
  places_left = omega arith;
  capacity = omega arith;
}

-- ---- one access point

pub index_mut-ap-requires : goal.index_mut-ap-requires
index_mut-ap-requires c = omega (arith, c.loop-place-test.true, c.len-place-end.ensures, c.loop-place.invariant.changed.count)

-- there is room for what it does
pub change_ap-held-requires-clause-room : goal.change_ap-held-requires-clause-room
change_ap-held-requires-clause-room c =
    let d = c.args.change.domain.now in
    let l = c.loop-place.invariant in
    let n = c.loop-place.place in
    let low : suc n ≤ length c.args.aps.now.items = omega (arith, c.loop-place-test.true, c.len-place-end.ensures, l.changed.count) in
    omega (arith, l.spare, c.requires.room, room_next d n (suc n) refl, room_low d (suc n) (length c.args.aps.now.items) low)

pub change_ap-held-requires-clause-has : goal.change_ap-held-requires-clause-has
change_ap-held-requires-clause-has c =
    let l = c.loop-place.invariant in
    let n = c.loop-place.place in
    let mid = c.loop-place.aps.items in
    let within : n < length mid = omega (arith, c.loop-place-test.true, c.len-place-end.ensures, l.changed.count) in
    let number = l.numbered n c.index_mut-ap.result.now (slice_get_read mid (length mid) n c.index_mut-ap.result.now refl within c.index_mut-ap.ensures.value) in
    ap (λ (a : ℕ). is_in a c.loop-place.held.pass.knows.has) number ∙ l.held.1 n (omega (arith, within, l.changed.count, c.requires.listed))

pub change_ap-held-requires-clause-listed : goal.change_ap-held-requires-clause-listed
change_ap-held-requires-clause-listed c =
    let l = c.loop-place.invariant in
    let n = c.loop-place.place in
    let mid = c.loop-place.aps.items in
    let within : n < length mid = omega (arith, c.loop-place-test.true, c.len-place-end.ensures, l.changed.count) in
    let number = l.numbered n c.index_mut-ap.result.now (slice_get_read mid (length mid) n c.index_mut-ap.result.now refl within c.index_mut-ap.ensures.value) in
    omega (arith, number, within, l.changed.count, c.requires.listed)

small : (d : Domain) → InForm d → length d.aps < 65536
small d form = omega (arith, form.few_aps)

pub overflow_cast-node : goal.overflow_cast-node
overflow_cast-node c = omega (arith, c.loop-place-test.true, c.len-place-end.ensures, c.loop-place.invariant.changed.count, c.requires.listed, small c.args.change.domain.now c.requires.form)

pub journal_acts-requires-clause-room : goal.journal_acts-requires-clause-room
journal_acts-requires-clause-room c =
    let d = c.args.change.domain.now in
    let x = change_of c.args.change in
    let l = c.loop-place.invariant in
    let n = c.loop-place.place in
    let mid = c.loop-place.aps.items in
    let within : n < length mid = omega (arith, c.loop-place-test.true, c.len-place-end.ensures, l.changed.count) in
    let low : n < length d.aps = omega (arith, within, l.changed.count, c.requires.listed) in
    let old = c.index_mut-ap.result.now in
    let at = slice_get_read mid (length mid) n old refl within c.index_mut-ap.ensures.value in
    let few = few_ap d x n c.args.aps.now.items mid c.args.shared.pass.knows.seen c.loop-place.held.pass.knows.seen c.change_ap-held.result.pass.knows.seen c.args.journal.now.entries c.loop-place.journal.entries old c.change_ap-held.new.ap c.change_ap-held.new.out.acts
    l.changed c.requires.stand low at (l.numbered n old at) c.change_ap-held.ensures.changed in
    omega (arith, few, l.entries, c.requires.entries, room_next d n (suc n) refl, room_low d (suc n) (length c.args.aps.now.items) (omega (arith, within, l.changed.count)))

pub journal_acts-requires-clause-places : goal.journal_acts-requires-clause-places
journal_acts-requires-clause-places c =
    let d = c.args.change.domain.now in
    let x = change_of c.args.change in
    let l = c.loop-place.invariant in
    let n = c.loop-place.place in
    let mid = c.loop-place.aps.items in
    let within : n < length mid = omega (arith, c.loop-place-test.true, c.len-place-end.ensures, l.changed.count) in
    let low : n < length d.aps = omega (arith, within, l.changed.count, c.requires.listed) in
    let old = c.index_mut-ap.result.now in
    let at = slice_get_read mid (length mid) n old refl within c.index_mut-ap.ensures.value in
    let few = few_ap d x n c.args.aps.now.items mid c.args.shared.pass.knows.seen c.loop-place.held.pass.knows.seen c.change_ap-held.result.pass.knows.seen c.args.journal.now.entries c.loop-place.journal.entries old c.change_ap-held.new.ap c.change_ap-held.new.out.acts
    l.changed c.requires.stand low at (l.numbered n old at) c.change_ap-held.ensures.changed in
    omega (arith, few, l.places_left, l.capacity, c.requires.places, room_next d n (suc n) refl, room_low d (suc n) (length c.args.aps.now.items) (omega (arith, within, l.changed.count)))

pub loop-place-preserved : goal.loop-place-preserved
loop-place-preserved c =
    let d = c.args.change.domain.now in
    let x = change_of c.args.change in
    let l = c.loop-place.invariant in
    let n = c.loop-place.place in
    let mid = c.loop-place.aps.items in
    let within : n < length mid = omega (arith, c.loop-place-test.true, c.len-place-end.ensures, l.changed.count) in
    let low : n < length d.aps = omega (arith, within, l.changed.count, c.requires.listed) in
    let old = c.index_mut-ap.result.now in
    let new = c.change_ap-held.new.ap in
    let at = slice_get_read mid (length mid) n old refl within c.index_mut-ap.ensures.value in
    let number = l.numbered n old at in
    let did = c.change_ap-held.ensures in
    let one : suc n ≡ n + 1 = omega arith in
    let next = next_so d x n c.args.aps.now.items mid c.args.shared.pass.knows.seen c.loop-place.held.pass.knows.seen c.change_ap-held.result.pass.knows.seen c.args.journal.now.entries c.loop-place.journal.entries old new c.change_ap-held.new.out.acts
    l.changed c.requires.stand low within at number did.changed (λ r other listed. did.others r (λ is. other (is ∙ number)) (l.held.1 r listed)) in
    let few = few_ap d x n c.args.aps.now.items mid c.args.shared.pass.knows.seen c.loop-place.held.pass.knows.seen c.change_ap-held.result.pass.knows.seen c.args.journal.now.entries c.loop-place.journal.entries old new c.change_ap-held.new.out.acts
    l.changed c.requires.stand low at number did.changed in
    let room = room_next d n (n + 1) (sym one) in
    record {
      changed = subst (λ (m : ℕ). ApsSo d x m c.args.aps.now.items (slice_set mid n new) c.args.shared.pass.knows.seen c.change_ap-held.result.pass.knows.seen c.args.journal.now.entries c.journal_acts.new.journal.entries) one
          (subst (ApsSo d x (suc n) c.args.aps.now.items (slice_set mid n new) c.args.shared.pass.knows.seen c.change_ap-held.result.pass.knows.seen c.args.journal.now.entries) (sym c.journal_acts.ensures.entries) next);
      numbered = numbered_set mid n new l.numbered (did.number ∙ number);
      held = (did.still.0 ∙ l.held.0, λ r listed. ap (is_in r) did.still.1 ∙ l.held.1 r listed);
      waiting = c.journal_acts.ensures.out;
      noted = c.journal_acts.ensures.noted;
      spare = omega (arith, l.spare, did.spare, c.journal_acts.ensures.spare, room);
      entries = omega (arith, l.entries, c.journal_acts.ensures.room, few, room);
      places_left = omega (arith, l.places_left, c.journal_acts.ensures.length, few, room);
      capacity = omega (arith, l.capacity, c.journal_acts.ensures.capacity);
    }

-- ---- at the end

pub returns-clause-changed : goal.returns-clause-changed
returns-clause-changed c =
    let l = c.loop-place.invariant in
    let last : c.loop-place.place ≡ length c.args.aps.now.items = omega (arith, c.loop-place-test.false, c.loop-place.auto.place-end, c.len-place-end.ensures, l.changed.count) in
    subst (λ (m : ℕ). ApsSo c.args.change.domain.now (change_of c.args.change) m c.args.aps.now.items c.loop-place.aps.items c.args.shared.pass.knows.seen c.loop-place.held.pass.knows.seen c.args.journal.now.entries c.loop-place.journal.entries) last l.changed

pub returns-clause-spare : goal.returns-clause-spare
returns-clause-spare c =
    omega (arith, c.loop-place.invariant.spare, room_low c.args.change.domain.now c.loop-place.place (length c.args.aps.now.items) (omega (arith, c.loop-place.auto.place-end, c.len-place-end.ensures)))

pub returns-clause-entries : goal.returns-clause-entries
returns-clause-entries c =
    omega (arith, c.loop-place.invariant.entries, room_low c.args.change.domain.now c.loop-place.place (length c.args.aps.now.items) (omega (arith, c.loop-place.auto.place-end, c.len-place-end.ensures)))

pub returns-clause-places : goal.returns-clause-places
returns-clause-places c =
    omega (arith, c.loop-place.invariant.places_left, room_low c.args.change.domain.now c.loop-place.place (length c.args.aps.now.items) (omega (arith, c.loop-place.auto.place-end, c.len-place-end.ensures)))
