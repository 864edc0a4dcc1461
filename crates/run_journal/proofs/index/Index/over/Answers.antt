use Rattle.std.proofs.Common.{◌≡◌, ◌<◌, ◌+◌, ◌-◌, ℕ, List, [], ◌∷◌, ◌++◌, length, take, sym, ap, ◌∙◌, subst, arith}
use Rattle.std.proofs.lemmas.List.{take_all, take_more}
use Rattle.run_journal.specs.declared.acts.Entry.{Entry}
use Rattle.run_journal.specs.Looking.{Indexed, IndexHasRoom}
use Rattle.run_journal.proofs.Rooms.{room_for_one}
use Rattle.run_journal.proofs.index.Index.over.Goals as goal

pub loop-entry-init : goal.loop-entry-init
loop-entry-init c = record {
  indexed = c.room.ensures.indexed [] c.bare-index.ensures;
  room = subst (λ (n : ℕ). IndexHasRoom n c.room.new.self) (let e : length c.args.entries.now ≡ length c.args.entries.now - 0 = omega arith in e) c.in_ok-room.ensures.room;
}

pub add-requires : goal.add-requires
add-requires c =
    let n = length c.args.entries.now - c.loop-entry.entry-index in
    let some : 0 < n = omega (arith, c.loop-entry-test.true) in
    room_for_one n c.loop-entry.index some c.loop-entry.invariant.room

pub loop-entry-preserved : goal.loop-entry-preserved
loop-entry-preserved c =
    let es = c.args.entries.now in
    let i = c.loop-entry.entry-index in
    let within : i < length es = c.loop-entry-test.true in
    let fewer : length es - i ≡ length es - (i + 1) + 1 = omega (arith, within) in
    let more : take i es ++ c.entry-item.result ∷ [] ≡ take (i + 1) es =
    ap (λ (e : Entry). take i es ++ e ∷ []) c.entry-item.is ∙ sym (take_more es i c.entry-item.result within) in
    record {
      indexed = subst (λ (l : List Entry). Indexed l c.add.new.self) more (c.add.ensures.indexed (take i es) c.loop-entry.invariant.indexed);
      room = c.add.ensures.room (length es - (i + 1)) (subst (λ (n : ℕ). IndexHasRoom n c.loop-entry.index) fewer c.loop-entry.invariant.room);
    }

pub returns-clause-indexed : goal.returns-clause-indexed
returns-clause-indexed c =
    let es = c.args.entries.now in
    let all : take c.loop-entry.entry-index es ≡ es = take_all c.loop-entry.entry-index es (omega (arith, c.loop-entry-test.false)) in
    subst (λ (l : List Entry). Indexed l c.room-2.new.self) all (c.room-2.ensures.indexed (take c.loop-entry.entry-index es) c.loop-entry.invariant.indexed)

pub returns-clause-room : goal.returns-clause-room
returns-clause-room c = c.in_ok-room-2.ensures.room
