use Rattle.std.proofs.Common.{◌<◌, ◌-◌, List, reverse, sym, ap, subst, arith}
use Rattle.run_journal.specs.declared.acts.Entry.{Entry}
use Rattle.run_journal.specs.Kept.{Kept}
use Rattle.run_journal.specs.Report.{Decides}
use Rattle.run_journal.specs.Looking.{IsRight, Indexed}
use Rattle.run_journal.proofs.Rooms.{IsRight-push, room_for_one}
use Rattle.run_journal.proofs.journal.Journal.add.Goals as goal

pub invariant_of-self : goal.invariant_of-self
invariant_of-self c =
    let old = c.self.inside in
    let items = c.push_reserved.ensures.items in
    let some : 0 < old.spare = subst (λ (v : Kept). 0 < v.spare) (sym c.self.view_is) c.requires in
    let decides = rw c.deref.ensures.value at c.judge-self-inside.ensures in (
      omega arith,
      subst (λ (entries : List Entry). IsRight entries c.add.new.self (old.spare - 1) c.judge-self-inside.result) (sym items)
          (IsRight-push old.entries.items c.shared-entry.result old.index c.add.new.self old.spare old.premises c.judge-self-inside.result c.self.invariant.1 some c.add.ensures.indexed c.add.ensures.room decides),
    )

pub add-requires : goal.add-requires
add-requires c = room_for_one c.self.inside.spare c.self.inside.index (subst (λ (v : Kept). 0 < v.spare) (sym c.self.view_is) c.requires) c.self.invariant.1.room

pub judge-self-inside-requires-clause-room : goal.judge-self-inside-requires-clause-room
judge-self-inside-requires-clause-room c = room_for_one c.self.inside.spare c.self.inside.index (subst (λ (v : Kept). 0 < v.spare) (sym c.self.view_is) c.requires) c.self.invariant.1.room

pub judge-self-inside-requires-clause-indexed : goal.judge-self-inside-requires-clause-indexed
judge-self-inside-requires-clause-indexed c = subst (λ (es : List Entry). Indexed es c.self.inside.index) (sym c.deref.ensures.value) c.self.invariant.1.indexed

pub judge-self-inside-requires-clause-held : goal.judge-self-inside-requires-clause-held
judge-self-inside-requires-clause-held c = subst (λ (es : List Entry). Decides (reverse es) c.self.inside.premises) (sym c.deref.ensures.value) c.self.invariant.1.decides

pub push_reserved-requires : goal.push_reserved-requires
push_reserved-requires c =
    let some : 0 < c.self.inside.spare = subst (λ (v : Kept). 0 < v.spare) (sym c.self.view_is) c.requires in
    omega (arith, some, c.self.invariant.0)

pub overflow_sub-self : goal.overflow_sub-self
overflow_sub-self c =
    let some : 0 < c.self.inside.spare = subst (λ (v : Kept). 0 < v.spare) (sym c.self.view_is) c.requires in
    omega (arith, some)

pub returns-clause-spare : goal.returns-clause-spare
returns-clause-spare c =
    let same = ap (λ (v : Kept). v.spare) c.self.view_is in
    omega (arith, c.requires, same)
