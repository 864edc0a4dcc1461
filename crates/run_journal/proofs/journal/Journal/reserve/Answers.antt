-- More memory leaves the entries and their index.
use Rattle.std.proofs.Common.{◌≡◌, List, reverse, ap, ◌∙◌, sym, subst, arith}
use Rattle.run_journal.specs.declared.acts.Entry.{Entry}
use Rattle.run_journal.specs.Kept.{Kept}
use Rattle.run_journal.specs.Looking.{Indexed, IsRight}
use Rattle.run_journal.proofs.Rooms.{IsRight-room}
use Rattle.run_journal.proofs.journal.Journal.reserve.Goals as goal

pub make_room-requires : goal.make_room-requires
make_room-requires c =
    let same : c.deref.result.now ≡ c.self.inside.entries.items = c.deref.ensures.value ∙ c.reserve.ensures.items in
    subst (λ (es : List Entry). Indexed es c.self.inside.index) (sym same) c.self.invariant.1.indexed

pub invariant_of-self-in_err-make_room : goal.invariant_of-self-in_err-make_room
invariant_of-self-in_err-make_room c =
    let old = c.self.inside in
    let same : c.deref.result.now ≡ old.entries.items = c.deref.ensures.value ∙ c.reserve.ensures.items in
    let indexed = subst (λ (es : List Entry). Indexed es c.make_room.new.self) same c.make_room.ensures.indexed in
    let right = IsRight-room old.entries.items old.index c.make_room.new.self old.spare old.spare old.premises c.self.invariant.1 indexed (c.in_err-make_room.ensures.kept old.spare c.self.invariant.1.room) in (
      omega arith,
      subst (λ (entries : List Entry). IsRight entries c.make_room.new.self old.spare old.premises) (sym c.reserve.ensures.items) right,
    )

pub invariant_of-self-2 : goal.invariant_of-self-2
invariant_of-self-2 c =
    let old = c.self.inside in
    let same : c.deref.result.now ≡ old.entries.items = c.deref.ensures.value ∙ c.reserve.ensures.items in
    let indexed = subst (λ (es : List Entry). Indexed es c.make_room.new.self) same c.make_room.ensures.indexed in
    let right = IsRight-room old.entries.items old.index c.make_room.new.self old.spare c.args.more old.premises c.self.invariant.1 indexed c.in_ok-make_room.ensures.room in (
      omega (arith, c.in_ok-reserve.ensures.ok),
      subst (λ (entries : List Entry). IsRight entries c.make_room.new.self c.args.more old.premises) (sym c.reserve.ensures.items) right,
    )

pub invariant_of-self : goal.invariant_of-self
invariant_of-self c =
    let old = c.self.inside in (
      omega arith,
      subst (λ (entries : List Entry). IsRight entries old.index old.spare old.premises) (sym c.reserve.ensures.items) c.self.invariant.1,
    )

pub returns-clause-entries : goal.returns-clause-entries
returns-clause-entries c = ap (λ (es : List Entry). reverse es) c.reserve.ensures.items ∙ ap (λ (v : Kept). v.entries) c.self.view_is
