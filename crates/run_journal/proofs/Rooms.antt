-- What a journal keeps stays right.
use Rattle.std.proofs.Common.{◌≡◌, ◌<◌, ◌+◌, ◌-◌, ℕ, List, [], ◌∷◌, ◌++◌, Result, Ok, Err, reverse, sym, subst, arith}
use Rattle.std.specs.Prelude.{OnErr}
use Rattle.std.proofs.lemmas.List.{reverse-append}
use Rattle.run_journal.specs.declared.acts.Entry.{Entry}
use Rattle.run_journal.specs.declared.index.Index.{Index}
use Rattle.run_journal.specs.declared.premises.Premises.{Premises}
use Rattle.run_journal.specs.declared.chains.Chains.{Chains}
use Rattle.run_journal.specs.Chained.{HasRoom}
use Rattle.run_journal.specs.Looking.{Indexed, IndexHasRoom, IsRight}
use Rattle.run_journal.specs.Report.{Decides}

-- one more entry
pub IsRight-push : (entries : List Entry) (entry : Entry) (old new : Index) (spare : ℕ) (before now : Premises) → IsRight entries old spare before → 0 < spare → ((es : List Entry) → Indexed es old → Indexed (es ++ entry ∷ []) new) → ((n : ℕ) → IndexHasRoom (n + 1) old → IndexHasRoom n new) → Decides (entry ∷ reverse entries) now → IsRight (entries ++ entry ∷ []) new (spare - 1) now
IsRight-push entries entry old new spare before now right some indexed room decides = record {
  indexed = indexed entries right.indexed;
  room = let e : spare ≡ spare - 1 + 1 = omega arith in room (spare - 1) (subst (λ (n : ℕ). IndexHasRoom n old) e right.room);
  decides = subst (λ (es : List Entry). Decides es now) (sym (reverse-append entries (entry ∷ []))) decides;
}

-- another index of the same entries, with room for so many
pub IsRight-room : (entries : List Entry) (old new : Index) (spare room : ℕ) (premises : Premises) → IsRight entries old spare premises → Indexed entries new → IndexHasRoom room new → IsRight entries new room premises
IsRight-room entries old new spare room premises right indexed roomy = record { indexed = indexed; room = roomy; decides = right.decides }

one_more : (n : ℕ) (t : Chains) → 0 < n → HasRoom n t → HasRoom 1 t
one_more n t some h = record { links = omega (arith, some, h.links); few = omega (arith, some, h.few) }

-- where there is room for some, there is for one
pub room_for_one : (n : ℕ) (index : Index) → 0 < n → IndexHasRoom n index → IndexHasRoom 1 index
room_for_one n index some h = record {
  values = one_more n index.values some h.values;
  kcks = one_more n index.kcks some h.kcks;
  values_made = λ _. h.values_made some;
  kcks_made = λ _. h.kcks_made some;
}

-- what holds at any end holds where memory ran out
pub err_at : {A E : Type 0} (r : Result A E) (P : Type 0) → P → OnErr r P
err_at (Ok a) P at = tt
err_at (Err e) P at = at
