-- A journal's entries in the order of pushing, where contracts see them newest first.
use Rattle.std.proofs.Common.{◌≡◌, ◌<◌, ℕ, List, length, reverse, get_or, Some, ap, ◌∙◌, sym, subst}
use Rattle.std.specs.Prelude.{slice_get}
use Rattle.std.proofs.lemmas.List.{reverse-reverse, length-reverse}
use Rattle.std.proofs.lemmas.Option.{slice_get-get_or}
use Rattle.run_journal.specs.declared.acts.Entry.{Entry}

pub place_within : (items es : List Entry) (place : ℕ) → reverse items ≡ es → place < length es → place < length items
place_within items es place e lt = subst (λ (n : ℕ). place < n) (ap (λ (xs : List Entry). length xs) (sym e) ∙ length-reverse items) lt

pub entry_at : (items es : List Entry) (place : ℕ) (x : Entry) → reverse items ≡ es → place < length es → x ≡ get_or items place x → slice_get (reverse es) place ≡ Some x
entry_at items es place x e lt is =
    ap (λ (xs : List Entry). slice_get (reverse xs) place) (sym e)
    ∙ (ap (λ (xs : List Entry). slice_get xs place) (reverse-reverse items)
    ∙ (slice_get-get_or items place x (place_within items es place e lt) ∙ ap (λ (y : Entry). Some y) (sym is)))

pub count_of : (items es : List Entry) → reverse items ≡ es → length items ≡ length es
count_of items es e = sym (length-reverse items) ∙ ap (λ (xs : List Entry). length xs) e

pub in_order : (items es : List Entry) → reverse items ≡ es → items ≡ reverse es
in_order items es e = sym (reverse-reverse items) ∙ ap (λ (xs : List Entry). reverse xs) e
