-- The R0KH-ID that an FTE names.
use Rattle.std.proofs.Common.{◌≡◌, List, ℕ, [], Option, Some, None, sym, ap, ◌∙◌}
use Rattle.std.specs.Prelude.{option_and_then, unwrap_or}
use Rattle.rsn_elements.specs.Transition.{FteFields}
use Rattle.rsn_elements.specs.Elements.{ElementFields}
use Rattle.domain_rules.specs.TransitionKeyData.{responded_r0kh_id}

abbrev id_in : Option FteFields → List ℕ
id_in o = unwrap_or (option_and_then (λ (x : FteFields). x.r0kh_id) o) []

pub named_none : (e f : ElementFields) (r : List ℕ) → r ≡ [] → f.fte ≡ None → f ≡ e → r ≡ responded_r0kh_id (Some e)
named_none e f r is none same = is ∙ sym (ap id_in none) ∙ ap (λ (x : ElementFields). responded_r0kh_id (Some x)) same

pub named_other : (e f : ElementFields) (x : FteFields) (r : List ℕ) → r ≡ [] → f.fte ≡ Some x → x.r0kh_id ≡ None → f ≡ e → r ≡ responded_r0kh_id (Some e)
named_other e f x r is fte none same =
    is ∙ sym (ap id_in fte ∙ ap (λ (o : Option (List ℕ)). unwrap_or o []) none) ∙ ap (λ (z : ElementFields). responded_r0kh_id (Some z)) same

pub named_some : (e f : ElementFields) (x : FteFields) (id r : List ℕ) → r ≡ id → f.fte ≡ Some x → x.r0kh_id ≡ Some id → f ≡ e → r ≡ responded_r0kh_id (Some e)
named_some e f x id r is fte some same =
    is ∙ sym (ap id_in fte ∙ ap (λ (o : Option (List ℕ)). unwrap_or o []) some) ∙ ap (λ (z : ElementFields). responded_r0kh_id (Some z)) same
