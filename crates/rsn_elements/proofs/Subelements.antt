-- Subelements as one more comes.
use Rattle.std.proofs.Common.{◌≡◌, ℕ, zero, suc, ◌≤◌, Bool, true, false, List, ◌++◌, length, Option, Some, None, subst, arith}
use Rattle.std.specs.Prelude.{filter, is_some, MatchOption}
use Rattle.rsn_elements.specs.Framing.{Element, joined, Says}
use Rattle.rsn_elements.specs.Transition.{SpellsR1khId, SpellsWrappedGtk, SpellsR0khId, SpellsWrappedIgtk, WrappedGtkFields, WrappedIgtkFields, SubelementsSay, has_id, IsRight}
use Rattle.rsn_elements.specs.declared.transition.Subelements.{Subelements}
use Rattle.rsn_elements.specs.TransitionSteps.{Reached}
use Rattle.std.specs.List.{AllByRecursion}

pub at_none : {T : Type 0} (o : Option T) (P : Type 0) (Q : T → Type 0) → is_some o ≡ false → MatchOption o P Q → P
at_none None P Q h m = m
at_none (Some x) P Q h m = absurd cc

pub from_none : {T : Type 0} (o : Option T) (P : Type 0) (Q : T → Type 0) → is_some o ≡ false → P → MatchOption o P Q
from_none None P Q h p = p
from_none (Some x) P Q h p = absurd cc

pub at_some : {T : Type 0} (o : Option T) (P R : Type 0) (Q : T → Type 0) → is_some o ≡ true → MatchOption o P Q → MatchOption o R Q
at_some None P R Q h m = absurd cc
at_some (Some x) P R Q h m = m

-- one of a kind at most
pub Says-once : {F : Type 0} (kind : Element → Bool) (Spells : List ℕ → F → Type 0) (es : List Element) (o : Option F) → Says kind Spells es o → length (filter kind es) ≤ 1
Says-once kind Spells es None s = rw s (omega arith)
Says-once kind Spells es (Some f) s = rw (s.1) (omega arith)

pub once_each : (es : List Element) (a : Option (List ℕ)) (b : Option WrappedGtkFields) (c : Option (List ℕ)) (d : Option WrappedIgtkFields) → SubelementsSay es a b c d → (id : ℕ) → 1 ≤ id → id ≤ 4 → length (filter (has_id id) es) ≤ 1
once_each es a b c d say zero low high = absurd (omega arith)
once_each es a b c d say (suc zero) low high = Says-once (has_id 1) SpellsR1khId es a say.first
once_each es a b c d say (suc (suc zero)) low high = Says-once (has_id 2) SpellsWrappedGtk es b say.second
once_each es a b c d say (suc (suc (suc zero))) low high = Says-once (has_id 3) SpellsR0khId es c say.third
once_each es a b c d say (suc (suc (suc (suc zero)))) low high = Says-once (has_id 4) SpellsWrappedIgtk es d say.fourth
once_each es a b c d say (suc (suc (suc (suc (suc n))))) low high = absurd (omega arith)

-- the subelements before the rest have right lengths, and what they say is kept
pub record Past (octets : List ℕ) (es : List Element) (rest : List ℕ) (found : Subelements) : Type 0 where
  pub cut : octets ≡ joined es ++ rest
  pub right : AllByRecursion IsRight es
  pub reached : Reached octets es found

pub at_value : {T : Type 0} (o : Option T) (x : T) (P : Type 0) (Q : T → Type 0) → o ≡ Some x → MatchOption o P Q → Q x
at_value o x P Q h m = subst (λ (p : Option _). MatchOption p P Q) h m

pub at_no_value : {T : Type 0} (o : Option T) (P : Type 0) (Q : T → Type 0) → o ≡ None → MatchOption o P Q → P
at_no_value o P Q h m = subst (λ (p : Option _). MatchOption p P Q) h m
