-- A copy of octets that come piece by piece.
use Rattle.std.proofs.Common.{◌≡◌, ◌⊎◌, ◌∙◌, ℕ, List, [], ◌++◌, append_assoc, ap, subst, sym, refl, inl, inr}
use Rattle.std.proofs.lemmas.List.{append-nil}
use Rattle.script_runs.specs.declared.transcript.Transcript.{Transcript}
use Rattle.script_runs.specs.declared.transcript.Transcript.TheVariants.{Unkept, Kept, Short}
use Rattle.script_runs.specs.Transcripts.{Holds, IsCopy}

pub copied_none : (a : Transcript) → IsCopy a a []
copied_none Unkept = refl
copied_none (Kept octets) = inl (sym (append-nil octets.items))
copied_none Short = refl

kept_then : (octets : List ℕ) (b c : Transcript) (xs ys : List ℕ) → Holds b (octets ++ xs) → IsCopy b c ys → Holds c (octets ++ (xs ++ ys)) ⊎ (c ≡ Short)
kept_then octets Unkept c xs ys held more = absurd held
kept_then octets Short c xs ys held more = absurd held
kept_then octets (Kept these) c xs ys held (inl more) =
    inl (subst (λ (l : List ℕ). Holds c l) (ap (λ (l : List ℕ). l ++ ys) held ∙ append_assoc octets xs ys) more)
kept_then octets (Kept these) c xs ys held (inr short) = inr short

-- one piece after another
pub copied_then : (a b c : Transcript) (xs ys : List ℕ) → IsCopy a b xs → IsCopy b c ys → IsCopy a c (xs ++ ys)
copied_then Unkept b c xs ys one more = subst (λ (t : Transcript). IsCopy t c ys) one more
copied_then Short b c xs ys one more = subst (λ (t : Transcript). IsCopy t c ys) one more
copied_then (Kept octets) b c xs ys (inl held) more = kept_then octets.items b c xs ys held more
copied_then (Kept octets) b c xs ys (inr short) more = inr (subst (λ (t : Transcript). IsCopy t c ys) short more)
