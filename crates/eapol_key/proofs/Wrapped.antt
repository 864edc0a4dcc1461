-- Key data is padded and wrapped in its place.
use Rattle.std.proofs.Common.{◌≡◌, ℕ, zero, suc, ◌<◌, ◌+◌, ◌-◌, List, ◌++◌, length, drop, replicate, set, refl, ap, ◌∙◌, arith}
use Rattle.std.proofs.Math.Seq.{set-append_seam}
use Rattle.std.proofs.lemmas.List.{drop-replicate, length-append, length-replicate}
use Rattle.domain_base.specs.Padding.{padding, padding_octets}
use Rattle.eapol_key.specs.KeyData.{padded, padded_length}

length-padding_octets : (n : ℕ) → length (padding_octets n) ≡ n
length-padding_octets zero = refl
length-padding_octets (suc n) = ap suc (length-replicate n 0)

pub length-padded : (plain : List ℕ) → length (padded plain) ≡ padded_length (length plain)
length-padded plain =
    length-append plain (padding_octets (padding (length plain))) ∙ ap (λ (n : ℕ). length plain + n) (length-padding_octets (padding (length plain)))

-- a dd in the place of the first zero
dd_put : (plain : List ℕ) (n : ℕ) → 0 < n → set (plain ++ replicate n 0) (length plain) 0xdd ≡ plain ++ padding_octets n
dd_put plain zero h = absurd (omega arith)
dd_put plain (suc n) h = set-append_seam plain 0 (replicate n 0) 0xdd

pub padded-put : (plain copy zeros : List ℕ) → copy ≡ plain → zeros ≡ replicate (padded_length (length plain)) 0 → 0 < padding (length plain)
    → set (copy ++ drop (length plain) zeros) (length plain) 0xdd ≡ padded plain
padded-put plain copy zeros c z h =
    let size : padded_length (length plain) - length plain ≡ padding (length plain) = omega arith in
    let rest : drop (length plain) zeros ≡ replicate (padding (length plain)) 0 = ap (drop (length plain)) z ∙ drop-replicate (length plain) (padded_length (length plain)) 0 ∙ ap (λ (n : ℕ). replicate n 0) size in
    ap (λ (w : List ℕ). set w (length plain) 0xdd) (ap (λ (w : List ℕ). w ++ drop (length plain) zeros) c ∙ ap (λ (w : List ℕ). plain ++ w) rest)
    ∙ dd_put plain (padding (length plain)) h
