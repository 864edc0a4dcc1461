-- The nodes of a storm listed one after the other.
use Rattle.std.proofs.Common.{◌≡◌, ℕ, ◌+◌, List, [], ◌∷◌, ◌++◌, refl, ap, ◌∙◌, add-one}
use Rattle.run_journal.specs.declared.domain.ListedAp.{ListedAp}
use Rattle.run_journal.specs.declared.domain.ListedSta.{ListedSta}
use Rattle.storm.specs.Header.{ap_of, aps_to, sta_of, stas_to}

pub aps-none : [] ≡ aps_to 0
unfolding aps_to
aps-none = refl

aps-suc : (n : ℕ) → aps_to n ++ ap_of (n + 1) ∷ [] ≡ aps_to (n + 1)
unfolding aps_to
aps-suc n = rw add-one refl

pub aps-more : (n : ℕ) (aps more : List ListedAp) → aps ≡ aps_to n → more ≡ aps ++ ap_of (n + 1) ∷ [] → more ≡ aps_to (n + 1)
aps-more n aps more is grown = grown ∙ ap (λ (xs : List ListedAp). xs ++ ap_of (n + 1) ∷ []) is ∙ aps-suc n

pub stas-none : (psk : List ℕ) → [] ≡ stas_to psk 0
unfolding stas_to
stas-none psk = refl

stas-suc : (psk : List ℕ) (n : ℕ) → stas_to psk n ++ sta_of psk (n + 1) ∷ [] ≡ stas_to psk (n + 1)
unfolding stas_to
stas-suc psk n = rw add-one refl

pub stas-more : (psk : List ℕ) (n : ℕ) (stas more : List ListedSta) → stas ≡ stas_to psk n → more ≡ stas ++ sta_of psk (n + 1) ∷ [] → more ≡ stas_to psk (n + 1)
stas-more psk n stas more is grown = grown ∙ ap (λ (xs : List ListedSta). xs ++ sta_of psk (n + 1) ∷ []) is ∙ stas-suc psk n

pub ruleset listing = (aps-none, aps-more, stas-none, stas-more)
