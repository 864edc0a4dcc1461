-- The MIC of a frame, by the octets that were kept of its elements.
use Rattle.std.proofs.Common.{◌≡◌, ◌∙◌, ◌≤◌, ℕ, List, ◌∷◌, length, Option, Some, None, refl, sym, ap, subst, arith}
use Rattle.std.proofs.lemmas.Slice.Eq.{bytes_eq-Decides}
use Rattle.domain_rules.proofs.Peers.{not_same}
use Rattle.mac_prf.specs.Cmac.{cmac}
use Rattle.mac_prf.specs.FteMic.{mic_field, fte_mic, input_of as covered_input}
use Rattle.mac_prf.specs.declared.reassociation.FteCovered.{FteCovered}
use Rattle.rsn_elements.specs.Transition.{FteFields, SpellsFte}
use Rattle.rsn_elements.specs.Elements.{ElementFields, IsRaw, HasRaw}
use Rattle.ft_exchange.specs.Tried.{input_of, tried_mic, IsCovered}
use Rattle.ft_exchange.specs.declared.mic.Between.{Between}
use Rattle.ft_exchange.specs.declared.mic.Tried.TheVariants.{Nothing, OtherMic, Verified}

same_some : (a b : List ℕ) → Some a ≡ Some b → a ≡ b
same_some a b is = cc

-- the octets of an FTE have its MIC at its place
record IsThere (f : FteFields) (octets : List ℕ) : Type 0 where
  long : 20 ≤ length octets
  mic : mic_field octets ≡ f.mic

there : (e : ElementFields) (f : FteFields) (octets : List ℕ) → HasRaw e → e.fte ≡ Some f → e.fte_octets ≡ Some octets → IsThere f octets
there e f octets raw has kept =
    let r : IsRaw 0x37 SpellsFte (Some f) e.fte_octets = subst (λ (o : Option FteFields). IsRaw 0x37 SpellsFte o e.fte_octets) has raw.fte in
    let body : List ℕ = r.0 in
    let same : 0x37 ∷ length body ∷ body ≡ octets = same_some (0x37 ∷ length body ∷ body) octets (sym r.1 ∙ kept) in
    let s : SpellsFte body f = r.2 in
    subst (λ (o : List ℕ). IsThere f o) same (record { long = omega (arith, s.long); mic = sym s.mic })

pub long_fte : (e : ElementFields) (f : FteFields) (w : Between) (c : FteCovered) → HasRaw e → e.fte ≡ Some f → IsCovered w e (Some c) → 20 ≤ length c.fte.now
long_fte e f w c raw has covered = (there e f c.fte.now raw has covered.1).long

pub nothing_tried : (e : ElementFields) (f : FteFields) (w : Between) (kck : List ℕ) → IsCovered w e None → Nothing ≡ tried_mic kck f (input_of w e)
nothing_tried e f w kck none = sym (ap (λ (o : Option (List ℕ)). tried_mic kck f o) none)

pub mic_right : (e : ElementFields) (f : FteFields) (w : Between) (c : FteCovered) (kck : List ℕ) → HasRaw e → e.fte ≡ Some f → IsCovered w e (Some c) → mic_field c.fte.now ≡ fte_mic kck (covered_input c)
    → Verified ≡ tried_mic kck f (input_of w e)
mic_right e f w c kck raw has covered verifies =
    let same : f.mic ≡ cmac kck (covered_input c) = sym (there e f c.fte.now raw has covered.1).mic ∙ verifies in
    sym (ap (λ (o : Option (List ℕ)). tried_mic kck f o) covered.0 ∙ rw ((bytes_eq-Decides f.mic (cmac kck (covered_input c))).1 same) refl)

pub mic_wrong : (e : ElementFields) (f : FteFields) (w : Between) (c : FteCovered) (kck : List ℕ) → HasRaw e → e.fte ≡ Some f → IsCovered w e (Some c) → (mic_field c.fte.now ≡ fte_mic kck (covered_input c) → ⊥)
    → OtherMic ≡ tried_mic kck f (input_of w e)
mic_wrong e f w c kck raw has covered other =
    let unlike : f.mic ≡ cmac kck (covered_input c) → ⊥ = λ same. other ((there e f c.fte.now raw has covered.1).mic ∙ same) in
    sym (ap (λ (o : Option (List ℕ)). tried_mic kck f o) covered.0 ∙ rw (not_same f.mic (cmac kck (covered_input c)) unlike) refl)
