-- What frames are, by their subtype and by the numbers of an authentication.
use Rattle.std.proofs.Common.{arith, ◌≡◌, ◌≢◌, ◌∙◌, ℕ, List, refl, sym, inl, inr}
use Rattle.std.proofs.lemmas.Bool.{eq-eqb, ne_eqb, not_from_false, cond-true, cond-false, cases_eq}
use Rattle.air_frame.specs.Control.{frame_subtype}
use Rattle.air_frame.specs.Fields.{ignored, algorithm, transaction, assoc_req_at, assoc_resp_at, re_req_at, re_resp_at, action_at, authentication_at, management_at}

pub at_assoc_req : (octets : List ℕ) → frame_subtype octets ≡ 0 → assoc_req_at octets ≡ management_at octets
at_assoc_req octets is = sym (cond-true _ _ _ (eq-eqb (frame_subtype octets) 0 is))

pub at_other : (octets : List ℕ) → frame_subtype octets ≢ 0 → frame_subtype octets ≢ 1 → frame_subtype octets ≢ 2 → frame_subtype octets ≢ 3 → frame_subtype octets ≢ 13 → authentication_at octets ≡ management_at octets
at_other octets a b c d e =
    let n = frame_subtype octets in
    sym (cond-false _ _ _ (ne_eqb n 0 a) ∙ cond-false _ _ _ (ne_eqb n 1 b) ∙ cond-false _ _ _ (ne_eqb n 2 c) ∙ cond-false _ _ _ (ne_eqb n 3 d) ∙ cond-false _ _ _ (ne_eqb n 13 e))

pub at_neither : (octets : List ℕ) → (algorithm octets ≡ 2 → transaction octets ≢ 1) → (algorithm octets ≡ 2 → transaction octets ≢ 2) → ignored ≡ authentication_at octets
at_neither octets one two =
    elim (cases_eq (algorithm octets) 2) [
      | inl ft ↦ sym (rw (ft, ne_eqb (transaction octets) 1 (one ft), ne_eqb (transaction octets) 2 (two ft)) refl)
      | inr apart ↦ sym (cond-true _ _ _ (not_from_false _ (ne_eqb _ _ apart)))
    ]

pub at_assoc_resp : (octets : List ℕ) → frame_subtype octets ≡ 1 → assoc_resp_at octets ≡ management_at octets
at_assoc_resp octets is =
    let n = frame_subtype octets in
    sym (cond-false _ _ _ (ne_eqb n 0 (λ h. omega (arith, h, is))) ∙ cond-true _ _ _ (eq-eqb n 1 is))

pub at_re_req : (octets : List ℕ) → frame_subtype octets ≡ 2 → re_req_at octets ≡ management_at octets
at_re_req octets is =
    let n = frame_subtype octets in
    sym (cond-false _ _ _ (ne_eqb n 0 (λ h. omega (arith, h, is))) ∙ (cond-false _ _ _ (ne_eqb n 1 (λ h. omega (arith, h, is))) ∙ cond-true _ _ _ (eq-eqb n 2 is)))

pub at_re_resp : (octets : List ℕ) → frame_subtype octets ≡ 3 → re_resp_at octets ≡ management_at octets
at_re_resp octets is =
    let n = frame_subtype octets in
    sym (cond-false _ _ _ (ne_eqb n 0 (λ h. omega (arith, h, is))) ∙ (cond-false _ _ _ (ne_eqb n 1 (λ h. omega (arith, h, is))) ∙ (cond-false _ _ _ (ne_eqb n 2 (λ h. omega (arith, h, is))) ∙ cond-true _ _ _ (eq-eqb n 3 is))))

pub at_action : (octets : List ℕ) → frame_subtype octets ≡ 13 → action_at octets ≡ management_at octets
at_action octets is =
    let n = frame_subtype octets in
    sym (cond-false _ _ _ (ne_eqb n 0 (λ h. omega (arith, h, is))) ∙ (cond-false _ _ _ (ne_eqb n 1 (λ h. omega (arith, h, is))) ∙ (cond-false _ _ _ (ne_eqb n 2 (λ h. omega (arith, h, is))) ∙ (cond-false _ _ _ (ne_eqb n 3 (λ h. omega (arith, h, is))) ∙ cond-true _ _ _ (eq-eqb n 13 is)))))
