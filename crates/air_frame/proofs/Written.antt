-- The octets of a frame are those that spell it.
use Rattle.std.proofs.Common.{◌≡◌, ◌≢◌, ℕ, ◌+◌, ◌<◌, ◌≤◌, List, ◌++◌, length, take, drop, refl, sym, ap, subst, ◌∙◌, arith}
use Rattle.std.specs.Int.{w16, to_le_bytes}
use Rattle.std.proofs.lemmas.Nat.{le_bytes_2}
use Rattle.std.proofs.lemmas.List.{length-take, length-drop, drop-drop, take-append-drop}
use Rattle.std.proofs.lemmas.List.Elements.{All-take, All-drop}
use Rattle.domain_base.specs.Octets.{AreOctets}
use Rattle.domain_base.specs.Places.{part, little_endian_at}
use Rattle.domain_base.proofs.OctetLemmas.{get_or_below}
use Rattle.air_frame.specs.Control.{data_header_length}
use Rattle.air_frame.specs.Fields.{AirFields, assoc_req, assoc_resp, ft_req, ft_resp, re_req, re_resp, action, eapol, protected, ignored}
use Rattle.air_frame.specs.Spelled.{IsFtAuthentication, SpellsAir, IsSpelled}
use Rattle.air_frame.specs.Sent.{air_octets}
use Rattle.air_frame.specs.Views.{fields_of}
use Rattle.air_frame.specs.declared.frame.AirFrame.{AirFrame}
use Rattle.air_frame.specs.declared.frame.AirFrame.TheVariants.{AssocReq, AssocResp, FtReq, FtResp, ReReq, ReResp, Action, Eapol, Protected, Ignored}

part-length : (octets : List ℕ) (at n : ℕ) → at + n ≤ length octets → length (part at n octets) ≡ n
part-length octets at n h = omega (arith, length-take n (drop at octets), length-drop at octets)

part-octets : (octets : List ℕ) (at n : ℕ) → AreOctets octets → AreOctets (part at n octets)
part-octets octets at n bound = All-take (λ x. x < 256) n (drop at octets) (All-drop (λ x. x < 256) at octets bound)

module _ (octets : List ℕ) (bound : AreOctets octets) where
  number : (at : ℕ) → at + 2 ≤ length octets → to_le_bytes w16 (little_endian_at w16 at octets) ≡ part at 2 octets
  number at h = le_bytes_2 (part at 2 octets) _ (part-length octets at 2 h) (λ i. get_or_below (part at 2 octets) i (part-octets octets at 2 bound)) refl

  cut : (at n : ℕ) → part at n octets ++ drop (at + n) octets ≡ drop at octets
  cut at n = ap (λ (w : List ℕ). part at n octets ++ w) (sym (drop-drop n at octets)) ∙ take-append-drop n (drop at octets)

  -- a header and then the rest
  whole : (at : ℕ) (rest : List ℕ) → rest ≡ drop at octets → take at octets ++ rest ≡ octets
  whole at rest e = ap (λ (w : List ℕ). take at octets ++ w) e ∙ take-append-drop at octets

  -- a number and then the rest
  number_then : (at : ℕ) (rest : List ℕ) → at + 2 ≤ length octets → rest ≡ drop (at + 2) octets → to_le_bytes w16 (little_endian_at w16 at octets) ++ rest ≡ drop at octets
  number_then at rest h e = ap (λ (w : List ℕ). w ++ rest) (number at h) ∙ (ap (λ (w : List ℕ). part at 2 octets ++ w) e ∙ cut at 2)

  -- the same where the number is known
  known_then : (at n : ℕ) (rest : List ℕ) → at + 2 ≤ length octets → little_endian_at w16 at octets ≡ n → rest ≡ drop (at + 2) octets → to_le_bytes w16 n ++ rest ≡ drop at octets
  known_then at n rest h k e = ap (λ (m : ℕ). to_le_bytes w16 m ++ rest) (sym k) ∙ number_then at rest h e

  response_octets : 30 ≤ length octets → take 24 octets ++ (to_le_bytes w16 (little_endian_at w16 24 octets) ++ (to_le_bytes w16 (little_endian_at w16 26 octets) ++ (to_le_bytes w16 (little_endian_at w16 28 octets) ++ drop 30 octets))) ≡ octets
  response_octets h =
      whole 24 _ (number_then 24 _ (omega arith) (number_then 26 _ (omega arith) (number_then 28 _ (omega arith) refl)))

  ft_octets : (n : ℕ) → IsFtAuthentication octets n → take 24 octets ++ (to_le_bytes w16 2 ++ (to_le_bytes w16 n ++ (to_le_bytes w16 (little_endian_at w16 28 octets) ++ drop 30 octets))) ≡ octets
  ft_octets n s =
      whole 24 _ (known_then 24 2 _ (omega (arith, s.authentication.long)) s.ft (known_then 26 n _ (omega (arith, s.authentication.long)) s.sequence (number_then 28 _ (omega (arith, s.authentication.long)) refl)))

  pub written : (f : AirFields) → SpellsAir octets f → f ≢ ignored → air_octets f ≡ octets
  written (assoc_req h c i e) s k = ap air_octets s.0 ∙ whole 24 _ (number_then 24 _ (omega (arith, s.1.long)) (number_then 26 _ (omega (arith, s.1.long)) refl))
  written (assoc_resp h c t a e) s k = ap air_octets s.0 ∙ response_octets s.1.long
  written (re_req h c i a e) s k =
      ap air_octets s.0 ∙ whole 24 _ (number_then 24 _ (omega (arith, s.1.long)) (number_then 26 _ (omega (arith, s.1.long)) (cut 28 6)))
  written (re_resp h c t a e) s k = ap air_octets s.0 ∙ response_octets s.1.long
  written (ft_req h t e) s k = ap air_octets s.0 ∙ ft_octets 1 s.1
  written (ft_resp h t e) s k = ap air_octets s.0 ∙ ft_octets 2 s.1
  written (action h b) s k = ap air_octets s.0 ∙ take-append-drop 24 octets
  written (eapol h d t b) s k =
      ap air_octets s.0 ∙ whole (data_header_length octets) _ (ap (λ (w : List ℕ). w ++ drop (data_header_length octets + 8) octets) (sym s.1.llc) ∙ cut (data_header_length octets) 8)
  written (protected h d t b) s k = ap air_octets s.0 ∙ take-append-drop (data_header_length octets) octets
  written ignored s k = absurd (k refl)

-- what is written spells the frame
pub spelled_again : (f : AirFields) → IsSpelled f → f ≢ ignored → SpellsAir (air_octets f) f
spelled_again f s k = subst (λ (w : List ℕ). SpellsAir w f) (sym (written s.octets s.bound f s.spelled k)) s.spelled

-- a frame that is not passed over says so
pub kept : (frame : AirFrame) → frame ≢ Ignored → fields_of frame ≢ ignored
kept (AssocReq f) k e = absurd cc
kept (AssocResp f) k e = absurd cc
kept (FtReq f) k e = absurd cc
kept (FtResp f) k e = absurd cc
kept (ReReq f) k e = absurd cc
kept (ReResp f) k e = absurd cc
kept (Action f) k e = absurd cc
kept (Eapol f) k e = absurd cc
kept (Protected f) k e = absurd cc
kept Ignored k e = k refl
