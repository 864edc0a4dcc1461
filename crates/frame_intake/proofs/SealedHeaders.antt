-- What is known of protected data that octets spell.
use Rattle.std.proofs.Common.{◌≡◌, ℕ, Bool, true, false, cond, List, drop, length, take, Option, Some, None, refl, sym, ap, subst, ◌∙◌, arith, inl, inr}
use Rattle.std.specs.Prelude.{◌==◌, ◌%◌, slice_index, unwrap_or, if◌then◌else◌}
use Rattle.std.specs.Int.{bit_at}
use Rattle.std.proofs.lemmas.List.{get_or-take, get_or-drop, length-take, length-drop, take-append-drop}
use Rattle.air_frame.specs.declared.frame.Direction.{Direction}
use Rattle.air_frame.specs.Control.{is_qos, data_header_length}
use Rattle.air_frame.specs.Control as control
use Rattle.air_frame.specs.Fields.{HeaderFields, AirFields, protected, header_at, direction_at, tid_at}
use Rattle.air_frame.specs.Spelled.{IsProtectedData, SpellsAir}
use Rattle.ccmp_guard.specs.Ccmp.{IsHeader, traffic_identifier}
use Rattle.domain_base.specs.Octets.{AreOctets}
use Rattle.frame_intake.specs.SealedFields.{SealedFields, IsSealedData}

fields : HeaderFields → Direction → Option ℕ → List ℕ → SealedFields
fields header way tid body = record { header = header; direction = way; tid = tid; body = body }

-- the TID of a header of that size
tid_of : (octets : List ℕ) (size : ℕ) (b : Bool) → size ≡ cond b 26 24 → length (take size octets) ≡ size → unwrap_or (cond b (Some (control.traffic_identifier octets)) None) 0 ≡ traffic_identifier (take size octets)
tid_of octets size true is long =
    sym (ap (λ (n : ℕ). if n == 26 then slice_index (take size octets) 24 % 16 else 0) (long ∙ is) ∙ ap (λ (x : ℕ). x % 16) (get_or-take size octets 24 0 (omega (arith, is))))
tid_of octets size false is long =
    sym (ap (λ (n : ℕ). if n == 26 then slice_index (take size octets) 24 % 16 else 0) (long ∙ is))

header_of_size : (octets : List ℕ) (size : ℕ) (b : Bool) → size ≡ cond b 26 24 → length (take size octets) ≡ size → IsHeader (take size octets)
header_of_size octets size true is long = inr (long ∙ is)
header_of_size octets size false is long = inl (long ∙ is)

at_protected : (octets : List ℕ) → AreOctets octets → IsProtectedData octets → IsSealedData (fields (header_at (data_header_length octets) octets) (direction_at octets) (tid_at octets) (drop (data_header_length octets) octets))
unfolding fields
at_protected octets small s =
    let size : ℕ = data_header_length octets in
    let long : length (take size octets) ≡ size = omega (arith, length-take size octets, s.frame.long) in
    record {
      header = header_of_size octets size (is_qos octets) refl long;
      tid = tid_of octets size (is_qos octets) refl long;
      long = omega (arith, s.frame.long, length-drop size octets);
      extended = ap (λ (n : ℕ). bit_at n 5) (get_or-drop size octets 3 0) ∙ s.ext_iv;
      octets = subst AreOctets (sym (take-append-drop size octets)) small;
    }

-- the parts of protected data
sealed_in : AirFields → Type 0
sealed_in (protected header way tid body) = IsSealedData (fields header way tid body)
sealed_in _ = Unit {0}

pub sealed_data : (octets : List ℕ) (header : HeaderFields) (way : Direction) (tid : Option ℕ) (body : List ℕ) → AreOctets octets → SpellsAir octets (protected header way tid body) → IsSealedData (record { header = header; direction = way; tid = tid; body = body })
unfolding fields sealed_in
sealed_data octets header way tid body small s = subst (λ (f : AirFields). sealed_in f) (sym s.0) (at_protected octets small s.1)
