-- What is known of a frame that some octets spell.
use Rattle.std.proofs.Common.{◌≡◌, ℕ, ◌≤◌, ◌%◌, Bool, true, false, cond, List, [], ◌∷◌, take, drop, length, get_or, Option, Some, None, refl, sym, ap, subst, ◌∙◌, arith}
use Rattle.std.specs.Prelude.{is_some}
use Rattle.std.specs.Int.{bit_at}
use Rattle.std.proofs.lemmas.Bool.{and_parts, eqb-true}
use Rattle.std.proofs.lemmas.List.{length-take-le, length-drop, get_or-drop}
use Rattle.air_frame.specs.declared.frame.Direction.{Direction}
use Rattle.air_frame.specs.Control.{frame_control, frame_type, frame_subtype, is_action, is_qos, data_header_length, traffic_identifier, ends_in_mme}
use Rattle.air_frame.specs.Fields.{HeaderFields, AirFields, action, protected, tid_at, header_at}
use Rattle.air_frame.specs.Spelled.{IsGroupAction, IsProtectedData, IsSpelled}

-- the length of the header says whether there is a TID
by_test : (b : Bool) (t : ℕ) → ◌≡◌ {A = ℕ} (cond b 26 24) (cond (is_some (cond b (Some t) None)) 26 24)
by_test true t = refl
by_test false t = refl

sized : (octets : List ℕ) → data_header_length octets ≡ cond (is_some (tid_at octets)) 26 24
sized octets = by_test (is_qos octets) (traffic_identifier octets)

-- a protected frame: header of 24 octets, or 26 with a TID; body of 16 octets at least, with the bit ExtIV
pub record IsProtectedShape (header : HeaderFields) (tid : Option ℕ) (body : List ℕ) : Type 0 where
  pub header_size : length header.octets ≡ cond (is_some tid) 26 24
  pub body_size : 16 ≤ length body
  pub ext_iv : bit_at (get_or body 3 0) 5 ≡ 1

protected_at-shape : (octets : List ℕ) → IsProtectedData octets → IsProtectedShape (header_at (data_header_length octets) octets) (tid_at octets) (drop (data_header_length octets) octets)
protected_at-shape octets s = record {
  header_size = length-take-le (data_header_length octets) octets (omega (arith, s.frame.long)) ∙ sized octets;
  body_size = omega (arith, s.frame.long, length-drop (data_header_length octets) octets);
  ext_iv = ap (λ (n : ℕ). bit_at n 5) (get_or-drop (data_header_length octets) octets 3 0) ∙ s.ext_iv;
}

-- the parts of a protected frame
shaped : AirFields → Type 0
shaped (protected header direction tid body) = IsProtectedShape header tid body
shaped _ = Unit {0}

pub protected-shape : (header : HeaderFields) (direction : Direction) (tid : Option ℕ) (body : List ℕ) → IsSpelled (protected header direction tid body) → IsProtectedShape header tid body
unfolding shaped
protected-shape header direction tid body s = subst (λ (f : AirFields). shaped f) (sym s.spelled.0) (protected_at-shape s.octets s.spelled.1)

-- an action frame to a group: header of 24 octets, A1 a group address, body that ends in an MME after an octet at least
pub record IsActionShape (header : HeaderFields) (body : List ℕ) : Type 0 where
  pub header_size : length header.octets ≡ 24
  pub group : get_or header.a1 0 0 % 2 ≡ 1
  pub body_size : 19 ≤ length body
  pub mme : ends_in_mme body ≡ true

first_of : (xs : List ℕ) → get_or (take 6 xs) 0 0 ≡ get_or xs 0 0
first_of [] = refl
first_of (x ∷ xs) = refl

action_at-shape : (octets : List ℕ) → IsGroupAction octets → IsActionShape (header_at 24 octets) (drop 24 octets)
action_at-shape octets s = record {
  header_size = length-take-le 24 octets (omega (arith, s.frame.long));
  group = ap (λ (n : ℕ). n % 2) (first_of (drop 4 octets) ∙ get_or-drop 4 octets 0 0) ∙ eqb-true _ _ (and_parts _ _ s.group).1;
  body_size = omega (arith, s.frame.long, length-drop 24 octets);
  mme = s.mme;
}

-- the parts of an action frame
shaped_action : AirFields → Type 0
shaped_action (action header body) = IsActionShape header body
shaped_action _ = Unit {0}

pub action-shape : (header : HeaderFields) (body : List ℕ) → IsSpelled (action header body) → IsActionShape header body
unfolding shaped_action
action-shape header body s = subst (λ (f : AirFields). shaped_action f) (sym s.spelled.0) (action_at-shape s.octets s.spelled.1)

-- octets that begin as those of an action frame are, by type and subtype, one
pub begins_action : (octets : List ℕ) → is_action octets ≡ true → 2 ≤ length octets → (frame_type octets ≡ 0) × (frame_subtype octets ≡ 13)
unfolding frame_control
begins_action [] is long = absurd (omega (arith, long))
begins_action (a ∷ []) is long = absurd (omega (arith, long))
begins_action (a ∷ b ∷ rest) is long = let first : a ≡ 0xd0 = eqb-true _ _ is in (omega (arith, first), omega (arith, first))
