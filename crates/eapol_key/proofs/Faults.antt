-- Octets with no fault are a frame, and a frame has no fault.
use Rattle.std.proofs.Common.{◌≡◌, ℕ, ◌+◌, ◌-◌, ◌≤◌, Bool, true, false, cond, List, take, drop, length, get_or, Option, Some, None, refl, sym, ap, ◌∙◌, arith}
use Rattle.std.specs.Int.{w16}
use Rattle.std.proofs.lemmas.Bool.{ltb-false, le-ltb, eqb-true, eq-eqb, or_parts, or_from, not-false, not_from_true}
use Rattle.std.proofs.lemmas.List.{drop-take}
use Rattle.domain_base.specs.Places.{part, big_endian_at}
use Rattle.eapol_key.specs.KeyFrame.{KeyFields, fields_at, SpellsKeyFrame, key_frame_fault}

-- a test that gave nothing
passed : {X : Type 0} (b : Bool) (x : X) (rest : Option X) → cond b (Some x) rest ≡ None → (b ≡ false) × (rest ≡ None)
passed true x rest e = absurd cc
passed false x rest e = (refl, e)

-- what the tests say
pub record IsSound (octets : List ℕ) : Type 0 where
  pub version_low : 1 ≤ get_or octets 0 0
  pub version_high : get_or octets 0 0 ≤ 3
  pub packet_type : get_or octets 1 0 ≡ 3
  pub body_low : 95 ≤ big_endian_at w16 2 octets
  pub body_high : big_endian_at w16 2 octets + 4 ≤ length octets
  pub descriptor : get_or octets 4 0 ≡ 2
  pub key_data_length : big_endian_at w16 97 octets + 95 ≡ big_endian_at w16 2 octets

pub sound_from_none : (octets : List ℕ) → key_frame_fault octets ≡ None → IsSound octets
sound_from_none octets e =
    let a = passed _ _ _ e in
    let b = passed _ _ _ a.1 in
    let c = passed _ _ _ b.1 in
    let d = passed _ _ _ c.1 in
    let f = passed _ _ _ d.1 in
    let g = passed _ _ _ f.1 in
    let version = or_parts _ _ b.0 in
    let body = or_parts _ _ d.0 in
    record {
      version_low = ltb-false _ _ version.0;
      version_high = ltb-false _ _ version.1;
      packet_type = eqb-true _ _ (not-false _ c.0);
      body_low = ltb-false _ _ body.0;
      body_high = ltb-false _ _ body.1;
      descriptor = eqb-true _ _ (not-false _ f.0);
      key_data_length = eqb-true _ _ (not-false _ g.0);
    }

pub none_from_sound : (octets : List ℕ) → IsSound octets → key_frame_fault octets ≡ None
none_from_sound octets s =
    rw (
      le-ltb (length octets) 4 (omega (arith, s.body_low, s.body_high)),
      or_from _ _ (le-ltb (get_or octets 0 0) 1 s.version_low) (le-ltb 3 (get_or octets 0 0) s.version_high),
      not_from_true _ (eq-eqb _ _ s.packet_type),
      or_from _ _ (le-ltb _ _ s.body_low) (le-ltb _ _ s.body_high),
      not_from_true _ (eq-eqb _ _ s.descriptor),
      not_from_true _ (eq-eqb _ _ s.key_data_length),
    ) refl

pub sound_from_frame : (octets : List ℕ) (f : KeyFields) (used : ℕ) → SpellsKeyFrame octets f used → IsSound octets
sound_from_frame octets f used s = record {
  version_low = s.version_low;
  version_high = s.version_high;
  packet_type = s.packet_type;
  body_low = omega (arith, s.body_length, s.key_data_length);
  body_high = omega (arith, s.body_length, s.long);
  descriptor = s.descriptor;
  key_data_length = omega (arith, s.body_length, s.key_data_length);
}

-- octets begin with one frame at most
pub same_frame : (octets : List ℕ) (f g : KeyFields) (used taken : ℕ) → SpellsKeyFrame octets f used → SpellsKeyFrame octets g taken → (f ≡ g) × (used ≡ taken)
same_frame octets f g used taken s t =
    let n : used ≡ taken = omega (arith, s.body_length, t.body_length) in
    (s.fields ∙ ap (λ (u : ℕ). fields_at u octets) n ∙ sym t.fields, n)

-- the key data, after two cuts
pub key_data_from_cuts : (octets whole tail : List ℕ) (used : ℕ) → 99 ≤ used → whole ≡ take used octets → tail ≡ drop 99 whole → tail ≡ part 99 (used - 99) octets
key_data_from_cuts octets whole tail used h w t =
    let n : used ≡ 99 + (used - 99) = omega arith in
    t ∙ ap (λ (x : List ℕ). drop 99 x) (w ∙ ap (λ (u : ℕ). take u octets) n) ∙ drop-take 99 (used - 99) octets
