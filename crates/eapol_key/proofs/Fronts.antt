-- A frame is decided by its own octets.
use Rattle.std.proofs.Common.{◌≡◌, ℕ, ◌+◌, ◌-◌, ◌≤◌, List, take, drop, length, refl, sym, ap, subst, ◌∙◌, arith}
use Rattle.std.proofs.lemmas.List.{drop-take, take-take, get_or-take, length-take}
use Rattle.std.specs.Int.{Width, byte_len, w16, w64, from_be_bytes}
use Rattle.domain_base.specs.Places.{part, big_endian_at}
use Rattle.eapol_key.specs.KeyFrame.{KeyFields, fields_at, SpellsKeyFrame}

-- a part of a front is that of the whole
pub part-take : (at n used : ℕ) (octets : List ℕ) → at + n ≤ used → part at n (take used octets) ≡ part at n octets
part-take at n used octets h =
    ap (λ (m : ℕ). take n (drop at (take m octets))) (let e : used ≡ at + (used - at) = omega arith in e)
    ∙ ap (λ (w : List ℕ). take n w) (drop-take at (used - at) octets)
    ∙ take-take n (used - at) (drop at octets) (omega arith)

number-take : (w : Width) (at used : ℕ) (octets : List ℕ) → at + byte_len w ≤ used → big_endian_at w at (take used octets) ≡ big_endian_at w at octets
number-take w at used octets h = ap (λ (x : List ℕ). from_be_bytes w x) (part-take at (byte_len w) used octets h)

fields-take : (used : ℕ) (octets : List ℕ) → 99 ≤ used → fields_at used (take used octets) ≡ fields_at used octets
fields-take used octets h =
    rw (
      get_or-take used octets 0 0 (omega arith),
      number-take w16 5 used octets (omega arith),
      number-take w16 7 used octets (omega arith),
      number-take w64 9 used octets (omega arith),
      part-take 17 32 used octets (omega arith),
      part-take 49 16 used octets (omega arith),
      part-take 65 8 used octets (omega arith),
      part-take 73 8 used octets (omega arith),
      part-take 81 16 used octets (omega arith),
      part-take 99 (used - 99) used octets (omega arith),
    ) refl

-- a frame's own octets spell it
pub front_spells : (octets : List ℕ) (f : KeyFields) (used : ℕ) → SpellsKeyFrame octets f used → SpellsKeyFrame (take used octets) f used
front_spells octets f used s =
    let size : 99 ≤ used = omega (arith, s.key_data_length) in
    record {
      fields = s.fields ∙ sym (fields-take used octets size);
      long = omega (arith, length-take used octets, s.long);
      version_low = rw (get_or-take used octets 0 0 (omega arith)) s.version_low;
      version_high = rw (get_or-take used octets 0 0 (omega arith)) s.version_high;
      packet_type = get_or-take used octets 1 0 (omega arith) ∙ s.packet_type;
      body_length = ap (λ (n : ℕ). n + 4) (number-take w16 2 used octets (omega arith)) ∙ s.body_length;
      descriptor = get_or-take used octets 4 0 (omega arith) ∙ s.descriptor;
      key_data_length = ap (λ (n : ℕ). n + 99) (number-take w16 97 used octets (omega arith)) ∙ s.key_data_length;
    }

-- octets whose front spells a frame
pub spelled_by_front : (octets : List ℕ) (f : KeyFields) (used : ℕ) → SpellsKeyFrame (take used octets) f used → SpellsKeyFrame octets f used
spelled_by_front octets f used s =
    let size : 99 ≤ used = omega (arith, s.key_data_length) in
    record {
      fields = s.fields ∙ fields-take used octets size;
      long = omega (arith, length-take used octets, s.long);
      version_low = rw (← get_or-take used octets 0 0 (omega arith)) s.version_low;
      version_high = rw (← get_or-take used octets 0 0 (omega arith)) s.version_high;
      packet_type = sym (get_or-take used octets 1 0 (omega arith)) ∙ s.packet_type;
      body_length = ap (λ (n : ℕ). n + 4) (sym (number-take w16 2 used octets (omega arith))) ∙ s.body_length;
      descriptor = sym (get_or-take used octets 4 0 (omega arith)) ∙ s.descriptor;
      key_data_length = ap (λ (n : ℕ). n + 99) (sym (number-take w16 97 used octets (omega arith))) ∙ s.key_data_length;
    }

-- any octets with the same front spell the same
pub same_front_spells : (octets other : List ℕ) (f : KeyFields) (used : ℕ) → SpellsKeyFrame octets f used → take used other ≡ take used octets → SpellsKeyFrame other f used
same_front_spells octets other f used s e =
    spelled_by_front other f used (let P : List ℕ → Type 0 = λ (w : List ℕ). SpellsKeyFrame w f used in subst P (sym e) (front_spells octets f used s))

-- a frame that was cut out of what was read
pub cut_spells : (octets whole : List ℕ) (f : KeyFields) (used : ℕ) → SpellsKeyFrame octets f used → whole ≡ take used octets → SpellsKeyFrame whole f (length whole)
cut_spells octets whole f used s e =
    let n : length whole ≡ used = ap length e ∙ length-take used octets ∙ omega (arith, s.long) in
    rw (n, e) (front_spells octets f used s)
