-- A frame whose MIC field is written over.
use Rattle.std.proofs.Common.{◌≡◌, ℕ, ◌+◌, ◌≤◌, ◌<◌, List, ◌++◌, take, drop, length, get_or, refl, sym, ap, ◌∙◌, arith, append_assoc}
use Rattle.std.proofs.lemmas.List.{take_at, drop_at, drop-drop, get_or-take, length-append, length-take, length-drop}
use Rattle.std.specs.Int.{Width, byte_len, w16, w64, from_be_bytes}
use Rattle.domain_base.specs.Places.{part, big_endian_at}
use Rattle.eapol_key.specs.KeyFrame.{KeyFields, fields_at, SpellsKeyFrame}
use Rattle.eapol_key.proofs.Fronts.{part-take}
use Rattle.eapol_key.proofs.Written.{skip}

module _ (octets new : List ℕ) (long : 97 ≤ length octets) (size : length new ≡ 16) where
  over : List ℕ
  over = take 81 octets ++ new ++ drop 97 octets

  front_len : length (take 81 octets) ≡ 81
  front_len = length-take 81 octets ∙ omega arith

  regrouped : over ≡ take 81 octets ++ (new ++ drop 97 octets)
  unfolding over
  regrouped = append_assoc (take 81 octets) new (drop 97 octets)

  front : take 81 over ≡ take 81 octets
  front = ap (take 81) regrouped ∙ take_at (take 81 octets) (new ++ drop 97 octets) 81 front_len

  behind_front : drop 81 over ≡ new ++ drop 97 octets
  behind_front = ap (drop 81) regrouped ∙ skip (take 81 octets) (new ++ drop 97 octets) 81 0 front_len

  back : drop 97 over ≡ drop 97 octets
  back = ap (drop 97) regrouped ∙ skip (take 81 octets) (new ++ drop 97 octets) 81 16 front_len ∙ drop_at new (drop 97 octets) 16 size

  further_back : drop 99 over ≡ drop 99 octets
  further_back = sym (drop-drop 2 97 over) ∙ ap (drop 2) back ∙ drop-drop 2 97 octets

  octet_before : (i : ℕ) → i < 81 → get_or over i 0 ≡ get_or octets i 0
  octet_before i h = sym (get_or-take 81 over i 0 h) ∙ ap (λ (w : List ℕ). get_or w i 0) front ∙ get_or-take 81 octets i 0 h

  part_before : (at n : ℕ) → at + n ≤ 81 → part at n over ≡ part at n octets
  part_before at n h = sym (part-take at n 81 over h) ∙ ap (λ (w : List ℕ). part at n w) front ∙ part-take at n 81 octets h

  number_before : (w : Width) (at : ℕ) → at + byte_len w ≤ 81 → big_endian_at w at over ≡ big_endian_at w at octets
  number_before w at h = ap (λ (x : List ℕ). from_be_bytes w x) (part_before at (byte_len w) h)

  mic-is : part 81 16 over ≡ new
  mic-is = ap (take 16) behind_front ∙ take_at new (drop 97 octets) 16 size

  length-over : length over ≡ length octets
  unfolding over
  length-over = omega (
    arith,
    length-append (take 81 octets ++ new) (drop 97 octets),
    length-append (take 81 octets) new,
    front_len,
    size,
    length-drop 97 octets,
  )

  fields_over : (used : ℕ) → fields_at used over ≡ record (fields_at used octets) { mic = new }
  fields_over used =
      rw (
        octet_before 0 (omega arith),
        number_before w16 5 (omega arith),
        number_before w16 7 (omega arith),
        number_before w64 9 (omega arith),
        part_before 17 32 (omega arith),
        part_before 49 16 (omega arith),
        part_before 65 8 (omega arith),
        part_before 73 8 (omega arith),
        mic-is,
        further_back,
      ) refl

  pub spells_over : (f : KeyFields) (used : ℕ) → SpellsKeyFrame octets f used → SpellsKeyFrame (take 81 octets ++ new ++ drop 97 octets) (record f { mic = new }) used
  unfolding over
  spells_over f used s = record {
    fields = ap (λ (g : KeyFields). record g { mic = new }) s.fields ∙ sym (fields_over used);
    long = omega (arith, length-over, s.long);
    version_low = rw (octet_before 0 (omega arith)) s.version_low;
    version_high = rw (octet_before 0 (omega arith)) s.version_high;
    packet_type = octet_before 1 (omega arith) ∙ s.packet_type;
    body_length = ap (λ (n : ℕ). n + 4) (number_before w16 2 (omega arith)) ∙ s.body_length;
    descriptor = octet_before 4 (omega arith) ∙ s.descriptor;
    key_data_length = ap (λ (w : List ℕ). from_be_bytes w16 (take 2 w) + 99) back ∙ s.key_data_length;
  }

-- a spelled frame is long enough
pub spells_with_mic : (octets new : List ℕ) (f : KeyFields) (used : ℕ) → SpellsKeyFrame octets f used → length new ≡ 16 → SpellsKeyFrame (take 81 octets ++ new ++ drop 97 octets) (record f { mic = new }) used
spells_with_mic octets new f used s size = spells_over octets new (omega (arith, s.long, s.key_data_length)) size f used s
