-- A frame is the fields that it spells, one after the other.
use Rattle.std.proofs.Common.{◌≡◌, ℕ, ◌+◌, ◌-◌, ◌≤◌, ◌<◌, List, [], ◌∷◌, ◌++◌, take, drop, length, get_or, refl, sym, ap, ◌∙◌, arith, append_assoc}
use Rattle.std.proofs.lemmas.List.{drop-drop, drop_more, length-take, length-drop}
use Rattle.std.proofs.lemmas.List.Elements.{All-take, All-drop}
use Rattle.std.proofs.lemmas.Nat.{be_bytes_2, be_bytes_8}
use Rattle.std.proofs.Math.Seq.{take-add}
use Rattle.std.specs.Int.{w16, w64, to_be_bytes}
use Rattle.domain_base.specs.Octets.{AreOctets}
use Rattle.domain_base.specs.Places.{part, big_endian_at}
use Rattle.domain_base.proofs.OctetLemmas.{get_or_below}
use Rattle.eapol_key.specs.KeyFrame.{KeyFields, SpellsKeyFrame}
use Rattle.eapol_key.specs.Octets.{frame_octets}

-- a part in two
in_two : (at n m k : ℕ) (octets : List ℕ) → k ≡ n + m → part at k octets ≡ part at n octets ++ part (at + n) m octets
in_two at n m k octets e =
    ap (λ (j : ℕ). take j (drop at octets)) e
    ∙ take-add n m (drop at octets)
    ∙ ap (λ (w : List ℕ). part at n octets ++ take m w) (drop-drop n at octets)

part-one : (at : ℕ) (octets : List ℕ) → at < length octets → part at 1 octets ≡ get_or octets at 0 ∷ []
part-one at octets h = ap (take 1) (drop_more octets at 0 h)

length-part : (at n : ℕ) (octets : List ℕ) → at + n ≤ length octets → length (part at n octets) ≡ n
length-part at n octets h = omega (arith, length-take n (drop at octets), length-drop at octets)

module _ (octets : List ℕ) (few : AreOctets octets) where
  few_in : (at n i : ℕ) → get_or (part at n octets) i 0 < 256
  few_in at n i = get_or_below (part at n octets) i (All-take (λ x. x < 256) n (drop at octets) (All-drop (λ x. x < 256) at octets few))

  two_octets : (at n : ℕ) → at + 2 ≤ length octets → big_endian_at w16 at octets ≡ n → part at 2 octets ≡ to_be_bytes w16 n
  two_octets at n h e = sym (be_bytes_2 (part at 2 octets) n (length-part at 2 octets h) (few_in at 2) (sym e))

  eight_octets : (at n : ℕ) → at + 8 ≤ length octets → big_endian_at w64 at octets ≡ n → part at 8 octets ≡ to_be_bytes w64 n
  eight_octets at n h e = sym (be_bytes_8 (part at 8 octets) n (length-part at 8 octets h) (few_in at 8) (sym e))

  module _ (f : KeyFields) (used : ℕ) (s : SpellsKeyFrame octets f used) where
    size : 99 ≤ used
    size = omega (arith, s.key_data_length)

    long : 99 ≤ length octets
    long = omega (arith, size, s.long)

    -- the frame, cut at the offsets of its fields
    cut : take used octets ≡ part 0 1 octets ++ (part 1 1 octets ++ (part 2 2 octets ++ (part 4 1 octets ++ (part 5 2 octets ++ (part 7 2 octets ++ (part 9 8 octets ++ (part 17 32 octets ++ (part 49 16 octets ++ (part 65 8 octets ++ (part 73 8 octets ++ (part 81 16 octets ++ (part 97 2 octets ++ part 99 (used - 99) octets))))))))))))
    cut = rw (
      in_two 0 1 (used - 1) used octets (omega (arith, size)),
      in_two 1 1 (used - 2) (used - 1) octets (omega (arith, size)),
      in_two 2 2 (used - 4) (used - 2) octets (omega (arith, size)),
      in_two 4 1 (used - 5) (used - 4) octets (omega (arith, size)),
      in_two 5 2 (used - 7) (used - 5) octets (omega (arith, size)),
      in_two 7 2 (used - 9) (used - 7) octets (omega (arith, size)),
      in_two 9 8 (used - 17) (used - 9) octets (omega (arith, size)),
      in_two 17 32 (used - 49) (used - 17) octets (omega (arith, size)),
      in_two 49 16 (used - 65) (used - 49) octets (omega (arith, size)),
      in_two 65 8 (used - 73) (used - 65) octets (omega (arith, size)),
      in_two 73 8 (used - 81) (used - 73) octets (omega (arith, size)),
      in_two 81 16 (used - 97) (used - 81) octets (omega (arith, size)),
      in_two 97 2 (used - 99) (used - 97) octets (omega (arith, size)),
    ) refl

    key_data_len : length f.key_data ≡ used - 99
    key_data_len = ap (λ (g : KeyFields). length g.key_data) s.fields ∙ length-part 99 (used - 99) octets (omega (arith, size, s.long))

    pub read_as_written : take used octets ≡ frame_octets f
    unfolding frame_octets
    read_as_written =
        cut ∙ rw (
          part-one 0 octets (omega (arith, long)) ∙ ap (λ (g : KeyFields). g.version ∷ []) (sym s.fields),
          part-one 1 octets (omega (arith, long)) ∙ ap (λ (n : ℕ). n ∷ []) s.packet_type,
          two_octets 2 (95 + length f.key_data) (omega (arith, long)) (omega (arith, s.body_length, key_data_len, size)),
          part-one 4 octets (omega (arith, long)) ∙ ap (λ (n : ℕ). n ∷ []) s.descriptor,
          two_octets 5 f.information (omega (arith, long)) (ap (λ (g : KeyFields). g.information) (sym s.fields)),
          two_octets 7 f.key_length (omega (arith, long)) (ap (λ (g : KeyFields). g.key_length) (sym s.fields)),
          eight_octets 9 f.counter (omega (arith, long)) (ap (λ (g : KeyFields). g.counter) (sym s.fields)),
          ap (λ (g : KeyFields). g.nonce) (sym s.fields),
          ap (λ (g : KeyFields). g.iv) (sym s.fields),
          ap (λ (g : KeyFields). g.rsc) (sym s.fields),
          ap (λ (g : KeyFields). g.reserved) (sym s.fields),
          ap (λ (g : KeyFields). g.mic) (sym s.fields),
          two_octets 97 (length f.key_data) (omega (arith, long)) (omega (arith, s.key_data_length, key_data_len, size)),
          ap (λ (g : KeyFields). g.key_data) (sym s.fields),
        ) (simp append_assoc)
