-- The fields one after the other are spelled by the table of offsets.
use Rattle.std.proofs.Common.{◌≡◌, ℕ, ◌+◌, ◌-◌, ◌≤◌, List, ◌∷◌, ◌++◌, length, take, drop, refl, ap, ◌∙◌, arith, append_assoc}
use Rattle.std.specs.Int.{w16, w64, to_be_bytes, from_be_bytes}
use Rattle.std.proofs.lemmas.Nat.{from_be_bytes-to_be_bytes_2, from_be_bytes-to_be_bytes_8}
use Rattle.std.proofs.lemmas.List.{take_at, length-append}
use Rattle.std.proofs.Math.Seq.{drop-append-add}
use Rattle.domain_base.specs.Places.{part, big_endian_at}
use Rattle.eapol_key.specs.KeyFrame.{KeyFields, fields_at, SpellsKeyFrame}
use Rattle.eapol_key.specs.Octets.{FitsKeyFrame, frame_octets}

-- past the first part
pub skip : (xs ys : List ℕ) (n k : ℕ) → length xs ≡ n → drop (n + k) (xs ++ ys) ≡ drop k ys
skip xs ys n k h = rw (← h) (drop-append-add xs ys k)

module _ (f : KeyFields) (fits : FitsKeyFrame f) (rest : List ℕ) where
  size : List ℕ
  size = to_be_bytes w16 (length f.key_data)

  -- what stands behind the MIC, before it, and so on to the front
  behind_mic : List ℕ
  behind_mic = size ++ (f.key_data ++ rest)

  behind_reserved : List ℕ
  behind_reserved = f.mic ++ behind_mic

  behind_rsc : List ℕ
  behind_rsc = f.reserved ++ behind_reserved

  behind_iv : List ℕ
  behind_iv = f.rsc ++ behind_rsc

  behind_nonce : List ℕ
  behind_nonce = f.iv ++ behind_iv

  pub octets : List ℕ
  octets = (f.version ∷ 3 ∷ to_be_bytes w16 (95 + length f.key_data) ++ 2 ∷ to_be_bytes w16 f.information ++ to_be_bytes w16 f.key_length ++ to_be_bytes w64 f.counter) ++ (f.nonce ++ behind_nonce)

  number_fields : (big_endian_at w16 2 octets ≡ 95 + length f.key_data) × (big_endian_at w16 5 octets ≡ f.information) × (big_endian_at w16 7 octets ≡ f.key_length) × (big_endian_at w64 9 octets ≡ f.counter)
  unfolding octets
  number_fields = (from_be_bytes-to_be_bytes_2 (95 + length f.key_data) (omega (arith, fits.key_data)), from_be_bytes-to_be_bytes_2 f.information fits.information, from_be_bytes-to_be_bytes_2 f.key_length fits.key_length, from_be_bytes-to_be_bytes_8 f.counter fits.counter)

  nonce-is : part 17 32 octets ≡ f.nonce
  unfolding octets
  nonce-is = take_at f.nonce behind_nonce 32 fits.nonce

  at_iv : drop 49 octets ≡ behind_nonce
  unfolding octets behind_nonce
  at_iv = skip f.nonce behind_nonce 32 0 fits.nonce

  at_rsc : drop 65 octets ≡ behind_iv
  unfolding octets behind_nonce behind_iv
  at_rsc = skip f.nonce behind_nonce 32 16 fits.nonce ∙ skip f.iv behind_iv 16 0 fits.iv

  at_reserved : drop 73 octets ≡ behind_rsc
  unfolding octets behind_nonce behind_iv behind_rsc
  at_reserved = skip f.nonce behind_nonce 32 24 fits.nonce ∙ skip f.iv behind_iv 16 8 fits.iv ∙ skip f.rsc behind_rsc 8 0 fits.rsc

  at_mic : drop 81 octets ≡ behind_reserved
  unfolding octets behind_nonce behind_iv behind_rsc behind_reserved
  at_mic = skip f.nonce behind_nonce 32 32 fits.nonce ∙ skip f.iv behind_iv 16 16 fits.iv ∙ skip f.rsc behind_rsc 8 8 fits.rsc ∙ skip f.reserved behind_reserved 8 0 fits.reserved

  at_size : drop 97 octets ≡ behind_mic
  unfolding octets behind_nonce behind_iv behind_rsc behind_reserved behind_mic
  at_size = skip f.nonce behind_nonce 32 48 fits.nonce ∙ skip f.iv behind_iv 16 32 fits.iv ∙ skip f.rsc behind_rsc 8 24 fits.rsc ∙ skip f.reserved behind_reserved 8 16 fits.reserved ∙ skip f.mic behind_mic 16 0 fits.mic

  at_key_data : drop 99 octets ≡ f.key_data ++ rest
  unfolding octets behind_nonce behind_iv behind_rsc behind_reserved behind_mic size
  at_key_data = skip f.nonce behind_nonce 32 50 fits.nonce ∙ skip f.iv behind_iv 16 34 fits.iv ∙ skip f.rsc behind_rsc 8 26 fits.rsc ∙ skip f.reserved behind_reserved 8 18 fits.reserved ∙ skip f.mic behind_mic 16 2 fits.mic

  long : 99 + length f.key_data ≤ length octets
  unfolding octets behind_nonce behind_iv behind_rsc behind_reserved behind_mic size
  long = omega (
    arith,
    length-append f.nonce behind_nonce,
    length-append f.iv behind_iv,
    length-append f.rsc behind_rsc,
    length-append f.reserved behind_reserved,
    length-append f.mic behind_mic,
    length-append f.key_data rest,
    fits.nonce,
    fits.iv,
    fits.rsc,
    fits.reserved,
    fits.mic,
  )

  fields : f ≡ fields_at (99 + length f.key_data) octets
  unfolding octets behind_nonce behind_iv behind_rsc behind_reserved behind_mic size
  fields =
      let n = number_fields in
      let key_data_size : (99 + length f.key_data) - 99 ≡ length f.key_data = omega arith in
      rw (n.1, n.2, n.3, nonce-is, at_iv, at_rsc, at_reserved, at_mic, at_key_data, key_data_size) (
      rw (
        take_at f.iv behind_iv 16 fits.iv,
        take_at f.rsc behind_rsc 8 fits.rsc,
        take_at f.reserved behind_reserved 8 fits.reserved,
        take_at f.mic behind_mic 16 fits.mic,
        take_at f.key_data rest (length f.key_data) refl,
      ) refl
      )

  key_data_length : big_endian_at w16 97 octets ≡ length f.key_data
  unfolding size behind_mic
  key_data_length = ap (λ (w : List ℕ). from_be_bytes w16 (take 2 w)) at_size ∙ from_be_bytes-to_be_bytes_2 (length f.key_data) (omega (arith, fits.key_data))

  joined : frame_octets f ++ rest ≡ octets
  unfolding frame_octets octets behind_nonce behind_iv behind_rsc behind_reserved behind_mic size
  joined = simp append_assoc

  spelled : SpellsKeyFrame octets f (99 + length f.key_data)
  unfolding octets
  spelled = record {
    fields = fields;
    long = long;
    version_low = fits.version_low;
    version_high = fits.version_high;
    packet_type = refl;
    body_length = omega (arith, number_fields.0);
    descriptor = refl;
    key_data_length = omega (arith, key_data_length);
  }

  -- whatever stands behind them
  pub spelled_as_written : SpellsKeyFrame (frame_octets f ++ rest) f (99 + length f.key_data)
  spelled_as_written = rw joined spelled
