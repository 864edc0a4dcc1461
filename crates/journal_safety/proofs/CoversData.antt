-- What the octets under a seal of CCM say: the TID, the way of the frame, its packet number and the plain text. Each is a function of
-- the octets, so that octets that are sealed alike say the same.
use Rattle.std.proofs.Common.{◌≡◌, ◌⊎◌, inl, inr, ℕ, ◌+◌, ◌^◌, ◌<◌, ◌≤◌, ◌/◌, ◌%◌, Bool, true, false, cond, List, [], ◌∷◌, ◌++◌, length, take, drop, refl, ap, ◌∙◌, arith}
use Rattle.std.specs.Prelude.{◌==◌, slice_index, bit_and, bit_or}
use Rattle.std.specs.Int.{w64, to_be_bytes, from_be_bytes}
use Rattle.std.proofs.lemmas.Nat.{from_be_bytes-to_be_bytes_8}
use Rattle.std.proofs.lemmas.List.{append_assoc, take_at, drop_at, length-append, length-take, length-drop}
use Rattle.domain_base.specs.Places.{part}
use Rattle.ccmp_guard.specs.Ccmp.{IsHeader, traffic_identifier, ccm_nonce, ccm_aad, sealed_octets}

-- ---- by the offsets of the fields, one more for the form in front

-- which form of sealed octets: 1 of a MIC, 3 of CCM
abbrev pub covered_form : List ℕ → ℕ
covered_form [] = 0
covered_form (form ∷ octets) = form

pub covered_tid : List ℕ → ℕ
covered_tid octets = slice_index (drop 1 octets) 0

pub covered_number : List ℕ → ℕ
covered_number octets = from_be_bytes w64 (0 ∷ 0 ∷ drop 7 (take 13 (drop 1 octets)))

-- the frame is from an access point: its From DS bit is set and its To DS bit is not
pub covered_down : List ℕ → Bool
covered_down octets = slice_index (drop 14 octets) 1 == 0x42

-- behind the masked header, which is by two octets longer in QoS data
pub covered_plain : List ℕ → List ℕ
covered_plain octets = drop (cond (slice_index (drop 14 octets) 0 == 0x88) 24 22) (drop 14 octets)

-- the octets say this
pub record CoversData (octets : List ℕ) (down : Bool) (tid number : ℕ) (plain : List ℕ) : Type 0 where
  pub form : covered_form octets ≡ 3
  pub way : covered_down octets ≡ down
  pub tid_is : covered_tid octets ≡ tid
  pub number_is : covered_number octets ≡ number
  pub plain_is : covered_plain octets ≡ plain

-- the flags of protected data that goes one way, with the bits that the seal leaves out
abbrev pub flags : Bool → ℕ
flags true = 0x42
flags false = 0x41

-- a header of protected data as far as a seal covers it: its first two octets
pub record IsDataHeader (header : List ℕ) (down : Bool) : Type 0 where
  pub mac_header : IsHeader header
  pub plain : length header ≡ 24 → slice_index header 0 ≡ 0x08
  pub qos : length header ≡ 26 → slice_index header 0 ≡ 0x88
  pub way : bit_or (bit_and (slice_index header 1) 0xc7) 0x40 ≡ flags down

length-part : (at n : ℕ) (octets : List ℕ) → at + n ≤ length octets → length (part at n octets) ≡ n
length-part at n octets long = omega (arith, length-take n (drop at octets), length-drop at octets, long)

long_header : (header : List ℕ) → IsHeader header → 24 ≤ length header
long_header header (inl is) = omega (arith, is)
long_header header (inr is) = omega (arith, is)

length-nonce : (header : List ℕ) (pn : ℕ) → IsHeader header → length (ccm_nonce header pn) ≡ 13
unfolding ccm_nonce
length-nonce header pn is =
    omega (arith, length-append (part 10 6 header) (drop 2 (to_be_bytes w64 pn)), length-part 10 6 header (omega (arith, long_header header is)))

-- the octets of the packet number in the nonce
number_in : (header : List ℕ) (pn : ℕ) → IsHeader header → drop 7 (ccm_nonce header pn) ≡ drop 2 (to_be_bytes w64 pn)
unfolding ccm_nonce
number_in header pn is = drop_at (part 10 6 header) (drop 2 (to_be_bytes w64 pn)) 6 (length-part 10 6 header (omega (arith, long_header header is)))

number_back : (pn : ℕ) → pn < 2 ^ 48 → from_be_bytes w64 (0 ∷ 0 ∷ drop 2 (to_be_bytes w64 pn)) ≡ pn
number_back pn low =
    let first : 0 ≡ pn / 2 ^ 56 % 256 = omega (arith, low) in
    let second : 0 ≡ pn / 2 ^ 48 % 256 = omega (arith, low) in
    ap (λ (a : ℕ). from_be_bytes w64 (a ∷ 0 ∷ drop 2 (to_be_bytes w64 pn))) first
    ∙ ap (λ (b : ℕ). from_be_bytes w64 (pn / 2 ^ 56 % 256 ∷ b ∷ drop 2 (to_be_bytes w64 pn))) second
    ∙ from_be_bytes-to_be_bytes_8 pn (omega (arith, low))

-- the additional authenticated data
aad_plain : (header : List ℕ) → length header ≡ 24 → length (ccm_aad header) ≡ 22
unfolding ccm_aad
aad_plain header is = rw is (omega (arith, length-append (part 4 18 header) (slice_index header 22 % 16 ∷ 0 ∷ []), length-part 4 18 header (omega (arith, is))))

aad_qos : (header : List ℕ) → length header ≡ 26 → length (ccm_aad header) ≡ 24
unfolding ccm_aad
aad_qos header is = rw is (omega (arith, length-append (part 4 18 header) (slice_index header 22 % 16 ∷ 0 ∷ slice_index header 24 % 16 ∷ 0 ∷ []), length-part 4 18 header (omega (arith, is))))

-- what stands behind the nonce
behind_nonce : (header : List ℕ) (pn : ℕ) (plain : List ℕ) → IsHeader header → drop 14 (3 ∷ sealed_octets header pn plain) ≡ ccm_aad header ++ plain
behind_nonce header pn plain is = ap (drop 13) (append_assoc (ccm_nonce header pn) (ccm_aad header) plain) ∙ drop_at (ccm_nonce header pn) (ccm_aad header ++ plain) 13 (length-nonce header pn is)

first_masked : (header plain : List ℕ) → slice_index (ccm_aad header ++ plain) 0 ≡ bit_and (slice_index header 0) 0x8f
unfolding ccm_aad
first_masked header plain = refl

second_masked : (header plain : List ℕ) → slice_index (ccm_aad header ++ plain) 1 ≡ bit_or (bit_and (slice_index header 1) 0xc7) 0x40
unfolding ccm_aad
second_masked header plain = refl

first_nonce : (header : List ℕ) (pn : ℕ) (plain : List ℕ) → slice_index (drop 1 (3 ∷ sealed_octets header pn plain)) 0 ≡ traffic_identifier header
unfolding ccm_nonce
first_nonce header pn plain = refl

flags_down : (down : Bool) → (flags down == 0x42) ≡ down
flags_down true = refl
flags_down false = refl

plain_by : (header : List ℕ) (pn : ℕ) (plain : List ℕ) (down : Bool) → (is : IsDataHeader header down) → (length header ≡ 24) ⊎ (length header ≡ 26) → drop (cond (slice_index (drop 14 (3 ∷ sealed_octets header pn plain)) 0 == 0x88) 24 22) (drop 14 (3 ∷ sealed_octets header pn plain)) ≡ plain
plain_by header pn plain down is (inl size) =
    let behind = behind_nonce header pn plain is.mac_header in
    let first : slice_index (ccm_aad header ++ plain) 0 ≡ 0x08 = first_masked header plain ∙ ap (λ (x : ℕ). bit_and x 0x8f) (is.plain size) in
    ap (λ (l : List ℕ). drop (cond (slice_index l 0 == 0x88) 24 22) l) behind ∙ ap (λ (x : ℕ). drop (cond (x == 0x88) 24 22) (ccm_aad header ++ plain)) first
    ∙ drop_at (ccm_aad header) plain 22 (aad_plain header size)
plain_by header pn plain down is (inr size) =
    let behind = behind_nonce header pn plain is.mac_header in
    let first : slice_index (ccm_aad header ++ plain) 0 ≡ 0x88 = first_masked header plain ∙ ap (λ (x : ℕ). bit_and x 0x8f) (is.qos size) in
    ap (λ (l : List ℕ). drop (cond (slice_index l 0 == 0x88) 24 22) l) behind ∙ ap (λ (x : ℕ). drop (cond (x == 0x88) 24 22) (ccm_aad header ++ plain)) first
    ∙ drop_at (ccm_aad header) plain 24 (aad_qos header size)

-- what CCM seals in a frame with that header says
pub data_covers : (header : List ℕ) (pn : ℕ) (plain : List ℕ) (down : Bool) → IsDataHeader header down → pn < 2 ^ 48 → CoversData (3 ∷ sealed_octets header pn plain) down (traffic_identifier header) pn plain
unfolding covered_tid covered_number covered_down covered_plain
data_covers header pn plain down is low = record {
  form = refl;
  way = ap (λ (l : List ℕ). slice_index l 1 == 0x42) (behind_nonce header pn plain is.mac_header) ∙ ap (λ (x : ℕ). x == 0x42) (second_masked header plain ∙ is.way) ∙ flags_down down;
  tid_is = first_nonce header pn plain;
  number_is = ap (λ (l : List ℕ). from_be_bytes w64 (0 ∷ 0 ∷ drop 7 l)) (ap (take 13) (append_assoc (ccm_nonce header pn) (ccm_aad header) plain) ∙ take_at (ccm_nonce header pn) (ccm_aad header ++ plain) 13 (length-nonce header pn is.mac_header))
      ∙ ap (λ (l : List ℕ). from_be_bytes w64 (0 ∷ 0 ∷ l)) (number_in header pn is.mac_header) ∙ number_back pn low;
  plain_is = plain_by header pn plain down is is.mac_header;
}

-- the same, of the TID that the octets have
pub data_covers_own : (header : List ℕ) (pn : ℕ) (plain : List ℕ) (down : Bool) → IsDataHeader header down → pn < 2 ^ 48 → CoversData (3 ∷ sealed_octets header pn plain) down (covered_tid (3 ∷ sealed_octets header pn plain)) pn plain
data_covers_own header pn plain down is low =
    let c = data_covers header pn plain down is low in
    record { form = c.form; way = c.way; tid_is = refl; number_is = c.number_is; plain_is = c.plain_is }
