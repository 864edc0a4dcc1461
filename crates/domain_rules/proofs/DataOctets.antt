-- A frame of protected data has octets, and no larger numbers.
use Rattle.std.proofs.Common.{ℕ, zero, suc, ◌+◌, ◌*◌, ◌-◌, ◌<◌, ◌/◌, ◌%◌, ◌^◌, Bool, true, false, List, [], ◌∷◌, ◌++◌, length, take, drop, replicate, Option, Some, None, arith}
use Rattle.std.specs.Prelude.{◌==◌, bit_and, bit_or, slice_index, IfSome, if◌then◌else◌}
use Rattle.std.specs.Int.{w16, w64, to_be_bytes}
use Rattle.std.proofs.lemmas.Nat.{and_le_r, or_lt}
use Rattle.std.proofs.lemmas.List.Elements.{All-nil, All-cons, All-append, All-take, All-drop, All-replicate}
use Rattle.domain_base.specs.Octets.{AreOctets}
use Rattle.domain_base.specs.Places.{part}
use Rattle.aes_block.specs.Cipher.{cipher}
use Rattle.aes_block.proofs.OctetLemmas.{AreOctets-exclusive_or}
use Rattle.aes_block.proofs.CipherLemmas.{AreOctets-cipher}
use Rattle.air_frame.specs.declared.frame.Direction.{Direction}
use Rattle.air_frame.specs.declared.frame.Direction.TheVariants.{ToDs, FromDs}
use Rattle.air_frame.specs.Sent.{header_octets, data_flags, data_header_octets}
use Rattle.ccmp_guard.specs.Ccm.{block_count, block_after, chained, chained_all, first_block, aad_octets, begun, authentication, counter_block, key_block, key_stream, encrypted, encrypted_authentication}
use Rattle.ccmp_guard.specs.Ccmp.{traffic_identifier, ccm_nonce, ccm_aad, ccmp_header}
use Rattle.domain_rules.specs.DataFrames.{data_body}
use Rattle.domain_rules.proofs.KeyOctets.{octets-bytes}

abbrev Low : ℕ → Type 0
Low x = x < 256

-- ---- CCM

octets-block : (n : ℕ) (octets : List ℕ) → AreOctets octets → AreOctets (block_after n octets)
octets-block n octets are =
    All-append Low (take 16 (drop (16 * n) octets)) (replicate (16 - length (take 16 (drop (16 * n) octets))) 0)
    (All-take Low 16 (drop (16 * n) octets) (All-drop Low (16 * n) octets are)) (All-replicate Low (16 - length (take 16 (drop (16 * n) octets))) 0 (omega arith))

octets-chained : (key x octets : List ℕ) (n : ℕ) → AreOctets key → AreOctets x → AreOctets octets → AreOctets (chained key x octets n)
unfolding chained
octets-chained key x octets zero of_key of_x are = of_x
octets-chained key x octets (suc n) of_key of_x are =
    AreOctets-cipher key _ of_key (AreOctets-exclusive_or (chained key x octets n) (block_after n octets) (octets-chained key x octets n of_key of_x are) (octets-block n octets are))

octets-number : (n : ℕ) → AreOctets (to_be_bytes w16 n)
octets-number n = octets-bytes 2 n

octets-first : (nonce aad : List ℕ) (size : ℕ) → AreOctets nonce → AreOctets (first_block nonce aad size)
octets-first nonce aad size of_nonce = All-cons Low _ (nonce ++ to_be_bytes w16 size) (flags (length aad == 0)) (All-append Low nonce (to_be_bytes w16 size) of_nonce (octets-number size))
  where
    flags : (b : Bool) → (if b then 0x19 else 0x59) < 256
    flags true = omega arith
    flags false = omega arith

octets-aad : (aad : List ℕ) → AreOctets aad → AreOctets (aad_octets aad)
octets-aad aad are = by (length aad == 0)
  where
    by : (b : Bool) → AreOctets (if b then [] else to_be_bytes w16 (length aad) ++ aad)
    by true = All-nil Low
    by false = All-append Low (to_be_bytes w16 (length aad)) aad (octets-number (length aad)) are

octets-begun : (key nonce aad : List ℕ) (size : ℕ) → AreOctets key → AreOctets nonce → AreOctets aad → AreOctets (begun key nonce aad size)
unfolding begun
octets-begun key nonce aad size of_key of_nonce of_aad =
    octets-chained key (cipher key (first_block nonce aad size)) (aad_octets aad) (block_count (aad_octets aad)) of_key (AreOctets-cipher key (first_block nonce aad size) of_key (octets-first nonce aad size of_nonce)) (octets-aad aad of_aad)

octets-key_block : (key nonce : List ℕ) (i : ℕ) → AreOctets key → AreOctets nonce → AreOctets (key_block key nonce i)
unfolding counter_block
octets-key_block key nonce i of_key of_nonce = AreOctets-cipher key _ of_key (All-cons Low 1 (nonce ++ to_be_bytes w16 i) (omega arith) (All-append Low nonce (to_be_bytes w16 i) of_nonce (octets-number i)))

octets-stream : (key nonce : List ℕ) (n : ℕ) → AreOctets key → AreOctets nonce → AreOctets (key_stream key nonce n)
unfolding key_stream
octets-stream key nonce zero of_key of_nonce = All-nil Low
octets-stream key nonce (suc n) of_key of_nonce = All-append Low (key_stream key nonce n) (key_block key nonce (suc n)) (octets-stream key nonce n of_key of_nonce) (octets-key_block key nonce (suc n) of_key of_nonce)

octets-sealed : (key nonce aad plain : List ℕ) → AreOctets key → AreOctets nonce → AreOctets aad → AreOctets plain → AreOctets (encrypted key nonce plain ++ encrypted_authentication key nonce aad plain)
octets-sealed key nonce aad plain of_key of_nonce of_aad of_plain =
    All-append Low (encrypted key nonce plain) (encrypted_authentication key nonce aad plain)
    (AreOctets-exclusive_or plain (key_stream key nonce (block_count plain)) of_plain (octets-stream key nonce (block_count plain) of_key of_nonce))
    (AreOctets-exclusive_or (authentication key nonce aad plain) (key_block key nonce 0)
    (All-take Low 8 (chained_all key (begun key nonce aad (length plain)) plain) (octets-chained key (begun key nonce aad (length plain)) plain (block_count plain) of_key (octets-begun key nonce aad (length plain) of_key of_nonce of_aad) of_plain))
    (octets-key_block key nonce 0 of_key of_nonce))

-- ---- CCMP

octets-nonce : (header : List ℕ) (pn : ℕ) → AreOctets header → AreOctets (ccm_nonce header pn)
unfolding ccm_nonce
octets-nonce header pn are =
    All-cons Low (traffic_identifier header) (part 10 6 header ++ drop 2 (to_be_bytes w64 pn)) (tid (length header == 26))
    (All-append Low (part 10 6 header) (drop 2 (to_be_bytes w64 pn)) (All-take Low 6 (drop 10 header) (All-drop Low 10 header are)) (All-drop Low 2 (to_be_bytes w64 pn) (octets-bytes 8 pn)))
  where
    tid : (b : Bool) → (if b then slice_index header 24 % 16 else 0) < 256
    tid true = omega arith
    tid false = omega arith

octets-ccm_aad : (header : List ℕ) → AreOctets header → AreOctets (ccm_aad header)
unfolding ccm_aad
octets-ccm_aad header are =
    let second : ℕ = bit_or (bit_and (slice_index header 1) 0xc7) 0x40 in
    let rest : List ℕ = if length header == 26 then (slice_index header 24 % 16) ∷ 0 ∷ [] else [] in
    All-append Low (bit_and (slice_index header 0) 0x8f ∷ second ∷ part 4 18 header) ((slice_index header 22 % 16) ∷ 0 ∷ rest)
    (All-cons Low (bit_and (slice_index header 0) 0x8f) (second ∷ part 4 18 header) (omega (arith, and_le_r (slice_index header 0) 0x8f))
    (All-cons Low second (part 4 18 header) (or_lt 8 (bit_and (slice_index header 1) 0xc7) 0x40 (omega (arith, and_le_r (slice_index header 1) 0xc7)) (omega arith))
    (All-take Low 18 (drop 4 header) (All-drop Low 4 header are))))
    (All-cons Low (slice_index header 22 % 16) (0 ∷ rest) (omega arith) (All-cons Low 0 rest (omega arith) (qos (length header == 26))))
  where
    qos : (b : Bool) → AreOctets (if b then (slice_index header 24 % 16) ∷ 0 ∷ [] else [])
    qos true = All-cons Low (slice_index header 24 % 16) (0 ∷ []) (omega arith) (All-cons Low 0 [] (omega arith) (All-nil Low))
    qos false = All-nil Low

eight_low : (a b c d e f g h : ℕ) → a < 256 → b < 256 → c < 256 → d < 256 → e < 256 → f < 256 → g < 256 → h < 256 → AreOctets (a ∷ b ∷ c ∷ d ∷ e ∷ f ∷ g ∷ h ∷ [])
eight_low a b c d e f g h la lb lc ld le lf lg lh =
    All-cons Low a (b ∷ c ∷ d ∷ e ∷ f ∷ g ∷ h ∷ []) la (All-cons Low b (c ∷ d ∷ e ∷ f ∷ g ∷ h ∷ []) lb (All-cons Low c (d ∷ e ∷ f ∷ g ∷ h ∷ []) lc (All-cons Low d (e ∷ f ∷ g ∷ h ∷ []) ld
    (All-cons Low e (f ∷ g ∷ h ∷ []) le (All-cons Low f (g ∷ h ∷ []) lf (All-cons Low g (h ∷ []) lg (All-cons Low h [] lh (All-nil Low))))))))

octets-ccmp_header : (id pn : ℕ) → id < 4 → AreOctets (ccmp_header id pn)
unfolding ccmp_header
octets-ccmp_header id pn low =
    eight_low (pn % 256) (pn / 2 ^ 8 % 256) 0 (id * 64 + 32) (pn / 2 ^ 16 % 256) (pn / 2 ^ 24 % 256) (pn / 2 ^ 32 % 256) (pn / 2 ^ 40 % 256)
    (omega arith) (omega arith) (omega arith) (omega (arith, low)) (omega arith) (omega arith) (omega arith) (omega arith)

-- the header that is sent
octets-header : (first second : ℕ) (a1 a2 a3 qos : List ℕ) → first < 256 → second < 256 → AreOctets a1 → AreOctets a2 → AreOctets a3 → AreOctets qos → AreOctets (header_octets first second a1 a2 a3 qos)
octets-header first second a1 a2 a3 qos f s o1 o2 o3 q =
    let last : List ℕ = 0 ∷ 0 ∷ qos in
    let third : List ℕ = a3 ++ last in
    let second_on : List ℕ = a2 ++ third in
    let all : List ℕ = a1 ++ second_on in
    All-cons Low first (second ∷ 0 ∷ 0 ∷ all) f (All-cons Low second (0 ∷ 0 ∷ all) s (All-cons Low 0 (0 ∷ all) (omega arith) (All-cons Low 0 all (omega arith)
    (All-append Low a1 second_on o1 (All-append Low a2 third o2 (All-append Low a3 last o3 (All-cons Low 0 (0 ∷ qos) (omega arith) (All-cons Low 0 qos (omega arith) q))))))))

low_flags : (way : Direction) → data_flags way true < 256
low_flags ToDs = omega arith
low_flags FromDs = omega arith

pub octets-data_header : (way : Direction) (tid : Option ℕ) (a1 a2 a3 : List ℕ) → IfSome tid (λ t. t < 16) → AreOctets a1 → AreOctets a2 → AreOctets a3 → AreOctets (data_header_octets way true tid a1 a2 a3)
octets-data_header way None a1 a2 a3 low o1 o2 o3 = octets-header 0x08 (data_flags way true) a1 a2 a3 [] (omega arith) (low_flags way) o1 o2 o3 (All-nil Low)
octets-data_header way (Some t) a1 a2 a3 low o1 o2 o3 = octets-header 0x88 (data_flags way true) a1 a2 a3 (t ∷ 0 ∷ []) (omega arith) (low_flags way) o1 o2 o3 (All-cons Low t (0 ∷ []) (omega (arith, low)) (All-cons Low 0 [] (omega arith) (All-nil Low)))

-- and the body
pub octets-data_body : (tk header : List ℕ) (id pn : ℕ) (plain : List ℕ) → id < 4 → AreOctets tk → AreOctets header → AreOctets plain → AreOctets (data_body tk header id pn plain)
octets-data_body tk header id pn plain low of_key of_header of_plain =
    All-append Low (ccmp_header id pn) (encrypted tk (ccm_nonce header pn) plain ++ encrypted_authentication tk (ccm_nonce header pn) (ccm_aad header) plain) (octets-ccmp_header id pn low)
    (octets-sealed tk (ccm_nonce header pn) (ccm_aad header) plain of_key (octets-nonce header pn of_header) (octets-ccm_aad header of_header) of_plain)
