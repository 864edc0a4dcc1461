-- Frames as they are sent spell what they carry.
use Rattle.std.proofs.Common.{◌≡◌, ℕ, ◌+◌, ◌*◌, ◌<◌, ◌≤◌, ◌%◌, ◌^◌, true, false, List, [], ◌∷◌, ◌++◌, length, take, drop, get_or, eqb, Option, Some, None, refl, sym, ap, ◌∙◌, arith, append_assoc}
use Rattle.std.specs.Prelude.{not, IfSome}
use Rattle.std.specs.Int.{w16, to_le_bytes, from_le_bytes, bit_at}
use Rattle.std.proofs.lemmas.Nat.{from_le_bytes-to_le_bytes_2}
use Rattle.std.proofs.lemmas.Nat.Bits.{bit_at_above}
use Rattle.std.proofs.lemmas.List.{length-append, take_at, drop_at, drop-drop, get_or-drop}
use Rattle.std.proofs.lemmas.Bool.{le-leb, and_from, eq-eqb}
use Rattle.domain_base.specs.Places.{part, little_endian_at}
use Rattle.air_frame.specs.declared.frame.Direction.{Direction}
use Rattle.air_frame.specs.declared.frame.Direction.TheVariants.{ToDs, FromDs}
use Rattle.air_frame.specs.Control.{frame_control, protocol_version, is_to_ds, is_from_ds, has_more_fragments, has_ht_control, is_to_group, is_data, has_a_msdu, data_header_length, ends_in_mme, eapol_llc}
use Rattle.air_frame.specs.Fields.{HeaderFields, header_at, assoc_req, assoc_resp, ft_req, ft_resp, re_req, re_resp, action, eapol, protected}
use Rattle.air_frame.specs.Spelled.{IsManagement, IsData, SpellsAir}
use Rattle.air_frame.specs.Sent.{header_octets, management_header_octets, data_header_octets, assoc_req_octets, assoc_resp_octets, re_req_octets, re_resp_octets, ft_req_octets, ft_resp_octets, action_octets, eapol_data_octets, protected_data_octets, sent_header}

-- the first octet of an address is that of what begins with it
first_octet : (xs ys : List ℕ) → length xs ≡ 6 → get_or (xs ++ ys) 0 0 ≡ get_or xs 0 0
first_octet [] ys h = absurd (omega (arith, h))
first_octet (x ∷ xs) ys h = refl

-- the addresses are in their places
module _ (first second : ℕ) (a1 a2 a3 qos rest : List ℕ) (l1 : length a1 ≡ 6) (l2 : length a2 ≡ 6) (l3 : length a3 ≡ 6) where
  head : List ℕ
  head = header_octets first second a1 a2 a3 qos

  sent : List ℕ
  sent = head ++ rest

  size : length head ≡ 24 + length qos
  unfolding head
  size = omega (arith, length-append a1 (a2 ++ (a3 ++ (0 ∷ 0 ∷ qos))), length-append a2 (a3 ++ (0 ∷ 0 ∷ qos)), length-append a3 (0 ∷ 0 ∷ qos))

  behind_start : drop 4 sent ≡ a1 ++ (a2 ++ (a3 ++ (0 ∷ 0 ∷ qos ++ rest)))
  unfolding head sent
  behind_start = simp append_assoc

  behind_a1 : drop 10 sent ≡ a2 ++ (a3 ++ (0 ∷ 0 ∷ qos ++ rest))
  unfolding head sent
  behind_a1 = sym (drop-drop 6 4 sent) ∙ ap (λ (w : List ℕ). drop 6 w) behind_start ∙ drop_at a1 _ 6 l1

  behind_a2 : drop 16 sent ≡ a3 ++ (0 ∷ 0 ∷ qos ++ rest)
  behind_a2 = sym (drop-drop 6 10 sent) ∙ ap (λ (w : List ℕ). drop 6 w) behind_a1 ∙ drop_at a2 _ 6 l2

  behind_a3 : drop 22 sent ≡ 0 ∷ 0 ∷ qos ++ rest
  behind_a3 = sym (drop-drop 6 16 sent) ∙ ap (λ (w : List ℕ). drop 6 w) behind_a2 ∙ drop_at a3 _ 6 l3

  fields : (n : ℕ) → length head ≡ n → header_at n sent ≡ sent_header head a1 a2 a3
  unfolding sent head
  fields n h =
      let whole : take n sent ≡ head = take_at head rest n h in
      let one : part 4 6 sent ≡ a1 = ap (λ (w : List ℕ). take 6 w) behind_start ∙ take_at a1 _ 6 l1 in
      let two : part 10 6 sent ≡ a2 = ap (λ (w : List ℕ). take 6 w) behind_a1 ∙ take_at a2 _ 6 l2 in
      let three : part 16 6 sent ≡ a3 = ap (λ (w : List ℕ). take 6 w) behind_a2 ∙ take_at a3 _ 6 l3 in
      rw (whole, one, two, three) refl

  first_fragment : get_or sent 22 0 ≡ 0
  first_fragment = sym (get_or-drop 22 sent 0 0) ∙ ap (λ (w : List ℕ). get_or w 0 0) behind_a3

  first_of_a1 : get_or sent 4 0 ≡ get_or a1 0 0
  first_of_a1 = sym (get_or-drop 4 sent 0 0) ∙ ap (λ (w : List ℕ). get_or w 0 0) behind_start ∙ first_octet a1 (a2 ++ (a3 ++ (0 ∷ 0 ∷ qos ++ rest))) l1

  long : length sent ≡ 24 + length qos + length rest
  unfolding sent
  long = length-append head rest ∙ ap (λ (n : ℕ). n + length rest) size

  behind_header : (n : ℕ) → length head ≡ n → drop n sent ≡ rest
  unfolding sent
  behind_header n h = drop_at head rest n h

  behind : (n k : ℕ) → length head ≡ n → drop (n + k) sent ≡ drop k rest
  behind n k h = sym (drop-drop k n sent) ∙ ap (λ (w : List ℕ). drop k w) (behind_header n h)

  number_behind : (n k : ℕ) → length head ≡ n → little_endian_at w16 (n + k) sent ≡ from_le_bytes w16 (part k 2 rest)
  number_behind n k h = ap (λ (w : List ℕ). from_le_bytes w16 (take 2 w)) (behind n k h)

  qos_octet : (t : ℕ) (more : List ℕ) → qos ≡ t ∷ more → get_or sent 24 0 ≡ t
  qos_octet t more e = sym (get_or-drop 22 sent 2 0) ∙ ap (λ (w : List ℕ). get_or w 2 0) behind_a3 ∙ ap (λ (w : List ℕ). get_or (w ++ rest) 0 0) e

  octet_behind : (n k : ℕ) → length head ≡ n → get_or sent (n + k) 0 ≡ get_or rest k 0
  octet_behind n k h = sym (get_or-drop n sent k 0) ∙ ap (λ (w : List ℕ). get_or w k 0) (behind_header n h)

-- a flag that is not set
unset : (control bit : ℕ) → control < 2 ^ bit → eqb (bit_at control bit) 1 ≡ false
unset control bit h = ap (λ (n : ℕ). eqb n 1) (bit_at_above control bit bit h (omega arith))

-- the tests on a management frame as it is sent
management_sent : (octets : List ℕ) (subtype fixed : ℕ) → subtype < 16 → frame_control octets ≡ 16 * subtype → get_or octets 22 0 ≡ 0 → 24 + fixed ≤ length octets → IsManagement octets subtype fixed
management_sent octets subtype fixed low control fragment long =
    let c = frame_control octets in
    let small : c < 2 ^ 8 = omega arith in
    record {
      version = omega arith;
      management = omega arith;
      kind = omega arith;
      not_to_ds = unset c 8 small;
      not_from_ds = unset c 9 (omega arith);
      unprotected = unset c 14 (omega arith);
      whole = record { last = unset c 10 (omega arith); first = ap (λ (n : ℕ). n % 16) fragment; no_ht_control = unset c 15 (omega arith) };
      long = long;
    }

-- the frames, for addresses of six octets
module _ (a1 a2 a3 : List ℕ) (l1 : length a1 ≡ 6) (l2 : length a2 ≡ 6) (l3 : length a3 ≡ 6) where
  management : ℕ → List ℕ → List ℕ
  management subtype rest = management_header_octets subtype a1 a2 a3 ++ rest

  management_fields : (subtype : ℕ) → HeaderFields
  management_fields subtype = sent_header (management_header_octets subtype a1 a2 a3) a1 a2 a3

  header-is : (subtype : ℕ) (rest : List ℕ) → header_at 24 (management subtype rest) ≡ management_fields subtype
  unfolding management management_fields sent head
  header-is subtype rest = fields (16 * subtype) 0 a1 a2 a3 [] rest l1 l2 l3 24 (size (16 * subtype) 0 a1 a2 a3 [] rest l1 l2 l3)

  number-is : (subtype k : ℕ) (rest : List ℕ) → little_endian_at w16 (24 + k) (management subtype rest) ≡ from_le_bytes w16 (part k 2 rest)
  unfolding management sent head
  number-is subtype k rest = number_behind (16 * subtype) 0 a1 a2 a3 [] rest l1 l2 l3 24 k (size (16 * subtype) 0 a1 a2 a3 [] rest l1 l2 l3)

  behind-is : (subtype k : ℕ) (rest : List ℕ) → drop (24 + k) (management subtype rest) ≡ drop k rest
  unfolding management sent head
  behind-is subtype k rest = behind (16 * subtype) 0 a1 a2 a3 [] rest l1 l2 l3 24 k (size (16 * subtype) 0 a1 a2 a3 [] rest l1 l2 l3)

  tests : (subtype fixed : ℕ) (rest : List ℕ) → subtype < 16 → frame_control (management subtype rest) ≡ 16 * subtype → fixed ≤ length rest → IsManagement (management subtype rest) subtype fixed
  unfolding management sent head
  tests subtype fixed rest low control enough =
      management_sent (management subtype rest) subtype fixed low control (first_fragment (16 * subtype) 0 a1 a2 a3 [] rest l1 l2 l3)
      (let n = long (16 * subtype) 0 a1 a2 a3 [] rest l1 l2 l3 in omega (arith, n))

  pub assoc_req_sent : (elements : List ℕ) → SpellsAir (assoc_req_octets a1 a2 a3 elements) (assoc_req (sent_header (management_header_octets 0 a1 a2 a3) a1 a2 a3) 0x11 10 elements)
  unfolding management management_fields frame_control
  assoc_req_sent elements =
      let rest = 0x11 ∷ 0x00 ∷ 0x0a ∷ 0x00 ∷ elements in
      (rw (header-is 0 rest, number-is 0 0 rest, number-is 0 2 rest, behind-is 0 4 rest) refl, tests 0 4 rest (omega arith) refl (omega arith))

  -- a number, as it is read where it is written
  reads : (n : ℕ) (rest : List ℕ) → n < 2 ^ 16 → from_le_bytes w16 (take 2 (to_le_bytes w16 n ++ rest)) ≡ n
  reads n rest h = from_le_bytes-to_le_bytes_2 n h

  response : ℕ → ℕ → List ℕ → List ℕ
  response status aid elements = 0x11 ∷ 0x00 ∷ (to_le_bytes w16 status ++ (to_le_bytes w16 aid ++ elements))

  response-status : (subtype status aid : ℕ) (elements : List ℕ) → status < 2 ^ 16 → little_endian_at w16 26 (management subtype (response status aid elements)) ≡ status
  unfolding response
  response-status subtype status aid elements h = number-is subtype 2 (response status aid elements) ∙ reads status (to_le_bytes w16 aid ++ elements) h

  response-aid : (subtype status aid : ℕ) (elements : List ℕ) → aid < 2 ^ 16 → little_endian_at w16 28 (management subtype (response status aid elements)) ≡ aid
  unfolding response
  response-aid subtype status aid elements h = number-is subtype 4 (response status aid elements) ∙ reads aid elements h

  pub assoc_resp_sent : (status aid : ℕ) (elements : List ℕ) → status < 2 ^ 16 → aid < 2 ^ 16
      → SpellsAir (assoc_resp_octets a1 a2 a3 status aid elements) (assoc_resp (sent_header (management_header_octets 1 a1 a2 a3) a1 a2 a3) 0x11 status aid elements)
  unfolding management management_fields response frame_control
  assoc_resp_sent status aid elements hs ha =
      let rest = response status aid elements in
      (rw (header-is 1 rest, number-is 1 0 rest, response-status 1 status aid elements hs, response-aid 1 status aid elements ha, behind-is 1 6 rest) refl, tests 1 6 rest (omega arith) refl (omega arith))

  pub re_resp_sent : (status aid : ℕ) (elements : List ℕ) → status < 2 ^ 16 → aid < 2 ^ 16
      → SpellsAir (re_resp_octets a1 a2 a3 status aid elements) (re_resp (sent_header (management_header_octets 3 a1 a2 a3) a1 a2 a3) 0x11 status aid elements)
  unfolding management management_fields response frame_control
  re_resp_sent status aid elements hs ha =
      let rest = response status aid elements in
      (rw (header-is 3 rest, number-is 3 0 rest, response-status 3 status aid elements hs, response-aid 3 status aid elements ha, behind-is 3 6 rest) refl, tests 3 6 rest (omega arith) refl (omega arith))

  pub re_req_sent : (current_ap elements : List ℕ) → length current_ap ≡ 6
      → SpellsAir (re_req_octets a1 a2 a3 current_ap elements) (re_req (sent_header (management_header_octets 2 a1 a2 a3) a1 a2 a3) 0x11 10 current_ap elements)
  unfolding management management_fields frame_control
  re_req_sent current_ap elements l =
      let rest = 0x11 ∷ 0x00 ∷ 0x0a ∷ 0x00 ∷ (current_ap ++ elements) in
      let ap-is : part 28 6 (management 2 rest) ≡ current_ap = ap (λ (w : List ℕ). take 6 w) (behind-is 2 4 rest) ∙ take_at current_ap elements 6 l in
      let end-is : drop 34 (management 2 rest) ≡ elements = behind-is 2 10 rest ∙ drop_at current_ap elements 6 l in
      (rw (header-is 2 rest, number-is 2 0 rest, number-is 2 2 rest, ap-is, end-is) refl, tests 2 10 rest (omega arith) refl (omega (arith, length-append current_ap elements)))

  pub ft_req_sent : (elements : List ℕ) → SpellsAir (ft_req_octets a1 a2 a3 elements) (ft_req (sent_header (management_header_octets 11 a1 a2 a3) a1 a2 a3) 0 elements)
  unfolding management management_fields frame_control
  ft_req_sent elements =
      let rest = 0x02 ∷ 0x00 ∷ 0x01 ∷ 0x00 ∷ 0x00 ∷ 0x00 ∷ elements in (
        rw (header-is 11 rest, number-is 11 4 rest, behind-is 11 6 rest) refl,
        record {
          authentication = tests 11 6 rest (omega arith) refl (omega arith);
          ft = number-is 11 0 rest;
          sequence = number-is 11 2 rest;
        },
      )

  pub ft_resp_sent : (status : ℕ) (elements : List ℕ) → status < 2 ^ 16
      → SpellsAir (ft_resp_octets a1 a2 a3 status elements) (ft_resp (sent_header (management_header_octets 11 a1 a2 a3) a1 a2 a3) status elements)
  unfolding management management_fields frame_control
  ft_resp_sent status elements h =
      let rest = 0x02 ∷ 0x00 ∷ 0x02 ∷ 0x00 ∷ (to_le_bytes w16 status ++ elements) in
      let status-is : little_endian_at w16 28 (management 11 rest) ≡ status = number-is 11 4 rest ∙ reads status elements h in (
        rw (header-is 11 rest, status-is, behind-is 11 6 rest) refl,
        record {
          authentication = tests 11 6 rest (omega arith) refl (omega arith);
          ft = number-is 11 0 rest;
          sequence = number-is 11 2 rest;
        },
      )

  group-is : (body : List ℕ) → get_or a1 0 0 % 2 ≡ 1 → is_to_group (management 13 body) ≡ true
  unfolding management sent head
  group-is body odd =
      let n = long (16 * 13) 0 a1 a2 a3 [] body l1 l2 l3 in
      and_from _ _ (le-leb 10 (length (management 13 body)) (omega (arith, n))) (eq-eqb _ _ (ap (λ (k : ℕ). k % 2) (first_of_a1 (16 * 13) 0 a1 a2 a3 [] body l1 l2 l3) ∙ odd))

  pub action_sent : (body : List ℕ) → get_or a1 0 0 % 2 ≡ 1 → 19 ≤ length body → ends_in_mme body ≡ true
      → SpellsAir (action_octets a1 a2 a3 body) (action (sent_header (management_header_octets 13 a1 a2 a3) a1 a2 a3) body)
  unfolding management management_fields frame_control
  action_sent body odd enough mme = (
    rw (header-is 13 body, behind-is 13 0 body) refl,
    record { frame = tests 13 19 body (omega arith) refl enough; group = group-is body odd; mme = ap ends_in_mme (behind-is 13 0 body) ∙ mme },
  )

-- the tests on data, in one line
data_sent : (octets : List ℕ) (least : ℕ) → protocol_version octets ≡ 0 → is_data octets ≡ true → is_from_ds octets ≡ not (is_to_ds octets) → has_more_fragments octets ≡ false → has_ht_control octets ≡ false
    → get_or octets 22 0 ≡ 0 → has_a_msdu octets ≡ false → data_header_length octets + least ≤ length octets → IsData octets least
data_sent octets least version kind one_way last no_ht_control fragment one_msdu long = record {
  version = version;
  kind = kind;
  one_way = one_way;
  whole = record { last = last; first = ap (λ (n : ℕ). n % 16) fragment; no_ht_control = no_ht_control };
  one_msdu = one_msdu;
  long = long;
}

-- data, for addresses of six octets; the second octet says which way it goes and whether it is protected
module _ (second : ℕ) (a1 a2 a3 rest : List ℕ) (l1 : length a1 ≡ 6) (l2 : length a2 ≡ 6) (l3 : length a3 ≡ 6) where
  plain : List ℕ
  plain = header_octets 0x08 second a1 a2 a3 [] ++ rest

  plain_size : length (header_octets 0x08 second a1 a2 a3 []) ≡ 24
  unfolding head
  plain_size = size 0x08 second a1 a2 a3 [] rest l1 l2 l3

  plain_header : header_at 24 plain ≡ sent_header (header_octets 0x08 second a1 a2 a3 []) a1 a2 a3
  unfolding plain head sent
  plain_header = fields 0x08 second a1 a2 a3 [] rest l1 l2 l3 24 plain_size

  plain_behind : (k : ℕ) → drop (24 + k) plain ≡ drop k rest
  unfolding plain head sent
  plain_behind k = behind 0x08 second a1 a2 a3 [] rest l1 l2 l3 24 k plain_size

  plain_part : (k n : ℕ) → part (24 + k) n plain ≡ part k n rest
  plain_part k n = ap (λ (w : List ℕ). take n w) (plain_behind k)

  plain_octet : (k : ℕ) → get_or plain (24 + k) 0 ≡ get_or rest k 0
  unfolding plain head sent
  plain_octet k = octet_behind 0x08 second a1 a2 a3 [] rest l1 l2 l3 24 k plain_size

  plain_long : length plain ≡ 24 + length rest
  unfolding plain head sent
  plain_long = long 0x08 second a1 a2 a3 [] rest l1 l2 l3

  plain_fragment : get_or plain 22 0 ≡ 0
  unfolding plain head sent
  plain_fragment = first_fragment 0x08 second a1 a2 a3 [] rest l1 l2 l3

  plain_eapol : (body : List ℕ) → rest ≡ eapol_llc ++ body → (part 24 8 plain ≡ eapol_llc) × (drop 32 plain ≡ body)
  plain_eapol body e =
      (plain_part 0 8 ∙ ap (λ (w : List ℕ). take 8 w) e, plain_behind 8 ∙ ap (λ (w : List ℕ). drop 8 w) e)

-- QoS data
module _ (second tid : ℕ) (a1 a2 a3 rest : List ℕ) (l1 : length a1 ≡ 6) (l2 : length a2 ≡ 6) (l3 : length a3 ≡ 6) where
  qos : List ℕ
  qos = header_octets 0x88 second a1 a2 a3 (tid ∷ 0 ∷ []) ++ rest

  qos_size : length (header_octets 0x88 second a1 a2 a3 (tid ∷ 0 ∷ [])) ≡ 26
  unfolding head
  qos_size = size 0x88 second a1 a2 a3 (tid ∷ 0 ∷ []) rest l1 l2 l3

  qos_header : header_at 26 qos ≡ sent_header (header_octets 0x88 second a1 a2 a3 (tid ∷ 0 ∷ [])) a1 a2 a3
  unfolding qos head sent
  qos_header = fields 0x88 second a1 a2 a3 (tid ∷ 0 ∷ []) rest l1 l2 l3 26 qos_size

  qos_behind : drop 26 qos ≡ rest
  unfolding qos head sent
  qos_behind = behind_header 0x88 second a1 a2 a3 (tid ∷ 0 ∷ []) rest l1 l2 l3 26 qos_size

  qos_octet_behind : (k : ℕ) → get_or qos (26 + k) 0 ≡ get_or rest k 0
  unfolding qos head sent
  qos_octet_behind k = octet_behind 0x88 second a1 a2 a3 (tid ∷ 0 ∷ []) rest l1 l2 l3 26 k qos_size

  qos_long : length qos ≡ 26 + length rest
  unfolding qos head sent
  qos_long = long 0x88 second a1 a2 a3 (tid ∷ 0 ∷ []) rest l1 l2 l3

  qos_fragment : get_or qos 22 0 ≡ 0
  unfolding qos head sent
  qos_fragment = first_fragment 0x88 second a1 a2 a3 (tid ∷ 0 ∷ []) rest l1 l2 l3

  qos_tid : get_or qos 24 0 ≡ tid
  unfolding qos head sent
  qos_tid = qos_octet 0x88 second a1 a2 a3 (tid ∷ 0 ∷ []) rest l1 l2 l3 tid (0 ∷ []) refl

  qos_tid_read : tid < 16 → get_or qos 24 0 % 16 ≡ tid
  qos_tid_read h = ap (λ (n : ℕ). n % 16) qos_tid ∙ omega arith

  qos_one_msdu : tid < 16 → eqb (bit_at (get_or qos 24 0) 7) 1 ≡ false
  qos_one_msdu h = ap (λ (n : ℕ). eqb (bit_at n 7) 1) qos_tid ∙ unset tid 7 (omega arith)

-- the frames of data, each way
pub eapol_data_sent : (direction : Direction) (a1 a2 a3 octets : List ℕ) → length a1 ≡ 6 → length a2 ≡ 6 → length a3 ≡ 6
    → SpellsAir (eapol_data_octets direction a1 a2 a3 octets) (eapol (sent_header (data_header_octets direction false None a1 a2 a3) a1 a2 a3) direction None octets)
unfolding frame_control plain
eapol_data_sent ToDs a1 a2 a3 octets l1 l2 l3 =
    let rest = eapol_llc ++ octets in
    let at = plain_eapol 1 a1 a2 a3 rest l1 l2 l3 octets refl in
    let n = plain_long 1 a1 a2 a3 rest l1 l2 l3 in
    let frame = data_sent (plain 1 a1 a2 a3 rest l1 l2 l3) 8 refl refl refl refl refl (plain_fragment 1 a1 a2 a3 rest l1 l2 l3) refl (omega (arith, n)) in
    (rw (plain_header 1 a1 a2 a3 rest l1 l2 l3, at.1) refl, record { frame = frame; unprotected = refl; llc = at.0 })
eapol_data_sent FromDs a1 a2 a3 octets l1 l2 l3 =
    let rest = eapol_llc ++ octets in
    let at = plain_eapol 2 a1 a2 a3 rest l1 l2 l3 octets refl in
    let n = plain_long 2 a1 a2 a3 rest l1 l2 l3 in
    let frame = data_sent (plain 2 a1 a2 a3 rest l1 l2 l3) 8 refl refl refl refl refl (plain_fragment 2 a1 a2 a3 rest l1 l2 l3) refl (omega (arith, n)) in
    (rw (plain_header 2 a1 a2 a3 rest l1 l2 l3, at.1) refl, record { frame = frame; unprotected = refl; llc = at.0 })

pub protected_plain_sent : (direction : Direction) (a1 a2 a3 body : List ℕ) → length a1 ≡ 6 → length a2 ≡ 6 → length a3 ≡ 6 → 16 ≤ length body → bit_at (get_or body 3 0) 5 ≡ 1
    → SpellsAir (protected_data_octets direction None a1 a2 a3 body) (protected (sent_header (data_header_octets direction true None a1 a2 a3) a1 a2 a3) direction None body)
unfolding frame_control plain
protected_plain_sent ToDs a1 a2 a3 body l1 l2 l3 enough ext_iv =
    let n = plain_long 65 a1 a2 a3 body l1 l2 l3 in
    let frame = data_sent (plain 65 a1 a2 a3 body l1 l2 l3) 16 refl refl refl refl refl (plain_fragment 65 a1 a2 a3 body l1 l2 l3) refl (omega (arith, n)) in
    (rw (plain_header 65 a1 a2 a3 body l1 l2 l3, plain_behind 65 a1 a2 a3 body l1 l2 l3 0) refl, record { frame = frame; covered = refl; ext_iv = ap (λ (n : ℕ). bit_at n 5) (plain_octet 65 a1 a2 a3 body l1 l2 l3 3) ∙ ext_iv })
protected_plain_sent FromDs a1 a2 a3 body l1 l2 l3 enough ext_iv =
    let n = plain_long 66 a1 a2 a3 body l1 l2 l3 in
    let frame = data_sent (plain 66 a1 a2 a3 body l1 l2 l3) 16 refl refl refl refl refl (plain_fragment 66 a1 a2 a3 body l1 l2 l3) refl (omega (arith, n)) in
    (rw (plain_header 66 a1 a2 a3 body l1 l2 l3, plain_behind 66 a1 a2 a3 body l1 l2 l3 0) refl, record { frame = frame; covered = refl; ext_iv = ap (λ (n : ℕ). bit_at n 5) (plain_octet 66 a1 a2 a3 body l1 l2 l3 3) ∙ ext_iv })

pub protected_qos_sent : (direction : Direction) (tid : ℕ) (a1 a2 a3 body : List ℕ) → tid < 16 → length a1 ≡ 6 → length a2 ≡ 6 → length a3 ≡ 6 → 16 ≤ length body → bit_at (get_or body 3 0) 5 ≡ 1
    → SpellsAir (protected_data_octets direction (Some tid) a1 a2 a3 body) (protected (sent_header (data_header_octets direction true (Some tid) a1 a2 a3) a1 a2 a3) direction (Some tid) body)
unfolding frame_control qos
protected_qos_sent ToDs tid a1 a2 a3 body low l1 l2 l3 enough ext_iv =
    let n = qos_long 65 tid a1 a2 a3 body l1 l2 l3 in
    let frame = data_sent (qos 65 tid a1 a2 a3 body l1 l2 l3) 16 refl refl refl refl refl (qos_fragment 65 tid a1 a2 a3 body l1 l2 l3) (qos_one_msdu 65 tid a1 a2 a3 body l1 l2 l3 low) (omega (arith, n)) in
    (rw (qos_header 65 tid a1 a2 a3 body l1 l2 l3, qos_tid_read 65 tid a1 a2 a3 body l1 l2 l3 low, qos_behind 65 tid a1 a2 a3 body l1 l2 l3) refl, record { frame = frame; covered = refl; ext_iv = ap (λ (n : ℕ). bit_at n 5) (qos_octet_behind 65 tid a1 a2 a3 body l1 l2 l3 3) ∙ ext_iv })
protected_qos_sent FromDs tid a1 a2 a3 body low l1 l2 l3 enough ext_iv =
    let n = qos_long 66 tid a1 a2 a3 body l1 l2 l3 in
    let frame = data_sent (qos 66 tid a1 a2 a3 body l1 l2 l3) 16 refl refl refl refl refl (qos_fragment 66 tid a1 a2 a3 body l1 l2 l3) (qos_one_msdu 66 tid a1 a2 a3 body l1 l2 l3 low) (omega (arith, n)) in
    (rw (qos_header 66 tid a1 a2 a3 body l1 l2 l3, qos_tid_read 66 tid a1 a2 a3 body l1 l2 l3 low, qos_behind 66 tid a1 a2 a3 body l1 l2 l3) refl, record { frame = frame; covered = refl; ext_iv = ap (λ (n : ℕ). bit_at n 5) (qos_octet_behind 66 tid a1 a2 a3 body l1 l2 l3 3) ∙ ext_iv })

pub protected_data_sent : (direction : Direction) (tid : Option ℕ) (a1 a2 a3 body : List ℕ) → IfSome tid (λ t. t < 16) → length a1 ≡ 6 → length a2 ≡ 6 → length a3 ≡ 6 → 16 ≤ length body → bit_at (get_or body 3 0) 5 ≡ 1
    → SpellsAir (protected_data_octets direction tid a1 a2 a3 body) (protected (sent_header (data_header_octets direction true tid a1 a2 a3) a1 a2 a3) direction tid body)
protected_data_sent direction None a1 a2 a3 body low l1 l2 l3 enough ext_iv = protected_plain_sent direction a1 a2 a3 body l1 l2 l3 enough ext_iv
protected_data_sent direction (Some t) a1 a2 a3 body low l1 l2 l3 enough ext_iv = protected_qos_sent direction t a1 a2 a3 body low l1 l2 l3 enough ext_iv
