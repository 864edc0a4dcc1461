-- What the header of protected data says that was read, as far as a seal covers it; and of that which is sent.
use Rattle.std.proofs.Common.{◌≡◌, ◌⊎◌, inl, inr, ℕ, zero, suc, ◌+◌, ◌*◌, ◌<◌, ◌≤◌, ◌/◌, ◌%◌, Bool, true, false, cond, List, [], ◌∷◌, ◌++◌, length, take, get_or, Option, Some, None, refl, sym, ap, subst, ◌∙◌, arith}
use Rattle.std.specs.Prelude.{◌==◌, ◌||◌, not, slice_index, bit_and, bit_or, unwrap_or, if◌then◌else◌}
use Rattle.std.specs.Int.{w16, to_le_bytes, bit_at}
use Rattle.std.proofs.lemmas.Nat.{le_bytes_2}
use Rattle.std.proofs.lemmas.Bool.{eqb-true, cases_lt, and_parts}
use Rattle.std.proofs.lemmas.List.{get_or-take, get_or_append_left, length-take, length-append}
use Rattle.domain_base.specs.Octets.{AreOctets}
use Rattle.domain_base.specs.Places.{little_endian_at}
use Rattle.domain_base.proofs.OctetLemmas.{get_or_below, octets_by_entries}
use Rattle.air_frame.specs.declared.frame.Direction.{Direction}
use Rattle.air_frame.specs.declared.frame.Direction.TheVariants.{ToDs, FromDs}
use Rattle.air_frame.specs.Control.{frame_control, frame_type, frame_subtype, is_to_ds, is_from_ds, is_qos, data_header_length}
use Rattle.air_frame.specs.Control as control
use Rattle.air_frame.specs.Fields.{HeaderFields, protected, header_at, direction_at, tid_at, protected_at}
use Rattle.air_frame.specs.Spelled.{SpellsAir, IsData, IsProtectedData}
use Rattle.air_frame.specs.Sent.{header_octets, data_flags, data_header_octets, IsAddress}
use Rattle.ccmp_guard.specs.Ccmp.{traffic_identifier}
use Rattle.journal_safety.proofs.CoversData.{flags, IsDataHeader}

-- ---- the masked flags

masked_down : (r : ℕ) → r < 8 → bit_or (bit_and (0x42 + 8 * r) 0xc7) 0x40 ≡ 0x42
masked_down zero h = refl
masked_down (suc zero) h = refl
masked_down (suc (suc zero)) h = refl
masked_down (suc (suc (suc zero))) h = refl
masked_down (suc (suc (suc (suc zero)))) h = refl
masked_down (suc (suc (suc (suc (suc zero))))) h = refl
masked_down (suc (suc (suc (suc (suc (suc zero)))))) h = refl
masked_down (suc (suc (suc (suc (suc (suc (suc zero))))))) h = refl
masked_down (suc (suc (suc (suc (suc (suc (suc (suc r)))))))) h = absurd (omega (arith, h))

masked_up : (r : ℕ) → r < 8 → bit_or (bit_and (0x41 + 8 * r) 0xc7) 0x40 ≡ 0x41
masked_up zero h = refl
masked_up (suc zero) h = refl
masked_up (suc (suc zero)) h = refl
masked_up (suc (suc (suc zero))) h = refl
masked_up (suc (suc (suc (suc zero)))) h = refl
masked_up (suc (suc (suc (suc (suc zero))))) h = refl
masked_up (suc (suc (suc (suc (suc (suc zero)))))) h = refl
masked_up (suc (suc (suc (suc (suc (suc (suc zero))))))) h = refl
masked_up (suc (suc (suc (suc (suc (suc (suc (suc r)))))))) h = absurd (omega (arith, h))

-- ---- the first two octets of a frame

-- the first two octets are those of the Frame Control field
record IsControl (octets : List ℕ) : Type 0 where
  first : get_or octets 0 0 ≡ frame_control octets % 256
  second : get_or octets 1 0 ≡ frame_control octets / 256 % 256

control_is : (octets : List ℕ) → 2 ≤ length octets → AreOctets (take 2 octets) → IsControl octets
unfolding frame_control
control_is octets long small =
    let same : to_le_bytes w16 (little_endian_at w16 0 octets) ≡ take 2 octets = le_bytes_2 (take 2 octets) (little_endian_at w16 0 octets) (omega (arith, length-take 2 octets, long)) (λ i. get_or_below (take 2 octets) i small) refl in
    let at : (i : ℕ) → i < 2 → get_or octets i 0 ≡ get_or (to_le_bytes w16 (little_endian_at w16 0 octets)) i 0 = λ i low. sym (get_or-take 2 octets i 0 low) ∙ ap (λ (l : List ℕ). get_or l i 0) (sym same) in
    record { first = at 0 (omega arith); second = at 1 (omega arith) }

pub record Flags (octets : List ℕ) (down : Bool) : Type 0 where
  pub to_ds : is_to_ds octets ≡ not down
  pub from_ds : is_from_ds octets ≡ down

flag_set : (n : ℕ) → (n == 1) ≡ true → n ≡ 1
flag_set n e = eqb-true n 1 e

flag_clear : (n : ℕ) → n < 2 → (n == 1) ≡ false → n ≡ 0
flag_clear zero h e = refl
flag_clear (suc zero) h e = cc
flag_clear (suc (suc n)) h e = absurd (omega (arith, h))

-- by the bits of the field
second_down : (b n : ℕ) → b ≡ n / 256 % 256 → bit_at n 8 ≡ 0 → bit_at n 9 ≡ 1 → bit_at n 10 ≡ 0 → bit_at n 14 ≡ 1 → bit_at n 15 ≡ 0 → b ≡ 0x42 + 8 * (b / 8 % 8)
second_down b n e t f m p o = omega (arith, e, t, f, m, p, o)

second_up : (b n : ℕ) → b ≡ n / 256 % 256 → bit_at n 8 ≡ 1 → bit_at n 9 ≡ 0 → bit_at n 10 ≡ 0 → bit_at n 14 ≡ 1 → bit_at n 15 ≡ 0 → b ≡ 0x41 + 8 * (b / 8 % 8)
second_up b n e t f m p o = omega (arith, e, t, f, m, p, o)

first_qos : (a n : ℕ) → a ≡ n % 256 → n % 4 ≡ 0 → n / 4 % 4 ≡ 2 → n / 16 % 16 ≡ 8 → a ≡ 0x88
first_qos a n e v t s = omega (arith, e, v, t, s)

first_plain : (a n : ℕ) → a ≡ n % 256 → n % 4 ≡ 0 → n / 4 % 4 ≡ 2 → n / 16 % 16 ≡ 0 → a ≡ 0x08
first_plain a n e v t s = omega (arith, e, v, t, s)

bit_low : (n i : ℕ) → bit_at n i < 2
bit_low n i = omega arith

-- the subtype is that of data or of QoS data
subtype_by : (b c : Bool) → (b || c) ≡ true → c ≡ false → b ≡ true
subtype_by true c s f = refl
subtype_by false c s f = absurd (cc (s, f))

-- what the flags of protected data are, with bits that say which way it goes
second_octet : (octets : List ℕ) (down : Bool) → AreOctets (take 2 octets) → IsProtectedData octets → Flags octets down → bit_or (bit_and (get_or octets 1 0) 0xc7) 0x40 ≡ flags down
second_octet octets true small is f =
    let n : ℕ = frame_control octets in
    let c : IsControl octets = control_is octets (omega (arith, is.frame.long)) small in
    let is_b : get_or octets 1 0 ≡ 0x42 + 8 * (get_or octets 1 0 / 8 % 8) = second_down (get_or octets 1 0) n c.second
    (flag_clear (bit_at n 8) (bit_low n 8) f.to_ds) (flag_set (bit_at n 9) f.from_ds) (flag_clear (bit_at n 10) (bit_low n 10) is.frame.whole.last) (flag_set (bit_at n 14) is.covered) (flag_clear (bit_at n 15) (bit_low n 15) is.frame.whole.no_ht_control) in
    ap (λ (x : ℕ). bit_or (bit_and x 0xc7) 0x40) is_b ∙ masked_down (get_or octets 1 0 / 8 % 8) (omega arith)
second_octet octets false small is f =
    let n : ℕ = frame_control octets in
    let c : IsControl octets = control_is octets (omega (arith, is.frame.long)) small in
    let is_b : get_or octets 1 0 ≡ 0x41 + 8 * (get_or octets 1 0 / 8 % 8) = second_up (get_or octets 1 0) n c.second
    (flag_set (bit_at n 8) f.to_ds) (flag_clear (bit_at n 9) (bit_low n 9) f.from_ds) (flag_clear (bit_at n 10) (bit_low n 10) is.frame.whole.last) (flag_set (bit_at n 14) is.covered) (flag_clear (bit_at n 15) (bit_low n 15) is.frame.whole.no_ht_control) in
    ap (λ (x : ℕ). bit_or (bit_and x 0xc7) 0x40) is_b ∙ masked_up (get_or octets 1 0 / 8 % 8) (omega arith)

beyond : (xs : List ℕ) (k : ℕ) → length xs ≤ k → get_or xs k 0 ≡ 0
beyond [] k out = refl
beyond (x ∷ xs) zero out = absurd (omega (arith, out))
beyond (x ∷ xs) (suc k) out = beyond xs k (omega (arith, out))

-- the first two octets of more
first_two : (octets : List ℕ) (size : ℕ) → AreOctets (take size octets) → 2 ≤ size → AreOctets (take 2 octets)
first_two octets size small low = octets_by_entries (take 2 octets) (λ k. below k)
  where
    below : (k : ℕ) → get_or (take 2 octets) k 0 < 256
    below zero = subst (λ (x : ℕ). x < 256) (get_or-take size octets 0 0 (omega (arith, low)) ∙ sym (get_or-take 2 octets 0 0 (omega arith))) (get_or_below (take size octets) 0 small)
    below (suc zero) = subst (λ (x : ℕ). x < 256) (get_or-take size octets 1 0 (omega (arith, low)) ∙ sym (get_or-take 2 octets 1 0 (omega arith))) (get_or_below (take size octets) 1 small)
    below (suc (suc k)) = subst (λ (x : ℕ). x < 256) (sym (beyond (take 2 octets) (suc (suc k)) (omega (arith, length-take 2 octets)))) (omega arith)

-- a header that was read, its TID, and its way
pub record DataHeader (header : List ℕ) (down : Bool) (tid : Option ℕ) : Type 0 where
  pub is : IsDataHeader header down
  pub tid_is : traffic_identifier header ≡ unwrap_or tid 0

-- by whether it is QoS data
header_by : (octets : List ℕ) (down : Bool) (size : ℕ) (b : Bool) → is_qos octets ≡ b → size ≡ cond b 26 24 → AreOctets (take size octets) → IsProtectedData octets → Flags octets down → DataHeader (take size octets) down (cond b (Some (control.traffic_identifier octets)) None)
header_by octets down size true qos is small data_ f =
    let long : length (take size octets) ≡ 26 = omega (arith, length-take size octets, is, data_.frame.long, ap {B = ℕ} (λ (b : Bool). cond b 26 24) qos) in
    let at : (i : ℕ) → i < 26 → get_or (take size octets) i 0 ≡ get_or octets i 0 = λ i low. get_or-take size octets i 0 (omega (arith, low, is)) in
    let c : IsControl octets = control_is octets (omega (arith, data_.frame.long)) (first_two octets size small (omega (arith, is))) in
    let w = and_parts (frame_type octets == 2) (frame_subtype octets == 0 || frame_subtype octets == 8) data_.frame.kind in
    let first : get_or octets 0 0 ≡ 0x88 = first_qos (get_or octets 0 0) (frame_control octets) c.first data_.frame.version (eqb-true (frame_type octets) 2 w.0) (eqb-true (frame_subtype octets) 8 qos) in
    record {
      is = record {
        mac_header = inr long;
        plain = λ other. absurd (omega (arith, long, other));
        qos = λ same. at 0 (omega arith) ∙ first;
        way = ap (λ (x : ℕ). bit_or (bit_and x 0xc7) 0x40) (at 1 (omega arith)) ∙ second_octet octets down (first_two octets size small (omega (arith, is))) data_ f;
      };
      tid_is = ap (λ (n : ℕ). if n == 26 then slice_index (take size octets) 24 % 16 else 0) long ∙ ap (λ (x : ℕ). x % 16) (at 24 (omega arith));
    }
header_by octets down size false qos is small data_ f =
    let long : length (take size octets) ≡ 24 = omega (arith, length-take size octets, is, data_.frame.long, ap {B = ℕ} (λ (b : Bool). cond b 26 24) qos) in
    let at : (i : ℕ) → i < 24 → get_or (take size octets) i 0 ≡ get_or octets i 0 = λ i low. get_or-take size octets i 0 (omega (arith, low, is)) in
    let c : IsControl octets = control_is octets (omega (arith, data_.frame.long)) (first_two octets size small (omega (arith, is))) in
    let w = and_parts (frame_type octets == 2) (frame_subtype octets == 0 || frame_subtype octets == 8) data_.frame.kind in
    let first : get_or octets 0 0 ≡ 0x08 = first_plain (get_or octets 0 0) (frame_control octets) c.first data_.frame.version (eqb-true (frame_type octets) 2 w.0) (eqb-true (frame_subtype octets) 0 (subtype_by (frame_subtype octets == 0) (frame_subtype octets == 8) w.1 qos)) in
    record {
      is = record {
        mac_header = inl long;
        plain = λ same. at 0 (omega arith) ∙ first;
        qos = λ other. absurd (omega (arith, long, other));
        way = ap (λ (x : ℕ). bit_or (bit_and x 0xc7) 0x40) (at 1 (omega arith)) ∙ second_octet octets down (first_two octets size small (omega (arith, is))) data_ f;
      };
      tid_is = ap (λ (n : ℕ). if n == 26 then slice_index (take size octets) 24 % 16 else 0) long;
    }

-- a frame from the distribution system
abbrev pub is_down : Direction → Bool
is_down ToDs = false
is_down FromDs = true

octets_front : (a b : List ℕ) → AreOctets (a ++ b) → AreOctets a
octets_front a b small = octets_by_entries a (λ k. below k (cases_lt k (length a)))
  where
    below : (k : ℕ) → (k < length a) ⊎ (length a ≤ k) → get_or a k 0 < 256
    below k (inl low) = subst (λ (x : ℕ). x < 256) (get_or_append_left a b 0 k low) (get_or_below (a ++ b) k small)
    below k (inr out) = subst (λ (x : ℕ). x < 256) (sym (beyond a k out)) (omega arith)

-- the way that a frame goes
flags_of : (octets : List ℕ) (way : Direction) → IsData octets 16 → (b : Bool) → is_to_ds octets ≡ b → (if b then ToDs else FromDs) ≡ way → Flags octets (is_down way)
flags_of octets ToDs data_ true is e = record { to_ds = is; from_ds = data_.one_way ∙ ap not is }
flags_of octets FromDs data_ false is e = record { to_ds = is; from_ds = data_.one_way ∙ ap not is }
flags_of octets FromDs data_ true is e = absurd (cc e)
flags_of octets ToDs data_ false is e = absurd (cc e)

-- what is read of protected data
pub header_read : (octets : List ℕ) (header : HeaderFields) (way : Direction) (tid : Option ℕ) (body : List ℕ) → SpellsAir octets (protected header way tid body) → AreOctets (header.octets ++ body) → DataHeader header.octets (is_down way) tid
header_read octets header way tid body s small =
    let one : protected header way tid body ≡ protected_at octets = s.0 in
    let h : header ≡ header_at (data_header_length octets) octets = cc one in
    let w : way ≡ direction_at octets = cc one in
    let t : tid ≡ tid_at octets = cc one in
    let size : ℕ = data_header_length octets in
    let head : header.octets ≡ take size octets = ap (λ (x : HeaderFields). x.octets) h in
    let low : AreOctets (take size octets) = subst AreOctets head (octets_front header.octets body small) in
    let f : Flags octets (is_down way) = flags_of octets way s.1.frame (is_to_ds octets) refl (sym w) in
    subst (λ (x : List ℕ). DataHeader x (is_down way) tid) (sym head)
    (subst (λ (x : Option ℕ). DataHeader (take size octets) (is_down way) x) (sym t) (header_by octets (is_down way) size (is_qos octets) refl refl low s.1 f))

-- ---- of what is sent

pub length-header : (first second : ℕ) (a1 a2 a3 qos : List ℕ) → IsAddress a1 → IsAddress a2 → IsAddress a3 → length (header_octets first second a1 a2 a3 qos) ≡ 24 + length qos
length-header first second a1 a2 a3 qos l1 l2 l3 = omega (arith, l1, l2, l3, length-append a1 (a2 ++ (a3 ++ (0 ∷ 0 ∷ qos))), length-append a2 (a3 ++ (0 ∷ 0 ∷ qos)), length-append a3 (0 ∷ 0 ∷ qos))

masked_flags : (way : Direction) → bit_or (bit_and (data_flags way true) 0xc7) 0x40 ≡ flags (is_down way)
masked_flags ToDs = refl
masked_flags FromDs = refl

pub header_sent : (way : Direction) (tid : Option ℕ) (a1 a2 a3 : List ℕ) → IsAddress a1 → IsAddress a2 → IsAddress a3 → IsDataHeader (data_header_octets way true tid a1 a2 a3) (is_down way)
header_sent way None a1 a2 a3 l1 l2 l3 =
    let size : length (data_header_octets way true None a1 a2 a3) ≡ 24 = length-header 0x08 (data_flags way true) a1 a2 a3 [] l1 l2 l3 in
    record { mac_header = inl size; plain = λ same. refl; qos = λ other. absurd (omega (arith, size, other)); way = masked_flags way }
header_sent way (Some t) a1 a2 a3 l1 l2 l3 =
    let size : length (data_header_octets way true (Some t) a1 a2 a3) ≡ 26 = length-header 0x88 (data_flags way true) a1 a2 a3 (t ∷ 0 ∷ []) l1 l2 l3 in
    record { mac_header = inr size; plain = λ other. absurd (omega (arith, size, other)); qos = λ same. refl; way = masked_flags way }
