-- CCMP bodies as they are written and as they are read.
use Rattle.std.proofs.Common.{◌≡◌, ℕ, ◌<◌, ◌≤◌, ◌+◌, ◌-◌, ◌/◌, ◌%◌, List, [], ◌∷◌, ◌++◌, length, take, drop, refl, sym, ap, ap₂, ◌∙◌, arith}
use Rattle.std.specs.Prelude.{◌^◌, slice_index}
use Rattle.std.proofs.lemmas.List.{append_assoc, take_at, drop_at, drop-drop, length-append, length-drop}
use Rattle.std.proofs.lemmas.List.Elements.{All-cons, All-nil}
use Rattle.std.proofs.lemmas.Slice.{drop-append-drop}
use Rattle.std.proofs.lemmas.Nat.{from_le_bytes-to_le_bytes_8, le_bytes_8}
use Rattle.std.specs.Int.{w64, from_le_bytes}
use Rattle.ccmp_guard.specs.Ccm.{Sealed}
use Rattle.ccmp_guard.specs.Ccmp.{IsHeader, ccm_nonce, ccm_aad, ccmp_header, packet_number, Protected, AgreeBodies}
use Rattle.domain_base.specs.Octets.{AreOctets}
use Rattle.domain_base.proofs.OctetLemmas.{get_or_below}
use Rattle.ccmp_guard.proofs.Sealing.{Sealed-along, parts}

pub length-ccmp_header : (id pn : ℕ) → length (ccmp_header id pn) ≡ 8
unfolding ccmp_header
length-ccmp_header id pn = refl

-- a slice with a CCMP header written at its front, and behind it what the plain text is sealed to
unfoldable pub slice_with : List ℕ → List ℕ → List ℕ → ℕ → List ℕ
slice_with head sealed old n = take 8 (head ++ drop 8 old) ++ (sealed ++ drop (8 + n + 8 - 8) (drop 8 (head ++ drop 8 old)))

written_so : (head sealed old : List ℕ) (n : ℕ) → length head ≡ 8 → length sealed ≡ n + 8
    → slice_with head sealed old n ≡ (head ++ sealed) ++ drop (8 + n + 8) old
unfolding slice_with
written_so head sealed old n len len' =
    let place : 8 + (8 + n + 8 - 8) ≡ 8 + n + 8 = omega arith in
    let back : drop (8 + n + 8 - 8) (drop 8 (head ++ drop 8 old)) ≡ drop (8 + n + 8) old =
    ap (drop (8 + n + 8 - 8)) (drop_at head (drop 8 old) 8 len) ∙ drop-drop (8 + n + 8 - 8) 8 old ∙ ap (λ (k : ℕ). drop k old) place in
    ap₂ (λ (v w : List ℕ). v ++ (sealed ++ w)) (take_at head (drop 8 old) 8 len) back
    ∙ sym (append_assoc head sealed (drop (8 + n + 8) old))

both_long : (head sealed : List ℕ) (n : ℕ) → length head ≡ 8 → length sealed ≡ n + 8 → length (head ++ sealed) ≡ 8 + n + 8
both_long head sealed n len len' = omega (arith, length-append head sealed)

pub body_written : (head sealed old : List ℕ) (n : ℕ) → length head ≡ 8 → length sealed ≡ n + 8
    → take (8 + n + 8) (slice_with head sealed old n) ≡ head ++ sealed
body_written head sealed old n len len' =
    ap (take (8 + n + 8)) (written_so head sealed old n len len')
    ∙ take_at (head ++ sealed) (drop (8 + n + 8) old) (8 + n + 8) (both_long head sealed n len len')

pub body_header : (head sealed old : List ℕ) (n : ℕ) → length head ≡ 8 → length sealed ≡ n + 8 → take 8 (slice_with head sealed old n) ≡ head
body_header head sealed old n len len' =
    ap (take 8) (written_so head sealed old n len len' ∙ append_assoc head sealed (drop (8 + n + 8) old))
    ∙ take_at head (sealed ++ drop (8 + n + 8) old) 8 len

pub body_rest : (head sealed old : List ℕ) (n m : ℕ) → length head ≡ 8 → length sealed ≡ n + 8 → 8 + n + 8 ≤ m
    → drop m (slice_with head sealed old n) ≡ drop m old
body_rest head sealed old n m len len' h =
    ap (drop m) (written_so head sealed old n len len')
    ∙ drop-append-drop (8 + n + 8) old (head ++ sealed) m h (both_long head sealed n len len')

-- the packet number that was written is read
packet_number-written : (id pn : ℕ) (sealed : List ℕ) → pn < 2 ^ 48 → packet_number (ccmp_header id pn ++ sealed) ≡ pn
unfolding ccmp_header packet_number
packet_number-written id pn sealed h =
    let six : ℕ → ℕ → List ℕ = λ a b. (pn % 256) ∷ (pn / 2 ^ 8 % 256) ∷ (pn / 2 ^ 16 % 256) ∷ (pn / 2 ^ 24 % 256) ∷ (pn / 2 ^ 32 % 256) ∷ (pn / 2 ^ 40 % 256) ∷ a ∷ b ∷ [] in
    let seventh : 0 ≡ pn / 2 ^ 48 % 256 = omega arith in
    let eighth : 0 ≡ pn / 2 ^ 56 % 256 = omega arith in
    ap₂ (λ (a b : ℕ). from_le_bytes w64 (six a b)) seventh eighth ∙ from_le_bytes-to_le_bytes_8 pn (omega arith)

pub Protected-made : (tk header : List ℕ) (id pn : ℕ) (plain sealed nonce aad : List ℕ) → IsHeader header → pn < 2 ^ 48
    → nonce ≡ ccm_nonce header pn → aad ≡ ccm_aad header → Sealed tk nonce aad plain sealed
    → Protected tk header id pn plain (ccmp_header id pn ++ sealed)
unfolding ccmp_header
Protected-made tk header id pn plain sealed nonce aad is_header number en ea h = record {
  mac_header = is_header;
  number = packet_number-written id pn sealed number;
  key_id = omega arith;
  extended = omega arith;
  sealed = Sealed-along en ea refl refl h;
}

-- ---- a plain text has one body

-- the octets of the packet number, as a row of eight
abbrev number_octets : List ℕ → List ℕ
number_octets body =
    slice_index body 0 ∷ slice_index body 1 ∷ slice_index body 4 ∷ slice_index body 5 ∷ slice_index body 6 ∷ slice_index body 7 ∷ 0 ∷ 0 ∷ []

-- a list of at least eight
eight_first : (xs : List ℕ) → 8 ≤ length xs
    → xs ≡ slice_index xs 0 ∷ slice_index xs 1 ∷ slice_index xs 2 ∷ slice_index xs 3 ∷ slice_index xs 4 ∷ slice_index xs 5 ∷ slice_index xs 6 ∷ slice_index xs 7 ∷ drop 8 xs
eight_first [] h = absurd (omega arith)
eight_first (a ∷ []) h = absurd (omega arith)
eight_first (a ∷ b ∷ []) h = absurd (omega arith)
eight_first (a ∷ b ∷ c ∷ []) h = absurd (omega arith)
eight_first (a ∷ b ∷ c ∷ d ∷ []) h = absurd (omega arith)
eight_first (a ∷ b ∷ c ∷ d ∷ e ∷ []) h = absurd (omega arith)
eight_first (a ∷ b ∷ c ∷ d ∷ e ∷ f ∷ []) h = absurd (omega arith)
eight_first (a ∷ b ∷ c ∷ d ∷ e ∷ f ∷ g ∷ []) h = absurd (omega arith)
eight_first (a ∷ b ∷ c ∷ d ∷ e ∷ f ∷ g ∷ i ∷ rest) h = refl

low_octets : (body : List ℕ) → 8 ≤ length body → take 2 body ≡ take 2 (number_octets body)
low_octets body h = ap (take 2) (eight_first body h)

high_octets : (body : List ℕ) → 8 ≤ length body → drop 4 body ≡ drop 2 (take 6 (number_octets body)) ++ drop 8 body
high_octets body h = ap (drop 4) (eight_first body h)

six_octets : (a b c d e f : ℕ) → a < 256 → b < 256 → c < 256 → d < 256 → e < 256 → f < 256 → AreOctets (a ∷ b ∷ c ∷ d ∷ e ∷ f ∷ 0 ∷ 0 ∷ [])
six_octets a b c d e f pa pb pc pd pe pf =
    let P : ℕ → Type 0 = λ x. x < 256 in
    let none : 0 < 256 = omega arith in
    All-cons P a (b ∷ c ∷ d ∷ e ∷ f ∷ 0 ∷ 0 ∷ []) pa (All-cons P b (c ∷ d ∷ e ∷ f ∷ 0 ∷ 0 ∷ []) pb (All-cons P c (d ∷ e ∷ f ∷ 0 ∷ 0 ∷ []) pc
    (All-cons P d (e ∷ f ∷ 0 ∷ 0 ∷ []) pd (All-cons P e (f ∷ 0 ∷ 0 ∷ []) pe (All-cons P f (0 ∷ 0 ∷ []) pf
    (All-cons P 0 (0 ∷ []) none (All-cons P 0 [] none (All-nil P))))))))

of_number : (body : List ℕ) → AreOctets body → AreOctets (number_octets body)
of_number body are =
    let at : (i : ℕ) → slice_index body i < 256 = λ i. get_or_below body i are in
    six_octets _ _ _ _ _ _ (at 0) (at 1) (at 4) (at 5) (at 6) (at 7)

-- octets are determined by the number that they are
number_octets-unique : (body other : List ℕ) → AreOctets body → AreOctets other → packet_number body ≡ packet_number other → number_octets body ≡ number_octets other
unfolding packet_number
number_octets-unique body other of_body of_other e =
    sym (le_bytes_8 (number_octets body) (packet_number body) refl (λ i. get_or_below (number_octets body) i (of_number body of_body)) refl)
    ∙ le_bytes_8 (number_octets other) (packet_number body) refl (λ i. get_or_below (number_octets other) i (of_number other of_other)) e

body_long : (tk header : List ℕ) (id pn : ℕ) (plain body : List ℕ) → Protected tk header id pn plain body → 16 ≤ length body
body_long tk header id pn plain body h =
    let long = (parts tk (ccm_nonce header pn) (ccm_aad header) plain (drop 8 body) h.sealed).long in
    omega (arith, long, length-drop 8 body)

pub Protected-agree : (tk header : List ℕ) (id pn : ℕ) (plain body other : List ℕ) → AreOctets body → AreOctets other
    → Protected tk header id pn plain body → Protected tk header id pn plain other → AgreeBodies body other
Protected-agree tk header id pn plain body other of_body of_other h k =
    let number = number_octets-unique body other of_body of_other (h.number ∙ sym k.number) in
    let long = body_long tk header id pn plain body h in
    let long' = body_long tk header id pn plain other k in record {
      low = low_octets body (omega arith) ∙ ap (take 2) number ∙ sym (low_octets other (omega arith));
      flags = omega (arith, h.key_id, k.key_id, h.extended, k.extended);
      rest = high_octets body (omega arith)
          ∙ ap₂ (λ (v w : List ℕ). drop 2 (take 6 v) ++ w) number (h.sealed.sealed ∙ sym k.sealed.sealed)
          ∙ sym (high_octets other (omega arith));
    }
