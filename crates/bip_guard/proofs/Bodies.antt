-- Bodies with a Management MIC element, as they are written and as they are read.
use Rattle.std.proofs.Common.{◌≡◌, ℕ, ◌<◌, ◌≤◌, ◌+◌, ◌-◌, ◌/◌, ◌%◌, List, [], ◌∷◌, ◌++◌, length, take, drop, replicate, true, refl, sym, ap, ap₂, ◌∙◌, arith}
use Rattle.std.specs.Prelude.{◌^◌, slice_index}
use Rattle.std.specs.Int.{w16, w64, to_le_bytes, from_le_bytes}
use Rattle.std.proofs.lemmas.List.{append_assoc, take_at, take_all, drop_at, drop-drop, take-append-drop, length-append, length-drop, length-take-le, get_or-drop}
use Rattle.std.proofs.lemmas.List.Elements.{All-take, All-drop, All-cons, All-nil}
use Rattle.std.proofs.lemmas.Nat.{from_le_bytes-to_le_bytes_2, from_le_bytes-to_le_bytes_8, le_bytes_2, le_bytes_8}
use Rattle.std.proofs.lemmas.Slice.Eq.{bytes_eq-Decides}
use Rattle.domain_base.specs.Octets.{AreOctets}
use Rattle.domain_base.specs.Places.{part, little_endian_at}
use Rattle.domain_base.proofs.OctetLemmas.{get_or_below}
use Rattle.mac_prf.specs.Cmac.{cmac}
use Rattle.mac_prf.proofs.Sizes.{length-cmac}
use Rattle.bip_guard.specs.Bip.{bip_aad, mme_front, bip_mic, protected_body, BipProtected, mme_of, EndsInMme, key_id_in, ipn_at, ipn_in, mic_verifies}

pub length-mme_front : (id ipn : ℕ) → length (mme_front id ipn) ≡ 10
unfolding mme_front
length-mme_front id ipn = refl

pub length-bip_mic : (igtk header front : List ℕ) → length (bip_mic igtk header front) ≡ 8
unfolding bip_mic
length-bip_mic igtk header front =
    let covered : List ℕ = bip_aad header ++ (front ++ replicate 8 0) in
    length-take-le 8 (cmac igtk covered) (omega (arith, length-cmac igtk covered))

-- ---- a protected body, read

-- its parts
pub record Parts (igtk header : List ℕ) (id ipn : ℕ) (content body : List ℕ) : Type 0 where
  pub content_is : take (length body - 18) body ≡ content
  pub mme : mme_of body ≡ mme_front id ipn ++ bip_mic igtk header (content ++ mme_front id ipn)
  pub before : take (length body - 8) body ≡ content ++ mme_front id ipn
  pub mic : drop (length body - 8) body ≡ bip_mic igtk header (content ++ mme_front id ipn)

pub parts : (igtk header : List ℕ) (id ipn : ℕ) (content body : List ℕ) → body ≡ protected_body igtk header id ipn content → Parts igtk header id ipn content body
parts igtk header id ipn content body h =
    let head : List ℕ = mme_front id ipn in
    let front : List ℕ = content ++ head in
    let mic : List ℕ = bip_mic igtk header front in
    let front_long : length front ≡ length content + 10 = omega (arith, length-append content head, length-mme_front id ipn) in
    let long : length body ≡ length content + 18 = omega (arith, ap length h, length-append front mic, front_long, length-bip_mic igtk header front) in
    let behind : body ≡ content ++ (head ++ mic) = h ∙ append_assoc content head mic in
    let at : length body - 18 ≡ length content = omega (arith, long) in
    let end : length body - 8 ≡ length front = omega (arith, long, front_long) in record {
      content_is = ap₂ (λ (n : ℕ) (w : List ℕ). take n w) at behind ∙ take_at content (head ++ mic) (length content) refl;
      mme = ap₂ (λ (n : ℕ) (w : List ℕ). drop n w) at behind ∙ drop_at content (head ++ mic) (length content) refl;
      before = ap₂ (λ (n : ℕ) (w : List ℕ). take n w) end h ∙ take_at front mic (length front) refl;
      mic = ap₂ (λ (n : ℕ) (w : List ℕ). drop n w) end h ∙ drop_at front mic (length front) refl;
    }

key_id-read : (id ipn : ℕ) (mic : List ℕ) → id < 2 ^ 16 → little_endian_at w16 2 (mme_front id ipn ++ mic) ≡ id
unfolding mme_front
key_id-read id ipn mic h = from_le_bytes-to_le_bytes_2 id h

ipn-read : (id ipn : ℕ) (mic : List ℕ) → ipn < 2 ^ 48 → ipn_at (mme_front id ipn ++ mic) ≡ ipn
unfolding mme_front ipn_at
ipn-read id ipn mic h =
    let six : ℕ → ℕ → List ℕ = λ a b. (ipn % 256) ∷ (ipn / 2 ^ 8 % 256) ∷ (ipn / 2 ^ 16 % 256) ∷ (ipn / 2 ^ 24 % 256) ∷ (ipn / 2 ^ 32 % 256) ∷ (ipn / 2 ^ 40 % 256) ∷ a ∷ b ∷ [] in
    let seventh : 0 ≡ ipn / 2 ^ 48 % 256 = omega arith in
    let eighth : 0 ≡ ipn / 2 ^ 56 % 256 = omega arith in
    ap₂ (λ (a b : ℕ). from_le_bytes w64 (six a b)) seventh eighth ∙ from_le_bytes-to_le_bytes_8 ipn (omega arith)

pub content-of : {igtk header : List ℕ} {id ipn : ℕ} {content body : List ℕ} → BipProtected igtk header id ipn content body → take (length body - 18) body ≡ content
content-of {igtk} {header} {id} {ipn} {content} {body} p = (parts igtk header id ipn content body p.sealed).content_is

pub key_id-of : {igtk header : List ℕ} {id ipn : ℕ} {content body : List ℕ} → BipProtected igtk header id ipn content body → key_id_in body ≡ id
key_id-of {igtk} {header} {id} {ipn} {content} {body} p =
    ap (little_endian_at w16 2) (parts igtk header id ipn content body p.sealed).mme ∙ key_id-read id ipn _ p.key_id

pub ipn-of : {igtk header : List ℕ} {id ipn : ℕ} {content body : List ℕ} → BipProtected igtk header id ipn content body → ipn_in body ≡ ipn
ipn-of {igtk} {header} {id} {ipn} {content} {body} p =
    ap ipn_at (parts igtk header id ipn content body p.sealed).mme
    ∙ ipn-read id ipn _ (omega (arith, p.number))

-- the MIC field of a body is its end
mic_field : (body : List ℕ) → part (length body - 8) 8 body ≡ drop (length body - 8) body
mic_field body = take_all 8 (drop (length body - 8) body) (omega (arith, length-drop (length body - 8) body))

pub verifies-of : {igtk header : List ℕ} {id ipn : ℕ} {content body : List ℕ} → BipProtected igtk header id ipn content body → mic_verifies igtk header body ≡ true
unfolding mic_verifies
verifies-of {igtk} {header} {id} {ipn} {content} {body} p =
    let q = parts igtk header id ipn content body p.sealed in
    (bytes_eq-Decides (part (length body - 8) 8 body) (bip_mic igtk header (take (length body - 8) body))).1
    (mic_field body ∙ q.mic ∙ sym (ap (bip_mic igtk header) q.before))

-- ---- a body that verifies is protected

split_mme : (m : List ℕ) → m ≡ take 2 m ++ (part 2 2 m ++ (part 4 6 m ++ drop 10 m))
split_mme m =
    let rest : drop 4 m ≡ part 4 6 m ++ drop 10 m = sym (take-append-drop 6 (drop 4 m)) ∙ ap (λ (w : List ℕ). part 4 6 m ++ w) (drop-drop 6 4 m) in
    let more : drop 2 m ≡ part 2 2 m ++ (part 4 6 m ++ drop 10 m) = sym (take-append-drop 2 (drop 2 m)) ∙ ap (λ (w : List ℕ). part 2 2 m ++ w) (drop-drop 2 2 m ∙ rest) in
    sym (take-append-drop 2 m) ∙ ap (λ (w : List ℕ). take 2 m ++ w) more

part-octets : (at n : ℕ) (m : List ℕ) → AreOctets m → AreOctets (part at n m)
part-octets at n m are = All-take (λ octet. octet < 256) n (drop at m) (All-drop (λ octet. octet < 256) at m are)

length-part : (at n : ℕ) (m : List ℕ) → at + n ≤ length m → length (part at n m) ≡ n
length-part at n m h = length-take-le n (drop at m) (omega (arith, length-drop at m))

two-below : (xs : List ℕ) → length xs ≡ 2 → AreOctets xs → from_le_bytes w16 xs < 2 ^ 16
two-below [] h are = absurd (omega arith)
two-below (a ∷ []) h are = absurd (omega arith)
two-below (a ∷ b ∷ []) h are =
    let first : a < 256 = get_or_below (a ∷ b ∷ []) 0 are in
    let second : b < 256 = get_or_below (a ∷ b ∷ []) 1 are in
    omega arith
two-below (a ∷ b ∷ c ∷ rest) h are = absurd (omega arith)

-- the octets of a packet number, with two zeros behind them
abbrev number_octets : List ℕ → List ℕ
number_octets m =
    slice_index m 4 ∷ slice_index m 5 ∷ slice_index m 6 ∷ slice_index m 7 ∷ slice_index m 8 ∷ slice_index m 9 ∷ 0 ∷ 0 ∷ []

six_octets : (a b c d e f : ℕ) → a < 256 → b < 256 → c < 256 → d < 256 → e < 256 → f < 256 → AreOctets (a ∷ b ∷ c ∷ d ∷ e ∷ f ∷ 0 ∷ 0 ∷ [])
six_octets a b c d e f pa pb pc pd pe pf =
    let P : ℕ → Type 0 = λ x. x < 256 in
    let none : 0 < 256 = omega arith in
    All-cons P a (b ∷ c ∷ d ∷ e ∷ f ∷ 0 ∷ 0 ∷ []) pa (All-cons P b (c ∷ d ∷ e ∷ f ∷ 0 ∷ 0 ∷ []) pb (All-cons P c (d ∷ e ∷ f ∷ 0 ∷ 0 ∷ []) pc
    (All-cons P d (e ∷ f ∷ 0 ∷ 0 ∷ []) pd (All-cons P e (f ∷ 0 ∷ 0 ∷ []) pe (All-cons P f (0 ∷ 0 ∷ []) pf
    (All-cons P 0 (0 ∷ []) none (All-cons P 0 [] none (All-nil P))))))))

of_number : (m : List ℕ) → AreOctets m → AreOctets (number_octets m)
of_number m are =
    let at : (i : ℕ) → slice_index m i < 256 = λ i. get_or_below m i are in
    six_octets _ _ _ _ _ _ (at 4) (at 5) (at 6) (at 7) (at 8) (at 9)

six_below : (a b c d e f : ℕ) → a < 256 → b < 256 → c < 256 → d < 256 → e < 256 → f < 256 → from_le_bytes w64 (a ∷ b ∷ c ∷ d ∷ e ∷ f ∷ 0 ∷ 0 ∷ []) < 2 ^ 48
six_below a b c d e f pa pb pc pd pe pf = omega arith

ipn-below : (m : List ℕ) → AreOctets m → ipn_at m < 2 ^ 48
unfolding ipn_at
ipn-below m are =
    let at : (i : ℕ) → slice_index m i < 256 = λ i. get_or_below m i are in
    six_below _ _ _ _ _ _ (at 4) (at 5) (at 6) (at 7) (at 8) (at 9)

ten_first : (m : List ℕ) → 10 ≤ length m → part 4 6 m ≡ take 6 (number_octets m)
ten_first [] h = absurd (omega arith)
ten_first (a ∷ []) h = absurd (omega arith)
ten_first (a ∷ b ∷ []) h = absurd (omega arith)
ten_first (a ∷ b ∷ c ∷ []) h = absurd (omega arith)
ten_first (a ∷ b ∷ c ∷ d ∷ []) h = absurd (omega arith)
ten_first (a ∷ b ∷ c ∷ d ∷ e ∷ []) h = absurd (omega arith)
ten_first (a ∷ b ∷ c ∷ d ∷ e ∷ f ∷ []) h = absurd (omega arith)
ten_first (a ∷ b ∷ c ∷ d ∷ e ∷ f ∷ g ∷ []) h = absurd (omega arith)
ten_first (a ∷ b ∷ c ∷ d ∷ e ∷ f ∷ g ∷ i ∷ []) h = absurd (omega arith)
ten_first (a ∷ b ∷ c ∷ d ∷ e ∷ f ∷ g ∷ i ∷ j ∷ []) h = absurd (omega arith)
ten_first (a ∷ b ∷ c ∷ d ∷ e ∷ f ∷ g ∷ i ∷ j ∷ k ∷ rest) h = refl

-- an MME is what its fields say
mme-fields : (m : List ℕ) → 10 ≤ length m → take 2 m ≡ 0x4c ∷ 0x10 ∷ [] → AreOctets m
    → m ≡ mme_front (little_endian_at w16 2 m) (ipn_at m) ++ drop 10 m
unfolding mme_front ipn_at
mme-fields m long begin are =
    let id : List ℕ = part 2 2 m in
    let six : List ℕ = part 4 6 m in
    let number : List ℕ = number_octets m in
    let id_is : to_le_bytes w16 (from_le_bytes w16 id) ≡ id =
    le_bytes_2 id (from_le_bytes w16 id) (length-part 2 2 m (omega arith)) (λ i. get_or_below id i (part-octets 2 2 m are)) refl in
    let number_is : to_le_bytes w64 (from_le_bytes w64 number) ≡ number =
    le_bytes_8 number (from_le_bytes w64 number) refl (λ i. get_or_below number i (of_number m are)) refl in
    let six_is : take 6 (to_le_bytes w64 (from_le_bytes w64 number)) ≡ six = ap (take 6) number_is ∙ sym (ten_first m long) in
    split_mme m
    ∙ ap (λ (w : List ℕ). w ++ (id ++ (six ++ drop 10 m))) begin
    ∙ ap₂ (λ (v w : List ℕ). 0x4c ∷ 0x10 ∷ v ++ (w ++ drop 10 m)) (sym id_is) (sym six_is)
    ∙ ap (λ (w : List ℕ). 0x4c ∷ 0x10 ∷ w) (sym (append_assoc (to_le_bytes w16 (from_le_bytes w16 id)) (take 6 (to_le_bytes w64 (from_le_bytes w64 number))) (drop 10 m)))

two-first : (m : List ℕ) → 2 ≤ length m → take 2 m ≡ slice_index m 0 ∷ slice_index m 1 ∷ []
two-first [] h = absurd (omega arith)
two-first (a ∷ []) h = absurd (omega arith)
two-first (a ∷ b ∷ rest) h = refl

begins : (body : List ℕ) → EndsInMme body → take 2 (mme_of body) ≡ 0x4c ∷ 0x10 ∷ []
begins body ends =
    let at : ℕ = length body - 18 in
    let first : at + 0 ≡ at = omega arith in
    let place : at + 1 ≡ length body - 17 = omega (arith, ends.0) in
    two-first (mme_of body) (omega (arith, ends.0, length-drop at body))
    ∙ ap₂ (λ (x y : ℕ). x ∷ y ∷ [])
    (get_or-drop at body 0 0 ∙ ap (slice_index body) first ∙ ends.1)
    (get_or-drop at body 1 0 ∙ ap (slice_index body) place ∙ ends.2)

pub made : (igtk header body : List ℕ) → length header ≡ 24 → EndsInMme body → AreOctets body → mic_verifies igtk header body ≡ true
    → BipProtected igtk header (key_id_in body) (ipn_in body) (take (length body - 18) body) body
unfolding mic_verifies
made igtk header body is_header ends are verifies =
    let at : ℕ = length body - 18 in
    let content : List ℕ = take at body in
    let m : List ℕ = mme_of body in
    let m_long : length m ≡ 18 = omega (arith, ends.0, length-drop at body) in
    let octets : AreOctets m = All-drop (λ octet. octet < 256) at body are in
    let head : List ℕ = mme_front (little_endian_at w16 2 m) (ipn_at m) in
    let fields : m ≡ head ++ drop 10 m = mme-fields m (omega (arith, m_long)) (begins body ends) octets in
    let whole : body ≡ (content ++ head) ++ drop 10 m =
    sym (take-append-drop at body) ∙ ap (λ (w : List ℕ). content ++ w) fields ∙ sym (append_assoc content head (drop 10 m)) in
    let content_long : length content ≡ at = length-take-le at body (omega arith) in
    let front_long : length (content ++ head) ≡ length body - 8 =
    omega (arith, ends.0, content_long, length-append content head, length-mme_front (little_endian_at w16 2 m) (ipn_at m)) in
    let before : take (length body - 8) body ≡ content ++ head =
    ap (take (length body - 8)) whole ∙ take_at (content ++ head) (drop 10 m) (length body - 8) front_long in
    let place : at + 10 ≡ length body - 8 = omega (arith, ends.0) in
    let behind : drop 10 m ≡ drop (length body - 8) body = drop-drop 10 at body ∙ ap (λ (n : ℕ). drop n body) place in
    let verified = (bytes_eq-Decides (part (length body - 8) 8 body) (bip_mic igtk header (take (length body - 8) body))).0 verifies in record {
      mac_header = is_header;
      key_id = two-below (part 2 2 m) (length-part 2 2 m (omega (arith, m_long))) (part-octets 2 2 m octets);
      number = omega (arith, ipn-below m octets);
      sealed = whole ∙ ap (λ (w : List ℕ). (content ++ head) ++ w) (behind ∙ sym (mic_field body) ∙ verified ∙ ap (bip_mic igtk header) before);
    }
