-- What the MIC of a frame of reassociation covers stands in the frame at its place.
use Rattle.std.proofs.Common.{◌≡◌, ◌∙◌, ◌+◌, ◌≤◌, ℕ, Bool, true, false, List, [], ◌∷◌, ◌++◌, length, take, drop, Option, Some, refl, sym, ap, subst, arith}
use Rattle.std.specs.Prelude.{suc}
use Rattle.std.specs.Int.{w16, to_le_bytes}
use Rattle.std.proofs.lemmas.List.{append_assoc, length-append}
use Rattle.std.proofs.Math.Seq.{drop-append_seam, drop-append-add, take-append_seam}
use Rattle.domain_base.specs.Places.{part}
use Rattle.air_frame.specs.Sent.{IsAddress, management_header_octets, re_req_octets, re_resp_octets}
use Rattle.rsn_elements.specs.Transition.{WrappedGtkFields, WrappedIgtkFields, FteFields}
use Rattle.rsn_elements.specs.Sent.{ssid_octets, rates_octets, mde_octets, subelement_octets, wrapped_keys, fte_body, fte_octets}
use Rattle.domain_rules.specs.FastTransition.{no_mic}
use Rattle.mac_prf.specs.FteMic.{without_mic_field, fte_mic_input}
use Rattle.domain_rules.specs.TransitionFrames.{with_mic}
use Rattle.ft_exchange.specs.Sent.{AreSized, named_rsne, named_rsne_len, covered_in, re_req_elements_of, re_resp_elements_of}

-- ---- places

behind : (front rest : List ℕ) (at : ℕ) → length front ≡ at → drop at (front ++ rest) ≡ rest
behind front rest at is = subst (λ (n : ℕ). drop n (front ++ rest) ≡ rest) is (drop-append_seam front rest)

further : (front rest : List ℕ) (at n : ℕ) → length front ≡ at → drop (at + n) (front ++ rest) ≡ drop n rest
further front rest at n is = subst (λ (m : ℕ). drop (m + n) (front ++ rest) ≡ drop n rest) is (drop-append-add front rest n)

first : (xs ys : List ℕ) (n : ℕ) → length xs ≡ n → take n (xs ++ ys) ≡ xs
first xs ys n is = subst (λ (m : ℕ). take m (xs ++ ys) ≡ xs) is (take-append_seam xs ys)

covers : (sta ap' : List ℕ) (number at size : ℕ) (front rsne mde fte : List ℕ) → length front ≡ at → length rsne ≡ size → length mde ≡ 5
    → covered_in sta ap' number at size (front ++ (rsne ++ (mde ++ fte))) ≡ fte_mic_input sta ap' number rsne mde fte
covers sta ap' number at size front rsne mde fte l m n =
    let rest : List ℕ = rsne ++ (mde ++ fte) in
    let a : part at size (front ++ rest) ≡ rsne = ap (λ (x : List ℕ). take size x) (behind front rest at l) ∙ first rsne (mde ++ fte) size m in
    let b : part (at + size) 5 (front ++ rest) ≡ mde = ap (λ (x : List ℕ). take 5 x) (further front rest at size l ∙ behind rsne (mde ++ fte) size m) ∙ first mde fte 5 n in
    let c : drop (at + (size + 5)) (front ++ rest) ≡ fte = further front rest at (size + 5) l ∙ (further rsne (mde ++ fte) size 5 m ∙ behind mde fte 5 n) in
    ap (λ (x : List ℕ). fte_mic_input sta ap' number x (part (at + size) 5 (front ++ rest)) (drop (at + (size + 5)) (front ++ rest))) a
    ∙ ap (λ (x : List ℕ). fte_mic_input sta ap' number rsne x (drop (at + (size + 5)) (front ++ rest))) b
    ∙ ap (λ (x : List ℕ). fte_mic_input sta ap' number rsne mde x) c

-- ---- the MIC itself is not covered

-- an FTE of three elements, still without its MIC
abbrev pub counted_by : List ℕ → List ℕ → List ℕ → List ℕ → Option WrappedGtkFields → Option WrappedIgtkFields → FteFields
counted_by r1kh anonce snonce id gtk igtk = record {
  mic_control = 0 ∷ 3 ∷ [];
  mic = no_mic;
  anonce = anonce;
  snonce = snonce;
  r1kh_id = Some r1kh;
  gtk = gtk;
  r0kh_id = Some id;
  igtk = igtk;
}

-- the fields behind the MIC
abbrev pub tail_of : FteFields → List ℕ
tail_of f = f.anonce ++ (f.snonce ++ (subelement_octets 1 f.r1kh_id ++ (subelement_octets 3 f.r0kh_id ++ wrapped_keys f.gtk f.igtk)))

free : (a b size : ℕ) (mic rest : List ℕ) → length mic ≡ 16 → without_mic_field (0x37 ∷ size ∷ a ∷ b ∷ (mic ++ rest)) ≡ 0x37 ∷ size ∷ a ∷ b ∷ (no_mic ++ rest)
free a b size mic rest l = ap (λ (x : List ℕ). 0x37 ∷ size ∷ a ∷ b ∷ (no_mic ++ x)) (behind mic rest 16 l)

same_size : (mic rest : List ℕ) → length mic ≡ 16 → length (mic ++ rest) ≡ length (no_mic ++ rest)
same_size mic rest l = length-append mic rest ∙ omega (arith, l, length-append no_mic rest)

mic_free : (r1kh anonce snonce id : List ℕ) (gtk : Option WrappedGtkFields) (igtk : Option WrappedIgtkFields) (mic : List ℕ) → length mic ≡ 16
    → without_mic_field (fte_octets (with_mic mic (counted_by r1kh anonce snonce id gtk igtk))) ≡ without_mic_field (fte_octets (counted_by r1kh anonce snonce id gtk igtk))
mic_free r1kh anonce snonce id gtk igtk mic l =
    let f : FteFields = counted_by r1kh anonce snonce id gtk igtk in
    let size : length (fte_body (with_mic mic f)) ≡ length (fte_body f) = ap (λ (n : ℕ). suc (suc n)) (same_size mic (tail_of f) l) in
    free 0 3 (length (fte_body (with_mic mic f))) mic (tail_of f) l
    ∙ ap (λ (n : ℕ). 0x37 ∷ n ∷ 0 ∷ 3 ∷ (no_mic ++ tail_of f)) size
    ∙ sym (free 0 3 (length (fte_body f)) no_mic (tail_of f) refl)

-- ---- requests and responses

address_front : (subtype : ℕ) (a1 a2 a3 : List ℕ) → length a1 ≡ 6 → length a2 ≡ 6 → length a3 ≡ 6 → length (management_header_octets subtype a1 a2 a3) ≡ 24
address_front subtype a1 a2 a3 l m n =
    omega (arith, length-append a1 (a2 ++ (a3 ++ 0 ∷ 0 ∷ [])), length-append a2 (a3 ++ 0 ∷ 0 ∷ []), length-append a3 (0 ∷ 0 ∷ []), l, m, n)

pub rsne_len : (protected : Bool) (name : List ℕ) → length name ≡ 16 → length (named_rsne protected name) ≡ named_rsne_len protected
rsne_len true name l = omega (arith, l, length-append name (0x00 ∷ 0x0f ∷ 0xac ∷ 0x06 ∷ []))
rsne_len false name l = omega (arith, l)

-- it is one of two lengths
pub rsne_few : (protected : Bool) → named_rsne_len protected ≤ 44
rsne_few true = omega arith
rsne_few false = omega arith

pub rsne_least : (protected : Bool) → 40 ≤ named_rsne_len protected
rsne_least true = omega arith
rsne_least false = omega arith

pub mde_len : (mdid : List ℕ) → length mdid ≡ 2 → length (mde_octets mdid) ≡ 5
mde_len mdid l = omega (arith, l, length-append mdid (0 ∷ []))

input_free : (sta ap' : List ℕ) (number : ℕ) (rsne mde r1kh anonce snonce id : List ℕ) (gtk : Option WrappedGtkFields) (igtk : Option WrappedIgtkFields) (mic : List ℕ) → length mic ≡ 16
    → fte_mic_input sta ap' number rsne mde (fte_octets (with_mic mic (counted_by r1kh anonce snonce id gtk igtk))) ≡ fte_mic_input sta ap' number rsne mde (fte_octets (counted_by r1kh anonce snonce id gtk igtk))
input_free sta ap' number rsne mde r1kh anonce snonce id gtk igtk mic l =
    ap (λ (x : List ℕ). sta ++ (ap' ++ (number ∷ (rsne ++ (mde ++ x))))) (mic_free r1kh anonce snonce id gtk igtk mic l)

abbrev pub request_front : List ℕ → List ℕ → List ℕ → List ℕ → List ℕ → List ℕ
request_front a1 a2 a3 current ssid = management_header_octets 2 a1 a2 a3 ++ (0x11 ∷ 0x00 ∷ 0x0a ∷ 0x00 ∷ (current ++ (ssid_octets ssid ++ rates_octets)))

request_front_len : (a1 a2 a3 current ssid : List ℕ) → length a1 ≡ 6 → length a2 ≡ 6 → length a3 ≡ 6 → length current ≡ 6 → length (request_front a1 a2 a3 current ssid) ≡ 42 + length ssid
request_front_len a1 a2 a3 current ssid l m n c =
    length-append (management_header_octets 2 a1 a2 a3) (0x11 ∷ 0x00 ∷ 0x0a ∷ 0x00 ∷ (current ++ (ssid_octets ssid ++ rates_octets)))
    ∙ omega (arith, address_front 2 a1 a2 a3 l m n, length-append current (ssid_octets ssid ++ rates_octets), length-append (ssid_octets ssid) rates_octets, c)

request_cut : (a1 a2 a3 current ssid rest : List ℕ) → re_req_octets a1 a2 a3 current ((ssid_octets ssid ++ rates_octets) ++ rest) ≡ request_front a1 a2 a3 current ssid ++ rest
request_cut a1 a2 a3 current ssid rest =
    sym (append_assoc (management_header_octets 2 a1 a2 a3) (0x11 ∷ 0x00 ∷ 0x0a ∷ 0x00 ∷ (current ++ (ssid_octets ssid ++ rates_octets))) rest
    ∙ ap (λ (x : List ℕ). management_header_octets 2 a1 a2 a3 ++ (0x11 ∷ 0x00 ∷ 0x0a ∷ 0x00 ∷ x))
    (append_assoc current (ssid_octets ssid ++ rates_octets) rest))

-- a frame with these elements at its end
request_in : (a1 a2 a3 current ssid rsne mde fte : List ℕ) (number size : ℕ) → length a1 ≡ 6 → length a2 ≡ 6 → length a3 ≡ 6 → length current ≡ 6 → length rsne ≡ size → length mde ≡ 5
    → covered_in a2 a1 number (42 + length ssid) size (re_req_octets a1 a2 a3 current ((ssid_octets ssid ++ rates_octets) ++ ((rsne ++ mde) ++ fte))) ≡ fte_mic_input a2 a1 number rsne mde fte
request_in a1 a2 a3 current ssid rsne mde fte number size l m n c r s =
    ap (λ (x : List ℕ). covered_in a2 a1 number (42 + length ssid) size x) (request_cut a1 a2 a3 current ssid ((rsne ++ mde) ++ fte) ∙ ap (λ (x : List ℕ). request_front a1 a2 a3 current ssid ++ x) (append_assoc rsne mde fte))
    ∙ covers a2 a1 number (42 + length ssid) size (request_front a1 a2 a3 current ssid) rsne mde fte (request_front_len a1 a2 a3 current ssid l m n c) r s

-- in a request
pub request_covers : (protected : Bool) (own peer current ssid name mdid anonce snonce id mic : List ℕ) (gtk : Option WrappedGtkFields) (igtk : Option WrappedIgtkFields) (number : ℕ) → IsAddress own → IsAddress peer → IsAddress current → AreSized name mdid mic
    → covered_in own peer number (42 + length ssid) (named_rsne_len protected) (re_req_octets peer own peer current (re_req_elements_of protected ssid name mdid (with_mic mic (counted_by peer anonce snonce id gtk igtk))))
    ≡ fte_mic_input own peer number (named_rsne protected name) (mde_octets mdid) (fte_octets (counted_by peer anonce snonce id gtk igtk))
request_covers protected own peer current ssid name mdid anonce snonce id mic gtk igtk number o p c z =
    request_in peer own peer current ssid (named_rsne protected name) (mde_octets mdid) (fte_octets (with_mic mic (counted_by peer anonce snonce id gtk igtk))) number (named_rsne_len protected) p o p c (rsne_len protected name z.name_len) (mde_len mdid z.mdid_len)
    ∙ input_free own peer number (named_rsne protected name) (mde_octets mdid) peer anonce snonce id gtk igtk mic z.mic_len

abbrev pub response_front : List ℕ → List ℕ → List ℕ → ℕ → ℕ → List ℕ
response_front a1 a2 a3 status aid = management_header_octets 3 a1 a2 a3 ++ (0x11 ∷ 0x00 ∷ (to_le_bytes w16 status ++ (to_le_bytes w16 aid ++ rates_octets)))

response_front_len : (a1 a2 a3 : List ℕ) (status aid : ℕ) → length a1 ≡ 6 → length a2 ≡ 6 → length a3 ≡ 6 → length (response_front a1 a2 a3 status aid) ≡ 36
response_front_len a1 a2 a3 status aid l m n =
    length-append (management_header_octets 3 a1 a2 a3) (0x11 ∷ 0x00 ∷ (to_le_bytes w16 status ++ (to_le_bytes w16 aid ++ rates_octets)))
    ∙ omega (arith, address_front 3 a1 a2 a3 l m n, length-append (to_le_bytes w16 status) (to_le_bytes w16 aid ++ rates_octets), length-append (to_le_bytes w16 aid) rates_octets)

response_cut : (a1 a2 a3 : List ℕ) (status aid : ℕ) (rest : List ℕ) → re_resp_octets a1 a2 a3 status aid (rates_octets ++ rest) ≡ response_front a1 a2 a3 status aid ++ rest
response_cut a1 a2 a3 status aid rest =
    sym (append_assoc (management_header_octets 3 a1 a2 a3) (0x11 ∷ 0x00 ∷ (to_le_bytes w16 status ++ (to_le_bytes w16 aid ++ rates_octets))) rest
    ∙ ap (λ (x : List ℕ). management_header_octets 3 a1 a2 a3 ++ (0x11 ∷ 0x00 ∷ x))
    (append_assoc (to_le_bytes w16 status) (to_le_bytes w16 aid ++ rates_octets) rest ∙ ap (λ (x : List ℕ). to_le_bytes w16 status ++ x) (append_assoc (to_le_bytes w16 aid) rates_octets rest)))

response_in : (a1 a2 a3 : List ℕ) (status aid : ℕ) (rsne mde fte : List ℕ) (number size : ℕ) → length a1 ≡ 6 → length a2 ≡ 6 → length a3 ≡ 6 → length rsne ≡ size → length mde ≡ 5
    → covered_in a1 a2 number 36 size (re_resp_octets a1 a2 a3 status aid (rates_octets ++ ((rsne ++ mde) ++ fte))) ≡ fte_mic_input a1 a2 number rsne mde fte
response_in a1 a2 a3 status aid rsne mde fte number size l m n r s =
    ap (λ (x : List ℕ). covered_in a1 a2 number 36 size x) (response_cut a1 a2 a3 status aid ((rsne ++ mde) ++ fte) ∙ ap (λ (x : List ℕ). response_front a1 a2 a3 status aid ++ x) (append_assoc rsne mde fte))
    ∙ covers a1 a2 number 36 size (response_front a1 a2 a3 status aid) rsne mde fte (response_front_len a1 a2 a3 status aid l m n) r s

-- and in a response
pub response_covers : (protected : Bool) (own peer : List ℕ) (aid : ℕ) (name mdid anonce snonce id mic : List ℕ) (gtk : Option WrappedGtkFields) (igtk : Option WrappedIgtkFields) (number : ℕ) → IsAddress own → IsAddress peer → AreSized name mdid mic
    → covered_in peer own number 36 (named_rsne_len protected) (re_resp_octets peer own own 0 aid (re_resp_elements_of protected name mdid (with_mic mic (counted_by own anonce snonce id gtk igtk))))
    ≡ fte_mic_input peer own number (named_rsne protected name) (mde_octets mdid) (fte_octets (counted_by own anonce snonce id gtk igtk))
response_covers protected own peer aid name mdid anonce snonce id mic gtk igtk number o p z =
    response_in peer own own 0 aid (named_rsne protected name) (mde_octets mdid) (fte_octets (with_mic mic (counted_by own anonce snonce id gtk igtk))) number (named_rsne_len protected) p o o (rsne_len protected name z.name_len) (mde_len mdid z.mdid_len)
    ∙ input_free peer own number (named_rsne protected name) (mde_octets mdid) own anonce snonce id gtk igtk mic z.mic_len
