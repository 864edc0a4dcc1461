-- What a writer of elements has put to the front of the octets that it writes over (IEEE Std 802.11-2020, 9.4.2).
use Rattle.std.proofs.Common.{◌≡◌, ◌≤◌, ◌∙◌, ◌+◌, ℕ, Bool, true, false, List, [], ◌++◌, length, take, Some, refl, sym, ap, subst, arith}
use Rattle.std.proofs.lemmas.List.{append_assoc, length-append, take_all}
use Rattle.domain_base.specs.declared.names.Akm.TheVariants.{FtPsk}
use Rattle.rsn_elements.specs.declared.writing.ElementWriter.{ElementWriter}
use Rattle.rsn_elements.specs.Transition.{FteFields}
use Rattle.rsn_elements.specs.Sent.{ssid_octets, rates_octets, rsne_octets, rsne_mfp_octets, mde_octets, subelement_octets, wrapped_keys, fte_body, fte_octets}
use Rattle.rsn_elements.specs.Pieces.{FitsFte}
use Rattle.rsn_elements.specs.Writer.{HasRoom, Appends}
use Rattle.ft_exchange.specs.Sent.{named_rsne, named_rsne_len}
use Rattle.ft_exchange.proofs.Covers.{rsne_len, rsne_few, mde_len}

-- a writer over octets enough for every element that a frame has: so many octets are written, and they are these
pub record Wrote (octets : List ℕ) (n : ℕ) (w : ElementWriter) : Type 0 where
  pub len : w.len ≡ n
  pub front : take w.len w.out.now ≡ octets
  pub room : 303 ≤ length w.out.now

pub wrote_none : {w : ElementWriter} {out : List ℕ} → w.len ≡ 0 → w.out.now ≡ out → 303 ≤ length out → Wrote [] 0 w
wrote_none {w} none before room = record {
  len = none;
  front = ap (λ (n : ℕ). take n w.out.now) none;
  room = subst (λ (l : List ℕ). 303 ≤ length l) (sym before) room;
}

-- and one element more
wrote : {w v : ElementWriter} {front : List ℕ} {n : ℕ} (piece : List ℕ) (m : ℕ) → Wrote front n w → Appends w v piece → length piece ≡ m → Wrote (front ++ piece) (n + m) v
wrote piece m was appends size = record {
  len = omega (arith, appends.size, was.len, size);
  front = appends.front ∙ ap (λ (l : List ℕ). l ++ piece) was.front;
  room = omega (arith, was.room, appends.whole);
}

pub wrote_ssid : {w v : ElementWriter} {front : List ℕ} {n : ℕ} (ssid : List ℕ) → Wrote front n w → Appends w v (ssid_octets ssid) → Wrote (front ++ ssid_octets ssid) (n + length (ssid_octets ssid)) v
wrote_ssid ssid was appends = wrote (ssid_octets ssid) (length (ssid_octets ssid)) was appends refl

pub wrote_rates : {w v : ElementWriter} {front : List ℕ} {n : ℕ} → Wrote front n w → Appends w v rates_octets → Wrote (front ++ rates_octets) (n + 6) v
wrote_rates was appends = wrote rates_octets 6 was appends refl

pub wrote_rsne : {w v : ElementWriter} {front : List ℕ} {n : ℕ} (protected : Bool) (name : List ℕ) → Wrote front n w → Appends w v (named_rsne protected name) → length name ≡ 16 → Wrote (front ++ named_rsne protected name) (n + named_rsne_len protected) v
wrote_rsne protected name was appends l = wrote (named_rsne protected name) (named_rsne_len protected) was appends (rsne_len protected name l)

pub wrote_mde : {w v : ElementWriter} {front : List ℕ} {n : ℕ} (mdid : List ℕ) → Wrote front n w → Appends w v (mde_octets mdid) → length mdid ≡ 2 → Wrote (front ++ mde_octets mdid) (n + 5) v
wrote_mde mdid was appends l = wrote (mde_octets mdid) 5 was appends (mde_len mdid l)

pub wrote_fte : {w v : ElementWriter} {front : List ℕ} {n : ℕ} (f : FteFields) → Wrote front n w → Appends w v (fte_octets f) → Wrote (front ++ fte_octets f) (n + length (fte_octets f)) v
wrote_fte f was appends = wrote (fte_octets f) (length (fte_octets f)) was appends refl

-- ---- the RSNE, where management frames are protected or not

pub protected_written : (protected : Bool) (name : List ℕ) (w v : ElementWriter) → protected ≡ true → Appends w v (rsne_mfp_octets FtPsk (Some name)) → Appends w v (named_rsne protected name)
protected_written protected name w v is appends = subst (λ (b : Bool). Appends w v (named_rsne b name)) (sym is) appends

pub plain_written : (protected : Bool) (name : List ℕ) (w v : ElementWriter) → protected ≡ false → Appends w v (rsne_octets FtPsk (Some name)) → Appends w v (named_rsne protected name)
plain_written protected name w v is appends = subst (λ (b : Bool). Appends w v (named_rsne b name)) (sym is) appends

-- ---- room

pub room_for_rsne : {w : ElementWriter} {front : List ℕ} {n : ℕ} → Wrote front n w → n ≤ 40 → HasRoom w 44
room_for_rsne was few = omega (arith, was.len, was.room, few)

pub room_for_mde : {w : ElementWriter} {front : List ℕ} {n : ℕ} (mdid : List ℕ) → Wrote front n w → length mdid ≡ 2 → n ≤ 84 → HasRoom w (length (mde_octets mdid))
room_for_mde mdid was l few = omega (arith, was.len, was.room, mde_len mdid l, few)

fte_most : (f : FteFields) → length (fte_body f) ≤ 212 → length (fte_octets f) ≤ 214
fte_most f few = omega (arith, few)

pub room_for_fte : {w : ElementWriter} {front : List ℕ} {n : ℕ} (f : FteFields) → Wrote front n w → length (fte_body f) ≤ 212 → n ≤ 89 → HasRoom w (length (fte_octets f))
room_for_fte f was few most = omega (arith, was.len, was.room, fte_most f few, most)

-- ---- an FTE has 82 octets before its subelements

behind_fixed : (a b c d e : List ℕ) → length a ≡ 2 → length b ≡ 16 → length c ≡ 32 → length d ≡ 32 → 82 ≤ length (a ++ (b ++ (c ++ (d ++ e))))
behind_fixed a b c d e k l m n =
    omega (arith, length-append a (b ++ (c ++ (d ++ e))), length-append b (c ++ (d ++ e)), length-append c (d ++ e), length-append d e, k, l, m, n)

fte_least : (f : FteFields) → FitsFte f → 84 ≤ length (fte_octets f)
fte_least f fits =
    omega (arith, behind_fixed f.mic_control f.mic f.anonce f.snonce (subelement_octets 1 f.r1kh_id ++ (subelement_octets 3 f.r0kh_id ++ wrapped_keys f.gtk f.igtk)) fits.mic_control fits.mic fits.anonce fits.snonce)

-- so many octets are written in all
pub fte_some : {v w : ElementWriter} {len : ℕ} (f : FteFields) → len ≡ w.len → v.len ≡ 0 → Appends v w (fte_octets f) → FitsFte f → 84 ≤ len
fte_some f is none appends fits = omega (arith, is, none, appends.size, fte_least f fits)

pub some_written : {w : ElementWriter} {front : List ℕ} {len least : ℕ} (n : ℕ) (f : FteFields) → len ≡ w.len → Wrote front (n + length (fte_octets f)) w → FitsFte f → least ≤ n + 84 → least ≤ len
some_written n f is was fits few = omega (arith, is, was.len, fte_least f fits, few)

pub few_written : {w : ElementWriter} {front : List ℕ} {len most : ℕ} (n : ℕ) (f : FteFields) → len ≡ w.len → Wrote front (n + length (fte_octets f)) w → length (fte_body f) ≤ 212 → n + 214 ≤ most → len ≤ most
few_written n f is was few enough = omega (arith, is, was.len, fte_most f few, enough)

-- as many as an RSNE has
pub rsne_written : {v w : ElementWriter} {len : ℕ} (protected : Bool) (name : List ℕ) → len ≡ w.len → v.len ≡ 0 → Appends v w (named_rsne protected name) → length name ≡ 16 → len ≤ 44
rsne_written protected name is none appends l = omega (arith, is, none, appends.size, rsne_len protected name l, rsne_few protected)

-- RSNE, MDE and FTE behind what stands before them
pub behind_start : (start rsne mde fte : List ℕ) → ((start ++ rsne) ++ mde) ++ fte ≡ start ++ ((rsne ++ mde) ++ fte)
behind_start start rsne mde fte = append_assoc (start ++ rsne) mde fte ∙ append_assoc start rsne (mde ++ fte) ∙ sym (ap (λ (w : List ℕ). start ++ w) (append_assoc rsne mde fte))

pub front_is : {w : ElementWriter} {front xs ys : List ℕ} {n : ℕ} → Wrote front n w → front ≡ ys → xs ≡ take w.len w.out.now → xs ≡ ys
front_is was is same = same ∙ (was.front ∙ is)

-- one element over octets of its own size
pub written_whole : {v w : ElementWriter} (piece : List ℕ) → v.len ≡ 0 → Appends v w piece → length v.out.now ≡ length piece → w.out.now ≡ piece
written_whole {v} {w} piece none appends size =
    let most : length w.out.now ≤ w.len = omega (arith, appends.size, none, appends.whole, size) in
    sym (take_all w.len w.out.now most) ∙ (appends.front ∙ ap (λ (n : ℕ). take n v.out.now ++ piece) none)

pub whole_is : (w : ElementWriter) {xs ys : List ℕ} → w.out.now ≡ ys → xs ≡ w.out.now → xs ≡ ys
whole_is w is same = same ∙ is
