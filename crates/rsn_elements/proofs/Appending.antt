-- One piece behind another, and the lengths of what is sent.
use Rattle.std.proofs.Common.{◌≡◌, ℕ, ◌+◌, ◌≤◌, List, [], ◌∷◌, ◌++◌, length, take, Option, Some, None, refl, sym, ap, subst, ◌∙◌, arith}
use Rattle.std.specs.Int.{w16, to_le_bytes}
use Rattle.std.proofs.lemmas.List.{length-append, append_assoc, append-nil}
use Rattle.rsn_elements.specs.declared.writing.ElementWriter.{ElementWriter}
use Rattle.rsn_elements.specs.Transition.{FteFields, WrappedGtkFields, WrappedIgtkFields}
use Rattle.rsn_elements.specs.Sent.{subelement_octets, wrapped_gtk_octets, wrapped_gtk_subelement, wrapped_igtk_octets, wrapped_igtk_subelement, wrapped_keys, fte_body, fte_octets}
use Rattle.rsn_elements.specs.Writer.{Appends}

-- a piece, and one behind it
pub appends_both : (a b c : ElementWriter) (xs ys : List ℕ) → Appends a b xs → Appends b c ys → Appends a c (xs ++ ys)
appends_both a b c xs ys x y = record {
  same = y.same ∙ x.same;
  size = omega (arith, x.size, y.size, length-append xs ys);
  front = y.front ∙ ap (λ (w : List ℕ). w ++ ys) x.front ∙ append_assoc (take a.len a.out.now) xs ys;
  rest = λ n high. y.rest n high ∙ x.rest n (omega (arith, high, y.size));
  whole = y.whole ∙ x.whole;
}

-- the same octets by another name
pub appends_as : (a b : ElementWriter) (xs ys : List ℕ) → xs ≡ ys → Appends a b xs → Appends a b ys
appends_as a b xs ys is x = subst (λ (w : List ℕ). Appends a b w) is x

pub length_three : (a b c : List ℕ) → length (a ++ (b ++ c)) ≡ length a + (length b + length c)
length_three a b c = length-append a (b ++ c) ∙ ap (λ (n : ℕ). length a + n) (length-append b c)

-- the wrapped keys of an FTE, one after the other
pub keys_are : (gtk : Option WrappedGtkFields) (igtk : Option WrappedIgtkFields) → wrapped_keys gtk igtk ≡ wrapped_gtk_subelement gtk ++ wrapped_igtk_subelement igtk
keys_are gtk None = sym (append-nil (wrapped_gtk_subelement gtk))
keys_are gtk (Some g) = refl

keys_length : (gtk : Option WrappedGtkFields) (igtk : Option WrappedIgtkFields) → length (wrapped_keys gtk igtk) ≡ length (wrapped_gtk_subelement gtk) + length (wrapped_igtk_subelement igtk)
keys_length gtk igtk = ap length (keys_are gtk igtk) ∙ length-append (wrapped_gtk_subelement gtk) (wrapped_igtk_subelement igtk)

-- the parts of an FTE
pub fte_length : (f : FteFields) → length (fte_body f)
    ≡ length f.mic_control + (length f.mic + (length f.anonce + (length f.snonce + (length (subelement_octets 1 f.r1kh_id) + (length (subelement_octets 3 f.r0kh_id) + (length (wrapped_gtk_subelement f.gtk) + length (wrapped_igtk_subelement f.igtk)))))))
fte_length f =
    let a = subelement_octets 1 f.r1kh_id in
    let b = subelement_octets 3 f.r0kh_id in
    let c = wrapped_keys f.gtk f.igtk in
    length_three f.mic_control f.mic (f.anonce ++ (f.snonce ++ (a ++ (b ++ c))))
    ∙ ap (λ (n : ℕ). length f.mic_control + (length f.mic + n)) (length_three f.anonce f.snonce (a ++ (b ++ c)) ∙ ap (λ (n : ℕ). length f.anonce + (length f.snonce + n)) (length_three a b c ∙ ap (λ (n : ℕ). length a + (length b + n)) (keys_length f.gtk f.igtk)))

-- the part of an FTE that has one length
abbrev pub fixed_octets : FteFields → List ℕ
fixed_octets f = f.mic_control ++ (f.mic ++ (f.anonce ++ f.snonce))

fixed_length : (f : FteFields) → length (fixed_octets f) ≡ length f.mic_control + (length f.mic + (length f.anonce + length f.snonce))
fixed_length f =
    length_three f.mic_control f.mic (f.anonce ++ f.snonce) ∙ ap (λ (n : ℕ). length f.mic_control + (length f.mic + n)) (length-append f.anonce f.snonce)

fixed_front : (f : FteFields) (xs : List ℕ) → fixed_octets f ++ xs ≡ f.mic_control ++ (f.mic ++ (f.anonce ++ (f.snonce ++ xs)))
fixed_front f xs =
    append_assoc f.mic_control (f.mic ++ (f.anonce ++ f.snonce)) xs
    ∙ ap (λ (w : List ℕ). f.mic_control ++ w) (append_assoc f.mic (f.anonce ++ f.snonce) xs ∙ ap (λ (w : List ℕ). f.mic ++ w) (append_assoc f.anonce f.snonce xs))

-- an FTE, piece by piece
module _ (f : FteFields) (size : ℕ) (w0 w1 w2 w3 w4 : ElementWriter) (front : Appends w0 w1 (0x37 ∷ size ∷ [])) (fixed : Appends w1 w2 (fixed_octets f))
    (first : Appends w2 w3 (subelement_octets 1 f.r1kh_id)) (third : Appends w3 w4 (subelement_octets 3 f.r0kh_id)) where
  pub fte_room : w0.len + length (fte_octets f) ≤ length w0.out.now → w4.len + length (wrapped_gtk_subelement f.gtk) ≤ length w4.out.now
  fte_room room =
      omega (arith, room, fte_length f, fixed_length f, front.size, fixed.size, first.size, third.size, front.whole, fixed.whole, first.whole, third.whole)

  pub igtk_room : (w5 : ElementWriter) → Appends w4 w5 (wrapped_gtk_subelement f.gtk) → w0.len + length (fte_octets f) ≤ length w0.out.now → w5.len + length (wrapped_igtk_subelement f.igtk) ≤ length w5.out.now
  igtk_room w5 second room =
      omega (arith, room, fte_length f, fixed_length f, front.size, fixed.size, first.size, third.size, second.size, front.whole, fixed.whole, first.whole, third.whole, second.whole)

  pub fte_written : (w5 w6 : ElementWriter) → size ≡ length (fte_body f) → Appends w4 w5 (wrapped_gtk_subelement f.gtk) → Appends w5 w6 (wrapped_igtk_subelement f.igtk) → Appends w0 w6 (fte_octets f)
  fte_written w5 w6 is second last =
      let a = subelement_octets 1 f.r1kh_id in
      let b = subelement_octets 3 f.r0kh_id in
      let c = wrapped_keys f.gtk f.igtk in
      let keys : Appends w4 w6 c = appends_as w4 w6 (wrapped_gtk_subelement f.gtk ++ wrapped_igtk_subelement f.igtk) c (sym (keys_are f.gtk f.igtk)) (appends_both w4 w5 w6 (wrapped_gtk_subelement f.gtk) (wrapped_igtk_subelement f.igtk) second last) in
      appends_as w0 w6 (0x37 ∷ size ∷ (fixed_octets f ++ (a ++ (b ++ c)))) (fte_octets f)
      (ap (λ (w : List ℕ). 0x37 ∷ size ∷ w) (fixed_front f (a ++ (b ++ c))) ∙ ap (λ (n : ℕ). 0x37 ∷ n ∷ fte_body f) is)
      (appends_both w0 w1 w6 (0x37 ∷ size ∷ []) (fixed_octets f ++ (a ++ (b ++ c))) front
      (appends_both w1 w2 w6 (fixed_octets f) (a ++ (b ++ c)) fixed (appends_both w2 w3 w6 a (b ++ c) first (appends_both w3 w4 w6 b c third keys))))

pub r0kh_id_room : (f : FteFields) (size : ℕ) (w0 w1 w2 w3 : ElementWriter) → Appends w0 w1 (0x37 ∷ size ∷ []) → Appends w1 w2 (fixed_octets f) → Appends w2 w3 (subelement_octets 1 f.r1kh_id)
    → w0.len + length (fte_octets f) ≤ length w0.out.now → w3.len + length (subelement_octets 3 f.r0kh_id) ≤ length w3.out.now
r0kh_id_room f size w0 w1 w2 w3 front fixed first room =
    omega (arith, room, fte_length f, fixed_length f, front.size, fixed.size, first.size, front.whole, fixed.whole, first.whole)

pub r1kh_id_room : (f : FteFields) (size : ℕ) (w0 w1 w2 : ElementWriter) → Appends w0 w1 (0x37 ∷ size ∷ []) → Appends w1 w2 (fixed_octets f)
    → w0.len + length (fte_octets f) ≤ length w0.out.now → w2.len + length (subelement_octets 1 f.r1kh_id) ≤ length w2.out.now
r1kh_id_room f size w0 w1 w2 front fixed room = omega (arith, room, fte_length f, fixed_length f, front.size, fixed.size, front.whole, fixed.whole)

-- a subelement that is there, after its id and its length
pub subelement_written : (id size : ℕ) (body : List ℕ) (w0 w1 w2 : ElementWriter) → size ≡ length body → Appends w0 w1 (id ∷ size ∷ []) → Appends w1 w2 body → Appends w0 w2 (subelement_octets id (Some body))
subelement_written id size body w0 w1 w2 is front last =
    appends_as w0 w2 (id ∷ size ∷ body) (id ∷ length body ∷ body) (ap (λ (n : ℕ). id ∷ n ∷ body) is) (appends_both w0 w1 w2 (id ∷ size ∷ []) body front last)

-- a wrapped GTK, piece by piece
pub gtk_written : (g : WrappedGtkFields) (size : ℕ) (w0 w1 w2 w3 w4 : ElementWriter) → size ≡ length (wrapped_gtk_octets g) → Appends w0 w1 (2 ∷ size ∷ [])
    → Appends w1 w2 (to_le_bytes w16 g.information ++ g.key_length ∷ []) → Appends w2 w3 g.rsc → Appends w3 w4 g.wrapped → Appends w0 w4 (subelement_octets 2 (Some (wrapped_gtk_octets g)))
gtk_written g size w0 w1 w2 w3 w4 is front information rsc wrapped =
    let start = to_le_bytes w16 g.information in
    subelement_written 2 size (wrapped_gtk_octets g) w0 w1 w4 is front
    (appends_as w1 w4 ((start ++ g.key_length ∷ []) ++ (g.rsc ++ g.wrapped)) (wrapped_gtk_octets g) (append_assoc start (g.key_length ∷ []) (g.rsc ++ g.wrapped))
    (appends_both w1 w2 w4 (start ++ g.key_length ∷ []) (g.rsc ++ g.wrapped) information (appends_both w2 w3 w4 g.rsc g.wrapped rsc wrapped)))

-- a wrapped IGTK, piece by piece
pub igtk_written : (g : WrappedIgtkFields) (size : ℕ) (w0 w1 w2 w3 w4 : ElementWriter) → size ≡ length (wrapped_igtk_octets g) → Appends w0 w1 (4 ∷ size ∷ [])
    → Appends w1 w2 (to_le_bytes w16 g.id ++ g.ipn) → Appends w2 w3 (g.key_length ∷ []) → Appends w3 w4 g.wrapped → Appends w0 w4 (subelement_octets 4 (Some (wrapped_igtk_octets g)))
igtk_written g size w0 w1 w2 w3 w4 is front number key_length wrapped =
    let id = to_le_bytes w16 g.id in
    subelement_written 4 size (wrapped_igtk_octets g) w0 w1 w4 is front
    (appends_as w1 w4 ((id ++ g.ipn) ++ (g.key_length ∷ g.wrapped)) (wrapped_igtk_octets g) (append_assoc id g.ipn (g.key_length ∷ g.wrapped))
    (appends_both w1 w2 w4 (id ++ g.ipn) (g.key_length ∷ g.wrapped) number (appends_both w2 w3 w4 (g.key_length ∷ []) g.wrapped key_length wrapped)))
