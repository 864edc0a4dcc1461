-- Pieces that are sent one after the other are elements, and what they say.
use Rattle.std.proofs.Common.{◌≡◌, ℕ, zero, suc, ◌+◌, ◌<◌, true, false, eqb, List, [], ◌∷◌, ◌++◌, length, take, map, Some, None, refl, sym, ap, subst, ◌∙◌, arith, inl, inr}
use Rattle.std.specs.Prelude.{filter, fold}
use Rattle.std.specs.List.{AllByRecursion}
use Rattle.std.specs.Int.{w16, w32, to_le_bytes}
use Rattle.std.proofs.lemmas.Bool.{eqb-true, eq-eqb, cases_Bool, false≢true}
use Rattle.std.proofs.lemmas.List.{append-nil, append_assoc, length-append, take_at, get_or_at}
use Rattle.std.proofs.lemmas.List.Concat.{flat_map-append}
use Rattle.rsn_elements.specs.declared.framing.Within.{Within}
use Rattle.rsn_elements.specs.declared.framing.Within.TheVariants.{Body, KeyData}
use Rattle.rsn_elements.specs.Framing.{Element, element_octets, joined, EndsReading}
use Rattle.rsn_elements.specs.Transition.{SpellsMde}
use Rattle.rsn_elements.specs.KeyData.{SpellsGtkKde}
use Rattle.rsn_elements.specs.Elements.{ElementFields, ElementKind, AnRsne, AnMde, AnFte, ATimeout, AGtkKde, AnIgtkKde, is, Tells, SpellsElements}
use Rattle.rsn_elements.specs.Sent.{fte_body, rsne_octets, rsne_mfp_octets, mde_octets, fte_octets, ipn_octets}
use Rattle.rsn_elements.specs.Pieces.{Piece, SentSsid, SentRates, SentRsne, SentRsneMfp, SentMde, SentFte, SentGtkKde, SentIgtkKde, SentTimeout, piece_octets, pieces_octets, FitsPiece, label, AreApart, sent_rsne, sent_rsne_mfp, nothing, with_piece, said, IsPassedOver}
use Rattle.rsn_elements.proofs.Saying.{filter-other}
use Rattle.rsn_elements.proofs.Gathering.{is-id, tells_nothing, tells_other, tells_rsne, tells_mde, tells_fte, tells_gtk, tells_igtk, tells_timeout, says_this, says_other, passed_id, passed_vendor}
use Rattle.rsn_elements.proofs.SentSpelled.{rsne_body, rsne_spelled, rsne_size, rsne_mfp_body, rsne_mfp_spelled, rsne_mfp_size, igtk_spelled, fte_spelled, timeout_spelled}

abbrev piece_element : Piece → Element
piece_element (SentSsid ssid) = record { id = 0x00; body = ssid }
piece_element SentRates = record { id = 0x01; body = 0x82 ∷ 0x84 ∷ 0x8b ∷ 0x96 ∷ [] }
piece_element (SentRsne akm pmkid) = record { id = 0x30; body = rsne_body akm pmkid }
piece_element (SentRsneMfp akm pmkid) = record { id = 0x30; body = rsne_mfp_body akm pmkid }
piece_element (SentMde mdid) = record { id = 0x36; body = mdid ++ 0x00 ∷ [] }
piece_element (SentFte f) = record { id = 0x37; body = fte_body f }
piece_element (SentGtkKde id key) = record { id = 0xdd; body = 0x00 ∷ 0x0f ∷ 0xac ∷ 0x01 ∷ id ∷ 0x00 ∷ key }
piece_element (SentIgtkKde id ipn key) = record { id = 0xdd; body = 0x00 ∷ 0x0f ∷ 0xac ∷ 0x09 ∷ (to_le_bytes w16 id ++ (ipn_octets ipn ++ key)) }
piece_element (SentTimeout kind value) = record { id = 0x38; body = kind ∷ to_le_bytes w32 value }

mde_size : (mdid : List ℕ) → length mdid ≡ 2 → length (mdid ++ 0x00 ∷ []) ≡ 3
mde_size mdid h = omega (arith, h, length-append mdid (0x00 ∷ []))

piece_is : (p : Piece) → FitsPiece p → piece_octets p ≡ element_octets (piece_element p)
piece_is (SentSsid ssid) fits = refl
piece_is SentRates fits = refl
piece_is (SentRsne akm None) fits = refl
piece_is (SentRsne akm (Some pmkid)) fits = ap (λ (n : ℕ). 0x30 ∷ n ∷ rsne_body akm (Some pmkid)) (sym (rsne_size akm pmkid fits))
piece_is (SentRsneMfp akm None) fits = refl
piece_is (SentRsneMfp akm (Some pmkid)) fits = ap (λ (n : ℕ). 0x30 ∷ n ∷ rsne_mfp_body akm (Some pmkid)) (sym (rsne_mfp_size akm pmkid fits))
piece_is (SentMde mdid) fits = ap (λ (n : ℕ). 0x36 ∷ n ∷ (mdid ++ 0x00 ∷ [])) (sym (mde_size mdid fits))
piece_is (SentFte f) fits = refl
piece_is (SentGtkKde id key) fits = ap (λ (n : ℕ). 0xdd ∷ n ∷ 0x00 ∷ 0x0f ∷ 0xac ∷ 0x01 ∷ id ∷ 0x00 ∷ key) (omega (arith, fits.1))
piece_is (SentIgtkKde id ipn key) fits = ap (λ (n : ℕ). 0xdd ∷ n ∷ 0x00 ∷ 0x0f ∷ 0xac ∷ 0x09 ∷ (to_le_bytes w16 id ++ (ipn_octets ipn ++ key))) (omega (arith, fits.1))
piece_is (SentTimeout kind value) fits = refl

piece_goes : (within : Within) (p : Piece) → EndsReading within (element_octets (piece_element p)) → ⊥
piece_goes Body p h = h
piece_goes KeyData (SentSsid ssid) h = omega (arith, h.0)
piece_goes KeyData SentRates h = omega (arith, h.0)
piece_goes KeyData (SentRsne akm pmkid) h = omega (arith, h.0)
piece_goes KeyData (SentRsneMfp akm pmkid) h = omega (arith, h.0)
piece_goes KeyData (SentMde mdid) h = omega (arith, h.0)
piece_goes KeyData (SentFte f) h = omega (arith, h.0)
piece_goes KeyData (SentGtkKde id key) h = omega (arith, h.1)
piece_goes KeyData (SentIgtkKde id ipn key) h = omega (arith, h.1)
piece_goes KeyData (SentTimeout kind value) h = omega (arith, h.0)

mde_spelled : (mdid : List ℕ) → length mdid ≡ 2 → SpellsMde (mdid ++ 0x00 ∷ []) (record { mdid = mdid; capability = 0 })
mde_spelled mdid h = (
  mde_size mdid h,
  ap (λ (m : List ℕ). record { mdid = m; capability = 0 }) (sym (take_at mdid (0x00 ∷ []) 2 h))
      ∙ ap (λ (c : ℕ). record { mdid = take 2 (mdid ++ 0x00 ∷ []); capability = c }) (sym (get_or_at mdid 0x00 [] 0 2 h)),
)

gtk_spelled : (id : ℕ) (key : List ℕ) → id < 4 → length key ≡ 16 → SpellsGtkKde (0x00 ∷ 0x0f ∷ 0xac ∷ 0x01 ∷ id ∷ 0x00 ∷ key) (record { id = id; transmit = false; key = key })
gtk_spelled zero key low size = (omega arith, refl)
gtk_spelled (suc zero) key low size = (omega arith, refl)
gtk_spelled (suc (suc zero)) key low size = (omega arith, refl)
gtk_spelled (suc (suc (suc zero))) key low size = (omega arith, refl)
gtk_spelled (suc (suc (suc (suc n)))) key low size = absurd (omega arith)

-- no element before is of a kind of the piece
abbrev Fresh : Within → List Element → Piece → Type 0
Fresh within es p = (kind : ElementKind) → is within kind (piece_element p) ≡ true → filter (is within kind) es ≡ []

step : (within : Within) (es : List Element) (f : ElementFields) (p : Piece) → Tells within es f → FitsPiece p → Fresh within es p → Tells within (es ++ piece_element p ∷ []) (with_piece within f p)
step within es f (SentSsid ssid) t fits fresh =
    tells_other within es _ f (piece_goes within (SentSsid ssid)) t (passed_id within _ (record { rsne = λ h. omega (arith, h); mde = λ h. omega (arith, h); fte = λ h. omega (arith, h); timeout = λ h. omega (arith, h); vendor = λ h. omega (arith, h) }))
step within es f SentRates t fits fresh =
    tells_other within es _ f (piece_goes within SentRates) t (passed_id within _ (record { rsne = λ h. omega (arith, h); mde = λ h. omega (arith, h); fte = λ h. omega (arith, h); timeout = λ h. omega (arith, h); vendor = λ h. omega (arith, h) }))
step within es f (SentRsne akm pmkid) t fits fresh =
    tells_rsne within es (piece_element (SentRsne akm pmkid)) f (piece_goes within (SentRsne akm pmkid)) t (sent_rsne akm pmkid) (rsne_octets akm pmkid) (piece_is (SentRsne akm pmkid) fits) refl (fresh AnRsne refl) (rsne_spelled akm pmkid fits)
step within es f (SentRsneMfp akm pmkid) t fits fresh =
    tells_rsne within es (piece_element (SentRsneMfp akm pmkid)) f (piece_goes within (SentRsneMfp akm pmkid)) t (sent_rsne_mfp akm pmkid) (rsne_mfp_octets akm pmkid) (piece_is (SentRsneMfp akm pmkid) fits) refl (fresh AnRsne refl) (rsne_mfp_spelled akm pmkid fits)
step within es f (SentMde mdid) t fits fresh =
    tells_mde within es (piece_element (SentMde mdid)) f (piece_goes within (SentMde mdid)) t (record { mdid = mdid; capability = 0 }) (mde_octets mdid) (piece_is (SentMde mdid) fits) refl (fresh AnMde refl) (mde_spelled mdid fits)
step within es f (SentFte x) t fits fresh =
    tells_fte within es (piece_element (SentFte x)) f (piece_goes within (SentFte x)) t x (fte_octets x) (piece_is (SentFte x) fits) refl (fresh AnFte refl) (fte_spelled x fits)
step KeyData es f (SentGtkKde id key) t fits fresh =
    tells_gtk KeyData es (piece_element (SentGtkKde id key)) f (piece_goes KeyData (SentGtkKde id key)) t (record { id = id; transmit = false; key = key }) refl (fresh AGtkKde refl) (gtk_spelled id key fits.0 fits.1)
step Body es f (SentGtkKde id key) t fits fresh =
    tells_other Body es (piece_element (SentGtkKde id key)) f (piece_goes Body (SentGtkKde id key)) t (passed_vendor Body (piece_element (SentGtkKde id key)) refl refl refl)
step KeyData es f (SentIgtkKde id ipn key) t fits fresh =
    tells_igtk KeyData es (piece_element (SentIgtkKde id ipn key)) f (piece_goes KeyData (SentIgtkKde id ipn key)) t (record { id = id; ipn = ipn_octets ipn; key = key }) refl (fresh AnIgtkKde refl) (igtk_spelled id ipn key fits.0)
step Body es f (SentIgtkKde id ipn key) t fits fresh =
    tells_other Body es (piece_element (SentIgtkKde id ipn key)) f (piece_goes Body (SentIgtkKde id ipn key)) t (passed_vendor Body (piece_element (SentIgtkKde id ipn key)) refl refl refl)
step within es f (SentTimeout zero value) t fits fresh =
    tells_timeout within es (piece_element (SentTimeout zero value)) value refl (timeout_spelled zero value fits) f (piece_goes within (SentTimeout zero value)) t (fresh (ATimeout zero) refl) f.deadline f.lifetime
    (says_other within es _ value refl (timeout_spelled zero value fits) 1 f.deadline (λ h. omega (arith, h)) t.deadline)
    (says_other within es _ value refl (timeout_spelled zero value fits) 2 f.lifetime (λ h. omega (arith, h)) t.lifetime)
step within es f (SentTimeout (suc zero) value) t fits fresh =
    tells_timeout within es (piece_element (SentTimeout 1 value)) value refl (timeout_spelled 1 value fits) f (piece_goes within (SentTimeout 1 value)) t (fresh (ATimeout 1) refl) (Some value) f.lifetime
    (says_this within es _ value refl (timeout_spelled 1 value fits) 1 refl (fresh (ATimeout 1) refl))
    (says_other within es _ value refl (timeout_spelled 1 value fits) 2 f.lifetime (λ h. omega (arith, h)) t.lifetime)
step within es f (SentTimeout (suc (suc zero)) value) t fits fresh =
    tells_timeout within es (piece_element (SentTimeout 2 value)) value refl (timeout_spelled 2 value fits) f (piece_goes within (SentTimeout 2 value)) t (fresh (ATimeout 2) refl) f.deadline (Some value)
    (says_other within es _ value refl (timeout_spelled 2 value fits) 1 f.deadline (λ h. omega (arith, h)) t.deadline)
    (says_this within es _ value refl (timeout_spelled 2 value fits) 2 refl (fresh (ATimeout 2) refl))
step within es f (SentTimeout (suc (suc (suc kind))) value) t fits fresh =
    tells_timeout within es (piece_element (SentTimeout (suc (suc (suc kind))) value)) value refl (timeout_spelled (suc (suc (suc kind))) value fits) f (piece_goes within (SentTimeout (suc (suc (suc kind))) value)) t (fresh (ATimeout (suc (suc (suc kind)))) (of_timeout within (suc (suc (suc kind))) value)) f.deadline f.lifetime
    (says_other within es _ value refl (timeout_spelled (suc (suc (suc kind))) value fits) 1 f.deadline (λ h. omega (arith, h)) t.deadline)
    (says_other within es _ value refl (timeout_spelled (suc (suc (suc kind))) value fits) 2 f.lifetime (λ h. omega (arith, h)) t.lifetime)
  where
    of_timeout : (w : Within) (k v : ℕ) → is w (ATimeout k) (piece_element (SentTimeout k v)) ≡ true
    of_timeout w k v = eq-eqb k k refl

-- ---- pieces of different labels are of different kinds

abbrev kind_label : ElementKind → ℕ
kind_label AnRsne = 0x30
kind_label AnMde = 0x36
kind_label AnFte = 0x37
kind_label (ATimeout kind) = 0x100 + kind
kind_label AGtkKde = 0xdd
kind_label AnIgtkKde = 0xde

other_label : (within : Within) (kind : ElementKind) (e : Element) → is within kind e ≡ true → (e.id ≡ 0x38 → ⊥) → (e.id ≡ 0xdd → ⊥) → e.id ≡ kind_label kind
other_label within AnRsne e of_kind other vendor = is-id within AnRsne e of_kind
other_label within AnMde e of_kind other vendor = is-id within AnMde e of_kind
other_label within AnFte e of_kind other vendor = is-id within AnFte e of_kind
other_label within (ATimeout kind) e of_kind other vendor = absurd (other (is-id within (ATimeout kind) e of_kind))
other_label within AGtkKde e of_kind other vendor = absurd (vendor (is-id within AGtkKde e of_kind))
other_label within AnIgtkKde e of_kind other vendor = absurd (vendor (is-id within AnIgtkKde e of_kind))

timeout_label : (within : Within) (kind : ElementKind) (k value : ℕ) → is within kind (piece_element (SentTimeout k value)) ≡ true → 0x100 + k ≡ kind_label kind
timeout_label within AnRsne k value of_kind = absurd cc
timeout_label within AnMde k value of_kind = absurd cc
timeout_label within AnFte k value of_kind = absurd cc
timeout_label within (ATimeout kind) k value of_kind = ap (λ (n : ℕ). 0x100 + n) (eqb-true k kind of_kind)
timeout_label KeyData AGtkKde k value of_kind = absurd cc
timeout_label Body AGtkKde k value of_kind = absurd cc
timeout_label KeyData AnIgtkKde k value of_kind = absurd cc
timeout_label Body AnIgtkKde k value of_kind = absurd cc

gtk_label : (within : Within) (kind : ElementKind) (id : ℕ) (key : List ℕ) → is within kind (piece_element (SentGtkKde id key)) ≡ true → 0xdd ≡ kind_label kind
gtk_label within AnRsne id key of_kind = absurd cc
gtk_label within AnMde id key of_kind = absurd cc
gtk_label within AnFte id key of_kind = absurd cc
gtk_label within (ATimeout kind) id key of_kind = absurd cc
gtk_label within AGtkKde id key of_kind = refl
gtk_label KeyData AnIgtkKde id key of_kind = absurd cc
gtk_label Body AnIgtkKde id key of_kind = absurd cc

igtk_label : (within : Within) (kind : ElementKind) (id ipn : ℕ) (key : List ℕ) → is within kind (piece_element (SentIgtkKde id ipn key)) ≡ true → 0xde ≡ kind_label kind
igtk_label within AnRsne id ipn key of_kind = absurd cc
igtk_label within AnMde id ipn key of_kind = absurd cc
igtk_label within AnFte id ipn key of_kind = absurd cc
igtk_label within (ATimeout kind) id ipn key of_kind = absurd cc
igtk_label KeyData AGtkKde id ipn key of_kind = absurd cc
igtk_label Body AGtkKde id ipn key of_kind = absurd cc
igtk_label within AnIgtkKde id ipn key of_kind = refl

label_kind : (within : Within) (kind : ElementKind) (p : Piece) → is within kind (piece_element p) ≡ true → label p ≡ kind_label kind
label_kind within kind (SentSsid ssid) of_kind = other_label within kind _ of_kind (λ h. omega (arith, h)) (λ h. omega (arith, h))
label_kind within kind SentRates of_kind = other_label within kind _ of_kind (λ h. omega (arith, h)) (λ h. omega (arith, h))
label_kind within kind (SentRsne akm pmkid) of_kind = other_label within kind _ of_kind (λ h. omega (arith, h)) (λ h. omega (arith, h))
label_kind within kind (SentRsneMfp akm pmkid) of_kind = other_label within kind _ of_kind (λ h. omega (arith, h)) (λ h. omega (arith, h))
label_kind within kind (SentMde mdid) of_kind = other_label within kind _ of_kind (λ h. omega (arith, h)) (λ h. omega (arith, h))
label_kind within kind (SentFte f) of_kind = other_label within kind _ of_kind (λ h. omega (arith, h)) (λ h. omega (arith, h))
label_kind within kind (SentGtkKde id key) of_kind = gtk_label within kind id key of_kind
label_kind within kind (SentIgtkKde id ipn key) of_kind = igtk_label within kind id ipn key of_kind
label_kind within kind (SentTimeout k value) of_kind = timeout_label within kind k value of_kind

fresh_push : (within : Within) (es : List Element) (p q : Piece) → eqb (label p) (label q) ≡ false → Fresh within es q → Fresh within (es ++ piece_element p ∷ []) q
fresh_push within es p q apart fresh kind of_kind =
    elim (cases_Bool (is within kind (piece_element p))) [
      | inl same ↦ absurd (false≢true (sym apart ∙ eq-eqb (label p) (label q) (label_kind within kind p same ∙ sym (label_kind within kind q of_kind))))
      | inr other ↦ filter-other (is within kind) es (piece_element p) other ∙ fresh kind of_kind
    ]

fresh_all : (within : Within) (es : List Element) (p : Piece) (qs : List Piece) → AllByRecursion (λ q. eqb (label p) (label q) ≡ false) qs → AllByRecursion (Fresh within es) qs → AllByRecursion (Fresh within (es ++ piece_element p ∷ [])) qs
fresh_all within es p [] apart fresh = tt
fresh_all within es p (q ∷ qs) apart fresh = (fresh_push within es p q apart.0 fresh.0, fresh_all within es p qs apart.1 fresh.1)

pieces_tell : (within : Within) (ps : List Piece) (es : List Element) (f : ElementFields) → Tells within es f → AllByRecursion FitsPiece ps → AreApart ps → AllByRecursion (Fresh within es) ps → Tells within (es ++ map piece_element ps) (fold (with_piece within) f ps)
pieces_tell within [] es f t fits apart fresh = subst (λ (x : List Element). Tells within x f) (sym (append-nil es)) t
pieces_tell within (p ∷ ps) es f t fits apart fresh =
    subst (λ (x : List Element). Tells within x (fold (with_piece within) (with_piece within f p) ps)) (append_assoc es (piece_element p ∷ []) (map piece_element ps))
    (pieces_tell within ps (es ++ piece_element p ∷ []) (with_piece within f p) (step within es f p t fits.0 fresh.0) fits.1 apart.1 (fresh_all within es p ps apart.0 fresh.1))

others_tell : (within : Within) (others es : List Element) (f : ElementFields) → Tells within es f → AllByRecursion (IsPassedOver within) others → Tells within (es ++ others) f
others_tell within [] es f t past = subst (λ (x : List Element). Tells within x f) (sym (append-nil es)) t
others_tell within (e ∷ others) es f t past =
    subst (λ (x : List Element). Tells within x f) (append_assoc es (e ∷ []) others)
    (others_tell within others (es ++ e ∷ []) f (tells_other within es e f past.0.going t past.0.other) past.1)

all_fresh : (within : Within) (ps : List Piece) → AllByRecursion (Fresh within []) ps
all_fresh within [] = tt
all_fresh within (p ∷ ps) = (λ kind of_kind. refl, all_fresh within ps)

pieces_joined : (ps : List Piece) → AllByRecursion FitsPiece ps → pieces_octets ps ≡ joined (map piece_element ps)
pieces_joined [] fits = refl
pieces_joined (p ∷ ps) fits = ap (λ (w : List ℕ). w ++ pieces_octets ps) (piece_is p fits.0) ∙ ap (λ (w : List ℕ). element_octets (piece_element p) ++ w) (pieces_joined ps fits.1)

pub pieces_spelled : (within : Within) (ps : List Piece) (others : List Element) (rest : List ℕ) → AllByRecursion FitsPiece ps → AreApart ps → AllByRecursion (IsPassedOver within) others → EndsReading within rest
    → SpellsElements within (pieces_octets ps ++ (joined others ++ rest)) (said within ps)
pieces_spelled within ps others rest fits apart past ends = record {
  elements = map piece_element ps ++ others;
  rest = rest;
  cut = ap (λ (w : List ℕ). w ++ (joined others ++ rest)) (pieces_joined ps fits) ∙ sym (append_assoc (joined (map piece_element ps)) (joined others) rest)
      ∙ ap (λ (w : List ℕ). w ++ rest) (sym (flat_map-append element_octets (map piece_element ps) others));
  ends = ends;
  tells = others_tell within others (map piece_element ps) (said within ps) (pieces_tell within ps [] nothing (tells_nothing within) fits apart (all_fresh within ps)) past;
}
