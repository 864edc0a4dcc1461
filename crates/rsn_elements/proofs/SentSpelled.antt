-- What is sent is spelled.
use Rattle.std.proofs.Common.{◌≡◌, ℕ, ◌+◌, ◌^◌, ◌<◌, ◌≤◌, List, [], ◌∷◌, ◌++◌, length, take, drop, get_or, eqb, false, Option, Some, None, refl, sym, ap, ◌∙◌, arith}
use Rattle.std.specs.Prelude.{IfSome, filter}
use Rattle.std.specs.Int.{w16, w32, to_le_bytes, from_le_bytes}
use Rattle.std.proofs.lemmas.Nat.{from_le_bytes-to_le_bytes_2, from_le_bytes-to_le_bytes_4}
use Rattle.std.proofs.lemmas.List.{take_at, drop_at, get_or_at, append-nil, length-append}
use Rattle.std.proofs.lemmas.List.Concat.{flat_map-append}
use Rattle.std.proofs.Math.Seq.{drop-append-add}
use Rattle.domain_base.specs.Places.{part, little_endian_at}
use Rattle.domain_base.specs.declared.names.Akm.{Akm}
use Rattle.rsn_elements.specs.Framing.{Element, element_octets, joined, Says}
use Rattle.rsn_elements.specs.Rsne.{SpellsRsne}
use Rattle.rsn_elements.specs.Transition.{WrappedGtkFields, WrappedIgtkFields, FteFields, SpellsWrappedGtk, SpellsWrappedIgtk, SpellsTimeout, SpellsR1khId, SpellsR0khId, SubelementsSay, SpellsFte, has_id}
use Rattle.rsn_elements.specs.KeyData.{SpellsIgtkKde}
use Rattle.rsn_elements.specs.Sent.{rsne_start, rsne_mfp_start, akm_type, subelement_octets, wrapped_gtk_octets, wrapped_gtk_subelement, ipn_octets, wrapped_igtk_octets, wrapped_keys, fte_body}
use Rattle.rsn_elements.specs.Pieces.{sent_rsne, sent_rsne_mfp, suite, FitsWrappedGtk, FitsWrappedIgtk, FitsFte}
use Rattle.rsn_elements.proofs.Saying.{filter-neither, says-before, says-behind}

-- ---- RSNE

abbrev pub rsne_body : Akm → Option (List ℕ) → List ℕ
rsne_body akm None = rsne_start akm
rsne_body akm (Some pmkid) = rsne_start akm ++ 0x01 ∷ 0x00 ∷ pmkid

pub rsne_spelled : (akm : Akm) (pmkid : Option (List ℕ)) → IfSome pmkid (λ name. length name ≡ 16) → SpellsRsne (rsne_body akm pmkid) (sent_rsne akm pmkid)
rsne_spelled akm None fits = record {
  behind_version = drop 2 (rsne_start akm);
  behind_group = drop 6 (rsne_start akm);
  behind_pairwise = drop 12 (rsne_start akm);
  behind_akms = 0x0c ∷ 0x00 ∷ [];
  behind_capabilities = [];
  behind_pmkids = [];
  behind_management = [];
  one = refl;
  version = refl;
  group = (suite 4, refl, (refl, refl));
  pairwise = (0x01 ∷ 0x00 ∷ suite 4, refl, (omega arith, refl, refl));
  akms = (0x01 ∷ 0x00 ∷ suite (akm_type akm), refl, (omega arith, refl, refl));
  capabilities = (0x0c ∷ 0x00 ∷ [], refl, (refl, refl));
  pmkids = (refl, refl);
  management = (refl, refl);
}
rsne_spelled akm (Some pmkid) fits = record {
  behind_version = drop 2 (rsne_start akm) ++ 0x01 ∷ 0x00 ∷ pmkid;
  behind_group = drop 6 (rsne_start akm) ++ 0x01 ∷ 0x00 ∷ pmkid;
  behind_pairwise = drop 12 (rsne_start akm) ++ 0x01 ∷ 0x00 ∷ pmkid;
  behind_akms = 0x0c ∷ 0x00 ∷ 0x01 ∷ 0x00 ∷ pmkid;
  behind_capabilities = 0x01 ∷ 0x00 ∷ pmkid;
  behind_pmkids = [];
  behind_management = [];
  one = refl;
  version = refl;
  group = (suite 4, refl, (refl, refl));
  pairwise = (0x01 ∷ 0x00 ∷ suite 4, refl, (omega arith, refl, refl));
  akms = (0x01 ∷ 0x00 ∷ suite (akm_type akm), refl, (omega arith, refl, refl));
  capabilities = (0x0c ∷ 0x00 ∷ [], refl, (refl, refl));
  pmkids = (0x01 ∷ 0x00 ∷ pmkid, sym (append-nil (0x01 ∷ 0x00 ∷ pmkid)), (omega arith, omega arith, refl));
  management = (refl, refl);
}

pub rsne_size : (akm : Akm) (pmkid : List ℕ) → length pmkid ≡ 16 → length (rsne_start akm ++ 0x01 ∷ 0x00 ∷ pmkid) ≡ 0x26
rsne_size akm pmkid h = omega (arith, h)

-- the same where management frames are protected
abbrev pub rsne_mfp_body : Akm → Option (List ℕ) → List ℕ
rsne_mfp_body akm None = rsne_mfp_start akm ++ 0x00 ∷ 0x00 ∷ suite 6
rsne_mfp_body akm (Some pmkid) = rsne_mfp_start akm ++ 0x01 ∷ 0x00 ∷ (pmkid ++ suite 6)

pub rsne_mfp_spelled : (akm : Akm) (pmkid : Option (List ℕ)) → IfSome pmkid (λ name. length name ≡ 16) → SpellsRsne (rsne_mfp_body akm pmkid) (sent_rsne_mfp akm pmkid)
rsne_mfp_spelled akm None fits = record {
  behind_version = drop 2 (rsne_mfp_start akm) ++ 0x00 ∷ 0x00 ∷ suite 6;
  behind_group = drop 6 (rsne_mfp_start akm) ++ 0x00 ∷ 0x00 ∷ suite 6;
  behind_pairwise = drop 12 (rsne_mfp_start akm) ++ 0x00 ∷ 0x00 ∷ suite 6;
  behind_akms = 0x8c ∷ 0x00 ∷ 0x00 ∷ 0x00 ∷ suite 6;
  behind_capabilities = 0x00 ∷ 0x00 ∷ suite 6;
  behind_pmkids = suite 6;
  behind_management = [];
  one = refl;
  version = refl;
  group = (suite 4, refl, (refl, refl));
  pairwise = (0x01 ∷ 0x00 ∷ suite 4, refl, (omega arith, refl, refl));
  akms = (0x01 ∷ 0x00 ∷ suite (akm_type akm), refl, (omega arith, refl, refl));
  capabilities = (0x8c ∷ 0x00 ∷ [], refl, (refl, refl));
  pmkids = (0x00 ∷ 0x00 ∷ [], refl, (omega arith, refl, refl));
  management = (suite 6, refl, (refl, refl));
}
rsne_mfp_spelled akm (Some pmkid) fits = record {
  behind_version = drop 2 (rsne_mfp_start akm) ++ 0x01 ∷ 0x00 ∷ (pmkid ++ suite 6);
  behind_group = drop 6 (rsne_mfp_start akm) ++ 0x01 ∷ 0x00 ∷ (pmkid ++ suite 6);
  behind_pairwise = drop 12 (rsne_mfp_start akm) ++ 0x01 ∷ 0x00 ∷ (pmkid ++ suite 6);
  behind_akms = 0x8c ∷ 0x00 ∷ 0x01 ∷ 0x00 ∷ (pmkid ++ suite 6);
  behind_capabilities = 0x01 ∷ 0x00 ∷ (pmkid ++ suite 6);
  behind_pmkids = suite 6;
  behind_management = [];
  one = refl;
  version = refl;
  group = (suite 4, refl, (refl, refl));
  pairwise = (0x01 ∷ 0x00 ∷ suite 4, refl, (omega arith, refl, refl));
  akms = (0x01 ∷ 0x00 ∷ suite (akm_type akm), refl, (omega arith, refl, refl));
  capabilities = (0x8c ∷ 0x00 ∷ [], refl, (refl, refl));
  pmkids = (0x01 ∷ 0x00 ∷ pmkid, refl, (omega arith, omega arith, refl));
  management = (suite 6, refl, (refl, refl));
}

pub rsne_mfp_size : (akm : Akm) (pmkid : List ℕ) → length pmkid ≡ 16 → length (rsne_mfp_start akm ++ 0x01 ∷ 0x00 ∷ (pmkid ++ suite 6)) ≡ 0x2a
rsne_mfp_size akm pmkid h = omega (arith, h, length-append pmkid (suite 6))

-- ---- IGTK KDE

pub igtk_spelled : (id ipn : ℕ) (key : List ℕ) → id < 2 ^ 16
    → SpellsIgtkKde (0x00 ∷ 0x0f ∷ 0xac ∷ 0x09 ∷ (to_le_bytes w16 id ++ (ipn_octets ipn ++ key))) (record { id = id; ipn = ipn_octets ipn; key = key })
igtk_spelled id ipn key low = (omega arith, ap (λ (n : ℕ). record { id = n; ipn = ipn_octets ipn; key = key }) (sym (from_le_bytes-to_le_bytes_2 id low)))

-- ---- FTE

abbrev one_subelement : ℕ → Option (List ℕ) → List Element
one_subelement id None = []
one_subelement id (Some body) = record { id = id; body = body } ∷ []

abbrev wrapped_body : Option WrappedGtkFields → Option (List ℕ)
wrapped_body None = None
wrapped_body (Some g) = Some (wrapped_gtk_octets g)

abbrev igtk_body : Option WrappedIgtkFields → Option (List ℕ)
igtk_body None = None
igtk_body (Some g) = Some (wrapped_igtk_octets g)

abbrev key_elements : Option WrappedGtkFields → Option WrappedIgtkFields → List Element
key_elements gtk igtk = one_subelement 2 (wrapped_body gtk) ++ one_subelement 4 (igtk_body igtk)

abbrev subelements_of : FteFields → List Element
subelements_of f = one_subelement 1 f.r1kh_id ++ (one_subelement 3 f.r0kh_id ++ key_elements f.gtk f.igtk)

joined-append : (es fs : List Element) → joined (es ++ fs) ≡ joined es ++ joined fs
joined-append es fs = flat_map-append element_octets es fs

joined_one : (id : ℕ) (o : Option (List ℕ)) → joined (one_subelement id o) ≡ subelement_octets id o
joined_one id None = refl
joined_one id (Some body) = append-nil (id ∷ length body ∷ body)

joined_wrapped : (o : Option WrappedGtkFields) → joined (one_subelement 2 (wrapped_body o)) ≡ wrapped_gtk_subelement o
joined_wrapped None = refl
joined_wrapped (Some g) = append-nil (2 ∷ length (wrapped_gtk_octets g) ∷ wrapped_gtk_octets g)

joined_keys : (gtk : Option WrappedGtkFields) (igtk : Option WrappedIgtkFields) → joined (key_elements gtk igtk) ≡ wrapped_keys gtk igtk
joined_keys gtk None = ap joined (append-nil (one_subelement 2 (wrapped_body gtk))) ∙ joined_wrapped gtk
joined_keys gtk (Some g) =
    joined-append (one_subelement 2 (wrapped_body gtk)) (one_subelement 4 (Some (wrapped_igtk_octets g)))
    ∙ ap (λ (w : List ℕ). w ++ joined (one_subelement 4 (Some (wrapped_igtk_octets g)))) (joined_wrapped gtk)
    ∙ ap (λ (w : List ℕ). wrapped_gtk_subelement gtk ++ w) (joined_one 4 (Some (wrapped_igtk_octets g)))

subelements_joined : (f : FteFields) → joined (subelements_of f) ≡ subelement_octets 1 f.r1kh_id ++ (subelement_octets 3 f.r0kh_id ++ wrapped_keys f.gtk f.igtk)
subelements_joined f =
    let keys = key_elements f.gtk f.igtk in
    joined-append (one_subelement 1 f.r1kh_id) (one_subelement 3 f.r0kh_id ++ keys)
    ∙ ap (λ (w : List ℕ). joined (one_subelement 1 f.r1kh_id) ++ w) (joined-append (one_subelement 3 f.r0kh_id) keys)
    ∙ ap (λ (w : List ℕ). w ++ (joined (one_subelement 3 f.r0kh_id) ++ joined keys)) (joined_one 1 f.r1kh_id)
    ∙ ap (λ (w : List ℕ). subelement_octets 1 f.r1kh_id ++ (w ++ joined keys)) (joined_one 3 f.r0kh_id)
    ∙ ap (λ (w : List ℕ). subelement_octets 1 f.r1kh_id ++ (subelement_octets 3 f.r0kh_id ++ w)) (joined_keys f.gtk f.igtk)

wrapped_spelled : (g : WrappedGtkFields) → FitsWrappedGtk g → SpellsWrappedGtk (wrapped_gtk_octets g) g
wrapped_spelled g fits = (omega (arith, fits.rsc, length-append g.rsc g.wrapped), same)
  where
    number : g.information ≡ from_le_bytes w16 (to_le_bytes w16 g.information)
    number = sym (from_le_bytes-to_le_bytes_2 g.information fits.information)

    rsc : g.rsc ≡ take 8 (g.rsc ++ g.wrapped)
    rsc = sym (take_at g.rsc g.wrapped 8 fits.rsc)

    wrapped : g.wrapped ≡ drop 8 (g.rsc ++ g.wrapped)
    wrapped = sym (drop_at g.rsc g.wrapped 8 fits.rsc)

    same : g ≡ record { information = little_endian_at w16 0 (wrapped_gtk_octets g); key_length = get_or (wrapped_gtk_octets g) 2 0; rsc = part 3 8 (wrapped_gtk_octets g); wrapped = drop 11 (wrapped_gtk_octets g) }
    same = ap (λ (n : ℕ). record { information = n; key_length = g.key_length; rsc = g.rsc; wrapped = g.wrapped }) number
        ∙ ap (λ (r : List ℕ). record { information = from_le_bytes w16 (to_le_bytes w16 g.information); key_length = g.key_length; rsc = r; wrapped = g.wrapped }) rsc
        ∙ ap (λ (w : List ℕ). record { information = from_le_bytes w16 (to_le_bytes w16 g.information); key_length = g.key_length; rsc = take 8 (g.rsc ++ g.wrapped); wrapped = w }) wrapped

-- past the first part
skip : (xs ys : List ℕ) (n k : ℕ) → length xs ≡ n → drop (n + k) (xs ++ ys) ≡ drop k ys
skip xs ys n k h = rw (← h) (drop-append-add xs ys k)

wrapped_igtk_spelled : (g : WrappedIgtkFields) → FitsWrappedIgtk g → SpellsWrappedIgtk (wrapped_igtk_octets g) g
wrapped_igtk_spelled g fits = (omega (arith, fits.ipn, length-append g.ipn (g.key_length ∷ g.wrapped)), same)
  where
    number : g.id ≡ from_le_bytes w16 (to_le_bytes w16 g.id)
    number = sym (from_le_bytes-to_le_bytes_2 g.id fits.id)

    ipn : g.ipn ≡ take 6 (g.ipn ++ g.key_length ∷ g.wrapped)
    ipn = sym (take_at g.ipn (g.key_length ∷ g.wrapped) 6 fits.ipn)

    size : g.key_length ≡ get_or (g.ipn ++ g.key_length ∷ g.wrapped) 6 0
    size = sym (get_or_at g.ipn g.key_length g.wrapped 0 6 fits.ipn)

    wrapped : g.wrapped ≡ drop 7 (g.ipn ++ g.key_length ∷ g.wrapped)
    wrapped = sym (skip g.ipn (g.key_length ∷ g.wrapped) 6 1 fits.ipn)

    same : g ≡ record { id = little_endian_at w16 0 (wrapped_igtk_octets g); ipn = part 2 6 (wrapped_igtk_octets g); key_length = get_or (wrapped_igtk_octets g) 8 0; wrapped = drop 9 (wrapped_igtk_octets g) }
    same = ap (λ (n : ℕ). record { id = n; ipn = g.ipn; key_length = g.key_length; wrapped = g.wrapped }) number
        ∙ ap (λ (r : List ℕ). record { id = from_le_bytes w16 (to_le_bytes w16 g.id); ipn = r; key_length = g.key_length; wrapped = g.wrapped }) ipn
        ∙ ap (λ (n : ℕ). record { id = from_le_bytes w16 (to_le_bytes w16 g.id); ipn = take 6 (g.ipn ++ g.key_length ∷ g.wrapped); key_length = n; wrapped = g.wrapped }) size
        ∙ ap (λ (w : List ℕ). record { id = from_le_bytes w16 (to_le_bytes w16 g.id); ipn = take 6 (g.ipn ++ g.key_length ∷ g.wrapped); key_length = get_or (g.ipn ++ g.key_length ∷ g.wrapped) 6 0; wrapped = w }) wrapped

-- each subelement says what stands in it
first_says : (o : Option (List ℕ)) → IfSome o (λ id. length id ≡ 6) → Says (has_id 1) SpellsR1khId (one_subelement 1 o) o
first_says None h = refl
first_says (Some x) h = (record { id = 1; body = x }, refl, (h, refl))

second_says : (o : Option WrappedGtkFields) → IfSome o FitsWrappedGtk → Says (has_id 2) SpellsWrappedGtk (one_subelement 2 (wrapped_body o)) o
second_says None h = refl
second_says (Some g) h = (record { id = 2; body = wrapped_gtk_octets g }, refl, wrapped_spelled g h)

third_says : (o : Option (List ℕ)) → IfSome o (λ id. (1 ≤ length id) × (length id ≤ 48)) → Says (has_id 3) SpellsR0khId (one_subelement 3 o) o
third_says None h = refl
third_says (Some y) h = (record { id = 3; body = y }, refl, (h.0, h.1, refl))

fourth_says : (o : Option WrappedIgtkFields) → IfSome o FitsWrappedIgtk → Says (has_id 4) SpellsWrappedIgtk (one_subelement 4 (igtk_body o)) o
fourth_says None h = refl
fourth_says (Some g) h = (record { id = 4; body = wrapped_igtk_octets g }, refl, wrapped_igtk_spelled g h)

-- and one of another id says nothing of it
none_of : (id other : ℕ) (o : Option (List ℕ)) → eqb other id ≡ false → filter (has_id id) (one_subelement other o) ≡ []
none_of id other None h = refl
none_of id other (Some body) h = rw h refl

subelements_say : (f : FteFields) → FitsFte f → SubelementsSay (subelements_of f) f.r1kh_id f.gtk f.r0kh_id f.igtk
subelements_say f fits =
    let a = one_subelement 1 f.r1kh_id in
    let b = one_subelement 3 f.r0kh_id in
    let c = one_subelement 2 (wrapped_body f.gtk) in
    let d = one_subelement 4 (igtk_body f.igtk) in
    record {
      first = says-before (has_id 1) SpellsR1khId a (b ++ (c ++ d)) f.r1kh_id
          (filter-neither (has_id 1) b (c ++ d) (none_of 1 3 f.r0kh_id refl) (filter-neither (has_id 1) c d (none_of 1 2 (wrapped_body f.gtk) refl) (none_of 1 4 (igtk_body f.igtk) refl)))
          (first_says f.r1kh_id fits.r1kh_id);
      second = says-behind (has_id 2) SpellsWrappedGtk a (b ++ (c ++ d)) f.gtk (none_of 2 1 f.r1kh_id refl)
          (says-behind (has_id 2) SpellsWrappedGtk b (c ++ d) f.gtk (none_of 2 3 f.r0kh_id refl)
          (says-before (has_id 2) SpellsWrappedGtk c d f.gtk (none_of 2 4 (igtk_body f.igtk) refl) (second_says f.gtk fits.gtk)));
      third = says-behind (has_id 3) SpellsR0khId a (b ++ (c ++ d)) f.r0kh_id (none_of 3 1 f.r1kh_id refl)
          (says-before (has_id 3) SpellsR0khId b (c ++ d) f.r0kh_id
          (filter-neither (has_id 3) c d (none_of 3 2 (wrapped_body f.gtk) refl) (none_of 3 4 (igtk_body f.igtk) refl)) (third_says f.r0kh_id fits.r0kh_id));
      fourth = says-behind (has_id 4) SpellsWrappedIgtk a (b ++ (c ++ d)) f.igtk (none_of 4 1 f.r1kh_id refl)
          (says-behind (has_id 4) SpellsWrappedIgtk b (c ++ d) f.igtk (none_of 4 3 f.r0kh_id refl)
          (says-behind (has_id 4) SpellsWrappedIgtk c d f.igtk (none_of 4 2 (wrapped_body f.gtk) refl) (fourth_says f.igtk fits.igtk)));
    }

pub fte_spelled : (f : FteFields) → FitsFte f → SpellsFte (fte_body f) f
fte_spelled f fits = record {
  subelements = subelements_of f;
  long = omega (arith, fits.mic_control, fits.mic, fits.anonce, fits.snonce, length-append f.mic_control (f.mic ++ (f.anonce ++ (f.snonce ++ tail))), length-append f.mic (f.anonce ++ (f.snonce ++ tail)), length-append f.anonce (f.snonce ++ tail), length-append f.snonce tail);
  mic_control = sym (take_at f.mic_control (f.mic ++ (f.anonce ++ (f.snonce ++ tail))) 2 fits.mic_control);
  mic = sym (ap (take 16) behind_control ∙ take_at f.mic (f.anonce ++ (f.snonce ++ tail)) 16 fits.mic);
  anonce = sym (ap (take 32) behind_mic ∙ take_at f.anonce (f.snonce ++ tail) 32 fits.anonce);
  snonce = sym (ap (take 32) behind_anonce ∙ take_at f.snonce tail 32 fits.snonce);
  rest = behind_snonce ∙ sym (subelements_joined f);
  say = subelements_say f fits;
}
  where
    tail : List ℕ
    tail = subelement_octets 1 f.r1kh_id ++ (subelement_octets 3 f.r0kh_id ++ wrapped_keys f.gtk f.igtk)

    behind_control : drop 2 (fte_body f) ≡ f.mic ++ (f.anonce ++ (f.snonce ++ tail))
    behind_control = drop_at f.mic_control (f.mic ++ (f.anonce ++ (f.snonce ++ tail))) 2 fits.mic_control

    behind_mic : drop 18 (fte_body f) ≡ f.anonce ++ (f.snonce ++ tail)
    behind_mic = skip f.mic_control (f.mic ++ (f.anonce ++ (f.snonce ++ tail))) 2 16 fits.mic_control ∙ drop_at f.mic (f.anonce ++ (f.snonce ++ tail)) 16 fits.mic

    behind_anonce : drop 50 (fte_body f) ≡ f.snonce ++ tail
    behind_anonce = skip f.mic_control (f.mic ++ (f.anonce ++ (f.snonce ++ tail))) 2 48 fits.mic_control ∙ skip f.mic (f.anonce ++ (f.snonce ++ tail)) 16 32 fits.mic ∙ drop_at f.anonce (f.snonce ++ tail) 32 fits.anonce

    behind_snonce : drop 82 (fte_body f) ≡ tail
    behind_snonce = skip f.mic_control (f.mic ++ (f.anonce ++ (f.snonce ++ tail))) 2 80 fits.mic_control ∙ skip f.mic (f.anonce ++ (f.snonce ++ tail)) 16 64 fits.mic ∙ skip f.anonce (f.snonce ++ tail) 32 32 fits.anonce ∙ drop_at f.snonce tail 32 fits.snonce

pub timeout_spelled : (kind value : ℕ) → value < 2 ^ 32 → SpellsTimeout (kind ∷ to_le_bytes w32 value) value
timeout_spelled kind value fits = (refl, sym (from_le_bytes-to_le_bytes_4 value fits))
