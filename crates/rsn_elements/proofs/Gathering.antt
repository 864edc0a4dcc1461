-- What elements say as one more comes, by its kind.
use Rattle.std.proofs.Common.{◌≡◌, ◌≢◌, ℕ, zero, suc, ◌<◌, Bool, true, false, List, [], ◌∷◌, ◌++◌, length, take, get_or, set, replicate, Option, Some, None, refl, sym, ap, ◌∙◌, arith, inl, inr}
use Rattle.std.specs.Prelude.{filter, bytes_eq}
use Rattle.std.specs.List.{AllByRecursion}
use Rattle.std.proofs.lemmas.Slice.Eq.{bytes_eq-Decides}
use Rattle.std.proofs.lemmas.Bool.{eq-eqb, eqb-true, ne_eqb, and_parts, and_from, and_left, and_right, cases_eq, false≢true}
use Rattle.std.proofs.lemmas.List.{length-set, get_or-set_same, get_or-set_other}
use Rattle.rsn_elements.specs.declared.framing.Within.{Within}
use Rattle.rsn_elements.specs.declared.framing.Within.TheVariants.{Body, KeyData}
use Rattle.rsn_elements.specs.declared.reading.Gathered.{Gathered}
use Rattle.rsn_elements.specs.Framing.{Element, element_octets, EndsReading, Says}
use Rattle.rsn_elements.specs.Rsne.{RsneFields, SpellsRsne}
use Rattle.rsn_elements.specs.Transition.{MdeFields, SpellsMde, FteFields, SpellsFte, SpellsTimeout}
use Rattle.rsn_elements.specs.KeyData.{GtkKdeFields, SpellsGtkKde, IgtkKdeFields, SpellsIgtkKde}
use Rattle.rsn_elements.specs.Elements.{ElementFields, ElementKind, AnRsne, AnMde, AnFte, ATimeout, AGtkKde, AnIgtkKde, is, IsWhole, Tells}
use Rattle.rsn_elements.specs.Fields.{element_fields}
use Rattle.rsn_elements.specs.ElementSteps.{Gathers}
use Rattle.rsn_elements.proofs.Cuts.{All-push}
use Rattle.rsn_elements.proofs.Saying.{Says-other, Says-first, filter-other, filter-one}

-- the id of a kind
abbrev pub id_of : ElementKind → ℕ
id_of AnRsne = 0x30
id_of AnMde = 0x36
id_of AnFte = 0x37
id_of (ATimeout kind) = 0x38
id_of AGtkKde = 0xdd
id_of AnIgtkKde = 0xdd

pub is-id : (within : Within) (kind : ElementKind) (e : Element) → is within kind e ≡ true → e.id ≡ id_of kind
is-id within AnRsne e h = eqb-true _ _ h
is-id within AnMde e h = eqb-true _ _ h
is-id within AnFte e h = eqb-true _ _ h
is-id within (ATimeout kind) e h = eqb-true _ _ (and_parts _ _ h).0
is-id KeyData AGtkKde e h = eqb-true _ _ (and_parts _ _ h).0
is-id Body AGtkKde e h = absurd cc
is-id KeyData AnIgtkKde e h = eqb-true _ _ (and_parts _ _ h).0
is-id Body AnIgtkKde e h = absurd cc

-- an element of another id is not of the kind
pub not_of : (within : Within) (kind : ElementKind) (e : Element) → (e.id ≡ id_of kind → ⊥) → is within kind e ≡ false
not_of within AnRsne e h = ne_eqb _ _ h
not_of within AnMde e h = ne_eqb _ _ h
not_of within AnFte e h = ne_eqb _ _ h
not_of within (ATimeout kind) e h = and_left _ _ (ne_eqb _ _ h)
not_of KeyData AGtkKde e h = and_left _ _ (ne_eqb _ _ h)
not_of Body AGtkKde e h = refl
not_of KeyData AnIgtkKde e h = and_left _ _ (ne_eqb _ _ h)
not_of Body AnIgtkKde e h = refl

-- a KDE of one group key is none of the other
pub no_igtk : (within : Within) (e : Element) → is within AGtkKde e ≡ true → is within AnIgtkKde e ≡ false
no_igtk Body e h = refl
no_igtk KeyData e h =
    let front : (0 ∷ 15 ∷ 172 ∷ 1 ∷ []) ≡ take 4 e.body = (bytes_eq-Decides (0 ∷ 15 ∷ 172 ∷ 1 ∷ []) (take 4 e.body)).0 (and_parts _ _ h).1 in
    and_right _ _ (ap (λ (w : List ℕ). bytes_eq (0 ∷ 15 ∷ 172 ∷ 9 ∷ []) w) (sym front))

pub no_gtk : (within : Within) (e : Element) → is within AnIgtkKde e ≡ true → is within AGtkKde e ≡ false
no_gtk Body e h = refl
no_gtk KeyData e h =
    let front : (0 ∷ 15 ∷ 172 ∷ 9 ∷ []) ≡ take 4 e.body = (bytes_eq-Decides (0 ∷ 15 ∷ 172 ∷ 9 ∷ []) (take 4 e.body)).0 (and_parts _ _ h).1 in
    and_right _ _ (ap (λ (w : List ℕ). bytes_eq (0 ∷ 15 ∷ 172 ∷ 1 ∷ []) w) (sym front))

pub tells_nothing : (within : Within) → Tells within [] (record { rsne = None; mde = None; fte = None; gtk = None; igtk = None; deadline = None; lifetime = None; rsne_octets = None; mde_octets = None; fte_octets = None })
tells_nothing within = record {
  going = tt;
  rsne = refl;
  mde = refl;
  fte = refl;
  gtk = refl;
  igtk = refl;
  timeouts = λ kind. (None, refl);
  deadline = refl;
  lifetime = refl;
  rsne_octets = refl;
  mde_octets = refl;
  fte_octets = refl;
}

-- One more element, which does not end the reading.
module _ (within : Within) (es : List Element) (e : Element) (f : ElementFields) (going : EndsReading within (element_octets e) → ⊥) (t : Tells within es f) where
  goes : AllByRecursion (λ x. EndsReading within (element_octets x) → ⊥) (es ++ e ∷ [])
  goes = All-push (λ x. EndsReading within (element_octets x) → ⊥) es e t.going going

  kept : {F : Type 0} (kind : ElementKind) (Spells : List ℕ → F → Type 0) (o : Option F) → is within kind e ≡ false → Says (is within kind) Spells es o → Says (is within kind) Spells (es ++ e ∷ []) o
  kept kind Spells o h s = Says-other (is within kind) Spells es e o h s

  -- of no kind that is read
  pub tells_other : ((kind : ElementKind) → is within kind e ≡ false) → Tells within (es ++ e ∷ []) f
  tells_other other = record {
    going = goes;
    rsne = kept AnRsne SpellsRsne _ (other AnRsne) t.rsne;
    mde = kept AnMde SpellsMde _ (other AnMde) t.mde;
    fte = kept AnFte SpellsFte _ (other AnFte) t.fte;
    gtk = kept AGtkKde SpellsGtkKde _ (other AGtkKde) t.gtk;
    igtk = kept AnIgtkKde SpellsIgtkKde _ (other AnIgtkKde) t.igtk;
    timeouts = λ kind. ((t.timeouts kind).0, kept (ATimeout kind) SpellsTimeout _ (other (ATimeout kind)) (t.timeouts kind).1);
    deadline = kept (ATimeout 1) SpellsTimeout _ (other (ATimeout 1)) t.deadline;
    lifetime = kept (ATimeout 2) SpellsTimeout _ (other (ATimeout 2)) t.lifetime;
    rsne_octets = kept AnRsne (IsWhole 0x30) _ (other AnRsne) t.rsne_octets;
    mde_octets = kept AnMde (IsWhole 0x36) _ (other AnMde) t.mde_octets;
    fte_octets = kept AnFte (IsWhole 0x37) _ (other AnFte) t.fte_octets;
  }

  pub tells_rsne : (r : RsneFields) (whole : List ℕ) → whole ≡ element_octets e → e.id ≡ 0x30 → filter (is within AnRsne) es ≡ [] → SpellsRsne e.body r → Tells within (es ++ e ∷ []) (record f { rsne = Some r; rsne_octets = Some whole })
  tells_rsne r whole octets id none spelled =
      let other : (kind : ElementKind) → (0x30 ≡ id_of kind → ⊥) → is within kind e ≡ false = λ kind h. not_of within kind e (λ i. h (sym id ∙ i)) in
      record {
        going = goes;
        rsne = Says-first (is within AnRsne) SpellsRsne es e r (eq-eqb _ _ id) none spelled;
        mde = kept AnMde SpellsMde _ (other AnMde (λ h. omega (arith, h))) t.mde;
        fte = kept AnFte SpellsFte _ (other AnFte (λ h. omega (arith, h))) t.fte;
        gtk = kept AGtkKde SpellsGtkKde _ (other AGtkKde (λ h. omega (arith, h))) t.gtk;
        igtk = kept AnIgtkKde SpellsIgtkKde _ (other AnIgtkKde (λ h. omega (arith, h))) t.igtk;
        timeouts = λ kind. ((t.timeouts kind).0, kept (ATimeout kind) SpellsTimeout _ (other (ATimeout kind) (λ h. omega (arith, h))) (t.timeouts kind).1);
        deadline = kept (ATimeout 1) SpellsTimeout _ (other (ATimeout 1) (λ h. omega (arith, h))) t.deadline;
        lifetime = kept (ATimeout 2) SpellsTimeout _ (other (ATimeout 2) (λ h. omega (arith, h))) t.lifetime;
        rsne_octets = Says-first (is within AnRsne) (IsWhole 0x30) es e whole (eq-eqb _ _ id) none (octets ∙ ap (λ (n : ℕ). n ∷ length e.body ∷ e.body) id);
        mde_octets = kept AnMde (IsWhole 0x36) _ (other AnMde (λ h. omega (arith, h))) t.mde_octets;
        fte_octets = kept AnFte (IsWhole 0x37) _ (other AnFte (λ h. omega (arith, h))) t.fte_octets;
      }

  pub tells_mde : (m : MdeFields) (whole : List ℕ) → whole ≡ element_octets e → e.id ≡ 0x36 → filter (is within AnMde) es ≡ [] → SpellsMde e.body m → Tells within (es ++ e ∷ []) (record f { mde = Some m; mde_octets = Some whole })
  tells_mde m whole octets id none spelled =
      let other : (kind : ElementKind) → (0x36 ≡ id_of kind → ⊥) → is within kind e ≡ false = λ kind h. not_of within kind e (λ i. h (sym id ∙ i)) in
      record {
        going = goes;
        rsne = kept AnRsne SpellsRsne _ (other AnRsne (λ h. omega (arith, h))) t.rsne;
        mde = Says-first (is within AnMde) SpellsMde es e m (eq-eqb _ _ id) none spelled;
        fte = kept AnFte SpellsFte _ (other AnFte (λ h. omega (arith, h))) t.fte;
        gtk = kept AGtkKde SpellsGtkKde _ (other AGtkKde (λ h. omega (arith, h))) t.gtk;
        igtk = kept AnIgtkKde SpellsIgtkKde _ (other AnIgtkKde (λ h. omega (arith, h))) t.igtk;
        timeouts = λ kind. ((t.timeouts kind).0, kept (ATimeout kind) SpellsTimeout _ (other (ATimeout kind) (λ h. omega (arith, h))) (t.timeouts kind).1);
        deadline = kept (ATimeout 1) SpellsTimeout _ (other (ATimeout 1) (λ h. omega (arith, h))) t.deadline;
        lifetime = kept (ATimeout 2) SpellsTimeout _ (other (ATimeout 2) (λ h. omega (arith, h))) t.lifetime;
        rsne_octets = kept AnRsne (IsWhole 0x30) _ (other AnRsne (λ h. omega (arith, h))) t.rsne_octets;
        mde_octets = Says-first (is within AnMde) (IsWhole 0x36) es e whole (eq-eqb _ _ id) none (octets ∙ ap (λ (n : ℕ). n ∷ length e.body ∷ e.body) id);
        fte_octets = kept AnFte (IsWhole 0x37) _ (other AnFte (λ h. omega (arith, h))) t.fte_octets;
      }

  pub tells_fte : (x : FteFields) (whole : List ℕ) → whole ≡ element_octets e → e.id ≡ 0x37 → filter (is within AnFte) es ≡ [] → SpellsFte e.body x → Tells within (es ++ e ∷ []) (record f { fte = Some x; fte_octets = Some whole })
  tells_fte x whole octets id none spelled =
      let other : (kind : ElementKind) → (0x37 ≡ id_of kind → ⊥) → is within kind e ≡ false = λ kind h. not_of within kind e (λ i. h (sym id ∙ i)) in
      record {
        going = goes;
        rsne = kept AnRsne SpellsRsne _ (other AnRsne (λ h. omega (arith, h))) t.rsne;
        mde = kept AnMde SpellsMde _ (other AnMde (λ h. omega (arith, h))) t.mde;
        fte = Says-first (is within AnFte) SpellsFte es e x (eq-eqb _ _ id) none spelled;
        gtk = kept AGtkKde SpellsGtkKde _ (other AGtkKde (λ h. omega (arith, h))) t.gtk;
        igtk = kept AnIgtkKde SpellsIgtkKde _ (other AnIgtkKde (λ h. omega (arith, h))) t.igtk;
        timeouts = λ kind. ((t.timeouts kind).0, kept (ATimeout kind) SpellsTimeout _ (other (ATimeout kind) (λ h. omega (arith, h))) (t.timeouts kind).1);
        deadline = kept (ATimeout 1) SpellsTimeout _ (other (ATimeout 1) (λ h. omega (arith, h))) t.deadline;
        lifetime = kept (ATimeout 2) SpellsTimeout _ (other (ATimeout 2) (λ h. omega (arith, h))) t.lifetime;
        rsne_octets = kept AnRsne (IsWhole 0x30) _ (other AnRsne (λ h. omega (arith, h))) t.rsne_octets;
        mde_octets = kept AnMde (IsWhole 0x36) _ (other AnMde (λ h. omega (arith, h))) t.mde_octets;
        fte_octets = Says-first (is within AnFte) (IsWhole 0x37) es e whole (eq-eqb _ _ id) none (octets ∙ ap (λ (n : ℕ). n ∷ length e.body ∷ e.body) id);
      }

  pub tells_gtk : (g : GtkKdeFields) → is within AGtkKde e ≡ true → filter (is within AGtkKde) es ≡ [] → SpellsGtkKde e.body g → Tells within (es ++ e ∷ []) (record f { gtk = Some g })
  tells_gtk g yes_gtk none spelled =
      let id : e.id ≡ 0xdd = is-id within AGtkKde e yes_gtk in
      let other : (kind : ElementKind) → (0xdd ≡ id_of kind → ⊥) → is within kind e ≡ false = λ kind h. not_of within kind e (λ i. h (sym id ∙ i)) in
      record {
        going = goes;
        rsne = kept AnRsne SpellsRsne _ (other AnRsne (λ h. omega (arith, h))) t.rsne;
        mde = kept AnMde SpellsMde _ (other AnMde (λ h. omega (arith, h))) t.mde;
        fte = kept AnFte SpellsFte _ (other AnFte (λ h. omega (arith, h))) t.fte;
        gtk = Says-first (is within AGtkKde) SpellsGtkKde es e g yes_gtk none spelled;
        igtk = kept AnIgtkKde SpellsIgtkKde _ (no_igtk within e yes_gtk) t.igtk;
        timeouts = λ kind. ((t.timeouts kind).0, kept (ATimeout kind) SpellsTimeout _ (other (ATimeout kind) (λ h. omega (arith, h))) (t.timeouts kind).1);
        deadline = kept (ATimeout 1) SpellsTimeout _ (other (ATimeout 1) (λ h. omega (arith, h))) t.deadline;
        lifetime = kept (ATimeout 2) SpellsTimeout _ (other (ATimeout 2) (λ h. omega (arith, h))) t.lifetime;
        rsne_octets = kept AnRsne (IsWhole 0x30) _ (other AnRsne (λ h. omega (arith, h))) t.rsne_octets;
        mde_octets = kept AnMde (IsWhole 0x36) _ (other AnMde (λ h. omega (arith, h))) t.mde_octets;
        fte_octets = kept AnFte (IsWhole 0x37) _ (other AnFte (λ h. omega (arith, h))) t.fte_octets;
      }

  pub tells_igtk : (g : IgtkKdeFields) → is within AnIgtkKde e ≡ true → filter (is within AnIgtkKde) es ≡ [] → SpellsIgtkKde e.body g → Tells within (es ++ e ∷ []) (record f { igtk = Some g })
  tells_igtk g yes_igtk none spelled =
      let id : e.id ≡ 0xdd = is-id within AnIgtkKde e yes_igtk in
      let other : (kind : ElementKind) → (0xdd ≡ id_of kind → ⊥) → is within kind e ≡ false = λ kind h. not_of within kind e (λ i. h (sym id ∙ i)) in
      record {
        going = goes;
        rsne = kept AnRsne SpellsRsne _ (other AnRsne (λ h. omega (arith, h))) t.rsne;
        mde = kept AnMde SpellsMde _ (other AnMde (λ h. omega (arith, h))) t.mde;
        fte = kept AnFte SpellsFte _ (other AnFte (λ h. omega (arith, h))) t.fte;
        gtk = kept AGtkKde SpellsGtkKde _ (no_gtk within e yes_igtk) t.gtk;
        igtk = Says-first (is within AnIgtkKde) SpellsIgtkKde es e g yes_igtk none spelled;
        timeouts = λ kind. ((t.timeouts kind).0, kept (ATimeout kind) SpellsTimeout _ (other (ATimeout kind) (λ h. omega (arith, h))) (t.timeouts kind).1);
        deadline = kept (ATimeout 1) SpellsTimeout _ (other (ATimeout 1) (λ h. omega (arith, h))) t.deadline;
        lifetime = kept (ATimeout 2) SpellsTimeout _ (other (ATimeout 2) (λ h. omega (arith, h))) t.lifetime;
        rsne_octets = kept AnRsne (IsWhole 0x30) _ (other AnRsne (λ h. omega (arith, h))) t.rsne_octets;
        mde_octets = kept AnMde (IsWhole 0x36) _ (other AnMde (λ h. omega (arith, h))) t.mde_octets;
        fte_octets = kept AnFte (IsWhole 0x37) _ (other AnFte (λ h. omega (arith, h))) t.fte_octets;
      }

-- in an array of no marks none is set
pub never : (n kind : ℕ) → get_or (replicate n false) kind false ≡ true → ⊥
never zero kind h = absurd cc
never (suc n) zero h = absurd cc
never (suc n) (suc kind) h = never n kind h

-- the types of timeout intervals stay, where the element is none
gathers_kept : (within : Within) (es : List Element) (e : Element) (old new : Gathered) → ((kind : ℕ) → is within (ATimeout kind) e ≡ false) → new.types ≡ old.types → Gathers within es old → Tells within (es ++ e ∷ []) (element_fields new.elements) → Gathers within (es ++ e ∷ []) new
gathers_kept within es e old new none types g tells =
    let same : (kind : ℕ) → filter (is within (ATimeout kind)) (es ++ e ∷ []) ≡ filter (is within (ATimeout kind)) es = λ kind. filter-other (is within (ATimeout kind)) es e (none kind) in
    let marks : (kind : ℕ) → get_or new.types kind false ≡ get_or old.types kind false = λ kind. ap (λ (t : List Bool). get_or t kind false) types in
    record {
      tells = tells;
      all = ap length types ∙ g.all;
      seen = λ kind h nothing. g.seen kind (sym (marks kind) ∙ h) (sym (same kind) ∙ nothing);
      unseen = λ kind low h. same kind ∙ g.unseen kind low (sym (marks kind) ∙ h);
    }

pub gathers_other : (within : Within) (es : List Element) (e : Element) (old new : Gathered) → (e.id ≡ 0x38 → ⊥) → new.types ≡ old.types → Gathers within es old → Tells within (es ++ e ∷ []) (element_fields new.elements) → Gathers within (es ++ e ∷ []) new
gathers_other within es e old new id = gathers_kept within es e old new (λ kind. not_of within (ATimeout kind) e id)

-- an element of no kind that is read
pub gathers_passed : (within : Within) (es : List Element) (e : Element) (g : Gathered) → (EndsReading within (element_octets e) → ⊥) → ((kind : ElementKind) → is within kind e ≡ false) → Gathers within es g → Gathers within (es ++ e ∷ []) g
gathers_passed within es e g going none told = gathers_kept within es e g g (λ kind. none (ATimeout kind)) refl told (tells_other within es e _ going told.tells none)

pub passed_vendor : (within : Within) (e : Element) → e.id ≡ 0xdd → is within AGtkKde e ≡ false → is within AnIgtkKde e ≡ false → (kind : ElementKind) → is within kind e ≡ false
passed_vendor within e id gtk igtk AnRsne = not_of within AnRsne e (λ h. omega (arith, h, id))
passed_vendor within e id gtk igtk AnMde = not_of within AnMde e (λ h. omega (arith, h, id))
passed_vendor within e id gtk igtk AnFte = not_of within AnFte e (λ h. omega (arith, h, id))
passed_vendor within e id gtk igtk (ATimeout kind) = not_of within (ATimeout kind) e (λ h. omega (arith, h, id))
passed_vendor within e id gtk igtk AGtkKde = gtk
passed_vendor within e id gtk igtk AnIgtkKde = igtk

-- an id of no kind
pub record IsOtherId (id : ℕ) : Type 0 where
  pub rsne : id ≢ 0x30
  pub mde : id ≢ 0x36
  pub fte : id ≢ 0x37
  pub timeout : id ≢ 0x38
  pub vendor : id ≢ 0xdd

pub passed_id : (within : Within) (e : Element) → IsOtherId e.id → (kind : ElementKind) → is within kind e ≡ false
passed_id within e other AnRsne = not_of within AnRsne e other.rsne
passed_id within e other AnMde = not_of within AnMde e other.mde
passed_id within e other AnFte = not_of within AnFte e other.fte
passed_id within e other (ATimeout kind) = not_of within (ATimeout kind) e other.timeout
passed_id within e other AGtkKde = not_of within AGtkKde e other.vendor
passed_id within e other AnIgtkKde = not_of within AnIgtkKde e other.vendor

-- ---- timeout intervals

push_some : (es : List Element) (e : Element) → es ++ e ∷ [] ≡ [] → ⊥
push_some [] e h = absurd cc
push_some (x ∷ es) e h = absurd cc

pub of_type : (within : Within) (e : Element) → e.id ≡ 0x38 → (kind : ℕ) → get_or e.body 0 0 ≡ kind → is within (ATimeout kind) e ≡ true
of_type within e id kind same = and_from _ _ (eq-eqb _ _ id) (eq-eqb _ _ same)

-- One that is the first of its type.
module _ (within : Within) (es : List Element) (e : Element) (value : ℕ) (id : e.id ≡ 0x38) (spelled : SpellsTimeout e.body value) where
  of_other : (kind : ℕ) → (get_or e.body 0 0 ≡ kind → ⊥) → is within (ATimeout kind) e ≡ false
  of_other kind other = and_right _ _ (ne_eqb _ _ other)

  pub says_this : (kind : ℕ) → get_or e.body 0 0 ≡ kind → filter (is within (ATimeout kind)) es ≡ [] → Says (is within (ATimeout kind)) SpellsTimeout (es ++ e ∷ []) (Some value)
  says_this kind same none = Says-first (is within (ATimeout kind)) SpellsTimeout es e value (of_type within e id kind same) none spelled

  pub says_other : (kind : ℕ) (o : Option ℕ) → (get_or e.body 0 0 ≡ kind → ⊥) → Says (is within (ATimeout kind)) SpellsTimeout es o → Says (is within (ATimeout kind)) SpellsTimeout (es ++ e ∷ []) o
  says_other kind o other s = Says-other (is within (ATimeout kind)) SpellsTimeout es e o (of_other kind other) s

  says_some : filter (is within (ATimeout (get_or e.body 0 0))) es ≡ [] → (kind : ℕ) → (o : Option ℕ) × Says (is within (ATimeout kind)) SpellsTimeout es o → (o : Option ℕ) × Says (is within (ATimeout kind)) SpellsTimeout (es ++ e ∷ []) o
  says_some none kind s =
      elim (cases_eq (get_or e.body 0 0) kind) [
        | inl same ↦ (Some value, says_this kind same (ap (λ (k : ℕ). filter (is within (ATimeout k)) es) (sym same) ∙ none))
        | inr other ↦ (s.0, says_other kind s.0 other s.1)
      ]

  pub tells_timeout : (f : ElementFields) → (EndsReading within (element_octets e) → ⊥) → Tells within es f → filter (is within (ATimeout (get_or e.body 0 0))) es ≡ []
      → (deadline lifetime : Option ℕ) → Says (is within (ATimeout 1)) SpellsTimeout (es ++ e ∷ []) deadline → Says (is within (ATimeout 2)) SpellsTimeout (es ++ e ∷ []) lifetime
      → Tells within (es ++ e ∷ []) (record f { deadline = deadline; lifetime = lifetime })
  tells_timeout f going t none deadline lifetime d l =
      let other : (kind : ElementKind) → (0x38 ≡ id_of kind → ⊥) → is within kind e ≡ false = λ kind h. not_of within kind e (λ i. h (sym id ∙ i)) in
      record {
        going = All-push (λ x. EndsReading within (element_octets x) → ⊥) es e t.going going;
        rsne = Says-other (is within AnRsne) SpellsRsne es e _ (other AnRsne (λ h. omega (arith, h))) t.rsne;
        mde = Says-other (is within AnMde) SpellsMde es e _ (other AnMde (λ h. omega (arith, h))) t.mde;
        fte = Says-other (is within AnFte) SpellsFte es e _ (other AnFte (λ h. omega (arith, h))) t.fte;
        gtk = Says-other (is within AGtkKde) SpellsGtkKde es e _ (other AGtkKde (λ h. omega (arith, h))) t.gtk;
        igtk = Says-other (is within AnIgtkKde) SpellsIgtkKde es e _ (other AnIgtkKde (λ h. omega (arith, h))) t.igtk;
        timeouts = λ kind. says_some none kind (t.timeouts kind);
        deadline = d;
        lifetime = l;
        rsne_octets = Says-other (is within AnRsne) (IsWhole 0x30) es e _ (other AnRsne (λ h. omega (arith, h))) t.rsne_octets;
        mde_octets = Says-other (is within AnMde) (IsWhole 0x36) es e _ (other AnMde (λ h. omega (arith, h))) t.mde_octets;
        fte_octets = Says-other (is within AnFte) (IsWhole 0x37) es e _ (other AnFte (λ h. omega (arith, h))) t.fte_octets;
      }

  pub gathers_timeout : (old new : Gathered) (kind : ℕ) → get_or e.body 0 0 ≡ kind → kind < 256 → new.types ≡ set old.types kind true → Gathers within es old → Tells within (es ++ e ∷ []) (element_fields new.elements) → Gathers within (es ++ e ∷ []) new
  gathers_timeout old new kind first low types g tells = record {
    tells = tells;
    all = ap length types ∙ length-set old.types kind true ∙ g.all;
    seen = seen;
    unseen = unseen;
  }
    where
      mark : (k : ℕ) → (k ≡ kind → ⊥) → get_or new.types k false ≡ get_or old.types k false
      mark k other = ap (λ (t : List Bool). get_or t k false) types ∙ get_or-set_other old.types kind k true false other

      marked : get_or new.types kind false ≡ true
      marked = ap (λ (t : List Bool). get_or t kind false) types ∙ get_or-set_same old.types kind true false (omega (arith, g.all))

      seen : (k : ℕ) → get_or new.types k false ≡ true → filter (is within (ATimeout k)) (es ++ e ∷ []) ≢ []
      seen k h none =
          elim (cases_eq k kind) [
            | inl same ↦ push_some _ e (sym (filter-one (is within (ATimeout k)) es e (of_type within e id k (first ∙ sym same))) ∙ none)
            | inr other ↦ g.seen k (sym (mark k other) ∙ h) (sym (filter-other (is within (ATimeout k)) es e (of_other k (λ i. other (sym i ∙ first)))) ∙ none)
          ]

      unseen : (k : ℕ) → k < 256 → get_or new.types k false ≡ false → filter (is within (ATimeout k)) (es ++ e ∷ []) ≡ []
      unseen k small h =
          elim (cases_eq k kind) [
            | inl same ↦ absurd (false≢true (sym h ∙ ap (λ (i : ℕ). get_or new.types i false) same ∙ marked))
            | inr other ↦ filter-other (is within (ATimeout k)) es e (of_other k (λ i. other (sym i ∙ first))) ∙ g.unseen k small (sym (mark k other) ∙ h)
          ]
