-- The first fault of an element.
use Rattle.std.proofs.Common.{◌≡◌, ◌≢◌, ℕ, ◌<◌, ◌≤◌, Bool, true, false, List, [], ◌∷◌, ◌++◌, length, take, drop, refl, sym, ap, subst, ◌∙◌, arith, inl, inr, Option, Some, None, Err}
use Rattle.std.specs.Prelude.{filter, is_some, option_map}
use Rattle.std.specs.List.{AllByRecursion}
use Rattle.std.proofs.lemmas.Bool.{eq-eqb, false≢true}
use Rattle.std.proofs.lemmas.List.{append-nil, append_assoc}
use Rattle.rsn_elements.specs.declared.framing.Within.{Within}
use Rattle.rsn_elements.specs.declared.faults.FaultKind.{FaultKind}
use Rattle.rsn_elements.specs.declared.faults.FaultKind.TheVariants.{Truncated, Length, Version, Repeated, SubelementLength}
use Rattle.rsn_elements.specs.declared.faults.ElementFault.{ElementFault}
use Rattle.rsn_elements.specs.Framing.{Element, element_octets, joined, Says}
use Rattle.rsn_elements.specs.Rsne.{RsneFields, SpellsRsne, HasOtherVersion}
use Rattle.rsn_elements.specs.Transition.{IsRight, HasWrongSubelement}
use Rattle.rsn_elements.specs.TransitionSteps.{AreRight, IsFteFault, HasRepeatedAt}
use Rattle.rsn_elements.specs.RsneSteps.{IsRsneRead}
use Rattle.rsn_elements.specs.Elements.{ElementKind, AnRsne, AnMde, AnFte, ATimeout, AGtkKde, AnIgtkKde, is}
use Rattle.rsn_elements.specs.Faults.{HasWrongLength, IsSecond, HasFault, rank, HasFirstFault}
use Rattle.rsn_elements.proofs.Cuts.{compare, All-middle}
use Rattle.rsn_elements.proofs.Gathering.{id_of, is-id, no_igtk, no_gtk}

-- subelements that all have right lengths have no wrong one
pub right_not_wrong : (octets : List ℕ) (place : ℕ) → AreRight octets → HasWrongSubelement octets place → ⊥
right_not_wrong octets place r w =
    elim (compare w.before r.subelements w.rest [] (sym w.cut ∙ r.whole ∙ sym (append-nil (joined r.subelements)))) [
      | inl l ↦ behind l.0 l.1 l.2
      | inr l ↦ w.some (none l.0 l.2)
    ]
  where
    none : (more : List Element) → [] ≡ joined more ++ w.rest → w.rest ≡ []
    none [] h = sym h
    none (s ∷ more) h = absurd cc

    behind : (more : List Element) → r.subelements ≡ w.before ++ more → w.rest ≡ joined more ++ [] → ⊥
    behind [] whole h = w.some h
    behind (s ∷ more) whole h = w.wrong s (joined more ++ []) (h ∙ append_assoc (element_octets s) (joined more) []) (All-middle IsRight w.before s more (subst (λ (x : List Element). AllByRecursion IsRight x) whole r.right))

-- ---- in the order within one element

pub version_first : (within : Within) (es : List Element) (e : Element) (offset : ℕ) → HasFault within es e offset Version → HasFirstFault within es e offset Version
version_first within es e offset here = record { here = here; first = first }
  where
    first : (other : FaultKind) (elsewhere : ℕ) → rank other < 1 → HasFault within es e elsewhere other → ⊥
    first Truncated elsewhere low h = h
    first Version elsewhere low h = absurd (omega arith)
    first Length elsewhere low h = absurd (omega arith)
    first SubelementLength elsewhere low h = absurd (omega arith)
    first Repeated elsewhere low h = absurd (omega arith)

-- no other version
abbrev pub NoVersion : Within → Element → Type 0
NoVersion within e = is within AnRsne e ≡ true → HasOtherVersion e.body → ⊥

pub length_first : (within : Within) (es : List Element) (e : Element) → NoVersion within e → (kind : ElementKind) → is within kind e ≡ true → HasWrongLength kind e.body → HasFirstFault within es e 0 Length
length_first within es e version kind yes_kind wrong = record { here = (refl, kind, yes_kind, wrong); first = first }
  where
    first : (other : FaultKind) (elsewhere : ℕ) → rank other < 2 → HasFault within es e elsewhere other → ⊥
    first Truncated elsewhere low h = h
    first Version elsewhere low h = version h.1 h.2
    first Length elsewhere low h = absurd (omega arith)
    first SubelementLength elsewhere low h = absurd (omega arith)
    first Repeated elsewhere low h = absurd (omega arith)

-- a right version and a right length
abbrev pub NoLength : Within → Element → Type 0
NoLength within e = (kind : ElementKind) → is within kind e ≡ true → HasWrongLength kind e.body → ⊥

pub subelement_first : (within : Within) (es : List Element) (e : Element) (offset : ℕ) → NoVersion within e → NoLength within e → HasFault within es e offset SubelementLength → HasFirstFault within es e offset SubelementLength
subelement_first within es e offset version lengths here = record { here = here; first = first }
  where
    first : (other : FaultKind) (elsewhere : ℕ) → rank other < 3 → HasFault within es e elsewhere other → ⊥
    first Truncated elsewhere low h = h
    first Version elsewhere low h = version h.1 h.2
    first Length elsewhere low h = lengths h.1 h.2 h.3
    first SubelementLength elsewhere low h = absurd (omega arith)
    first Repeated elsewhere low h = absurd (omega arith)

-- all lengths right, but what is repeated
pub record IsSized (within : Within) (e : Element) : Type 0 where
  pub version : NoVersion within e
  pub lengths : NoLength within e
  pub subelements : (place : ℕ) → is within AnFte e ≡ true → HasWrongSubelement (drop 82 e.body) place → ⊥

pub repeated_first : (within : Within) (es : List Element) (e : Element) (offset : ℕ) → IsSized within e → HasFault within es e offset Repeated → HasFirstFault within es e offset Repeated
repeated_first within es e offset sized here = record { here = here; first = first }
  where
    first : (other : FaultKind) (elsewhere : ℕ) → rank other < 4 → HasFault within es e elsewhere other → ⊥
    first Truncated elsewhere low h = h
    first Version elsewhere low h = sized.version h.1 h.2
    first Length elsewhere low h = sized.lengths h.1 h.2 h.3
    first SubelementLength elsewhere low h = sized.subelements h.0 h.2 h.4
    first Repeated elsewhere low h = absurd (omega arith)

-- ---- by the id

-- an element of another id is not of the kind
apart : (within : Within) (kind : ElementKind) (e : Element) (id : ℕ) → e.id ≡ id → (id ≡ id_of kind → ⊥) → is within kind e ≡ true → ⊥
apart within kind e id at h yes_kind = h (sym at ∙ is-id within kind e yes_kind)

pub no_version : (within : Within) (e : Element) (id : ℕ) → e.id ≡ id → (id ≡ 0x30 → ⊥) → NoVersion within e
no_version within e id at h yes_kind other = apart within AnRsne e id at h yes_kind

no_subelements : (within : Within) (e : Element) (id : ℕ) → e.id ≡ id → (id ≡ 0x37 → ⊥) → (place : ℕ) → is within AnFte e ≡ true → HasWrongSubelement (drop 82 e.body) place → ⊥
no_subelements within e id at h place yes_kind wrong = apart within AnFte e id at h yes_kind

pub sized_rsne : (within : Within) (e : Element) (f : RsneFields) → e.id ≡ 0x30 → SpellsRsne e.body f → IsSized within e
sized_rsne within e f id s = record {
  version = λ yes_kind other. other.1 (ap (λ (w : List ℕ). take 2 w) s.version);
  lengths = lengths;
  subelements = no_subelements within e 0x30 id (λ h. omega (arith, h));
}
  where
    lengths : NoLength within e
    lengths AnRsne yes_kind wrong = wrong f s
    lengths AnMde yes_kind wrong = apart within AnMde e 0x30 id (λ h. omega (arith, h)) yes_kind
    lengths AnFte yes_kind wrong = apart within AnFte e 0x30 id (λ h. omega (arith, h)) yes_kind
    lengths (ATimeout kind) yes_kind wrong = apart within (ATimeout kind) e 0x30 id (λ h. omega (arith, h)) yes_kind
    lengths AGtkKde yes_kind wrong = apart within AGtkKde e 0x30 id (λ h. omega (arith, h)) yes_kind
    lengths AnIgtkKde yes_kind wrong = apart within AnIgtkKde e 0x30 id (λ h. omega (arith, h)) yes_kind

pub sized_mde : (within : Within) (e : Element) → e.id ≡ 0x36 → length e.body ≡ 3 → IsSized within e
sized_mde within e id size = record {
  version = no_version within e 0x36 id (λ h. omega (arith, h));
  lengths = lengths;
  subelements = no_subelements within e 0x36 id (λ h. omega (arith, h));
}
  where
    lengths : NoLength within e
    lengths AnRsne yes_kind wrong = apart within AnRsne e 0x36 id (λ h. omega (arith, h)) yes_kind
    lengths AnMde yes_kind wrong = wrong size
    lengths AnFte yes_kind wrong = apart within AnFte e 0x36 id (λ h. omega (arith, h)) yes_kind
    lengths (ATimeout kind) yes_kind wrong = apart within (ATimeout kind) e 0x36 id (λ h. omega (arith, h)) yes_kind
    lengths AGtkKde yes_kind wrong = apart within AGtkKde e 0x36 id (λ h. omega (arith, h)) yes_kind
    lengths AnIgtkKde yes_kind wrong = apart within AnIgtkKde e 0x36 id (λ h. omega (arith, h)) yes_kind

pub fte_lengths : (within : Within) (e : Element) → e.id ≡ 0x37 → 82 ≤ length e.body → NoLength within e
fte_lengths within e id size AnRsne yes_kind wrong = apart within AnRsne e 0x37 id (λ h. omega (arith, h)) yes_kind
fte_lengths within e id size AnMde yes_kind wrong = apart within AnMde e 0x37 id (λ h. omega (arith, h)) yes_kind
fte_lengths within e id size AnFte yes_kind wrong = omega arith
fte_lengths within e id size (ATimeout kind) yes_kind wrong = apart within (ATimeout kind) e 0x37 id (λ h. omega (arith, h)) yes_kind
fte_lengths within e id size AGtkKde yes_kind wrong = apart within AGtkKde e 0x37 id (λ h. omega (arith, h)) yes_kind
fte_lengths within e id size AnIgtkKde yes_kind wrong = apart within AnIgtkKde e 0x37 id (λ h. omega (arith, h)) yes_kind

pub sized_fte : (within : Within) (e : Element) → e.id ≡ 0x37 → 82 ≤ length e.body → AreRight (drop 82 e.body) → IsSized within e
sized_fte within e id size right = record {
  version = no_version within e 0x37 id (λ h. omega (arith, h));
  lengths = fte_lengths within e id size;
  subelements = λ place yes_kind wrong. right_not_wrong (drop 82 e.body) place right wrong;
}

pub sized_timeout : (within : Within) (e : Element) → e.id ≡ 0x38 → length e.body ≡ 5 → IsSized within e
sized_timeout within e id size = record {
  version = no_version within e 0x38 id (λ h. omega (arith, h));
  lengths = lengths;
  subelements = no_subelements within e 0x38 id (λ h. omega (arith, h));
}
  where
    lengths : NoLength within e
    lengths AnRsne yes_kind wrong = apart within AnRsne e 0x38 id (λ h. omega (arith, h)) yes_kind
    lengths AnMde yes_kind wrong = apart within AnMde e 0x38 id (λ h. omega (arith, h)) yes_kind
    lengths AnFte yes_kind wrong = apart within AnFte e 0x38 id (λ h. omega (arith, h)) yes_kind
    lengths (ATimeout kind) yes_kind wrong = wrong size
    lengths AGtkKde yes_kind wrong = apart within AGtkKde e 0x38 id (λ h. omega (arith, h)) yes_kind
    lengths AnIgtkKde yes_kind wrong = apart within AnIgtkKde e 0x38 id (λ h. omega (arith, h)) yes_kind

pub sized_gtk : (within : Within) (e : Element) → is within AGtkKde e ≡ true → 6 ≤ length e.body → IsSized within e
sized_gtk within e of_gtk size = record {
  version = no_version within e 0xdd id (λ h. omega (arith, h));
  lengths = lengths;
  subelements = no_subelements within e 0xdd id (λ h. omega (arith, h));
}
  where
    id : e.id ≡ 0xdd
    id = is-id within AGtkKde e of_gtk

    lengths : NoLength within e
    lengths AnRsne yes_kind wrong = apart within AnRsne e 0xdd id (λ h. omega (arith, h)) yes_kind
    lengths AnMde yes_kind wrong = apart within AnMde e 0xdd id (λ h. omega (arith, h)) yes_kind
    lengths AnFte yes_kind wrong = apart within AnFte e 0xdd id (λ h. omega (arith, h)) yes_kind
    lengths (ATimeout kind) yes_kind wrong = apart within (ATimeout kind) e 0xdd id (λ h. omega (arith, h)) yes_kind
    lengths AGtkKde yes_kind wrong = omega arith
    lengths AnIgtkKde yes_kind wrong = absurd (false≢true (sym (no_igtk within e of_gtk) ∙ yes_kind))

pub sized_igtk : (within : Within) (e : Element) → is within AnIgtkKde e ≡ true → 12 ≤ length e.body → IsSized within e
sized_igtk within e of_igtk size = record {
  version = no_version within e 0xdd id (λ h. omega (arith, h));
  lengths = lengths;
  subelements = no_subelements within e 0xdd id (λ h. omega (arith, h));
}
  where
    id : e.id ≡ 0xdd
    id = is-id within AnIgtkKde e of_igtk

    lengths : NoLength within e
    lengths AnRsne yes_kind wrong = apart within AnRsne e 0xdd id (λ h. omega (arith, h)) yes_kind
    lengths AnMde yes_kind wrong = apart within AnMde e 0xdd id (λ h. omega (arith, h)) yes_kind
    lengths AnFte yes_kind wrong = apart within AnFte e 0xdd id (λ h. omega (arith, h)) yes_kind
    lengths (ATimeout kind) yes_kind wrong = apart within (ATimeout kind) e 0xdd id (λ h. omega (arith, h)) yes_kind
    lengths AGtkKde yes_kind wrong = absurd (false≢true (sym (no_gtk within e of_igtk) ∙ yes_kind))
    lengths AnIgtkKde yes_kind wrong = omega arith

-- ---- what is repeated

-- a kind of which something is kept has an element, and one of which nothing is kept has none
pub some_said : {T F : Type 0} (kind : Element → Bool) (Spells : List ℕ → F → Type 0) (es : List Element) (view : T → F) (o : Option T) → true ≡ is_some o → Says kind Spells es (option_map view o) → filter kind es ≢ []
some_said kind Spells es view None h s none = absurd cc
some_said kind Spells es view (Some f) h s none = absurd (cc (s.1, none))

pub none_said : {T F : Type 0} (kind : Element → Bool) (Spells : List ℕ → F → Type 0) (es : List Element) (view : T → F) (o : Option T) → false ≡ is_some o → Says kind Spells es (option_map view o) → filter kind es ≡ []
none_said kind Spells es view None h s = s
none_said kind Spells es view (Some f) h s = absurd cc

-- ---- as the code answers

pub placed : (within : Within) (es : List Element) (e : Element) (fault : ElementFault) (offset : ℕ) (kind : FaultKind) → fault ≡ record { place = offset; kind = kind } → HasFirstFault within es e offset kind → HasFirstFault within es e fault.place fault.kind
placed within es e fault offset kind is_that first = subst (λ (f : ElementFault). HasFirstFault within es e f.place f.kind) (sym is_that) first

-- a second element of a kind, sized right
pub refuses_second : (within : Within) (es : List Element) (e : Element) (fault : ElementFault) (kind : ElementKind) → fault ≡ record { place = 0; kind = Repeated } → IsSized within e → is within kind e ≡ true → filter (is within kind) es ≢ [] → HasFirstFault within es e fault.place fault.kind
refuses_second within es e fault kind is_that sized yes_kind some = placed within es e fault 0 Repeated is_that (repeated_first within es e 0 sized (inl (refl, (kind, yes_kind, some))))

pub refuses_length : (within : Within) (es : List Element) (e : Element) (fault : ElementFault) (kind : ElementKind) → fault ≡ record { place = 0; kind = Length } → NoVersion within e → is within kind e ≡ true → HasWrongLength kind e.body → HasFirstFault within es e fault.place fault.kind
refuses_length within es e fault kind is_that version yes_kind wrong = placed within es e fault 0 Length is_that (length_first within es e version kind yes_kind wrong)

-- why an RSNE was not read
pub refuses_rsne : (within : Within) (es : List Element) (e : Element) (fault : ElementFault) (kind : FaultKind) → fault ≡ record { place = 0; kind = kind } → e.id ≡ 0x30 → IsRsneRead e.body (Err kind) → HasFirstFault within es e fault.place fault.kind
refuses_rsne within es e fault Version is_that id read = placed within es e fault 0 Version is_that (version_first within es e 0 (refl, eq-eqb _ _ id, read))
refuses_rsne within es e fault Length is_that id read = refuses_length within es e fault AnRsne is_that (λ yes_kind. read.0) (eq-eqb _ _ id) read.1
refuses_rsne within es e fault Truncated is_that id read = absurd read
refuses_rsne within es e fault Repeated is_that id read = absurd read
refuses_rsne within es e fault SubelementLength is_that id read = absurd read

-- why an FTE was not read
pub refuses_fte : (within : Within) (es : List Element) (e : Element) (fault : ElementFault) → e.id ≡ 0x37 → IsFteFault e.body fault.place fault.kind → HasFirstFault within es e fault.place fault.kind
refuses_fte within es e fault id read = by_kind fault.place fault.kind read
  where
    version : NoVersion within e
    version = no_version within e 0x37 id (λ h. omega (arith, h))

    by_kind : (offset : ℕ) (kind : FaultKind) → IsFteFault e.body offset kind → HasFirstFault within es e offset kind
    by_kind offset Length r = subst (λ (n : ℕ). HasFirstFault within es e n Length) (sym r.0) (length_first within es e version AnFte (eq-eqb _ _ id) r.1)
    by_kind offset SubelementLength r = subelement_first within es e offset version (fte_lengths within e id r.0) (r.1, r.2, eq-eqb _ _ id, r.0, r.3)
    by_kind offset Truncated r = absurd r
    by_kind offset Version r = absurd r
    by_kind offset Repeated r = absurd r

-- an element of a kind of which none stood before is no second one
not_second : (within : Within) (es : List Element) (e : Element) (kind : ElementKind) → ((other : ElementKind) → is within other e ≡ true → other ≡ kind) → filter (is within kind) es ≡ [] → IsSecond within es e → ⊥
not_second within es e kind sole none second = second.2 (ap (λ (k : ElementKind). filter (is within k) es) (sole second.0 second.1) ∙ none)

fte_sole : (within : Within) (e : Element) → e.id ≡ 0x37 → (other : ElementKind) → is within other e ≡ true → other ≡ AnFte
fte_sole within e id AnRsne yes_kind = absurd (apart within AnRsne e 0x37 id (λ h. omega (arith, h)) yes_kind)
fte_sole within e id AnMde yes_kind = absurd (apart within AnMde e 0x37 id (λ h. omega (arith, h)) yes_kind)
fte_sole within e id AnFte yes_kind = refl
fte_sole within e id (ATimeout kind) yes_kind = absurd (apart within (ATimeout kind) e 0x37 id (λ h. omega (arith, h)) yes_kind)
fte_sole within e id AGtkKde yes_kind = absurd (apart within AGtkKde e 0x37 id (λ h. omega (arith, h)) yes_kind)
fte_sole within e id AnIgtkKde yes_kind = absurd (apart within AnIgtkKde e 0x37 id (λ h. omega (arith, h)) yes_kind)

-- the first FTE, with a repeated subelement
pub refuses_subelement : (within : Within) (es : List Element) (e : Element) (offset : ℕ) → e.id ≡ 0x37 → 82 ≤ length e.body → AreRight (drop 82 e.body) → filter (is within AnFte) es ≡ [] → HasRepeatedAt e.body offset → HasFirstFault within es e offset Repeated
refuses_subelement within es e offset id size right none again =
    repeated_first within es e offset (sized_fte within e id size right) (inr (again.0, again.1, eq-eqb _ _ id, size, again.2, not_second within es e AnFte (fte_sole within e id) none))
