-- Octets are elements up to where the reading ends, or a fault stands first among them.
use Rattle.std.proofs.Common.{◌≡◌, ◌⊎◌, ℕ, zero, suc, ◌+◌, ◌<◌, ◌≤◌, Bool, true, false, List, [], ◌∷◌, ◌++◌, length, get_or, Some, None, refl, sym, ap, subst, arith, inl, inr}
use Rattle.std.specs.Prelude.{◌%◌, ◌/◌, ◌==◌, drop, filter, slice_index}
use Rattle.std.specs.Int.{w16, w32}
use Rattle.std.proofs.lemmas.Bool.{cases_eq, cases_lt, eq-eqb}
use Rattle.std.proofs.lemmas.List.{length-append}
use Rattle.domain_base.specs.Places.{part, little_endian_at}
use Rattle.rsn_elements.specs.declared.framing.Within.{Within}
use Rattle.rsn_elements.specs.declared.framing.Within.TheVariants.{Body, KeyData}
use Rattle.rsn_elements.specs.declared.faults.FaultKind.{FaultKind}
use Rattle.rsn_elements.specs.declared.faults.FaultKind.TheVariants.{Truncated, Length, Version, Repeated, SubelementLength}
use Rattle.rsn_elements.specs.Framing.{Element, element_octets, joined, EndsReading}
use Rattle.rsn_elements.specs.Rsne.{SpellsRsne}
use Rattle.rsn_elements.specs.Transition.{MdeFields, SpellsMde, SpellsFte, SpellsTimeout}
use Rattle.rsn_elements.specs.KeyData.{GtkKdeFields, SpellsGtkKde, IgtkKdeFields, SpellsIgtkKde}
use Rattle.rsn_elements.specs.Elements.{ElementFields, ElementKind, AnRsne, AnMde, AnFte, ATimeout, AGtkKde, AnIgtkKde, is, Tells, SpellsElements}
use Rattle.rsn_elements.specs.Faults.{HasFirstFault, BeginsWithFault, HasElementFault}
use Rattle.rsn_elements.proofs.Cuts.{cut_push}
use Rattle.rsn_elements.proofs.Walk.{going_front}
use Rattle.rsn_elements.proofs.Gathering.{tells_nothing, tells_other, tells_rsne, tells_mde, tells_fte, tells_gtk, tells_igtk, tells_timeout, says_this, says_other, of_type, passed_vendor, passed_id, is-id}
use Rattle.rsn_elements.proofs.Refusing.{IsSized, no_version, sized_rsne, sized_mde, sized_fte, sized_timeout, sized_gtk, sized_igtk, refuses_second, refuses_length, refuses_rsne, refuses_fte, refuses_subelement}
use Rattle.rsn_elements.proofs.Apart.{fte_right}
use Rattle.domain_rules.proofs.Searching.{OrNot, both}
use Rattle.domain_rules.proofs.SomeRsne.{RsneTold, rsne_told}
use Rattle.domain_rules.proofs.SomeFte.{Front, Nothing, Whole, Cut_off, front, first_or_second, FteTold, Spelled, Refused, Again, fte_told}

-- ---- one more element

-- what they say with one more, or the first fault of that one
abbrev Taken : Within → List Element → Element → Type 0
Taken within es e = ((g : ElementFields) × Tells within (es ++ e ∷ []) g) ⊎ ((offset : ℕ) × ((kind : FaultKind) × HasFirstFault within es e offset kind))

module _ (within : Within) (es : List Element) (e : Element) (f : ElementFields) (going : EndsReading within (element_octets e) → ⊥) (t : Tells within es f) where
  again : (kind : ElementKind) → IsSized within e → is within kind e ≡ true → (filter (is within kind) es ≡ [] → ⊥) → Taken within es e
  again kind sized of_kind some = inr (0, (Repeated, refuses_second within es e (record { place = 0; kind = Repeated }) kind refl sized of_kind some))

  an_rsne : e.id ≡ 0x30 → Taken within es e
  an_rsne id = by (rsne_told e.body)
    where
      by : RsneTold e.body → Taken within es e
      by (inr (kind, read)) = inr (0, (kind, refuses_rsne within es e (record { place = 0; kind = kind }) kind refl id read))
      by (inl (r, spelled)) = first (first_or_second (is within AnRsne) SpellsRsne es f.rsne t.rsne)
        where
          first : OrNot (filter (is within AnRsne) es ≡ []) → Taken within es e
          first (inl none) = inl (record f { rsne = Some r; rsne_octets = Some (element_octets e) }, tells_rsne within es e f going t r (element_octets e) refl id none spelled)
          first (inr some) = again AnRsne (sized_rsne within e r id spelled) (eq-eqb e.id 0x30 id) some

  an_mde : e.id ≡ 0x36 → Taken within es e
  an_mde id = by (cases_eq (length e.body) 3)
    where
      says : MdeFields
      says = record { mdid = part 0 2 e.body; capability = slice_index e.body 2 }

      first : length e.body ≡ 3 → OrNot (filter (is within AnMde) es ≡ []) → Taken within es e
      first size (inl none) = inl (record f { mde = Some says; mde_octets = Some (element_octets e) }, tells_mde within es e f going t says (element_octets e) refl id none (size, refl))
      first size (inr some) = again AnMde (sized_mde within e id size) (eq-eqb e.id 0x36 id) some

      by : OrNot (length e.body ≡ 3) → Taken within es e
      by (inl size) = first size (first_or_second (is within AnMde) SpellsMde es f.mde t.mde)
      by (inr other) = inr (0, (Length, refuses_length within es e (record { place = 0; kind = Length }) AnMde refl (no_version within e 0x36 id (λ h. omega (arith, h))) (eq-eqb e.id 0x36 id) other))

  an_fte : e.id ≡ 0x37 → Taken within es e
  an_fte id = by (fte_told e.body) (first_or_second (is within AnFte) SpellsFte es f.fte t.fte)
    where
      by : FteTold e.body → OrNot (filter (is within AnFte) es ≡ []) → Taken within es e
      by (Refused offset kind fault) first = inr (offset, (kind, refuses_fte within es e (record { place = offset; kind = kind }) id fault))
      by (Spelled x spelled) (inl none) = inl (record f { fte = Some x; fte_octets = Some (element_octets e) }, tells_fte within es e f going t x (element_octets e) refl id none spelled)
      by (Spelled x spelled) (inr some) = again AnFte (sized_fte within e id spelled.long (fte_right e.body x spelled)) (eq-eqb e.id 0x37 id) some
      by (Again long right offset repeated) (inl none) = inr (offset, (Repeated, refuses_subelement within es e offset id long right none repeated))
      by (Again long right offset repeated) (inr some) = again AnFte (sized_fte within e id long right) (eq-eqb e.id 0x37 id) some

  a_timeout : e.id ≡ 0x38 → Taken within es e
  a_timeout id = by (cases_eq (length e.body) 5)
    where
      type : ℕ
      type = get_or e.body 0 0

      value : ℕ
      value = little_endian_at w32 1 e.body

      first : length e.body ≡ 5 → OrNot (filter (is within (ATimeout type)) es ≡ []) → Taken within es e
      first size (inr some) = again (ATimeout type) (sized_timeout within e id size) (of_type within e id type refl) some
      first size (inl none) = told (cases_eq type 1) (cases_eq type 2)
        where
          this : (kind : ℕ) → type ≡ kind → filter (is within (ATimeout kind)) es ≡ []
          this kind same = subst (λ (k : ℕ). filter (is within (ATimeout k)) es ≡ []) same none

          told : OrNot (type ≡ 1) → OrNot (type ≡ 2) → Taken within es e
          told (inl one) two =
              inl (
                record f { deadline = Some value; lifetime = f.lifetime },
                tells_timeout within es e value id (size, refl) f going t none (Some value) f.lifetime
                    (says_this within es e value id (size, refl) 1 one (this 1 one))
                    (says_other within es e value id (size, refl) 2 f.lifetime (λ same. omega (arith, one, same)) t.lifetime),
              )
          told (inr one) (inl two) =
              inl (
                record f { deadline = f.deadline; lifetime = Some value },
                tells_timeout within es e value id (size, refl) f going t none f.deadline (Some value)
                    (says_other within es e value id (size, refl) 1 f.deadline one t.deadline)
                    (says_this within es e value id (size, refl) 2 two (this 2 two)),
              )
          told (inr one) (inr two) =
              inl (
                record f { deadline = f.deadline; lifetime = f.lifetime },
                tells_timeout within es e value id (size, refl) f going t none f.deadline f.lifetime
                    (says_other within es e value id (size, refl) 1 f.deadline one t.deadline)
                    (says_other within es e value id (size, refl) 2 f.lifetime two t.lifetime),
              )

      by : OrNot (length e.body ≡ 5) → Taken within es e
      by (inl size) = first size (first_or_second (is within (ATimeout type)) SpellsTimeout es (t.timeouts type).0 (t.timeouts type).1)
      by (inr other) = inr (0, (Length, refuses_length within es e (record { place = 0; kind = Length }) (ATimeout type) refl (no_version within e 0x38 id (λ h. omega (arith, h))) (of_type within e id type refl) other))

  a_gtk : is within AGtkKde e ≡ true → Taken within es e
  a_gtk of_kind = by (cases_lt (length e.body) 6)
    where
      id : e.id ≡ 0xdd
      id = is-id within AGtkKde e of_kind

      says : GtkKdeFields
      says = record { id = slice_index e.body 4 % 4; transmit = slice_index e.body 4 / 4 % 2 == 1; key = drop 6 e.body }

      first : 6 ≤ length e.body → OrNot (filter (is within AGtkKde) es ≡ []) → Taken within es e
      first long (inl none) = inl (record f { gtk = Some says }, tells_gtk within es e f going t says of_kind none (long, refl))
      first long (inr some) = again AGtkKde (sized_gtk within e of_kind long) of_kind some

      by : (length e.body < 6) ⊎ (6 ≤ length e.body) → Taken within es e
      by (inl few) = inr (0, (Length, refuses_length within es e (record { place = 0; kind = Length }) AGtkKde refl (no_version within e 0xdd id (λ h. omega (arith, h))) of_kind few))
      by (inr long) = first long (first_or_second (is within AGtkKde) SpellsGtkKde es f.gtk t.gtk)

  an_igtk : is within AnIgtkKde e ≡ true → Taken within es e
  an_igtk of_kind = by (cases_lt (length e.body) 12)
    where
      id : e.id ≡ 0xdd
      id = is-id within AnIgtkKde e of_kind

      says : IgtkKdeFields
      says = record { id = little_endian_at w16 4 e.body; ipn = part 6 6 e.body; key = drop 12 e.body }

      first : 12 ≤ length e.body → OrNot (filter (is within AnIgtkKde) es ≡ []) → Taken within es e
      first long (inl none) = inl (record f { igtk = Some says }, tells_igtk within es e f going t says of_kind none (long, refl))
      first long (inr some) = again AnIgtkKde (sized_igtk within e of_kind long) of_kind some

      by : (length e.body < 12) ⊎ (12 ≤ length e.body) → Taken within es e
      by (inl few) = inr (0, (Length, refuses_length within es e (record { place = 0; kind = Length }) AnIgtkKde refl (no_version within e 0xdd id (λ h. omega (arith, h))) of_kind few))
      by (inr long) = first long (first_or_second (is within AnIgtkKde) SpellsIgtkKde es f.igtk t.igtk)

  a_vendor : e.id ≡ 0xdd → Taken within es e
  a_vendor id = by (is within AGtkKde e) (is within AnIgtkKde e) refl refl
    where
      by : (b c : Bool) → is within AGtkKde e ≡ b → is within AnIgtkKde e ≡ c → Taken within es e
      by true c of_kind other = a_gtk of_kind
      by false true other of_kind = an_igtk of_kind
      by false false other others = inl (f, tells_other within es e f going t (passed_vendor within e id other others))

  taken : Taken within es e
  taken = by (cases_eq e.id 0x30) (cases_eq e.id 0x36) (cases_eq e.id 0x37) (cases_eq e.id 0x38) (cases_eq e.id 0xdd)
    where
      by : OrNot (e.id ≡ 0x30) → OrNot (e.id ≡ 0x36) → OrNot (e.id ≡ 0x37) → OrNot (e.id ≡ 0x38) → OrNot (e.id ≡ 0xdd) → Taken within es e
      by (inl id) b c d v = an_rsne id
      by (inr a) (inl id) c d v = an_mde id
      by (inr a) (inr b) (inl id) d v = an_fte id
      by (inr a) (inr b) (inr c) (inl id) v = a_timeout id
      by (inr a) (inr b) (inr c) (inr d) (inl id) = a_vendor id
      by (inr a) (inr b) (inr c) (inr d) (inr v) = inl (f, tells_other within es e f going t (passed_id within e (record { rsne = a; mde = b; fte = c; timeout = d; vendor = v })))

-- ---- one after the other

ends_or_not : (within : Within) (rest : List ℕ) → OrNot (EndsReading within rest)
ends_or_not Body [] = inl tt
ends_or_not Body (id ∷ tail) = inr (λ h. h)
ends_or_not KeyData [] = inl tt
ends_or_not KeyData (id ∷ []) = cases_eq id 0xdd
ends_or_not KeyData (id ∷ size ∷ tail) = both (cases_eq id 0xdd) (cases_eq size 0)

ends_empty : (within : Within) → EndsReading within []
ends_empty Body = tt
ends_empty KeyData = tt

begins : (within : Within) (es : List Element) (rest : List ℕ) (e : Element) (behind : List ℕ) (offset : ℕ) (kind : FaultKind) → rest ≡ element_octets e ++ behind → HasFirstFault within es e offset kind → BeginsWithFault within es rest offset kind
begins within es rest e behind offset Truncated is fault = absurd fault.here
begins within es rest e behind offset Version is fault = (e, behind, is, fault)
begins within es rest e behind offset Length is fault = (e, behind, is, fault)
begins within es rest e behind offset SubelementLength is fault = (e, behind, is, fault)
begins within es rest e behind offset Repeated is fault = (e, behind, is, fault)

-- what they say, or their fault
abbrev pub ElementsTold : Within → List ℕ → Type 0
ElementsTold within octets = ((f : ElementFields) × SpellsElements within octets f) ⊎ ((place : ℕ) × ((kind : FaultKind) × HasElementFault within octets place kind))

module _ (within : Within) (octets : List ℕ) where
  step : (before : List Element) (rest : List ℕ) (said : ElementFields) → octets ≡ joined before ++ rest → Tells within before said
      → ((e : Element) (behind : List ℕ) (f : ElementFields) → rest ≡ element_octets e ++ behind → Tells within (before ++ e ∷ []) f → ElementsTold within octets)
      → OrNot (EndsReading within rest) → Front rest → ElementsTold within octets
  step before rest said cut t next (inl ends) at = inl (said, record { elements = before; rest = rest; cut = cut; ends = ends; tells = t })
  step before rest said cut t next (inr going) (Nothing none) = absurd (going (subst (λ (x : List ℕ). EndsReading within x) (sym none) (ends_empty within)))
  step before rest said cut t next (inr going) (Cut_off short) =
      inr (length (joined before) + 0, (Truncated, record { before = before; rest = rest; said = said; offset = 0; cut = cut; tells = t; going = going; at = refl; begins = (refl, short) }))
  step before rest said cut t next (inr going) (Whole e behind is) = by (taken within before e said (going_front within rest e behind is going) t)
    where
      by : Taken within before e → ElementsTold within octets
      by (inl (f, more)) = next e behind f is more
      by (inr (offset, (kind, fault))) =
          inr (
            length (joined before) + offset,
            (
              kind,
              record {
                before = before;
                rest = rest;
                said = said;
                offset = offset;
                cut = cut;
                tells = t;
                going = going;
                at = refl;
                begins = begins within before rest e behind offset kind is fault;
              },
            ),
          )

  walk : (fuel : ℕ) (before : List Element) (rest : List ℕ) (said : ElementFields) → octets ≡ joined before ++ rest → Tells within before said → length rest ≤ fuel → ElementsTold within octets
  walk zero before rest said cut t low =
      step before rest said cut t (λ e behind f is more. absurd (omega (arith, low, ap length is))) (ends_or_not within rest) (front rest)
  walk (suc fuel) before rest said cut t low =
      step before rest said cut t
      (λ e behind f is more. walk fuel (before ++ e ∷ []) behind f (cut_push octets before rest e behind cut is) more (omega (arith, low, ap length is, length-append e.body behind)))
      (ends_or_not within rest) (front rest)

  pub some_elements : ElementsTold within octets
  some_elements = walk (length octets) [] octets (record { rsne = None; mde = None; fte = None; gtk = None; igtk = None; deadline = None; lifetime = None; rsne_octets = None; mde_octets = None; fte_octets = None }) refl (tells_nothing within) (omega arith)
