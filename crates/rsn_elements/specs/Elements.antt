-- What octets say that are elements in any order, KDEs among them (IEEE Std 802.11-2020, 9.4.2, 12.7.2, profile).
use Rattle.std.specs.Prelude.{◌≡◌, ℕ, Bool, false, ◌&&◌, ◌==◌, nat_eq, List, [], ◌∷◌, ◌++◌, length, slice_index, Option, None, Some}
use Rattle.std.specs.List.{AllByRecursion, starts_with}
use Rattle.rsn_elements.specs.declared.framing.Within.{Within}
use Rattle.rsn_elements.specs.declared.framing.Within.TheVariants.{Body, KeyData}
use Rattle.rsn_elements.specs.Framing.{Element, element_octets, joined, EndsReading, Says}
use Rattle.rsn_elements.specs.Rsne.{RsneFields, SpellsRsne}
use Rattle.rsn_elements.specs.Transition.{MdeFields, SpellsMde, FteFields, SpellsFte, SpellsTimeout}
use Rattle.rsn_elements.specs.KeyData.{GtkKdeFields, SpellsGtkKde, IgtkKdeFields, SpellsIgtkKde}

-- what elements say, and of three of them the octets as they stand (9.4.2, profile)
pub record ElementFields : Type 0 where
  pub rsne : Option RsneFields
  pub mde : Option MdeFields
  pub fte : Option FteFields
  pub gtk : Option GtkKdeFields
  pub igtk : Option IgtkKdeFields
  pub deadline : Option ℕ
  pub lifetime : Option ℕ
  pub rsne_octets : Option (List ℕ)
  pub mde_octets : Option (List ℕ)
  pub fte_octets : Option (List ℕ)

-- What is read, each at most once; other elements are passed over. Timeout intervals of every type are read (9.4.2,
-- profile).
pub data ElementKind : Type 0 where
  AnRsne : ElementKind
  AnMde : ElementKind
  AnFte : ElementKind
  ATimeout : ℕ → ElementKind
  AGtkKde : ElementKind
  AnIgtkKde : ElementKind

-- which elements are of a kind: by the id, and by the first octets of the body; KDEs stand in key data alone. A timeout
-- interval with an empty body counts as one of type 0, and its length is wrong (9.4.2, profile)
abbrev pub is : Within → ElementKind → Element → Bool
is within AnRsne e = e.id == 0x30
is within AnMde e = e.id == 0x36
is within AnFte e = e.id == 0x37
is within (ATimeout kind) e = (e.id == 0x38) && (slice_index e.body 0 == kind)
is KeyData AGtkKde e = (e.id == 0xdd) && starts_with nat_eq e.body (0x00 ∷ 0x0f ∷ 0xac ∷ 0x01 ∷ [])
is Body AGtkKde e = false
is KeyData AnIgtkKde e = (e.id == 0xdd) && starts_with nat_eq e.body (0x00 ∷ 0x0f ∷ 0xac ∷ 0x09 ∷ [])
is Body AnIgtkKde e = false

-- the octets of a whole element of that id (9.4.2, profile)
abbrev pub IsWhole : ℕ → List ℕ → List ℕ → Type 0
IsWhole id body octets = octets ≡ id ∷ length body ∷ body

-- what the elements say, none of which ends the reading (9.4.2, profile)
pub record Tells (within : Within) (es : List Element) (f : ElementFields) : Type 0 where
  pub going : AllByRecursion (λ e. EndsReading within (element_octets e) → ⊥) es
  pub rsne : Says (is within AnRsne) SpellsRsne es f.rsne
  pub mde : Says (is within AnMde) SpellsMde es f.mde
  pub fte : Says (is within AnFte) SpellsFte es f.fte
  pub gtk : Says (is within AGtkKde) SpellsGtkKde es f.gtk
  pub igtk : Says (is within AnIgtkKde) SpellsIgtkKde es f.igtk
  pub timeouts : (kind : ℕ) → (value : Option ℕ) × Says (is within (ATimeout kind)) SpellsTimeout es value
  pub deadline : Says (is within (ATimeout 1)) SpellsTimeout es f.deadline
  pub lifetime : Says (is within (ATimeout 2)) SpellsTimeout es f.lifetime
  pub rsne_octets : Says (is within AnRsne) (IsWhole 0x30) es f.rsne_octets
  pub mde_octets : Says (is within AnMde) (IsWhole 0x36) es f.mde_octets
  pub fte_octets : Says (is within AnFte) (IsWhole 0x37) es f.fte_octets

-- The octets are elements in any order, up to where the reading ends, and this is what they say (9.4.2, profile).
pub record SpellsElements (within : Within) (octets : List ℕ) (f : ElementFields) : Type 0 where
  pub elements : List Element
  pub rest : List ℕ
  pub cut : octets ≡ joined elements ++ rest
  pub ends : EndsReading within rest
  pub tells : Tells within elements f

-- The octets that were kept of an element are its id, the length of its body, and a body that spells what it says
-- (profile).
abbrev pub IsRaw : {F : Type 0} → ℕ → (List ℕ → F → Type 0) → Option F → Option (List ℕ) → Type 0
IsRaw id Spells None octets = octets ≡ None
IsRaw id Spells (Some f) octets = (body : List ℕ) × (octets ≡ Some (id ∷ length body ∷ body)) × Spells body f

-- this holds of each of the three (profile)
pub record HasRaw (f : ElementFields) : Type 0 where
  pub rsne : IsRaw 0x30 SpellsRsne f.rsne f.rsne_octets
  pub mde : IsRaw 0x36 SpellsMde f.mde f.mde_octets
  pub fte : IsRaw 0x37 SpellsFte f.fte f.fte_octets
