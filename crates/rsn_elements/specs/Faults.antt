-- The first fault of octets that are no elements. The order and the places are this project's choice (profile).
use Rattle.std.specs.Prelude.{◌≡◌, ◌≢◌, ℕ, ◌+◌, ◌<◌, ◌≤◌, ◌⊎◌, true, List, [], ◌++◌, length, drop, filter}
use Rattle.rsn_elements.specs.declared.framing.Within.{Within}
use Rattle.rsn_elements.specs.declared.faults.FaultKind.{FaultKind}
use Rattle.rsn_elements.specs.declared.faults.FaultKind.TheVariants.{Truncated, Length, Version, Repeated, SubelementLength}
use Rattle.rsn_elements.specs.Framing.{Element, element_octets, joined, EndsReading, IsTruncated}
use Rattle.rsn_elements.specs.Rsne.{RsneFields, SpellsRsne, HasOtherVersion}
use Rattle.rsn_elements.specs.Transition.{HasWrongSubelement, HasRepeatedSubelement}
use Rattle.rsn_elements.specs.Elements.{ElementFields, ElementKind, AnRsne, AnMde, AnFte, ATimeout, AGtkKde, AnIgtkKde, is, Tells}

-- a body that no whole number of fields spells
abbrev pub HasWrongLength : ElementKind → List ℕ → Type 0
HasWrongLength AnRsne body = (f : RsneFields) → SpellsRsne body f → ⊥
HasWrongLength AnMde body = length body ≢ 3
HasWrongLength AnFte body = length body < 82
HasWrongLength (ATimeout kind) body = length body ≢ 5
HasWrongLength AGtkKde body = length body < 6
HasWrongLength AnIgtkKde body = length body < 12

-- a second element of a kind
abbrev pub IsSecond : Within → List Element → Element → Type 0
IsSecond within before e = (kind : ElementKind) × (is within kind e ≡ true) × (filter (is within kind) before ≢ [])

-- Faults of an element after those before it, each with the offset of its place from the id of the element. Subelements
-- stand 84 octets after the id of their FTE.
abbrev pub HasFault : Within → List Element → Element → ℕ → FaultKind → Type 0
HasFault within before e offset Truncated = ⊥
HasFault within before e offset Version = (offset ≡ 0) × (is within AnRsne e ≡ true) × HasOtherVersion e.body
HasFault within before e offset Length = (offset ≡ 0) × (kind : ElementKind) × (is within kind e ≡ true) × HasWrongLength kind e.body
HasFault within before e offset SubelementLength = (place : ℕ) × (offset ≡ 84 + place) × (is within AnFte e ≡ true) × (82 ≤ length e.body) × HasWrongSubelement (drop 82 e.body) place
HasFault within before e offset Repeated =
    ((offset ≡ 0) × IsSecond within before e)
    ⊎ ((place : ℕ) × (offset ≡ 84 + place) × (is within AnFte e ≡ true) × (82 ≤ length e.body) × HasRepeatedSubelement (drop 82 e.body) place × (IsSecond within before e → ⊥))

-- the order of faults within one element: truncated, version, length, wrong subelement, repeated
abbrev pub rank : FaultKind → ℕ
rank Truncated = 0
rank Version = 1
rank Length = 2
rank SubelementLength = 3
rank Repeated = 4

-- a fault of the element, and none that goes before it in the order
pub record HasFirstFault (within : Within) (before : List Element) (e : Element) (offset : ℕ) (kind : FaultKind) : Type 0 where
  pub here : HasFault within before e offset kind
  pub first : (other : FaultKind) (elsewhere : ℕ) → rank other < rank kind → HasFault within before e elsewhere other → ⊥

-- the fault with which the octets after some elements begin
abbrev pub BeginsWithFault : Within → List Element → List ℕ → ℕ → FaultKind → Type 0
BeginsWithFault within before rest offset Truncated = (offset ≡ 0) × IsTruncated rest
BeginsWithFault within before rest offset kind = (e : Element) × (behind : List ℕ) × (rest ≡ element_octets e ++ behind) × HasFirstFault within before e offset kind

-- The octets are elements as they are read, and then one with a fault, at the place of its id or of its subelement's.
pub record HasElementFault (within : Within) (octets : List ℕ) (place : ℕ) (kind : FaultKind) : Type 0 where
  pub before : List Element
  pub rest : List ℕ
  pub said : ElementFields
  pub offset : ℕ
  pub cut : octets ≡ joined before ++ rest
  pub tells : Tells within before said
  pub going : EndsReading within rest → ⊥
  pub at : place ≡ length (joined before) + offset
  pub begins : BeginsWithFault within before rest offset kind
