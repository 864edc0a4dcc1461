-- What the private readers of an FTE answer.
-- For the code alone: no public contract speaks of it.
use Rattle.std.specs.Prelude.{◌≡◌, ℕ, ◌+◌, ◌<◌, ◌≤◌, List, length, drop, option_map, MatchOption, ◌++◌, Result, Ok, Err}
use Rattle.std.specs.Option.{option_copied}
use Rattle.std.specs.List.{AllByRecursion}
use Rattle.rsn_elements.specs.declared.transition.FteRead.{FteRead}
use Rattle.rsn_elements.specs.declared.transition.Subelements.{Subelements}
use Rattle.rsn_elements.specs.declared.faults.FaultKind.{FaultKind}
use Rattle.rsn_elements.specs.declared.faults.FaultKind.TheVariants.{Truncated, Length, Version, Repeated, SubelementLength}
use Rattle.rsn_elements.specs.declared.faults.ElementFault.{ElementFault}
use Rattle.rsn_elements.specs.Framing.{Element, element_octets, joined}
use Rattle.rsn_elements.specs.Transition.{SubelementsSay, SpellsFte, IsRight, HasWrongSubelement, HasRepeatedSubelement}
use Rattle.rsn_elements.specs.Fields.{wrapped_gtk_fields, wrapped_igtk_fields, fte_fields}

-- what the subelements say is kept
abbrev pub Say : List Element → Subelements → Type 0
Say es s = SubelementsSay es s.r1kh_id (option_map wrapped_gtk_fields s.gtk) (option_copied s.r0kh_id) (option_map wrapped_igtk_fields s.igtk)

-- the subelements so far: what they say, or where the first second one stands
abbrev pub Reached : List ℕ → List Element → Subelements → Type 0
Reached octets es s = MatchOption s.repeated (Say es s) (λ place. HasRepeatedSubelement octets place)

-- no subelement of a right length begins the octets
abbrev pub BeginsWrong : List ℕ → Type 0
BeginsWrong octets = (s : Element) (behind : List ℕ) → octets ≡ element_octets s ++ behind → IsRight s → ⊥

-- octets that are subelements of right lengths
pub record AreRight (octets : List ℕ) : Type 0 where
  pub subelements : List Element
  pub whole : octets ≡ joined subelements
  pub right : AllByRecursion IsRight subelements

-- octets that are subelements, and what they say is kept
pub record SubelementsTell (octets : List ℕ) (s : Subelements) : Type 0 where
  pub subelements : List Element
  pub whole : octets ≡ joined subelements
  pub say : Say subelements s

-- all subelements, or the place of a wrong one
abbrev pub IsSubelementsRead : List ℕ → Result Subelements ℕ → Type 0
IsSubelementsRead octets (Ok s) = AreRight octets × MatchOption s.repeated (SubelementsTell octets s) (λ place. HasRepeatedSubelement octets place)
IsSubelementsRead octets (Err place) = HasWrongSubelement octets place

-- faults of a body that are tried before repetitions, with their offsets from the id of the FTE
abbrev pub IsFteFault : List ℕ → ℕ → FaultKind → Type 0
IsFteFault body offset Length = (offset ≡ 0) × (length body < 82)
IsFteFault body offset SubelementLength = (82 ≤ length body) × (place : ℕ) × (offset ≡ 84 + place) × HasWrongSubelement (drop 82 body) place
IsFteFault body offset Repeated = ⊥
IsFteFault body offset Truncated = ⊥
IsFteFault body offset Version = ⊥

-- at an offset from the id of the FTE a repeated subelement stands
abbrev pub HasRepeatedAt : List ℕ → ℕ → Type 0
HasRepeatedAt body offset = (place : ℕ) × (offset ≡ 84 + place) × HasRepeatedSubelement (drop 82 body) place

-- what a body spells, up to repetitions
abbrev pub IsFteRead : List ℕ → Result FteRead ElementFault → Type 0
IsFteRead body (Ok r) = (82 ≤ length body) × AreRight (drop 82 body) × MatchOption r.repeated (SpellsFte body (fte_fields r.fte)) (λ offset. HasRepeatedAt body offset)
IsFteRead body (Err e) = IsFteFault body e.place e.kind
