-- The walk over elements.
use Rattle.std.proofs.Common.{◌≡◌, ℕ, ◌+◌, ◌-◌, ◌≤◌, List, [], ◌∷◌, ◌++◌, length, refl, sym, ap, subst, arith, inl, inr}
use Rattle.std.proofs.lemmas.List.{length-append, length-drop}
use Rattle.rsn_elements.specs.declared.framing.Within.{Within}
use Rattle.rsn_elements.specs.declared.framing.Within.TheVariants.{Body, KeyData}
use Rattle.rsn_elements.specs.declared.reading.Gathered.{Gathered}
use Rattle.rsn_elements.specs.declared.faults.FaultKind.{FaultKind}
use Rattle.rsn_elements.specs.declared.faults.FaultKind.TheVariants.{Truncated, Length, Version, Repeated, SubelementLength}
use Rattle.rsn_elements.specs.Framing.{Element, element_octets, joined, EndsReading, IsTruncated}
use Rattle.rsn_elements.specs.Elements.{SpellsElements}
use Rattle.rsn_elements.specs.Fields.{element_fields}
use Rattle.rsn_elements.specs.ElementSteps.{Gathers}
use Rattle.rsn_elements.specs.Faults.{HasFault, HasFirstFault, BeginsWithFault, HasElementFault}
use Rattle.rsn_elements.proofs.Cuts.{cut_push, cut_place}

-- the octets are elements up to the rest, and what they say is kept
pub record Walked (within : Within) (octets : List ℕ) (es : List Element) (rest : List ℕ) (g : Gathered) : Type 0 where
  pub cut : octets ≡ joined es ++ rest
  pub gathers : Gathers within es g

pub walk_starts : (within : Within) (octets : List ℕ) (g : Gathered) → Gathers within [] g → Walked within octets [] octets g
walk_starts within octets g told = record { cut = refl; gathers = told }

pub walk_goes_on : (within : Within) (octets : List ℕ) (es : List Element) (rest : List ℕ) (old new : Gathered) (e : Element) (behind : List ℕ)
    → Walked within octets es rest old → rest ≡ element_octets e ++ behind → Gathers within (es ++ e ∷ []) new → Walked within octets (es ++ e ∷ []) behind new
walk_goes_on within octets es rest old new e behind w first told = record { cut = cut_push octets es rest e behind w.cut first; gathers = told }

pub walk_ends : (within : Within) (octets : List ℕ) (es : List Element) (rest : List ℕ) (g : Gathered) → Walked within octets es rest g → EndsReading within rest → SpellsElements within octets (element_fields g.elements)
walk_ends within octets es rest g w ends = record { elements = es; rest = rest; cut = w.cut; ends = ends; tells = w.gathers.tells }

pub walk_truncated : (within : Within) (octets : List ℕ) (es : List Element) (rest : List ℕ) (g : Gathered) → Walked within octets es rest g → (EndsReading within rest → ⊥) → IsTruncated rest → HasElementFault within octets (length octets - length rest) Truncated
walk_truncated within octets es rest g w going truncated = record {
  before = es;
  rest = rest;
  said = element_fields g.elements;
  offset = 0;
  cut = w.cut;
  tells = w.gathers.tells;
  going = going;
  at = omega (arith, cut_place octets es rest w.cut);
  begins = (refl, truncated);
}

-- the place of a fault is not behind the element
pub fault_place : (within : Within) (es : List Element) (e : Element) (offset : ℕ) (kind : FaultKind) → HasFault within es e offset kind → offset ≤ 2 + length e.body
fault_place within es e offset Truncated h = absurd h
fault_place within es e offset Version h = omega (arith, h.0)
fault_place within es e offset Length h = omega (arith, h.0)
fault_place within es e offset SubelementLength h = omega (arith, h.1, h.3, h.4.at, ap length h.4.cut, length-append (joined h.4.before) h.4.rest, length-drop 82 e.body)
fault_place within es e offset Repeated (inl h) = omega (arith, h.0)
fault_place within es e offset Repeated (inr h) = omega (arith, h.1, h.3, h.4.at, ap length h.4.cut, length-append (joined h.4.before) (element_octets h.4.again ++ h.4.behind), length-drop 82 e.body)

pub walk_refuses : (within : Within) (octets : List ℕ) (es : List Element) (rest : List ℕ) (g : Gathered) (e : Element) (behind : List ℕ) (offset : ℕ) (kind : FaultKind)
    → Walked within octets es rest g → (EndsReading within rest → ⊥) → rest ≡ element_octets e ++ behind → HasFirstFault within es e offset kind → HasElementFault within octets (length octets - length rest + offset) kind
walk_refuses within octets es rest g e behind offset kind w going first fault = record {
  before = es;
  rest = rest;
  said = element_fields g.elements;
  offset = offset;
  cut = w.cut;
  tells = w.gathers.tells;
  going = going;
  at = ap (λ (n : ℕ). n + offset) (cut_place octets es rest w.cut);
  begins = begins kind fault;
}
  where
    begins : (k : FaultKind) → HasFirstFault within es e offset k → BeginsWithFault within es rest offset k
    begins Truncated f = absurd f.here
    begins Version f = (e, behind, first, f)
    begins Length f = (e, behind, first, f)
    begins SubelementLength f = (e, behind, first, f)
    begins Repeated f = (e, behind, first, f)

-- whether the reading ends is seen at the id and the length
pub ends_front : (within : Within) (e : Element) (xs : List ℕ) → EndsReading within (element_octets e ++ xs) → EndsReading within (element_octets e)
ends_front KeyData e xs h = h
ends_front Body e xs h = h

pub ends_longer : (within : Within) (e : Element) (xs : List ℕ) → EndsReading within (element_octets e) → EndsReading within (element_octets e ++ xs)
ends_longer KeyData e xs h = h
ends_longer Body e xs h = h

pub going_front : (within : Within) (rest : List ℕ) (e : Element) (behind : List ℕ) → rest ≡ element_octets e ++ behind → (EndsReading within rest → ⊥) → EndsReading within (element_octets e) → ⊥
going_front within rest e behind first going ends = going (subst (λ (w : List ℕ). EndsReading within w) (sym first) (ends_longer within e behind ends))
