-- What is kept while elements are read.
-- For the code alone: no public contract speaks of it.
use Rattle.std.specs.Prelude.{◌≡◌, ◌≢◌, ℕ, ◌<◌, true, false, List, length, [], ◌∷◌, ◌++◌, filter, slice_index_or}
use Rattle.rsn_elements.specs.declared.framing.Within.{Within}
use Rattle.rsn_elements.specs.declared.reading.Gathered.{Gathered}
use Rattle.rsn_elements.specs.declared.faults.ElementFault.{ElementFault}
use Rattle.rsn_elements.specs.Framing.{Element, element_octets, EndsReading}
use Rattle.rsn_elements.specs.Faults.{HasFirstFault}
use Rattle.rsn_elements.specs.Elements.{ATimeout, is, Tells}
use Rattle.rsn_elements.specs.Fields.{element_fields}

-- what the elements say is kept, and which types of timeout intervals stand among them
pub record Gathers (within : Within) (es : List Element) (g : Gathered) : Type 0 where
  pub tells : Tells within es (element_fields g.elements)
  pub all : length g.types ≡ 256
  pub seen : (kind : ℕ) → slice_index_or g.types kind false ≡ true → filter (is within (ATimeout kind)) es ≢ []
  pub unseen : (kind : ℕ) → kind < 256 → slice_index_or g.types kind false ≡ false → filter (is within (ATimeout kind)) es ≡ []

-- an element that does not end the reading is taken, after whatever came before
abbrev pub TakesIn : Within → Element → Gathered → Gathered → Type 0
TakesIn within e old new = (es : List Element) → (EndsReading within (element_octets e) → ⊥) → Gathers within es old → Gathers within (es ++ e ∷ []) new

-- or refused for its first fault
abbrev pub RefusesIn : Within → Element → Gathered → ElementFault → Type 0
RefusesIn within e old fault = (es : List Element) → Gathers within es old → HasFirstFault within es e fault.place fault.kind

-- the same wherever it stands
abbrev pub Takes : Element → Gathered → Gathered → Type 0
Takes e old new = (within : Within) → TakesIn within e old new

abbrev pub Refuses : Element → Gathered → ElementFault → Type 0
Refuses e old fault = (within : Within) → RefusesIn within e old fault
