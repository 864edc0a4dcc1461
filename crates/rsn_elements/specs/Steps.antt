-- What the private step from one element to the next answers.
-- For the code alone: no public contract speaks of it.
use Rattle.std.specs.Prelude.{◌≡◌, ℕ, List, ◌++◌}
use Rattle.rsn_elements.specs.declared.framing.Within.{Within}
use Rattle.rsn_elements.specs.declared.framing.Next.{Next}
use Rattle.rsn_elements.specs.declared.framing.Next.TheVariants.{End, Truncated, Whole}
use Rattle.rsn_elements.specs.Framing.{element_octets, EndsReading, IsTruncated}
use Rattle.rsn_elements.specs.Fields.{element_of}

-- what stands at the front of the octets
abbrev pub IsNext : Within → List ℕ → Next → Type 0
IsNext within octets End = EndsReading within octets
IsNext within octets Truncated = (EndsReading within octets → ⊥) × IsTruncated octets
IsNext within octets (Whole e rest) = (EndsReading within octets → ⊥) × (octets ≡ element_octets (element_of e) ++ rest.now) × (e.whole.now ≡ element_octets (element_of e))
