-- What the private readers of an RSNE answer.
-- For the code alone: no public contract speaks of it.
use Rattle.std.specs.Prelude.{ℕ, List, ◌∷◌, Option, option_map, Result, Ok, Err}
use Rattle.rsn_elements.specs.declared.security.Rsne.{Rsne}
use Rattle.rsn_elements.specs.declared.security.Leading.{Leading}
use Rattle.rsn_elements.specs.declared.faults.FaultKind.{FaultKind}
use Rattle.rsn_elements.specs.declared.faults.FaultKind.TheVariants.{Truncated, Length, Version, Repeated, SubelementLength}
use Rattle.rsn_elements.specs.Rsne.{RsneFields, SpellsRsne, HasOtherVersion, Field, IsSuite, IsList}
use Rattle.rsn_elements.specs.Fields.{rsne_fields}

-- no field stands at the front
abbrev pub IsBroken : {A : Type 0} → (List ℕ → A → Type 0) → List ℕ → Type 0
IsBroken {A} Spells octets = (o : Option A) (rest : List ℕ) → Field Spells octets o rest → ⊥

-- the suites of group traffic, of pairwise traffic and of key management at the front, and the rest after them
pub record LeadsBy (octets : List ℕ) (g p a : Option (List ℕ)) (rest : List ℕ) : Type 0 where
  pub behind_group : List ℕ
  pub behind_pairwise : List ℕ
  pub group : Field IsSuite octets g behind_group
  pub pairwise : Field (IsList 4) behind_group p behind_pairwise
  pub akms : Field (IsList 4) behind_pairwise a rest

abbrev pub Leads : List ℕ → Leading → List ℕ → Type 0
Leads octets l rest = LeadsBy octets l.group (option_map (λ s. s.0.now) l.pairwise) (option_map (λ s. s.0.now) l.akms) rest

-- they do not stand at the front
abbrev pub HasNoLeading : List ℕ → Type 0
HasNoLeading octets = (g p a : Option (List ℕ)) (rest : List ℕ) → LeadsBy octets g p a rest → ⊥

-- after the version no whole number of fields stands
abbrev pub HasNoFields : List ℕ → Type 0
HasNoFields octets = (f : RsneFields) → SpellsRsne (1 ∷ 0 ∷ octets) f → ⊥

-- the RSNE that a body spells, or the fault of a body that spells none
abbrev pub IsRsneRead : List ℕ → Result Rsne FaultKind → Type 0
IsRsneRead body (Ok r) = SpellsRsne body (rsne_fields r)
IsRsneRead body (Err Version) = HasOtherVersion body
IsRsneRead body (Err Length) = (HasOtherVersion body → ⊥) × ((f : RsneFields) → SpellsRsne body f → ⊥)
IsRsneRead body (Err Truncated) = ⊥
IsRsneRead body (Err Repeated) = ⊥
IsRsneRead body (Err SubelementLength) = ⊥
