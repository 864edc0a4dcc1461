-- The RSN element (IEEE Std 802.11-2020, 9.4.2.24).
use Rattle.std.specs.Prelude.{◌≡◌, ◌≢◌, ℕ, ◌+◌, ◌*◌, ◌≤◌, List, [], ◌∷◌, ◌++◌, length, take, drop, Option, None, Some}
use Rattle.std.specs.Int.{w16}
use Rattle.domain_base.specs.Places.{little_endian_at}

-- what an RSNE says; it may end after any field, and the fields after are then absent
pub record RsneFields : Type 0 where
  pub version : ℕ
  pub group : Option (List ℕ)
  pub pairwise : Option (List ℕ)
  pub akms : Option (List ℕ)
  pub capabilities : Option ℕ
  pub pmkids : Option (List ℕ)
  pub management : Option (List ℕ)

-- a suite: four octets (9.4.2.24.2)
abbrev pub IsSuite : List ℕ → List ℕ → Type 0
IsSuite octets suite = (length octets ≡ 4) × (suite ≡ octets)

-- a number of two octets, lowest first
abbrev pub IsNumber : List ℕ → ℕ → Type 0
IsNumber octets number = (length octets ≡ 2) × (number ≡ little_endian_at w16 0 octets)

-- a count of two octets, lowest first, and that many members of n octets, one after the other
abbrev pub IsList : ℕ → List ℕ → List ℕ → Type 0
IsList n octets members = (2 ≤ length octets) × (length octets ≡ 2 + n * little_endian_at w16 0 octets) × (members ≡ drop 2 octets)

-- A field at the front of the octets, and the rest after it: absent where no octet is left.
abbrev pub Field : {A : Type 0} → (List ℕ → A → Type 0) → List ℕ → Option A → List ℕ → Type 0
Field Spells octets None rest = (octets ≡ []) × (rest ≡ [])
Field Spells octets (Some a) rest = (front : List ℕ) × (octets ≡ front ++ rest) × Spells front a

-- The body: version 1, then the fields in order. What stands after the last of them is not looked at.
pub record SpellsRsne (body : List ℕ) (f : RsneFields) : Type 0 where
  pub behind_version : List ℕ
  pub behind_group : List ℕ
  pub behind_pairwise : List ℕ
  pub behind_akms : List ℕ
  pub behind_capabilities : List ℕ
  pub behind_pmkids : List ℕ
  pub behind_management : List ℕ
  pub one : f.version ≡ 1
  pub version : body ≡ 1 ∷ 0 ∷ behind_version
  pub group : Field IsSuite behind_version f.group behind_group
  pub pairwise : Field (IsList 4) behind_group f.pairwise behind_pairwise
  pub akms : Field (IsList 4) behind_pairwise f.akms behind_akms
  pub capabilities : Field IsNumber behind_akms f.capabilities behind_capabilities
  pub pmkids : Field (IsList 16) behind_capabilities f.pmkids behind_pmkids
  pub management : Field IsSuite behind_pmkids f.management behind_management

-- a version is there, and is not 1
abbrev pub HasOtherVersion : List ℕ → Type 0
HasOtherVersion body = (2 ≤ length body) × (take 2 body ≢ 1 ∷ 0 ∷ [])
