-- Elements one after the other. Subelements have the same form (IEEE Std 802.11-2020, 9.4.2.1, 9.4.3, profile).
use Rattle.std.specs.Prelude.{◌≡◌, ⊤, ℕ, ◌<◌, Bool, List, [], ◌∷◌, length, filter, Option, None, Some}
use Rattle.std.specs.List.{flat_map}
use Rattle.rsn_elements.specs.declared.framing.Within.{Within}
use Rattle.rsn_elements.specs.declared.framing.Within.TheVariants.{Body, KeyData}

-- an element: its id, and its body (9.4.2.1)
pub record Element : Type 0 where
  pub id : ℕ
  pub body : List ℕ

-- the id, the length of the body, the body (9.4.2.1)
abbrev pub element_octets : Element → List ℕ
element_octets e = e.id ∷ length e.body ∷ e.body

-- one element after the other (9.4.2.1)
abbrev pub joined : List Element → List ℕ
joined es = flat_map element_octets es

-- an id without a length, or a body past the end (9.4.2.1)
abbrev pub IsTruncated : List ℕ → Type 0
IsTruncated [] = ⊥
IsTruncated (id ∷ []) = ⊤
IsTruncated (id ∷ size ∷ tail) = length tail < size

-- Where reading stops: at the end, and in key data also at dd that has length 0 or is the last octet,
-- with which padding begins (12.7.2).
abbrev pub EndsReading : Within → List ℕ → Type 0
EndsReading within [] = ⊤
EndsReading KeyData (id ∷ []) = id ≡ 0xdd
EndsReading KeyData (id ∷ size ∷ tail) = (id ≡ 0xdd) × (size ≡ 0)
EndsReading Body (id ∷ tail) = ⊥

-- What the elements of a kind say: nothing where there are none, else what the body of the only one spells (profile).
abbrev pub Says : {F : Type 0} → (Element → Bool) → (List ℕ → F → Type 0) → List Element → Option F → Type 0
Says kind Spells es None = filter kind es ≡ []
Says kind Spells es (Some f) = (e : Element) × (filter kind es ≡ e ∷ []) × Spells e.body f
