-- The two datagrams between the process that has key holders and the one that asks them. The protocol by which one
-- process asks the key holders of another is this project's own (`docs/PROFILE.md`). The crate of its steps,
-- `link_steps`, has no definitions but its types and which end is which (profile).
use Rattle.std.specs.Prelude.{◌≡◌, ◌≤◌, ℕ, List, [], ◌∷◌, ◌++◌, length, ⊤}
use Rattle.link_steps.specs.declared.questions.Question.{Question}
use Rattle.holder_link.specs.declared.fields.Said.{Said}
use Rattle.holder_link.specs.declared.fields.Said.TheVariants.{Found, NoHolder, Absent}

-- an R0KH-ID of 1 to 48 octets, PMKR0Name, the R1 key holder and the station
pub record IsQuestion (q : Question) : Type 0 where
  pub least : 1 ≤ length q.r0kh_id
  pub most : length q.r0kh_id ≤ 48
  pub name : length q.name ≡ 16
  pub r1kh : length q.r1kh.0 ≡ 6
  pub sta : length q.sta.0 ≡ 6

-- an Ask before its CMAC: 01, the nonce, the length of the R0KH-ID in one octet, the R0KH-ID, PMKR0Name, the
-- R1KH-ID and the station
abbrev pub ask_front : List ℕ → Question → List ℕ
ask_front nonce q = 1 ∷ nonce ++ (length q.r0kh_id ∷ q.r0kh_id) ++ q.name ++ q.r1kh.0 ++ q.sta.0

-- what is said: 00 and the wrapped PMK-R1, 01 where no access point has the R0KH-ID, 02 where there is no row
abbrev pub said_octets : Said → List ℕ
said_octets (Found wrapped) = 0 ∷ wrapped
said_octets NoHolder = 1 ∷ []
said_octets Absent = 2 ∷ []

-- a PMK-R1 of 32 octets is wrapped to 40
abbrev pub IsSaid : Said → Type 0
IsSaid (Found wrapped) = length wrapped ≡ 40
IsSaid NoHolder = ⊤
IsSaid Absent = ⊤

-- an Answer before its CMAC: 02, the nonce and what is said
abbrev pub answer_front : List ℕ → Said → List ℕ
answer_front nonce said = 2 ∷ nonce ++ said_octets said

-- the octets are an Ask of that nonce and question, and end in those 16 octets for its CMAC
pub record SpellsAsk (octets nonce : List ℕ) (q : Question) (code : List ℕ) : Type 0 where
  pub whole : octets ≡ ask_front nonce q ++ code
  pub nonce_len : length nonce ≡ 16
  pub question : IsQuestion q
  pub code_len : length code ≡ 16

-- the octets are an Answer of that nonce that says so, and end in those 16 octets for its CMAC
pub record SpellsAnswer (octets nonce : List ℕ) (said : Said) (code : List ℕ) : Type 0 where
  pub whole : octets ≡ answer_front nonce said ++ code
  pub nonce_len : length nonce ≡ 16
  pub is_said : IsSaid said
  pub code_len : length code ≡ 16

-- the octets are some Ask
abbrev pub IsAsk : List ℕ → Type 0
IsAsk octets = (nonce : List ℕ) × (q : Question) × (code : List ℕ) × SpellsAsk octets nonce q code

-- the octets are some Answer
abbrev pub IsAnswer : List ℕ → Type 0
IsAnswer octets = (nonce : List ℕ) × (said : Said) × (code : List ℕ) × SpellsAnswer octets nonce said code
