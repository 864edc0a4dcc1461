-- Elements of fast transition: mobility domain, fast BSS transition and timeout interval (IEEE Std 802.11-2020,
-- 9.4.2.46, 9.4.2.47, 9.4.2.48, profile).
use Rattle.std.specs.Prelude.{◌≡◌, ◌≢◌, ℕ, ◌≤◌, Bool, ◌==◌, List, [], ◌++◌, length, drop, filter, slice_index, Option}
use Rattle.std.specs.List.{AllByRecursion}
use Rattle.std.specs.Int.{w16, w32}
use Rattle.domain_base.specs.Places.{part, little_endian_at}
use Rattle.rsn_elements.specs.Framing.{Element, element_octets, joined, Says}

-- ---- MDE: MDID, capability and policy

-- what an MDE says (9.4.2.46)
pub record MdeFields : Type 0 where
  pub mdid : List ℕ
  pub capability : ℕ

-- three octets: MDID and capability (9.4.2.46)
abbrev pub SpellsMde : List ℕ → MdeFields → Type 0
SpellsMde body f = (length body ≡ 3) × (f ≡ record { mdid = part 0 2 body; capability = slice_index body 2 })

-- ---- timeout interval: type, value with the lowest octet first

-- five octets: type, and a value with its lowest octet first (9.4.2.48)
abbrev pub SpellsTimeout : List ℕ → ℕ → Type 0
SpellsTimeout body value = (length body ≡ 5) × (value ≡ little_endian_at w32 1 body)

-- ---- FTE: MIC control, MIC, ANonce, SNonce, subelements

-- a GTK under key wrap: key information, length of the key, RSC, wrapped key (9.4.2.47)
pub record WrappedGtkFields : Type 0 where
  pub information : ℕ
  pub key_length : ℕ
  pub rsc : List ℕ
  pub wrapped : List ℕ

-- an IGTK under key wrap: key id, IPN, length of the key, wrapped key (9.4.2.47)
pub record WrappedIgtkFields : Type 0 where
  pub id : ℕ
  pub ipn : List ℕ
  pub key_length : ℕ
  pub wrapped : List ℕ

-- what an FTE says; each subelement may be absent (9.4.2.47)
pub record FteFields : Type 0 where
  pub mic_control : List ℕ
  pub mic : List ℕ
  pub anonce : List ℕ
  pub snonce : List ℕ
  pub r1kh_id : Option (List ℕ)
  pub gtk : Option WrappedGtkFields
  pub r0kh_id : Option (List ℕ)
  pub igtk : Option WrappedIgtkFields

-- which subelements are of an id (9.4.2.47)
abbrev pub has_id : ℕ → Element → Bool
has_id id e = e.id == id

-- subelement 1, R1KH-ID: six octets (9.4.2.47)
abbrev pub SpellsR1khId : List ℕ → List ℕ → Type 0
SpellsR1khId body id = (length body ≡ 6) × (id ≡ body)

-- subelement 2, GTK: the lowest octet of the key information first (9.4.2.47)
abbrev pub SpellsWrappedGtk : List ℕ → WrappedGtkFields → Type 0
SpellsWrappedGtk body f = (11 ≤ length body) × (f ≡ record { information = little_endian_at w16 0 body; key_length = slice_index body 2; rsc = part 3 8 body; wrapped = drop 11 body })

-- subelement 3, R0KH-ID: 1 to 48 octets (9.4.2.47)
abbrev pub SpellsR0khId : List ℕ → List ℕ → Type 0
SpellsR0khId body id = (1 ≤ length body) × (length body ≤ 48) × (id ≡ body)

-- subelement 4, IGTK: the lowest octet of the key id first (9.4.2.47)
abbrev pub SpellsWrappedIgtk : List ℕ → WrappedIgtkFields → Type 0
SpellsWrappedIgtk body f = (9 ≤ length body) × (f ≡ record { id = little_endian_at w16 0 body; ipn = part 2 6 body; key_length = slice_index body 8; wrapped = drop 9 body })

-- what subelements say, each of these at most once; others are passed over (9.4.2.47)
pub record SubelementsSay (subelements : List Element) (r1kh_id : Option (List ℕ)) (gtk : Option WrappedGtkFields) (r0kh_id : Option (List ℕ)) (igtk : Option WrappedIgtkFields) : Type 0 where
  pub first : Says (has_id 1) SpellsR1khId subelements r1kh_id
  pub second : Says (has_id 2) SpellsWrappedGtk subelements gtk
  pub third : Says (has_id 3) SpellsR0khId subelements r0kh_id
  pub fourth : Says (has_id 4) SpellsWrappedIgtk subelements igtk

-- the body: its fields by their offsets, and from octet 82 on subelements in any order (9.4.2.47)
pub record SpellsFte (body : List ℕ) (f : FteFields) : Type 0 where
  pub subelements : List Element
  pub long : 82 ≤ length body
  pub mic_control : f.mic_control ≡ part 0 2 body
  pub mic : f.mic ≡ part 2 16 body
  pub anonce : f.anonce ≡ part 18 32 body
  pub snonce : f.snonce ≡ part 50 32 body
  pub rest : drop 82 body ≡ joined subelements
  pub say : SubelementsSay subelements f.r1kh_id f.gtk f.r0kh_id f.igtk

-- ---- faults of subelements

-- a subelement of a right length (profile)
pub record IsRight (s : Element) : Type 0 where
  pub first : s.id ≡ 1 → length s.body ≡ 6
  pub second : s.id ≡ 2 → 11 ≤ length s.body
  pub third : s.id ≡ 3 → (1 ≤ length s.body) × (length s.body ≤ 48)
  pub fourth : s.id ≡ 4 → 9 ≤ length s.body

-- At this place, after subelements of right lengths, no such one begins, though octets are left (profile).
pub record HasWrongSubelement (octets : List ℕ) (place : ℕ) : Type 0 where
  pub before : List Element
  pub rest : List ℕ
  pub cut : octets ≡ joined before ++ rest
  pub right : AllByRecursion IsRight before
  pub at : place ≡ length (joined before)
  pub some : rest ≢ []
  pub wrong : (s : Element) (behind : List ℕ) → rest ≡ element_octets s ++ behind → IsRight s → ⊥

-- At this place stands the second subelement of an id from 1 to 4; none before it is a second one (profile).
pub record HasRepeatedSubelement (octets : List ℕ) (place : ℕ) : Type 0 where
  pub before : List Element
  pub again : Element
  pub behind : List ℕ
  pub cut : octets ≡ joined before ++ (element_octets again ++ behind)
  pub at : place ≡ length (joined before)
  pub low : 1 ≤ again.id
  pub high : again.id ≤ 4
  pub second : filter (has_id again.id) before ≢ []
  pub once : (id : ℕ) → 1 ≤ id → id ≤ 4 → length (filter (has_id id) before) ≤ 1
