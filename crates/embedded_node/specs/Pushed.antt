-- The key holders as an embedded access point has them: its own, and of the others what they gave it beforehand. How key holders talk to one
-- another the standard leaves open (IEEE Std 802.11-2020, 13.2, 12.7.1.6, profile).
use Rattle.std.proofs.Common.{refl, ◌∙◌}
use Rattle.std.specs.Prelude.{◌≡◌, ℕ, zero, suc, ◌==◌, ◌&&◌, not, Bool, true, false, if◌then◌else◌, List, [], ◌∷◌, ◌++◌, set, Option, Some, None, position, slice_get, bytes_eq}
use Rattle.domain_base.specs.declared.names.Mac.{Mac}
use Rattle.domain_base.specs.declared.names.Node.TheVariants.{Sta}
use Rattle.key_hierarchy.specs.declared.answers.PullAnswer.{PullAnswer}
use Rattle.key_hierarchy.specs.declared.answers.PullAnswer.TheVariants.{Found, NoHolder, Absent}
use Rattle.key_hierarchy.specs.FastTransition.{pmk_r1_name}
use Rattle.key_holders.specs.declared.rows.HeldRow.{HeldRow}
use Rattle.key_holders.specs.Listed.{Listed, rows_at}
use Rattle.key_holders.specs.Pulls.{MayPull, ByHolder}
use Rattle.run_journal.specs.declared.domain.Domain.{Domain}
use Rattle.domain_rules.specs.Network.{mac}
use Rattle.domain_rules.specs.Rows.{NodeEvent, Revoke, Secret}
use Rattle.embedded_node.specs.declared.holders.PushedKey.{PushedKey}
use Rattle.embedded_node.specs.declared.untaken.Untaken.{Untaken}
use Rattle.embedded_node.specs.declared.untaken.Untaken.TheVariants.{Unfit}

-- the R0KH-ID of the own key holder, those of the others, the rows of the own one, and the PMK-R1s that others gave
pub record Holding : Type 0 where
  pub own : List (List ℕ)
  pub others : List (List ℕ)
  pub rows : List (List HeldRow)
  pub pushed : List PushedKey

-- the R0KH-IDs of all, the own one first
abbrev pub ids_in : Holding → List (List ℕ)
ids_in h = h.own ++ h.others

-- the own one alone, which holds nothing
abbrev pub alone : List ℕ → Holding
alone id = record { own = id ∷ []; others = []; rows = [] ∷ []; pushed = [] }

-- with one more of the others
abbrev pub with_other : List ℕ → Holding → Holding
with_other id h = record { own = h.own; others = h.others ++ id ∷ []; rows = h.rows; pushed = h.pushed }

-- with other keys that were given
abbrev pub with_keys : List PushedKey → Holding → Holding
with_keys xs h = record { own = h.own; others = h.others; rows = h.rows; pushed = xs }

-- as a list of key holders, of which the own one alone has rows
abbrev pub listed_in : Holding → Listed
listed_in h = record { ids = ids_in h; rows = h.rows }

-- ---- what is answered

-- the key is of the k-th of the others, of that PMKR0Name and station, and may be answered
abbrev pub is_asked : ℕ → List ℕ → Mac → PushedKey → Bool
is_asked k name sta x = ((x.live && x.holder == k) && bytes_eq x.name name) && bytes_eq x.sta.0 sta.0

-- for one of the others: a key that it gave, as it gave it, under the PMKR1Name that the PMKR0Name makes (12.7.1.6.4); or none, where it
-- gave none that may be answered
abbrev pub MayGive : List PushedKey → ℕ → List ℕ → Mac → Mac → PullAnswer → Type 0
MayGive xs k name r1kh sta (Found r1) =
    (j : ℕ) × (x : PushedKey) × (slice_get xs j ≡ Some x) × (is_asked k name sta x ≡ true) × (r1 ≡ record { key = x.key; name = pmk_r1_name name r1kh sta })
MayGive xs k name r1kh sta Absent = (j : ℕ) (x : PushedKey) → slice_get xs j ≡ Some x → is_asked k name sta x ≡ false
MayGive xs k name r1kh sta NoHolder = ⊥

-- for the own one by its rows
abbrev pub GivenBy : Holding → List ℕ → Mac → Mac → ℕ → PullAnswer → Type 0
GivenBy h name r1kh sta zero answer = MayPull (rows_at h.rows 0) name r1kh sta answer
GivenBy h name r1kh sta (suc k) answer = MayGive h.pushed k name r1kh sta answer

-- for the one that has the R0KH-ID, where there is one
abbrev pub PulledFrom : Holding → List ℕ → List ℕ → Mac → Mac → PullAnswer → Type 0
PulledFrom h id name r1kh sta answer = ByHolder (ids_in h) id (GivenBy h name r1kh sta) answer

-- ---- what is given

-- the key is of that holder among the others and that station
abbrev pub is_from : ℕ → Mac → PushedKey → Bool
is_from k sta x = x.holder == k && bytes_eq x.sta.0 sta.0

abbrev pub placed : Option ℕ → PushedKey → List PushedKey → List PushedKey
placed None x xs = xs ++ x ∷ []
placed (Some j) x xs = set xs j x

-- with one more key, in the place of the one that the same holder gave for the same station before, where there is one
abbrev pub with_key : PushedKey → List PushedKey → List PushedKey
with_key x xs = placed (position (is_from x.holder x.sta) xs) x xs

abbrev pub given_by : Option ℕ → List ℕ → Mac → List ℕ → List PushedKey → List PushedKey
given_by None name sta key xs = xs
given_by (Some k) name sta key xs = with_key (record { holder = k; name = name; sta = sta; key = key; live = true }) xs

-- which of the others has the R0KH-ID
abbrev pub other_of : Holding → List ℕ → Option ℕ
other_of h id = position (λ (i : List ℕ). bytes_eq i id) h.others

-- with the key that the holder of that R0KH-ID gave, of a PMKR0Name and a station
abbrev pub given : List ℕ → List ℕ → Mac → List ℕ → Holding → Holding
given id name sta key h = with_keys (given_by (other_of h id) name sta key h.pushed) h

-- why it cannot be given, if it cannot: none of the others has that R0KH-ID, or the station is not listed
abbrev pub push_fault : Option ℕ → Bool → Option Untaken
push_fault None listed = Some Unfit
push_fault (Some k) listed = if listed then None else Some Unfit

-- what others gave is the same
abbrev pub HasKeysOf : Holding → Holding → Type 0
HasKeysOf g h = h.pushed ≡ g.pushed

pub keys_here : (h : Holding) → HasKeysOf h h
keys_here h = refl

pub keys_then : (g h k : Holding) → HasKeysOf g h → HasKeysOf h k → HasKeysOf g k
keys_then g h k one two = two ∙ one

-- ---- what is forgotten

-- the key is of that station, where one is named
abbrev pub is_of : Option Mac → PushedKey → Bool
is_of None x = true
is_of (Some sta) x = bytes_eq x.sta.0 sta.0

-- it may be answered no longer
abbrev pub forgotten_key : Option Mac → PushedKey → PushedKey
forgotten_key sta x = record { holder = x.holder; name = x.name; sta = x.sta; key = x.key; live = x.live && not (is_of sta x) }

abbrev pub forgotten : Option Mac → List PushedKey → List PushedKey
forgotten sta [] = []
forgotten sta (x ∷ xs) = forgotten_key sta x ∷ forgotten sta xs

-- of which stations an event forgets what was given: of the one whose key is revoked, and of those that have another pre-shared key
abbrev pub left_by : Domain → NodeEvent → List PushedKey → List PushedKey
left_by d (Revoke k) xs = forgotten (Some (mac d (Sta k))) xs
left_by d (Secret (Some k) psk) xs = forgotten (Some (mac d (Sta k))) xs
left_by d (Secret None psk) xs = forgotten None xs
left_by d _ xs = xs
