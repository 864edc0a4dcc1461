-- What calls do to the node in a handle, a station or an access point (profile).
use Rattle.std.specs.Prelude.{◌≡◌, ◌∷◌, ◌++◌, ℕ, Bool, true, List, [], Option, Some, None, MatchOption}
use Rattle.domain_base.specs.declared.names.Mac.{Mac}
use Rattle.domain_base.specs.declared.names.Node.{Node}
use Rattle.domain_base.specs.declared.names.Node.TheVariants.{Ap as ApOf, Sta as StaOf}
use Rattle.run_journal.specs.declared.acts.Act.{Act}
use Rattle.run_journal.specs.declared.domain.Domain.{Domain}
use Rattle.run_journal.specs.Listing.{with_ap, with_sta}
use Rattle.run_journal.specs.Questions.{add}
use Rattle.domain_rules.specs.Rows.{NodeEvent, Adds, outcome_of}
use Rattle.domain_rules.specs.Here.{here}
use Rattle.key_holders.specs.Listed.{below, rows_at}
use Rattle.held_rows.specs.Looks.{AreLooked}
use Rattle.node_base.specs.Changing.{after}
use Rattle.node_base.specs.Events.{IsEventAt}
use Rattle.station_node.specs.Stands.{Stands}
use Rattle.ap_node.specs.Looking.{AnsweredBy}
use Rattle.ap_node.specs.Stands.{StandsWith}
use Rattle.embedded_node.specs.declared.holders.PushedKey.{PushedKey}
use Rattle.embedded_node.specs.Pushed.{ids_in, left_by, PulledFrom}
use Rattle.embedded_node.specs.declared.untaken.Untaken.{Untaken}
use Rattle.embedded_node.specs.declared.untaken.Untaken.TheVariants.{Unfit}
use Rattle.embedded_node.specs.Events.{IsCauseOf}
use Rattle.embedded_node.specs.Free.{ap_fault, sta_fault, IsCause}
use Rattle.embedded_node.specs.Starts.{IsStartCause}
use Rattle.kehtrop_c.specs.declared.crossing.Config.{Config}
use Rattle.kehtrop_c.specs.declared.crossing.Item.{Item}
use Rattle.kehtrop_c.specs.declared.inner.Role.{Role}
use Rattle.kehtrop_c.specs.declared.inner.Role.TheVariants.{Station, Ap}
use Rattle.kehtrop_c.specs.declared.inner.Inner.{Inner}
use Rattle.kehtrop_c.specs.Crossing.{asked, status_of, status_untaken, IsNetworkOf}
use Rattle.kehtrop_c.specs.Counters.{counter_told}
use Rattle.kehtrop_c.specs.Items.{item_of, octets_of}
use Rattle.kehtrop_c.specs.declared.crossing.R1Key.{R1Key}
use Rattle.kehtrop_c.specs.Transfers.{IsGiven, unpushed, mac_of}

-- ---- a node

-- it stands for the history, and began to draw at number `first`
abbrev pub StandsFor : Role → ℕ → List Act → Type 0
StandsFor (Station s) first h = Stands s.domain first s.node h
StandsFor (Ap a) first h = StandsWith a.domain first a.node (rows_at a.holders.rows 0) h

-- what waits to be told
abbrev pub waits : Role → List Act
waits (Station s) = s.acts
waits (Ap a) = a.acts

-- the network as it knows it
abbrev pub network : Role → Domain
network (Station s) = s.domain
network (Ap a) = a.domain

-- which node of that network it is
abbrev pub node_of : Role → Node
node_of (Station s) = StaOf 0
node_of (Ap a) = ApOf 0

-- the PMK-R1s that others gave it: a station none
abbrev pub pushed_keys : Role → List PushedKey
pushed_keys (Station s) = []
pushed_keys (Ap a) = a.holders.pushed

-- where acts of the node ask a key holder, they are answered by the own rows, or by what others gave
abbrev pub LooksBy : Role → List Act → Type 0
LooksBy (Station s) acts = Unit {0}
LooksBy (Ap a) acts =
    AreLooked (AnsweredBy (PulledFrom a.holders) (ids_in a.holders) (below 1) (λ (r : ℕ). rows_at a.holders.rows r) a.domain 0) a.domain acts

-- nothing was done: it stands for the same histories, and the same waits to be told
pub record Stays (old new : Role) : Type 0 where
  pub same : network new ≡ network old
  pub wait : waits new ≡ waits old
  pub pushed : pushed_keys new ≡ pushed_keys old
  pub stands : (first : ℕ) (h : List Act) → StandsFor old first h → StandsFor new first h

-- ---- an event

-- The event adds these acts to the history by the definitions, and they wait to be told after those that waited. The
-- status is that of what came of it.
pub record Did (old new : Role) (event : NodeEvent) (status first : ℕ) (h : List Act) : Type 0 where
  pub acts : List Act
  pub adds : Adds (here (network old) first (node_of old)) h event acts
  pub wait : waits new ≡ waits old ++ acts
  pub says : status ≡ status_of (outcome_of acts)
  pub stands : StandsFor new first (add acts h)
  pub looks : LooksBy old acts

-- to each history that it stood for
abbrev pub DidEach : Role → Role → NodeEvent → ℕ → Type 0
DidEach old new event status = (first : ℕ) (h : List Act) → StandsFor old first h → Did old new event status first h

-- what became of an event
pub data Became (old new : Role) (event : NodeEvent) (status : ℕ) : Type 0 where
  -- it was done, and the network is that after it: with another key of stations where the event is one. What others gave of a station is
  -- forgotten where it is revoked or has another key
  Was_done : network new ≡ after (network old) event → pushed_keys new ≡ left_by (network old) event (pushed_keys old) → DidEach old new event status
      → Became old new event status
  -- nothing was done, for that cause, which the status says
  Was_not : (cause : Untaken) → status ≡ status_untaken cause → IsCauseOf (IsEventAt (network old) (node_of old) event) cause → Stays old new → Became old new event status

-- what became of an event that was asked for: numbers that ask for none are unfit
abbrev pub Answered : Role → Role → Option NodeEvent → ℕ → Type 0
Answered old new None status = (status ≡ 2) × Stays old new
Answered old new (Some event) status = Became old new event status

-- of the node in a handle, to which those numbers came; where there is none, the status says so
abbrev pub AnsweredIn : Option Inner → Option Inner → ℕ → List ℕ → ℕ → List ℕ → ℕ → Type 0
AnsweredIn None new what address tid octets status = (status ≡ 1) × (new ≡ None)
AnsweredIn (Some a) None what address tid octets status = ⊥
AnsweredIn (Some a) (Some b) what address tid octets status =
    Answered a.role b.role (asked (network a.role) (node_of a.role) what address tid octets) status

-- ---- a listing

-- why an access point cannot be listed
abbrev pub ap_unlisted : Role → Mac → List ℕ → Option Untaken
ap_unlisted r address r0kh_id = ap_fault (network r) address r0kh_id

-- why a station cannot be listed: a station lists none
abbrev pub sta_unlisted : Role → Mac → Option Untaken
sta_unlisted (Station s) address = Some Unfit
sta_unlisted (Ap a) address = sta_fault a.domain address

-- what became of a listing that makes that network
pub data Listed (old new : Role) (larger : Domain) (unlisted : Option Untaken) (status : ℕ) : Type 0 where
  -- the network is that one; nothing else is other
  Was_listed : status ≡ 0 → network new ≡ larger → waits new ≡ waits old → pushed_keys new ≡ pushed_keys old
      → ((first : ℕ) (h : List Act) → StandsFor old first h → StandsFor new first h) → Listed old new larger unlisted status
  -- nothing was done, for that cause, which the status says
  Was_not_listed : (cause : Untaken) → status ≡ status_untaken cause → IsCause unlisted cause → Stays old new → Listed old new larger unlisted status

-- of the node in a handle
abbrev pub ListedApIn : Option Inner → Option Inner → Mac → List ℕ → ℕ → Type 0
ListedApIn None new address r0kh_id status = (status ≡ 1) × (new ≡ None)
ListedApIn (Some a) None address r0kh_id status = ⊥
ListedApIn (Some a) (Some b) address r0kh_id status =
    Listed a.role b.role (with_ap (network a.role) address r0kh_id) (ap_unlisted a.role address r0kh_id) status

abbrev pub ListedStaIn : Option Inner → Option Inner → Mac → List ℕ → ℕ → Type 0
ListedStaIn None new address psk status = (status ≡ 1) × (new ≡ None)
ListedStaIn (Some a) None address psk status = ⊥
ListedStaIn (Some a) (Some b) address psk status =
    Listed a.role b.role (with_sta (network a.role) address psk) (sta_unlisted a.role address) status

-- ---- a PMK-R1 that another key holder gave

pub data Pushed (old new : Role) (id : List ℕ) (k : R1Key) (status : ℕ) : Type 0 where
  -- the access point has it; nothing else is other
  Was_pushed : status ≡ 0 → unpushed old id (mac_of k.station) ≡ None → network new ≡ network old → waits new ≡ waits old
      → ((first : ℕ) (h : List Act) → StandsFor old first h → StandsFor new first h) → IsGiven old new id k → Pushed old new id k status
  -- nothing was done, for that cause, which the status says
  Was_not_pushed : (cause : Untaken) → status ≡ status_untaken cause → IsCause (unpushed old id (mac_of k.station)) cause → Stays old new
      → Pushed old new id k status

-- of the node in a handle
abbrev pub PushedIn : Option Inner → Option Inner → List ℕ → R1Key → ℕ → Type 0
PushedIn None new id k status = (status ≡ 1) × (new ≡ None)
PushedIn (Some a) None id k status = ⊥
PushedIn (Some a) (Some b) id k status = Pushed a.role b.role id k status

-- ---- a start

-- a node that began: it stands for the history of what waits to be told
abbrev pub Begins : ℕ → Role → Type 0
Begins first r = StandsFor r first (add (waits r) [])

-- a station of that configuration and pre-shared key
pub record IsStation (c : Config) (psk : List ℕ) (first : ℕ) (r : Role) : Type 0 where
  pub begins : Begins first r
  pub is : node_of r ≡ StaOf 0
  pub configured : IsNetworkOf c (network r)
  pub no_aps : (network r).aps ≡ []
  pub alone : (network r).stas ≡ record { address = record { 0 = c.address }; psk = psk } ∷ []

-- an access point of that configuration and R0KH-ID
pub record IsAccessPoint (c : Config) (r0kh_id : List ℕ) (first : ℕ) (r : Role) : Type 0 where
  pub begins : Begins first r
  pub is : node_of r ≡ ApOf 0
  pub configured : IsNetworkOf c (network r)
  pub alone : (network r).aps ≡ record { address = record { 0 = c.address }; r0kh_id = r0kh_id } ∷ []
  pub no_stas : (network r).stas ≡ []
  pub none_pushed : pushed_keys r ≡ []

-- what the handle has is such
abbrev pub Holds : (Role → Type 0) → Option Inner → Type 0
Holds P None = ⊥
Holds P (Some a) = P a.role

-- what became of a start
pub data Started (P : Role → Type 0) (can : Bool) (old new : Option Inner) (status : ℕ) : Type 0 where
  -- the handle has a node that is such
  Was_started : status ≡ 0 → can ≡ true → Holds P new → Started P can old new status
  -- the handle is as before, since a node cannot start so, or memory ran out, which the status says
  Was_not_started : (cause : Untaken) → status ≡ status_untaken cause → IsStartCause can cause → new ≡ old → Started P can old new status

-- ---- what is told

-- the node stands for the same histories, and told the first act that waited, where one did
pub record Tells (old new : Role) (told : Option Act) : Type 0 where
  pub same : network new ≡ network old
  pub pushed : pushed_keys new ≡ pushed_keys old
  pub stands : (first : ℕ) (h : List Act) → StandsFor old first h → StandsFor new first h
  pub is_first : MatchOption told (waits old ≡ []) (λ act. waits old ≡ act ∷ waits new)

-- the receive counter of the key that the act installs, or lets go on: of a station, by its memory as the act is told; of an access
-- point's own keys 0
abbrev pub counter_of : Role → Act → ℕ
counter_of (Station s) act = counter_told s act
counter_of (Ap a) act = 0

-- with its item and OK, or NOTHING
abbrev pub Said : Role → Option Act → Item → Item → ℕ → Type 0
Said r None old new status = (status ≡ 7) × (new ≡ old)
Said r (Some act) old new status = (status ≡ 0) × (new ≡ item_of (network r) (counter_of r act) act)

-- what the node in a handle told
abbrev pub TellsIn : Option Inner → Option Inner → Item → Item → ℕ → Type 0
TellsIn None new item_old item_new status = (status ≡ 1) × ((new ≡ None) × (item_new ≡ item_old))
TellsIn (Some a) None item_old item_new status = ⊥
TellsIn (Some a) (Some b) item_old item_new status = Tells a.role b.role b.told × Said b.role b.told item_old item_new status

-- the octets of what was told last
abbrev pub octets_in : Option Inner → List ℕ
octets_in None = []
octets_in (Some a) = octets_of a.told
