-- Which journals are a world's own. Journals and histories are NEWEST FIRST (profile).
use Rattle.std.specs.Prelude.{◌≡◌, ℕ, ◌≤◌, true, false, cond, List, [], ◌∷◌, ◌++◌, length, slice_get, Some}
use Rattle.std.specs.List.{AllByRecursion}
use Rattle.domain_base.specs.declared.names.Node.TheVariants.{Ap, Sta}
use Rattle.run_journal.specs.declared.domain.Domain.{Domain}
use Rattle.run_journal.specs.declared.domain.Event.{Event}
use Rattle.run_journal.specs.declared.acts.Entry.{Entry}
use Rattle.run_journal.specs.Acts.{is_sent}
use Rattle.run_journal.specs.Questions.{history}
use Rattle.run_journal.specs.Secrets.{is_secret, changes_keys}
use Rattle.key_holders.specs.declared.rows.HeldRow.{HeldRow}
use Rattle.key_holders.specs.Listed.{rows_at}
use Rattle.domain_rules.specs.Network.{InForm, is_ap}
use Rattle.run_journal.specs.Events.{IsListed, IsEventOf}
use Rattle.domain_rules.specs.InOctets.{InOctets}
use Rattle.domain_world.specs.Ordering.{node_of}
use Rattle.domain_rules.specs.Explained.{frames, number_of, WasSent}
use Rattle.station_node.specs.State.{State as StationState}
use Rattle.station_node.specs.Stands.{Stands as StationStands}
use Rattle.ap_node.specs.State.{State as ApState}
use Rattle.ap_node.specs.Stands.{StandsWith as ApStands}
use Rattle.held_rows.specs.Looks.{IsNoLook}
use Rattle.domain_rules.specs.HeldRight.{AnsweredInTime}
use Rattle.domain_rules.specs.Present.{present}
use Rattle.domain_world.specs.State.{State, Nodes}

-- the frame of that number was sent, and has so many octets at least
pub record HasOctets (j : List Entry) (number size : ℕ) : Type 0 where
  pub round : ℕ
  pub octets : List ℕ
  pub sent : WasSent j round number octets
  pub long : size ≤ length octets

-- of so many frames that were sent one has that number, and so many octets at least
abbrev pub IsFrameIn : ℕ → List Entry → ℕ → ℕ → Type 0
IsFrameIn sent j number size = (1 ≤ number) × (number ≤ sent) × HasOctets j number size

-- the event names listed nodes of the right kinds, and a frame that was sent
abbrev pub IsEventIn : Domain → ℕ → List Entry → Event → Type 0
IsEventIn d sent j event = IsEventOf d (IsFrameIn sent j) event

-- and it is at one node, since it changes no key
abbrev pub IsOneIn : Domain → ℕ → List Entry → Event → Type 0
IsOneIn d sent j event = IsEventIn d sent j event × (changes_keys event ≡ false)

-- frames are numbered from 1 in the order of sending, and every other act has number 0
unfoldable pub IsNumbered : List Entry → Type 0
IsNumbered [] = Unit {0}
IsNumbered (e ∷ past) = (e.number ≡ number_of e.act past) × IsNumbered past

-- where the frames stand that were sent, counted from 0 in the order of pushing, the first frame first
unfoldable pub places : List Entry → List ℕ
places [] = []
places (e ∷ past) = cond (is_sent e.act) (places past ++ length past ∷ []) (places past)

-- every entry has a round up to that one, and is of a listed node
pub record IsPast (d : Domain) (rounds : ℕ) (e : Entry) : Type 0 where
  pub round : e.round ≤ rounds
  pub listed : IsListed d e.node

-- there are as many nodes as are listed, each with its number
pub record AreListed (n : Nodes) : Type 0 where
  pub count_aps : length n.aps ≡ length n.domain.aps
  pub count_stas : length n.stas ≡ length n.domain.stas
  pub aps : (k : ℕ) (s : ApState) → slice_get n.aps k ≡ Some s → s.number ≡ k
  pub stas : (k : ℕ) (s : StationState) → slice_get n.stas k ≡ Some s → s.number ≡ k

-- each stands for its part of the journal, an access point with the rows of its key holder
pub record Stand (n : Nodes) (j : List Entry) : Type 0 where
  pub aps : (k : ℕ) (s : ApState) → slice_get n.aps k ≡ Some s → ApStands n.domain 0 s (rows_at n.rows k) (history (Ap k) j)
  pub stas : (k : ℕ) (s : StationState) → slice_get n.stas k ≡ Some s → StationStands n.domain 0 s (history (Sta k) j)

-- the nodes of a world
abbrev pub nodes_of : State → Nodes
nodes_of w = record { domain = w.domain; aps = w.aps; stas = w.stas; rows = w.rows }

-- the places of the world's frames are those of the journal, of so many rounds at most
pub record Places (w : State) (j : List Entry) : Type 0 where
  pub count : length w.frames ≡ frames j
  pub numbered : IsNumbered j
  pub places : w.frames ≡ places j
  pub past : AllByRecursion (IsPast w.domain w.rounds) j

-- no key holder has rows
abbrev pub HoldNone : List (List HeldRow) → Type 0
HoldNone rows = AllByRecursion (λ (xs : List HeldRow). xs ≡ []) rows

-- no key holder was asked
abbrev pub AskNone : List Entry → Type 0
AskNone j = AllByRecursion (λ (e : Entry). IsNoLook e.act) j

-- no key was changed
abbrev pub ChangesNone : List Entry → Type 0
ChangesNone j = AllByRecursion (λ (e : Entry). is_secret e.act ≡ false) j

-- The network of the world is that of a header as it is after the journal: its keys are those to which they were changed last. Key
-- holders answered rightly by the keys of that header and what was changed since.
pub record IsSince (c : Domain) (w : State) (j : List Entry) : Type 0 where
  pub is_present : present c j ≡ w.domain
  pub right : AnsweredInTime c j

-- The world stands for the journal: each node for its part of it, in the network as it is now, which is that of some header since.
-- Before the first round key holders have no rows, none was asked, and no key was changed.
pub record Owns (w : State) (j : List Entry) : Type 0 where
  pub usable : w.usable ≡ true
  pub form : InForm w.domain
  pub octets : InOctets w.domain
  pub listed : AreListed (nodes_of w)
  pub stand : Stand (nodes_of w) j
  pub placed : Places w j
  pub unchanged : w.rounds ≡ 0 → ChangesNone j
  pub quiet : w.rounds ≡ 0 → HoldNone w.rows
  pub asked : w.rounds ≡ 0 → AskNone j
  pub header : (c : Domain) × IsSince c w j

-- of a round: each event may happen before it, at an access point
abbrev pub AreEventsIn : Domain → ℕ → List Entry → List Event → Type 0
AreEventsIn d sent j events = AllByRecursion (λ (event : Event). IsOneIn d sent j event × (is_ap (node_of event) ≡ true)) events
