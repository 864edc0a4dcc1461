-- Which journals a script's rounds explain. Journals, histories and rounds are NEWEST FIRST. A history has neither
-- numbers of frames nor of rounds: only `push` stamps them (profile).
use Rattle.std.specs.Prelude.{◌≡◌, ℕ, zero, suc, ◌<◌, cond, List, [], ◌∷◌, ◌++◌, length, take, drop, slice_index, bit_xor, Option}
use Rattle.domain_base.specs.declared.names.Node.{Node}
use Rattle.domain_base.specs.declared.names.Node.TheVariants.{Ap, Sta}
use Rattle.run_journal.specs.declared.domain.Domain.{Domain}
use Rattle.run_journal.specs.declared.domain.Event.{Event}
use Rattle.run_journal.specs.declared.domain.Event.TheVariants.{Connect, Roam, Deliver, Alter, Cut, Inject, Retry, Rekey, Send, Expire, Revoke, Leave, Secret, Renew, Announce}
use Rattle.run_journal.specs.declared.acts.Act.{Act}
use Rattle.run_journal.specs.declared.acts.Act.TheVariants.{Sent}
use Rattle.domain_base.specs.declared.names.Peer.{Peer}
use Rattle.run_journal.specs.declared.acts.Kind.{Kind}
use Rattle.run_journal.specs.declared.acts.Seal.{Seal}
use Rattle.run_journal.specs.declared.acts.Entry.{Entry}
use Rattle.run_journal.specs.Acts.{is_sent}
use Rattle.run_journal.specs.Questions.{history}
use Rattle.run_journal.specs.Premises.{In}
use Rattle.domain_rules.specs.Rows.{NodeEvent, Take, Begin, Adds}
use Rattle.domain_rules.specs.AccessPointRows.{start_acts}
use Rattle.domain_rules.specs.Rows as again
use Rattle.domain_rules.specs.Rounds.{Place, in_order, secret_places}
use Rattle.domain_rules.specs.Present.{present}
use Rattle.domain_rules.specs.Here.{here}

-- how many frames were sent
abbrev pub frames : List Entry → ℕ
frames [] = 0
frames (e ∷ past) = cond (is_sent e.act) (suc (frames past)) (frames past)

-- the number of an act: the next frame's number for a frame sent, else 0
abbrev pub number_of : Act → List Entry → ℕ
number_of act past = cond (is_sent act) (suc (frames past)) 0

-- acts of one node in one round, put on the journal in order
abbrev pub push : ℕ → Node → List Act → List Entry → List Entry
push round n [] past = past
push round n (act ∷ g) past = push round n g (record { round = round; node = n; number = number_of act past; act = act } ∷ past)

-- the frame of that number was sent before that round, with these octets
pub record WasSent (past : List Entry) (round number : ℕ) (octets : List ℕ) : Type 0 where
  pub entry : Entry
  pub there : In entry past
  pub earlier : entry.round < round
  pub is : entry.number ≡ number
  pub act : (p : Peer) × ((k : Kind) × ((s : Option Seal) × (entry.act ≡ Sent p k octets s)))

-- the octets with the one at that place changed by exclusive or
abbrev pub altered : ℕ → ℕ → List ℕ → List ℕ
altered place mask octets = take place octets ++ bit_xor (slice_index octets place) mask ∷ drop (suc place) octets

-- what an event is at one node, in that round after that journal: a changed key is at several
abbrev pub HappensAt : Event → List Entry → ℕ → Node → NodeEvent → Type 0
HappensAt (Connect s a) past round n event = (n ≡ Sta s) × (event ≡ Begin a)
HappensAt (Roam s a) past round n event = (n ≡ Sta s) × (event ≡ again.Roam a)
HappensAt (Deliver number to) past round n event = (octets : List ℕ) × (WasSent past round number octets × ((n ≡ to) × (event ≡ Take octets)))
HappensAt (Alter number place mask to) past round n event = (octets : List ℕ) × (WasSent past round number octets × ((n ≡ to) × (event ≡ Take (altered place mask octets))))
HappensAt (Cut number size to) past round n event = (octets : List ℕ) × (WasSent past round number octets × ((n ≡ to) × (event ≡ Take (take size octets))))
HappensAt (Inject to octets) past round n event = (n ≡ to) × (event ≡ Take octets)
HappensAt (Retry a s) past round n event = (n ≡ Ap a) × (event ≡ again.Retry s)
HappensAt (Rekey a) past round n event = (n ≡ Ap a) × (event ≡ again.Rekey)
HappensAt (Send from to tid octets) past round n event = (n ≡ from) × (event ≡ again.Send to tid octets)
HappensAt (Expire a s) past round n event = (n ≡ Ap a) × (event ≡ again.Expire s)
HappensAt (Revoke a s) past round n event = (n ≡ Ap a) × (event ≡ again.Revoke s)
HappensAt (Leave s) past round n event = (n ≡ Sta s) × (event ≡ again.Leave)
HappensAt (Renew a s) past round n event = (n ≡ Ap a) × (event ≡ again.Renew s)
HappensAt (Announce a octets) past round n event = (n ≡ Ap a) × (event ≡ again.Announce octets)
HappensAt (Secret named psk) past round n event = ⊥

-- what an event is, at which nodes of the network, in order: at one, but for a changed key
pub data Happens (d : Domain) (event : Event) (past : List Entry) (round : ℕ) (places : List Place) : Type 0 where
  At_one : (p : Place) → HappensAt event past round p.node p.event → places ≡ p ∷ [] → Happens d event past round places
  At_many : (named : Option ℕ) (psk : List ℕ) → event ≡ Secret named psk → places ≡ secret_places d named psk → Happens d event past round places

-- and what the events of a round are, in the order of the list, all of them after the journal as it was before the round
abbrev pub AllHappen : Domain → List Event → List Entry → ℕ → List Place → Type 0
AllHappen d [] past round places = places ≡ []
AllHappen d (event ∷ events) past round places =
    (here : List Place) × ((others : List Place) × (Happens d event past round here × (AllHappen d events past round others × (places ≡ here ++ others))))

-- each node adds the acts of its part of the event to its own history, one node after the other
abbrev pub AddsAll : Domain → ℕ → List Place → List Entry → List Entry → Type 0
AddsAll d round [] old new = new ≡ old
AddsAll d round (p ∷ places) old new =
    (acts : List Act) × (Adds (here d 0 p.node) (history p.node old) p.event acts × AddsAll d round places (push round p.node acts old) new)

-- The events of that round take the old journal to the new one: by the nodes at which they are, access points before stations, each
-- node's in the order of the list. The network is as it was before the round for all of them.
pub record Follows (d : Domain) (round : ℕ) (events : List Event) (old new : List Entry) : Type 0 where
  pub places : List Place
  pub happen : AllHappen d events old round places
  pub adds : AddsAll (present d old) round (in_order places) old new

-- one event alone takes the journal to the next
abbrev pub Step : Domain → ℕ → Event → List Entry → List Entry → Type 0
Step d round event old new = Follows d round (event ∷ []) old new

-- round 0: the first so many access points start, in order
unfoldable pub started : Domain → ℕ → List Entry
started d zero = []
started d (suc k) = push 0 (Ap k) (start_acts d 0 (Ap k)) (started d k)

-- The journal of these rounds, the last first. What each node does is told by its own history, but for the answers of key holders.
unfoldable pub Explained : Domain → List (List Event) → List Entry → Type 0
Explained d [] j = j ≡ started d (length d.aps)
Explained d (round ∷ rounds) j = (old : List Entry) × (Explained d rounds old × Follows d (suc (length rounds)) round old j)
