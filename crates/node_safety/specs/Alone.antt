-- One node alone, whatever its peers are: its history, what the safety of it presupposes, and what it is. A history is a
-- list of acts, NEWEST FIRST (profile).
use Rattle.std.specs.Prelude.{ℕ, ◌≡◌, ◌≢◌, ◌⊎◌, List, [], ◌∷◌, ◌++◌, Some, None}
use Rattle.std.specs.List.{AllByRecursion}
use Rattle.domain_base.specs.declared.names.Akm.TheVariants.{FtPsk}
use Rattle.domain_base.specs.declared.names.Mac.{Mac}
use Rattle.domain_base.specs.declared.names.Node.{Node}
use Rattle.domain_base.specs.declared.names.Node.TheVariants.{Ap, Sta}
use Rattle.domain_base.specs.declared.names.Peer.TheVariants.{One, All}
use Rattle.key_hierarchy.specs.declared.answers.PullAnswer.TheVariants.{Found}
use Rattle.key_hierarchy.specs.declared.inputs.Inputs.{Inputs}
use Rattle.key_hierarchy.specs.declared.inputs.Ptk.{Ptk}
use Rattle.key_hierarchy.specs.FastTransition.{pmk_r0, pmk_r1}
use Rattle.run_journal.specs.declared.domain.Domain.{Domain}
use Rattle.run_journal.specs.declared.acts.Drawn.TheVariants as draw
use Rattle.run_journal.specs.declared.acts.Key.TheVariants.{Pairwise, Group}
use Rattle.run_journal.specs.declared.acts.Act.{Act}
use Rattle.run_journal.specs.declared.acts.Act.TheVariants.{Drew, Derived, Installed, HandedUp, Looked}
use Rattle.run_journal.specs.declared.acts.GroupKind.{GroupKind}
use Rattle.run_journal.specs.Events.{IsListed}
use Rattle.run_journal.specs.Premises.{In, drawn, name}
use Rattle.run_journal.specs.Questions.{add}
use Rattle.run_journal.specs.Safe.{Use, use_of}
use Rattle.domain_rules.specs.AccessPointRows.{start_acts}
use Rattle.domain_rules.specs.GroupKeys.{memory, find_key}
use Rattle.domain_rules.specs.Here.{here}
use Rattle.domain_rules.specs.InOctets.{InOctets}
use Rattle.domain_rules.specs.Network.{IsNamed, mac, psk_of}
use Rattle.domain_rules.specs.Rows.{NodeEvent, Adds}
use Rattle.node_base.specs.Changing.{after}
use Rattle.node_base.specs.Growing.{Grows}

-- ---- the history

-- the network: its nodes are told apart, and with suite 4 it is of octets
pub record IsWhole (d : Domain) : Type 0 where
  pub names : IsNamed d
  pub octets : d.akm ≡ FtPsk → InOctets d

-- what comes to a node: an event, or it lists more nodes
pub data Coming : Type 0 where
  Event : NodeEvent → Coming
  Listing : Coming

-- what a node does as it starts
abbrev pub start_of : Domain → ℕ → Node → List Act
start_of d first (Ap k) = start_acts d first (Ap k)
start_of d first (Sta k) = []

-- with suite 4 a PMK-R1 that a key holder gave is the one of the station's pre-shared key, the holder, the station and the access point
-- (IEEE Std 802.11-2020, 12.7.1.6)
abbrev pub IsRightLook : Domain → Node → Act → Type 0
IsRightLook d n (Looked id r0_name p (Found k)) =
    d.akm ≡ FtPsk → k ≡ pmk_r1 (pmk_r0 (psk_of d p) d.ssid d.mdid id (mac d p)) (mac d n) (mac d p)
IsRightLook d n _ = Unit {0}

abbrev pub AreRightLooks : Domain → Node → List Act → Type 0
AreRightLooks d n h = AllByRecursion (IsRightLook d n) h

-- so it is one of some pre-shared key, whichever the station had then
abbrev pub IsKeyedLook : Domain → Node → Act → Type 0
IsKeyedLook d n (Looked id r0_name p (Found k)) =
    d.akm ≡ FtPsk → (psk : List ℕ) × (k ≡ pmk_r1 (pmk_r0 psk d.ssid d.mdid id (mac d p)) (mac d n) (mac d p))
IsKeyedLook d n _ = Unit {0}

abbrev pub AreKeyedLooks : Domain → Node → List Act → Type 0
AreKeyedLooks d n h = AllByRecursion (IsKeyedLook d n) h

-- It started in that network with the draw of that number; with what came since, the last first, the network is d and this is its
-- history. Each event added the acts that the definitions give for it; a changed key is that of its stations after it. What key holders
-- gave was right by the network at that event, and is of some pre-shared key by each larger network since.
abbrev pub Comes : Domain → ℕ → Node → List Coming → Domain → List Act → Type 0
Comes start first n [] d h = IsWhole d × IsListed d n × (d ≡ start) × (h ≡ add (start_of d first n) [])
Comes start first n (Event event ∷ comings) d h =
    (was : Domain) × ((old : List Act) × ((g : List Act) × (Comes start first n comings was old × Adds (here was first n) old event g × AreRightLooks was n g × (h ≡ add g old) × (d ≡ after was event))))
Comes start first n (Listing ∷ comings) d h =
    (smaller : Domain) × (Comes start first n comings smaller h × Grows smaller d × IsWhole d × AreKeyedLooks d n h)

-- ---- what is presupposed

-- what the act drew was not drawn before
abbrev pub IsUndrawn : Act → List Act → Type 0
IsUndrawn e h = (v : List ℕ) (x : Act) → drawn e ≡ Some v → In x h → drawn x ≡ Some v → ⊥

-- nor is it a nonce from which the node derived a key before: its peers do not know beforehand what it draws
abbrev pub IsUnheard : Act → List Act → Type 0
IsUnheard e h = (v : List ℕ) (p : Node) (i : Inputs) (k : Ptk) → drawn e ≡ Some v → In (Derived p i k) h → (i.anonce ≢ v) × (i.snonce ≢ v)

-- what the node drew was new
abbrev pub FreshAlone : List Act → Type 0
FreshAlone [] = Unit {0}
FreshAlone (e ∷ h) = IsUndrawn e h × IsUnheard e h × FreshAlone h

-- the temporal keys that the node derived do not collide, and none is a group key that it drew
pub record ApartAlone (h : List Act) : Type 0 where
  pub by_tk : (p q : Node) (i m : Inputs) (k l : Ptk) → In (Derived p i k) h → In (Derived q m l) h → k.tk ≡ l.tk → name i ≡ name m
  pub no_group_key : (kind : GroupKind) (p : Node) (i : Inputs) (k : Ptk) → In (Derived p i k) h → In (Drew (draw.Group kind k.tk)) h → ⊥

-- what is presupposed of the history of a node; nothing of its peers
pub record IsSound (h : List Act) : Type 0 where
  pub fresh : FreshAlone h
  pub apart : ApartAlone h

-- ---- what follows

-- the act installs no pairwise key that the node installed before
abbrev pub InstallsNew : Act → List Act → Type 0
InstallsNew e h = (p q : Node) (tk : List ℕ) (i m : Inputs) → e ≡ Installed (One p) (Pairwise tk i) → In (Installed (One q) (Pairwise tk m)) h → ⊥

-- no pairwise key is installed twice
abbrev pub PairwiseOnce : List Act → Type 0
PairwiseOnce [] = Unit {0}
PairwiseOnce (e ∷ h) = InstallsNew e h × PairwiseOnce h

-- the act uses no packet number that the node used before under that key
abbrev pub UsesNew : Act → List Act → Type 0
UsesNew e h = (x : Act) (u v : Use) → In x h → use_of e ≡ Some u → use_of x ≡ Some v → u.key ≡ v.key → u.number ≡ v.number → ⊥

-- no packet number is used twice under a key
abbrev pub UsedOnce : List Act → Type 0
UsedOnce [] = Unit {0}
UsedOnce (e ∷ h) = UsesNew e h × UsedOnce h

-- the key was installed with p, as its pairwise key or as a group key of that id
abbrev pub IsInstalled : Node → List ℕ → ℕ → List Act → Type 0
IsInstalled p key id h =
    ((i : Inputs) × In (Installed (One p) (Pairwise key i)) h) ⊎ ((kind : GroupKind) × ((b : Mac) × In (Installed (One p) (Group kind key id b)) h))

-- a payload that the act hands up was not handed up before, from that peer under that key, key id, TID and packet number, since the key
-- was installed last
abbrev pub UpNew : Act → List Act → Type 0
UpNew e h =
    (p : Node) (key : List ℕ) (id tid number : ℕ) (plain other : List ℕ) (later earlier : List Act) → e ≡ HandedUp p key id tid number plain
    → h ≡ later ++ HandedUp p key id tid number other ∷ earlier → IsInstalled p key id later

-- no payload is handed up twice between two installations of its key
abbrev pub UpOnce : List Act → Type 0
UpOnce [] = Unit {0}
UpOnce (e ∷ h) = UpNew e h × UpOnce h

-- the act makes none of the node's own group keys current that was so before, and installs none of p that is one of the last two
-- of its kind that it installed from p
pub record GroupNew (e : Act) (h : List Act) : Type 0 where
  pub own : (kind : GroupKind) (key : List ℕ) (id other : ℕ) (b c : Mac) → e ≡ Installed All (Group kind key id b) → In (Installed All (Group kind key other c)) h → ⊥
  pub given : (kind : GroupKind) (p : Node) (key : List ℕ) (id : ℕ) (b : Mac) → e ≡ Installed (One p) (Group kind key id b) → find_key key (memory kind p h) ≡ None

-- each act installs group keys so
abbrev pub GroupsNew : List Act → Type 0
GroupsNew [] = Unit {0}
GroupsNew (e ∷ h) = GroupNew e h × GroupsNew h
