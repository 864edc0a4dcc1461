-- What a safe run is, as facts about its journal, a list of entries, NEWEST FIRST (profile).
use Rattle.std.specs.Prelude.{ℕ, ◌≡◌, List, [], ◌∷◌, Option, Some, None}
use Rattle.domain_base.specs.declared.names.Node.{Node}
use Rattle.key_hierarchy.specs.declared.inputs.Inputs.{Inputs}
use Rattle.key_hierarchy.specs.declared.inputs.Ptk.{Ptk}
use Rattle.run_journal.specs.declared.acts.Act.{Act}
use Rattle.run_journal.specs.declared.acts.Act.TheVariants.{Derived, Installed, Used, HandedUp, Finished}
use Rattle.run_journal.specs.declared.acts.Entry.{Entry}
use Rattle.run_journal.specs.Acts.{key_octets}
use Rattle.run_journal.specs.Premises.{In, IsBefore}

-- the octets of the key that an act installs
abbrev pub installed : Act → Option (List ℕ)
installed (Installed p key) = Some (key_octets key)
installed _ = None

-- a key that the entry installs its node did not install before
abbrev pub InstallsNew : Entry → List Entry → Type 0
InstallsNew e past = (m : Entry) (key : List ℕ) → In m past → m.node ≡ e.node → installed e.act ≡ Some key → installed m.act ≡ Some key → ⊥

-- a node installs a key at most once
abbrev pub InstalledOnce : List Entry → Type 0
InstalledOnce [] = Unit {0}
InstalledOnce (e ∷ past) = InstallsNew e past × InstalledOnce past

-- a packet number under a key, and the plain octets
pub record Use : Type 0 where
  pub key : List ℕ
  pub number : ℕ
  pub octets : List ℕ

-- the packet number that an act uses, with its key and octets
abbrev pub use_of : Act → Option Use
use_of (Used p key id number octets) = Some (record { key = key; number = number; octets = octets })
use_of _ = None

-- the packet number of a payload that an act hands up, with its key and octets
abbrev pub up_of : Act → Option Use
up_of (HandedUp p key id tid number octets) = Some (record { key = key; number = number; octets = octets })
up_of _ = None

-- the node of which an act hands a payload up
abbrev pub up_from : Act → Option Node
up_from (HandedUp p key id tid number octets) = Some p
up_from _ = None

-- the key and the number of the entry no entry of its node had before
abbrev pub UsesNew : (Act → Option Use) → Entry → List Entry → Type 0
UsesNew f e past = (m : Entry) (u v : Use) → In m past → m.node ≡ e.node → f e.act ≡ Some u → f m.act ≡ Some v → u.key ≡ v.key → u.number ≡ v.number → ⊥

-- no two entries of a node have one key and one number
abbrev pub Once : (Act → Option Use) → List Entry → Type 0
Once f [] = Unit {0}
Once f (e ∷ past) = UsesNew f e past × Once f past

-- node p derived a key from these inputs before
pub record DerivedBefore (p : Node) (i : Inputs) (e : Entry) (past : List Entry) : Type 0 where
  pub entry : Entry
  pub there : In entry past
  pub before : IsBefore entry e
  pub at : entry.node ≡ p
  pub is : (peer : Node) × ((k : Ptk) × (entry.act ≡ Derived peer i k))

-- where the entry accepts a final message, the peer derived from its inputs before
abbrev pub JoinedAt : Entry → List Entry → Type 0
JoinedAt e past = (p : Node) (i : Inputs) → e.act ≡ Finished p i → DerivedBefore p i e past

-- whoever accepts a final message has inputs from which its peer derived before
abbrev pub Joined : List Entry → Type 0
Joined [] = Unit {0}
Joined (e ∷ past) = JoinedAt e past × Joined past

-- node p used the key, the number and the octets before
pub record UsedBefore (p : Node) (u : Use) (e : Entry) (past : List Entry) : Type 0 where
  pub entry : Entry
  pub there : In entry past
  pub before : IsBefore entry e
  pub at : entry.node ≡ p
  pub is : use_of entry.act ≡ Some u

-- what the entry hands up its peer had used, with that key, number and octets
abbrev pub SourcedAt : Entry → List Entry → Type 0
SourcedAt e past = (p : Node) (u : Use) → up_of e.act ≡ Some u → up_from e.act ≡ Some p → UsedBefore p u e past

-- whatever is handed up from p, p had used before, with that key, number and octets
abbrev pub Sourced : List Entry → Type 0
Sourced [] = Unit {0}
Sourced (e ∷ past) = SourcedAt e past × Sourced past

-- the parts of safety together
pub record Safe (j : List Entry) : Type 0 where
  pub installed_once : InstalledOnce j
  pub used_once : Once use_of j
  pub joined : Joined j
  pub handed_up_once : Once up_of j
  pub sourced : Sourced j
