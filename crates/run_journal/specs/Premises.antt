-- What the safety of a run presupposes, as facts about its journal, a list of entries, NEWEST FIRST (profile).
use Rattle.std.specs.Prelude.{ℕ, ◌≡◌, ◌<◌, ◌⊎◌, List, [], ◌∷◌, Option, Some, None}
use Rattle.domain_base.specs.declared.names.Node.{Node}
use Rattle.domain_base.specs.declared.names.Akm.{Akm}
use Rattle.domain_base.specs.declared.names.Akm.TheVariants.{FtPsk}
use Rattle.key_hierarchy.specs.declared.inputs.Inputs.{Inputs}
use Rattle.key_hierarchy.specs.declared.inputs.Ptk.{Ptk}
use Rattle.key_hierarchy.specs.Keys.{lesser, greater}
use Rattle.run_journal.specs.declared.acts.GroupKind.{GroupKind}
use Rattle.run_journal.specs.declared.acts.Drawn.{Drawn}
use Rattle.run_journal.specs.declared.acts.Drawn.TheVariants as draw
use Rattle.run_journal.specs.declared.acts.Drawn.TheVariants.{Nonce}
use Rattle.run_journal.specs.declared.acts.Seal.{Seal}
use Rattle.run_journal.specs.declared.acts.Act.{Act}
use Rattle.run_journal.specs.declared.acts.Act.TheVariants.{Drew, Derived, Sent, Took}
use Rattle.run_journal.specs.declared.acts.Entry.{Entry}

-- the element is in the list
abbrev pub In : {A : Type 0} → A → List A → Type 0
In x [] = ⊥
In x (y ∷ ys) = (x ≡ y) ⊎ In x ys

-- an earlier entry m comes before e: it has a lower round, or is of the same node
abbrev pub IsBefore : Entry → Entry → Type 0
IsBefore m e = (m.round < e.round) ⊎ (m.node ≡ e.node)

-- the octets drawn
abbrev pub value : Drawn → List ℕ
value (Nonce v) = v
value (draw.Group kind v) = v

-- the value that an act drew
abbrev pub drawn : Act → Option (List ℕ)
drawn (Drew v) = Some (value v)
drawn _ = None

-- no earlier entry drew what this act drew
abbrev pub NotDrawn : Act → List Entry → Type 0
NotDrawn act past = (v : List ℕ) (m : Entry) → drawn act ≡ Some v → In m past → drawn m.act ≡ Some v → ⊥

-- the values drawn are pairwise different
abbrev pub Fresh : List Entry → Type 0
Fresh [] = Unit {0}
Fresh (e ∷ past) = NotDrawn e.act past × Fresh past

-- the inputs of a key as its derivation reads them: with suites 2 and 6 addresses and nonces by their order, without
-- their roles, and no network; with suite 4 all (IEEE Std 802.11-2020, 12.7.1.3, profile)
pub record Name : Type 0 where
  pub akm : Akm
  pub psk : List ℕ
  pub ssid : List ℕ
  pub mdid : List ℕ
  pub r0kh_id : List ℕ
  pub addresses : List ℕ × List ℕ
  pub nonces : List ℕ × List ℕ

abbrev pub name_by : Akm → Inputs → Name
name_by FtPsk i = record {
  akm = i.akm;
  psk = i.psk;
  ssid = i.ssid;
  mdid = i.mdid;
  r0kh_id = i.r0kh_id;
  addresses = (i.aa.0, i.spa.0);
  nonces = (i.anonce, i.snonce);
}
name_by _ i = record {
  akm = i.akm;
  psk = i.psk;
  ssid = [];
  mdid = [];
  r0kh_id = [];
  addresses = (lesser i.aa.0 i.spa.0, greater i.aa.0 i.spa.0);
  nonces = (lesser i.anonce i.snonce, greater i.anonce i.snonce);
}

-- the name of the inputs of a key (IEEE Std 802.11-2020, 12.7.1.3, profile)
abbrev pub name : Inputs → Name
name i = name_by i.akm i

-- the journal has a derivation of this key from these inputs
abbrev pub HasDerived : List Entry → Inputs → Ptk → Type 0
HasDerived j i k = (e : Entry) × (In e j × ((p : Node) × (e.act ≡ Derived p i k)))

-- derived keys do not collide, and none is a group key that was drawn
pub record NoCollision (j : List Entry) : Type 0 where
  pub by_kck : (i m : Inputs) (k l : Ptk) → HasDerived j i k → HasDerived j m l → k.kck ≡ l.kck → name i ≡ name m
  pub by_tk : (i m : Inputs) (k l : Ptk) → HasDerived j i k → HasDerived j m l → k.tk ≡ l.tk → name i ≡ name m
  pub no_group_key : (kind : GroupKind) (i : Inputs) (k : Ptk) (e : Entry) → HasDerived j i k → In e j → e.act ≡ Drew (draw.Group kind k.tk) → ⊥

-- what was sealed in a frame that the act took
abbrev pub seal_taken : Act → Option Seal
seal_taken (Took from octets k o s) = s
seal_taken _ = None

-- what was sealed in a frame that the act sent
abbrev pub seal_sent : Act → Option Seal
seal_sent (Sent p k octets s) = s
seal_sent _ = None

-- the same octets were sealed under the same key and sent before
pub record SentBefore (s : Seal) (e : Entry) (past : List Entry) : Type 0 where
  pub entry : Entry
  pub there : In entry past
  pub before : IsBefore entry e
  pub is : seal_sent entry.act ≡ Some s

-- what verified under a key was sealed under it by a node before
abbrev pub Unforged : List Entry → Type 0
Unforged [] = Unit {0}
Unforged (e ∷ past) = ((s : Seal) → seal_taken e.act ≡ Some s → SentBefore s e past) × Unforged past
