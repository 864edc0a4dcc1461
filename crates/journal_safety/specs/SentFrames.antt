-- The frames behind what is handed up (profile).
use Rattle.std.specs.Prelude.{ℕ, ◌≡◌, true, List, [], ◌∷◌, ◌++◌, Some}
use Rattle.domain_base.specs.declared.names.Node.{Node}
use Rattle.domain_base.specs.declared.names.Peer.{Peer}
use Rattle.run_journal.specs.declared.acts.Kind.{Kind}
use Rattle.run_journal.specs.declared.acts.Act.{Act}
use Rattle.run_journal.specs.declared.acts.Act.TheVariants.{Sent, Used, HandedUp}
use Rattle.run_journal.specs.declared.acts.Entry.{Entry}
use Rattle.run_journal.specs.Questions.{history}
use Rattle.run_journal.specs.Premises.{IsBefore}
use Rattle.run_journal.specs.Safe.{Use}
use Rattle.domain_rules.specs.Network.{is_ap}

-- node p sent a frame before that is sealed under that key, and the last thing that it did before was to use that packet number
-- of the key, for these octets
pub record SentWith (p : Node) (u : Use) (e : Entry) (past : List Entry) : Type 0 where
  pub later : List Entry
  pub entry : Entry
  pub earlier : List Entry
  pub there : past ≡ later ++ entry ∷ earlier
  pub before : IsBefore entry e
  pub at : entry.node ≡ p
  pub to : Peer
  pub kind : Kind
  pub octets : List ℕ
  pub covered : List ℕ
  pub sent : entry.act ≡ Sent to kind octets (Some (record { octets = covered; key = u.key }))
  pub receiver : Peer
  pub id : ℕ
  pub acts : List Act
  pub used : history p earlier ≡ Used receiver u.key id u.number u.octets ∷ acts

-- what the entry hands up under a key id its peer sent, under that key and packet number; under a group key an access point did
pub record IsSent (p : Node) (u : Use) (id : ℕ) (e : Entry) (past : List Entry) : Type 0 where
  pub frame : SentWith p u e past
  pub access_point : (id ≡ 0 → ⊥) → is_ap p ≡ true

abbrev pub SentAt : Entry → List Entry → Type 0
SentAt e past = (p : Node) (u : Use) (id tid : ℕ) → e.act ≡ HandedUp p u.key id tid u.number u.octets → IsSent p u id e past

-- whatever is handed up its peer sent before
abbrev pub FromFrames : List Entry → Type 0
FromFrames [] = Unit {0}
FromFrames (e ∷ past) = SentAt e past × FromFrames past
