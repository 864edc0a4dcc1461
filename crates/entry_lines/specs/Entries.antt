-- Entries as a line tells them, and which line is that of an entry (profile).
use Rattle.std.specs.Prelude.{ℕ, ◌≡◌, ◌<◌, ◌≤◌, ◌^◌, List, length, Option, Some, None, replicate}
use Rattle.domain_base.specs.Octets.{AreOctets}
use Rattle.domain_base.specs.declared.names.Node.{Node}
use Rattle.domain_base.specs.declared.names.Node.TheVariants.{Ap, Sta}
use Rattle.domain_base.specs.declared.names.Peer.{Peer}
use Rattle.domain_base.specs.declared.names.Peer.TheVariants.{One, All}
use Rattle.key_hierarchy.specs.declared.inputs.Inputs.{Inputs}
use Rattle.key_hierarchy.specs.declared.inputs.Ptk.{Ptk}
use Rattle.key_hierarchy.specs.declared.answers.PutAnswer.{PutAnswer}
use Rattle.key_hierarchy.specs.declared.answers.PutAnswer.TheVariants as put
use Rattle.key_hierarchy.specs.declared.answers.PullAnswer.{PullAnswer}
use Rattle.key_hierarchy.specs.declared.answers.PullAnswer.TheVariants.{Found}
use Rattle.run_journal.specs.declared.acts.Drawn.{Drawn}
use Rattle.run_journal.specs.declared.acts.Drawn.TheVariants as draw
use Rattle.run_journal.specs.declared.acts.Drawn.TheVariants.{Nonce}
use Rattle.run_journal.specs.declared.acts.MalformedFrame.{MalformedFrame}
use Rattle.run_journal.specs.declared.acts.MalformedFrame.TheVariants as air
use Rattle.run_journal.specs.declared.acts.Malformed.{Malformed}
use Rattle.run_journal.specs.declared.acts.Malformed.TheVariants as malformed
use Rattle.run_journal.specs.declared.acts.Reason.{Reason}
use Rattle.run_journal.specs.declared.acts.Reason.TheVariants as reason
use Rattle.run_journal.specs.declared.acts.Outcome.{Outcome}
use Rattle.run_journal.specs.declared.acts.Outcome.TheVariants.{Accepted, Answered, Ignored, Refused}
use Rattle.run_journal.specs.declared.acts.Seal.{Seal}
use Rattle.run_journal.specs.declared.acts.Key.{Key}
use Rattle.run_journal.specs.declared.acts.Key.TheVariants.{Pairwise, Group}
use Rattle.run_journal.specs.declared.acts.Act.{Act}
use Rattle.run_journal.specs.declared.acts.Act.TheVariants.{Opened, Closed, Drew, Derived, Sent, Took, Installed, Resumed, Used, HandedUp, Finished, Put, Looked, Revoked, Secret, GaveUp, Idle, Link}
use Rattle.run_journal.specs.declared.acts.Entry.{Entry}
use Rattle.entry_lines.specs.Lines.{entry_line}

-- ---- what a line leaves out

-- without the name of a PMK-R1 found: zero octets stand for it (profile)
abbrev pub bare_answer : PullAnswer → PullAnswer
bare_answer (Found k) = Found (record k { name = replicate 16 0 })
bare_answer answer = answer

-- an act of that node as its line tells it: without the listed node of octets taken, with the node itself as the peer of a key derived,
-- and without the name of a PMK-R1 found (profile)
abbrev pub bare_act : Node → Act → Act
bare_act n (Derived p i k) = Derived n i k
bare_act n (Took from octets k o s) = Took None octets k o s
bare_act n (Looked x m p answer) = Looked x m p (bare_answer answer)
bare_act n a = a

-- only a frame sent has a number (profile)
abbrev pub bare_number : ℕ → Act → ℕ
bare_number number (Sent p k octets s) = number
bare_number number _ = 0

-- an entry as its line tells it (profile)
abbrev pub bare : Entry → Entry
bare e = record { round = e.round; node = e.node; number = bare_number e.number e.act; act = bare_act e.node e.act }

-- ---- which entries have a line

-- what comes of a frame: accepted, answered, ignored or refused (profile)
abbrev pub HasOutcomeLine : Outcome → Type 0
HasOutcomeLine Accepted = Unit {0}
HasOutcomeLine Answered = Unit {0}
HasOutcomeLine Ignored = Unit {0}
HasOutcomeLine (Refused r) = Unit {0}
HasOutcomeLine _ = ⊥

-- a put for which memory runs out is never in a journal (profile)
abbrev pub HasAnswerLine : PutAnswer → Type 0
HasAnswerLine put.NoMemory = ⊥
HasAnswerLine _ = Unit {0}

-- the act has a line: every act that a node can do, but no step of a link. An R0KH-ID has 48 octets at most; that of a revocation is
-- kept so (profile)
abbrev pub HasLine : Act → Type 0
HasLine (Took from octets k o s) = HasOutcomeLine o
HasLine (Put x m p answer) = HasAnswerLine answer
HasLine (Revoked x m p answer) = length x ≤ 48
HasLine (Link sta s) = ⊥
HasLine _ = Unit {0}

-- ---- the sizes of what an entry tells, as its type has them

-- that many octets (profile)
abbrev pub IsArray : ℕ → List ℕ → Type 0
IsArray n octets = (length octets ≡ n) × AreOctets octets

-- places are numbers of 16 bits (profile)
abbrev pub FitsNode : Node → Type 0
FitsNode (Ap n) = n < 2 ^ 16
FitsNode (Sta n) = n < 2 ^ 16

abbrev pub FitsPeer : Peer → Type 0
FitsPeer (One n) = FitsNode n
FitsPeer All = Unit {0}

pub record FitsInputs (i : Inputs) : Type 0 where
  pub psk : IsArray 32 i.psk
  pub ssid : AreOctets i.ssid
  pub mdid : IsArray 2 i.mdid
  pub r0kh_id : AreOctets i.r0kh_id
  pub aa : IsArray 6 i.aa.0
  pub spa : IsArray 6 i.spa.0
  pub anonce : IsArray 32 i.anonce
  pub snonce : IsArray 32 i.snonce

abbrev pub FitsDrawn : Drawn → Type 0
FitsDrawn (Nonce v) = IsArray 32 v
FitsDrawn (draw.Group kind v) = IsArray 16 v

pub record FitsPtk (k : Ptk) : Type 0 where
  pub kck : IsArray 16 k.kck
  pub kek : IsArray 16 k.kek
  pub tk : IsArray 16 k.tk

abbrev pub FitsSeal : Option Seal → Type 0
FitsSeal None = Unit {0}
FitsSeal (Some s) = AreOctets s.octets × IsArray 16 s.key

abbrev pub FitsKey : Key → Type 0
FitsKey (Pairwise tk i) = IsArray 16 tk × FitsInputs i
FitsKey (Group kind key id bssid) = IsArray 16 key × (id < 2 ^ 8) × IsArray 6 bssid.0

abbrev pub FitsFault : MalformedFrame → Type 0
FitsFault (air.Short place) = place < 2 ^ 64
FitsFault (air.Body place) = place < 2 ^ 64
FitsFault _ = Unit {0}

abbrev pub FitsMalformed : Malformed → Type 0
FitsMalformed (malformed.Air f) = FitsFault f
FitsMalformed (malformed.Key f) = f.place < 2 ^ 64
FitsMalformed (malformed.Elements f) = f.place < 2 ^ 64

abbrev pub FitsReason : Reason → Type 0
FitsReason (reason.Malformed m) = FitsMalformed m
FitsReason (reason.OutOfProfile code) = code < 2 ^ 8
FitsReason (reason.Counter kept) = kept < 2 ^ 64
FitsReason (reason.Status code) = code < 2 ^ 16
FitsReason (reason.Replayed kept) = kept < 2 ^ 64
FitsReason _ = Unit {0}

abbrev pub FitsOutcome : Outcome → Type 0
FitsOutcome (Refused r) = FitsReason r
FitsOutcome _ = Unit {0}

abbrev pub FitsAnswer : PullAnswer → Type 0
FitsAnswer (Found k) = IsArray 32 k.key × IsArray 16 k.name
FitsAnswer _ = Unit {0}

-- numbers and octets are such as the type of acts holds: numbers below 2^64, places and status codes below 2^16, key ids and codes
-- below 2^8, traffic identifiers below 16 (profile)
abbrev pub FitsAct : Act → Type 0
FitsAct (Opened p s) = FitsNode p
FitsAct (Closed p part) = FitsNode p
FitsAct (Drew v) = FitsDrawn v
FitsAct (Derived p i k) = FitsNode p × FitsInputs i × FitsPtk k
FitsAct (Sent p k octets s) = FitsPeer p × AreOctets octets × FitsSeal s
FitsAct (Took from octets k o s) = AreOctets octets × FitsOutcome o × FitsSeal s
FitsAct (Installed p key) = FitsPeer p × FitsKey key
FitsAct (Resumed p key) = FitsNode p × FitsKey key
FitsAct (Used p key id n octets) = FitsPeer p × IsArray 16 key × (id < 2 ^ 8) × (n < 2 ^ 64) × AreOctets octets
FitsAct (HandedUp p key id tid n octets) = FitsNode p × IsArray 16 key × (id < 2 ^ 8) × (tid < 16) × (n < 2 ^ 64) × AreOctets octets
FitsAct (Finished p i) = FitsNode p × FitsInputs i
FitsAct (Put x m p answer) = AreOctets x × IsArray 16 m × FitsNode p
FitsAct (Looked x m p answer) = AreOctets x × IsArray 16 m × FitsNode p × FitsAnswer answer
FitsAct (Revoked x m p answer) = AreOctets x × IsArray 16 m × FitsNode p
FitsAct (Secret p psk) = FitsNode p × IsArray 32 psk
FitsAct (GaveUp p m) = FitsNode p
FitsAct (Idle y) = Unit {0}
FitsAct (Link sta s) = Unit {0}

-- as the type of entries has it (profile)
pub record Fits (e : Entry) : Type 0 where
  pub round : e.round < 2 ^ 64
  pub node : FitsNode e.node
  pub number : e.number < 2 ^ 64
  pub act : FitsAct e.act

-- ---- the line

-- the octets are the line of the entry, and the entry is as a line tells it: one line for each such entry, and one such entry at most
-- for a line (profile)
pub record SpellsEntry (octets : List ℕ) (e : Entry) : Type 0 where
  pub line : octets ≡ entry_line e
  pub has : HasLine e.act
  pub is_bare : bare e ≡ e
  pub fits : Fits e
