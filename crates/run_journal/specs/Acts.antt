-- Tests on one act of a node (profile).
use Rattle.std.specs.Prelude.{ℕ, ◌==◌, Bool, true, false, cond, List, Option, Some, None}
use Rattle.domain_base.specs.declared.names.Node.{Node}
use Rattle.domain_base.specs.declared.names.Node.TheVariants.{Ap, Sta}
use Rattle.domain_base.specs.declared.names.Peer.{Peer}
use Rattle.domain_base.specs.declared.names.Peer.TheVariants.{One, All}
use Rattle.eapol_key.specs.declared.messages.Message.{Message}
use Rattle.eapol_key.specs.declared.messages.Message.TheVariants.{M1, M2, M3, M4, G1, G2}
use Rattle.key_hierarchy.specs.declared.inputs.Inputs.{Inputs}
use Rattle.key_hierarchy.specs.declared.inputs.Ptk.{Ptk}
use Rattle.run_journal.specs.declared.acts.GroupKind.{GroupKind}
use Rattle.run_journal.specs.declared.acts.Start.TheVariants.{Connect, Roam}
use Rattle.run_journal.specs.declared.acts.Part.TheVariants.{Attempt, Session}
use Rattle.run_journal.specs.declared.acts.Drawn.{Drawn}
use Rattle.run_journal.specs.declared.acts.Drawn.TheVariants as draw
use Rattle.run_journal.specs.declared.acts.Drawn.TheVariants.{Nonce}
use Rattle.run_journal.specs.declared.acts.Kind.{Kind}
use Rattle.run_journal.specs.declared.acts.Kind.TheVariants as kind
use Rattle.run_journal.specs.declared.acts.Outcome.TheVariants.{Accepted, Answered}
use Rattle.run_journal.specs.declared.acts.Key.{Key}
use Rattle.run_journal.specs.declared.acts.Key.TheVariants.{Pairwise, Group}
use Rattle.run_journal.specs.declared.acts.Act.{Act}
use Rattle.run_journal.specs.declared.acts.Act.TheVariants.{Opened, Closed, Drew, Derived, Sent, Took, Installed, Resumed, Used, Finished}
use Rattle.run_journal.specs.GroupKinds.{same_group_kind, kind_of_id, is_of_kind}

-- two nodes are one
abbrev pub same : Node → Node → Bool
same (Ap k) (Ap m) = k == m
same (Sta k) (Sta m) = k == m
same (Ap k) (Sta m) = false
same (Sta k) (Ap m) = false

-- the peer is this node alone
abbrev pub is_one : Node → Peer → Bool
is_one p (One q) = same p q
is_one p All = false

-- EAPOL-Key messages told apart by numbers
abbrev pub message_number : Message → ℕ
message_number M1 = 1
message_number M2 = 2
message_number M3 = 3
message_number M4 = 4
message_number G1 = 5
message_number G2 = 6

-- kinds told apart by numbers
abbrev pub kind_number : Kind → ℕ
kind_number (kind.Key m) = message_number m
kind_number kind.AssocReq = 7
kind_number kind.AssocResp = 8
kind_number kind.FtReq = 9
kind_number kind.FtResp = 10
kind_number kind.ReReq = 11
kind_number kind.ReResp = 12
kind_number kind.Data = 13
kind_number kind.Ignored = 14
kind_number kind.Unread = 15
kind_number kind.Eapol = 16
kind_number kind.Action = 17

-- two kinds of frames are one
abbrev pub same_kind : Kind → Kind → Bool
same_kind k m = kind_number k == kind_number m

-- an attempt with p begins
abbrev pub opens : Node → Act → Bool
opens p (Opened q s) = same p q
opens p _ = false

-- the act begins a chain of attempts and sessions with p: an attempt that does not renew the key of a session (IEEE Std
-- 802.11-2020, 12.7.2, profile)
abbrev pub begins : Node → Act → Bool
begins p (Opened q Connect) = same p q
begins p (Opened q Roam) = same p q
begins p _ = false

-- the attempt with q is the one with p. An access point as p says that the history is a station's, which has one attempt at
-- most, whoever q is
abbrev pub is_same_attempt : Node → Node → Bool
is_same_attempt (Ap k) q = true
is_same_attempt (Sta k) q = same (Sta k) q

-- the attempt with p ends
abbrev pub ends : Node → Act → Bool
ends p (Closed q Attempt) = is_same_attempt p q
ends p (Finished q i) = is_same_attempt p q
ends p _ = false

-- the session with p ends
abbrev pub closes : Node → Act → Bool
closes p (Closed q Session) = same p q
closes p _ = false

-- the act accepts a final message of p
abbrev pub finishes : Node → Act → Bool
finishes p (Finished q i) = same p q
finishes p _ = false

-- a nonce was drawn
abbrev pub nonce_drawn : Act → Option (List ℕ)
nonce_drawn (Drew (Nonce v)) = Some v
nonce_drawn _ = None

-- the value drawn, where it is a group key of that kind
abbrev pub key_of_draw : GroupKind → Drawn → Option (List ℕ)
key_of_draw kind (Nonce v) = None
key_of_draw kind (draw.Group other v) = cond (same_group_kind kind other) (Some v) None

-- a group key of that kind was drawn
abbrev pub key_drawn : GroupKind → Act → Option (List ℕ)
key_drawn kind (Drew v) = key_of_draw kind v
key_drawn kind _ = None

-- a key by its inputs
pub record Derivation : Type 0 where
  pub inputs : Inputs
  pub ptk : Ptk

-- a key with its inputs, as the act derived it with p
abbrev pub derived : Node → Act → Option Derivation
derived p (Derived q i k) = cond (same p q) (Some (record { inputs = i; ptk = k })) None
derived p _ = None

-- the frame that came is from that node
abbrev pub is_from : Node → Option Node → Bool
is_from p (Some q) = same p q
is_from p None = false

-- a frame of that kind from p was accepted: its octets
abbrev pub accepted : Node → Kind → Act → Option (List ℕ)
accepted p k (Took from octets m Accepted s) = cond (is_from p from) (cond (same_kind k m) (Some octets) None) None
accepted p k _ = None

-- a frame of that kind from p was accepted or answered: its octets
abbrev pub replied : Node → Kind → Act → Option (List ℕ)
replied p k (Took from octets m Accepted s) = cond (is_from p from) (cond (same_kind k m) (Some octets) None) None
replied p k (Took from octets m Answered s) = cond (is_from p from) (cond (same_kind k m) (Some octets) None) None
replied p k _ = None

-- a frame of that kind was sent to p: its octets
abbrev pub sent : Node → Kind → Act → Option (List ℕ)
sent p k (Sent q m octets s) = cond (is_one p q) (cond (same_kind k m) (Some octets) None) None
sent p k _ = None

-- the act sent a frame
abbrev pub is_sent : Act → Bool
is_sent (Sent q m octets s) = true
is_sent _ = false

-- the octets that are the key
abbrev pub key_octets : Key → List ℕ
key_octets (Pairwise tk i) = tk
key_octets (Group group key id b) = key

-- a group key and its key id
pub record GroupKey : Type 0 where
  pub key : List ℕ
  pub id : ℕ

-- a group key of that kind was installed with all: it is the access point's current one
abbrev pub switched : GroupKind → Act → Option (List ℕ)
switched kind (Installed All (Group other key id b)) = cond (same_group_kind kind other) (Some key) None
switched kind _ = None

-- the key of q, where that is access point p
abbrev pub taken_of : Node → Node → List ℕ → ℕ → Option GroupKey
taken_of p q key id = cond (same p q) (Some (record { key = key; id = id })) None

-- a station installed a group key of that kind of access point p
abbrev pub given_from : GroupKind → Node → Act → Option GroupKey
given_from kind p (Installed (One q) (Group other key id b)) = cond (same_group_kind kind other) (taken_of p q key id) None
given_from kind p _ = None

-- the group key of that kind that a station took from p, installed or resumed
abbrev pub taken_from : GroupKind → Node → Act → Option GroupKey
taken_from kind p (Installed (One q) (Group other key id b)) = cond (same_group_kind kind other) (taken_of p q key id) None
taken_from kind p (Resumed q (Group other key id b)) = cond (same_group_kind kind other) (taken_of p q key id) None
taken_from kind p _ = None

-- a pairwise key was installed with p
abbrev pub installs_pairwise : Node → Act → Bool
installs_pairwise p (Installed (One q) (Pairwise tk i)) = same p q
installs_pairwise p _ = false

-- a packet number was used with p alone, under a pairwise key
abbrev pub uses_with : Node → Act → Bool
uses_with p (Used q key id number octets) = is_one p q
uses_with p _ = false

-- a packet number was used to all, under a group key of that kind
abbrev pub uses_all : GroupKind → Act → Bool
uses_all kind (Used All key id number octets) = is_of_kind kind (kind_of_id id)
uses_all kind _ = false
