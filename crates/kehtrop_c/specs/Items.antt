-- An act as it is told to C (profile).
use Rattle.std.specs.Prelude.{ℕ, ◌==◌, ◌||◌, if◌then◌else◌, List, [], length, replicate, slice_get, Option, Some, None, option_map, unwrap_or}
use Rattle.domain_base.specs.declared.names.Node.{Node}
use Rattle.domain_base.specs.declared.names.Node.TheVariants.{Ap as ApOf, Sta as StaOf}
use Rattle.domain_base.specs.declared.names.Peer.{Peer}
use Rattle.domain_base.specs.declared.names.Peer.TheVariants.{One, All}
use Rattle.run_journal.specs.Report.{key_data_code}
use Rattle.run_journal.specs.declared.domain.Domain.{Domain}
use Rattle.run_journal.specs.declared.domain.ListedAp.{ListedAp}
use Rattle.run_journal.specs.declared.domain.ListedSta.{ListedSta}
use Rattle.run_journal.specs.declared.acts.Key.{Key}
use Rattle.run_journal.specs.declared.acts.Key.TheVariants.{Pairwise, Group}
use Rattle.run_journal.specs.declared.acts.Malformed.{Malformed}
use Rattle.run_journal.specs.declared.acts.Malformed.TheVariants as malformed
use Rattle.run_journal.specs.declared.acts.Outcome.{Outcome}
use Rattle.run_journal.specs.declared.acts.Outcome.TheVariants.{Refused}
use Rattle.run_journal.specs.declared.acts.Part.{Part}
use Rattle.run_journal.specs.declared.acts.Part.TheVariants as part
use Rattle.run_journal.specs.declared.acts.Reason.{Reason}
use Rattle.run_journal.specs.declared.acts.Reason.TheVariants as reason
use Rattle.run_journal.specs.declared.acts.Why.{Why}
use Rattle.run_journal.specs.declared.acts.Why.TheVariants as why
use Rattle.run_journal.specs.declared.acts.Act.{Act}
use Rattle.run_journal.specs.declared.acts.Act.TheVariants.{Opened, Closed, Drew, Sent, Took, Installed, Resumed, HandedUp, Finished, GaveUp, Idle}
use Rattle.kehtrop_c.specs.declared.crossing.Item.{Item}

-- the address of a node, or zeros where it is not listed
abbrev pub address_of : Domain → Node → List ℕ
address_of d (ApOf k) = unwrap_or (option_map (λ (a : ListedAp). a.address.0) (slice_get d.aps k)) (replicate 6 0)
address_of d (StaOf k) = unwrap_or (option_map (λ (s : ListedSta). s.address.0) (slice_get d.stas k)) (replicate 6 0)

-- an item of that kind, which says nothing else
abbrev pub bare : ℕ → Item
bare what = record {
  what = what;
  reason = 0;
  key_id = 0;
  tid = 0;
  peer = replicate 6 0;
  has_peer = 0;
  spare = 0;
  key = replicate 16 0;
  number = 0;
  len = 0;
}

-- with that node
abbrev pub of_node : Domain → ℕ → Node → Item
of_node d what n = record (bare what) { peer = address_of d n; has_peer = 1 }

-- with that node, or with all
abbrev pub of_peer : Domain → ℕ → Peer → Item
of_peer d what (One n) = of_node d what n
of_peer d what All = record (bare what) { peer = replicate 6 255; has_peer = 1 }

-- the key, its id (0 of a pairwise one), and its counter
abbrev pub with_key : Key → ℕ → Item → Item
with_key (Pairwise tk inputs) counter told = record told { key = tk; key_id = 0; number = counter }
with_key (Group kind octets id bssid) counter told = record told { key = octets; key_id = id; number = counter }

-- the number of the reader that refuses a frame
abbrev pub malformed_code : Malformed → ℕ
malformed_code (malformed.Air f) = 1
malformed_code (malformed.Key f) = 2
malformed_code (malformed.Elements f) = 3

-- the number of a reason, and what it says beside
abbrev pub reason_of : Reason → ℕ × ℕ
reason_of (reason.Malformed f) = (1, malformed_code f)
reason_of (reason.OutOfProfile code) = (2, code)
reason_of reason.NotForMe = (3, 0)
reason_of reason.UnknownPeer = (4, 0)
reason_of reason.Unawaited = (5, 0)
reason_of (reason.Counter number) = (6, number)
reason_of reason.Nonce = (7, 0)
reason_of reason.Mic = (8, 0)
reason_of reason.Wrap = (9, 0)
reason_of (reason.KeyData f) = (10, key_data_code f)
reason_of (reason.Status code) = (11, code)
reason_of reason.NoHolder = (12, 0)
reason_of reason.Name = (13, 0)
reason_of reason.NoKey = (14, 0)
reason_of (reason.Replayed number) = (15, number)
reason_of reason.Seal = (16, 0)
reason_of reason.Spent = (17, 0)

-- the number of the cause for which an event did nothing
abbrev pub why_of : Why → ℕ
why_of why.NoSession = 1
why_of why.SamePeer = 2
why_of why.Nothing = 3
why_of why.RekeyPending = 4
why_of why.NoKey = 5
why_of why.Spent = 6

-- of the node that sent it, where there is one
abbrev pub of_sender : Domain → ℕ → Option Node → Item
of_sender d what None = bare what
of_sender d what (Some n) = of_node d what n

-- a frame was refused, with the reason; or it was taken
abbrev pub taken : Domain → Option Node → Outcome → Item
taken d from (Refused r) = record (of_sender d 10 from) { reason = (reason_of r).0; number = (reason_of r).1 }
taken d from _ = of_sender d 9 from

-- a session ended, or an attempt
abbrev pub closed : Domain → Node → Part → Item
closed d p part.Session = of_node d 6 p
closed d p part.Attempt = of_node d 8 p

-- what is handed up under a key with that id: PAYLOAD, and under an IGTK ANNOUNCED (IEEE Std 802.11-2020, 12.7.2)
abbrev pub handed : ℕ → ℕ
handed id = if (id == 4) || (id == 5) then 14 else 4

-- SEND, INSTALL, RESUME, PAYLOAD or ANNOUNCED, BEGUN, ENDED, TRYING, DROPPED, TOOK, REFUSED, IDLE, GAVE_UP, DREW, and NOTE for what
-- C has nothing to do with. The counter is that of the key, where one is installed or goes on
abbrev pub item_of : Domain → ℕ → Act → Item
item_of d counter (Sent q kind octets seal) = record (of_peer d 1 q) { len = length octets }
item_of d counter (Installed q key) = with_key key counter (of_peer d 2 q)
item_of d counter (Resumed p key) = with_key key counter (of_node d 3 p)
item_of d counter (HandedUp p key id tid number octets) = record (of_node d (handed id) p) { key_id = id; tid = tid; number = number; len = length octets }
item_of d counter (Finished p inputs) = of_node d 5 p
item_of d counter (Closed p part) = closed d p part
item_of d counter (Opened p start) = of_node d 7 p
item_of d counter (Took from octets kind outcome seal) = taken d from outcome
item_of d counter (Idle cause) = record (bare 11) { reason = why_of cause }
item_of d counter (GaveUp p message) = of_node d 12 p
item_of d counter (Drew value) = bare 13
item_of d counter _ = bare 0

-- the octets that belong to what was told: a frame to be sent, or a payload
abbrev pub octets_of : Option Act → List ℕ
octets_of (Some (Sent q kind octets seal)) = octets
octets_of (Some (HandedUp p key id tid number octets)) = octets
octets_of _ = []
