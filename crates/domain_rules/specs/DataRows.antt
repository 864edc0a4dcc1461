-- What protected data adds to the history of a node, as it is sent and as it is taken, and an Action frame as it is taken:
-- their acts, in order (IEEE Std 802.11-2020, 12.5.3, 12.5.4, profile).
use Rattle.std.specs.Prelude.{◌≡◌, ℕ, suc, nat_lt, cond, List, [], ◌∷◌, Option, Some, None, if◌then◌else◌}
use Rattle.domain_base.specs.declared.names.Node.{Node}
use Rattle.domain_base.specs.declared.names.Node.TheVariants.{Ap}
use Rattle.domain_base.specs.declared.names.Peer.{Peer}
use Rattle.domain_base.specs.declared.names.Peer.TheVariants.{One}
use Rattle.air_frame.specs.declared.frame.Direction.{Direction}
use Rattle.air_frame.specs.Fields.{HeaderFields}
use Rattle.replay_window.specs.Numbers.{last_number}
use Rattle.ccmp_guard.specs.Ccmp.{packet_number}
use Rattle.bip_guard.specs.Bip.{ipn_in}
use Rattle.run_journal.specs.declared.domain.Domain.{Domain}
use Rattle.run_journal.specs.declared.acts.Kind.TheVariants.{Data, Action}
use Rattle.run_journal.specs.declared.acts.Why.TheVariants as why
use Rattle.run_journal.specs.declared.acts.Outcome.TheVariants.{Accepted}
use Rattle.run_journal.specs.declared.acts.Act.{Act}
use Rattle.run_journal.specs.declared.acts.Act.TheVariants.{Took, Used, HandedUp, Idle}
use Rattle.run_journal.specs.Acts.{GroupKey}
use Rattle.domain_rules.specs.Reading.{Reading, Sealed, Acting}
use Rattle.domain_rules.specs.Facts.{Facts}
use Rattle.domain_rules.specs.PacketNumbers.{SendKey, send_key, OpenKey}
use Rattle.domain_rules.specs.DataFrames.{sent_data, data_seal}
use Rattle.domain_rules.specs.DataVerdict.{opened_by}
use Rattle.domain_rules.specs.ManagementFrames.{action_seal, integrity_key, before_mme, before_mic}
use Rattle.domain_rules.specs.Verdict.{verdict}
use Rattle.domain_rules.specs.PairwiseRenewal.{and_renewal}
use Rattle.domain_rules.specs.Closing.{sender}
use Rattle.domain_rules.specs.Here.{Here}

-- a node uses the next packet number of a key, and sends a frame under it; of a key whose last number was used it uses
-- none (12.5.3.2, profile)
abbrev pub used_acts : Domain → Node → Peer → Option ℕ → List ℕ → SendKey → List Act
used_acts d n q tid plain k =
    if nat_lt k.used last_number then Used q k.key k.id (suc k.used) plain ∷ sent_data d n q tid k.key k.id (suc k.used) plain ∷ []
    else Idle why.Spent ∷ []

-- a payload is sent under the key, and without a key nothing is done (12.5.3.2, profile)
abbrev pub send_acts_by : Domain → Node → Peer → Option ℕ → List ℕ → Option SendKey → List Act
send_acts_by d n q tid plain None = Idle why.NoKey ∷ []
send_acts_by d n q tid plain (Some k) = used_acts d n q tid plain k

-- after an access point has sent to a station it begins the renewal that is due with the packet number used, if one was
-- used (12.7.6.2, profile)
abbrev pub and_due : Here → Node → List Act → Peer → Option SendKey → List Act → List Act
and_due w (Ap a) h (One p) (Some k) acts = cond (nat_lt k.used last_number) (and_renewal w h p (suc k.used) acts) acts
and_due w n h q k acts = acts

-- a node sends a payload to a peer, or an access point to all (12.5.3.2, profile)
abbrev pub send_acts : Here → List Act → Peer → Option ℕ → List ℕ → List Act
send_acts w h q tid plain = and_due w w.node h q (send_key h q) (send_acts_by w.domain w.node q tid plain (send_key h q))

-- a node takes protected data and hands its payload up, whatever that begins with (12.5.3.4)
pub record DataRow (w : Here) (h : List Act) (octets : List ℕ) (r : Reading) (facts : Facts) (g : List Act) : Type 0 where
  pub header : HeaderFields
  pub way : Direction
  pub tid : Option ℕ
  pub body : List ℕ
  pub is : r ≡ Sealed header way tid body
  pub p : Node
  pub from : sender w.domain w.node r ≡ Some p
  pub accepted : verdict w.domain w.first w.node h r facts ≡ Accepted
  pub k : OpenKey
  pub under : opened_by w.node h p header tid body ≡ Some k
  pub plain : List ℕ
  pub opened : facts.opened ≡ Some plain
  pub says : g ≡ Took (Some p) octets Data Accepted (Some (data_seal k.key header.octets (packet_number body) plain))
      ∷ HandedUp p k.key k.id k.tid (packet_number body) plain ∷ []

-- a station takes an Action frame, and hands up what stands in it before its MME (12.5.4.6)
pub record ActionRow (w : Here) (h : List Act) (octets : List ℕ) (r : Reading) (facts : Facts) (g : List Act) : Type 0 where
  pub header : HeaderFields
  pub body : List ℕ
  pub is : r ≡ Acting header body
  pub p : Node
  pub from : sender w.domain w.node r ≡ Some p
  pub accepted : verdict w.domain w.first w.node h r facts ≡ Accepted
  pub k : GroupKey
  pub under : integrity_key p h body ≡ Some k
  pub says : g ≡ Took (Some p) octets Action Accepted (Some (action_seal k.key header.octets (before_mic body)))
      ∷ HandedUp p k.key k.id 0 (ipn_in body) (before_mme body) ∷ []
