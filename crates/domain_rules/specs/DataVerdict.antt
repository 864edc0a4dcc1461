-- What comes of protected data (IEEE Std 802.11-2020, 12.5.3.4, profile).
use Rattle.std.specs.Prelude.{ℕ, nat_lt, ◌++◌, Bool, false, List, Option, Some, None, unwrap_or, if◌then◌else◌}
use Rattle.domain_base.specs.Octets.{AreOctets}
use Rattle.domain_base.specs.declared.names.Node.{Node}
use Rattle.domain_base.specs.declared.names.Node.TheVariants.{Ap, Sta}
use Rattle.air_frame.specs.Fields.{HeaderFields}
use Rattle.ccmp_guard.specs.Ccmp.{packet_number, key_id_in, Protected}
use Rattle.run_journal.specs.declared.acts.Reason.TheVariants as reason
use Rattle.run_journal.specs.declared.acts.Outcome.{Outcome}
use Rattle.run_journal.specs.declared.acts.Outcome.TheVariants.{Accepted, Refused}
use Rattle.run_journal.specs.declared.acts.Act.{Act}
use Rattle.run_journal.specs.Addresses.{is_group}
use Rattle.domain_rules.specs.PacketNumbers.{OpenKey, open_key}

-- the frame is for a group of stations
abbrev pub is_for_group : Node → HeaderFields → Bool
is_for_group (Ap a) h = false
is_for_group (Sta s) h = is_group h.a1

-- what a protected frame from p is opened under: its TID is that of QoS data, and else 0 (9.2.4.5.2)
abbrev pub opened_by : Node → List Act → Node → HeaderFields → Option ℕ → List ℕ → Option OpenKey
opened_by n h p header tid body = open_key p h (is_for_group n header) (unwrap_or tid 0) (key_id_in body)

-- refused where the packet number is not above the kept one
abbrev pub data_verdict_by : ℕ → Option OpenKey → Outcome
data_verdict_by pn None = Refused reason.NoKey
data_verdict_by pn (Some k) = if nat_lt k.kept pn then Accepted else Refused (reason.Replayed k.kept)

-- protected data from p, as far as its fields and the history decide: it is always awaited
abbrev pub data_verdict : Node → List Act → Node → HeaderFields → Option ℕ → List ℕ → Outcome
data_verdict n h p header tid body = data_verdict_by (packet_number body) (opened_by n h p header tid body)

-- refused where CCM does not verify
abbrev pub unsealed : Option (List ℕ) → Outcome
unsealed None = Refused reason.Seal
unsealed (Some plain) = Accepted

-- the plain text that a frame of octets carries under a temporal key with its key id, or that there is none (12.5.3)
abbrev pub IsOpened : List ℕ → ℕ → List ℕ → List ℕ → Option (List ℕ) → Type 0
IsOpened tk id header body (Some plain) = AreOctets (header ++ body) × Protected tk header id (packet_number body) plain body
IsOpened tk id header body None = (plain : List ℕ) → AreOctets (header ++ body) → Protected tk header id (packet_number body) plain body → ⊥
