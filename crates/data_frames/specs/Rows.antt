-- Protected data that a node takes under a key in use (profile).
use Rattle.std.specs.Prelude.{◌≡◌, ◌==◌, ℕ, List, Some, None, if◌then◌else◌}
use Rattle.domain_base.specs.declared.names.Node.{Node}
use Rattle.ccmp_guard.specs.Ccmp.{key_id_in}
use Rattle.ccmp_guard.specs.Roles.{key_id, counter_of}
use Rattle.ccmp_guard.specs.Held.{Held, kept_number}
use Rattle.run_journal.specs.declared.acts.Act.{Act}
use Rattle.domain_rules.specs.DataVerdict.{opened_by, data_verdict}
use Rattle.domain_rules.specs.Closing.{sender}
use Rattle.domain_rules.specs.Here.{Here}
use Rattle.domain_rules.specs.Reading.{Reads}
use Rattle.domain_rules.specs.Verdict.{first_verdict}
use Rattle.frame_intake.specs.SealedFields.{SealedFields, sealed_reading, IsSealedData}

-- octets that are protected data for the node from p
pub record IsDataFrom (w : Here) (h : List Act) (p : Node) (octets : List ℕ) (f : SealedFields) : Type 0 where
  pub reads : Reads w.domain.akm octets (sealed_reading f)
  pub whole : IsSealedData f
  pub from : sender w.domain w.node (sealed_reading f) ≡ Some p
  pub verdict_is : first_verdict w.domain w.first w.node h (sealed_reading f) ≡ data_verdict w.node h p f.header f.tid f.body

-- the rules open it under that key, and with another key id under none
abbrev pub OpensBy : Here → List Act → Node → SealedFields → Held → Type 0
OpensBy w h p f k =
    opened_by w.node h p f.header f.tid f.body
    ≡ (if key_id_in f.body == key_id k.role
    then Some (record { key = k.key; id = key_id k.role; tid = counter_of k.role f.header.octets; kept = kept_number k f.header.octets })
    else None)
