-- For all octets, every history and every answer of a key holder there is a group of acts.
use Rattle.std.proofs.Common.{ℕ, List, Option, refl}
use Rattle.domain_base.specs.declared.names.Node.{Node}
use Rattle.domain_base.specs.declared.names.Node.TheVariants.{Ap, Sta}
use Rattle.key_hierarchy.specs.declared.fast_transition.PmkR1.{PmkR1}
use Rattle.run_journal.specs.declared.domain.Domain.{Domain}
use Rattle.run_journal.specs.declared.acts.Act.{Act}
use Rattle.run_journal.specs.Questions.{attempt}
use Rattle.domain_rules.specs.Rows.{NodeEvent, Take, Begin, Retry, Rekey, Send, Expire, Leave, Roam, Revoke, Secret, Renew, Announce}
use Rattle.domain_rules.specs.AccessPointRows.{retry_acts, expire_acts}
use Rattle.domain_rules.specs.StationRows.{leave_acts}
use Rattle.domain_rules.specs.DataRows.{send_acts}
use Rattle.domain_rules.specs.ManagementFrames.{announce_acts}
use Rattle.domain_rules.specs.KeyHolders.{revoke_acts}
use Rattle.domain_rules.specs.ChangedKeys.{secret_acts}
use Rattle.domain_rules.specs.Owing.{and_switch}
use Rattle.domain_rules.specs.Due.{RowBy, GroupBy, CanCome}
use Rattle.domain_rules.specs.Here.{here}
use Rattle.domain_rules.proofs.SomeGroup.{some_rows, some_connect, some_roam, some_rekey, some_renew}
use Rattle.domain_rules.proofs.SomeReading.{some_reading_at}
use Rattle.domain_rules.proofs.SomeFacts.{some_facts}

some_row : (d : Domain) (first : ℕ) (n : Node) (h : List Act) (event : NodeEvent) (x : Option PmkR1) → CanCome d n event → (g : List Act) × RowBy (here d first n) h event x g
some_row d first n h (Take octets) x come =
    let r = some_reading_at d octets in
    let f = some_facts d first n h r.0 x in
    let rows = some_rows d first n h octets r.0 f.0 in
    (rows.0, (record { r = r.0; reads = r.1; facts = f.0; knows = f.1.1; row = rows.1 }, f.1.0))
some_row d first n h (Begin a) x come = some_connect d first n h (Ap a)
some_row d first n h (Retry s) x come = (retry_acts d n h (Sta s) (attempt (Sta s) h), refl)
some_row d first (Ap a) h Rekey x come = some_rekey d first a h
some_row d first (Sta s) h Rekey x come = absurd (cc come)
some_row d first n h (Send q tid octets) x come = (send_acts (here d first n) h q tid octets, refl)
some_row d first n h (Expire s) x come = (expire_acts (Sta s) h, refl)
some_row d first n h Leave x come = (leave_acts h, refl)
some_row d first n h (Roam a) x come = some_roam d first n h (Ap a) come
some_row d first n h (Revoke s) x come = (revoke_acts d n h (Sta s), refl)
some_row d first n h (Secret named psk) x come = (secret_acts d n h named psk, refl)
some_row d first n h (Renew s) x come = some_renew d first n h (Sta s) come.0 come.1
some_row d first n h (Announce octets) x come = (announce_acts d n h octets, refl)

pub some_group_by : (d : Domain) (first : ℕ) (n : Node) (h : List Act) (event : NodeEvent) (x : Option PmkR1) → CanCome d n event → (g : List Act) × GroupBy (here d first n) h event x g
some_group_by d first n h event x come =
    let w = some_row d first n h event x come in
    (and_switch d n h w.0, record { acts = w.0; row = w.1; is = refl })
