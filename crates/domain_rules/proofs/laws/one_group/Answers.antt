use Rattle.std.proofs.Common.{refl}
use Rattle.domain_base.specs.declared.names.Node.TheVariants.{Ap, Sta}
use Rattle.run_journal.specs.Questions.{attempt}
use Rattle.domain_rules.specs.AccessPointRows.{retry_acts, expire_acts}
use Rattle.domain_rules.specs.StationRows.{leave_acts}
use Rattle.domain_rules.specs.DataRows.{send_acts}
use Rattle.domain_rules.specs.ManagementFrames.{announce_acts}
use Rattle.domain_rules.specs.KeyHolders.{revoke_acts}
use Rattle.domain_rules.specs.ChangedKeys.{secret_acts}
use Rattle.domain_rules.specs.Owing.{and_switch}
use Rattle.domain_rules.specs.Here.{here}
use Rattle.domain_rules.proofs.OneGroup.{one_group}
use Rattle.domain_rules.proofs.SomeGroup.{some_rows, some_connect, some_roam, some_rekey, some_renew}
use Rattle.domain_rules.proofs.laws.one_group.Goals as goal

pub returns : goal.returns
returns c = record {
  one = one_group;
  taken = λ d first n h octets r facts reads knows.
      (let rows = some_rows d first n h octets r facts in
      (and_switch d n h rows.0, record { acts = rows.0; row = record { r = r; reads = reads; facts = facts; knows = knows; row = rows.1 }; is = refl }));
  begun = λ d first n h a. (let w = some_connect d first n h (Ap a) in (and_switch d n h w.0, record { acts = w.0; row = w.1; is = refl }));
  roams = λ d first n h a suite. (let w = some_roam d first n h (Ap a) suite in (and_switch d n h w.0, record { acts = w.0; row = w.1; is = refl }));
  again = λ d first n h s.
      (and_switch d n h (retry_acts d n h (Sta s) (attempt (Sta s) h)), record { acts = retry_acts d n h (Sta s) (attempt (Sta s) h); row = refl; is = refl });
  rekeyed = λ d first a h. (let w = some_rekey d first a h in (and_switch d (Ap a) h w.0, record { acts = w.0; row = w.1; is = refl }));
  sends = λ d first n h q tid octets. (and_switch d n h (send_acts (here d first n) h q tid octets), record { acts = send_acts (here d first n) h q tid octets; row = refl; is = refl });
  expired = λ d first n h s. (and_switch d n h (expire_acts (Sta s) h), record { acts = expire_acts (Sta s) h; row = refl; is = refl });
  revoked = λ d first n h s. (and_switch d n h (revoke_acts d n h (Sta s)), record { acts = revoke_acts d n h (Sta s); row = refl; is = refl });
  changed = λ d first n h named psk.
      (and_switch d n h (secret_acts d n h named psk), record { acts = secret_acts d n h named psk; row = refl; is = refl });
  renewed = λ d first a h s on. (let w = some_renew d first (Ap a) h (Sta s) refl on in (and_switch d (Ap a) h w.0, record { acts = w.0; row = w.1; is = refl }));
  announced = λ d first a h octets. (and_switch d (Ap a) h (announce_acts d (Ap a) h octets), record { acts = announce_acts d (Ap a) h octets; row = refl; is = refl });
  left = λ d first n h. (and_switch d n h (leave_acts h), record { acts = leave_acts h; row = refl; is = refl });
}
