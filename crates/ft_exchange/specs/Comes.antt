-- A management frame comes (IEEE Std 802.11-2020, 9.3.3, profile).
use Rattle.std.specs.Prelude.{◌≡◌, ℕ, ◌+◌, List, Some}
use Rattle.domain_base.specs.declared.names.Node.{Node}
use Rattle.rsn_elements.specs.Elements.{ElementFields}
use Rattle.run_journal.specs.declared.domain.Domain.{Domain}
use Rattle.run_journal.specs.declared.acts.Act.{Act}
use Rattle.run_journal.specs.Questions.{draws}
use Rattle.domain_rules.specs.Associating.{management_verdict}
use Rattle.domain_rules.specs.Closing.{sender}
use Rattle.domain_rules.specs.Reading.{Management, Managed, Reads}
use Rattle.domain_rules.specs.Verdict.{first_verdict, management_sender}

-- the octets are that management frame for node n from its peer p, and these are its elements
pub record IsManagementFrom (d : Domain) (n p : Node) (octets : List ℕ) (b : Management) (e : ElementFields) : Type 0 where
  pub reads : Reads d.akm octets (Managed b e)
  pub from : sender d n (Managed b e) ≡ Some p
  pub sender_is : management_sender d n b.header ≡ Some p
  pub verdict_is : (first : ℕ) (h : List Act) → first_verdict d first n h (Managed b e) ≡ management_verdict d (first + draws h) n h p b.kind b e
