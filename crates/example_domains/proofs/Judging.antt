-- What comes of a frame from a listed node, by what comes of it so far and what reading further tells.
use Rattle.std.proofs.Common.{◌≡◌, ◌+◌, false, List, Some, ap, ◌∙◌}
use Rattle.std.specs.Prelude.{not, ◌||◌, true}
use Rattle.domain_base.specs.declared.names.Node.{Node}
use Rattle.domain_rules.proofs.Exchange.{stands}
use Rattle.domain_rules.proofs.OneOutcome.{from_named}
use Rattle.domain_rules.proofs.Verdicts.{management-from, managed-from, keyed-from}
use Rattle.domain_rules.specs.Associating.{management_verdict}
use Rattle.domain_rules.specs.Facts.{Facts}
use Rattle.domain_rules.specs.Network.{bssid, direction, goes_like, peer_of}
use Rattle.domain_rules.specs.Reading.{Management, KeyMessage, Managed, Keyed}
use Rattle.domain_rules.specs.Verdict.{is_mine, management_sender, management_further, key_verdict, key_further, first_verdict, further_from, and_then, verdict}
use Rattle.rsn_elements.specs.Elements.{ElementFields}
use Rattle.run_journal.specs.Questions.{draws}
use Rattle.run_journal.specs.declared.acts.Act.{Act}
use Rattle.run_journal.specs.declared.acts.Outcome.TheVariants.{Accepted}
use Rattle.run_journal.specs.declared.acts.Outcome.{Outcome}
use Rattle.run_journal.specs.declared.domain.Domain.{Domain}

-- a management frame
module _ (d : Domain) (n p : Node) (h : List Act) (b : Management) (e : ElementFields) (mine : is_mine d n b.header ≡ true) (from : peer_of d n b.header.a2 ≡ Some p) (same : b.header.a3 ≡ bssid d n p) where
  sender_is : management_sender d n b.header ≡ Some p
  sender_is = management-from d n p b.header from same

  pub managed-first : (o : Outcome) → management_verdict d (0 + draws h) n h p b.kind b e ≡ o → first_verdict d 0 n h (Managed b e) ≡ o
  managed-first o is = managed-from d 0 n h b e p mine sender_is ∙ is

  pub managed-is : (facts : Facts) (o then_ last : Outcome) → management_verdict d (0 + draws h) n h p b.kind b e ≡ o → management_further d (0 + draws h) n h p b e facts b.kind ≡ then_ → and_then o then_ ≡ last
      → verdict d 0 n h (Managed b e) facts ≡ last
  managed-is facts o then_ last first more is =
      let one : first_verdict d 0 n h (Managed b e) ≡ o = managed-first o first in
      ap (λ (x : Outcome). and_then x (further_from (management_sender d n b.header) (λ q. management_further d (0 + draws h) n h q b e facts b.kind))) one ∙ ap (and_then o) (from_named (management_sender d n b.header) p (λ q. management_further d (0 + draws h) n h q b e facts b.kind) sender_is ∙ more) ∙ is

-- an EAPOL-Key message
pub keyed-is : (d : Domain) (n p : Node) (h : List Act) (k : KeyMessage) (facts : Facts) (o : Outcome) → (not (is_mine d n k.header) || goes_like k.direction (direction n)) ≡ false → peer_of d n k.header.a2 ≡ Some p
    → key_verdict d (0 + draws h) n h p k k.message ≡ o → key_further d n h p k k.message facts ≡ Accepted → and_then o Accepted ≡ o → verdict d 0 n h (Keyed k) facts ≡ o
keyed-is d n p h k facts o mine from first more keeps =
    stands o _ _ (keyed-from d 0 n h k p mine from ∙ first) (from_named (peer_of d n k.header.a2) p (λ q. key_further d n h q k k.message facts) from ∙ more) keeps
