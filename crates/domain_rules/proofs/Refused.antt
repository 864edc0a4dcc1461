-- A frame that is refused, and one that is refused by itself and the history alone.
use Rattle.std.proofs.Common.{◌≡◌, ℕ, Bool, true, cond, List, Option, None, refl, sym, ap, subst, ◌∙◌}
use Rattle.domain_base.specs.declared.names.Node.{Node}
use Rattle.run_journal.specs.declared.domain.Domain.{Domain}
use Rattle.run_journal.specs.declared.acts.Reason.{Reason}
use Rattle.run_journal.specs.declared.acts.Outcome.{Outcome}
use Rattle.run_journal.specs.declared.acts.Outcome.TheVariants.{Refused}
use Rattle.run_journal.specs.declared.acts.Seal.{Seal}
use Rattle.run_journal.specs.declared.acts.Act.{Act}
use Rattle.domain_rules.specs.Reading.{Reading}
use Rattle.domain_rules.specs.Facts.{Facts}
use Rattle.domain_rules.specs.Verdict.{Knows, ComesSoFar, comes_so_far, first_verdict, further, and_then, verdict}
use Rattle.domain_rules.specs.Rows.{seal_in, refused_seal}

-- after that history the frame is refused so, and this was sealed
pub record IsRefused (d : Domain) (first : ℕ) (n : Node) (h : List Act) (r : Reading) (why : Reason) (s : Option Seal) : Type 0 where
  pub facts : Facts
  pub knows : Knows d first n h r facts
  pub refused : verdict d first n h r facts ≡ Refused why
  pub seal_is : s ≡ refused_seal d first n h r

-- nothing has to be known of a frame beside its fields
abbrev pub no_facts : Facts
no_facts = record { requested = None; responded = None; unwrapped = None; data_ = None; pulled = None; opened = None; unwrapped_igtk = None; kept = 0 }

refused_knows : (d : Domain) (first : ℕ) (n : Node) (h : List Act) (r : Reading) (facts : Facts) (why : Reason) → first_verdict d first n h r ≡ Refused why → Knows d first n h r facts
refused_knows d first n h r facts why refused = λ far. absurd (subst ComesSoFar refused far)

first_refused : (d : Domain) (first : ℕ) (n : Node) (h : List Act) (r : Reading) (facts : Facts) (why : Reason) → first_verdict d first n h r ≡ Refused why → verdict d first n h r facts ≡ Refused why
first_refused d first n h r facts why refused = ap (λ (o : Outcome). and_then o (further d first n h r facts)) refused

-- no seal is noted of it
pub refused_first : (d : Domain) (first : ℕ) (n : Node) (h : List Act) (r : Reading) (why : Reason) → first_verdict d first n h r ≡ Refused why → IsRefused d first n h r why None
refused_first d first n h r why refused = record {
  facts = no_facts;
  knows = refused_knows d first n h r no_facts why refused;
  refused = first_refused d first n h r no_facts why refused;
  seal_is = rw refused refl;
}

-- a frame that comes so far notes what it had sealed
pub far_seal : (d : Domain) (first : ℕ) (n : Node) (h : List Act) (r : Reading) (o : Outcome) → first_verdict d first n h r ≡ o → comes_so_far o ≡ true → seal_in d n h r ≡ refused_seal d first n h r
far_seal d first n h r o is far = sym (ap (λ (x : Outcome). cond (comes_so_far x) (seal_in d n h r) None) is ∙ ap (λ (b : Bool). cond b (seal_in d n h r) None) far)
