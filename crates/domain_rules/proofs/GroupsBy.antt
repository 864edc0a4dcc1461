-- The one group of acts of an event, by what a key holder gave.
use Rattle.std.proofs.Common.{◌≡◌, ℕ, List, Option, Some, sym, ap, ◌∙◌}
use Rattle.std.specs.Prelude.{◌↔◌}
use Rattle.domain_base.specs.declared.names.Node.{Node}
use Rattle.domain_base.specs.declared.names.Node.TheVariants.{Ap, Sta}
use Rattle.key_hierarchy.specs.declared.fast_transition.PmkR1.{PmkR1}
use Rattle.run_journal.specs.declared.domain.Domain.{Domain}
use Rattle.run_journal.specs.declared.acts.Act.{Act}
use Rattle.domain_rules.specs.Rows.{NodeEvent, Take, Begin, Retry, Rekey, Send, Expire, Leave, Roam, Revoke, Secret, Renew, Announce, RowOf, Adds}
use Rattle.domain_rules.specs.Owing.{and_switch}
use Rattle.domain_rules.specs.Due.{RowBy, GroupBy, given_in}
use Rattle.domain_rules.specs.Here.{here}
use Rattle.domain_rules.proofs.OneGroup.{take_by, one_connect, one_rekey, one_roam, one_renew}
use Rattle.domain_rules.proofs.AnswerTold.{second, second_longer, given_second, told}

one_row : (d : Domain) (first : ℕ) (n : Node) (h : List Act) (event : NodeEvent) (x : Option PmkR1) (f g : List Act) → RowBy (here d first n) h event x f → RowBy (here d first n) h event x g → f ≡ g
one_row d first n h (Take octets) x f g s t = take_by d first n h octets f g s.0 t.0 (s.1 ∙ sym t.1)
one_row d first n h (Begin a) x f g s t = one_connect d first n h (Ap a) f g s t
one_row d first n h (Retry p) x f g s t = s ∙ sym t
one_row d first n h Rekey x f g s t = one_rekey d first n h f g s t
one_row d first n h (Send q tid octets) x f g s t = s ∙ sym t
one_row d first n h (Expire p) x f g s t = s ∙ sym t
one_row d first n h Leave x f g s t = s ∙ sym t
one_row d first n h (Roam a) x f g s t = one_roam d first n h (Ap a) f g s t
one_row d first n h (Revoke p) x f g s t = s ∙ sym t
one_row d first n h (Secret named psk) x f g s t = s ∙ sym t
one_row d first n h (Renew p) x f g s t = one_renew d first n h (Sta p) f g s t
one_row d first n h (Announce octets) x f g s t = s ∙ sym t

pub one_by : (d : Domain) (first : ℕ) (n : Node) (h : List Act) (event : NodeEvent) (x : Option PmkR1) (f g : List Act) → GroupBy (here d first n) h event x f → GroupBy (here d first n) h event x g → f ≡ g
one_by d first n h event x f g s t = s.is ∙ ap (and_switch d n h) (one_row d first n h event x s.acts t.acts s.row t.row) ∙ sym t.is

-- ---- what is added by some answer is added

row_of : (d : Domain) (first : ℕ) (n : Node) (h : List Act) (event : NodeEvent) (x : Option PmkR1) (g : List Act) → RowBy (here d first n) h event x g → RowOf (here d first n) h event g
row_of d first n h (Take octets) x g s = s.0
row_of d first n h (Begin a) x g s = s
row_of d first n h (Retry p) x g s = s
row_of d first n h Rekey x g s = s
row_of d first n h (Send q tid octets) x g s = s
row_of d first n h (Expire p) x g s = s
row_of d first n h Leave x g s = s
row_of d first n h (Roam a) x g s = s
row_of d first n h (Revoke p) x g s = s
row_of d first n h (Secret named psk) x g s = s
row_of d first n h (Renew p) x g s = s
row_of d first n h (Announce octets) x g s = s

pub adds_of : (d : Domain) (first : ℕ) (n : Node) (h : List Act) (event : NodeEvent) (x : Option PmkR1) (g : List Act) → GroupBy (here d first n) h event x g → Adds (here d first n) h event g
adds_of d first n h event x g s = record { acts = s.acts; row = row_of d first n h event x s.acts s.row; is = s.is }

-- ---- and what is added is added by each answer that the acts allow

second_switched : (d : Domain) (n : Node) (h acts : List Act) (y : Option PmkR1) → second acts ≡ Some y → second (and_switch d n h acts) ≡ Some y
second_switched d (Sta s) h acts y is = is
second_switched d (Ap a) h acts y is = second_longer acts _ y is

row_by : (d : Domain) (first : ℕ) (n : Node) (h : List Act) (event : NodeEvent) (x : Option PmkR1) (g : List Act) → RowOf (here d first n) h event g → ((y : Option PmkR1) → second g ≡ Some y → y ≡ x) → RowBy (here d first n) h event x g
row_by d first n h (Take octets) x g s is = told d first n h octets g x s is
row_by d first n h (Begin a) x g s is = s
row_by d first n h (Retry p) x g s is = s
row_by d first n h Rekey x g s is = s
row_by d first n h (Send q tid octets) x g s is = s
row_by d first n h (Expire p) x g s is = s
row_by d first n h Leave x g s is = s
row_by d first n h (Roam a) x g s is = s
row_by d first n h (Revoke p) x g s is = s
row_by d first n h (Secret named psk) x g s is = s
row_by d first n h (Renew p) x g s is = s
row_by d first n h (Announce octets) x g s is = s

pub group_by : (d : Domain) (first : ℕ) (n : Node) (h : List Act) (event : NodeEvent) (x : Option PmkR1) (g : List Act) → Adds (here d first n) h event g → ((y : Option PmkR1) → second g ≡ Some y → y ≡ x) → GroupBy (here d first n) h event x g
group_by d first n h event x g s is = record {
  acts = s.acts;
  row = row_by d first n h event x s.acts s.row (λ y at. is y (ap second s.is ∙ second_switched d n h s.acts y at));
  is = s.is;
}

pub told_by_acts : (d : Domain) (first : ℕ) (n : Node) (h : List Act) (event : NodeEvent) (g : List Act) → Adds (here d first n) h event g ↔ GroupBy (here d first n) h event (given_in g) g
told_by_acts d first n h event g = (λ s. group_by d first n h event (given_in g) g s (λ y at. sym (given_second g y at)), λ s. adds_of d first n h event (given_in g) g s)
