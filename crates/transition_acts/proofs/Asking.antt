-- Looks at key holders, and what begins with them.
use Rattle.std.proofs.Common.{◌≡◌, ◌∙◌, ℕ, true, false, List, [], ◌∷◌, Option, Some, None, refl, sym, ap}
use Rattle.std.specs.Prelude.{is_some}
use Rattle.domain_base.specs.declared.names.Node.{Node}
use Rattle.key_hierarchy.specs.declared.answers.PullAnswer.{PullAnswer}
use Rattle.run_journal.specs.declared.acts.Act.{Act}
use Rattle.run_journal.specs.declared.acts.Act.TheVariants.{Closed}
use Rattle.run_journal.specs.declared.acts.Part.TheVariants.{Attempt, Session}
use Rattle.run_journal.specs.declared.reply.Keyed.{Keyed}
use Rattle.domain_rules.specs.Closing.{close_attempt}
use Rattle.domain_rules.specs.FastTransition.{single}
use Rattle.domain_rules.specs.TransitionKeys.{Asked}
use Rattle.domain_rules.specs.TransitionRows.{looked_by, looked_for}
use Rattle.ft_exchange.specs.Told.{left_acts}
use Rattle.transition_acts.specs.Looks.{look_named, look_asked, look_acts}

named : (p : Node) (a : Asked) (name : Option (List ℕ)) (answer : Option PullAnswer) → look_acts p (look_named a.r0kh_id name) answer ≡ looked_by p a name answer
named p a None answer = refl
named p a (Some name) None = refl
named p a (Some name) (Some x) = refl

pub look_is : (p : Node) (x : Option Asked) (answer : Option PullAnswer) → look_acts p (look_asked x) answer ≡ looked_for p x answer
look_is p None answer = refl
look_is p (Some a) answer = named p a (single a.names) answer

pub closes_it : (p : Node) (part : Option (List Act)) → is_some part ≡ true → close_attempt p part ≡ Closed p Attempt ∷ []
closes_it p None is = cc is
closes_it p (Some part) is = refl

pub closes_none : (p : Node) (part : Option (List Act)) → is_some part ≡ false → close_attempt p part ≡ []
closes_none p None is = refl
closes_none p (Some part) is = cc is

-- the session that is left ends where a key was installed
pub left_one : (q : Node) (y : Keyed) (left : Option Node) (installed : Option Keyed) → installed ≡ Some y → left ≡ Some q → Closed q Session ∷ [] ≡ left_acts left installed
left_one q y left installed some is = sym (ap (λ (x : Option Keyed). left_acts left x) some ∙ ap (λ (x : Option Node). left_acts x (Some y)) is)
