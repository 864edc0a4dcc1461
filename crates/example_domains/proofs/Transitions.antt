-- What an access point and a station have of a fast transition, by the answers to what is asked of their histories.
use Rattle.std.proofs.Common.{◌≡◌, ℕ, true, List, Some, None, refl, ap, ◌∙◌}
use Rattle.std.specs.Prelude.{option_and_then}
use Rattle.domain_base.specs.declared.names.Akm.TheVariants.{FtPsk}
use Rattle.domain_base.specs.declared.names.Node.{Node}
use Rattle.domain_rules.specs.Asking.{is_by_roam, has_heard}
use Rattle.domain_rules.specs.FastTransition.{r1_of}
use Rattle.domain_rules.specs.TransitionKeys.{Transition, transition, session_transition, re_resp_keying}
use Rattle.key_hierarchy.specs.FastTransition.{ft_ptk}
use Rattle.key_hierarchy.specs.Keys.{ptk_by, ptk}
use Rattle.key_hierarchy.specs.declared.answers.PullAnswer.TheVariants.{Found}
use Rattle.key_hierarchy.specs.declared.fast_transition.PmkR1.{PmkR1}
use Rattle.key_hierarchy.specs.declared.inputs.Inputs.{Inputs}
use Rattle.run_journal.specs.Acts.{Derivation}
use Rattle.run_journal.specs.Holders.{look, before_finished}
use Rattle.run_journal.specs.Questions.{attempt, derivation}
use Rattle.run_journal.specs.declared.acts.Act.{Act}
use Rattle.run_journal.specs.declared.acts.Kind.TheVariants as kind

-- the key of the PMK-R1 that is given
pub ptk_of_r1 : (i : Inputs) → i.akm ≡ FtPsk → ptk i ≡ ft_ptk (r1_of i) i.snonce i.anonce i.aa i.spa
unfolding ptk
ptk_of_r1 i is = ap (λ akm. ptk_by akm i) is

pub transition-of : (p : Node) (h part : List Act) (x : Derivation) (id name : List ℕ) (k : PmkR1) → attempt p h ≡ Some part → is_by_roam part ≡ true → derivation p part ≡ Some x → look p h ≡ Some (record { r0kh_id = id; name = name; answer = Found k })
    → transition p h ≡ Some (record { key = x; asked = name; r1_name = k.name })
transition-of p h part x id name k s begun derives looks = rw (s, begun, derives, looks) refl

pub no_transition : (p : Node) (h : List Act) → attempt p h ≡ None → transition p h ≡ None
no_transition p h s = rw s refl

pub session-of : (p : Node) (h before : List Act) (y : Transition) → before_finished p h ≡ Some before → transition p before ≡ Some y → session_transition p h ≡ Some y
session-of p h before y is was = ap (option_and_then (λ (x : List Act). transition p x)) is ∙ was

pub re_resp-keyed : (p : Node) (h part : List Act) (x : Derivation) → attempt p h ≡ Some part → is_by_roam part ≡ true → has_heard p kind.FtResp part ≡ true → derivation p part ≡ Some x → re_resp_keying p h ≡ Some x
re_resp-keyed p h part x s begun heard derives = rw (s, begun, heard, derives) refl
