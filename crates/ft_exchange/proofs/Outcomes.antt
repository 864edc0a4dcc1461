-- What a reason comes to, by the definitions of verdicts.
use Rattle.std.proofs.Common.{◌≡◌, ◌∙◌, ℕ, Bool, true, false, Option, Some, None, List, refl, sym, ap}
use Rattle.std.specs.Prelude.{not, if◌then◌else◌}
use Rattle.domain_base.specs.declared.names.Akm.{Akm}
use Rattle.domain_base.specs.declared.names.Akm.TheVariants.{FtPsk}
use Rattle.rsn_elements.specs.Transition.{MdeFields}
use Rattle.rsn_elements.specs.Elements.{ElementFields}
use Rattle.rsn_elements.specs.Fits as fits
use Rattle.run_journal.specs.declared.domain.Domain.{Domain}
use Rattle.run_journal.specs.Events.{protects}
use Rattle.run_journal.specs.declared.acts.Reason.{Reason}
use Rattle.run_journal.specs.declared.acts.Outcome.{Outcome}
use Rattle.run_journal.specs.declared.acts.Outcome.TheVariants.{Refused}
use Rattle.domain_rules.specs.Suites.{rsne_status, without_status}
use Rattle.domain_rules.specs.FastTransition.{mde_status}
use Rattle.ft_exchange.specs.Elements.{mde_code, status_or, elements_status}
use Rattle.ft_exchange.specs.Judged.{status_first, unless, outcome_by}

pub out_unless : (b : Bool) (why : Reason) (x : Option Reason) → outcome_by (unless b why x) ≡ (if b then outcome_by x else Refused why)
out_unless true why x = refl
out_unless false why x = refl

pub out_status : (c : Option ℕ) (x : Option Reason) → outcome_by (status_first c x) ≡ without_status c (outcome_by x)
out_status None x = refl
out_status (Some code) x = refl

two_statuses : (a b : Option ℕ) (o : Outcome) → without_status (status_or a b) o ≡ without_status a (without_status b o)
two_statuses None b o = refl
two_statuses (Some code) b o = refl

mde_is : (d : Domain) (m : Option MdeFields) → mde_status d m ≡ mde_code d.mdid m
mde_is d None = refl
mde_is d (Some m) = refl

pub if_not : (b : Bool) (x y : Outcome) → (if not b then x else y) ≡ (if b then y else x)
if_not true x y = refl
if_not false x y = refl

-- a status of the RSNE or of the MDE
pub elements_are : (d : Domain) (protected : Bool) (mdid : List ℕ) (e : ElementFields) (o : Outcome) → d.akm ≡ FtPsk → protected ≡ protects d → mdid ≡ d.mdid
    → without_status (rsne_status d e.rsne) (without_status (mde_status d e.mde) o) ≡ without_status (elements_status protected mdid e) o
elements_are d protected mdid e o suite mfp is =
    ap (λ (akm : Akm). without_status (fits.rsne_status (protects d) akm e.rsne) (without_status (mde_status d e.mde) o)) suite
    ∙ ap (λ (c : Option ℕ). without_status (fits.rsne_status (protects d) FtPsk e.rsne) (without_status c o)) (mde_is d e.mde)
    ∙ sym (two_statuses (fits.rsne_status (protects d) FtPsk e.rsne) (mde_code d.mdid e.mde) o)
    ∙ ap (λ (b : Bool). without_status (elements_status b d.mdid e) o) (sym mfp)
    ∙ ap (λ (m : List ℕ). without_status (elements_status protected m e) o) (sym is)
