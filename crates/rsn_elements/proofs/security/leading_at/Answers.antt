use Rattle.std.proofs.Common.{ℕ, List, subst}
use Rattle.rsn_elements.specs.Rsne.{IsSuite, IsList, Field}
use Rattle.rsn_elements.proofs.RsneLaws.{same_field, suite_cut, list_cut, broken}
use Rattle.rsn_elements.proofs.security.leading_at.Goals as goal

pub returns-in_default-suites_at : goal.returns-in_default-suites_at
returns-in_default-suites_at c g p a rest l =
    let group = same_field IsSuite suite_cut _ _ _ g _ l.group c.in-Some.ensures in
    broken (IsList 4) _ _ _ p group.1 l.pairwise c.in_default-suites_at.ensures

pub returns-in_default-suites_at-2 : goal.returns-in_default-suites_at-2
returns-in_default-suites_at-2 c g p a rest l =
    let group = same_field IsSuite suite_cut _ _ _ g _ l.group c.in-Some.ensures in
    let pairwise = same_field (IsList 4) (list_cut 4) _ _ _ p _ (subst (λ (w : List ℕ). Field (IsList 4) w p l.behind_pairwise) group.1 l.pairwise) c.in-Some-suites_at.ensures in
    broken (IsList 4) _ _ _ a pairwise.1 l.akms c.in_default-suites_at-2.ensures
