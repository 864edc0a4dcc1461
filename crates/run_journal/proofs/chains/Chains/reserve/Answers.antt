-- A longer table has the same places.
use Rattle.std.proofs.Common.{◌≡◌, ◌≤◌, ℕ, List, Option, None, get_or, length, ap, ◌∙◌, subst, sym, arith}
use Rattle.run_journal.specs.Chained.{IsLast}
use Rattle.run_journal.proofs.Links.{widened}
use Rattle.run_journal.proofs.chains.Chains.reserve.Goals as goal

pub returns-in_ok-resize-clause-chained : goal.returns-in_ok-resize-clause-chained
returns-in_ok-resize-clause-chained c named h =
    let old : List (Option ℕ) = c.args.self.now.lasts.items in
    let short : length old ≤ c.args.chains = omega arith in
    let same : (k : ℕ) → get_or c.resize.new.self.items k None ≡ get_or old k None = λ k. ap (λ (w : List (Option ℕ)). get_or w k None) c.in_ok-resize.ensures.items ∙ widened old c.args.chains _ short k in
    record {
      len = omega arith;
      last = λ k. subst (λ (o : Option ℕ). IsLast named k (length named) o) (sym (same k)) (h.last k);
      before = λ k i e. subst (λ (w : List (Option ℕ)). IsLast named k i (get_or w i None)) (sym c.reserve.ensures.items) (h.before k i e);
    }

pub returns-else-len-chains-clause-chained : goal.returns-else-len-chains-clause-chained
returns-else-len-chains-clause-chained c named h = record {
  len = omega arith;
  last = h.last;
  before = λ k i e. subst (λ (w : List (Option ℕ)). IsLast named k i (get_or w i None)) (sym c.reserve.ensures.items) (h.before k i e);
}
