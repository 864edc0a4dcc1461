use Rattle.std.proofs.Common.{List, ℕ, length, sym, ap, subst, ◌∙◌}
use Rattle.link_steps.specs.declared.steps.Step.{Step}
use Rattle.holder_link.specs.Acts.{Acts, BothHave, after}
use Rattle.holder_link.specs.Between.{state_of_ends}
use Rattle.link_runs.proofs.Notes.{ids_stay}
use Rattle.link_runs.proofs.steps.happen.Goals as goal

pub returns-clause-did : goal.returns-clause-did
returns-clause-did c = record {
  event_is = ap (λ (s : Step). s.event) c.fill-step.ensures;
  acts = subst (λ (s : Step). Acts (state_of_ends c.args.ends.now) s.event s.sent s.answer) (sym c.fill-step.ensures) c.in_ok-acted.ensures.acts;
  both = c.in_ok-acted.ensures.state ∙ ap (λ (s : Step). after s.event s.answer (state_of_ends c.args.ends.now)) (sym c.fill-step.ensures);
}

pub returns-clause-one : goal.returns-clause-one
returns-clause-one c =
    ap (λ (b : BothHave). length b.ids) c.in_ok-acted.ensures.state
    ∙ ap (λ (ids : List (List ℕ)). length ids) (ids_stay _ _ _ _ c.in_ok-acted.ensures.acts)
    ∙ c.requires.one

pub returns-in_err-acted-clause-one : goal.returns-in_err-acted-clause-one
returns-in_err-acted-clause-one c = ap (λ (b : BothHave). length b.ids) c.in_err-acted.ensures.err ∙ c.requires.one

pub returns-clause-sent : goal.returns-clause-sent
returns-clause-sent c = ap (λ (s : Step). s.sent) c.fill-step.ensures
