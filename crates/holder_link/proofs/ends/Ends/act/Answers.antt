use Rattle.std.proofs.Common.{ℕ, List, ◌∙◌, ap, sym}
use Rattle.link_steps.specs.declared.steps.LinkEvent.TheVariants.{ToAsker, ToHolder}
use Rattle.holder_link.proofs.Carried.{carried, carried_silent}
use Rattle.holder_link.proofs.ends.Ends.act.Goals as goal

pub returns-in-Ask-clause-acts : goal.returns-in-Ask-clause-acts
returns-in-Ask-clause-acts c = carried _ _ _ _ _ c.in-Ask.is c.ask.ensures.acts

pub returns-in-Forget-clause-acts : goal.returns-in-Forget-clause-acts
returns-in-Forget-clause-acts c = carried_silent _ _ _ c.args.out.now c.forget.result c.silent.result c.in-Forget.is c.silent.ensures c.forget.ensures.acts

pub returns-in_ok-row-in-Row-clause-acts : goal.returns-in_ok-row-in-Row-clause-acts
returns-in_ok-row-in-Row-clause-acts c = carried_silent _ _ _ c.args.out.now c.in_ok-row-in-Row.field-0 c.silent-in-Row.result c.in-Row.is c.silent-in-Row.ensures c.in_ok-row-in-Row.ensures.acts

pub returns-in-Revoke-clause-acts : goal.returns-in-Revoke-clause-acts
returns-in-Revoke-clause-acts c = carried_silent _ _ _ c.args.out.now c.revoke.result c.silent-in-Revoke.result c.in-Revoke.is c.silent-in-Revoke.ensures c.revoke.ensures.acts

pub returns-in-ToAsker-clause-acts : goal.returns-in-ToAsker-clause-acts
returns-in-ToAsker-clause-acts c = carried_silent _ _ _ c.args.out.now c.to_asker.result c.silent-in-ToAsker.result (c.in-ToAsker.is ∙ ap (λ (w : List ℕ). ToAsker w) (sym c.as_slice.ensures)) c.silent-in-ToAsker.ensures c.to_asker.ensures.acts

pub returns-in-ToHolder-clause-acts : goal.returns-in-ToHolder-clause-acts
returns-in-ToHolder-clause-acts c = carried _ _ _ _ _ (c.in-ToHolder.is ∙ ap (λ (w : List ℕ). ToHolder w) (sym c.as_slice-in-ToHolder.ensures)) c.to_holder.ensures.acts
