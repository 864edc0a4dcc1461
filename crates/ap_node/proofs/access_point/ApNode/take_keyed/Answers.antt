use Rattle.std.proofs.Common.{◌∙◌, ℕ, sym, ap, subst}
use Rattle.std.specs.Prelude.{◌<◌, length}
use Rattle.domain_base.specs.declared.names.Node.TheVariants.{Ap}
use Rattle.domain_rules.specs.Rows.{Take}
use Rattle.ap_node.proofs.Ending.{ends_with}
use Rattle.ap_node.proofs.access_point.ApNode.take_keyed.Goals as goal

pub returns-clause-taken : goal.returns-clause-taken
returns-clause-taken over c =
    ends_with c.args.here.domain.now (Take c.args.heard.now.octets.now) c.args.self.now c.hand.new.self c.end.new.self _ _ c.args.out.now.acts c.hand.new.out.acts c.end.new.out.acts c.in_ok-outcome.outcome c.end.result c.in_ok-outcome.ensures.done c.end.ensures.state c.end.ensures.acts c.end.ensures.outcome

pub returns-in_err-outcome-clause-change : goal.returns-in_err-outcome-clause-change
returns-in_err-outcome-clause-change over c = c.hand.ensures.change

pub returns-clause-change : goal.returns-clause-change
returns-clause-change over c = c.hand.ensures.change

pub returns-in_err-outcome-clause-others : goal.returns-in_err-outcome-clause-others
returns-in_err-outcome-clause-others over c = c.hand.ensures.others

pub returns-clause-others : goal.returns-clause-others
returns-clause-others over c = c.hand.ensures.others

pub returns-in_err-outcome-clause-no_less : goal.returns-in_err-outcome-clause-no_less
returns-in_err-outcome-clause-no_less over c = c.hand.ensures.no_less

pub returns-clause-no_less : goal.returns-clause-no_less
returns-clause-no_less over c = c.hand.ensures.no_less

pub hand-requires-clause-node : goal.hand-requires-clause-node
hand-requires-clause-node over c = c.requires.node

pub hand-requires-clause-listed : goal.hand-requires-clause-listed
hand-requires-clause-listed over c = c.requires.listed

pub end-requires-clause-node : goal.end-requires-clause-node
end-requires-clause-node over c = c.requires.node ∙ ap (λ (a : ℕ). Ap a) (sym c.hand.ensures.number)

pub end-requires-clause-listed : goal.end-requires-clause-listed
end-requires-clause-listed over c = subst (λ (a : ℕ). a < length c.args.here.domain.now.aps) (sym c.hand.ensures.number) c.requires.listed
