-- A response that is accepted carries a group key.
use Rattle.std.proofs.Common.{◌∙◌, Bool, Option, sym, ap}
use Rattle.std.specs.Prelude.{is_some}
use Rattle.rsn_elements.specs.Fields.{element_fields}
use Rattle.ft_exchange.specs.Judged.{wanted, reassociation_reason}
use Rattle.ft_exchange.specs.declared.group.CarriedKeys.{CarriedKeys}
use Rattle.ft_exchange.proofs.Judging.{never_without}
use Rattle.ft_exchange.proofs.expected.judge_reassoc_response.Goals as goal

pub returns-in-None : goal.returns-in-None
returns-in-None c = absurd
    (never_without (wanted c.args.expected.now) (element_fields c.args.elements.now)
    (ap (λ (b : Bool). reassociation_reason (wanted c.args.expected.now) (element_fields c.args.elements.now) b) (sym (c.is_some.ensures ∙ ap (λ (o : Option CarriedKeys). is_some o) c.in-None.is))
    ∙ sym c.reassociation_fault.ensures ∙ c.in_default.is))
