use Rattle.std.proofs.Common.{Bool, Some, None, refl, sym, subst}
use Rattle.act_memory.specs.Templates.{TemplateWhere}
use Rattle.act_memory.proofs.room.template_where.Goals as goal

pub returns-then-not-is_wanted : goal.returns-then-not-is_wanted
returns-then-not-is_wanted c =
    subst (λ (b : Bool). TemplateWhere b c.args.here.domain.now c.args.here.node c.args.peer c.args.r0kh_id.now None) (sym c.if-not-is_wanted.true) refl

pub returns : goal.returns
returns c =
    subst (λ (b : Bool). TemplateWhere b c.args.here.domain.now c.args.here.node c.args.peer c.args.r0kh_id.now (Some c.in_ok-inputs.inputs)) (sym c.if-not-is_wanted.false) c.in_ok-inputs.ensures
