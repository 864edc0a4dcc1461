use Rattle.std.proofs.Common.{Bool, subst}
use Rattle.act_memory.specs.Templates.{TemplateWhere}
use Rattle.act_memory.proofs.room.templates_for.Goals as goal

pub returns-clause-derived : goal.returns-clause-derived
returns-clause-derived c =
    subst (λ (b : Bool). TemplateWhere b c.args.here.domain.now c.args.here.node c.args.peer c.args.r0kh_id.now c.in_ok-derived.derived) c.may_derive.ensures c.in_ok-derived.ensures

pub returns-clause-installed : goal.returns-clause-installed
returns-clause-installed c =
    subst (λ (b : Bool). TemplateWhere b c.args.here.domain.now c.args.here.node c.args.peer c.args.r0kh_id.now c.in_ok-installed.installed) c.may_install.ensures c.in_ok-installed.ensures

pub returns-clause-finished : goal.returns-clause-finished
returns-clause-finished c =
    subst (λ (b : Bool). TemplateWhere b c.args.here.domain.now c.args.here.node c.args.peer c.args.r0kh_id.now c.in_ok-finished.finished) c.may_install-2.ensures c.in_ok-finished.ensures
