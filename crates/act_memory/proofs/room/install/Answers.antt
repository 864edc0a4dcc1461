use Rattle.std.proofs.Common.{◌++◌, Option, sym, ap, subst, append-nil, ◌∙◌}
use Rattle.key_hierarchy.specs.declared.inputs.Inputs.{Inputs}
use Rattle.run_journal.specs.declared.reply.Keyed.{Keyed}
use Rattle.domain_rules.specs.Replies.{installed_acts}
use Rattle.act_memory.specs.Templates.{TemplateFor}
use Rattle.act_memory.proofs.Templating.{no_key}
use Rattle.act_memory.proofs.room.install.Goals as goal

pub returns-in_default-clause-acts : goal.returns-in_default-clause-acts
returns-in_default-clause-acts c d r n there =
    let acts = c.args.out.now.acts in
    let none = no_key d r n c.args.peer c.args.template c.args.installed c.in_default.is there in
    sym (ap (λ (y : Option Keyed). acts ++ installed_acts d r n c.args.peer y) none ∙ append-nil acts)

pub returns-clause-acts : goal.returns-clause-acts
returns-clause-acts c d r n there =
    c.add_installed.ensures.acts d r n (subst (λ (i : Option Inputs). TemplateFor d r n c.args.peer i c.args.installed) c.in-Some.is there)
