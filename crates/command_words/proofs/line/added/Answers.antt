use Rattle.std.proofs.Common.{◌≡◌, ◌∙◌, ◌||◌, true, false, ap, ap₂}
use Rattle.std.proofs.lemmas.Result.{IfOk-weaker}
use Rattle.clap.specs.declared.builder.arg.Arg.{Arg}
use Rattle.clap.specs.Words.{App, app_of, new_app, new_rule, rule_of, with_rule, with_subcommand}
use Rattle.command_words.specs.Words.{needed}
use Rattle.command_words.proofs.line.added.Goals as goal

pub returns : goal.returns
returns c =
    let value : Arg = record c.new.result { required = true } in
    let value_is : rule_of c.required-value.result ≡ needed (new_rule c.args.word.now) =
    ap rule_of {y = value} c.required-value.ensures ∙ ap needed c.new.ensures.rule in
    let global_is : c.required-value.result.global ≡ false = ap (λ (a : Arg). a.global) {y = value} c.required-value.ensures ∙ c.new.ensures.optional.1 in
    let local_is = c.in-Ok.ensures.globals ∙ ap₂ ◌||◌ c.new-2.ensures.local global_is in
    let part_is : app_of c.in-Ok.subcommand ≡ with_rule (new_app c.args.name.now) (needed (new_rule c.args.word.now)) =
    c.in-Ok.ensures.shape global_is ∙ ap₂ with_rule c.new-2.ensures.app value_is in
    IfOk-weaker c.subcommand.result _ _
    (λ r h. h.shape local_is ∙ ap (λ (a : App). with_subcommand (app_of c.args.line) a.top) part_is) c.subcommand.ensures
