use Rattle.std.proofs.Common.{◌≡◌, ◌∙◌, ◌||◌, true, false, ap, ap₂, refl}
use Rattle.std.proofs.lemmas.Result.{IfOk-weaker}
use Rattle.clap.specs.declared.builder.arg.Arg.{Arg}
use Rattle.clap.specs.Words.{app_of, new_rule, rule_of, with_rule}
use Rattle.command_words.specs.Words.{needed}
use Rattle.command_words.proofs.line.needing.Goals as goal

pub returns-clause-shape : goal.returns-clause-shape
returns-clause-shape c =
    let value : Arg = record c.new.result { required = true } in
    let value_is : rule_of c.required.result ≡ needed (new_rule c.args.word.now) =
    ap rule_of {y = value} c.required.ensures ∙ ap needed c.new.ensures.rule in
    let global_is : c.required.result.global ≡ false = ap (λ (a : Arg). a.global) {y = value} c.required.ensures ∙ c.new.ensures.optional.1 in
    IfOk-weaker c.arg.result _ _ (λ r h. h.shape global_is ∙ ap (λ x. with_rule (app_of c.args.part) x) value_is) c.arg.ensures

pub returns-clause-local : goal.returns-clause-local
returns-clause-local c local =
    let value : Arg = record c.new.result { required = true } in
    let global_is : c.required.result.global ≡ false = ap (λ (a : Arg). a.global) {y = value} c.required.ensures ∙ c.new.ensures.optional.1 in
    IfOk-weaker c.arg.result _ _ (λ r h. h.globals ∙ ap₂ ◌||◌ local global_is) c.arg.ensures
