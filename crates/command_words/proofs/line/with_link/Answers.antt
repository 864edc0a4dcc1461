use Rattle.std.proofs.Common.{◌≡◌, ◌∙◌, ap, codes}
use Rattle.std.proofs.lemmas.Result.{IfOk-weaker}
use Rattle.clap.specs.Words.{App, app_of, new_rule, with_rule, with_subcommand}
use Rattle.command_words.specs.Words.{link_line, needed}
use Rattle.command_words.proofs.line.with_link.Goals as goal

pub returns : goal.returns
returns c =
    let local = c.in-Ok-needing.ensures.local (c.in-Ok.ensures.local c.new-part.ensures.local) in
    let part_is : app_of c.in-Ok-needing.second ≡ link_line =
    c.in-Ok-needing.ensures.shape ∙ ap (λ (a : App). with_rule a (needed (new_rule (codes "end")))) (c.in-Ok.ensures.shape ∙ ap (λ (a : App). with_rule a (needed (new_rule (codes "port")))) c.new-part.ensures.app) in
    IfOk-weaker c.subcommand.result _ _ (λ r h. h.shape local ∙ ap (λ (a : App). with_subcommand (app_of c.args.line) a.top) part_is) c.subcommand.ensures
