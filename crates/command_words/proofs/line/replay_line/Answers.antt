use Rattle.std.proofs.Common.{◌∙◌, ap₂}
use Rattle.std.proofs.lemmas.Result.{IfOk-weaker}
use Rattle.clap.specs.Words.{App, with_subcommand}
use Rattle.command_words.proofs.line.replay_line.Goals as goal

pub returns : goal.returns
returns c =
    IfOk-weaker c.subcommand.result _ _
    (λ r h. h.shape c.new.ensures.local ∙ ap₂ (λ (a : App) (b : App). with_subcommand a b.top) c.bare_line.ensures c.new.ensures.app) c.subcommand.ensures
