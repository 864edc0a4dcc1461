use Rattle.std.proofs.Common.{◌≡◌, ◌∙◌, ap}
use Rattle.std.proofs.lemmas.Result.{IfOk-weaker}
use Rattle.clap.specs.Words.{App, app_of, with_subcommand}
use Rattle.command_words.specs.Words.{bare_line, command_line, journal_line, link_line, live_line, replay_line, storm_line}
use Rattle.command_words.proofs.line.command_line.Goals as goal

pub returns : goal.returns
unfolding command_line
returns c =
    let two_are : app_of c.in-Ok-added.second ≡ with_subcommand (with_subcommand bare_line replay_line.top) live_line.top =
    c.in-Ok-added.ensures ∙ ap (λ (a : App). with_subcommand a live_line.top) c.in-Ok.ensures in
    let three_are : app_of c.in-Ok-added-2.third ≡ with_subcommand (with_subcommand (with_subcommand bare_line replay_line.top) live_line.top) storm_line.top =
    c.in-Ok-added-2.ensures ∙ ap (λ (a : App). with_subcommand a storm_line.top) two_are in
    let four_are : app_of c.in-Ok-with_journal.fourth ≡ with_subcommand (with_subcommand (with_subcommand (with_subcommand bare_line replay_line.top) live_line.top) storm_line.top) journal_line.top =
    c.in-Ok-with_journal.ensures ∙ ap (λ (a : App). with_subcommand a journal_line.top) three_are in
    IfOk-weaker c.with_link.result _ _ (λ r h. h ∙ ap (λ (a : App). with_subcommand a link_line.top) four_are) c.with_link.ensures
