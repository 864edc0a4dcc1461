use Rattle.std.proofs.Common.{◌≡◌, ◌∙◌, option_and_then, rules}
use Rattle.clap.specs.Words.{found_of, rows_of, subcommand_rows_of}
use Rattle.command_words.specs.Words.{asked}
use Rattle.command_words.proofs.met.Goals as goal

pub returns : goal.returns
returns c =
    let met : asked (c.in-Some.name.now, rows_of (found_of c.in-Some.values.now)) ≡ option_and_then asked (subcommand_rows_of c.args.matches.now) = search rules in
    c.asked.ensures ∙ met
