use Rattle.std.proofs.Common.{◌∙◌, ap, true}
use Rattle.clap.specs.Simple.{App, app_of_fields}
use Rattle.command_words.proofs.line.bare_line.Goals as goal

abbrev without_name : App → App
without_name a = record a { top = record a.top { no_binary_name = true } }

abbrev with_need : App → App
with_need a = record a { top = record a.top { subcommand_required = true } }

pub returns : goal.returns
returns c = ap app_of_fields c.subcommand_required.ensures ∙ ap with_need (ap app_of_fields c.no_binary_name.ensures ∙ ap without_name c.new.ensures.app)
