use Rattle.std.proofs.Common.{◌≡◌, Some, ap, codes, option_and_then, option_map, rules}
use Rattle.clap.specs.Words.{first_value, found_of}
use Rattle.command_words.specs.Words.{port_number}
use Rattle.command_words.specs.declared.Command.TheVariants.{Live}
use Rattle.command_words.proofs.live_command.Goals as goal

pub returns : goal.returns
returns c =
    let port : Some c.in-Some-port_number.port ≡ option_and_then port_number (first_value (found_of c.args.values.now) (codes "port")) = search rules in
    ap (option_map Live) port
