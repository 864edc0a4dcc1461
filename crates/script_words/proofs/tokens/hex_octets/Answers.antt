use Rattle.std.proofs.Common.{ap, ◌∙◌}
use Rattle.std.specs.Result.{result_ok}
use Rattle.script_words.proofs.Hexed.{sized-hex_octets}
use Rattle.script_words.proofs.tokens.hex_octets.Goals as goal

pub returns : goal.returns
returns g c = c.ok.ensures.value ∙ ap result_ok c.from_hex.ensures ∙ sized-hex_octets g.row.N c.args.text.now
