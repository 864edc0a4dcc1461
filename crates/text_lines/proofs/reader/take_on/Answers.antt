use Rattle.std.proofs.Common.{◌-◌, drop}
use Rattle.text_lines.proofs.Reading.{too_long}
use Rattle.text_lines.proofs.reader.take_on.Goals as goal

pub returns-in-Err-clause-cut : goal.returns-in-Err-clause-cut
returns-in-Err-clause-cut c l before good h =
    too_long l before c.args.cutter.now.line.items (drop c.args.at c.args.octets.now) (c.line_end-end.result - c.args.at) good h.begins h.open_line c.line_end-end.ensures.open_line (c.in-Err.ensures.cut l before good h)
