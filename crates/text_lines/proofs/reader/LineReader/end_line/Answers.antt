use Rattle.std.proofs.Common.{refl}
use Rattle.text_lines.proofs.Reading.{line_ended, some_left}
use Rattle.text_lines.proofs.reader.LineReader.end_line.Goals as goal

pub returns-clause-read : goal.returns-clause-read
returns-clause-read c l octets good more h feed =
    line_ended l c.args.self.now _ octets good more h feed (c.after-self.ensures.next (some_left c.args.self.now more feed)) refl refl (c.end.ensures.cut l h.before good h.cut)
