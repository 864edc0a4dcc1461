use Rattle.std.proofs.Common.{Some, sym, ap, ◌∙◌}
use Rattle.entry_lines.specs.Lines.{entry_line}
use Rattle.entry_lines.proofs.reading.read_entry.Goals as goal

pub returns-then-is_line-clause-found : goal.returns-then-is_line-clause-found
returns-then-is_line-clause-found c = record {
  line = c.in_ok-is_line.ensures.0 c.if-is_line.true;
  has = c.in_ok-entry.ensures.has;
  is_bare = c.in_ok-entry.ensures.is_bare;
  fits = c.fits.ensures;
}

pub returns-then-is_line-clause-only : goal.returns-then-is_line-clause-only
returns-then-is_line-clause-only c = λ e s. ap Some (c.in_ok-entry.ensures.same e s)

pub returns-else-is_line-clause-only : goal.returns-else-is_line-clause-only
returns-else-is_line-clause-only c = λ e s.
    let is = c.in_ok-is_line.ensures.1 (s.line ∙ sym (ap entry_line (c.in_ok-entry.ensures.same e s))) in
    absurd (cc (c.if-is_line.false, is))
