use Rattle.std.proofs.Common.{List, ℕ, length, ◌≤◌, refl, sym, subst, arith}
use Rattle.text_lines.specs.Texts.{AreLinesIn, NoFeed, joined}
use Rattle.text_lines.proofs.cutter.LineCutter.new.Goals as goal

pub returns-clause-cut : goal.returns-clause-cut
unfolding joined AreLinesIn
returns-clause-cut c = record {
  limits_are = refl;
  begins = record { whole = sym c.in_ok-line.ensures.items; each = tt };
  open_line = subst (λ (w : List ℕ). NoFeed w) (sym c.in_ok-line.ensures.items) tt;
  short = subst (λ (w : List ℕ). length w ≤ c.args.limits.octets) (sym c.in_ok-line.ensures.items) (omega arith);
  count = refl;
  few = omega arith;
}
