use Rattle.std.proofs.Common.{refl}
use Rattle.key_hierarchy.proofs.Kept.{r1_again}
use Rattle.key_hierarchy.proofs.last_derived.DerivedR1.given.Goals as goal

pub returns-then-is_of : goal.returns-then-is_of
returns-then-is_of c = r1_again c.args.self.now c.args.r0.now c.args.r1kh c.args.sta (c.if-is_of.ensures refl)
