use Rattle.key_hierarchy.proofs.Kept.{r1_kept}
use Rattle.key_hierarchy.proofs.last_derived.DerivedR1.of.Goals as goal

-- src/last_derived.rt:156:5
pub invariant_of-result : goal.invariant_of-result
invariant_of-result c = record {
  derived = r1_kept c.args.r0.now c.r0.result c.name-name.result c.args.r1kh c.args.sta c.args.r1 c.requires.derived c.r0.ensures c.name-name.ensures;
}
