use Rattle.std.proofs.Common.{List, ℕ, subst, arith}
use Rattle.std.proofs.lemmas.List.{take_all}
use Rattle.journal_file.specs.Counting.{IsCounted}
use Rattle.journal_file.proofs.Counted.{few_more, none_counted, one_counted}
use Rattle.journal_file.proofs.counting.counted.Goals as goal

pub loop-octet-init : goal.loop-octet-init
loop-octet-init c = record { counted = none_counted; few = omega arith }

pub loop-octet-preserved : goal.loop-octet-preserved
loop-octet-preserved c =
    let octets = c.args.script.now in
    let i = c.loop-octet.octet-index in
    record {
      counted = one_counted octets i c.loop-octet.count _ c.loop-octet-test.true c.with_octet-count.ensures c.loop-octet.invariant.counted;
      few = few_more c.loop-octet.count _ _ i c.with_octet-count.ensures c.loop-octet.invariant.few;
    }

pub with_octet-count-requires : goal.with_octet-count-requires
with_octet-count-requires c = omega (arith, c.loop-octet.invariant.few, c.loop-octet-test.true)

pub returns : goal.returns
returns c =
    subst (λ (w : List ℕ). IsCounted w c.loop-octet.count) (take_all c.loop-octet.octet-index c.args.script.now (omega (arith, c.loop-octet-test.false))) c.loop-octet.invariant.counted
