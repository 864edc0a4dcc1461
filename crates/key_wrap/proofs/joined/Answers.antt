use Rattle.std.proofs.Common.{refl, replicate}
use Rattle.key_wrap.proofs.StepLemmas.{joined_is}
use Rattle.key_wrap.proofs.joined.Goals as goal

pub returns : goal.returns
returns c =
    joined_is c.args.check.now c.args.block.now (replicate 8 0) c.copy_from_slice.new.self c.copy_from_slice-2.new.self c.told-check c.requires refl
    c.copy_from_slice.ensures.after c.copy_from_slice-2.ensures.after
