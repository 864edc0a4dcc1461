use Rattle.std.proofs.Common.{◌∙◌, List, ℕ, ap, take, length, replicate, ◌-◌, sym, arith}
use Rattle.std.proofs.lemmas.List.{length-take-le}
use Rattle.aes_block.specs.Octets.{exclusive_or}
use Rattle.ccmp_guard.proofs.Octets.{exclusive_or-front}
use Rattle.ccmp_guard.proofs.ccm.seal_block.Goals as goal

pub returns-clause-encrypted : goal.returns-clause-encrypted
returns-clause-encrypted c =
    c.copy_from_slice.ensures.after
    ∙ ap (take (length c.args.plain.now)) (c.add.ensures ∙ ap (λ (w : List ℕ). exclusive_or w c.args.stream.now) c.padded-block.ensures)
    ∙ exclusive_or-front c.args.plain.now c.args.stream.now (replicate (16 - length c.args.plain.now) 0)

pub slice_bounds-copy_from_slice-end : goal.slice_bounds-copy_from_slice-end
slice_bounds-copy_from_slice-end c = sym (length-take-le (length c.args.plain.now) c.add.new.sum (omega (arith, c.requires.few, c.add.array_long)))

pub copy_from_slice-requires : goal.copy_from_slice-requires
copy_from_slice-requires c = c.requires.room ∙ sym (length-take-le (length c.args.plain.now) c.add.new.sum (omega (arith, c.requires.few, c.add.array_long)))
