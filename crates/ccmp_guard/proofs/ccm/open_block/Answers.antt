use Rattle.std.proofs.Common.{◌≡◌, ◌∙◌, List, ℕ, ap, take, length, replicate, ◌-◌, sym, arith}
use Rattle.std.proofs.lemmas.List.{length-take-le}
use Rattle.aes_block.specs.Octets.{exclusive_or}
use Rattle.aes_block.specs.Cipher.{cipher}
use Rattle.ccmp_guard.specs.Ccm.{filled}
use Rattle.ccmp_guard.proofs.Octets.{exclusive_or-front}
use Rattle.ccmp_guard.proofs.ccm.open_block.Goals as goal

pub returns-clause-decrypted : goal.returns-clause-decrypted
returns-clause-decrypted c =
    c.copy_from_slice.ensures.after
    ∙ ap (take (length c.args.sealed.now)) (c.add.ensures ∙ ap (λ (w : List ℕ). exclusive_or w c.args.stream.now) c.padded-sum.ensures)
    ∙ exclusive_or-front c.args.sealed.now c.args.stream.now (replicate (16 - length c.args.sealed.now) 0)

pub returns-clause-chained : goal.returns-clause-chained
returns-clause-chained c =
    let text : c.copy_from_slice.new.self ≡ exclusive_or c.args.sealed.now c.args.stream.now =
    c.copy_from_slice.ensures.after
    ∙ ap (take (length c.args.sealed.now)) (c.add.ensures ∙ ap (λ (w : List ℕ). exclusive_or w c.args.stream.now) c.padded-sum.ensures)
    ∙ exclusive_or-front c.args.sealed.now c.args.stream.now (replicate (16 - length c.args.sealed.now) 0) in
    c.chain.ensures ∙ ap (λ (w : List ℕ). cipher c.args.key.now (exclusive_or c.args.x.now w)) (c.padded.ensures ∙ ap filled text)

pub slice_bounds-copy_from_slice-end : goal.slice_bounds-copy_from_slice-end
slice_bounds-copy_from_slice-end c = sym (length-take-le (length c.args.sealed.now) c.add.new.sum (omega (arith, c.requires.few, c.add.array_long)))

pub copy_from_slice-requires : goal.copy_from_slice-requires
copy_from_slice-requires c = c.requires.room ∙ sym (length-take-le (length c.args.sealed.now) c.add.new.sum (omega (arith, c.requires.few, c.add.array_long)))
