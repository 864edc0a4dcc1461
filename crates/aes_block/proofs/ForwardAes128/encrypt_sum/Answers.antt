use Rattle.std.proofs.Common.{◌<◌, ℕ, get_or, arith, rules}
use Rattle.domain_base.proofs.OctetLemmas.{octets_by_entries}
use Rattle.aes_block.specs.Octets.{IsBlock, exclusive_or}
use Rattle.aes_block.proofs.CipherLemmas.{keys_for, IsBlock-sum}
use Rattle.aes_block.proofs.ForwardAes128.encrypt_sum.Goals as goal

pub returns : goal.returns
returns c =
    let before = c.args.before in
    let block = c.args.block in
    let x = keys_for c.self.view_is c.self.invariant in
    let below : (k : ℕ) → get_or before k 0 < 256 = search rules in
    let below' : (k : ℕ) → get_or block k 0 < 256 = search rules in
    let b : IsBlock before = record { sixteen = omega arith; are_octets = octets_by_entries before below } in
    let b' : IsBlock block = record { sixteen = omega arith; are_octets = octets_by_entries block below' } in
    c.encrypted.ensures c.args.self.now (exclusive_or before block) x.is_block (IsBlock-sum before block b b')
    (c.added.ensures before block b b' c.columns.ensures c.columns-2.ensures) x.rounds
