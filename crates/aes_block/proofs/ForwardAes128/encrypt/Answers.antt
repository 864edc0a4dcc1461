use Rattle.std.proofs.Common.{◌<◌, ℕ, get_or, arith, rules}
use Rattle.domain_base.proofs.OctetLemmas.{octets_by_entries}
use Rattle.aes_block.specs.Octets.{IsBlock}
use Rattle.aes_block.proofs.CipherLemmas.{keys_for}
use Rattle.aes_block.proofs.ForwardAes128.encrypt.Goals as goal

pub returns : goal.returns
returns c =
    let x = keys_for c.self.view_is c.self.invariant in
    let below : (k : ℕ) → get_or c.args.block k 0 < 256 = search rules in
    let b : IsBlock c.args.block = record { sixteen = omega arith; are_octets = octets_by_entries c.args.block below } in
    c.encrypted.ensures c.args.self.now c.args.block x.is_block b c.columns.ensures x.rounds
