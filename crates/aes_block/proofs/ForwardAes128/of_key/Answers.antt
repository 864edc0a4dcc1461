use Rattle.std.proofs.Common.{◌<◌, ℕ, get_or, arith, rules}
use Rattle.domain_base.proofs.OctetLemmas.{octets_by_entries}
use Rattle.aes_block.specs.Octets.{IsBlock}
use Rattle.aes_block.proofs.CipherLemmas.{view_of, keys_from}
use Rattle.aes_block.proofs.ForwardAes128.of_key.Goals as goal

pub invariant_of-result : goal.invariant_of-result
invariant_of-result c =
    let below : (k : ℕ) → get_or c.args.key k 0 < 256 = search rules in
    let b : IsBlock c.args.key = record { sixteen = omega arith; are_octets = octets_by_entries c.args.key below } in
    keys_from c.expand_key.result c.args.key b (c.expand_key.ensures c.args.key b c.columns.ensures)

pub returns-clause-value : goal.returns-clause-value
returns-clause-value c =
    let below : (k : ℕ) → get_or c.args.key k 0 < 256 = search rules in
    let b : IsBlock c.args.key = record { sixteen = omega arith; are_octets = octets_by_entries c.args.key below } in
    view_of c.expand_key.result c.args.key b (c.expand_key.ensures c.args.key b c.columns.ensures)

pub returns-clause-octets : goal.returns-clause-octets
returns-clause-octets c =
    let below : (k : ℕ) → get_or c.args.key k 0 < 256 = search rules in
    record { sixteen = omega arith; are_octets = octets_by_entries c.args.key below }
