use Rattle.std.proofs.Common.{◌≡◌, ◌∙◌, ap, arith}
use Rattle.mac_prf.specs.Cmac.{doubled, first_subkey, last_octets}
use Rattle.mac_prf.proofs.Chains.{last_block-part, last_block-whole, last_octets-few}
use Rattle.mac_prf.proofs.chaining.CmacState.last_block.Goals as goal

pub returns-then-self-lt-BLOCK_LEN : goal.returns-then-self-lt-BLOCK_LEN
returns-then-self-lt-BLOCK_LEN c key text h =
    let subkey = c.doubled.ensures ∙ ap doubled (c.args.self.now.subkeyed ∙ ap first_subkey h.keyed) in
    c.add.ensures ∙ last_block-part key (last_octets text) c.args.self.now.block c.doubled.result c.args.self.now.count h.counted h.last (omega arith) subkey

pub returns-else-self-lt-BLOCK_LEN : goal.returns-else-self-lt-BLOCK_LEN
returns-else-self-lt-BLOCK_LEN c key text h =
    let subkey = c.args.self.now.subkeyed ∙ ap first_subkey h.keyed in
    let full : c.args.self.now.count ≡ 16 = omega (arith, last_octets-few text, h.counted) in
    c.add-else-self-lt-BLOCK_LEN.ensures ∙ last_block-whole key (last_octets text) c.args.self.now.block c.args.self.now.subkey c.args.self.now.count h.counted h.last full subkey
