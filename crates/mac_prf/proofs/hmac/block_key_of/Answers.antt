use Rattle.std.proofs.Common.{◌∙◌}
use Rattle.mac_prf.proofs.Keys.{block_key-long, block_key-short}
use Rattle.mac_prf.proofs.hmac.block_key_of.Goals as goal

pub returns-then-key-gt64 : goal.returns-then-key-gt64
returns-then-key-gt64 g c =
    c.put_front.ensures ∙ block_key-long g.H.BlockHash.digest c.args.key.now _ c.if-key-gt64.true (c.finish-digest.ensures _ (c.take.ensures _ c.start-state.ensures))

pub returns-else-key-gt64 : goal.returns-else-key-gt64
returns-else-key-gt64 g c = c.put_front-else-key-gt64.ensures ∙ block_key-short g.H.BlockHash.digest c.args.key.now c.if-key-gt64.false
