use Rattle.std.proofs.Common.{◌≤◌, suc, length, arith}
use Rattle.domain_world.proofs.Frames.{long_enough, set_altered}
use Rattle.domain_world.proofs.world.World.altered.Goals as goal

pub index_mut-requires : goal.index_mut-requires
index_mut-requires c =
    let long = long_enough c.args.self.now c.args.journal.now.entries _ c.args.number (suc c.args.place) c.octets-frame.result.now c.requires.placed c.requires.long c.octets-frame.ensures in
    omega (arith, long, c.in_ok-octets.ensures.len)

pub returns : goal.returns
returns c =
    let frame = c.octets-frame.result.now in
    let long : suc c.args.place ≤ length frame = long_enough c.args.self.now c.args.journal.now.entries _ c.args.number (suc c.args.place) frame c.requires.placed c.requires.long c.octets-frame.ensures in
    (frame, (c.octets-frame.ensures, set_altered frame c.in_ok-octets.octets.items c.args.place c.args.mask c.index_mut.result.now c.in_ok-octets.ensures.items long c.index_mut.ensures.value))
