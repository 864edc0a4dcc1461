use Rattle.domain_world.proofs.Frames.{long_enough, cut_length}
use Rattle.domain_world.proofs.world.World.front.Goals as goal

pub slice_bounds-result-end : goal.slice_bounds-result-end
slice_bounds-result-end c =
    let long = long_enough c.args.self.now c.args.journal.now.entries _ c.args.number c.args.size c.octets-frame.result.now c.requires.placed c.requires.long c.octets-frame.ensures in
    cut_length c.octets-frame.result.now c.args.size long
