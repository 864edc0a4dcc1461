use Rattle.std.proofs.Common.{◌∙◌}
use Rattle.domain_world.proofs.Turning.{turns_other}
use Rattle.domain_world.proofs.by_ap.RoundActs.has_turn.Goals as goal

pub loop-turn_of-preserved : goal.loop-turn_of-preserved
loop-turn_of-preserved c = λ k low high.
    turns_other k c.args.self.now.turns.now c.loop-turn_of.turn_of-index c.turn_of-item.result c.loop-turn_of-test.true c.turn_of-item.is (c.is_among.ensures c.if-is_among.false k low high) ∙ c.loop-turn_of.invariant k low high
