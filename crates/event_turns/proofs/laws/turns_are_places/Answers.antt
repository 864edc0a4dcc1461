use Rattle.event_turns.proofs.Happening.{turns_are}
use Rattle.event_turns.proofs.laws.turns_are_places.Goals as goal

pub returns : goal.returns
returns c = turns_are
