use Rattle.std.proofs.Common.{refl}
use Rattle.uses.proofs.Replaying.{is_replayed}
use Rattle.uses.proofs.replay.run_script.Goals as goal

pub returns : goal.returns
returns g c =
    is_replayed _ _ _ _ _ _ _ c.words_are_told.ensures.replay c.run-status.ensures c.new-source.ensures.left c.in_ok-sink.ensures.out refl refl refl refl
