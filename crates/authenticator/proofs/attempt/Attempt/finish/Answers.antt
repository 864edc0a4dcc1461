use Rattle.std.proofs.Common.{refl, ap}
use Rattle.run_journal.specs.declared.reply.Keyed.{Keyed}
use Rattle.authenticator.proofs.attempt.Attempt.finish.Goals as goal

pub returns-in-Err : goal.returns-in-Err
returns-in-Err c akm judged = (refl, c.in-Err.ensures akm judged)

pub returns-in-Ok : goal.returns-in-Ok
returns-in-Ok c akm judged =
    let w = c.in-Ok.ensures akm judged in
    record {
      y = w.y;
      answered = w.answered;
      mic_is = w.mic_is;
      key_is = w.key_is;
      ptk_is = ap (λ (y : Keyed). y.ptk) w.key_is;
      associated = refl;
      last_is = refl;
      fresh = record { place_is = refl; no_g1 = refl; unanswered = refl };
      older = w.older;
    }
