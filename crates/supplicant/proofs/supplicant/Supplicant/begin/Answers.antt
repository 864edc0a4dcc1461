use Rattle.std.proofs.Common.{Option, sym, subst}
use Rattle.supplicant.specs.declared.attempt.Attempt.{Attempt}
use Rattle.supplicant.specs.declared.session.Session.{Session}
use Rattle.supplicant.specs.Keys.{IsKeyInAttempt, IsKeyInSession}
use Rattle.supplicant.proofs.OwnKeys.{begun_keys, held_keys}
use Rattle.supplicant.proofs.supplicant.Supplicant.begin.Goals as goal

pub invariant_of-result : goal.invariant_of-result
invariant_of-result c =
    let l = c.between-ends.result in
    let b = c.first_base.result in
    record {
      tried = subst (λ (x : Option Attempt). IsKeyInAttempt l b x) (sym c.first_attempt.ensures) (begun_keys l b c.args.start);
      held = subst (λ (x : Option Session). IsKeyInSession l b x) (sym c.first_session.ensures) (held_keys l b c.args.start);
    }
