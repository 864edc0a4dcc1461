use Rattle.std.proofs.Common.{refl}
use Rattle.supplicant.proofs.answers.accept_m3.Goals as goal

pub returns-clause-tells : goal.returns-clause-tells
returns-clause-tells c d n p x ends keyed =
    let t = c.answer_m3.ensures.tells d n p x ends keyed in
    record { verified_is = t.verified_is; derived_is = t.derived_is; installed_is = refl; gtk_is = refl; igtk_is = refl; sends_are = t.sends_are }

pub returns-clause-whole : goal.returns-clause-whole
returns-clause-whole c = record { few = c.answer_m3.ensures.whole.few; sealed = c.answer_m3.ensures.whole.sealed }

pub returns-clause-keys : goal.returns-clause-keys
returns-clause-keys c = c.answer_m3.ensures.keys
