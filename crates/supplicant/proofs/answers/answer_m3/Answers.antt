use Rattle.std.proofs.Common.{◌∙◌}
use Rattle.supplicant.proofs.answers.answer_m3.Goals as goal

pub returns-clause-tells : goal.returns-clause-tells
returns-clause-tells c d n p x ends keyed =
    let w = c.write_m4.ensures.keeps in
    let e = c.requires.silent in
    record { verified_is = w.verified ∙ c.requires.verified; derived_is = w.derived ∙ e.derived; installed_is = w.installed ∙ e.installed; gtk_is = w.gtk ∙ e.gtk; igtk_is = w.igtk ∙ e.igtk; sends_are = c.write_m4.ensures.writes d n p x ends keyed }

pub returns-clause-keys : goal.returns-clause-keys
returns-clause-keys c = c.write_m4.ensures.keeps.derived ∙ c.requires.silent.derived
