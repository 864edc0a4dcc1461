use Rattle.std.proofs.Common.{refl, ◌∙◌}
use Rattle.supplicant.proofs.answers.accept_g1.Goals as goal

pub returns-clause-tells : goal.returns-clause-tells
returns-clause-tells c d n p x ends keyed =
    let w = c.write_g2.ensures.keeps in
    let e = c.requires.silent in
    record { verified_is = w.verified ∙ c.requires.verified; derived_is = w.derived ∙ e.derived; installed_is = w.installed ∙ e.installed; gtk_is = refl; igtk_is = refl; sends_are = c.write_g2.ensures.writes d n p x ends keyed }

pub returns-clause-whole : goal.returns-clause-whole
returns-clause-whole c = record { few = c.write_g2.ensures.fits.few; sealed = c.write_g2.ensures.fits.sealed }

pub returns-clause-keys : goal.returns-clause-keys
returns-clause-keys c =
    let w = c.write_g2.ensures.keeps in
    let e = c.requires.silent in
    (w.derived ∙ e.derived, w.installed ∙ e.installed)
