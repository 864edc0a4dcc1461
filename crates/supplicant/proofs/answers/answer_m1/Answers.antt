use Rattle.std.proofs.Common.{Bool, refl, ap, ◌∙◌}
use Rattle.run_journal.specs.Events.{protects}
use Rattle.domain_base.specs.declared.names.Akm.{Akm}
use Rattle.frame_making.specs.KeyData.{m2_data}
use Rattle.frame_making.proofs.MobileData.{m2_data_is}
use Rattle.supplicant.specs.Bases.{fte_in}
use Rattle.supplicant.proofs.Standing.{carried_data}
use Rattle.supplicant.proofs.answers.answer_m1.Goals as goal

pub returns-clause-tells : goal.returns-clause-tells
returns-clause-tells c d n p x ends keyed drawn mobile renewed =
    let w = c.write_m2.ensures.keeps in
    let e = c.requires.empty in
    let b = c.args.base.now in
    let l = c.args.ends.now in
    let data_ = c.as_slice.ensures ∙ c.m2_key_data-key_data.ensures.octets ∙ ap (λ (on : Bool). m2_data on l.akm b.mobility) ends.mfp_is ∙ ap (λ (a : Akm). m2_data (protects d) a b.mobility) ends.akm ∙ m2_data_is d x (fte_in b) b.mobility mobile ∙ carried_data c.args.secure d x (fte_in b) renewed in
    record { verified_is = w.verified ∙ e.verified; derived_is = refl; installed_is = w.installed ∙ e.installed; gtk_is = w.gtk ∙ e.gtk; igtk_is = w.igtk ∙ e.igtk; sends_are = c.write_m2.ensures.writes d n p x (fte_in b) ends keyed drawn data_ }

pub returns-clause-whole : goal.returns-clause-whole
returns-clause-whole c = record { few = c.write_m2.ensures.fits.few; sealed = c.write_m2.ensures.fits.sealed }

pub returns-clause-keys : goal.returns-clause-keys
returns-clause-keys c = c.write_m2.ensures.keeps.installed ∙ c.requires.empty.installed
