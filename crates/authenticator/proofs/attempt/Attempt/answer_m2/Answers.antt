use Rattle.std.proofs.Common.{refl, ap, ◌∙◌, Some}
use Rattle.run_journal.specs.declared.reply.Keyed.{Keyed}
use Rattle.authenticator.proofs.attempt.Attempt.answer_m2.Goals as goal

pub returns-clause-sends : goal.returns-clause-sends
returns-clause-sends c = record {
  sends = c.send_m3.ensures.sends;
  whole = record { own = c.send_m3.ensures.addresses.0; peer = c.send_m3.ensures.addresses.1 };
}

pub returns-clause-told : goal.returns-clause-told
returns-clause-told c = record {
  verified = ap (λ (y : Keyed). Some y.ptk.kck) c.key-key.ensures;
  derived = ap (λ (y : Keyed). Some y) c.key-key.ensures;
  installed = c.send_m3.ensures.keeps.installed ∙ c.requires.installed;
  gtk = c.send_m3.ensures.keeps.gtk ∙ c.requires.gtk;
  igtk = c.send_m3.ensures.keeps.igtk ∙ c.requires.igtk;
}

pub returns-clause-fits : goal.returns-clause-fits
returns-clause-fits c = record { few = c.send_m3.ensures.fits.few; sealed = c.send_m3.ensures.fits.sealed }

pub returns-clause-attempt : goal.returns-clause-attempt
returns-clause-attempt c = refl
