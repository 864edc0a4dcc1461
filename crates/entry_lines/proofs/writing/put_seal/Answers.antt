use Rattle.std.proofs.Common.{ℕ, List, [], ◌∷◌, length, Option, ap, sym, ◌∙◌, arith}
use Rattle.run_journal.specs.declared.acts.Seal.{Seal}
use Rattle.run_journal.specs.Report.{hex, payload_text}
use Rattle.entry_lines.specs.Lines.{after_spaces, seal_words}
use Rattle.entry_lines.specs.Room.{seal_octets}
use Rattle.entry_lines.proofs.Fielded.{Writes-is}
use Rattle.entry_lines.proofs.writing.put_seal.Goals as goal

pub put_fields-requires : goal.put_fields-requires
put_fields-requires c =
    omega (arith, c.requires, ap seal_octets c.in-Some.is, ap (λ (s : Seal). length s.octets) c.seal-seal.ensures, ap length c.as_slice.ensures, c.array_fits.ensures.0)

pub returns-in-Some-clause-short : goal.returns-in-Some-clause-short
returns-in-Some-clause-short c =
    omega (arith, c.put_fields.ensures.short, ap seal_octets c.in-Some.is, ap (λ (s : Seal). length s.octets) c.seal-seal.ensures, ap length c.as_slice.ensures, c.array_fits.ensures.0)

pub returns-in-Some-clause-written : goal.returns-in-Some-clause-written
returns-in-Some-clause-written c =
    Writes-is _ _ _ _ _ _ c.put_fields.ensures.written
    (ap (λ (s : Option Seal). after_spaces (seal_words s)) c.in-Some.is
    ∙ ap (λ (s : Seal). after_spaces (payload_text s.octets ∷ hex s.key ∷ [])) (sym c.seal-seal.ensures)
    ∙ ap (λ (o : List ℕ). after_spaces (payload_text o ∷ hex c.seal-seal.result.now.key ∷ [])) (sym c.as_slice.ensures))

pub returns-in-None-clause-written : goal.returns-in-None-clause-written
returns-in-None-clause-written c =
    Writes-is _ _ _ _ _ _ c.put_fields-in-None.ensures.written (ap (λ (s : Option Seal). after_spaces (seal_words s)) c.in-None.is)
