use Rattle.std.proofs.Common.{◌≡◌, ◌∙◌, ℕ, List, refl, reverse, sym, subst, ap}
use Rattle.std.specs.Prelude.{All}
use Rattle.std.proofs.lemmas.List.{reverse-reverse}
use Rattle.run_journal.specs.declared.acts.Entry.{Entry}
use Rattle.journal_file.specs.File.{IsLined}
use Rattle.domain_cli.specs.declared.status.Status.TheVariants.{Done, WriteFault}
use Rattle.domain_cli.specs.Journals.{IsFiled}
use Rattle.domain_cli.proofs.Filed.{copy_is, failed_so, moved}
use Rattle.domain_cli.proofs.filing.file.Goals as goal

pub returns-in_default-clause-files : goal.returns-in_default-clause-files
returns-in_default-clause-files g c octets held = refl

pub write_file-requires : goal.write_file-requires
write_file-requires g c = subst (λ (l : List Entry). All IsLined l) (sym c.entries.ensures) c.requires

pub returns-in-Ok-clause-files : goal.returns-in-Ok-clause-files
returns-in-Ok-clause-files g c octets held =
    let old = g.K.Sink.out c.args.sink.now in
    let new = g.K.Sink.out c.write_file.new.sink in
    let j = c.args.journal.now.entries in
    let same : reverse c.entries.result.now ≡ j = ap (λ (l : List Entry). reverse l) c.entries.ensures ∙ reverse-reverse j in
    moved (λ (x : List ℕ) (k : List Entry). IsFiled Done x k old new) c.as_slice.result.now octets _ j (c.as_slice.ensures.value ∙ copy_is c.args.copy.now c.in-Kept.script octets c.in-Kept.is held) same c.in-Ok.ensures.written

pub returns-in-Err-WriteFault-clause-files : goal.returns-in-Err-WriteFault-clause-files
returns-in-Err-WriteFault-clause-files g c octets held =
    let old = g.K.Sink.out c.args.sink.now in
    let new = g.K.Sink.out c.write_file.new.sink in
    let j = c.args.journal.now.entries in
    let these = c.as_slice.result.now in
    let newest = reverse c.entries.result.now in
    let same : newest ≡ j = ap (λ (l : List Entry). reverse l) c.entries.ensures ∙ reverse-reverse j in
    let out = failed_so c.write_file.result c.in-Err-WriteFault.field-0 these newest old new c.in-Err-WriteFault.is c.in-Err-WriteFault.field-0-is c.write_file.ensures.written in
    moved (λ (x : List ℕ) (k : List Entry). IsFiled WriteFault x k old new) these octets newest j (c.as_slice.ensures.value ∙ copy_is c.args.copy.now c.in-Kept.script octets c.in-Kept.is held) same out
