use Rattle.std.proofs.Common.{List, ℕ, sym, subst}
use Rattle.domain_base.proofs.Taken.{OnErr-always}
use Rattle.std.specs.Io.KnownBytes.{Appends}
use Rattle.domain_base.specs.Causes.{AppendsPart}
use Rattle.journal_file.specs.Waiting.{Waits}
use Rattle.journal_file.proofs.Passed.{none_left, part_gone}
use Rattle.journal_file.proofs.entries.pass_on.Goals as goal

pub returns-in_err-write_all-clause-part : goal.returns-in_err-write_all-clause-part
returns-in_err-write_all-clause-part g c first text w =
    let old = g.K.Sink.out c.args.sink.now in
    let new = g.K.Sink.out c.write_all.new.sink in
    OnErr-always _ _ (part_gone first old new c.args.waiting.now.items text w (subst (λ (l : List ℕ). AppendsPart old new l) c.as_slice.ensures.value c.in_err-write_all.ensures.err))

pub returns-clause-gone : goal.returns-clause-gone
returns-clause-gone g c first text w =
    let old = g.K.Sink.out c.args.sink.now in
    let new = g.K.Sink.out c.write_all.new.sink in
    subst (λ (l : List ℕ). Waits first new l text) (sym c.clear.ensures.items)
    (none_left first old new c.args.waiting.now.items text w (subst (λ (l : List ℕ). Appends old new l) c.as_slice.ensures.value c.in_ok-write_all.ensures.ok))
