use Rattle.std.proofs.Common.{List, ℕ, sym, subst, ◌++◌, ◌∷◌, []}
use Rattle.domain_base.proofs.Taken.{OnErr-always}
use Rattle.entry_lines.specs.Lines.{entry_line}
use Rattle.journal_file.specs.Waiting.{Waits}
use Rattle.journal_file.proofs.Passed.{more_waits}
use Rattle.journal_file.proofs.entries.write_line.Goals as goal

pub returns-in_err-pass_on-clause-part : goal.returns-in_err-pass_on-clause-part
returns-in_err-pass_on-clause-part g c first text w = OnErr-always _ _ (c.in_err-pass_on.ensures.part first text w)

pub returns-clause-gone : goal.returns-clause-gone
returns-clause-gone g c first text w =
    let line : List ℕ = entry_line c.args.entry.now ++ 10 ∷ [] in
    let new = g.K.Sink.out c.pass_on.new.sink in
    subst (λ (l : List ℕ). Waits first new l (text ++ line)) (sym c.put_line.ensures.items) (more_waits first new c.pass_on.new.waiting.items text line (c.in_ok-pass_on.ensures.gone first text w))
