use Rattle.std.proofs.Common.{sym, ◌∙◌}
use Rattle.script_runs.proofs.Writings.{nothing_since}
use Rattle.script_runs.proofs.session.Session.lines.Goals as goal

pub returns-then-written-len-clause-ok : goal.returns-then-written-len-clause-ok
returns-then-written-len-clause-ok g c = nothing_since _ _ _ (sym c.written.ensures ∙ c.if-written-len.true ∙ c.len.ensures)
