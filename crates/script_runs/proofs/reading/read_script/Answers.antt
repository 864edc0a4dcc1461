use Rattle.std.proofs.Common.{[], false, sym, ap, subst, length, List, ℕ, arith}
use Rattle.std.proofs.lemmas.Bool.{false≢true}
use Rattle.run_journal.specs.declared.acts.Entry.{Entry}
use Rattle.script_lines.specs.Script.{AtVersion}
use Rattle.script_runs.specs.Feeders.{HasCome}
use Rattle.script_runs.specs.Script.{no_rounds}
use Rattle.script_runs.specs.Sessions.{output}
use Rattle.script_runs.specs.States.{IsReady}
use Rattle.script_runs.proofs.Blamed.{unblamed}
use Rattle.script_runs.proofs.Closing.{closes_in}
use Rattle.script_runs.proofs.Copying.{copied_none}
use Rattle.script_runs.proofs.Lines.{Consumes-nil}
use Rattle.script_runs.proofs.Beginning.{closes_nothing, reached_first}
use Rattle.script_runs.proofs.Writings.{written_nothing, wrote_nothing}
use Rattle.script_runs.proofs.reading.read_script.Goals as goal

pub returns-in_default-clause-told : goal.returns-in_default-clause-told
returns-in_default-clause-told g c =
    ([], false, Consumes-nil _, λ e. absurd (false≢true e), closes_nothing g.A.L.Link.told _ _ _ c.args.mode _ c.requires.links c.requires.journal, copied_none c.args.copy.now)

pub returns-in_default-clause-blamed : goal.returns-in_default-clause-blamed
returns-in_default-clause-blamed g c = unblamed g.A.L.Link.faults _ _ _

pub read_through-found-requires-clause-ready : goal.read_through-found-requires-clause-ready
read_through-found-requires-clause-ready g c = λ κs bounds.
    let s = c.in-Ok.feeder in
    let none = ap length c.requires.links in
    subst (λ (n : ℕ). IsReady s.state n s.cutter.lines c.args.journal.now.entries) (sym none)
    (subst (λ (j : List Entry). IsReady s.state 0 s.cutter.lines j) (sym c.requires.journal) c.in-Ok.ensures.ready)

pub read_through-found-requires-clause-reached : goal.read_through-found-requires-clause-reached
read_through-found-requires-clause-reached g c = λ κs bounds.
    let s = c.in-Ok.feeder in
    reached_first g.A.L.Link.told _ _ _ s _ c.requires.links c.requires.journal (subst (λ (j : List Entry). HasCome s [] AtVersion no_rounds j) (sym c.requires.journal) c.in-Ok.ensures.come)

pub returns-clause-told : goal.returns-clause-told
returns-clause-told g c =
    let told = c.read_through-found.ensures.told in
    (told.0, told.1, told.2, told.3, closes_in g.A.L.Link.told _ _ _ c.args.mode c.read_through-found.result told.0 told.1 _ c.in-Ok.ensures.mode told.4, told.5)

pub returns-clause-fault : goal.returns-clause-fault
returns-clause-fault g c = c.read_through-found.ensures.fault

pub returns-clause-fault_told : goal.returns-clause-fault_told
returns-clause-fault_told g c = c.read_through-found.ensures.fault_told

pub returns-in_default-clause-written : goal.returns-in_default-clause-written
returns-in_default-clause-written g c = written_nothing _ _ c.requires.journal

pub read_through-found-requires-clause-written : goal.read_through-found-requires-clause-written
read_through-found-requires-clause-written g c = λ κs bounds. omega (arith, c.in-Ok.ensures.written)

pub finish-written-requires : goal.finish-written-requires
finish-written-requires g c = c.read_through-found.ensures.wrote.count

pub returns-clause-written : goal.returns-clause-written
returns-clause-written g c =
    let first = output (g.K.Sink.out c.args.sink.now) (g.K.Sink.faults c.args.sink.now) in
    c.finish-written.ensures first (c.read_through-found.ensures.wrote.on first (wrote_nothing first _ _ c.in-Ok.ensures.written c.requires.journal))

pub returns-clause-blamed : goal.returns-clause-blamed
returns-clause-blamed g c = c.read_through-found.ensures.blamed
