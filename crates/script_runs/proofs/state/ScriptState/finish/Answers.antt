use Rattle.std.proofs.Common.{List, Option, reverse, sym, subst, ◌∙◌, refl}
use Rattle.std.specs.Prelude.{OnErr, OnOk}
use Rattle.std.specs.Io.KnownBytes.{Appends}
use Rattle.domain_base.specs.Causes.{AppendsPart}
use Rattle.run_journal.specs.declared.acts.Entry.{Entry}
use Rattle.run_journal.specs.Report.{lines}
use Rattle.script_runs.specs.declared.session.Session.{Session}
use Rattle.script_runs.specs.Sessions.{output}
use Rattle.script_runs.specs.Written.{WroteBy, found_short, written_of}
use Rattle.script_runs.proofs.Owned.{written_some}
use Rattle.script_runs.proofs.Writings.{ended_lines, ended_short, never_fails, none_starts, on_error}
use Rattle.script_runs.proofs.state.ScriptState.finish.Goals as goal

pub returns-then-is_unwritten : goal.returns-then-is_unwritten
returns-then-is_unwritten g c first was = ended_short c.args.found first _ _ _ (sym c.is_unwritten.ensures ∙ c.if-is_unwritten.true) was

pub lines-requires : goal.lines-requires
lines-requires g c = written_some c.args.self.now.session _ _ c.in-Some.is (c.requires (sym c.is_unwritten.ensures ∙ c.if-is_unwritten.false))

pub returns-in-Some : goal.returns-in-Some
returns-in-Some g c first was =
    let o = output (g.K.Sink.out c.args.sink.now) (g.K.Sink.faults c.args.sink.now) in
    let j = c.args.journal.now.entries in
    let here = subst (λ (x : Option Session). WroteBy (found_short c.args.found) first o (written_of x) j) c.in-Some.is was in
    ended_lines c.lines.result c.args.found first _ _ _ _ (sym c.is_unwritten.ensures ∙ c.if-is_unwritten.false) c.lines.ensures.ok c.lines.ensures.err (λ e. never_fails c.lines.result _ (c.lines.ensures.idle e)) c.lines.ensures.cause c.lines.ensures.unfailed here

pub returns-in-None : goal.returns-in-None
returns-in-None g c first was =
    let o = output (g.K.Sink.out c.args.sink.now) (g.K.Sink.faults c.args.sink.now) in
    let j = c.args.journal.now.entries in
    let here = subst (λ (x : Option Session). WroteBy (found_short c.args.found) first o (written_of x) j) c.in-None.is was in
    let ok = subst (λ (es : List Entry). OnOk c.write_lines.result (Appends (g.K.Sink.out c.args.sink.now) (g.K.Sink.out c.write_lines.new.sink) (lines (reverse es)))) c.entries.ensures c.write_lines.ensures.ok in
    let err = subst (λ (es : List Entry). OnErr c.write_lines.result (AppendsPart (g.K.Sink.out c.args.sink.now) (g.K.Sink.out c.write_lines.new.sink) (lines (reverse es)))) c.entries.ensures c.write_lines.ensures.err in
    ended_lines c.write_lines.result c.args.found first _ _ 0 j (sym c.is_unwritten.ensures ∙ c.if-is_unwritten.false) ok err (λ e. on_error c.write_lines.result _ (none_starts 0 j e refl)) c.write_lines.ensures.cause c.write_lines.ensures.unfailed here
