use Rattle.std.proofs.Common.{◌<◌, ◌∙◌, List, ℕ, [], length, take, sym, subst, arith, refl}
use Rattle.std.proofs.lemmas.List.{take_all}
use Rattle.std.proofs.lemmas.List.Elements.{All-get_or}
use Rattle.std.proofs.lemmas.Result.{on_ok_weaker, on_err_weaker}
use Rattle.std.specs.Io.KnownBytes.{Appends}
use Rattle.domain_base.specs.Causes.{AppendsPart}
use Rattle.domain_base.proofs.Taken.{OnErr-always}
use Rattle.journal_report.proofs.Putting.{cause-after}
use Rattle.run_journal.specs.declared.acts.Entry.{Entry}
use Rattle.entry_lines.specs.Room.{line_room}
use Rattle.journal_file.specs.Counting.{entries_text}
use Rattle.journal_file.specs.Waiting.{Waits}
use Rattle.journal_file.proofs.Passed.{all_gone, entries_step, front_part, none_waits, part_gone}
use Rattle.journal_file.proofs.entries.write_entries.Goals as goal

pub loop-entry-init : goal.loop-entry-init
loop-entry-init g c =
    let out = g.K.Sink.out c.args.sink.now in
    record { gone = subst (λ (l : List ℕ). Waits out out l []) (sym c.requires.empty) (none_waits out); same = refl; line = refl; room = c.requires.room }

pub write_line-requires-clause-line : goal.write_line-requires-clause-line
write_line-requires-clause-line g c =
    let line : line_room c.entry-item.result < length c.args.line.now =
    subst (λ (e : Entry). line_room e < length c.args.line.now) (sym c.entry-item.is)
    (All-get_or (λ (e : Entry). line_room e < length c.args.line.now) c.args.entries.now c.loop-entry.entry-index c.entry-item.result c.loop-entry-test.true c.requires.lines) in
    omega (arith, line, c.loop-entry.invariant.line)

pub loop-entry-preserved : goal.loop-entry-preserved
loop-entry-preserved g c =
    let first = g.K.Sink.out c.args.sink.now in
    let new = g.K.Sink.out c.write_line.new.sink in
    let es = c.args.entries.now in
    let i = c.loop-entry.entry-index in
    record {
      gone = subst (λ (w : List ℕ). Waits first new c.write_line.new.waiting.items w) (entries_step es i c.entry-item.result c.loop-entry-test.true c.entry-item.is)
          (c.in_ok-write_line.ensures.gone first (entries_text (take i es)) c.loop-entry.invariant.gone);
      same = c.in_ok-write_line.ensures.unfailed ∙ c.loop-entry.invariant.same;
      line = c.write_line.ensures.len ∙ c.loop-entry.invariant.line;
      room = omega (arith, c.write_line.ensures.len, c.write_line.ensures.room, c.loop-entry.invariant.room);
    }

pub returns-in_err-write_line-clause-err : goal.returns-in_err-write_line-clause-err
returns-in_err-write_line-clause-err g c =
    let es = c.args.entries.now in
    let i = c.loop-entry.entry-index in
    OnErr-always _ _ (front_part _ _ es i (c.in_err-write_line.ensures.part (g.K.Sink.out c.args.sink.now) (entries_text (take i es)) c.loop-entry.invariant.gone))

pub returns-clause-ok : goal.returns-clause-ok
returns-clause-ok g c =
    let first = g.K.Sink.out c.args.sink.now in
    let old = g.K.Sink.out c.loop-entry.sink in
    let new = g.K.Sink.out c.write_all.new.sink in
    let all = take_all c.loop-entry.entry-index c.args.entries.now (omega (arith, c.loop-entry-test.false)) in
    on_ok_weaker c.write_all.result
    (λ h. subst (λ (l : List Entry). Appends first new (entries_text l)) all (all_gone first old new c.loop-entry.waiting.items _ c.loop-entry.invariant.gone (subst (λ (l : List ℕ). Appends old new l) c.as_slice.ensures.value h)))
    c.write_all.ensures.ok

pub returns-clause-err : goal.returns-clause-err
returns-clause-err g c =
    let first = g.K.Sink.out c.args.sink.now in
    let old = g.K.Sink.out c.loop-entry.sink in
    let new = g.K.Sink.out c.write_all.new.sink in
    on_err_weaker c.write_all.result
    (λ h. front_part first new c.args.entries.now c.loop-entry.entry-index
    (part_gone first old new c.loop-entry.waiting.items _ c.loop-entry.invariant.gone (subst (λ (l : List ℕ). AppendsPart old new l) c.as_slice.ensures.value h)))
    c.write_all.ensures.err

pub returns-clause-cause : goal.returns-clause-cause
returns-clause-cause g c = cause-after _ _ _ _ c.loop-entry.invariant.same c.write_all.ensures.cause

pub returns-clause-unfailed : goal.returns-clause-unfailed
returns-clause-unfailed g c = on_ok_weaker c.write_all.result (λ e. e ∙ c.loop-entry.invariant.same) c.write_all.ensures.unfailed
