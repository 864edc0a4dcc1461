use Rattle.std.proofs.Common.{List, ◌≤◌, ◌<◌, subst, arith}
use Rattle.std.specs.Prelude.{All, IfSome}
use Rattle.std.proofs.lemmas.List.{take_all}
use Rattle.std.proofs.lemmas.List.Elements.{All-more, All-nil}
use Rattle.run_journal.specs.declared.acts.Entry.{Entry}
use Rattle.entry_lines.specs.Entries.{Fits}
use Rattle.entry_lines.specs.Room.{line_room}
use Rattle.journal_file.proofs.Longest.{room_more, some_above, some_always}
use Rattle.journal_file.proofs.entries.longest.Goals as goal

pub loop-entry-init : goal.loop-entry-init
loop-entry-init c = record { room = All-nil (λ (e : Entry). line_room e ≤ 0); fit = All-nil Fits }

pub loop-entry-preserved : goal.loop-entry-preserved
loop-entry-preserved c =
    let es = c.args.entries.now in
    let i = c.loop-entry.entry-index in
    let e = c.entry-item.result in
    record {
      room = room_more es i e c.loop-entry.most _ c.loop-entry-test.true c.entry-item.is (omega (arith, c.max-most.ensures)) (omega (arith, c.max-most.ensures, c.in-Some.ensures)) c.loop-entry.invariant.room;
      fit = All-more Fits es i e c.loop-entry-test.true c.loop-entry.invariant.fit (subst (λ (x : Entry). Fits x) c.entry-item.is c.fits.ensures);
    }

pub returns-clause-room : goal.returns-clause-room
returns-clause-room c =
    let all = take_all c.loop-entry.entry-index c.args.entries.now (omega (arith, c.loop-entry-test.false)) in
    subst (λ (l : List Entry). IfSome c.checked_add.result (λ n. All (λ e. line_room e < n) l)) all (some_above c.checked_add.result _ c.loop-entry.most c.checked_add.ensures c.loop-entry.invariant.room)

pub returns-clause-fit : goal.returns-clause-fit
returns-clause-fit c =
    let all = take_all c.loop-entry.entry-index c.args.entries.now (omega (arith, c.loop-entry-test.false)) in
    some_always c.checked_add.result _ (subst (λ (l : List Entry). All Fits l) all c.loop-entry.invariant.fit)
