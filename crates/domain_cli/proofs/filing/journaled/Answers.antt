use Rattle.std.proofs.Common.{refl}
use Rattle.domain_cli.proofs.Filed.{Lined, all_heard, all_lined, copied, reads_back}
use Rattle.domain_cli.proofs.Kept.{journal_keeps}
use Rattle.domain_cli.proofs.filing.journaled.Goals as goal

pub filed-requires-clause-heard : goal.filed-requires-clause-heard
filed-requires-clause-heard g c = all_heard _ _ _ _ _ refl refl c.replay-ending.ensures.written

pub filed-requires-clause-lines : goal.filed-requires-clause-lines
filed-requires-clause-lines g c is =
    let law : Lined = record { whole = c.entries_are_completed.ensures.whole; network = c.entries_are_completed.ensures.network; lines = c.entries_have_lines.ensures } in
    let told = c.replay-ending.ensures.told in
    all_lined law told.2 told.3 told.0 told.1 _ c.replay-ending.result.found told.6 is

pub returns : goal.returns
returns g c rest =
    let law : Lined = record { whole = c.entries_are_completed.ensures.whole; network = c.entries_are_completed.ensures.network; lines = c.entries_have_lines.ensures } in
    let read = c.replay-ending.ensures in
    let told = read.told in
    let f = c.filed.ensures in
    let held = copied c.new.result.items told.0 c.replay-ending.new.copy c.new.ensures.items told.7 in
    journal_keeps c.runs_are_safe.ensures rest _ _ _ _ _ _ _ _ c.filed.result _
    (record {
      draft = told.2;
      rounds = told.3;
      found_ = c.replay-ending.result.found;
      octets = told.0;
      ended = told.1;
      read = told.4;
      end = told.5;
      tells = told.6;
      files = f.files told.2 told.0 (reads_back law told.2 told.3 told.0 told.1 _ c.replay-ending.result.found told.6) held;
    })
    f.asked (λ is. read.fault (f.read_fault is)) f.write_fault f.write_told (λ differs unfailed. f.read_told (read.fault_told differs))
