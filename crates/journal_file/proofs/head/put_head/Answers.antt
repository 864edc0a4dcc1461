use Rattle.journal_report.proofs.Putting.{put-alone, put-then}
use Rattle.journal_report.proofs.Texts.{Writes-then}
use Rattle.journal_file.proofs.head.put_head.Goals as goal

pub returns-clause-written : goal.returns-clause-written
returns-clause-written c =
    let name = c.put-at.ensures in
    let word = c.put-at-2.ensures in
    let feed = c.put.ensures in
    put-then _ _ _ _ _ _ _ _ name.end name.front name.rest name.len
    (put-then _ _ _ _ _ _ _ _ word.end word.front word.rest word.len
    (Writes-then _ _ _ _ _ _ _ _ c.put_decimal-at.ensures.written (put-alone _ _ _ _ _ feed.end feed.front feed.rest feed.len)))
