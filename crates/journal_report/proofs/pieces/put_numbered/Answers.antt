use Rattle.journal_report.proofs.Putting.{put-then}
use Rattle.journal_report.proofs.pieces.put_numbered.Goals as goal

pub returns-clause-written : goal.returns-clause-written
returns-clause-written c =
    let word = c.put-at.ensures in
    let space = c.put-at-2.ensures in
    put-then _ _ _ _ _ _ _ _ word.end word.front word.rest word.len (put-then _ _ _ _ _ _ _ _ space.end space.front space.rest space.len c.put_decimal.ensures.written)
