use Rattle.std.proofs.Common.{arith}
use Rattle.journal_report.proofs.Texts.{Writes-then, up-line}
use Rattle.journal_report.proofs.Putting.{up-room}
use Rattle.journal_report.proofs.line.traffic_line.Goals as goal

pub returns-in-HandedUp-clause-written : goal.returns-in-HandedUp-clause-written
returns-in-HandedUp-clause-written c =
    let put = c.put.ensures in
    let pieces = Writes-then _ _ _ _ _ _ _ _ c.put_up_head-at.ensures.written c.put_payload-at.ensures.written in
    rw (c.in-HandedUp.is, ← c.as_slice-in-HandedUp.ensures, up-line) (Writes-then _ _ _ _ _ _ _ _ pieces (record { end = put.end; front = put.front; rest = put.rest; len = put.len }))

pub put_payload-at-requires : goal.put_payload-at-requires
put_payload-at-requires c =
    let room = up-room c.args.entry.now _ _ _ _ _ _ _ c.in-HandedUp.is c.as_slice-in-HandedUp.ensures in
    omega (arith, room, c.requires.room, c.put_up_head-at.ensures.short, c.put_up_head-at.ensures.written.len)

pub put-requires : goal.put-requires
put-requires c =
    let room = up-room c.args.entry.now _ _ _ _ _ _ _ c.in-HandedUp.is c.as_slice-in-HandedUp.ensures in
    omega (arith, room, c.requires.room, c.put_up_head-at.ensures.short, c.put_up_head-at.ensures.written.len, c.put_payload-at.ensures.short, c.put_payload-at.ensures.written.len)

pub returns-in-HandedUp-clause-short : goal.returns-in-HandedUp-clause-short
returns-in-HandedUp-clause-short c =
    let room = up-room c.args.entry.now _ _ _ _ _ _ _ c.in-HandedUp.is c.as_slice-in-HandedUp.ensures in
    omega (arith, room, c.put_up_head-at.ensures.short, c.put_payload-at.ensures.short, c.put.ensures.end)
