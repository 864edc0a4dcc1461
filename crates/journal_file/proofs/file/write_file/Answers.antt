use Rattle.journal_file.specs.Counting.{text_of}
use Rattle.journal_file.proofs.Counted.{file_is}
use Rattle.journal_file.proofs.file.write_file.Goals as goal

pub returns-in-Ok-write_text-clause-written : goal.returns-in-Ok-write_text-clause-written
returns-in-Ok-write_text-clause-written g c =
    let script = c.args.script.now in
    let es = c.args.entries.now in
    (text_of script c.counted-count.result es, (file_is c.written_lines_read_back.ensures script c.counted-count.result es c.counted-count.ensures c.requires c.in-Ok.ensures.fit, c.in-Ok-write_text.ensures.ok))

pub returns-clause-written : goal.returns-clause-written
returns-clause-written g c =
    let script = c.args.script.now in
    let es = c.args.entries.now in
    (text_of script c.counted-count.result es, (file_is c.written_lines_read_back.ensures script c.counted-count.result es c.counted-count.ensures c.requires c.in-Ok.ensures.fit, c.in-Err.ensures.err))
