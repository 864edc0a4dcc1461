use Rattle.std.proofs.Common.{List, subst, arith}
use Rattle.std.proofs.lemmas.List.{take_all}
use Rattle.journal_report.specs.declared.words.Word.{Word}
use Rattle.journal_report.specs.Words.{spaced}
use Rattle.journal_report.specs.Writing.{Writes}
use Rattle.journal_report.proofs.Texts.{no_word, room-at, room-step, words-step}
use Rattle.journal_report.proofs.layout.put_words.Goals as goal

pub put-end-requires-in-loop-word : goal.put-end-requires-in-loop-word
put-end-requires-in-loop-word c =
    omega (arith, room-at c.args.further.now c.loop-word.word-index no_word c.loop-word.end _ c.loop-word-test.true c.loop-word.invariant.room)

pub put_word-end-requires : goal.put_word-end-requires
put_word-end-requires c =
    omega (arith, c.put-end-in-loop-word.ensures.end, c.put-end-in-loop-word.ensures.len, c.loop-word.auto.out, c.put-end.ensures.len, c.requires, room-at c.args.further.now c.loop-word.word-index no_word c.loop-word.end _ c.loop-word-test.true c.loop-word.invariant.room)

pub loop-word-preserved : goal.loop-word-preserved
loop-word-preserved c =
    let put = c.put-end-in-loop-word.ensures in
    record {
      written = words-step c.args.first.now c.args.further.now c.loop-word.word-index no_word _ _ _ _ _ _ _ _ c.loop-word-test.true c.loop-word.invariant.written (record { end = put.end; front = put.front; rest = put.rest; len = put.len }) c.put_word-end.ensures.written;
      room = room-step c.args.further.now c.loop-word.word-index no_word c.loop-word.end _ _ c.loop-word-test.true c.loop-word.invariant.room (omega (arith, put.end, c.put_word-end.ensures.short));
    }

pub returns-clause-written : goal.returns-clause-written
returns-clause-written c =
    subst (λ (ws : List Word). Writes (spaced c.args.first.now ws) c.args.at c.args.out.now c.loop-word.end c.loop-word.out)
    (take_all c.loop-word.word-index c.args.further.now (omega (arith, c.loop-word-test.false))) c.loop-word.invariant.written
