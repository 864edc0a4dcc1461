use Rattle.entry_lines.proofs.Parting.{split_more}
use Rattle.entry_lines.proofs.splitting.after_words.Goals as goal

pub loop-preserved : goal.loop-preserved
loop-preserved c = λ words j. split_more c.args.separator _ words c.loop.counter (c.first_word.ensures _ (c.loop.invariant words j)).1
