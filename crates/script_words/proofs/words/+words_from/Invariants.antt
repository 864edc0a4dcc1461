use Rattle.script_words.proofs.words.+words_from.Given as goal

abbrev pub decreases-words_from : goal.decreases-words_from
decreases-words_from l = l.before
