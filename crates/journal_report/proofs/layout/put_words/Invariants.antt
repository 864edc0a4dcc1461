use Rattle.std.proofs.Common.{◌≤◌, ◌+◌, length, take, drop}
use Rattle.journal_report.specs.Words.{spaced, words_room}
use Rattle.journal_report.specs.Writing.{Writes}
use Rattle.journal_report.proofs.layout.put_words.Given as goal

-- the words so far stand there, and there is room for the rest
abbrev pub invariant-loop-word : goal.invariant-loop-word
invariant-loop-word l = record {
  written : Writes (spaced l.first (take l.word-index l.further)) l.at l.fn.out l.end l.out;
  room : l.end + words_room (drop l.word-index l.further) ≤ l.at + length l.first + words_room l.further;
}
