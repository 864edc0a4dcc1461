-- The words of a line, as they are listed to be written (profile).
use Rattle.std.specs.Prelude.{ℕ, ◌+◌, List, [], ◌∷◌, ◌++◌, length, decimal}
use Rattle.std.specs.List.{flat_map}
use Rattle.domain_base.specs.Names.{node_text, peer_text}
use Rattle.run_journal.specs.Report.{hex, numbered, outcome_text}
use Rattle.journal_report.specs.declared.words.Word.{Word}
use Rattle.journal_report.specs.declared.words.Word.TheVariants.{Text, Number, Numbered, Node, Peer, Outcome, Address}

-- a word as it is printed
abbrev pub word_text : Word → List ℕ
word_text (Text w) = w.now
word_text (Number n) = decimal n
word_text (Numbered w n) = numbered w.now n
word_text (Node n) = node_text n
word_text (Peer p) = peer_text p
word_text (Outcome o) = outcome_text o
word_text (Address a) = hex a.0

-- the first word, and each further one after a space
abbrev pub spaced : List ℕ → List Word → List ℕ
spaced first further = first ++ flat_map (λ w. 32 ∷ word_text w) further

-- room that is enough for the word
abbrev pub word_room : Word → ℕ
word_room (Text w) = length w.now
word_room (Number n) = 20
word_room (Numbered w n) = length w.now + 21
word_room (Node n) = 11
word_room (Peer p) = 11
word_room (Outcome o) = 64
word_room (Address a) = 12

-- room that is enough for these words, each after a space
abbrev pub words_room : List Word → ℕ
words_room [] = 0
words_room (w ∷ ws) = 1 + word_room w + words_room ws
