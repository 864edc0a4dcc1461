-- What the lines of a script say in a live run, where frames come by the nodes' links (profile).
use Rattle.std.specs.Prelude.{ℕ, nat_le, if◌then◌else◌, not, Bool, List, length, bytes_eq, codes, Option, None, Some, Result, Ok, Err}
use Rattle.run_journal.specs.Limits.{most_frames}
use Rattle.script_lines.specs.declared.header.HeaderLine.TheVariants as due
use Rattle.script_words.specs.declared.forms.Form.TheVariants as form
use Rattle.script_words.specs.Tokens.{first_word}
use Rattle.script_words.specs.Grammar.{word_of, row_of, line_of, in_live}
use Rattle.frame_script.specs.Script.{line_says}
use Rattle.script_lines.specs.Script.{Fault, arguments, mode, many_frames, Draft, AtHeader, AtNodes, InRound, Said}

-- what a line says
pub data Heard : Type 0 where
  -- what it says in a replay
  Plain : Said → Heard
  -- that the seed is drawn; it is due until it was
  Draws : Heard
  -- that nodes take the frames of their links
  Turns : Heard

-- whether the first word is that of a line that brings a frame which was sent: of one that a live run has not
unfoldable pub brings : List ℕ → Bool
brings word = not (in_live (row_of (line_of word)).runs)

-- no line brings a frame which was sent
abbrev pub own_word : List ℕ → Option (Result Heard Fault)
own_word word = if brings word then Some (Err mode) else None

-- `turn` stands outside rounds, where no more frames were sent than a run can number; after it stands nothing
abbrev pub turn_line : List ℕ → Result Heard Fault
turn_line sizes = if nat_le (length sizes) most_frames then Ok Turns else Err many_frames

-- what a line means that has a meaning of its own in a live run, by its first word
abbrev pub own_line : List ℕ → List ℕ → List ℕ → Option (Result Heard Fault)
own_line sizes line word =
    if bytes_eq line (word_of form.Turn) then Some (turn_line sizes)
    else if bytes_eq word (word_of form.Turn) then Some (Err arguments)
    else own_word word

-- what a line says that has not the meaning that it has in a replay, after a script has said so much
unfoldable pub own_says : Draft → List ℕ → List ℕ → Option (Result Heard Fault)
own_says (AtHeader due.Seed h) sizes line = if bytes_eq line (codes "seed draw") then Some (Ok Draws) else None
own_says (AtNodes h) sizes line = own_line sizes line (first_word line).0
own_says (InRound h count) sizes line = own_word (first_word line).0
own_says draft sizes line = None

-- a line says what it says in a replay
abbrev pub plain : Result Said Fault → Result Heard Fault
plain (Ok said) = Ok (Plain said)
plain (Err fault) = Err fault

-- what a line says: its own meaning in a live run where it has one, else that of a replay
abbrev pub heard : Option (Result Heard Fault) → Result Said Fault → Result Heard Fault
heard None meant = plain meant
heard (Some own) meant = own

-- what a line without its end says: that, or what it says in a replay
abbrev pub live_says : Draft → ℕ → List ℕ → List ℕ → Result Heard Fault
live_says draft rounds sizes line = heard (own_says draft sizes line) (line_says draft rounds sizes line)
