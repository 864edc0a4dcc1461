-- The lines of a script as the code counts them, and the text of the file by them.
-- For the code alone: no public contract speaks of it.
use Rattle.std.specs.Prelude.{ℕ, suc, ◌+◌, ◌≡◌, ◌==◌, cond, not, Bool, true, false, List, [], ◌∷◌, ◌++◌, All, codes, decimal, length, map}
use Rattle.run_journal.specs.declared.acts.Entry.{Entry}
use Rattle.entry_lines.specs.Lines.{entry_line}
use Rattle.journal_file.specs.declared.counting.LineCount.{LineCount}
use Rattle.journal_file.specs.File.{NoFeed, fed}

-- octets stand there
abbrev pub any : List ℕ → Bool
any [] = false
any (octet ∷ octets) = true

-- and how many lines they are without a line feed
abbrev pub ones : List ℕ → ℕ
ones [] = 0
ones (octet ∷ octets) = 1

-- one octet more
abbrev pub with_octet : LineCount → ℕ → LineCount
with_octet count octet = record { lines = cond count.unended count.lines (suc count.lines); unended = not (octet == 10) }

-- so many lines are the octets, and so the last one ends
pub record IsCounted (octets : List ℕ) (count : LineCount) : Type 0 where
  pub whole : List (List ℕ)
  pub rest : List ℕ
  pub are : octets ≡ fed whole ++ rest
  pub apart : All NoFeed whole
  pub open_line : NoFeed rest
  pub lines : count.lines ≡ length whole + ones rest
  pub unended : count.unended ≡ any rest

-- the first two lines of the file
abbrev pub head : ℕ → List ℕ
head lines = codes "audit 1" ++ (10 ∷ (codes "script " ++ (decimal lines ++ 10 ∷ [])))

-- the line feed that a last line lacks
abbrev pub feed_of : Bool → List ℕ
feed_of true = 10 ∷ []
feed_of false = []

-- the lines of entries
abbrev pub entries_text : List Entry → List ℕ
entries_text entries = fed (map entry_line entries)

-- the whole file
abbrev pub text_of : List ℕ → LineCount → List Entry → List ℕ
text_of script count entries = (head count.lines ++ (script ++ feed_of count.unended)) ++ entries_text entries
