-- What a reader of lines stands for, and what comes next in its text. Lists of lines are NEWEST FIRST (profile).
use Rattle.std.specs.Prelude.{◌≡◌, ◌≢◌, ◌⊎◌, ℕ, ◌≤◌, Bool, false, List, [], ◌∷◌, ◌++◌, length, take, drop, Option}
use Rattle.std.specs.Io.KnownBytes.{Consumes, IsAtEnd}
use Rattle.text_lines.specs.declared.limits.Limits.{Limits}
use Rattle.text_lines.specs.declared.reader.LineReader.{LineReader}
use Rattle.text_lines.specs.declared.reader.Filled.{Filled}
use Rattle.text_lines.specs.declared.reader.Filled.TheVariants as filled
use Rattle.text_lines.specs.declared.reader.Next.{Next}
use Rattle.text_lines.specs.declared.reader.Next.TheVariants.{Line, Last, End, Long, Failed}
use Rattle.text_lines.specs.Cuts.{HasCut}
use Rattle.text_lines.specs.Longs.{IsLong}
use Rattle.text_lines.specs.Texts.{BeginsIn, Ends, NoFeed, without_return}

-- a read asks for so many octets
abbrev pub most_read : ℕ
most_read = 512

-- what was read, and is in no line yet
abbrev pub unread : LineReader → List ℕ
unread r = drop r.at (take r.end r.piece)

-- within these limits the octets read so far are whole lines, the front of the open one, and what is in no line yet
pub record HasRead (l : Limits) (r : LineReader) (octets : List ℕ) (good : List (List ℕ)) : Type 0 where
  pub before : List ℕ
  pub cut : HasCut l r.cutter before good
  pub whole : octets ≡ before ++ unread r

-- the line after the good ones is at its end, not too long, and says that; at most so many octets were read after it, its line feed among
-- them
pub record IsAt (l : Limits) (ended : Bool) (octets : List ℕ) (good : List (List ℕ)) (line text : List ℕ) : Type 0 where
  pub after : List ℕ
  pub begins : BeginsIn l octets good (line ++ after)
  pub open_line : NoFeed line
  pub ends : Ends ended good line after text
  pub short : length line ≤ l.octets
  pub near : length after ≤ most_read

-- the line after the good ones is the last, and lacks its line feed; an empty one is a line only if it is the first
pub record IsLast (l : Limits) (octets : List ℕ) (good : List (List ℕ)) (line : List ℕ) : Type 0 where
  pub begins : BeginsIn l octets good line
  pub open_line : NoFeed line
  pub short : length line ≤ l.octets
  pub some : (line ≢ []) ⊎ (good ≡ [])

-- all lines had their line feeds
pub record IsOver (l : Limits) (octets : List ℕ) (good : List (List ℕ)) : Type 0 where
  pub begins : BeginsIn l octets good []
  pub some : good ≢ []

-- the open line is not too long so far
pub record IsShort (l : Limits) (octets : List ℕ) (good : List (List ℕ)) : Type 0 where
  pub rest : List ℕ
  pub begins : BeginsIn l octets good rest
  pub open_line : NoFeed rest
  pub short : length rest ≤ l.octets

-- what comes next, after these octets were read
abbrev pub NextIs : Next → Limits → LineReader → Option (List ℕ) → List ℕ → List (List ℕ) → Type 0
NextIs Line l r left octets good = IsAt l false octets good r.cutter.line.items (without_return r.cutter.line.items) × ((more : List ℕ) × (unread r ≡ 10 ∷ more))
NextIs Last l r left octets good = IsLast l octets good r.cutter.line.items × IsAtEnd left
NextIs End l r left octets good = IsOver l octets good × IsAtEnd left
NextIs Long l r left octets good = IsLong l octets good
NextIs Failed l r left octets good = IsShort l octets good

-- so many octets more were read, and that comes next
pub record Comes (next : Next) (l : Limits) (r : LineReader) (left_old left_new : Option (List ℕ)) (octets : List ℕ) (good : List (List ℕ)) : Type 0 where
  pub more : List ℕ
  pub read : Consumes left_old left_new more
  pub has : HasRead l r (octets ++ more) good
  pub next_is : NextIs next l r left_new (octets ++ more) good

-- a read gave more octets, or none, as the source is at its end, or it failed
abbrev pub Fills : Filled → Limits → LineReader → Option (List ℕ) → Option (List ℕ) → List ℕ → List (List ℕ) → Type 0
Fills filled.More l r left_old left_new octets good = (more : List ℕ) × (Consumes left_old left_new more × HasRead l r (octets ++ more) good)
Fills filled.None l r left_old left_new octets good = Consumes left_old left_new [] × (HasRead l r octets good × IsAtEnd left_new)
Fills filled.Failed l r left_old left_new octets good = Consumes left_old left_new [] × HasRead l r octets good
