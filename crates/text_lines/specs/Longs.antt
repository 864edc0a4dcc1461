-- A line that is too long. Lists of lines are NEWEST FIRST (profile).
use Rattle.std.specs.Prelude.{ℕ, ◌<◌, List, ◌++◌, length}
use Rattle.text_lines.specs.declared.limits.Limits.{Limits}
use Rattle.text_lines.specs.Texts.{BeginsIn, NoFeed}

-- the line after the good ones is too long
pub record IsLong (l : Limits) (octets : List ℕ) (good : List (List ℕ)) : Type 0 where
  pub line : List ℕ
  pub after : List ℕ
  pub begins : BeginsIn l octets good (line ++ after)
  pub open_line : NoFeed line
  pub long : l.octets < length line
