-- What a line cutter stands for: the octets so far (profile).
use Rattle.std.specs.Prelude.{◌≡◌, ℕ, ◌≤◌, List, length}
use Rattle.text_lines.specs.declared.limits.Limits.{Limits}
use Rattle.text_lines.specs.declared.cutter.LineCutter.{LineCutter}
use Rattle.text_lines.specs.Texts.{BeginsIn, NoFeed}

-- within these limits the octets so far are whole lines, and the front of the open one
pub record HasCut (l : Limits) (c : LineCutter) (octets : List ℕ) (good : List (List ℕ)) : Type 0 where
  pub limits_are : c.limits ≡ l
  pub begins : BeginsIn l octets good c.line.items
  pub open_line : NoFeed c.line.items
  pub short : length c.line.items ≤ l.octets
  pub count : c.lines ≡ length good
  pub few : length good ≤ l.lines
