-- What may stand at each place of a line, by the table of lines (profile).
use Rattle.std.specs.Prelude.{ℕ, ◌==◌, if◌then◌else◌, Bool, true, false}
use Rattle.script_words.specs.declared.forms.Form.{Form}
use Rattle.script_words.specs.declared.grammar.Words.{Words}
use Rattle.script_words.specs.declared.kinds.Kind.{Kind}
use Rattle.script_words.specs.declared.forms.Form.TheVariants as forms
use Rattle.script_words.specs.declared.kinds.Kind.TheVariants.{End, Ap, Sta, Node, NoKey, OwnKey, Key, StaOrAll}
use Rattle.script_words.specs.Grammar.{row_of}

-- where so many words stand before it; after its last word a line ends
abbrev pub kind_of : Words → ℕ → Kind
kind_of w before =
    if before == 1 then w.second
    else if before == 2 then w.third
    else if before == 3 then w.fourth
    else if before == 4 then w.fifth
    else if before == 5 then w.sixth
    else End

-- the form of a line in scripts of version 2, or of version 1: that of a station has two
abbrev pub line_in : Bool → Form → Form
line_in is_second forms.Sta = if is_second then forms.KeyedSta else forms.Sta
line_in is_second line = line

-- in a line of the form
abbrev pub kind_at : Form → ℕ → Kind
kind_at form before = kind_of (row_of form).words before

-- whether something has to stand there
abbrev pub is_needed : Kind → Bool
is_needed End = false
is_needed NoKey = false
is_needed OwnKey = false
is_needed Key = false
is_needed kind = true

-- whether a node that is listed has to stand there
abbrev pub is_node : Kind → Bool
is_node Ap = true
is_node Sta = true
is_node Node = true
is_node StaOrAll = true
is_node kind = false

-- how many words stand before the first node in a line that has one
abbrev pub node_after : Words → ℕ
node_after w =
    if is_node w.second then 1
    else if is_node w.third then 2
    else if is_node w.fourth then 3
    else if is_node w.fifth then 4
    else 5

-- in a line of the form
abbrev pub before_node : Form → ℕ
before_node form = node_after (row_of form).words
