-- What a line behind the header says, by the line that its first word begins.
use Rattle.std.proofs.Common.{◌≡◌, ◌≢◌, ℕ, List, refl, sym, ap, ◌∙◌}
use Rattle.run_journal.specs.declared.domain.Domain.{Domain}
use Rattle.script_lines.specs.declared.header.Header.{Header}
use Rattle.script_words.specs.declared.forms.Form.{Form}
use Rattle.script_words.specs.declared.grammar.Position.{Position}
use Rattle.script_words.specs.declared.grammar.Position.TheVariants as positions
use Rattle.script_words.specs.declared.grammar.Row.{Row}
use Rattle.script_words.specs.Grammar.{row_of, line_of}
use Rattle.frame_script.specs.Script.{placed, inside, body_line, inner_line}
use Rattle.script_lines.specs.Script.{part_line}

-- by the row of the line
pub body_said : (h : Header) (rounds : ℕ) (sizes word text : List ℕ) (line : Form) (row : Row) → line ≡ line_of word → row ≡ row_of line
    → body_line h rounds sizes word text ≡ placed row.position h rounds sizes line text
unfolding body_line
body_said h rounds sizes word text line row is at =
    ap (λ (l : Form). placed (row_of l).position h rounds sizes l text) (sym is) ∙ ap (λ (r : Row). placed r.position h rounds sizes line text) (sym at)

pub inner_said : (d : Domain) (count : ℕ) (sizes word text : List ℕ) (line : Form) (row : Row) → line ≡ line_of word → row ≡ row_of line
    → inner_line d count sizes word text ≡ inside row.position d count sizes line text
unfolding inner_line
inner_said d count sizes word text line row is at =
    ap (λ (l : Form). inside (row_of l).position d count sizes l text) (sym is) ∙ ap (λ (r : Row). inside r.position d count sizes line text) (sym at)

-- one that ends no round
pub inside_rest : (position : Position) (d : Domain) (count : ℕ) (sizes : List ℕ) (line : Form) (text : List ℕ) → position ≢ positions.Closing → inside position d count sizes line text ≡ part_line d count sizes line text
inside_rest positions.Closing d count sizes l text a = absurd (a refl)
inside_rest other d count sizes l text a = refl
