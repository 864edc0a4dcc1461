-- Why a line may not stand there, for each word with which a line begins.
use Rattle.std.proofs.Common.{◌≡◌, ◌≢◌, ℕ, List, refl}
use Rattle.script_words.specs.declared.forms.Form.{Form}
use Rattle.script_words.specs.declared.forms.Form.TheVariants as form
use Rattle.script_words.specs.Grammar.{row_of}
use Rattle.script_lines.specs.Script.{Draft}
use Rattle.frame_script.specs.Mistakes.{first_cause, known_cause}

pub first_rest : (draft : Draft) (word : List ℕ) (line : Form) → line ≢ form.Any → first_cause draft word line ≡ known_cause draft (row_of line)
first_rest draft word form.Any n = absurd (n refl)
first_rest draft word other n = refl
