-- What a line says, by its word.
use Rattle.std.proofs.Common.{◌≡◌, ◌≢◌, ℕ, Bool, List, bytes_eq, refl, sym, ap, ◌∙◌}
use Rattle.run_journal.specs.declared.domain.Domain.{Domain}
use Rattle.script_words.specs.declared.forms.Form.{Form}
use Rattle.script_words.specs.declared.forms.Form.TheVariants as form
use Rattle.script_lines.specs.Script.{station_event, session_event, frame_event}

-- a test of a word, as the code makes it
pub word_is : (r t : Bool) (word a b : List ℕ) → r ≡ bytes_eq word a → a ≡ b → r ≡ t → bytes_eq word b ≡ t
word_is r t word a b tests is e = ap (λ (x : List ℕ). bytes_eq word x) (sym is) ∙ sym tests ∙ e

pub session_rest : (d : Domain) (line : Form) (text : List ℕ) → line ≢ form.Retry → line ≢ form.Expire → line ≢ form.Revoke → line ≢ form.Renew → line ≢ form.Rekey → session_event d line text ≡ station_event d line text
session_rest d form.Retry text a b c f e = absurd (a refl)
session_rest d form.Expire text a b c f e = absurd (b refl)
session_rest d form.Revoke text a b c f e = absurd (c refl)
session_rest d form.Renew text a b c f e = absurd (f refl)
session_rest d form.Rekey text a b c f e = absurd (e refl)
session_rest d other text a b c f e = refl

pub frame_rest : (d : Domain) (within : Bool) (sizes : List ℕ) (line : Form) (text : List ℕ) → line ≢ form.Deliver → line ≢ form.Alter → line ≢ form.Cut → frame_event d within sizes line text ≡ session_event d line text
frame_rest d within sizes form.Deliver text a b c = absurd (a refl)
frame_rest d within sizes form.Alter text a b c = absurd (b refl)
frame_rest d within sizes form.Cut text a b c = absurd (c refl)
frame_rest d within sizes other text a b c = refl
