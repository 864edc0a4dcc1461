-- A line by its first word.
use Rattle.std.proofs.Common.{◌≡◌, ℕ, List, Bool, true, ap, sym, ◌∙◌, refl}
use Rattle.std.specs.Prelude.{bytes_eq, codes}
use Rattle.std.proofs.lemmas.Slice.Eq.{bytes_eq-Decides}
use Rattle.script_words.specs.declared.forms.Form.{Form}
use Rattle.script_words.specs.declared.forms.Form.TheVariants as form
use Rattle.script_words.specs.Grammar.{lines, find_line, line_of}

pub line_said : (found : Form) (listed : List Form) (word : List ℕ) → found ≡ find_line listed word → listed ≡ lines → found ≡ line_of word
unfolding line_of
line_said found listed word is all = is ∙ ap (λ (xs : List Form). find_line xs word) all

-- of the word `deliver` it is found at once
deliver_said : form.Deliver ≡ line_of (codes "deliver")
unfolding line_of find_line
deliver_said = refl

pub line_delivers : (found : Bool) (word text : List ℕ) → found ≡ bytes_eq word text → text ≡ codes "deliver" → found ≡ true → form.Deliver ≡ line_of word
line_delivers found word text is all e =
    let same = (bytes_eq-Decides word text).0 (sym is ∙ e) in
    deliver_said ∙ ap line_of (sym (same ∙ all))
