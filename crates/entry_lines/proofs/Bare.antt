-- An entry as its line tells it has the same line.
use Rattle.std.proofs.Common.{◌≡◌, ℕ, ◌^◌, ◌<◌, List, ◌∷◌, ◌++◌, refl, ap, arith}
use Rattle.std.specs.Prelude.{replicate}
use Rattle.std.specs.Fmt.{decimal}
use Rattle.std.proofs.lemmas.List.{get_or-replicate}
use Rattle.domain_base.specs.Names.{node_text}
use Rattle.domain_base.specs.declared.names.Node.{Node}
use Rattle.key_hierarchy.specs.declared.answers.PullAnswer.TheVariants as pulls
use Rattle.run_journal.specs.declared.acts.Act.{Act}
use Rattle.run_journal.specs.declared.acts.Act.TheVariants.{Derived, Sent, Took, Looked}
use Rattle.run_journal.specs.declared.acts.Entry.{Entry}
use Rattle.entry_lines.specs.Entries.{Fits, FitsAct, FitsNode, HasLine, IsArray, SpellsEntry, bare, bare_act, bare_number}
use Rattle.entry_lines.specs.Lines.{act_words, after_spaces, entry_line}

words_of_bare : (n : Node) (number : ℕ) (a : Act) → act_words number a ≡ act_words (bare_number number a) (bare_act n a)
words_of_bare n number (Looked x m p (pulls.Found k)) = refl
words_of_bare n number (Looked x m p pulls.NoHolder) = refl
words_of_bare n number (Looked x m p pulls.Absent) = refl
words_of_bare n number _ = refl

has_bare : (n : Node) (a : Act) → HasLine a → HasLine (bare_act n a)
has_bare n (Took from octets k o s) has = has
has_bare n _ has = has

act_bare_again : (n : Node) (a : Act) → bare_act n (bare_act n a) ≡ bare_act n a
act_bare_again n (Looked x m p (pulls.Found k)) = refl
act_bare_again n (Looked x m p pulls.NoHolder) = refl
act_bare_again n (Looked x m p pulls.Absent) = refl
act_bare_again n _ = refl

number_bare_again : (n : Node) (number : ℕ) (a : Act) → bare_number (bare_number number a) (bare_act n a) ≡ bare_number number a
number_bare_again n number (Sent p k octets s) = refl
number_bare_again n number _ = refl

zeros : IsArray 16 (replicate 16 0)
zeros = (refl, λ k d lt. rw (get_or-replicate 16 k 0 d lt) (omega arith))

fits_bare : (n : Node) (a : Act) → FitsNode n → FitsAct a → FitsAct (bare_act n a)
fits_bare n (Derived p i k) node f = (node, f.1, f.2)
fits_bare n (Looked x m p (pulls.Found k)) node f = (f.0, f.1, f.2, (f.3.0, zeros))
fits_bare n (Looked x m p pulls.NoHolder) node f = f
fits_bare n (Looked x m p pulls.Absent) node f = f
fits_bare n _ node f = f

number_fits : (number : ℕ) (a : Act) → number < 2 ^ 64 → bare_number number a < 2 ^ 64
number_fits number (Sent p k octets s) few = few
number_fits number _ few = omega arith

line_of_bare : (e : Entry) → entry_line e ≡ entry_line (bare e)
line_of_bare e = ap (λ (words : List (List ℕ)). decimal e.round ++ after_spaces (node_text e.node ∷ words)) (words_of_bare e.node e.number e.act)

bare_again : (e : Entry) → bare (bare e) ≡ bare e
bare_again e =
    λ j. record { round = e.round; node = e.node; number = number_bare_again e.node e.number e.act j; act = act_bare_again e.node e.act j }

pub bare_spelled : (e : Entry) → HasLine e.act → Fits e → SpellsEntry (entry_line e) (bare e)
bare_spelled e has fits = record {
  line = line_of_bare e;
  has = has_bare e.node e.act has;
  is_bare = bare_again e;
  fits = record {
    round = fits.round;
    node = fits.node;
    number = number_fits e.number e.act fits.number;
    act = fits_bare e.node e.act fits.node fits.act;
  };
}
