use Rattle.std.proofs.Common.{◌≡◌, ◌≢◌, ◌==◌, ℕ, List, [], ◌∷◌, None, Some, codes, false, option_map, refl}
use Rattle.std.proofs.lemmas.Bool.{eqb-true, false_from_ne_true}
use Rattle.clap.proofs.OnLiterals.{clap_on_literals}
use Rattle.link_steps.specs.declared.ends.LinkEnd.TheVariants.{Holder, Asker}
use Rattle.command_words.specs.Words.{asked, command_line, command_of, linked, port_number, storm_number}
use Rattle.command_words.specs.declared.Command.TheVariants.{Journal, Live, Replay, Storm}
use Rattle.command_words.proofs.laws.words_are_told.Goals as goal

no_word : command_of [] ≡ None
unfolding asked command_line command_of clap_on_literals
no_word = refl

one_word : command_of (codes "replay" ∷ []) ≡ Some Replay
unfolding asked command_line command_of clap_on_literals
one_word = refl

journal_word : command_of (codes "journal" ∷ []) ≡ Some Journal
unfolding asked command_line command_of clap_on_literals
journal_word = refl

live_word : (first : ℕ) (rest : List ℕ) → (first == 45) ≡ false → command_of (codes "live" ∷ (first ∷ rest) ∷ []) ≡ option_map Live (port_number (first ∷ rest))
unfolding asked command_line command_of clap_on_literals
live_word first rest apart = rw (apart, apart) refl

storm_word : (first : ℕ) (rest : List ℕ) → (first == 45) ≡ false → command_of (codes "storm" ∷ (first ∷ rest) ∷ []) ≡ option_map Storm (storm_number (first ∷ rest))
unfolding asked command_line command_of clap_on_literals
storm_word first rest apart = rw (apart, apart) refl

link_words : (first : ℕ) (rest : List ℕ) → (first == 45) ≡ false → (command_of (codes "link" ∷ (first ∷ rest) ∷ codes "holder" ∷ []) ≡ linked (port_number (first ∷ rest)) (Some Holder))
    × (command_of (codes "link" ∷ (first ∷ rest) ∷ codes "asker" ∷ []) ≡ linked (port_number (first ∷ rest)) (Some Asker))
unfolding asked command_line command_of clap_on_literals
link_words first rest apart = (rw (apart, apart) refl, rw (apart, apart) refl)

no_hyphen : (first : ℕ) → first ≢ 45 → (first == 45) ≡ false
no_hyphen first other = false_from_ne_true (first == 45) (λ e. other (eqb-true first 45 e))

pub returns : goal.returns
returns c = record {
  none = no_word;
  replay = one_word;
  journal = journal_word;
  live = λ first rest other. live_word first rest (no_hyphen first other);
  storm = λ first rest other. storm_word first rest (no_hyphen first other);
  link = λ first rest other. link_words first rest (no_hyphen first other);
}
