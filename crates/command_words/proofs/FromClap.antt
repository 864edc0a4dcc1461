-- From clap's definitions to the command.
use Rattle.std.proofs.Common.{◌≡◌, ◌∙◌, ap, ap₂, sym, refl, true, false, ℕ, List, [], ◌∷◌, Option, Some, None, option_map, option_and_then, codes, bytes_eq, subst, Box, inl, inr}
use Rattle.std.specs.Box.{box_value}
use Rattle.std.specs.Borrow.{Bor}
use Rattle.std.proofs.lemmas.Bool.{false_from_ne_true}
use Rattle.std.proofs.lemmas.Option.{none-some, same_Some}
use Rattle.std.proofs.lemmas.Slice.Eq.{bytes_eq-Decides}
use Rattle.clap.specs.Kinds.{HasKind, Kinds}
use Rattle.clap.specs.Matches.{first_value, found_of, subcommand_name_of}
use Rattle.clap.specs.Values.{kind_of}
use Rattle.clap.specs.Walk.{Row, first_of, rows_of}
use Rattle.clap.proofs.WalkLemmas.{first_value-rows}
use Rattle.clap.specs.declared.parser.matches.Found.{Found}
use Rattle.clap.specs.Simple.{is_simple, subcommand_rows, subcommand_rows_of}
use Rattle.clap.specs.Words.{App, fault_of}
use Rattle.clap.specs.Faults.{is_simple_and_free}
use Rattle.clap.specs.declared.error.Error.{Error}
use Rattle.clap.specs.declared.error.kind.ErrorKind.TheVariants as kind
use Rattle.clap.specs.declared.parser.matches.ArgMatches.{ArgMatches}
use Rattle.clap.specs.declared.parser.matches.ArgMatches.TheViews.{out-ArgMatches, out-SubCommand}
use Rattle.clap.specs.declared.parser.matches.SubCommand.{SubCommand}
use Rattle.clap.proofs.OnLiterals.{clap_on_literals}
use Rattle.command_words.specs.Words.{asked, command_line, command_of, end_of, linked, port_number, storm_number, unless_fault}
use Rattle.command_words.specs.declared.Command.{Command}
use Rattle.command_words.specs.declared.Command.TheVariants.{Journal, Live, Replay, Storm}

pub line_is_plain : is_simple_and_free command_line ≡ true
unfolding command_line clap_on_literals
line_is_plain = refl

pub line_is_simple : is_simple command_line ≡ true
unfolding command_line clap_on_literals
line_is_simple = refl

pub taken : (kinds : Kinds) (command : Option Command) → kinds ≡ [] → command ≡ unless_fault kinds command
taken kinds command none = ap (λ ks. unless_fault ks command) (sym none)

refused : (kinds : Kinds) (command : Option Command) (e : Error) → HasKind kinds e → (kind_of e ≡ kind.OutOfMemory → ⊥) → None ≡ unless_fault kinds command
refused [] command e (inl memory) other = absurd (other memory)
refused [] command e (inr never) other = absurd never
refused (k ∷ ks) command e has other = refl

-- words that the line refuses for another reason than memory are no command
pub refused_words : (a : App) (words : List (List ℕ)) (e : Error) → a ≡ command_line → (is_simple_and_free a ≡ true → HasKind (fault_of a words) e) → (kind_of e ≡ kind.OutOfMemory → ⊥) → None ≡ command_of words
unfolding command_of
refused_words a words e is kinds other =
    refused (fault_of command_line words) _ e (subst (λ (x : App). is_simple_and_free x ≡ true → HasKind (fault_of x words) e) is kinds line_is_plain) other

-- ---- the subcommand

module _ {Z : Type 0} where
  joined_of : (s : Option (Box SubCommand Z)) (r : Option (Bor (List ℕ) × Bor ArgMatches)) → option_map (λ p. p.0.now) r ≡ option_map (λ b. (out-SubCommand (box_value b)).name.now) s
      → option_map (λ p. rows_of (found_of p.1.now)) r ≡ option_map (λ p. p.1) (subcommand_rows s) → option_map (λ p. (p.0.now, rows_of (found_of p.1.now))) r ≡ subcommand_rows s
  joined_of None None names rows = refl
  joined_of None (Some p) names rows = absurd (none-some _ (sym names))
  joined_of (Some b) None names rows = absurd (none-some _ names)
  joined_of (Some b) (Some p) names rows = ap₂ (λ (n : List ℕ) (r : List Row). Some (n, r)) (same_Some _ _ names) (same_Some _ _ rows)

-- what `subcommand` gives is the subcommand's name and its rows
pub joined : (m : ArgMatches) (r : Option (Bor (List ℕ) × Bor ArgMatches)) → option_map (λ p. p.0.now) r ≡ subcommand_name_of m
    → option_map (λ p. rows_of (found_of p.1.now)) r ≡ option_map (λ p. p.1) (subcommand_rows (out-ArgMatches m).subcommand)
    → option_map (λ p. (p.0.now, rows_of (found_of p.1.now))) r ≡ subcommand_rows_of m
joined m r names rows = joined_of (out-ArgMatches m).subcommand r names rows

-- ---- what each name asks for

pub replay_asked : (name : List ℕ) (rows : List Row) → name ≡ codes "replay" → Some Replay ≡ asked (name, rows)
unfolding asked
replay_asked name rows is = ap (λ n. asked (n, rows)) (sym is)

pub live_asked : (name : List ℕ) (f : Found) → name ≡ codes "live" → option_map Live (option_and_then port_number (first_value f (codes "port"))) ≡ asked (name, rows_of f)
unfolding asked
live_asked name f is = ap (λ t. option_map Live (option_and_then port_number t)) (first_value-rows f (codes "port")) ∙ ap (λ n. asked (n, rows_of f)) (sym is)

pub storm_asked : (name : List ℕ) (f : Found) → name ≡ codes "storm" → option_map Storm (option_and_then storm_number (first_value f (codes "number"))) ≡ asked (name, rows_of f)
unfolding asked
storm_asked name f is = ap (λ t. option_map Storm (option_and_then storm_number t)) (first_value-rows f (codes "number")) ∙ ap (λ n. asked (n, rows_of f)) (sym is)

pub journal_asked : (name : List ℕ) (rows : List Row) → name ≡ codes "journal" → Some Journal ≡ asked (name, rows)
unfolding asked
journal_asked name rows is = ap (λ n. asked (n, rows)) (sym is)

pub link_asked : (name : List ℕ) (f : Found) → name ≡ codes "link" → linked (option_and_then port_number (first_value f (codes "port"))) (option_and_then end_of (first_value f (codes "end"))) ≡ asked (name, rows_of f)
unfolding asked
link_asked name f is =
    ap (λ t. linked (option_and_then port_number t) (option_and_then end_of (first_value f (codes "end")))) (first_value-rows f (codes "port"))
    ∙ ap (λ t. linked (option_and_then port_number (first_of (codes "port") (rows_of f))) (option_and_then end_of t)) (first_value-rows f (codes "end")) ∙ ap (λ n. asked (n, rows_of f)) (sym is)

differs : (name other : List ℕ) → (name ≡ other → ⊥) → bytes_eq name other ≡ false
differs name other apart = false_from_ne_true (bytes_eq name other) (λ e. apart ((bytes_eq-Decides name other).0 e))

pub none_asked : (name : List ℕ) (rows : List Row) → (name ≡ codes "replay" → ⊥) → (name ≡ codes "live" → ⊥) → (name ≡ codes "storm" → ⊥) → (name ≡ codes "journal" → ⊥) → (name ≡ codes "link" → ⊥) → None ≡ asked (name, rows)
unfolding asked
none_asked name rows no_replay no_live no_storm no_journal no_link =
    rw (differs name _ no_replay, differs name _ no_live, differs name _ no_storm, differs name _ no_journal, differs name _ no_link) refl
