-- What the words of the command line ask for, by clap's own definitions of whether a command line takes the words, and
-- of what it then finds (profile).
use Rattle.std.specs.Prelude.{ℕ, ◌^◌, ◌&&◌, nat_le, nat_lt, true, if◌then◌else◌, List, [], ◌∷◌, length, bytes_eq, codes, Option, None, Some, option_and_then, option_map}
use Rattle.std.specs.Char.{is_ascii_digit}
use Rattle.std.specs.List.{list_all}
use Rattle.std.specs.Str.Parse.{digits_value}
use Rattle.clap.specs.Words.{App, Kinds, Row, Rule, fault_of, first_of, new_app, new_rule, subcommand_of, with_rule, with_subcommand}
use Rattle.link_steps.specs.declared.ends.LinkEnd.{LinkEnd}
use Rattle.link_steps.specs.declared.ends.LinkEnd.TheVariants.{Holder, Asker}
use Rattle.command_words.specs.declared.Command.{Command}
use Rattle.command_words.specs.declared.Command.TheVariants.{Journal, Link, Live, Replay, Storm}

-- ---- the command line: `replay`, `live <port>`, `storm <number>`, `journal`, `link <port> <end>`

-- a subcommand or an argument is needed
abbrev pub needed : Rule → Rule
needed r = record r { required = true }

-- the subcommand `replay` as `clap` sees it, which takes no argument
abbrev pub replay_line : App
replay_line = new_app (codes "replay")

-- `live`, which needs a port
abbrev pub live_line : App
live_line = with_rule (new_app (codes "live")) (needed (new_rule (codes "port")))

-- `storm`, which needs a number
abbrev pub storm_line : App
storm_line = with_rule (new_app (codes "storm")) (needed (new_rule (codes "number")))

-- `journal`, which takes no argument
abbrev pub journal_line : App
journal_line = new_app (codes "journal")

-- `link`, which needs a port and an end
abbrev pub link_line : App
link_line = with_rule (with_rule (new_app (codes "link")) (needed (new_rule (codes "port")))) (needed (new_rule (codes "end")))

-- one of the subcommands is needed, and the words are those after the program's name
abbrev pub bare_line : App
bare_line =
    let empty = new_app (codes "kehtrop") in
    record empty { top = record empty.top { no_binary_name = true; subcommand_required = true } }

-- the whole command line as `clap` sees it: one of the five subcommands is needed
unfoldable pub command_line : App
command_line =
    with_subcommand (with_subcommand (with_subcommand (with_subcommand (with_subcommand bare_line replay_line.top) live_line.top) storm_line.top) journal_line.top)
    link_line.top

-- ---- the numbers

-- the number that one to ten decimal digits write
unfoldable pub digits_number : List ℕ → Option ℕ
digits_number text =
    if nat_le 1 (length text) && nat_le (length text) 10 && list_all is_ascii_digit text then Some (digits_value 10 text)
    else None

-- it lies between these two
abbrev pub between : ℕ → ℕ → ℕ → Option ℕ
between least greatest number = if nat_le least number && nat_le number greatest then Some number else None

-- a port: a decimal number from 1024 to 64000
abbrev pub port_number : List ℕ → Option ℕ
port_number text = option_and_then (between 1024 64000) (digits_number text)

-- the number of a storm: a decimal number below 2^32
abbrev pub storm_number : List ℕ → Option ℕ
storm_number text = option_and_then (λ number. if nat_lt number (2 ^ 32) then Some number else None) (digits_number text)

-- ---- an end of a link

-- by its word
abbrev pub end_of : List ℕ → Option LinkEnd
end_of word =
    if bytes_eq word (codes "holder") then Some Holder
    else if bytes_eq word (codes "asker") then Some Asker
    else None

-- ---- the command

-- what `link` asks for, by a port and an end
abbrev pub linked : Option ℕ → Option LinkEnd → Option Command
linked (Some port) (Some end) = Some (Link port end)
linked port end = None

-- what the subcommand of that name asks for, by what was found of its argument
unfoldable pub asked : List ℕ × List Row → Option Command
asked met =
    if bytes_eq met.0 (codes "replay") then Some Replay
    else if bytes_eq met.0 (codes "live") then option_map Live (option_and_then port_number (first_of (codes "port") met.1))
    else if bytes_eq met.0 (codes "storm") then option_map Storm (option_and_then storm_number (first_of (codes "number") met.1))
    else if bytes_eq met.0 (codes "journal") then Some Journal
    else if bytes_eq met.0 (codes "link") then linked (option_and_then port_number (first_of (codes "port") met.1)) (option_and_then end_of (first_of (codes "end") met.1))
    else None

-- the command, if there is no fault
abbrev pub unless_fault : Kinds → Option Command → Option Command
unless_fault [] command = command
unless_fault (kind ∷ kinds) command = None

-- the command that words ask for: none where `clap` has a fault, else that of the subcommand met and what its arguments
-- say
unfoldable pub command_of : List (List ℕ) → Option Command
command_of words = unless_fault (fault_of command_line words) (option_and_then asked (subcommand_of command_line words))
