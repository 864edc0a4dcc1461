-- Which word is wrong in words that are no command, and what is said of it (profile).
use Rattle.std.specs.Prelude.{ℕ, if◌then◌else◌, Bool, List, bytes_eq, codes, Option, None, Some}
use Rattle.command_words.specs.declared.faults.WordFault.{WordFault}
use Rattle.command_words.specs.declared.faults.WordFault.TheVariants.{Command, Port, Number, End, Many}
use Rattle.command_words.specs.declared.faults.WrongWord.{WrongWord}
use Rattle.link_steps.specs.declared.ends.LinkEnd.{LinkEnd}
use Rattle.command_words.specs.Words.{end_of, port_number, storm_number}

-- the words on standard error after the place of the word
abbrev pub fault_text : WordFault → List ℕ
fault_text Command = codes "has to be replay, live, storm, journal or link"
fault_text Port = codes "has to be a port from 1024 to 64000, in one to ten digits"
fault_text End = codes "has to be holder or asker"
fault_text Number = codes "has to be a number from 0 to 4294967295, in one to ten digits"
fault_text Many = codes "is one too many"

-- a word, from 1, and what is wrong with it
abbrev pub wrong : ℕ → WordFault → WrongWord
wrong word fault = record { word = word; fault = fault }

-- the word is `--`, which `clap` passes over once after the command
abbrev pub ends_options : List ℕ → Bool
ends_options word = bytes_eq word (codes "--")

-- the word at that place, where it is no number; the one after it, where it is one
abbrev pub wrong_number : ℕ → ℕ → WordFault → Option ℕ → WrongWord
wrong_number place after fault None = wrong place fault
wrong_number place after fault (Some number) = wrong after Many

abbrev pub wrong_port : ℕ → ℕ → List ℕ → WrongWord
wrong_port place after word = wrong_number place after Port (port_number word)

abbrev pub wrong_storm_number : ℕ → ℕ → List ℕ → WrongWord
wrong_storm_number place after word = wrong_number place after Number (storm_number word)

-- the word at that place, where it is no number; else another
abbrev pub wrong_after : ℕ → Option ℕ → WrongWord → WrongWord
wrong_after place None other = wrong place Port
wrong_after place (Some number) other = other

-- what is wrong after `live`, and after `storm`: `--` may stand before the number or after it
abbrev pub wrong_live : List ℕ → List ℕ → WrongWord
wrong_live second third =
    if ends_options second then wrong_port 3 4 third
    else if ends_options third then wrong_port 2 4 second
    else wrong_port 2 3 second

abbrev pub wrong_storm : List ℕ → List ℕ → WrongWord
wrong_storm second third =
    if ends_options second then wrong_storm_number 3 4 third
    else if ends_options third then wrong_storm_number 2 4 second
    else wrong_storm_number 2 3 second

-- after `replay`, and after `journal`, which take no word
abbrev pub wrong_alone : List ℕ → WrongWord
wrong_alone second = wrong (if ends_options second then 3 else 2) Many

-- after `link`, which takes a port and then an end: `--` may stand before, between or after them
abbrev pub wrong_end : ℕ → ℕ → Option LinkEnd → WrongWord
wrong_end place after None = wrong place End
wrong_end place after (Some end) = wrong after Many

-- the port at that place, where it is none; else the end
abbrev pub wrong_pair : ℕ → ℕ → ℕ → List ℕ → List ℕ → WrongWord
wrong_pair port end after word last = wrong_after port (port_number word) (wrong_end end after (end_of last))

unfoldable pub wrong_link : List ℕ → List ℕ → List ℕ → WrongWord
wrong_link second third fourth =
    if ends_options second then wrong_pair 3 4 5 third fourth
    else if ends_options third then wrong_pair 2 4 5 second fourth
    else if ends_options fourth then wrong_pair 2 3 5 second third
    else wrong_pair 2 3 4 second third

-- by the first four words, of which one that is missing is empty
unfoldable pub wrong_in : List ℕ → List ℕ → List ℕ → List ℕ → WrongWord
wrong_in first second third fourth =
    if bytes_eq first (codes "replay") then wrong_alone second
    else if bytes_eq first (codes "live") then wrong_live second third
    else if bytes_eq first (codes "storm") then wrong_storm second third
    else if bytes_eq first (codes "journal") then wrong_alone second
    else if bytes_eq first (codes "link") then wrong_link second third fourth
    else wrong 1 Command
