-- What is wrong with a word of a line (profile).
use Rattle.std.specs.Prelude.{ℕ, zero, suc, ◌%◌, ◌==◌, ◌&&◌, Bool, true, false, nat_le, nat_lt, if◌then◌else◌, List, [], ◌∷◌, length, slice_index, bytes_eq, codes, Option, None, Some}
use Rattle.std.specs.List.{list_all, list_any}
use Rattle.std.specs.Char.{is_ascii_hexdigit}
use Rattle.script_words.specs.declared.forms.Form.{Form}
use Rattle.script_words.specs.declared.kinds.Kind.{Kind}
use Rattle.script_words.specs.declared.kinds.Kind.TheVariants as kind
use Rattle.script_words.specs.declared.causes.Cause.{Cause}
use Rattle.script_words.specs.declared.causes.Cause.TheVariants.{Plain, Space, Tab, Strange, Comment, Capital, Missing, Many, Second, LiveRun, Version, Colons, NoDigit, Odd, Size, Zero, Group, NoNumber, NoPacketNumber, NoNode, NoPeer, NoTid, NoTo, NoSuite, NoKeyWord, NoStaOrAll, Short, Long}
use Rattle.script_words.specs.Tokens.{◌>>=◌, split_word, first_word, hex_octets, number_of_digits, packet_number, node_word, peer_word, tid_word}
use Rattle.script_words.specs.Kinds.{is_needed, kind_at}

-- what stands after so many words; none where there are fewer
unfoldable pub words_from : ℕ → List ℕ → Option (List ℕ)
words_from zero line = Some line
words_from (suc n) line = do
  words ← split_word line
  words_from n words.1

-- a word that is none, or has octets that no word has
unfoldable pub blemish : Cause → List ℕ → Cause
blemish other word =
    if length word == 0 then Space
    else if list_any (λ c. c == 9) word then Tab
    else if list_all (λ c. nat_le 33 c && nat_le c 126) word then other
    else Strange

-- a comment begins so
abbrev pub is_comment : List ℕ → Bool
is_comment [] = false
is_comment (c ∷ word) = c == 35

-- a word that begins a comment, or has a capital
unfoldable pub lower : Cause → List ℕ → Cause
lower other word =
    if is_comment word then Comment
    else if list_any (λ c. nat_le 65 c && nat_le c 90) word then Capital
    else other

-- a word of the language that is misspelled
abbrev pub slip : Cause → List ℕ → Cause
slip other word = blemish (lower other word) word

-- hexadecimal digits in pairs, as many as there should be or not
unfoldable pub hex_cause : Bool → List ℕ → Cause
hex_cause whole word =
    if length word == 0 then Space
    else if list_all is_ascii_hexdigit word then (if length word % 2 == 0 then (if whole then Plain else Size) else Odd)
    else blemish NoDigit word

-- an address that is not one node's
unfoldable pub single_cause : List ℕ → Cause
single_cause octets =
    if bytes_eq octets (0 ∷ 0 ∷ 0 ∷ 0 ∷ 0 ∷ 0 ∷ []) then Zero
    else if slice_index octets 0 % 2 == 0 then Plain
    else Group

-- an address, by its octets where it has twelve digits
abbrev pub by_octets : List ℕ → Option (List ℕ) → Cause
by_octets word None = hex_cause (length word == 12) word
by_octets word (Some octets) = single_cause octets

unfoldable pub address_cause : List ℕ → Cause
address_cause word = if list_any (λ c. c == 58) word then Colons else by_octets word (hex_octets 6 word)

-- an R0KH-ID
unfoldable pub id_cause : List ℕ → Cause
id_cause word = if nat_le (length word) 48 then blemish Plain word else Long

-- a text to the end of the line, of so many octets at least and at most
unfoldable pub text_cause : ℕ → ℕ → List ℕ → Cause
text_cause least most text =
    if nat_lt (length text) least then Short
    else if nat_lt most (length text) then Long
    else if list_all (λ c. nat_le 32 c && nat_le c 126) text then Plain
    else Strange

-- what is there as it should be, or what is wrong with it
abbrev pub fits : {A : Type 0} → Option A → Cause → List ℕ → Cause
fits None other word = slip other word
fits (Some a) other word = Plain

unfoldable pub suite_cause : List ℕ → Cause
suite_cause word =
    if bytes_eq word (codes "psk") then Plain
    else if bytes_eq word (codes "psk-sha256") then Plain
    else if bytes_eq word (codes "ft-psk") then Plain
    else slip NoSuite word

-- a seed; `draw` is one of a live run
unfoldable pub seed_cause : Cause → List ℕ → Cause
seed_cause draws word = if bytes_eq word (codes "draw") then draws else hex_cause (length word == 64) word

-- the word that says in which form a key follows
abbrev pub is_key_word : List ℕ → Bool
is_key_word word = if bytes_eq word (codes "psk") then true else bytes_eq word (codes "passphrase")

unfoldable pub key_word_cause : List ℕ → Cause
key_word_cause word = if is_key_word word then Plain else slip NoKeyWord word

-- where nothing may stand, but in scripts of version 2 the word of a key
unfoldable pub no_key_cause : List ℕ → Cause
no_key_cause word = if is_key_word word then Second else slip Many word

-- a word by what should stand there
unfoldable pub word_cause : Kind → List ℕ → Cause
word_cause kind.Version word = if bytes_eq word (codes "1") then Plain else if bytes_eq word (codes "2") then Plain else slip Version word
word_cause kind.Seed word = seed_cause LiveRun word
word_cause kind.LiveSeed word = seed_cause Plain word
word_cause kind.Psk word = hex_cause (length word == 64) word
word_cause kind.Akm word = suite_cause word
word_cause kind.Mdid word = hex_cause (length word == 4) word
word_cause kind.Address word = address_cause word
word_cause kind.R0khId word = id_cause word
word_cause kind.Ap word = fits (node_word word) NoNode word
word_cause kind.Sta word = fits (node_word word) NoNode word
word_cause kind.Node word = fits (node_word word) NoNode word
word_cause kind.Peer word = fits (peer_word word) NoPeer word
word_cause kind.Tid word = fits (tid_word word) NoTid word
word_cause kind.Number word = fits (number_of_digits word) NoNumber word
word_cause kind.Place word = fits (number_of_digits word) NoNumber word
word_cause kind.Length word = fits (number_of_digits word) NoNumber word
word_cause kind.Mask word = hex_cause (length word == 2) word
word_cause kind.Octets word = hex_cause true word
word_cause kind.To word = if bytes_eq word (codes "to") then Plain else slip NoTo word
word_cause kind.NoKey word = no_key_cause word
word_cause kind.OwnKey word = key_word_cause word
word_cause kind.KeyWord word = key_word_cause word
word_cause kind.StaOrAll word = fits (peer_word word) NoStaOrAll word
word_cause kind.PacketNumber word = fits (packet_number word) NoPacketNumber word
word_cause kind_ word = slip Many word

-- a word, and what stands after it
unfoldable pub kind_cause : Kind → List ℕ → Cause
kind_cause kind.Ssid text = text_cause 1 32 text
kind_cause kind.Passphrase text = text_cause 8 63 text
kind_cause kind_ text = word_cause kind_ (first_word text).0

-- the form of a key by the word before it and what stands after that; nothing without it
abbrev pub key_kind : Option (List ℕ) → Kind
key_kind None = kind.End
key_kind (Some text) = if bytes_eq (first_word text).0 (codes "passphrase") then kind.Passphrase else kind.Psk

abbrev pub kind_by : Kind → List ℕ → Kind
kind_by kind.Key line = key_kind (words_from 2 line)
kind_by kind_ line = kind_

-- what should stand in a line of the form after so many words: a key is in the form that the line's third word says, and
-- without that word nothing
unfoldable pub kind_in : Form → ℕ → List ℕ → Kind
kind_in form before line = kind_by (kind_at form before) line

-- what stands there, if it does
abbrev pub cause_at : Kind → Option (List ℕ) → Cause
cause_at kind_ None = if is_needed kind_ then Missing else Plain
cause_at kind_ (Some text) = if length text == 0 && is_needed kind_ then Missing else kind_cause kind_ text
