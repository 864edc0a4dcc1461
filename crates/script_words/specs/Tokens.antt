-- The words of a script's line (profile).
use Rattle.std.specs.Prelude.{ℕ, ◌+◌, ◌*◌, ◌%◌, ◌==◌, ◌&&◌, not, Bool, true, false, nat_le, if◌then◌else◌, List, [], ◌∷◌, length, take, drop, position, slice_index, bytes_eq, codes, Option, None, Some, option_and_then, option_map, nat_lt}
use Rattle.std.specs.Option.{option_or}
use Rattle.std.specs.List.{list_all}
use Rattle.std.specs.Char.{is_ascii_digit}
use Rattle.std.specs.Str.Parse.{digits_value}
use Rattle.hex.specs.Hex.{hex_digit_value}

-- the second form with what the first one gave, if it gave anything
infixl 10 ◌>>=◌
abbrev pub ◌>>=◌ : {A B : Type 0} → Option A → (A → Option B) → Option B
o >>= f = option_and_then f o

-- what stands after the word at the front of the text
unfoldable pub behind : List ℕ → List ℕ → Option (List ℕ)
behind word text =
    if bytes_eq (take (length word) text) word then Some (drop (length word) text) else None

-- what stands before the first space, and what stands after it
unfoldable pub split_word : List ℕ → Option (List ℕ × List ℕ)
split_word text = do
  place ← position (λ c. c == 32) text
  Some (take place text, drop (place + 1) text)

-- the octets that pairs of hexadecimal digits of either case write, the high four bits first
unfoldable pub hex_value : List ℕ → Option (List ℕ)
hex_value [] = Some []
hex_value (digit ∷ []) = None
hex_value (high ∷ low ∷ rest) = do
  h ← hex_digit_value high
  l ← hex_digit_value low
  octets ← hex_value rest
  Some ((h * 16 + l) ∷ octets)

-- octets by pairs of hexadecimal digits of either case, of that number
unfoldable pub hex_octets : ℕ → List ℕ → Option (List ℕ)
hex_octets size text = if length text == 2 * size then hex_value text else None

-- an address of one node: neither zero nor a group's
unfoldable pub is_single : List ℕ → Bool
is_single octets = not (bytes_eq octets (0 ∷ 0 ∷ 0 ∷ 0 ∷ 0 ∷ 0 ∷ [])) && slice_index octets 0 % 2 == 0

-- the number that one to ten decimal digits write
unfoldable pub number_of_digits : List ℕ → Option ℕ
number_of_digits text =
    if nat_le 1 (length text) && nat_le (length text) 10 && list_all is_ascii_digit text then Some (digits_value 10 text)
    else None

-- a size from 1 to the greatest, and every code from the least to 126
abbrev pub is_text : ℕ → ℕ → List ℕ → Bool
is_text greatest least text =
    nat_le 1 (length text) && nat_le (length text) greatest && list_all (λ c. nat_le least c && nat_le c 126) text

-- the first word, and what stands after the space after it; a text without a space is one word
abbrev pub word_and_rest : List ℕ → Option (List ℕ × List ℕ) → List ℕ × List ℕ
word_and_rest text None = (text, [])
word_and_rest text (Some words) = words

-- in a text, of any words
unfoldable pub first_word : List ℕ → List ℕ × List ℕ
first_word text = word_and_rest text (split_word text)

-- a node by its word: `a` (an access point) or `s` (a station), and its number from 1
pub record NodeWord : Type 0 where
  pub is_ap : Bool
  pub number : ℕ

abbrev pub named : Bool → ℕ → NodeWord
named is_ap number = record { is_ap = is_ap; number = number }

unfoldable pub numbered : Bool → List ℕ → List ℕ → Option NodeWord
numbered is_ap letter word = do
  digits ← behind letter word
  number ← number_of_digits digits
  Some (named is_ap number)

-- by either letter
unfoldable pub node_word : List ℕ → Option NodeWord
node_word word = option_or (numbered true (codes "a") word) (numbered false (codes "s") word)

-- to whom is sent, by its word: `all`, or a node
pub data PeerWord : Type 0 where
  ToAll : PeerWord
  ToOne : NodeWord → PeerWord

-- by its word
unfoldable pub peer_word : List ℕ → Option PeerWord
peer_word word = if bytes_eq word (codes "all") then Some ToAll else option_map ToOne (node_word word)

-- a traffic identifier from 0 to 15, or `-` where there is none
unfoldable pub tid_number : List ℕ → Option ℕ
tid_number word = do
  number ← number_of_digits word
  if nat_lt number 16 then Some number else None

-- a packet number from 1 to 2^32 - 1, at which pairwise keys are renewed
unfoldable pub packet_number : List ℕ → Option ℕ
packet_number word = do
  number ← number_of_digits word
  if nat_le 1 number && nat_lt number 4294967296 then Some number else None

-- with `-` for none
unfoldable pub tid_word : List ℕ → Option (Option ℕ)
tid_word word = if bytes_eq word (codes "-") then Some None else option_map Some (tid_number word)

-- octets, at least one, in pairs of hexadecimal digits
unfoldable pub some_octets : List ℕ → Option (List ℕ)
some_octets text = if nat_le 1 (length text) then hex_value text else None
