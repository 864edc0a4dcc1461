-- What the code keeps of a word, as what the word says (profile).
use Rattle.std.specs.Prelude.{ℕ, true, false, List, [], unwrap_or}
use Rattle.script_words.specs.declared.tokens.NodeName.{NodeName}
use Rattle.script_words.specs.declared.tokens.NodeName.TheVariants.{Ap, Sta}
use Rattle.script_words.specs.declared.tokens.PeerName.{PeerName}
use Rattle.script_words.specs.declared.tokens.PeerName.TheVariants as peers
use Rattle.script_words.specs.Tokens.{NodeWord, PeerWord, ToAll, ToOne, named, hex_value}

-- a node
abbrev pub name_of : NodeName → NodeWord
name_of (Ap number) = named true number
name_of (Sta number) = named false number

-- two nodes
abbrev pub names_of : (NodeName × NodeName) → NodeWord × NodeWord
names_of names = (name_of names.0, name_of names.1)

-- to whom is sent
abbrev pub peer_of : PeerName → PeerWord
peer_of peers.All = ToAll
peer_of (peers.One name) = ToOne (name_of name)

-- the octets that the digits write, if they write any
abbrev pub octets_of : List ℕ → List ℕ
octets_of digits = unwrap_or (hex_value digits) []
