-- The parts of a pairwise transient key (IEEE Std 802.11-2020, 12.7.1.3, 12.7.1.6.5).
use Rattle.std.specs.Prelude.{ℕ, List}
use Rattle.domain_base.specs.Places.{part}
use Rattle.key_hierarchy.specs.declared.inputs.Ptk.{Ptk}

-- KCK, KEK and TK: the first, second and third 16 octets
abbrev pub split_ptk : List ℕ → Ptk
split_ptk octets = record { kck = part 0 16 octets; kek = part 16 16 octets; tk = part 32 16 octets }
