-- Key data that is wrapped (IEEE Std 802.11-2020, 12.7.2).
use Rattle.std.specs.Prelude.{ℕ, ◌+◌, List, ◌++◌, length}
use Rattle.domain_base.specs.Padding.{padding, padding_octets}

-- how long key data is once it is padded
abbrev pub padded_length : ℕ → ℕ
padded_length size = size + padding size

-- key data as it is wrapped
abbrev pub padded : List ℕ → List ℕ
padded key_data = key_data ++ padding_octets (padding (length key_data))
