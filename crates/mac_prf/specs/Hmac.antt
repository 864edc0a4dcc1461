-- HMAC over any hash function of blocks of 64 octets (RFC 2104, 2).
use Rattle.std.specs.Prelude.{ℕ, ◌-◌, List, ◌++◌, length, map, replicate, bit_xor, nat_lt, if◌then◌else◌}

-- K as one block: a key longer than a block is hashed first, and zeros fill the rest
abbrev pub block_key : (List ℕ → List ℕ) → List ℕ → List ℕ
block_key hash key =
    if nat_lt 64 (length key)
    then hash key ++ replicate (64 - length (hash key)) 0
    else key ++ replicate (64 - length key) 0

-- a block, each octet exclusive or the octet of a pad
abbrev pub masked : ℕ → List ℕ → List ℕ
masked pad block = map (λ octet. bit_xor octet pad) block

-- H(K xor opad, H(K xor ipad, text)), with ipad octets 0x36 and opad octets 0x5c
unfoldable pub hmac : (List ℕ → List ℕ) → List ℕ → List ℕ → List ℕ
hmac hash key text =
    hash (masked 0x5c (block_key hash key) ++ hash (masked 0x36 (block_key hash key) ++ text))
