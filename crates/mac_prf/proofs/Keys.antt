-- The key of an HMAC as one block.
use Rattle.std.proofs.Common.{◌≡◌, ℕ, ◌<◌, ◌≤◌, List, ◌++◌, length, drop, replicate, refl}
use Rattle.std.proofs.lemmas.Bool.{lt-ltb, le-ltb}
use Rattle.std.proofs.lemmas.List.{drop-replicate}
use Rattle.mac_prf.specs.Hmac.{block_key}

-- a key that was hashed, with the zeros that stood behind it
pub block_key-long : (hash : List ℕ → List ℕ) (key digest : List ℕ) → 64 < length key → digest ≡ hash key → digest ++ drop (length digest) (replicate 64 0) ≡ block_key hash key
block_key-long hash key digest h e = rw (lt-ltb 64 (length key) h, e, drop-replicate) refl

-- a key of at most a block, with the zeros that stood behind it
pub block_key-short : (hash : List ℕ → List ℕ) (key : List ℕ) → length key ≤ 64 → key ++ drop (length key) (replicate 64 0) ≡ block_key hash key
block_key-short hash key h = rw (le-ltb 64 (length key) h, drop-replicate) refl
