-- What a pull leaves of a cache of keys (profile).
use Rattle.std.specs.Prelude.{◌≡◌, ℕ, List}
use Rattle.domain_base.specs.declared.names.Mac.{Mac}
use Rattle.key_hierarchy.specs.declared.answers.PullAnswer.{PullAnswer}
use Rattle.key_hierarchy.specs.declared.answers.PullAnswer.TheVariants as pulled
use Rattle.key_holders.specs.declared.rows.HolderRow.{HolderRow}
use Rattle.key_holders.specs.declared.r1_cache.CacheAnswer.{CacheAnswer}
use Rattle.key_holders.specs.Keys.{row_r1}
use Rattle.key_holders.specs.Pulls.{Matches}
use Rattle.key_holders.specs.Cached.{Cached, pair_of, CacheAfter}

-- Where a key was found, the cache was asked for it, by the whole row that was found and the R1KH-ID. Else it is as it was.
abbrev pub CacheAfterPull : List ℕ → Mac → Mac → Cached → Cached → PullAnswer → Type 0
CacheAfterPull name r1kh sta c d (pulled.Found r1) =
    (row : HolderRow) × (a : CacheAnswer) × Matches name sta row × (r1 ≡ row_r1 row r1kh) × CacheAfter (pair_of row r1kh) c a d
CacheAfterPull name r1kh sta c d pulled.Absent = d ≡ c
CacheAfterPull name r1kh sta c d pulled.NoHolder = d ≡ c
