-- What an attempt has agreed on from M2 on (profile).
use Rattle.std.specs.Prelude.{ℕ, List}
use Rattle.group_key.specs.declared.news.News.{News}
use Rattle.run_journal.specs.declared.reply.Keyed.{Keyed}

-- the key that was derived, and the group keys, with their counts of packet numbers, and the key data, before padding and wrap, that
-- M3 carries
pub record Agreed : Type 0 where
  pub key : Keyed
  pub news : News
  pub plain : List ℕ
