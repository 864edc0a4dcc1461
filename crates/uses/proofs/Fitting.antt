-- A group key alone fits into the messages that carry it.
use Rattle.std.proofs.Common.{◌≡◌, ◌<◌, ◌^◌, None, arith}
use Rattle.group_key.specs.declared.keys.GroupKey.{GroupKey}
use Rattle.group_key.specs.News.{news_of, FitsNews}

pub fits_alone : (g : GroupKey) → g.id < 4 → FitsNews (news_of g 0 None)
fits_alone g low = (low, omega arith, λ k is. absurd (cc is))
