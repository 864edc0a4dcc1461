-- Group keys of an access point that were just drawn (IEEE Std 802.11-2020, 12.7.7, profile).
-- For the code alone: no public contract speaks of it.
use Rattle.std.specs.Prelude.{Option, Some, None}
use Rattle.group_key.specs.declared.keys.GroupKey.{GroupKey}
use Rattle.group_key.specs.declared.news.IgtkNews.{IgtkNews}
use Rattle.group_key.specs.declared.news.News.{News}

-- an IGTK under which no packet number was used, where there is one
abbrev pub unused_igtk : Option GroupKey → Option IgtkNews
unused_igtk None = None
unused_igtk (Some igtk) = Some (record { igtk = igtk; ipn = 0 })

-- and a GTK
abbrev pub unused_news : GroupKey → Option GroupKey → News
unused_news gtk igtk = record { gtk = gtk; rsc = 0; igtk = unused_igtk igtk }
