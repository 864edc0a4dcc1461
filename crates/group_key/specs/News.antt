-- What a message of an access point carries of its group keys (IEEE Std 802.11-2020, 12.7.2, profile).
use Rattle.std.specs.Prelude.{◌≡◌, ◌<◌, ◌^◌, ℕ, List, Option, None, Some}
use Rattle.std.specs.Option.{ForSome}
use denote.Ref.{Bor}
use Rattle.run_journal.specs.declared.domain.Domain.{Domain}
use Rattle.run_journal.specs.declared.acts.Act.{Act}
use Rattle.run_journal.specs.declared.acts.GroupKind.TheVariants as groups
use Rattle.run_journal.specs.Events.{protects}
use Rattle.run_journal.specs.Questions.{group_keys}
use Rattle.domain_rules.specs.GroupKeys.{newest_uses, igtk_news, IgtkNews as CarriedIgtk, News as CarriedNews}
use Rattle.group_key.specs.declared.keys.GroupKey.{GroupKey}
use Rattle.group_key.specs.declared.keys.Pair.{Pair}
use Rattle.group_key.specs.declared.news.IgtkNews.{IgtkNews}
use Rattle.group_key.specs.declared.news.News.{News}
use Rattle.group_key.specs.Keys.{Pairs}
use Rattle.group_key.specs.Holds.{IsLast, carried}

-- an IGTK with its count, where there is one
abbrev pub igtk_of : Option (Bor GroupKey × ℕ) → Option IgtkNews
igtk_of None = None
igtk_of (Some k) = Some (record { igtk = k.0.now; ipn = k.1 })

-- a GTK with its count, and that
abbrev pub news_of : GroupKey → ℕ → Option (Bor GroupKey × ℕ) → News
news_of gtk rsc igtk = record { gtk = gtk; rsc = rsc; igtk = igtk_of igtk }

-- they fit into a KDE: the key id of the GTK has two bits, and packet numbers have six octets (12.7.2)
abbrev pub FitsNews : News → Type 0
FitsNews n = (n.gtk.id < 4) × (n.rsc < 2 ^ 48) × ForSome n.igtk (λ (k : IgtkNews). k.ipn < 2 ^ 48)

-- the IGTK as frames carry it
abbrev pub carried_igtk : Option IgtkNews → Option CarriedIgtk
carried_igtk None = None
carried_igtk (Some k) = Some (record { igtk = carried k.igtk; ipn = k.ipn })

-- the group keys as frames carry them
abbrev pub carried_news : News → CarriedNews
carried_news n = record { gtk = carried n.gtk; rsc = n.rsc; igtk = carried_igtk n.igtk }

-- after the history h of an access point they are the newest: the GTK with its place in the order of drawing
pub record IsNewest (d : Domain) (n : News) (h : List Act) : Type 0 where
  pub last : IsLast groups.Gtk n.gtk (group_keys groups.Gtk h)
  pub uses : newest_uses groups.Gtk h ≡ n.rsc
  pub igtk : igtk_news (protects d) h ≡ carried_igtk n.igtk

-- the newest of the keys of an access point, of which so many packet numbers were used
abbrev pub newest_igtk : Option Pair → ℕ → Option IgtkNews
newest_igtk None ipn = None
newest_igtk (Some s) ipn = Some (record { igtk = s.newest; ipn = ipn })

abbrev pub newest_news : Pairs → ℕ → ℕ → News
newest_news s rsc ipn = record { gtk = s.gtk.newest; rsc = rsc; igtk = newest_igtk s.igtk ipn }
