-- The newest IGTK with its count, as calls take it.
use Rattle.std.proofs.Common.{◌≡◌, ◌∙◌, ℕ, Option, Some, None, Bor, refl, sym, ap}
use Rattle.group_key.specs.declared.keys.GroupKey.{GroupKey}
use Rattle.group_key.specs.declared.news.IgtkNews.{IgtkNews}
use Rattle.group_key.specs.declared.news.News.{News}
use Rattle.group_key.specs.News.{news_of}

abbrev with_igtk : News → Option IgtkNews → News
with_igtk n o = record { gtk = n.gtk; rsc = n.rsc; igtk = o }

abbrev igtk_with : GroupKey → ℕ → Option IgtkNews
igtk_with g ipn = Some (record { igtk = g; ipn = ipn })

pub news_found : (n : News) (k : IgtkNews) (b : Bor GroupKey) (ipn : ℕ) → n.igtk ≡ Some k → b.now ≡ k.igtk → ipn ≡ k.ipn → news_of n.gtk n.rsc (Some (b, ipn)) ≡ n
news_found n k b ipn is key count = ap (with_igtk n) (same key count ∙ sym is)
  where
    same : {g h : GroupKey} {i m : ℕ} → g ≡ h → i ≡ m → igtk_with g i ≡ igtk_with h m
    same e f = rw (e, f) refl

pub news_absent : (n : News) → n.igtk ≡ None → news_of n.gtk n.rsc None ≡ n
news_absent n is = ap (with_igtk n) (sym is)
