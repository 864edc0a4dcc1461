-- The KDEs of group keys.
use Rattle.std.proofs.Common.{◌≡◌, ◌+◌, ◌<◌, ◌^◌, ℕ, List, ◌++◌, length, Option, Some, None, sym, ap, ◌∙◌, arith, length-append}
use Rattle.std.specs.Int.{w16, to_le_bytes}
use Rattle.rsn_elements.specs.Sent.{gtk_kde_octets, ipn_octets, igtk_kde_octets}
use Rattle.domain_rules.specs.Frames.{and_igtk_kde, group_kdes}
use Rattle.group_key.specs.declared.news.IgtkNews.{IgtkNews}
use Rattle.group_key.specs.declared.news.News.{News}
use Rattle.group_key.specs.News.{FitsNews, carried_igtk, carried_news}

-- what fits into KDEs
pub id_low : (n : News) → FitsNews n → n.gtk.id < 4
id_low n fits = fits.0

pub rsc_low : (n : News) → FitsNews n → n.rsc < 2 ^ 48
rsc_low n fits = fits.1

pub ipn_low : (n : News) (k : IgtkNews) → FitsNews n → n.igtk ≡ Some k → k.ipn < 2 ^ 48
ipn_low n k fits is = fits.2 k is

-- how long an IGTK KDE is
pub igtk_kde_size : (id ipn : ℕ) (key : List ℕ) → length key ≡ 16 → length (igtk_kde_octets id ipn key) ≡ 30
igtk_kde_size id ipn key size = omega (arith, size, length-append (to_le_bytes w16 id) (ipn_octets ipn ++ key), length-append (ipn_octets ipn) key)

-- the GTK alone, or both keys, as messages carry them
kdes_by : (n : News) (gtk : List ℕ) (o : Option IgtkNews) → n.igtk ≡ o → gtk ≡ gtk_kde_octets n.gtk.id n.gtk.key → and_igtk_kde (carried_igtk o) gtk ≡ group_kdes (carried_news n)
kdes_by n gtk o is says =
    ap (and_igtk_kde (carried_igtk o)) says ∙ ap (λ (x : Option IgtkNews). and_igtk_kde (carried_igtk x) (gtk_kde_octets n.gtk.id n.gtk.key)) (sym is)

pub one_kde : (n : News) (gtk out : List ℕ) → n.igtk ≡ None → gtk ≡ gtk_kde_octets n.gtk.id n.gtk.key → out ≡ gtk → out ≡ group_kdes (carried_news n)
one_kde n gtk out is says same = same ∙ kdes_by n gtk None is says

pub two_kdes : (n : News) (k : IgtkNews) (gtk out : List ℕ) → n.igtk ≡ Some k → gtk ≡ gtk_kde_octets n.gtk.id n.gtk.key → out ≡ gtk ++ igtk_kde_octets k.igtk.id k.ipn k.igtk.key → out ≡ group_kdes (carried_news n)
two_kdes n k gtk out is says same = same ∙ kdes_by n gtk (Some k) is says
