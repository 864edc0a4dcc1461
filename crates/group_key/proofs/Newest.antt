-- The group keys of both kinds of an access point beside those that its history drew, and what its messages carry of them.
use Rattle.std.proofs.Common.{◌≡◌, ℕ, Bool, true, false, List, [], ◌∷◌, Option, Some, None, refl, sym, ap, subst, ◌∙◌}
use Rattle.std.specs.Prelude.{◌==◌}
use Rattle.std.specs.List.{AllByRecursion}
use Rattle.run_journal.specs.declared.domain.Domain.{Domain}
use Rattle.run_journal.specs.declared.acts.GroupKind.TheVariants as groups
use Rattle.run_journal.specs.declared.acts.Act.{Act}
use Rattle.run_journal.specs.Acts.{GroupKey as Carried}
use Rattle.run_journal.specs.Events.{protects}
use Rattle.run_journal.specs.Questions.{group_keys, add}
use Rattle.domain_rules.specs.GroupKeys.{newest_uses, is_current, igtk_news, news, IgtkNews as CarriedIgtk, News as CarriedNews}
use Rattle.group_key.specs.declared.keys.Pair.{Pair}
use Rattle.group_key.specs.declared.news.News.{News}
use Rattle.group_key.specs.Keys.{Pairs, AreBeside}
use Rattle.group_key.specs.Holds.{IsLast, Holds, HoldsIgtk, HoldsAll, LeavesGroupKeys, carried}
use Rattle.group_key.specs.News.{FitsNews, carried_igtk, carried_news, IsNewest, newest_igtk, newest_news}
use Rattle.group_key.proofs.Drawing.{other, last_newest, newest_is, in_use}

abbrev news_with : Carried → ℕ → Option CarriedIgtk → CarriedNews
news_with g rsc igtk = record { gtk = g; rsc = rsc; igtk = igtk }

-- what is carried are the newest group keys of the history
pub news_is : (d : Domain) (n : News) (h : List Act) → IsNewest d n h → news d h ≡ carried_news n
news_is d n h is =
    ap (λ (g : Carried). news_with g (newest_uses groups.Gtk h) (igtk_news (protects d) h)) (last_newest groups.Gtk n.gtk h is.last)
    ∙ ap (λ (x : ℕ). news_with (carried n.gtk) x (igtk_news (protects d) h)) is.uses
    ∙ ap (λ (o : Option CarriedIgtk). news_with (carried n.gtk) n.rsc o) is.igtk

-- news fit by another name
pub fits_as : (n m : News) → n ≡ m → FitsNews m → FitsNews n
fits_as n m is fits = subst FitsNews (sym is) fits

-- they are so in each history with the same keys and the same counts
pub newest_as : (d : Domain) (n : News) (h k : List Act) → group_keys groups.Gtk k ≡ group_keys groups.Gtk h → newest_uses groups.Gtk k ≡ newest_uses groups.Gtk h → ((b : Bool) → igtk_news b k ≡ igtk_news b h) → IsNewest d n h → IsNewest d n k
newest_as d n h k keys uses igtk is = record {
  last = subst (λ (x : List (List ℕ)). IsLast groups.Gtk n.gtk x) (sym keys) is.last;
  uses = uses ∙ is.uses;
  igtk = igtk (protects d) ∙ is.igtk;
}

-- and in a network that protects management frames as this one does
pub newest_in : (d e : Domain) (n : News) (h : List Act) → protects e ≡ protects d → IsNewest d n h → IsNewest e n h
newest_in d e n h same is = record { last = is.last; uses = is.uses; igtk = ap (λ (b : Bool). igtk_news b h) same ∙ is.igtk }

-- ---- what an access point holds

abbrev igtk_with : Carried → ℕ → Option CarriedIgtk
igtk_with g ipn = Some (record { igtk = g; ipn = ipn })

igtk_held : (protected : Bool) (o : Option Pair) (ipn : ℕ) (h : List Act) → HoldsIgtk protected o h → (protected ≡ true → newest_uses groups.Igtk h ≡ ipn) → igtk_news protected h ≡ carried_igtk (newest_igtk o ipn)
igtk_held false None ipn h holds uses = refl
igtk_held false (Some s) ipn h holds uses = absurd holds
igtk_held true None ipn h holds uses = absurd holds
igtk_held true (Some s) ipn h holds uses =
    ap (λ (g : Carried). igtk_with g (newest_uses groups.Igtk h)) (newest_is groups.Igtk s h holds) ∙ ap (igtk_with (carried s.newest)) (uses refl)

pub held_newest : (d : Domain) (s : Pairs) (rsc ipn : ℕ) (h : List Act) → HoldsAll (protects d) s h → newest_uses groups.Gtk h ≡ rsc → (protects d ≡ true → newest_uses groups.Igtk h ≡ ipn) → IsNewest d (newest_news s rsc ipn) h
held_newest d s rsc ipn h holds uses igtk_uses = record {
  last = holds.gtk.newest;
  uses = uses;
  igtk = igtk_held (protects d) s.igtk ipn h holds.igtk igtk_uses;
}

-- ---- acts with neither

igtk_other : (protected : Bool) (o : Option Pair) (e : Act) (h : List Act) → HoldsIgtk protected o h → LeavesGroupKeys groups.Igtk e → HoldsIgtk protected o (e ∷ h)
igtk_other false None e h holds leaves = tt
igtk_other false (Some s) e h holds leaves = absurd holds
igtk_other true None e h holds leaves = absurd holds
igtk_other true (Some s) e h holds leaves = other groups.Igtk s e h holds leaves

pub all_other : (protected : Bool) (s : Pairs) (e : Act) (h : List Act) → HoldsAll protected s h → LeavesGroupKeys groups.Gtk e → LeavesGroupKeys groups.Igtk e → HoldsAll protected s (e ∷ h)
all_other protected s e h holds gtk igtk = record {
  gtk = other groups.Gtk s.gtk e h holds.gtk gtk;
  igtk = igtk_other protected s.igtk e h holds.igtk igtk;
  beside = holds.beside;
}

pub all_others : (protected : Bool) (s : Pairs) (g h : List Act) → HoldsAll protected s h → AllByRecursion (LeavesGroupKeys groups.Gtk) g → AllByRecursion (LeavesGroupKeys groups.Igtk) g → HoldsAll protected s (add g h)
all_others protected s [] h holds gtk igtk = holds
all_others protected s (e ∷ g) h holds gtk igtk = all_others protected s g (e ∷ h) (all_other protected s e h holds gtk.0 igtk.0) gtk.1 igtk.1

-- both are current, or neither is
pub igtk_in_use : (s : Pairs) (t : Pair) (h : List Act) → HoldsAll true s h → s.igtk ≡ Some t → is_current groups.Igtk h ≡ is_current groups.Gtk h
igtk_in_use s t h holds is =
    let igtk : Holds groups.Igtk t h = subst (λ (o : Option Pair). HoldsIgtk true o h) is holds.igtk in
    let beside : AreBeside s.gtk (Some t) = subst (AreBeside s.gtk) is holds.beside in
    in_use groups.Igtk t h igtk
    ∙ ap (λ (x : ℕ). x == t.current.place) beside.0 ∙ ap (λ (x : ℕ). s.gtk.newest.place == x) beside.1
    ∙ sym (in_use groups.Gtk s.gtk h holds.gtk)
