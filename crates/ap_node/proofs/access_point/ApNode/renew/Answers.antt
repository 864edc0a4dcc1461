use Rattle.std.proofs.Common.{◌≡◌, ◌<◌, ◌≤◌, ℕ, suc, Bool, ◌++◌, List, length, Option, is_some, arith, refl, sym, ap, ap₂, subst, ◌∙◌}
use Rattle.domain_base.specs.declared.names.Node.{Node}
use Rattle.domain_base.specs.declared.names.Node.TheVariants.{Ap}
use Rattle.domain_rules.specs.Network.{draw_end, gtk}
use Rattle.group_key.specs.declared.keys.Pair.{Pair}
use Rattle.group_key.specs.declared.news.News.{News}
use Rattle.group_key.specs.Keys.{igtk_drawn}
use Rattle.group_key.specs.News.{newest_news}
use Rattle.ap_node.specs.declared.station.Station.{Station}
use Rattle.ap_node.specs.Counts.{owing_below}
use Rattle.ap_node.specs.Drawing.{last_of, drawn_after, drew}
use Rattle.ap_node.specs.State.{State, station_at}
use Rattle.ap_node.proofs.BothDrawn.{number_low, further, drawn_there, id_small}
use Rattle.ap_node.proofs.Listed.{ap_listed}
use Rattle.ap_node.proofs.Messaging.{the_state}
use Rattle.ap_node.proofs.Renewing.{IsRenewed, renews, gtk_drawn, beside_drawn, drawn_as, unused_is, given_as, drawn_fits}
use Rattle.ap_node.proofs.access_point.ApNode.renew.Goals as goal

counted_as : {place k n m : ℕ} (xs : List (ℕ × Station)) → place ≡ k → n ≡ m → owing_below place xs n ≡ owing_below k xs m
counted_as xs e f = rw (e, f) refl

-- a draw number of another name
low_as : (b : Bool) (n m : ℕ) → n ≡ m → last_of b m < draw_end → n < draw_end
low_as b n m is low = number_low b n (subst (λ (k : ℕ). last_of b k < draw_end) (sym is) low)

pub returns-clause-done : goal.returns-clause-done
returns-clause-done c =
    let d = c.args.here.domain.now in
    let old = c.args.self.now in
    let keys = c.draw_keys-keys.result in
    let now = c.rekey.new.self in
    let was = c.self.inside.group in
    let in_use : was.gtk.newest.place ≡ was.gtk.current.place = ap (λ (s : State). s.group.gtk.newest.place) c.self.view_is ∙ c.requires.in_use ∙ sym (ap (λ (s : State). s.group.gtk.current.place) c.self.view_is) in
    let gtk_is = gtk_drawn c.rekey.result now.gtk was.gtk keys.gtk in_use c.rekey.ensures.gtk c.rekey.ensures.pending in
    let protects = c.args.protects in
    let waited = c.args.out.now.acts in
    let gave = c.give_all-self-inside in
    let news = c.unused_news-news.result in
    let new : State = the_state c.self.inside.number c.number_after-self-inside.result now c.self.inside.sending gave.new.stations.entries gave.result in
    let drawn_is : c.self.inside.drawn ≡ old.drawn = ap (λ (s : State). s.drawn) c.self.view_is in
    let parts_are = ap (λ (s : State). s.stations) c.self.view_is in
    let count = c.requires.count in
    let key_is : keys.gtk ≡ gtk d (Ap old.number) old.drawn = c.draw_keys-keys.ensures.gtk ∙ ap₂ (λ (n : Node) (m : ℕ). gtk d n m) c.requires.node drawn_is in
    let igtk_is : keys.igtk ≡ igtk_drawn protects d (Ap old.number) (suc old.drawn) = c.draw_keys-keys.ensures.igtk ∙ ap₂ (λ (n : Node) (m : ℕ). igtk_drawn protects d n (suc m)) c.requires.node drawn_is in
    let beside_is = beside_drawn c.rekey.result now.igtk was.igtk was.gtk keys.igtk in_use c.rekey.ensures.igtk c.rekey.ensures.pending in
    let news_is : news ≡ newest_news now 0 0 = unused_is now news c.newest-gtk.result c.newest_igtk-igtk.result c.unused_news-news.ensures c.newest-gtk.ensures c.newest_igtk-igtk.ensures in
    let renewed : IsRenewed d old new protects waited gave.new.out.acts = record {
      number = ap (λ (s : State). s.number) c.self.view_is;
      igtk = c.requires.protects;
      drawn = c.number_after-self-inside.ensures ∙ ap (drawn_after protects) drawn_is;
      low = c.requires.draw;
      was_in_use = c.requires.in_use;
      group = drawn_as now was old.group keys.gtk _ keys.igtk _ gtk_is beside_is key_is igtk_is (ap (λ (s : State). s.group) c.self.view_is);
      sending = ap (λ (s : State). s.sending) c.self.view_is;
      behind = λ k past. gave.ensures.behind k (subst (λ (n : ℕ). n ≤ k) (sym count) past) ∙ ap (λ (l : List (ℕ × Station)). station_at l k) parts_are;
      counted = gave.ensures.owing ∙ counted_as gave.new.stations.entries (ap (λ (n : News). n.gtk.place) news_is) count;
      given = given_as news (newest_news now 0 0) c.self.inside.stations.entries old.stations gave.new.stations.entries c.args.count (length d.stas) c.add_drawn.new.out.acts _ gave.new.out.acts news_is parts_are count
          (c.add_drawn.ensures.acts ∙ ap₂ (λ (k : List ℕ) (i : Option (List ℕ)). waited ++ drew k i) key_is igtk_is) gave.ensures.given;
    } in
    renews d old new protects waited gave.new.out.acts renewed

pub returns-clause-number : goal.returns-clause-number
returns-clause-number c = ap (λ (s : State). s.number) c.self.view_is

pub returns-clause-room : goal.returns-clause-room
returns-clause-room c = omega (arith, c.requires.room, c.add_drawn.ensures.spare, c.give_all-self-inside.ensures.spare)

pub draw_keys-keys-requires-clause-listed : goal.draw_keys-keys-requires-clause-listed
draw_keys-keys-requires-clause-listed c = ap_listed c.args.here.domain.now c.args.here.node c.args.self.now.number c.requires.node c.requires.listed

pub draw_keys-keys-requires-clause-low : goal.draw_keys-keys-requires-clause-low
draw_keys-keys-requires-clause-low c = low_as c.args.protects c.self.inside.drawn c.args.self.now.drawn (ap (λ (s : State). s.drawn) c.self.view_is) c.requires.draw

pub number_after-self-inside-requires : goal.number_after-self-inside-requires
number_after-self-inside-requires c = low_as c.args.protects c.self.inside.drawn c.args.self.now.drawn (ap (λ (s : State). s.drawn) c.self.view_is) c.requires.draw

pub rekey-requires-clause-place : goal.rekey-requires-clause-place
rekey-requires-clause-place c = omega (arith, c.self.invariant.2, low_as c.args.protects c.self.inside.drawn c.args.self.now.drawn (ap (λ (s : State). s.drawn) c.self.view_is) c.requires.draw)

pub rekey-requires-clause-both : goal.rekey-requires-clause-both
rekey-requires-clause-both c =
    ap (λ (i : Option (List ℕ)). is_some i) c.draw_keys-keys.ensures.igtk ∙ drawn_there c.args.protects c.args.here.domain.now c.args.here.node (suc c.self.inside.drawn) ∙ c.requires.protects
    ∙ sym (ap (λ (s : State). is_some s.group.igtk) c.self.view_is)

pub give_all-self-inside-requires-clause-rooms : goal.give_all-self-inside-requires-clause-rooms
give_all-self-inside-requires-clause-rooms c = c.requires.rooms

pub give_all-self-inside-requires-clause-room : goal.give_all-self-inside-requires-clause-room
give_all-self-inside-requires-clause-room c = omega (arith, c.requires.room, c.add_drawn.ensures.spare)

pub give_all-self-inside-requires-clause-news : goal.give_all-self-inside-requires-clause-news
give_all-self-inside-requires-clause-news c =
    let keys = c.draw_keys-keys.result in
    let now = c.rekey.new.self in
    let was = c.self.inside.group in
    let in_use : was.gtk.newest.place ≡ was.gtk.current.place = ap (λ (s : State). s.group.gtk.newest.place) c.self.view_is ∙ c.requires.in_use ∙ sym (ap (λ (s : State). s.group.gtk.current.place) c.self.view_is) in
    let gtk_is = gtk_drawn c.rekey.result now.gtk was.gtk keys.gtk in_use c.rekey.ensures.gtk c.rekey.ensures.pending in
    drawn_fits c.unused_news-news.result now (suc was.gtk.newest.place) keys.gtk
    (unused_is now c.unused_news-news.result c.newest-gtk.result c.newest_igtk-igtk.result c.unused_news-news.ensures c.newest-gtk.ensures c.newest_igtk-igtk.ensures) (ap (λ (p : Pair). p.newest) gtk_is)

pub invariant_of-self : goal.invariant_of-self
invariant_of-self c =
    let keys = c.draw_keys-keys.result in
    let now = c.rekey.new.self in
    let was = c.self.inside.group in
    let in_use : was.gtk.newest.place ≡ was.gtk.current.place = ap (λ (s : State). s.group.gtk.newest.place) c.self.view_is ∙ c.requires.in_use ∙ sym (ap (λ (s : State). s.group.gtk.current.place) c.self.view_is) in
    let gtk_is = gtk_drawn c.rekey.result now.gtk was.gtk keys.gtk in_use c.rekey.ensures.gtk c.rekey.ensures.pending in
    let number = c.number_after-self-inside.result in
    subst (λ (p : Pair). (p.newest.id < 4) × (1 ≤ p.newest.id) × (p.newest.place < number)) (sym gtk_is)
    (id_small (suc was.gtk.newest.place), omega arith, omega (arith, c.self.invariant.2, c.number_after-self-inside.ensures, further c.args.protects c.self.inside.drawn))
