-- The newest group keys of an access point, as its messages carry them, and as they come into use.
use Rattle.std.proofs.Common.{◌≡◌, ◌∙◌, ℕ, suc, ◌<◌, ◌^◌, Bool, true, false, cond, List, [], ◌++◌, Option, Some, None, is_some, refl, sym, ap, ap₂, subst}
use Rattle.std.specs.Prelude.{◌==◌, ◌&&◌, not, option_map}
use Rattle.std.specs.Option.{ForSome}
use Rattle.std.proofs.lemmas.Bool.{eq-eqb}
use Rattle.std.proofs.lemmas.List.{append-nil}
use Rattle.domain_base.specs.declared.names.Mac.{Mac}
use Rattle.domain_base.specs.declared.names.Node.{Node}
use Rattle.domain_base.specs.declared.names.Node.TheVariants.{Ap}
use Rattle.run_journal.specs.declared.domain.Domain.{Domain}
use Rattle.run_journal.specs.declared.acts.Act.{Act}
use Rattle.domain_rules.specs.Network.{mac}
use Rattle.group_key.specs.declared.keys.GroupKey.{GroupKey}
use Rattle.group_key.specs.declared.keys.Pair.{Pair}
use Rattle.group_key.specs.declared.news.IgtkNews.{IgtkNews}
use Rattle.group_key.specs.declared.news.News.{News}
use Rattle.group_key.specs.Keys.{Pairs, switched as switched_pair, switched_all}
use Rattle.group_key.specs.News.{FitsNews, newest_igtk}
use Rattle.ap_node.specs.declared.sending.Sending.{Sending}
use Rattle.ap_node.specs.InUse.{announced_in, made, made_acts}
use Rattle.ap_node.specs.State.{State, newest_uses, newest_announced, newest_of}
use Rattle.ap_node.specs.Switching.{is_due, newest_beside, switched, due_acts}
use Rattle.ap_node.proofs.BothDrawn.{next_apart}
use Rattle.ap_node.proofs.Messaging.{the_state}

-- ---- the counts

-- none as long as others are current
pub pending_uses : (s : State) → s.group.gtk.newest.place ≡ suc s.group.gtk.current.place → 0 ≡ newest_uses s
pending_uses s next = sym (ap (λ (b : Bool). cond b s.sending.gtk.used 0) (next_apart s.group.gtk.newest.place s.group.gtk.current.place next))

pub current_uses : (s : State) (n : ℕ) → s.group.gtk.newest.place ≡ s.group.gtk.current.place → n ≡ s.sending.gtk.used → n ≡ newest_uses s
current_uses s n same is = is ∙ sym (ap (λ (b : Bool). cond b s.sending.gtk.used 0) (eq-eqb s.group.gtk.newest.place s.group.gtk.current.place same))

pub pending_announced : (s : State) → s.group.gtk.newest.place ≡ suc s.group.gtk.current.place → 0 ≡ newest_announced s
pending_announced s next = sym (ap (λ (b : Bool). cond b (announced_in s.sending.igtk) 0) (next_apart s.group.gtk.newest.place s.group.gtk.current.place next))

pub current_announced : (s : State) (n : ℕ) → s.group.gtk.newest.place ≡ s.group.gtk.current.place → n ≡ announced_in s.sending.igtk → n ≡ newest_announced s
current_announced s n same is = is ∙ sym (ap (λ (b : Bool). cond b (announced_in s.sending.igtk) 0) (eq-eqb s.group.gtk.newest.place s.group.gtk.current.place same))

-- ---- what messages carry

abbrev igtk_with : GroupKey → ℕ → IgtkNews
igtk_with g ipn = record { igtk = g; ipn = ipn }

pub igtk_found : (o : Option Pair) (k : GroupKey) (ipn n : ℕ) → Some k ≡ newest_beside o → ipn ≡ n → Some (igtk_with k ipn) ≡ newest_igtk o n
igtk_found None k ipn n is same = absurd (cc is)
igtk_found (Some t) k ipn n is same =
    let key : k ≡ t.newest = cc is in
    ap₂ (λ (g : GroupKey) (m : ℕ). Some (igtk_with g m)) key same

pub none_found : (o : Option Pair) (n : ℕ) → None ≡ newest_beside o → None ≡ newest_igtk o n
none_found None n is = refl
none_found (Some t) n is = absurd (cc is)

pub some_fits : (k : IgtkNews) → k.ipn < 2 ^ 48 → ForSome (Some k) (λ (x : IgtkNews). x.ipn < 2 ^ 48)
some_fits k few = λ x e. (let is : k ≡ x = cc e in subst (λ (y : IgtkNews). y.ipn < 2 ^ 48) is few)

pub none_fits : ForSome None (λ (x : IgtkNews). x.ipn < 2 ^ 48)
none_fits = λ x e. absurd (cc e)

abbrev news_with : GroupKey → ℕ → Option IgtkNews → News
news_with g rsc igtk = record { gtk = g; rsc = rsc; igtk = igtk }

pub newest_as : (s : State) (k : GroupKey) (rsc : ℕ) (o : Option IgtkNews) → k ≡ s.group.gtk.newest → rsc ≡ newest_uses s → o ≡ newest_igtk s.group.igtk (newest_announced s) → news_with k rsc o ≡ newest_of s
newest_as s k rsc o key uses igtk = by key uses igtk
  where
    by : {g h : GroupKey} {n m : ℕ} {p q : Option IgtkNews} → g ≡ h → n ≡ m → p ≡ q → news_with g n p ≡ news_with h m q
    by e f i = rw (e, f, i) refl

pub newest_fits : (k g : GroupKey) (rsc : ℕ) (o : Option IgtkNews) → k ≡ g → g.id < 4 → rsc < 2 ^ 48 → ForSome o (λ (x : IgtkNews). x.ipn < 2 ^ 48) → FitsNews (news_with k rsc o)
newest_fits k g rsc o is id few igtk = (subst (λ (x : GroupKey). x.id < 4) (sym is) id, few, igtk)

-- there is an IGTK
pub some_beside : (o : Option Pair) → is_some (newest_beside o) ≡ is_some o
some_beside None = refl
some_beside (Some t) = refl

-- ---- the switch

pub not_pending : (s : State) → s.group.gtk.newest.place ≡ s.group.gtk.current.place → false ≡ is_due s
not_pending s same = sym (ap (λ (b : Bool). not b && (s.owing == 0)) (eq-eqb s.group.gtk.newest.place s.group.gtk.current.place same))

pub pending_due : (s : State) → s.group.gtk.newest.place ≡ suc s.group.gtk.current.place → (s.owing == 0) ≡ is_due s
pending_due s next = sym (ap (λ (b : Bool). not b && (s.owing == 0)) (next_apart s.group.gtk.newest.place s.group.gtk.current.place next))

-- the access point after the switch, or without one
abbrev with_switch : State → Bool → State
with_switch s b = record s {
  group = cond b (switched_all s.group) s.group;
  sending = cond b (made s.group.gtk.newest (newest_beside s.group.igtk)) s.sending;
}

pub quiet_state : (s : State) → is_due s ≡ false → s ≡ switched s
quiet_state s is = ap (with_switch s) (sym is)

pub quiet_acts : (d : Domain) (s : State) (acts : List Act) → is_due s ≡ false → acts ≡ acts ++ due_acts d s
quiet_acts d s acts is =
    sym (ap (λ (b : Bool). acts ++ cond b (made_acts s.group.gtk.newest (newest_beside s.group.igtk) (mac d (Ap s.number))) []) is ∙ append-nil acts)

abbrev pairs_of : Pair → Option Pair → Pairs
pairs_of p o = record { gtk = p; igtk = o }

pub switched_as : (g h : Pairs) → g.gtk ≡ switched_pair h.gtk → g.igtk ≡ option_map switched_pair h.igtk → g ≡ switched_all h
switched_as g h gtk igtk = ap₂ pairs_of gtk igtk

pub due_state : (s : State) (g : Pairs) (x : Sending) → is_due s ≡ true → g ≡ switched_all s.group → x ≡ made s.group.gtk.newest (newest_beside s.group.igtk) → the_state s.number s.drawn g x s.stations s.owing ≡ switched s
due_state s g x is group sending = ap₂ (λ (h : Pairs) (y : Sending). the_state s.number s.drawn h y s.stations s.owing) group sending ∙ ap (with_switch s) (sym is)

pub due_acts_are : (d : Domain) (n : Node) (s : State) (acts out : List Act) (k : GroupKey) (o : Option GroupKey) (b : Mac) → is_due s ≡ true → k ≡ s.group.gtk.newest → o ≡ newest_beside s.group.igtk → b ≡ mac d n → n ≡ Ap s.number → out ≡ acts ++ made_acts k o b
    → out ≡ acts ++ due_acts d s
due_acts_are d n s acts out k o b is key beside bssid node are =
    are ∙ ap (λ (l : List Act). acts ++ l) (same key beside (bssid ∙ ap (mac d) node) ∙ ap (λ (c : Bool). cond c (made_acts s.group.gtk.newest (newest_beside s.group.igtk) (mac d (Ap s.number))) []) (sym is))
  where
    same : {k m : GroupKey} {o q : Option GroupKey} {x y : Mac} → k ≡ m → o ≡ q → x ≡ y → made_acts k o x ≡ made_acts m q y
    same e f h = rw (e, f, h) refl
