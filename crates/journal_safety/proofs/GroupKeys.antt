-- No group key is installed twice.
use Rattle.std.proofs.Common.{ℕ, ◌≡◌, ◌⊎◌, inl, inr, ⊎_elim, Bool, true, false, cond, List, [], ◌∷◌, take, Option, Some, None, refl, sym, ap, ◌∙◌, subst}
use Rattle.std.specs.Prelude.{bytes_eq}
use Rattle.std.proofs.lemmas.Slice.Eq.{bytes_eq-Decides}
use Rattle.domain_base.specs.declared.names.Mac.{Mac}
use Rattle.domain_base.specs.declared.names.Node.{Node}
use Rattle.domain_base.specs.declared.names.Peer.TheVariants.{One, All}
use Rattle.run_journal.specs.declared.acts.GroupKind.{GroupKind}
use Rattle.run_journal.specs.declared.domain.Domain.{Domain}
use Rattle.run_journal.specs.declared.acts.Drawn.TheVariants as draw
use Rattle.run_journal.specs.declared.acts.Drawn.TheVariants.{Nonce}
use Rattle.run_journal.specs.declared.acts.Key.TheVariants.{Group}
use Rattle.run_journal.specs.declared.acts.Act.{Act}
use Rattle.run_journal.specs.declared.acts.Act.TheVariants.{Drew, Installed}
use Rattle.run_journal.specs.declared.acts.Entry.{Entry}
use Rattle.run_journal.specs.Acts.{same, key_drawn, GroupKey, given_from, switched}
use Rattle.run_journal.specs.Questions.{history, listed, given, group_keys, switches}
use Rattle.run_journal.specs.Premises.{In, drawn}
use Rattle.domain_rules.specs.GroupKeys.{find_key}
use Rattle.domain_rules.proofs.Parts.{same-true}
use Rattle.domain_rules.proofs.GroupKinds.{same_group_kind-refl}
use Rattle.journal_safety.proofs.Ends.{Tail, tail_refl, tail_trans, tail_total, tail_in, history_tail}
use Rattle.journal_safety.proofs.Legal.{LegalGroup, LegalNew, LegalCurrent, Legal}
use Rattle.journal_safety.proofs.Histories.{group_key_drew, group_keys_tail, group_key_drawn-is}
use Rattle.journal_safety.proofs.Places.{Good, good_tail, at_of, legal_at, earlier_tail, draws_of, one_drawer}
use Rattle.journal_safety.proofs.Given.{given-is, given_in, given_listed}
use Rattle.journal_safety.proofs.Pairwise.{FreshHistory, fresh_history}
use Rattle.journal_safety.proofs.Built.{built_tail, built_at, common, installed_group}
use Rattle.journal_safety.proofs.GroupOrder.{Later, never_back}

-- ---- lists of keys

keys_tail_by : (which : GroupKind) (a h : List Act) → Tail (group_keys which a) (group_keys which h) → (o : Option (List ℕ)) → Tail (group_keys which a) (listed o (group_keys which h))
keys_tail_by which a h t None = t
keys_tail_by which a h t (Some x) = inr t

pub keys_tail : (which : GroupKind) (a h : List Act) → Tail a h → Tail (group_keys which a) (group_keys which h)
keys_tail which a [] t = subst (λ (x : List Act). Tail (group_keys which x) []) (sym t) refl
keys_tail which a (e ∷ h) (inl is) = subst (λ (x : List Act). Tail (group_keys which x) (group_keys which (e ∷ h))) (sym is) (tail_refl (group_keys which (e ∷ h)))
keys_tail which a (e ∷ h) (inr t) = keys_tail_by which a h (keys_tail which a h t) (key_drawn which e)

abbrev Distinct : List (List ℕ) → Type 0
Distinct [] = Unit {0}
Distinct (x ∷ xs) = (In x xs → ⊥) × Distinct xs

distinct_tail : (a b : List (List ℕ)) → Tail a b → Distinct b → Distinct a
distinct_tail a [] t w = subst (λ (x : List (List ℕ)). Distinct x) (sym t) tt
distinct_tail a (x ∷ b) (inl is) w = subst (λ (y : List (List ℕ)). Distinct y) (sym is) w
distinct_tail a (x ∷ b) (inr t) w = distinct_tail a b t w.1

distinct_by : (which : GroupKind) (e : Act) (h : List Act) → FreshHistory (e ∷ h) → Distinct (group_keys which h) → (o : Option (List ℕ)) → key_drawn which e ≡ o → Distinct (listed o (group_keys which h))
distinct_by which e h f more None is = more
distinct_by which e h f more (Some x) is = ((λ there. f.0 x (Drew (draw.Group which x)) (ap drawn (group_key_drawn-is which e x is)) (group_key_drew which x h there) refl), more)

distinct_keys : (which : GroupKind) (h : List Act) → FreshHistory h → Distinct (group_keys which h)
distinct_keys which [] f = tt
distinct_keys which (e ∷ h) f = distinct_by which e h f (distinct_keys which h f.1) (key_drawn which e) refl

-- two ends of distinct keys that begin with one key are the same
one_end : (x : List ℕ) (a b c : List (List ℕ)) → Distinct c → Tail (x ∷ a) c → Tail (x ∷ b) c → Tail (x ∷ a) (x ∷ b) ⊎ Tail (x ∷ b) (x ∷ a) → a ≡ b
one_end x a b c w t u (inl (inl is)) = cc is
one_end x a b c w t u (inl (inr z)) = let k = distinct_tail (x ∷ b) c u w in absurd (k.0 (tail_in (x ∷ a) b x z (inl refl)))
one_end x a b c w t u (inr (inl is)) = cc is
one_end x a b c w t u (inr (inr z)) = let k = distinct_tail (x ∷ a) c t w in absurd (k.0 (tail_in (x ∷ b) a x z (inl refl)))

-- g up to h, and h up to g: they are one
no_way_back : (which : GroupKind) (d : Domain) (n : Node) (g h : List ℕ) (past a : List Entry) → Good d past → Tail a past → Later which n g h a → Later which n h g past → g ≡ h
no_way_back which d n g h past a good t u v =
    go (subst (λ (x : List (List ℕ)). Tail x (g ∷ v.second.0)) (ap (λ (x : List (List ℕ)). h ∷ x) (sym same_end))
    (subst (λ (x : List (List ℕ)). Tail (h ∷ v.first.0) x) v.second.1 (subst (λ (x : List (List ℕ)). Tail x (group_keys which (history n v.two))) v.first.1 (keys_tail which (history n v.one) (history n v.two) (history_tail n v.one v.two v.order)))))
  where
    distinct : Distinct (group_keys which (history n past))
    distinct = distinct_keys which (history n past) (fresh_history n past good.fresh)

    up : (x : List Entry) → Tail x past → Tail (group_keys which (history n x)) (group_keys which (history n past))
    up x w = keys_tail which (history n x) (history n past) (history_tail n x past w)

    a_end : Tail (h ∷ u.second.0) (group_keys which (history n past))
    a_end = subst (λ (x : List (List ℕ)). Tail x (group_keys which (history n past))) u.second.1 (up u.two (tail_trans u.two a past u.inside t))

    b_end : Tail (h ∷ v.first.0) (group_keys which (history n past))
    b_end = subst (λ (x : List (List ℕ)). Tail x (group_keys which (history n past))) v.first.1 (up v.one (tail_trans v.one v.two past v.order v.inside))

    c_end : Tail (g ∷ v.second.0) (group_keys which (history n past))
    c_end = subst (λ (x : List (List ℕ)). Tail x (group_keys which (history n past))) v.second.1 (up v.two v.inside)

    same_end : u.second.0 ≡ v.first.0
    same_end = one_end h u.second.0 v.first.0 (group_keys which (history n past)) distinct a_end b_end (tail_total (h ∷ u.second.0) (h ∷ v.first.0) (group_keys which (history n past)) a_end b_end)

    g_in : In g (h ∷ u.second.0)
    g_in = tail_in (g ∷ u.first.0) (h ∷ u.second.0) g (subst (λ (x : List (List ℕ)). Tail (g ∷ u.first.0) x) u.second.1
        (subst (λ (x : List (List ℕ)). Tail x (group_keys which (history n u.two))) u.first.1 (keys_tail which (history n u.one) (history n u.two) (history_tail n u.one u.two u.order)))) (inl refl)

    go : Tail (h ∷ u.second.0) (g ∷ v.second.0) → g ≡ h
    go (inl is) = sym (cc is)
    go (inr z) = let k = distinct_tail (g ∷ v.second.0) (group_keys which (history n past)) c_end distinct in absurd (k.0 (tail_in (h ∷ u.second.0) v.second.0 g z g_in))

-- ---- the keys that a station was given

-- of the key that was given last
record LastGiven (which : GroupKind) (d : Domain) (n s : Node) (x : GroupKey) (older : List GroupKey) (past : List Entry) : Type 0 where
  earlier : List Entry
  tail : Tail earlier past
  legal : LegalGroup d which s (history s earlier) n x.key
  before : given which n (history s earlier) ≡ older

last_at : (which : GroupKind) (d : Domain) (n s : Node) (x : GroupKey) (older : List GroupKey) (l : Entry) (past : List Entry) → Good d (l ∷ past) → l.node ≡ s → (given which n (history s past) ≡ x ∷ older → LastGiven which d n s x older past) → (o : Option GroupKey) → given_from which n l.act ≡ o
    → listed o (given which n (history s past)) ≡ x ∷ older → LastGiven which d n s x older (l ∷ past)
last_at which d n s x older l past g at more None is w = let r = more w in record { earlier = r.earlier; tail = inr r.tail; legal = r.legal; before = r.before }
last_at which d n s x older l past g at more (Some y) is w =
    let one : y ≡ x = cc w in
    let rest_is : given which n (history s past) ≡ older = cc w in
    let act = given-is which n l.act x (is ∙ ap Some one) in
    record { earlier = past; tail = inr (tail_refl past); legal = subst (λ (y : Node). LegalGroup d which y (history y past) n x.key) at (installed_group which d l.node n x.key x.id act.0 (history l.node past) (subst (λ (y : Act). Legal d l.node (history l.node past) y) act.1 g.legal.0)); before = rest_is }

last_by : (which : GroupKind) (d : Domain) (n s : Node) (x : GroupKey) (older : List GroupKey) (l : Entry) (past : List Entry) → Good d (l ∷ past) → (given which n (history s past) ≡ x ∷ older → LastGiven which d n s x older past) → (b : Bool) → same s l.node ≡ b
    → given which n (cond b (l.act ∷ history s past) (history s past)) ≡ x ∷ older → LastGiven which d n s x older (l ∷ past)
last_by which d n s x older l past g more true is w = last_at which d n s x older l past g (sym (same-true s l.node is)) more (given_from which n l.act) refl w
last_by which d n s x older l past g more false is w = let r = more w in record { earlier = r.earlier; tail = inr r.tail; legal = r.legal; before = r.before }

last_given : (which : GroupKind) (d : Domain) (n s : Node) (x : GroupKey) (older : List GroupKey) (past : List Entry) → Good d past → given which n (history s past) ≡ x ∷ older → LastGiven which d n s x older past
last_given which d n s x older [] g w = cc w
last_given which d n s x older (l ∷ past) g w = last_by which d n s x older l past g (last_given which d n s x older past (good_tail d past (l ∷ past) (inr (tail_refl past)) g)) (same s l.node) refl w

-- ---- a group key that a station may install was not installed

-- it is not the one that it was given last
found_by : (g : List ℕ) (x : GroupKey) (xs : List GroupKey) (c : Bool) → bytes_eq g x.key ≡ c → g ≡ x.key → cond c (Some x) (find_key g xs) ≡ None → ⊥
found_by g x xs true is e none = cc none
found_by g x xs false is e none = let w = (bytes_eq-Decides g x.key).1 e in cc (is, w)

-- the key of a station's installation was drawn by the access point
pub group_drawn : (which : GroupKind) (d : Domain) (s p : Node) (g : List ℕ) (past : List Entry) → Good d past → LegalGroup d which s (history s past) p g → In g (group_keys which (history p past))
group_drawn which d s p g past good v =
    let c = common d which s (history s past) p g v in
    let b = built_at which d p s c.i g past good c.station c.taken in
    group_keys_tail which g (history p b.lines) (history p past) (history_tail p b.lines past (built_tail which d p s c.i c.taken.covered g past b)) (subst (λ (x : List (List ℕ)). In g x) (sym b.newest.1) (inl refl))

not_again : (which : GroupKind) (d : Domain) (n s : Node) (g : List ℕ) (id : ℕ) (past : List Entry) → Good d past → LegalNew d which s (history s past) n g → In (record { key = g; id = id }) (given which n (history s past)) → (xs : List GroupKey) → given which n (history s past) ≡ xs → ⊥
not_again which d n s g id past good v there [] is = subst (λ (x : List GroupKey). In (record { key = g; id = id }) x) is there
not_again which d n s g id past good v there (x ∷ older) is =
    let none : find_key g (take 2 (x ∷ older)) ≡ None = subst (λ (y : List GroupKey). find_key g (take 2 y) ≡ None) is v.new in
    let unlike : g ≡ x.key → ⊥ = λ same_key. found_by g x (take 1 older) (bytes_eq g x.key) refl same_key none in
    ⊎_elim
    (λ here. unlike (ap (λ (y : GroupKey). y.key) here))
    (λ (before : In (record { key = g; id = id }) older).
    let last = last_given which d n s x older past good is in
    let good_last = good_tail d last.earlier past last.tail good in
    let first = given_in which n (record { key = g; id = id }) (history s last.earlier) (subst (λ (y : List GroupKey). In (record { key = g; id = id }) y) (sym last.before) before) in
    let second = given_in which n x (history s past) (subst (λ (y : List GroupKey). In x y) (sym is) (inl refl)) in
    let up = never_back which d n s g x.key id first.0 last.earlier good_last last.legal first.1 in
    let down = never_back which d n s x.key g x.id second.0 past good v.group second.1 in
    unlike (no_way_back which d n g x.key past last.earlier good last.tail up down))
    (subst (λ (y : List GroupKey). In (record { key = g; id = id }) y) is there)

pub group_once : (which : GroupKind) (d : Domain) (s p q : Node) (g : List ℕ) (id : ℕ) (b : Mac) (past : List Entry) → Good d past → LegalNew d which s (history s past) p g → In (Installed (One q) (Group which g id b)) (history s past) → ⊥
group_once which d s p q g id b past good v there =
    let act : Act = Installed (One q) (Group which g id b) in
    let w = at_of s act past there in
    let t = earlier_tail s act past w in
    let old : LegalGroup d which s (history s w.earlier) q g = installed_group which d s q g id b (history s w.earlier) (legal_at d s act past good.legal w) in
    let theirs = group_keys_tail which g (history q w.earlier) (history q past) (history_tail q w.earlier past t) (group_drawn which d s q g w.earlier (good_tail d w.earlier past t good) old) in
    let ours = group_drawn which d s p g past good v.group in
    let one : q ≡ p = one_drawer q p g past good.fresh (draws_of q (Drew (draw.Group which g)) g past refl (group_key_drew which g (history q past) theirs)) (draws_of p (Drew (draw.Group which g)) g past refl (group_key_drew which g (history p past) ours)) in
    not_again which d p s g id past good v (given_listed which p g id b (history s past) (subst (λ (x : Node). In (Installed (One x) (Group which g id b)) (history s past)) one there)) (given which p (history s past)) refl

-- ---- a group key that becomes current had not been so

switched_listed : (which : GroupKind) (g : List ℕ) (id : ℕ) (b : Mac) (h : List Act) → In (Installed All (Group which g id b)) h → In g (switches which h)
switched_listed which g id b [] there = absurd there
switched_listed which g id b (e ∷ h) (inl here) = subst (λ (x : Act). In g (listed (switched which x) (switches which h))) here (rw (same_group_kind-refl which) (inl refl))
switched_listed which g id b (e ∷ h) (inr later) = more (switched which e) (switched_listed which g id b h later)
  where
    more : (o : Option (List ℕ)) → In g (switches which h) → In g (listed o (switches which h))
    more None there = there
    more (Some x) there = inr there

pub current_once : (which : GroupKind) (d : Domain) (n : Node) (g : List ℕ) (id : ℕ) (b : Mac) (past : List Entry) → Good d past → LegalCurrent which n (history n past) g → In (Installed All (Group which g id b)) (history n past) → ⊥
current_once which d n g id b past good l there =
    let w : Distinct (g ∷ switches which (history n past)) = subst (λ (x : List (List ℕ)). Distinct x) l.newest (distinct_keys which (history n past) (fresh_history n past good.fresh)) in
    w.0 (switched_listed which g id b (history n past) there)
