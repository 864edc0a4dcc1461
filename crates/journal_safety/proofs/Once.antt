-- No key is installed twice, whatever its kind.
use Rattle.std.proofs.Common.{ℕ, ◌≡◌, inl, inr, true, false, List, [], ◌∷◌, Some, refl, sym, ap, ◌∙◌, subst}
use Rattle.domain_base.specs.declared.names.Mac.{Mac}
use Rattle.domain_base.specs.declared.names.Node.{Node}
use Rattle.domain_base.specs.declared.names.Peer.TheVariants.{One, All}
use Rattle.key_hierarchy.specs.Keys.{ptk}
use Rattle.key_hierarchy.specs.declared.inputs.Inputs.{Inputs}
use Rattle.run_journal.specs.declared.domain.Domain.{Domain}
use Rattle.run_journal.specs.declared.acts.Drawn.TheVariants as draw
use Rattle.run_journal.specs.declared.acts.Key.TheVariants.{Pairwise, Group}
use Rattle.run_journal.specs.declared.acts.Act.{Act}
use Rattle.run_journal.specs.declared.acts.Act.TheVariants.{Drew, Installed}
use Rattle.run_journal.specs.declared.acts.Entry.{Entry}
use Rattle.run_journal.specs.Questions.{history, group_keys}
use Rattle.run_journal.specs.Premises.{In, drawn}
use Rattle.run_journal.specs.Safe.{installed, InstalledOnce}
use Rattle.domain_rules.specs.Network.{is_ap}
use Rattle.run_journal.specs.declared.acts.GroupKind.{GroupKind}
use Rattle.journal_safety.proofs.Ends.{tail_refl, history_tail}
use Rattle.journal_safety.proofs.Legal.{LegalPairwise, LegalGroup, LegalNew, LegalCurrent, Legal}
use Rattle.journal_safety.proofs.Histories.{group_key_drew, group_keys_tail}
use Rattle.journal_safety.proofs.Places.{Good, good_tail, at_of, in_history, legal_at, earlier_tail, entry_in, DerivedAt, derived_at, has_derived, draws_of, one_drawer}
use Rattle.journal_safety.proofs.Pairwise.{FreshHistory, fresh_history, installs, verified_wider, pairwise_once}
use Rattle.journal_safety.proofs.Built.{installed_group, group_station}
use Rattle.journal_safety.proofs.GroupKeys.{group_drawn, group_once, current_once}

-- how an act installs a key
pub data Installs (e : Act) (key : List ℕ) : Type 0 where
  WithPeer : (p : Node) (i : Inputs) → e ≡ installs p key i → Installs e key
  FromPeer : (which : GroupKind) (p : Node) (id : ℕ) (b : Mac) → e ≡ Installed (One p) (Group which key id b) → Installs e key
  ForAll : (which : GroupKind) (id : ℕ) (b : Mac) → e ≡ Installed All (Group which key id b) → Installs e key

installs_by : (d : Domain) (n : Node) (h : List Act) (e : Act) (key : List ℕ) → Legal d n h e → installed e ≡ Some key → Installs e key
installs_by d n h (Installed (One p) (Pairwise tk i)) key legal is = let one : tk ≡ key = cc is in WithPeer p i (ap (λ (x : List ℕ). installs p x i) one)
installs_by d n h (Installed (One p) (Group which g id b)) key legal is = let one : g ≡ key = cc is in FromPeer which p id b (ap (λ (x : List ℕ). Installed (One p) (Group which x id b)) one)
installs_by d n h (Installed All (Pairwise tk i)) key legal is = absurd legal
installs_by d n h (Installed All (Group which g id b)) key legal is = let one : g ≡ key = cc is in ForAll which id b (ap (λ (x : List ℕ). Installed All (Group which x id b)) one)
installs_by d n h _ key legal is = cc

-- a temporal key is no group key
pub clash : (which : GroupKind) (d : Domain) (n p m : Node) (i : Inputs) (key : List ℕ) (past : List Entry) → Good d past → DerivedAt d n p i past → key ≡ (ptk i).tk → In key (group_keys which (history m past)) → ⊥
clash which d n p m i key past g a is there =
    let w = at_of m (Drew (draw.Group which key)) past (group_key_drew which key (history m past) there) in
    g.apart.no_group_key which i (ptk i) w.entry (has_derived d n p i past a) (entry_in m (Drew (draw.Group which key)) past w) (w.is ∙ ap (λ (x : List ℕ). Drew (draw.Group which x)) is)

-- a key that was drawn is of one kind
pub one_kind : (which other : GroupKind) (v : List ℕ) (h : List Act) → FreshHistory h → In (Drew (draw.Group which v)) h → In (Drew (draw.Group other v)) h → which ≡ other
one_kind which other v [] f a b = absurd a
one_kind which other v (e ∷ h) f (inl a) (inl b) = let same : Drew (draw.Group which v) ≡ Drew (draw.Group other v) = a ∙ sym b in cc same
one_kind which other v (e ∷ h) f (inl a) (inr b) = absurd (f.0 v (Drew (draw.Group other v)) (ap drawn (sym a)) b refl)
one_kind which other v (e ∷ h) f (inr a) (inl b) = absurd (f.0 v (Drew (draw.Group which v)) (ap drawn (sym b)) a refl)
one_kind which other v (e ∷ h) f (inr a) (inr b) = one_kind which other v h f.1 a b

pub same_kinds : (which other : GroupKind) (d : Domain) (p q : Node) (key : List ℕ) (past : List Entry) → Good d past → In key (group_keys which (history p past)) → In key (group_keys other (history q past)) → which ≡ other
same_kinds which other d p q key past g ours theirs =
    let mine : In (Drew (draw.Group which key)) (history p past) = group_key_drew which key (history p past) ours in
    let yours : In (Drew (draw.Group other key)) (history q past) = group_key_drew other key (history q past) theirs in
    let one : q ≡ p = one_drawer q p key past g.fresh (draws_of q (Drew (draw.Group other key)) key past refl yours) (draws_of p (Drew (draw.Group which key)) key past refl mine) in
    one_kind which other key (history p past) (fresh_history p past g.fresh) mine (subst (λ (x : Node). In (Drew (draw.Group other key)) (history x past)) one yours)

-- where a key comes from that a node installed
pub record FromInputs (d : Domain) (n : Node) (key : List ℕ) (past : List Entry) : Type 0 where
  pub p : Node
  pub i : Inputs
  pub derived : DerivedAt d n p i past
  pub is : key ≡ (ptk i).tk

pairwise_origin : (d : Domain) (n p : Node) (key : List ℕ) (i : Inputs) (past : List Entry) → Good d past → LegalPairwise n (history n past) p key i → FromInputs d n key past
pairwise_origin d n p key i past g l = record { p = p; i = i; derived = derived_at d n p i past g.legal l.verified.derived; is = l.is }

pairwise_earlier : (d : Domain) (n p : Node) (key : List ℕ) (i : Inputs) (past : List Entry) → Good d past → In (installs p key i) (history n past) → FromInputs d n key past
pairwise_earlier d n p key i past g there =
    let w = at_of n (installs p key i) past there in
    let old : LegalPairwise n (history n w.earlier) p key i = legal_at d n (installs p key i) past g.legal w in
    let v = verified_wider n p i w.earlier past (earlier_tail n (installs p key i) past w) old.verified in
    record { p = p; i = i; derived = derived_at d n p i past g.legal v.derived; is = old.is }

pub group_earlier : (which : GroupKind) (d : Domain) (n p : Node) (key : List ℕ) (id : ℕ) (b : Mac) (past : List Entry) → Good d past → In (Installed (One p) (Group which key id b)) (history n past) → In key (group_keys which (history p past)) × (is_ap n ≡ false)
group_earlier which d n p key id b past g there =
    let act : Act = Installed (One p) (Group which key id b) in
    let w = at_of n act past there in
    let t = earlier_tail n act past w in
    let old : LegalGroup d which n (history n w.earlier) p key = installed_group which d n p key id b (history n w.earlier) (legal_at d n act past g.legal w) in
    (group_keys_tail which key (history p w.earlier) (history p past) (history_tail p w.earlier past t) (group_drawn which d n p key w.earlier (good_tail d w.earlier past t g) old), group_station d which n (history n w.earlier) p key old)

current_drawn : (which : GroupKind) (n : Node) (h : List Act) (key : List ℕ) → LegalCurrent which n h key → In key (group_keys which h)
current_drawn which n h key l = subst (λ (x : List (List ℕ)). In key x) (sym l.newest) (inl refl)

pub current_earlier : (which : GroupKind) (d : Domain) (n : Node) (key : List ℕ) (id : ℕ) (b : Mac) (past : List Entry) → Good d past → In (Installed All (Group which key id b)) (history n past) → In key (group_keys which (history n past)) × (is_ap n ≡ true)
current_earlier which d n key id b past g there =
    let act : Act = Installed All (Group which key id b) in
    let w = at_of n act past there in
    let old : LegalCurrent which n (history n w.earlier) key = legal_at d n act past g.legal w in
    (group_keys_tail which key (history n w.earlier) (history n past) (history_tail n w.earlier past (earlier_tail n act past w)) (current_drawn which n (history n w.earlier) key old), old.ap)

-- one installation after another
pub once_by : (d : Domain) (n : Node) (e x : Act) (key : List ℕ) (past : List Entry) → Good d past → Legal d n (history n past) e → In x (history n past) → Installs e key → Installs x key → ⊥
once_by d n e x key past g legal there (WithPeer p i is) (WithPeer q k was) =
    pairwise_once d n p q key i k past g (subst (λ (y : Act). Legal d n (history n past) y) is legal) (subst (λ (y : Act). In y (history n past)) was there)
once_by d n e x key past g legal there (WithPeer p i is) (FromPeer other q id b was) =
    let o = pairwise_origin d n p key i past g (subst (λ (y : Act). Legal d n (history n past) y) is legal) in
    clash other d n o.p q o.i key past g o.derived o.is (group_earlier other d n q key id b past g (subst (λ (y : Act). In y (history n past)) was there)).0
once_by d n e x key past g legal there (WithPeer p i is) (ForAll other id b was) =
    let o = pairwise_origin d n p key i past g (subst (λ (y : Act). Legal d n (history n past) y) is legal) in
    clash other d n o.p n o.i key past g o.derived o.is (current_earlier other d n key id b past g (subst (λ (y : Act). In y (history n past)) was there)).0
once_by d n e x key past g legal there (FromPeer which p id b is) (WithPeer q k was) =
    let o = pairwise_earlier d n q key k past g (subst (λ (y : Act). In y (history n past)) was there) in
    clash which d n o.p p o.i key past g o.derived o.is (group_drawn which d n p key past g (installed_group which d n p key id b (history n past) (subst (λ (y : Act). Legal d n (history n past) y) is legal)))
once_by d n e x key past g legal there (FromPeer which p id b is) (FromPeer other q id2 b2 was) =
    let l : LegalNew d which n (history n past) p key = subst (λ (y : Act). Legal d n (history n past) y) is legal in
    let old : In (Installed (One q) (Group other key id2 b2)) (history n past) = subst (λ (y : Act). In y (history n past)) was there in
    let one : other ≡ which = same_kinds other which d q p key past g (group_earlier other d n q key id2 b2 past g old).0 (group_drawn which d n p key past g l.group) in
    group_once which d n p q key id2 b2 past g l (subst (λ (k : GroupKind). In (Installed (One q) (Group k key id2 b2)) (history n past)) one old)
once_by d n e x key past g legal there (FromPeer which p id b is) (ForAll other id2 b2 was) =
    let l : LegalGroup d which n (history n past) p key = installed_group which d n p key id b (history n past) (subst (λ (y : Act). Legal d n (history n past) y) is legal) in
    let role = (current_earlier other d n key id2 b2 past g (subst (λ (y : Act). In y (history n past)) was there)).1 in
    let no_role : is_ap n ≡ false = group_station d which n (history n past) p key l in cc (role, no_role)
once_by d n e x key past g legal there (ForAll which id b is) (WithPeer q k was) =
    let l : LegalCurrent which n (history n past) key = subst (λ (y : Act). Legal d n (history n past) y) is legal in
    let o = pairwise_earlier d n q key k past g (subst (λ (y : Act). In y (history n past)) was there) in
    clash which d n o.p n o.i key past g o.derived o.is (current_drawn which n (history n past) key l)
once_by d n e x key past g legal there (ForAll which id b is) (FromPeer other q id2 b2 was) =
    let l : LegalCurrent which n (history n past) key = subst (λ (y : Act). Legal d n (history n past) y) is legal in
    let role : is_ap n ≡ true = l.ap in
    let no_role = (group_earlier other d n q key id2 b2 past g (subst (λ (y : Act). In y (history n past)) was there)).1 in cc (role, no_role)
once_by d n e x key past g legal there (ForAll which id b is) (ForAll other id2 b2 was) =
    let l : LegalCurrent which n (history n past) key = subst (λ (y : Act). Legal d n (history n past) y) is legal in
    let old : In (Installed All (Group other key id2 b2)) (history n past) = subst (λ (y : Act). In y (history n past)) was there in
    let one : other ≡ which = same_kinds other which d n n key past g (current_earlier other d n key id2 b2 past g old).0 (current_drawn which n (history n past) key l) in
    current_once which d n key id2 b2 past g l (subst (λ (k : GroupKind). In (Installed All (Group k key id2 b2)) (history n past)) one old)

-- the earlier act was legal when it was added
earlier_installs : (d : Domain) (n : Node) (x : Act) (key : List ℕ) (past : List Entry) → Good d past → In x (history n past) → installed x ≡ Some key → Installs x key
earlier_installs d n x key past g there is = let w = at_of n x past there in installs_by d n (history n w.earlier) x key (legal_at d n x past g.legal w) is

once_now : (d : Domain) (l : Entry) (past : List Entry) → Good d (l ∷ past) → (m : Entry) (key : List ℕ) → In m past → m.node ≡ l.node → installed l.act ≡ Some key → installed m.act ≡ Some key → ⊥
once_now d l past g m key there at is was =
    let good = good_tail d past (l ∷ past) (inr (tail_refl past)) g in
    let here : In m.act (history l.node past) = subst (λ (x : Node). In m.act (history x past)) at (in_history m past there) in
    once_by d l.node l.act m.act key past good g.legal.0 here (installs_by d l.node (history l.node past) l.act key g.legal.0 is) (earlier_installs d l.node m.act key past good here was)

pub installed_once : (d : Domain) (past : List Entry) → Good d past → InstalledOnce past
installed_once d [] g = tt
installed_once d (l ∷ past) g = (once_now d l past g, installed_once d past (good_tail d past (l ∷ past) (inr (tail_refl past)) g))
