-- No node uses a packet number twice under one key.
use Rattle.std.proofs.Common.{ℕ, suc, ◌≡◌, ◌≤◌, ◌⊎◌, inl, inr, Bool, true, false, cond, List, [], ◌∷◌, Option, Some, None, refl, sym, ap, ◌∙◌, subst, arith}
use Rattle.std.specs.Prelude.{is_some}
use Rattle.domain_base.specs.declared.names.Mac.{Mac}
use Rattle.domain_base.specs.declared.names.Node.{Node}
use Rattle.domain_base.specs.declared.names.Peer.TheVariants.{One, All}
use Rattle.key_hierarchy.specs.Keys.{ptk}
use Rattle.key_hierarchy.specs.declared.inputs.Inputs.{Inputs}
use Rattle.run_journal.specs.declared.acts.GroupKind.{GroupKind}
use Rattle.run_journal.specs.declared.acts.GroupKind.TheVariants as groups
use Rattle.run_journal.specs.declared.domain.Domain.{Domain}
use Rattle.run_journal.specs.declared.acts.Key.TheVariants.{Pairwise, Group}
use Rattle.run_journal.specs.declared.acts.Act.{Act}
use Rattle.run_journal.specs.declared.acts.Act.TheVariants.{Installed, Used, Finished}
use Rattle.run_journal.specs.declared.acts.Entry.{Entry}
use Rattle.run_journal.specs.Acts.{same, finishes, closes, installs_pairwise, uses_with, uses_all, switched}
use Rattle.run_journal.specs.GroupKinds.{kind_of_id}
use Rattle.run_journal.specs.Questions.{history, derivation, session, pairwise_uses, group_uses, group_keys, switches, listed}
use Rattle.run_journal.specs.Premises.{In}
use Rattle.run_journal.specs.Safe.{Use, use_of, Once}
use Rattle.domain_rules.specs.Frames.{keyed_by}
use Rattle.domain_rules.proofs.Parts.{same-true, same-refl}
use Rattle.domain_rules.proofs.GroupKinds.{of_kind}
use Rattle.journal_safety.proofs.Ends.{tail_refl, tail_in, history_tail}
use Rattle.journal_safety.proofs.Legal.{Verified, LegalPairwise, LegalCurrent, LegalFinished, LegalUsedWith, LegalUsedAll, Legal}
use Rattle.journal_safety.proofs.Sessions.{session_older, session_finished, finished_of, finished_verified}
use Rattle.journal_safety.proofs.Runs.{legal_history}
use Rattle.journal_safety.proofs.Places.{Good, good_tail, at_of, in_history, legal_at, earlier_tail, DerivedAt, derived_at}
use Rattle.journal_safety.proofs.Pairwise.{fresh_history, alive_over, verified_wider, one_tk}
use Rattle.journal_safety.proofs.GroupKeys.{current_once}
use Rattle.journal_safety.proofs.Once.{clash, current_earlier, same_kinds}

-- ---- pairwise keys

-- the inputs of a session verified
pub session_verified : (d : Domain) (n p : Node) (i : Inputs) (past : List Entry) → Good d past → session p (history n past) ≡ Some (keyed_by i) → Verified n (history n past) p i
session_verified d n p i past g s = finished_verified d n p i (history n past) (legal_history d n past g.legal) (session_finished d n p (history n past) (keyed_by i) (legal_history d n past g.legal) s)

-- a number that was used under the key of inputs was used in a session of these inputs
pub record InSession (n p q : Node) (i : Inputs) (past : List Entry) : Type 0 where
  pub peer : p ≡ q
  pub finished : In (Finished p i) (history n past)

used_session : (d : Domain) (n p q : Node) (i : Inputs) (key : List ℕ) (id number : ℕ) (plain : List ℕ) (past : List Entry) → Good d past → DerivedAt d n p i past → key ≡ (ptk i).tk → In (Used (One q) key id number plain) (history n past) → InSession n p q i past
used_session d n p q i key id number plain past g ours is there =
    let act : Act = Used (One q) key id number plain in
    let w = at_of n act past there in
    let t = earlier_tail n act past w in
    let old : LegalUsedWith (history n w.earlier) q key number = legal_at d n act past g.legal w in
    let v = session_verified d n q old.i w.earlier (good_tail d w.earlier past t g) old.awaited in
    let one = one_tk d n p q i old.i past g ours (verified_wider n q old.i w.earlier past t v) (sym is ∙ old.is) in
    let ends = session_finished d n q (history n w.earlier) (keyed_by old.i) (legal_history d n w.earlier (good_tail d w.earlier past t g).legal) old.awaited in
    let fin = tail_in (history n w.earlier) (history n past) (Finished q old.i) (history_tail n w.earlier past t) ends in
    record {
      peer = one.peer;
      finished = subst (λ (x : Node). In (Finished x i) (history n past)) (sym one.peer) (subst (λ (x : Inputs). In (Finished q x) (history n past)) (sym one.inputs) fin);
    }

pub installs-is : (p : Node) (e : Act) → installs_pairwise p e ≡ true → (tk : List ℕ) × ((i : Inputs) × (e ≡ Installed (One p) (Pairwise tk i)))
installs-is p (Installed (One q) (Pairwise tk i)) is = (tk, (i, ap (λ (x : Node). Installed (One x) (Pairwise tk i)) (sym (same-true p q is))))
installs-is p _ is = cc

count_by_use : (d : Domain) (n p : Node) (key : List ℕ) (id number : ℕ) (plain : List ℕ) (e : Act) (h : List Act) → Legal d n h e → (In (Used (One p) key id number plain) h → number ≤ pairwise_uses p h) → (b : Bool) → uses_with p e ≡ b
    → (Used (One p) key id number plain ≡ e) ⊎ In (Used (One p) key id number plain) h → number ≤ cond b (suc (pairwise_uses p h)) (pairwise_uses p h)
count_by_use d n p key id number plain e h legal more true is (inl here) =
    let l : LegalUsedWith h p key number = subst (λ (x : Act). Legal d n h x) (sym here) legal in
    let w : number ≡ suc (pairwise_uses p h) = l.next in omega (arith, w)
count_by_use d n p key id number plain e h legal more true is (inr later) = let w : number ≤ pairwise_uses p h = more later in omega (arith, w)
count_by_use d n p key id number plain e h legal more false is (inl here) =
    let w : uses_with p (Used (One p) key id number plain) ≡ false = subst (λ (x : Act). uses_with p x ≡ false) (sym here) is in
    let v : same p p ≡ true = same-refl p in absurd (cc (w, v))
count_by_use d n p key id number plain e h legal more false is (inr later) = more later

count_by_install : (d : Domain) (n p : Node) (i : Inputs) (key : List ℕ) (id number : ℕ) (plain : List ℕ) (e : Act) (h : List Act) → Legal d n h e → session p h ≡ Some (keyed_by i) → (In (Used (One p) key id number plain) h → number ≤ pairwise_uses p h)
    → (b : Bool) → installs_pairwise p e ≡ b → (Used (One p) key id number plain ≡ e) ⊎ In (Used (One p) key id number plain) h → number ≤ cond b 0 (cond (uses_with p e) (suc (pairwise_uses p h)) (pairwise_uses p h))
count_by_install d n p i key id number plain e h legal s more true is there =
    let w = installs-is p e is in
    let l : LegalPairwise n h p w.0 w.1.0 = subst (λ (x : Act). Legal d n h x) w.1.1 legal in
    let none : session p h ≡ None = l.none in absurd (cc (none, s))
count_by_install d n p i key id number plain e h legal s more false is there = count_by_use d n p key id number plain e h legal more (uses_with p e) refl there

counted_at : (d : Domain) (n p : Node) (i : Inputs) (id number : ℕ) (plain : List ℕ) (l : Entry) (past : List Entry) → Good d (l ∷ past) → l.node ≡ n
    → (session p (history n past) ≡ Some (keyed_by i) → In (Used (One p) (ptk i).tk id number plain) (history n past) → number ≤ pairwise_uses p (history n past))
    → (b : Bool) → finishes p l.act ≡ b → cond b (derivation p (history n past)) (cond (closes p l.act) None (session p (history n past))) ≡ Some (keyed_by i)
    → (Used (One p) (ptk i).tk id number plain ≡ l.act) ⊎ In (Used (One p) (ptk i).tk id number plain) (history n past) → number ≤ pairwise_uses p (l.act ∷ history n past)
counted_at d n p i id number plain l past g at more false is s there =
    let legal : Legal d n (history n past) l.act = subst (λ (x : Node). Legal d x (history x past) l.act) at g.legal.0 in
    let old = session_older p (history n past) (keyed_by i) (closes p l.act) s in
    count_by_install d n p i (ptk i).tk id number plain l.act (history n past) legal old (more old) (installs_pairwise p l.act) refl there
counted_at d n p i id number plain l past g at more true is s there =
    let legal : Legal d n (history n past) l.act = subst (λ (x : Node). Legal d x (history x past) l.act) at g.legal.0 in
    let fin : l.act ≡ Finished p i = finished_of d n p l.act (history n past) (keyed_by i) legal is s in
    let f : LegalFinished d n (history n past) p i = subst (λ (y : Act). Legal d n (history n past) y) fin legal in
    let good = good_tail d past (l ∷ past) (inr (tail_refl past)) g in
    go fin f good there
  where
    go : l.act ≡ Finished p i → LegalFinished d n (history n past) p i → Good d past → (Used (One p) (ptk i).tk id number plain ≡ l.act) ⊎ In (Used (One p) (ptk i).tk id number plain) (history n past) → number ≤ pairwise_uses p (l.act ∷ history n past)
    go fin f good (inl here) = absurd (cc (here ∙ fin))
    go fin f good (inr later) =
        let was = used_session d n p p i (ptk i).tk id number plain past good (derived_at d n p i past good.legal f.verified.derived) refl later in
        absurd (alive_over d n p i (history n past) (legal_history d n past good.legal) (fresh_history n past good.fresh) f.alive was.finished)

counted_by : (d : Domain) (n p : Node) (i : Inputs) (id number : ℕ) (plain : List ℕ) (l : Entry) (past : List Entry) → Good d (l ∷ past)
    → (session p (history n past) ≡ Some (keyed_by i) → In (Used (One p) (ptk i).tk id number plain) (history n past) → number ≤ pairwise_uses p (history n past))
    → (b : Bool) → same n l.node ≡ b → session p (cond b (l.act ∷ history n past) (history n past)) ≡ Some (keyed_by i) → In (Used (One p) (ptk i).tk id number plain) (cond b (l.act ∷ history n past) (history n past))
    → number ≤ pairwise_uses p (cond b (l.act ∷ history n past) (history n past))
counted_by d n p i id number plain l past g more true is s there = counted_at d n p i id number plain l past g (sym (same-true n l.node is)) more (finishes p l.act) refl s there
counted_by d n p i id number plain l past g more false is s there = more s there

-- numbers that were used under the key of a session that goes on are among those that are counted
pub counted : (d : Domain) (n p : Node) (i : Inputs) (id number : ℕ) (plain : List ℕ) (past : List Entry) → Good d past → session p (history n past) ≡ Some (keyed_by i) → In (Used (One p) (ptk i).tk id number plain) (history n past) → number ≤ pairwise_uses p (history n past)
counted d n p i id number plain [] g s there = absurd there
counted d n p i id number plain (l ∷ past) g s there =
    counted_by d n p i id number plain l past g (counted d n p i id number plain past (good_tail d past (l ∷ past) (inr (tail_refl past)) g)) (same n l.node) refl s there

-- ---- group keys

is_switched : (which : GroupKind) (e : Act) (key : List ℕ) → switched which e ≡ Some key → (id : ℕ) × ((b : Mac) × (e ≡ Installed All (Group which key id b)))
is_switched groups.Gtk (Installed All (Group groups.Gtk g id b)) key e = (id, (b, ap (λ (x : List ℕ). Installed All (Group groups.Gtk x id b)) (cc e)))
is_switched groups.Igtk (Installed All (Group groups.Igtk g id b)) key e = (id, (b, ap (λ (x : List ℕ). Installed All (Group groups.Igtk x id b)) (cc e)))
is_switched which _ key e = cc

abbrev WasSwitched : GroupKind → List ℕ → List Act → Type 0
WasSwitched which key h = (id : ℕ) × ((b : Mac) × In (Installed All (Group which key id b)) h)

switched_by : (which : GroupKind) (key : List ℕ) (e : Act) (h : List Act) → (In key (switches which h) → WasSwitched which key h) → (o : Option (List ℕ)) → switched which e ≡ o → In key (listed o (switches which h)) → WasSwitched which key (e ∷ h)
switched_by which key e h more None is later = let w = more later in (w.0, (w.1.0, inr w.1.1))
switched_by which key e h more (Some x) is (inl same_key) = let w = is_switched which e key (is ∙ ap Some (sym same_key)) in (w.0, (w.1.0, inl (sym w.1.1)))
switched_by which key e h more (Some x) is (inr later) = let w = more later in (w.0, (w.1.0, inr w.1.1))

switched_in : (which : GroupKind) (key : List ℕ) (h : List Act) → In key (switches which h) → WasSwitched which key h
switched_in which key [] there = absurd there
switched_in which key (e ∷ h) there = switched_by which key e h (switched_in which key h) (switched which e) refl there

-- the current key was installed with all
pub current_in : (which : GroupKind) (key : List ℕ) (older : List (List ℕ)) (h : List Act) → switches which h ≡ key ∷ older → (id : ℕ) × ((b : Mac) × In (Installed All (Group which key id b)) h)
current_in which key older h is = switched_in which key h (subst (λ (x : List (List ℕ)). In key x) (sym is) (inl refl))

-- and so was a key under which a number was used to all, under a key id of that kind
used_current : (which : GroupKind) (d : Domain) (n : Node) (key : List ℕ) (id number : ℕ) (plain : List ℕ) (past : List Entry) → Good d past → kind_of_id id ≡ Some which → In (Used All key id number plain) (history n past) → (k : ℕ) × ((b : Mac) × In (Installed All (Group which key k b)) (history n past))
used_current which d n key id number plain past g kind_is there =
    let act : Act = Used All key id number plain in
    let w = at_of n act past there in
    let old : LegalUsedAll (history n w.earlier) key id number = legal_at d n act past g.legal w in
    let one : old.which ≡ which = cc (old.kind_is, kind_is) in
    let c = current_in which key old.older (history n w.earlier) (subst (λ (k : GroupKind). switches k (history n w.earlier) ≡ key ∷ old.older) one old.current) in
    (c.0, (c.1.0, tail_in (history n w.earlier) (history n past) (Installed All (Group which key c.0 c.1.0)) (history_tail n w.earlier past (earlier_tail n act past w)) c.1.1))

-- its kind, of which it was drawn
pub used_drawn : (d : Domain) (n : Node) (key : List ℕ) (id number : ℕ) (plain : List ℕ) (past : List Entry) → Good d past → In (Used All key id number plain) (history n past) → (which : GroupKind) × ((kind_of_id id ≡ Some which) × In key (group_keys which (history n past)))
used_drawn d n key id number plain past g there =
    let act : Act = Used All key id number plain in
    let w = at_of n act past there in
    let old : LegalUsedAll (history n w.earlier) key id number = legal_at d n act past g.legal w in
    let c = used_current old.which d n key id number plain past g old.kind_is there in
    (old.which, (old.kind_is, (current_earlier old.which d n key c.0 c.1.0 past g c.1.1).0))

group_count_use : (which : GroupKind) (d : Domain) (n : Node) (key : List ℕ) (id number : ℕ) (plain : List ℕ) (e : Act) (h : List Act) → kind_of_id id ≡ Some which → Legal d n h e → (In (Used All key id number plain) h → number ≤ group_uses which h) → (b : Bool) → uses_all which e ≡ b
    → (Used All key id number plain ≡ e) ⊎ In (Used All key id number plain) h → number ≤ cond b (suc (group_uses which h)) (group_uses which h)
group_count_use which d n key id number plain e h kind_is legal more true is (inl here) =
    let l : LegalUsedAll h key id number = subst (λ (x : Act). Legal d n h x) (sym here) legal in
    let one : l.which ≡ which = cc (l.kind_is, kind_is) in
    let w : number ≡ suc (group_uses which h) = subst (λ (k : GroupKind). number ≡ suc (group_uses k h)) one l.next in omega (arith, w)
group_count_use which d n key id number plain e h kind_is legal more true is (inr later) = let w : number ≤ group_uses which h = more later in omega (arith, w)
group_count_use which d n key id number plain e h kind_is legal more false is (inl here) =
    let w : uses_all which (Used All key id number plain) ≡ false = subst (λ (x : Act). uses_all which x ≡ false) (sym here) is in
    let v : uses_all which (Used All key id number plain) ≡ true = of_kind which id kind_is in absurd (cc (w, v))
group_count_use which d n key id number plain e h kind_is legal more false is (inr later) = more later

abbrev GroupCounts : GroupKind → Node → List ℕ → ℕ → ℕ → List ℕ → List Act → Type 0
GroupCounts which n key id number plain h = (rest : List (List ℕ)) → switches which h ≡ key ∷ rest → In (Used All key id number plain) h → number ≤ group_uses which h

group_count_at : (which : GroupKind) (d : Domain) (n : Node) (key : List ℕ) (id number : ℕ) (plain : List ℕ) (older : List (List ℕ)) (l : Entry) (past : List Entry) → kind_of_id id ≡ Some which → Good d (l ∷ past) → l.node ≡ n → GroupCounts which n key id number plain (history n past)
    → (o : Option (List ℕ)) → switched which l.act ≡ o → listed o (switches which (history n past)) ≡ key ∷ older → (Used All key id number plain ≡ l.act) ⊎ In (Used All key id number plain) (history n past)
    → number ≤ cond (is_some o) 0 (cond (uses_all which l.act) (suc (group_uses which (history n past))) (group_uses which (history n past)))
group_count_at which d n key id number plain older l past kind_is g at more None is s there =
    group_count_use which d n key id number plain l.act (history n past) kind_is (subst (λ (x : Node). Legal d x (history x past) l.act) at g.legal.0) (more older s) (uses_all which l.act) refl there
group_count_at which d n key id number plain older l past kind_is g at more (Some x) is s (inl here) = let w = is_switched which l.act x is in absurd (cc (here ∙ w.1.1))
group_count_at which d n key id number plain older l past kind_is g at more (Some x) is s (inr later) =
    let one : x ≡ key = cc s in
    let w = is_switched which l.act key (is ∙ ap Some one) in
    let legal : Legal d n (history n past) l.act = subst (λ (y : Node). Legal d y (history y past) l.act) at g.legal.0 in
    let now : LegalCurrent which n (history n past) key = subst (λ (y : Act). Legal d n (history n past) y) w.1.1 legal in
    let good = good_tail d past (l ∷ past) (inr (tail_refl past)) g in
    let was = used_current which d n key id number plain past good kind_is later in
    absurd (current_once which d n key was.0 was.1.0 past good now was.1.1)

group_count_by : (which : GroupKind) (d : Domain) (n : Node) (key : List ℕ) (id number : ℕ) (plain : List ℕ) (older : List (List ℕ)) (l : Entry) (past : List Entry) → kind_of_id id ≡ Some which → Good d (l ∷ past) → GroupCounts which n key id number plain (history n past)
    → (b : Bool) → same n l.node ≡ b → switches which (cond b (l.act ∷ history n past) (history n past)) ≡ key ∷ older → In (Used All key id number plain) (cond b (l.act ∷ history n past) (history n past))
    → number ≤ group_uses which (cond b (l.act ∷ history n past) (history n past))
group_count_by which d n key id number plain older l past kind_is g more true is s there = group_count_at which d n key id number plain older l past kind_is g (sym (same-true n l.node is)) more (switched which l.act) refl s there
group_count_by which d n key id number plain older l past kind_is g more false is s there = more older s there

group_counted : (which : GroupKind) (d : Domain) (n : Node) (key : List ℕ) (id number : ℕ) (plain : List ℕ) (older : List (List ℕ)) (past : List Entry) → kind_of_id id ≡ Some which → Good d past → switches which (history n past) ≡ key ∷ older → In (Used All key id number plain) (history n past) → number ≤ group_uses which (history n past)
group_counted which d n key id number plain older [] kind_is g s there = absurd there
group_counted which d n key id number plain older (l ∷ past) kind_is g s there =
    group_count_by which d n key id number plain older l past kind_is g (λ rest. group_counted which d n key id number plain rest past kind_is (good_tail d past (l ∷ past) (inr (tail_refl past)) g)) (same n l.node) refl s there

-- ---- the two kinds of use

pub data Uses (e : Act) (key : List ℕ) (number : ℕ) (plain : List ℕ) : Type 0 where
  To_peer : (p : Node) (id : ℕ) → e ≡ Used (One p) key id number plain → Uses e key number plain
  To_all : (id : ℕ) → e ≡ Used All key id number plain → Uses e key number plain

pub uses_view : (e : Act) (u : Use) → use_of e ≡ Some u → Uses e u.key u.number u.octets
uses_view (Used (One p) key id number plain) u is = let w : record { key = key; number = number; octets = plain } ≡ u = cc is in To_peer p id (ap (λ (x : Use). Used (One p) x.key id x.number x.octets) w)
uses_view (Used All key id number plain) u is = let w : record { key = key; number = number; octets = plain } ≡ u = cc is in To_all id (ap (λ (x : Use). Used All x.key id x.number x.octets) w)
uses_view _ u is = cc

use_clash_by : (d : Domain) (n : Node) (e x : Act) (key : List ℕ) (number : ℕ) (plain other : List ℕ) (past : List Entry) → Good d past → Legal d n (history n past) e → In x (history n past) → Uses e key number plain → Uses x key number other → ⊥
use_clash_by d n e x key number plain other past g legal there (To_peer p id is) (To_peer q id2 was) =
    let l : LegalUsedWith (history n past) p key number = subst (λ (y : Act). Legal d n (history n past) y) is legal in
    let v = session_verified d n p l.i past g l.awaited in
    let there2 : In (Used (One q) key id2 number other) (history n past) = subst (λ (y : Act). In y (history n past)) was there in
    let one = used_session d n p q l.i key id2 number other past g (derived_at d n p l.i past g.legal v.derived) l.is there2 in
    let mine : In (Used (One p) (ptk l.i).tk id2 number other) (history n past) = subst (λ (y : List ℕ). In (Used (One p) y id2 number other) (history n past)) l.is (subst (λ (y : Node). In (Used (One y) key id2 number other) (history n past)) (sym one.peer) there2) in
    let low : number ≤ pairwise_uses p (history n past) = counted d n p l.i id2 number other past g l.awaited mine in
    let high : number ≡ suc (pairwise_uses p (history n past)) = l.next in
    omega (arith, low, high)
use_clash_by d n e x key number plain other past g legal there (To_peer p id is) (To_all id2 was) =
    let l : LegalUsedWith (history n past) p key number = subst (λ (y : Act). Legal d n (history n past) y) is legal in
    let v = session_verified d n p l.i past g l.awaited in
    let c = used_drawn d n key id2 number other past g (subst (λ (y : Act). In y (history n past)) was there) in
    clash c.0 d n p n l.i key past g (derived_at d n p l.i past g.legal v.derived) l.is c.1.1
use_clash_by d n e x key number plain other past g legal there (To_all id is) (To_peer q id2 was) =
    let l : LegalUsedAll (history n past) key id number = subst (λ (y : Act). Legal d n (history n past) y) is legal in
    let there2 : In (Used (One q) key id2 number other) (history n past) = subst (λ (y : Act). In y (history n past)) was there in
    let w = at_of n (Used (One q) key id2 number other) past there2 in
    let t = earlier_tail n (Used (One q) key id2 number other) past w in
    let old : LegalUsedWith (history n w.earlier) q key number = legal_at d n (Used (One q) key id2 number other) past g.legal w in
    let v = verified_wider n q old.i w.earlier past t (session_verified d n q old.i w.earlier (good_tail d w.earlier past t g) old.awaited) in
    let c = current_in l.which key l.older (history n past) l.current in
    clash l.which d n q n old.i key past g (derived_at d n q old.i past g.legal v.derived) old.is (current_earlier l.which d n key c.0 c.1.0 past g c.1.1).0
use_clash_by d n e x key number plain other past g legal there (To_all id is) (To_all id2 was) =
    let l : LegalUsedAll (history n past) key id number = subst (λ (y : Act). Legal d n (history n past) y) is legal in
    let there2 : In (Used All key id2 number other) (history n past) = subst (λ (y : Act). In y (history n past)) was there in
    let c = current_in l.which key l.older (history n past) l.current in
    let had = used_drawn d n key id2 number other past g there2 in
    let one : had.0 ≡ l.which = same_kinds had.0 l.which d n n key past g had.1.1 (current_earlier l.which d n key c.0 c.1.0 past g c.1.1).0 in
    let low : number ≤ group_uses l.which (history n past) = group_counted l.which d n key id2 number other l.older past (had.1.0 ∙ ap Some one) g l.current there2 in
    let high : number ≡ suc (group_uses l.which (history n past)) = l.next in
    omega (arith, low, high)

-- a number that may be used under a key was not used under it
pub use_clash : (d : Domain) (n : Node) (e x : Act) (u v : Use) (past : List Entry) → Good d past → Legal d n (history n past) e → In x (history n past) → use_of e ≡ Some u → use_of x ≡ Some v → u.key ≡ v.key → u.number ≡ v.number → ⊥
use_clash d n e x u v past g legal there is was keys numbers =
    use_clash_by d n e x u.key u.number u.octets v.octets past g legal there (uses_view e u is)
    (subst (λ (y : ℕ). Uses x u.key y v.octets) (sym numbers) (subst (λ (y : List ℕ). Uses x y v.number v.octets) (sym keys) (uses_view x v was)))

pub used_once : (d : Domain) (past : List Entry) → Good d past → Once use_of past
used_once d [] g = tt
used_once d (l ∷ past) g = (
  (λ m u v there at is was keys numbers. use_clash d l.node l.act m.act u v past (good_tail d past (l ∷ past) (inr (tail_refl past)) g) g.legal.0
      (subst (λ (x : Node). In m.act (history x past)) at (in_history m past there)) is was keys numbers),
  used_once d past (good_tail d past (l ∷ past) (inr (tail_refl past)) g),
)
