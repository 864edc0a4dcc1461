-- One node uses no packet number twice under a key, whatever its peers are.
use Rattle.std.proofs.Common.{ℕ, suc, ◌≡◌, ◌≤◌, ◌⊎◌, inl, inr, Bool, true, false, cond, List, [], ◌∷◌, Option, Some, None, refl, sym, ap, ◌∙◌, subst, arith}
use Rattle.std.specs.Prelude.{is_some}
use Rattle.domain_base.specs.declared.names.Mac.{Mac}
use Rattle.domain_base.specs.declared.names.Node.{Node}
use Rattle.domain_base.specs.declared.names.Peer.TheVariants.{One, All}
use Rattle.key_hierarchy.specs.Keys.{ptk}
use Rattle.key_hierarchy.specs.declared.inputs.Inputs.{Inputs}
use Rattle.run_journal.specs.declared.domain.Domain.{Domain}
use Rattle.run_journal.specs.declared.acts.Drawn.TheVariants as draw
use Rattle.run_journal.specs.declared.acts.Key.TheVariants.{Group}
use Rattle.run_journal.specs.declared.acts.Act.{Act}
use Rattle.run_journal.specs.declared.acts.Act.TheVariants.{Drew, Installed, Used, Finished}
use Rattle.run_journal.specs.Acts.{same, finishes, closes, installs_pairwise, uses_with, uses_all, switched, key_drawn}
use Rattle.run_journal.specs.declared.acts.GroupKind.{GroupKind}
use Rattle.run_journal.specs.declared.acts.GroupKind.TheVariants as groups
use Rattle.run_journal.specs.Premises.{In, drawn}
use Rattle.run_journal.specs.Questions.{derivation, session, listed, group_keys, switches, pairwise_uses, group_uses}
use Rattle.run_journal.specs.Safe.{Use, use_of}
use Rattle.run_journal.specs.GroupKinds.{kind_of_id}
use Rattle.domain_rules.specs.Frames.{keyed_by}
use Rattle.domain_rules.proofs.Parts.{same-refl}
use Rattle.domain_rules.proofs.GroupKinds.{same_group_kind-refl, of_kind}
use Rattle.journal_safety.proofs.Ends.{tail_in, tail_rest}
use Rattle.journal_safety.proofs.Histories.{legal_in, legal_end, group_key_drew, group_key_drawn-is}
use Rattle.journal_safety.proofs.Legal.{derives, LegalPairwise, LegalNew, LegalCurrent, LegalFinished, LegalUsedWith, LegalUsedAll, Legal, LegalHistory}
use Rattle.journal_safety.proofs.Numbers.{installs-is, current_in, Uses, To_peer, To_all, uses_view}
use Rattle.journal_safety.proofs.Sessions.{session_older, finished_of, session_finished, finished_verified}
use Rattle.journal_safety.proofs.Pairwise.{FreshHistory}
use Rattle.journal_safety.proofs.Once.{one_kind}
use Rattle.node_safety.specs.Alone.{FreshAlone, UsedOnce, GroupNew, GroupsNew}
use Rattle.node_safety.proofs.Sole.{Sole, sole_rest, fresh_history, OneKey, one_tk}
use Rattle.node_safety.proofs.Pairwise.{alive_over}

-- ---- pairwise keys

-- the inputs of a session were derived from
pub session_derived : (d : Domain) (n p : Node) (i : Inputs) (h : List Act) → LegalHistory d n h → session p h ≡ Some (keyed_by i) → In (derives p i) h
session_derived d n p i h legal s = (finished_verified d n p i h legal (session_finished d n p h (keyed_by i) legal s)).derived

-- a number that was used under the key of inputs was used in a session with the same peer, from the same nonce of the node's own
record InSession (n p q : Node) (i : Inputs) (h : List Act) : Type 0 where
  pub k : Inputs
  pub one : OneKey n p q i k
  pub finished : In (Finished p k) h

used_session : (d : Domain) (n p q : Node) (i : Inputs) (key : List ℕ) (id number : ℕ) (plain : List ℕ) (h : List Act) → Sole d n h → In (derives p i) h → key ≡ (ptk i).tk → In (Used (One q) key id number plain) h → InSession n p q i h
used_session d n p q i key id number plain h s ours is there =
    let act : Act = Used (One q) key id number plain in
    let w = legal_in d n act h s.legal there in
    let t = tail_rest act w.before h w.tail in
    let old : LegalUsedWith w.before q key number = w.legal in
    let legal = legal_end d n w.before h t s.legal in
    let one = one_tk d n p q i old.i h s ours (tail_in w.before h (derives q old.i) t (session_derived d n q old.i w.before legal old.awaited)) (sym is ∙ old.is) in
    let ends = tail_in w.before h (Finished q old.i) t (session_finished d n q w.before (keyed_by old.i) legal old.awaited) in
    record { k = old.i; one = one; finished = subst (λ (x : Node). In (Finished x old.i) h) (sym one.peer) ends }

count_by_use : (d : Domain) (n p : Node) (key : List ℕ) (id number : ℕ) (plain : List ℕ) (e : Act) (h : List Act) → Legal d n h e → (In (Used (One p) key id number plain) h → number ≤ pairwise_uses p h) → (b : Bool) → uses_with p e ≡ b
    → (Used (One p) key id number plain ≡ e) ⊎ In (Used (One p) key id number plain) h → number ≤ cond b (suc (pairwise_uses p h)) (pairwise_uses p h)
count_by_use d n p key id number plain e h legal more true is (inl here) =
    let l : LegalUsedWith h p key number = subst (λ (x : Act). Legal d n h x) (sym here) legal in
    let w : number ≡ suc (pairwise_uses p h) = l.next in omega (arith, w)
count_by_use d n p key id number plain e h legal more true is (inr later) = let w : number ≤ pairwise_uses p h = more later in omega (arith, w)
count_by_use d n p key id number plain e h legal more false is (inl here) =
    let w : uses_with p (Used (One p) key id number plain) ≡ false = subst (λ (x : Act). uses_with p x ≡ false) (sym here) is in
    let v : same p p ≡ true = same-refl p in absurd (cc (w, v))
count_by_use d n p key id number plain e h legal more false is (inr later) = more later

count_by_install : (d : Domain) (n p : Node) (i : Inputs) (key : List ℕ) (id number : ℕ) (plain : List ℕ) (e : Act) (h : List Act) → Legal d n h e → session p h ≡ Some (keyed_by i) → (In (Used (One p) key id number plain) h → number ≤ pairwise_uses p h)
    → (b : Bool) → installs_pairwise p e ≡ b → (Used (One p) key id number plain ≡ e) ⊎ In (Used (One p) key id number plain) h → number ≤ cond b 0 (cond (uses_with p e) (suc (pairwise_uses p h)) (pairwise_uses p h))
count_by_install d n p i key id number plain e h legal s more true is there =
    let w = installs-is p e is in
    let l : LegalPairwise n h p w.0 w.1.0 = subst (λ (x : Act). Legal d n h x) w.1.1 legal in
    let none : session p h ≡ None = l.none in absurd (cc (none, s))
count_by_install d n p i key id number plain e h legal s more false is there = count_by_use d n p key id number plain e h legal more (uses_with p e) refl there

counted_at : (d : Domain) (n p : Node) (i : Inputs) (id number : ℕ) (plain : List ℕ) (e : Act) (h : List Act) → Sole d n (e ∷ h)
    → (session p h ≡ Some (keyed_by i) → In (Used (One p) (ptk i).tk id number plain) h → number ≤ pairwise_uses p h)
    → (b : Bool) → finishes p e ≡ b → cond b (derivation p h) (cond (closes p e) None (session p h)) ≡ Some (keyed_by i)
    → (Used (One p) (ptk i).tk id number plain ≡ e) ⊎ In (Used (One p) (ptk i).tk id number plain) h → number ≤ pairwise_uses p (e ∷ h)
counted_at d n p i id number plain e h sole more false is s there =
    let old = session_older p h (keyed_by i) (closes p e) s in
    count_by_install d n p i (ptk i).tk id number plain e h sole.legal.0 old (more old) (installs_pairwise p e) refl there
counted_at d n p i id number plain e h sole more true is s there =
    let fin : e ≡ Finished p i = finished_of d n p e h (keyed_by i) sole.legal.0 is s in
    let f : LegalFinished d n h p i = subst (λ (y : Act). Legal d n h y) fin sole.legal.0 in
    go fin f (sole_rest d n e h sole) there
  where
    go : e ≡ Finished p i → LegalFinished d n h p i → Sole d n h → (Used (One p) (ptk i).tk id number plain ≡ e) ⊎ In (Used (One p) (ptk i).tk id number plain) h → number ≤ pairwise_uses p (e ∷ h)
    go fin f rest (inl here) = absurd (cc (here ∙ fin))
    go fin f rest (inr later) =
        let was = used_session d n p p i (ptk i).tk id number plain h rest f.verified.derived refl later in
        absurd (alive_over d n p i was.k h rest f.alive was.one.own was.finished)

-- numbers that were used under the key of a session that goes on are among those that are counted
counted : (d : Domain) (n p : Node) (i : Inputs) (id number : ℕ) (plain : List ℕ) (h : List Act) → Sole d n h → session p h ≡ Some (keyed_by i) → In (Used (One p) (ptk i).tk id number plain) h → number ≤ pairwise_uses p h
counted d n p i id number plain [] sole s there = absurd there
counted d n p i id number plain (e ∷ h) sole s there =
    counted_at d n p i id number plain e h sole (counted d n p i id number plain h (sole_rest d n e h sole)) (finishes p e) refl s there

-- ---- group keys that the node draws

abbrev Distinct : List (List ℕ) → Type 0
Distinct [] = Unit {0}
Distinct (x ∷ xs) = (In x xs → ⊥) × Distinct xs

distinct_by : (which : GroupKind) (e : Act) (h : List Act) → FreshHistory (e ∷ h) → Distinct (group_keys which h) → (o : Option (List ℕ)) → key_drawn which e ≡ o → Distinct (listed o (group_keys which h))
distinct_by which e h f w None is = w
distinct_by which e h f w (Some g) is = ((λ there. f.0 g (Drew (draw.Group which g)) (ap drawn (group_key_drawn-is which e g is)) (group_key_drew which g h there) refl), w)

distinct_keys : (which : GroupKind) (h : List Act) → FreshHistory h → Distinct (group_keys which h)
distinct_keys which [] f = tt
distinct_keys which (e ∷ h) f = distinct_by which e h f (distinct_keys which h f.1) (key_drawn which e) refl

switched_listed : (which : GroupKind) (g : List ℕ) (id : ℕ) (b : Mac) (h : List Act) → In (Installed All (Group which g id b)) h → In g (switches which h)
switched_listed which g id b [] there = absurd there
switched_listed which g id b (e ∷ h) (inl here) = subst (λ (x : Act). In g (listed (switched which x) (switches which h))) here (rw (same_group_kind-refl which) (inl refl))
switched_listed which g id b (e ∷ h) (inr later) = more (switched which e) (switched_listed which g id b h later)
  where
    more : (o : Option (List ℕ)) → In g (switches which h) → In g (listed o (switches which h))
    more None there = there
    more (Some x) there = inr there

-- a key that is made current was not current before
current_new : (which : GroupKind) (n : Node) (g : List ℕ) (id : ℕ) (b : Mac) (h : List Act) → FreshAlone h → LegalCurrent which n h g → In (Installed All (Group which g id b)) h → ⊥
current_new which n g id b h fresh l there =
    let w : Distinct (g ∷ switches which h) = subst (λ (x : List (List ℕ)). Distinct x) l.newest (distinct_keys which h (fresh_history h fresh)) in
    w.0 (switched_listed which g id b h there)

-- a current key was drawn
record WasCurrent (which : GroupKind) (g : List ℕ) (h : List Act) : Type 0 where
  pub id : ℕ
  pub bssid : Mac
  pub installed : In (Installed All (Group which g id bssid)) h

current_drawn : (which : GroupKind) (d : Domain) (n : Node) (g : List ℕ) (h : List Act) → LegalHistory d n h → WasCurrent which g h → In (Drew (draw.Group which g)) h
current_drawn which d n g h legal w =
    let at = legal_in d n (Installed All (Group which g w.id w.bssid)) h legal w.installed in
    let l : LegalCurrent which n at.before g = at.legal in
    let there : In g (group_keys which at.before) = subst (λ (x : List (List ℕ)). In g x) (sym l.newest) (inl refl) in
    tail_in at.before h (Drew (draw.Group which g)) (tail_rest (Installed All (Group which g w.id w.bssid)) at.before h at.tail) (group_key_drew which g at.before there)

was_current : (which : GroupKind) (key : List ℕ) (older : List (List ℕ)) (h : List Act) → switches which h ≡ key ∷ older → WasCurrent which key h
was_current which key older h is = let w = current_in which key older h is in record { id = w.0; bssid = w.1.0; installed = w.1.1 }

-- a key under which a number was used to all was current, as one of the kind of its key id
used_current : (which : GroupKind) (d : Domain) (n : Node) (key : List ℕ) (id number : ℕ) (plain : List ℕ) (h : List Act) → LegalHistory d n h → kind_of_id id ≡ Some which → In (Used All key id number plain) h → WasCurrent which key h
used_current which d n key id number plain h legal kind_is there =
    let act : Act = Used All key id number plain in
    let at = legal_in d n act h legal there in
    let old : LegalUsedAll at.before key id number = at.legal in
    let one : old.which ≡ which = cc (old.kind_is, kind_is) in
    let w = was_current which key old.older at.before (subst (λ (k : GroupKind). switches k at.before ≡ key ∷ old.older) one old.current) in
    record { id = w.id; bssid = w.bssid; installed = tail_in at.before h (Installed All (Group which key w.id w.bssid)) (tail_rest act at.before h at.tail) w.installed }

-- and what that kind is
used_was : (d : Domain) (n : Node) (key : List ℕ) (id number : ℕ) (plain : List ℕ) (h : List Act) → LegalHistory d n h → In (Used All key id number plain) h → (which : GroupKind) × ((kind_of_id id ≡ Some which) × WasCurrent which key h)
used_was d n key id number plain h legal there =
    let at = legal_in d n (Used All key id number plain) h legal there in
    let old : LegalUsedAll at.before key id number = at.legal in
    (old.which, (old.kind_is, used_current old.which d n key id number plain h legal old.kind_is there))

-- a temporal key is no group key that the node drew
clash : (which : GroupKind) (d : Domain) (n p : Node) (i : Inputs) (key : List ℕ) (h : List Act) → Sole d n h → In (derives p i) h → key ≡ (ptk i).tk → WasCurrent which key h → ⊥
clash which d n p i key h s derived is w = s.apart.no_group_key which p i (ptk i) derived (subst (λ (x : List ℕ). In (Drew (draw.Group which x)) h) is (current_drawn which d n key h s.legal w))

group_count_use : (which : GroupKind) (d : Domain) (n : Node) (key : List ℕ) (id number : ℕ) (plain : List ℕ) (e : Act) (h : List Act) → kind_of_id id ≡ Some which → Legal d n h e → (In (Used All key id number plain) h → number ≤ group_uses which h) → (b : Bool) → uses_all which e ≡ b
    → (Used All key id number plain ≡ e) ⊎ In (Used All key id number plain) h → number ≤ cond b (suc (group_uses which h)) (group_uses which h)
group_count_use which d n key id number plain e h kind_is legal more true is (inl here) =
    let l : LegalUsedAll h key id number = subst (λ (x : Act). Legal d n h x) (sym here) legal in
    let one : l.which ≡ which = cc (l.kind_is, kind_is) in
    let w : number ≡ suc (group_uses which h) = subst (λ (k : GroupKind). number ≡ suc (group_uses k h)) one l.next in omega (arith, w)
group_count_use which d n key id number plain e h kind_is legal more true is (inr later) = let w : number ≤ group_uses which h = more later in omega (arith, w)
group_count_use which d n key id number plain e h kind_is legal more false is (inl here) =
    let w : uses_all which (Used All key id number plain) ≡ false = subst (λ (x : Act). uses_all which x ≡ false) (sym here) is in
    let v : uses_all which (Used All key id number plain) ≡ true = of_kind which id kind_is in absurd (cc (w, v))
group_count_use which d n key id number plain e h kind_is legal more false is (inr later) = more later

is_switched : (which : GroupKind) (e : Act) (key : List ℕ) → switched which e ≡ Some key → (id : ℕ) × ((b : Mac) × (e ≡ Installed All (Group which key id b)))
is_switched groups.Gtk (Installed All (Group groups.Gtk g id b)) key e = (id, (b, ap (λ (x : List ℕ). Installed All (Group groups.Gtk x id b)) (cc e)))
is_switched groups.Igtk (Installed All (Group groups.Igtk g id b)) key e = (id, (b, ap (λ (x : List ℕ). Installed All (Group groups.Igtk x id b)) (cc e)))
is_switched which _ key e = cc

abbrev GroupCounts : GroupKind → List ℕ → ℕ → ℕ → List ℕ → List Act → Type 0
GroupCounts which key id number plain h = (rest : List (List ℕ)) → switches which h ≡ key ∷ rest → In (Used All key id number plain) h → number ≤ group_uses which h

group_count_at : (which : GroupKind) (d : Domain) (n : Node) (key : List ℕ) (id number : ℕ) (plain : List ℕ) (older : List (List ℕ)) (e : Act) (h : List Act) → kind_of_id id ≡ Some which → Sole d n (e ∷ h) → GroupCounts which key id number plain h
    → (o : Option (List ℕ)) → switched which e ≡ o → listed o (switches which h) ≡ key ∷ older → (Used All key id number plain ≡ e) ⊎ In (Used All key id number plain) h
    → number ≤ cond (is_some o) 0 (cond (uses_all which e) (suc (group_uses which h)) (group_uses which h))
group_count_at which d n key id number plain older e h kind_is sole more None is s there =
    group_count_use which d n key id number plain e h kind_is sole.legal.0 (more older s) (uses_all which e) refl there
group_count_at which d n key id number plain older e h kind_is sole more (Some x) is s (inl here) = let w = is_switched which e x is in absurd (cc (here ∙ w.1.1))
group_count_at which d n key id number plain older e h kind_is sole more (Some x) is s (inr later) =
    let one : x ≡ key = cc s in
    let w = is_switched which e key (is ∙ ap Some one) in
    let now : LegalCurrent which n h key = subst (λ (y : Act). Legal d n h y) w.1.1 sole.legal.0 in
    let was = used_current which d n key id number plain h sole.legal.1 kind_is later in
    absurd (current_new which n key was.id was.bssid h sole.fresh.2 now was.installed)

group_counted : (which : GroupKind) (d : Domain) (n : Node) (key : List ℕ) (id number : ℕ) (plain : List ℕ) (older : List (List ℕ)) (h : List Act) → kind_of_id id ≡ Some which → Sole d n h → switches which h ≡ key ∷ older → In (Used All key id number plain) h → number ≤ group_uses which h
group_counted which d n key id number plain older [] kind_is sole s there = absurd there
group_counted which d n key id number plain older (e ∷ h) kind_is sole s there =
    group_count_at which d n key id number plain older e h kind_is sole (λ rest. group_counted which d n key id number plain rest h kind_is (sole_rest d n e h sole)) (switched which e) refl s there

-- ---- the two kinds of use

use_clash_by : (d : Domain) (n : Node) (e x : Act) (key : List ℕ) (number : ℕ) (plain other : List ℕ) (h : List Act) → Sole d n h → Legal d n h e → In x h → Uses e key number plain → Uses x key number other → ⊥
use_clash_by d n e x key number plain other h s legal there (To_peer p id is) (To_peer q id2 was) =
    let l : LegalUsedWith h p key number = subst (λ (y : Act). Legal d n h y) is legal in
    let there2 : In (Used (One q) key id2 number other) h = subst (λ (y : Act). In y h) was there in
    let one = used_session d n p q l.i key id2 number other h s (session_derived d n p l.i h s.legal l.awaited) l.is there2 in
    let mine : In (Used (One p) (ptk l.i).tk id2 number other) h = subst (λ (y : List ℕ). In (Used (One p) y id2 number other) h) l.is (subst (λ (y : Node). In (Used (One y) key id2 number other) h) (sym one.one.peer) there2) in
    let low : number ≤ pairwise_uses p h = counted d n p l.i id2 number other h s l.awaited mine in
    let high : number ≡ suc (pairwise_uses p h) = l.next in
    omega (arith, low, high)
use_clash_by d n e x key number plain other h s legal there (To_peer p id is) (To_all id2 was) =
    let l : LegalUsedWith h p key number = subst (λ (y : Act). Legal d n h y) is legal in
    let w = used_was d n key id2 number other h s.legal (subst (λ (y : Act). In y h) was there) in
    clash w.0 d n p l.i key h s (session_derived d n p l.i h s.legal l.awaited) l.is w.1.1
use_clash_by d n e x key number plain other h s legal there (To_all id is) (To_peer q id2 was) =
    let l : LegalUsedAll h key id number = subst (λ (y : Act). Legal d n h y) is legal in
    let act : Act = Used (One q) key id2 number other in
    let at = legal_in d n act h s.legal (subst (λ (y : Act). In y h) was there) in
    let t = tail_rest act at.before h at.tail in
    let old : LegalUsedWith at.before q key number = at.legal in
    clash l.which d n q old.i key h s (tail_in at.before h (derives q old.i) t (session_derived d n q old.i at.before (legal_end d n at.before h t s.legal) old.awaited)) old.is (was_current l.which key l.older h l.current)
use_clash_by d n e x key number plain other h s legal there (To_all id is) (To_all id2 was) =
    let l : LegalUsedAll h key id number = subst (λ (y : Act). Legal d n h y) is legal in
    let there2 : In (Used All key id2 number other) h = subst (λ (y : Act). In y h) was there in
    let w = used_was d n key id2 number other h s.legal there2 in
    let one : w.0 ≡ l.which = one_kind w.0 l.which key h (fresh_history h s.fresh) (current_drawn w.0 d n key h s.legal w.1.1) (current_drawn l.which d n key h s.legal (was_current l.which key l.older h l.current)) in
    let low : number ≤ group_uses l.which h = group_counted l.which d n key id2 number other l.older h (w.1.0 ∙ ap Some one) s l.current there2 in
    let high : number ≡ suc (group_uses l.which h) = l.next in
    omega (arith, low, high)

-- a number that may be used under a key was not used under it
use_new : (d : Domain) (n : Node) (e x : Act) (u v : Use) (h : List Act) → Sole d n h → Legal d n h e → In x h → use_of e ≡ Some u → use_of x ≡ Some v → u.key ≡ v.key → u.number ≡ v.number → ⊥
use_new d n e x u v h s legal there is was keys numbers =
    use_clash_by d n e x u.key u.number u.octets v.octets h s legal there (uses_view e u is)
    (subst (λ (y : ℕ). Uses x u.key y v.octets) (sym numbers) (subst (λ (y : List ℕ). Uses x y v.number v.octets) (sym keys) (uses_view x v was)))

pub used_once : (d : Domain) (n : Node) (h : List Act) → Sole d n h → UsedOnce h
used_once d n [] s = tt
used_once d n (e ∷ h) s = (
  (λ x u v there is was keys numbers. use_new d n e x u v h (sole_rest d n e h s) s.legal.0 there is was keys numbers),
  used_once d n h (sole_rest d n e h s),
)

-- ---- group keys that the act installs

group_new : (d : Domain) (n : Node) (e : Act) (h : List Act) → Sole d n (e ∷ h) → GroupNew e h
group_new d n e h s = record {
  own = λ kind key id other b c is there. current_new kind n key other c h s.fresh.2 (subst (λ (x : Act). Legal d n h x) is s.legal.0) there;
  given = λ kind p key id b is. let l : LegalNew d kind n h p key = subst (λ (x : Act). Legal d n h x) is s.legal.0 in l.new;
}

pub groups_new : (d : Domain) (n : Node) (h : List Act) → Sole d n h → GroupsNew h
groups_new d n [] s = tt
groups_new d n (e ∷ h) s = (group_new d n e h s, groups_new d n h (sole_rest d n e h s))
