-- What the questions to a history say of its acts, where each of them was legal.
use Rattle.std.proofs.Common.{ℕ, zero, suc, ◌≡◌, ◌<◌, inl, inr, Bool, true, false, cond, List, [], ◌∷◌, length, Option, Some, None, refl, sym, ap, ◌∙◌, subst, arith}
use Rattle.std.specs.Prelude.{nat_lt}
use Rattle.std.proofs.lemmas.Bool.{ltb-true}
use Rattle.domain_base.specs.Octets.{AreOctets}
use Rattle.domain_base.specs.declared.names.Node.{Node}
use Rattle.key_hierarchy.specs.Keys.{ptk}
use Rattle.key_hierarchy.specs.declared.inputs.Inputs.{Inputs}
use Rattle.key_hierarchy.specs.declared.inputs.Ptk.{Ptk}
use Rattle.run_journal.specs.declared.domain.Domain.{Domain}
use Rattle.run_journal.specs.declared.acts.Start.{Start}
use Rattle.run_journal.specs.declared.acts.Drawn.TheVariants as draw
use Rattle.run_journal.specs.declared.acts.Drawn.TheVariants.{Nonce}
use Rattle.run_journal.specs.declared.acts.Act.{Act}
use Rattle.run_journal.specs.declared.acts.Act.TheVariants.{Opened, Drew, Derived}
use Rattle.run_journal.specs.Acts.{opens, finishes, closes, nonce_drawn, key_drawn, Derivation, derived, GroupKey}
use Rattle.run_journal.specs.Questions.{or_else, attempt, own_nonce, derivation, session, listed, group_keys}
use Rattle.run_journal.specs.Premises.{In}
use Rattle.run_journal.specs.GroupKinds.{kind_of_id}
use Rattle.domain_rules.specs.GroupKeys.{key_id, newest_of, newest}
use Rattle.domain_rules.proofs.GroupKinds.{kind_of_place}
use Rattle.domain_rules.specs.Frames.{keyed_by}
use Rattle.domain_rules.proofs.Parts.{same-true, Grows, Begins, Goes_on, grows, in_part, own_nonce_more}
use Rattle.domain_rules.proofs.Derivations.{derived-is, derivation_in}
use Rattle.journal_safety.proofs.Ends.{Tail}
use Rattle.domain_rules.proofs.CarriedKey.{IsGroupKey}
use Rattle.run_journal.specs.declared.acts.GroupKind.{GroupKind}
use Rattle.run_journal.specs.declared.acts.GroupKind.TheVariants as groups
use Rattle.journal_safety.proofs.Legal.{nonce_of, Alive, LegalDerived, LegalGroupKey, LegalNonce, IsUsed, HasDrawn, HaveDrawn, IsNewest, Legal, LegalHistory}

-- an act of the history was legal when it was added
pub record LegalIn (d : Domain) (n : Node) (e : Act) (h : List Act) : Type 0 where
  pub before : List Act
  pub tail : Tail (e ∷ before) h
  pub legal : Legal d n before e

pub legal_in : (d : Domain) (n : Node) (e : Act) (h : List Act) → LegalHistory d n h → In e h → LegalIn d n e h
legal_in d n e [] legal there = absurd there
legal_in d n e (x ∷ h) legal (inl here) = record { before = h; tail = inl (ap (λ (y : Act). y ∷ h) here); legal = subst (λ (y : Act). Legal d n h y) (sym here) legal.0 }
legal_in d n e (x ∷ h) legal (inr later) = let w = legal_in d n e h legal.1 later in record { before = w.before; tail = inr w.tail; legal = w.legal }

pub legal_end : (d : Domain) (n : Node) (a h : List Act) → Tail a h → LegalHistory d n h → LegalHistory d n a
legal_end d n a [] t legal = subst (λ (x : List Act). LegalHistory d n x) (sym t) legal
legal_end d n a (e ∷ h) (inl is) legal = subst (λ (x : List Act). LegalHistory d n x) (sym is) legal
legal_end d n a (e ∷ h) (inr t) legal = legal_end d n a h t legal.1

-- ---- what an act is by the tests on it

pub opens-is : (p : Node) (e : Act) → opens p e ≡ true → (s : Start) × (e ≡ Opened p s)
opens-is p (Opened q s) o = (s, ap (λ (x : Node). Opened x s) (sym (same-true p q o)))
opens-is p _ o = cc

pub opens-undrawn : (p : Node) (e : Act) → opens p e ≡ true → nonce_drawn e ≡ None
opens-undrawn p e o = let w = opens-is p e o in subst (λ (x : Act). nonce_drawn x ≡ None) (sym w.1) refl

pub nonce_drawn-is : (e : Act) (v : List ℕ) → nonce_drawn e ≡ Some v → e ≡ Drew (Nonce v)
nonce_drawn-is (Drew (Nonce w)) v o = cc
nonce_drawn-is _ v o = cc

pub group_key_drawn-is : (which : GroupKind) (e : Act) (v : List ℕ) → key_drawn which e ≡ Some v → e ≡ Drew (draw.Group which v)
group_key_drawn-is groups.Gtk (Drew (draw.Group groups.Gtk w)) v o = cc
group_key_drawn-is groups.Igtk (Drew (draw.Group groups.Igtk w)) v o = cc
group_key_drawn-is which _ v o = cc

-- ---- nonces

nonce_by : (e : Act) (part : List Act) (v : List ℕ) (o : Option (List ℕ)) → own_nonce part ≡ o → (own_nonce part ≡ Some v → In (Drew (Nonce v)) part) → or_else o (nonce_drawn e) ≡ Some v → In (Drew (Nonce v)) (e ∷ part)
nonce_by e part v None is more s = inl (sym (nonce_drawn-is e v s))
nonce_by e part v (Some w) is more s = inr (more (is ∙ s))

pub nonce_in : (part : List Act) (v : List ℕ) → own_nonce part ≡ Some v → In (Drew (Nonce v)) part
nonce_in [] v s = cc
nonce_in (e ∷ part) v s = nonce_by e part v (own_nonce part) refl (nonce_in part v) s

pub alive_drew : (n p : Node) (i : Inputs) (h : List Act) → Alive n h p i → In (Drew (Nonce (nonce_of n i))) h
alive_drew n p i h a = in_part p h a.part (Drew (Nonce (nonce_of n i))) a.awaited (nonce_in a.part (nonce_of n i) a.own)

pub nonce_size : (d : Domain) (n : Node) (v : List ℕ) (h : List Act) → LegalHistory d n h → In (Drew (Nonce v)) h → length v ≡ 32
nonce_size d n v h legal there = let l : LegalNonce (legal_in d n (Drew (Nonce v)) h legal there).before v = (legal_in d n (Drew (Nonce v)) h legal there).legal in l.size

-- ---- derivations

session_by : (p : Node) (e : Act) (h : List Act) (x : Derivation) → (session p h ≡ Some x → In (Derived p x.inputs x.ptk) h) → (b c : Bool) → cond b (derivation p h) (cond c None (session p h)) ≡ Some x → In (Derived p x.inputs x.ptk) (e ∷ h)
session_by p e h x more true c s = inr (derivation_in p h x s)
session_by p e h x more false true s = cc
session_by p e h x more false false s = inr (more s)

-- the key of a session was derived
pub session_in : (p : Node) (h : List Act) (x : Derivation) → session p h ≡ Some x → In (Derived p x.inputs x.ptk) h
session_in p [] x s = cc
session_in p (e ∷ h) x s = session_by p e h x (session_in p h x) (finishes p e) (closes p e) s

-- and is the key of its inputs
pub derived_key : (d : Domain) (n p : Node) (i : Inputs) (k : Ptk) (h : List Act) → LegalHistory d n h → In (Derived p i k) h → k ≡ ptk i
derived_key d n p i k h legal there = let l : LegalDerived d n (legal_in d n (Derived p i k) h legal there).before p i k = (legal_in d n (Derived p i k) h legal there).legal in l.key

-- a key that is that of its inputs
pub keyed_as : (x : Derivation) → x.ptk ≡ ptk x.inputs → x ≡ keyed_by x.inputs
keyed_as x e = ap (λ (k : Ptk). record { inputs = x.inputs; ptk = k }) e

-- the own nonce of what was derived in an attempt is that of the attempt
own_new : (d : Domain) (n p : Node) (x : Derivation) (e : Act) (h old : List Act) → Legal d n h e → e ≡ Derived p x.inputs x.ptk → attempt p h ≡ Some old → own_nonce (e ∷ old) ≡ Some (nonce_of n x.inputs)
own_new d n p x e h old legal is a =
    let l : LegalDerived d n h p x.inputs x.ptk = subst (λ (y : Act). Legal d n h y) is legal in
    let same_part : l.alive.part ≡ old = cc (l.alive.awaited, a) in
    own_nonce_more e old (nonce_of n x.inputs) (subst (λ (y : List Act). own_nonce y ≡ Some (nonce_of n x.inputs)) same_part l.alive.own)

own_later : (d : Domain) (n p : Node) (x : Derivation) (e : Act) (h old : List Act) → Legal d n h e → attempt p h ≡ Some old → (derivation p old ≡ Some x → own_nonce old ≡ Some (nonce_of n x.inputs)) → (o : Option Derivation) → derived p e ≡ o → or_else o (derivation p old) ≡ Some x → own_nonce (e ∷ old) ≡ Some (nonce_of n x.inputs)
own_later d n p x e h old legal a more None is s = own_nonce_more e old (nonce_of n x.inputs) (more s)
own_later d n p x e h old legal a more (Some k) is s = own_new d n p x e h old legal (derived-is p e x (is ∙ s)) a

opens-derives : (p q : Node) (e : Act) → opens p e ≡ true → derived q e ≡ None
opens-derives p q e o = let w = opens-is p e o in subst (λ (x : Act). derived q x ≡ None) (sym w.1) refl

own_by : (d : Domain) (n p : Node) (x : Derivation) (e : Act) (h part : List Act) → Legal d n h e → ((old : List Act) → attempt p h ≡ Some old → derivation p old ≡ Some x → own_nonce old ≡ Some (nonce_of n x.inputs)) → Grows p e h part → derivation p part ≡ Some x → own_nonce part ≡ Some (nonce_of n x.inputs)
own_by d n p x e h part legal more (Begins o is) s =
    let alone : derivation p (e ∷ []) ≡ Some x = subst (λ (y : List Act). derivation p y ≡ Some x) is s in
    let none : derived p e ≡ None = opens-derives p p e o in
    let w : None ≡ Some x = rw none at alone in cc
own_by d n p x e h part legal more (Goes_on old o no_end a is) s =
    subst (λ (y : List Act). own_nonce y ≡ Some (nonce_of n x.inputs)) (sym is)
    (own_later d n p x e h old legal a (more old a) (derived p e) refl (subst (λ (y : List Act). derivation p y ≡ Some x) is s))

pub own_of_part : (d : Domain) (n p : Node) (x : Derivation) (h part : List Act) → LegalHistory d n h → attempt p h ≡ Some part → derivation p part ≡ Some x → own_nonce part ≡ Some (nonce_of n x.inputs)
own_of_part d n p x [] part legal a s = cc
own_of_part d n p x (e ∷ h) part legal a s = own_by d n p x e h part legal.0 (λ old was. own_of_part d n p x h old legal.1 was) (grows p e h part a) s

-- ---- group keys that were drawn

drew_by : (which : GroupKind) (v : List ℕ) (e : Act) (h : List Act) → (In v (group_keys which h) → In (Drew (draw.Group which v)) h) → (o : Option (List ℕ)) → key_drawn which e ≡ o → In v (listed o (group_keys which h)) → In (Drew (draw.Group which v)) (e ∷ h)
drew_by which v e h more None is there = inr (more there)
drew_by which v e h more (Some x) is (inl here) = inl (sym (group_key_drawn-is which e v (is ∙ ap Some (sym here))))
drew_by which v e h more (Some x) is (inr later) = inr (more later)

pub group_key_drew : (which : GroupKind) (v : List ℕ) (h : List Act) → In v (group_keys which h) → In (Drew (draw.Group which v)) h
group_key_drew which v [] there = absurd there
group_key_drew which v (e ∷ h) there = drew_by which v e h (group_key_drew which v h) (key_drawn which e) refl there

listed_more : (v : List ℕ) (xs : List (List ℕ)) (o : Option (List ℕ)) → In v xs → In v (listed o xs)
listed_more v xs None there = there
listed_more v xs (Some x) there = inr there

pub group_keys_more : (which : GroupKind) (v : List ℕ) (e : Act) (h : List Act) → In v (group_keys which h) → In v (group_keys which (e ∷ h))
group_keys_more which v e h there = listed_more v (group_keys which h) (key_drawn which e) there

pub has_drawn_more : (which : GroupKind) (e : Act) (h : List Act) → HasDrawn which h → HasDrawn which (e ∷ h)
has_drawn_more which e h w = (w.0, group_keys_more which w.0 e h w.1)

pub group_keys_tail : (which : GroupKind) (v : List ℕ) (a h : List Act) → Tail a h → In v (group_keys which a) → In v (group_keys which h)
group_keys_tail which v a [] t there = subst (λ (x : List Act). In v (group_keys which x)) t there
group_keys_tail which v a (e ∷ h) (inl is) there = subst (λ (x : List Act). In v (group_keys which x)) is there
group_keys_tail which v a (e ∷ h) (inr t) there = group_keys_more which v e h (group_keys_tail which v a h t there)

-- a group key of that kind, with a key id of its kind
pub record IsKey (which : GroupKind) (g : GroupKey) : Type 0 where
  pub octets : AreOctets g.key
  pub size : length g.key ≡ 16
  pub kind_is : kind_of_id g.id ≡ Some which

-- a GTK's is below 4
gtk_low : (id : ℕ) → kind_of_id id ≡ Some groups.Gtk → id < 4
gtk_low zero is = omega arith
gtk_low (suc before) is = by (nat_lt before 3) refl is
  where
    after : (b : Bool) → cond b (Some groups.Igtk) None ≡ Some groups.Gtk → ⊥
    after true e = cc e
    after false e = cc e

    by : (b : Bool) → nat_lt before 3 ≡ b → cond b (Some groups.Gtk) (cond (nat_lt before 5) (Some groups.Igtk) None) ≡ Some groups.Gtk → suc before < 4
    by true low e = let w : before < 3 = ltb-true before 3 low in omega (arith, w)
    by false low e = absurd (after (nat_lt before 5) e)

pub is_gtk : (g : GroupKey) → IsKey groups.Gtk g → IsGroupKey g
is_gtk g is = record { octets = is.octets; size = is.size; low = gtk_low g.id is.kind_is }

-- the newest
pub record Newest (which : GroupKind) (h : List Act) : Type 0 where
  pub is : IsKey which (newest which h)
  pub drawn : In (newest which h).key (group_keys which h)
  pub last : IsNewest which (newest which h).key h

newest_by : (which : GroupKind) (d : Domain) (n : Node) (h : List Act) → LegalHistory d n h → (xs : List (List ℕ)) → group_keys which h ≡ xs → HasDrawn which h → Newest which h
newest_by which d n h legal [] is w = absurd (subst (λ (x : List (List ℕ)). In w.0 x) is w.1)
newest_by which d n h legal (x ∷ older) is w =
    let there : In x (group_keys which h) = subst (λ (y : List (List ℕ)). In x y) (sym is) (inl refl) in
    let at = legal_in d n (Drew (draw.Group which x)) h legal (group_key_drew which x h there) in
    let l : LegalGroupKey which n at.before x = at.legal in
    let one : newest which h ≡ record { key = x; id = key_id which (length older) } = ap (newest_of which) is in
    record {
      is = subst (λ (g : GroupKey). IsKey which g) (sym one) (record { octets = l.octets; size = l.size; kind_is = kind_of_place which (length older) });
      drawn = subst (λ (g : GroupKey). In g.key (group_keys which h)) (sym one) there;
      last = (older, is ∙ ap (λ (g : GroupKey). g.key ∷ older) (sym one));
    }

pub newest_is : (which : GroupKind) (d : Domain) (n : Node) (h : List Act) → LegalHistory d n h → HasDrawn which h → Newest which h
newest_is which d n h legal w = newest_by which d n h legal (group_keys which h) refl w

-- of each kind in use
abbrev pub Newests : Domain → List Act → Type 0
Newests d h = (which : GroupKind) → IsUsed d which → Newest which h

pub newests_are : (d : Domain) (n : Node) (h : List Act) → LegalHistory d n h → HaveDrawn d h → Newests d h
newests_are d n h legal w = λ which used. newest_is which d n h legal (w which used)
