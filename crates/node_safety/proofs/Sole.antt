-- Two derivations of one node with equal temporal keys are with one peer, from one nonce of its own, whatever nonces its peers have.
use Rattle.std.proofs.Common.{ℕ, ◌≡◌, ◌≢◌, ◌⊎◌, inl, inr, Bool, true, false, not, List, [], ◌∷◌, Option, Some, None, refl, sym, ap, ◌∙◌, subst}
use Rattle.domain_base.specs.declared.names.Mac.{Mac}
use Rattle.domain_base.specs.declared.names.Node.{Node}
use Rattle.domain_base.specs.declared.names.Node.TheVariants.{Ap, Sta}
use Rattle.key_hierarchy.specs.Keys.{ptk}
use Rattle.key_hierarchy.specs.declared.inputs.Inputs.{Inputs}
use Rattle.run_journal.specs.declared.domain.Domain.{Domain}
use Rattle.run_journal.specs.declared.acts.Act.{Act}
use Rattle.run_journal.specs.Acts.{nonce_drawn}
use Rattle.run_journal.specs.Questions.{or_else, attempt, own_nonce}
use Rattle.run_journal.specs.Premises.{In, drawn}
use Rattle.domain_rules.specs.Network.{is_ap, IsNamed}
use Rattle.domain_rules.proofs.Parts.{Grows, Begins, Goes_on, grows}
use Rattle.journal_safety.proofs.Ends.{Tail, tail_head, tail_rest, Order, Same, First, Second, order}
use Rattle.journal_safety.proofs.Histories.{legal_in, legal_end, nonce_drawn-is, opens-undrawn}
use Rattle.journal_safety.proofs.Legal.{nonce_of, own_address, peer_address, derives, LegalDerived, Legal, LegalHistory}
use Rattle.journal_safety.proofs.Names.{one_address, Crossed}
use Rattle.journal_safety.proofs.Pairwise.{FreshHistory}
use Rattle.journal_safety.proofs.Seals.{named}
use Rattle.node_safety.specs.Alone.{FreshAlone, ApartAlone}

-- ---- what the law rests on

pub record Sole (d : Domain) (n : Node) (h : List Act) : Type 0 where
  pub names : IsNamed d
  pub legal : LegalHistory d n h
  pub fresh : FreshAlone h
  pub apart : ApartAlone h

pub fresh_history : (h : List Act) → FreshAlone h → FreshHistory h
fresh_history [] f = tt
fresh_history (e ∷ h) f = (f.0, fresh_history h f.2)

pub fresh_end : (a h : List Act) → Tail a h → FreshAlone h → FreshAlone a
fresh_end a [] t f = subst FreshAlone (sym t) tt
fresh_end a (e ∷ h) (inl is) f = subst FreshAlone (sym is) f
fresh_end a (e ∷ h) (inr t) f = fresh_end a h t f.2

pub apart_more : (e : Act) (h : List Act) → ApartAlone (e ∷ h) → ApartAlone h
apart_more e h apart = record {
  by_tk = λ p q i m k l one other same. apart.by_tk p q i m k l (inr one) (inr other) same;
  no_group_key = λ kind p i k one drew. apart.no_group_key kind p i k (inr one) (inr drew);
}

pub sole_rest : (d : Domain) (n : Node) (e : Act) (h : List Act) → Sole d n (e ∷ h) → Sole d n h
sole_rest d n e h s = record { names = s.names; legal = s.legal.1; fresh = s.fresh.2; apart = apart_more e h s.apart }

pub sole_end : (d : Domain) (n : Node) (a h : List Act) → Tail a h → Sole d n h → Sole d n a
sole_end d n a [] t s = subst (Sole d n) (sym t) s
sole_end d n a (e ∷ h) (inl is) s = subst (Sole d n) (sym is) s
sole_end d n a (e ∷ h) (inr t) s = sole_end d n a h t (sole_rest d n e h s)

-- ---- the peer's nonce of a derivation is no later one of the node's own

abbrev pub other_of : Node → Inputs → List ℕ
other_of (Ap k) i = i.snonce
other_of (Sta k) i = i.anonce

unheard : (n : Node) (k : Inputs) (v : List ℕ) → (k.anonce ≢ v) × (k.snonce ≢ v) → other_of n k ≡ v → ⊥
unheard (Ap x) k v none is = none.1 is
unheard (Sta x) k v none is = none.0 is

some_is : (u v : List ℕ) → Some u ≡ Some v → u ≡ v
some_is u v e = cc

none_some : {A : Type 0} (v : List ℕ) → None ≡ Some v → A
none_some v e = absurd cc

kept_by : (d : Domain) (n p : Node) (k : Inputs) (e : Act) (h old : List Act) (v : List ℕ) → FreshAlone (e ∷ h) → Legal d n h e → attempt p h ≡ Some old → other_of n k ≡ v
    → (own_nonce old ≡ Some v → In (derives p k) h → v ≡ nonce_of n k) → (o : Option (List ℕ)) → own_nonce old ≡ o → or_else o (nonce_drawn e) ≡ Some v
    → (derives p k ≡ e) ⊎ In (derives p k) h → v ≡ nonce_of n k
kept_by d n p k e h old v f legal a other more None was is (inl here) =
    let none : nonce_drawn e ≡ None = subst (λ (x : Act). nonce_drawn x ≡ None) here refl in
    none_some v (sym none ∙ is)
kept_by d n p k e h old v f legal a other more None was is (inr later) =
    absurd (unheard n k v (f.1 v p k (ptk k) (ap drawn (nonce_drawn-is e v is)) later) other)
kept_by d n p k e h old v f legal a other more (Some u) was is (inl here) =
    let l : LegalDerived d n h p k (ptk k) = subst (λ (x : Act). Legal d n h x) (sym here) legal in
    let one : l.alive.part ≡ old = cc (l.alive.awaited, a) in
    let own : own_nonce old ≡ Some (nonce_of n k) = subst (λ (x : List Act). own_nonce x ≡ Some (nonce_of n k)) one l.alive.own in
    some_is v (nonce_of n k) (sym is ∙ sym was ∙ own)
kept_by d n p k e h old v f legal a other more (Some u) was is (inr later) = more (was ∙ is) later

kept_at : (d : Domain) (n p : Node) (k : Inputs) (e : Act) (h part : List Act) (v : List ℕ) → FreshAlone (e ∷ h) → Legal d n h e → other_of n k ≡ v
    → ((old : List Act) → attempt p h ≡ Some old → own_nonce old ≡ Some v → In (derives p k) h → v ≡ nonce_of n k)
    → Grows p e h part → own_nonce part ≡ Some v → (derives p k ≡ e) ⊎ In (derives p k) h → v ≡ nonce_of n k
kept_at d n p k e h part v f legal other more (Begins o is) own there =
    let alone : own_nonce (e ∷ []) ≡ Some v = subst (λ (x : List Act). own_nonce x ≡ Some v) is own in
    let none : nonce_drawn e ≡ None = opens-undrawn p e o in
    none_some v (sym none ∙ alone)
kept_at d n p k e h part v f legal other more (Goes_on old o goes a is) own there =
    kept_by d n p k e h old v f legal a other (more old a) (own_nonce old) refl (subst (λ (x : List Act). own_nonce x ≡ Some v) is own) there

-- where the own nonce of the attempt with p is the peer's of a derivation with p, it is that derivation's own too
pub kept_nonce : (d : Domain) (n p : Node) (k : Inputs) (h part : List Act) (v : List ℕ) → FreshAlone h → LegalHistory d n h → In (derives p k) h → attempt p h ≡ Some part
    → own_nonce part ≡ Some v → other_of n k ≡ v → v ≡ nonce_of n k
kept_nonce d n p k [] part v f legal there a own other = absurd there
kept_nonce d n p k (e ∷ h) part v f legal there a own other =
    kept_at d n p k e h part v f legal.0 other (λ old was is earlier. kept_nonce d n p k h old v f.2 legal.1 earlier was is other) (grows p e h part a) own there

not_itself : (b : Bool) → b ≡ not b → ⊥
not_itself true e = absurd cc
not_itself false e = absurd cc

-- ---- one key is of one peer, and of one nonce of the node's own

pub record OneKey (n p q : Node) (i k : Inputs) : Type 0 where
  pub peer : p ≡ q
  pub own : nonce_of n i ≡ nonce_of n k

-- what is known of a derivation where it was made
pub record Made (d : Domain) (n p : Node) (i : Inputs) (h : List Act) : Type 0 where
  pub before : List Act
  pub tail : Tail (derives p i ∷ before) h
  pub legal : LegalDerived d n before p i (ptk i)

pub made : (d : Domain) (n p : Node) (i : Inputs) (h : List Act) → LegalHistory d n h → In (derives p i) h → Made d n p i h
made d n p i h legal there = let w = legal_in d n (derives p i) h legal there in record { before = w.before; tail = w.tail; legal = w.legal }

-- its peer is told by the address
peer_by : (d : Domain) (n p q : Node) (i k : Inputs) (a b : List Act) → IsNamed d → LegalDerived d n a p i (ptk i) → LegalDerived d n b q k (ptk k)
    → Crossed (own_address n i).0 (peer_address n i).0 (own_address n k).0 (peer_address n k).0 → p ≡ q
peer_by d n p q i k a b names l m (inl straight) =
    one_address d p q names l.peer_listed m.peer_listed (sym (ap (λ (x : Mac). x.0) l.peer) ∙ straight.1 ∙ ap (λ (x : Mac). x.0) m.peer)
peer_by d n p q i k a b names l m (inr crossed) =
    let one : n ≡ q = one_address d n q names l.listed m.peer_listed (sym (ap (λ (x : Mac). x.0) l.address) ∙ crossed.0 ∙ ap (λ (x : Mac). x.0) m.peer) in
    let other : is_ap q ≡ not (is_ap q) = subst (λ (x : Node). is_ap q ≡ not (is_ap x)) one m.roles in
    absurd (not_itself (is_ap q) other)

-- the addresses of a name, by the node's own and its peer's
addresses_of : (n : Node) (i k : Inputs) → Crossed i.aa.0 i.spa.0 k.aa.0 k.spa.0 → Crossed (own_address n i).0 (peer_address n i).0 (own_address n k).0 (peer_address n k).0
addresses_of (Ap x) i k c = c
addresses_of (Sta x) i k (inl straight) = inl (straight.1, straight.0)
addresses_of (Sta x) i k (inr crossed) = inr (crossed.1, crossed.0)

nonces_of : (n : Node) (i k : Inputs) → Crossed i.anonce i.snonce k.anonce k.snonce → Crossed (nonce_of n i) (other_of n i) (nonce_of n k) (other_of n k)
nonces_of (Ap x) i k c = c
nonces_of (Sta x) i k (inl straight) = inl (straight.1, straight.0)
nonces_of (Sta x) i k (inr crossed) = inr (crossed.1, crossed.0)

-- nonces that are crossed: the later of the two derivations is in an attempt whose own nonce the earlier one had as the peer's
own_crossed : (d : Domain) (n p : Node) (i k : Inputs) (h : List Act) → Sole d n h → (l : Made d n p i h) → (m : Made d n p k h) → nonce_of n i ≡ other_of n k → other_of n i ≡ nonce_of n k
    → Order (derives p i) l.before (derives p k) m.before → nonce_of n i ≡ nonce_of n k
own_crossed d n p i k h s l m one other (Same is at) = let w : i ≡ k = cc is in ap (nonce_of n) w
own_crossed d n p i k h s l m one other (First t) =
    let whole = tail_rest (derives p k) m.before h m.tail in
    sym (kept_nonce d n p i m.before m.legal.alive.part (nonce_of n k) (fresh_end m.before h whole s.fresh) (legal_end d n m.before h whole s.legal) (tail_head (derives p i) l.before m.before t)
    m.legal.alive.awaited m.legal.alive.own other)
own_crossed d n p i k h s l m one other (Second t) =
    let whole = tail_rest (derives p i) l.before h l.tail in
    kept_nonce d n p k l.before l.legal.alive.part (nonce_of n i) (fresh_end l.before h whole s.fresh) (legal_end d n l.before h whole s.legal) (tail_head (derives p k) m.before l.before t)
    l.legal.alive.awaited l.legal.alive.own (sym one)

own_by : (d : Domain) (n p : Node) (i k : Inputs) (h : List Act) → Sole d n h → (l : Made d n p i h) → (m : Made d n p k h) → Crossed (nonce_of n i) (other_of n i) (nonce_of n k) (other_of n k) → nonce_of n i ≡ nonce_of n k
own_by d n p i k h s l m (inl straight) = straight.0
own_by d n p i k h s l m (inr crossed) = own_crossed d n p i k h s l m crossed.0 crossed.1 (order (derives p i) l.before (derives p k) m.before h l.tail m.tail)

-- derivations with equal temporal keys
pub one_tk : (d : Domain) (n p q : Node) (i k : Inputs) (h : List Act) → Sole d n h → In (derives p i) h → In (derives q k) h → (ptk i).tk ≡ (ptk k).tk → OneKey n p q i k
one_tk d n p q i k h s ours theirs same =
    let l = made d n p i h s.legal ours in
    let m = made d n q k h s.legal theirs in
    let is = named d i k l.legal.common m.legal.common (s.apart.by_tk p q i k (ptk i) (ptk k) ours theirs same) in
    let peer = peer_by d n p q i k l.before m.before s.names l.legal m.legal (addresses_of n i k is.addresses) in
    record {
      peer = peer;
      own = own_by d n p i k h s l (subst (λ (x : Node). Made d n x k h) (sym peer) m) (nonces_of n i k is.nonces);
    }
