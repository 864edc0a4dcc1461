-- Where an act of a node stands in a journal, and who drew and derived what.
use Rattle.std.proofs.Common.{ℕ, ◌≡◌, inl, inr, Bool, true, false, not, cond, List, [], ◌∷◌, Some, refl, sym, ap, ◌∙◌, subst}
use Rattle.domain_base.specs.declared.names.Node.{Node}
use Rattle.key_hierarchy.specs.Keys.{ptk}
use Rattle.key_hierarchy.specs.declared.inputs.Inputs.{Inputs}
use Rattle.key_hierarchy.specs.declared.inputs.Ptk.{Ptk}
use Rattle.run_journal.specs.declared.domain.Domain.{Domain}
use Rattle.run_journal.specs.declared.acts.Drawn.TheVariants.{Nonce}
use Rattle.run_journal.specs.declared.acts.Act.{Act}
use Rattle.run_journal.specs.declared.acts.Act.TheVariants.{Drew}
use Rattle.run_journal.specs.declared.acts.Entry.{Entry}
use Rattle.run_journal.specs.Acts.{same}
use Rattle.run_journal.specs.Questions.{history}
use Rattle.run_journal.specs.Premises.{In, drawn, Fresh, HasDerived, NoCollision, Unforged}
use Rattle.domain_rules.specs.Network.{mac, is_ap, IsNamed}
use Rattle.run_journal.specs.Events.{IsListed}
use Rattle.domain_rules.proofs.Parts.{same-true, same-refl}
use Rattle.journal_safety.proofs.Ends.{Tail, tail_rest, tail_trans, tail_in, tail_head}
use Rattle.journal_safety.proofs.Legal.{nonce_of, own_address, peer_address, derives, AreCommon, LegalDerived, Legal}
use Rattle.journal_safety.proofs.Histories.{alive_drew}
use Rattle.journal_safety.proofs.Runs.{LegalJournal}

-- a journal of legal acts that meets the premises, of named nodes
pub record Good (d : Domain) (past : List Entry) : Type 0 where
  pub names : IsNamed d
  pub legal : LegalJournal d past
  pub fresh : Fresh past
  pub apart : NoCollision past
  pub unforged : Unforged past

legal_tail : (d : Domain) (a b : List Entry) → Tail a b → LegalJournal d b → LegalJournal d a
legal_tail d a [] t j = subst (λ (x : List Entry). LegalJournal d x) (sym t) j
legal_tail d a (l ∷ b) (inl is) j = subst (λ (x : List Entry). LegalJournal d x) (sym is) j
legal_tail d a (l ∷ b) (inr t) j = legal_tail d a b t j.2

pub fresh_tail : (a b : List Entry) → Tail a b → Fresh b → Fresh a
fresh_tail a [] t j = subst (λ (x : List Entry). Fresh x) (sym t) j
fresh_tail a (l ∷ b) (inl is) j = subst (λ (x : List Entry). Fresh x) (sym is) j
fresh_tail a (l ∷ b) (inr t) j = fresh_tail a b t j.1

unforged_tail : (a b : List Entry) → Tail a b → Unforged b → Unforged a
unforged_tail a [] t j = subst (λ (x : List Entry). Unforged x) (sym t) j
unforged_tail a (l ∷ b) (inl is) j = subst (λ (x : List Entry). Unforged x) (sym is) j
unforged_tail a (l ∷ b) (inr t) j = unforged_tail a b t j.1

has_wider : (a b : List Entry) (i : Inputs) (k : Ptk) → Tail a b → HasDerived a i k → HasDerived b i k
has_wider a b i k t (e, (there, is)) = (e, (tail_in a b e t there, is))

pub good_tail : (d : Domain) (a b : List Entry) → Tail a b → Good d b → Good d a
good_tail d a b t g = record {
  names = g.names;
  legal = legal_tail d a b t g.legal;
  fresh = fresh_tail a b t g.fresh;
  apart = record {
    by_kck = λ i m k l x y. g.apart.by_kck i m k l (has_wider a b i k t x) (has_wider a b m l t y);
    by_tk = λ i m k l x y. g.apart.by_tk i m k l (has_wider a b i k t x) (has_wider a b m l t y);
    no_group_key = λ which i k e x there. g.apart.no_group_key which i k e (has_wider a b i k t x) (tail_in a b e t there);
  };
  unforged = unforged_tail a b t g.unforged;
}

-- ---- the act was added to the journal by that node at that place

pub record At (n : Node) (e : Act) (past : List Entry) : Type 0 where
  pub entry : Entry
  pub earlier : List Entry
  pub tail : Tail (entry ∷ earlier) past
  pub at : entry.node ≡ n
  pub is : entry.act ≡ e

at_by : (n : Node) (e : Act) (l : Entry) (past : List Entry) → (In e (history n past) → At n e past) → (b : Bool) → same n l.node ≡ b → In e (cond b (l.act ∷ history n past) (history n past)) → At n e (l ∷ past)
at_by n e l past more true is (inl here) = record { entry = l; earlier = past; tail = inl refl; at = sym (same-true n l.node is); is = sym here }
at_by n e l past more true is (inr later) = let m = more later in record { entry = m.entry; earlier = m.earlier; tail = inr m.tail; at = m.at; is = m.is }
at_by n e l past more false is there = let m = more there in record { entry = m.entry; earlier = m.earlier; tail = inr m.tail; at = m.at; is = m.is }

pub at_of : (n : Node) (e : Act) (past : List Entry) → In e (history n past) → At n e past
at_of n e [] there = absurd there
at_of n e (l ∷ past) there = at_by n e l past (at_of n e past) (same n l.node) refl there

pub at_wider : (n : Node) (e : Act) (a b : List Entry) → Tail a b → At n e a → At n e b
at_wider n e a b t w = record { entry = w.entry; earlier = w.earlier; tail = tail_trans (w.entry ∷ w.earlier) a b w.tail t; at = w.at; is = w.is }

in_history_by : (n : Node) (e : Act) (x : Entry) (past : List Entry) → (In e (history n past)) → (b : Bool) → In e (cond b (x.act ∷ history n past) (history n past))
in_history_by n e x past there true = inr there
in_history_by n e x past there false = there

pub in_history : (l : Entry) (past : List Entry) → In l past → In l.act (history l.node past)
in_history l [] there = absurd there
in_history l (x ∷ past) (inl here) = subst (λ (y : Entry). In l.act (history l.node (y ∷ past))) here (rw same-refl (inl refl))
in_history l (x ∷ past) (inr later) = in_history_by l.node l.act x past (in_history l past later) (same l.node x.node)

-- what was so when the act was added
pub legal_at : (d : Domain) (n : Node) (e : Act) (past : List Entry) → LegalJournal d past → (w : At n e past) → Legal d n (history n w.earlier) e
legal_at d n e past j w =
    let was = legal_tail d (w.entry ∷ w.earlier) past w.tail j in
    subst (λ (x : Node). Legal d x (history x w.earlier) e) w.at (subst (λ (x : Act). Legal d w.entry.node (history w.entry.node w.earlier) x) w.is was.0)

pub earlier_tail : (n : Node) (e : Act) (past : List Entry) → (w : At n e past) → Tail w.earlier past
earlier_tail n e past w = tail_rest w.entry w.earlier past w.tail

pub entry_in : (n : Node) (e : Act) (past : List Entry) → (w : At n e past) → In w.entry past
entry_in n e past w = tail_head w.entry w.earlier past w.tail

-- ---- a value was drawn by that node

pub record Draws (n : Node) (v : List ℕ) (past : List Entry) : Type 0 where
  pub x : Act
  pub is : drawn x ≡ Some v
  pub at : At n x past

pub draws_wider : (n : Node) (v : List ℕ) (a b : List Entry) → Tail a b → Draws n v a → Draws n v b
draws_wider n v a b t w = record { x = w.x; is = w.is; at = at_wider n w.x a b t w.at }

-- at the same place
pub wider_place : (n : Node) (v : List ℕ) (a b : List Entry) (t : Tail a b) (w : Draws n v a) → w.at.earlier ≡ (draws_wider n v a b t w).at.earlier
unfolding draws_wider at_wider
wider_place n v a b t w = refl

drawn_once : (v : List ℕ) (l m : Entry) (past : List Entry) → Fresh past → In l past → In m past → drawn l.act ≡ Some v → drawn m.act ≡ Some v → l ≡ m
drawn_once v l m [] f a b e g = absurd a
drawn_once v l m (x ∷ past) f (inl a) (inl b) e g = a ∙ sym b
drawn_once v l m (x ∷ past) f (inl a) (inr b) e g = absurd (f.0 v m (ap (λ (y : Entry). drawn y.act) (sym a) ∙ e) b g)
drawn_once v l m (x ∷ past) f (inr a) (inl b) e g = absurd (f.0 v l (ap (λ (y : Entry). drawn y.act) (sym b) ∙ g) a e)
drawn_once v l m (x ∷ past) f (inr a) (inr b) e g = drawn_once v l m past f.1 a b e g

draws_entry : (n : Node) (v : List ℕ) (past : List Entry) → (w : Draws n v past) → drawn w.at.entry.act ≡ Some v
draws_entry n v past w = ap drawn w.at.is ∙ w.is

-- one value, one node
pub one_drawer : (n m : Node) (v : List ℕ) (past : List Entry) → Fresh past → Draws n v past → Draws m v past → n ≡ m
one_drawer n m v past f a b =
    let one : a.at.entry ≡ b.at.entry = drawn_once v a.at.entry b.at.entry past f (entry_in n a.x past a.at) (entry_in m b.x past b.at) (draws_entry n v past a) (draws_entry m v past b) in
    sym a.at.at ∙ ap (λ (x : Entry). x.node) one ∙ b.at.at

pub not_itself : (b : Bool) → b ≡ not b → ⊥
not_itself true q = cc
not_itself false q = cc

pub apart_draws : (n m : Node) (v w : List ℕ) (past : List Entry) → Fresh past → is_ap m ≡ not (is_ap n) → Draws n v past → Draws m w past → v ≡ w → ⊥
apart_draws n m v w past f roles a b e =
    let nodes : n ≡ m = one_drawer n m v past f a (subst (λ (x : List ℕ). Draws m x past) (sym e) b) in
    not_itself (is_ap n) (ap is_ap nodes ∙ roles)

pub draws_of : (n : Node) (x : Act) (v : List ℕ) (past : List Entry) → drawn x ≡ Some v → In x (history n past) → Draws n v past
draws_of n x v past is there = record { x = x; is = is; at = at_of n x past there }

-- ---- what a derivation in the journal says

pub record DerivedAt (d : Domain) (n p : Node) (i : Inputs) (past : List Entry) : Type 0 where
  pub at : At n (derives p i) past
  pub roles : is_ap p ≡ not (is_ap n)
  pub listed : IsListed d n
  pub peer_listed : IsListed d p
  pub address : own_address n i ≡ mac d n
  pub peer : peer_address n i ≡ mac d p
  pub common : AreCommon d i
  pub draw : Draws n (nonce_of n i) past

pub derived_at : (d : Domain) (n p : Node) (i : Inputs) (past : List Entry) → LegalJournal d past → In (derives p i) (history n past) → DerivedAt d n p i past
derived_at d n p i past j there =
    let w = at_of n (derives p i) past there in
    let legal : LegalDerived d n (history n w.earlier) p i (ptk i) = legal_at d n (derives p i) past j w in
    let drew : Draws n (nonce_of n i) w.earlier = draws_of n (Drew (Nonce (nonce_of n i))) (nonce_of n i) w.earlier refl (alive_drew n p i (history n w.earlier) legal.alive) in
    record {
      at = w;
      roles = legal.roles;
      listed = legal.listed;
      peer_listed = legal.peer_listed;
      address = legal.address;
      peer = legal.peer;
      common = legal.common;
      draw = draws_wider n (nonce_of n i) w.earlier past (earlier_tail n (derives p i) past w) drew;
    }

pub derived_wider : (d : Domain) (n p : Node) (i : Inputs) (a b : List Entry) → Tail a b → DerivedAt d n p i a → DerivedAt d n p i b
derived_wider d n p i a b t w = record {
  at = at_wider n (derives p i) a b t w.at;
  roles = w.roles;
  listed = w.listed;
  peer_listed = w.peer_listed;
  address = w.address;
  peer = w.peer;
  common = w.common;
  draw = draws_wider n (nonce_of n i) a b t w.draw;
}

pub has_derived : (d : Domain) (n p : Node) (i : Inputs) (past : List Entry) → DerivedAt d n p i past → HasDerived past i (ptk i)
has_derived d n p i past w = (w.at.entry, (entry_in n (derives p i) past w.at, (p, w.at.is)))
