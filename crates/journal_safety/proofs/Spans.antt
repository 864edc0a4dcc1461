-- What stays so within an attempt, from the draw of its nonce on, and within a session.
use Rattle.std.proofs.Common.{ℕ, suc, ◌≡◌, ◌≤◌, inl, inr, ⊎_elim, Bool, true, false, cond, List, [], ◌∷◌, length, Option, Some, None, refl, sym, ap, ◌∙◌, subst, arith}
use Rattle.domain_base.specs.declared.names.Node.{Node}
use Rattle.eapol_key.specs.declared.messages.Message.TheVariants.{M3}
use Rattle.key_hierarchy.specs.declared.inputs.Inputs.{Inputs}
use Rattle.run_journal.specs.declared.domain.Domain.{Domain}
use Rattle.run_journal.specs.declared.acts.Start.{Start}
use Rattle.run_journal.specs.declared.acts.Start.TheVariants.{Connect, Roam, Renew}
use Rattle.run_journal.specs.declared.acts.Kind.TheVariants as kind
use Rattle.run_journal.specs.declared.acts.Act.{Act}
use Rattle.run_journal.specs.declared.acts.Act.TheVariants.{Opened, Finished}
use Rattle.run_journal.specs.declared.acts.Entry.{Entry}
use Rattle.run_journal.specs.Acts.{same, opens, begins, ends, finishes, closes, nonce_drawn, derived, Derivation}
use Rattle.run_journal.specs.Questions.{history, or_else, attempt, since, chain, own_nonce, derivation, session, before_sent}
use Rattle.run_journal.specs.Premises.{In, drawn}
use Rattle.domain_rules.specs.Network.{is_ap}
use Rattle.domain_rules.specs.Frames.{keyed_by}
use Rattle.domain_rules.specs.Asking.{in_renewal}
use Rattle.domain_rules.specs.Counters.{first_in_session, takes_counter, next_in_session}
use Rattle.domain_rules.proofs.Parts.{same-true, Grows, Begins, Goes_on, grows, since_part, attempt_more}
use Rattle.domain_rules.proofs.Derivations.{derived-is}
use Rattle.journal_safety.proofs.Ends.{Tail, tail_refl, tail_rest, tail_trans, tail_in}
use Rattle.journal_safety.proofs.Legal.{nonce_of, LegalDerived, LegalFinished, LegalOpened, Legal, LegalHistory}
use Rattle.journal_safety.proofs.Histories.{opens-undrawn, nonce_drawn-is}
use Rattle.journal_safety.proofs.Sessions.{session_older, finished_of, sole, renewal_more}
use Rattle.journal_safety.proofs.Places.{Good, good_tail, At}
use Rattle.journal_safety.proofs.Pairwise.{FreshHistory, alive_over}

-- ---- an attempt, after its nonce was drawn

-- a value was drawn, as a nonce or as a group key
abbrev pub DrawnIn : List ℕ → List Act → Type 0
DrawnIn v h = (x : Act) × ((drawn x ≡ Some v) × In x h)

drawn_tail : (v : List ℕ) (a b : List Act) → Tail a b → DrawnIn v a → DrawnIn v b
drawn_tail v a b t w = (w.0, (w.1.0, tail_in a b w.0 t w.1.1))

-- it went on by this act
record WentOn (p : Node) (v : List ℕ) (e : Act) (h part : List Act) : Type 0 where
  old : List Act
  opens_none : opens p e ≡ false
  ends_none : ends p e ≡ false
  awaited : attempt p h ≡ Some old
  own : own_nonce old ≡ Some v
  is : part ≡ e ∷ old

went_nonce : (v : List ℕ) (e : Act) (h old : List Act) → FreshHistory (e ∷ h) → DrawnIn v h → (o : Option (List ℕ)) → own_nonce old ≡ o → or_else o (nonce_drawn e) ≡ Some v → own_nonce old ≡ Some v
went_nonce v e h old f w None is s = absurd (f.0 v w.0 (ap drawn (nonce_drawn-is e v s)) w.1.1 w.1.0)
went_nonce v e h old f w (Some u) is s = is ∙ s

went_by : (p : Node) (v : List ℕ) (e : Act) (h part : List Act) → FreshHistory (e ∷ h) → Grows p e h part → own_nonce part ≡ Some v → DrawnIn v h → WentOn p v e h part
went_by p v e h part f (Begins o is) s w =
    let alone : own_nonce (e ∷ []) ≡ Some v = subst (λ (y : List Act). own_nonce y ≡ Some v) is s in
    let none : nonce_drawn e ≡ None = opens-undrawn p e o in
    let c : None ≡ Some v = rw none at alone in absurd (cc c)
went_by p v e h part f (Goes_on old o goes a is) s w =
    record { old = old; opens_none = o; ends_none = goes; awaited = a; own = went_nonce v e h old f w (own_nonce old) refl (subst (λ (y : List Act). own_nonce y ≡ Some v) is s); is = is }

went_on : (p : Node) (v : List ℕ) (e : Act) (h part : List Act) → FreshHistory (e ∷ h) → attempt p (e ∷ h) ≡ Some part → own_nonce part ≡ Some v → DrawnIn v h → WentOn p v e h part
went_on p v e h part f a s w = went_by p v e h part f (grows p e h part a) s w

head_in : (p : Node) (e : Act) (h part : List Act) → Grows p e h part → In e part
head_in p e h part (Begins o is) = subst (λ (y : List Act). In e y) (sym is) (inl refl)
head_in p e h part (Goes_on old o goes a is) = subst (λ (y : List Act). In e y) (sym is) (inl refl)

-- what came after the nonce stands in the attempt
pub in_after : (p : Node) (v : List ℕ) (x : Act) (a h part : List Act) → FreshHistory h → Tail (x ∷ a) h → attempt p h ≡ Some part → own_nonce part ≡ Some v → DrawnIn v a → In x part
in_after p v x a [] part f t w s d = cc t
in_after p v x a (e ∷ h) part f (inl is) w s d = let one : x ≡ e = cc is in subst (λ (y : Act). In y part) (sym one) (head_in p e h part (grows p e h part w))
in_after p v x a (e ∷ h) part f (inr t) w s d =
    let g = went_on p v e h part f w s (drawn_tail v a h (tail_rest x a h t) d) in
    subst (λ (y : List Act). In x y) (sym g.is) (inr (in_after p v x a h g.old f.1 t g.awaited g.own d))

-- what stood in it stays
pub since_kept : (p : Node) (v : List ℕ) (y : Act) (a h part : List Act) → FreshHistory h → Tail a h → attempt p h ≡ Some part → own_nonce part ≡ Some v → DrawnIn v a → In y (since p a) → In y part
since_kept p v y a [] part f t w s d there = cc w
since_kept p v y a (e ∷ h) part f (inl is) w s d there = subst (λ (x : List Act). In y x) (since_part p (e ∷ h) part w) (subst (λ (x : List Act). In y (since p x)) is there)
since_kept p v y a (e ∷ h) part f (inr t) w s d there =
    let g = went_on p v e h part f w s (drawn_tail v a h t d) in
    subst (λ (x : List Act). In y x) (sym g.is) (inr (since_kept p v y a h g.old f.1 t g.awaited g.own d there))

-- how it began stays
pub renewal_kept : (p : Node) (v : List ℕ) (a h part : List Act) → FreshHistory h → Tail a h → attempt p h ≡ Some part → own_nonce part ≡ Some v → DrawnIn v a → in_renewal (attempt p a) ≡ in_renewal (attempt p h)
renewal_kept p v a [] part f t w s d = cc w
renewal_kept p v a (e ∷ h) part f (inl is) w s d = ap (λ (x : List Act). in_renewal (attempt p x)) is
renewal_kept p v a (e ∷ h) part f (inr t) w s d =
    let g = went_on p v e h part f w s (drawn_tail v a h t d) in
    let more : in_renewal (attempt p (e ∷ h)) ≡ in_renewal (attempt p h) = ap in_renewal (attempt_more p e h g.old g.opens_none g.ends_none g.awaited) ∙ renewal_more p e h g.old g.awaited ∙ sym (ap in_renewal g.awaited) in
    renewal_kept p v a h g.old f.1 t g.awaited g.own d ∙ sym more

-- ---- the chain of attempts and sessions

-- what stood in it stays, as long as none begins anew
chain_by : (p : Node) (e y : Act) (h : List Act) → In y (chain p h) → (b : Bool) → begins p e ≡ b → b ≡ false → In y (cond b (e ∷ []) (e ∷ chain p h))
chain_by p e y h there true is none = cc none
chain_by p e y h there false is none = inr there

pub chain_more : (p : Node) (e y : Act) (h : List Act) → begins p e ≡ false → In y (chain p h) → In y (chain p (e ∷ h))
chain_more p e y h none there = chain_by p e y h there (begins p e) refl none

-- what begins a chain opens an attempt
begins_opens : (p : Node) (e : Act) → opens p e ≡ false → begins p e ≡ false
begins_opens p (Opened q Connect) o = o
begins_opens p (Opened q Roam) o = o
begins_opens p (Opened q Renew) o = refl
begins_opens p _ o = refl

since_chain_by : (p : Node) (y e : Act) (h : List Act) → (In y (since p h) → In y (chain p h)) → (b : Bool) → opens p e ≡ b → In y (cond b (e ∷ []) (e ∷ since p h)) → In y (chain p (e ∷ h))
since_chain_by p y e h more true o (inl here) = head (begins p e)
  where
    head : (c : Bool) → In y (cond c (e ∷ []) (e ∷ chain p h))
    head true = inl here
    head false = inl here
since_chain_by p y e h more true o (inr none) = absurd none
since_chain_by p y e h more false o (inl here) = subst (λ (c : Bool). In y (cond c (e ∷ []) (e ∷ chain p h))) (sym (begins_opens p e o)) (inl here)
since_chain_by p y e h more false o (inr later) = chain_more p e y h (begins_opens p e o) (more later)

-- what stands in the attempt stands in its chain
pub since_chain : (p : Node) (y : Act) (h : List Act) → In y (since p h) → In y (chain p h)
since_chain p y [] there = there
since_chain p y (e ∷ h) there = since_chain_by p y e h (since_chain p y h) (opens p e) refl there

-- what stood in the chain as the attempt went on
pub chain_alive : (p : Node) (v : List ℕ) (y : Act) (a h part : List Act) → FreshHistory h → Tail a h → attempt p h ≡ Some part → own_nonce part ≡ Some v → DrawnIn v a → In y (chain p a) → In y (chain p h)
chain_alive p v y a [] part f t w s d there = cc w
chain_alive p v y a (e ∷ h) part f (inl is) w s d there = subst (λ (x : List Act). In y (chain p x)) is there
chain_alive p v y a (e ∷ h) part f (inr t) w s d there =
    let g = went_on p v e h part f w s (drawn_tail v a h t d) in
    chain_more p e y h (begins_opens p e g.opens_none) (chain_alive p v y a h g.old f.1 t g.awaited g.own d there)

-- a station's chain goes on through a session
not_renewed : (p : Node) (e : Act) → begins p e ≡ true → (s : Start) × ((e ≡ Opened p s) × (s ≡ Renew → ⊥))
not_renewed p (Opened q Connect) o = (Connect, (ap (λ (x : Node). Opened x Connect) (sym (same-true p q o)), λ is. cc is))
not_renewed p (Opened q Roam) o = (Roam, (ap (λ (x : Node). Opened x Roam) (sym (same-true p q o)), λ is. cc is))
not_renewed p (Opened q Renew) o = absurd (cc o)
not_renewed p _ o = absurd (cc o)

not_begun : (d : Domain) (n p : Node) (x : Derivation) (e : Act) (h : List Act) → is_ap n ≡ false → LegalHistory d n (e ∷ h) → session p h ≡ Some x → (b : Bool) → begins p e ≡ b → begins p e ≡ false
not_begun d n p x e h station legal s true o =
    let w = not_renewed p e o in
    let l : LegalOpened d n h p w.0 = subst (λ (y : Act). Legal d n h y) w.1.0 legal.0 in
    absurd (l.alone w.1.1 station (sole d n p h x station legal.1 s))
not_begun d n p x e h station legal s false o = o

held_by : (d : Domain) (n p : Node) (i : Inputs) (y e : Act) (a h : List Act) → is_ap n ≡ false → LegalHistory d n (e ∷ h) → FreshHistory h → Tail a h → DrawnIn (nonce_of n i) a → (session p h ≡ Some (keyed_by i) → In y (chain p h)) → (b : Bool) → finishes p e ≡ b
    → cond b (derivation p h) (cond (closes p e) None (session p h)) ≡ Some (keyed_by i) → In y (chain p a) → In y (chain p (e ∷ h))
held_by d n p i y e a h station legal f t dr more false is s there =
    let old = session_older p h (keyed_by i) (closes p e) s in
    chain_more p e y h (not_begun d n p (keyed_by i) e h station legal old (begins p e) refl) (more old)
held_by d n p i y e a h station legal f t dr more true is s there =
    let fin : e ≡ Finished p i = finished_of d n p e h (keyed_by i) legal.0 is s in
    let l : LegalFinished d n h p i = subst (λ (z : Act). Legal d n h z) fin legal.0 in
    chain_more p e y h (subst (λ (z : Act). begins p z ≡ false) (sym fin) refl) (chain_alive p (nonce_of n i) y a h l.alive.part f t l.alive.awaited l.alive.own dr there)

pub chain_session : (d : Domain) (n p : Node) (i : Inputs) (y : Act) (a h : List Act) → is_ap n ≡ false → LegalHistory d n h → FreshHistory h → Tail a h → session p h ≡ Some (keyed_by i) → DrawnIn (nonce_of n i) a → In y (chain p a) → In y (chain p h)
chain_session d n p i y a [] station legal f t s dr there = cc s
chain_session d n p i y a (e ∷ h) station legal f (inl is) s dr there = subst (λ (x : List Act). In y (chain p x)) is there
chain_session d n p i y a (e ∷ h) station legal f (inr t) s dr there =
    held_by d n p i y e a h station legal f.1 t dr (λ old. chain_session d n p i y a h station legal.1 f.1 t old dr there) (finishes p e) refl s there

-- ---- after an M3 of an access point the key of its attempt stays

pub record Settles (p : Node) (h part : List Act) (i : Inputs) : Type 0 where
  pub past : List Act
  pub sent_m3 : before_sent p (kind.Key M3) h ≡ Some past
  pub last : derivation p part ≡ Some (keyed_by i)

stays_key : (d : Domain) (n p : Node) (e : Act) (h old : List Act) (i : Inputs) (past : List Act) → is_ap n ≡ true → Legal d n h e → before_sent p (kind.Key M3) h ≡ Some past → derivation p old ≡ Some (keyed_by i) → (o : Option Derivation) → derived p e ≡ o → derivation p (e ∷ old) ≡ Some (keyed_by i)
stays_key d n p e h old i past role legal m s None is = rw is s
stays_key d n p e h old i past role legal m s (Some x) is =
    let l : LegalDerived d n h p x.inputs x.ptk = subst (λ (y : Act). Legal d n h y) (derived-is p e x is) legal in
    let none : before_sent p (kind.Key M3) h ≡ None = l.no_m3 role in absurd (cc (none, m))

stays_m3 : (p : Node) (e : Act) (h past : List Act) → opens p e ≡ false → before_sent p (kind.Key M3) h ≡ Some past → before_sent p (kind.Key M3) (e ∷ h) ≡ Some past
stays_m3 p e h past o s = rw (o, s) refl

pub settles : (d : Domain) (n p : Node) (v : List ℕ) (a h part old : List Act) (i : Inputs) (past : List Act) → is_ap n ≡ true → LegalHistory d n h → FreshHistory h → Tail a h → attempt p h ≡ Some part → own_nonce part ≡ Some v → DrawnIn v a
    → attempt p a ≡ Some old → before_sent p (kind.Key M3) a ≡ Some past → derivation p old ≡ Some (keyed_by i) → Settles p h part i
settles d n p v a [] part old i past role legal f t w s dr b m c = cc w
settles d n p v a (e ∷ h) part old i past role legal f (inl is) w s dr b m c =
    let was : attempt p (e ∷ h) ≡ Some old = subst (λ (y : List Act). attempt p y ≡ Some old) is b in
    let one : old ≡ part = cc (was, w) in
    record { past = past; sent_m3 = subst (λ (y : List Act). before_sent p (kind.Key M3) y ≡ Some past) is m; last = subst (λ (y : List Act). derivation p y ≡ Some (keyed_by i)) one c }
settles d n p v a (e ∷ h) part old i past role legal f (inr t) w s dr b m c =
    let g = went_on p v e h part f w s (drawn_tail v a h t dr) in
    let r = settles d n p v a h g.old old i past role legal.1 f.1 t g.awaited g.own dr b m c in
    record {
      past = r.past;
      sent_m3 = stays_m3 p e h r.past g.opens_none r.sent_m3;
      last = subst (λ (y : List Act). derivation p y ≡ Some (keyed_by i)) (sym g.is) (stays_key d n p e h g.old i r.past role legal.0 r.sent_m3 r.last (derived p e) refl);
    }

-- ---- where a session began, and that it stayed

tail_length : {A : Type 0} → (a b : List A) → Tail a b → length a ≤ length b
tail_length a [] t = subst (λ x. length x ≤ 0) (sym t) (omega arith)
tail_length a (x ∷ b) (inl is) = subst (λ y. length y ≤ length (x ∷ b)) (sym is) (omega arith)
tail_length a (x ∷ b) (inr t) = let w = tail_length a b t in omega (arith, w)

pub tail_self : {A : Type 0} → (x : A) (a : List A) → Tail (x ∷ a) a → ⊥
tail_self x a t = let w = tail_length (x ∷ a) a t in omega (arith, w)

pub record SessionFrom (n p : Node) (i : Inputs) (past : List Entry) : Type 0 where
  pub at : At n (Finished p i) past
  pub between : (x : List Entry) → Tail (at.entry ∷ at.earlier) x → Tail x past → session p (history n x) ≡ Some (keyed_by i)

from_more : (n p : Node) (i : Inputs) (l : Entry) (past : List Entry) → session p (history n (l ∷ past)) ≡ Some (keyed_by i) → SessionFrom n p i past → SessionFrom n p i (l ∷ past)
from_more n p i l past whole w = record {
  at = record { entry = w.at.entry; earlier = w.at.earlier; tail = inr w.at.tail; at = w.at.at; is = w.at.is };
  between = λ x t u. ⊎_elim (λ (here : x ≡ l ∷ past). subst (λ (y : List Entry). session p (history n y) ≡ Some (keyed_by i)) (sym here) whole) (λ later. w.between x t later) u;
}

from_at : (d : Domain) (n p : Node) (i : Inputs) (l : Entry) (past : List Entry) → Good d (l ∷ past) → l.node ≡ n → session p (history n (l ∷ past)) ≡ Some (keyed_by i) → (session p (history n past) ≡ Some (keyed_by i) → SessionFrom n p i past) → (b : Bool) → finishes p l.act ≡ b
    → cond b (derivation p (history n past)) (cond (closes p l.act) None (session p (history n past))) ≡ Some (keyed_by i) → SessionFrom n p i (l ∷ past)
from_at d n p i l past g at whole more false is s = from_more n p i l past whole (more (session_older p (history n past) (keyed_by i) (closes p l.act) s))
from_at d n p i l past g at whole more true is s =
    let legal : Legal d n (history n past) l.act = subst (λ (x : Node). Legal d x (history x past) l.act) at g.legal.0 in
    record {
      at = record { entry = l; earlier = past; tail = inl refl; at = at; is = finished_of d n p l.act (history n past) (keyed_by i) legal is s };
      between = λ x t u. ⊎_elim (λ (here : x ≡ l ∷ past). subst (λ (y : List Entry). session p (history n y) ≡ Some (keyed_by i)) (sym here) whole) (λ (later : Tail x past). absurd (tail_self l past (tail_trans (l ∷ past) x past t later))) u;
    }

from_by : (d : Domain) (n p : Node) (i : Inputs) (l : Entry) (past : List Entry) → Good d (l ∷ past) → (session p (history n past) ≡ Some (keyed_by i) → SessionFrom n p i past) → (b : Bool) → same n l.node ≡ b → session p (history n (l ∷ past)) ≡ Some (keyed_by i)
    → session p (cond b (l.act ∷ history n past) (history n past)) ≡ Some (keyed_by i) → SessionFrom n p i (l ∷ past)
from_by d n p i l past g more true is whole s = from_at d n p i l past g (sym (same-true n l.node is)) whole more (finishes p l.act) refl s
from_by d n p i l past g more false is whole s = from_more n p i l past whole (more s)

pub session_from : (d : Domain) (n p : Node) (i : Inputs) (past : List Entry) → Good d past → session p (history n past) ≡ Some (keyed_by i) → SessionFrom n p i past
session_from d n p i [] g s = cc s
session_from d n p i (l ∷ past) g s = from_by d n p i l past g (session_from d n p i past (good_tail d past (l ∷ past) (inr (tail_refl past)) g)) (same n l.node) refl s s

-- ---- the counters of a session do not fall

no_less : (x y : ℕ) (b : Bool) → x ≤ y → x ≤ cond b (suc y) y
no_less x y true le = omega (arith, le)
no_less x y false le = le

rises_by : (d : Domain) (n s : Node) (i : Inputs) (a : List Act) (e : Act) (h : List Act) → LegalHistory d n (e ∷ h) → FreshHistory (e ∷ h) → In (Finished s i) h → (session s h ≡ Some (keyed_by i) → next_in_session s a ≤ next_in_session s h) → (b : Bool) → finishes s e ≡ b
    → cond b (derivation s h) (cond (closes s e) None (session s h)) ≡ Some (keyed_by i)
    → next_in_session s a ≤ cond b (cond (in_renewal (attempt s h)) (next_in_session s h) (first_in_session s (attempt s h))) (cond (takes_counter s (in_renewal (attempt s h)) e) (suc (next_in_session s h)) (next_in_session s h))
rises_by d n s i a e h legal fresh there more false is w =
    no_less (next_in_session s a) (next_in_session s h) (takes_counter s (in_renewal (attempt s h)) e) (more (session_older s h (keyed_by i) (closes s e) w))
rises_by d n s i a e h legal fresh there more true is w =
    let l : LegalFinished d n h s i = subst (λ (y : Act). Legal d n h y) (finished_of d n s e h (keyed_by i) legal.0 is w) legal.0 in
    absurd (alive_over d n s i h legal.1 fresh.1 l.alive there)

pub rises : (d : Domain) (n s : Node) (i : Inputs) (a h : List Act) → LegalHistory d n h → FreshHistory h → Tail a h → In (Finished s i) a → session s h ≡ Some (keyed_by i) → next_in_session s a ≤ next_in_session s h
rises d n s i a [] legal fresh t there w = cc w
rises d n s i a (e ∷ h) legal fresh (inl is) there w = subst (λ (y : List Act). next_in_session s a ≤ next_in_session s y) is (omega arith)
rises d n s i a (e ∷ h) legal fresh (inr t) there w =
    rises_by d n s i a e h legal fresh (tail_in a h (Finished s i) t there) (λ older. rises d n s i a h legal.1 fresh.1 t there older) (finishes s e) refl w
