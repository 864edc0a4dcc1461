-- No pairwise key is installed twice.
use Rattle.std.proofs.Common.{ℕ, ◌≡◌, ◌⊎◌, inl, inr, Bool, true, false, cond, List, [], ◌∷◌, Option, Some, None, refl, sym, ap, ◌∙◌, subst}
use Rattle.domain_base.specs.declared.names.Node.{Node}
use Rattle.domain_base.specs.declared.names.Peer.TheVariants.{One}
use Rattle.key_hierarchy.specs.Keys.{ptk}
use Rattle.key_hierarchy.specs.declared.inputs.Inputs.{Inputs}
use Rattle.run_journal.specs.declared.domain.Domain.{Domain}
use Rattle.run_journal.specs.declared.acts.Drawn.TheVariants.{Nonce}
use Rattle.run_journal.specs.declared.acts.Key.TheVariants.{Pairwise}
use Rattle.run_journal.specs.declared.acts.Act.{Act}
use Rattle.run_journal.specs.declared.acts.Act.TheVariants.{Drew, Took, Installed, Finished}
use Rattle.run_journal.specs.declared.acts.Entry.{Entry}
use Rattle.run_journal.specs.Acts.{same, opens, ends, nonce_drawn}
use Rattle.run_journal.specs.Questions.{history, or_else, attempt, own_nonce}
use Rattle.run_journal.specs.Premises.{In, drawn, NotDrawn, Fresh}
use Rattle.domain_rules.proofs.Parts.{same-refl, Grows, Begins, Goes_on, grows}
use Rattle.journal_safety.proofs.Ends.{Tail, tail_in, history_tail}
use Rattle.journal_safety.proofs.Legal.{nonce_of, derives, Alive, Verified, gives, seal_under, LegalPairwise, LegalFinished, Legal, LegalHistory}
use Rattle.journal_safety.proofs.Histories.{opens-undrawn, nonce_drawn-is, alive_drew}
use Rattle.journal_safety.proofs.Settled.{same_attempt}
use Rattle.journal_safety.proofs.Runs.{legal_history}
use Rattle.journal_safety.proofs.Places.{Good, at_of, legal_at, earlier_tail, entry_in, DerivedAt, derived_at, has_derived}
use Rattle.journal_safety.proofs.Seals.{named, SameInputs, same_inputs, verified_by, peer_facts}

-- what the node drew is not drawn again
abbrev pub FreshHistory : List Act → Type 0
FreshHistory [] = Unit {0}
FreshHistory (e ∷ h) = ((v : List ℕ) (x : Act) → drawn e ≡ Some v → In x h → drawn x ≡ Some v → ⊥) × FreshHistory h

fresh_now : (n : Node) (l : Entry) (past : List Entry) → NotDrawn l.act past → (v : List ℕ) (x : Act) → drawn l.act ≡ Some v → In x (history n past) → drawn x ≡ Some v → ⊥
fresh_now n l past f v x is there also = let m = at_of n x past there in f v m.entry is (entry_in n x past m) (ap drawn m.is ∙ also)

fresh_by : (n : Node) (l : Entry) (past : List Entry) → NotDrawn l.act past → FreshHistory (history n past) → (b : Bool) → FreshHistory (cond b (l.act ∷ history n past) (history n past))
fresh_by n l past f more true = (fresh_now n l past f, more)
fresh_by n l past f more false = more

pub fresh_history : (n : Node) (past : List Entry) → Fresh past → FreshHistory (history n past)
fresh_history n [] f = tt
fresh_history n (l ∷ past) f = fresh_by n l past f.0 (fresh_history n past f.1) (same n l.node)

-- An act whose own nonce had been drawn when it was added.
abbrev pub HadDrawn : List ℕ → Act → List Act → Type 0
HadDrawn v x [] = Unit {0}
HadDrawn v x (e ∷ h) = (x ≡ e → In (Drew (Nonce v)) h) × HadDrawn v x h

had_drawn : (v : List ℕ) (x : Act) (h : List Act) → HadDrawn v x h → In x h → In (Drew (Nonce v)) h
had_drawn v x [] w there = absurd there
had_drawn v x (e ∷ h) w (inl here) = inr (w.0 here)
had_drawn v x (e ∷ h) w (inr later) = inr (had_drawn v x h w.1 later)

-- such an act stands in the attempt that has the nonce
inside_by : (v : List ℕ) (x e : Act) (h old : List Act) → HadDrawn v x (e ∷ h) → FreshHistory (e ∷ h) → (own_nonce old ≡ Some v → In x h → In x old) → (o : Option (List ℕ)) → own_nonce old ≡ o → or_else o (nonce_drawn e) ≡ Some v → (x ≡ e) ⊎ In x h → In x (e ∷ old)
inside_by v x e h old w f more o was is (inl here) = inl here
inside_by v x e h old w f more None was is (inr later) = absurd (f.0 v (Drew (Nonce v)) (ap drawn (nonce_drawn-is e v is)) (had_drawn v x h w.1 later) refl)
inside_by v x e h old w f more (Some u) was is (inr later) = inr (more (was ∙ is) later)

inside_at : (p : Node) (v : List ℕ) (x e : Act) (h part : List Act) → HadDrawn v x (e ∷ h) → FreshHistory (e ∷ h) → ((old : List Act) → attempt p h ≡ Some old → own_nonce old ≡ Some v → In x h → In x old) → Grows p e h part → own_nonce part ≡ Some v → In x (e ∷ h) → In x part
inside_at p v x e h part w f more (Begins o is) s there =
    let alone : own_nonce (e ∷ []) ≡ Some v = subst (λ (y : List Act). own_nonce y ≡ Some v) is s in
    let none : nonce_drawn e ≡ None = opens-undrawn p e o in
    let w : None ≡ Some v = rw none at alone in cc
inside_at p v x e h part w f more (Goes_on old o goes a is) s there =
    subst (λ (y : List Act). In x y) (sym is) (inside_by v x e h old w f (more old a) (own_nonce old) refl (subst (λ (y : List Act). own_nonce y ≡ Some v) is s) there)

pub inside : (p : Node) (v : List ℕ) (x : Act) (h part : List Act) → HadDrawn v x h → FreshHistory h → attempt p h ≡ Some part → own_nonce part ≡ Some v → In x h → In x part
inside p v x [] part w f a s there = absurd there
inside p v x (e ∷ h) part w f a s there = inside_at p v x e h part w f (λ old was. inside p v x h old w.1 f.1 was) (grows p e h part a) s there

abbrev pub installs : Node → List ℕ → Inputs → Act
installs p tk i = Installed (One p) (Pairwise tk i)

installed_had : (d : Domain) (n p : Node) (tk : List ℕ) (i : Inputs) (h : List Act) → LegalHistory d n h → HadDrawn (nonce_of n i) (installs p tk i) h
installed_had d n p tk i [] legal = tt
installed_had d n p tk i (e ∷ h) legal = ((λ here. let l : LegalPairwise n h p tk i = subst (λ (x : Act). Legal d n h x) (sym here) legal.0 in alive_drew n p i h l.alive), installed_had d n p tk i h legal.1)

finished_had : (d : Domain) (n p : Node) (i : Inputs) (h : List Act) → LegalHistory d n h → HadDrawn (nonce_of n i) (Finished p i) h
finished_had d n p i [] legal = tt
finished_had d n p i (e ∷ h) legal = ((λ here. let l : LegalFinished d n h p i = subst (λ (x : Act). Legal d n h x) (sym here) legal.0 in alive_drew n p i h l.alive), finished_had d n p i h legal.1)

-- an attempt that is not over has no Finished
unfinished_by : (p : Node) (i : Inputs) (e : Act) (h part : List Act) → ((old : List Act) → attempt p h ≡ Some old → In (Finished p i) old → ⊥) → Grows p e h part → In (Finished p i) part → ⊥
unfinished_by p i e h part more (Begins o is) there = go (subst (λ (x : List Act). In (Finished p i) x) is there)
  where
    go : In (Finished p i) (e ∷ []) → ⊥
    go (inl here) = let w : opens p (Finished p i) ≡ true = subst (λ (x : Act). opens p x ≡ true) (sym here) o in cc w
    go (inr none) = none
unfinished_by p i e h part more (Goes_on old o goes a is) there = go (subst (λ (x : List Act). In (Finished p i) x) is there)
  where
    go : In (Finished p i) (e ∷ old) → ⊥
    go (inl here) = let w : ends p (Finished p i) ≡ false = subst (λ (x : Act). ends p x ≡ false) (sym here) goes in let v = same_attempt p in cc (w, v)
    go (inr later) = more old a later

pub unfinished : (p : Node) (i : Inputs) (h part : List Act) → attempt p h ≡ Some part → In (Finished p i) part → ⊥
unfinished p i [] part a there = cc
unfinished p i (e ∷ h) part a there = unfinished_by p i e h part (unfinished p i h) (grows p e h part a) there

-- nothing was finished before from the nonce of an attempt
pub alive_over : (d : Domain) (n p : Node) (i : Inputs) (h : List Act) → LegalHistory d n h → FreshHistory h → Alive n h p i → In (Finished p i) h → ⊥
alive_over d n p i h legal fresh a there = unfinished p i h a.part a.awaited
    (inside p (nonce_of n i) (Finished p i) h a.part (finished_had d n p i h legal) fresh a.awaited a.own there)

-- nor from other inputs with the same nonce
pub alive_other : (d : Domain) (n p : Node) (i k : Inputs) (h : List Act) → LegalHistory d n h → FreshHistory h → Alive n h p i → nonce_of n i ≡ nonce_of n k → In (Finished p k) h → ⊥
alive_other d n p i k h legal fresh a own there = unfinished p k h a.part a.awaited
    (inside p (nonce_of n k) (Finished p k) h a.part (finished_had d n p k h legal) fresh a.awaited (a.own ∙ ap (λ (v : List ℕ). Some v) own) there)

pub verified_wider : (n p : Node) (i : Inputs) (a b : List Entry) → Tail a b → Verified n (history n a) p i → Verified n (history n b) p i
verified_wider n p i a b t v = record {
  derived = tail_in (history n a) (history n b) (derives p i) (history_tail n a b t) v.derived;
  from = v.from;
  octets = v.octets;
  kind = v.kind;
  outcome = v.outcome;
  covered = v.covered;
  took = tail_in (history n a) (history n b) (Took v.from v.octets v.kind v.outcome (Some (seal_under i v.covered))) (history_tail n a b t) v.took;
  form = v.form;
  direction = v.direction;
}

-- verified inputs of one node with equal keys are the same
pub one_kck : (d : Domain) (n p q : Node) (i k : Inputs) (past : List Entry) → Good d past → DerivedAt d n p i past → Verified n (history n past) q k → (ptk i).kck ≡ (ptk k).kck → SameInputs p q i k
one_kck d n p q i k past g ours v e =
    let theirs = derived_at d n q k past g.legal v.derived in
    same_inputs d n p q n i k past g.names g.fresh ours theirs (peer_facts d n q k v.covered past (verified_by d n q k past g v))
    (named d i k ours.common theirs.common (g.apart.by_kck i k (ptk i) (ptk k) (has_derived d n p i past ours) (has_derived d n q k past theirs) e))

pub one_tk : (d : Domain) (n p q : Node) (i k : Inputs) (past : List Entry) → Good d past → DerivedAt d n p i past → Verified n (history n past) q k → (ptk i).tk ≡ (ptk k).tk → SameInputs p q i k
one_tk d n p q i k past g ours v e =
    let theirs = derived_at d n q k past g.legal v.derived in
    same_inputs d n p q n i k past g.names g.fresh ours theirs (peer_facts d n q k v.covered past (verified_by d n q k past g v))
    (named d i k ours.common theirs.common (g.apart.by_tk i k (ptk i) (ptk k) (has_derived d n p i past ours) (has_derived d n q k past theirs) e))

-- a pairwise key that may be installed was not installed
pub pairwise_once : (d : Domain) (n p q : Node) (tk : List ℕ) (i k : Inputs) (past : List Entry) → Good d past → LegalPairwise n (history n past) p tk i → In (installs q tk k) (history n past) → ⊥
pairwise_once d n p q tk i k past g new there =
    let w = at_of n (installs q tk k) past there in
    let old : LegalPairwise n (history n w.earlier) q tk k = legal_at d n (installs q tk k) past g.legal w in
    let v = verified_wider n q k w.earlier past (earlier_tail n (installs q tk k) past w) old.verified in
    let ours = derived_at d n p i past g.legal new.verified.derived in
    let one = one_tk d n p q i k past g ours v (sym new.is ∙ old.is) in
    let here : In (installs p tk i) (history n past) = subst (λ (x : Node). In (installs x tk i) (history n past)) (sym one.peer) (subst (λ (x : Inputs). In (installs q tk x) (history n past)) (sym one.inputs) there) in
    let in_the_part = inside p (nonce_of n i) (installs p tk i) (history n past) new.alive.part (installed_had d n p tk i (history n past) (legal_history d n past g.legal)) (fresh_history n past g.fresh) new.alive.awaited new.alive.own here in
    let free : gives p new.renewal (installs p tk i) ≡ false = new.first (installs p tk i) in_the_part in
    let self : same p p ≡ true = same-refl p in
    cc (free, self)
