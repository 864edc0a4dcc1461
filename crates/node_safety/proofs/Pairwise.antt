-- One node installs no pairwise key twice, whatever its peers are.
use Rattle.std.proofs.Common.{ℕ, ◌≡◌, true, false, List, [], ◌∷◌, Some, sym, ap, ◌∙◌, subst}
use Rattle.domain_base.specs.declared.names.Node.{Node}
use Rattle.key_hierarchy.specs.Keys.{ptk}
use Rattle.key_hierarchy.specs.declared.inputs.Inputs.{Inputs}
use Rattle.run_journal.specs.declared.domain.Domain.{Domain}
use Rattle.run_journal.specs.declared.acts.Act.{Act}
use Rattle.run_journal.specs.declared.acts.Act.TheVariants.{Finished}
use Rattle.run_journal.specs.Acts.{same}
use Rattle.run_journal.specs.Premises.{In}
use Rattle.domain_rules.proofs.Parts.{same-refl}
use Rattle.journal_safety.proofs.Ends.{tail_in, tail_rest}
use Rattle.journal_safety.proofs.Histories.{legal_in, alive_drew}
use Rattle.journal_safety.proofs.Legal.{nonce_of, derives, gives, Alive, LegalPairwise, LegalFinished, Legal, LegalHistory}
use Rattle.journal_safety.proofs.Pairwise.{HadDrawn, inside, unfinished, installs}
use Rattle.node_safety.specs.Alone.{PairwiseOnce}
use Rattle.node_safety.proofs.Sole.{Sole, sole_rest, fresh_history, OneKey, one_tk}

installed_had : (d : Domain) (n p : Node) (tk : List ℕ) (i : Inputs) (h : List Act) → LegalHistory d n h → HadDrawn (nonce_of n i) (installs p tk i) h
installed_had d n p tk i [] legal = tt
installed_had d n p tk i (e ∷ h) legal = (
  (λ here. let l : LegalPairwise n h p tk i = subst (λ (x : Act). Legal d n h x) (sym here) legal.0 in alive_drew n p i h l.alive),
  installed_had d n p tk i h legal.1,
)

finished_had : (d : Domain) (n p : Node) (i : Inputs) (h : List Act) → LegalHistory d n h → HadDrawn (nonce_of n i) (Finished p i) h
finished_had d n p i [] legal = tt
finished_had d n p i (e ∷ h) legal = (
  (λ here. let l : LegalFinished d n h p i = subst (λ (x : Act). Legal d n h x) (sym here) legal.0 in alive_drew n p i h l.alive),
  finished_had d n p i h legal.1,
)

-- nothing was finished before with p from the nonce of an attempt with p that goes on
pub alive_over : (d : Domain) (n p : Node) (i k : Inputs) (h : List Act) → Sole d n h → Alive n h p i → nonce_of n i ≡ nonce_of n k → In (Finished p k) h → ⊥
alive_over d n p i k h s a own there = unfinished p k h a.part a.awaited
    (inside p (nonce_of n k) (Finished p k) h a.part (finished_had d n p k h s.legal) (fresh_history h s.fresh) a.awaited (a.own ∙ ap (λ (v : List ℕ). Some v) own) there)

-- what a pairwise key was derived from, as it was installed
pub record Origin (n q : Node) (tk : List ℕ) (k : Inputs) (h : List Act) : Type 0 where
  pub derived : In (derives q k) h
  pub is : tk ≡ (ptk k).tk

pub origin : (d : Domain) (n q : Node) (tk : List ℕ) (k : Inputs) (h : List Act) → LegalHistory d n h → In (installs q tk k) h → Origin n q tk k h
origin d n q tk k h legal there =
    let w = legal_in d n (installs q tk k) h legal there in
    let l : LegalPairwise n w.before q tk k = w.legal in
    record { derived = tail_in w.before h (derives q k) (tail_rest (installs q tk k) w.before h w.tail) l.verified.derived; is = l.is }

-- a pairwise key that may be installed was not installed
pub pairwise_new : (d : Domain) (n p q : Node) (tk : List ℕ) (i k : Inputs) (h : List Act) → Sole d n h → LegalPairwise n h p tk i → In (installs q tk k) h → ⊥
pairwise_new d n p q tk i k h s new there =
    let old = origin d n q tk k h s.legal there in
    let one : OneKey n p q i k = one_tk d n p q i k h s new.verified.derived old.derived (sym new.is ∙ old.is) in
    let here : In (installs p tk k) h = subst (λ (x : Node). In (installs x tk k) h) (sym one.peer) there in
    let in_the_part = inside p (nonce_of n k) (installs p tk k) h new.alive.part (installed_had d n p tk k h s.legal) (fresh_history h s.fresh) new.alive.awaited
    (new.alive.own ∙ ap (λ (v : List ℕ). Some v) one.own) here in
    let free : gives p new.renewal (installs p tk k) ≡ false = new.first (installs p tk k) in_the_part in
    let self : same p p ≡ true = same-refl p in
    cc (free, self)

pub pairwise_once : (d : Domain) (n : Node) (h : List Act) → Sole d n h → PairwiseOnce h
pairwise_once d n [] s = tt
pairwise_once d n (e ∷ h) s = (
  (λ p q tk i m is there. pairwise_new d n p q tk i m h (sole_rest d n e h s) (subst (λ (x : Act). Legal d n h x) is s.legal.0) there),
  pairwise_once d n h (sole_rest d n e h s),
)
