-- Frames of what a journal gained, and steps of a turn.
use Rattle.std.proofs.Common.{◌≡◌, ℕ, suc, ◌<◌, ◌≤◌, ◌+◌, ◌*◌, List, ◌++◌, length, drop, sym, ap, subst, ◌∙◌, arith}
use Rattle.std.specs.Prelude.{reverse}
use Rattle.std.proofs.lemmas.List.{reverse-append, length-reverse, length-append}
use Rattle.std.proofs.Math.Seq.{drop-append_seam}
use Rattle.run_journal.specs.Limits.{most_polls}
use Rattle.domain_base.specs.declared.names.Node.{Node}
use Rattle.run_journal.specs.declared.domain.Domain.{Domain}
use Rattle.run_journal.specs.declared.domain.Event.{Event}
use Rattle.run_journal.specs.declared.domain.Event.TheVariants.{Inject}
use Rattle.run_journal.specs.declared.acts.Entry.{Entry}
use Rattle.domain_rules.specs.Explained.{Step}
use Rattle.domain_world.specs.State.{State}
use Rattle.domain_world.specs.Owning.{Owns, IsSince}
use Rattle.std.proofs.Common.{Result, Ok, Err}
use Rattle.domain_base.specs.declared.outside.LinkError.TheVariants as link
use Rattle.domain_links.specs.declared.breaks.Break.{Break}
use Rattle.domain_links.specs.declared.breaks.Break.TheVariants.{ByLink}
use Rattle.domain_links.specs.Sends.{sends}
use Rattle.domain_links.specs.Telling.{SameFaults}
use Rattle.domain_links.proofs.Going.{sends-two}
use Rattle.script_runs.specs.Outer.{sends_for}
use Rattle.script_runs.specs.Turning.{Stage, stage, IsTaken, IsFurther, IsLaid}
use Rattle.script_runs.proofs.Growing.{Grows, Grows-step}

grown : (k later j : List Entry) → k ≡ later ++ j → reverse k ≡ reverse j ++ drop (length j) (reverse k)
grown k later j is =
    let whole : reverse k ≡ reverse j ++ reverse later = ap reverse is ∙ reverse-append later j in
    let behind : drop (length j) (reverse k) ≡ reverse later =
    ap (drop (length j)) whole ∙ ap (λ (n : ℕ). drop n (reverse j ++ reverse later)) (sym (length-reverse j)) ∙ drop-append_seam (reverse j) (reverse later) in
    whole ∙ ap (λ (w : List Entry). reverse j ++ w) (sym behind)

-- what is sent with the entries that a journal gained
pub sends_more : (d : Domain) (rounds : ℕ) (j k news : List Entry) → Grows rounds j k → news ≡ drop (length j) (reverse k) → sends_for d j ++ sends d news ≡ sends_for d k
sends_more d rounds j k news more is = sends-two d (reverse j) news (reverse k) (grown k more.later j more.is ∙ ap (λ (w : List Entry). reverse j ++ w) (sym is))

pub longer : (rounds : ℕ) (j k : List Entry) → Grows rounds j k → length j ≤ length k
longer rounds j k more = omega (arith, ap (λ (w : List Entry). length w) more.is, length-append more.later j)

pub step_longer : (d : Domain) (round : ℕ) (event : Event) (j k : List Entry) → Step d (suc round) event j k → length j ≤ length k
step_longer d round event j k step = longer 0 j k (Grows-step d 0 (suc round) event j k step (omega arith))

pub step_sends : (d c : Domain) (round : ℕ) (event : Event) (j k news : List Entry) → Step c (suc round) event j k → news ≡ drop (length j) (reverse k) → sends_for d j ++ sends d news ≡ sends_for d k
step_sends d c round event j k news step is = sends_more d 0 j k news (Grows-step c 0 (suc round) event j k step (omega arith)) is

pub same_stage : (w v : State) (j k : List Entry) → v ≡ w → k ≡ j → stage v k ≡ stage w j
same_stage w v j k world journal = ap (λ (x : State). stage x k) world ∙ ap (λ (x : List Entry). stage w x) journal

-- what was further by so many, and again
pub further-two : (n m : ℕ) (a b c : Stage) → IsFurther n a b → IsFurther m b c → IsFurther (n + m) a c
further-two n m a b c first then_ = record {
  network = then_.network ∙ first.network;
  few = omega (arith, first.few, then_.few);
  own = then_.own;
  since = λ c is. then_.since c (first.since c is);
}

pub further-wide : (n m : ℕ) (a b : Stage) → n ≤ m → IsFurther n a b → IsFurther m a b
further-wide n m a b h f = record { network = f.network; few = omega (arith, f.few, h); own = f.own; since = f.since }

-- a round of octets that a node takes
pub taken_round : (w v : State) (node to : Node) (octets copy : List ℕ) (j k : List Entry) → to ≡ node → copy ≡ octets → v.domain ≡ w.domain → v.rounds ≡ suc w.rounds → ((c : Domain) × IsSince c w j) → ((c : Domain) → IsSince c w j → Step c (suc w.rounds) (Inject to copy) j k) → ((c : Domain) → IsSince c w j → IsSince c v k) → Owns w j → IsTaken node octets (stage w j) (stage v k)
taken_round w v node to octets copy j k same copied network rounds header step since own = record {
  own = own;
  network = network;
  rounds = rounds;
  header = header;
  goes = λ c is. subst (λ (x : List ℕ). Step c (suc w.rounds) (Inject node x) j k) copied (subst (λ (n : Node). Step c (suc w.rounds) (Inject n copy) j k) same (step c is));
  since = since;
}

ok_err : {T : Type 0} (x : T) → (◌≡◌ {A = Result T Break} (Ok x) (Err (ByLink link.Failed))) → ⊥
ok_err x e = absurd cc

err_err : {T V : Type 0} (error : Break) → ◌≡◌ {A = Result T Break} (Err error) (Err (ByLink link.Failed)) → ◌≡◌ {A = Result V Break} (Err error) (Err (ByLink link.Failed))
err_err error e = let same : error ≡ ByLink link.Failed = cc in ap Err same

-- links of which none failed in a call that did not
pub laid_same : {L T : Type 0} (faults : L → ℕ) (old new : List L) (x : T) → IsLaid {L = L} {T = T} faults old new (Ok x) → SameFaults faults old new
laid_same faults old new x a = a.kept (λ e. ok_err x e)

-- and then those of the next call
pub laid_ok : {L T V : Type 0} (faults : L → ℕ) (old mid new : List L) (x : T) (y : V) → length mid ≡ length old → SameFaults faults old mid → IsLaid {L = L} {T = T} faults mid new (Ok x) → IsLaid {L = L} {T = V} faults old new (Ok y)
laid_ok faults old mid new x y len same a = record {
  len = a.len ∙ len;
  failed = λ e. absurd (ok_err y e);
  kept = λ h. a.kept (λ e. ok_err x e) ∙ same;
}

pub laid_err : {L T V : Type 0} (faults : L → ℕ) (old mid new : List L) (error : Break) → length mid ≡ length old → SameFaults faults old mid → IsLaid {L = L} {T = T} faults mid new (Err error) → IsLaid {L = L} {T = V} faults old new (Err error)
laid_err {L = L} {T = T} {V = V} faults old mid new error len same a = record {
  len = a.len ∙ len;
  failed = λ e. a.failed (err_err {T = V} {V = T} error e);
  kept = λ h. a.kept (λ e. h (err_err {T = T} {V = V} error e)) ∙ same;
}

pub laid_none : {L V : Type 0} (faults : L → ℕ) (old new : List L) (y : V) → length new ≡ length old → SameFaults faults old new → IsLaid {L = L} {T = V} faults old new (Ok y)
laid_none faults old new y len same = record { len = len; failed = λ e. absurd (ok_err y e); kept = λ h. same }

-- the nodes of the first places, and the next
pub turned_further : (n m : ℕ) (a b c : Stage) → n < m → b.world.domain ≡ a.world.domain → b.world.rounds ≤ a.world.rounds + most_polls * n → ((c : Domain) → IsSince c a.world a.journal → IsSince c b.world b.journal) → IsFurther most_polls b c → IsFurther (most_polls * m) a c
turned_further n m a b c h network few since f = record { network = f.network ∙ network; few = omega (arith, h, few, f.few); own = f.own; since = λ d is. f.since d (since d is) }

-- or all of them
pub turned_so_far : (n m : ℕ) (a b : Stage) → n ≡ m → b.world.domain ≡ a.world.domain → b.world.rounds ≤ a.world.rounds + most_polls * n → ((c : Domain) → IsSince c a.world a.journal → IsSince c b.world b.journal) → Owns b.world b.journal → IsFurther (most_polls * m) a b
turned_so_far n m a b h network few since own = record { network = network; few = omega (arith, h, few); own = own; since = since }

-- so many frames of one node, and one more
pub taken_further : (n m : ℕ) (a b c : Stage) → n < m → b.world.domain ≡ a.world.domain → b.world.rounds ≤ a.world.rounds + n → ((c : Domain) → IsSince c a.world a.journal → IsSince c b.world b.journal) → IsFurther 1 b c → IsFurther m a c
taken_further n m a b c h network few since f = record { network = f.network ∙ network; few = omega (arith, h, few, f.few); own = f.own; since = λ d is. f.since d (since d is) }

pub taken_so_far : (n m : ℕ) (a b : Stage) → n ≤ m → b.world.domain ≡ a.world.domain → b.world.rounds ≤ a.world.rounds + n → ((c : Domain) → IsSince c a.world a.journal → IsSince c b.world b.journal) → Owns b.world b.journal → IsFurther m a b
taken_so_far n m a b h network few since own = record { network = network; few = omega (arith, h, few); own = own; since = since }
