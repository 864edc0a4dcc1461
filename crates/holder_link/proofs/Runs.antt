-- What the two ends have after a history: the same key, no number twice, and the open questions that were asked.
use Rattle.std.proofs.Common.{eqb, ◌≡◌, ℕ, suc, ◌+◌, ◌≤◌, Bool, true, false, cond, List, [], ◌∷◌, ◌++◌, Some, refl, sym, ap, arith, inl, inr, ◌⊎◌, subst}
use Rattle.std.proofs.lemmas.Bool.{eqb-true}
use Rattle.link_steps.specs.declared.questions.Question.{Question}
use Rattle.holder_link.specs.declared.open_questions.OpenQuestion.{OpenQuestion}
use Rattle.link_steps.specs.declared.steps.LinkAnswer.{LinkAnswer}
use Rattle.link_steps.specs.declared.steps.LinkAnswer.TheVariants.{Asked}
use Rattle.link_steps.specs.declared.steps.LinkEvent.{LinkEvent}
use Rattle.link_steps.specs.declared.steps.LinkEvent.TheVariants.{Ask}
use Rattle.link_steps.specs.declared.steps.Step.{Step}
use Rattle.holder_link.specs.Acts.{BothHave, Acts, Asks, AsksTooMany, Forgets, Puts, Revokes, Takes, RefusesToTake, Answers, RefusesToAnswer, after}
use Rattle.holder_link.specs.Asker.{Asking, as_open}
use Rattle.holder_link.specs.History.{Somewhere, Link, both_after, IsRun}
use Rattle.holder_link.specs.Learning.{IsAskedIn, learns, learnings}
use Rattle.holder_link.specs.Questions.{has_number, has_nonce, without, first}
use Rattle.holder_link.proofs.Counts.{one_if, count, count-append, count-without, count-fewer, count-first, Stands, stands-append, stands-without}

-- the key and the R0KH-ID stay
pub record SameKey (b : BothHave) (link : Link) : Type 0 where
  pub asker_kek : b.asking.kek ≡ link.kek
  pub server_kek : b.server.kek ≡ link.kek
  pub ids : b.ids ≡ link.ids

key_stays : (b : BothHave) (link : Link) (event : LinkEvent) (sent : List ℕ) (answer : LinkAnswer) → Acts b event sent answer → SameKey b link → SameKey (after event answer b) link
key_stays b link event sent answer (Asks q nonce e f few s) k = rw (e, f) (record { asker_kek = k.asker_kek; server_kek = k.server_kek; ids = k.ids })
key_stays b link event sent answer (AsksTooMany q nonce e f many s) k = rw (e, f) (record { asker_kek = k.asker_kek; server_kek = k.server_kek; ids = k.ids })
key_stays b link event sent answer (Forgets n e f s) k = rw (e, f) (record { asker_kek = k.asker_kek; server_kek = k.server_kek; ids = k.ids })
key_stays b link event sent answer (Puts row e f s) k = rw (e, f) (record { asker_kek = k.asker_kek; server_kek = k.server_kek; ids = k.ids })
key_stays b link event sent answer (Revokes name e f s) k = rw (e, f) (record { asker_kek = k.asker_kek; server_kek = k.server_kek; ids = k.ids })
key_stays b link event sent answer (Takes octets n a e f l s) k = rw (e, f) (record { asker_kek = k.asker_kek; server_kek = k.server_kek; ids = k.ids })
key_stays b link event sent answer (RefusesToTake octets fault e f r s) k = rw (e, f) (record { asker_kek = k.asker_kek; server_kek = k.server_kek; ids = k.ids })
key_stays b link event sent answer (Answers octets a e f t) k = rw e (record { asker_kek = k.asker_kek; server_kek = k.server_kek; ids = k.ids })
key_stays b link event sent answer (RefusesToAnswer octets fault e f r s) k = rw e (record { asker_kek = k.asker_kek; server_kek = k.server_kek; ids = k.ids })

pub same_key : (link : Link) (h : List Step) → IsRun link h → SameKey (both_after link h) link
same_key link [] run = record { asker_kek = refl; server_kek = refl; ids = refl }
same_key link (s ∷ g) run = key_stays (both_after link g) link s.event s.sent s.answer run.0 (same_key link g run.1)

-- a question that is open was asked
Opened : OpenQuestion → LinkEvent → LinkAnswer → Type 0
Opened o event answer = (q : Question) × (event ≡ Ask q o.nonce) × (answer ≡ Asked o.n) × (o ≡ as_open o.n o.nonce q)

opened : (b : BothHave) (q : Question) (nonce : List ℕ) (o : OpenQuestion) → Stands o b.asking.questions ⊎ (as_open b.asking.asked nonce q ≡ o) → Stands o b.asking.questions ⊎ Opened o (Ask q nonce) (Asked b.asking.asked)
unfolding Opened
opened b q nonce o (inl s) = inl s
opened b q nonce o (inr e) = inr (subst (λ (x : OpenQuestion). Opened x (Ask q nonce) (Asked b.asking.asked)) e (q, refl, refl, refl))

open_step : (b : BothHave) (event : LinkEvent) (sent : List ℕ) (answer : LinkAnswer) (o : OpenQuestion) → Acts b event sent answer → Stands o (after event answer b).asking.questions → Stands o b.asking.questions ⊎ Opened o event answer
open_step b event sent answer o (Asks q nonce e f few s) = rw (e, f) (λ m. opened b q nonce o (stands-append o (as_open b.asking.asked nonce q) b.asking.questions m))
open_step b event sent answer o (AsksTooMany q nonce e f many s) = rw (e, f) (λ m. inl m)
open_step b event sent answer o (Forgets n e f s) = rw (e, f) (λ m. inl (stands-without n o b.asking.questions m))
open_step b event sent answer o (Puts row e f s) = rw (e, f) (λ m. inl m)
open_step b event sent answer o (Revokes name e f s) = rw (e, f) (λ m. inl m)
open_step b event sent answer o (Takes octets n a e f l s) = rw (e, f) (λ m. inl (stands-without n o b.asking.questions m))
open_step b event sent answer o (RefusesToTake octets fault e f r s) = rw (e, f) (λ m. inl m)
open_step b event sent answer o (Answers octets a e f t) = rw e (λ m. inl m)
open_step b event sent answer o (RefusesToAnswer octets fault e f r s) = rw e (λ m. inl m)

abbrev pub WasAsked : OpenQuestion → Step → List Step → Type 0
WasAsked o s before = (q : Question) × (IsAskedIn o.n o.nonce q s × (o ≡ as_open o.n o.nonce q))

pub was_asked : (link : Link) (h : List Step) → IsRun link h → (o : OpenQuestion) → Stands o (both_after link h).asking.questions → Somewhere (WasAsked o) h
unfolding Opened
was_asked link [] run o m = absurd m
was_asked link (s ∷ g) run o m = elim (open_step (both_after link g) s.event s.sent s.answer o run.0 m) [
  | inl old ↦ inr (was_asked link g run.1 o old)
  | inr new ↦ inl (new.0, ((new.1, new.2), new.3))
]

-- no number is open or learnt twice
pub record Counted (n : ℕ) (s : Asking) (learnt : ℕ) : Type 0 where
  pub once : count n s.questions + learnt ≤ 1
  pub later : s.asked ≤ n → count n s.questions + learnt ≡ 0

next_learnt : (n : ℕ) (answer : LinkAnswer) (learnt : ℕ) → ℕ
next_learnt n answer learnt = cond (learns n answer) (suc learnt) learnt

more : (n learnt asked : ℕ) (qs : List OpenQuestion) (o : OpenQuestion) (kck kek : List ℕ) → o.n ≡ asked → Counted n (record { kck = kck; kek = kek; asked = asked; questions = qs }) learnt → (b : Bool) → eqb o.n n ≡ b
    → Counted n (record { kck = kck; kek = kek; asked = asked + 1; questions = qs ++ o ∷ [] }) learnt
more n learnt asked qs o kck kek is c true e =
    let here = eqb-true o.n n e in
    let none = c.later (omega (arith, is, here)) in
    let one = ap one_if e in
    record {
      once = omega (arith, count-append n qs o, none, one);
      later = λ low. absurd (omega (arith, low, is, here));
    }
more n learnt asked qs o kck kek is c false e =
    let none = ap one_if e in
    record {
      once = omega (arith, count-append n qs o, none, c.once);
      later = λ low. let z = c.later (omega (arith, low)) in omega (arith, count-append n qs o, none, z);
    }

fewer : (n m learnt : ℕ) (s : Asking) → Counted n s learnt → Counted n (record s { questions = without (has_number m) s.questions }) learnt
fewer n m learnt s c = record {
  once = omega (arith, c.once, count-fewer n m s.questions);
  later = λ low. let z = c.later low in omega (arith, z, count-fewer n m s.questions);
}

one_learnt : (n m learnt : ℕ) (s : Asking) (o : OpenQuestion) (p : OpenQuestion → Bool) → first p s.questions ≡ Some o → m ≡ o.n → Counted n s learnt → (b : Bool) → eqb m n ≡ b → Counted n (record s { questions = without (has_number m) s.questions }) (cond b (suc learnt) learnt)
one_learnt n m learnt s o p found is c b e =
    let some = subst (λ (k : ℕ). 1 ≤ count k s.questions) (sym is) (count-first p o s.questions found) in
    let gone = count-without n m s.questions some in
    let one = ap one_if e in
    let sum = counted_up b learnt in
    record {
      once = omega (arith, c.once, gone, one, sum);
      later = λ low. let z = c.later low in omega (arith, z, gone, one, sum);
    }
  where
    counted_up : (b : Bool) (learnt : ℕ) → cond b (suc learnt) learnt ≡ one_if b + learnt
    counted_up true learnt = omega arith
    counted_up false learnt = omega arith

count_step : (b : BothHave) (event : LinkEvent) (sent : List ℕ) (answer : LinkAnswer) (n learnt : ℕ) → Acts b event sent answer → Counted n b.asking learnt → Counted n (after event answer b).asking (next_learnt n answer learnt)
unfolding next_learnt
count_step b event sent answer n learnt (Asks q nonce e f few s) c = rw (e, f) (more n learnt b.asking.asked b.asking.questions (as_open b.asking.asked nonce q) b.asking.kck b.asking.kek refl c (eqb b.asking.asked n) refl)
count_step b event sent answer n learnt (AsksTooMany q nonce e f many s) c = rw (e, f) c
count_step b event sent answer n learnt (Forgets m e f s) c = rw (e, f) (fewer n m learnt b.asking c)
count_step b event sent answer n learnt (Puts row e f s) c = rw (e, f) c
count_step b event sent answer n learnt (Revokes name e f s) c = rw (e, f) c
count_step b event sent answer n learnt (Takes octets m a e f l s) c = rw (e, f) (one_learnt n m learnt b.asking l.question (has_nonce l.nonce) l.asked l.number c (eqb m n) refl)
count_step b event sent answer n learnt (RefusesToTake octets fault e f r s) c = rw (e, f) c
count_step b event sent answer n learnt (Answers octets a e f t) c = rw (e, f) c
count_step b event sent answer n learnt (RefusesToAnswer octets fault e f r s) c = rw (e, f) c

pub counted : (link : Link) (h : List Step) → IsRun link h → (n : ℕ) → Counted n (both_after link h).asking (learnings n h)
unfolding next_learnt
counted link [] run n = record { once = omega arith; later = λ low. refl }
counted link (s ∷ g) run n = count_step (both_after link g) s.event s.sent s.answer n (learnings n g) run.0 (counted link g run.1 n)

-- what is open was not learnt
pub not_learnt : (link : Link) (h : List Step) → IsRun link h → (p : OpenQuestion → Bool) (o : OpenQuestion) → first p (both_after link h).asking.questions ≡ Some o → learnings o.n h ≡ 0
not_learnt link h run p o found =
    let c = counted link h run o.n in
    omega (arith, c.once, count-first p o (both_after link h).asking.questions found)
