-- What is learnt is right.
use Rattle.std.proofs.Common.{◌≡◌, ℕ, true, List, [], ◌∷◌, length, get_or, refl, sym, ap, ◌∙◌, arith, inl, inr, subst}
use Rattle.std.proofs.lemmas.Slice.Eq.{bytes_eq-Decides}
use Rattle.key_wrap.proofs.UniqueLemmas.{Wraps-unique}
use Rattle.domain_base.specs.Octets.{AreOctets}
use Rattle.domain_base.specs.declared.names.Mac.{Mac}
use Rattle.key_hierarchy.specs.declared.fast_transition.PmkR1.{PmkR1}
use Rattle.key_hierarchy.specs.declared.answers.PullAnswer.{PullAnswer}
use Rattle.key_hierarchy.specs.declared.answers.PullAnswer.TheVariants as pulled
use Rattle.key_holders.specs.Pulls.{IsNamed}
use Rattle.link_steps.specs.declared.questions.Question.{Question}
use Rattle.holder_link.specs.declared.fields.Said.{Said}
use Rattle.holder_link.specs.declared.fields.Said.TheVariants.{Found, NoHolder, Absent}
use Rattle.holder_link.specs.declared.open_questions.OpenQuestion.{OpenQuestion}
use Rattle.link_steps.specs.declared.steps.LinkAnswer.{LinkAnswer}
use Rattle.link_steps.specs.declared.steps.LinkAnswer.TheVariants.{Asked, Learnt, Told}
use Rattle.link_steps.specs.declared.steps.LinkEvent.{LinkEvent}
use Rattle.link_steps.specs.declared.steps.LinkEvent.TheVariants.{Ask, ToAsker, ToHolder}
use Rattle.link_steps.specs.declared.steps.Step.{Step}
use Rattle.holder_link.specs.Acts.{BothHave, Acts, Asks, AsksTooMany, Forgets, Puts, Revokes, Takes, RefusesToTake, Answers, RefusesToAnswer, PulledFrom}
use Rattle.holder_link.specs.Asker.{as_open, Learns}
use Rattle.holder_link.specs.Datagrams.{SpellsAsk, SpellsAnswer}
use Rattle.holder_link.specs.History.{Everywhere, Somewhere, Link, both_after, IsStep, IsRun}
use Rattle.holder_link.specs.Learning.{IsAskedIn, HasNonce, NoncesDiffer, has_verified, octets_of, Unforged, learnings, IsTold, IsRight, LearntRight}
use Rattle.holder_link.specs.Questions.{has_nonce}
use Rattle.holder_link.specs.Says.{Says}
use Rattle.holder_link.specs.Server.{Tells}
use Rattle.holder_link.proofs.Asks.{same_ask}
use Rattle.holder_link.proofs.Counts.{stands-first}
use Rattle.holder_link.proofs.Histories.{somewhere_by, meet, both, everywhere_by, nowhere, taken_out}
use Rattle.holder_link.proofs.Replies.{same_answer}
use Rattle.holder_link.proofs.Runs.{same_key, was_asked, not_learnt}

-- two answers that are said alike, and have the name of one question, are one
abbrev pub r1_of : List ℕ → List ℕ → PmkR1
r1_of key name = record { key = key; name = name }

made_alike : (k l n m : List ℕ) → k ≡ l → n ≡ m → r1_of k n ≡ r1_of l m
made_alike k l n m e f = rw (e, f) refl

same_r1 : (a b : PmkR1) → a.key ≡ b.key → a.name ≡ b.name → a ≡ b
same_r1 a b k n = made_alike a.key b.key a.name b.name k n

pub same_said : (kek name : List ℕ) (r1kh sta : Mac) → AreOctets kek → (said : Said) (a b : PullAnswer) → Says kek a said → Says kek b said → IsNamed name r1kh sta a → IsNamed name r1kh sta b → a ≡ b
same_said kek name r1kh sta few (Found w) (pulled.Found x) (pulled.Found y) s t n m = ap (λ (r : PmkR1). pulled.Found r) (same_r1 x y (Wraps-unique kek x.key y.key w few s t) (n ∙ sym m))
same_said kek name r1kh sta few (Found w) (pulled.Found x) pulled.NoHolder s t n m = absurd t
same_said kek name r1kh sta few (Found w) (pulled.Found x) pulled.Absent s t n m = absurd t
same_said kek name r1kh sta few (Found w) pulled.NoHolder b s t n m = absurd s
same_said kek name r1kh sta few (Found w) pulled.Absent b s t n m = absurd s
same_said kek name r1kh sta few NoHolder pulled.NoHolder pulled.NoHolder s t n m = refl
same_said kek name r1kh sta few NoHolder pulled.NoHolder (pulled.Found y) s t n m = absurd t
same_said kek name r1kh sta few NoHolder pulled.NoHolder pulled.Absent s t n m = absurd t
same_said kek name r1kh sta few NoHolder (pulled.Found x) b s t n m = absurd s
same_said kek name r1kh sta few NoHolder pulled.Absent b s t n m = absurd s
same_said kek name r1kh sta few Absent pulled.Absent pulled.Absent s t n m = refl
same_said kek name r1kh sta few Absent pulled.Absent (pulled.Found y) s t n m = absurd t
same_said kek name r1kh sta few Absent pulled.Absent pulled.NoHolder s t n m = absurd t
same_said kek name r1kh sta few Absent (pulled.Found x) b s t n m = absurd s
same_said kek name r1kh sta few Absent pulled.NoHolder b s t n m = absurd s

-- a datagram is not empty, and of one kind
no_ask : (nonce : List ℕ) (q : Question) (code octets : List ℕ) → octets ≡ [] → SpellsAsk octets nonce q code → ⊥
no_ask nonce q code octets e s = absurd (let n = ap (λ (w : List ℕ). length w) (sym e ∙ s.whole) in omega (arith, n))

no_answer : (nonce : List ℕ) (said : Said) (code octets : List ℕ) → octets ≡ [] → SpellsAnswer octets nonce said code → ⊥
no_answer nonce said code octets e s = absurd (let n = ap (λ (w : List ℕ). length w) (sym e ∙ s.whole) in omega (arith, n))

one_kind : (octets nonce other : List ℕ) (q : Question) (said : Said) (code more : List ℕ) → SpellsAsk octets nonce q code → SpellsAnswer octets other said more → ⊥
one_kind octets nonce other q said code more s t = absurd (let n = ap (λ (w : List ℕ). get_or w 0 0) (sym s.whole ∙ t.whole) in cc)

-- a step that learns
learnt_by : (b : BothHave) (event : LinkEvent) (sent : List ℕ) (answer : LinkAnswer) (n : ℕ) (a : PullAnswer) → answer ≡ Learnt n a → Acts b event sent answer → (octets : List ℕ) × (event ≡ ToAsker octets) × Learns b.asking octets n a
learnt_by b event sent answer n a is (Asks q nonce e f few s) = absurd cc
learnt_by b event sent answer n a is (AsksTooMany q nonce e f many s) = absurd cc
learnt_by b event sent answer n a is (Forgets m e f s) = absurd cc
learnt_by b event sent answer n a is (Puts row e f s) = absurd cc
learnt_by b event sent answer n a is (Revokes name e f s) = absurd cc
learnt_by b event sent answer n a is (Takes octets m x e f l s) =
    let number : m ≡ n = cc in
    let same : x ≡ a = cc in
    (octets, e, subst (λ (k : ℕ). Learns b.asking octets k a) number (subst (λ (y : PullAnswer). Learns b.asking octets m y) same l))
learnt_by b event sent answer n a is (RefusesToTake octets fault e f r s) = absurd cc
learnt_by b event sent answer n a is (Answers octets x e f t) = absurd cc
learnt_by b event sent answer n a is (RefusesToAnswer octets fault e f r s) = absurd cc

-- a step that sends an Answer
record Telling (b : BothHave) (event : LinkEvent) (sent : List ℕ) (answer : LinkAnswer) : Type 0 where
  octets : List ℕ
  given : PullAnswer
  came : event ≡ ToHolder octets
  told : answer ≡ Told given
  tells : Tells b.server octets (PulledFrom b.ids b.rows) given sent

told_by : (b : BothHave) (event : LinkEvent) (sent : List ℕ) (answer : LinkAnswer) (nonce : List ℕ) (said : Said) (code : List ℕ) → SpellsAnswer sent nonce said code → Acts b event sent answer → Telling b event sent answer
told_by b event sent answer nonce said code is (Asks q other e f few s) = absurd (one_kind sent other nonce q said _ code s is)
told_by b event sent answer nonce said code is (AsksTooMany q other e f many s) = absurd (no_answer nonce said code sent s is)
told_by b event sent answer nonce said code is (Forgets m e f s) = absurd (no_answer nonce said code sent s is)
told_by b event sent answer nonce said code is (Puts row e f s) = absurd (no_answer nonce said code sent s is)
told_by b event sent answer nonce said code is (Revokes name e f s) = absurd (no_answer nonce said code sent s is)
told_by b event sent answer nonce said code is (Takes octets m x e f l s) = absurd (no_answer nonce said code sent s is)
told_by b event sent answer nonce said code is (RefusesToTake octets fault e f r s) = absurd (no_answer nonce said code sent s is)
told_by b event sent answer nonce said code is (Answers octets x e f t) = record { octets = octets; given = x; came = e; told = f; tells = t }
told_by b event sent answer nonce said code is (RefusesToAnswer octets fault e f r s) = absurd (no_answer nonce said code sent s is)

-- a step that sends an Ask
asked_by : (b : BothHave) (event : LinkEvent) (sent : List ℕ) (answer : LinkAnswer) (nonce : List ℕ) (q : Question) (code : List ℕ) → SpellsAsk sent nonce q code → Acts b event sent answer → (n : ℕ) × (event ≡ Ask q nonce) × (answer ≡ Asked n)
asked_by b event sent answer nonce q code is (Asks p other e f few s) =
    let same = same_ask sent other nonce p q _ code s is in
    (b.asking.asked, rw (← same.0, ← same.1) e, f)
asked_by b event sent answer nonce q code is (AsksTooMany p other e f many s) = absurd (no_ask nonce q code sent s is)
asked_by b event sent answer nonce q code is (Forgets m e f s) = absurd (no_ask nonce q code sent s is)
asked_by b event sent answer nonce q code is (Puts row e f s) = absurd (no_ask nonce q code sent s is)
asked_by b event sent answer nonce q code is (Revokes name e f s) = absurd (no_ask nonce q code sent s is)
asked_by b event sent answer nonce q code is (Takes octets m x e f l s) = absurd (no_ask nonce q code sent s is)
asked_by b event sent answer nonce q code is (RefusesToTake octets fault e f r s) = absurd (no_ask nonce q code sent s is)
asked_by b event sent answer nonce q code is (Answers octets x e f t) = absurd (one_kind sent nonce t.nonce q t.said code _ is t.sent_spelled)
asked_by b event sent answer nonce q code is (RefusesToAnswer octets fault e f r s) = absurd (no_ask nonce q code sent s is)

-- with one nonce one question was asked
same_asked : (n : ℕ) (nonce : List ℕ) (q : Question) (h : List Step) → NoncesDiffer h → Somewhere (λ s g. IsAskedIn n nonce q s) h → Everywhere (λ s g. (m : ℕ) (p : Question) → IsAskedIn m nonce p s → (m ≡ n) × (p ≡ q)) h
same_asked n nonce q [] d s = tt
same_asked n nonce q (x ∷ g) d (inl a) = (
  λ m p c. one_of x m p a c,
  everywhere_by (λ s f. HasNonce nonce s f → ⊥) (λ s f. (m : ℕ) (p : Question) → IsAskedIn m nonce p s → (m ≡ n) × (p ≡ q)) (λ s f none m p c. absurd (none (m, p, c))) g (nowhere (HasNonce nonce) g (d.0 n nonce q a)),
) where
  one_of : (x : Step) (m : ℕ) (p : Question) → IsAskedIn n nonce q x → IsAskedIn m nonce p x → (m ≡ n) × (p ≡ q)
  one_of x m p a c = (number (sym c.1 ∙ a.1), question (sym c.0 ∙ a.0)) where
    number : {i j : ℕ} → Asked i ≡ Asked j → i ≡ j
    number e = cc

    question : {i j : Question} {v w : List ℕ} → Ask i v ≡ Ask j w → i ≡ j
    question e = cc
same_asked n nonce q (x ∷ g) d (inr r) = (
  λ m p c. absurd (d.0 m nonce p c (somewhere_by (λ s f. IsAskedIn n nonce q s) (HasNonce nonce) (λ s f a. (n, q, a)) g r)),
  same_asked n nonce q g d.1 r,
)

-- what is known of each step of a history and of those before it
record Known (link : Link) (nonce : List ℕ) (n : ℕ) (q : Question) (s : Step) (g : List Step) : Type 0 where
  step : IsStep link s g
  run : IsRun link g
  unforged : has_verified s.answer ≡ true → Somewhere (λ t _. t.sent ≡ octets_of s.event) g
  one : Everywhere (λ t _. (m : ℕ) (p : Question) → IsAskedIn m nonce p t → (m ≡ n) × (p ≡ q)) g

known : (link : Link) (nonce : List ℕ) (n : ℕ) (q : Question) (h : List Step) → IsRun link h → Unforged h → Everywhere (λ t _. (m : ℕ) (p : Question) → IsAskedIn m nonce p t → (m ≡ n) × (p ≡ q)) h → Everywhere (Known link nonce n q) h
known link nonce n q [] run u one = tt
known link nonce n q (s ∷ g) run u one = (record { step = run.0; run = run.1; unforged = u.0; one = one.1 }, known link nonce n q g run.1 u.1 one.1)

-- a question that is asked there, and what it is
asked_before : (link : Link) (n : ℕ) (nonce other : List ℕ) (q p : Question) (code octets : List ℕ) (g : List Step) → IsRun link g
    → Everywhere (λ t _. (m : ℕ) (r : Question) → IsAskedIn m other r t → (m ≡ n) × (r ≡ q)) g → nonce ≡ other → SpellsAsk octets nonce p code → Somewhere (λ t _. t.sent ≡ octets) g → Somewhere (λ t _. IsAskedIn n nonce p t × (p ≡ q)) g
asked_before link n nonce other q p code octets g run one e spelled sent =
    somewhere_by (λ t f. (IsStep link t f × ((m : ℕ) (r : Question) → IsAskedIn m other r t → (m ≡ n) × (r ≡ q))) × (t.sent ≡ octets)) (λ t f. IsAskedIn n nonce p t × (p ≡ q)) at g
    (meet (λ t f. IsStep link t f × ((m : ℕ) (r : Question) → IsAskedIn m other r t → (m ≡ n) × (r ≡ q))) (λ t f. t.sent ≡ octets) g (both (IsStep link) (λ t f. (m : ℕ) (r : Question) → IsAskedIn m other r t → (m ≡ n) × (r ≡ q)) g run one) sent)
  where
    at : (t : Step) (f : List Step) → (IsStep link t f × ((m : ℕ) (r : Question) → IsAskedIn m other r t → (m ≡ n) × (r ≡ q))) × (t.sent ≡ octets) → IsAskedIn n nonce p t × (p ≡ q)
    at t f k =
        let a = asked_by (both_after link f) t.event t.sent t.answer nonce p code (subst (λ (w : List ℕ). SpellsAsk w nonce p code) (sym k.1) spelled) k.0.0 in
        let same = k.0.1 a.0 p (a.1 ∙ ap (λ (w : List ℕ). Ask p w) e, a.2) in
        ((a.1, a.2 ∙ ap (λ (i : ℕ). Asked i) same.0), same.1)

somewhere_gives : (C : Type 0) (P : Step → List Step → Type 0) → ((s : Step) (g : List Step) → P s g → C) → (h : List Step) → Somewhere P h → C
somewhere_gives C P to [] s = absurd s
somewhere_gives C P to (x ∷ g) (inl p) = to x g p
somewhere_gives C P to (x ∷ g) (inr r) = somewhere_gives C P to g r

-- the step that sent the Answer told it
told_here : (link : Link) (few : AreOctets link.kek) (n : ℕ) (a : PullAnswer) (nonce : List ℕ) (said : Said) (code octets : List ℕ) (q : Question) → SpellsAnswer octets nonce said code → Says link.kek a said → IsNamed q.name q.r1kh q.sta a
    → (t : Step) (g : List Step) → Known link nonce n q t g → t.sent ≡ octets → IsTold link n a t g
told_here link few n a nonce said code octets q spelled says named t g k sent =
    let here = subst (λ (w : List ℕ). SpellsAnswer w nonce said code) (sym sent) spelled in
    let told = told_by (both_after link g) t.event t.sent t.answer nonce said code here k.step in
    let tells = told.tells in
    let same = same_answer t.sent tells.nonce nonce tells.said said _ code tells.sent_spelled here in
    let key = same_key link g k.run in
    let came = somewhere_by (λ u f. u.sent ≡ octets_of t.event) (λ u f. u.sent ≡ told.octets) (λ u f e. e ∙ ap octets_of told.came) g (k.unforged (ap has_verified told.told)) in
    let asked = asked_before link n tells.nonce nonce q tells.question _ told.octets g k.run k.one same.0 tells.spelled came in
    let question = somewhere_gives (tells.question ≡ q) (λ u f. IsAskedIn n tells.nonce tells.question u × (tells.question ≡ q)) (λ u f p. p.1) g asked in
    let answer = same_said link.kek q.name q.r1kh q.sta few said told.given a
    (subst (λ (x : Said). Says link.kek told.given x) same.1 (subst (λ (w : List ℕ). Says w told.given tells.said) key.server_kek tells.says))
    says
    (subst (λ (x : Question). IsNamed x.name x.r1kh x.sta told.given) question tells.named)
    named in
    record {
      octets = told.octets;
      nonce = tells.nonce;
      question = tells.question;
      code = _;
      came = told.came;
      told = told.told ∙ ap (λ (x : PullAnswer). Told x) answer;
      spelled = tells.spelled;
      pulled = subst (λ (x : PullAnswer). PulledFrom link.ids (both_after link g).rows tells.question.r0kh_id tells.question.name tells.question.r1kh tells.question.sta x) answer
          (subst (λ (i : List (List ℕ)). PulledFrom i (both_after link g).rows tells.question.r0kh_id tells.question.name tells.question.r1kh tells.question.sta told.given) key.ids tells.pulled);
      asked = somewhere_by (λ u f. IsAskedIn n tells.nonce tells.question u × (tells.question ≡ q)) (λ u f. IsAskedIn n tells.nonce tells.question u) (λ u f p. p.0) g asked;
    }

-- a step that learns, after a history
right_here : (link : Link) (h : List Step) (s : Step) → AreOctets link.kek → IsStep link s h → IsRun link h → NoncesDiffer h → (has_verified s.answer ≡ true → Somewhere (λ t _. t.sent ≡ octets_of s.event) h) → Unforged h
    → (n : ℕ) (a : PullAnswer) → s.answer ≡ Learnt n a → IsRight link n a h
right_here link h s few step run differ sent unforged n a is =
    let by = learnt_by (both_after link h) s.event s.sent s.answer n a is step in
    let l = by.2 in
    let key = same_key link h run in
    let stands = stands-first (has_nonce l.nonce) l.question (both_after link h).asking.questions l.asked in
    let nonce : l.question.nonce ≡ l.nonce = (bytes_eq-Decides l.question.nonce l.nonce).0 stands.1 in
    let was = taken_out (λ (q : Question) (t : Step) (g : List Step). IsAskedIn l.question.n l.question.nonce q t × (l.question ≡ as_open l.question.n l.question.nonce q)) h (was_asked link h run l.question stands.0) in
    let q = was.0 in
    let open_is = somewhere_gives (l.question ≡ as_open l.question.n l.question.nonce q) (λ t g. IsAskedIn l.question.n l.question.nonce q t × (l.question ≡ as_open l.question.n l.question.nonce q)) (λ t g p. p.1) h was.1 in
    let asked = somewhere_by (λ t g. IsAskedIn l.question.n l.question.nonce q t × (l.question ≡ as_open l.question.n l.question.nonce q)) (λ t g. IsAskedIn n l.nonce q t) (λ t g p. (p.0.0 ∙ ap (λ (w : List ℕ). Ask q w) nonce, p.0.1 ∙ ap (λ (i : ℕ). Asked i) (sym l.number))) h was.1 in
    let each = known link l.nonce n q h run unforged (same_asked n l.nonce q h differ asked) in
    let came = somewhere_by (λ t g. t.sent ≡ octets_of s.event) (λ t g. t.sent ≡ by.0) (λ t g e. e ∙ ap octets_of by.1) h (sent (ap has_verified is)) in
    record {
      once = ap (λ (i : ℕ). learnings i h) l.number ∙ not_learnt link h run (has_nonce l.nonce) l.question l.asked;
      told = somewhere_by (λ t g. Known link l.nonce n q t g × (t.sent ≡ by.0)) (IsTold link n a)
          (λ t g p. told_here link few n a l.nonce l.said _ by.0 q l.spelled
          (subst (λ (w : List ℕ). Says w a l.said) key.asker_kek l.says)
          (subst (λ (o : OpenQuestion). IsNamed o.name o.r1kh o.sta a) open_is l.named)
          t g p.0 p.1)
          h (meet (Known link l.nonce n q) (λ t g. t.sent ≡ by.0) h each came);
    }

pub learnt_right : (link : Link) (h : List Step) → AreOctets link.kek → IsRun link h → NoncesDiffer h → Unforged h → LearntRight link h
learnt_right link [] few run differ unforged = tt
learnt_right link (s ∷ g) few run differ unforged = (
  λ n a is. right_here link g s few run.0 run.1 differ.1 unforged.0 unforged.1 n a is,
  learnt_right link g few run.1 differ.1 unforged.1,
)
