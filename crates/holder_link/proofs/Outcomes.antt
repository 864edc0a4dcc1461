-- What becomes of octets that come is one thing at most.
use Rattle.std.proofs.Common.{◌≡◌, ◌≢◌, ℕ, List, ◌++◌, Some, None, refl, sym, ap, ◌∙◌, arith, inl, inr}
use Rattle.std.proofs.lemmas.Bool.{cases_lt}
use Rattle.domain_base.specs.Octets.{AreOctets}
use Rattle.mac_prf.specs.Cmac.{cmac}
use Rattle.key_hierarchy.specs.declared.answers.PullAnswer.{PullAnswer}
use Rattle.key_hierarchy.specs.declared.answers.PullAnswer.TheVariants as pulled
use Rattle.domain_base.specs.declared.names.Mac.{Mac}
use Rattle.key_holders.specs.Pulls.{IsNamed}
use Rattle.link_steps.specs.declared.faults.LinkFault.{LinkFault}
use Rattle.link_steps.specs.declared.faults.LinkFault.TheVariants as fault
use Rattle.link_steps.specs.declared.questions.Question.{Question}
use Rattle.holder_link.specs.declared.fields.Said.{Said}
use Rattle.holder_link.specs.declared.fields.Said.TheVariants.{Found, NoHolder, Absent}
use Rattle.holder_link.specs.declared.open_questions.OpenQuestion.{OpenQuestion}
use Rattle.holder_link.specs.declared.server.Server.{Server}
use Rattle.holder_link.specs.Asker.{Asking, Learns, Spelled, RefusesAnswer}
use Rattle.holder_link.specs.Beginnings.{NotOne}
use Rattle.holder_link.specs.Datagrams.{ask_front, answer_front, SpellsAnswer, IsAsk, IsAnswer}
use Rattle.holder_link.specs.Questions.{first, has_nonce}
use Rattle.holder_link.specs.Says.{Says, SaysNothing}
use Rattle.holder_link.specs.Server.{Tells, RefusesAsk}
use Rattle.holder_link.proofs.Asks.{same_ask}
use Rattle.holder_link.proofs.Learnt.{same_said}
use Rattle.holder_link.proofs.Replies.{same_answer}

-- octets that are none begin one up to one place
one_place : (A : List ℕ → Type 0) (octets : List ℕ) (p q : ℕ) → NotOne A octets p → NotOne A octets q → p ≡ q
one_place A octets p q n m = elim (cases_lt p q) [
  | inl less ↦ absurd (n.longest q less m.within m.begins)
  | inr most ↦ elim (cases_lt q p) [
    | inl less ↦ absurd (m.longest p less n.within n.begins)
    | inr least ↦ omega (arith, most, least)
  ]
]

-- what is so of an Answer's fields is so of those of another account of it
moved : (Of : List ℕ → Said → List ℕ → Type 0) (octets nonce : List ℕ) (said : Said) (code : List ℕ) → SpellsAnswer octets nonce said code → Spelled octets Of → Of nonce said code
moved Of octets nonce said code s r = let e = same_answer octets nonce r.0 said r.1 code r.2 s r.3 in rw (e.0, e.1, e.2) r.4

-- what the faults say of an Answer
abbrev NotAsked : Asking → List ℕ → Said → List ℕ → Type 0
NotAsked s nonce said code = first (has_nonce nonce) s.questions ≡ None

abbrev OtherMac : Asking → List ℕ → Said → List ℕ → Type 0
OtherMac s nonce said code = (first (has_nonce nonce) s.questions ≢ None) × (code ≢ cmac s.kck (answer_front nonce said))

abbrev NoText : Asking → List ℕ → Said → List ℕ → Type 0
NoText s nonce said code = (first (has_nonce nonce) s.questions ≢ None) × (code ≡ cmac s.kck (answer_front nonce said)) × SaysNothing s.kek said

module _ (s : Asking) (octets : List ℕ) where
  pub one_fault : (e f : LinkFault) → RefusesAnswer s octets e → RefusesAnswer s octets f → e ≡ f
  one_fault (fault.Form p) (fault.Form q) a b = ap (λ (n : ℕ). fault.Form n) (one_place IsAnswer octets p q a b)
  one_fault (fault.Form p) fault.Unasked a b = absurd (a.none (b.0, b.1, b.2, b.3))
  one_fault (fault.Form p) fault.Mac a b = absurd (a.none (b.0, b.1, b.2, b.3))
  one_fault (fault.Form p) fault.Wrap a b = absurd (a.none (b.0, b.1, b.2, b.3))
  one_fault fault.Unasked (fault.Form q) a b = absurd (b.none (a.0, a.1, a.2, a.3))
  one_fault fault.Unasked fault.Unasked a b = refl
  one_fault fault.Unasked fault.Mac a b = absurd ((moved (OtherMac s) octets a.0 a.1 a.2 a.3 b).0 a.4)
  one_fault fault.Unasked fault.Wrap a b = absurd ((moved (NoText s) octets a.0 a.1 a.2 a.3 b).0 a.4)
  one_fault fault.Mac (fault.Form q) a b = absurd (b.none (a.0, a.1, a.2, a.3))
  one_fault fault.Mac fault.Unasked a b = absurd (a.4.0 (moved (NotAsked s) octets a.0 a.1 a.2 a.3 b))
  one_fault fault.Mac fault.Mac a b = refl
  one_fault fault.Mac fault.Wrap a b = absurd (a.4.1 (moved (NoText s) octets a.0 a.1 a.2 a.3 b).1)
  one_fault fault.Wrap (fault.Form q) a b = absurd (b.none (a.0, a.1, a.2, a.3))
  one_fault fault.Wrap fault.Unasked a b = absurd (a.4.0 (moved (NotAsked s) octets a.0 a.1 a.2 a.3 b))
  one_fault fault.Wrap fault.Mac a b = absurd ((moved (OtherMac s) octets a.0 a.1 a.2 a.3 b).1 a.4.1)
  one_fault fault.Wrap fault.Wrap a b = refl

  says_some : (kek : List ℕ) (a : PullAnswer) (said : Said) → Says kek a said → SaysNothing kek said → ⊥
  says_some kek (pulled.Found r1) (Found w) is none = none r1.key is
  says_some kek pulled.NoHolder (Found w) is none = is
  says_some kek pulled.Absent (Found w) is none = is
  says_some kek a NoHolder is none = none
  says_some kek a Absent is none = none

  some_open : {o : OpenQuestion} (nonce : List ℕ) → first (has_nonce nonce) s.questions ≡ Some o → first (has_nonce nonce) s.questions ≡ None → ⊥
  some_open nonce e f = absurd (let g = sym e ∙ f in cc)

  pub learnt_or_refused : (n : ℕ) (a : PullAnswer) (e : LinkFault) → Learns s octets n a → RefusesAnswer s octets e → ⊥
  learnt_or_refused n a (fault.Form p) l r = r.none (l.nonce, l.said, _, l.spelled)
  learnt_or_refused n a fault.Unasked l r = some_open l.nonce l.asked (moved (NotAsked s) octets l.nonce l.said _ l.spelled r)
  learnt_or_refused n a fault.Mac l r = (moved (OtherMac s) octets l.nonce l.said _ l.spelled r).1 refl
  learnt_or_refused n a fault.Wrap l r = says_some s.kek a l.said l.says (moved (NoText s) octets l.nonce l.said _ l.spelled r).2

  same_question : {o p : OpenQuestion} (nonce other : List ℕ) → nonce ≡ other → first (has_nonce nonce) s.questions ≡ Some o → first (has_nonce other) s.questions ≡ Some p → o ≡ p
  same_question nonce other e f g = some_is (sym f ∙ ap (λ (w : List ℕ). first (has_nonce w) s.questions) e ∙ g) where
    some_is : {o p : OpenQuestion} → Some o ≡ Some p → o ≡ p
    some_is e = cc

  pub learnt_once : (few : AreOctets s.kek) (n m : ℕ) (a b : PullAnswer) → Learns s octets n a → Learns s octets m b → (n ≡ m) × (a ≡ b)
  learnt_once few n m a b l k =
      let e = same_answer octets l.nonce k.nonce l.said k.said _ _ l.spelled k.spelled in
      let q = same_question l.nonce k.nonce e.0 l.asked k.asked in (
        l.number ∙ ap (λ (o : OpenQuestion). o.n) q ∙ sym k.number,
        same_said s.kek k.question.name k.question.r1kh k.question.sta few k.said a b (says_at e.1 l.says) k.says (named_at q l.named) k.named,
      )
    where
      says_at : {p q : Said} → p ≡ q → Says s.kek a p → Says s.kek a q
      says_at e is = rw (← e) is

      named_at : {o p : OpenQuestion} → o ≡ p → IsNamed o.name o.r1kh o.sta a → IsNamed p.name p.r1kh p.sta a
      named_at e is = rw (← e) is

-- at the other end
pub one_ask_fault : (kck octets : List ℕ) (e f : LinkFault) → RefusesAsk kck octets e → RefusesAsk kck octets f → e ≡ f
one_ask_fault kck octets (fault.Form p) (fault.Form q) a b = ap (λ (n : ℕ). fault.Form n) (one_place IsAsk octets p q a b)
one_ask_fault kck octets (fault.Form p) fault.Mac a b = absurd (a.none (b.0, b.1, b.2, b.3))
one_ask_fault kck octets (fault.Form p) fault.Unasked a b = absurd b
one_ask_fault kck octets (fault.Form p) fault.Wrap a b = absurd b
one_ask_fault kck octets fault.Mac (fault.Form q) a b = absurd (b.none (a.0, a.1, a.2, a.3))
one_ask_fault kck octets fault.Mac fault.Mac a b = refl
one_ask_fault kck octets fault.Mac fault.Unasked a b = absurd b
one_ask_fault kck octets fault.Mac fault.Wrap a b = absurd b
one_ask_fault kck octets fault.Unasked f a b = absurd a
one_ask_fault kck octets fault.Wrap f a b = absurd a

pub told_or_refused : (s : Server) (octets : List ℕ) (P : List ℕ → List ℕ → Mac → Mac → PullAnswer → Type 0) (a : PullAnswer) (sent : List ℕ) (e : LinkFault) → Tells s octets P a sent → RefusesAsk s.kck octets e → ⊥
told_or_refused s octets P a sent (fault.Form p) t r = r.none (t.nonce, t.question, _, t.spelled)
told_or_refused s octets P a sent fault.Unasked t r = r
told_or_refused s octets P a sent fault.Wrap t r = r
told_or_refused s octets P a sent fault.Mac t r =
    let e = same_ask octets t.nonce r.0 t.question r.1 _ r.2 t.spelled r.3 in
    r.4 (sym e.2 ∙ ap (λ (w : List ℕ). cmac s.kck (ask_front w t.question)) e.0 ∙ ap (λ (q : Question). cmac s.kck (ask_front r.0 q)) e.1)

-- an answer is said in one way
said_once : (kek : List ℕ) (a : PullAnswer) (p q : Said) → Says kek a p → Says kek a q → p ≡ q
said_once kek (pulled.Found r1) (Found v) (Found w) is too = ap (λ (o : List ℕ). Found o) (is.wrapped ∙ sym too.wrapped)
said_once kek (pulled.Found r1) (Found v) NoHolder is too = absurd too
said_once kek (pulled.Found r1) (Found v) Absent is too = absurd too
said_once kek (pulled.Found r1) NoHolder q is too = absurd is
said_once kek (pulled.Found r1) Absent q is too = absurd is
said_once kek pulled.NoHolder (Found v) q is too = absurd is
said_once kek pulled.NoHolder Absent q is too = absurd is
said_once kek pulled.NoHolder NoHolder (Found w) is too = absurd too
said_once kek pulled.NoHolder NoHolder NoHolder is too = refl
said_once kek pulled.NoHolder NoHolder Absent is too = absurd too
said_once kek pulled.Absent (Found v) q is too = absurd is
said_once kek pulled.Absent NoHolder q is too = absurd is
said_once kek pulled.Absent Absent (Found w) is too = absurd too
said_once kek pulled.Absent Absent NoHolder is too = absurd too
said_once kek pulled.Absent Absent Absent is too = refl

pub sent_once : (s : Server) (octets : List ℕ) (P Q : List ℕ → List ℕ → Mac → Mac → PullAnswer → Type 0) (a : PullAnswer) (sent other : List ℕ) → Tells s octets P a sent → Tells s octets Q a other → sent ≡ other
sent_once s octets P Q a sent other t u =
    let nonce = (same_ask octets t.nonce u.nonce t.question u.question _ _ t.spelled u.spelled).0 in
    let said = said_once s.kek a t.said u.said t.says u.says in
    t.sent_spelled.whole
    ∙ ap (λ (w : List ℕ). answer_of w t.said) nonce
    ∙ ap (λ (x : Said). answer_of u.nonce x) said
    ∙ sym u.sent_spelled.whole
  where
    answer_of : List ℕ → Said → List ℕ
    answer_of nonce said = answer_front nonce said ++ cmac s.kck (answer_front nonce said)
