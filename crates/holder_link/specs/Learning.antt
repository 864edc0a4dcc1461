-- What is right of what was learnt, and what it rests on (profile).
use Rattle.std.specs.Prelude.{◌≡◌, ℕ, suc, Bool, true, false, ◌==◌, if◌then◌else◌, List, [], ◌∷◌}
use Rattle.key_hierarchy.specs.declared.answers.PullAnswer.{PullAnswer}
use Rattle.link_steps.specs.declared.faults.LinkFault.TheVariants.{Wrap}
use Rattle.link_steps.specs.declared.questions.Question.{Question}
use Rattle.link_steps.specs.declared.steps.LinkEvent.{LinkEvent}
use Rattle.link_steps.specs.declared.steps.LinkEvent.TheVariants.{Ask, ToAsker, ToHolder}
use Rattle.link_steps.specs.declared.steps.LinkAnswer.{LinkAnswer}
use Rattle.link_steps.specs.declared.steps.LinkAnswer.TheVariants.{Asked, Learnt, Told, Refused}
use Rattle.link_steps.specs.declared.steps.Step.{Step}
use Rattle.holder_link.specs.Acts.{PulledFrom}
use Rattle.holder_link.specs.Datagrams.{SpellsAsk}
use Rattle.holder_link.specs.History.{Everywhere, Somewhere, Link, both_after}

-- question n was asked in it, with that nonce
abbrev pub IsAskedIn : ℕ → List ℕ → Question → Step → Type 0
IsAskedIn n nonce q s = (s.event ≡ Ask q nonce) × (s.answer ≡ Asked n)

-- some question was asked with that nonce
abbrev pub HasNonce : List ℕ → Step → List Step → Type 0
HasNonce nonce s before = (n : ℕ) × (q : Question) × IsAskedIn n nonce q s

-- no two questions were asked with one nonce
abbrev pub NoncesDiffer : List Step → Type 0
NoncesDiffer h = Everywhere (λ s before. (n : ℕ) (nonce : List ℕ) (q : Question) → IsAskedIn n nonce q s → ¬ Somewhere (HasNonce nonce) before) h

-- the CMAC of what came verified
abbrev pub has_verified : LinkAnswer → Bool
has_verified (Learnt n a) = true
has_verified (Told a) = true
has_verified (Refused Wrap) = true
has_verified _ = false

-- the octets that came in a step
abbrev pub octets_of : LinkEvent → List ℕ
octets_of (ToAsker octets) = octets
octets_of (ToHolder octets) = octets
octets_of _ = []

-- each CMAC that verified belongs to a datagram that an end sent before
abbrev pub Unforged : List Step → Type 0
Unforged h = Everywhere (λ s before. has_verified s.answer ≡ true → Somewhere (λ t _. t.sent ≡ octets_of s.event) before) h

-- in this step that question was learnt
abbrev pub learns : ℕ → LinkAnswer → Bool
learns n (Learnt m a) = m == n
learns n _ = false

-- how often question n was learnt
abbrev pub learnings : ℕ → List Step → ℕ
learnings n [] = 0
learnings n (s ∷ before) = if learns n s.answer then suc (learnings n before) else learnings n before

-- the server gave that answer to question n, which was asked before: it is one of a pull of its rows at that
-- point
pub record IsTold (link : Link) (n : ℕ) (answer : PullAnswer) (s : Step) (before : List Step) : Type 0 where
  pub octets : List ℕ
  pub nonce : List ℕ
  pub question : Question
  pub code : List ℕ
  pub came : s.event ≡ ToHolder octets
  pub told : s.answer ≡ Told answer
  pub spelled : SpellsAsk octets nonce question code
  pub pulled : PulledFrom link.ids (both_after link before).rows question.r0kh_id question.name question.r1kh question.sta answer
  pub asked : Somewhere (λ t _. IsAskedIn n nonce question t) before

-- question n was not learnt before, and its answer is one that the server gave to it
pub record IsRight (link : Link) (n : ℕ) (answer : PullAnswer) (before : List Step) : Type 0 where
  pub once : learnings n before ≡ 0
  pub told : Somewhere (IsTold link n answer) before

-- each question is learnt at most once, after its ask, and its answer is one that the server gave to it, by its rows
-- at that point
abbrev pub LearntRight : Link → List Step → Type 0
LearntRight link h = Everywhere (λ s before. (n : ℕ) (a : PullAnswer) → s.answer ≡ Learnt n a → IsRight link n a before) h
