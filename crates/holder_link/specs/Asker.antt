-- The end that asks (profile).
use Rattle.std.specs.Prelude.{◌≡◌, ◌≢◌, ℕ, ◌+◌, List, [], ◌∷◌, ◌++◌, Some, None, if◌then◌else◌}
use Rattle.std.specs.List.{list_any}
use Rattle.mac_prf.specs.Cmac.{cmac}
use Rattle.key_hierarchy.specs.declared.answers.PullAnswer.{PullAnswer}
use Rattle.key_holders.specs.Pulls.{IsNamed}
use Rattle.link_steps.specs.declared.questions.Forgetting.{Forgetting}
use Rattle.link_steps.specs.declared.questions.Forgetting.TheVariants.{Forgot, Nothing}
use Rattle.link_steps.specs.declared.faults.LinkFault.{LinkFault}
use Rattle.link_steps.specs.declared.faults.LinkFault.TheVariants.{Form, Unasked, Mac, Wrap}
use Rattle.link_steps.specs.declared.questions.Question.{Question}
use Rattle.holder_link.specs.declared.fields.Said.{Said}
use Rattle.holder_link.specs.declared.open_questions.OpenQuestion.{OpenQuestion}
use Rattle.holder_link.specs.Beginnings.{NotOne}
use Rattle.holder_link.specs.Datagrams.{answer_front, SpellsAnswer, IsAnswer}
use Rattle.holder_link.specs.Questions.{has_nonce, has_number, first, without}
use Rattle.holder_link.specs.Says.{Says, SaysNothing}

-- the link key, how many questions were asked, and those that are open
pub record Asking : Type 0 where
  pub kck : List ℕ
  pub kek : List ℕ
  pub asked : ℕ
  pub questions : List OpenQuestion

-- the end that asks as it begins: no question was asked, and none is open
abbrev pub no_questions : List ℕ → List ℕ → Asking
no_questions kck kek = record { kck = kck; kek = kek; asked = 0; questions = [] }

-- a question that is open, by its number
abbrev pub as_open : ℕ → List ℕ → Question → OpenQuestion
as_open n nonce q = record { n = n; nonce = nonce; name = q.name; r1kh = q.r1kh; sta = q.sta }

-- the end that asks, with one question more, which is open
abbrev pub after_ask : List ℕ → Question → Asking → Asking
after_ask nonce q s = record s { asked = s.asked + 1; questions = s.questions ++ as_open s.asked nonce q ∷ [] }

-- question n is open no longer
abbrev pub forgotten : ℕ → Asking → Asking
forgotten n s = record s { questions = without (has_number n) s.questions }

-- whether the question was open
abbrev pub forget_answer : ℕ → Asking → Forgetting
forget_answer n s = if list_any (has_number n) s.questions then Forgot else Nothing

-- the octets are an Answer under the link key, to the first open question of its nonce; question n is that one, and
-- the answer is what it says
pub record Learns (s : Asking) (octets : List ℕ) (n : ℕ) (answer : PullAnswer) : Type 0 where
  pub nonce : List ℕ
  pub said : Said
  pub question : OpenQuestion
  pub spelled : SpellsAnswer octets nonce said (cmac s.kck (answer_front nonce said))
  pub asked : first (has_nonce nonce) s.questions ≡ Some question
  pub number : n ≡ question.n
  pub says : Says s.kek answer said
  pub named : IsNamed question.name question.r1kh question.sta answer

-- an Answer of a nonce and what it says, with a CMAC
abbrev pub Spelled : List ℕ → (List ℕ → Said → List ℕ → Type 0) → Type 0
Spelled octets Of = (nonce : List ℕ) × (said : Said) × (code : List ℕ) × SpellsAnswer octets nonce said code × Of nonce said code

-- why octets are not taken: they are no Answer; its nonce is that of no open question; its CMAC is another; what
-- it says is wrapped has no plain text. Each comes only where none before it does
abbrev pub RefusesAnswer : Asking → List ℕ → LinkFault → Type 0
RefusesAnswer s octets (Form place) = NotOne IsAnswer octets place
RefusesAnswer s octets Unasked = Spelled octets (λ nonce said code. first (has_nonce nonce) s.questions ≡ None)
RefusesAnswer s octets Mac = Spelled octets (λ nonce said code.
    (first (has_nonce nonce) s.questions ≢ None) × (code ≢ cmac s.kck (answer_front nonce said)))
RefusesAnswer s octets Wrap = Spelled octets (λ nonce said code.
    (first (has_nonce nonce) s.questions ≢ None) × (code ≡ cmac s.kck (answer_front nonce said)) × SaysNothing s.kek said)
