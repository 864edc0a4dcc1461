-- The end that has key holders (profile).
use Rattle.std.specs.Prelude.{◌≢◌, ℕ, List}
use Rattle.domain_base.specs.declared.names.Mac.{Mac}
use Rattle.mac_prf.specs.Cmac.{cmac}
use Rattle.key_hierarchy.specs.declared.answers.PullAnswer.{PullAnswer}
use Rattle.key_holders.specs.Pulls.{IsNamed}
use Rattle.link_steps.specs.declared.faults.LinkFault.{LinkFault}
use Rattle.link_steps.specs.declared.faults.LinkFault.TheVariants as fault
use Rattle.link_steps.specs.declared.questions.Question.{Question}
use Rattle.holder_link.specs.declared.fields.Said.{Said}
use Rattle.holder_link.specs.declared.server.Server.{Server}
use Rattle.holder_link.specs.Beginnings.{NotOne}
use Rattle.holder_link.specs.Datagrams.{ask_front, answer_front, SpellsAsk, SpellsAnswer, IsAsk}
use Rattle.holder_link.specs.Says.{Says}

-- the octets are an Ask under the link key; the answer is one that key holders give to its question, as `Pulls`
-- says; what is sent is the Answer of its nonce that says so
pub record Tells (s : Server) (octets : List ℕ) (Pulls : List ℕ → List ℕ → Mac → Mac → PullAnswer → Type 0) (answer : PullAnswer) (sent : List ℕ) : Type 0 where
  pub nonce : List ℕ
  pub question : Question
  pub said : Said
  pub spelled : SpellsAsk octets nonce question (cmac s.kck (ask_front nonce question))
  pub pulled : Pulls question.r0kh_id question.name question.r1kh question.sta answer
  pub named : IsNamed question.name question.r1kh question.sta answer
  pub says : Says s.kek answer said
  pub sent_spelled : SpellsAnswer sent nonce said (cmac s.kck (answer_front nonce said))

-- why octets are not answered: they are no Ask; its CMAC is another
abbrev pub RefusesAsk : List ℕ → List ℕ → LinkFault → Type 0
RefusesAsk kck octets (fault.Form place) = NotOne IsAsk octets place
RefusesAsk kck octets fault.Unasked = ⊥
RefusesAsk kck octets fault.Mac =
    (nonce : List ℕ) × (question : Question) × (code : List ℕ) × SpellsAsk octets nonce question code × (code ≢ cmac kck (ask_front nonce question))
RefusesAsk kck octets fault.Wrap = ⊥
