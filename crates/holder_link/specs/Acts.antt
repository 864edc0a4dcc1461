-- What an event does at the two ends, by what they have (profile).
use Rattle.std.specs.Prelude.{◌≡◌, ℕ, ◌<◌, ◌-◌, ◌^◌, List, [], length, ⊤}
use Rattle.domain_base.specs.declared.names.Mac.{Mac}
use Rattle.mac_prf.specs.Cmac.{cmac}
use Rattle.key_hierarchy.specs.declared.answers.PullAnswer.{PullAnswer}
use Rattle.key_holders.specs.declared.rows.HeldRow.{HeldRow}
use Rattle.key_holders.specs.declared.rows.HolderRow.{HolderRow}
use Rattle.key_holders.specs.Rows.{put_answer, after_put, revoke_answer, after_revoke}
use Rattle.key_holders.specs.Pulls.{MayPull, ByHolder}
use Rattle.link_steps.specs.declared.faults.LinkFault.{LinkFault}
use Rattle.link_steps.specs.declared.questions.Question.{Question}
use Rattle.holder_link.specs.declared.server.Server.{Server}
use Rattle.link_steps.specs.declared.steps.LinkEvent.{LinkEvent}
use Rattle.link_steps.specs.declared.steps.LinkEvent.TheVariants.{Ask, Forget, Row, Revoke, ToAsker, ToHolder}
use Rattle.link_steps.specs.declared.steps.LinkAnswer.{LinkAnswer}
use Rattle.link_steps.specs.declared.steps.LinkAnswer.TheVariants.{Asked, Full, Closed, Put, Revoked, Learnt, Told, Refused}
use Rattle.holder_link.specs.Asker.{Asking, after_ask, forgotten, forget_answer, Learns, RefusesAnswer}
use Rattle.holder_link.specs.Datagrams.{IsQuestion, ask_front, SpellsAsk}
use Rattle.holder_link.specs.Server.{Tells, RefusesAsk}

-- what the two ends have: the link key, the questions, and the R0KH-ID and the rows of the one access point
pub record BothHave : Type 0 where
  pub server : Server
  pub asking : Asking
  pub ids : List (List ℕ)
  pub rows : List HeldRow

-- what is asked is a question, and fewer than 2^64 - 1 were asked before
abbrev pub IsFormed : LinkEvent → Asking → Type 0
IsFormed (Ask q nonce) s = IsQuestion q × (s.asked < 2 ^ 64 - 1)
IsFormed (Forget n) s = ⊤
IsFormed (Row row) s = ⊤
IsFormed (Revoke name) s = ⊤
IsFormed (ToAsker octets) s = ⊤
IsFormed (ToHolder octets) s = ⊤

-- an answer that the key holders give, by the rows that they have
abbrev pub PulledFrom : List (List ℕ) → List HeldRow → List ℕ → List ℕ → Mac → Mac → PullAnswer → Type 0
PulledFrom ids rows r0kh_id name r1kh sta answer = ByHolder ids r0kh_id (λ _ a. MayPull rows name r1kh sta a) answer

-- what an event sends, and what becomes of it
pub data Acts (b : BothHave) (event : LinkEvent) (sent : List ℕ) (answer : LinkAnswer) : Type 0 where
  Asks : (q : Question) (nonce : List ℕ) → event ≡ Ask q nonce → answer ≡ Asked b.asking.asked
      → length b.asking.questions < 64 → SpellsAsk sent nonce q (cmac b.asking.kck (ask_front nonce q)) → Acts b event sent answer
  AsksTooMany : (q : Question) (nonce : List ℕ) → event ≡ Ask q nonce → answer ≡ Full
      → length b.asking.questions ≡ 64 → sent ≡ [] → Acts b event sent answer
  Forgets : (n : ℕ) → event ≡ Forget n → answer ≡ Closed (forget_answer n b.asking) → sent ≡ [] → Acts b event sent answer
  Puts : (row : HolderRow) → event ≡ Row row → answer ≡ Put (put_answer row.name b.rows) → sent ≡ [] → Acts b event sent answer
  Revokes : (name : List ℕ) → event ≡ Revoke name → answer ≡ Revoked (revoke_answer name b.rows) → sent ≡ [] → Acts b event sent answer
  Takes : (octets : List ℕ) (n : ℕ) (a : PullAnswer) → event ≡ ToAsker octets → answer ≡ Learnt n a
      → Learns b.asking octets n a → sent ≡ [] → Acts b event sent answer
  RefusesToTake : (octets : List ℕ) (fault : LinkFault) → event ≡ ToAsker octets → answer ≡ Refused fault
      → RefusesAnswer b.asking octets fault → sent ≡ [] → Acts b event sent answer
  Answers : (octets : List ℕ) (a : PullAnswer) → event ≡ ToHolder octets → answer ≡ Told a
      → Tells b.server octets (PulledFrom b.ids b.rows) a sent → Acts b event sent answer
  RefusesToAnswer : (octets : List ℕ) (fault : LinkFault) → event ≡ ToHolder octets → answer ≡ Refused fault
      → RefusesAsk b.server.kck octets fault → sent ≡ [] → Acts b event sent answer

-- what the two ends then have
abbrev pub after : LinkEvent → LinkAnswer → BothHave → BothHave
after (Ask q nonce) (Asked n) b = record b { asking = after_ask nonce q b.asking }
after (Forget n) (Closed f) b = record b { asking = forgotten n b.asking }
after (Row row) (Put a) b = record b { rows = after_put row a b.rows }
after (Revoke name) (Revoked a) b = record b { rows = after_revoke name a b.rows }
after (ToAsker octets) (Learnt n a) b = record b { asking = forgotten n b.asking }
after _ _ b = b
