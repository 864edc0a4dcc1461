-- Room that is enough for a line, and the parts that long lines are written in (profile).
use Rattle.std.specs.Prelude.{ℕ, ◌+◌, ◌*◌, List, [], ◌∷◌, ◌++◌, codes, decimal, length}
use Rattle.domain_base.specs.Names.{node_text}
use Rattle.domain_base.specs.declared.names.Node.{Node}
use Rattle.link_steps.specs.declared.steps.LinkAnswer.{LinkAnswer}
use Rattle.link_steps.specs.declared.steps.LinkAnswer.TheVariants.{Asked, Full, Closed}
use Rattle.run_journal.specs.declared.acts.Act.{Act}
use Rattle.run_journal.specs.declared.acts.Act.TheVariants.{Opened, Closed, Sent, Used, HandedUp, Finished, Put, Looked, Revoked, Secret, GaveUp}
use Rattle.run_journal.specs.declared.acts.Entry.{Entry}

-- the octets that are handed up, where any are
abbrev pub payload_of : Act → List ℕ
payload_of (HandedUp p key id tid number octets) = octets
payload_of _ = []

-- two digits for each octet of a payload, and 128 for all the rest
abbrev pub room_of : Entry → ℕ
room_of e = 128 + 2 * length (payload_of e.act)

-- an attempt or a session began, was finished or ended, or a key was changed
abbrev pub IsAttempt : Act → Type 0
IsAttempt (Opened p s) = Unit {0}
IsAttempt (Closed p t) = Unit {0}
IsAttempt (Finished p i) = Unit {0}
IsAttempt (GaveUp p m) = Unit {0}
IsAttempt (Secret p psk) = Unit {0}
IsAttempt _ = ⊥

-- a key holder was asked
abbrev pub IsHolding : Act → Type 0
IsHolding (Put x m p answer) = Unit {0}
IsHolding (Looked x m p answer) = Unit {0}
IsHolding (Revoked x m p answer) = Unit {0}
IsHolding _ = ⊥

-- a frame was sent, a packet number used or a payload handed up
abbrev pub IsTraffic : Act → Type 0
IsTraffic (Sent p k octets s) = Unit {0}
IsTraffic (Used p key id number octets) = Unit {0}
IsTraffic (HandedUp p key id tid number octets) = Unit {0}
IsTraffic _ = ⊥

-- what became of a question: it was asked, or not, or is to be open no longer
abbrev pub IsQuestioning : LinkAnswer → Type 0
IsQuestioning (Asked n) = Unit {0}
IsQuestioning Full = Unit {0}
IsQuestioning (Closed f) = Unit {0}
IsQuestioning _ = ⊥

-- the line of a payload handed up, as far as the space before the payload
abbrev pub up_head : Node → Node → ℕ → ℕ → ℕ → List ℕ
up_head n p id tid number =
    codes "up " ++ node_text n ++ 32 ∷ node_text p ++ 32 ∷ decimal id ++ 32 ∷ decimal tid ++ 32 ∷ decimal number ++ 32 ∷ []
