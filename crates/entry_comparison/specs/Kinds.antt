-- Kinds of acts (profile).
use Rattle.run_journal.specs.declared.acts.Act.{Act}
use Rattle.run_journal.specs.declared.acts.Act.TheVariants.{Opened, Closed, Drew, Derived, Sent, Took, Installed, Resumed, Used, HandedUp, Finished, Put, Looked, Revoked, Secret, GaveUp, Idle, Link}

-- the act is one of a node: a step of a link is none
abbrev pub IsNodeAct : Act → Type 0
IsNodeAct (Link sta s) = ⊥
IsNodeAct _ = Unit {0}

-- an attempt or a session begins or ends, an attempt is given up, or an event is not done
abbrev pub IsAttempt : Act → Type 0
IsAttempt (Opened p s) = Unit {0}
IsAttempt (Closed p part) = Unit {0}
IsAttempt (Finished p i) = Unit {0}
IsAttempt (GaveUp p m) = Unit {0}
IsAttempt (Idle why_) = Unit {0}
IsAttempt _ = ⊥

-- a value is drawn, or a key derived, installed or resumed
abbrev pub IsKeyed : Act → Type 0
IsKeyed (Drew v) = Unit {0}
IsKeyed (Derived p i k) = Unit {0}
IsKeyed (Installed q key) = Unit {0}
IsKeyed (Resumed p key) = Unit {0}
IsKeyed _ = ⊥

-- a frame is taken or sent
abbrev pub IsFrame : Act → Type 0
IsFrame (Took from octets k o s) = Unit {0}
IsFrame (Sent q k octets s) = Unit {0}
IsFrame _ = ⊥

-- a packet number is used, or a payload handed up
abbrev pub IsData : Act → Type 0
IsData (Used q key id n octets) = Unit {0}
IsData (HandedUp p key id tid n octets) = Unit {0}
IsData _ = ⊥

-- a key holder is told or asked something, or a key is changed
abbrev pub IsHolding : Act → Type 0
IsHolding (Put x m p answer) = Unit {0}
IsHolding (Looked x m p answer) = Unit {0}
IsHolding (Revoked x m p answer) = Unit {0}
IsHolding (Secret p psk) = Unit {0}
IsHolding _ = ⊥
