-- Acts by what their lines have in common, as the code writes them.
-- For the code alone: no public contract speaks of it.
use Rattle.run_journal.specs.declared.acts.Act.{Act}
use Rattle.run_journal.specs.declared.acts.Act.TheVariants.{Opened, Closed, Drew, Derived, Sent, Took, Installed, Resumed, Used, HandedUp, Finished, Put, Looked, Revoked, Secret, GaveUp, Idle}

-- few words
abbrev pub IsShort : Act → Type 0
IsShort (Opened p s) = Unit {0}
IsShort (Closed p part) = Unit {0}
IsShort (Drew v) = Unit {0}
IsShort (Secret p psk) = Unit {0}
IsShort (GaveUp p m) = Unit {0}
IsShort (Idle y) = Unit {0}
IsShort _ = ⊥

-- a key, or what it is derived from
abbrev pub IsKeyed : Act → Type 0
IsKeyed (Derived p i k) = Unit {0}
IsKeyed (Installed p key) = Unit {0}
IsKeyed (Resumed p key) = Unit {0}
IsKeyed (Finished p i) = Unit {0}
IsKeyed _ = ⊥

-- a frame, a packet number or a payload
abbrev pub IsTraffic : Act → Type 0
IsTraffic (Sent p k octets s) = Unit {0}
IsTraffic (Took from octets k o s) = Unit {0}
IsTraffic (Used p key id number octets) = Unit {0}
IsTraffic (HandedUp p key id tid number octets) = Unit {0}
IsTraffic _ = ⊥

-- what a key holder was asked
abbrev pub IsHolding : Act → Type 0
IsHolding (Put x m p answer) = Unit {0}
IsHolding (Looked x m p answer) = Unit {0}
IsHolding (Revoked x m p answer) = Unit {0}
IsHolding _ = ⊥
