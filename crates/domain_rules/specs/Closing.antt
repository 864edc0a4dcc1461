-- What acts of several rows have in common: what is closed, the next nonce, and whom a frame is from (profile).
use Rattle.std.specs.Prelude.{ℕ, ◌+◌, List, [], ◌∷◌, Option, Some, None, option_and_then}
use Rattle.domain_base.specs.declared.names.Node.{Node}
use Rattle.air_frame.specs.Fields.{HeaderFields}
use Rattle.run_journal.specs.declared.domain.Domain.{Domain}
use Rattle.run_journal.specs.declared.acts.Part.TheVariants.{Attempt, Session}
use Rattle.run_journal.specs.declared.acts.Why.TheVariants as why
use Rattle.run_journal.specs.declared.acts.Act.{Act}
use Rattle.run_journal.specs.declared.acts.Act.TheVariants.{Closed, Idle}
use Rattle.run_journal.specs.Questions.{draws}
use Rattle.run_journal.specs.Acts.{Derivation}
use Rattle.domain_rules.specs.Network.{peer_of, nonce}
use Rattle.domain_rules.specs.Reading.{Reading, header_of}

-- the attempt with p is closed, where there is one
abbrev pub close_attempt : Node → Option (List Act) → List Act
close_attempt p None = []
close_attempt p (Some part) = Closed p Attempt ∷ []

-- the session with p is closed, where there is one
abbrev pub close_session : Node → Option Derivation → List Act
close_session p None = []
close_session p (Some x) = Closed p Session ∷ []

-- the attempt that a station has is closed, whoever its peer is
abbrev pub close_pending : Option Node → List Act
close_pending None = []
close_pending (Some p) = Closed p Attempt ∷ []

-- the session that a station has is closed, whoever its peer is
abbrev pub close_associated : Option Node → List Act
close_associated None = []
close_associated (Some p) = Closed p Session ∷ []

-- these acts, or that there is nothing to do
abbrev pub or_nothing : List Act → List Act
or_nothing [] = Idle why.Nothing ∷ []
or_nothing (e ∷ g) = e ∷ g

-- the next nonce of node n, which began to draw at number `first`
abbrev pub next_nonce : Domain → ℕ → Node → List Act → List ℕ
next_nonce d first n h = nonce d n (first + draws h)

-- the sender that a frame names, where there is one
abbrev pub sender : Domain → Node → Reading → Option Node
sender d n r = option_and_then (λ (h : HeaderFields). peer_of d n h.a2) (header_of r)
