-- What contracts see of an authenticator (profile).
use Rattle.std.specs.Prelude.{Option}
use Rattle.node_base.specs.declared.ends.Ends.{Ends}
use Rattle.authenticator.specs.declared.attempt.Attempt.{Attempt}
use Rattle.authenticator.specs.declared.session.Session.{Session}

-- the ends, and the attempt and the session with the peer, where there is one
pub record State : Type 0 where
  pub ends : Ends
  pub attempt : Option Attempt
  pub session : Option Session

-- an attempt as it begins, of that nonce and that RSNE
abbrev pub beginning : Ends → Option Attempt → Option Session → State
beginning ends attempt session =
    record { ends = ends; attempt = attempt; session = session }

-- an authenticator with that session
abbrev pub with_session : Option Session → State → State
with_session session s = record s { session = session }

-- an authenticator with that attempt
abbrev pub with_attempt : Option Attempt → State → State
with_attempt attempt s = record s { attempt = attempt }
