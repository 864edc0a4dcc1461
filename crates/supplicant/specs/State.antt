-- What contracts see of a supplicant (profile).
use Rattle.std.specs.Prelude.{Bool, ◌&&◌, Option, is_some}
use Rattle.group_key.specs.Keys.{Memories}
use Rattle.node_base.specs.declared.ends.Ends.{Ends}
use Rattle.supplicant.specs.declared.base.Base.{Base}
use Rattle.supplicant.specs.declared.attempt.Attempt.{Attempt}
use Rattle.supplicant.specs.declared.session.Session.{Session}

-- the ends, what attempts go back to, and the attempt and the session that there are
pub record State : Type 0 where
  pub ends : Ends
  pub base : Base
  pub attempt : Option Attempt
  pub session : Option Session

-- an attempt renews the key of the session
abbrev pub is_renewing : State → Bool
is_renewing s = is_some s.attempt && is_some s.session

-- the same ends with that attempt and that session
abbrev pub having : Option Attempt → Option Session → State → State
having a x s = record { ends = s.ends; base = s.base; attempt = a; session = x }

-- a supplicant, and the group keys that are kept of its access point
pub record Both : Type 0 where
  pub part : State
  pub keys : Memories

-- a supplicant with these group keys
abbrev pub both : State → Memories → Both
both s m = record { part = s; keys = m }
