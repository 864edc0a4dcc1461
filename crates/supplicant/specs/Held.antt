-- What a session has (profile).
use Rattle.std.specs.Prelude.{ℕ, Bool, true, false, Option, Some, None}
use Rattle.key_hierarchy.specs.declared.inputs.Ptk.{Ptk}
use Rattle.run_journal.specs.declared.reply.Keyed.{Keyed}
use Rattle.supplicant.specs.declared.session.Session.{Session}
use Rattle.supplicant.specs.declared.session.Session.TheVariants.{Connect, Ft}

-- the key of a session
abbrev pub ptk_of : Session → Ptk
ptk_of (Connect key counter) = key.ptk
ptk_of (Ft ptk counter) = ptk

-- the replay counter that is kept, where one is
abbrev pub kept_of : Session → Option ℕ
kept_of (Connect key counter) = Some counter
kept_of (Ft ptk counter) = counter

-- a session with that replay counter
abbrev pub counted : ℕ → Session → Session
counted counter (Connect key was) = Connect key counter
counted counter (Ft ptk was) = Ft ptk (Some counter)

-- the key with its nonces, in a session of a four-way handshake
abbrev pub key_in : Session → Option Keyed
key_in (Connect key counter) = Some key
key_in (Ft ptk counter) = None

-- the replay counter that is kept in a session, where there is one and it keeps one
abbrev pub counter_in : Option Session → Option ℕ
counter_in None = None
counter_in (Some x) = kept_of x

-- the session began by a four-way handshake
abbrev pub is_connected : Option Session → Bool
is_connected None = false
is_connected (Some (Connect key counter)) = true
is_connected (Some (Ft ptk counter)) = false
