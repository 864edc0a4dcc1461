-- The keys of a supplicant (this project's choice).
-- For the code alone: no public contract speaks of it.
use Rattle.std.specs.Prelude.{Option, Some, None}
use Rattle.run_journal.specs.declared.reply.Keyed.{Keyed}
use Rattle.node_base.specs.declared.ends.Ends.{Ends}
use Rattle.node_base.specs.PairwiseKeys.{IsKeyOf}
use Rattle.supplicant.specs.declared.base.Base.{Base}
use Rattle.supplicant.specs.declared.attempt.Attempt.{Attempt}
use Rattle.supplicant.specs.declared.session.Session.{Session}
use Rattle.supplicant.specs.Held.{key_in}

-- where a key was derived
abbrev pub IsKeyIn : Ends → Base → Option Keyed → Type 0
IsKeyIn l b None = Unit {0}
IsKeyIn l b (Some y) = IsKeyOf l b.pmk y

abbrev pub IsKeyInAttempt : Ends → Base → Option Attempt → Type 0
IsKeyInAttempt l b None = Unit {0}
IsKeyInAttempt l b (Some a) = IsKeyIn l b a.key

abbrev pub IsKeyInSession : Ends → Base → Option Session → Type 0
IsKeyInSession l b None = Unit {0}
IsKeyInSession l b (Some x) = IsKeyIn l b (key_in x)

-- what is true of every supplicant: its keys are those of their nonces
pub record IsOwn (l : Ends) (b : Base) (a : Option Attempt) (x : Option Session) : Type 0 where
  pub tried : IsKeyInAttempt l b a
  pub held : IsKeyInSession l b x
