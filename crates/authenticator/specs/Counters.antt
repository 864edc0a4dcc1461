-- The replay counters of attempts and sessions. Where they start is this project's choice (IEEE Std 802.11-2020, 12.7.2,
-- profile).
use Rattle.std.specs.Prelude.{ℕ, ◌+◌, Bool, true, false, cond, List, [], ◌∷◌, length, Option, Some, None}
use Rattle.authenticator.specs.declared.attempt.Attempt.{Attempt}
use Rattle.authenticator.specs.declared.counters.Offers.{Offers}
use Rattle.authenticator.specs.declared.counters.Offers.TheVariants.{Zero, One, Two, Three, Four}
use Rattle.authenticator.specs.declared.session.Session.{Session}

-- the counters, the last first
abbrev pub listed : Offers → List ℕ
listed Zero = []
listed (One a) = a ∷ []
listed (Two a b) = a ∷ b ∷ []
listed (Three a b c) = a ∷ b ∷ c ∷ []
listed (Four a b c d) = a ∷ b ∷ c ∷ d ∷ []

-- with one more, of four at most
abbrev pub added : ℕ → Offers → Offers
added e Zero = One e
added e (One a) = Two e a
added e (Two a b) = Three e a b
added e (Three a b c) = Four e a b c
added e (Four a b c d) = Four a b c d

-- how many there are
abbrev pub count : Offers → ℕ
count o = length (listed o)

-- the last one that was used in a session
abbrev pub last_in : Option Session → ℕ
last_in None = 0
last_in (Some s) = s.last

-- the last one before the next M1 or M3 of an attempt: its M1 and M3 are counted from 1 on, and an attempt that renews the
-- key of a session goes on with the counters of that session
abbrev pub last_for : Attempt → Option Session → ℕ
last_for a o = cond a.renews (last_in o) (count a.m1s + count a.m3s)

-- the session as a counter was used in an attempt that renews its key; another leaves it as it is
abbrev pub moved : Bool → ℕ → Option Session → Option Session
moved false counter o = o
moved true counter None = None
moved true counter (Some s) = Some (record s { last = counter })
