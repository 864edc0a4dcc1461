-- How an access point counts the sessions that owe a G2 for the newest group key, so that it asks no station after each
-- event (profile).
use Rattle.std.specs.Prelude.{◌-◌, ℕ, zero, suc, Bool, true, false, cond, List}
use Rattle.authenticator.specs.Groups.{owes_in}
use Rattle.ap_node.specs.declared.station.Station.{Station}
use Rattle.ap_node.specs.State.{station_at, session_in}

-- the session with a station owes a G2 for the group key of that place in the order of drawing
abbrev pub owes_part : ℕ → Station → Bool
owes_part place x = owes_in place (session_in x)

-- how many of the sessions with the first so many stations owe one
abbrev pub owing_below : ℕ → List (ℕ × Station) → ℕ → ℕ
owing_below place stations zero = 0
owing_below place stations (suc k) = cond (owes_part place (station_at stations k)) (suc (owing_below place stations k)) (owing_below place stations k)

-- the count as one session changes, which owed one and owes one now, or not
abbrev pub recounted : ℕ → Bool → Bool → ℕ
recounted n true false = n - 1
recounted n false true = suc n
recounted n owed owes = n
