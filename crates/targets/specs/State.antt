-- What contracts see of the fast transitions of an access point with a station (IEEE Std 802.11-2020, 13.7.1,
-- profile).
use Rattle.std.specs.Prelude.{ℕ, Bool, true, false, cond, not, ◌&&◌, List, [], Option, Some, None}
use Rattle.rsn_elements.specs.Elements.{ElementFields}
use Rattle.ft_exchange.specs.State.{TargetState}
use Rattle.ft_exchange.specs.Tried.{is_with}
use Rattle.targets.specs.declared.moves.Moves.{Moves}

-- a station with which there is no fast transition (profile)
abbrev pub no_moves : Moves
no_moves = record { pending = None; held = None }

-- no attempt is under way any longer (profile)
abbrev pub without_pending : Moves → Moves
without_pending m = record { pending = None; held = m.held }

-- the session came of none, or there is no session any longer (profile)
abbrev pub without_held : Moves → Moves
without_held m = record { pending = m.pending; held = None }

-- a reassociation request is not for the attempt: there is none, or the FTE has the nonces of the session's and not of
-- the attempt's (13.8.4, profile)
abbrev pub means_held_by : ElementFields → Option TargetState → Option TargetState → Bool
means_held_by e None held = true
means_held_by e (Some s) None = false
means_held_by e (Some s) (Some t) = not (is_with e s.key) && is_with e t.key

abbrev pub means_held : ElementFields → Moves → Bool
means_held e m = means_held_by e m.pending m.held

-- by which of the two the request is judged, where there is one (13.8.4, profile)
abbrev pub meant : ElementFields → Moves → Option TargetState
meant e m = cond (means_held e m) m.held m.pending

-- the R0KH-ID of the one by which the request is judged (13.8.4, profile)
abbrev pub id_of : Option TargetState → List ℕ
id_of None = []
id_of (Some s) = s.r0kh_id
