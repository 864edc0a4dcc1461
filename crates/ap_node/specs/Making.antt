-- A place is made for a station (this project's choice).
-- For the code alone: no public contract speaks of it.
use Rattle.std.specs.Prelude.{◌≡◌, ℕ, Bool, true, false, List}
use Rattle.std.specs.Map.{remove_entry}
use Rattle.std.specs.BTreeMap.{is_at, insert_entry}
use Rattle.std.specs.Ordering.{nat_cmp}
use Rattle.ap_node.specs.declared.station.Station.{Station}
use Rattle.ap_node.specs.State.{no_station, is_there}

-- an empty one was made where there was none, or none was made
abbrev pub IsMade : Bool → ℕ → List (ℕ × Station) → List (ℕ × Station) → Type 0
IsMade true station old new = (is_there station old ≡ false) × (new ≡ insert_entry nat_cmp old station no_station)
IsMade false station old new = new ≡ old

-- the new one is taken away again
abbrev pub unmade : Bool → ℕ → List (ℕ × Station) → List (ℕ × Station)
unmade true station xs = remove_entry (is_at (nat_cmp station)) xs
unmade false station xs = xs
