-- What contracts see of a world (profile).
use Rattle.std.specs.Prelude.{ℕ, zero, suc, Bool, List, [], ◌∷◌, ◌++◌}
use Rattle.key_holders.specs.declared.rows.HeldRow.{HeldRow}
use Rattle.holder_table.specs.declared.history.HolderEvent.{HolderEvent}
use Rattle.holder_table.specs.Histories.{held_at}
use Rattle.run_journal.specs.declared.domain.Domain.{Domain}
use Rattle.station_node.specs.State.{State as StationState}
use Rattle.ap_node.specs.State.{State as ApState}

-- the network, its nodes, the rows of each access point's key holder, and where in the journal each frame stands that
-- was sent (counted from 0 in the order of pushing, the first frame first). How many rounds were run, and whether no
-- round ran out of memory
pub record State : Type 0 where
  pub domain : Domain
  pub aps : List ApState
  pub stas : List StationState
  pub rows : List (List HeldRow)
  pub frames : List ℕ
  pub rounds : ℕ
  pub usable : Bool

-- of a world the network, its nodes and their rows
pub record Nodes : Type 0 where
  pub domain : Domain
  pub aps : List ApState
  pub stas : List StationState
  pub rows : List (List HeldRow)

-- the rows of the first so many access points, as a history leaves them
abbrev pub rows_below : ℕ → List HolderEvent → List (List HeldRow)
rows_below zero seen = []
rows_below (suc k) seen = rows_below k seen ++ held_at k seen ∷ []
