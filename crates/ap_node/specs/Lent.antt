-- What there is with a station is lent out of its memory (this project's choice).
-- For the code alone: no public contract speaks of it.
use Rattle.std.specs.Borrow.{Lends, MutBor, Fml}
use Rattle.ap_node.specs.declared.station.Station.{Station}
use Rattle.ap_node.specs.contracts.station.Station.{the_row as station}
use Rattle.ap_node.specs.contracts.boxed.BoxedStation.{the_row as boxed}

-- it ends as what is lent does
abbrev pub IsLent : MutBor Station → MutBor Station → Fml
IsLent s lent = Lends boxed station s lent (λ w. w)
