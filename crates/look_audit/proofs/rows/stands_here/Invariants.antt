use Rattle.std.proofs.Common.{◌≡◌, length, reverse}
use Rattle.domain_rules.specs.HeldRight.{stands_here}
use Rattle.look_audit.proofs.rows.stands_here.Given as goal

abbrev pub invariant-loop-entry : goal.invariant-loop-entry
invariant-loop-entry l = stands_here l.holder l.name l.station (reverse l.older) ≡ stands_here l.holder l.name l.station (reverse l.entries)

abbrev pub decreases-loop-entry : goal.decreases-loop-entry
decreases-loop-entry l = length l.older
