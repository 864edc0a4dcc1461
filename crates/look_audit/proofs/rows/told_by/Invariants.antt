use Rattle.std.proofs.Common.{◌≡◌, ◌++◌, List, length, reverse}
use Rattle.run_journal.specs.declared.acts.Entry.{Entry}
use Rattle.domain_rules.specs.HeldRight.{stands}
use Rattle.look_audit.specs.Asked.{bound_of}
use Rattle.look_audit.proofs.rows.told_by.Given as goal

abbrev pub invariant-loop-entry : goal.invariant-loop-entry
invariant-loop-entry l = (past : List Entry)
    → stands l.holder l.name l.station (bound_of l.put) (bound_of l.revoked) (reverse l.older ++ past) ≡ stands l.holder l.name l.station (bound_of l.put) (bound_of l.revoked) (reverse l.entries ++ past)

abbrev pub decreases-loop-entry : goal.decreases-loop-entry
decreases-loop-entry l = length l.older
