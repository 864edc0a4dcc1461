use Rattle.std.proofs.Common.{◌≡◌, map, take}
use Rattle.run_journal.specs.declared.domain.ListedAp.{ListedAp}
use Rattle.node_tests.proofs.network.ids.Given as goal

-- those of the access points so far
abbrev pub invariant-loop-ap : goal.invariant-loop-ap
invariant-loop-ap g l = l.ids.items ≡ map (λ (a : ListedAp). a.r0kh_id) (take l.ap-index l.domain.aps)
