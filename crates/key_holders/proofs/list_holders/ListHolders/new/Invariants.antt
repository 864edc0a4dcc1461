use Rattle.std.proofs.Common.{◌≡◌, [], replicate}
use Rattle.key_holders.proofs.list_holders.ListHolders.new.Given as goal

abbrev pub invariant-loop-place : goal.invariant-loop-place
invariant-loop-place l = l.holders.items ≡ replicate l.place []
