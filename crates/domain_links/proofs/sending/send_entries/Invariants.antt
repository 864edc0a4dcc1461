use Rattle.std.proofs.Common.{◌≡◌, ℕ, List, take, length, ◌++◌}
use Rattle.domain_links.specs.NodeOrder.{node_at}
use Rattle.domain_links.specs.Sends.{Send, sends}
use Rattle.domain_links.specs.Telling.{Tell, SameFaults}
use Rattle.domain_links.proofs.sending.send_entries.Given as goal

-- what goes out for the entries so far was sent
abbrev pub invariant-loop-entry : goal.invariant-loop-entry
invariant-loop-entry g l = record {
  len : length l.links.items ≡ length l.fn.links.items;
  sent : (left : ℕ → List (List ℕ)) (before : List Send) → Tell g.L.Link.told (node_at l.domain) l.fn.links.items left before → Tell g.L.Link.told (node_at l.domain) l.links.items left (before ++ sends l.domain (take l.entry-index l.entries));
  unfailed : SameFaults g.L.Link.faults l.fn.links.items l.links.items;
}
