use Rattle.std.proofs.Common.{rules}
use Rattle.run_journal.specs.declared.domain.ListedSta.{ListedSta}
use Rattle.embedded_node.specs.Free.{is_same}
use Rattle.embedded_node.proofs.Listed.{is_some-position}
use Rattle.embedded_node.proofs.listing.is_of_sta.Goals as goal

pub returns : goal.returns
returns c = search (rules, is_some-position (λ (s : ListedSta). is_same s.address c.args.address) c.args.domain.now.stas)
