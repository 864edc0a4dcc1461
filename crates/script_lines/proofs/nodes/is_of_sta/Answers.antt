use Rattle.std.proofs.Common.{rules}
use Rattle.run_journal.specs.declared.domain.ListedSta.{ListedSta}
use Rattle.script_lines.specs.Script.{is_same}
use Rattle.script_lines.proofs.Freed.{is_some-position}
use Rattle.script_lines.proofs.nodes.is_of_sta.Goals as goal

pub returns : goal.returns
returns c = search (rules, is_some-position (λ (s : ListedSta). is_same s.address c.args.address) c.args.domain.now.stas)
