use Rattle.std.proofs.Common.{sym, arith}
use Rattle.std.proofs.lemmas.List.{take_all}
use Rattle.run_journal.proofs.mixing.front.Goals as goal

pub returns-then-octets-most : goal.returns-then-octets-most
returns-then-octets-most c = sym (take_all c.args.most c.args.octets.now (omega (arith, c.if-octets-most.true)))
