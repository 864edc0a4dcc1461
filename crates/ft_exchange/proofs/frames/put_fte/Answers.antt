use Rattle.rsn_elements.specs.Fields.{fte_fields}
use Rattle.ft_exchange.proofs.Written.{fte_some}
use Rattle.ft_exchange.proofs.frames.put_fte.Goals as goal

pub returns-clause-some : goal.returns-clause-some
returns-clause-some c = fte_some (fte_fields c.args.fte.now) c.len.ensures c.over-writer.ensures.empty c.fte.ensures.written c.fte.ensures.fits
