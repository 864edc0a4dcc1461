use Rattle.ft_exchange.proofs.Written.{rsne_written}
use Rattle.ft_exchange.proofs.frames.put_rsne.Goals as goal

pub returns-clause-few : goal.returns-clause-few
returns-clause-few c = rsne_written c.args.mfp c.args.name.now c.len.ensures c.over-writer.ensures.empty c.add_rsne.ensures.written c.add_rsne.ensures.name
