use Rattle.std.proofs.Common.{true, false, arith}
use Rattle.ft_exchange.proofs.Covers.{rsne_len}
use Rattle.ft_exchange.proofs.frames.add_rsne.Goals as goal

pub rsne_mfp-requires : goal.rsne_mfp-requires
rsne_mfp-requires c = omega (arith, c.requires, rsne_len true c.args.name.now (omega arith))

pub rsne-requires : goal.rsne-requires
rsne-requires c = omega (arith, c.requires, rsne_len false c.args.name.now (omega arith))
