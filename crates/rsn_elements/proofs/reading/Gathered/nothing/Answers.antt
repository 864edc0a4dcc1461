use Rattle.std.proofs.Common.{refl}
use Rattle.rsn_elements.proofs.Gathering.{tells_nothing, never}
use Rattle.rsn_elements.proofs.reading.Gathered.nothing.Goals as goal

pub returns : goal.returns
returns c = record {
  tells = tells_nothing c.args.within;
  all = refl;
  seen = λ kind h none. never 256 kind h;
  unseen = λ kind low h. refl;
}
