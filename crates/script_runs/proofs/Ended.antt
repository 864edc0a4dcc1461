-- How the reading ends at the end of the source: nobody is blamed for that.
use Rattle.std.proofs.Common.{◌≡◌, ◌≢◌, ℕ, refl}
use Rattle.script_lines.specs.Script.{Draft}
use Rattle.script_runs.specs.declared.stops.Found.{Found}
use Rattle.script_runs.specs.declared.stops.Found.TheVariants as found
use Rattle.script_runs.specs.declared.stops.Stop.{Stop}
use Rattle.script_runs.specs.Outer.{Nobody}
use Rattle.script_runs.specs.Stops.{EndsAt, found_blame}

pub ended_blame : (f : Found) (lines : ℕ) (draft : Draft) → EndsAt f lines draft → found_blame f ≡ Nobody
ended_blame found.Whole lines draft e = refl
ended_blame (found.Unended number refusal) lines draft e = refl
ended_blame found.ReadFault lines draft e = absurd e
ended_blame (found.Stopped stop) lines draft e = absurd e

pub ended_read : (f : Found) (lines : ℕ) (draft : Draft) → EndsAt f lines draft → f ≢ found.ReadFault
ended_read found.Whole lines draft e is = absurd cc
ended_read (found.Unended number refusal) lines draft e is = absurd cc
ended_read found.ReadFault lines draft e is = absurd e
ended_read (found.Stopped stop) lines draft e is = absurd e

pub stopped_read : (stop : Stop) → found.Stopped stop ≢ found.ReadFault
stopped_read stop is = absurd cc
