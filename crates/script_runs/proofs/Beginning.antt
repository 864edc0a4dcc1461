-- Before the first octet is read.
use Rattle.std.proofs.Common.{◌≡◌, ℕ, List, [], Option, false, refl}
use Rattle.domain_base.specs.Told.{LinkStory, AirStory}
use Rattle.run_journal.specs.declared.acts.Entry.{Entry}
use Rattle.script_lines.specs.Script.{AtVersion}
use Rattle.frame_script.specs.declared.reader.Mode.{Mode}
use Rattle.script_runs.specs.declared.feeder.LineFeeder.{LineFeeder}
use Rattle.script_runs.specs.declared.stops.Found.TheVariants as found
use Rattle.script_runs.specs.declared.stops.Stop.TheVariants as stop
use Rattle.script_runs.specs.Feeders.{HasCome, Reached}
use Rattle.script_runs.specs.Outer.{outer, IsMet}
use Rattle.script_runs.specs.Script.{no_rounds}
use Rattle.script_runs.specs.Stops.{Closes}
use Rattle.script_runs.proofs.Lines.{nothing_yet}

met_nothing : {L : Type 0} (told : L → Option LinkStory) (links : List L) (air : Option AirStory) (last : Option (List ℕ)) (m : Mode) (j : List Entry) → links ≡ [] → IsMet told (outer [] air last) (outer links air last) m AtVersion no_rounds j
met_nothing told links air last m j none = record { drawn = refl; linked = λ live start is. record { none = none; same = is; no_turns = refl } }

-- no feeder could be made
pub closes_nothing : {L : Type 0} (told : L → Option LinkStory) (links : List L) (air : Option AirStory) (last : Option (List ℕ)) (m : Mode) (j : List Entry) → links ≡ [] → j ≡ [] → Closes told (outer [] air last) (outer links air last) m (found.Stopped stop.NoMemory) [] false j
closes_nothing told links air last m j none empty = record { draft = AtVersion; rounds = no_rounds; tells = nothing_yet m j empty; met = met_nothing told links air last m j none }

-- or one was
pub reached_first : {L : Type 0} (told : L → Option LinkStory) (links : List L) (air : Option AirStory) (last : Option (List ℕ)) (s : LineFeeder) (j : List Entry) → links ≡ [] → j ≡ [] → HasCome s [] AtVersion no_rounds j → Reached told (outer [] air last) (outer links air last) s [] j
reached_first told links air last s j none empty come = record { draft = AtVersion; rounds = no_rounds; come = come; met = met_nothing told links air last s.state.reader.mode j none }
