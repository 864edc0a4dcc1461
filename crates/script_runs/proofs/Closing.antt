-- How a reading that has come so far ends.
use Rattle.std.proofs.Common.{◌≡◌, ℕ, false, List, Bool, Option, subst}
use Rattle.domain_base.specs.Told.{LinkStory}
use Rattle.run_journal.specs.declared.acts.Entry.{Entry}
use Rattle.frame_script.specs.declared.reader.Mode.{Mode}
use Rattle.script_runs.specs.declared.feeder.LineFeeder.{LineFeeder}
use Rattle.script_runs.specs.declared.stops.Found.{Found}
use Rattle.script_runs.specs.declared.stops.Found.TheVariants as founds
use Rattle.script_runs.specs.declared.stops.Stop.{Stop}
use Rattle.script_runs.specs.Feeders.{Reached}
use Rattle.script_runs.specs.Outer.{Outer}
use Rattle.script_runs.specs.Stops.{Closes, Halts}
use Rattle.script_runs.specs.Story.{most_read}

-- in the run of that kind
pub closes_in : {L : Type 0} (told : L → Option LinkStory) (first o : Outer L) (m n : Mode) (found : Found) (octets : List ℕ) (ended : Bool) (j : List Entry) → m ≡ n → Closes told first o m found octets ended j → Closes told first o n found octets ended j
closes_in told first o m n found octets ended j same c = subst (λ (x : Mode). Closes told first o x found octets ended j) same c

-- the source failed
pub closes_cut : {L : Type 0} (told : L → Option LinkStory) (first o : Outer L) (s : LineFeeder) (m : Mode) (octets : List ℕ) (j : List Entry) → s.state.reader.mode ≡ m → Reached told first o s octets j
    → Closes told first o m founds.ReadFault octets false j
closes_cut told first o s m octets j same r =
    closes_in told first o s.state.reader.mode m founds.ReadFault octets false j same (record {
      draft = r.draft;
      rounds = r.rounds;
      tells = record {
        good = r.come.good;
        rest = s.cutter.line.items;
        begins = r.come.cut.begins;
        open_line = r.come.cut.open_line;
        short = r.come.cut.short;
        explains = record { spelled = r.come.spelled; journal = r.come.stands.journal };
      };
      met = r.met;
    })

-- a line stopped it
pub closes_stopped : {L : Type 0} (told : L → Option LinkStory) (first o : Outer L) (m n : Mode) (stop : Stop) (octets : List ℕ) (j : List Entry) → m ≡ n → Halts told first o m most_read stop octets j → Closes told first o n (founds.Stopped stop) octets false j
closes_stopped told first o m n stop octets j same h =
    closes_in told first o m n (founds.Stopped stop) octets false j same (record { draft = h.draft; rounds = h.rounds; tells = h.stopped; met = h.met })
