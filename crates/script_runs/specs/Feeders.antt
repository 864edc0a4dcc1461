-- What a line feeder stands for: the octets so far, and the journal so far.
-- For the code alone: no public contract speaks of it.
use Rattle.std.specs.Prelude.{ℕ, List, Option}
use Rattle.domain_base.specs.Told.{LinkStory}
use Rattle.run_journal.specs.declared.acts.Entry.{Entry}
use Rattle.script_lines.specs.Script.{Draft}
use Rattle.script_runs.specs.declared.feeder.LineFeeder.{LineFeeder}
use Rattle.text_lines.specs.Cuts.{HasCut}
use Rattle.script_runs.specs.Script.{Rounds, Spells, script_limits}
use Rattle.text_lines.specs.Texts.{texts}
use Rattle.script_runs.specs.States.{Stands}
use Rattle.script_runs.specs.Outer.{Outer, IsMet}

-- the octets so far are whole lines, which told this, and the front of the open one
pub record HasCome (s : LineFeeder) (octets : List ℕ) (draft : Draft) (rounds : Rounds) (j : List Entry) : Type 0 where
  pub good : List (List ℕ)
  pub cut : HasCut script_limits s.cutter octets good
  pub spelled : Spells s.state.reader.mode j (texts good) draft rounds
  pub stands : Stands s.state draft rounds j

-- and so the outside was met
pub record Reached {L : Type 0} (told : L → Option LinkStory) (first o : Outer L) (s : LineFeeder) (octets : List ℕ) (j : List Entry) : Type 0 where
  pub draft : Draft
  pub rounds : Rounds
  pub come : HasCome s octets draft rounds j
  pub met : IsMet told first o s.state.reader.mode draft rounds j
