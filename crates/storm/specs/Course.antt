-- The course of a storm, beside the journal of its run. Journals and lists of events are NEWEST FIRST (profile).
use Rattle.std.specs.Prelude.{◌≡◌, ℕ, zero, suc, List, [], ◌∷◌, ◌++◌, length}
use Rattle.run_journal.specs.declared.domain.Event.{Event}
use Rattle.run_journal.specs.declared.acts.Entry.{Entry}
use Rattle.storm.specs.declared.seen.Frame.{Frame}
use Rattle.storm.specs.Drawing.{Draws, ◌>>=◌, given}
use Rattle.storm.specs.Frames.{frames_of, frames_before}
use Rattle.storm.specs.Events.{event_of}
use Rattle.storm.specs.Header.{begun}

-- what contracts see of a storm: its number, the state from which its next event is drawn, and of the journal so far how many
-- entries it has seen and the frames sent in these, in order
pub record Course : Type 0 where
  pub number : ℕ
  pub state : ℕ
  pub seen : ℕ
  pub frames : List Frame

-- so many entries, with these frames, are the front of the journal
pub record HasSeen (seen : ℕ) (frames : List Frame) (j : List Entry) : Type 0 where
  pub later : List Entry
  pub earlier : List Entry
  pub is : j ≡ later ++ earlier
  pub count : seen ≡ length earlier
  pub frames_are : frames ≡ frames_of earlier

-- it has seen all of the journal
pub record HasSeenAll (seen : ℕ) (frames : List Frame) (j : List Entry) : Type 0 where
  pub count : seen ≡ length j
  pub frames_are : frames ≡ frames_of j

-- The first so many events of a storm, and the state after them. Each event is a round by itself: it is drawn where the
-- journal j of the run has the rounds before it, whatever j says of later ones.
unfoldable pub events_from : List Entry → ℕ → Draws (List Event)
events_from j zero = given []
events_from j (suc n) = do
  earlier ← events_from j n
  event ← event_of (frames_before n j)
  given (event ∷ earlier)

-- the first so many events of the storm of that number
abbrev pub storm : ℕ → List Entry → ℕ → List Event
storm number j n = (events_from j n (begun number)).0
