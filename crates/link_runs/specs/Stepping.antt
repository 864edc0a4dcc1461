-- One step of an end that has begun, and a turn.
-- For the code alone: no public contract speaks of it.
use Rattle.std.specs.Prelude.{◌≡◌, ◌≢◌, ◌⊎◌, ℕ, suc, ◌+◌, ◌<◌, ◌≤◌, Bool, true, false, List, [], ◌∷◌, ◌++◌, length, take, drop, Option, Some, Result, Ok, Err, MatchResult}
use Rattle.std.specs.Io.KnownBytes.{Appends}
use Rattle.domain_base.specs.Causes.{AppendsPart, Rose}
use Rattle.domain_base.specs.Told.{LinkStory}
use Rattle.domain_base.specs.declared.names.Mac.{Mac}
use Rattle.domain_base.specs.declared.outside.LinkError.TheVariants as link
use Rattle.run_journal.specs.declared.acts.Act.TheVariants as act
use Rattle.run_journal.specs.declared.acts.Entry.{Entry}
use Rattle.run_journal.specs.Report.{lines}
use Rattle.link_steps.specs.Ends.{node_of}
use Rattle.link_steps.specs.declared.ends.LinkEnd.{LinkEnd}
use Rattle.link_steps.specs.declared.steps.LinkEvent.{LinkEvent}
use Rattle.link_steps.specs.declared.steps.Step.{Step}
use Rattle.holder_link.specs.Acts.{BothHave, Acts, after}
use Rattle.holder_link.specs.Between.{state_of_ends}
use Rattle.link_lines.specs.declared.draft.LinkHeader.{LinkHeader}
use Rattle.link_runs.specs.declared.found.Breach.{Breach}
use Rattle.link_runs.specs.declared.found.Breach.TheVariants.{ByLink, ByWrite}
use Rattle.link_runs.specs.declared.found.Halt.{Halt}
use Rattle.link_runs.specs.declared.found.Halt.TheVariants as halt
use Rattle.link_runs.specs.declared.steps.Running.{Running}
use Rattle.link_runs.specs.Outer.{IsLost, IsUnsent, cut, frames_of, tale}
use Rattle.link_runs.specs.Told.{AreTaken, Note, both_of, entries_of}

-- ---- a step

-- the event happens at the ends, which is that step
pub record Happens (b : BothHave) (event : LinkEvent) (s : Step) (c : BothHave) : Type 0 where
  pub event_is : s.event ≡ event
  pub acts : Acts b s.event s.sent s.answer
  pub both : c ≡ after s.event s.answer b

-- the entry of a step at an end, after so many others
abbrev pub entry_at : ℕ → LinkEnd → Option Mac → Step → Entry
entry_at before end sta s = record { round = suc before; node = node_of end; number = 0; act = act.Link sta s }

-- the event happened at the end, and is journaled
pub record DidStep {L : Type 0} (end : LinkEnd) (sta : Option Mac) (event : LinkEvent) (old new : Running L) (j k : List Entry) (s : Step) : Type 0 where
  pub happens : Happens (state_of_ends old.ends) event s (state_of_ends new.ends)
  pub one : length new.ends.holders.ids ≡ 1
  pub journal : k ≡ entry_at (length j) end sta s ∷ j

-- and its datagram was sent, where it has one
abbrev pub SendsStep : LinkEnd → Step → Option LinkStory → Option LinkStory → Type 0
SendsStep end s old new = (story : LinkStory) → old ≡ Some story → new ≡ Some (record story { sent = story.sent ++ frames_of end s })

-- it tells what it told
abbrev pub StaysTold : Option LinkStory → Option LinkStory → Type 0
StaysTold old new = (story : LinkStory) → old ≡ Some story → new ≡ Some story

-- or it was not sent, or nothing happened, as memory ran out
abbrev pub Steps : {L T : Type 0} → (L → Option LinkStory) → LinkEnd → Option Mac → LinkEvent → Running L → Running L → List Entry → List Entry → Result T Halt → Type 0
Steps told end sta event old new j k (Ok x) = (s : Step) × (DidStep end sta event old new j k s × SendsStep end s (told old.link) (told new.link))
Steps told end sta event old new j k (Err halt.Unwritten) = (s : Step) × (DidStep end sta event old new j k s × StaysTold (told old.link) (told new.link))
Steps told end sta event old new j k (Err (halt.Unsent error)) = (s : Step) × (DidStep end sta event old new j k s × StaysTold (told old.link) (told new.link) × (s.sent ≢ []))
Steps told end sta event old new j k (Err halt.NoMemory) = (state_of_ends new.ends ≡ state_of_ends old.ends) × ((k ≡ j) × StaysTold (told old.link) (told new.link))

-- ---- what is written

abbrev pub OutBy : Bool → Option (List ℕ) → Option (List ℕ) → List ℕ → Type 0
OutBy true first now text = AppendsPart first now text
OutBy false first now text = Appends first now text

-- since the sink had the lines of the journal before, it has gained those of the new entries; or a front of them, as a call failed
pub record GoesOut (short : Bool) (out_old out_new : Option (List ℕ)) (faults_old faults_new : ℕ) (j k : List Entry) : Type 0 where
  pub out : (first : Option (List ℕ)) → Appends first out_old (lines j) → OutBy short first out_new (lines k)
  pub failed : short ≡ true → Rose faults_old faults_new
  pub kept : short ≡ false → faults_new ≡ faults_old

abbrev pub halt_short : {T : Type 0} → Result T Halt → Bool
halt_short (Err halt.Unwritten) = true
halt_short result = false

abbrev pub breach_short : {T : Type 0} → Result T Breach → Bool
breach_short (Err ByWrite) = true
breach_short result = false

-- ---- faults of the link

-- its count is above 0 where it failed, and else as it was
pub record IsHurt (hurt : Bool) (old new : ℕ) : Type 0 where
  pub failed : hurt ≡ true → 0 < new
  pub kept : hurt ≡ false → new ≡ old

abbrev pub halt_hurt : {T : Type 0} → Result T Halt → Bool
halt_hurt (Err (halt.Unsent link.Failed)) = true
halt_hurt result = false

abbrev pub breach_hurt : {T : Type 0} → Result T Breach → Bool
breach_hurt (Err (ByLink link.Failed)) = true
breach_hurt result = false

-- ---- a turn

-- how many questions an end has asked
abbrev pub asked_in : {L : Type 0} → Running L → ℕ
asked_in r = r.ends.asker.asked

-- why a datagram was not taken, or not answered
abbrev pub breach_of : Halt → Breach
breach_of halt.NoMemory = ByLink link.NoMemory
breach_of halt.Unwritten = ByWrite
breach_of (halt.Unsent error) = ByLink error

-- the end stands after these notes, and the journal is theirs
pub record IsAfter {L : Type 0} (h : LinkHeader) (r : Running L) (notes : List Note) (j : List Entry) : Type 0 where
  pub both : state_of_ends r.ends ≡ both_of h notes
  pub one : length r.ends.holders.ids ≡ 1
  pub journal : j ≡ entries_of notes

-- where lines could not be written, that is so
abbrev pub OnWrite : Breach → Type 0 → Type 0
OnWrite (ByLink error) P = Unit {0}
OnWrite ByWrite P = P

-- the link tells that all was sent but for the last step's datagram
pub record TaleUnsent (why : Breach) (end : LinkEnd) (notes : List Note) (left : List (List ℕ)) (now : Option LinkStory) : Type 0 where
  pub story : LinkStory
  pub now_is : now ≡ Some story
  pub node_is : story.node ≡ node_of end
  pub unsent : IsUnsent why end notes story.sent
  pub left_is : story.left ≡ left

-- all that its steps sent was sent, which is so only where the link broke it; or all but the last of these, where there are some
abbrev pub TalePart : Breach → LinkEnd → List Note → List (List ℕ) → List (List ℕ) → Option LinkStory → Type 0
TalePart (ByLink error) end notes given left now = (now ≡ Some (tale end notes left)) ⊎ ((given ≢ []) × TaleUnsent (ByLink error) end notes left now)
TalePart ByWrite end notes given left now = (given ≢ []) × TaleUnsent ByWrite end notes left now

-- all of these datagrams were taken, each cut
pub record TookAll {L : Type 0} (told : L → Option LinkStory) (end : LinkEnd) (n : ℕ) (new : Running L) (notes : List Note) (left given : List (List ℕ)) : Type 0 where
  pub all_of : given ≡ cut (take n left)
  pub tells : told new.link ≡ Some (tale end notes (drop n left))

-- or a front of them
pub record TookPart {L : Type 0} (told : L → Option LinkStory) (why : Breach) (end : LinkEnd) (n : ℕ) (new : Running L) (notes : List Note) (left given : List (List ℕ)) : Type 0 where
  pub rest : List (List ℕ)
  pub front : given ++ rest ≡ cut (take n left)
  pub lost : ℕ
  pub few_lost : IsLost why lost
  pub tells : TalePart why end notes given (drop (length given + lost) left) (told new.link)

-- the end takes up to n datagrams of its link
pub record Takes {L T : Type 0} (told : L → Option LinkStory) (end : LinkEnd) (h : LinkHeader) (n : ℕ) (old new : Running L) (before : List Note) (k : List Entry) (result : Result T Breach) : Type 0 where
  pub given : List (List ℕ)
  pub few : length given ≤ n
  pub some : MatchResult result (λ _. Unit {0}) (λ why. OnWrite why (given ≢ []))
  pub notes : List Note
  pub taken : AreTaken h end given before notes
  pub after_ : IsAfter h new notes k
  pub tells : (left : List (List ℕ)) → told old.link ≡ Some (tale end before left)
      → MatchResult result (λ _. TookAll told end n new notes left given) (λ why. TookPart told why end n new notes left given)
