-- What a turn does to a world and its journal, and what goes out for a line.
-- For the code alone: no public contract speaks of it.
use Rattle.std.specs.Prelude.{◌≡◌, ◌≢◌, ℕ, ◌+◌, ◌*◌, ◌^◌, ◌<◌, ◌≤◌, List, length, drop, reverse, Option, Some, None, Result, Err, OnOk, OnErr}
use Rattle.domain_base.specs.Told.{LinkStory, AirStory}
use Rattle.domain_base.specs.declared.names.Node.{Node}
use Rattle.domain_base.specs.declared.outside.LinkError.{LinkError}
use Rattle.domain_base.specs.declared.outside.LinkError.TheVariants as link
use Rattle.run_journal.specs.Limits.{most_polls}
use Rattle.run_journal.specs.declared.domain.Domain.{Domain}
use Rattle.run_journal.specs.declared.domain.Event.TheVariants.{Inject}
use Rattle.run_journal.specs.declared.acts.Entry.{Entry}
use Rattle.domain_rules.specs.Network.{InForm}
use Rattle.domain_links.specs.declared.breaks.Break.{Break}
use Rattle.domain_links.specs.declared.breaks.Break.TheVariants.{ByLink}
use Rattle.domain_links.specs.NodeOrder.{count, node_at}
use Rattle.domain_links.specs.Sends.{Send, sends}
use Rattle.domain_links.specs.Telling.{Tell, TellFront, HasFailed, SameFaults}
use Rattle.domain_links.specs.Attached.{Attached}
use Rattle.domain_links.specs.Turns.{Delivers, Takes, TakesTurn}
use Rattle.domain_world.specs.State.{State}
use Rattle.domain_world.specs.Owning.{Owns, IsSince}
use Rattle.frame_script.specs.declared.reader.Mode.{Mode}
use Rattle.frame_script.specs.declared.reader.Mode.TheVariants.{Replay, Live}
use Rattle.script_runs.specs.Outer.{Outer, Blame, Nobody, OnLinks, sends_for}
use Rattle.script_runs.specs.States.{Runs}

-- ---- turns

-- a world beside its journal
pub record Stage : Type 0 where
  pub world : State
  pub journal : List Entry

abbrev pub stage : State → List Entry → Stage
stage w j = record { world = w; journal = j }

-- a node takes octets, which is a round
abbrev pub IsTaken : Node → List ℕ → Stage → Stage → Type 0
IsTaken node octets before after = Runs before.world after.world (Inject node octets) before.journal after.journal

-- what was sent by then
abbrev pub sent_by_then : Domain → Stage → List Send
sent_by_then d s = sends_for d s.journal

-- so many rounds more at most were run in the same network, and the journal is the world's
pub record IsFurther (more : ℕ) (old new : Stage) : Type 0 where
  pub network : new.world.domain ≡ old.world.domain
  pub few : new.world.rounds ≤ old.world.rounds + more
  pub own : Owns new.world new.journal
  pub since : (c : Domain) → IsSince c old.world old.journal → IsSince c new.world new.journal

-- as many links as before: one of them has failed where that is the answer, and else none has that had not
pub record IsLaid {L T : Type 0} (faults : L → ℕ) (old new : List L) (result : Result T Break) : Type 0 where
  pub len : length new ≡ length old
  pub failed : result ≡ Err (ByLink link.Failed) → HasFailed faults new
  pub kept : result ≢ Err (ByLink link.Failed) → SameFaults faults old new

abbrev pub DeliversIn : {L T : Type 0} → (L → Option LinkStory) → Domain → ℕ → List ℕ → List L → List L → Stage → Stage → Result T Break → Type 0
DeliversIn {L} {T} told d place octets links_old links_new before after result =
    Delivers told (node_at d) IsTaken (sent_by_then d) place octets links_old links_new before after result

abbrev pub TakesIn : {L T : Type 0} → (L → Option LinkStory) → Domain → ℕ → ℕ → List L → List L → Stage → Stage → Result T Break → Type 0
TakesIn {L} {T} told d place n links_old links_new before after result =
    Takes told (node_at d) IsTaken (sent_by_then d) place n links_old links_new before after result

abbrev pub TurnsIn : {L T : Type 0} → (L → Option LinkStory) → Domain → ℕ → List L → List L → Stage → Stage → Result T Break → Type 0
TurnsIn {L} {T} told d places links_old links_new before after result =
    TakesTurn told (node_at d) IsTaken (sent_by_then d) places links_old links_new before after result

-- a whole turn
pub record DidTurn {L T : Type 0} (told : L → Option LinkStory) (faults : L → ℕ) (links_old links_new : List L) (before after : Stage) (result : Result T Break) : Type 0 where
  pub further : IsFurther (most_polls * count before.world.domain) before after
  pub laid : IsLaid faults links_old links_new result
  pub takes : TurnsIn told before.world.domain (count before.world.domain) links_old links_new before after result

abbrev pub DidTurnBy : {L T : Type 0} → (L → Option LinkStory) → (L → ℕ) → List L → List L → Option State → Option State → List Entry → List Entry → Result T Break → Type 0
DidTurnBy told faults links_old links_new (Some w) (Some v) j k result = DidTurn told faults links_old links_new (stage w j) (stage v k) result
DidTurnBy told faults links_old links_new world other j k result = ⊥

-- nodes can take what their links have: there is a world, with a link for each node
abbrev pub CanTurn : Option State → ℕ → List Entry → Type 0
CanTurn None links j = ⊥
CanTurn (Some w) links j = Owns w j × ((links ≡ count w.domain) × (w.rounds + most_polls * count w.domain < 2 ^ 64))

-- ---- what goes out for a line

-- a node that has no link is attached
pub record Attaches {L T : Type 0} (told : L → Option LinkStory) (d : Domain) (old new : Outer L) (result : Result T LinkError) : Type 0 where
  pub more : OnOk result (length new.links ≡ length old.links + 1)
  pub same : OnErr result (new.links ≡ old.links)
  pub attached : (start : AirStory) → Attached told (node_at d) start old.links old.air → Attached told (node_at d) start new.links new.air

-- or frames are sent for the entries after so many
pub record SendsOut {L T : Type 0} (told : L → Option LinkStory) (d : Domain) (from : ℕ) (k : List Entry) (old new : Outer L) (result : Result T LinkError) : Type 0 where
  pub len : length new.links ≡ length old.links
  pub air : new.air ≡ old.air
  pub sent : (left : ℕ → List (List ℕ)) (before : List Send) → Tell told (node_at d) old.links left before
      → TellFront told (node_at d) new.links left before (sends d (drop from (reverse k))) result

pub record Carries {L T : Type 0} (told : L → Option LinkStory) (d : Domain) (from : ℕ) (k : List Entry) (old new : Outer L) (result : Result T LinkError) : Type 0 where
  pub last : new.last ≡ old.last
  pub attaches : length old.links < count d → Attaches told d old new result
  pub sends_out : count d ≤ length old.links → SendsOut told d from k old new result

-- only in a live run, and after the header
abbrev pub GoesOut : {L T : Type 0} → (L → Option LinkStory) → Mode → Option State → ℕ → List Entry → Outer L → Outer L → Result T LinkError → Type 0
GoesOut told Live (Some w) from k old new result = Carries told w.domain from k old new result
GoesOut told Live None from k old new result = OnOk result (new ≡ old) × OnErr result ⊥
GoesOut told Replay world from k old new result = OnOk result (new ≡ old) × OnErr result ⊥

-- no more links than nodes, which are few
abbrev pub HasLinked : Mode → Option State → ℕ → Type 0
HasLinked Live (Some w) links = (links ≤ count w.domain) × InForm w.domain
HasLinked mode world links = Unit {0}

-- to whom a fault is laid
abbrev pub link_blame : {T : Type 0} → Result T LinkError → Blame
link_blame (Err link.Failed) = OnLinks
link_blame result = Nobody

abbrev pub break_blame : {T : Type 0} → Result T Break → Blame
break_blame (Err (ByLink link.Failed)) = OnLinks
break_blame result = Nobody
