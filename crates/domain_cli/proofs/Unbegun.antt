-- Memory ran out before anything was run.
use Rattle.std.proofs.Common.{◌≡◌, ℕ, List, [], Option, None, Some, inl, inr, false, refl, ap, subst, sym, ◌∙◌}
use Rattle.std.proofs.KnownBytes.{Appends-nil}
use Rattle.std.proofs.lemmas.Bool.{false≢true}
use Rattle.domain_base.specs.Told.{AirStory}
use Rattle.run_journal.specs.declared.acts.Entry.{Entry}
use Rattle.run_journal.specs.Report.{lines}
use Rattle.script_lines.specs.Script.{AtVersion}
use Rattle.frame_script.specs.declared.reader.Mode.{Mode}
use Rattle.frame_script.specs.declared.reader.Mode.TheVariants.{Replay, Live}
use Rattle.script_runs.specs.declared.stops.Found.TheVariants as found
use Rattle.domain_cli.specs.declared.status.Status.{Status}
use Rattle.domain_cli.specs.declared.status.Status.TheVariants.{NoMemory, Usage}
use Rattle.script_runs.specs.declared.stops.Stop.TheVariants as stop
use Rattle.link_steps.specs.declared.ends.LinkEnd.{LinkEnd}
use Rattle.link_runs.specs.declared.found.LinkFound.TheVariants as ends
use Rattle.link_runs.proofs.Returning.{linked_none}
use Rattle.domain_cli.specs.Links.{Links}
use Rattle.domain_cli.specs.Story.{Lives}
use Rattle.script_runs.specs.Script.{no_rounds}
use Rattle.domain_cli.specs.Story.{IsReportText, RunsIn, Runs}
use Rattle.domain_cli.specs.Storms.{StormReports}
use Rattle.domain_cli.specs.Journals.{Journals}
use Rattle.domain_cli.specs.Promises.{Asked, Does, IsAnswered, IsSafe, IsTold, Keeps, Outside, Promises, Unasked, asks}
use Rattle.domain_cli.proofs.Safety.{empty_safe}
use Rattle.command_words.specs.declared.Command.{Command}
use Rattle.command_words.specs.declared.Command.TheVariants as ask
use Rattle.script_runs.proofs.Telling.{Rightly}
use Rattle.script_runs.proofs.Lines.{Consumes-nil, nothing_yet}
use Rattle.script_runs.proofs.Nodes.{nothing_so_far}
use Rattle.script_runs.proofs.Courses.{storm_front}
use Rattle.script_runs.proofs.Returned.{meets_nothing}

no_lines : [] ≡ lines []
unfolding lines
no_lines = refl

-- a run that reads a script
unread : (m : Mode) (left out : Option (List ℕ)) (j : List Entry) → j ≡ [] → RunsIn IsReportText m AtVersion no_rounds (found.Stopped stop.NoMemory) left left out out NoMemory j
unread m left out j none = record {
  octets = [];
  ended = false;
  text = [];
  read = Consumes-nil left;
  end = λ e. absurd (false≢true e);
  tells = nothing_yet m j none;
  is_text = no_lines ∙ ap lines (sym none);
  reports = (refl, Appends-nil out);
}

pub unbegun_replay : (left out : Option (List ℕ)) (j : List Entry) → j ≡ [] → Runs left left out out NoMemory j
unbegun_replay left out j none = record { draft = AtVersion; rounds = no_rounds; found_ = found.Stopped stop.NoMemory; runs = unread Replay left out j none }

pub unbegun_live : (left out : Option (List ℕ)) (air : Option AirStory) (last : Option (List ℕ)) (j : List Entry) → j ≡ [] → Lives left left out out air air last last NoMemory j
unbegun_live left out air last j none = record {
  draft = AtVersion;
  rounds = no_rounds;
  found_ = found.Stopped stop.NoMemory;
  runs = unread Live left out j none;
  meets = meets_nothing air last j;
}

pub unbegun_journal : (left out : Option (List ℕ)) (j : List Entry) → j ≡ [] → Journals left left out out NoMemory j
unbegun_journal left out j none = record {
  draft = AtVersion;
  rounds = no_rounds;
  found_ = found.Stopped stop.NoMemory;
  octets = [];
  ended = false;
  read = Consumes-nil left;
  end = λ e. absurd (false≢true e);
  tells = nothing_yet Replay j none;
  files = (inr refl, refl);
}

-- a storm
pub unbegun_storm : (rightly : Rightly) (number : ℕ) (out : Option (List ℕ)) (j : List Entry) → j ≡ [] → StormReports number NoMemory j out out
unbegun_storm rightly number out j none = (storm_front rightly number j (nothing_so_far number j none), refl)

-- one end of a link
pub unbegun_link : (end : LinkEnd) (left out : Option (List ℕ)) (air : Option AirStory) (last : Option (List ℕ)) (j : List Entry) → j ≡ [] → Links end left left out out air air last last NoMemory j
unbegun_link end left out air last j none = record { found_ = ends.NoMemory; status_is = refl; linked = linked_none end left out air last j none }

-- the commands
did_nothing : (rightly : Rightly) (c : Command) (o : Outside) (j : List Entry) → j ≡ [] → Does c o o NoMemory j
did_nothing rightly ask.Replay o j none = unbegun_replay o.left o.out j none
did_nothing rightly (ask.Live port) o j none = unbegun_live o.left o.out o.air o.last j none
did_nothing rightly (ask.Storm number) o j none = unbegun_storm rightly number o.out j none
did_nothing rightly ask.Journal o j none = unbegun_journal o.left o.out j none
did_nothing rightly (ask.Link port end) o j none = unbegun_link end o.left o.out o.air o.last j none

none_safe : (c : Command) (j : List Entry) → j ≡ [] → IsSafe c j
none_safe ask.Replay j none = empty_safe j none
none_safe (ask.Live port) j none = empty_safe j none
none_safe (ask.Storm number) j none = empty_safe j none
none_safe ask.Journal j none = empty_safe j none
none_safe (ask.Link port end) j none = tt

memory_answers : (c : Command) → IsAnswered c NoMemory
memory_answers ask.Replay = tt
memory_answers (ask.Live port) = tt
memory_answers (ask.Storm number) = tt
memory_answers ask.Journal = tt
memory_answers (ask.Link port end) = tt

no_usage : NoMemory ≡ Usage → ⊥
no_usage e = cc

-- all is as it was
told_nothing : (s : Status) (o : Outside) → IsTold s o o
told_nothing s o = record {
  write = λ differs. absurd (differs refl);
  read = λ differs unfailed. absurd (differs refl);
  link = λ differs unfailed. absurd (differs refl);
  draw = λ differs unfailed. absurd (differs refl);
}

pub unasked_nothing : (a : Asked) (o : Outside) → Unasked a o o
unasked_nothing a o = record { source = λ e. (refl, refl); sink = λ e. (refl, refl); air = λ e. (refl, refl); draws = λ e. (refl, refl) }

-- memory ran out over the words
pub unread_words : (rightly : Rightly) (asked : Option Command) (o : Outside) (j : List Entry) → j ≡ [] → Promises asked o o NoMemory j
unread_words rightly None o j none = record { answer = inr refl; untouched = refl; unrun = none }
unread_words rightly (Some c) o j none = record {
  meant = no_usage;
  did = did_nothing rightly c o j none;
  unasked = unasked_nothing (asks c) o;
  caused = tt;
  told = told_nothing NoMemory o;
  complete = λ unfailed. memory_answers c;
  safe = λ fresh apart unforged. none_safe c j none;
}

-- the words ask for no command
pub no_command : (asked : Option Command) (o : Outside) (j : List Entry) → asked ≡ None → j ≡ [] → Promises asked o o Usage j
no_command None o j none empty = record { answer = inl refl; untouched = refl; unrun = empty }
no_command (Some c) o j none empty = absurd cc

-- or for that one
pub promised : (asked : Option Command) (c : Command) (old new : Outside) (s : Status) (j : List Entry) → asked ≡ Some c → Keeps c old new s j → Promises asked old new s j
promised asked c old new s j is kept = subst (λ (a : Option Command). Promises a old new s j) (sym is) kept
