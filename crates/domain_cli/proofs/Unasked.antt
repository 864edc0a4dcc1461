-- What a run of one kind does not do, and how one ends in which nothing outside failed.
use Rattle.std.proofs.Common.{◌≡◌, ◌≢◌, ℕ, Bool, List, Option, Some, refl, subst}
use Rattle.run_journal.specs.declared.acts.Entry.{Entry}
use Rattle.command_words.specs.declared.Command.{Command}
use Rattle.script_lines.specs.Script.{Draft}
use Rattle.frame_script.specs.declared.reader.Mode.TheVariants.{Replay, Live}
use Rattle.script_runs.specs.declared.stops.Found.{Found}
use Rattle.script_runs.specs.declared.stops.Found.TheVariants as found
use Rattle.domain_cli.specs.declared.status.Status.{Status}
use Rattle.domain_cli.specs.declared.status.Status.TheVariants.{Done, Usage, Script, Limit, ReadFault, WriteFault, NoMemory, LinkFault, DrawFault}
use Rattle.script_runs.specs.declared.stops.Stop.TheVariants as stop
use Rattle.domain_base.specs.Causes.{Rose}
use Rattle.domain_cli.specs.Promises.{EndsScript, IsCaused, Outside}
use Rattle.script_runs.specs.Outer.{OnLinks, OnDraws}
use Rattle.script_runs.specs.Script.{Rounds, point_of}
use Rattle.script_runs.specs.Stops.{found_blame}
use Rattle.domain_cli.specs.Journals.{Filed, Journals}
use Rattle.domain_cli.specs.Story.{Reports, Runs}
use Rattle.script_runs.specs.Story.{Tells}
use Rattle.domain_cli.proofs.Out.{draw_blamed, link_blamed}

-- the command that was read is the one that the words ask for
pub asks_one : (asked command : Option Command) (field one : Command) → command ≡ asked → command ≡ Some field → field ≡ one → asked ≡ Some one
asks_one asked command field one e is at = cc

-- a replay is no live run
no_live : Replay ≡ Live → ⊥
no_live e = cc

unlinked : (f : Found) (octets : List ℕ) (ended : Bool) (draft : Draft) (rounds : Rounds) (j : List Entry) → Tells f octets ended (point_of Replay j draft rounds) → found_blame f ≡ OnLinks → ⊥
unlinked found.Whole octets ended draft rounds j t is = cc
unlinked (found.Stopped (stop.Refused number refusal mistake)) octets ended draft rounds j t is = cc
unlinked (found.Stopped stop.NoMemory) octets ended draft rounds j t is = cc
unlinked (found.Stopped stop.DrawFault) octets ended draft rounds j t is = cc
unlinked (found.Stopped (stop.Broken error)) octets ended draft rounds j t is = no_live t.live
unlinked (found.Stopped stop.Unwritten) octets ended draft rounds j t is = cc
unlinked (found.Unended number refusal) octets ended draft rounds j t is = cc
unlinked found.ReadFault octets ended draft rounds j t is = cc

undrawn : (f : Found) (octets : List ℕ) (ended : Bool) (draft : Draft) (rounds : Rounds) (j : List Entry) → Tells f octets ended (point_of Replay j draft rounds) → found_blame f ≡ OnDraws → ⊥
undrawn found.Whole octets ended draft rounds j t is = cc
undrawn (found.Stopped (stop.Refused number refusal mistake)) octets ended draft rounds j t is = cc
undrawn (found.Stopped stop.NoMemory) octets ended draft rounds j t is = cc
undrawn (found.Stopped stop.DrawFault) octets ended draft rounds j t is = no_live t.live
undrawn (found.Stopped (stop.Broken error)) octets ended draft rounds j t is = no_live t.live
undrawn (found.Stopped stop.Unwritten) octets ended draft rounds j t is = cc
undrawn (found.Unended number refusal) octets ended draft rounds j t is = cc
undrawn found.ReadFault octets ended draft rounds j t is = cc

-- a replay ends with no fault of a link, and with none of the draws
pub never_links : (left_old left_new out_old out_new : Option (List ℕ)) (s : Status) (j : List Entry) → Runs left_old left_new out_old out_new s j → s ≡ LinkFault → ⊥
never_links left_old left_new out_old out_new s j r is =
    let told = subst (λ (x : Status). Reports r.found_ x j r.runs.text out_old out_new) is r.runs.reports in
    unlinked r.found_ r.runs.octets r.runs.ended r.draft r.rounds j r.runs.tells (link_blamed r.found_ told.0)

pub never_draws : (left_old left_new out_old out_new : Option (List ℕ)) (s : Status) (j : List Entry) → Runs left_old left_new out_old out_new s j → s ≡ DrawFault → ⊥
never_draws left_old left_new out_old out_new s j r is =
    let told = subst (λ (x : Status). Reports r.found_ x j r.runs.text out_old out_new) is r.runs.reports in
    undrawn r.found_ r.runs.octets r.runs.ended r.draft r.rounds j r.runs.tells (draw_blamed r.found_ told.0)

-- nor does a run whose journal goes into a file
pub links_unfiled : (left_old left_new out_old out_new : Option (List ℕ)) (s : Status) (j : List Entry) → Journals left_old left_new out_old out_new s j → s ≡ LinkFault → ⊥
links_unfiled left_old left_new out_old out_new s j r is =
    let told = subst (λ (x : Status). Filed r.draft r.found_ x r.octets j out_old out_new) is r.files in
    unlinked r.found_ r.octets r.ended r.draft r.rounds j r.tells (link_blamed r.found_ told.0)

pub draws_unfiled : (left_old left_new out_old out_new : Option (List ℕ)) (s : Status) (j : List Entry) → Journals left_old left_new out_old out_new s j → s ≡ DrawFault → ⊥
draws_unfiled left_old left_new out_old out_new s j r is =
    let told = subst (λ (x : Status). Filed r.draft r.found_ x r.octets j out_old out_new) is r.files in
    undrawn r.found_ r.octets r.ended r.draft r.rounds j r.tells (draw_blamed r.found_ told.0)

-- where nothing failed a run of a script has an answer
pub answered : (s : Status) → s ≢ Usage → s ≢ ReadFault → s ≢ WriteFault → s ≢ LinkFault → s ≢ DrawFault → EndsScript s
answered Done u r w l d = tt
answered (Script number reason mistake) u r w l d = tt
answered (Limit which) u r w l d = tt
answered NoMemory u r w l d = tt
answered Usage u r w l d = absurd (u refl)
answered ReadFault u r w l d = absurd (r refl)
answered WriteFault u r w l d = absurd (w refl)
answered LinkFault u r w l d = absurd (l refl)
answered DrawFault u r w l d = absurd (d refl)

-- a fault that is told was there
pub caused : (s : Status) (old new : Outside) → (s ≡ ReadFault → Rose old.read_faults new.read_faults) → (s ≡ WriteFault → Rose old.write_faults new.write_faults) → (s ≡ LinkFault → Rose old.link_faults new.link_faults) → (s ≡ DrawFault → Rose old.draw_faults new.draw_faults) → IsCaused s old new
caused Done old new r w l d = tt
caused Usage old new r w l d = tt
caused (Script number reason mistake) old new r w l d = tt
caused (Limit which) old new r w l d = tt
caused NoMemory old new r w l d = tt
caused ReadFault old new r w l d = r refl
caused WriteFault old new r w l d = w refl
caused LinkFault old new r w l d = l refl
caused DrawFault old new r w l d = d refl
