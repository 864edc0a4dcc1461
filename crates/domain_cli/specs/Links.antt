-- What a run of one end of a link between two processes did, by its status (profile).
use Rattle.std.specs.Prelude.{◌≡◌, ℕ, List, Option}
use Rattle.domain_base.specs.Told.{AirStory}
use Rattle.domain_base.specs.declared.outside.LinkError.TheVariants as link
use Rattle.run_journal.specs.declared.acts.Entry.{Entry}
use Rattle.frame_script.specs.declared.mistakes.Mistake.{Mistake}
use Rattle.link_steps.specs.declared.ends.LinkEnd.{LinkEnd}
use Rattle.link_lines.specs.declared.mistakes.Slip.{Slip}
use Rattle.link_lines.specs.declared.refusal.LinkRefusal.{LinkRefusal}
use Rattle.link_lines.specs.declared.refusal.LinkRefusal.TheVariants as refusal
use Rattle.link_runs.specs.declared.found.Breach.TheVariants.{ByLink, ByWrite}
use Rattle.link_runs.specs.declared.found.LinkFound.{LinkFound}
use Rattle.link_runs.specs.declared.found.LinkFound.TheVariants as found
use Rattle.link_runs.specs.Linked.{IsLinked}
use Rattle.domain_cli.specs.declared.status.Status.{Status}
use Rattle.domain_cli.specs.declared.status.Status.TheVariants.{Done, Script, Limit, ReadFault, WriteFault, NoMemory, LinkFault, DrawFault}

-- what is wrong in a line, as it is told
abbrev pub mistake_of : Slip → Mistake
mistake_of slip = record { form = slip.form; word = slip.word; cause = slip.cause }

-- a line that is refused: by the number of its reason, or of its limit
abbrev pub status_by : ℕ → LinkRefusal → Mistake → Status
status_by number refusal.Version mistake = Script number 1 mistake
status_by number refusal.Word mistake = Script number 2 mistake
status_by number refusal.Arguments mistake = Script number 3 mistake
status_by number refusal.Question mistake = Script number 5 mistake
status_by number refusal.ManyRows mistake = Limit 9
status_by number refusal.ManyLines mistake = Limit 1
status_by number refusal.LongLine mistake = Limit 2

-- the status of a whole run
abbrev pub link_status : LinkFound → Status
link_status found.Whole = Done
link_status (found.Refused number refusal slip) = status_by number refusal (mistake_of slip)
link_status found.NoMemory = NoMemory
link_status found.DrawFault = DrawFault
link_status (found.Broken (ByLink link.Failed)) = LinkFault
link_status (found.Broken (ByLink link.NoMemory)) = NoMemory
link_status (found.Broken ByWrite) = WriteFault
link_status found.ReadFault = ReadFault

-- a run of that end that was asked for. Its journal is the steps that the octets read tell, each the step of the one Asker, or of the one
-- Server, after those before it; the octets written are their lines, or a front of these where one could not be written; and the link,
-- where it tells, was sent their octets in order, or all but the last step's where a call failed
pub record Links (end : LinkEnd) (left_old left_new out_old out_new : Option (List ℕ)) (air_old air_new : Option AirStory) (last_old last_new : Option (List ℕ)) (status : Status) (j : List Entry) : Type 0 where
  pub found_ : LinkFound
  pub status_is : status ≡ link_status found_
  pub linked : IsLinked end found_ left_old left_new out_old out_new air_old air_new last_old last_new j
