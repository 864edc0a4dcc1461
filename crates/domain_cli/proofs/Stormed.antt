-- The journal of a storm is safe, however it ended.
use Rattle.std.proofs.Common.{ℕ, List, Option}
use Rattle.run_journal.specs.declared.acts.Entry.{Entry}
use Rattle.run_journal.specs.Premises.{Fresh, NoCollision, Unforged}
use Rattle.domain_cli.specs.declared.status.Status.{Status}
use Rattle.domain_cli.specs.declared.status.Status.TheVariants.{Done, Usage, Script, Limit, ReadFault, WriteFault, NoMemory, LinkFault, DrawFault}
use Rattle.domain_cli.specs.Storms.{StormReports}
use Rattle.domain_cli.specs.Safety.{RunsAreSafe, SafeRun}

pub storm_safe : (safe : RunsAreSafe) (number : ℕ) (status : Status) (j : List Entry) (old new : Option (List ℕ)) → StormReports number status j old new → Fresh j → NoCollision j → Unforged j → SafeRun j
storm_safe safe number Done j old new r = safe _ _ j r.0
storm_safe safe number WriteFault j old new r = safe _ _ j r.0
storm_safe safe number NoMemory j old new r = safe _ _ j r.0.journal
storm_safe safe number Usage j old new r = absurd r
storm_safe safe number ReadFault j old new r = absurd r
storm_safe safe number (Script line reason mistake) j old new r = absurd r
storm_safe safe number (Limit which) j old new r = absurd r
storm_safe safe number LinkFault j old new r = absurd r
storm_safe safe number DrawFault j old new r = absurd r
