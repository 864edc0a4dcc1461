-- What a run of one end of a link kept.
use Rattle.std.proofs.Common.{◌≡◌, ◌≢◌, ℕ, List, refl, sym, subst}
use Rattle.std.proofs.lemmas.Bool.{true≢false}
use Rattle.domain_base.specs.Causes.{Rose}
use Rattle.domain_base.specs.declared.outside.LinkError.TheVariants as link
use Rattle.run_journal.specs.declared.acts.Entry.{Entry}
use Rattle.command_words.specs.declared.Command.TheVariants as ask
use Rattle.frame_script.specs.declared.mistakes.Mistake.{Mistake}
use Rattle.link_steps.specs.declared.ends.LinkEnd.{LinkEnd}
use Rattle.link_lines.specs.declared.refusal.LinkRefusal.{LinkRefusal}
use Rattle.link_lines.specs.declared.refusal.LinkRefusal.TheVariants as refusal
use Rattle.link_runs.specs.declared.found.Breach.TheVariants.{ByLink, ByWrite}
use Rattle.link_runs.specs.declared.found.LinkFound.{LinkFound}
use Rattle.link_runs.specs.declared.found.LinkFound.TheVariants as found
use Rattle.link_runs.specs.Linked.{Blame, IsLaid, IsLinked, Nobody, OnDraws, OnLink, OnSink, OnSource, blame_of}
use Rattle.domain_cli.specs.declared.status.Status.{Status}
use Rattle.domain_cli.specs.declared.status.Status.TheVariants.{Usage, ReadFault, WriteFault, LinkFault, DrawFault}
use Rattle.domain_cli.specs.Links.{link_status, mistake_of, status_by}
use Rattle.domain_cli.specs.Promises.{EndsScript, IsCaused, IsTold, Keeps, Outside, Unfailed, asks}

-- the four counts, by how the reading ended
record Laid (f : LinkFound) (old new : Outside) : Type 0 where
  source : IsLaid OnSource (blame_of f) old.read_faults new.read_faults
  sink : IsLaid OnSink (blame_of f) old.write_faults new.write_faults
  link_ : IsLaid OnLink (blame_of f) old.link_faults new.link_faults
  draws : IsLaid OnDraws (blame_of f) old.draw_faults new.draw_faults

-- ---- a line that is refused

refused_meant : (number : ℕ) (r : LinkRefusal) (m : Mistake) → status_by number r m ≢ Usage
refused_meant number refusal.Version m is = cc
refused_meant number refusal.Word m is = cc
refused_meant number refusal.Arguments m is = cc
refused_meant number refusal.Question m is = cc
refused_meant number refusal.ManyRows m is = cc
refused_meant number refusal.ManyLines m is = cc
refused_meant number refusal.LongLine m is = cc

refused_caused : (number : ℕ) (r : LinkRefusal) (m : Mistake) (old new : Outside) → IsCaused (status_by number r m) old new
refused_caused number refusal.Version m old new = tt
refused_caused number refusal.Word m old new = tt
refused_caused number refusal.Arguments m old new = tt
refused_caused number refusal.Question m old new = tt
refused_caused number refusal.ManyRows m old new = tt
refused_caused number refusal.ManyLines m old new = tt
refused_caused number refusal.LongLine m old new = tt

refused_ends : (number : ℕ) (r : LinkRefusal) (m : Mistake) → EndsScript (status_by number r m)
refused_ends number refusal.Version m = tt
refused_ends number refusal.Word m = tt
refused_ends number refusal.Arguments m = tt
refused_ends number refusal.Question m = tt
refused_ends number refusal.ManyRows m = tt
refused_ends number refusal.ManyLines m = tt
refused_ends number refusal.LongLine m = tt

-- ---- by how the reading ended

meant_by : (f : LinkFound) → link_status f ≢ Usage
meant_by found.Whole is = cc
meant_by (found.Refused number r slip) is = refused_meant number r (mistake_of slip) is
meant_by found.NoMemory is = cc
meant_by found.DrawFault is = cc
meant_by (found.Broken (ByLink link.Failed)) is = cc
meant_by (found.Broken (ByLink link.NoMemory)) is = cc
meant_by (found.Broken ByWrite) is = cc
meant_by found.ReadFault is = cc

caused_by : (f : LinkFound) (old new : Outside) → Laid f old new → IsCaused (link_status f) old new
caused_by found.Whole old new laid = tt
caused_by (found.Refused number r slip) old new laid = refused_caused number r (mistake_of slip) old new
caused_by found.NoMemory old new laid = tt
caused_by found.DrawFault old new laid = laid.draws.failed refl
caused_by (found.Broken (ByLink link.Failed)) old new laid = laid.link_.failed refl
caused_by (found.Broken (ByLink link.NoMemory)) old new laid = tt
caused_by (found.Broken ByWrite) old new laid = laid.sink.failed refl
caused_by found.ReadFault old new laid = laid.source.failed refl

ends_by : (f : LinkFound) (old new : Outside) → Laid f old new → ¬ Rose old.read_faults new.read_faults → ¬ Rose old.write_faults new.write_faults → ¬ Rose old.link_faults new.link_faults → ¬ Rose old.draw_faults new.draw_faults
    → EndsScript (link_status f)
ends_by found.Whole old new laid reads writes links draws = tt
ends_by (found.Refused number r slip) old new laid reads writes links draws = refused_ends number r (mistake_of slip)
ends_by found.NoMemory old new laid reads writes links draws = tt
ends_by found.DrawFault old new laid reads writes links draws = absurd (draws (laid.draws.failed refl))
ends_by (found.Broken (ByLink link.Failed)) old new laid reads writes links draws = absurd (links (laid.link_.failed refl))
ends_by (found.Broken (ByLink link.NoMemory)) old new laid reads writes links draws = tt
ends_by (found.Broken ByWrite) old new laid reads writes links draws = absurd (writes (laid.sink.failed refl))
ends_by found.ReadFault old new laid reads writes links draws = absurd (reads (laid.source.failed refl))

-- a count that is not what it was is that of the object to which the fault is laid
told_source : (f : LinkFound) (old new : Outside) → Laid f old new → new.read_faults ≢ old.read_faults → link_status f ≡ ReadFault
told_source found.Whole old new laid differs = absurd (differs (laid.source.kept (λ is. cc)))
told_source (found.Refused number r slip) old new laid differs = absurd (differs (laid.source.kept (λ is. cc)))
told_source found.NoMemory old new laid differs = absurd (differs (laid.source.kept (λ is. cc)))
told_source found.DrawFault old new laid differs = absurd (differs (laid.source.kept (λ is. cc)))
told_source (found.Broken (ByLink link.Failed)) old new laid differs = absurd (differs (laid.source.kept (λ is. cc)))
told_source (found.Broken (ByLink link.NoMemory)) old new laid differs = absurd (differs (laid.source.kept (λ is. cc)))
told_source (found.Broken ByWrite) old new laid differs = absurd (differs (laid.source.kept (λ is. cc)))
told_source found.ReadFault old new laid differs = refl

told_sink : (f : LinkFound) (old new : Outside) → Laid f old new → new.write_faults ≢ old.write_faults → link_status f ≡ WriteFault
told_sink found.Whole old new laid differs = absurd (differs (laid.sink.kept (λ is. cc)))
told_sink (found.Refused number r slip) old new laid differs = absurd (differs (laid.sink.kept (λ is. cc)))
told_sink found.NoMemory old new laid differs = absurd (differs (laid.sink.kept (λ is. cc)))
told_sink found.DrawFault old new laid differs = absurd (differs (laid.sink.kept (λ is. cc)))
told_sink (found.Broken (ByLink link.Failed)) old new laid differs = absurd (differs (laid.sink.kept (λ is. cc)))
told_sink (found.Broken (ByLink link.NoMemory)) old new laid differs = absurd (differs (laid.sink.kept (λ is. cc)))
told_sink (found.Broken ByWrite) old new laid differs = refl
told_sink found.ReadFault old new laid differs = absurd (differs (laid.sink.kept (λ is. cc)))

told_link : (f : LinkFound) (old new : Outside) → Laid f old new → new.link_faults ≢ old.link_faults → link_status f ≡ LinkFault
told_link found.Whole old new laid differs = absurd (differs (laid.link_.kept (λ is. cc)))
told_link (found.Refused number r slip) old new laid differs = absurd (differs (laid.link_.kept (λ is. cc)))
told_link found.NoMemory old new laid differs = absurd (differs (laid.link_.kept (λ is. cc)))
told_link found.DrawFault old new laid differs = absurd (differs (laid.link_.kept (λ is. cc)))
told_link (found.Broken (ByLink link.Failed)) old new laid differs = refl
told_link (found.Broken (ByLink link.NoMemory)) old new laid differs = absurd (differs (laid.link_.kept (λ is. cc)))
told_link (found.Broken ByWrite) old new laid differs = absurd (differs (laid.link_.kept (λ is. cc)))
told_link found.ReadFault old new laid differs = absurd (differs (laid.link_.kept (λ is. cc)))

told_draws : (f : LinkFound) (old new : Outside) → Laid f old new → new.draw_faults ≢ old.draw_faults → link_status f ≡ DrawFault
told_draws found.Whole old new laid differs = absurd (differs (laid.draws.kept (λ is. cc)))
told_draws (found.Refused number r slip) old new laid differs = absurd (differs (laid.draws.kept (λ is. cc)))
told_draws found.NoMemory old new laid differs = absurd (differs (laid.draws.kept (λ is. cc)))
told_draws found.DrawFault old new laid differs = refl
told_draws (found.Broken (ByLink link.Failed)) old new laid differs = absurd (differs (laid.draws.kept (λ is. cc)))
told_draws (found.Broken (ByLink link.NoMemory)) old new laid differs = absurd (differs (laid.draws.kept (λ is. cc)))
told_draws (found.Broken ByWrite) old new laid differs = absurd (differs (laid.draws.kept (λ is. cc)))
told_draws found.ReadFault old new laid differs = absurd (differs (laid.draws.kept (λ is. cc)))

told_by : (f : LinkFound) (old new : Outside) → Laid f old new → IsTold (link_status f) old new
told_by f old new laid = record {
  write = told_sink f old new laid;
  read = λ differs unfailed. told_source f old new laid differs;
  link = λ differs unfailed. told_link f old new laid differs;
  draw = λ differs unfailed. told_draws f old new laid differs;
}

-- all of it
keeps_by : (port : ℕ) (end : LinkEnd) (f : LinkFound) (old new : Outside) (j : List Entry) → IsLinked end f old.left new.left old.out new.out old.air new.air old.last new.last j → Laid f old new
    → Keeps (ask.Link port end) old new (link_status f) j
keeps_by port end f old new j ran laid = record {
  meant = meant_by f;
  did = record { found_ = f; status_is = refl; linked = ran };
  unasked = record { source = λ e. absurd (true≢false e); sink = λ e. absurd (true≢false e); air = λ e. absurd (true≢false e); draws = λ e. absurd (true≢false e) };
  caused = caused_by f old new laid;
  told = told_by f old new laid;
  complete = λ unfailed. ends_by f old new laid (unfailed.source refl) (unfailed.sink refl) (unfailed.air refl) (unfailed.draws refl);
  safe = λ fresh apart unforged. tt;
}

pub link_keeps : (port : ℕ) (end : LinkEnd) (f : LinkFound) (old new : Outside) (s : Status) (j : List Entry) → s ≡ link_status f → IsLinked end f old.left new.left old.out new.out old.air new.air old.last new.last j
    → IsLaid OnSource (blame_of f) old.read_faults new.read_faults → IsLaid OnSink (blame_of f) old.write_faults new.write_faults
    → IsLaid OnLink (blame_of f) old.link_faults new.link_faults → IsLaid OnDraws (blame_of f) old.draw_faults new.draw_faults → Keeps (ask.Link port end) old new s j
link_keeps port end f old new s j is ran reads writes links draws =
    subst (λ (x : Status). Keeps (ask.Link port end) old new x j) (sym is) (keeps_by port end f old new j ran (record { source = reads; sink = writes; link_ = links; draws = draws }))
