-- What goes out at the end of a reading.
use Rattle.std.proofs.Common.{◌≡◌, ℕ, List, ◌++◌, Option, Result, Ok, Err, MatchResult, OnOk, OnErr, false, refl, sym, ap, subst, ◌∙◌}
use Rattle.std.specs.Prelude.{IsErr, IsOk}
use Rattle.std.proofs.lemmas.Bool.{false≢true, true≢false}
use Rattle.std.proofs.lemmas.List.{append-nil}
use Rattle.std.specs.Io.KnownBytes.{Appends}
use Rattle.run_journal.specs.declared.acts.Entry.{Entry}
use Rattle.domain_base.specs.Causes.{AppendsPart, Rose}
use Rattle.domain_base.proofs.Taken.{Appends-then}
use Rattle.journal_report.proofs.Taken.{part-more, part-then}
use Rattle.run_journal.specs.declared.premises.Premises.{Premises}
use Rattle.run_journal.specs.Report.{Decides, lines}
use Rattle.script_runs.specs.declared.stops.Found.{Found}
use Rattle.script_runs.specs.declared.stops.Found.TheVariants as founds
use Rattle.domain_base.specs.declared.outside.LinkError.TheVariants as link
use Rattle.frame_script.specs.declared.mistakes.Mistake.{Mistake}
use Rattle.script_lines.specs.declared.refusal.LineFault.{LineFault}
use Rattle.script_lines.specs.declared.refusal.LineFault.TheVariants as numbered
use Rattle.script_lines.specs.Refusals.{answer_of, fault_of}
use Rattle.domain_cli.specs.declared.status.Status.TheVariants.{LinkFault, DrawFault, Usage, WriteFault}
use Rattle.domain_cli.specs.declared.status.Status.TheVariants as status
use Rattle.script_runs.specs.declared.stops.Stop.TheVariants as stops
use Rattle.script_runs.specs.Outer.{OnLinks, OnDraws}
use Rattle.script_runs.specs.Sessions.{Output}
use Rattle.script_runs.specs.Stops.{found_blame}
use Rattle.script_runs.specs.Written.{HasWritten, IsShort, found_short}
use Rattle.domain_cli.specs.declared.status.Status.{Status}
use Rattle.domain_cli.specs.Reporting.{IsReported, rest_of}
use Rattle.domain_cli.specs.Story.{CanFail, IsText, Reports, status_by, status_of, unended}

pub either_way : {A E : Type 0} (r : Result A E) (P Q : Type 0) → OnOk r P → OnErr r Q → MatchResult r (λ _. P) (λ _. Q)
either_way (Ok x) P Q ok err = ok
either_way (Err x) P Q ok err = err

-- ---- the statuses of links and of draws

-- a line that is refused gives neither
no_link : (number : ℕ) (mistake : Mistake) (fault : LineFault) → status_by number mistake fault ≡ LinkFault → ⊥
no_link number mistake (numbered.Script reason) e = cc
no_link number mistake (numbered.Limit which) e = cc
no_link number mistake numbered.NoMemory e = cc

no_draw : (number : ℕ) (mistake : Mistake) (fault : LineFault) → status_by number mistake fault ≡ DrawFault → ⊥
no_draw number mistake (numbered.Script reason) e = cc
no_draw number mistake (numbered.Limit which) e = cc
no_draw number mistake numbered.NoMemory e = cc

pub link_blamed : (found : Found) → status_of found ≡ LinkFault → found_blame found ≡ OnLinks
link_blamed founds.Whole e = absurd cc
link_blamed (founds.Stopped (stops.Refused number refusal mistake)) e = absurd (no_link number mistake (answer_of (fault_of refusal)) e)
link_blamed (founds.Stopped stops.NoMemory) e = absurd cc
link_blamed (founds.Stopped stops.DrawFault) e = absurd cc
link_blamed (founds.Stopped (stops.Broken link.Failed)) e = refl
link_blamed (founds.Stopped (stops.Broken link.NoMemory)) e = absurd cc
link_blamed (founds.Stopped stops.Unwritten) e = absurd cc
link_blamed (founds.Unended number refusal) e = absurd (no_link number unended (answer_of (fault_of refusal)) e)
link_blamed founds.ReadFault e = absurd cc

pub draw_blamed : (found : Found) → status_of found ≡ DrawFault → found_blame found ≡ OnDraws
draw_blamed founds.Whole e = absurd cc
draw_blamed (founds.Stopped (stops.Refused number refusal mistake)) e = absurd (no_draw number mistake (answer_of (fault_of refusal)) e)
draw_blamed (founds.Stopped stops.NoMemory) e = absurd cc
draw_blamed (founds.Stopped stops.DrawFault) e = refl
draw_blamed (founds.Stopped (stops.Broken link.Failed)) e = absurd cc
draw_blamed (founds.Stopped (stops.Broken link.NoMemory)) e = absurd cc
draw_blamed (founds.Stopped stops.Unwritten) e = absurd cc
draw_blamed (founds.Unended number refusal) e = absurd (no_draw number unended (answer_of (fault_of refusal)) e)
draw_blamed founds.ReadFault e = absurd cc

pub blamed_link : (found : Found) → found_blame found ≡ OnLinks → status_of found ≡ LinkFault
blamed_link founds.Whole e = absurd cc
blamed_link (founds.Stopped (stops.Refused number refusal mistake)) e = absurd cc
blamed_link (founds.Stopped stops.NoMemory) e = absurd cc
blamed_link (founds.Stopped stops.DrawFault) e = absurd cc
blamed_link (founds.Stopped (stops.Broken link.Failed)) e = refl
blamed_link (founds.Stopped (stops.Broken link.NoMemory)) e = absurd cc
blamed_link (founds.Stopped stops.Unwritten) e = absurd cc
blamed_link (founds.Unended number refusal) e = absurd cc
blamed_link founds.ReadFault e = absurd cc

pub blamed_draw : (found : Found) → found_blame found ≡ OnDraws → status_of found ≡ DrawFault
blamed_draw founds.Whole e = absurd cc
blamed_draw (founds.Stopped (stops.Refused number refusal mistake)) e = absurd cc
blamed_draw (founds.Stopped stops.NoMemory) e = absurd cc
blamed_draw (founds.Stopped stops.DrawFault) e = refl
blamed_draw (founds.Stopped (stops.Broken link.Failed)) e = absurd cc
blamed_draw (founds.Stopped (stops.Broken link.NoMemory)) e = absurd cc
blamed_draw (founds.Stopped stops.Unwritten) e = absurd cc
blamed_draw (founds.Unended number refusal) e = absurd cc
blamed_draw founds.ReadFault e = absurd cc

-- ---- a reading whose text was all written

no_write : (number : ℕ) (mistake : Mistake) (fault : LineFault) → status_by number mistake fault ≡ WriteFault → ⊥
no_write number mistake (numbered.Script reason) e = cc
no_write number mistake (numbered.Limit which) e = cc
no_write number mistake numbered.NoMemory e = cc

no_usage : (number : ℕ) (mistake : Mistake) (fault : LineFault) → status_by number mistake fault ≡ Usage → ⊥
no_usage number mistake (numbered.Script reason) e = cc
no_usage number mistake (numbered.Limit which) e = cc
no_usage number mistake numbered.NoMemory e = cc

no_read : (number : ℕ) (mistake : Mistake) (fault : LineFault) → status_by number mistake fault ≡ status.ReadFault → ⊥
no_read number mistake (numbered.Script reason) e = cc
no_read number mistake (numbered.Limit which) e = cc
no_read number mistake numbered.NoMemory e = cc

pub never_write : (found : Found) → found_short found ≡ false → status_of found ≡ WriteFault → ⊥
never_write founds.Whole written e = cc
never_write (founds.Stopped (stops.Refused number refusal mistake)) written e = no_write number mistake (answer_of (fault_of refusal)) e
never_write (founds.Stopped stops.NoMemory) written e = cc
never_write (founds.Stopped stops.DrawFault) written e = cc
never_write (founds.Stopped (stops.Broken link.Failed)) written e = cc
never_write (founds.Stopped (stops.Broken link.NoMemory)) written e = cc
never_write (founds.Stopped stops.Unwritten) written e = true≢false written
never_write (founds.Unended number refusal) written e = no_write number unended (answer_of (fault_of refusal)) e
never_write founds.ReadFault written e = cc

pub never_usage : (found : Found) → status_of found ≡ Usage → ⊥
never_usage founds.Whole e = cc
never_usage (founds.Stopped (stops.Refused number refusal mistake)) e = no_usage number mistake (answer_of (fault_of refusal)) e
never_usage (founds.Stopped stops.NoMemory) e = cc
never_usage (founds.Stopped stops.DrawFault) e = cc
never_usage (founds.Stopped (stops.Broken link.Failed)) e = cc
never_usage (founds.Stopped (stops.Broken link.NoMemory)) e = cc
never_usage (founds.Stopped stops.Unwritten) e = cc
never_usage (founds.Unended number refusal) e = no_usage number unended (answer_of (fault_of refusal)) e
never_usage founds.ReadFault e = cc

pub read_alone : (found : Found) → status_of found ≡ status.ReadFault → found ≡ founds.ReadFault
read_alone founds.Whole e = absurd cc
read_alone (founds.Stopped (stops.Refused number refusal mistake)) e = absurd (no_read number mistake (answer_of (fault_of refusal)) e)
read_alone (founds.Stopped stops.NoMemory) e = absurd cc
read_alone (founds.Stopped stops.DrawFault) e = absurd cc
read_alone (founds.Stopped (stops.Broken link.Failed)) e = absurd cc
read_alone (founds.Stopped (stops.Broken link.NoMemory)) e = absurd cc
read_alone (founds.Stopped stops.Unwritten) e = absurd cc
read_alone (founds.Unended number refusal) e = absurd (no_read number unended (answer_of (fault_of refusal)) e)
read_alone founds.ReadFault e = refl

reported_by : (found : Found) (number : ℕ) (mistake : Mistake) (fault : LineFault) (j : List Entry) (text : List ℕ) (old new : Option (List ℕ)) → status_of found ≡ status_by number mistake fault → Appends old new text → Reports found (status_by number mistake fault) j text old new
reported_by found number mistake (numbered.Script reason) j text old new is out = (is, out)
reported_by found number mistake (numbered.Limit which) j text old new is out = (is, out)
reported_by found number mistake numbered.NoMemory j text old new is out = (is, out)

pub reported : (found : Found) → found_short found ≡ false → (j : List Entry) (text : List ℕ) (old new : Option (List ℕ)) → Appends old new text → Reports found (status_of found) j text old new
reported founds.Whole written j text old new out = (refl, out)
reported (founds.Stopped (stops.Refused number refusal mistake)) written j text old new out = reported_by (founds.Stopped (stops.Refused number refusal mistake)) number mistake (answer_of (fault_of refusal)) j text old new refl out
reported (founds.Stopped stops.NoMemory) written j text old new out = (refl, out)
reported (founds.Stopped stops.DrawFault) written j text old new out = (refl, out)
reported (founds.Stopped (stops.Broken link.Failed)) written j text old new out = (refl, out)
reported (founds.Stopped (stops.Broken link.NoMemory)) written j text old new out = (refl, out)
reported (founds.Stopped stops.Unwritten) written j text old new out = absurd (true≢false written)
reported (founds.Unended number refusal) written j text old new out = reported_by (founds.Unended number refusal) number unended (answer_of (fault_of refusal)) j text old new refl out
reported founds.ReadFault written j text old new out = (refl, out)

-- ---- what went out, and how it is told

-- the text is of the lines and what follows them
pub text_of : (found : Found) (j : List Entry) (p : Premises) → Decides j p → IsText found j (lines j ++ rest_of found j p)
text_of founds.Whole j p decides = (p, (decides, refl))
text_of (founds.Stopped stop) j p decides = append-nil (lines j)
text_of (founds.Unended number refusal) j p decides = append-nil (lines j)
text_of founds.ReadFault j p decides = append-nil (lines j)

can_fail : (found : Found) (j : List Entry) → IsShort found j → CanFail found j
can_fail founds.Whole j short = tt
can_fail (founds.Stopped stop) j short = short
can_fail (founds.Unended number refusal) j short = short
can_fail founds.ReadFault j short = short

whole_fails : (found : Found) (j : List Entry) → found ≡ founds.Whole → CanFail found j
whole_fails found j is = subst (λ (f : Found). CanFail f j) (sym is) tt

-- a write fault
write_reported : (found : Found) (first now : Output) (j : List Entry) (text : List ℕ) → IsText found j text → CanFail found j → AppendsPart first.out now.out text → Rose first.faults now.faults → IsReported found WriteFault first now j
write_reported found first now j text is can out rose = record {
  text = text;
  is_text = is;
  reports = (can, out);
  write_fault = λ e. rose;
  write_told = λ differs. refl;
  read_told = λ e unfailed. absurd (unfailed rose);
  link_told = λ e unfailed. absurd (unfailed rose);
  draw_told = λ e unfailed. absurd (unfailed rose);
}

-- the lines could not be written
pub lines_failed : {T E : Type 0} (found : Found) (written : Result T E) (first now : Output) (j : List Entry) (p : Premises) → IsErr written → Decides j p → HasWritten found written first now j → IsReported found WriteFault first now j
lines_failed found (Ok x) first now j p failed decides has = absurd (false≢true failed)
lines_failed found (Err error) first now j p failed decides has =
    write_reported found first now j (lines j ++ rest_of found j p) (text_of found j p decides) (can_fail found j has.1) (part-more first.out now.out (lines j) (rest_of found j p) has.0.out) has.0.failed

-- or what follows them could not
pub rest_failed : {T E : Type 0} (found : Found) (written : Result T E) (first mid now : Output) (j : List Entry) (p : Premises) → IsOk written → Decides j p → HasWritten found written first mid j → found ≡ founds.Whole → AppendsPart mid.out now.out (rest_of found j p) → Rose mid.faults now.faults
    → IsReported found WriteFault first now j
rest_failed found (Err error) first mid now j p whole decides has is out rose = absurd (false≢true whole)
rest_failed found (Ok x) first mid now j p whole decides has is out rose =
    write_reported found first now j (lines j ++ rest_of found j p) (text_of found j p decides) (whole_fails found j is) (part-then first.out mid.out now.out (lines j) (rest_of found j p) has.0.0 out)
    (subst (λ (f : ℕ). Rose f now.faults) has.0.1 rose)

-- or all went out
pub all_reported : {T E : Type 0} (found : Found) (written : Result T E) (s : Status) (first mid now : Output) (j : List Entry) (p : Premises) → IsOk written → Decides j p → HasWritten found written first mid j → s ≡ status_of found → Appends mid.out now.out (rest_of found j p) → now.faults ≡ mid.faults
    → IsReported found s first now j
all_reported found (Err error) s first mid now j p whole decides has is out same = absurd (false≢true whole)
all_reported found (Ok x) s first mid now j p whole decides has is out same =
    let text = lines j ++ rest_of found j p in
    record {
      text = text;
      is_text = text_of found j p decides;
      reports = subst (λ (x : Status). Reports found x j text first.out now.out) (sym is) (reported found has.1 j text first.out now.out (Appends-then first.out mid.out now.out (lines j) (rest_of found j p) has.0.0 out));
      write_fault = λ e. absurd (never_write found has.1 (sym is ∙ e));
      write_told = λ differs. absurd (differs (same ∙ has.0.1));
      read_told = λ e unfailed. is ∙ ap status_of e;
      link_told = λ e unfailed. is ∙ blamed_link found e;
      draw_told = λ e unfailed. is ∙ blamed_draw found e;
    }
