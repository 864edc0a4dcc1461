-- A run whose journal goes into a file: what went out, and that it reads back.
use Rattle.std.proofs.Common.{arith, ◌≡◌, ◌⊎◌, ◌∙◌, ℕ, Bool, List, [], ◌∷◌, ◌++◌, map, reverse, Option, None, Result, Ok, Err, false, refl, ap, sym, subst, inl, inr}
use Rattle.std.specs.Prelude.{All}
use Rattle.std.specs.Global.{Global}
use Rattle.std.specs.declared.vec.Vec.{Vec}
use Rattle.std.proofs.lemmas.Bool.{true≢false}
use Rattle.std.proofs.lemmas.List.{reverse-append}
use Rattle.std.proofs.lemmas.List.Elements.{All-nil, All-push}
use Rattle.run_journal.specs.declared.domain.Domain.{Domain}
use Rattle.run_journal.specs.declared.domain.Event.{Event}
use Rattle.run_journal.specs.declared.acts.Entry.{Entry}
use Rattle.run_journal.specs.Premises.{In}
use Rattle.domain_rules.specs.Network.{InForm}
use Rattle.domain_rules.specs.Present.{earlier, present}
use Rattle.domain_rules.specs.Explained.{Explained}
use Rattle.domain_rules.specs.HeldRight.{HeldRight}
use Rattle.entry_lines.specs.Entries.{HasLine, bare}
use Rattle.whole_entries.specs.Whole.{complete}
use Rattle.journal_file.specs.File.{IsLined}
use Rattle.journal_file.specs.Files.{Files}
use Rattle.journal_file.specs.declared.file.FileFault.{FileFault}
use Rattle.journal_file.specs.declared.file.FileFault.TheVariants as faults
use Rattle.script_lines.specs.declared.refusal.Refusal.{Refusal}
use Rattle.script_lines.specs.declared.refusal.LineFault.{LineFault}
use Rattle.script_lines.specs.declared.refusal.LineFault.TheVariants as numbered
use Rattle.script_lines.specs.Refusals.{answer_of, fault_of}
use Rattle.script_lines.specs.Script.{Draft, AtVersion, AtHeader, AtNodes, InRound}
use Rattle.frame_script.specs.Script.{end_fault}
use Rattle.frame_script.specs.declared.mistakes.Mistake.{Mistake}
use Rattle.frame_script.specs.declared.reader.Mode.TheVariants.{Replay}
use Rattle.domain_base.specs.declared.outside.LinkError.TheVariants as link
use Rattle.script_runs.specs.declared.stops.Found.{Found}
use Rattle.script_runs.specs.declared.stops.Found.TheVariants as founds
use Rattle.script_runs.specs.declared.stops.Stop.{Stop}
use Rattle.script_runs.specs.declared.stops.Stop.TheVariants as stops
use Rattle.script_runs.specs.declared.transcript.Transcript.{Transcript}
use Rattle.script_runs.specs.declared.transcript.Transcript.TheVariants.{Kept, Short}
use Rattle.script_runs.specs.Script.{IsJournal, Rounds, point_of}
use Rattle.script_runs.specs.Sessions.{Output, output}
use Rattle.script_runs.specs.Story.{Tells}
use Rattle.script_runs.specs.Transcripts.{Holds}
use Rattle.script_runs.specs.Written.{HasWritten, found_short}
use Rattle.domain_cli.specs.declared.status.Status.{Status}
use Rattle.domain_cli.specs.declared.status.Status.TheVariants.{Done, Usage, Script, Limit, ReadFault, WriteFault, NoMemory, LinkFault, DrawFault}
use Rattle.domain_cli.specs.Journals.{Filed, IsFiled, ReadsBack}
use Rattle.domain_cli.specs.Story.{status_by, status_of, unended}

-- ---- what is read back

-- entries of a run are completed, and have lines
pub record Lined : Type 0 where
  pub whole : (d : Domain) (rounds : List (List Event)) (j : List Entry) (e : Entry) → Explained d rounds j → HeldRight d j → In e j → complete (present d (earlier e.round j)) (bare e) ≡ e
  pub network : (d : Domain) (round : ℕ) (j : List Entry) → present d (earlier round (map bare j)) ≡ present d (earlier round j)
  pub lines : (d : Domain) (rounds : List (List Event)) (j : List Entry) (e : Entry) → InForm d → Explained d rounds j → In e j → HasLine e.act

completed : (law : Lined) (d : Domain) (rounds : List (List Event)) (j : List Entry) → Explained d rounds j → HeldRight d j → (e : Entry) → In e j → complete (present d (earlier e.round (map bare j))) (bare e) ≡ e
completed law d rounds j explained held e there =
    ap (λ (n : Domain). complete n (bare e)) (law.network d e.round j) ∙ law.whole d rounds j e explained held there

reads_back_at : (law : Lined) (draft : Draft) (run : List (List Event)) (j : List Entry) → end_fault draft ≡ None → IsJournal draft run j → ReadsBack draft j
reads_back_at law (AtNodes h) run j closed is = completed law h.network run j is.explained is.held
reads_back_at law (AtHeader awaited h) run j closed is = is.1
reads_back_at law AtVersion run j closed is = cc
reads_back_at law (InRound h count) run j closed is = cc

pub reads_back : (law : Lined) (draft : Draft) (rounds : Rounds) (octets : List ℕ) (ended : Bool) (j : List Entry) (f : Found) → Tells f octets ended (point_of Replay j draft rounds) → f ≡ founds.Whole → ReadsBack draft j
reads_back law draft rounds octets ended j f tells is =
    let t = subst (λ (x : Found). Tells x octets ended (point_of Replay j draft rounds)) is tells in
    reads_back_at law draft rounds.run j t.closed t.explains.journal

-- ---- lines of entries

none_in : (j : List Entry) (e : Entry) → j ≡ [] → In e j → HasLine e.act
none_in j e none there = absurd (subst (λ (l : List Entry). In e l) none there)

lined_at : (law : Lined) (draft : Draft) (run : List (List Event)) (j : List Entry) → IsJournal draft run j → (e : Entry) → In e j → HasLine e.act
lined_at law (AtNodes h) run j is e there = law.lines h.network run j e is.form is.explained there
lined_at law (InRound h count) run j is e there = law.lines h.network run j e is.form is.explained there
lined_at law AtVersion run j is e there = none_in j e is.1 there
lined_at law (AtHeader awaited h) run j is e there = none_in j e is.1 there

all_reversed : (j : List Entry) → ((e : Entry) → In e j → HasLine e.act) → All IsLined (reverse j)
all_reversed [] each = All-nil IsLined
all_reversed (e ∷ j) each =
    subst (λ (l : List Entry). All IsLined l) (sym (reverse-append (e ∷ []) j))
    (All-push IsLined (reverse j) e (all_reversed j (λ x there. each x (inr there))) (each e (inl refl)))

pub all_lined : (law : Lined) (draft : Draft) (rounds : Rounds) (octets : List ℕ) (ended : Bool) (j : List Entry) (f : Found) → Tells f octets ended (point_of Replay j draft rounds) → f ≡ founds.Whole → All IsLined (reverse j)
all_lined law draft rounds octets ended j f tells is =
    let t = subst (λ (x : Found). Tells x octets ended (point_of Replay j draft rounds)) is tells in
    all_reversed j (lined_at law draft rounds.run j t.explains.journal)

-- ---- the copy of the script

pub copy_is : (copy : Transcript) (kept : Vec ℕ Global) (octets : List ℕ) → copy ≡ Kept kept → Holds copy octets ⊎ (copy ≡ Short) → kept.items ≡ octets
copy_is copy kept octets is held = elim (subst (λ (t : Transcript). Holds t octets ⊎ (t ≡ Short)) is held) [ inl same ↦ same | inr short ↦ absurd cc ]

pub copied : (empty octets : List ℕ) (new : Transcript) → empty ≡ [] → Holds new (empty ++ octets) ⊎ (new ≡ Short) → Holds new octets ⊎ (new ≡ Short)
copied empty octets new none held = subst (λ (l : List ℕ). Holds new (l ++ octets) ⊎ (new ≡ Short)) none held

pub moved : (P : List ℕ → List Entry → Type 0) (these octets : List ℕ) (k j : List Entry) → these ≡ octets → k ≡ j → P these k → P octets j
moved P these octets k j is same p = subst (λ (x : List Entry). P octets x) same (subst (λ (x : List ℕ). P x k) is p)

-- ---- what went out

-- a part of the file, where the sink failed
pub failed_so : {A : Type 0} (r : Result A FileFault) (fault : FileFault) (octets : List ℕ) (j : List Entry) (old new : Option (List ℕ)) → r ≡ Err fault → fault ≡ faults.WriteFault → Files r octets j old new → IsFiled WriteFault octets j old new
failed_so {A} r fault octets j old new is by out =
    subst (λ (f : FileFault). Files {A = A} (Err f) octets j old new) by (subst (λ (x : Result A FileFault). Files {A = A} x octets j old new) is out)

pub filed_whole : (draft : Draft) (f : Found) (s : Status) (octets : List ℕ) (j : List Entry) (old new : Option (List ℕ)) → f ≡ founds.Whole → ReadsBack draft j → IsFiled s octets j old new → Filed draft f s octets j old new
filed_whole draft f Done octets j old new is back out = (is, (back, out))
filed_whole draft f WriteFault octets j old new is back out = (is, (back, out))
filed_whole draft f NoMemory octets j old new is back out = (inl is, out)
filed_whole draft f Usage octets j old new is back out = absurd out
filed_whole draft f ReadFault octets j old new is back out = absurd out
filed_whole draft f (Script line reason mistake) octets j old new is back out = absurd out
filed_whole draft f (Limit which) octets j old new is back out = absurd out
filed_whole draft f LinkFault octets j old new is back out = absurd out
filed_whole draft f DrawFault octets j old new is back out = absurd out

unfiled_by : (draft : Draft) (f : Found) (number : ℕ) (mistake : Mistake) (fault : LineFault) (octets : List ℕ) (j : List Entry) (o : Option (List ℕ)) → status_of f ≡ status_by number mistake fault → Filed draft f (status_by number mistake fault) octets j o o
unfiled_by draft f number mistake (numbered.Script reason) octets j o is = (is, refl)
unfiled_by draft f number mistake (numbered.Limit which) octets j o is = (is, refl)
unfiled_by draft f number mistake numbered.NoMemory octets j o is = (inr is, refl)

-- another end of a reading than at the end of the whole script
abbrev pub IsNotWhole : Found → Type 0
IsNotWhole found = ((stop : Stop) × (found ≡ founds.Stopped stop)) ⊎ (((number : ℕ) × (refusal : Refusal) × (found ≡ founds.Unended number refusal)) ⊎ (found ≡ founds.ReadFault))

is_whole : IsNotWhole founds.Whole → ⊥
is_whole (inl stopped) = cc
is_whole (inr (inl unended_)) = cc
is_whole (inr (inr fault)) = cc

-- where the script was not read whole, nothing
pub unfiled : (draft : Draft) (f : Found) → IsNotWhole f → found_short f ≡ false → (octets : List ℕ) (j : List Entry) (o : Option (List ℕ)) → Filed draft f (status_of f) octets j o o
unfiled draft founds.Whole other written octets j o = absurd (is_whole other)
unfiled draft (founds.Stopped (stops.Refused number refusal mistake)) other written octets j o = unfiled_by draft (founds.Stopped (stops.Refused number refusal mistake)) number mistake (answer_of (fault_of refusal)) octets j o refl
unfiled draft (founds.Stopped stops.NoMemory) other written octets j o = (inr refl, refl)
unfiled draft (founds.Stopped stops.DrawFault) other written octets j o = (refl, refl)
unfiled draft (founds.Stopped (stops.Broken link.Failed)) other written octets j o = (refl, refl)
unfiled draft (founds.Stopped (stops.Broken link.NoMemory)) other written octets j o = (inr refl, refl)
unfiled draft (founds.Stopped stops.Unwritten) other written octets j o = absurd (true≢false written)
unfiled draft (founds.Unended number refusal) other written octets j o = unfiled_by draft (founds.Unended number refusal) number unended (answer_of (fault_of refusal)) octets j o refl
unfiled draft founds.ReadFault other written octets j o = (refl, refl)

-- a reading does not end over lines that go to a sink that never fails
pub all_heard : {T E : Type 0} (f : Found) (written : Result T E) (first now : Output) (j : List Entry) → first.faults ≡ 0 → now.faults ≡ 0 → HasWritten f written first now j → found_short f ≡ false
all_heard f (Ok x) first now j before after has = has.1
all_heard f (Err error) first now j before after has = absurd (omega (arith, has.0.failed, before, after))
