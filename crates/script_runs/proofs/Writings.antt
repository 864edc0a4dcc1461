-- What was written by steps of a reading, one after another, and at its end.
use Rattle.std.proofs.Common.{◌≡◌, ◌⊎◌, ℕ, zero, suc, ◌≤◌, Bool, true, false, List, [], ◌∷◌, ◌++◌, length, append_assoc, Option, Result, Ok, Err, refl, sym, ap, subst, ◌∙◌, inl, inr, arith}
use Rattle.std.specs.Prelude.{OnOk, OnErr, IsOk}
use Rattle.std.specs.Io.KnownBytes.{Appends}
use Rattle.std.proofs.lemmas.Bool.{false≢true, true≢false}
use Rattle.domain_base.specs.Causes.{AppendsPart, HasCause, Rose}
use Rattle.domain_base.proofs.Taken.{Appends-then}
use Rattle.domain_base.specs.declared.names.Mac.{Mac}
use Rattle.domain_base.specs.declared.names.Node.TheVariants.{Ap}
use Rattle.run_journal.specs.declared.domain.Domain.{Domain}
use Rattle.run_journal.specs.declared.domain.Event.{Event}
use Rattle.run_journal.specs.declared.acts.Entry.{Entry}
use Rattle.run_journal.specs.Listing.{with_ap}
use Rattle.run_journal.specs.Report.{lines}
use Rattle.journal_report.specs.Since.{lines_since}
use Rattle.journal_report.proofs.News.{lines-more, lines-since-more}
use Rattle.journal_report.proofs.Taken.{none-gone, part-then}
use Rattle.domain_rules.specs.AccessPointRows.{start_acts}
use Rattle.domain_rules.specs.Explained.{Step, Follows, started}
use Rattle.domain_world.specs.State.{State}
use Rattle.domain_world.specs.Owning.{Owns, IsSince}
use Rattle.script_runs.specs.declared.session.SessionFault.{SessionFault}
use Rattle.script_runs.specs.declared.session.SessionFault.TheVariants.{NoMemory, WriteFault}
use Rattle.script_runs.specs.declared.stops.Found.{Found}
use Rattle.script_runs.specs.declared.stops.Found.TheVariants as found
use Rattle.script_runs.specs.declared.stops.Stop.{Stop}
use Rattle.script_runs.specs.declared.stops.Stop.TheVariants as stop
use Rattle.script_lines.specs.Script.{Draft}
use Rattle.script_runs.specs.Stops.{EndsAt, IsRefusal}
use Rattle.script_runs.specs.Sessions.{Output, Gained, GainedPart, OnRun, OnUnrun, Writes}
use Rattle.script_runs.specs.Written.{AreStarts, GoesOn, HasWritten, IsShort, Wrote, WroteBy, WrotePart, found_short, session_short, stop_short}
use Rattle.script_runs.proofs.Growing.{Late-push, Grows-follows, Grows-started, Grows-step, all_two}
use Rattle.script_runs.proofs.Turned.{longer}

-- ---- a journal that grew

-- the new journal has the old one after what is later
pub record Later (j k : List Entry) : Type 0 where
  pub later : List Entry
  pub is : k ≡ later ++ j

pub later_event : {T : Type 0} (result : Result T SessionFault) (w : State) (event : Event) (j k : List Entry) → Owns w j → OnRun result ((c : Domain) → IsSince c w j → Step c (suc w.rounds) event j k) → OnRun result (Later j k)
later_event (Ok x) w event j k own step = (let g = Grows-step own.header.0 0 (suc w.rounds) event j k (step own.header.0 own.header.1) (omega arith) in record { later = g.later; is = g.is })
later_event (Err WriteFault) w event j k own step = (let g = Grows-step own.header.0 0 (suc w.rounds) event j k (step own.header.0 own.header.1) (omega arith) in record { later = g.later; is = g.is })
later_event (Err NoMemory) w event j k own step = tt

pub later_round : {T : Type 0} (result : Result T SessionFault) (w : State) (events : List Event) (j k : List Entry) → Owns w j → OnRun result ((c : Domain) → IsSince c w j → Follows c (suc w.rounds) events j k) → OnRun result (Later j k)
later_round (Ok x) w events j k own goes = (let g = Grows-follows own.header.0 0 (suc w.rounds) events j k (goes own.header.0 own.header.1) (omega arith) in record { later = g.later; is = g.is })
later_round (Err WriteFault) w events j k own goes = (let g = Grows-follows own.header.0 0 (suc w.rounds) events j k (goes own.header.0 own.header.1) (omega arith) in record { later = g.later; is = g.is })
later_round (Err NoMemory) w events j k own goes = tt

-- what is after a session's world had a round is longer
pub longer_event : (w : State) (event : Event) (n : ℕ) (j k : List Entry) → Owns w j → ((c : Domain) → IsSince c w j → Step c (suc w.rounds) event j k) → n ≤ length j → n ≤ length k
longer_event w event n j k own step within = omega (arith, within, longer 0 j k (Grows-step own.header.0 0 (suc w.rounds) event j k (step own.header.0 own.header.1) (omega arith)))

pub longer_round : (w : State) (events : List Event) (n : ℕ) (j k : List Entry) → Owns w j → ((c : Domain) → IsSince c w j → Follows c (suc w.rounds) events j k) → n ≤ length j → n ≤ length k
longer_round w events n j k own goes within = omega (arith, within, longer 0 j k (Grows-follows own.header.0 0 (suc w.rounds) events j k (goes own.header.0 own.header.1) (omega arith)))

-- the lines of all its entries
whole_lines : (later late early j k : List Entry) (n : ℕ) → late ++ early ≡ j → k ≡ later ++ j → n ≡ length early → lines early ++ lines_since n k ≡ lines k
whole_lines later late early j k n whole is count =
    let grown : k ≡ (later ++ late) ++ early = is ∙ ap (λ (w : List Entry). later ++ w) (sym whole) ∙ sym (append_assoc later late early) in
    let here : lines early ++ lines_since (length early) ((later ++ late) ++ early) ≡ lines ((later ++ late) ++ early) = sym (lines-more (later ++ late) early) in
    subst (λ (x : List Entry). lines early ++ lines_since n x ≡ lines x) (sym grown) (subst (λ (m : ℕ). lines early ++ lines_since m ((later ++ late) ++ early) ≡ lines ((later ++ late) ++ early)) (sym count) here)

-- nothing is new
pub nothing_since : (a : Option (List ℕ)) (n : ℕ) (j : List Entry) → n ≡ length j → Appends a a (lines_since n j)
nothing_since a n j count =
    subst (λ (m : ℕ). Appends a a (lines_since m j)) (sym count) (subst (λ (w : List ℕ). Appends a a w) (sym (lines-since-more [] j)) (none-gone a))

-- ---- steps

pub goes_none : (o : Output) (n : ℕ) (j : List Entry) → n ≤ length j → GoesOn false o o n n j j
goes_none o n j within = record { count = λ e. within; on = λ first was. was }

pub goes_same : (a b : Output) (n m : ℕ) (j k : List Entry) → b ≡ a → m ≡ n → k ≡ j → n ≤ length j → GoesOn false a b n m j k
goes_same a b n m j k sink count journal within = record {
  count = λ e. omega (arith, within, count, ap (λ (x : List Entry). length x) journal);
  on = λ first was. subst (λ (x : Output). Wrote first x m k) (sym sink) (subst (λ (x : ℕ). Wrote first a x k) (sym count) (subst (λ (x : List Entry). Wrote first a n x) (sym journal) was));
}

-- and another after it
pub goes_then : (short : Bool) (a b c : Output) (n m p : ℕ) (i j k : List Entry) → GoesOn false a b n m i j → GoesOn short b c m p j k → GoesOn short a c n p i k
goes_then short a b c n m p i j k first then_ = record { count = then_.count; on = λ f was. then_.on f (first.on f was) }

wrote_all : (first old new : Output) (n m : ℕ) (j k : List Entry) → Wrote first old n j → Later j k → Gained old new n k → m ≡ length k → Wrote first new m k
wrote_all first old new n m j k was later gained count = record {
  late = [];
  early = k;
  whole = refl;
  count = count;
  out = subst (λ (w : List ℕ). Appends first.out new.out w) (whole_lines later.later was.late was.early j k n was.whole later.is was.count) (Appends-then first.out old.out new.out (lines was.early) (lines_since n k) was.out gained.out);
  unfailed = gained.unfailed ∙ was.unfailed;
  left = inl refl;
}

wrote_part : (first old new : Output) (n : ℕ) (j k : List Entry) → Wrote first old n j → Later j k → GainedPart old new n k → WrotePart first new k
wrote_part first old new n j k was later gained = record {
  out = subst (λ (w : List ℕ). AppendsPart first.out new.out w) (whole_lines later.later was.late was.early j k n was.whole later.is was.count) (part-then first.out old.out new.out (lines was.early) (lines_since n k) was.out gained.out);
  failed = subst (λ (f : ℕ). Rose f new.faults) was.unfailed gained.failed;
}

-- a round of a session
pub went_on : {T : Type 0} (result : Result T SessionFault) (old new : Output) (n m : ℕ) (j k : List Entry) → n ≤ length j → OnRun result (Later j k) → OnUnrun result (k ≡ j) → Writes result old new n m k → GoesOn (session_short result) old new n m j k
went_on (Ok x) old new n m j k within later kept w = record { count = λ e. omega (arith, w.1); on = λ first was. wrote_all first old new n m j k was later w.0 w.1 }
went_on (Err WriteFault) old new n m j k within later kept w = record { count = λ e. absurd (true≢false e); on = λ first was. wrote_part first old new n j k was later w.0 }
went_on (Err NoMemory) old new n m j k within later kept w = goes_same old new n m j k w.0 w.1 kept within

-- a node that starts
starts : (d : Domain) (n : ℕ) → AreStarts (started d n)
unfolding started
starts d zero = tt
starts d (suc n) =
    let late = Late-push 0 (Ap n) (start_acts d 0 (Ap n)) (started d n) in
    subst AreStarts (sym late.is) (all_two 0 late.later (started d n) late.all (starts d n))

pub goes_listed : (o : Output) (w v : State) (address : Mac) (id : List ℕ) (n : ℕ) (j k : List Entry) → n ≤ length j → v.domain ≡ with_ap w.domain address id → j ≡ started w.domain (length w.domain.aps) → k ≡ started v.domain (length v.domain.aps) → GoesOn false o o n n j k
goes_listed o w v address id n j k within network before after =
    let g = Grows-started w.domain v.domain 0 address id j k network before after in
    record {
      count = λ e. omega (arith, within, longer 0 j k g);
      on = λ first was. record {
        late = g.later ++ was.late;
        early = was.early;
        whole = append_assoc g.later was.late was.early ∙ ap (λ (x : List Entry). g.later ++ x) was.whole ∙ sym g.is;
        count = was.count;
        out = was.out;
        unfailed = was.unfailed;
        left = inr (subst AreStarts (sym after) (starts v.domain (length v.domain.aps)));
      };
    }

-- before the first line
pub wrote_nothing : (o : Output) (n : ℕ) (j : List Entry) → n ≡ 0 → j ≡ [] → Wrote o o n j
wrote_nothing o n j count empty = record { late = []; early = []; whole = sym empty; count = count; out = none-gone o.out; unfailed = refl; left = inl refl }

-- ---- the end

pub ended_short : (found_ : Found) (first now : Output) (n : ℕ) (j : List Entry) → found_short found_ ≡ true → WroteBy (found_short found_) first now n j → WrotePart first now j × IsShort found_ j
ended_short (found.Stopped stop.Unwritten) first now n j short was = (was, tt)
ended_short found.Whole first now n j short was = absurd (false≢true short)
ended_short (found.Stopped (stop.Refused number refusal mistake)) first now n j short was = absurd (false≢true short)
ended_short (found.Stopped stop.NoMemory) first now n j short was = absurd (false≢true short)
ended_short (found.Stopped stop.DrawFault) first now n j short was = absurd (false≢true short)
ended_short (found.Stopped (stop.Broken fault)) first now n j short was = absurd (false≢true short)
ended_short (found.Unended number refusal) first now n j short was = absurd (false≢true short)
ended_short found.ReadFault first now n j short was = absurd (false≢true short)

is_short : (found_ : Found) (j : List Entry) → AreStarts j → IsShort found_ j
is_short (found.Stopped stop.Unwritten) j are = tt
is_short found.Whole j are = are
is_short (found.Stopped (stop.Refused number refusal mistake)) j are = are
is_short (found.Stopped stop.NoMemory) j are = are
is_short (found.Stopped stop.DrawFault) j are = are
is_short (found.Stopped (stop.Broken fault)) j are = are
is_short (found.Unended number refusal) j are = are
is_short found.ReadFault j are = are

-- where nothing is left, or only what nodes that started did
left_starts : (late early j : List Entry) (n : ℕ) → late ++ early ≡ j → n ≡ length early → (n ≡ length j → AreStarts j) → (late ≡ []) ⊎ AreStarts j → AreStarts j
left_starts late early j n whole count idle = elim [
  | inl none ↦ idle (count ∙ ap (λ (x : List Entry). length (x ++ early)) (sym none) ∙ ap (λ (x : List Entry). length x) whole)
  | inr are ↦ are
]

pub ended_lines : {T E : Type 0} (result : Result T E) (found_ : Found) (first old new : Output) (n : ℕ) (j : List Entry) → found_short found_ ≡ false → OnOk result (Appends old.out new.out (lines_since n j)) → OnErr result (AppendsPart old.out new.out (lines_since n j)) → (n ≡ length j → OnErr result (AreStarts j))
    → HasCause old.faults new.faults result → OnOk result (new.faults ≡ old.faults) → WroteBy (found_short found_) first old n j → HasWritten found_ result first new j
ended_lines (Ok x) found_ first old new n j short ok err idle cause unfailed by =
    let was = subst (λ (b : Bool). WroteBy b first old n j) short by in (
      (
        subst (λ (w : List ℕ). Appends first.out new.out w) (whole_lines [] was.late was.early j j n was.whole refl was.count) (Appends-then first.out old.out new.out (lines was.early) (lines_since n j) was.out ok),
        unfailed ∙ was.unfailed,
      ),
      short,
    )
ended_lines (Err error) found_ first old new n j short ok err idle cause unfailed by =
    let was = subst (λ (b : Bool). WroteBy b first old n j) short by in (
      record {
        out = subst (λ (w : List ℕ). AppendsPart first.out new.out w) (whole_lines [] was.late was.early j j n was.whole refl was.count) (part-then first.out old.out new.out (lines was.early) (lines_since n j) was.out err);
        failed = subst (λ (f : ℕ). Rose f new.faults) was.unfailed cause.failed;
      },
      is_short found_ j (left_starts was.late was.early j n was.whole was.count idle was.left),
    )

-- a call that does not fail
pub never_fails : {T E : Type 0} (result : Result T E) (P : Type 0) → IsOk result → OnErr result P
never_fails (Ok x) P is = tt
never_fails (Err error) P is = absurd (false≢true is)

-- no entry is there
pub none_starts : (n : ℕ) (j : List Entry) → n ≡ length j → n ≡ 0 → AreStarts j
none_starts n [] count none = tt
none_starts n (e ∷ j) count none = absurd (omega (arith, count, none))

pub on_error : {T E : Type 0} (result : Result T E) (P : Type 0) → P → OnErr result P
on_error (Ok x) P p = tt
on_error (Err error) P p = p

-- nothing was read
pub written_nothing : (o : Output) (j : List Entry) → j ≡ [] → (Appends o.out o.out (lines j) × (o.faults ≡ o.faults)) × (found_short (found.Stopped stop.NoMemory) ≡ false)
written_nothing o j empty = ((subst (λ (w : List Entry). Appends o.out o.out (lines w)) (sym empty) (none-gone o.out), refl), refl)

-- a stop that is found
pub found_stop : (T : Type 0) (why : Stop) → stop_short {T = T} (Err why) ≡ found_short (found.Stopped why)
found_stop T (stop.Refused number refusal mistake) = refl
found_stop T stop.NoMemory = refl
found_stop T stop.DrawFault = refl
found_stop T (stop.Broken error) = refl
found_stop T stop.Unwritten = refl

-- ---- by the answer

pub goes_as : (a b : Bool) (old new : Output) (n m : ℕ) (j k : List Entry) → a ≡ b → GoesOn a old new n m j k → GoesOn b old new n m j k
goes_as a b old new n m j k same goes = subst (λ (x : Bool). GoesOn x old new n m j k) same goes

-- a line that is refused
pub refusal_short : (T : Type 0) (why : Stop) → IsRefusal why → stop_short {T = T} (Err why) ≡ false
refusal_short T (stop.Refused number refusal mistake) is = refl
refusal_short T stop.NoMemory is = absurd is
refusal_short T stop.DrawFault is = absurd is
refusal_short T (stop.Broken error) is = absurd is
refusal_short T stop.Unwritten is = absurd is

-- the end of the source
pub ended_at : (f : Found) (lines : ℕ) (draft : Draft) → EndsAt f lines draft → found_short f ≡ false
ended_at found.Whole lines draft ends = refl
ended_at (found.Unended number refusal) lines draft ends = refl
ended_at found.ReadFault lines draft ends = absurd ends
ended_at (found.Stopped why) lines draft ends = absurd ends
