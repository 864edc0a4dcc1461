-- What a feeder stands for behind an octet, and how a reading ends behind it.
use Rattle.std.proofs.Common.{◌≡◌, ◌≢◌, ℕ, ◌+◌, ◌-◌, ◌<◌, ◌≤◌, List, [], ◌∷◌, ◌++◌, length, take, drop, get_or, append_assoc, Option, Result, Ok, Err, ◌⊎◌, sym, ap, subst, ◌∙◌, true, arith}
use Rattle.std.specs.Prelude.{MatchResult, OnOk}
use Rattle.std.proofs.lemmas.List.{take_all, take_more}
use Rattle.std.proofs.Math.Seq.{take-add}
use Rattle.domain_base.specs.Told.{LinkStory}
use Rattle.domain_base.specs.declared.outside.LinkError.{LinkError}
use Rattle.domain_base.specs.declared.outside.LinkError.TheVariants as link
use Rattle.run_journal.specs.declared.acts.Entry.{Entry}
use Rattle.script_lines.specs.Script.{Draft}
use Rattle.frame_script.specs.declared.reader.Mode.{Mode}
use Rattle.script_runs.specs.declared.feeder.LineFeeder.{LineFeeder}
use Rattle.script_runs.specs.declared.state.ScriptState.{ScriptState}
use Rattle.script_runs.specs.declared.stops.Found.{Found}
use Rattle.script_runs.specs.declared.stops.Found.TheVariants as founds
use Rattle.script_runs.specs.declared.stops.Stop.{Stop}
use Rattle.script_runs.specs.declared.stops.Stop.TheVariants as stops
use Rattle.script_runs.specs.declared.stops.Undone.TheVariants as undone
use Rattle.script_runs.specs.Feeders.{HasCome, Reached}
use Rattle.script_runs.specs.Outer.{Outer, IsMet, IsBlamed, Nobody}
use Rattle.text_lines.specs.Cuts.{HasCut}
use Rattle.script_runs.specs.Script.{Rounds, Spells, most_lines, point_of, script_limits}
use Rattle.text_lines.specs.Texts.{texts, without_return}
use Rattle.script_runs.specs.States.{HasSame, IsReady, TellsLine}
use Rattle.script_runs.specs.Stops.{Closes, EndsAt, Halts, IsRefusal, Stopped, StopsLine, stop_blame, undone_blame}
use Rattle.script_runs.proofs.Blamed.{unblamed}
use Rattle.script_runs.proofs.Lines.{Closes-end, Closes-last, Halts-line, IsScript-closed, IsScript-open, Spells-line, length-texts}
use Rattle.script_runs.proofs.Sent.{Spells-more}

-- the lines before it, by the journal behind it
spelled_on : (s : LineFeeder) (m : Mode) (octets : List ℕ) (draft : Draft) (rounds : Rounds) (j k : List Entry) → (come : HasCome s octets draft rounds j) → m ≡ s.state.reader.mode → HasSame (length rounds.run) j k → Spells m k (texts come.good) draft rounds
spelled_on s m octets draft rounds j k come mode same =
    Spells-more m j k (texts come.good) draft rounds same (subst (λ (x : Mode). Spells x j (texts come.good) draft rounds) (sym mode) come.spelled)

-- ---- behind a line feed

pub reached_line : {L : Type 0} (told : L → Option LinkStory) (first o : Outer L) (s t : LineFeeder) (octets : List ℕ) (draft : Draft) (rounds : Rounds) (j k : List Entry) → (come : HasCome s octets draft rounds j) → HasCut script_limits t.cutter (octets ++ 10 ∷ []) (s.cutter.line.items ∷ come.good)
    → t.state.reader.mode ≡ s.state.reader.mode → TellsLine told first o (without_return s.cutter.line.items) draft rounds t.state j k → Reached told first o t (octets ++ 10 ∷ []) k
reached_line told first o s t octets draft rounds j k come cut mode tells = record {
  draft = tells.draft;
  rounds = tells.rounds;
  come = record {
    good = s.cutter.line.items ∷ come.good;
    cut = cut;
    spelled = Spells-line t.state.reader.mode k (without_return s.cutter.line.items) (texts come.good) draft tells.draft rounds tells.rounds (spelled_on s t.state.reader.mode octets draft rounds j k come mode tells.same) tells.says;
    stands = tells.stands;
  };
  met = tells.met;
}

pub halts_line : {L : Type 0} (told : L → Option LinkStory) (first old new : Outer L) (s : LineFeeder) (stop : Stop) (octets : List ℕ) (draft : Draft) (rounds : Rounds) (j k : List Entry) → HasCome s octets draft rounds j → IsMet told first old s.state.reader.mode draft rounds j
    → StopsLine stop told first old new s.state.reader.mode s.cutter.lines (without_return s.cutter.line.items) draft rounds j k → Halts told first new s.state.reader.mode 1 stop (octets ++ 10 ∷ []) k
halts_line told first old new s stop octets draft rounds j k come met why =
    Halts-line told first old new s.state.reader.mode stop s.cutter.lines octets come.good s.cutter.line.items draft rounds j k come.cut.begins come.cut.open_line come.cut.short come.cut.count (record { spelled = come.spelled; journal = come.stands.journal }) met why

-- ---- behind more octets of a line

halts_refused : {L : Type 0} (told : L → Option LinkStory) (first o : Outer L) (m : Mode) (most : ℕ) (stop : Stop) (octets : List ℕ) (draft : Draft) (rounds : Rounds) (j : List Entry) → IsRefusal stop → Stopped most stop octets (point_of m j draft rounds) → IsMet told first o m draft rounds j
    → Halts told first o m most stop octets j
halts_refused told first o m most (stops.Refused number refusal mistake) octets draft rounds j is stopped met = record { draft = draft; rounds = rounds; stopped = stopped; met = met }
halts_refused told first o m most stops.NoMemory octets draft rounds j is stopped met = absurd is
halts_refused told first o m most stops.DrawFault octets draft rounds j is stopped met = absurd is
halts_refused told first o m most (stops.Broken error) octets draft rounds j is stopped met = absurd is
halts_refused told first o m most stops.Unwritten octets draft rounds j is stopped met = absurd is

pub reached_more : {L T : Type 0} (told : L → Option LinkStory) (first o : Outer L) (s t : LineFeeder) (octets more : List ℕ) (j : List Entry) (result : Result T Stop) → Reached told first o s octets j → t.state ≡ s.state
    → ((draft : Draft) (rounds : Rounds) → HasCome s octets draft rounds j → MatchResult result (λ _. HasCome t (octets ++ more) draft rounds j) (λ stop. Stopped 1 stop (octets ++ more) (point_of s.state.reader.mode j draft rounds)))
    → MatchResult result (λ _. Unit {0}) (λ stop. IsRefusal stop)
    → MatchResult result (λ _. Reached told first o t (octets ++ more) j) (λ stop. Halts told first o s.state.reader.mode 1 stop (octets ++ more) j)
reached_more told first o s t octets more j (Ok x) r same come refused = record {
  draft = r.draft;
  rounds = r.rounds;
  come = come r.draft r.rounds r.come;
  met = subst (λ (m : Mode). IsMet told first o m r.draft r.rounds j) (ap (λ (x : ScriptState). x.reader.mode) (sym same)) r.met;
}
reached_more told first o s t octets more j (Err stop) r same come refused =
    halts_refused told first o s.state.reader.mode 1 stop (octets ++ more) r.draft r.rounds j refused (come r.draft r.rounds r.come) r.met

unblamed_refusal : {L : Type 0} (faults : L → ℕ) (stop : Stop) (links : List L) (air draws : ℕ) → IsRefusal stop → IsBlamed faults (stop_blame stop) links links air air draws draws
unblamed_refusal faults (stops.Refused number refusal mistake) links air draws is = unblamed faults links air draws
unblamed_refusal faults stops.NoMemory links air draws is = absurd is
unblamed_refusal faults stops.DrawFault links air draws is = absurd is
unblamed_refusal faults (stops.Broken error) links air draws is = absurd is
unblamed_refusal faults stops.Unwritten links air draws is = absurd is

pub unblamed_more : {L T : Type 0} (faults : L → ℕ) (links : List L) (air draws : ℕ) (result : Result T Stop) → MatchResult result (λ _. Unit {0}) (λ stop. IsRefusal stop)
    → MatchResult result (λ _. IsBlamed faults Nobody links links air air draws draws) (λ stop. IsBlamed faults (stop_blame stop) links links air air draws draws)
unblamed_more faults links air draws (Ok x) refused = unblamed faults links air draws
unblamed_more faults links air draws (Err stop) refused = unblamed_refusal faults stop links air draws refused

pub ready_more : {T : Type 0} (s t : LineFeeder) (links : ℕ) (j : List Entry) (result : Result T Stop) → IsReady s.state links s.cutter.lines j → t.state ≡ s.state → t.cutter.lines ≡ s.cutter.lines → OnOk result (IsReady t.state links t.cutter.lines j)
ready_more s t links j (Ok x) ready state lines =
    subst (λ (x : ScriptState). IsReady x links t.cutter.lines j) (sym state) (subst (λ (n : ℕ). IsReady s.state links n j) (sym lines) ready)
ready_more s t links j (Err stop) ready state lines = tt

-- ---- at the end of the source

-- the last line has its line feed
pub closes_here : {L : Type 0} (told : L → Option LinkStory) (first o : Outer L) (s : LineFeeder) (found : Found) (octets : List ℕ) (j : List Entry) → Reached told first o s octets j → s.cutter.line.items ≡ [] → 0 < s.cutter.lines → EndsAt found s.cutter.lines s.state.reader.draft → Closes told first o s.state.reader.mode found octets true j
closes_here told first o s found octets j r empty some end =
    Closes-end told first o s.state.reader.mode found s.cutter.lines octets (texts r.come.good) r.draft r.rounds j (subst (λ (x : Draft). EndsAt found s.cutter.lines x) r.come.stands.draft_is end)
    (r.come.cut.count ∙ sym (length-texts r.come.good)) (IsScript-closed octets r.come.good s.cutter.line.items r.come.cut.begins empty (omega (arith, r.come.cut.count, some))) (record { spelled = r.come.spelled; journal = r.come.stands.journal }) r.met

-- or lacks it, and is taken
pub closes_line : {L : Type 0} (told : L → Option LinkStory) (first o : Outer L) (s : LineFeeder) (t : ScriptState) (found : Found) (octets : List ℕ) (draft : Draft) (rounds : Rounds) (j k : List Entry) → (come : HasCome s octets draft rounds j) → s.cutter.lines < most_lines
    → (s.cutter.line.items ≢ []) ⊎ (come.good ≡ []) → t.reader.mode ≡ s.state.reader.mode → TellsLine told first o s.cutter.line.items draft rounds t j k → EndsAt found (s.cutter.lines + 1) t.reader.draft → Closes told first o s.state.reader.mode found octets true k
closes_line told first o s t found octets draft rounds j k come few some mode tells end =
    let line = s.cutter.line.items in
    let spelled = spelled_on s t.reader.mode octets draft rounds j k come mode tells.same in
    subst (λ (m : Mode). Closes told first o m found octets true k) mode
    (Closes-end told first o t.reader.mode found (s.cutter.lines + 1) octets (line ∷ texts come.good) tells.draft tells.rounds k (subst (λ (x : Draft). EndsAt found (s.cutter.lines + 1) x) tells.stands.draft_is end)
    (omega (arith, come.cut.count, length-texts come.good))
    (IsScript-open t.reader.mode octets come.good line draft tells.draft rounds tells.rounds k come.cut.begins come.cut.open_line come.cut.short (omega (arith, come.cut.count, few)) some spelled tells.says)
    (record { spelled = Spells-line t.reader.mode k line (texts come.good) draft tells.draft rounds tells.rounds spelled tells.says; journal = tells.stands.journal }) tells.met)

-- or it stops the reading
pub closes_last : {L : Type 0} (told : L → Option LinkStory) (first old new : Outer L) (s : LineFeeder) (stop : Stop) (octets : List ℕ) (draft : Draft) (rounds : Rounds) (j k : List Entry) → (come : HasCome s octets draft rounds j) → IsMet told first old s.state.reader.mode draft rounds j
    → (s.cutter.line.items ≢ []) ⊎ (come.good ≡ []) → StopsLine stop told first old new s.state.reader.mode s.cutter.lines s.cutter.line.items draft rounds j k → Closes told first new s.state.reader.mode (founds.Stopped stop) octets true k
closes_last told first old new s stop octets draft rounds j k come met some why =
    Closes-last told first old new s.state.reader.mode stop s.cutter.lines octets come.good s.cutter.line.items draft rounds j k come.cut.begins come.cut.open_line come.cut.short come.cut.count some (record { spelled = come.spelled; journal = come.stands.journal }) met why

-- ---- a line

pub blamed_stop : {L : Type 0} (faults : L → ℕ) (error : LinkError) (old new : List L) (a b c d : ℕ) → IsBlamed faults (undone_blame (undone.Broken error)) old new a b c d → IsBlamed faults (stop_blame (stops.Broken error)) old new a b c d
blamed_stop faults link.Failed old new a b c d is = is
blamed_stop faults link.NoMemory old new a b c d is = is

-- ---- a read

-- one more octet of it
one_further : (before octets : List ℕ) (i : ℕ) → i < length octets → (before ++ take i octets) ++ get_or octets i 0 ∷ [] ≡ before ++ take (i + 1) octets
one_further before octets i within =
    append_assoc before (take i octets) (get_or octets i 0 ∷ []) ∙ ap (λ (w : List ℕ). before ++ w) (sym (take_more octets i 0 within))

-- a line feed more
pub feed_further : (before octets : List ℕ) (i : ℕ) → i < length octets → get_or octets i 0 ≡ 10 → (before ++ take i octets) ++ 10 ∷ [] ≡ before ++ take (i + 1) octets
feed_further before octets i within is = ap (λ (o : ℕ). (before ++ take i octets) ++ o ∷ []) (sym is) ∙ one_further before octets i within

-- a piece of it more
pub piece_further : (before octets : List ℕ) (i k : ℕ) → i ≤ k → (before ++ take i octets) ++ take (k - i) (drop i octets) ≡ before ++ take k octets
piece_further before octets i k on =
    append_assoc before (take i octets) (take (k - i) (drop i octets))
    ∙ ap (λ (w : List ℕ). before ++ w) (sym (take-add i (k - i) octets) ∙ (let whole : i + (k - i) ≡ k = omega (arith, on) in ap (λ (n : ℕ). take n octets) whole))

-- all of them
pub all_further : (before octets : List ℕ) (i : ℕ) → length octets ≤ i → before ++ take i octets ≡ before ++ octets
all_further before octets i all = ap (λ (w : List ℕ). before ++ w) (take_all i octets all)
