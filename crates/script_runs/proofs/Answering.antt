-- What comes of a line of both kinds of run, by its answer.
use Rattle.std.proofs.Common.{◌≡◌, ◌≢◌, ℕ, suc, List, length, Option, None, Result, Ok, Err, refl, sym, ap, subst}
use Rattle.std.specs.Prelude.{MatchResult, OnOk}
use Rattle.domain_base.specs.Told.{LinkStory, AirStory}
use Rattle.domain_base.specs.declared.outside.LinkError.TheVariants as link
use Rattle.run_journal.specs.declared.acts.Entry.{Entry}
use Rattle.domain_links.specs.declared.breaks.Break.TheVariants.{ByWrite}
use Rattle.script_lines.specs.Script.{Draft}
use Rattle.frame_script.specs.Headers.{Reading}
use Rattle.script_lines.specs.declared.step.Step.{Step as Asked}
use Rattle.script_runs.specs.declared.state.ScriptState.{ScriptState}
use Rattle.script_runs.specs.declared.stops.Undone.{Undone}
use Rattle.script_runs.specs.declared.stops.Undone.TheVariants as undone
use Rattle.script_runs.specs.Script.{Rounds}
use Rattle.script_runs.specs.Outer.{Outer, outer, Blame, Nobody, OnLinks, OnDraws, IsBlamed, IsMet}
use Rattle.script_runs.specs.Ran.{RanLine, ran_blame}
use Rattle.script_runs.specs.States.{IsReady, Stands, TellsLine, BreaksLine, LeavesLine}
use Rattle.script_runs.specs.Stops.{undone_blame}
use Rattle.script_runs.proofs.Telling.{Rightly}
use Rattle.script_runs.proofs.Taking.{IsPlain, Took, read_to, line_done, line_ran, ready_line, tells_line, breaks_line, unwritten_line}

-- the state behind it
pub ready_then : {L T : Type 0} (told : L → Option LinkStory) (s : ScriptState) (u : Reading) (t : ScriptState) (links_old links_new : List L) (air_old air_new : Option AirStory) (lines : ℕ) (line : List ℕ) (j k : List Entry) (asked : Asked) (result : Result T Undone)
    → IsReady s (length links_old) lines j → IsPlain asked → Took s u line j asked → t.reader ≡ u → RanLine {L = L} {T = T} told (read_to s u) t (outer links_old air_old None) (outer links_new air_new None) j k asked result
    → OnOk result (IsReady t (length links_new) (suc lines) k)
ready_then {L} {T} told s u t links_old links_new air_old air_new lines line j k asked (Ok x) ready plainly took same ran =
    ready_line {L = L} {T = T} told s t (outer links_old air_old None) (outer links_new air_new None) lines line j k asked x ready
    (line_done {L = L} {T = T} told s u t links_old links_new air_old air_new None line j k asked (Ok x) ready.world_is plainly took same ran)
ready_then told s u t links_old links_new air_old air_new lines line j k asked (Err error) ready plainly took same ran = tt

-- what it told
pub told_line : {L T : Type 0} (told : L → Option LinkStory) (rightly : Rightly) (first : Outer L) (s : ScriptState) (u : Reading) (t : ScriptState) (links_old links_new : List L) (air_old air_new : Option AirStory) (last : Option (List ℕ)) (line : List ℕ) (draft : Draft) (rounds : Rounds) (j k : List Entry) (asked : Asked)
    (result : Result T Undone) → IsReady s (length links_old) 65536 j → IsPlain asked → Took s u line j asked → t.reader ≡ u → Stands s draft rounds j → IsMet told first (outer links_old air_old last) s.reader.mode draft rounds j
    → RanLine {L = L} {T = T} told (read_to s u) t (outer links_old air_old None) (outer links_new air_new None) j k asked result
    → MatchResult result (λ _. TellsLine told first (outer links_new air_new last) line draft rounds t j k)
    (λ error. LeavesLine error told first (outer links_old air_old last) (outer links_new air_new last) t line draft rounds j k)
told_line {L} {T} told rightly first s u t links_old links_new air_old air_new last line draft rounds j k asked (Ok x) ready plainly took same stands met ran =
    tells_line {L = L} {T = T} told rightly first s t (outer links_old air_old last) (outer links_new air_new last) line draft rounds j k asked x refl ready stands met
    (line_done {L = L} {T = T} told s u t links_old links_new air_old air_new last line j k asked (Ok x) ready.world_is plainly took same ran)
told_line {L} {T} told rightly first s u t links_old links_new air_old air_new last line draft rounds j k asked (Err (undone.Broken error)) ready plainly took same stands met ran =
    breaks_line {L = L} {T = T} told rightly first s t (outer links_old air_old last) (outer links_new air_new last) line draft rounds j k asked error refl ready stands met
    (line_done {L = L} {T = T} told s u t links_old links_new air_old air_new last line j k asked (Err error) ready.world_is plainly took same ran)
told_line {L} told rightly first s u t links_old links_new air_old air_new last line draft rounds j k asked (Err undone.NoMemory) ready plainly took same stands met ran =
    (ran.0, ap (λ (o : Outer L). outer o.links o.air last) ran.1)
told_line {L} told rightly first s u t links_old links_new air_old air_new last line draft rounds j k asked (Err undone.Unwritten) ready plainly took same stands met ran =
    subst (λ (o : Outer L). BreaksLine told ByWrite first (outer o.links o.air last) t.reader.mode line draft rounds j k) (sym ran.same)
    (unwritten_line told rightly first s t (outer links_old air_old last) line draft rounds j k asked ready stands met ran.round (line_ran s u t line j k asked ready.world_is plainly took same ran.did))
told_line told rightly first s u t links_old links_new air_old air_new last line draft rounds j k asked (Err (undone.Refused refusal)) ready plainly took same stands met ran = absurd ran
told_line told rightly first s u t links_old links_new air_old air_new last line draft rounds j k asked (Err undone.DrawFault) ready plainly took same stands met ran = absurd ran

-- to whom a fault is laid: not to draws
nobody_draws : Nobody ≢ OnDraws
nobody_draws e = cc

links_draws : OnLinks ≢ OnDraws
links_draws e = cc

pub undrawn : {L : Type 0} (faults : L → ℕ) (blame : Blame) (old new : List L) (a b d : ℕ) → blame ≢ OnDraws → IsBlamed faults blame old new a b 0 0 → IsBlamed faults blame old new a b d d
undrawn faults blame old new a b d other is = record { later = is.later; failed = is.failed; kept = is.kept; undrawn = λ e. absurd (other e); drawn = λ e. refl }

pub blamed_line : {L T : Type 0} (told : L → Option LinkStory) (faults : L → ℕ) (s t : ScriptState) (o p : Outer L) (old new : List L) (a b d : ℕ) (j k : List Entry) (asked : Asked) (result : Result T Undone) → RanLine {L = L} {T = T} told s t o p j k asked result → IsBlamed faults (ran_blame result) old new a b 0 0
    → MatchResult result (λ _. IsBlamed faults Nobody old new a b d d) (λ error. IsBlamed faults (undone_blame error) old new a b d d)
blamed_line told faults s t o p old new a b d j k asked (Ok x) ran is = undrawn faults Nobody old new a b d nobody_draws is
blamed_line told faults s t o p old new a b d j k asked (Err (undone.Broken link.Failed)) ran is = undrawn faults OnLinks old new a b d links_draws is
blamed_line told faults s t o p old new a b d j k asked (Err (undone.Broken link.NoMemory)) ran is = undrawn faults Nobody old new a b d nobody_draws is
blamed_line told faults s t o p old new a b d j k asked (Err undone.NoMemory) ran is = undrawn faults Nobody old new a b d nobody_draws is
blamed_line told faults s t o p old new a b d j k asked (Err undone.Unwritten) ran is = undrawn faults Nobody old new a b d nobody_draws is
blamed_line told faults s t o p old new a b d j k asked (Err (undone.Refused refusal)) ran is = absurd ran
blamed_line told faults s t o p old new a b d j k asked (Err undone.DrawFault) ran is = absurd ran
