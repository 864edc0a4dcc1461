-- What a state is after a line that has its meaning in both kinds of run, and what the line told.
use Rattle.std.proofs.Common.{◌≡◌, ◌≢◌, ℕ, suc, ◌≤◌, Bool, true, false, if◌then◌else◌, List, [], ◌∷◌, length, Option, None, Some, Result, Ok, Err, refl, sym, ap, subst, ◌∙◌, arith}
use Rattle.std.specs.Prelude.{OnOk, OnErr}
use Rattle.domain_base.specs.Told.{LinkStory, AirStory}
use Rattle.domain_base.specs.declared.outside.LinkError.{LinkError}
use Rattle.run_journal.specs.declared.domain.Domain.{Domain}
use Rattle.run_journal.specs.declared.acts.Entry.{Entry}
use Rattle.domain_world.specs.State.{State}
use Rattle.domain_links.specs.declared.breaks.Break.TheVariants.{ByLink, ByWrite}
use Rattle.domain_links.specs.Turns.{Delivery}
use Rattle.frame_script.specs.Script.{is_within, rounds_after, said_after}
use Rattle.script_lines.specs.Script.{Draft, AtVersion, Said, Goes, ListsAp, ListsSta, Adds, Asks, BeginsRound, EndsRound, Fault}
use Rattle.frame_script.specs.Live.{Heard, Plain, plain}
use Rattle.frame_script.specs.Headers.{Reading, HasSeen, HasSeenBy, HasRead, ReadsIn, sizes_named, sizes_of}
use Rattle.frame_script.proofs.Feeding.{HasSeen-by}
use Rattle.script_lines.specs.declared.refusal.Untaken.TheVariants.{Refused}
use Rattle.script_lines.specs.declared.refusal.Refusal.{Refusal}
use Rattle.script_lines.specs.Refusals.{fault_of}
use Rattle.frame_script.specs.declared.reader.Mode.{Mode}
use Rattle.frame_script.specs.declared.reader.Mode.TheVariants.{Replay, Live}
use Rattle.script_lines.specs.declared.step.Step.{Step as Asked}
use Rattle.script_lines.specs.declared.step.Step.TheVariants as step
use Rattle.script_runs.specs.declared.state.ScriptState.{ScriptState}
use Rattle.script_runs.specs.declared.stops.Undone.TheVariants as undone
use Rattle.script_runs.specs.Script.{Rounds, LastLine, no_rounds, IsJournal, Refuses, Says, sizes_before, rounds_with, last_of, says_in}
use Rattle.script_runs.specs.Outer.{Outer, outer, HasRun, IsDrawn, IsMet, IsLinkedAt, links_due}
use Rattle.script_runs.specs.Ran.{HasDone, IsRound}
use Rattle.script_runs.specs.States.{IsWorldOf, IsReady, Stands, HasSame, CanRun, DidRun, TellsLine, BreaksLine, LeavesLine, run_count, world_of}
use Rattle.script_runs.specs.Turning.{Carries, GoesOut}
use Rattle.script_runs.proofs.Sent.{sizes_so_far}
use Rattle.script_runs.proofs.Growing.{HasSeen-more}
use Rattle.script_runs.proofs.Steps.{can_run, named, grows, world_then, rounds_then}
use Rattle.script_runs.proofs.Telling.{Rightly, rounds_count, same_drawn, same_turns, journal_then, runs_then, waits_then}
use Rattle.script_runs.proofs.Meeting.{LinkedAtBy, linked_line, links_then, round_ran, unsent_line}

-- ---- before the first line

abbrev first_state : Reading → ScriptState
first_state r = record { reader = r; session = None; waiting = None }

pub ready_first : (m : Mode) (r : Reading) → r ≡ record { mode = m; draft = AtVersion; rounds = 0; seen = 0; sizes = [] } → IsReady (first_state r) 0 0 []
unfolding sizes_of
ready_first Replay r is = subst (λ (x : Reading). IsReady (first_state x) 0 0 []) (sym is) (record {
  links_are = refl;
  seen = record { later = []; earlier = []; is = refl; seen = refl; sizes = refl };
  few = omega arith;
  world_is = record { due = tt; no_rounds = refl; no_entries = refl; no_events = refl };
})
ready_first Live r is = subst (λ (x : Reading). IsReady (first_state x) 0 0 []) (sym is) (record {
  links_are = refl;
  seen = record { later = []; earlier = []; is = refl; seen = refl; sizes = refl };
  few = omega arith;
  world_is = record { due = tt; no_rounds = refl; no_entries = refl; no_events = refl };
})

pub stands_first : (m : Mode) (r : Reading) → r ≡ record { mode = m; draft = AtVersion; rounds = 0; seen = 0; sizes = [] } → Stands (first_state r) AtVersion no_rounds []
stands_first m r is = subst (λ (x : Reading). Stands (first_state x) AtVersion no_rounds []) (sym is) (record {
  draft_is = refl;
  rounds_are = refl;
  run_is = refl;
  events_are = refl;
  few_turns = omega arith;
  journal = (refl, refl);
})

pub ready_more : (s : ScriptState) (links m n : ℕ) (j : List Entry) → IsReady s links m j → m ≤ n → IsReady s links n j
ready_more s links m n j ready more =
    record { links_are = ready.links_are; seen = ready.seen; few = omega (arith, ready.few, more); world_is = ready.world_is }

-- ---- a line that means the same in both kinds of run

abbrev pub IsPlain : Asked → Type 0
IsPlain step.Draw = ⊥
IsPlain step.Turn = ⊥
IsPlain asked = Unit {0}

pub is_plain : (asked : Asked) → asked ≢ step.Draw → asked ≢ step.Turn → IsPlain asked
is_plain step.Nothing p q = tt
is_plain step.Draw p q = absurd (p refl)
is_plain step.Network p q = tt
is_plain (step.Ap address id) p q = tt
is_plain (step.Sta address psk) p q = tt
is_plain (step.Extra extra) p q = tt
is_plain (step.Event event) p q = tt
is_plain step.Round p q = tt
is_plain step.End p q = tt
is_plain step.Turn p q = absurd (q refl)

pub record ReadsPlain (m : Mode) (r s : Reading) (sizes line : List ℕ) (asked : Asked) : Type 0 where
  pub read : HasRead r s sizes line asked
  pub says : says_in m r.draft r.rounds sizes line ≡ Ok (Plain read.0)

read_plain : (m : Mode) (r s : Reading) (sizes line : List ℕ) (asked : Asked) → IsPlain asked → ReadsIn m r s sizes line (Ok asked) → ReadsPlain m r s sizes line asked
read_plain Replay r s sizes line asked is takes = record { read = takes; says = ap plain takes.1.0 }
read_plain Live r s sizes line step.Nothing is takes = record { read = takes.1; says = takes.0 ∙ ap plain takes.1.1.0 }
read_plain Live r s sizes line step.Draw is takes = absurd is
read_plain Live r s sizes line step.Network is takes = record { read = takes.1; says = takes.0 ∙ ap plain takes.1.1.0 }
read_plain Live r s sizes line (step.Ap address id) is takes = record { read = takes.1; says = takes.0 ∙ ap plain takes.1.1.0 }
read_plain Live r s sizes line (step.Sta address psk) is takes = record { read = takes.1; says = takes.0 ∙ ap plain takes.1.1.0 }
read_plain Live r s sizes line (step.Extra extra) is takes = record { read = takes.1; says = takes.0 ∙ ap plain takes.1.1.0 }
read_plain Live r s sizes line (step.Event event) is takes = record { read = takes.1; says = takes.0 ∙ ap plain takes.1.1.0 }
read_plain Live r s sizes line step.Round is takes = record { read = takes.1; says = takes.0 ∙ ap plain takes.1.1.0 }
read_plain Live r s sizes line step.End is takes = record { read = takes.1; says = takes.0 ∙ ap plain takes.1.1.0 }
read_plain Live r s sizes line step.Turn is takes = absurd is

-- what the reader tells of a line that it took, which names the frames of the whole journal
pub record Took (s : ScriptState) (u : Reading) (line : List ℕ) (j : List Entry) (asked : Asked) : Type 0 where
  pub mode : u.mode ≡ s.reader.mode
  pub seen : HasSeenBy s.reader.draft u j
  pub sizes : u.sizes ≡ sizes_named s.reader j
  pub reads : ReadsIn s.reader.mode s.reader u (sizes_named s.reader j) line (Ok asked)

pub took_as : (s : ScriptState) (u : Reading) (line : List ℕ) (j : List Entry) (asked other : Asked) → asked ≡ other → u.mode ≡ s.reader.mode → HasSeenBy s.reader.draft u j → u.sizes ≡ sizes_named s.reader j → ReadsIn s.reader.mode s.reader u (sizes_named s.reader j) line (Ok asked) → Took s u line j other
took_as s u line j asked other same mode seen sizes reads = record {
  mode = mode;
  seen = seen;
  sizes = sizes;
  reads = subst (λ (a : Asked). ReadsIn s.reader.mode s.reader u (sizes_named s.reader j) line (Ok a)) same reads;
}

pub plain_all : (s : ScriptState) (u : Reading) (line : List ℕ) (j : List Entry) (asked : Asked) → IsWorldOf (world_of s.session) s.waiting s.reader j → IsPlain asked → Took s u line j asked → ReadsPlain s.reader.mode s.reader u (sizes_of j) line asked
plain_all s u line j asked is plainly took =
    subst (λ (sizes : List ℕ). ReadsPlain s.reader.mode s.reader u sizes line asked) (named (world_of s.session) s.waiting s.reader j is) (read_plain s.reader.mode s.reader u (sizes_named s.reader j) line asked plainly took.reads)

-- what it asks for can be done
pub can_line : (s : ScriptState) (u : Reading) (links : ℕ) (line : List ℕ) (j : List Entry) (asked : Asked) → IsReady s links 65536 j → IsPlain asked → Took s u line j asked → CanRun (world_of s.session) s.waiting u.draft j asked
can_line s u links line j asked ready plainly took =
    can_run s.reader u (world_of s.session) s.waiting line j asked ready.world_is (omega (arith, ready.few)) (plain_all s u line j asked ready.world_is plainly took).read

-- and there are links for it
pub links_line : (s : ScriptState) (u : Reading) (links lines : ℕ) (j : List Entry) → u.mode ≡ s.reader.mode → IsReady s links lines j → links ≡ links_due u.mode (world_of s.session)
links_line s u links lines j mode ready = subst (λ (m : Mode). links ≡ links_due m (world_of s.session)) (sym mode) ready.links_are

-- it was done
pub record LineRan (s t : ScriptState) (line : List ℕ) (j k : List Entry) (asked : Asked) : Type 0 where
  pub reader_mode : t.reader.mode ≡ s.reader.mode
  pub seen : HasSeen t.reader j
  pub sizes : t.reader.sizes ≡ sizes_of j
  pub reads : ReadsPlain s.reader.mode s.reader t.reader (sizes_of j) line asked
  pub did : DidRun (world_of s.session) (world_of t.session) s.waiting t.waiting t.reader.draft j k asked

-- and all of what goes out for it went out, or a front
pub record LineDone {L T : Type 0} (told : L → Option LinkStory) (s t : ScriptState) (old new : Outer L) (line : List ℕ) (j k : List Entry) (asked : Asked) (result : Result T LinkError) : Type 0 where
  pub ran : LineRan s t line j k asked
  pub goes : GoesOut told s.reader.mode (world_of t.session) (length j) k old new result

-- the state with its reader behind the line
abbrev pub read_to : ScriptState → Reading → ScriptState
read_to s u = record { reader = u; session = s.session; waiting = s.waiting }

-- the seed last given is as it was
carries_with : {L T : Type 0} (told : L → Option LinkStory) (d : Domain) (from : ℕ) (k : List Entry) (links_old links_new : List L) (air_old air_new : Option AirStory) (last : Option (List ℕ)) (result : Result T LinkError) → Carries told d from k (outer links_old air_old None) (outer links_new air_new None) result
    → Carries told d from k (outer links_old air_old last) (outer links_new air_new last) result
carries_with told d from k links_old links_new air_old air_new last result c = record {
  last = refl;
  attaches = λ few. (let a = c.attaches few in record { more = a.more; same = a.same; attached = a.attached });
  sends_out = λ many. (let s = c.sends_out many in record { len = s.len; air = s.air; sent = s.sent });
}

stays_with : {L T : Type 0} (links_old links_new : List L) (air_old air_new : Option AirStory) (last : Option (List ℕ)) (result : Result T LinkError) → OnOk result (outer links_new air_new None ≡ outer links_old air_old None) × OnErr result ⊥
    → OnOk result (outer links_new air_new last ≡ outer links_old air_old last) × OnErr result ⊥
stays_with {L} links_old links_new air_old air_new last (Ok x) goes = (ap (λ (o : Outer L). outer o.links o.air last) goes.0, tt)
stays_with links_old links_new air_old air_new last (Err error) goes = absurd goes.1

goes_with : {L T : Type 0} (told : L → Option LinkStory) (m : Mode) (world : Option State) (from : ℕ) (k : List Entry) (links_old links_new : List L) (air_old air_new : Option AirStory) (last : Option (List ℕ)) (result : Result T LinkError) → GoesOut told m world from k (outer links_old air_old None) (outer links_new air_new None) result
    → GoesOut told m world from k (outer links_old air_old last) (outer links_new air_new last) result
goes_with told Live (Some w) from k links_old links_new air_old air_new last result goes = carries_with told w.domain from k links_old links_new air_old air_new last result goes
goes_with told Live None from k links_old links_new air_old air_new last result goes = stays_with links_old links_new air_old air_new last result goes
goes_with told Replay world from k links_old links_new air_old air_new last result goes = stays_with links_old links_new air_old air_new last result goes

pub line_ran : (s : ScriptState) (u : Reading) (t : ScriptState) (line : List ℕ) (j k : List Entry) (asked : Asked)
    → IsWorldOf (world_of s.session) s.waiting s.reader j → IsPlain asked → Took s u line j asked → t.reader ≡ u → DidRun (world_of s.session) (world_of t.session) s.waiting t.waiting u.draft j k asked → LineRan s t line j k asked
line_ran s u t line j k asked is plainly took same did =
    let taken = subst (λ (x : Reading). Took s x line j asked) (sym same) took in
    record {
      reader_mode = taken.mode;
      seen = HasSeen-by s.reader.draft t.reader j taken.seen;
      sizes = taken.sizes ∙ named (world_of s.session) s.waiting s.reader j is;
      reads = plain_all s t.reader line j asked is plainly taken;
      did = subst (λ (x : Reading). DidRun (world_of s.session) (world_of t.session) s.waiting t.waiting x.draft j k asked) (sym same) did;
    }

pub line_done : {L T : Type 0} (told : L → Option LinkStory) (s : ScriptState) (u : Reading) (t : ScriptState) (links_old links_new : List L) (air_old air_new : Option AirStory) (last : Option (List ℕ)) (line : List ℕ) (j k : List Entry) (asked : Asked) (result : Result T LinkError)
    → IsWorldOf (world_of s.session) s.waiting s.reader j → IsPlain asked → Took s u line j asked → t.reader ≡ u → HasDone told (read_to s u) t (outer links_old air_old None) (outer links_new air_new None) j k asked result
    → LineDone told s t (outer links_old air_old last) (outer links_new air_new last) line j k asked result
line_done told s u t links_old links_new air_old air_new last line j k asked result is plainly took same done = record {
  ran = line_ran s u t line j k asked is plainly took same done.did;
  goes = subst (λ (m : Mode). GoesOut told m (world_of t.session) (length j) k (outer links_old air_old last) (outer links_new air_new last) result) took.mode
      (goes_with told u.mode (world_of t.session) (length j) k links_old links_new air_old air_new last result done.goes);
}

-- ---- the state after it

after_line : (s t : ScriptState) (line : List ℕ) (j k : List Entry) (asked : Asked) → IsWorldOf (world_of s.session) s.waiting s.reader j → LineRan s t line j k asked → IsWorldOf (world_of t.session) t.waiting t.reader k
after_line s t line j k asked is l = world_then s.reader t.reader (world_of s.session) (world_of t.session) s.waiting t.waiting line j k asked is l.reads.read l.sizes l.did

pub ready_line : {L T : Type 0} (told : L → Option LinkStory) (s t : ScriptState) (old new : Outer L) (lines : ℕ) (line : List ℕ) (j k : List Entry) (asked : Asked) (x : T) → IsReady s (length old.links) lines j → LineDone {L = L} {T = T} told s t old new line j k asked (Ok x) → IsReady t (length new.links) (suc lines) k
ready_line told s t old new lines line j k asked x ready l = record {
  links_are = subst (λ (m : Mode). length new.links ≡ links_due m (world_of t.session)) (sym l.ran.reader_mode)
      (links_then told s.reader.mode s.reader t.reader (world_of s.session) (world_of t.session) s.waiting t.waiting old new line j k asked x ready.links_are ready.world_is l.ran.reads.read l.ran.did l.goes);
  seen = HasSeen-more t.reader (run_count (world_of s.session)) j k l.ran.seen (grows s.reader t.reader (world_of s.session) (world_of t.session) s.waiting t.waiting j k line asked ready.world_is l.ran.reads.read l.ran.did);
  few = omega (arith, ready.few, rounds_then s.reader t.reader (sizes_of j) line asked l.ran.reads.read);
  world_is = after_line s t line j k asked ready.world_is l.ran;
}

-- ---- what it told

-- what the reader reads is what the lines before told
pub read_there : (s : ScriptState) (draft : Draft) (rounds : Rounds) (j : List Entry) (line : List ℕ) (answer : Result Heard Fault) → IsWorldOf (world_of s.session) s.waiting s.reader j → Stands s draft rounds j → says_in s.reader.mode s.reader.draft s.reader.rounds (sizes_of j) line ≡ answer
    → says_in s.reader.mode draft rounds.asked (sizes_before (length rounds.run) j) line ≡ answer
read_there s draft rounds j line answer world stands says =
    subst (λ (sizes : List ℕ). says_in s.reader.mode draft rounds.asked sizes line ≡ answer) (sym (sizes_so_far (world_of s.session) s.waiting s.reader j (length rounds.run) world stands.run_is))
    (subst (λ (x : Draft). says_in s.reader.mode x rounds.asked (sizes_of j) line ≡ answer) stands.draft_is
    (subst (λ (n : ℕ). says_in s.reader.mode s.reader.draft n (sizes_of j) line ≡ answer) stands.rounds_are says))

-- a line that is refused there
says_err : (m : Mode) (r s : Reading) (sizes line : List ℕ) (refusal : Refusal) → ReadsIn m r s sizes line (Err (Refused refusal)) → (says_in m r.draft r.rounds sizes line ≡ Err (fault_of refusal)) × ((s.draft ≡ r.draft) × (s.rounds ≡ r.rounds))
says_err Replay r s sizes line refusal takes = (ap plain takes.0, takes.1)
says_err Live r s sizes line refusal takes = takes

pub refuses_line : {L : Type 0} (told : L → Option LinkStory) (first o : Outer L) (s t : ScriptState) (line : List ℕ) (draft : Draft) (rounds : Rounds) (j : List Entry) (refusal : Refusal) → IsWorldOf (world_of s.session) s.waiting s.reader j → Stands s draft rounds j → t.reader.mode ≡ s.reader.mode
    → t.reader.sizes ≡ sizes_named s.reader j → ReadsIn s.reader.mode s.reader t.reader (sizes_named s.reader j) line (Err (Refused refusal)) → LeavesLine (undone.Refused refusal) told first o o t line draft rounds j j
refuses_line told first o s t line draft rounds j refusal world stands mode sizes takes =
    let sent : sizes_before (length rounds.run) j ≡ sizes_of j = sizes_so_far (world_of s.session) s.waiting s.reader j (length rounds.run) world stands.run_is in
    let all = subst (λ (sizes : List ℕ). ReadsIn s.reader.mode s.reader t.reader sizes line (Err (Refused refusal))) (named (world_of s.session) s.waiting s.reader j world) takes in
    let said = says_err s.reader.mode s.reader t.reader (sizes_of j) line refusal all in (
      record {
        refuses = subst (λ (m : Mode). Refuses m j line draft rounds (fault_of refusal)) (sym mode) (record { says = read_there s draft rounds j line (Err (fault_of refusal)) world stands said.0 });
        draft_is = said.1.0 ∙ stands.draft_is;
        rounds_are = said.1.1 ∙ stands.rounds_are;
        sizes_are = sizes ∙ named (world_of s.session) s.waiting s.reader j world ∙ sym sent;
      },
      (refl, refl),
    )

-- no line takes back a round that was asked for
not_fewer : (b : Bool) (n : ℕ) → n ≤ (if b then n else suc n)
not_fewer true n = omega arith
not_fewer false n = omega arith

never_fewer : (draft : Draft) (n : ℕ) (said : Said) → n ≤ rounds_after draft n said
never_fewer draft n (Goes next) = omega arith
never_fewer draft n (ListsAp address id) = omega arith
never_fewer draft n (ListsSta address psk) = omega arith
never_fewer draft n (Adds extra) = omega arith
never_fewer draft n (Asks event) = not_fewer (is_within draft) n
never_fewer draft n BeginsRound = omega arith
never_fewer draft n EndsRound = omega arith

-- one that was done: what it told
record Telling (s t : ScriptState) (line : List ℕ) (draft : Draft) (rounds : Rounds) (j k : List Entry) (after : Rounds) : Type 0 where
  same : HasSame (length rounds.run) j k
  says : Says s.reader.mode k line draft rounds t.reader.draft after
  stands : Stands t t.reader.draft after k
  drawn : after.drawn ≡ rounds.drawn
  turns : after.turns ≡ rounds.turns

abbrev told_rounds : (s t : ScriptState) (line : List ℕ) (rounds : Rounds) (j k : List Entry) (asked : Asked) → LineRan s t line j k asked → Rounds
told_rounds s t line rounds j k asked l = rounds_with s.reader.draft rounds l.reads.read.0

tells : (rightly : Rightly) (s t : ScriptState) (line : List ℕ) (draft : Draft) (rounds : Rounds) (j k : List Entry) (asked : Asked) → IsWorldOf (world_of s.session) s.waiting s.reader j → Stands s draft rounds j
    → (l : LineRan s t line j k asked) → Telling s t line draft rounds j k (told_rounds s t line rounds j k asked l)
tells rightly s t line draft rounds j k asked is stands l =
    let read = l.reads.read in
    let journal = subst (λ (x : Draft). IsJournal x rounds.run j) (sym stands.draft_is) stands.journal in
    let after = after_line s t line j k asked is l in
    let same = subst (λ (n : ℕ). HasSame n j k) stands.run_is (grows s.reader t.reader (world_of s.session) (world_of t.session) s.waiting t.waiting j k line asked is read l.did).same in
    let turns = same_turns s.reader.draft rounds read.0 in
    let count = rounds_count s.reader.draft s.reader.rounds rounds read.0 stands.rounds_are in
    record {
      same = same;
      says = record {
        said = Plain read.0;
        says = subst (λ (sizes : List ℕ). says_in s.reader.mode draft rounds.asked sizes line ≡ Ok (Plain read.0)) (sym (same (length rounds.run) (omega arith))) (read_there s draft rounds j line (Ok (Plain read.0)) is stands l.reads.says);
        means = (read.1.1.0 ∙ ap (λ (x : Draft). said_after x read.0) stands.draft_is, ap (λ (x : Draft). rounds_with x rounds read.0) stands.draft_is);
      };
      stands = record {
        draft_is = refl;
        rounds_are = read.1.1.1.0 ∙ count;
        run_is = runs_then s.reader t.reader (world_of s.session) (world_of t.session) s.waiting t.waiting rounds line j k asked is stands.run_is read l.did;
        events_are = waits_then s.reader t.reader (world_of s.session) (world_of t.session) s.waiting t.waiting rounds line j k asked is stands.events_are read l.did;
        few_turns = omega (arith, ap (λ (w : List (List Delivery)). length w) turns, stands.few_turns, stands.rounds_are, count, never_fewer s.reader.draft s.reader.rounds read.0);
        journal = journal_then rightly s.reader t.reader (world_of s.session) (world_of t.session) s.waiting t.waiting rounds line j k asked is stands.run_is stands.events_are journal read l.did after;
      };
      drawn = same_drawn s.reader.draft rounds read.0;
      turns = turns;
    }

none_turned : (turns : List (List Delivery)) (n m : ℕ) → length turns ≤ n → m ≡ n → m ≡ 0 → turns ≡ []
none_turned [] n m few same none = refl
none_turned (given ∷ turns) n m few same none = absurd (omega (arith, few, same, none))

-- how the outside is met behind it
linked_then : {L T : Type 0} (told : L → Option LinkStory) (first : Outer L) (s t : ScriptState) (old new : Outer L) (line : List ℕ) (draft : Draft) (rounds : Rounds) (j k : List Entry) (asked : Asked) (result : Result T LinkError) (start : AirStory) (after : Rounds)
    → IsReady s (length old.links) 65536 j → Stands s draft rounds j → IsMet told first old s.reader.mode draft rounds j → (l : LineDone told s t old new line j k asked result) → Telling s t line draft rounds j k after → after.last ≡ last_of s.reader.draft l.ran.reads.read.0 → s.reader.mode ≡ Live → first.air ≡ Some start
    → LinkedAtBy told t.reader.draft start new after k result
linked_then told first s t old new line draft rounds j k asked result start after ready stands met l more last live is =
    let world = after_line s t line j k asked ready.world_is l.ran in
    linked_line told s.reader t.reader (world_of s.session) (world_of t.session) s.waiting t.waiting start old new after line j k asked result ready.world_is l.ran.reads.read l.ran.did world last more.stands.run_is
    (λ none. more.turns ∙ none_turned rounds.turns rounds.asked s.reader.rounds stands.few_turns stands.rounds_are none)
    (grows s.reader t.reader (world_of s.session) (world_of t.session) s.waiting t.waiting j k line asked ready.world_is l.ran.reads.read l.ran.did)
    (subst (λ (m : Mode). GoesOut told m (world_of t.session) (length j) k old new result) live l.goes)
    (subst (λ (w : List (List Delivery)). IsLinkedAt told s.reader.draft start old w j) (sym more.turns)
    (subst (λ (d : Draft). IsLinkedAt told d start old rounds.turns j) (sym stands.draft_is) (met.linked live start is)))

drawn_then : (before old new drawn other : Option (List ℕ)) → other ≡ drawn → new ≡ old → IsDrawn drawn before old → IsDrawn other before new
drawn_then before old new drawn other same last is =
    subst (λ (x : Option (List ℕ)). IsDrawn other before x) (sym last) (subst (λ (x : Option (List ℕ)). IsDrawn x before old) (sym same) is)

pub tells_line : {L T : Type 0} (told : L → Option LinkStory) (rightly : Rightly) (first : Outer L) (s t : ScriptState) (old new : Outer L) (line : List ℕ) (draft : Draft) (rounds : Rounds) (j k : List Entry) (asked : Asked) (x : T) → new.last ≡ old.last
    → IsReady s (length old.links) 65536 j → Stands s draft rounds j → IsMet told first old s.reader.mode draft rounds j → LineDone {L = L} {T = T} told s t old new line j k asked (Ok x) → TellsLine told first new line draft rounds t j k
tells_line told rightly first s t old new line draft rounds j k asked x last ready stands met l =
    let after = rounds_with s.reader.draft rounds l.ran.reads.read.0 in
    let more = tells rightly s t line draft rounds j k asked ready.world_is stands l.ran in
    record {
      draft = t.reader.draft;
      rounds = after;
      same = more.same;
      says = subst (λ (m : Mode). Says m k line draft rounds t.reader.draft after) (sym l.ran.reader_mode) more.says;
      stands = more.stands;
      met = record {
        drawn = drawn_then first.last old.last new.last rounds.drawn after.drawn more.drawn last met.drawn;
        linked = λ live start is. linked_then told first s t old new line draft rounds j k asked (Ok x) start after ready stands met l more refl (sym l.ran.reader_mode ∙ live) is;
      };
    }

-- a replay has no links, so that none fails
no_break : {L : Type 0} (T : Type 0) (told : L → Option LinkStory) (m : Mode) (world : Option State) (from : ℕ) (k : List Entry) (old new : Outer L) (error : LinkError) → GoesOut {L = L} {T = T} told m world from k old new (Err error) → m ≡ Live
no_break T told Live world from k old new error goes = refl
no_break T told Replay world from k old new error goes = absurd goes.1

pub breaks_line : {L T : Type 0} (told : L → Option LinkStory) (rightly : Rightly) (first : Outer L) (s t : ScriptState) (old new : Outer L) (line : List ℕ) (draft : Draft) (rounds : Rounds) (j k : List Entry) (asked : Asked) (error : LinkError) → new.last ≡ old.last
    → IsReady s (length old.links) 65536 j → Stands s draft rounds j → IsMet told first old s.reader.mode draft rounds j → LineDone {L = L} {T = T} told s t old new line j k asked (Err error) → BreaksLine told (ByLink error) first new t.reader.mode line draft rounds j k
breaks_line {L} {T} told rightly first s t old new line draft rounds j k asked error last ready stands met l =
    let after = rounds_with s.reader.draft rounds l.ran.reads.read.0 in
    let more = tells rightly s t line draft rounds j k asked ready.world_is stands l.ran in
    let live : s.reader.mode ≡ Live = no_break {L = L} T told s.reader.mode (world_of t.session) (length j) k old new error l.goes in
    record {
      draft = t.reader.draft;
      rounds = after;
      broken = l.ran.reader_mode ∙ live;
      same = more.same;
      says = subst (λ (m : Mode). Says m k line draft rounds t.reader.draft after) (sym l.ran.reader_mode) more.says;
      journal = more.stands.journal;
      met = record {
        drawn = drawn_then first.last old.last new.last rounds.drawn after.drawn more.drawn last met.drawn;
        linked = λ also start is. linked_then told first s t old new line draft rounds j k asked (Err error) start after ready stands met l more refl live is;
      };
    }

-- or its lines could not be written, and nothing went out
pub unwritten_line : {L : Type 0} (told : L → Option LinkStory) (rightly : Rightly) (first : Outer L) (s t : ScriptState) (o : Outer L) (line : List ℕ) (draft : Draft) (rounds : Rounds) (j k : List Entry) (asked : Asked)
    → IsReady s (length o.links) 65536 j → Stands s draft rounds j → IsMet told first o s.reader.mode draft rounds j → IsRound asked s.waiting → LineRan s t line j k asked → BreaksLine told ByWrite first o t.reader.mode line draft rounds j k
unwritten_line told rightly first s t o line draft rounds j k asked ready stands met round l =
    let after = rounds_with s.reader.draft rounds l.reads.read.0 in
    let more = tells rightly s t line draft rounds j k asked ready.world_is stands l in
    let ran = round_ran s.reader t.reader (world_of s.session) (world_of t.session) s.waiting t.waiting line j k asked ready.world_is l.reads.read l.did round in
    record {
      draft = t.reader.draft;
      rounds = after;
      broken = subst (λ (x : LastLine). HasRun x after.turns) (sym ran) tt;
      same = more.same;
      says = subst (λ (m : Mode). Says m k line draft rounds t.reader.draft after) (sym l.reader_mode) more.says;
      journal = more.stands.journal;
      met = record {
        drawn = drawn_then first.last o.last o.last rounds.drawn after.drawn more.drawn refl met.drawn;
        linked = λ live start is.
            unsent_line told s.reader t.reader (world_of s.session) (world_of t.session) s.waiting t.waiting start o after line j k asked ready.world_is l.reads.read l.did (after_line s t line j k asked ready.world_is l) round refl more.stands.run_is
            (subst (λ (w : List (List Delivery)). IsLinkedAt told s.reader.draft start o w j) (sym more.turns)
            (subst (λ (d : Draft). IsLinkedAt told d start o rounds.turns j) (sym stands.draft_is) (met.linked (sym l.reader_mode ∙ live) start is)));
      };
    }
