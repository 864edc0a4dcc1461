-- Lines by which something comes from outside: a seed that is drawn, and what nodes take in a turn.
use Rattle.std.proofs.Common.{◌≡◌, ◌≢◌, ℕ, suc, ◌≤◌, ◌+◌, ◌*◌, List, [], ◌∷◌, length, drop, Option, Some, None, Result, Ok, Err, refl, sym, ap, subst, ◌∙◌, inr, arith}
use Rattle.std.specs.Prelude.{OnOk, OnErr, MatchResult}
use Rattle.std.proofs.lemmas.List.{drop-drop}
use Rattle.domain_base.specs.Causes.{Rose}
use Rattle.domain_base.specs.Told.{LinkStory, AirStory}
use Rattle.domain_base.specs.declared.outside.LinkError.{LinkError}
use Rattle.domain_links.specs.declared.breaks.Break.{Break}
use Rattle.domain_links.specs.declared.breaks.Break.TheVariants.{ByLink, ByWrite}
use Rattle.domain_base.specs.declared.outside.LinkError.TheVariants as link
use Rattle.run_journal.specs.Limits.{most_polls}
use Rattle.run_journal.specs.declared.domain.Domain.{Domain}
use Rattle.run_journal.specs.declared.domain.Event.{Event}
use Rattle.run_journal.specs.declared.domain.Event.TheVariants.{Inject}
use Rattle.run_journal.specs.declared.acts.Entry.{Entry}
use Rattle.domain_rules.specs.Explained.{Explained, Step, started}
use Rattle.domain_rules.proofs.Journals.{explained_event}
use Rattle.domain_world.specs.State.{State}
use Rattle.domain_links.specs.NodeOrder.{count, node_at}
use Rattle.domain_links.specs.Attached.{frames_at}
use Rattle.domain_links.specs.Telling.{left_after}
use Rattle.domain_links.specs.Turns.{Delivery, OnWrite, left_heard, left_past}
use Rattle.domain_links.specs.Turns.{Rounds as Taken}
use Rattle.domain_links.proofs.OnePoll.{Tell-left}
use Rattle.domain_links.proofs.Turning.{past_below}
use Rattle.script_lines.specs.declared.header.Header.{Header}
use Rattle.script_lines.specs.declared.header.HeaderLine.TheVariants as awaits
use Rattle.script_lines.specs.Script.{Draft, AtVersion, AtHeader, AtNodes, InRound, IsSeedDue, seeded}
use Rattle.frame_script.specs.Live.{Draws, Turns}
use Rattle.frame_script.specs.Headers.{Reading, HasSeen, ReadsIn, sizes_named, sizes_of}
use Rattle.frame_script.proofs.Feeding.{HasSeen-by}
use Rattle.frame_script.specs.declared.reader.Mode.{Mode}
use Rattle.frame_script.specs.declared.reader.Mode.TheVariants.{Replay, Live}
use Rattle.script_lines.specs.declared.step.Step.TheVariants as step
use Rattle.script_runs.specs.declared.state.ScriptState.{ScriptState}
use Rattle.script_runs.specs.declared.stops.Undone.{Undone}
use Rattle.script_runs.specs.declared.stops.Undone.TheVariants as undone
use Rattle.script_runs.specs.Script.{Rounds, IsRun, IsJournal, IsTurn, IsTurnAt, Says, sizes_before, says_in, with_deliveries, with_seed, with_turn}
use Rattle.script_runs.specs.Outer.{Outer, outer, AreHeard, IsTold, IsDrawn, IsMet, IsLinked, IsLinkedPart, IsLinkedAt, IsUnlinked, IsBlamed, Nobody, OnDraws, OnLinks, left_behind, links_due, sends_for}
use Rattle.script_runs.specs.States.{Waiting, IsAt, IsHeader, IsOwn, IsWorldOf, IsReady, IsBrokenBy, Stands, HasSame, TellsLine, BreaksLine, LeavesLine, events_of, run_count, world_of}
use Rattle.script_runs.specs.Stops.{undone_blame}
use Rattle.script_runs.specs.Turning.{Stage, stage, IsTaken, IsLaid, DidTurn, DidTurnBy, CanTurn, break_blame}
use Rattle.domain_world.specs.Owning.{IsSince}
use Rattle.domain_links.proofs.SameNodes.{HasNodes, back}
use Rattle.script_runs.proofs.SameNodes.{nodes_since, turn_same_nodes}
use Rattle.script_runs.proofs.Since.{form_since, octets_since}
use Rattle.script_runs.proofs.Sent.{same-journal}
use Rattle.script_runs.proofs.Growing.{Grows, Grows-same, Grows-step, Grows-more, HasSeen-more}
use Rattle.script_runs.proofs.Steps.{named, outside}
use Rattle.script_runs.proofs.Telling.{Rightly}
use Rattle.domain_links.proofs.Unfailed.{NoneFailed-same}
use Rattle.script_runs.proofs.Linked.{blamed_links, blamed_none}
use Rattle.script_runs.proofs.Cutting.{turn_cut}
use Rattle.script_runs.proofs.Meeting.{linked_in, linked_out, part_out, same_links}
use Rattle.script_runs.proofs.Taking.{Took, read_to, read_there}

-- ---- a seed is drawn

-- where it is due
seed_due : (draft : Draft) → IsSeedDue draft → (h : Header) × (draft ≡ AtHeader awaits.Seed h)
seed_due AtVersion is = absurd is
seed_due (AtHeader awaits.Seed h) is = (h, refl)
seed_due (AtHeader awaits.Ssid h) is = absurd is
seed_due (AtHeader awaits.Psk h) is = absurd is
seed_due (AtHeader awaits.Akm h) is = absurd is
seed_due (AtHeader awaits.Mdid h) is = absurd is
seed_due (AtNodes h) is = absurd is
seed_due (InRound h count) is = absurd is

record HeardDraw (m : Mode) (r s : Reading) (sizes line : List ℕ) : Type 0 where
  live : m ≡ Live
  says : says_in m r.draft r.rounds sizes line ≡ Ok Draws
  header : Header
  at : r.draft ≡ AtHeader awaits.Seed header
  same : s.draft ≡ r.draft
  rounds : s.rounds ≡ r.rounds

heard_draw : (m : Mode) (r s : Reading) (sizes line : List ℕ) → ReadsIn m r s sizes line (Ok step.Draw) → HeardDraw m r s sizes line
heard_draw Replay r s sizes line takes = absurd takes.1.1.1.1
heard_draw Live r s sizes line takes =
    let (h, at) = seed_due r.draft takes.1.0 in
    record { live = refl; says = takes.0; header = h; at = at; same = takes.1.1.0; rounds = takes.1.1.1 }

draw_all : (s : ScriptState) (u : Reading) (line : List ℕ) (j : List Entry) → IsWorldOf (world_of s.session) s.waiting s.reader j → Took s u line j step.Draw → HeardDraw s.reader.mode s.reader u (sizes_of j) line
draw_all s u line j is took =
    subst (λ (sizes : List ℕ). HeardDraw s.reader.mode s.reader u sizes line) (named (world_of s.session) s.waiting s.reader j is) (heard_draw s.reader.mode s.reader u (sizes_named s.reader j) line took.reads)

-- it can be
pub draws_live : (s : ScriptState) (u : Reading) (line : List ℕ) (j : List Entry) → Took s u line j step.Draw → u.mode ≡ Live
draws_live s u line j took = took.mode ∙ (heard_draw s.reader.mode s.reader u (sizes_named s.reader j) line took.reads).live

pub draws_due : (s : ScriptState) (u : Reading) (line : List ℕ) (j : List Entry) → Took s u line j step.Draw → IsSeedDue u.draft
draws_due s u line j took = let h = heard_draw s.reader.mode s.reader u (sizes_named s.reader j) line took.reads in subst IsSeedDue (sym (h.same ∙ h.at)) tt

abbrev told_seed : Reading → List ℕ → Reading
told_seed u seed = record u { draft = seeded u.draft seed }

seed_world : (world : Option State) (a : Waiting) (r u : Reading) (j : List Entry) (seed : List ℕ) (h : Header) → r.draft ≡ AtHeader awaits.Seed h → u.draft ≡ r.draft → u.rounds ≡ r.rounds → IsWorldOf world a r j → IsWorldOf world a (told_seed u seed) j
seed_world None a r u j seed h at same rounds is = record { due = subst (λ (x : Draft). IsHeader (seeded x seed)) (sym (same ∙ at)) tt; no_rounds = rounds ∙ is.no_rounds; no_entries = is.no_entries; no_events = is.no_events }
seed_world (Some w) a r u j seed h at same rounds is = absurd (subst (λ (x : Draft). IsAt x w a r.sizes j) at is.at)

ready_seed : (s : ScriptState) (u : Reading) (seed : List ℕ) (links lines : ℕ) (line : List ℕ) (j : List Entry) → IsReady s links lines j → Took s u line j step.Draw → IsReady (read_to s (told_seed u seed)) links (suc lines) j
ready_seed s u seed links lines line j ready took =
    let h = draw_all s u line j ready.world_is took in
    let seen = HasSeen-by s.reader.draft u j took.seen in
    record {
      links_are = subst (λ (m : Mode). links ≡ links_due m (world_of s.session)) (sym took.mode) ready.links_are;
      seen = record { later = seen.later; earlier = seen.earlier; is = seen.is; seen = seen.seen; sizes = seen.sizes };
      few = omega (arith, ready.few, h.rounds);
      world_is = seed_world (world_of s.session) s.waiting s.reader u j seed h.header h.at h.same h.rounds ready.world_is;
    }

pub ready_draw : {T : Type 0} (s : ScriptState) (u v : Reading) (last : Option (List ℕ)) (links lines : ℕ) (line : List ℕ) (j : List Entry) (result : Result T Undone) → IsReady s links lines j → Took s u line j step.Draw → OnOk result (IsTold u v last) → OnOk result (IsReady (read_to s v) links (suc lines) j)
ready_draw s u v last links lines line j (Ok x) ready took told =
    subst (λ (r : Reading). IsReady (read_to s r) links (suc lines) j) (sym told.1.1) (ready_seed s u told.0 links lines line j ready took)
ready_draw s u v last links lines line j (Err error) ready took told = tt

seed_journal : (draft : Draft) (seed : List ℕ) (h : Header) (run : List (List Event)) (j : List Entry) → draft ≡ AtHeader awaits.Seed h → IsJournal draft run j → IsJournal (seeded draft seed) run j
seed_journal draft seed h run j at journal =
    subst (λ (x : Draft). IsJournal (seeded x seed) run j) (sym at) (subst (λ (x : Draft). IsJournal x run j) at journal)

seed_unlinked : {L : Type 0} (told : L → Option LinkStory) (draft : Draft) (seed : List ℕ) (h : Header) (start : AirStory) (links : List L) (air : Option AirStory) (last now : Option (List ℕ)) (turns : List (List Delivery)) (j : List Entry)
    → draft ≡ AtHeader awaits.Seed h → IsLinkedAt told draft start (outer links air last) turns j → IsLinkedAt told (seeded draft seed) start (outer links air now) turns j
seed_unlinked told draft seed h start links air last now turns j at l =
    let was : IsUnlinked start (outer links air last) turns = subst (λ (x : Draft). IsLinkedAt told x start (outer links air last) turns j) at l in
    let is : IsUnlinked start (outer links air now) turns = record { none = was.none; same = was.same; no_turns = was.no_turns } in
    subst (λ (x : Draft). IsLinkedAt told (seeded x seed) start (outer links air now) turns j) (sym at) is

tells_seed : {L : Type 0} (told : L → Option LinkStory) (first : Outer L) (s : ScriptState) (u : Reading) (seed : List ℕ) (links : List L) (air : Option AirStory) (last : Option (List ℕ)) (line : List ℕ) (draft : Draft) (rounds : Rounds) (j : List Entry)
    → IsReady s (length links) 65536 j → Took s u line j step.Draw → Stands s draft rounds j → IsMet told first (outer links air last) s.reader.mode draft rounds j
    → TellsLine told first (outer links air (Some seed)) line draft rounds (read_to s (told_seed u seed)) j j
tells_seed told first s u seed links air last line draft rounds j ready took stands met =
    let h = draw_all s u line j ready.world_is took in
    let at : draft ≡ AtHeader awaits.Seed h.header = sym stands.draft_is ∙ h.at in
    record {
      draft = seeded draft seed;
      rounds = with_seed rounds seed;
      same = same-journal (length rounds.run) j j refl;
      says = subst (λ (m : Mode). Says m j line draft rounds (seeded draft seed) (with_seed rounds seed)) (sym took.mode)
          (record { said = Draws; says = read_there s draft rounds j line (Ok Draws) ready.world_is stands h.says; means = (seed, (refl, refl)) });
      stands = record {
        draft_is = ap (λ (x : Draft). seeded x seed) (h.same ∙ stands.draft_is);
        rounds_are = h.rounds ∙ stands.rounds_are;
        run_is = stands.run_is;
        events_are = stands.events_are;
        few_turns = stands.few_turns;
        journal = seed_journal draft seed h.header rounds.run j at stands.journal;
      };
      met = record {
        drawn = refl;
        linked = λ live start is. seed_unlinked told draft seed h.header start links air last (Some seed) rounds.turns j at (met.linked (sym took.mode ∙ live) start is);
      };
    }

one_undone : {T : Type 0} (error other : Undone) → ◌≡◌ {A = Result T Undone} (Err error) (Err other) → error ≡ other
one_undone error other e = cc

fails_draw : {L : Type 0} (told : L → Option LinkStory) (first : Outer L) (s : ScriptState) (u v : Reading) (links : List L) (air : Option AirStory) (last now : Option (List ℕ)) (line : List ℕ) (draft : Draft) (rounds : Rounds) (j : List Entry)
    → IsReady s (length links) 65536 j → Took s u line j step.Draw → Stands s draft rounds j → v ≡ u → now ≡ last
    → LeavesLine undone.DrawFault told first (outer links air last) (outer links air now) (read_to s v) line draft rounds j j
fails_draw told first s u v links air last now line draft rounds j ready took stands same kept =
    let h = draw_all s u line j ready.world_is took in
    let at : draft ≡ AtHeader awaits.Seed h.header = sym stands.draft_is ∙ h.at in
    let mode : v.mode ≡ s.reader.mode = ap (λ (x : Reading). x.mode) same ∙ took.mode in
    let none = subst (λ (x : Draft). IsJournal x rounds.run j) at stands.journal in (
      record {
        live = mode ∙ h.live;
        asks = subst (λ (m : Mode). says_in m draft rounds.asked (sizes_before (length rounds.run) j) line ≡ Ok Draws) (sym mode) (read_there s draft rounds j line (Ok Draws) ready.world_is stands h.says);
        none = none.1;
        kept = refl;
      },
      ap (λ (l : Option (List ℕ)). outer links air l) kept,
    )

-- what comes of it
pub told_draw : {L T : Type 0} (told : L → Option LinkStory) (first : Outer L) (s : ScriptState) (u v : Reading) (links : List L) (air : Option AirStory) (last now : Option (List ℕ)) (line : List ℕ) (draft : Draft) (rounds : Rounds) (j : List Entry) (result : Result T Undone)
    → IsReady s (length links) 65536 j → Took s u line j step.Draw → Stands s draft rounds j → IsMet told first (outer links air last) s.reader.mode draft rounds j
    → OnOk result (IsTold u v now) → OnErr result (v ≡ u) → OnErr result (now ≡ last) → OnErr result (◌≡◌ {A = Result T Undone} result (Err undone.DrawFault))
    → MatchResult result
    (λ _. TellsLine told first (outer links air now) line draft rounds (read_to s v) j j)
    (λ error. LeavesLine error told first (outer links air last) (outer links air now) (read_to s v) line draft rounds j j)
told_draw told first s u v links air last now line draft rounds j (Ok x) ready took stands met drawn same kept fault =
    subst (λ (l : Option (List ℕ)). TellsLine told first (outer links air l) line draft rounds (read_to s v) j j) (sym drawn.1.0)
    (subst (λ (r : Reading). TellsLine told first (outer links air (Some drawn.0)) line draft rounds (read_to s r) j j) (sym drawn.1.1)
    (tells_seed told first s u drawn.0 links air last line draft rounds j ready took stands met))
told_draw {L} {T} told first s u v links air last now line draft rounds j (Err error) ready took stands met drawn same kept fault =
    subst (λ (e : Undone). LeavesLine e told first (outer links air last) (outer links air now) (read_to s v) line draft rounds j j) (sym (one_undone {T = T} error undone.DrawFault fault))
    (fails_draw told first s u v links air last now line draft rounds j ready took stands same kept)

no_links : Nobody ≢ OnLinks
no_links e = cc

no_draws : Nobody ≢ OnDraws
no_draws e = cc

draws_links : OnDraws ≢ OnLinks
draws_links e = cc

pub blamed_draw : {L T : Type 0} (faults : L → ℕ) (links : List L) (air old new : ℕ) (result : Result T Undone) → OnErr result (◌≡◌ {A = Result T Undone} result (Err undone.DrawFault)) → OnErr result (Rose old new) → OnOk result (new ≡ old)
    → MatchResult result (λ _. IsBlamed faults Nobody links links air air old new) (λ error. IsBlamed faults (undone_blame error) links links air air old new)
blamed_draw faults links air old new (Ok x) fault cause unfailed = record {
  later = omega arith;
  failed = λ e. absurd (no_links e);
  kept = λ e. (refl, λ none. none);
  undrawn = λ e. absurd (no_draws e);
  drawn = λ e. unfailed;
}
blamed_draw {L} {T} faults links air old new (Err error) fault cause unfailed =
    subst (λ (e : Undone). IsBlamed faults (undone_blame e) links links air air old new) (sym (one_undone {T = T} error undone.DrawFault fault)) (record {
      later = omega arith;
      failed = λ e. absurd (draws_links e);
      kept = λ e. (refl, λ none. none);
      undrawn = λ e. cause;
      drawn = λ e. absurd (e refl);
    })

-- ---- what nodes take

Grows-low : (n m : ℕ) (j k : List Entry) → n ≤ m → Grows m j k → Grows n j k
Grows-low n m j k low more = record { later = more.later; is = more.is; same = λ i few. more.same i (omega (arith, few, low)) }

record HasTaken (given : List Delivery) (before after : Stage) : Type 0 where
  network : after.world.domain ≡ before.world.domain
  rounds : after.world.rounds ≡ before.world.rounds + length given
  grows : Grows before.world.rounds before.journal after.journal

taken_all : (c : Domain) (given : List Delivery) (before after : Stage) → IsSince c before.world before.journal → Taken IsTaken given before after → HasTaken given before after
unfolding Taken
taken_all c [] before after since same = record {
  network = ap (λ (s : Stage). s.world.domain) same;
  rounds = omega (arith, ap (λ (s : Stage). s.world.rounds) same);
  grows = Grows-same before.world.rounds before.journal after.journal (ap (λ (s : Stage). s.journal) same);
}
taken_all c (first ∷ given) before after since r =
    let rest = taken_all c given r.mid after (r.round.since c since) r.rest in
    let event : Event = Inject first.node first.octets in
    record {
      network = rest.network ∙ r.round.network;
      rounds = omega (arith, rest.rounds, r.round.rounds);
      grows = Grows-more before.world.rounds before.journal r.mid.journal after.journal
          (Grows-step c before.world.rounds (suc before.world.rounds) event before.journal r.mid.journal (r.round.goes c since) (omega arith))
          (Grows-low before.world.rounds r.mid.world.rounds r.mid.journal after.journal (omega (arith, r.round.rounds)) rest.grows);
    }

explained_all : (c : Domain) (given : List Delivery) (before after : Stage) (run : List (List Event)) → IsSince c before.world before.journal → Taken IsTaken given before after → before.world.rounds ≡ length run → Explained c run before.journal → Explained c (with_deliveries given run) after.journal
unfolding Taken with_deliveries
explained_all c [] before after run since same count explained = subst (λ (s : Stage). Explained c run s.journal) (sym same) explained
explained_all c (first ∷ given) before after run since r count explained =
    let event : Event = Inject first.node first.octets in
    let goes = subst (λ (n : ℕ). Step c (suc n) event before.journal r.mid.journal) count (r.round.goes c since) in
    explained_all c given r.mid after ((event ∷ []) ∷ run) (r.round.since c since) r.rest (r.round.rounds ∙ ap suc count) (explained_event c run event before.journal r.mid.journal explained goes)

length_taken : (given : List Delivery) (run : List (List Event)) → length (with_deliveries given run) ≡ length run + length given
unfolding with_deliveries
length_taken [] run = omega arith
length_taken (first ∷ given) run = omega (arith, length_taken given ((Inject first.node first.octets ∷ []) ∷ run))

-- no round, no delivery
none_taken : (c : Domain) (given : List Delivery) (before after : Stage) → IsSince c before.world before.journal → Taken IsTaken given before after → after.world.rounds ≡ 0 → after ≡ before
unfolding Taken
none_taken c [] before after since same none = same
none_taken c (first ∷ given) before after since r none = absurd (omega (arith, (taken_all c given r.mid after (r.round.since c since) r.rest).rounds, r.round.rounds, none))

-- ---- a turn

record HeardTurn (m : Mode) (r s : Reading) (sizes line : List ℕ) : Type 0 where
  live : m ≡ Live
  says : says_in m r.draft r.rounds sizes line ≡ Ok Turns
  header : Header
  at : r.draft ≡ AtNodes header
  same : s.draft ≡ r.draft
  rounds : s.rounds ≡ suc r.rounds

heard_turn : (m : Mode) (r s : Reading) (sizes line : List ℕ) → ReadsIn m r s sizes line (Ok step.Turn) → HeardTurn m r s sizes line
heard_turn Replay r s sizes line takes = absurd takes.1.1.1.1
heard_turn Live r s sizes line takes = record { live = refl; says = takes.1.0; header = takes.0; at = takes.1.1.0; same = takes.1.1.1.1.0; rounds = takes.1.1.1.1.1 }

turn_all : (s : ScriptState) (u : Reading) (line : List ℕ) (j : List Entry) → IsWorldOf (world_of s.session) s.waiting s.reader j → Took s u line j step.Turn → HeardTurn s.reader.mode s.reader u (sizes_of j) line
turn_all s u line j is took =
    subst (λ (sizes : List ℕ). HeardTurn s.reader.mode s.reader u sizes line) (named (world_of s.session) s.waiting s.reader j is) (heard_turn s.reader.mode s.reader u (sizes_named s.reader j) line took.reads)

-- it can be
can_there : (world : Option State) (a : Waiting) (r : Reading) (links : ℕ) (h : Header) (j : List Entry) → IsWorldOf world a r j → r.draft ≡ AtNodes h → r.rounds ≤ 65536 → links ≡ links_due Live world → CanTurn world links j
can_there None a r links h j is at few due = subst (λ (x : Draft). IsHeader x) at is.due
can_there (Some w) a r links h j is at few due =
    (is.own, (due, omega (arith, is.rounds, few, is.own.form.few_aps, is.own.form.few_stas)))

pub can_turn : (s : ScriptState) (u : Reading) (links : ℕ) (line : List ℕ) (j : List Entry) → IsReady s links 65536 j → Took s u line j step.Turn → CanTurn (world_of s.session) links j
can_turn s u links line j ready took =
    let h = turn_all s u line j ready.world_is took in
    can_there (world_of s.session) s.waiting s.reader links h.header j ready.world_is h.at ready.few (subst (λ (m : Mode). links ≡ links_due m (world_of s.session)) h.live ready.links_are)

-- a turn was done, or a part of it
pub record TurnDone {L T : Type 0} (told : L → Option LinkStory) (faults : L → ℕ) (s t : ScriptState) (links_old links_new : List L) (line : List ℕ) (j k : List Entry) (result : Result T Break) : Type 0 where
  pub w : State
  pub v : State
  pub was : (world_of s.session) ≡ Some w
  pub now : (world_of t.session) ≡ Some v
  pub own : IsOwn w s.waiting s.reader j
  pub did : DidTurn told faults links_old links_new (stage w j) (stage v k) result
  pub live : s.reader.mode ≡ Live
  pub says : says_in s.reader.mode s.reader.draft s.reader.rounds (sizes_of j) line ≡ Ok Turns
  pub header : Header
  pub at : s.reader.draft ≡ AtNodes header
  pub since : IsSince header.network w j
  pub no_round : s.waiting ≡ None
  pub draft : t.reader.draft ≡ AtNodes header
  pub rounds : t.reader.rounds ≡ suc s.reader.rounds
  pub reader_mode : t.reader.mode ≡ s.reader.mode
  pub seen : HasSeen t.reader j
  pub waiting : t.waiting ≡ s.waiting

record TurnedBy {L T : Type 0} (told : L → Option LinkStory) (faults : L → ℕ) (links_old links_new : List L) (world other : Option State) (j k : List Entry) (result : Result T Break) : Type 0 where
  w : State
  v : State
  was : world ≡ Some w
  now : other ≡ Some v
  did : DidTurn told faults links_old links_new (stage w j) (stage v k) result

turned_by : {L T : Type 0} (told : L → Option LinkStory) (faults : L → ℕ) (links_old links_new : List L) (world other : Option State) (j k : List Entry) (result : Result T Break) → DidTurnBy told faults links_old links_new world other j k result → TurnedBy told faults links_old links_new world other j k result
turned_by told faults links_old links_new (Some w) (Some v) j k result did = record { w = w; v = v; was = refl; now = refl; did = did }
turned_by told faults links_old links_new (Some w) None j k result did = absurd did
turned_by told faults links_old links_new None other j k result did = absurd did

pub turn_done : {L T : Type 0} (told : L → Option LinkStory) (faults : L → ℕ) (s : ScriptState) (u : Reading) (t : ScriptState) (links_old links_new : List L) (line : List ℕ) (j k : List Entry) (result : Result T Break) → IsReady s (length links_old) 65536 j → Took s u line j step.Turn
    → t.reader ≡ u → t.waiting ≡ s.waiting → DidTurnBy told faults links_old links_new (world_of s.session) (world_of t.session) j k result → TurnDone told faults s t links_old links_new line j k result
turn_done told faults s u t links_old links_new line j k result ready took same waiting did =
    let h = turn_all s u line j ready.world_is took in
    let by = turned_by told faults links_old links_new (world_of s.session) (world_of t.session) j k result did in
    let own : IsOwn by.w s.waiting s.reader j = subst (λ (o : Option State). IsWorldOf o s.waiting s.reader j) by.was ready.world_is in
    let (since, none) = outside s.reader.draft h.header by.w s.waiting s.reader.sizes j own.at h.at in
    record {
      w = by.w;
      v = by.v;
      was = by.was;
      now = by.now;
      own = own;
      did = by.did;
      live = h.live;
      says = h.says;
      header = h.header;
      at = h.at;
      since = since;
      no_round = none;
      draft = ap (λ (x : Reading). x.draft) same ∙ h.same ∙ h.at;
      rounds = ap (λ (x : Reading). x.rounds) same ∙ h.rounds;
      reader_mode = ap (λ (x : Reading). x.mode) same ∙ took.mode;
      seen = subst (λ (x : Reading). HasSeen x j) (sym same) (HasSeen-by s.reader.draft u j took.seen);
      waiting = waiting;
    }

-- the world after it
turned_own : {L T : Type 0} (told : L → Option LinkStory) (faults : L → ℕ) (s t : ScriptState) (links_old links_new : List L) (line : List ℕ) (j k : List Entry) (result : Result T Break) → (l : TurnDone told faults s t links_old links_new line j k result) → IsOwn l.v t.waiting t.reader k
turned_own told faults s t links_old links_new line j k result l =
    let w = l.w in
    let v = l.v in
    let few : v.rounds ≤ w.rounds + most_polls * count w.domain = l.did.further.few in
    record {
      at = subst (λ (x : Draft). IsAt x v t.waiting t.reader.sizes k) (sym l.draft) (l.did.further.since l.header.network l.since, l.waiting ∙ l.no_round);
      rounds = omega (arith, few, l.own.rounds, l.rounds, l.own.own.form.few_aps, l.own.own.form.few_stas);
      own = l.did.further.own;
      first = λ zero.
          let same = none_taken l.header.network l.did.takes.given (stage w j) (stage v k) l.since l.did.takes.rounds zero in
          let none : w.rounds ≡ 0 = sym (ap (λ (x : Stage). x.world.rounds) same) ∙ zero in
          subst (λ (x : Stage). x.journal ≡ started x.world.domain (length x.world.domain.aps)) (sym same) (l.own.first none);
    }

turned_world : {L T : Type 0} (told : L → Option LinkStory) (faults : L → ℕ) (s t : ScriptState) (links_old links_new : List L) (line : List ℕ) (j k : List Entry) (result : Result T Break) → TurnDone told faults s t links_old links_new line j k result → IsWorldOf (world_of t.session) t.waiting t.reader k
turned_world told faults s t links_old links_new line j k result l =
    subst (λ (o : Option State). IsWorldOf o t.waiting t.reader k) (sym l.now) (turned_own told faults s t links_old links_new line j k result l)

pub ready_turn : {L T : Type 0} (told : L → Option LinkStory) (faults : L → ℕ) (s t : ScriptState) (links_old links_new : List L) (lines : ℕ) (line : List ℕ) (j k : List Entry) (result : Result T Break) → IsReady s (length links_old) lines j → TurnDone told faults s t links_old links_new line j k result
    → IsReady t (length links_new) (suc lines) k
ready_turn told faults s t links_old links_new lines line j k result ready l =
    let due : length links_old ≡ links_due Live (world_of s.session) = subst (λ (m : Mode). length links_old ≡ links_due m (world_of s.session)) l.live ready.links_are in
    let many : length links_old ≡ count l.w.domain = subst (λ (o : Option State). length links_old ≡ links_due Live o) l.was due in
    let then_ : length links_new ≡ count l.v.domain = l.did.laid.len ∙ many ∙ ap count (sym l.did.further.network) in
    record {
      links_are = subst (λ (m : Mode). length links_new ≡ links_due m (world_of t.session)) (sym (l.reader_mode ∙ l.live)) (subst (λ (o : Option State). length links_new ≡ links_due Live o) (sym l.now) then_);
      seen = HasSeen-more t.reader l.w.rounds j k l.seen (taken_all l.header.network l.did.takes.given (stage l.w j) (stage l.v k) l.since l.did.takes.rounds).grows;
      few = omega (arith, ready.few, l.rounds);
      world_is = turned_world told faults s t links_old links_new line j k result l;
    }

-- what it told
record TurnTold (s t : ScriptState) (h : Header) (line : List ℕ) (draft : Draft) (rounds : Rounds) (given : List Delivery) (j k : List Entry) : Type 0 where
  at : draft ≡ AtNodes h
  same : HasSame (length rounds.run) j k
  says : Says t.reader.mode k line draft rounds (AtNodes h) (with_turn rounds given)
  stands : Stands t (AtNodes h) (with_turn rounds given) k

told_turn : {L T : Type 0} (told : L → Option LinkStory) (faults : L → ℕ) (rightly : Rightly) (s t : ScriptState) (links_old links_new : List L) (line : List ℕ) (draft : Draft) (rounds : Rounds) (j k : List Entry) (result : Result T Break)
    → Stands s draft rounds j → (l : TurnDone told faults s t links_old links_new line j k result) → TurnTold s t l.header line draft rounds l.did.takes.given j k
told_turn told faults rightly s t links_old links_new line draft rounds j k result stands l =
    let takes = l.did.takes in
    let at : draft ≡ AtNodes l.header = sym stands.draft_is ∙ l.at in
    let c = l.header.network in
    let taken = taken_all c takes.given (stage l.w j) (stage l.v k) l.since takes.rounds in
    let count_ : l.w.rounds ≡ length rounds.run = sym (ap run_count l.was) ∙ stands.run_is in
    let same : HasSame (length rounds.run) j k = subst (λ (n : ℕ). HasSame n j k) count_ taken.grows.same in
    let was : IsRun l.header.network rounds.run j = subst (λ (x : Draft). IsJournal x rounds.run j) at stands.journal in
    let own = l.did.further.own in
    let since = l.did.further.since c l.since in
    let run : IsRun c (with_deliveries takes.given rounds.run) k = record {
      form = form_since c l.v k since own.form;
      octets = octets_since c l.v k since own.octets;
      explained = explained_all c takes.given (stage l.w j) (stage l.v k) rounds.run l.since takes.rounds count_ was.explained;
      held = rightly c k since.right;
    } in
    let many : l.v.rounds ≡ length (with_deliveries takes.given rounds.run) = omega (arith, taken.rounds, count_, length_taken takes.given rounds.run) in
    let turn : IsTurn l.w.domain takes.given = record { heard = takes.heard; few = takes.few; order = takes.order } in
    let world = subst (λ (o : Option State). IsWorldOf o s.waiting s.reader j) (sym l.was) l.own in
    record {
      at = at;
      same = same;
      says = subst (λ (m : Mode). Says m k line draft rounds (AtNodes l.header) (with_turn rounds takes.given)) (sym l.reader_mode) (record {
        said = Turns;
        says = subst (λ (sizes : List ℕ). says_in s.reader.mode draft rounds.asked sizes line ≡ Ok Turns) (sym (same (length rounds.run) (omega arith))) (read_there s draft rounds j line (Ok Turns) world stands l.says);
        means = (takes.given, (subst (λ (x : Draft). IsTurnAt x takes.given) (sym at) (turn_same_nodes l.w.domain c (back c l.w.domain (nodes_since c l.w j l.since)) takes.given turn), (sym at, refl)));
      });
      stands = record {
        draft_is = l.draft;
        rounds_are = l.rounds ∙ ap suc stands.rounds_are;
        run_is = ap run_count l.now ∙ many;
        events_are = ap events_of l.waiting ∙ stands.events_are;
        few_turns = omega (arith, stands.few_turns);
        journal = run;
      };
    }

-- ---- how the outside is met

next_left : (frames : List (List ℕ)) (n : ℕ) → drop most_polls (drop (most_polls * n) frames) ≡ drop (most_polls * suc n) frames
next_left frames n = drop-drop most_polls (most_polls * n) frames ∙ ap (λ (m : ℕ). drop m frames) (omega arith)

linked_turn : {L T : Type 0} (told : L → Option LinkStory) (faults : L → ℕ) (w v : State) (start : AirStory) (old new : Outer L) (turns : List (List Delivery)) (j k : List Entry) (x : T) → new.air ≡ old.air → (did : DidTurn {L = L} {T = T} told faults old.links new.links (stage w j) (stage v k) (Ok x))
    → IsLinked told w.domain start old turns j → IsLinked told w.domain start new (did.takes.given ∷ turns) k
unfolding AreHeard
linked_turn told faults w v start old new turns j k x air did was =
    let d = w.domain in
    let frames = frames_at (node_at d) start in
    let left = left_behind frames (length turns) in
    let all = did.takes.tells left was.tell in
    let long : length new.links ≡ length old.links = did.laid.len in
    record {
      all = long ∙ was.all;
      attached = same_links d start (length old.links) (length new.links) old.air new.air long air was.attached;
      heard = (was.heard, all.all_of);
      tell = Tell-left told (node_at d) new.links (left_past left (count d)) (left_behind frames (suc (length turns))) (sends_for d k)
          (λ i h. past_below left (count d) i (omega (arith, h, long, was.all)) ∙ next_left (frames i) (length turns)) all.tell;
    }

linked_turn_part : {L T : Type 0} (told : L → Option LinkStory) (faults : L → ℕ) (w v : State) (start : AirStory) (old new : Outer L) (rounds : Rounds) (j k : List Entry) (error : Break) → new.air ≡ old.air → (did : DidTurn {L = L} {T = T} told faults old.links new.links (stage w j) (stage v k) (Err error))
    → v.rounds ≡ length (with_turn rounds did.takes.given).run → IsLinked told w.domain start old rounds.turns j → IsLinkedPart told error w.domain start new (with_turn rounds did.takes.given) k
linked_turn_part told faults w v start old new rounds j k error air did run was =
    let d = w.domain in
    let left = left_behind (frames_at (node_at d) start) (length rounds.turns) in
    let part = did.takes.tells left was.tell in
    let long : length new.links ≡ length old.links = did.laid.len in
    let now = left_after (left_heard left did.takes.heard) part.place part.lost in
    record {
      all = long ∙ was.all;
      attached = same_links d start (length old.links) (length new.links) old.air new.air long air was.attached;
      heard = (was.heard, (part.rest, part.whole));
      left = now;
      kept = record { heard = did.takes.heard; order = did.takes.order; place = part.place; lost = part.lost; few_lost = part.few_lost; left_are = λ i. refl };
      part = turn_cut told error d new.links (with_turn rounds did.takes.given) v k now (did.takes.given ≢ []) run refl (λ some. some) part.part;
    }

same_last : (before old new drawn : Option (List ℕ)) → new ≡ old → IsDrawn drawn before old → IsDrawn drawn before new
same_last before old new drawn same is = subst (λ (x : Option (List ℕ)). IsDrawn drawn before x) (sym same) is

-- the links so far, in the world's network
turn_links : {L : Type 0} (told : L → Option LinkStory) (draft : Draft) (h : Header) (d : Domain) (start : AirStory) (o : Outer L) (turns : List (List Delivery)) (j : List Entry) → draft ≡ AtNodes h → HasNodes h.network d → IsLinkedAt told draft start o turns j → IsLinked told d start o turns j
turn_links told draft h d start o turns j at network l = linked_in told (AtNodes h) d start o turns j network (subst (λ (x : Draft). IsLinkedAt told x start o turns j) at l)

pub tells_turn : {L T : Type 0} (told : L → Option LinkStory) (faults : L → ℕ) (rightly : Rightly) (first : Outer L) (s t : ScriptState) (old new : Outer L) (line : List ℕ) (draft : Draft) (rounds : Rounds) (j k : List Entry) (x : T) → new.air ≡ old.air → new.last ≡ old.last
    → Stands s draft rounds j → IsMet told first old s.reader.mode draft rounds j → TurnDone {L = L} {T = T} told faults s t old.links new.links line j k (Ok x) → TellsLine told first new line draft rounds t j k
tells_turn told faults rightly first s t old new line draft rounds j k x air last stands met l =
    let more = told_turn told faults rightly s t old.links new.links line draft rounds j k (Ok x) stands l in
    record {
      draft = AtNodes l.header;
      rounds = with_turn rounds l.did.takes.given;
      same = more.same;
      says = more.says;
      stands = more.stands;
      met = record {
        drawn = same_last first.last old.last new.last rounds.drawn last met.drawn;
        linked = λ live start is. linked_out told (AtNodes l.header) l.w.domain start new (l.did.takes.given ∷ rounds.turns) k (nodes_since l.header.network l.w j l.since)
            (linked_turn told faults l.w l.v start old new rounds.turns j k x air l.did (turn_links told draft l.header l.w.domain start old rounds.turns j more.at (nodes_since l.header.network l.w j l.since) (met.linked l.live start is)));
      };
    }

broken_turn : (why : Break) (m : Mode) (rounds : Rounds) (given : List Delivery) → m ≡ Live → OnWrite why (given ≢ []) → IsBrokenBy why m (with_turn rounds given)
broken_turn (ByLink error) m rounds given live took = live
broken_turn ByWrite m rounds given live took = took

pub breaks_turn : {L T : Type 0} (told : L → Option LinkStory) (faults : L → ℕ) (rightly : Rightly) (first : Outer L) (s t : ScriptState) (old new : Outer L) (line : List ℕ) (draft : Draft) (rounds : Rounds) (j k : List Entry) (error : Break) → new.air ≡ old.air → new.last ≡ old.last
    → Stands s draft rounds j → IsMet told first old s.reader.mode draft rounds j → TurnDone {L = L} {T = T} told faults s t old.links new.links line j k (Err error) → BreaksLine told error first new t.reader.mode line draft rounds j k
breaks_turn told faults rightly first s t old new line draft rounds j k error air last stands met l =
    let more = told_turn told faults rightly s t old.links new.links line draft rounds j k (Err error) stands l in
    record {
      draft = AtNodes l.header;
      rounds = with_turn rounds l.did.takes.given;
      broken = broken_turn error t.reader.mode rounds l.did.takes.given (l.reader_mode ∙ l.live) l.did.takes.took;
      same = more.same;
      says = more.says;
      journal = more.stands.journal;
      met = record {
        drawn = same_last first.last old.last new.last rounds.drawn last met.drawn;
        linked = λ live start is. part_out told error (AtNodes l.header) l.w.domain start new (with_turn rounds l.did.takes.given) k (nodes_since l.header.network l.w j l.since)
            (linked_turn_part told faults l.w l.v start old new rounds j k error air l.did (sym (ap run_count l.now) ∙ more.stands.run_is) (turn_links told draft l.header l.w.domain start old rounds.turns j more.at (nodes_since l.header.network l.w j l.since) (met.linked l.live start is)));
      };
    }

-- to whom a fault is laid that was the last call's
pub broken_blame : (T : Type 0) (error : LinkError) → break_blame {T = T} (Err (ByLink error)) ≡ undone_blame (undone.Broken error)
broken_blame T link.Failed = refl
broken_blame T link.NoMemory = refl

ok_failed : {T : Type 0} (x : T) → (◌≡◌ {A = Result T Break} (Ok x) (Err (ByLink link.Failed))) → ⊥
ok_failed x e = absurd cc

memory_failed : {T : Type 0} → (◌≡◌ {A = Result T Break} (Err (ByLink link.NoMemory)) (Err (ByLink link.Failed))) → ⊥
memory_failed e = absurd cc

write_failed : {T : Type 0} → (◌≡◌ {A = Result T Break} (Err ByWrite) (Err (ByLink link.Failed))) → ⊥
write_failed e = absurd cc

laid_blame : {L T : Type 0} (faults : L → ℕ) (old new : List L) (air draws : ℕ) (result : Result T Break) → IsLaid faults old new result → IsBlamed faults (break_blame result) old new air air draws draws
laid_blame {L} {T} faults old new air draws (Ok x) laid = blamed_none faults old new air air draws refl (NoneFailed-same faults old new (laid.kept (λ e. ok_failed {T = T} x e)))
laid_blame {L} {T} faults old new air draws (Err (ByLink link.Failed)) laid = blamed_links faults old new air air draws (omega arith) (inr (laid.failed refl))
laid_blame {L} {T} faults old new air draws (Err (ByLink link.NoMemory)) laid = blamed_none faults old new air air draws refl (NoneFailed-same faults old new (laid.kept (λ e. memory_failed {T = T} e)))
laid_blame {L} {T} faults old new air draws (Err ByWrite) laid = blamed_none faults old new air air draws refl (NoneFailed-same faults old new (laid.kept (λ e. write_failed {T = T} e)))

pub blamed_turn : {L T : Type 0} (told : L → Option LinkStory) (faults : L → ℕ) (old new : List L) (world other : Option State) (j k : List Entry) (air draws : ℕ) (result : Result T Break) → DidTurnBy told faults old new world other j k result → IsBlamed faults (break_blame result) old new air air draws draws
blamed_turn told faults old new world other j k air draws result did = laid_blame faults old new air draws result (turned_by told faults old new world other j k result did).did.laid
