-- A storm with one more event.
use Rattle.std.proofs.Common.{◌≡◌, ℕ, zero, suc, ◌<◌, ◌≤◌, Bool, cond, List, [], ◌∷◌, ◌++◌, length, refl, sym, ap, subst, ◌∙◌, arith, false, true≢false}
use Rattle.std.specs.List.{AllByRecursion}
use Rattle.std.proofs.lemmas.Bool.{le-leb, lt-leb}
use Rattle.std.proofs.lemmas.List.{length-map, map-append}
use Rattle.domain_base.specs.declared.names.Node.{Node}
use Rattle.run_journal.specs.declared.domain.Domain.{Domain}
use Rattle.run_journal.specs.declared.domain.Event.{Event}
use Rattle.run_journal.specs.declared.acts.Act.{Act}
use Rattle.run_journal.specs.declared.acts.Act.TheVariants.{Sent}
use Rattle.run_journal.specs.declared.acts.Entry.{Entry}
use Rattle.domain_rules.specs.Network.{InForm}
use Rattle.domain_rules.specs.InOctets.{InOctets}
use Rattle.domain_rules.specs.Present.{present}
use Rattle.domain_rules.specs.Rounds.{Place, in_order}
use Rattle.domain_rules.specs.Explained.{Explained, AddsAll, Step, number_of, push}
use Rattle.domain_rules.proofs.Journals.{explained_event}
use Rattle.domain_world.specs.State.{State}
use Rattle.domain_world.specs.Owning.{Owns, IsPast, IsEventIn, IsSince}
use Rattle.run_journal.specs.Changed.{changed_by}
use Rattle.run_journal.specs.Secrets.{changes_keys}
use Rattle.run_journal.specs.declared.domain.Event.TheVariants.{Secret}
use Rattle.frame_script.specs.Headers.{size_sent, sizes_of}
use Rattle.storm.specs.declared.seen.Frame.{Frame}
use Rattle.storm.specs.Frames.{frame_sent, frames_of, frames_before}
use Rattle.storm.specs.Events.{event_of}
use Rattle.storm.specs.Header.{begun}
use Rattle.storm.specs.Course.{Course, HasSeenAll, events_from, storm}
use Rattle.script_runs.specs.Storms.{all_events, network, rounds_of, IsStormFront, IsWholeStorm}
use Rattle.script_runs.specs.Courses.{IsListing, IsUnbegun, IsUnderWay, IsSoFar, IsFrontSoFar}
use Rattle.script_runs.specs.Script.{IsRun}
use Rattle.script_runs.proofs.Telling.{Rightly}
use Rattle.script_runs.proofs.Sizes.{event_in}
use Rattle.script_runs.proofs.Growing.{Grows-step}
use Rattle.script_runs.proofs.Drawn.{IsDrawn, sizes_in, can_happen}
use Rattle.script_runs.proofs.Nodes.{nodes_of_storm, under_way_first}

-- ---- the frames of a journal

-- of which all entries have rounds up to that number
frames_all : (d : Domain) (rounds : ℕ) (j : List Entry) → AllByRecursion (IsPast d rounds) j → frames_before rounds j ≡ frames_of j
unfolding frames_before frames_of
frames_all d rounds [] past = refl
frames_all d rounds (e ∷ j) past =
    ap (λ (b : Bool). cond b (frames_before rounds j ++ frame_sent e.act) (frames_before rounds j)) (le-leb e.round rounds past.0.round)
    ∙ ap (λ (frames : List Frame). frames ++ frame_sent e.act) (frames_all d rounds j past.1)

later_frame : (rounds : ℕ) (e : Entry) (past : List Entry) → rounds < e.round → frames_before rounds (e ∷ past) ≡ frames_before rounds past
unfolding frames_before
later_frame rounds e past later =
    ap (λ (b : Bool). cond b (frames_before rounds past ++ frame_sent e.act) (frames_before rounds past)) (lt-leb e.round rounds later)

-- acts of a later round
frames-push : (rounds round : ℕ) (n : Node) (acts : List Act) (past : List Entry) → rounds < round → frames_before rounds (push round n acts past) ≡ frames_before rounds past
frames-push rounds round n [] past later = refl
frames-push rounds round n (act ∷ g) past later =
    let e : Entry = record { round = round; node = n; number = number_of act past; act = act } in
    frames-push rounds round n g (e ∷ past) later ∙ later_frame rounds e past later

frames-adds : (d : Domain) (rounds round : ℕ) (places : List Place) (j k : List Entry) → AddsAll d round places j k → rounds < round → frames_before rounds k ≡ frames_before rounds j
frames-adds d rounds round [] j k is later = ap (frames_before rounds) is
frames-adds d rounds round (p ∷ places) j k (acts, (adds, rest)) later =
    frames-adds d rounds round places (push round p.node acts j) k rest later ∙ frames-push rounds round p.node acts j later

frames-step : (d : Domain) (rounds round : ℕ) (event : Event) (j k : List Entry) → Step d round event j k → rounds < round → frames_before rounds k ≡ frames_before rounds j
frames-step d rounds round event j k step later = frames-adds (present d j) rounds round (in_order step.places) j k step.adds later

one_size : (a : Act) (frames : List Frame) (sizes : List ℕ) → sizes ≡ sizes_in frames → sizes ++ size_sent a ≡ sizes_in (frames ++ frame_sent a)
one_size (Sent p k octets s) frames sizes is =
    ap (λ (xs : List ℕ). xs ++ length octets ∷ []) is ∙ sym (map-append (λ (f : Frame). f.size) frames (record { to = p; size = length octets } ∷ []))
one_size a frames sizes is = ap (λ (xs : List ℕ). xs ++ []) is ∙ sym (map-append (λ (f : Frame). f.size) frames [])

sizes_are : (j : List Entry) → sizes_of j ≡ sizes_in (frames_of j)
unfolding sizes_of frames_of
sizes_are [] = refl
sizes_are (e ∷ past) = one_size e.act (frames_of past) (sizes_of past) (sizes_are past)

-- ---- events

-- one more, where these frames were sent
next_from : List Frame → List Event × ℕ → List Event × ℕ
next_from frames earlier = ((event_of frames earlier.1).0 ∷ earlier.0, (event_of frames earlier.1).1)

events-suc : (j : List Entry) (n x : ℕ) → events_from j (suc n) x ≡ next_from (frames_before n j) (events_from j n x)
unfolding events_from next_from
events-suc j n x = refl

events-same : (j k : List Entry) (n x : ℕ) → ((m : ℕ) → m < n → frames_before m k ≡ frames_before m j) → events_from k n x ≡ events_from j n x
unfolding events_from next_from
events-same j k zero x same = refl
events-same j k (suc n) x same =
    let before = events-same j k n x (λ m low. same m (omega (arith, low))) in
    ap (λ (p : List Event × ℕ). next_from (frames_before n k) p) before ∙ ap (λ (frames : List Frame). next_from frames (events_from j n x)) (same n (omega arith))

-- of a journal with one round more
record OneMore (number n x : ℕ) (event : Event) (j k : List Entry) : Type 0 where
  events : storm number k (suc n) ≡ event ∷ storm number j n
  state : x ≡ (events_from k (suc n) (begun number)).1

one_more : (d : Domain) (number n x y : ℕ) (event : Event) (j k : List Entry) → AllByRecursion (IsPast d n) j → Step d (suc n) event j k → x ≡ (events_from j n (begun number)).1 → event ≡ (event_of (frames_of j) x).0 → y ≡ (event_of (frames_of j) x).1
    → OneMore number n y event j k
unfolding next_from
one_more d number n x y event j k past step x_is event_is y_is =
    let same = events-same j k n (begun number) (λ m low. frames-step d m (suc n) event j k step (omega (arith, low))) in
    let frames : frames_before n k ≡ frames_of j = frames-step d n (suc n) event j k step (omega arith) ∙ frames_all d n j past in
    let next : events_from k (suc n) (begun number) ≡ next_from (frames_of j) (events_from j n (begun number)) =
    events-suc k n (begun number) ∙ ap (λ (fs : List Frame). next_from fs (events_from k n (begun number))) frames ∙ ap (λ (p : List Event × ℕ). next_from (frames_of j) p) same in
    let event_there = event_is ∙ ap (λ (z : ℕ). (event_of (frames_of j) z).0) x_is in
    let state_there = y_is ∙ ap (λ (z : ℕ). (event_of (frames_of j) z).1) x_is in
    record {
      events = ap (λ (p : List Event × ℕ). p.0) next ∙ ap (λ (e : Event). e ∷ storm number j n) (sym event_there);
      state = state_there ∙ sym (ap (λ (p : List Event × ℕ). p.1) next);
    }

events_count : (number n : ℕ) (j : List Entry) → length (storm number j n) ≡ n
unfolding events_from
events_count number zero j = refl
events_count number (suc n) j = ap suc (events_count number n j)

rounds_count : (number n : ℕ) (j : List Entry) → length (rounds_of (storm number j n)) ≡ n
rounds_count number n j = length-map (storm number j n) (λ (event : Event). event ∷ []) ∙ events_count number n j

-- ---- a storm under way

-- its next event can happen, and changes no key
event_drawn : (s : Course) (w : State) (j : List Entry) (event : Event) → IsUnderWay s w j → event ≡ (event_of (frames_of j) s.state).0 → IsDrawn w.domain (sizes_of j) event
event_drawn s w j event u is =
    let can = can_happen w.domain (frames_of j) (nodes_of_storm s.number w.domain u.network_is) s.state in
    let here = subst (λ (sizes : List ℕ). IsDrawn w.domain sizes (event_of (frames_of j) s.state).0) (sym (sizes_are j)) can in
    subst (λ (e : Event). IsDrawn w.domain (sizes_of j) e) (sym is) here

pub event_can : (s : Course) (w : State) (j : List Entry) (event : Event) → IsUnderWay s w j → event ≡ (event_of (frames_of j) s.state).0 → IsEventIn w.domain (length w.frames) j event
event_can s w j event u is = event_in w j event u.own (event_drawn s w j event u is).0

same_after : (d : Domain) (event : Event) → changes_keys event ≡ false → changed_by d event ≡ d
same_after d (Secret named psk) still = absurd (true≢false still)
same_after d _ still = refl

-- and does
pub under_way_more : (s t : Course) (w v : State) (event : Event) (j k : List Entry) → IsUnderWay s w j → event ≡ (event_of (frames_of j) s.state).0 → t.state ≡ (event_of (frames_of j) s.state).1 → HasSeenAll t.seen t.frames j → t.number ≡ s.number
    → ((c : Domain) → IsSince c w j → Step c (suc w.rounds) event j k) → v.rounds ≡ suc w.rounds → v.domain ≡ changed_by w.domain event → ((c : Domain) → IsSince c w j → IsSince c v k) → Owns v k → IsUnderWay t v k
under_way_more s t w v event j k u event_is state_is seen number steps rounds changed since own =
    let d = network s.number 4 8 in
    let step = steps d u.since in
    let domain = changed ∙ same_after w.domain event (event_drawn s w j event u event_is).1 in
    let past = subst (λ (x : Domain). AllByRecursion (IsPast x w.rounds) j) u.network_is u.own.placed.past in
    let more = one_more d s.number w.rounds s.state t.state event j k past step u.state_is event_is state_is in
    let grown = Grows-step d w.rounds (suc w.rounds) event j k step (omega arith) in
    let there : Step d (suc (length (rounds_of (storm s.number j w.rounds)))) event j k =
    subst (λ (n : ℕ). Step d (suc n) event j k) (sym (rounds_count s.number w.rounds j)) step in
    let explained = explained_event d (rounds_of (storm s.number j w.rounds)) event j k u.explained there in
    let all : Explained d (rounds_of (storm s.number k (suc w.rounds))) k =
    subst (λ (es : List Event). Explained d (rounds_of es) k) (sym more.events) explained in
    record {
      network_is = domain ∙ u.network_is ∙ ap (λ (n : ℕ). network n 4 8) (sym number);
      own = own;
      since = subst (λ (n : ℕ). IsSince (network n 4 8) v k) (sym number) (since d u.since);
      seen = record { later = grown.later; earlier = j; is = grown.is; count = seen.count; frames_are = seen.frames_are };
      state_is = more.state ∙ ap (λ (n : ℕ). (events_from k n (begun s.number)).1) (sym rounds) ∙ ap (λ (n : ℕ). (events_from k v.rounds (begun n)).1) (sym number);
      explained = subst (λ (n : ℕ). Explained (network n 4 8) (rounds_of (storm n k v.rounds)) k) (sym number)
          (subst (λ (n : ℕ). Explained d (rounds_of (storm s.number k n)) k) (sym rounds) all);
    }

-- how far it came
pub under_way_so_far : (s : Course) (w : State) (j : List Entry) (n : ℕ) → IsUnderWay s w j → w.rounds ≡ n → IsSoFar s.number 4 8 n j
under_way_so_far s w j n u count = record {
  form = subst InForm u.network_is u.own.form;
  octets = subst InOctets u.network_is u.own.octets;
  explained = subst (λ (m : ℕ). Explained (network s.number 4 8) (rounds_of (storm s.number j m)) j) count u.explained;
  right = u.since.right;
}

pub under_way_front : (s : Course) (w : State) (j k : List Entry) → IsUnderWay s w j → w.rounds ≤ all_events → k ≡ j → IsFrontSoFar s.number k
under_way_front s w j k u few same = record {
  aps = 4;
  stas = 8;
  events = w.rounds;
  few_aps = omega arith;
  few_stas = omega arith;
  few_events = few;
  aps_first = λ some. refl;
  nodes_first = λ some. (refl, refl);
  so_far = subst (λ (x : List Entry). IsSoFar s.number 4 8 w.rounds x) (sym same) (under_way_so_far s w j w.rounds u refl);
}

-- ---- at its end

run_so_far : (rightly : Rightly) (number aps stas events : ℕ) (j : List Entry) → IsSoFar number aps stas events j → IsRun (network number aps stas) (rounds_of (storm number j events)) j
run_so_far rightly number aps stas events j s = record { form = s.form; octets = s.octets; explained = s.explained; held = rightly (network number aps stas) j s.right }

pub whole_storm : (rightly : Rightly) (number : ℕ) (j : List Entry) → IsSoFar number 4 8 all_events j → IsWholeStorm number j
whole_storm rightly number j s = run_so_far rightly number 4 8 all_events j s

pub storm_front : (rightly : Rightly) (number : ℕ) (j : List Entry) → IsFrontSoFar number j → IsStormFront number j
storm_front rightly number j f = record {
  aps = f.aps;
  stas = f.stas;
  events = f.events;
  few_aps = f.few_aps;
  few_stas = f.few_stas;
  few_events = f.few_events;
  aps_first = f.aps_first;
  nodes_first = f.nodes_first;
  journal = run_so_far rightly number f.aps f.stas f.events j f.so_far;
}

-- of a storm before its first event
abbrev pub First : ℕ → Course → Type 0
First number s = s ≡ record { number = number; state = begun number; seen = 0; frames = [] }

pub unbegun : (number : ℕ) (s : Course) → First number s → IsUnbegun s
unbegun number s is = subst IsUnbegun (sym is) refl

pub front_of : (rightly : Rightly) (number : ℕ) (s : Course) (j : List Entry) → First number s → IsFrontSoFar s.number j → IsStormFront number j
front_of rightly number s j is f = storm_front rightly number j (subst (λ (x : Course). IsFrontSoFar x.number j) is f)

pub whole_of : (rightly : Rightly) (number : ℕ) (s : Course) (j : List Entry) → First number s → IsSoFar s.number 4 8 all_events j → IsWholeStorm number j
whole_of rightly number s j is f = whole_storm rightly number j (subst (λ (x : Course). IsSoFar x.number 4 8 all_events j) is f)

pub begins_there : (number : ℕ) (s : Course) (w : State) (j : List Entry) → First number s → IsListing s.number 4 8 w j → IsUnderWay s w j
begins_there number s w j is l = under_way_first number s w j is (subst (λ (x : Course). IsListing x.number 4 8 w j) is l)
