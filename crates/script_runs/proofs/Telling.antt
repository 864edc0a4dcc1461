-- What the lines have told with one that is taken, and the journal of it.
use Rattle.std.proofs.Common.{◌≡◌, ℕ, suc, Bool, true, false, if◌then◌else◌, List, [], ◌∷◌, ◌++◌, length, Option, Some, None, Result, Ok, refl, sym, ap, subst, ◌∙◌, arith}
use Rattle.run_journal.specs.declared.domain.Domain.{Domain}
use Rattle.run_journal.specs.declared.domain.Event.{Event}
use Rattle.run_journal.specs.declared.acts.Entry.{Entry}
use Rattle.domain_rules.specs.Explained.{Explained, Step, Follows, started}
use Rattle.domain_rules.proofs.Journals.{explained_start, explained_event, explained_round}
use Rattle.domain_rules.specs.HeldRight.{HeldRight, AnsweredInTime}
use Rattle.domain_world.specs.State.{State}
use Rattle.domain_world.specs.Owning.{Owns, IsSince}
use Rattle.frame_script.specs.Script.{is_within, said_after, rounds_after}
use Rattle.script_lines.specs.Script.{Fault, Draft, AtVersion, AtHeader, AtNodes, InRound, Said, Goes, ListsAp, ListsSta, Adds, Asks, BeginsRound, EndsRound}
use Rattle.frame_script.specs.Headers.{Reading, TakesStep, HasRead, sizes_of}
use Rattle.script_lines.specs.declared.step.Step.{Step as Asked}
use Rattle.script_lines.specs.declared.step.Step.TheVariants as step
use Rattle.script_runs.specs.Script.{Rounds, Other, IsRun, IsJournal, with_round, with_waiting, rounds_with}
use Rattle.script_runs.specs.States.{Waiting, events_of, IsHeader, IsAt, IsOwn, IsNone, IsWorldOf, DidAsk, HasBegun, DidEnd, Did, DidRun, IsBegun, run_count}
use Rattle.script_runs.proofs.Since.{form_since, octets_since, since_first, network_in, header_at}
use Rattle.script_runs.proofs.Steps.{one_saying, no_nodes, no_round, no_asking, none_run, outside, same_draft}

-- ---- the journal of a world

-- before the header is whole
header_journal : (draft : Draft) (run : List (List Event)) (j : List Entry) → IsHeader draft → run ≡ [] → j ≡ [] → IsJournal draft run j
header_journal AtVersion run j due none empty = (none, empty)
header_journal (AtHeader awaited h) run j due none empty = (none, empty)
header_journal (AtNodes h) run j due none empty = absurd due
header_journal (InRound h count) run j due none empty = absurd due

no_run : (run : List (List Event)) (n : ℕ) → n ≡ length run → n ≡ 0 → run ≡ []
no_run [] n count none = refl
no_run (round ∷ run) n count none = absurd (omega (arith, count, none))

-- looks each of which was answered rightly at some moment of its round
abbrev pub Rightly : Type 0
Rightly = (d : Domain) (j : List Entry) → AnsweredInTime d j → HeldRight d j

-- of the header of a world
run_of : (rightly : Rightly) (c : Domain) (w : State) (run : List (List Event)) (j : List Entry) → Owns w j → IsSince c w j → Explained c run j → IsRun c run j
run_of rightly c w run j own since explained = record { form = form_since c w j since own.form; octets = octets_since c w j since own.octets; explained = explained; held = rightly c j since.right }

one_domain : (a b : Domain) → Some a ≡ Some b → a ≡ b
one_domain a b is = cc

journal_at : (draft : Draft) (c : Domain) (run : List (List Event)) (j : List Entry) → network_in draft ≡ Some c → IsRun c run j → IsJournal draft run j
journal_at AtVersion c run j is told = absurd cc
journal_at (AtHeader awaited h) c run j is told = absurd cc
journal_at (AtNodes h) c run j is told = subst (λ (x : Domain). IsRun x run j) (sym (one_domain h.network c is)) told
journal_at (InRound h count) c run j is told = subst (λ (x : Domain). IsRun x run j) (sym (one_domain h.network c is)) told

own_journal : (rightly : Rightly) (w : State) (a : Waiting) (r : Reading) (run : List (List Event)) (j : List Entry) → IsOwn w a r j → ((c : Domain) → network_in r.draft ≡ Some c → IsSince c w j → Explained c run j) → IsJournal r.draft run j
own_journal rightly w a r run j own explained =
    let x = header_at r.draft w a r.sizes j own.at in
    journal_at r.draft x.header run j x.is (run_of rightly x.header w run j own.own x.since (explained x.header x.is x.since))

explained_at : (draft : Draft) (c : Domain) (run : List (List Event)) (j : List Entry) → network_in draft ≡ Some c → IsJournal draft run j → Explained c run j
explained_at AtVersion c run j is told = absurd cc
explained_at (AtHeader awaited h) c run j is told = absurd cc
explained_at (AtNodes h) c run j is told = subst (λ (x : Domain). Explained x run j) (one_domain h.network c is) told.explained
explained_at (InRound h count) c run j is told = subst (λ (x : Domain). Explained x run j) (one_domain h.network c is) told.explained

first_explained : (c : Domain) (w : State) (a : Waiting) (r : Reading) (run : List (List Event)) (j : List Entry) → IsOwn w a r j → IsSince c w j → run ≡ [] → w.rounds ≡ 0 → Explained c run j
first_explained c w a r run j own since none zero =
    let same : w.domain ≡ c = sym (since_first c w j own.own zero since) in
    subst (λ (x : List (List Event)). Explained c x j) (sym none)
    (subst (λ (x : List Entry). Explained c [] x) (sym (own.first zero ∙ ap (λ (d : Domain). started d (length d.aps)) same)) (explained_start c))

-- ---- with one more line

-- before the header is whole
begun_none : (draft : Draft) (asked : Asked) (w : State) → IsBegun draft asked (Some w) → w.rounds ≡ 0
begun_none draft step.Nothing w begun = absurd cc
begun_none draft step.Draw w begun = absurd begun
begun_none draft step.Network w begun = begun.none
begun_none draft (step.Ap address id) w begun = absurd begun
begun_none draft (step.Sta address psk) w begun = absurd begun
begun_none draft (step.Extra extra) w begun = absurd begun
begun_none draft (step.Event event) w begun = absurd begun
begun_none draft step.Round w begun = absurd begun
begun_none draft step.End w begun = absurd begun
begun_none draft step.Turn w begun = absurd begun

told_begun : (rightly : Rightly) (r s : Reading) (v : Option State) (a b : Waiting) (run : List (List Event)) (j k : List Entry) (asked : Asked) → IsNone a r j → run ≡ [] → IsBegun s.draft asked v → k ≡ j → IsWorldOf v b s k → IsJournal s.draft run k
told_begun rightly r s None a b run j k asked is none begun kept new = header_journal s.draft run k new.due none new.no_entries
told_begun rightly r s (Some w) a b run j k asked is none begun kept new =
    own_journal rightly w b s run k new (λ c is since. first_explained c w b s run k new since none (begun_none s.draft asked w begun))

-- nothing was run
told_stays : (c : Domain) (w v : State) (run : List (List Event)) (j k : List Entry) → Explained c run j → (v ≡ w) × (k ≡ j) → Explained c run k
told_stays c w v run j k explained same = subst (λ (x : List Entry). Explained c run x) (sym same.1) explained

told_ask : (c : Domain) (draft : Draft) (w v : State) (a b : Waiting) (sizes : List ℕ) (rounds : Rounds) (event : Event) (j k : List Entry) → IsAt draft w a sizes j → IsSince c w j → w.rounds ≡ length rounds.run → Explained c rounds.run j → DidAsk w v a b event j k
    → Explained c (rounds_with draft rounds (Asks event)).run k
told_ask c AtVersion w v a b sizes rounds event j k at since count explained did = absurd at
told_ask c (AtHeader awaited h) w v a b sizes rounds event j k at since count explained did = absurd at
told_ask c (AtNodes h) w v None None sizes rounds event j k at since count explained did =
    let goes = subst (λ (n : ℕ). Step c (suc n) event j k) count (did.goes c since) in
    explained_event c rounds.run event j k explained goes
told_ask c (AtNodes h) w v None (Some more) sizes rounds event j k at since count explained did = absurd did
told_ask c (AtNodes h) w v (Some events) b sizes rounds event j k at since count explained did = let some : Some events ≡ None = at.1 in absurd cc
told_ask c (InRound h n) w v None b sizes rounds event j k at since count explained did = absurd at
told_ask c (InRound h n) w v (Some events) None sizes rounds event j k at since count explained did = absurd did
told_ask c (InRound h n) w v (Some events) (Some more) sizes rounds event j k at since count explained did = told_stays c w v rounds.run j k explained did.0

told_end : (c : Domain) (w v : State) (a b : Waiting) (rounds : Rounds) (j k : List Entry) → IsSince c w j → w.rounds ≡ length rounds.run → events_of a ≡ rounds.waiting → Explained c rounds.run j → DidEnd w v a b j k → Explained c (rounds.waiting ∷ rounds.run) k
told_end c w v None b rounds j k since count waits explained did = absurd did
told_end c w v (Some events) (Some more) rounds j k since count waits explained did = absurd did
told_end c w v (Some events) None rounds j k since count waits explained did =
    let goes = subst (λ (n : ℕ). Follows c (suc n) events.items j k) count (did.goes c since) in
    let these = subst (λ (es : List Event). Follows c (suc (length rounds.run)) es j k) waits goes in
    explained_round c rounds.run rounds.waiting j k explained these

-- the header of the world where the script stands
since_of : (c : Domain) (w : State) (a : Waiting) (r : Reading) (j : List Entry) → IsOwn w a r j → network_in r.draft ≡ Some c → IsSince c w j
since_of c w a r j own is = let x = header_at r.draft w a r.sizes j own.at in subst (λ (d : Domain). IsSince d w j) (one_domain x.header c (sym x.is ∙ is)) x.since

-- the line lists no node
abbrev IsPlain : Said → Type 0
IsPlain (Asks event) = Unit {0}
IsPlain BeginsRound = Unit {0}
IsPlain EndsRound = Unit {0}
IsPlain said = ⊥

-- a line that lists no node leaves the header
same_header : (draft : Draft) (said : Said) → IsPlain said → network_in (said_after draft said) ≡ network_in draft
same_header draft said plain = by draft said plain
  where
    by : (draft : Draft) (said : Said) → IsPlain said → network_in (said_after draft said) ≡ network_in draft
    by AtVersion (Asks event) plain = refl
    by (AtHeader awaited h) (Asks event) plain = refl
    by (AtNodes h) (Asks event) plain = refl
    by (InRound h n) (Asks event) plain = refl
    by AtVersion BeginsRound plain = refl
    by (AtHeader awaited h) BeginsRound plain = refl
    by (AtNodes h) BeginsRound plain = refl
    by (InRound h n) BeginsRound plain = refl
    by AtVersion EndsRound plain = refl
    by (AtHeader awaited h) EndsRound plain = refl
    by (AtNodes h) EndsRound plain = refl
    by (InRound h n) EndsRound plain = refl
    by draft _ plain = absurd plain

told_own : (c : Domain) (w v : State) (a b : Waiting) (r s : Reading) (rounds : Rounds) (line : List ℕ) (j k : List Entry) (asked : Asked) → IsOwn w a r j → w.rounds ≡ length rounds.run → events_of a ≡ rounds.waiting → IsJournal r.draft rounds.run j
    → (read : HasRead r s (sizes_of j) line asked) → Did w v a b j k asked → IsOwn v b s k → network_in s.draft ≡ Some c → IsSince c v k → Explained c (rounds_with r.draft rounds read.0).run k
told_own c w v a b r s rounds line j k step.Nothing own count waits told read did new is since =
    let same = one_saying _ read.0 (Goes s.draft) read.1.0 read.1.1.1.1.0 in
    let before : network_in r.draft ≡ Some c = sym (ap network_in (same_draft r.draft s.draft w a r.sizes (sizes_of j) line r.rounds j own.at read.1.1.1.1.0)) ∙ is in
    subst (λ (x : Said). Explained c (rounds_with r.draft rounds x).run k) (sym same) (told_stays c w v rounds.run j k (explained_at r.draft c rounds.run j before told) did.0)
told_own c w v a b r s rounds line j k step.Network own count waits told read did new is since = absurd did
told_own c w v a b r s rounds line j k step.Draw own count waits told read did new is since = absurd did
told_own c w v a b r s rounds line j k step.Turn own count waits told read did new is since = absurd did
told_own c w v a b r s rounds line j k (step.Ap address id) own count waits told read did new is since =
    let (h, (says, (old, (can, (none, first))))) = read.1.1.1.1 in
    let same = one_saying _ read.0 (ListsAp address id) read.1.0 says in
    subst (λ (x : Said). Explained c (rounds_with r.draft rounds x).run k) (sym same)
    (first_explained c v b s rounds.run k new since (no_run rounds.run w.rounds count (none_run w a r j own first)) (did.0.rounds ∙ none_run w a r j own first))
told_own c w v a b r s rounds line j k (step.Sta address psk) own count waits told read did new is since =
    let (h, (says, (old, (can, first)))) = read.1.1.1.1 in
    let same = one_saying _ read.0 (ListsSta address psk) read.1.0 says in
    subst (λ (x : Said). Explained c (rounds_with r.draft rounds x).run k) (sym same)
    (first_explained c v b s rounds.run k new since (no_run rounds.run w.rounds count (none_run w a r j own first)) (did.0.rounds ∙ none_run w a r j own first))
told_own c w v a b r s rounds line j k (step.Extra extra) own count waits told read did new is since =
    let (h, (says, (old, (can, first)))) = read.1.1.1.1 in
    let same = one_saying _ read.0 (Adds extra) read.1.0 says in
    subst (λ (x : Said). Explained c (rounds_with r.draft rounds x).run k) (sym same)
    (first_explained c v b s rounds.run k new since (no_run rounds.run w.rounds count (none_run w a r j own first)) (did.0.rounds ∙ none_run w a r j own first))
told_own c w v a b r s rounds line j k (step.Event event) own count waits told read did new is since =
    let same = one_saying _ read.0 (Asks event) read.1.0 read.1.1.1.1.0 in
    let before : network_in r.draft ≡ Some c = sym (ap network_in (read.1.1.0 ∙ ap (said_after r.draft) same) ∙ same_header r.draft (Asks event) tt) ∙ is in
    subst (λ (x : Said). Explained c (rounds_with r.draft rounds x).run k) (sym same)
    (told_ask c r.draft w v a b r.sizes rounds event j k own.at (since_of c w a r j own before) count (explained_at r.draft c rounds.run j before told) did)
told_own c w v a b r s rounds line j k step.Round own count waits told read did new is since =
    let same = one_saying _ read.0 BeginsRound read.1.0 read.1.1.1.1.1.0 in
    let before : network_in r.draft ≡ Some c = sym (ap network_in (read.1.1.0 ∙ ap (said_after r.draft) same) ∙ same_header r.draft BeginsRound tt) ∙ is in
    subst (λ (x : Said). Explained c (rounds_with r.draft rounds x).run k) (sym same) (told_stays c w v rounds.run j k (explained_at r.draft c rounds.run j before told) did.0)
told_own c w v a b r s rounds line j k step.End own count waits told read did new is since =
    let same = one_saying _ read.0 EndsRound read.1.0 read.1.1.1.1.1.1.0 in
    let before : network_in r.draft ≡ Some c = sym (ap network_in (read.1.1.0 ∙ ap (said_after r.draft) same) ∙ same_header r.draft EndsRound tt) ∙ is in
    subst (λ (x : Said). Explained c (rounds_with r.draft rounds x).run k) (sym same)
    (told_end c w v a b rounds j k (since_of c w a r j own before) count waits (explained_at r.draft c rounds.run j before told) did)

-- as many lines asked for rounds as the reader counts
asked_by : (b : Bool) (n m : ℕ) (x y : Rounds) → n ≡ x.asked → m ≡ y.asked → (if b then n else m) ≡ (if b then x else y).asked
asked_by true n m x y p q = p
asked_by false n m x y p q = q

pub rounds_count : (draft : Draft) (n : ℕ) (rounds : Rounds) (said : Said) → n ≡ rounds.asked → rounds_after draft n said ≡ (rounds_with draft rounds said).asked
rounds_count draft n rounds (Goes next) count = count
rounds_count draft n rounds (ListsAp address id) count = count
rounds_count draft n rounds (ListsSta address psk) count = count
rounds_count draft n rounds (Adds extra) count = count
rounds_count draft n rounds (Asks event) count =
    asked_by (is_within draft) n (suc n) (with_waiting rounds (rounds.waiting ++ event ∷ [])) (with_round rounds (event ∷ [])) count (ap suc count)
rounds_count draft n rounds BeginsRound count = count
rounds_count draft n rounds EndsRound count = ap suc count

-- what came from outside is as before
same_by : {A : Type 0} (f : Rounds → A) (b : Bool) (x y : Rounds) (old : A) → f x ≡ old → f y ≡ old → f (if b then x else y) ≡ old
same_by f true x y old p q = p
same_by f false x y old p q = q

pub same_drawn : (draft : Draft) (rounds : Rounds) (said : Said) → (rounds_with draft rounds said).drawn ≡ rounds.drawn
same_drawn draft rounds (Goes next) = refl
same_drawn draft rounds (ListsAp address id) = refl
same_drawn draft rounds (ListsSta address psk) = refl
same_drawn draft rounds (Adds extra) = refl
same_drawn draft rounds (Asks event) =
    same_by (λ (x : Rounds). x.drawn) (is_within draft) (with_waiting rounds (rounds.waiting ++ event ∷ [])) (with_round rounds (event ∷ [])) rounds.drawn refl refl
same_drawn draft rounds BeginsRound = refl
same_drawn draft rounds EndsRound = refl

pub same_turns : (draft : Draft) (rounds : Rounds) (said : Said) → (rounds_with draft rounds said).turns ≡ rounds.turns
same_turns draft rounds (Goes next) = refl
same_turns draft rounds (ListsAp address id) = refl
same_turns draft rounds (ListsSta address psk) = refl
same_turns draft rounds (Adds extra) = refl
same_turns draft rounds (Asks event) =
    same_by (λ (x : Rounds). x.turns) (is_within draft) (with_waiting rounds (rounds.waiting ++ event ∷ [])) (with_round rounds (event ∷ [])) rounds.turns refl refl
same_turns draft rounds BeginsRound = refl
same_turns draft rounds EndsRound = refl

-- before the header is whole a line asks for no round
none_asked : (r s : Reading) (says : Result Said Fault) (said : Said) (rounds : Rounds) (sizes : List ℕ) (asked : Asked) → IsHeader r.draft → says ≡ Ok said → TakesStep r.draft s.draft r.rounds sizes says asked
    → rounds_with r.draft rounds said ≡ record rounds { last = Other }
none_asked r s says said rounds sizes step.Nothing due is takes = ap (λ (x : Said). rounds_with r.draft rounds x) (one_saying says said (Goes s.draft) is takes.0)
none_asked r s says said rounds sizes step.Network due is takes = ap (λ (x : Said). rounds_with r.draft rounds x) (one_saying says said (Goes s.draft) is takes.1.0)
none_asked r s says said rounds sizes (step.Ap address id) due is takes = absurd (no_nodes r.draft takes.0 due takes.1.1.0)
none_asked r s says said rounds sizes (step.Sta address psk) due is takes = absurd (no_nodes r.draft takes.0 due takes.1.1.0)
none_asked r s says said rounds sizes (step.Extra extra) due is takes = absurd (no_nodes r.draft takes.0 due takes.1.1.0)
none_asked r s says said rounds sizes (step.Event event) due is takes = absurd (no_asking r.draft sizes event due takes.1)
none_asked r s says said rounds sizes step.Round due is takes = absurd (no_nodes r.draft takes.0 due takes.1.1.0)
none_asked r s says said rounds sizes step.End due is takes = absurd (no_round r.draft takes.0 takes.1.0 due takes.1.1.1)
none_asked r s says said rounds sizes step.Draw due is takes = absurd takes
none_asked r s says said rounds sizes step.Turn due is takes = absurd takes

pub journal_then : (rightly : Rightly) (r s : Reading) (world v : Option State) (a b : Waiting) (rounds : Rounds) (line : List ℕ) (j k : List Entry) (asked : Asked) → IsWorldOf world a r j → run_count world ≡ length rounds.run → events_of a ≡ rounds.waiting → IsJournal r.draft rounds.run j
    → (read : HasRead r s (sizes_of j) line asked) → DidRun world v a b s.draft j k asked → IsWorldOf v b s k → IsJournal s.draft (rounds_with r.draft rounds read.0).run k
journal_then rightly r s None v a b rounds line j k asked is count waits told read did new =
    let none = none_asked r s _ read.0 rounds (sizes_of j) asked is.due read.1.0 read.1.1.1.1 in
    told_begun rightly r s v a b (rounds_with r.draft rounds read.0).run j k asked is (ap (λ (x : Rounds). x.run) none ∙ no_run rounds.run 0 count refl) did.0 did.1.0 new
journal_then rightly r s (Some w) None a b rounds line j k asked is count waits told read did new = absurd did
journal_then rightly r s (Some w) (Some v) a b rounds line j k asked is count waits told read did new =
    own_journal rightly v b s (rounds_with r.draft rounds read.0).run k new (λ c shown since. told_own c w v a b r s rounds line j k asked is count waits told read did.1 new shown since)

-- ---- what waits with it

waits_ask : (draft : Draft) (w v : State) (a b : Waiting) (sizes : List ℕ) (rounds : Rounds) (event : Event) (j k : List Entry) → IsAt draft w a sizes j → events_of a ≡ rounds.waiting → DidAsk w v a b event j k
    → events_of b ≡ (rounds_with draft rounds (Asks event)).waiting
waits_ask AtVersion w v a b sizes rounds event j k at waits did = absurd at
waits_ask (AtHeader awaited h) w v a b sizes rounds event j k at waits did = absurd at
waits_ask (AtNodes h) w v None None sizes rounds event j k at waits did = waits
waits_ask (AtNodes h) w v None (Some more) sizes rounds event j k at waits did = absurd did
waits_ask (AtNodes h) w v (Some events) b sizes rounds event j k at waits did = let some : Some events ≡ None = at.1 in absurd cc
waits_ask (InRound h n) w v None b sizes rounds event j k at waits did = absurd at
waits_ask (InRound h n) w v (Some events) None sizes rounds event j k at waits did = absurd did
waits_ask (InRound h n) w v (Some events) (Some more) sizes rounds event j k at waits did = did.1 ∙ ap (λ (es : List Event). es ++ event ∷ []) waits

waits_begun : (a b : Waiting) (rounds : Rounds) → a ≡ None → events_of a ≡ rounds.waiting → HasBegun b → events_of b ≡ rounds.waiting
waits_begun a None rounds none waits new = absurd new
waits_begun a (Some events) rounds none waits new = new ∙ sym (ap events_of none) ∙ waits

waits_end : (w v : State) (a b : Waiting) (j k : List Entry) → DidEnd w v a b j k → events_of b ≡ []
waits_end w v None b j k did = absurd did
waits_end w v (Some events) None j k did = refl
waits_end w v (Some events) (Some more) j k did = absurd did

waits_own : (w v : State) (a b : Waiting) (r s : Reading) (rounds : Rounds) (line : List ℕ) (j k : List Entry) (asked : Asked) → IsOwn w a r j → events_of a ≡ rounds.waiting → (read : HasRead r s (sizes_of j) line asked) → Did w v a b j k asked
    → events_of b ≡ (rounds_with r.draft rounds read.0).waiting
waits_own w v a b r s rounds line j k step.Nothing own waits read did =
    let same = one_saying _ read.0 (Goes s.draft) read.1.0 read.1.1.1.1.0 in
    ap events_of did.1 ∙ waits ∙ ap (λ (x : Said). (rounds_with r.draft rounds x).waiting) (sym same)
waits_own w v a b r s rounds line j k step.Network own waits read did = absurd did
waits_own w v a b r s rounds line j k step.Draw own waits read did = absurd did
waits_own w v a b r s rounds line j k step.Turn own waits read did = absurd did
waits_own w v a b r s rounds line j k (step.Ap address id) own waits read did =
    let same = one_saying _ read.0 (ListsAp address id) read.1.0 read.1.1.1.1.1.0 in
    ap events_of did.1 ∙ waits ∙ ap (λ (x : Said). (rounds_with r.draft rounds x).waiting) (sym same)
waits_own w v a b r s rounds line j k (step.Sta address psk) own waits read did =
    let same = one_saying _ read.0 (ListsSta address psk) read.1.0 read.1.1.1.1.1.0 in
    ap events_of did.1.1 ∙ waits ∙ ap (λ (x : Said). (rounds_with r.draft rounds x).waiting) (sym same)
waits_own w v a b r s rounds line j k (step.Extra extra) own waits read did =
    let same = one_saying _ read.0 (Adds extra) read.1.0 read.1.1.1.1.1.0 in
    ap events_of did.1.1 ∙ waits ∙ ap (λ (x : Said). (rounds_with r.draft rounds x).waiting) (sym same)
waits_own w v a b r s rounds line j k (step.Event event) own waits read did =
    let same = one_saying _ read.0 (Asks event) read.1.0 read.1.1.1.1.0 in
    waits_ask r.draft w v a b r.sizes rounds event j k own.at waits did ∙ ap (λ (x : Said). (rounds_with r.draft rounds x).waiting) (sym same)
waits_own w v a b r s rounds line j k step.Round own waits read did =
    let (h, (says, (old, room))) = read.1.1.1.1 in
    let same = one_saying _ read.0 BeginsRound read.1.0 says in
    waits_begun a b rounds (outside r.draft h w a r.sizes j own.at old).1 waits did.1 ∙ ap (λ (x : Said). (rounds_with r.draft rounds x).waiting) (sym same)
waits_own w v a b r s rounds line j k step.End own waits read did =
    let same = one_saying _ read.0 EndsRound read.1.0 read.1.1.1.1.1.1.0 in
    waits_end w v a b j k did ∙ ap (λ (x : Said). (rounds_with r.draft rounds x).waiting) (sym same)

pub waits_then : (r s : Reading) (world v : Option State) (a b : Waiting) (rounds : Rounds) (line : List ℕ) (j k : List Entry) (asked : Asked) → IsWorldOf world a r j → events_of a ≡ rounds.waiting
    → (read : HasRead r s (sizes_of j) line asked) → DidRun world v a b s.draft j k asked → events_of b ≡ (rounds_with r.draft rounds read.0).waiting
waits_then r s None v a b rounds line j k asked is waits read did =
    let none = none_asked r s _ read.0 rounds (sizes_of j) asked is.due read.1.0 read.1.1.1.1 in
    ap events_of did.1.1 ∙ waits ∙ ap (λ (x : Rounds). x.waiting) (sym none)
waits_then r s (Some w) None a b rounds line j k asked is waits read did = absurd did
waits_then r s (Some w) (Some v) a b rounds line j k asked is waits read did = waits_own w v a b r s rounds line j k asked is waits read did.1

-- ---- how many rounds were run with it

runs_ask : (draft : Draft) (w v : State) (a b : Waiting) (sizes : List ℕ) (rounds : Rounds) (event : Event) (j k : List Entry) → IsAt draft w a sizes j → w.rounds ≡ length rounds.run → DidAsk w v a b event j k
    → v.rounds ≡ length (rounds_with draft rounds (Asks event)).run
runs_ask AtVersion w v a b sizes rounds event j k at count did = absurd at
runs_ask (AtHeader awaited h) w v a b sizes rounds event j k at count did = absurd at
runs_ask (AtNodes h) w v None None sizes rounds event j k at count did = did.rounds ∙ ap suc count
runs_ask (AtNodes h) w v None (Some more) sizes rounds event j k at count did = absurd did
runs_ask (AtNodes h) w v (Some events) b sizes rounds event j k at count did = let some : Some events ≡ None = at.1 in absurd cc
runs_ask (InRound h n) w v None b sizes rounds event j k at count did = absurd at
runs_ask (InRound h n) w v (Some events) None sizes rounds event j k at count did = absurd did
runs_ask (InRound h n) w v (Some events) (Some more) sizes rounds event j k at count did = ap (λ (x : State). x.rounds) did.0.0 ∙ count

runs_end : (w v : State) (a b : Waiting) (n : ℕ) (j k : List Entry) → w.rounds ≡ n → DidEnd w v a b j k → v.rounds ≡ suc n
runs_end w v None b n j k count did = absurd did
runs_end w v (Some events) None n j k count did = did.rounds ∙ ap suc count
runs_end w v (Some events) (Some more) n j k count did = absurd did

runs_own : (w v : State) (a b : Waiting) (r s : Reading) (rounds : Rounds) (line : List ℕ) (j k : List Entry) (asked : Asked) → IsOwn w a r j → w.rounds ≡ length rounds.run → (read : HasRead r s (sizes_of j) line asked) → Did w v a b j k asked
    → v.rounds ≡ length (rounds_with r.draft rounds read.0).run
runs_own w v a b r s rounds line j k step.Nothing own count read did =
    let same = one_saying _ read.0 (Goes s.draft) read.1.0 read.1.1.1.1.0 in
    ap (λ (x : State). x.rounds) did.0.0 ∙ count ∙ ap (λ (x : Said). length (rounds_with r.draft rounds x).run) (sym same)
runs_own w v a b r s rounds line j k step.Network own count read did = absurd did
runs_own w v a b r s rounds line j k step.Draw own count read did = absurd did
runs_own w v a b r s rounds line j k step.Turn own count read did = absurd did
runs_own w v a b r s rounds line j k (step.Ap address id) own count read did =
    let same = one_saying _ read.0 (ListsAp address id) read.1.0 read.1.1.1.1.1.0 in
    did.0.rounds ∙ count ∙ ap (λ (x : Said). length (rounds_with r.draft rounds x).run) (sym same)
runs_own w v a b r s rounds line j k (step.Sta address psk) own count read did =
    let same = one_saying _ read.0 (ListsSta address psk) read.1.0 read.1.1.1.1.1.0 in
    did.0.rounds ∙ count ∙ ap (λ (x : Said). length (rounds_with r.draft rounds x).run) (sym same)
runs_own w v a b r s rounds line j k (step.Extra extra) own count read did =
    let same = one_saying _ read.0 (Adds extra) read.1.0 read.1.1.1.1.1.0 in
    did.0.rounds ∙ count ∙ ap (λ (x : Said). length (rounds_with r.draft rounds x).run) (sym same)
runs_own w v a b r s rounds line j k (step.Event event) own count read did =
    let same = one_saying _ read.0 (Asks event) read.1.0 read.1.1.1.1.0 in
    runs_ask r.draft w v a b r.sizes rounds event j k own.at count did ∙ ap (λ (x : Said). length (rounds_with r.draft rounds x).run) (sym same)
runs_own w v a b r s rounds line j k step.Round own count read did =
    let same = one_saying _ read.0 BeginsRound read.1.0 read.1.1.1.1.1.0 in
    ap (λ (x : State). x.rounds) did.0.0 ∙ count ∙ ap (λ (x : Said). length (rounds_with r.draft rounds x).run) (sym same)
runs_own w v a b r s rounds line j k step.End own count read did =
    let same = one_saying _ read.0 EndsRound read.1.0 read.1.1.1.1.1.1.0 in
    runs_end w v a b (length rounds.run) j k count did ∙ ap (λ (x : Said). length (rounds_with r.draft rounds x).run) (sym same)

pub runs_then : (r s : Reading) (world v : Option State) (a b : Waiting) (rounds : Rounds) (line : List ℕ) (j k : List Entry) (asked : Asked) → IsWorldOf world a r j → run_count world ≡ length rounds.run
    → (read : HasRead r s (sizes_of j) line asked) → DidRun world v a b s.draft j k asked → run_count v ≡ length (rounds_with r.draft rounds read.0).run
runs_then r s None None a b rounds line j k asked is count read did =
    count ∙ sym (ap (λ (x : Rounds). length x.run) (none_asked r s _ read.0 rounds (sizes_of j) asked is.due read.1.0 read.1.1.1.1))
runs_then r s None (Some v) a b rounds line j k asked is count read did =
    begun_none s.draft asked v did.0 ∙ count ∙ sym (ap (λ (x : Rounds). length x.run) (none_asked r s _ read.0 rounds (sizes_of j) asked is.due read.1.0 read.1.1.1.1))
runs_then r s (Some w) None a b rounds line j k asked is count read did = absurd did
runs_then r s (Some w) (Some v) a b rounds line j k asked is count read did = runs_own w v a b r s rounds line j k asked is count read did.1
