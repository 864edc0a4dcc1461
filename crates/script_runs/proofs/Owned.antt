-- The journal is the world's own, where a step or a turn is run.
use Rattle.std.proofs.Common.{◌≡◌, ℕ, suc, ◌+◌, ◌*◌, ◌^◌, ◌<◌, ◌≤◌, Bool, false, List, Option, None, Some, Result, Ok, Err, length, refl, sym, subst, arith}
use Rattle.std.specs.Prelude.{OnOk, OnErr}
use Rattle.std.specs.Global.{Global}
use Rattle.std.specs.declared.vec.Vec.{Vec}
use Rattle.domain_links.specs.NodeOrder.{count}
use Rattle.domain_base.specs.declared.names.Mac.{Mac}
use Rattle.run_journal.specs.Limits.{most_polls}
use Rattle.run_journal.specs.declared.acts.Entry.{Entry}
use Rattle.run_journal.specs.declared.domain.Extra.{Extra}
use Rattle.run_journal.specs.Listing.{with_ap, with_sta, with_extra}
use Rattle.run_journal.specs.declared.domain.Event.{Event}
use Rattle.run_journal.specs.Changed.{changed_by}
use Rattle.domain_rules.specs.Explained.{started, Step, Follows}
use Rattle.domain_world.specs.State.{State}
use Rattle.run_journal.specs.declared.domain.Domain.{Domain}
use Rattle.domain_world.specs.Owning.{Owns, IsSince}
use Rattle.script_lines.specs.Script.{Draft}
use Rattle.script_lines.specs.declared.step.Step.{Step as Asked}
use Rattle.script_lines.specs.declared.step.Step.TheVariants as step
use Rattle.script_runs.specs.declared.session.Session.{Session}
use Rattle.script_runs.specs.declared.session.SessionFault.{SessionFault}
use Rattle.script_runs.specs.declared.session.SessionFault.TheVariants.{NoMemory, WriteFault}
use Rattle.script_runs.specs.Sessions.{Output, OnRun, OnUnrun}
use Rattle.script_runs.specs.States.{Waiting, CanBegin, CanDo, CanList, CanRun, Did, DidEnd, DidRun, IsBegun, Runs, world_of}
use Rattle.script_runs.specs.Turning.{CanTurn}
use Rattle.script_runs.specs.Written.{GoesOn, written_of}
use Rattle.script_runs.proofs.Writings.{goes_same}

pub own_run : (session : Option Session) (s : Session) (waiting : Waiting) (draft : Draft) (j : List Entry) (asked : Asked) → session ≡ Some s → CanRun (world_of session) waiting draft j asked → Owns s.world j
own_run session s waiting draft j asked is can = (subst (λ (x : Option Session). CanRun (world_of x) waiting draft j asked) is can).0

pub can_act : (session : Option Session) (s : Session) (waiting : Waiting) (draft : Draft) (j : List Entry) (asked : Asked) → session ≡ Some s → CanRun (world_of session) waiting draft j asked → CanDo s.world waiting j asked
can_act session s waiting draft j asked is can = (subst (λ (x : Option Session). CanRun (world_of x) waiting draft j asked) is can).1

pub can_begin : (session : Option Session) (waiting : Waiting) (draft : Draft) (j : List Entry) (asked : Asked) → session ≡ None → CanRun (world_of session) waiting draft j asked → CanBegin draft asked
can_begin session waiting draft j asked is can = subst (λ (x : Option Session). CanRun (world_of x) waiting draft j asked) is can

pub first_act : (session : Option Session) (s : Session) (j : List Entry) (asked : Asked) → session ≡ Some s → CanList (world_of session) j asked → CanList (Some s.world) j asked
first_act session s j asked is can = subst (λ (x : Option Session). CanList (world_of x) j asked) is can

pub written_some : (session : Option Session) (s : Session) (n : ℕ) → session ≡ Some s → written_of session ≤ n → s.writer ≤ n
written_some session s n is within = subst (λ (x : Option Session). written_of x ≤ n) is within

pub own_turn : (session : Option Session) (s : Session) (links : ℕ) (j : List Entry) → session ≡ Some s → CanTurn (world_of session) links j → Owns s.world j
own_turn session s links j is can = (subst (λ (x : Option Session). CanTurn (world_of x) links j) is can).0

pub links_turn : (session : Option Session) (s : Session) (links : ℕ) (j : List Entry) → session ≡ Some s → CanTurn (world_of session) links j → links ≡ count s.world.domain
links_turn session s links j is can = (subst (λ (x : Option Session). CanTurn (world_of x) links j) is can).1.0

pub few_turn : (session : Option Session) (s : Session) (links : ℕ) (j : List Entry) → session ≡ Some s → CanTurn (world_of session) links j → s.world.rounds + most_polls * count s.world.domain < 2 ^ 64
few_turn session s links j is can = (subst (λ (x : Option Session). CanTurn (world_of x) links j) is can).1.1

-- what the session did is what a script's did
pub did_act : {T : Type 0} (result : Result T SessionFault) (session : Option Session) (s : Session) (v : State) (a b : Waiting) (draft : Draft) (j k : List Entry) (asked : Asked) → session ≡ Some s → OnRun result (Owns v k) → OnRun result (Did s.world v a b j k asked) → OnRun result (DidRun (world_of session) (Some v) a b draft j k asked)
did_act (Ok x) session s v a b draft j k asked is own did = subst (λ (o : Option Session). DidRun (world_of o) (Some v) a b draft j k asked) (sym is) (own, did)
did_act (Err WriteFault) session s v a b draft j k asked is own did = subst (λ (o : Option Session). DidRun (world_of o) (Some v) a b draft j k asked) (sym is) (own, did)
did_act (Err NoMemory) session s v a b draft j k asked is own did = tt

pub goes_some : (short : Bool) (session : Option Session) (s : Session) (old new : Output) (m : ℕ) (j k : List Entry) → session ≡ Some s → GoesOn short old new s.writer m j k → GoesOn short old new (written_of session) m j k
goes_some short session s old new m j k is goes = subst (λ (o : Option Session). GoesOn short old new (written_of o) m j k) (sym is) goes

-- a session was made, or none
pub did_begin : (session : Option Session) (world : Option State) (a : Waiting) (draft : Draft) (j : List Entry) (asked : Asked) → session ≡ None → IsBegun draft asked world → DidRun (world_of session) world a a draft j j asked
did_begin session world a draft j asked is begun = subst (λ (o : Option Session). DidRun (world_of o) world a a draft j j asked) (sym is) (begun, (refl, refl))

pub goes_begin : (session : Option Session) (o : Output) (m : ℕ) (j : List Entry) → session ≡ None → m ≡ 0 → GoesOn false o o (written_of session) m j j
goes_begin session o m j is none =
    subst (λ (x : Option Session). GoesOn false o o (written_of x) m j j) (sym is) (goes_same o o 0 m j j refl none refl (omega arith))

-- whatever comes of a call
pub ok_at : {A E : Type 0} (r : Result A E) (P : Type 0) → P → OnOk r P
ok_at (Ok a) P at = at
ok_at (Err e) P at = tt

pub err_at : {A E : Type 0} (r : Result A E) (P : Type 0) → P → OnErr r P
err_at (Ok a) P at = tt
err_at (Err e) P at = at

-- one more node is listed
pub listed_ap : (w v : State) (address : Mac) (id : List ℕ) (o : Waiting) (j k : List Entry) → v.domain ≡ with_ap w.domain address id → ((c : Domain) → IsSince c w j → IsSince (with_ap c address id) v k) → v.rounds ≡ w.rounds
    → (j ≡ started w.domain (length w.domain.aps) → k ≡ started v.domain (length v.domain.aps)) → Did w v o o j k (step.Ap address id)
listed_ap w v address id o j k domain since rounds starts = (record { network = domain; since = since; rounds = rounds; begins = starts }, refl)

pub listed_sta : (w v : State) (address : Mac) (psk : List ℕ) (o : Waiting) (j : List Entry) → v.domain ≡ with_sta w.domain address psk → ((c : Domain) (i : List Entry) → Owns w i → IsSince c w i → IsSince (with_sta c address psk) v i) → Owns w j → v.rounds ≡ w.rounds
    → ((i : List Entry) → i ≡ started w.domain (length w.domain.aps) → i ≡ started v.domain (length v.domain.aps)) → Did w v o o j j (step.Sta address psk)
listed_sta w v address psk o j domain since own rounds starts = (record { network = domain; since = λ c is. since c j own is; rounds = rounds; begins = starts j }, (refl, refl))

-- or one more line of the header is there
pub listed_extra : (w v : State) (extra : Extra) (o : Waiting) (j : List Entry) → v.domain ≡ with_extra w.domain extra → ((c : Domain) (i : List Entry) → Owns w i → IsSince c w i → IsSince (with_extra c extra) v i) → Owns w j → v.rounds ≡ w.rounds
    → ((i : List Entry) → i ≡ started w.domain (length w.domain.aps) → i ≡ started v.domain (length v.domain.aps)) → Did w v o o j j (step.Extra extra)
listed_extra w v extra o j domain since own rounds starts = (record { network = domain; since = λ c is. since c j own is; rounds = rounds; begins = starts j }, (refl, refl))

-- an event was run
pub ran_event : {A : Type 0} (r : Result A SessionFault) (w v : State) (event : Event) (j k : List Entry) → Owns w j → OnRun r (v.domain ≡ changed_by w.domain event) → OnRun r (v.rounds ≡ suc w.rounds)
    → OnRun r ((c : Domain) → IsSince c w j → Step c (suc w.rounds) event j k) → ((c : Domain) → IsSince c w j → IsSince c v k) → OnRun r (Runs w v event j k)
ran_event (Ok x) w v event j k own network rounds goes since = record { own = own; network = network; rounds = rounds; header = own.header; goes = goes; since = since }
ran_event (Err WriteFault) w v event j k own network rounds goes since = record { own = own; network = network; rounds = rounds; header = own.header; goes = goes; since = since }
ran_event (Err NoMemory) w v event j k own network rounds goes since = tt

-- or those of a round
pub ran_round : {A : Type 0} (r : Result A SessionFault) (w v : State) (a : Waiting) (events : Vec Event Global) (j k : List Entry) → a ≡ Some events → Owns w j → v.domain ≡ w.domain → OnRun r (v.rounds ≡ suc w.rounds)
    → OnRun r ((c : Domain) → IsSince c w j → Follows c (suc w.rounds) events.items j k) → OnRun r ((c : Domain) → IsSince c w j → IsSince c v k) → OnRun r (DidEnd w v a None j k)
ran_round (Ok x) w v a events j k is own network rounds goes since = subst (λ (o : Waiting). DidEnd w v o None j k) (sym is) (record { network = network; rounds = rounds; header = own.header; goes = goes; since = since })
ran_round (Err WriteFault) w v a events j k is own network rounds goes since = subst (λ (o : Waiting). DidEnd w v o None j k) (sym is) (record { network = network; rounds = rounds; header = own.header; goes = goes; since = since })
ran_round (Err NoMemory) w v a events j k is own network rounds goes since = tt

-- whether or not it was
pub on_run : {A : Type 0} (r : Result A SessionFault) (P : Type 0) → P → OnRun r P
on_run (Ok x) P p = p
on_run (Err WriteFault) P p = p
on_run (Err NoMemory) P p = tt

-- by the fault
pub ran_fault : (x : SessionFault) (P : Type 0) → x ≡ WriteFault → OnRun {T = Unit {0}} (Err x) P → P
ran_fault x P is on_ = subst (λ (y : SessionFault). OnRun {T = Unit {0}} (Err y) P) is on_

pub unrun_fault : (x : SessionFault) (P : Type 0) → x ≡ NoMemory → OnUnrun {T = Unit {0}} (Err x) P → P
unrun_fault x P is on_ = subst (λ (y : SessionFault). OnUnrun {T = Unit {0}} (Err y) P) is on_
