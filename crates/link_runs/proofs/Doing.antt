-- What a line does, by how it was done.
use Rattle.std.proofs.Common.{◌≡◌, ℕ, ◌<◌, ◌⊎◌, inl, inr, Bool, false, List, [], length, Option, Some, Result, Ok, Err, refl, sym, ap, subst, ◌∙◌, arith}
use Rattle.domain_base.specs.Causes.{Rose}
use Rattle.domain_base.specs.Told.{Attaches, AirStory, LinkStory}
use Rattle.domain_base.specs.declared.names.Mac.{Mac}
use Rattle.domain_base.specs.declared.names.Node.{Node}
use Rattle.run_journal.specs.declared.acts.Entry.{Entry}
use Rattle.holder_link.specs.Between.{state_of_ends}
use Rattle.link_steps.specs.Ends.{node_of}
use Rattle.link_steps.specs.declared.ends.LinkEnd.{LinkEnd}
use Rattle.link_steps.specs.declared.steps.LinkEvent.{LinkEvent}
use Rattle.link_lines.specs.declared.draft.LinkHeader.{LinkHeader}
use Rattle.link_lines.specs.declared.said.LinkSaid.{LinkSaid}
use Rattle.link_lines.specs.declared.said.LinkSaid.TheVariants as said
use Rattle.link_lines.specs.Asked.{event_of, revoked_of}
use Rattle.link_lines.specs.Drafts.{Goes, LinkDraft}
use Rattle.link_lines.specs.Lines.{line_says}
use Rattle.link_runs.specs.declared.found.Halt.{Halt}
use Rattle.link_runs.specs.declared.found.Halt.TheVariants as halt
use Rattle.link_runs.specs.declared.found.Undone.{Undone}
use Rattle.link_runs.specs.declared.state.LinkState.{LinkState}
use Rattle.link_runs.specs.declared.steps.Running.{Running}
use Rattle.link_runs.specs.Standing.{AreHurt, Begins, IsEvent, StepsBy, StepsIn, undone_by}
use Rattle.link_runs.specs.Stepping.{Steps, asked_in}
use Rattle.link_runs.specs.Told.{both_of, entries_of}

-- ---- an end that begins

pub begins : {L : Type 0} (told : L → Option LinkStory) (end : LinkEnd) (h : LinkHeader) (r : Running L) (old new : Option AirStory) (node : Node) → state_of_ends r.ends ≡ both_of h [] → length r.ends.holders.ids ≡ 1 → asked_in r ≡ 0 → node ≡ node_of end → Attaches old new node (told r.link) → Begins told end h r old new
unfolding entries_of
begins told end h r old new node both one none at attached = record {
  after_ = record { both = both; one = one; journal = refl };
  none = none;
  attached = subst (λ (n : Node). Attaches old new n (told r.link)) at attached;
}

pub begins_at : {L : Type 0} (told : L → Option LinkStory) (end at : LinkEnd) (h g : LinkHeader) (r : Running L) (old new : Option AirStory) → end ≡ at → h ≡ g → Begins told end h r old new → Begins told at g r old new
begins_at told end at h g r old new e f b = subst (λ (x : LinkEnd). Begins told x g r old new) e (subst (λ (x : LinkHeader). Begins told end x r old new) f b)

-- ---- faults

pub hurt_from : (is : Bool) (a b c d e f : ℕ) → AreHurt false a b c d → AreHurt is b e d f → AreHurt is a e c f
hurt_from is a b c d e f one two = record {
  later = omega (arith, one.later, two.later);
  failed = λ is_. subst (λ (n : ℕ). Rose n e ⊎ (0 < f)) (one.kept refl).0 (two.failed is_);
  kept = λ is_. ((two.kept is_).0 ∙ (one.kept refl).0, (two.kept is_).1 ∙ (one.kept refl).1);
}

-- ---- an event, and a turn

pub steps_ok : {L : Type 0} (told : L → Option LinkStory) (h : LinkHeader) (end : LinkEnd) (old new : Running L) (asked : ℕ) (said_ : LinkSaid) (event : LinkEvent) (j k : List Entry) (x y : Unit {0}) → event_of h asked said_ ≡ Some event → Steps {L = L} {T = Unit {0}} told end (revoked_of said_) event old new j k (Ok x) → StepsIn {L = L} {T = Unit {0}} told h end old new asked said_ j k (Ok y)
steps_ok told h end old new asked said_ event j k x y asks steps = record { event = event; asks = asks; steps = steps }

pub steps_err : {L : Type 0} (told : L → Option LinkStory) (h : LinkHeader) (end : LinkEnd) (old new : Running L) (asked : ℕ) (said_ : LinkSaid) (event : LinkEvent) (j k : List Entry) (halt_ : Halt) → event_of h asked said_ ≡ Some event → Steps {L = L} {T = Unit {0}} told end (revoked_of said_) event old new j k (Err halt_) → StepsIn {L = L} {T = Unit {0}} told h end old new asked said_ j k (Err (undone_by halt_))
steps_err told h end old new asked said_ event j k halt.NoMemory asks steps = steps
steps_err told h end old new asked said_ event j k halt.Unwritten asks steps = record { event = event; asks = asks; steps = steps }
steps_err told h end old new asked said_ event j k (halt.Unsent error) asks steps = record { event = event; asks = asks; steps = steps }

pub steps_at : {L T : Type 0} (told : L → Option LinkStory) (d : LinkDraft) (running : Option (Running L)) (old new : Running L) (asked : ℕ) (said_ : LinkSaid) (j k : List Entry) (result : Result T Undone) → running ≡ Some old → StepsIn {L = L} {T = T} told d.header d.end old new asked said_ j k result → StepsBy {L = L} {T = T} told d running (Some new) asked said_ j k result
steps_at {L = L} {T = T} told d running old new asked said_ j k result is steps = subst (λ (w : Option (Running L)). StepsBy {L = L} {T = T} told d w (Some new) asked said_ j k result) (sym is) steps

-- the step of an event that a line asks for
module _ {L : Type 0} (told : L → Option LinkStory) (d : LinkDraft) (running : Option (Running L)) (old new : Running L) (h : LinkHeader) (end : LinkEnd) (sta : Option Mac) (asked : ℕ) (said_ : LinkSaid) (event : LinkEvent) (some : Option LinkEvent) (j k : List Entry) (is : running ≡ Some old) (head : h ≡ d.header) (at : end ≡ d.end) (named : sta ≡ revoked_of said_) (from : some ≡ event_of h asked said_) (one : some ≡ Some event) where
  asks_it : event_of d.header asked said_ ≡ Some event
  asks_it = ap (λ (x : LinkHeader). event_of x asked said_) (sym head) ∙ sym from ∙ one

  steps_of : (result : Result (Unit {0}) Halt) → Steps {L = L} {T = Unit {0}} told end sta event old new j k result → Steps {L = L} {T = Unit {0}} told d.end (revoked_of said_) event old new j k result
  steps_of result steps =
      subst (λ (e : LinkEnd). Steps {L = L} {T = Unit {0}} told e (revoked_of said_) event old new j k result) at
      (subst (λ (s : Option Mac). Steps {L = L} {T = Unit {0}} told end s event old new j k result) named steps)

  pub event_done : (x y : Unit {0}) → Steps {L = L} {T = Unit {0}} told end sta event old new j k (Ok x) → StepsBy {L = L} {T = Unit {0}} told d running (Some new) asked said_ j k (Ok y)
  event_done x y steps = steps_at told d running old new asked said_ j k (Ok y) is (steps_ok told d.header d.end old new asked said_ event j k x y asks_it (steps_of (Ok x) steps))

  pub event_failed : (halt_ : Halt) → Steps {L = L} {T = Unit {0}} told end sta event old new j k (Err halt_) → StepsBy {L = L} {T = Unit {0}} told d running (Some new) asked said_ j k (Err (undone_by halt_))
  event_failed halt_ steps = steps_at told d running old new asked said_ j k (Err (undone_by halt_)) is (steps_err told d.header d.end old new asked said_ event j k halt_ asks_it (steps_of (Err halt_) steps))

-- by which event a line asks for
pub is_event_line : (s : LinkSaid) → ((x : Mac) × (s ≡ said.Row x)) ⊎ (((x : Mac) × (s ≡ said.Revoke x)) ⊎ (((x : Mac) × (y : Mac) × (s ≡ said.Ask x y)) ⊎ ((n : ℕ) × (s ≡ said.Forget n)))) → IsEvent s
is_event_line s (inl row) = subst (λ (x : LinkSaid). IsEvent x) (sym row.1) tt
is_event_line s (inr (inl revoke)) = subst (λ (x : LinkSaid). IsEvent x) (sym revoke.1) tt
is_event_line s (inr (inr (inl ask))) = subst (λ (x : LinkSaid). IsEvent x) (sym ask.2) tt
is_event_line s (inr (inr (inr forget))) = subst (λ (x : LinkSaid). IsEvent x) (sym forget.1) tt

-- ---- what a line says

-- a state, as a line leaves it
abbrev pub state_as : {L : Type 0} → LinkDraft → Option (Running L) → LinkState L
state_as d running = record { reader = d; running = running }

pub says_as : (d e : LinkDraft) (asked : ℕ) (line : List ℕ) (s r : LinkSaid) → s ≡ r → line_says d asked line ≡ Ok (e, s) → line_says d asked line ≡ Ok (e, r)
says_as d e asked line s r is says = subst (λ (x : LinkSaid). line_says d asked line ≡ Ok (e, x)) is says

pub goes_said : (d e : LinkDraft) (s r : LinkSaid) → s ≡ r → Goes s d e → Goes r d e
goes_said d e s r is goes = subst (λ (x : LinkSaid). Goes x d e) is goes
