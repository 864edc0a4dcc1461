-- The key of a station is changed.
use Rattle.std.proofs.Common.{◌≡◌, ◌≤◌, ◌+◌, ℕ, List, [], ◌∷◌, ◌++◌, length, Option, Some, None, refl, sym, ap, subst, ◌∙◌, append_assoc, arith}
use Rattle.std.specs.Prelude.{◌*◌, Result, Ok, Err, IfOk, OnErr}
use Rattle.std.specs.List.{AllByRecursion}
use Rattle.domain_base.specs.declared.names.Node.{Node}
use Rattle.domain_base.specs.declared.names.Node.TheVariants.{Ap, Sta}
use Rattle.run_journal.specs.declared.domain.Domain.{Domain}
use Rattle.run_journal.specs.declared.acts.Reason.{Reason}
use Rattle.run_journal.specs.declared.acts.Outcome.{Outcome}
use Rattle.run_journal.specs.declared.acts.Outcome.TheVariants.{Done, Refused}
use Rattle.run_journal.specs.declared.acts.Act.{Act}
use Rattle.run_journal.specs.declared.acts.Act.TheVariants as act
use Rattle.run_journal.specs.Questions.{session, pending, associated, draws, add}
use Rattle.run_journal.specs.Changed.{changed}
use Rattle.domain_rules.specs.Here.{here}
use Rattle.domain_rules.specs.Rows.{NodeEvent, Secret, outcome_of}
use Rattle.domain_rules.specs.Closing.{close_pending, close_associated}
use Rattle.domain_rules.proofs.Switching.{station_adds}
use Rattle.act_memory.proofs.RepliedActs.{LeavesKept, remembers_on}
use Rattle.node_base.specs.Changing.{after, HasRoomFor, most_changed}
use Rattle.node_base.specs.Events.{Steps, seen}
use Rattle.station_node.specs.State.{State, memory_at}
use Rattle.station_node.specs.Parts.{peer_of_session, peer_pending}
use Rattle.station_node.specs.Stands.{Stands}
use Rattle.station_node.specs.Steps.{IsRekeyed, TakesKey, Turn, turn}
use Rattle.station_node.proofs.Acts.{keeps-closed, keeps-secret}
use Rattle.station_node.proofs.Standing.{nobody_pending}
use Rattle.station_node.proofs.Beginning.{left_session}
use Rattle.station_node.proofs.Leaving.{left_state}

-- what it had, by whom it was with, and the new key
abbrev keyed_acts : Node → List ℕ → Option Node → Option Node → List Act
keyed_acts n psk was had = close_pending was ++ (close_associated had ++ act.Secret n psk ∷ [])

keyed-draws : (n : Node) (psk : List ℕ) (was had : Option Node) (h : List Act) → draws (add (keyed_acts n psk was had) h) ≡ draws h
keyed-draws n psk None None h = refl
keyed-draws n psk None (Some r) h = refl
keyed-draws n psk (Some q) None h = refl
keyed-draws n psk (Some q) (Some r) h = refl

keyed-pending : (n : Node) (psk : List ℕ) (was had : Option Node) (h : List Act) → pending h ≡ was → pending (add (keyed_acts n psk was had) h) ≡ None
keyed-pending n psk None None h is = is
keyed-pending n psk None (Some r) h is = is
keyed-pending n psk (Some q) None h is = refl
keyed-pending n psk (Some q) (Some r) h is = refl

keyed-associated : (n : Node) (psk : List ℕ) (was had : Option Node) (h : List Act) → associated h ≡ had → associated (add (keyed_acts n psk was had) h) ≡ None
keyed-associated n psk None None h is = is
keyed-associated n psk None (Some r) h is = refl
keyed-associated n psk (Some q) None h is = is
keyed-associated n psk (Some q) (Some r) h is = refl

keyed-session : (n : Node) (psk : List ℕ) (was had : Option Node) (h : List Act) (p : Node) → session p (add (keyed_acts n psk was had) h) ≡ session p (add (close_associated had) h)
keyed-session n psk None None h p = refl
keyed-session n psk None (Some r) h p = refl
keyed-session n psk (Some q) None h p = refl
keyed-session n psk (Some q) (Some r) h p = refl

keyed-keeps : (n : Node) (psk : List ℕ) (was had : Option Node) (p : Node) → AllByRecursion (LeavesKept p) (keyed_acts n psk was had)
keyed-keeps n psk None None p = (keeps-secret p n psk, tt)
keyed-keeps n psk None (Some r) p = (keeps-closed p r _, (keeps-secret p n psk, tt))
keyed-keeps n psk (Some q) None p = (keeps-closed p q _, (keeps-secret p n psk, tt))
keyed-keeps n psk (Some q) (Some r) p = (keeps-closed p q _, (keeps-closed p r _, (keeps-secret p n psk, tt)))

keyed-came : (n : Node) (psk : List ℕ) (was had : Option Node) → Done ≡ outcome_of (keyed_acts n psk was had)
keyed-came n psk None None = refl
keyed-came n psk None (Some r) = refl
keyed-came n psk (Some q) None = refl
keyed-came n psk (Some q) (Some r) = refl

-- with neither attempt nor session it stands for them in any network
stands-keyed : (d e : Domain) (first : ℕ) (n : Node) (psk : List ℕ) (s : State) (h : List Act) → Stands d first s h → Stands e first (left_state s) (add (keyed_acts n psk (pending h) (associated h)) h)
stands-keyed d e first n psk s h st =
    let l : List Act = add (keyed_acts n psk (pending h) (associated h)) h in
    let nobody_left : pending l ≡ None = keyed-pending n psk (pending h) (associated h) h refl in
    record {
      draws_are = omega (arith, st.draws_are, keyed-draws n psk (pending h) (associated h) h);
      pending_is = nobody_left;
      associated_is = keyed-associated n psk (pending h) (associated h) h refl;
      alone = tt;
      attempt_is = tt;
      session_is = tt;
      no_attempt = λ p other. nobody_pending p l nobody_left;
      no_session = λ p other. keyed-session n psk (pending h) (associated h) h (Ap p) ∙ left_session d first s h p (associated h) st (sym st.associated_is);
      remembers = λ p. remembers_on (Ap p) (memory_at s.memories p) (keyed_acts n psk (pending h) (associated h)) h (keyed-keeps n psk (pending h) (associated h) (Ap p)) (st.remembers p);
      ids = st.ids;
      holder = λ suite. tt;
    }

put_behind : (waited a b g : List Act) → ((waited ++ a) ++ b) ++ g ≡ waited ++ (a ++ (b ++ g))
put_behind waited a b g = append_assoc (waited ++ a) b g ∙ append_assoc waited a (b ++ g)

pub taken-keyed : (d : Domain) (named : Option ℕ) (psk : List ℕ) (s : State) (waited waits : List Act)
    → waits ≡ ((waited ++ close_pending (peer_pending s.attempt s.session)) ++ close_associated (peer_of_session s.session)) ++ act.Secret (Sta s.number) psk ∷ []
    → IsRekeyed d named psk (turn s (left_state s) waited waits) Done
taken-keyed d named psk s waited waits is = record {
  number = refl;
  steps = λ first h st. record {
    acts = keyed_acts (Sta s.number) psk (pending h) (associated h);
    adds = station_adds d first s.number h (Secret named psk) (keyed_acts (Sta s.number) psk (pending h) (associated h)) refl;
    waiting = is ∙ rw (st.pending_is, st.associated_is) (put_behind waited (close_pending (peer_pending s.attempt s.session)) (close_associated (peer_of_session s.session)) (act.Secret (Sta s.number) psk ∷ []));
    came = keyed-came (Sta s.number) psk (pending h) (associated h);
    stands = stands-keyed d (changed d named psk) first (Sta s.number) psk s h st;
  };
  refused = λ why is. cc is;
}

-- ---- what is returned

-- a changed key
pub key_number : {E : Type 0} (d : Domain) (named : Option ℕ) (psk : List ℕ) (t : Turn) (r : Result Outcome E) → TakesKey d named psk t r → t.new.number ≡ t.old.number
key_number d named psk t (Ok came) taken = taken.number
key_number d named psk t (Err e) left = ap (λ (s : State). s.number) left.0

key_steps : {E : Type 0} (d : Domain) (named : Option ℕ) (psk : List ℕ) (t : Turn) (r : Result Outcome E) → TakesKey d named psk t r
    → IfOk r (λ o. (first : ℕ) (h : List Act) → Stands d first t.old h → Steps (here d first (Sta t.old.number)) (Secret named psk) (Stands (changed d named psk) first t.new) h (seen t.waited t.waits o))
key_steps d named psk t (Ok came) taken = taken.steps
key_steps d named psk t (Err e) left = tt

pub key_event : {E : Type 0} (d : Domain) (named : Option ℕ) (psk : List ℕ) (asked : NodeEvent) (t : Turn) (r : Result Outcome E) → asked ≡ Secret named psk → TakesKey d named psk t r
    → IfOk r (λ o. (first : ℕ) (h : List Act) → Stands d first t.old h → Steps (here d first (Sta t.old.number)) asked (Stands (after d asked) first t.new) h (seen t.waited t.waits o))
key_event d named psk asked t r is taken =
    subst (λ (e : NodeEvent). IfOk r (λ o. (first : ℕ) (h : List Act) → Stands d first t.old h → Steps (here d first (Sta t.old.number)) e (Stands (after d e) first t.new) h (seen t.waited t.waits o))) (sym is) (key_steps d named psk t r taken)

pub key_refused : {E : Type 0} (d : Domain) (named : Option ℕ) (psk : List ℕ) (t : Turn) (r : Result Outcome E) → TakesKey d named psk t r → IfOk r (λ o. (why : Reason) → o ≡ Refused why → t.new ≡ t.old)
key_refused d named psk t (Ok came) taken = taken.refused
key_refused d named psk t (Err e) left = tt

pub key_same : {E : Type 0} (d : Domain) (named : Option ℕ) (psk : List ℕ) (t : Turn) (r : Result Outcome E) → TakesKey d named psk t r → OnErr r (t.new ≡ t.old)
key_same d named psk t (Ok came) taken = tt
key_same d named psk t (Err e) left = left.0

pub key_kept : {E : Type 0} (d : Domain) (named : Option ℕ) (psk : List ℕ) (t : Turn) (r : Result Outcome E) → TakesKey d named psk t r → OnErr r (t.waits ≡ t.waited)
key_kept d named psk t (Ok came) taken = tt
key_kept d named psk t (Err e) left = left.1

-- there is room for the acts of a changed key: no other event is meant
pub not_changed : (d : Domain) (asked event : NodeEvent) (spare : ℕ) (C : Type 0) → asked ≡ event → (HasRoomFor d event spare → ⊥) → HasRoomFor d asked spare → C
not_changed d asked event spare C is none room = absurd (none (subst (λ (e : NodeEvent). HasRoomFor d e spare) is room))

pub room_for : (d : Domain) (asked : NodeEvent) (named : Option ℕ) (psk : List ℕ) (spare : ℕ) → asked ≡ Secret named psk → HasRoomFor d asked spare → 3 ≤ spare
room_for d asked named psk spare is room =
    let more : 6 + 4 * length d.stas ≤ spare = subst (λ (e : NodeEvent). HasRoomFor d e spare) is room in
    omega (arith, more)

-- its acts are no more than those for which there is to be room
pub room_left : (d : Domain) (old new : ℕ) → old ≤ new + 3 → old ≤ new + most_changed (length d.stas)
room_left d old new at =
    let more : old ≤ new + (6 + 4 * length d.stas) = omega (arith, at) in
    more
