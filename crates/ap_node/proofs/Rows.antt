-- How the rows of the own key holder go on with what an event does.
use Rattle.std.proofs.Common.{◌≡◌, ◌∙◌, ◌++◌, ℕ, List, Option, Result, Ok, Err, refl, sym, ap, subst, inl}
use Rattle.std.specs.Prelude.{IfOk, OnOk, OnErr}
use Rattle.std.proofs.lemmas.List.{append_cancel_left}
use Rattle.domain_base.specs.declared.names.Node.TheVariants.{Ap}
use Rattle.key_hierarchy.specs.declared.answers.PullAnswer.{PullAnswer}
use Rattle.key_hierarchy.specs.declared.answers.PutAnswer.{PutAnswer}
use Rattle.key_hierarchy.specs.declared.answers.RevokeAnswer.{RevokeAnswer}
use Rattle.key_holders.specs.declared.rows.HeldRow.{HeldRow}
use Rattle.key_holders.specs.declared.rows.HolderRow.{HolderRow}
use Rattle.run_journal.specs.declared.domain.Domain.{Domain}
use Rattle.run_journal.specs.declared.acts.Reason.{Reason}
use Rattle.run_journal.specs.declared.acts.Outcome.{Outcome}
use Rattle.run_journal.specs.declared.acts.Outcome.TheVariants.{Refused}
use Rattle.run_journal.specs.declared.acts.Act.{Act}
use Rattle.run_journal.specs.Questions.{add}
use Rattle.run_journal.specs.Changed.{changed}
use Rattle.domain_rules.specs.Here.{here}
use Rattle.domain_rules.specs.Rows.{NodeEvent, Secret}
use Rattle.node_base.specs.Changing.{after, ButSecret, HasRoomFor, IsStill}
use Rattle.node_base.specs.Events.{Steps, Seen, seen}
use Rattle.held_rows.specs.Knows.{KnowsRows}
use Rattle.ap_node.specs.State.{State}
use Rattle.ap_node.specs.Stands.{StandsWith}
use Rattle.ap_node.specs.Changing.{HasChanged}
use Rattle.ap_node.specs.Putting.{LeavesOthers, LeavesRest, Stays, OneChange}
use Rattle.ap_node.specs.Takes.{IsTaken, IsTakenWith}
use Rattle.held_rows.specs.Looks.{NoLooks, AreLooked}
use Rattle.ap_node.proofs.Plain.{plain_looks, plain_rows}

-- nothing is put or revoked, and no key holder asked
with_same : (A : List ℕ → List ℕ → ℕ → PullAnswer → Type 0) (d : Domain) (event : NodeEvent) (old new : State) (xs : List HeldRow) (s : Seen) → IsTaken d event old new s → IsTakenWith (AreLooked A d) d event old new xs xs s
with_same A d event old new xs s w = record {
  number = w.number;
  steps = λ first h stands known. (let m = w.steps first h stands in record {
    steps = m.steps;
    marks = (inl (plain_looks m.steps.acts m.marks), (plain_rows d old.number xs h m.steps.acts m.marks known).1);
  });
  refused = w.refused;
}

-- no key holder is asked
with_none : (A : List ℕ → List ℕ → ℕ → PullAnswer → Type 0) (d : Domain) (event : NodeEvent) (old new : State) (xs ys : List HeldRow) (s : Seen) → IsTakenWith NoLooks d event old new xs ys s → IsTakenWith (AreLooked A d) d event old new xs ys s
with_none A d event old new xs ys s w = record {
  number = w.number;
  steps = λ first h stands known. (let m = w.steps first h stands known in record { steps = m.steps; marks = (inl m.marks.0, m.marks.1) });
  refused = w.refused;
}

steps_with : (Looks : List Act → Type 0) (d : Domain) (event : NodeEvent) (old new : State) (xs ys : List HeldRow) (s : Seen) → IsTakenWith Looks d event old new xs ys s → (first : ℕ) (h : List Act) → StandsWith d first old xs h
    → Steps (here d first (Ap old.number)) event (StandsWith d first new ys) h s
steps_with Looks d event old new xs ys s w first h at =
    let m = w.steps first h at.stands at.rows in
    record {
      acts = m.steps.acts;
      adds = m.steps.adds;
      waiting = m.steps.waiting;
      came = m.steps.came;
      stands = record { stands = m.steps.stands; rows = subst (λ (a : ℕ). KnowsRows d (Ap a) ys (add m.steps.acts h)) (sym w.number) m.marks.1 };
    }

-- what is told of key holders that were asked
looks_with : (Looks : List Act → Type 0) (d : Domain) (event : NodeEvent) (old new : State) (xs ys : List HeldRow) (waited waits : List Act) (o : Outcome) → IsTakenWith Looks d event old new xs ys (seen waited waits o) → (first : ℕ) (h : List Act) → StandsWith d first old xs h
    → (g : List Act) → waits ≡ waited ++ g → Looks g
looks_with Looks d event old new xs ys waited waits o w first h at g is =
    let m = w.steps first h at.stands at.rows in
    subst Looks (append_cancel_left waited m.steps.acts g (sym m.steps.waiting ∙ is)) m.marks.0

-- ---- as the code comes by them

pub if_same : {E : Type 0} (r : Result Outcome E) (A : List ℕ → List ℕ → ℕ → PullAnswer → Type 0) (d : Domain) (event : NodeEvent) (old new : State) (xs : List HeldRow) (waited waits : List Act) → IfOk r (λ o. IsTaken d event old new (seen waited waits o))
    → IfOk r (λ o. IsTakenWith (AreLooked A d) d event old new xs xs (seen waited waits o))
if_same (Ok o) A d event old new xs waited waits w = with_same A d event old new xs (seen waited waits o) w
if_same (Err e) A d event old new xs waited waits w = tt

pub if_none : {E : Type 0} (r : Result Outcome E) (A : List ℕ → List ℕ → ℕ → PullAnswer → Type 0) (d : Domain) (event : NodeEvent) (old new : State) (xs ys : List HeldRow) (waited waits : List Act) → IfOk r (λ o. IsTakenWith NoLooks d event old new xs ys (seen waited waits o))
    → IfOk r (λ o. IsTakenWith (AreLooked A d) d event old new xs ys (seen waited waits o))
if_none (Ok o) A d event old new xs ys waited waits w = with_none A d event old new xs ys (seen waited waits o) w
if_none (Err e) A d event old new xs ys waited waits w = tt

pub if_with : {E : Type 0} (r : Result Outcome E) (Looks : List Act → Type 0) (d : Domain) (event : NodeEvent) (old new : State) (xs ys : List HeldRow) (waited waits : List Act) → IfOk r (λ o. IsTakenWith Looks d event old new xs ys (seen waited waits o))
    → IfOk r (λ o. (first : ℕ) (h : List Act) → StandsWith d first old xs h → Steps (here d first (Ap old.number)) event (StandsWith d first new ys) h (seen waited waits o))
if_with (Ok o) Looks d event old new xs ys waited waits w = steps_with Looks d event old new xs ys (seen waited waits o) w
if_with (Err e) Looks d event old new xs ys waited waits w = tt

pub if_looks : {E : Type 0} (r : Result Outcome E) (Looks : List Act → Type 0) (d : Domain) (event : NodeEvent) (old new : State) (xs ys : List HeldRow) (waited waits : List Act) → IfOk r (λ o. IsTakenWith Looks d event old new xs ys (seen waited waits o))
    → OnOk r ((first : ℕ) (h : List Act) → StandsWith d first old xs h → (g : List Act) → waits ≡ waited ++ g → Looks g)
if_looks (Ok o) Looks d event old new xs ys waited waits w = looks_with Looks d event old new xs ys waited waits o w
if_looks (Err e) Looks d event old new xs ys waited waits w = tt

pub if_plain : {E : Type 0} (r : Result Outcome E) (d : Domain) (event : NodeEvent) (old new : State) (xs : List HeldRow) (waited waits : List Act) → IfOk r (λ o. IsTaken d event old new (seen waited waits o))
    → IfOk r (λ o. (first : ℕ) (h : List Act) → StandsWith d first old xs h → Steps (here d first (Ap old.number)) event (StandsWith d first new xs) h (seen waited waits o))
if_plain r d event old new xs waited waits w = if_with r (AreLooked (λ id name k answer. ⊥) d) d event old new xs xs waited waits (if_same r (λ id name k answer. ⊥) d event old new xs waited waits w)

pub if_plain_looks : {E : Type 0} (r : Result Outcome E) (A : List ℕ → List ℕ → ℕ → PullAnswer → Type 0) (d : Domain) (event : NodeEvent) (old new : State) (xs : List HeldRow) (waited waits : List Act) → IfOk r (λ o. IsTaken d event old new (seen waited waits o))
    → OnOk r ((first : ℕ) (h : List Act) → StandsWith d first old xs h → (g : List Act) → waits ≡ waited ++ g → AreLooked A d g)
if_plain_looks r A d event old new xs waited waits w = if_looks r (AreLooked A d) d event old new xs xs waited waits (if_same r A d event old new xs waited waits w)

pub if_none_looks : {E : Type 0} (r : Result Outcome E) (A : List ℕ → List ℕ → ℕ → PullAnswer → Type 0) (d : Domain) (event : NodeEvent) (old new : State) (xs ys : List HeldRow) (waited waits : List Act) → IfOk r (λ o. IsTakenWith NoLooks d event old new xs ys (seen waited waits o))
    → OnOk r ((first : ℕ) (h : List Act) → StandsWith d first old xs h → (g : List Act) → waits ≡ waited ++ g → AreLooked A d g)
if_none_looks r A d event old new xs ys waited waits w = if_looks r (AreLooked A d) d event old new xs ys waited waits (if_none r A d event old new xs ys waited waits w)

-- what is to come of an event, in the network after it
abbrev ComesOf : {E : Type 0} → Result Outcome E → Domain → Domain → NodeEvent → State → State → List HeldRow → List HeldRow → List Act → List Act → Type 0
ComesOf r d e event old new xs ys waited waits =
    IfOk r (λ o. (first : ℕ) (h : List Act) → StandsWith d first old xs h → Steps (here d first (Ap old.number)) event (StandsWith e first new ys) h (seen waited waits o))

-- of an event by another name, which changes no key
pub if_event : {E : Type 0} (r : Result Outcome E) (Looks : List Act → Type 0) (d : Domain) (event other : NodeEvent) (old new : State) (xs ys : List HeldRow) (waited waits : List Act) → after d event ≡ d → other ≡ event → IfOk r (λ o. IsTakenWith Looks d event old new xs ys (seen waited waits o))
    → ComesOf r d (after d other) other old new xs ys waited waits
if_event r Looks d event other old new xs ys waited waits still same w =
    subst (λ (e : NodeEvent). ComesOf r d (after d e) e old new xs ys waited waits) (sym same)
    (subst (λ (e : Domain). ComesOf r d e event old new xs ys waited waits) (sym still) (if_with r Looks d event old new xs ys waited waits w))

-- and where no key holder is asked
pub if_plain_event : {E : Type 0} (r : Result Outcome E) (d : Domain) (event other : NodeEvent) (old new : State) (xs : List HeldRow) (waited waits : List Act) → after d event ≡ d → other ≡ event → IfOk r (λ o. IsTaken d event old new (seen waited waits o))
    → ComesOf r d (after d other) other old new xs xs waited waits
if_plain_event r d event other old new xs waited waits still same w =
    if_event r (AreLooked (λ id name k answer. ⊥) d) d event other old new xs xs waited waits still same (if_same r (λ id name k answer. ⊥) d event old new xs waited waits w)

-- the access point has the number that it had
pub number_with : {E : Type 0} (r : Result Outcome E) (Looks : List Act → Type 0) (d : Domain) (event : NodeEvent) (old new : State) (xs ys : List HeldRow) (waited waits : List Act) → IfOk r (λ o. IsTakenWith Looks d event old new xs ys (seen waited waits o)) → OnErr r (new ≡ old)
    → new.number ≡ old.number
number_with (Ok o) Looks d event old new xs ys waited waits w same = w.number
number_with (Err e) Looks d event old new xs ys waited waits w same = ap (λ (s : State). s.number) same

pub number_plain : {E : Type 0} (r : Result Outcome E) (d : Domain) (event : NodeEvent) (old new : State) (waited waits : List Act) → IfOk r (λ o. IsTaken d event old new (seen waited waits o)) → OnErr r (new ≡ old) → new.number ≡ old.number
number_plain (Ok o) d event old new waited waits w same = w.number
number_plain (Err e) d event old new waited waits w same = ap (λ (s : State). s.number) same

-- and a refusal leaves it as it was
pub refused_with : {E : Type 0} (r : Result Outcome E) (Looks : List Act → Type 0) (d : Domain) (event : NodeEvent) (old new : State) (xs ys : List HeldRow) (waited waits : List Act) → IfOk r (λ o. IsTakenWith Looks d event old new xs ys (seen waited waits o))
    → IfOk r (λ o. (why : Reason) → o ≡ Refused why → new ≡ old)
refused_with (Ok o) Looks d event old new xs ys waited waits w = w.refused
refused_with (Err e) Looks d event old new xs ys waited waits w = tt

pub refused_plain : {E : Type 0} (r : Result Outcome E) (d : Domain) (event : NodeEvent) (old new : State) (waited waits : List Act) → IfOk r (λ o. IsTaken d event old new (seen waited waits o)) → IfOk r (λ o. (why : Reason) → o ≡ Refused why → new ≡ old)
refused_plain (Ok o) d event old new waited waits w = w.refused
refused_plain (Err e) d event old new waited waits w = tt

-- whatever is told, that is so
pub if_change : {A E : Type 0} (r : Result A E) (C : Type 0) (waited waits : List Act) → C → OnOk r ((g : List Act) → waits ≡ waited ++ g → NoLooks g → C)
if_change (Ok o) C waited waits at = λ g is none. at
if_change (Err e) C waited waits at = tt

pub err_change : {A E : Type 0} (r : Result A E) (C : Type 0) → C → OnErr r C
err_change (Ok o) C at = tt
err_change (Err e) C at = at

-- by another name of the access point
pub change_at : (H : Type 0) (P : H → ℕ → HolderRow → H → PutAnswer → Type 0) (R : H → ℕ → List ℕ → H → RevokeAnswer → Type 0) (a b : ℕ) (old new : H) → a ≡ b → OneChange H P R a old new → OneChange H P R b old new
change_at H P R a b old new is change = subst (λ (k : ℕ). OneChange H P R k old new) is change

-- the holders are as they were
pub same_others : (a : ℕ) (ids : List (List ℕ)) (has : List ℕ) (rows : ℕ → List HeldRow) → LeavesOthers a ids ids has has rows rows
same_others a ids has rows = record { ids = refl; still_has = refl; others = λ r other in_has. refl; one = Stays refl }

-- of those that it has, one moves at most beside the others
pub rest : {a : ℕ} {ids_old ids_new : List (List ℕ)} {has_old has_new : List ℕ} {old new : ℕ → List HeldRow} → LeavesOthers a ids_old ids_new has_old has_new old new → LeavesRest a ids_old ids_new has_old has_new old new
rest w = record { ids = w.ids; still_has = w.still_has; others = w.others }

-- ---- what goes for each event but for a changed key

pub but : (event : NodeEvent) (P : Type 0) → P → ButSecret event P
but (Secret named psk) P p = tt
but _ P p = p

pub but_unasked : {A E : Type 0} (r : Result A E) (event : NodeEvent) (C : Type 0) (waited waits : List Act) → OnOk r ((g : List Act) → waits ≡ waited ++ g → NoLooks g → C) → OnOk r ((g : List Act) → waits ≡ waited ++ g → NoLooks g → ButSecret event C)
but_unasked (Ok o) event C waited waits at = λ g is none. but event C (at g is none)
but_unasked (Err e) event C waited waits at = tt

pub but_err : {A E : Type 0} (r : Result A E) (event : NodeEvent) (C : Type 0) → OnErr r C → OnErr r (ButSecret event C)
but_err (Ok o) event C at = tt
but_err (Err e) event C at = but event C at

-- where it is one, nothing is said
pub secret_one : (event : NodeEvent) (named : Option ℕ) (psk : List ℕ) (C : Type 0) → event ≡ Secret named psk → ButSecret event C
secret_one event named psk C is = subst (λ (e : NodeEvent). ButSecret e C) (sym is) tt

pub secret_unasked : {A E : Type 0} (r : Result A E) (event : NodeEvent) (named : Option ℕ) (psk : List ℕ) (C : Type 0) (waited waits : List Act) → event ≡ Secret named psk → OnOk r ((g : List Act) → waits ≡ waited ++ g → NoLooks g → ButSecret event C)
secret_unasked (Ok o) event named psk C waited waits is = λ g adds none. secret_one event named psk C is
secret_unasked (Err e) event named psk C waited waits is = tt

pub secret_err : {A E : Type 0} (r : Result A E) (event : NodeEvent) (named : Option ℕ) (psk : List ℕ) (C : Type 0) → event ≡ Secret named psk → OnErr r (ButSecret event C)
secret_err (Ok o) event named psk C is = tt
secret_err (Err e) event named psk C is = secret_one event named psk C is

-- any other takes memory
pub no_room : (d : Domain) (event other : NodeEvent) (spare : ℕ) (P : Type 0) → IsStill event → other ≡ event → HasRoomFor d other spare → P
no_room d event other spare P still same room = none event still (subst (λ (e : NodeEvent). HasRoomFor d e spare) same room)
  where
    none : (e : NodeEvent) → IsStill e → HasRoomFor d e spare → P
    none (Secret named psk) still room = absurd still
    none _ still room = absurd room

-- ---- a changed key

changed_steps : (d : Domain) (named : Option ℕ) (psk : List ℕ) (old new : State) (xs ys : List HeldRow) (x : Seen) → HasChanged d named psk old new xs ys x → (first : ℕ) (h : List Act) → StandsWith d first old xs h
    → Steps (here d first (Ap old.number)) (Secret named psk) (StandsWith (changed d named psk) first new ys) h x
changed_steps d named psk old new xs ys x w first h at =
    let m = w.steps first h at.stands at.rows in
    record {
      acts = m.steps.acts;
      adds = m.steps.adds;
      waiting = m.steps.waiting;
      came = m.steps.came;
      stands = record { stands = m.steps.stands; rows = subst (λ (a : ℕ). KnowsRows (changed d named psk) (Ap a) ys (add m.steps.acts h)) (sym w.number) m.marks.1 };
    }

if_changed : {E : Type 0} (r : Result Outcome E) (d : Domain) (named : Option ℕ) (psk : List ℕ) (old new : State) (xs ys : List HeldRow) (waited waits : List Act) → IfOk r (λ o. HasChanged d named psk old new xs ys (seen waited waits o))
    → ComesOf r d (changed d named psk) (Secret named psk) old new xs ys waited waits
if_changed (Ok o) d named psk old new xs ys waited waits w = changed_steps d named psk old new xs ys (seen waited waits o) w
if_changed (Err e) d named psk old new xs ys waited waits w = tt

pub if_changed_event : {E : Type 0} (r : Result Outcome E) (d : Domain) (named : Option ℕ) (psk : List ℕ) (other : NodeEvent) (old new : State) (xs ys : List HeldRow) (waited waits : List Act) → other ≡ Secret named psk
    → IfOk r (λ o. HasChanged d named psk old new xs ys (seen waited waits o)) → ComesOf r d (after d other) other old new xs ys waited waits
if_changed_event r d named psk other old new xs ys waited waits same w =
    subst (λ (e : NodeEvent). ComesOf r d (after d e) e old new xs ys waited waits) (sym same) (if_changed r d named psk old new xs ys waited waits w)

changed_looks : (A : List ℕ → List ℕ → ℕ → PullAnswer → Type 0) (d : Domain) (named : Option ℕ) (psk : List ℕ) (old new : State) (xs ys : List HeldRow) (waited waits : List Act) (o : Outcome) → HasChanged d named psk old new xs ys (seen waited waits o)
    → (first : ℕ) (h : List Act) → StandsWith d first old xs h → (g : List Act) → waits ≡ waited ++ g → AreLooked A d g
changed_looks A d named psk old new xs ys waited waits o w first h at g is =
    let m = w.steps first h at.stands at.rows in
    inl (subst NoLooks (append_cancel_left waited m.steps.acts g (sym m.steps.waiting ∙ is)) m.marks.0)

pub if_changed_looks : {E : Type 0} (r : Result Outcome E) (A : List ℕ → List ℕ → ℕ → PullAnswer → Type 0) (d : Domain) (named : Option ℕ) (psk : List ℕ) (old new : State) (xs ys : List HeldRow) (waited waits : List Act) → IfOk r (λ o. HasChanged d named psk old new xs ys (seen waited waits o))
    → OnOk r ((first : ℕ) (h : List Act) → StandsWith d first old xs h → (g : List Act) → waits ≡ waited ++ g → AreLooked A d g)
if_changed_looks (Ok o) A d named psk old new xs ys waited waits w = changed_looks A d named psk old new xs ys waited waits o w
if_changed_looks (Err e) A d named psk old new xs ys waited waits w = tt

pub number_changed : {E : Type 0} (r : Result Outcome E) (d : Domain) (named : Option ℕ) (psk : List ℕ) (old new : State) (xs ys : List HeldRow) (waited waits : List Act) → IfOk r (λ o. HasChanged d named psk old new xs ys (seen waited waits o)) → OnErr r (new ≡ old)
    → new.number ≡ old.number
number_changed (Ok o) d named psk old new xs ys waited waits w same = w.number
number_changed (Err e) d named psk old new xs ys waited waits w same = ap (λ (s : State). s.number) same

-- none is refused
pub refused_changed : {E : Type 0} (r : Result Outcome E) (d : Domain) (named : Option ℕ) (psk : List ℕ) (old new : State) (xs ys : List HeldRow) (waited waits : List Act) → IfOk r (λ o. HasChanged d named psk old new xs ys (seen waited waits o))
    → IfOk r (λ o. (why : Reason) → o ≡ Refused why → new ≡ old)
refused_changed (Ok o) d named psk old new xs ys waited waits w = λ why is. cc (sym w.came ∙ is)
refused_changed (Err e) d named psk old new xs ys waited waits w = tt
