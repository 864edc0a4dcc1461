-- The end of an event.
use Rattle.std.proofs.Common.{◌≡◌, ℕ, Bool, true, false, cond, List, [], ◌∷◌, ◌++◌, Option, Some, None, refl, sym, ap, subst, ◌∙◌}
use Rattle.std.proofs.lemmas.List.{append-nil, append_assoc}
use Rattle.domain_base.specs.declared.names.Mac.{Mac}
use Rattle.domain_base.specs.declared.names.Node.TheVariants.{Ap}
use Rattle.run_journal.specs.declared.domain.Domain.{Domain}
use Rattle.run_journal.specs.declared.acts.Reason.{Reason}
use Rattle.run_journal.specs.declared.acts.Outcome.{Outcome}
use Rattle.run_journal.specs.declared.acts.Outcome.TheVariants.{Refused}
use Rattle.run_journal.specs.declared.acts.Act.{Act}
use Rattle.run_journal.specs.declared.acts.Act.TheVariants.{Took, GaveUp, Idle}
use Rattle.run_journal.specs.Questions.{add}
use Rattle.domain_rules.specs.Here.{here}
use Rattle.domain_rules.specs.Rows.{NodeEvent, outcome_of}
use Rattle.domain_rules.specs.Network.{mac}
use Rattle.domain_rules.specs.Owing.{switch_acts}
use Rattle.domain_rules.proofs.Parts.{add_append}
use Rattle.key_holders.specs.declared.rows.HeldRow.{HeldRow}
use Rattle.group_key.specs.declared.keys.GroupKey.{GroupKey}
use Rattle.node_base.specs.Events.{Seen, seen}
use Rattle.ap_node.specs.State.{State}
use Rattle.ap_node.specs.Stands.{IsSettled, AllPlain, StandsSoFar, Stands}
use Rattle.ap_node.specs.InUse.{made_acts}
use Rattle.ap_node.specs.Switching.{is_due, newest_beside, switched, due_acts, ended, end_acts}
use Rattle.ap_node.specs.Takes.{Does, Marked, RowsOn, IsDone, IsDoneWith, IsTaken, IsTakenWith}
use Rattle.held_rows.specs.Looks.{NoLooks}
use Rattle.ap_node.proofs.Plain.{IsGrowing, growing_plain, growing_rows, plain_due}
use Rattle.ap_node.proofs.Due.{switch_is, no_switch, stands_switched}

-- what came of it is what came of the event itself
outcome_due : (acts : List Act) (b : Bool) (g : GroupKey) (o : Option GroupKey) (a : Mac) → outcome_of (acts ++ cond b (made_acts g o a) []) ≡ outcome_of acts
outcome_due [] true g None a = refl
outcome_due [] true g (Some t) a = refl
outcome_due [] false g o a = refl
outcome_due (Took from octets m outcome seal ∷ acts) b g o a = refl
outcome_due (Idle why ∷ acts) b g o a = refl
outcome_due (GaveUp p m ∷ acts) b g o a = refl
outcome_due (_ ∷ acts) b g o a = refl

-- with the switch
with_switch : (d : Domain) (first : ℕ) (event : NodeEvent) (old new : State) (Marks : List Act → Type 0) (waited waits : List Act) (outcome : Outcome) (h : List Act) → IsGrowing Marks → new.number ≡ old.number
    → Does (here d first (Ap old.number)) event (StandsSoFar d first new) Marks h (seen waited waits outcome)
    → Marked (here d first (Ap old.number)) event (Stands d first (switched new)) Marks h (seen waited (waits ++ due_acts d new) outcome)
with_switch d first event old new Marks waited waits outcome h growing number x =
    let due = due_acts d new in
    let adds_is : switch_acts d old.number (add x.acts h) ≡ due = ap (λ (a : ℕ). switch_acts d a (add x.acts h)) (sym number) ∙ switch_is d first new (add x.acts h) x.stands in
    record {
      steps = record {
        acts = x.acts ++ due;
        adds = record { acts = x.acts; row = x.row; is = ap (λ (g : List Act). x.acts ++ g) (sym adds_is) };
        waiting = ap (λ (l : List Act). l ++ due) x.waiting ∙ append_assoc waited x.acts due;
        came = x.came ∙ sym (outcome_due x.acts (is_due new) new.group.gtk.newest (newest_beside new.group.igtk) (mac d (Ap new.number)));
        stands = subst (λ (g : List Act). Stands d first (switched new) g) (sym (add_append x.acts due h))
            (stands_switched d first new (add x.acts h) x.stands);
      };
      marks = growing x.acts due x.marks (plain_due d new);
    }

-- without one, where none is to come
pub settled_marked : (d : Domain) (first : ℕ) (event : NodeEvent) (old new : State) (Marks : List Act → Type 0) (x : Seen) (h : List Act) → new.number ≡ old.number → IsSettled new
    → Does (here d first (Ap old.number)) event (StandsSoFar d first new) Marks h x → Marked (here d first (Ap old.number)) event (Stands d first new) Marks h x
settled_marked d first event old new Marks x h number settled w =
    let none : switch_acts d old.number (add w.acts h) ≡ [] = ap (λ (a : ℕ). switch_acts d a (add w.acts h)) (sym number) ∙ no_switch d first new (add w.acts h) w.stands settled in
    record {
      steps = record {
        acts = w.acts;
        adds = record { acts = w.acts; row = w.row; is = sym (ap (λ (g : List Act). w.acts ++ g) none ∙ append-nil w.acts) };
        waiting = w.waiting;
        came = w.came;
        stands = record { so_far = w.stands; settled = settled };
      };
      marks = w.marks;
    }

-- of plain acts
pub settled_steps : (d : Domain) (first : ℕ) (event : NodeEvent) (old new : State) (x : Seen) (h : List Act) → new.number ≡ old.number → IsSettled new
    → Does (here d first (Ap old.number)) event (StandsSoFar d first new) AllPlain h x → Marked (here d first (Ap old.number)) event (Stands d first new) AllPlain h x
settled_steps d first event old new x h number settled w = settled_marked d first event old new AllPlain x h number settled w

-- the end of an event, whatever the marks
ended_marked : (d : Domain) (first : ℕ) (event : NodeEvent) (old new : State) (Marks : List Act → Type 0) (waited waits : List Act) (outcome : Outcome) (h : List Act) → IsGrowing Marks → new.number ≡ old.number
    → ((why : Reason) → outcome ≡ Refused why → new ≡ old) → Stands d first old h → Does (here d first (Ap old.number)) event (StandsSoFar d first new) Marks h (seen waited waits outcome)
    → Marked (here d first (Ap old.number)) event (Stands d first (ended outcome new)) Marks h (seen waited (waits ++ end_acts d outcome new) outcome)
ended_marked d first event old new Marks waited waits (Refused why) h growing number refused stands x =
    subst (λ (l : List Act). Marked (here d first (Ap old.number)) event (Stands d first new) Marks h (seen waited l (Refused why))) (sym (append-nil waits))
    (settled_marked d first event old new Marks (seen waited waits (Refused why)) h number (subst IsSettled (sym (refused why refl)) stands.settled) x)
ended_marked d first event old new Marks waited waits outcome h growing number refused stands x = with_switch d first event old new Marks waited waits outcome h growing number x

number_ended : (outcome : Outcome) (old new : State) → new.number ≡ old.number → (ended outcome new).number ≡ old.number
number_ended (Refused why) old new is = is
number_ended _ old new is = is

refused_ended : (outcome : Outcome) (old new : State) → ((why : Reason) → outcome ≡ Refused why → new ≡ old) → (why : Reason) → outcome ≡ Refused why → ended outcome new ≡ old
refused_ended (Refused other) old new refused why is = refused why is
refused_ended _ old new refused why is = absurd (cc is)

-- the event and its end
ends : (d : Domain) (event : NodeEvent) (old new : State) (waited waits : List Act) (outcome : Outcome) → IsDone d event old new (seen waited waits outcome)
    → IsTaken d event old (ended outcome new) (seen waited (waits ++ end_acts d outcome new) outcome)
ends d event old new waited waits outcome x = record {
  number = number_ended outcome old new x.number;
  steps = λ first h stands. ended_marked d first event old new AllPlain waited waits outcome h growing_plain x.number x.refused stands (x.does first h stands);
  refused = refused_ended outcome old new x.refused;
}

both_end : (d : Domain) (event : NodeEvent) (old new : State) (xs ys : List HeldRow) (waited waits : List Act) (outcome : Outcome) → IsDoneWith d event old new xs ys (seen waited waits outcome)
    → IsTakenWith NoLooks d event old (ended outcome new) xs ys (seen waited (waits ++ end_acts d outcome new) outcome)
both_end d event old new xs ys waited waits outcome x = record {
  number = number_ended outcome old new x.number;
  steps = λ first h stands known.
      ended_marked d first event old new (RowsOn NoLooks d old.number ys h) waited waits outcome h (growing_rows d old.number ys h) x.number x.refused stands (x.does first h stands known);
  refused = refused_ended outcome old new x.refused;
}

-- as the code comes by them
pub ends_as : (d : Domain) (event : NodeEvent) (old new after : State) (waited waits more : List Act) (outcome came : Outcome) → IsDone d event old new (seen waited waits outcome) → after ≡ ended outcome new → more ≡ waits ++ end_acts d outcome new → came ≡ outcome
    → IsTaken d event old after (seen waited more came)
ends_as d event old new after waited waits more outcome came x after_is more_is came_is = rw (after_is, more_is, came_is) (ends d event old new waited waits outcome x)

pub ends_with : (d : Domain) (event : NodeEvent) (old new after : State) (xs ys : List HeldRow) (waited waits more : List Act) (outcome came : Outcome) → IsDoneWith d event old new xs ys (seen waited waits outcome) → after ≡ ended outcome new
    → more ≡ waits ++ end_acts d outcome new → came ≡ outcome → IsTakenWith NoLooks d event old after xs ys (seen waited more came)
ends_with d event old new after xs ys waited waits more outcome came x after_is more_is came_is = rw (after_is, more_is, came_is) (both_end d event old new xs ys waited waits outcome x)
