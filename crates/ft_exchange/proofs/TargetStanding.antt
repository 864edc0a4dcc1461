-- What acts that begin and end nothing do to the histories that a target stands for.
use Rattle.std.proofs.Common.{◌≡◌, ◌∙◌, ℕ, Bool, true, false, cond, List, [], ◌∷◌, Option, Some, None, refl, sym, ap}
use Rattle.std.specs.Prelude.{option_and_then}
use Rattle.domain_base.specs.declared.names.Node.{Node}
use Rattle.domain_base.specs.declared.names.Peer.TheVariants.{One}
use Rattle.key_hierarchy.specs.declared.answers.PullAnswer.{PullAnswer}
use Rattle.run_journal.specs.declared.domain.Domain.{Domain}
use Rattle.run_journal.specs.declared.acts.Kind.{Kind}
use Rattle.run_journal.specs.declared.acts.Kind.TheVariants as kind
use Rattle.run_journal.specs.declared.acts.Outcome.{Outcome}
use Rattle.run_journal.specs.declared.acts.Seal.{Seal}
use Rattle.run_journal.specs.declared.acts.Act.{Act}
use Rattle.run_journal.specs.declared.acts.Act.TheVariants.{Closed, Took, Sent, Looked}
use Rattle.run_journal.specs.declared.acts.Part.TheVariants.{Session}
use Rattle.run_journal.specs.Acts.{opens, ends, closes, finishes, derived, Derivation}
use Rattle.run_journal.specs.Questions.{attempt, derivation, or_else, also}
use Rattle.run_journal.specs.Holders.{Look, last_look, look, found_in, Stored, stored, first_stored, before_finished, since_finished}
use Rattle.run_journal.specs.declared.acts.Start.{Start}
use Rattle.domain_rules.specs.Asking.{is_roam, is_by_roam}
use Rattle.domain_rules.specs.TransitionKeys.{made_by, made_of, transition_in, transition, session_transition}
use Rattle.domain_rules.proofs.Parts.{attempt_goes, attempt_more, attempt_some, start_more, derivation_more}
use Rattle.ft_exchange.specs.State.{TargetState}
use Rattle.ft_exchange.specs.Stands.{IsPending, IsHeld, IsHeldOrPending, TargetStands, PendingStands}

-- an act that begins and ends neither attempt nor session with p, and derives no key
pub record Passes (p : Node) (e : Act) : Type 0 where
  pub opens_none : opens p e ≡ false
  pub ends_none : ends p e ≡ false
  pub closes_none : closes p e ≡ false
  pub finishes_none : finishes p e ≡ false
  pub derives_none : derived p e ≡ None

pub took_passes : (p : Node) (from : Option Node) (octets : List ℕ) (k : Kind) (o : Outcome) (s : Option Seal) → Passes p (Took from octets k o s)
took_passes p from octets k o s = record { opens_none = refl; ends_none = refl; closes_none = refl; finishes_none = refl; derives_none = refl }

pub sent_passes : (p q : Node) (k : Kind) (octets : List ℕ) (s : Option Seal) → Passes p (Sent (One q) k octets s)
sent_passes p q k octets s = record { opens_none = refl; ends_none = refl; closes_none = refl; finishes_none = refl; derives_none = refl }

pub looked_passes : (p : Node) (id name : List ℕ) (q : Node) (answer : PullAnswer) → Passes p (Looked id name q answer)
looked_passes p id name q answer = record { opens_none = refl; ends_none = refl; closes_none = refl; finishes_none = refl; derives_none = refl }

look_more : (p : Node) (e : Act) (h : List Act) → opens p e ≡ false → look p (e ∷ h) ≡ look p h
look_more p e h opens_none = ap (λ (b : Bool). cond b (last_look p h) (look p h)) opens_none

-- of the attempt
transition_some : (p : Node) (e : Act) (h part : List Act) → Passes p e → attempt p h ≡ Some part → transition p (e ∷ h) ≡ transition p h
transition_some p e h part x is =
    ap (λ (o : Option (List Act)). transition_in p (e ∷ h) o) (attempt_more p e h part x.opens_none x.ends_none is)
    ∙ ap (λ (o : Option Start). cond (is_roam o) (made_of p (e ∷ h) (e ∷ part)) None) (start_more e part (attempt_some p h part is))
    ∙ ap (λ (o : Option Derivation). cond (is_by_roam part) (made_by o (look p (e ∷ h)) (option_and_then (λ (l : Look). found_in l.answer) (look p (e ∷ h)))) None) (derivation_more p e part x.derives_none)
    ∙ ap (λ (o : Option Look). cond (is_by_roam part) (made_by (derivation p part) o (option_and_then (λ (l : Look). found_in l.answer) o)) None) (look_more p e h x.opens_none)
    ∙ sym (ap (λ (o : Option (List Act)). transition_in p h o) is)

transition_by : (p : Node) (e : Act) (h : List Act) (o : Option (List Act)) → Passes p e → attempt p h ≡ o → transition p (e ∷ h) ≡ transition p h
transition_by p e h (Some part) x is = transition_some p e h part x is
transition_by p e h None x is =
    ap (λ (o : Option (List Act)). transition_in p (e ∷ h) o) (attempt_goes p e h x.opens_none x.ends_none ∙ ap (λ (o : Option (List Act)). also e o) is)
    ∙ sym (ap (λ (o : Option (List Act)). transition_in p h o) is)

pub transition_more : (p : Node) (e : Act) (h : List Act) → Passes p e → transition p (e ∷ h) ≡ transition p h
transition_more p e h x = transition_by p e h (attempt p h) x refl

-- an act that neither closes the session with p nor finishes an attempt
pub record Leaves (p : Node) (e : Act) : Type 0 where
  pub closes_none : closes p e ≡ false
  pub finishes_none : finishes p e ≡ false

pub leaves : (p : Node) (e : Act) → Passes p e → Leaves p e
leaves p e x = record { closes_none = x.closes_none; finishes_none = x.finishes_none }

-- and of the session
before_more : (p : Node) (e : Act) (h : List Act) → Leaves p e → before_finished p (e ∷ h) ≡ before_finished p h
before_more p e h x =
    ap (λ (b : Bool). cond b (Some h) (cond (closes p e) None (before_finished p h))) x.finishes_none ∙ ap (λ (b : Bool). cond b None (before_finished p h)) x.closes_none

pub session_more : (p : Node) (e : Act) (h : List Act) → Leaves p e → session_transition p (e ∷ h) ≡ session_transition p h
session_more p e h x = ap (λ (o : Option (List Act)). option_and_then (λ (before : List Act). transition p before) o) (before_more p e h x)

since_more : (p : Node) (e : Act) (h : List Act) → Leaves p e → since_finished p (e ∷ h) ≡ e ∷ since_finished p h
since_more p e h x = ap (λ (b : Bool). cond b [] (e ∷ since_finished p h)) x.finishes_none

stored_more : (p : Node) (k : Kind) (e : Act) (part : List Act) (s : Stored) → first_stored p k part ≡ Some s → first_stored p k (e ∷ part) ≡ Some s
stored_more p k e part s is = ap (λ (o : Option Stored). or_else o (stored p k e)) is

pending_more : (d : Domain) (n p : Node) (s : TargetState) (e : Act) (h : List Act) → Passes p e → IsPending d n p s h → IsPending d n p s (e ∷ h)
pending_more d n p s e h x i = record {
  is = transition_more p e h x ∙ i.is;
  part = e ∷ i.part;
  awaited = attempt_more p e h i.part x.opens_none x.ends_none i.awaited;
  stored = stored_more p kind.FtResp e i.part _ i.stored;
}

pub held_more : (d : Domain) (n p : Node) (s : TargetState) (e : Act) (h : List Act) → Leaves p e → IsHeld d n p s h → IsHeld d n p s (e ∷ h)
held_more d n p s e h x i = record {
  is = session_more p e h x ∙ i.is;
  stored = ap (λ (l : List Act). first_stored p kind.ReResp l) (since_more p e h x) ∙ stored_more p kind.ReResp e (since_finished p h) _ i.stored;
}

holds_more : (d : Domain) (n p : Node) (s : TargetState) (b : Bool) (e : Act) (h : List Act) → Passes p e → IsHeldOrPending b d n p s h → IsHeldOrPending b d n p s (e ∷ h)
holds_more d n p s false e h x i = pending_more d n p s e h x i
holds_more d n p s true e h x i = held_more d n p s e h (leaves p e x) i

pub target_more : (d : Domain) (n p : Node) (s : TargetState) (e : Act) (h : List Act) → Passes p e → TargetStands d n p s h → TargetStands d n p s (e ∷ h)
target_more d n p s e h x st = record { suite = st.suite; place = st.place; holds = holds_more d n p s s.is_installed e h x st.holds }

pub pending_stands_more : (d : Domain) (n p : Node) (o : Option TargetState) (e : Act) (h : List Act) → Passes p e → PendingStands d n p o h → PendingStands d n p o (e ∷ h)
pending_stands_more d n p None e h x none = transition_more p e h x ∙ none
pending_stands_more d n p (Some s) e h x st = (st.0, target_more d n p s e h x st.1)

-- nor does the end of a session change the attempt
pub closed_more : (p : Node) (h : List Act) → transition p (Closed p Session ∷ h) ≡ transition p h
closed_more p h = by (attempt p h) refl
  where
    by : (o : Option (List Act)) → attempt p h ≡ o → transition p (Closed p Session ∷ h) ≡ transition p h
    by (Some part) is =
        ap (λ (o : Option (List Act)). transition_in p (Closed p Session ∷ h) o) (attempt_more p (Closed p Session) h part refl refl is)
        ∙ ap (λ (o : Option Start). cond (is_roam o) (made_of p h part) None) (start_more (Closed p Session) part (attempt_some p h part is))
        ∙ sym (ap (λ (o : Option (List Act)). transition_in p h o) is)
    by None is =
        ap (λ (o : Option (List Act)). transition_in p (Closed p Session ∷ h) o) (attempt_goes p (Closed p Session) h refl refl ∙ ap (λ (o : Option (List Act)). also (Closed p Session) o) is)
        ∙ sym (ap (λ (o : Option (List Act)). transition_in p h o) is)
