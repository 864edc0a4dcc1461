-- The fast transition that a reassociation request is for is the one by which it is judged.
use Rattle.std.proofs.Common.{◌≡◌, ◌∙◌, ℕ, Bool, true, false, cond, List, Option, Some, None, refl, sym, ap, subst}
use Rattle.std.specs.Prelude.{not, ◌&&◌}
use Rattle.domain_base.specs.declared.names.Node.{Node}
use Rattle.domain_base.specs.declared.names.Node.TheVariants.{Ap}
use Rattle.rsn_elements.specs.Transition.{FteFields}
use Rattle.rsn_elements.specs.Elements.{ElementFields}
use Rattle.run_journal.specs.declared.domain.Domain.{Domain}
use Rattle.run_journal.specs.declared.acts.Act.{Act}
use Rattle.domain_rules.specs.TransitionKeys.{Transition, transition, session_transition, has_nonces, Judged, judged_session, judged_attempt, judged_by as judged_of, judged}
use Rattle.ft_exchange.specs.State.{TargetState}
use Rattle.ft_exchange.specs.Stands.{transition_of, IsPending, IsHeld, PendingStands}
use Rattle.ft_exchange.specs.TargetSteps.{judged_by, IsChosen}
use Rattle.ft_exchange.specs.Tried.{has_nonces_of, is_with_by, is_with}
use Rattle.targets.specs.declared.moves.Moves.{Moves}
use Rattle.targets.specs.State.{means_held_by, meant}
use Rattle.targets.specs.Stands.{HeldStands, HasMoves}
use Rattle.targets.proofs.Passing.{installed}
use Rattle.targets.proofs.Beginning.{not_installed}

abbrev judged_as : Transition → Bool → Option Judged
judged_as y b = Some (record { by_ = y; is_session = b })

-- by a pending one
by_pending : (d : Domain) (a : ℕ) (p : Node) (s : TargetState) (session : Option Transition) (o : Option FteFields) → s.is_installed ≡ false
    → (is_with_by o s.key ≡ false → (f : FteFields) → o ≡ Some f → judged_session f session ≡ None) → judged_of o (Some (transition_of d (Ap a) p s)) session ≡ judged_by d (Ap a) p s (is_with_by o s.key)
by_pending d a p s session None pends none = refl
by_pending d a p s session (Some f) pends none = by (has_nonces_of f s.key) refl
  where
    by : (b : Bool) → has_nonces_of f s.key ≡ b → cond (has_nonces f (transition_of d (Ap a) p s).key) (judged_as (transition_of d (Ap a) p s) false) (judged_session f session) ≡ judged_by d (Ap a) p s (has_nonces_of f s.key)
    by true is =
        ap (λ (b : Bool). cond b (judged_as (transition_of d (Ap a) p s) false) (judged_session f session)) is
        ∙ ap (λ (i : Bool). judged_as (transition_of d (Ap a) p s) i) (sym pends) ∙ sym (ap (λ (b : Bool). judged_by d (Ap a) p s b) is)
    by false is = ap (λ (b : Bool). cond b (judged_as (transition_of d (Ap a) p s) false) (judged_session f session)) is ∙ none is f refl ∙ sym (ap (λ (b : Bool). judged_by d (Ap a) p s b) is)

-- by the session's
by_session : (d : Domain) (a : ℕ) (p : Node) (t : TargetState) (f : FteFields) → t.is_installed ≡ true → judged_session f (Some (transition_of d (Ap a) p t)) ≡ judged_by d (Ap a) p t (has_nonces_of f t.key)
by_session d a p t f holds = by (has_nonces_of f t.key) refl
  where
    by : (b : Bool) → has_nonces_of f t.key ≡ b → cond (has_nonces f (transition_of d (Ap a) p t).key) (judged_as (transition_of d (Ap a) p t) true) None ≡ judged_by d (Ap a) p t (has_nonces_of f t.key)
    by true is =
        ap (λ (b : Bool). cond b (judged_as (transition_of d (Ap a) p t) true) None) is ∙ ap (λ (i : Bool). judged_as (transition_of d (Ap a) p t) i) (sym holds)
        ∙ sym (ap (λ (b : Bool). judged_by d (Ap a) p t b) is)
    by false is = ap (λ (b : Bool). cond b (judged_as (transition_of d (Ap a) p t) true) None) is ∙ sym (ap (λ (b : Bool). judged_by d (Ap a) p t b) is)

by_held : (d : Domain) (a : ℕ) (p : Node) (t : TargetState) (y : Option Transition) (o : Option FteFields) → t.is_installed ≡ true
    → ((f : FteFields) → o ≡ Some f → judged_attempt f y (Some (transition_of d (Ap a) p t)) ≡ judged_session f (Some (transition_of d (Ap a) p t)))
    → judged_of o y (Some (transition_of d (Ap a) p t)) ≡ judged_by d (Ap a) p t (is_with_by o t.key)
by_held d a p t y None holds skips = refl
by_held d a p t y (Some f) holds skips = skips f refl ∙ by_session d a p t f holds

-- both as they are
judged_is : (p : Node) (e : ElementFields) (h : List Act) (y z : Option Transition) → transition p h ≡ y → session_transition p h ≡ z → judged p h e ≡ judged_of e.fte y z
judged_is p e h y z is has = ap (λ (x : Option Transition). judged_of e.fte x (session_transition p h)) is ∙ ap (λ (x : Option Transition). judged_of e.fte y x) has

alone_pending : (d : Domain) (a : ℕ) (p : Node) (e : ElementFields) (s : TargetState) (h : List Act) → PendingStands d (Ap a) p (Some s) h → HeldStands d (Ap a) p None h → IsChosen d (Ap a) p s e h
alone_pending d a p e s h st none =
    let i : IsPending d (Ap a) p s h = not_installed d (Ap a) p s h st.0 st.1 in
    record {
      stands = st.1;
      by_this = judged_is p e h (Some (transition_of d (Ap a) p s)) None i.is none ∙ by_pending d a p s None e.fte st.0 (λ without f is. refl);
    }

alone_held : (d : Domain) (a : ℕ) (p : Node) (e : ElementFields) (t : TargetState) (h : List Act) → PendingStands d (Ap a) p None h → HeldStands d (Ap a) p (Some t) h → IsChosen d (Ap a) p t e h
alone_held d a p e t h none st =
    let i : IsHeld d (Ap a) p t h = installed d (Ap a) p t h st.0 st.1 in
    record {
      stands = st.1;
      by_this = judged_is p e h None (Some (transition_of d (Ap a) p t)) none i.is ∙ by_held d a p t None e.fte st.0 (λ f is. refl);
    }

-- of two the pending one, where the FTE has its nonces or not those of the other
first_pending : (d : Domain) (a : ℕ) (p : Node) (e : ElementFields) (s t : TargetState) (h : List Act) → PendingStands d (Ap a) p (Some s) h → HeldStands d (Ap a) p (Some t) h
    → (is_with e s.key ≡ false → is_with e t.key ≡ false) → IsChosen d (Ap a) p s e h
first_pending d a p e s t h st has without =
    let i : IsPending d (Ap a) p s h = not_installed d (Ap a) p s h st.0 st.1 in
    let j : IsHeld d (Ap a) p t h = installed d (Ap a) p t h has.0 has.1 in
    record {
      stands = st.1;
      by_this = judged_is p e h (Some (transition_of d (Ap a) p s)) (Some (transition_of d (Ap a) p t)) i.is j.is
          ∙ by_pending d a p s (Some (transition_of d (Ap a) p t)) e.fte st.0
          (λ none f is. by_session d a p t f has.0 ∙ ap (λ (b : Bool). judged_by d (Ap a) p t b) (sym (ap (λ (o : Option FteFields). is_with_by o t.key) is) ∙ without none));
    }

-- and the session's, where the FTE has its nonces alone
then_held : (d : Domain) (a : ℕ) (p : Node) (e : ElementFields) (s t : TargetState) (h : List Act) → PendingStands d (Ap a) p (Some s) h → HeldStands d (Ap a) p (Some t) h → is_with e s.key ≡ false → IsChosen d (Ap a) p t e h
then_held d a p e s t h st has without =
    let i : IsPending d (Ap a) p s h = not_installed d (Ap a) p s h st.0 st.1 in
    let j : IsHeld d (Ap a) p t h = installed d (Ap a) p t h has.0 has.1 in
    record {
      stands = has.1;
      by_this = judged_is p e h (Some (transition_of d (Ap a) p s)) (Some (transition_of d (Ap a) p t)) i.is j.is
          ∙ by_held d a p t (Some (transition_of d (Ap a) p s)) e.fte has.0
          (λ f is. ap (λ (b : Bool). cond b (judged_as (transition_of d (Ap a) p s) false) (judged_session f (Some (transition_of d (Ap a) p t)))) (sym (ap (λ (o : Option FteFields). is_with_by o s.key) is) ∙ without));
    }

same_some : (x y : TargetState) → Some x ≡ Some y → x ≡ y
same_some x y is = cc

-- the one that is meant
chosen_by : (d : Domain) (a : ℕ) (p : Node) (e : ElementFields) (pending held : Option TargetState) (s : TargetState) (h : List Act) → PendingStands d (Ap a) p pending h → HeldStands d (Ap a) p held h
    → cond (means_held_by e pending held) held pending ≡ Some s → IsChosen d (Ap a) p s e h
chosen_by d a p e None None s h st has is = absurd cc
chosen_by d a p e None (Some t) s h st has is = subst (λ (z : TargetState). IsChosen d (Ap a) p z e h) (same_some t s is) (alone_held d a p e t h st has)
chosen_by d a p e (Some x) None s h st has is = subst (λ (z : TargetState). IsChosen d (Ap a) p z e h) (same_some x s is) (alone_pending d a p e x h st has)
chosen_by d a p e (Some x) (Some t) s h st has is = by (is_with e x.key) (is_with e t.key) refl refl is
  where
    by : (b c : Bool) → is_with e x.key ≡ b → is_with e t.key ≡ c → cond (not b && c) (Some t) (Some x) ≡ Some s → IsChosen d (Ap a) p s e h
    by true c one two is = subst (λ (z : TargetState). IsChosen d (Ap a) p z e h) (same_some x s is)
        (first_pending d a p e x t h st has (λ none. absurd (let both : true ≡ false = sym one ∙ none in cc both)))
    by false true one two is = subst (λ (z : TargetState). IsChosen d (Ap a) p z e h) (same_some t s is) (then_held d a p e x t h st has one)
    by false false one two is = subst (λ (z : TargetState). IsChosen d (Ap a) p z e h) (same_some x s is) (first_pending d a p e x t h st has (λ none. two))

pub chosen : (d : Domain) (a : ℕ) (p : Node) (e : ElementFields) (m : Moves) (s : TargetState) (h : List Act) → HasMoves d (Ap a) p m h → meant e m ≡ Some s → IsChosen d (Ap a) p s e h
chosen d a p e m s h has is = chosen_by d a p e m.pending m.held s h has.pending has.held is

-- where none is meant there is none
none_by : (e : ElementFields) (pending held : Option TargetState) → cond (means_held_by e pending held) held pending ≡ None → (pending ≡ None) × (held ≡ None)
none_by e None None is = (refl, refl)
none_by e None (Some t) is = absurd cc
none_by e (Some x) None is = absurd cc
none_by e (Some x) (Some t) is = by (not (is_with e x.key) && is_with e t.key) is
  where
    by : (b : Bool) → cond b (Some t) (Some x) ≡ None → (Some x ≡ None) × (Some t ≡ None)
    by true is = absurd cc
    by false is = absurd cc

pub none_meant : (e : ElementFields) (m : Moves) → meant e m ≡ None → (m.pending ≡ None) × (m.held ≡ None)
none_meant e m is = none_by e m.pending m.held is
