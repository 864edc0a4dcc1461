-- Acts that begin or end an attempt or a session, and what they do to the fast transitions of an access point with a station.
use Rattle.std.proofs.Common.{◌≡◌, ◌∙◌, ℕ, Bool, true, false, cond, List, [], ◌∷◌, ◌++◌, Option, Some, None, refl, sym, ap, subst}
use Rattle.std.specs.Prelude.{option_and_then}
use Rattle.std.specs.List.{AllByRecursion}
use Rattle.domain_base.specs.declared.names.Node.{Node}
use Rattle.domain_base.specs.declared.names.Node.TheVariants.{Sta}
use Rattle.domain_base.specs.declared.names.Peer.TheVariants.{One}
use Rattle.eapol_key.specs.declared.messages.Message.TheVariants.{M4}
use Rattle.key_hierarchy.specs.declared.inputs.Inputs.{Inputs}
use Rattle.key_hierarchy.specs.declared.inputs.Ptk.{Ptk}
use Rattle.key_hierarchy.specs.declared.fast_transition.PmkR1.{PmkR1}
use Rattle.run_journal.specs.declared.domain.Domain.{Domain}
use Rattle.run_journal.specs.declared.acts.Start.TheVariants.{Connect, Renew}
use Rattle.run_journal.specs.declared.acts.Part.TheVariants.{Attempt, Session}
use Rattle.run_journal.specs.declared.acts.Kind.TheVariants as kind
use Rattle.run_journal.specs.declared.acts.Key.TheVariants.{Pairwise}
use Rattle.run_journal.specs.declared.acts.Why.TheVariants as why
use Rattle.run_journal.specs.declared.acts.Outcome.TheVariants.{Accepted}
use Rattle.run_journal.specs.declared.acts.Act.{Act}
use Rattle.run_journal.specs.declared.acts.Act.TheVariants.{Opened, Closed, Derived, Took, Installed, Finished, Idle}
use Rattle.run_journal.specs.Acts.{opens, ends, closes, finishes, derived, Derivation}
use Rattle.run_journal.specs.Questions.{attempt, since, derivation, session, add, or_else}
use Rattle.run_journal.specs.Holders.{Look, Stored, stored, before_finished}
use Rattle.domain_rules.specs.AccessPointRows.{m4_acts, expire_acts}
use Rattle.domain_rules.specs.Asking.{start_of, is_by_roam}
use Rattle.domain_rules.specs.Closing.{close_attempt, close_session, or_nothing}
use Rattle.domain_rules.specs.Frames.{frame_seal}
use Rattle.domain_rules.specs.Reading.{KeyMessage}
use Rattle.domain_rules.specs.TransitionKeys.{Transition, made_by, made_of, transition_in, transition, session_transition}
use Rattle.domain_rules.proofs.Parts.{same-refl, since_part, attempt_begins, attempt_none, attempt_more, attempt_ends, session_more}
use Rattle.domain_rules.proofs.Starts.{four_way_no_roam}
use Rattle.ft_exchange.specs.State.{TargetState}
use Rattle.ft_exchange.specs.Stands.{transition_of, IsPending, IsHeld, IsHeldOrPending, TargetStands, PendingStands}
use Rattle.ft_exchange.proofs.TargetStanding.{Passes, took_passes, closed_more}
use Rattle.targets.specs.declared.moves.Moves.{Moves}
use Rattle.targets.specs.State.{no_moves, without_pending, without_held}
use Rattle.targets.specs.Stands.{HeldStands, IsOther, HasMoves}
use Rattle.targets.proofs.Passing.{installed, held_stands_more, other_more, moves_more, moves_add, installed_passes, idle_passes}

-- ---- no attempt by fast transition

pub no_attempt : (p : Node) (h : List Act) → attempt p h ≡ None → transition p h ≡ None
no_attempt p h none = ap (λ (o : Option (List Act)). transition_in p h o) none

-- an attempt by a four-way handshake, or none
pub other_none : (p : Node) (h : List Act) → IsOther None (attempt p h) → transition p h ≡ None
other_none p h at = by (attempt p h) at
  where
    by : (o : Option (List Act)) → IsOther None o → transition_in p h o ≡ None
    by None at = refl
    by (Some part) at = ap (λ (b : Bool). cond b (made_of p h part) None) (four_way_no_roam (start_of part) at)

-- without an attempt by a four-way handshake either there is none
pub no_other : (o : Option (List Act)) → IsOther None o → ((part : List Act) → o ≡ Some part → is_by_roam part ≡ true) → o ≡ None
no_other None at none = refl
no_other (Some part) at none = absurd (let both : true ≡ false = sym (none part refl) ∙ four_way_no_roam (start_of part) at in cc both)

-- a target that is not installed holds by the attempt
pub not_installed : (d : Domain) (n p : Node) (s : TargetState) (h : List Act) → s.is_installed ≡ false → TargetStands d n p s h → IsPending d n p s h
not_installed d n p s h is st = subst (λ (b : Bool). IsHeldOrPending b d n p s h) is st.holds

-- an attempt that is pending
pub record IsRoaming (p : Node) (h : List Act) : Type 0 where
  pub part : List Act
  pub awaited : attempt p h ≡ Some part
  pub begun : is_by_roam part ≡ true

roaming_by : (p : Node) (h part : List Act) (t : Transition) (b : Bool) → is_by_roam part ≡ b → cond b (made_of p h part) None ≡ Some t → is_by_roam part ≡ true
roaming_by p h part t false is made = absurd cc
roaming_by p h part t true is made = is

pub roaming : (d : Domain) (n p : Node) (s : TargetState) (h : List Act) → IsPending d n p s h → IsRoaming p h
roaming d n p s h i =
    let made : transition_in p h (Some i.part) ≡ transition p h = sym (ap (λ (o : Option (List Act)). transition_in p h o) i.awaited) in
    record { part = i.part; awaited = i.awaited; begun = roaming_by p h i.part _ (is_by_roam i.part) refl (made ∙ i.is) }

pub pending_roams : (d : Domain) (n p : Node) (s : TargetState) (h : List Act) → PendingStands d n p (Some s) h → IsRoaming p h
pending_roams d n p s h st = roaming d n p s h (not_installed d n p s h st.0 st.1)

-- ---- the key of a session that came of a fast transition

derivation_by : (p : Node) (x : Derivation) (e : Act) (h : List Act) → (derivation p (since p h) ≡ Some x → derivation p h ≡ Some x) → (b : Bool) → opens p e ≡ b → (o : Option Derivation) → derived p e ≡ o → derivation p (cond b (e ∷ []) (e ∷ since p h)) ≡ Some x → or_else o (derivation p h) ≡ Some x
derivation_by p x e h more true is None s w = let none : None ≡ Some x = subst (λ (y : Option Derivation). or_else y None ≡ Some x) s w in cc none
derivation_by p x e h more true is (Some y) s w = subst (λ (z : Option Derivation). or_else z None ≡ Some x) s w
derivation_by p x e h more false is None s w = more (subst (λ (z : Option Derivation). or_else z (derivation p (since p h)) ≡ Some x) s w)
derivation_by p x e h more false is (Some y) s w = subst (λ (z : Option Derivation). or_else z (derivation p (since p h)) ≡ Some x) s w

derivation_since : (p : Node) (h : List Act) (x : Derivation) → derivation p (since p h) ≡ Some x → derivation p h ≡ Some x
derivation_since p [] x s = s
derivation_since p (e ∷ h) x s = derivation_by p x e h (derivation_since p h x) (opens p e) refl (derived p e) refl s

abbrev made : Derivation → Look → PmkR1 → Transition
made x l k = record { key = x; asked = l.name; r1_name = k.name }

same_transition : (x y : Transition) → Some x ≡ Some y → x ≡ y
same_transition x y is = cc

made_key : (o : Option Derivation) (l : Option Look) (k : Option PmkR1) (t : Transition) → made_by o l k ≡ Some t → o ≡ Some t.key
made_key None l k t is = absurd cc
made_key (Some x) None k t is = absurd cc
made_key (Some x) (Some l) None t is = absurd cc
made_key (Some x) (Some l) (Some k) t is = ap (λ (z : Transition). Some z.key) (same_transition (made x l k) t is)

key_of_part : (p : Node) (h part : List Act) (t : Transition) → attempt p h ≡ Some part → (b : Bool) → cond b (made_of p h part) None ≡ Some t → derivation p h ≡ Some t.key
key_of_part p h part t at false is = absurd cc
key_of_part p h part t at true is =
    derivation_since p h t.key (subst (λ (y : List Act). derivation p y ≡ Some t.key) (sym (since_part p h part at)) (made_key (derivation p part) _ _ t is))

key_of_attempt : (p : Node) (h : List Act) (t : Transition) (o : Option (List Act)) → attempt p h ≡ o → transition_in p h o ≡ Some t → derivation p h ≡ Some t.key
key_of_attempt p h t None at is = absurd cc
key_of_attempt p h t (Some part) at is = key_of_part p h part t at (is_by_roam part) is

transition_key : (p : Node) (h : List Act) (t : Transition) → transition p h ≡ Some t → derivation p h ≡ Some t.key
transition_key p h t is = key_of_attempt p h t (attempt p h) refl is

session_key_by : (p : Node) (h : List Act) (t : Transition) → (session_transition p h ≡ Some t → session p h ≡ Some t.key) → (b c : Bool)
    → option_and_then (λ (before : List Act). transition p before) (cond b (Some h) (cond c None (before_finished p h))) ≡ Some t → cond b (derivation p h) (cond c None (session p h)) ≡ Some t.key
session_key_by p h t more true c is = transition_key p h t is
session_key_by p h t more false true is = absurd cc
session_key_by p h t more false false is = more is

pub session_key : (p : Node) (h : List Act) (t : Transition) → session_transition p h ≡ Some t → session p h ≡ Some t.key
session_key p [] t is = absurd cc
session_key p (e ∷ h) t is = session_key_by p h t (session_key p h t) (finishes p e) (closes p e) is

-- of the target that is held
pub held_session : (d : Domain) (n p : Node) (s : TargetState) (h : List Act) → HeldStands d n p (Some s) h → session p h ≡ Some (transition_of d n p s).key
held_session d n p s h st = let i : IsHeld d n p s h = installed d n p s h st.0 st.1 in session_key p h (transition_of d n p s) i.is

-- without a session there is none that came of a fast transition
pub no_session : (p : Node) (h : List Act) → session p h ≡ None → session_transition p h ≡ None
no_session p h none = by (session_transition p h) refl
  where
    by : (o : Option Transition) → session_transition p h ≡ o → o ≡ None
    by None is = refl
    by (Some t) is = absurd (let both : None ≡ Some t.key = sym none ∙ session_key p h t is in cc both)

pub nothing_stands : (d : Domain) (n p : Node) (h : List Act) → attempt p h ≡ None → session p h ≡ None → HasMoves d n p no_moves h
nothing_stands d n p h none nothing = record {
  pending = no_attempt p h none;
  held = no_session p h nothing;
  other = subst (λ (o : Option (List Act)). IsOther None o) (sym none) tt;
}

-- and where there is nothing, none stands
pub pending_none : (d : Domain) (n p : Node) (o : Option TargetState) (h : List Act) → attempt p h ≡ None → PendingStands d n p o h → o ≡ None
pending_none d n p None h none st = refl
pending_none d n p (Some s) h none st = let i : IsPending d n p s h = not_installed d n p s h st.0 st.1 in absurd (let both : None ≡ Some i.part = sym none ∙ i.awaited in cc both)

pub held_none : (d : Domain) (n p : Node) (o : Option TargetState) (h : List Act) → session p h ≡ None → HeldStands d n p o h → o ≡ None
held_none d n p None h none st = refl
held_none d n p (Some s) h none st = let i : IsHeld d n p s h = installed d n p s h st.0 st.1 in absurd (let both : None ≡ Some (transition_of d n p s) = sym (no_session p h none) ∙ i.is in cc both)

-- ---- an attempt begins by association

pub opened_connect : (d : Domain) (n p : Node) (m : Moves) (h : List Act) → HasMoves d n p m h → HasMoves d n p (without_pending m) (Opened p Connect ∷ h)
opened_connect d n p m h has = record {
  pending = ap (λ (o : Option (List Act)). transition_in p (Opened p Connect ∷ h) o) (attempt_begins p (Opened p Connect) h (same-refl p));
  held = held_stands_more d n p m.held (Opened p Connect) h (record { closes_none = refl; finishes_none = refl }) has.held;
  other = subst (λ (o : Option (List Act)). IsOther None o) (sym (attempt_begins p (Opened p Connect) h (same-refl p))) refl;
}

-- an attempt begins that renews the key of a session
pub opened_renewal : (d : Domain) (n p : Node) (m : Moves) (h : List Act) → HasMoves d n p m h → HasMoves d n p (without_pending m) (Opened p Renew ∷ h)
opened_renewal d n p m h has = record {
  pending = ap (λ (o : Option (List Act)). transition_in p (Opened p Renew ∷ h) o) (attempt_begins p (Opened p Renew) h (same-refl p));
  held = held_stands_more d n p m.held (Opened p Renew) h (record { closes_none = refl; finishes_none = refl }) has.held;
  other = subst (λ (o : Option (List Act)). IsOther None o) (sym (attempt_begins p (Opened p Renew) h (same-refl p))) refl;
}

-- an act that neither begins nor ends an attempt leaves an attempt by a four-way handshake one
pub connect_more : (d : Domain) (n p : Node) (o : Option TargetState) (e : Act) (h : List Act) → opens p e ≡ false → ends p e ≡ false → closes p e ≡ false → finishes p e ≡ false
    → HasMoves d n p (record { pending = None; held = o }) h → HasMoves d n p (record { pending = None; held = o }) (e ∷ h)
connect_more d n p o e h opens_none ends_none closes_none finishes_none has =
    let at : IsOther None (attempt p (e ∷ h)) = other_more p None e h opens_none ends_none has.other in
    record {
      pending = other_none p (e ∷ h) at;
      held = held_stands_more d n p o e h (record { closes_none = closes_none; finishes_none = finishes_none }) has.held;
      other = at;
    }

-- so its key is derived
pub derived_connect : (d : Domain) (n p : Node) (o : Option TargetState) (i : Inputs) (k : Ptk) (h : List Act) → HasMoves d n p (record { pending = None; held = o }) h
    → HasMoves d n p (record { pending = None; held = o }) (Derived p i k ∷ h)
derived_connect d n p o i k h has = connect_more d n p o (Derived p i k) h refl refl refl refl has

-- ---- the attempt ends

pub closed_attempt : (d : Domain) (n : Node) (sta : ℕ) (m : Moves) (h : List Act) → HasMoves d n (Sta sta) m h → HasMoves d n (Sta sta) (without_pending m) (Closed (Sta sta) Attempt ∷ h)
closed_attempt d n sta m h has =
    let none : attempt (Sta sta) (Closed (Sta sta) Attempt ∷ h) ≡ None = attempt_ends (Sta sta) (Closed (Sta sta) Attempt) h refl (same-refl (Sta sta)) in
    record {
      pending = no_attempt (Sta sta) (Closed (Sta sta) Attempt ∷ h) none;
      held = held_stands_more d n (Sta sta) m.held (Closed (Sta sta) Attempt) h (record { closes_none = refl; finishes_none = refl }) has.held;
      other = subst (λ (o : Option (List Act)). IsOther None o) (sym none) tt;
    }

-- ---- the session ends

closed_none : (p : Node) (h : List Act) → session_transition p (Closed p Session ∷ h) ≡ None
closed_none p h = ap (λ (b : Bool). option_and_then (λ (before : List Act). transition p before) (cond b None (before_finished p h))) (same-refl p)

pending_beside : (d : Domain) (n p : Node) (s : TargetState) (h : List Act) → IsPending d n p s h → IsPending d n p s (Closed p Session ∷ h)
pending_beside d n p s h i = record {
  is = closed_more p h ∙ i.is;
  part = Closed p Session ∷ i.part;
  awaited = attempt_more p (Closed p Session) h i.part refl refl i.awaited;
  stored = ap (λ (o : Option Stored). or_else o (stored p kind.FtResp (Closed p Session))) i.stored;
}

pending_closed : (d : Domain) (n p : Node) (o : Option TargetState) (h : List Act) → PendingStands d n p o h → PendingStands d n p o (Closed p Session ∷ h)
pending_closed d n p None h none = closed_more p h ∙ none
pending_closed d n p (Some s) h st = (
  st.0,
  record {
    suite = st.1.suite;
    place = st.1.place;
    holds = subst (λ (b : Bool). IsHeldOrPending b d n p s (Closed p Session ∷ h)) (sym st.0) (pending_beside d n p s h (not_installed d n p s h st.0 st.1));
  },
)

pub closed_session : (d : Domain) (n p : Node) (m : Moves) (h : List Act) → HasMoves d n p m h → HasMoves d n p (without_held m) (Closed p Session ∷ h)
closed_session d n p m h has = record {
  pending = pending_closed d n p m.pending h has.pending;
  held = closed_none p h;
  other = other_more p m.pending (Closed p Session) h refl refl has.other;
}

-- ---- a session begins that came of an attempt by a four-way handshake

finished_none : (p : Node) (i : Inputs) (h : List Act) → transition p h ≡ None → session_transition p (Finished p i ∷ h) ≡ None
finished_none p i h none =
    ap (λ (b : Bool). option_and_then (λ (before : List Act). transition p before) (cond b (Some h) (cond (closes p (Finished p i)) None (before_finished p h)))) (same-refl p) ∙ none

pub finished_connect : (d : Domain) (n : Node) (sta : ℕ) (i : Inputs) (o : Option TargetState) (h : List Act) → HasMoves d n (Sta sta) (record { pending = None; held = o }) h
    → HasMoves d n (Sta sta) no_moves (Finished (Sta sta) i ∷ h)
finished_connect d n sta i o h has =
    let none : attempt (Sta sta) (Finished (Sta sta) i ∷ h) ≡ None = attempt_ends (Sta sta) (Finished (Sta sta) i) h refl (same-refl (Sta sta)) in
    record {
      pending = no_attempt (Sta sta) (Finished (Sta sta) i ∷ h) none;
      held = finished_none (Sta sta) i h has.pending;
      other = subst (λ (z : Option (List Act)). IsOther None z) (sym none) tt;
    }

-- M4 is taken: the acts that put a key with the key holder begin and end nothing
pub taken_m4 : (d : Domain) (n : Node) (sta : ℕ) (octets : List ℕ) (k : KeyMessage) (x : Derivation) (old : Option Derivation) (put : List Act) (o : Option TargetState) (h : List Act)
    → AllByRecursion (Passes (Sta sta)) put → HasMoves d n (Sta sta) (record { pending = None; held = o }) h → HasMoves d n (Sta sta) no_moves (add (m4_acts octets k (Sta sta) x old put) h)
taken_m4 d n sta octets k x old put o h all has = by old
  where
    p : Node
    p = Sta sta

    took : Act
    took = Took (Some p) octets (kind.Key M4) Accepted (Some (frame_seal x.ptk.kck k.octets))

    installs : Act
    installs = Installed (One p) (Pairwise x.ptk.tk x.inputs)

    came : HasMoves d n p (record { pending = None; held = o }) (took ∷ h)
    came = moves_more d n p _ took h (took_passes p (Some p) octets (kind.Key M4) Accepted _) has

    by : (old : Option Derivation) → HasMoves d n p no_moves (add (m4_acts octets k p x old put) h)
    by None = moves_add d n p no_moves put _ all (finished_connect d n sta x.inputs o (installs ∷ took ∷ h) (moves_more d n p _ installs (took ∷ h) (installed_passes p _ _) came))
    by (Some y) = moves_add d n p no_moves put _ all
        (finished_connect d n sta x.inputs None (installs ∷ Closed p Session ∷ took ∷ h)
        (moves_more d n p _ installs (Closed p Session ∷ took ∷ h) (installed_passes p _ _) (closed_session d n p _ (took ∷ h) came)))

-- ---- all that there is with a station is dropped

ended : (p : Node) (h : List Act) → session p (Closed p Session ∷ h) ≡ None
ended p h = ap (λ (b : Bool). cond b None (session p h)) (same-refl p)

pub expired : (d : Domain) (n : Node) (sta : ℕ) (h : List Act) → HasMoves d n (Sta sta) no_moves (add (expire_acts (Sta sta) h) h)
expired d n sta h = by (attempt p h) (session p h) refl refl
  where
    p : Node
    p = Sta sta

    by : (a : Option (List Act)) (s : Option Derivation) → attempt p h ≡ a → session p h ≡ s → HasMoves d n p no_moves (add (or_nothing (close_attempt p a ++ close_session p s)) h)
    by None None none nothing = moves_more d n p no_moves (Idle why.Nothing) h (idle_passes p why.Nothing) (nothing_stands d n p h none nothing)
    by (Some part) None at nothing = nothing_stands d n p (Closed p Attempt ∷ h) (attempt_ends p (Closed p Attempt) h refl (same-refl p)) (session_more p (Closed p Attempt) h refl refl ∙ nothing)
    by None (Some x) none at = nothing_stands d n p (Closed p Session ∷ h) (attempt_none p (Closed p Session) h refl none) (ended p h)
    by (Some part) (Some x) at has = nothing_stands d n p (Closed p Session ∷ Closed p Attempt ∷ h)
        (attempt_none p (Closed p Session) (Closed p Attempt ∷ h) refl (attempt_ends p (Closed p Attempt) h refl (same-refl p))) (ended p (Closed p Attempt ∷ h))
