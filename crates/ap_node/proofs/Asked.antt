-- An authentication request, at the place of its station.
use Rattle.std.proofs.Common.{◌≡◌, ◌≢◌, ℕ, Bool, true, false, List, Option, Some, None, Result, Ok, Err, is_some, refl, sym, ap, subst, ◌∙◌}
use Rattle.std.specs.Prelude.{IfOk, OnOk, OnErr, ◌&&◌, not}
use Rattle.std.specs.Map.{set_value}
use Rattle.key_hierarchy.specs.declared.answers.PullAnswer.{PullAnswer}
use Rattle.run_journal.specs.declared.acts.Act.{Act}
use Rattle.run_journal.specs.declared.acts.Outcome.{Outcome}
use Rattle.run_journal.specs.declared.acts.Outcome.TheVariants.{Refused}
use Rattle.run_journal.specs.declared.acts.Reason.{Reason}
use Rattle.run_journal.specs.declared.reply.Keyed.{Keyed}
use Rattle.ft_exchange.specs.State.{TargetState}
use Rattle.ft_exchange.specs.TargetSteps.{HasBegun}
use Rattle.targets.specs.declared.moves.Moves.{Moves}
use Rattle.targets.specs.declared.taken.Taken.{Taken}
use Rattle.targets.specs.Steps.{Request, AuthTaken}
use Rattle.targets.proofs.Authing.{same_moves}
use Rattle.ap_node.specs.declared.station.Station.{Station}
use Rattle.ap_node.specs.declared.station.Attempt.{Attempt as Trying}
use Rattle.ap_node.specs.declared.station.Attempt.TheVariants.{Association, Transition}
use Rattle.ap_node.specs.declared.station.Session.{Session as Kept}
use Rattle.ap_node.specs.State.{is_there, station_at, has_attempt, pending_by, associated, with_pending, held_by, with_held, without_held, moves_in, with_moves, without_moves}
use Rattle.ap_node.specs.Making.{IsMade, unmade}
use Rattle.ap_node.specs.Moving.{begun_key, begun_of, pending_beside}
use Rattle.ap_node.proofs.InUse.{the_station}
use Rattle.ap_node.proofs.AtPlaces.{at, is_there_as, read_some, put_others, put_back, unmade_is}
use Rattle.ap_node.proofs.TransitingFrames.{same_beside}

-- ---- the fast transitions out of the place and back

held_back : (o : Option Kept) → with_held (held_by o) (without_held o) ≡ o
held_back None = refl
held_back (Some s) = refl

pending_put : (q : Option TargetState) (o : Option Trying) → pending_by (with_pending q (associated o)) ≡ q
pending_put (Some t) o = refl
pending_put None None = refl
pending_put None (Some (Association a)) = refl
pending_put None (Some (Transition t)) = refl

attempt_back : (o : Option Trying) → with_pending (pending_by o) (associated o) ≡ o
attempt_back None = refl
attempt_back (Some (Association a)) = refl
attempt_back (Some (Transition t)) = refl

pub moves_back : (x : Station) → with_moves (moves_in x) (without_moves x) ≡ x
moves_back x = λ i. the_station (attempt_back x.attempt i) (held_back x.session i)

put_is : (m : Moves) (x : Station) → m.held ≡ held_by x.session → with_moves m (without_moves x) ≡ pending_beside m.pending x
put_is m x held = ap (λ (o : Option Kept). the_station (with_pending m.pending (associated x.attempt)) o) (ap (λ (h : Option TargetState). with_held h (without_held x.session)) held ∙ held_back x.session)

put_moves : (m : Moves) (x : Station) → m.held ≡ held_by x.session → moves_in (pending_beside m.pending x) ≡ m
put_moves m x held = same_moves (moves_in (pending_beside m.pending x)) m (pending_put m.pending x.attempt) (sym held)

module _ (m was : Moves) (x y z : Station) (was_is : was ≡ moves_in x) (out : y ≡ without_moves x) (back : z ≡ with_moves m y) where
  put_so : z ≡ with_moves m (without_moves x)
  put_so = back ∙ ap (with_moves m) out

  -- the session came of what it did
  abbrev IsHeldStill : Type 0
  IsHeldStill = m.held ≡ was.held

  held_is : IsHeldStill → m.held ≡ held_by x.session
  held_is still = still ∙ ap (λ (w : Moves). w.held) was_is

  moves_are : IsHeldStill → moves_in z ≡ m
  moves_are still = ap moves_in (put_so ∙ put_is m x (held_is still)) ∙ put_moves m x (held_is still)

  beside_is : IsHeldStill → z ≡ pending_beside (moves_in z).pending x
  beside_is still = put_so ∙ put_is m x (held_is still) ∙ ap (λ (w : Moves). pending_beside w.pending x) (sym (moves_are still))

  pub asked_taken : {E : Type 0} (r : Result Taken E) (q : Request) (v : Option (List ℕ)) (had : Bool) (Looks : Option PullAnswer → Type 0) (before after : List Act) → had ≡ has_attempt x
      → IfOk r (λ t. AuthTaken q v had Looks before after was m t) → IfOk r (λ t. AuthTaken q v (has_attempt x) Looks before after (moves_in x) (moves_in z) t)
  asked_taken (Ok t) q v had Looks before after had_is w =
      subst (λ (b : Bool). AuthTaken q v b Looks before after (moves_in x) (moves_in z) t) had_is
      (subst (λ (n : Moves). AuthTaken q v had Looks before after (moves_in x) n t) (sym (moves_are w.moves.held))
      (subst (λ (o : Moves). AuthTaken q v had Looks before after o m t) was_is w))
  asked_taken (Err e) q v had Looks before after had_is w = tt

  pub asked_beside : {E : Type 0} (r : Result Taken E) (q : Request) (v : Option (List ℕ)) (had : Bool) (Looks : Option PullAnswer → Type 0) (before after : List Act)
      → IfOk r (λ t. AuthTaken q v had Looks before after was m t) → OnOk r (z ≡ pending_beside (moves_in z).pending x)
  asked_beside (Ok t) q v had Looks before after w = beside_is w.moves.held
  asked_beside (Err e) q v had Looks before after w = tt

  pub asked_same : {A E : Type 0} (r : Result A E) → OnErr r (m ≡ was) → OnErr r (z ≡ x)
  asked_same (Ok t) same = tt
  asked_same (Err e) same = put_so ∙ ap (λ (w : Moves). with_moves w (without_moves x)) (same ∙ was_is) ∙ moves_back x

-- ---- in the place that was found

pub asked_at : {E : Type 0} (r : Result Taken E) (q : Request) (v : Option (List ℕ)) (Looks : Option PullAnswer → Type 0) (before after : List Act) (o n x z : Station) → o ≡ x → n ≡ z
    → IfOk r (λ t. AuthTaken q v (has_attempt x) Looks before after (moves_in x) (moves_in z) t) → IfOk r (λ t. AuthTaken q v (has_attempt o) Looks before after (moves_in o) (moves_in n) t)
asked_at r q v Looks before after o n x z was now w =
    subst (λ (s : Station). IfOk r (λ t. AuthTaken q v (has_attempt s) Looks before after (moves_in s) (moves_in n) t)) (sym was)
    (subst (λ (s : Station). IfOk r (λ t. AuthTaken q v (has_attempt x) Looks before after (moves_in x) (moves_in s) t)) (sym now) w)

pub beside_at : {A E : Type 0} (r : Result A E) (o n x z : Station) → o ≡ x → n ≡ z → OnOk r (z ≡ pending_beside (moves_in z).pending x) → OnOk r (n ≡ pending_beside (moves_in n).pending o)
beside_at (Ok t) o n x z was now is = subst (λ (s : Station). n ≡ pending_beside (moves_in n).pending s) (sym was) (subst (λ (s : Station). s ≡ pending_beside (moves_in s).pending x) (sym now) is)
beside_at (Err e) o n x z was now is = tt

-- ---- where an attempt was begun the place stays, and else a new one goes

-- without one begun the fast transitions are as they were
unbegun : (q : Request) (v : Option (List ℕ)) (had : Bool) (Looks : Option PullAnswer → Type 0) (before after : List Act) (old new : Moves) (t : Taken) → AuthTaken q v had Looks before after old new t → begun_key t.outcome t.key ≡ None → new ≡ old
unbegun q v had Looks before after old new t w none = by t.outcome refl
  where
    quiet : (y : Option Keyed) → y ≡ None → HasBegun y old.pending new.pending → new ≡ old
    quiet None none begun = same_moves new old begun w.moves.held
    quiet (Some y) none begun = absurd (cc none)

    by : (o : Outcome) → t.outcome ≡ o → new ≡ old
    by (Refused why) is = w.moves.refused why is
    by _ is = quiet w.reply.derived (sym w.moves.key ∙ sym (ap (λ (z : Outcome). begun_key z t.key) is) ∙ none) w.moves.begun

pub record IsRequested {E : Type 0} (r : Result Taken E) (q : Request) (v : Option (List ℕ)) (Looks : Option PullAnswer → Type 0) (before after : List Act) (k : ℕ) (old new : List (ℕ × Station)) : Type 0 where
  pub taken : IfOk r (λ t. AuthTaken q v (has_attempt (station_at old k)) Looks before after (moves_in (station_at old k)) (moves_in (station_at new k)) t)
  pub beside : OnOk r (station_at new k ≡ pending_beside (moves_in (station_at new k)).pending (station_at old k))
  pub others : (j : ℕ) → j ≢ k → station_at new j ≡ station_at old j
  pub refused : IfOk r (λ t. (why : Reason) → t.outcome ≡ Refused why → new ≡ old)
  pub same : OnErr r (new ≡ old)

none_of : {A : Type 0} (o : Option A) → not (is_some o) ≡ true → o ≡ None
none_of None is = refl
none_of (Some x) is = absurd (cc is)

some_of : {A : Type 0} (o : Option A) → not (is_some o) ≡ false → o ≡ None → ⊥
some_of None is none = cc is
some_of (Some x) is none = cc none

module _ {E : Type 0} (r : Result Taken E) (q : Request) (v : Option (List ℕ)) (Looks : Option PullAnswer → Type 0) (before after : List Act) (k : ℕ) (old made asked final : List (ℕ × Station))
    (same : (j : ℕ) → station_at made j ≡ station_at old j) (there : is_there k made ≡ true) (set : asked ≡ set_value (at k) made (station_at asked k))
    (told : IfOk r (λ t. AuthTaken q v (has_attempt (station_at made k)) Looks before after (moves_in (station_at made k)) (moves_in (station_at asked k)) t))
    (beside : OnOk r (station_at asked k ≡ pending_beside (moves_in (station_at asked k)).pending (station_at made k)))
    (err : OnErr r (asked ≡ made)) where
  abbrev The : Type 0
  The = IsRequested r q v Looks before after k old final

  -- the place stays
  stays : final ≡ asked → IfOk r (λ t. (why : Reason) → t.outcome ≡ Refused why → final ≡ old) → OnErr r (final ≡ old) → The
  stays is refused failed =
      let now = ap (λ (l : List (ℕ × Station)). station_at l k) is in
      record {
        taken = asked_at r q v Looks before after (station_at old k) (station_at final k) (station_at made k) (station_at asked k) (sym (same k)) now told;
        beside = beside_at r (station_at old k) (station_at final k) (station_at made k) (station_at asked k) (sym (same k)) now beside;
        others = λ j other. ap (λ (l : List (ℕ × Station)). station_at l j) is ∙ put_others k made asked (station_at asked k) set j other ∙ same j;
        refused = refused;
        same = failed;
      }

  -- one that there was
  place_back : station_at asked k ≡ station_at made k → asked ≡ made
  place_back is =
      let x = is_there_as k made there in
      put_back k made asked x.0 (station_at asked k) x.1 set (is ∙ read_some made k x.0 x.1)

  pub was_there : made ≡ old → final ≡ asked → The
  was_there old_is is = stays is (by r told beside) (failed r err)
    where
      by : (r : Result Taken E) → IfOk r (λ t. AuthTaken q v (has_attempt (station_at made k)) Looks before after (moves_in (station_at made k)) (moves_in (station_at asked k)) t)
          → OnOk r (station_at asked k ≡ pending_beside (moves_in (station_at asked k)).pending (station_at made k)) → IfOk r (λ t. (why : Reason) → t.outcome ≡ Refused why → final ≡ old)
      by (Ok t) w at = λ why refused. (let kept = w.moves.refused why refused in
          is ∙ place_back (at ∙ ap (λ (m : Moves). pending_beside m.pending (station_at made k)) kept ∙ same_beside (station_at made k)) ∙ old_is)
      by (Err e) w at = tt

      failed : (r : Result Taken E) → OnErr r (asked ≡ made) → OnErr r (final ≡ old)
      failed (Ok t) at = tt
      failed (Err e) at = is ∙ at ∙ old_is

  -- a new one, where an attempt was begun
  pub was_begun : not (is_some (begun_of r)) ≡ false → final ≡ asked → The
  was_begun begun is = stays is (by r begun) (failed r begun)
    where
      by : (r : Result Taken E) → not (is_some (begun_of r)) ≡ false → IfOk r (λ t. (why : Reason) → t.outcome ≡ Refused why → final ≡ old)
      by (Ok t) begun = λ why refused. absurd (some_of (begun_key t.outcome t.key) begun (ap (λ (o : Outcome). begun_key o t.key) refused))
      by (Err e) begun = tt

      failed : (r : Result Taken E) → not (is_some (begun_of r)) ≡ false → OnErr r (final ≡ old)
      failed (Ok t) begun = tt
      failed (Err e) begun = absurd (cc begun)

  -- a new one, where none was
  pub was_in_vain : not (is_some (begun_of r)) ≡ true → final ≡ old → The
  was_in_vain none is =
      let now : station_at final k ≡ station_at old k = ap (λ (l : List (ℕ × Station)). station_at l k) is in
      record {
        taken = by r none told;
        beside = beside_by r (now ∙ sym (same_beside (station_at old k)) ∙ ap (λ (s : Station). pending_beside (moves_in s).pending (station_at old k)) (sym now));
        others = λ j other. ap (λ (l : List (ℕ × Station)). station_at l j) is;
        refused = refused_by r;
        same = same_by r;
      }
    where
      by : (r : Result Taken E) → not (is_some (begun_of r)) ≡ true → IfOk r (λ t. AuthTaken q v (has_attempt (station_at made k)) Looks before after (moves_in (station_at made k)) (moves_in (station_at asked k)) t)
          → IfOk r (λ t. AuthTaken q v (has_attempt (station_at old k)) Looks before after (moves_in (station_at old k)) (moves_in (station_at final k)) t)
      by (Ok t) none w =
          let kept = unbegun q v _ Looks before after (moves_in (station_at made k)) (moves_in (station_at asked k)) t w (none_of (begun_key t.outcome t.key) none) in
          let now : moves_in (station_at asked k) ≡ moves_in (station_at final k) = kept ∙ ap moves_in (same k ∙ sym (ap (λ (l : List (ℕ × Station)). station_at l k) is)) in
          subst (λ (s : Station). AuthTaken q v (has_attempt s) Looks before after (moves_in s) (moves_in (station_at final k)) t) (same k)
          (subst (λ (m : Moves). AuthTaken q v (has_attempt (station_at made k)) Looks before after (moves_in (station_at made k)) m t) now w)
      by (Err e) none w = tt

      beside_by : {P : Type 0} (r : Result Taken E) → P → OnOk r P
      beside_by (Ok t) at = at
      beside_by (Err e) at = tt

      refused_by : (r : Result Taken E) → IfOk r (λ t. (why : Reason) → t.outcome ≡ Refused why → final ≡ old)
      refused_by (Ok t) = λ why refused. is
      refused_by (Err e) = tt

      same_by : (r : Result Taken E) → OnErr r (final ≡ old)
      same_by (Ok t) = tt
      same_by (Err e) = is

  -- as the code comes by it
  pub requested : (is_new in_vain : Bool) → IsMade is_new k old made → in_vain ≡ not (is_some (begun_of r)) → final ≡ unmade (is_new && in_vain) k asked → The
  requested false in_vain made_is vain is = was_there made_is is
  requested true false made_is vain is = was_begun (sym vain) is
  requested true true made_is vain is = was_in_vain (sym vain) (is ∙ unmade_is k old made asked (station_at asked k) made_is set)
