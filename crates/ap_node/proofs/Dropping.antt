-- What there is with a station is dropped.
use Rattle.std.proofs.Common.{◌≡◌, ℕ, ◌+◌, ◌<◌, ◌≤◌, ◌^◌, Bool, true, false, List, length, ◌∷◌, ◌++◌, Option, Some, None, refl, sym, ap, subst, ◌∙◌, arith}
use Rattle.std.specs.Prelude.{◌-◌, is_some}
use Rattle.std.specs.List.{AllByRecursion}
use Rattle.domain_base.specs.declared.names.Node.{Node}
use Rattle.domain_base.specs.declared.names.Node.TheVariants.{Ap, Sta}
use Rattle.run_journal.specs.declared.domain.Domain.{Domain}
use Rattle.run_journal.specs.declared.acts.Part.TheVariants.{Attempt as OfAttempt, Session as OfSession}
use Rattle.run_journal.specs.declared.acts.Reason.{Reason}
use Rattle.run_journal.specs.declared.acts.Why.TheVariants as why
use Rattle.run_journal.specs.declared.acts.Outcome.{Outcome}
use Rattle.run_journal.specs.declared.acts.Outcome.TheVariants.{Refused}
use Rattle.run_journal.specs.declared.acts.Act.{Act}
use Rattle.run_journal.specs.declared.acts.Act.TheVariants.{Closed, Idle}
use Rattle.run_journal.specs.Acts.{same, Derivation}
use Rattle.run_journal.specs.Questions.{attempt, session, draws, add}
use Rattle.domain_rules.specs.Network.{draw_end}
use Rattle.domain_rules.specs.Closing.{close_attempt, close_session, or_nothing}
use Rattle.domain_rules.specs.AccessPointRows.{expire_acts}
use Rattle.domain_rules.specs.Rows.{Expire, outcome_of}
use Rattle.domain_rules.proofs.Parts.{same-refl, IsApart, apart-closed, apart-closed_session, apart-idle, attempt_ends, attempt_none}
use Rattle.node_base.specs.Events.{seen}
use Rattle.ap_node.specs.declared.station.Station.{Station}
use Rattle.authenticator.proofs.Standing.{no_connect}
use Rattle.targets.specs.State.{no_moves}
use Rattle.targets.specs.Stands.{HasMoves}
use Rattle.targets.proofs.Beginning.{expired}
use Rattle.ap_node.specs.State.{State, no_station, station_at, has_attempt, has_session, moves_in}
use Rattle.ap_node.specs.Keys.{HasKey}
use Rattle.ap_node.specs.Stands.{HasPart}
use Rattle.ap_node.specs.Takes.{IsDone, IsBeside, expired_acts}
use Rattle.ap_node.proofs.Others.{IsSameGroup, AllLeave, far_on}
use Rattle.ap_node.proofs.Standing.{any_session, stands_with_one}
use Rattle.ap_node.proofs.Attempts.{any_attempt}
use Rattle.ap_node.proofs.Plain.{plain_expired}

-- ---- the acts

by_history : (p : Node) (a : Option (List Act)) (s : Option Derivation) → expired_acts p (is_some a) (is_some s) ≡ or_nothing (close_attempt p a ++ close_session p s)
by_history p None None = refl
by_history p None (Some x) = refl
by_history p (Some part) None = refl
by_history p (Some part) (Some x) = refl

expired_is : (d : Domain) (n : Node) (sta : ℕ) (x : Station) (h : List Act) → HasPart d n sta x h → HasMoves d n (Sta sta) (moves_in x) h → expired_acts (Sta sta) (has_attempt x) (has_session x) ≡ expire_acts (Sta sta) h
expired_is d n sta x h at moves =
    same_tests (sym (any_attempt d n sta x h at moves)) (sym (any_session d n sta x h at))
    ∙ by_history (Sta sta) (attempt (Sta sta) h) (session (Sta sta) h)
  where
    same_tests : {a b c e : Bool} → a ≡ b → c ≡ e → expired_acts (Sta sta) a c ≡ expired_acts (Sta sta) b e
    same_tests f g = rw (f, g) refl

-- ---- what they leave

pub none_of : {A : Type 0} (o : Option A) → is_some o ≡ false → o ≡ None
none_of None is = refl
none_of (Some x) is = absurd (cc is)

no_attempt_left : (sta : ℕ) (h : List Act) (a s : Bool) → is_some (attempt (Sta sta) h) ≡ a → attempt (Sta sta) (add (expired_acts (Sta sta) a s) h) ≡ None
no_attempt_left sta h false false is = attempt_none (Sta sta) (Idle why.Nothing) h refl (none_of (attempt (Sta sta) h) is)
no_attempt_left sta h false true is = attempt_none (Sta sta) (Closed (Sta sta) OfSession) h refl (none_of (attempt (Sta sta) h) is)
no_attempt_left sta h true false is = attempt_ends (Sta sta) (Closed (Sta sta) OfAttempt) h refl (same-refl (Sta sta))
no_attempt_left sta h true true is =
    attempt_none (Sta sta) (Closed (Sta sta) OfSession) (Closed (Sta sta) OfAttempt ∷ h) refl (attempt_ends (Sta sta) (Closed (Sta sta) OfAttempt) h refl (same-refl (Sta sta)))

no_session_left : (p : Node) (h : List Act) (a s : Bool) → is_some (session p h) ≡ s → session p (add (expired_acts p a s) h) ≡ None
no_session_left p h false false is = none_of (session p h) is
no_session_left p h false true is = rw (same-refl p) refl
no_session_left p h true false is = none_of (session p h) is
no_session_left p h true true is = rw (same-refl p) refl

expired-group : (p : Node) (a s : Bool) (h : List Act) → IsSameGroup h (add (expired_acts p a s) h)
expired-group p false false h = record { keys_are = λ x. refl; switches_are = λ x. refl; uses_are = λ x. refl }
expired-group p false true h = record { keys_are = λ x. refl; switches_are = λ x. refl; uses_are = λ x. refl }
expired-group p true false h = record { keys_are = λ x. refl; switches_are = λ x. refl; uses_are = λ x. refl }
expired-group p true true h = record { keys_are = λ x. refl; switches_are = λ x. refl; uses_are = λ x. refl }

expired-draws : (p : Node) (a s : Bool) (h : List Act) → draws (add (expired_acts p a s) h) ≡ draws h
expired-draws p false false h = refl
expired-draws p false true h = refl
expired-draws p true false h = refl
expired-draws p true true h = refl

expired-apart : (q : ℕ) (p : Node) (a s : Bool) → same (Sta q) p ≡ false → AllByRecursion (IsApart (Sta q)) (expired_acts p a s)
expired-apart q p false false other = (apart-idle (Sta q) why.Nothing, tt)
expired-apart q p false true other = (apart-closed_session (Sta q) p other, tt)
expired-apart q p true false other = (apart-closed q p other, tt)
expired-apart q p true true other = (apart-closed q p other, (apart-closed_session (Sta q) p other, tt))

expired-leaves : (q p : Node) (a s : Bool) → AllLeave q (expired_acts p a s)
expired-leaves q p false false tk = (record { used = λ h. refl; got = λ tid h. refl }, tt)
expired-leaves q p false true tk = (record { used = λ h. refl; got = λ tid h. refl }, tt)
expired-leaves q p true false tk = (record { used = λ h. refl; got = λ tid h. refl }, tt)
expired-leaves q p true true tk = (record { used = λ h. refl; got = λ tid h. refl }, (record { used = λ h. refl; got = λ tid h. refl }, tt))

never_refused : (p : Node) (a s : Bool) (o : Outcome) (why_ : Reason) → o ≡ outcome_of (expired_acts p a s) → o ≡ Refused why_ → ⊥
never_refused p false false o why_ is refused = cc (is, refused)
never_refused p false true o why_ is refused = cc (is, refused)
never_refused p true false o why_ is refused = cc (is, refused)
never_refused p true true o why_ is refused = cc (is, refused)

-- where there is neither an attempt nor a session
pub nothing_left : (d : Domain) (n : Node) (sta : ℕ) (h : List Act) → attempt (Sta sta) h ≡ None → session (Sta sta) h ≡ None → HasPart d n sta no_station h
nothing_left d n sta h none no_session = record {
  tried = tt;
  kept = tt;
  attempt_is = no_connect (Sta sta) h none;
  session_is = no_session;
  key = subst (λ (x : Option Derivation). HasKey (Sta sta) x None h) (sym no_session) tt;
}

pub drops : (d : Domain) (old new : State) (sta : ℕ) (a s : Bool) (waited waits : List Act) (outcome : Outcome) → IsBeside old new sta → sta < length d.stas → length d.stas < 2 ^ 64 - 1 → a ≡ has_attempt (station_at old.stations sta) → s ≡ has_session (station_at old.stations sta)
    → station_at new.stations sta ≡ no_station → waits ≡ waited ++ expired_acts (Sta sta) a s → outcome ≡ outcome_of (expired_acts (Sta sta) a s) → IsDone d (Expire sta) old new (seen waited waits outcome)
drops d old new sta a s waited waits outcome beside low few a_is s_is gone waiting came_is = record {
  number = beside.number;
  does = λ first h stands.
      (let n = Ap old.number in
      let p = Sta sta in
      let o = station_at old.stations sta in
      let so_far = stands.so_far in
      let at = so_far.parts sta in
      let has = so_far.moves sta in
      let said = expired_acts p a s in
      let has_a : is_some (attempt p h) ≡ a = any_attempt d n sta o h at has ∙ sym a_is in
      let has_s : is_some (session p h) ≡ s = any_session d n sta o h at ∙ sym s_is in
      let row_is : said ≡ expire_acts p h = both a_is s_is ∙ expired_is d n sta o h at has in
      record {
        acts = said;
        row = row_is;
        waiting = waiting;
        came = came_is;
        stands = stands_with_one d first old new h (add said h) sta so_far (record {
          number = beside.number;
          drawn = beside.drawn ∙ so_far.draws_are ∙ ap (λ (m : ℕ). first + m) (sym (expired-draws p a s h));
          drawn_low = subst (λ (m : ℕ). m ≤ draw_end) (sym beside.drawn) so_far.draws_low;
          group = beside.group;
          sending = beside.sending;
          listed = λ past. absurd (omega (arith, past, low));
          counted = beside.counts (length d.stas) low few so_far.counted;
          same_group = expired-group p a s h;
          here = subst (λ (x : Station). HasPart d n sta x (add said h)) (sym gone) (nothing_left d n sta (add said h) (no_attempt_left sta h a s has_a) (no_session_left p h a s has_s));
          others = beside.others;
          goes = λ k other. far_on (Sta k) said h (expired-apart k p a s other) (expired-leaves (Sta k) p a s);
          moves = subst (λ (x : Station). HasMoves d n p (moves_in x) (add said h)) (sym gone) (subst (λ (l : List Act). HasMoves d n p no_moves (add l h)) (sym row_is) (expired d n sta h));
        });
        marks = plain_expired p a s;
      });
  refused = λ why_ is. absurd (never_refused (Sta sta) a s outcome why_ came_is is);
}
  where
    both : {b c e f : Bool} → b ≡ c → e ≡ f → expired_acts (Sta sta) b e ≡ expired_acts (Sta sta) c f
    both g k = rw (g, k) refl
