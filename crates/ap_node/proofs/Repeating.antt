-- What is sent once more.
use Rattle.std.proofs.Common.{◌≡◌, ℕ, ◌+◌, ◌<◌, ◌≤◌, ◌^◌, Bool, true, false, cond, List, length, [], ◌∷◌, ◌++◌, Option, Some, None, refl, sym, ap, subst, ◌∙◌, arith, inl, inr}
use Rattle.std.specs.Prelude.{◌≢◌, ◌-◌, ◌⊎◌, take, is_some, option_map, ◌==◌}
use Rattle.std.specs.List.{AllByRecursion}
use Rattle.domain_base.specs.declared.names.Node.{Node}
use Rattle.domain_base.specs.declared.names.Node.TheVariants.{Ap, Sta}
use Rattle.eapol_key.specs.declared.messages.Message.{Message}
use Rattle.eapol_key.specs.declared.messages.Message.TheVariants.{M1, M2, M3, M4, G1, G2}
use Rattle.run_journal.specs.declared.domain.Domain.{Domain}
use Rattle.run_journal.specs.declared.acts.Part.{Part as PartName}
use Rattle.run_journal.specs.declared.acts.Part.TheVariants.{Attempt as OfAttempt, Session as OfSession}
use Rattle.run_journal.specs.declared.acts.Reason.{Reason}
use Rattle.run_journal.specs.declared.acts.Why.TheVariants as why
use Rattle.run_journal.specs.declared.acts.Outcome.{Outcome}
use Rattle.run_journal.specs.declared.acts.Outcome.TheVariants.{Refused, Done, Idle as IdleBy}
use Rattle.run_journal.specs.declared.acts.Act.{Act}
use Rattle.run_journal.specs.declared.acts.Act.TheVariants.{Closed, GaveUp, Idle}
use Rattle.run_journal.specs.declared.reply.Reply.{Reply}
use Rattle.run_journal.specs.Acts.{same}
use Rattle.run_journal.specs.Questions.{attempt, session, draws, add}
use Rattle.domain_rules.specs.Here.{here}
use Rattle.domain_rules.specs.Replies.{frame_acts, sent_acts}
use Rattle.domain_rules.specs.Network.{draw_end}
use Rattle.domain_rules.specs.AccessPointRows.{retry_session}
use Rattle.domain_rules.specs.Rows.{Retry, outcome_of}
use Rattle.domain_rules.proofs.Parts.{IsApart, apart-closed, apart-closed_session, apart-idle}
use Rattle.group_key.specs.declared.news.News.{News}
use Rattle.node_base.specs.Events.{seen}
use Rattle.act_memory.proofs.RepliedActs.{sent_about, about_draws, about_others}
use Rattle.ap_node.specs.declared.station.Station.{Station}
use Rattle.authenticator.specs.State.{State as Part, with_session}
use Rattle.authenticator.specs.Stands.{HasAttempt, HasSession, AuthenticatorStands}
use Rattle.authenticator.specs.Beside.{LeavesAgain}
use Rattle.authenticator.specs.Kinds.{Kinds, kinds, kinds_without, kinds_again}
use Rattle.authenticator.specs.declared.attempt.Attempt.{Attempt}
use Rattle.authenticator.specs.Steps.{part_of, again_acts}
use Rattle.authenticator.specs.Taken.{Newest, RetriesFrom}
use Rattle.authenticator.specs.declared.session.Session.{Session}
use Rattle.authenticator.specs.declared.authenticator.Again.{Again}
use Rattle.authenticator.specs.declared.authenticator.Again.TheVariants as again
use Rattle.authenticator.proofs.Handshaking.{counters_low, owing_no_session}
use Rattle.authenticator.proofs.Asking.{no_retry}
use Rattle.authenticator.proofs.Standing.{has_session}
use Rattle.targets.specs.declared.moves.Moves.{Moves}
use Rattle.targets.specs.Stands.{HasMoves}
use Rattle.ft_exchange.specs.State.{TargetState}
use Rattle.ap_node.specs.declared.station.Attempt.{Attempt as Trying}
use Rattle.ap_node.specs.declared.station.Attempt.TheVariants.{Association}
use Rattle.ap_node.specs.declared.station.Session.{Session as Kept}
use Rattle.ap_node.specs.State.{State, station_at, renewal_by, attempt_by, attempt_in, pending_by, session_by, session_in, key_by, key_in, held_by, moves_in, newest_of}
use Rattle.ap_node.specs.Keys.{key_of_session, HasKey}
use Rattle.ap_node.specs.Moving.{given_up_moves}
use Rattle.ap_node.proofs.ToldMoves.{again_moves}
use Rattle.ap_node.specs.Stands.{AllPlain, IsTried, IsRenewing, IsOfSession, IsKept, HasPart, StandsSoFar, Stands}
use Rattle.ap_node.specs.Parts.{IsNotByAssociation, attempt_again, session_again, AttemptAgain, KeptAgain, IsAgainInSession, IsSentAgain, IsResent}
use Rattle.ap_node.specs.Takes.{Does, IsDone, IsBeside}
use Rattle.ap_node.proofs.Others.{IsSameGroup, about_group, far_on, same-idle}
use Rattle.ap_node.proofs.InUse.{again_leaves, key_again}
use Rattle.ap_node.proofs.Attempts.{kind_some, kind_renews, kind_none}
use Rattle.ap_node.proofs.Hearing.{kept_beside, unrenewed_beside, no_attempt_by}
use Rattle.ap_node.proofs.Refusing.{no_session_for}
use Rattle.ap_node.proofs.Standing.{draws_low, session_there, part_on, stands_with_one, is_newest}
use Rattle.ap_node.proofs.Plain.{plain_again}

-- ---- what the acts of a retry leave

apart-gave_up : (p q : Node) (m : Message) → IsApart p (GaveUp q m)
apart-gave_up p q m = record { opens_none = refl; ends_none = refl; accepts_none = λ k. refl; replies_none = λ k. refl; sends_none = λ x. refl; derives_none = refl; finishes_none = refl; closes_none = refl }

apart-part : (q : ℕ) (p : Node) (part : PartName) → same (Sta q) p ≡ false → IsApart (Sta q) (Closed p part)
apart-part q p OfAttempt other = apart-closed q p other
apart-part q p OfSession other = apart-closed_session (Sta q) p other

again-group : (p : Node) (came : Again) (r : Reply) (h : List Act) → IsSameGroup h (add (again_acts p came r) h)
again-group p again.Sent r h = about_group p (sent_acts p r) h (sent_about p r)
again-group p (again.GaveUp m) r h = record { keys_are = λ x. refl; switches_are = λ x. refl; uses_are = λ x. refl }
again-group p again.Nothing r h = (same-idle why.Nothing h).group

again-draws : (p : Node) (came : Again) (r : Reply) (h : List Act) → draws (add (again_acts p came r) h) ≡ draws h
again-draws p again.Sent r h = about_draws p (sent_acts p r) h (sent_about p r)
again-draws p (again.GaveUp m) r h = refl
again-draws p again.Nothing r h = refl

again-apart : (q : ℕ) (p : Node) (came : Again) (r : Reply) → same (Sta q) p ≡ false → AllByRecursion (IsApart (Sta q)) (again_acts p came r)
again-apart q p again.Sent r other = about_others p q (sent_acts p r) other (sent_about p r)
again-apart q p (again.GaveUp m) r other = (apart-gave_up (Sta q) p m, (apart-part q p (part_of m) other, tt))
again-apart q p again.Nothing r other = (apart-idle (Sta q) why.Nothing, tt)

-- ---- a retry is never refused

frame_done : (p : Node) (r : Reply) (b : Bool) → outcome_of (cond b [] (frame_acts p r (take r.len r.octets))) ≡ Done
frame_done p r true = refl
frame_done p r false = refl

pub sent_done : (p : Node) (r : Reply) → Done ≡ outcome_of (sent_acts p r)
sent_done p r = sym (frame_done p r (r.len == 0))

never_refused : (p : Node) (came : Again) (r : Reply) (o : Outcome) (why_ : Reason) → o ≡ outcome_of (again_acts p came r) → o ≡ Refused why_ → ⊥
never_refused p again.Sent r o why_ is refused = cc (is, refused, sent_done p r)
never_refused p (again.GaveUp m) r o why_ is refused = cc (is, refused)
never_refused p again.Nothing r o why_ is refused = cc (is, refused)

-- ---- the part sends once more, or there is none

-- the newest group keys, as the parts are given them
pub newest_at : (d : Domain) (first : ℕ) (s : State) (sta : ℕ) (x : Part) (h : List Act) → StandsSoFar d first s h → AuthenticatorStands d (Ap s.number) (Sta sta) x h → Newest d (Sta sta) (newest_of s) h
newest_at d first s sta x h so_far at = record {
  newest = is_newest d first s h so_far;
  low = counters_low d (Ap s.number) (Sta sta) x.session h at.session_is (draws_low d first s h so_far);
}

-- ---- what was sent again, beside the rest of what there is with the station

pub record IsTriedAgain (d : Domain) (n : Node) (sta : ℕ) (newest : News) (came : Again) (r : Reply) (old new : Station) (h : List Act) : Type 0 where
  pub was : Part
  pub now : Part
  pub stands : AuthenticatorStands d n (Sta sta) was h
  pub retries : RetriesFrom was now newest came r
  pub there : Bool
  pub lasts : is_some now.session ≡ there
  pub key : key_in new ≡ key_of_session there (key_in old)
  pub moves : moves_in new ≡ given_up_moves (outcome_of (again_acts (Sta sta) came r)) (moves_in old)
  pub after : (l : List Act) → AuthenticatorStands d n (Sta sta) now l → HasKey (Sta sta) (session (Sta sta) l) (key_in new) l → HasPart d n sta new l

none_by : {A : Type 0} (o : Option A) → is_some o ≡ false → o ≡ None
none_by None is = refl
none_by (Some x) is = absurd (cc is)

-- the fast transitions where an attempt was sent again, or given up
kept_moves : (p : Node) (came : Again) (r : Reply) (m : Moves) → ((g : Message) → came ≡ again.GaveUp g → g ≢ G1) → m ≡ given_up_moves (outcome_of (again_acts p came r)) m
kept_moves p again.Sent r m other = ap (λ (o : Outcome). given_up_moves o m) (sent_done p r)
kept_moves p again.Nothing r m other = refl
kept_moves p (again.GaveUp M1) r m other = refl
kept_moves p (again.GaveUp M2) r m other = refl
kept_moves p (again.GaveUp M3) r m other = refl
kept_moves p (again.GaveUp M4) r m other = refl
kept_moves p (again.GaveUp G1) r m other = absurd (other G1 refl refl)
kept_moves p (again.GaveUp G2) r m other = refl

not_g1 : (o : Option Attempt) (came : Again) (old new : Part) → is_some o ≡ true → LeavesAgain o came old new → (g : Message) → came ≡ again.GaveUp g → g ≢ G1
not_g1 None came old new some leaves g is = absurd (cc some)
not_g1 (Some a) again.Sent old new some leaves g is = absurd (cc is)
not_g1 (Some a) again.Nothing old new some leaves g is = absurd leaves
not_g1 (Some a) (again.GaveUp m) old new some leaves g is = subst (λ (x : Message). x ≢ G1) (named is) leaves.0
  where
    named : again.GaveUp m ≡ again.GaveUp g → m ≡ g
    named is = cc is

-- what there is then: without the attempt, where that is given up
again_part : (d : Domain) (n : Node) (sta : ℕ) (was part : Part) (came : Again) (x : Station) (l : List Act) → (kinds was).attempt ≡ Some false → IsKept d n (Sta sta) (Some (Association was)) x.session → kinds part ≡ kinds_again came (kinds was)
    → ((g : Message) → came ≡ again.GaveUp g → part.attempt ≡ None)
    → AuthenticatorStands d n (Sta sta) (with_session (session_in x) part) l → HasKey (Sta sta) (session (Sta sta) l) (key_in x) l → HasPart d n sta (record { attempt = attempt_again part came; session = x.session }) l
again_part d n sta was part again.Sent x l begun kept kinds_are gone stands key = record {
  tried = (stands.ends, ap (λ (k : Kinds). k.attempt) kinds_are ∙ begun);
  kept = kept_beside d n (Sta sta) (Association was) (Some (Association part)) x.session kept;
  attempt_is = stands.attempt_is;
  session_is = stands.session_is;
  key = key;
}
again_part d n sta was part again.Nothing x l begun kept kinds_are gone stands key = record {
  tried = (stands.ends, ap (λ (k : Kinds). k.attempt) kinds_are ∙ begun);
  kept = kept_beside d n (Sta sta) (Association was) (Some (Association part)) x.session kept;
  attempt_is = stands.attempt_is;
  session_is = stands.session_is;
  key = key;
}
again_part d n sta was part (again.GaveUp m) x l begun kept kinds_are gone stands key = record {
  tried = tt;
  kept = kept_beside d n (Sta sta) (Association was) None x.session kept;
  attempt_is = subst (λ (o : Option Attempt). HasAttempt d n (Sta sta) o l) (gone m refl ∙ sym (unrenewed_beside d n (Sta sta) (Association was) x.session kept)) stands.attempt_is;
  session_is = stands.session_is;
  key = key;
}

abbrev the_moves : Option TargetState → Option TargetState → Moves
the_moves pending held = record { pending = pending; held = held }

again_pending : (part : Part) (came : Again) → pending_by (attempt_again part came) ≡ None
again_pending part again.Sent = refl
again_pending part again.Nothing = refl
again_pending part (again.GaveUp m) = refl

-- the attempt is gone that is given up
gone_by : (o : Option Attempt) (came : Again) (old new : Part) → is_some o ≡ true → LeavesAgain o came old new → (g : Message) → came ≡ again.GaveUp g → new.attempt ≡ None
gone_by None came old new some leaves g is = absurd (cc some)
gone_by (Some a) again.Sent old new some leaves g is = absurd (cc is)
gone_by (Some a) again.Nothing old new some leaves g is = absurd leaves
gone_by (Some a) (again.GaveUp m) old new some leaves g is = leaves.1

pub again_in_attempt : (d : Domain) (n : Node) (sta : ℕ) (newest : News) (came : Again) (r : Reply) (old new : Station) (h : List Act) → HasPart d n sta old h → AttemptAgain newest old new came r → IsTriedAgain d n sta newest came r old new h
again_in_attempt d n sta newest came r old new h at by =
    let p = Sta sta in
    let tried : IsTried d n p (Some (Association by.was)) = subst (λ (o : Option Trying). IsTried d n p o) by.there at.tried in
    let stays : IsKept d n p (Some (Association by.was)) old.session = subst (λ (o : Option Trying). IsKept d n p o old.session) by.there at.kept in
    let some = kind_some by.was false tried.1 in
    let now : Station = record { attempt = attempt_again by.part came; session = old.session } in
    let kept : moves_in now ≡ moves_in old = ap (λ (o : Option TargetState). the_moves o (held_by old.session)) (again_pending by.part came ∙ sym (ap pending_by by.there)) in
    record {
      was = with_session (session_in old) by.was;
      now = with_session (session_in old) by.part;
      stands = record { ends = tried.0; attempt_is = subst (λ (o : Option Trying). HasAttempt d n p (attempt_by o old.session) h) by.there at.attempt_is; session_is = at.session_is };
      retries = by.retries (session_in old) (kind_renews by.was false tried.1) some;
      there = is_some (session_in old);
      lasts = refl;
      key = ap key_in by.is ∙ kept_key old.session (session_there d n sta old h at);
      moves = ap moves_in by.is ∙ kept ∙ kept_moves p came r (moves_in old) (not_g1 by.was.attempt came by.was by.part some by.leaves);
      after = λ l stands key. subst (λ (z : Station). HasPart d n sta z l) (sym by.is)
          (again_part d n sta by.was by.part came old l tried.1 stays by.kinds_are (gone_by by.was.attempt came by.was by.part some by.leaves) stands (subst (λ (z : Station). HasKey p (session p l) (key_in z) l) by.is key));
    }
  where
    kept_key : (o : Option Kept) → is_some o ≡ is_some (session_by o) → key_by o ≡ key_of_session (is_some (session_by o)) (key_by o)
    kept_key None same = refl
    kept_key (Some s) same = ap (λ (b : Bool). key_of_session b (Some s.key)) same

-- ---- in the session

abbrev the_station : Option Trying → Option Kept → Station
the_station attempt session = record { attempt = attempt; session = session }

both : {a b : Option Trying} {o q : Option Kept} → a ≡ b → o ≡ q → the_station a o ≡ the_station b q
both e f = λ i. the_station (e i) (f i)

-- what is given up is not the session
abbrev IsNotG1 : Again → Type 0
IsNotG1 came = (g : Message) → came ≡ again.GaveUp g → g ≢ G1

stays_in : (part : Part) (s : Kept) (came : Again) → IsNotG1 came → session_again part s came ≡ Some (record { part = part; key = s.key; came_of = s.came_of })
stays_in part s again.Sent other = refl
stays_in part s again.Nothing other = refl
stays_in part s (again.GaveUp M1) other = refl
stays_in part s (again.GaveUp M2) other = refl
stays_in part s (again.GaveUp M3) other = refl
stays_in part s (again.GaveUp M4) other = refl
stays_in part s (again.GaveUp G1) other = absurd (other G1 refl refl)
stays_in part s (again.GaveUp G2) other = refl

session_kept : (came : Again) (k : Kinds) → IsNotG1 came → (kinds_again came k).session ≡ k.session
session_kept again.Sent k other = refl
session_kept again.Nothing k other = refl
session_kept (again.GaveUp M1) k other = refl
session_kept (again.GaveUp M2) k other = refl
session_kept (again.GaveUp M3) k other = refl
session_kept (again.GaveUp M4) k other = refl
session_kept (again.GaveUp G1) k other = absurd (other G1 refl refl)
session_kept (again.GaveUp G2) k other = refl

none_without : (m : Message) (k : Kinds) → k.attempt ≡ None → (kinds_without m k).attempt ≡ None
none_without G1 k none = none
none_without M1 k none = refl
none_without M2 k none = refl
none_without M3 k none = refl
none_without M4 k none = refl
none_without G2 k none = refl

-- without an attempt there is none then
none_then : (came : Again) (k : Kinds) → k.attempt ≡ None → (kinds_again came k).attempt ≡ None
none_then again.Sent k none = none
none_then again.Nothing k none = none
none_then (again.GaveUp m) k none = none_without m k none

-- the attempt goes on, or is given up
of_without : (d : Domain) (o : Option Trying) (m : Message) (k : Kinds) → IsNotG1 (again.GaveUp m) → IsOfSession d o k → IsOfSession d o (kinds_without m k)
of_without d o G1 k other of = absurd (other G1 refl refl)
of_without d o M1 k other of = record { attempt = inl refl; session = of.session }
of_without d o M2 k other of = record { attempt = inl refl; session = of.session }
of_without d o M3 k other of = record { attempt = inl refl; session = of.session }
of_without d o M4 k other of = record { attempt = inl refl; session = of.session }
of_without d o G2 k other of = record { attempt = inl refl; session = of.session }

of_again : (d : Domain) (o : Option Trying) (came : Again) (k : Kinds) → IsNotG1 came → IsOfSession d o k → IsOfSession d o (kinds_again came k)
of_again d o again.Sent k other of = of
of_again d o again.Nothing k other of = of
of_again d o (again.GaveUp m) k other of = of_without d o m k other of

some_session_kind : (x y : Part) → (kinds x).session ≡ (kinds y).session → is_some x.session ≡ is_some y.session
some_session_kind x y is = by x.session y.session is
  where
    by : (o q : Option Session) → option_map (λ (t : Session). is_some t.association) o ≡ option_map (λ (t : Session). is_some t.association) q → is_some o ≡ is_some q
    by None None is = refl
    by None (Some t) is = absurd (cc is)
    by (Some t) None is = absurd (cc is)
    by (Some t) (Some u) is = refl

module _ (d : Domain) (n : Node) (sta : ℕ) (newest : News) (came : Again) (r : Reply) (old new : Station) (h : List Act) (at : HasPart d n sta old h) (alone : IsNotByAssociation old.attempt) (same : new.attempt ≡ old.attempt)
    (by : KeptAgain newest old.session new.session came r) where
  abbrev p : Node
  p = Sta sta

  abbrev s : Kept
  s = by.s

  abbrev its : Kept
  its = record { part = by.part; key = s.key; came_of = s.came_of }

  kept_is : IsKept d n p old.attempt (Some s)
  kept_is = subst (λ (o : Option Kept). IsKept d n p old.attempt o) by.there at.kept

  new_is : new ≡ the_station old.attempt (session_again by.part s came)
  new_is = both same by.is

  some_session : is_some s.part.session ≡ true
  some_session = sym (sym (ap (λ (o : Option Kept). is_some o) by.there) ∙ session_there d n sta old h at ∙ ap (λ (o : Option Kept). is_some (session_by o)) by.there)

  stood : attempt_in old ≡ s.part.attempt → AuthenticatorStands d n p s.part h
  stood is = record {
    ends = kept_is.0;
    attempt_is = subst (λ (o : Option Attempt). HasAttempt d n p o h) is at.attempt_is;
    session_is = subst (λ (o : Option Kept). HasSession d n p (session_by o) h) by.there at.session_is;
  }

  -- the session goes on, with the attempt or without
  goes_on : IsNotG1 came → attempt_in old ≡ s.part.attempt → attempt_by old.attempt (Some its) ≡ by.part.attempt → IsTriedAgain d n sta newest came r old new h
  goes_on other was now =
      let stays : session_again by.part s came ≡ Some its = stays_in by.part s came other in
      let is : new ≡ the_station old.attempt (Some its) = new_is ∙ ap (the_station old.attempt) stays in
      let of : IsOfSession d old.attempt (kinds by.part) = subst (IsOfSession d old.attempt) (sym by.kinds_are) (of_again d old.attempt came (kinds s.part) other kept_is.1) in
      let there_is : is_some by.part.session ≡ true = some_session_kind by.part s.part (ap (λ (k : Kinds). k.session) by.kinds_are ∙ session_kept came (kinds s.part) other) ∙ some_session in
      record {
        was = s.part;
        now = by.part;
        stands = stood was;
        retries = by.retries;
        there = is_some by.part.session;
        lasts = refl;
        key = ap key_in is ∙ sym (ap (λ (b : Bool). key_of_session b (Some s.key)) there_is) ∙ sym (ap (λ (o : Option Kept). key_of_session (is_some by.part.session) (key_by o)) by.there);
        moves = ap moves_in is ∙ sym (ap (λ (o : Option Kept). the_moves (pending_by old.attempt) (held_by o)) by.there) ∙ kept_moves p came r (moves_in old) other;
        after = λ l stands key. subst (λ (z : Station). HasPart d n sta z l) (sym is) (record {
          tried = at.tried;
          kept = (stands.ends, of);
          attempt_is = subst (λ (o : Option Attempt). HasAttempt d n p o l) (sym now) stands.attempt_is;
          session_is = stands.session_is;
          key = subst (λ (z : Station). HasKey p (session p l) (key_in z) l) is key;
        });
      }

  -- the session is given up
  gives_up : (m : Message) → came ≡ again.GaveUp m → m ≡ G1 → by.part.attempt ≡ None → by.part.session ≡ None → attempt_in old ≡ s.part.attempt → IsTriedAgain d n sta newest came r old new h
  gives_up m came_is last no_attempt no_session was =
      let came_g1 : came ≡ again.GaveUp G1 = came_is ∙ ap again.GaveUp last in
      let is : new ≡ the_station old.attempt None = new_is ∙ ap (λ (c : Again). the_station old.attempt (session_again by.part s c)) came_g1 in
      record {
        was = s.part;
        now = by.part;
        stands = stood was;
        retries = by.retries;
        there = is_some by.part.session;
        lasts = refl;
        key = ap key_in is ∙ sym (ap (λ (o : Option Session). key_of_session (is_some o) (key_in old)) no_session);
        moves = ap moves_in is ∙ sym (ap (λ (c : Again). given_up_moves (outcome_of (again_acts p c r)) (moves_in old)) came_g1);
        after = λ l stands key. subst (λ (z : Station). HasPart d n sta z l) (sym is) (record {
          tried = at.tried;
          kept = tt;
          attempt_is = subst (λ (o : Option Attempt). HasAttempt d n p o l) (no_attempt ∙ sym (no_attempt_by old.attempt None alone refl)) stands.attempt_is;
          session_is = subst (λ (o : Option Session). HasSession d n p o l) no_session stands.session_is;
          key = subst (λ (z : Station). HasKey p (session p l) (key_in z) l) is key;
        });
      }

  -- without an attempt
  again_plainly : (kinds s.part).attempt ≡ None → IsTriedAgain d n sta newest came r old new h
  again_plainly no_kind = by_came came refl (subst (λ (o : Option Attempt). LeavesAgain o came s.part by.part) none by.leaves)
    where
      none : s.part.attempt ≡ None
      none = kind_none s.part no_kind

      was : attempt_in old ≡ s.part.attempt
      was = no_attempt_by old.attempt old.session alone (ap renewal_by by.there ∙ none) ∙ sym none

      none_now : by.part.attempt ≡ None
      none_now = kind_none by.part (ap (λ (k : Kinds). k.attempt) by.kinds_are ∙ none_then came (kinds s.part) no_kind)

      now : attempt_by old.attempt (Some its) ≡ by.part.attempt
      now = no_attempt_by old.attempt (Some its) alone none_now ∙ sym none_now

      by_came : (c : Again) → came ≡ c → LeavesAgain None came s.part by.part → IsTriedAgain d n sta newest came r old new h
      by_came again.Sent is leaves = goes_on (λ g gave. absurd (cc (is, gave))) was now
      by_came again.Nothing is leaves = goes_on (λ g gave. absurd (cc (is, gave))) was now
      by_came (again.GaveUp m) is leaves =
          let w : LeavesAgain None (again.GaveUp m) s.part by.part = subst (λ (c : Again). LeavesAgain None c s.part by.part) is leaves in
          gives_up m is w.0 w.1 w.2 was

  -- and with one that renews the key
  again_alone : (kinds s.part).attempt ≡ Some true → old.attempt ≡ None → IsTriedAgain d n sta newest came r old new h
  again_alone begun none = goes_on (not_g1 s.part.attempt came s.part by.part (kind_some s.part true begun) by.leaves)
      (ap (λ (o : Option Trying). attempt_by o old.session) none ∙ ap renewal_by by.there) (ap (λ (o : Option Trying). attempt_by o (Some its)) none)

  pub again_in_session : IsTriedAgain d n sta newest came r old new h
  again_in_session = either kept_is.1.attempt
    where
      either : ((kinds s.part).attempt ≡ None) ⊎ IsRenewing d old.attempt (kinds s.part) → IsTriedAgain d n sta newest came r old new h
      either (inl none) = again_plainly none
      either (inr renewing) = again_alone renewing.begun renewing.alone

-- ---- the row of a retry

retried : (d : Domain) (old new : State) (sta : ℕ) (acts waited : List Act) (outcome : Outcome) (came : Again) (r : Reply) → IsBeside old new sta → sta < length d.stas → length d.stas < 2 ^ 64 - 1 → outcome ≡ outcome_of acts → acts ≡ again_acts (Sta sta) came r → (first : ℕ) (h : List Act) → Stands d first old h
    → IsTriedAgain d (Ap old.number) sta (newest_of old) came r (station_at old.stations sta) (station_at new.stations sta) h
    → Does (here d first (Ap old.number)) (Retry sta) (StandsSoFar d first new) AllPlain h (seen waited (waited ++ acts) outcome)
retried d old new sta acts waited outcome came r beside low few came_is says first h stands x =
    let n = Ap old.number in
    let p = Sta sta in
    let so_far = stands.so_far in
    let at = so_far.parts sta in
    let o = station_at old.stations sta in
    let y = x.retries d old.number sta h x.stands (newest_at d first old sta x.was h so_far x.stands) in
    let said = again_acts p came r in
    let there_is : is_some (session p (add said h)) ≡ x.there = has_session d n p x.now.session (add said h) y.stands.session_is ∙ x.lasts in
    record {
      acts = said;
      row = sym y.adds;
      waiting = ap (λ (l : List Act). waited ++ l) says;
      came = came_is ∙ ap outcome_of says;
      stands = stands_with_one d first old new h (add said h) sta so_far (record {
        number = beside.number;
        drawn = beside.drawn ∙ so_far.draws_are ∙ ap (λ (m : ℕ). first + m) (sym (again-draws p came r h));
        drawn_low = subst (λ (m : ℕ). m ≤ draw_end) (sym beside.drawn) so_far.draws_low;
        group = beside.group;
        sending = beside.sending;
        listed = λ past. absurd (omega (arith, past, low));
        counted = beside.counts (length d.stas) low few so_far.counted;
        same_group = again-group p came r h;
        here = x.after (add said h) y.stands (key_again p x.there came r (key_in o) (key_in (station_at new.stations sta)) h x.key there_is at.key);
        others = beside.others;
        goes = λ k other. far_on (Sta k) said h (again-apart k p came r other) (again_leaves (Sta k) p came r);
        moves = subst (λ (m : Moves). HasMoves d n p m (add said h)) (sym x.moves) (again_moves d n sta came r (moves_in o) h (sent_done p r) y.adds (so_far.moves sta));
      });
      marks = plain_again p came r;
    }

idled : (d : Domain) (old new : State) (sta : ℕ) (waited : List Act) → IsBeside old new sta → sta < length d.stas → length d.stas < 2 ^ 64 - 1 → (station_at old.stations sta).session ≡ None → IsNotByAssociation (station_at old.stations sta).attempt → station_at new.stations sta ≡ station_at old.stations sta
    → (first : ℕ) (h : List Act) → Stands d first old h → Does (here d first (Ap old.number)) (Retry sta) (StandsSoFar d first new) AllPlain h (seen waited (waited ++ Idle why.Nothing ∷ []) (IdleBy why.Nothing))
idled d old new sta waited beside low few no_session alone same_is first h stands =
    let n = Ap old.number in
    let o = station_at old.stations sta in
    let so_far = stands.so_far in
    let at = so_far.parts sta in
    let none = subst (λ (q : Option Attempt). HasAttempt d n (Sta sta) q h) (no_attempt_by o.attempt o.session alone (ap renewal_by no_session)) at.attempt_is in
    let unowed = owing_no_session (Sta sta) h (no_session_for d n sta o h no_session at) in
    let same = same-idle why.Nothing h in
    record {
      acts = Idle why.Nothing ∷ [];
      row = sym (no_retry d n (Sta sta) h (attempt (Sta sta) h) none ∙ ap (retry_session d n h (Sta sta)) unowed);
      waiting = refl;
      came = refl;
      stands = stands_with_one d first old new h (Idle why.Nothing ∷ h) sta so_far (record {
        number = beside.number;
        drawn = beside.drawn ∙ so_far.draws_are;
        drawn_low = subst (λ (m : ℕ). m ≤ draw_end) (sym beside.drawn) so_far.draws_low;
        group = beside.group;
        sending = beside.sending;
        listed = λ past. absurd (omega (arith, past, low));
        counted = beside.counts (length d.stas) low few so_far.counted;
        same_group = same.group;
        here = subst (λ (x : Station). HasPart d n sta x (Idle why.Nothing ∷ h)) (sym same_is) (part_on d n sta o h (Idle why.Nothing ∷ h) (same.each (Sta sta)) at);
        others = beside.others;
        goes = λ k other. same.each (Sta k);
        moves = subst (λ (x : Station). HasMoves d n (Sta sta) (moves_in x) (Idle why.Nothing ∷ h)) (sym same_is) ((same.each (Sta sta)).keeps_moves d n (moves_in o) (so_far.moves sta));
      });
      marks = ((tt, refl), tt);
    }

idled_as : (d : Domain) (old new : State) (sta : ℕ) (acts waited : List Act) (outcome : Outcome) → IsBeside old new sta → sta < length d.stas → length d.stas < 2 ^ 64 - 1 → outcome ≡ outcome_of acts → acts ≡ Idle why.Nothing ∷ [] → (station_at old.stations sta).session ≡ None
    → IsNotByAssociation (station_at old.stations sta).attempt → station_at new.stations sta ≡ station_at old.stations sta → (first : ℕ) (h : List Act) → Stands d first old h
    → Does (here d first (Ap old.number)) (Retry sta) (StandsSoFar d first new) AllPlain h (seen waited (waited ++ acts) outcome)
idled_as d old new sta acts waited outcome beside low few came_is told no_session alone same first h stands =
    subst (λ (g : List Act). Does (here d first (Ap old.number)) (Retry sta) (StandsSoFar d first new) AllPlain h (seen waited (waited ++ g) outcome)) (sym told)
    (subst (λ (o : Outcome). Does (here d first (Ap old.number)) (Retry sta) (StandsSoFar d first new) AllPlain h (seen waited (waited ++ Idle why.Nothing ∷ []) o)) (sym (came_is ∙ ap outcome_of told))
    (idled d old new sta waited beside low few no_session alone same first h stands))

idle_refused : (o : Outcome) (why_ : Reason) → o ≡ IdleBy why.Nothing → o ≡ Refused why_ → ⊥
idle_refused o why_ is refused = cc (is, refused)

by_again : (d : Domain) (old new : State) (sta : ℕ) (acts waited : List Act) (outcome : Outcome) (came : Again) (r : Reply) → IsBeside old new sta → sta < length d.stas → length d.stas < 2 ^ 64 - 1 → outcome ≡ outcome_of acts → acts ≡ again_acts (Sta sta) came r
    → IsSentAgain (newest_of old) (station_at old.stations sta) (station_at new.stations sta) came r → (first : ℕ) (h : List Act) → Stands d first old h
    → Does (here d first (Ap old.number)) (Retry sta) (StandsSoFar d first new) AllPlain h (seen waited (waited ++ acts) outcome)
by_again d old new sta acts waited outcome came r beside low few came_is says (inl x) first h stands =
    retried d old new sta acts waited outcome came r beside low few came_is says first h stands (again_in_attempt d (Ap old.number) sta (newest_of old) came r _ _ h (stands.so_far.parts sta) x)
by_again d old new sta acts waited outcome came r beside low few came_is says (inr x) first h stands = by x.again_is
  where
    by : IsAgainInSession (newest_of old) (station_at old.stations sta).session (station_at new.stations sta).session came r → Does (here d first (Ap old.number)) (Retry sta) (StandsSoFar d first new) AllPlain h (seen waited (waited ++ acts) outcome)
    by (inl y) = retried d old new sta acts waited outcome came r beside low few came_is says first h stands (again_in_session d (Ap old.number) sta (newest_of old) came r _ _ h (stands.so_far.parts sta) x.alone x.attempt y)
    by (inr y) = idled_as d old new sta acts waited outcome beside low few came_is (says ∙ ap (λ (a : Again). again_acts (Sta sta) a r) y.nothing) y.none x.alone (both x.attempt y.is) first h stands

pub retries : (d : Domain) (old new : State) (sta : ℕ) (acts waited : List Act) (outcome : Outcome) → IsBeside old new sta → sta < length d.stas → length d.stas < 2 ^ 64 - 1 → outcome ≡ outcome_of acts → IsResent sta (newest_of old) (station_at old.stations sta) (station_at new.stations sta) acts
    → IsDone d (Retry sta) old new (seen waited (waited ++ acts) outcome)
retries d old new sta acts waited outcome beside low few came_is (inl x) = record {
  number = beside.number;
  does = λ first h stands. by_again d old new sta acts waited outcome x.came x.reply beside low few came_is x.says x.again_is first h stands;
  refused = λ why_ is. absurd (never_refused (Sta sta) x.came x.reply outcome why_ (came_is ∙ ap outcome_of x.says) is);
}
retries d old new sta acts waited outcome beside low few came_is (inr x) = record {
  number = beside.number;
  does = λ first h stands. idled_as d old new sta acts waited outcome beside low few came_is x.says x.none x.alone x.is first h stands;
  refused = λ why_ is. absurd (idle_refused outcome why_ (came_is ∙ ap outcome_of x.says) is);
}

-- as the code comes by them
pub resent_as : (sta : ℕ) (g newest : News) (o was new : Station) (acts : List Act) → g ≡ newest → o ≡ was → IsResent sta g o new acts → IsResent sta newest was new acts
resent_as sta g newest o was new acts group here x =
    subst (λ (z : News). IsResent sta z was new acts) group (subst (λ (z : Station). IsResent sta g z new acts) here x)
