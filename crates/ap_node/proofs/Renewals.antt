-- An access point renews the pairwise key of a session, as it is asked to or as a packet number of the key is used.
use Rattle.std.proofs.Common.{◌≡◌, ◌∙◌, ◌++◌, ◌+◌, ◌<◌, ◌≤◌, ℕ, suc, Bool, true, false, cond, List, [], ◌∷◌, length, Option, Some, None, refl, sym, ap, subst, arith, inl, inr}
use Rattle.std.specs.Prelude.{◌==◌, ◌&&◌, ◌||◌, not, nat_lt, is_some, option_map}
use Rattle.std.specs.List.{AllByRecursion}
use Rattle.std.proofs.lemmas.Bool.{cases_Bool, eqb-true, eq-eqb, ltb-true, ltb-false}
use Rattle.std.proofs.lemmas.List.{append_assoc}
use Rattle.domain_base.specs.declared.names.Node.{Node}
use Rattle.domain_base.specs.declared.names.Node.TheVariants.{Ap, Sta}
use Rattle.domain_base.specs.declared.names.Peer.TheVariants.{One}
use Rattle.replay_window.specs.Numbers.{last_number}
use Rattle.ccmp_guard.specs.Held.{Held}
use Rattle.run_journal.specs.declared.domain.Domain.{Domain}
use Rattle.run_journal.specs.declared.acts.Start.TheVariants.{Renew as OfRenewal}
use Rattle.run_journal.specs.declared.acts.Drawn.TheVariants.{Nonce}
use Rattle.run_journal.specs.declared.acts.Why.{Why}
use Rattle.run_journal.specs.declared.acts.Why.TheVariants as why
use Rattle.run_journal.specs.declared.acts.Outcome.{Outcome}
use Rattle.run_journal.specs.declared.acts.Outcome.TheVariants.{Done, Idle as IdleBy}
use Rattle.run_journal.specs.declared.acts.Act.{Act}
use Rattle.run_journal.specs.declared.acts.Act.TheVariants.{Opened, Drew, Idle}
use Rattle.run_journal.specs.declared.reply.Reply.{Reply}
use Rattle.run_journal.specs.Acts.{same, Derivation}
use Rattle.run_journal.specs.Questions.{attempt, session, draws, add}
use Rattle.domain_rules.specs.Here.{here}
use Rattle.domain_rules.specs.Network.{nonce, draw_end, renews, renews_at, is_number}
use Rattle.domain_rules.specs.Closing.{next_nonce}
use Rattle.domain_rules.specs.Counters.{next_in_session}
use Rattle.domain_rules.specs.Frames.{sent_m1}
use Rattle.domain_rules.specs.PacketNumbers.{SendKey, send_key}
use Rattle.domain_rules.specs.DataRows.{send_acts_by, and_due}
use Rattle.domain_rules.specs.PairwiseRenewal.{renew_acts, RenewRow, NoSession, Nothing, Spent, Begins}
use Rattle.domain_rules.specs.Replies.{sent_acts}
use Rattle.domain_rules.specs.Rows.{Renew, Send, outcome_of}
use Rattle.domain_rules.proofs.Parts.{IsApart, apart-opened, apart-drew, add_append}
use Rattle.group_key.specs.Keys.{Pairs}
use Rattle.node_base.specs.Events.{seen}
use Rattle.act_memory.proofs.RepliedActs.{sent_about, about_draws, about_others, sent_ends, ends_session}
use Rattle.data_frames.specs.Sending.{send_key_of}
use Rattle.data_frames.proofs.RepliedKeys.{sent_leaves}
use Rattle.authenticator.specs.Groups.{owes_in}
use Rattle.authenticator.specs.Kinds.{Kinds, kinds, has_association, can_renew}
use Rattle.authenticator.specs.State.{State as Part}
use Rattle.authenticator.specs.Stands.{HasAttempt, HasSession, AuthenticatorStands}
use Rattle.authenticator.specs.Steps.{Renews}
use Rattle.authenticator.specs.declared.attempt.Attempt.{Attempt}
use Rattle.authenticator.specs.declared.session.Session.{Session}
use Rattle.authenticator.proofs.Handshaking.{counters_low}
use Rattle.domain_rules.specs.Replies.{pair}
use Rattle.ft_exchange.specs.State.{TargetState}
use Rattle.targets.specs.declared.moves.Moves.{Moves}
use Rattle.targets.specs.State.{without_pending}
use Rattle.targets.specs.Stands.{HasMoves}
use Rattle.targets.proofs.Beginning.{opened_renewal}
use Rattle.targets.proofs.Passing.{moves_more, moves_add, drew_passes}
use Rattle.ap_node.specs.declared.station.Station.{Station}
use Rattle.ap_node.specs.declared.station.Attempt.{Attempt as Trying}
use Rattle.ap_node.specs.declared.station.Session.{Session as Kept}
use Rattle.ap_node.specs.Keys.{HasKey, sent_under, used_in}
use Rattle.ap_node.specs.State.{State, station_at, no_station, renewal_by, attempt_by, attempt_in, pending_by, session_by, session_in, key_by, key_in, held_by, moves_in, has_attempt, has_session, rekeyed}
use Rattle.ap_node.specs.Counts.{owes_part}
use Rattle.ap_node.specs.Renewing.{renewable, obstacle_by, obstacle, is_due_in, is_due_at, renewal_acts, BeginsRenewal, HasUsed}
use Rattle.ap_node.specs.Stands.{AllPlain, IsOfSession, IsKept, HasPart, StandsSoFar, IsSettled, Stands}
use Rattle.ap_node.specs.Takes.{IsTaken}
use Rattle.ap_node.proofs.Others.{IsSameGroup, about_group, AllLeave, keeps, key_as, far_on, same-idle}
use Rattle.ap_node.proofs.Owed.{owes_at, count_same}
use Rattle.ap_node.proofs.Standing.{draws_low, any_session, so_far_as_before, stands_with_one}
use Rattle.ap_node.proofs.Attempts.{any_attempt}
use Rattle.ap_node.proofs.Plain.{plain_append, plain_sent, plain_data}
use Rattle.ap_node.proofs.Ending.{settled_steps}
use Rattle.ap_node.proofs.Refusing.{stays}
use Rattle.ap_node.proofs.ToldMoves.{sent_pass}
use Rattle.ap_node.proofs.InUse.{sends_by}
use Rattle.ap_node.proofs.Traffic.{rekeyed_renewal, sent-draws, sent-unrefused, sent_settled, sent_stands, sent_outcome}

-- ---- what is free to be renewed

and_left : (b c : Bool) → (b && c) ≡ true → b ≡ true
and_left true c is = refl
and_left false c is = absurd (cc is)

and_right : (b c : Bool) → (b && c) ≡ true → c ≡ true
and_right true c is = is
and_right false c is = absurd (cc is)

both_true : {a b : Bool} → a ≡ true → b ≡ true → (a && b) ≡ true
both_true is also = rw (is, also) refl

none_of : {A : Type 0} (o : Option A) → is_some o ≡ false → o ≡ None
none_of None is = refl
none_of (Some x) is = absurd (cc is)

some_of : {A : Type 0} (o : Option A) → is_some o ≡ true → (x : A) × (o ≡ Some x)
some_of None is = absurd (cc is)
some_of (Some x) is = (x, refl)

-- an authenticator without an attempt whose session goes back to an association
can_renew_by : (x : Part) → x.attempt ≡ None → (kinds x).session ≡ Some true → can_renew x ≡ true
can_renew_by x none some = both_true (ap (λ (o : Option Attempt). not (is_some o)) none) (by x.session some)
  where
    by : (o : Option Session) → option_map (λ (t : Session). is_some t.association) o ≡ Some true → has_association o ≡ true
    by None is = absurd (cc is)
    by (Some t) is = cc is

-- neither an attempt beside the session nor one that renews its key
free_of : (o : Option Trying) (b : Bool) → not (is_some o || b) ≡ true → (o ≡ None) × (b ≡ false)
free_of None false is = (refl, refl)
free_of None true is = absurd (cc is)
free_of (Some t) b is = absurd (cc is)

free_attempt : (x : Station) → not (has_attempt x) ≡ true → (x.attempt ≡ None) × (renewal_by x.session ≡ None)
free_attempt x is =
    let free = free_of x.attempt (is_some (renewal_by x.session)) is in
    (free.0, none_of (renewal_by x.session) free.1)

-- in a network that renews keys a session without an attempt can be renewed
free_renews : (d : Domain) (n p : Node) (x : Station) (s : Kept) → x.session ≡ Some s → IsKept d n p x.attempt x.session → renews d ≡ true → not (has_attempt x) ≡ true → can_renew s.part ≡ true
free_renews d n p x s there kept renewed free =
    let its : IsKept d n p x.attempt (Some s) = subst (λ (o : Option Kept). IsKept d n p x.attempt o) there kept in
    can_renew_by s.part (sym (ap renewal_by there) ∙ (free_attempt x free).1) (its.1.session renewed)

-- ---- whether a renewal is due

due_cases : (a b c e f : Bool) (g k : List Act) → (b ≡ true → c ≡ true → f ≡ true) → cond a (cond (b && (c && e)) g k) k ≡ cond ((a && (b && (c && e))) && f) g k
due_cases false b c e f g k so = refl
due_cases true false c e f g k so = refl
due_cases true true false e f g k so = refl
due_cases true true true false f g k so = refl
due_cases true true true true f g k so = sym (ap (λ (z : Bool). cond z g k) (so refl refl))

-- the code tells it as the rules do
pub due_is : (d : Domain) (first a sta : ℕ) (x : Station) (drawn : ℕ) (h acts : List Act) → HasPart d (Ap a) sta x h → HasMoves d (Ap a) (Sta sta) (moves_in x) h → drawn ≡ first + draws h
    → and_due (here d first (Ap a)) (Ap a) h (One (Sta sta)) (option_map send_key_of (key_in x)) acts ≡ cond (is_due_at d drawn x) (acts ++ renew_acts d first (Ap a) h (Sta sta)) acts
due_is d first a sta x drawn h acts at moves drawn_is = by x.session refl
  where
    n : Node
    n = Ap a

    p : Node
    p = Sta sta

    more : List Act
    more = acts ++ renew_acts d first (Ap a) h (Sta sta)

    tests : (used : ℕ) {b c : Bool} {m k : ℕ} → b ≡ c → m ≡ k
        → cond (nat_lt used last_number) (cond (renews_at d (suc used) && (not b && nat_lt m draw_end)) more acts) acts ≡ cond (nat_lt used last_number) (cond (renews_at d (suc used) && (not c && nat_lt k draw_end)) more acts) acts
    tests used e f = rw (e, f) refl

    by : (o : Option Kept) → x.session ≡ o → and_due (here d first (Ap a)) (Ap a) h (One (Sta sta)) (option_map send_key_of (key_by o)) acts ≡ cond (is_due_in d drawn (has_attempt x) o) more acts
    by None is = refl
    by (Some s) is =
        tests s.key.used (any_attempt d n sta x h at moves) (sym drawn_is)
        ∙ due_cases (nat_lt s.key.used last_number) (renews_at d (suc s.key.used)) (not (has_attempt x)) (nat_lt drawn draw_end) (can_renew s.part) more acts
        (λ number free. free_renews d n p x s is at.kept (and_left (renews d) (is_number d.extras.renew_at (suc s.key.used)) number) free)

-- what is known where it is due
pub record IsDue (d : Domain) (drawn : ℕ) (x : Station) : Type 0 where
  pub key : Held
  pub in_use : key_in x ≡ Some key
  pub used : key.used < last_number
  pub renewed : renews d ≡ true
  pub free : not (has_attempt x) ≡ true
  pub low : drawn < draw_end
  pub able : renewable x.session ≡ true

pub due_facts : (d : Domain) (drawn : ℕ) (x : Station) → is_due_at d drawn x ≡ true → IsDue d drawn x
due_facts d drawn x due = by x.session refl due
  where
    by : (o : Option Kept) → x.session ≡ o → is_due_in d drawn (has_attempt x) o ≡ true → IsDue d drawn x
    by None is none = absurd (cc none)
    by (Some s) is some =
        let lasts = nat_lt s.key.used last_number in
        let named = renews_at d (suc s.key.used) in
        let alone = not (has_attempt x) in
        let draws_on = nat_lt drawn draw_end in
        let number = and_left (lasts && (named && (alone && draws_on))) (can_renew s.part) some in
        let rest = and_right lasts (named && (alone && draws_on)) number in
        let last = and_right named (alone && draws_on) rest in
        record {
          key = s.key;
          in_use = ap key_by is;
          used = ltb-true s.key.used last_number (and_left lasts (named && (alone && draws_on)) number);
          renewed = and_left (renews d) (is_number d.extras.renew_at (suc s.key.used)) (and_left named (alone && draws_on) rest);
          free = and_left alone draws_on last;
          low = ltb-true drawn draw_end (and_right alone draws_on last);
          able = ap renewable is ∙ and_right (lasts && (named && (alone && draws_on))) (can_renew s.part) some;
        }

-- ---- a renewal begins

-- the acts of it, after that history
module _ (d : Domain) (n p : Node) (v : List ℕ) (r : Reply) where
  abbrev acts_of : List Act
  acts_of = renewal_acts p v r

  begun_group : (l : List Act) → IsSameGroup l (add acts_of l)
  begun_group l =
      let sent = about_group p (sent_acts p r) (Drew (Nonce v) ∷ Opened p OfRenewal ∷ l) (sent_about p r) in
      record { keys_are = sent.keys_are; switches_are = sent.switches_are; uses_are = sent.uses_are }

  begun_draws : (l : List Act) → draws (add acts_of l) ≡ suc (draws l)
  begun_draws l = about_draws p (sent_acts p r) (Drew (Nonce v) ∷ Opened p OfRenewal ∷ l) (sent_about p r)

  begun_leaves : (q : Node) → AllLeave q acts_of
  begun_leaves q tk = (record { used = λ h. refl; got = λ tid h. refl }, (record { used = λ h. refl; got = λ tid h. refl }, sent_leaves p q tk r))

  begun_session : (l : List Act) → session p (add acts_of l) ≡ session p l
  begun_session l = ends_session p (sent_acts p r) (Drew (Nonce v) ∷ Opened p OfRenewal ∷ l) (sent_ends p r)

  begun_plain : AllPlain acts_of
  begun_plain = ((tt, refl), ((tt, refl), plain_sent p r))

begun_apart : (q : ℕ) (p : Node) (v : List ℕ) (r : Reply) → same (Sta q) p ≡ false → AllByRecursion (IsApart (Sta q)) (renewal_acts p v r)
begun_apart q p v r other = (apart-opened (Sta q) p OfRenewal other, (apart-drew (Sta q) (Nonce v), about_others p q (sent_acts p r) other (sent_about p r)))

abbrev the_moves : Option TargetState → Option TargetState → Moves
the_moves pending held = record { pending = pending; held = held }

-- the fast transitions are as they were, where none is pending
begun_moves : (d : Domain) (n : Node) (sta : ℕ) (v : List ℕ) (r : Reply) (m : Moves) (l : List Act) → m.pending ≡ None → HasMoves d n (Sta sta) m l → HasMoves d n (Sta sta) m (add (renewal_acts (Sta sta) v r) l)
begun_moves d n sta v r m l none has =
    let p = Sta sta in
    let same_moves : without_pending m ≡ m = ap (λ (o : Option TargetState). the_moves o m.held) (sym none) in
    let opened : HasMoves d n p m (Opened p OfRenewal ∷ l) = subst (λ (z : Moves). HasMoves d n p z (Opened p OfRenewal ∷ l)) same_moves (opened_renewal d n p m l has) in
    moves_add d n p m (sent_acts p r) _ (sent_pass p p r) (moves_more d n p m (Drew (Nonce v)) (Opened p OfRenewal ∷ l) (drew_passes p (Nonce v)) opened)

module _ (d : Domain) (first : ℕ) (mid new : State) (sta : ℕ) (acts l : List Act) (w : BeginsRenewal d mid new sta acts) (at : StandsSoFar d first mid l) (free : not (has_attempt (station_at mid.stations sta)) ≡ true) where
  abbrev n : Node
  n = Ap mid.number

  abbrev p : Node
  p = Sta sta

  abbrev x : Station
  x = station_at mid.stations sta

  abbrev s : Kept
  s = w.renewed.s

  abbrev its : Kept
  its = w.renewed.now

  abbrev v : List ℕ
  v = nonce d (Ap mid.number) mid.drawn

  abbrev begun : List Act
  begun = renewal_acts (Sta sta) (nonce d (Ap mid.number) mid.drawn) w.reply

  part : HasPart d n sta x l
  part = at.parts sta

  alone : x.attempt ≡ None
  alone = (free_attempt x free).0

  kept_is : IsKept d n p x.attempt (Some s)
  kept_is = subst (λ (o : Option Kept). IsKept d n p x.attempt o) w.renewed.there part.kept

  old_attempt : attempt_in x ≡ s.part.attempt
  old_attempt = ap (λ (o : Option Trying). attempt_by o x.session) alone ∙ ap renewal_by w.renewed.there

  stood : AuthenticatorStands d n p s.part l
  stood = record {
    ends = kept_is.0;
    attempt_is = subst (λ (o : Option Attempt). HasAttempt d n p o l) old_attempt part.attempt_is;
    session_is = subst (λ (o : Option Kept). HasSession d n p (session_by o) l) w.renewed.there part.session_is;
  }

  renewal : Renews (pair d n p) v (sent_acts p w.reply) w.renewed.renewed.part l
  renewal = w.renewed.renewed.renews d mid.number sta l stood (counters_low d n p s.part.session l stood.session_is (draws_low d first mid l at))

  v_is : v ≡ next_nonce d first n l
  v_is = ap (nonce d n) at.draws_are

  -- the acts are those of the rules
  pub begins_acts : acts ≡ renew_acts d first n l p
  begins_acts =
      w.says ∙ ap (λ (g : List Act). Opened p OfRenewal ∷ Drew (Nonce v) ∷ g) renewal.adds
      ∙ ap (λ (u : List ℕ). Opened p OfRenewal ∷ Drew (Nonce u) ∷ sent_m1 d n p (next_in_session p l) u ∷ []) v_is

  new_is : station_at new.stations sta ≡ record { attempt = x.attempt; session = Some (record { part = w.renewed.renewed.part; key = s.key; came_of = s.came_of }) }
  new_is = w.renewed.is ∙ ap (λ (k : Kept). the_station k) w.renewed.renewed.is
    where
      the_station : Kept → Station
      the_station k = record { attempt = x.attempt; session = Some k }

  -- what there is with the station then
  here_then : renews d ≡ true → HasPart d n sta (station_at new.stations sta) (add begun l)
  here_then renewed = subst (λ (z : Station). HasPart d n sta z (add begun l)) (sym new_is) (record {
    tried = part.tried;
    kept = (renewal.stands.ends, of_renewal);
    attempt_is = subst (λ (o : Option Attempt). HasAttempt d n p o (add begun l)) (sym (ap (λ (o : Option Trying). attempt_by o (Some now)) alone)) renewal.stands.attempt_is;
    session_is = renewal.stands.session_is;
    key = key_as p (session p l) (session p (add begun l)) (Some s.key) l (add begun l) (begun_session d n p v w.reply l) (keeps p begun l (begun_leaves d n p v w.reply p)) (subst (λ (o : Option Kept). HasKey p (session p l) (key_by o) l) w.renewed.there part.key);
  })
    where
      now : Kept
      now = record { part = w.renewed.renewed.part; key = s.key; came_of = s.came_of }

      of_renewal : IsOfSession d x.attempt (kinds w.renewed.renewed.part)
      of_renewal = record {
        attempt = inr (record { begun = ap (λ (k : Kinds). k.attempt) w.renewed.renewed.begun; alone = alone; renewed = renewed });
        session = λ again. ap (λ (k : Kinds). k.session) w.renewed.renewed.begun;
      }

  -- no session owes more or less than before
  owes_kept : (place k : ℕ) → owes_at place new.stations k ≡ owes_at place mid.stations k
  owes_kept place k = elim (cases_Bool (k == sta)) [
    | inl is ↦ (let here_is : k ≡ sta = eqb-true k sta is in
        subst (λ (i : ℕ). owes_at place new.stations i ≡ owes_at place mid.stations i) (sym here_is)
        (ap (owes_part place) new_is ∙ w.renewed.renewed.owes place ∙ sym (ap (λ (o : Option Kept). owes_in place (session_by o)) w.renewed.there)))
    | inr other ↦ ap (owes_part place) (w.others k (λ (e : k ≡ sta). cc (eq-eqb k sta e, other)))
  ]

  -- a session with it was there, so the station is listed
  listed_there : length d.stas ≤ sta → station_at new.stations sta ≡ no_station
  listed_there past = absurd (cc (w.renewed.there, ap (λ (z : Station). z.session) (at.listed sta past)))

  moves_then : HasMoves d n p (moves_in (station_at new.stations sta)) (add begun l)
  moves_then =
      let kept : moves_in (station_at new.stations sta) ≡ moves_in x = ap moves_in new_is ∙ sym (ap (λ (o : Option Kept). the_moves (pending_by x.attempt) (held_by o)) w.renewed.there) in
      subst (λ (m : Moves). HasMoves d n p m (add begun l)) (sym kept) (begun_moves d n sta v w.reply (moves_in x) l (ap pending_by alone) (at.moves sta))

  pub begins_stands : renews d ≡ true → mid.drawn < draw_end → StandsSoFar d first new (add acts l)
  begins_stands renewed low = subst (λ (g : List Act). StandsSoFar d first new (add g l)) (sym w.says) (stands_with_one d first mid new l (add begun l) sta at (record {
    number = w.number;
    drawn = omega (arith, w.drawn, at.draws_are, begun_draws d n p v w.reply l);
    drawn_low = omega (arith, w.drawn, low);
    group = w.group;
    sending = w.sending;
    listed = listed_there;
    counted = w.owing ∙ at.counted ∙ sym (count_same mid.group.gtk.newest.place mid.stations new.stations (length d.stas) (λ k below. owes_kept mid.group.gtk.newest.place k));
    same_group = begun_group d n p v w.reply l;
    here = here_then renewed;
    others = w.others;
    goes = λ k other. far_on (Sta k) begun l (begun_apart k p v w.reply other) (begun_leaves d n p v w.reply (Sta k));
    moves = moves_then;
  }))

  pub begins_settled : IsSettled mid → IsSettled new
  begins_settled (inl same_place) = inl (ap (λ (g : Pairs). g.gtk.newest.place) w.group ∙ same_place ∙ sym (ap (λ (g : Pairs). g.gtk.current.place) w.group))
  begins_settled (inr some) = inr (subst (λ (k : ℕ). 1 ≤ k) (sym w.owing) some)

  pub begins_plain : AllPlain acts
  begins_plain = subst AllPlain (sym w.says) (begun_plain d n p v w.reply)

-- ---- as an access point is asked to

-- where it does nothing
obstacle_row : (d : Domain) (first a sta : ℕ) (x : Station) (drawn : ℕ) (h : List Act) (w : Why) → HasPart d (Ap a) sta x h → HasMoves d (Ap a) (Sta sta) (moves_in x) h → drawn ≡ first + draws h → renews d ≡ true → obstacle drawn x ≡ Some w
    → RenewRow (here d first (Ap a)) h (Sta sta) (Idle w ∷ [])
obstacle_row d first a sta x drawn h w at moves drawn_is renewed is = by x.session refl is
  where
    n : Node
    n = Ap a

    p : Node
    p = Sta sta

    idles : (u : Why) → Some u ≡ Some w → Idle w ∷ [] ≡ Idle u ∷ []
    idles u same_why = let e : u ≡ w = cc same_why in ap (λ (z : Why). Idle z ∷ []) (sym e)

    has : is_some (session p h) ≡ has_session x
    has = any_session d n sta x h at

    tried : is_some (attempt p h) ≡ has_attempt x
    tried = any_attempt d n sta x h at moves

    free : (b : Bool) → has_attempt x ≡ b → not b ≡ true → not (has_attempt x) ≡ true
    free b same_test so = ap not same_test ∙ so

    late : nat_lt drawn draw_end ≡ false → draw_end ≤ first + draws h
    late other = subst (λ (m : ℕ). draw_end ≤ m) drawn_is (ltb-false drawn draw_end other)

    in_session : (s : Kept) (y : Derivation) → x.session ≡ Some s → session p h ≡ Some y → (busy low able : Bool) → has_attempt x ≡ busy → nat_lt drawn draw_end ≡ low → can_renew s.part ≡ able
        → cond busy (Some why.Nothing) (cond low (cond able None (Some why.NoSession)) (Some why.Spent)) ≡ Some w → RenewRow (here d first (Ap a)) h (Sta sta) (Idle w ∷ [])
    in_session s y there some true low able busy_is low_is able_is so =
        let part = some_of (attempt p h) (tried ∙ busy_is) in
        Nothing y some part.0 part.1 (idles why.Nothing so)
    in_session s y there some false false able busy_is low_is able_is so = Spent y some (none_of (attempt p h) (tried ∙ busy_is)) (late low_is) (idles why.Spent so)
    in_session s y there some false true true busy_is low_is able_is so = absurd (cc so)
    in_session s y there some false true false busy_is low_is able_is so = absurd (cc (able_is, free_renews d n p x s there at.kept renewed (free false busy_is refl)))

    by : (o : Option Kept) → x.session ≡ o → obstacle_by drawn (has_attempt x) o ≡ Some w → RenewRow (here d first (Ap a)) h (Sta sta) (Idle w ∷ [])
    by None none so = NoSession (none_of (session p h) (has ∙ ap (λ (o : Option Kept). is_some o) none)) (idles why.NoSession so)
    by (Some s) some so =
        let y = some_of (session p h) (has ∙ ap (λ (o : Option Kept). is_some o) some) in
        in_session s y.0 some y.1 (has_attempt x) (nat_lt drawn draw_end) (can_renew s.part) refl refl refl so

pub takes_obstacle : (d : Domain) (s : State) (sta : ℕ) (w : Why) (waited waits : List Act) → renews d ≡ true → obstacle s.drawn (station_at s.stations sta) ≡ Some w → waits ≡ waited ++ Idle w ∷ []
    → IsTaken d (Renew sta) s s (seen waited waits (IdleBy w))
takes_obstacle d s sta w waited waits renewed is waiting = stays d s (Renew sta) (seen waited waits (IdleBy w)) (λ first h stands. record {
  acts = Idle w ∷ [];
  row = obstacle_row d first s.number sta (station_at s.stations sta) s.drawn h w (stands.so_far.parts sta) (stands.so_far.moves sta) stands.so_far.draws_are renewed is;
  waiting = waiting;
  came = refl;
  stands = so_far_as_before d first s h (Idle w ∷ h) (same-idle w h) stands.so_far;
  marks = ((tt, refl), tt);
})

-- and where nothing is in the way
pub record IsFree (drawn : ℕ) (x : Station) : Type 0 where
  pub free : not (has_attempt x) ≡ true
  pub low : drawn < draw_end
  pub able : renewable x.session ≡ true

pub no_obstacle : (drawn : ℕ) (x : Station) → obstacle drawn x ≡ None → IsFree drawn x
no_obstacle drawn x is = by x.session refl is
  where
    in_session : (s : Kept) → x.session ≡ Some s → (busy low able : Bool) → has_attempt x ≡ busy → nat_lt drawn draw_end ≡ low → can_renew s.part ≡ able
        → cond busy (Some why.Nothing) (cond low (cond able None (Some why.NoSession)) (Some why.Spent)) ≡ None → IsFree drawn x
    in_session s there true low able busy_is low_is able_is so = absurd (cc so)
    in_session s there false false able busy_is low_is able_is so = absurd (cc so)
    in_session s there false true false busy_is low_is able_is so = absurd (cc so)
    in_session s there false true true busy_is low_is able_is so = record { free = ap not busy_is; low = ltb-true drawn draw_end low_is; able = ap renewable there ∙ able_is }

    by : (o : Option Kept) → x.session ≡ o → obstacle_by drawn (has_attempt x) o ≡ None → IsFree drawn x
    by None none so = absurd (cc so)
    by (Some s) some so = in_session s some (has_attempt x) (nat_lt drawn draw_end) (can_renew s.part) refl refl refl so

-- there is a session then, and no attempt
module _ (d : Domain) (a sta : ℕ) (x : Station) (h : List Act) (at : HasPart d (Ap a) sta x h) (moves : HasMoves d (Ap a) (Sta sta) (moves_in x) h) where
  free_none : not (has_attempt x) ≡ true → attempt (Sta sta) h ≡ None
  free_none free = none_of (attempt (Sta sta) h) (any_attempt d (Ap a) sta x h at moves ∙ not_false (has_attempt x) free)
    where
      not_false : (b : Bool) → not b ≡ true → b ≡ false
      not_false false is = refl
      not_false true is = absurd (cc is)

  session_some : (s : Kept) → x.session ≡ Some s → (y : Derivation) × (session (Sta sta) h ≡ Some y)
  session_some s there = some_of (session (Sta sta) h) (any_session d (Ap a) sta x h at ∙ ap (λ (o : Option Kept). is_some o) there)

pub takes_renewal : (d : Domain) (old new : State) (sta : ℕ) (acts waited waits : List Act) → renews d ≡ true → IsFree old.drawn (station_at old.stations sta) → BeginsRenewal d old new sta acts → waits ≡ waited ++ acts
    → IsTaken d (Renew sta) old new (seen waited waits Done)
takes_renewal d old new sta acts waited waits renewed is_free w waiting = record {
  number = w.number;
  steps = λ first h stands.
      (let n = Ap old.number in
      let p = Sta sta in
      let x = station_at old.stations sta in
      let so_far = stands.so_far in
      let part = so_far.parts sta in
      let has = so_far.moves sta in
      let y = session_some d old.number sta x h part has w.renewed.s w.renewed.there in
      let acts_are = begins_acts d first old new sta acts h w so_far is_free.free in
      settled_steps d first (Renew sta) old new (seen waited waits Done) h w.number (begins_settled d first old new sta acts h w so_far is_free.free stands.settled) (record {
        acts = acts;
        row = Begins refl renewed y.0 y.1 (free_none d old.number sta x h part has is_free.free) (subst (λ (m : ℕ). m < draw_end) so_far.draws_are is_free.low) acts_are;
        waiting = waiting;
        came = sym (ap outcome_of acts_are);
        stands = begins_stands d first old new sta acts h w so_far is_free.free renewed is_free.low;
        marks = begins_plain d first old new sta acts h w so_far is_free.free;
      }));
  refused = λ r is. absurd (cc is);
}

-- ---- as a payload is sent to a station

module _ (d : Domain) (old mid : State) (sta : ℕ) (tid : Option ℕ) (plain : List ℕ) (w : HasUsed old mid sta) where
  abbrev n_ : Node
  n_ = Ap old.number

  abbrev p_ : Node
  p_ = Sta sta

  abbrev x_ : Station
  x_ = station_at old.stations sta

  abbrev key_ : Option SendKey
  key_ = option_map send_key_of (key_in (station_at old.stations sta))

  abbrev sends : List Act
  sends = send_acts_by d (Ap old.number) (One (Sta sta)) tid plain (option_map send_key_of (key_in (station_at old.stations sta)))

  -- the row, as far as the code knows whether a renewal is due
  row_is : (first : ℕ) (h : List Act) → Stands d first old h → (b : Bool) → is_due_at d old.drawn x_ ≡ b → cond b (sends ++ renew_acts d first n_ h p_) sends ≡ and_due (here d first n_) n_ h (One p_) (send_key h (One p_)) (send_acts_by d n_ (One p_) tid plain (send_key h (One p_)))
  row_is first h stands b is =
      let so_far = stands.so_far in
      let part = so_far.parts sta in
      sym (ap (λ (c : Bool). cond c (sends ++ renew_acts d first n_ h p_) sends) is)
      ∙ sym (due_is d first old.number sta x_ old.drawn h sends part (so_far.moves sta) so_far.draws_are)
      ∙ ap (λ (k : Option SendKey). and_due (here d first n_) n_ h (One p_) k (send_acts_by d n_ (One p_) tid plain k)) (sym (sends_by p_ (key_in x_) h part.key))

  -- none is due
  pub takes_sent : is_due_at d old.drawn x_ ≡ false → (waited waits : List Act) (outcome : Outcome) → waits ≡ waited ++ sent_under d n_ (One p_) tid plain (key_in x_) → outcome ≡ outcome_of (sent_under d n_ (One p_) tid plain (key_in x_))
      → IsTaken d (Send (One p_) tid plain) old mid (seen waited waits outcome)
  takes_sent none waited waits outcome waiting came_is = record {
    number = w.number;
    steps = λ first h stands.
        settled_steps d first (Send (One p_) tid plain) old mid (seen waited waits outcome) h w.number (sent_settled old mid sta w stands.settled) (record {
          acts = sends;
          row = row_is first h stands false none;
          waiting = waiting;
          came = came_is;
          stands = sent_stands d first old mid sta tid plain h w stands.so_far;
          marks = plain_data d n_ (One p_) tid plain key_;
        });
    refused = λ r is. absurd (sent-unrefused d n_ (One p_) tid plain key_ r (sym came_is ∙ is));
  }

  -- the session is the same under the key as it was used, and so is what is in the way of a renewal
  used_session : session_in (station_at mid.stations sta) ≡ session_in x_
  used_session = ap session_in w.is ∙ by (used_in (key_in x_)) x_.session
    where
      by : (k : Option Held) (o : Option Kept) → session_by (rekeyed k o) ≡ session_by o
      by (Some k) (Some s) = refl
      by (Some k) None = refl
      by None o = refl

  used_free : has_attempt (station_at mid.stations sta) ≡ has_attempt x_
  used_free = ap has_attempt w.is ∙ ap (λ (o : Option Attempt). is_some x_.attempt || is_some o) (rekeyed_renewal (used_in (key_in x_)) x_.session)

  pub used_renewable : renewable (station_at mid.stations sta).session ≡ renewable x_.session
  used_renewable = ap (λ (z : Station). renewable z.session) w.is ∙ by (used_in (key_in x_)) x_.session
    where
      by : (k : Option Held) (o : Option Kept) → renewable (rekeyed k o) ≡ renewable o
      by (Some k) (Some s) = refl
      by (Some k) None = refl
      by None o = refl

  -- the next counter of the session is as before
  next_same : (o : Option Session) (h l : List Act) → is_some o ≡ true → HasSession d n_ p_ o h → HasSession d n_ p_ o l → next_in_session p_ l ≡ next_in_session p_ h
  next_same None h l some before now = absurd (cc some)
  next_same (Some t) h l some before now = now.counts.here.next ∙ sym before.counts.here.next

  -- so the acts of a renewal are those after the history before what is sent
  renew_same : (first : ℕ) (h l : List Act) → draws l ≡ draws h → next_in_session p_ l ≡ next_in_session p_ h → renew_acts d first n_ l p_ ≡ renew_acts d first n_ h p_
  renew_same first h l drawn next = rw (drawn, next) refl

  -- one is due, and begins
  pub takes_due : (new : State) (acts : List Act) → is_due_at d old.drawn x_ ≡ true → BeginsRenewal d mid new sta acts → (waited half waits : List Act) (outcome : Outcome) → half ≡ waited ++ sent_under d n_ (One p_) tid plain (key_in x_)
      → outcome ≡ outcome_of (sent_under d n_ (One p_) tid plain (key_in x_)) → waits ≡ half ++ acts → IsTaken d (Send (One p_) tid plain) old new (seen waited waits outcome)
  takes_due new acts due begins waited half waits outcome sent came_is more = record {
    number = begins.number ∙ w.number;
    steps = λ first h stands.
        (let so_far = stands.so_far in
        let l = add sends h in
        let mid_stands : StandsSoFar d first mid l = sent_stands d first old mid sta tid plain h w so_far in
        let facts = due_facts d old.drawn x_ due in
        let free : not (has_attempt (station_at mid.stations sta)) ≡ true = ap not used_free ∙ facts.free in
        let before : HasSession d n_ p_ (session_in x_) h = (so_far.parts sta).session_is in
        let now : HasSession d n_ p_ (session_in x_) l = subst (λ (k : ℕ). HasSession d (Ap k) p_ (session_in x_) l) w.number (subst (λ (o : Option Session). HasSession d (Ap mid.number) p_ o l) used_session (mid_stands.parts sta).session_is) in
        let next = next_same (session_in x_) h l (there_is facts.able) before now in
        let acts_are : acts ≡ renew_acts d first n_ h p_ =
        begins_acts d first mid new sta acts l begins mid_stands free ∙ ap (λ (k : ℕ). renew_acts d first (Ap k) l p_) w.number ∙ renew_same first h l (sent-draws d n_ (One p_) tid plain key_ h) next in
        settled_steps d first (Send (One p_) tid plain) old new (seen waited waits outcome) h (begins.number ∙ w.number)
        (begins_settled d first mid new sta acts l begins mid_stands free (sent_settled old mid sta w stands.settled)) (record {
          acts = sends ++ acts;
          row = ap (λ (g : List Act). sends ++ g) acts_are ∙ row_is first h stands true due;
          waiting = more ∙ ap (λ (g : List Act). g ++ acts) sent ∙ append_assoc waited sends acts;
          came = came_is ∙ sym (sent_outcome d n_ (One p_) tid plain key_ acts);
          stands = subst (λ (g : List Act). StandsSoFar d first new g) (sym (add_append sends acts h)) (begins_stands d first mid new sta acts l begins mid_stands free facts.renewed (subst (λ (m : ℕ). m < draw_end) (sym w.drawn) facts.low));
          marks = plain_append sends acts (plain_data d n_ (One p_) tid plain key_) (begins_plain d first mid new sta acts l begins mid_stands free);
        }));
    refused = λ r is. absurd (sent-unrefused d n_ (One p_) tid plain key_ r (sym came_is ∙ is));
  }
    where
      associated : (o : Option Session) → has_association o ≡ true → is_some o ≡ true
      associated None is = absurd (cc is)
      associated (Some t) is = refl

      there_is : renewable x_.session ≡ true → is_some (session_in x_) ≡ true
      there_is able = by x_.session able
        where
          by : (o : Option Kept) → renewable o ≡ true → is_some (session_by o) ≡ true
          by None is = absurd (cc is)
          by (Some s) is = associated s.part.session (and_right (not (is_some s.part.attempt)) (has_association s.part.session) is)
