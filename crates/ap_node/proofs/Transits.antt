-- Requests of fast transition at an access point.
use Rattle.std.proofs.Common.{◌≡◌, ◌≢◌, ◌∙◌, ℕ, ◌+◌, ◌<◌, ◌≤◌, ◌^◌, Bool, true, false, List, [], ◌++◌, length, Option, Some, None, is_some, refl, sym, ap, subst, arith, inl, inr}
use Rattle.std.specs.Prelude.{◌⊎◌, ◌-◌, ◌==◌, not, nat_lt, bytes_eq, if◌then◌else◌}
use Rattle.std.proofs.lemmas.Bool.{cases_Bool, ltb-true, ltb-false, eqb-true, eq-eqb}
use Rattle.domain_base.specs.declared.names.Akm.{Akm}
use Rattle.domain_base.specs.declared.names.Akm.TheVariants.{Psk, PskSha256, FtPsk}
use Rattle.domain_base.specs.declared.names.Node.{Node}
use Rattle.domain_base.specs.declared.names.Node.TheVariants.{Ap, Sta}
use Rattle.key_hierarchy.specs.declared.answers.PullAnswer.{PullAnswer}
use Rattle.key_holders.specs.declared.rows.HeldRow.{HeldRow}
use Rattle.rsn_elements.specs.declared.reading.Elements.{Elements}
use Rattle.rsn_elements.specs.Elements.{ElementFields}
use Rattle.rsn_elements.specs.Fields.{element_fields}
use Rattle.air_frame.specs.Fields.{HeaderFields}
use Rattle.run_journal.specs.declared.domain.Domain.{Domain}
use Rattle.run_journal.specs.declared.acts.Kind.{Kind}
use Rattle.run_journal.specs.declared.acts.Kind.TheVariants as kind
use Rattle.run_journal.specs.declared.acts.Reason.{Reason}
use Rattle.run_journal.specs.declared.acts.Reason.TheVariants as reason
use Rattle.run_journal.specs.declared.acts.Outcome.{Outcome}
use Rattle.run_journal.specs.declared.acts.Outcome.TheVariants.{Accepted, Refused}
use Rattle.run_journal.specs.declared.acts.Act.{Act}
use Rattle.run_journal.specs.declared.reply.Keyed.{Keyed}
use Rattle.run_journal.specs.declared.reply.Reply.{Reply}
use Rattle.run_journal.specs.declared.acts.GroupKind.TheVariants as groups
use Rattle.run_journal.specs.Questions.{attempt, session, draws, group_keys, add}
use Rattle.domain_rules.specs.Associating.{without_status, rsne_status, management_verdict}
use Rattle.domain_rules.specs.FastTransition.{single, mde_status}
use Rattle.domain_rules.specs.Here.{here}
use Rattle.domain_rules.specs.Network.{Root, root_at, nonce, draw_end, holder_of, peer_of, bssid}
use Rattle.domain_rules.specs.Reading.{Management, Managed}
use Rattle.domain_rules.specs.Rows.{Take, TakeRow}
use Rattle.domain_rules.specs.TransitionKeys.{Asked, asked, Transition, transition, repeats, asked_verdict, ft_req_asked, ft_req_verdict_by}
use Rattle.domain_rules.specs.Verdict.{is_mine, management_sender, first_verdict}
use Rattle.domain_rules.proofs.Verdicts.{managed-unknown, managed-not_mine}
use Rattle.group_key.specs.declared.keys.GroupKey.{GroupKey}
use Rattle.group_key.specs.declared.news.News.{News}
use Rattle.group_key.specs.Keys.{Pairs}
use Rattle.group_key.specs.Holds.{IsLast}
use Rattle.group_key.specs.News.{IsNewest}
use Rattle.node_base.specs.Events.{seen}
use Rattle.frame_intake.specs.Views.{management_fields}
use Rattle.held_rows.specs.Knows.{KnowsRows}
use Rattle.held_rows.specs.Looks.{AreLooked}
use Rattle.held_rows.proofs.Leaving.{left}
use Rattle.ft_exchange.specs.Asking.{IsDrawn}
use Rattle.ft_exchange.specs.Comes.{IsManagementFrom}
use Rattle.ft_exchange.specs.Told.{Came, came, auth_request_acts, reassoc_request_acts}
use Rattle.ft_exchange.specs.TargetSteps.{root_asked, LooksBy}
use Rattle.targets.specs.declared.moves.Moves.{Moves}
use Rattle.targets.specs.declared.taken.Taken.{Taken}
use Rattle.targets.specs.State.{meant, id_of}
use Rattle.targets.specs.Stands.{HasMoves}
use Rattle.targets.specs.Steps.{Request, request, AuthTaken, ReassocTaken, HasMoved}
use Rattle.ap_node.specs.declared.station.Station.{Station}
use Rattle.ap_node.specs.State.{State, station_at, has_attempt, has_session, pending_by, associated, with_pending, held_by, with_held, without_held, moves_in, with_moves, without_moves, newest_of}
use Rattle.ap_node.specs.declared.station.Attempt.{Attempt as Trying}
use Rattle.ap_node.specs.declared.station.Attempt.TheVariants as trying
use Rattle.ap_node.specs.declared.station.Session.{Session as Kept}
use Rattle.ft_exchange.specs.State.{TargetState}
use Rattle.ft_exchange.specs.Stands.{PendingStands}
use Rattle.ap_node.specs.Counts.{owes_part}
use Rattle.ap_node.specs.Stands.{HasPart, StandsSoFar, IsSettled, Stands}
use Rattle.ap_node.specs.Moving.{begun_key, drawn_for, pending_beside, next_drawn, IsPlaced}
use Rattle.ap_node.specs.Takes.{Does, IsBeside, IsDone, IsTakenWith, RowsOn, IsRequestOf}
use Rattle.ap_node.proofs.Owed.{owes_at, count_same}
use Rattle.ap_node.proofs.Attempts.{any_attempt}
use Rattle.ap_node.proofs.Standing.{any_session, stands_with_one, is_newest}
use Rattle.ap_node.proofs.Ending.{settled_marked}
use Rattle.ap_node.proofs.Plain.{plain_of}
use Rattle.ap_node.proofs.InUse.{the_station}
use Rattle.ap_node.proofs.TransitingKeys.{auth_group, reassoc_group, auth_rows, reassoc_rows, auth_draws_one, reassoc_draws_none, auth_far, reassoc_far}
use Rattle.ap_node.proofs.TransitingFrames.{auth_part, reassoc_same_part, reassoc_part, auth_begun_key, reassoc_begun_key}
use Rattle.ap_node.proofs.TransitingDraws.{derived_low}
use Rattle.ap_node.proofs.TransitingLooks.{auth_looked, reassoc_no_looks}

-- ---- whose frame it is

-- refused as a frame for another node, or from none that is known
abbrev is_far : Outcome → Bool
is_far (Refused reason.UnknownPeer) = true
is_far (Refused reason.NotForMe) = true
is_far _ = false

near_status : (o : Option ℕ) (x : Outcome) → is_far x ≡ false → is_far (without_status o x) ≡ false
near_status None x near = near
near_status (Some code) x near = refl

near_asked : (d : Domain) (a : Asked) (again : Bool) → is_far (asked_verdict d a again) ≡ false
near_asked d a true = refl
near_asked d a false = by (is_some (holder_of d a.r0kh_id)) (is_some (single a.names))
  where
    by : (b c : Bool) → is_far (if not b then Refused reason.NoHolder else if c then Accepted else Refused reason.Name) ≡ false
    by true true = refl
    by true false = refl
    by false c = refl

near_any : (d : Domain) (o : Option Asked) (y : Option Transition) → is_far (ft_req_asked d o y) ≡ false
near_any d None y = refl
near_any d (Some a) y = near_asked d a (repeats a y)

near_by : (akm : Akm) (d : Domain) (y : Option Transition) (e : ElementFields) → is_far (ft_req_verdict_by akm d y e) ≡ false
near_by Psk d y e = refl
near_by PskSha256 d y e = refl
near_by FtPsk d y e = near_status (rsne_status d e.rsne) _ (near_status (mde_status d e.mde) _ (near_any d (asked e) y))

-- a request of fast transition is not
abbrev pub IsTransition : Kind → Type 0
IsTransition k = (k ≡ kind.FtReq) ⊎ (k ≡ kind.ReReq)

near_request : (d : Domain) (a : ℕ) (p : Node) (k : Kind) (b : Management) (e : ElementFields) → IsTransition k → is_far (management_verdict d 0 (Ap a) [] p k b e) ≡ false
near_request d a p k b e (inl is) = subst (λ (x : Kind). is_far (management_verdict d 0 (Ap a) [] p x b e) ≡ false) (sym is) (near_by d.akm d (transition p []) e)
near_request d a p k b e (inr is) = subst (λ (x : Kind). is_far (management_verdict d 0 (Ap a) [] p x b e) ≡ false) (sym is) refl

sender_by : (d : Domain) (n p : Node) (h : HeaderFields) → peer_of d n h.a2 ≡ Some p → (management_sender d n h ≡ Some p) ⊎ (management_sender d n h ≡ None)
sender_by d n p h is = by (bytes_eq h.a3 (bssid d n p)) refl
  where
    by : (b : Bool) → bytes_eq h.a3 (bssid d n p) ≡ b → (management_sender d n h ≡ Some p) ⊎ (management_sender d n h ≡ None)
    by true same = inl (rw (is, same) refl)
    by false other = inr (rw (is, other) refl)

sender_known : (d : Domain) (a : ℕ) (p : Node) (b : Management) (e : ElementFields) → IsTransition b.kind → peer_of d (Ap a) b.header.a2 ≡ Some p → first_verdict d 0 (Ap a) [] (Managed b e) ≡ management_verdict d 0 (Ap a) [] p b.kind b e
    → management_sender d (Ap a) b.header ≡ Some p
sender_known d a p b e k peer verdict_is = elim (sender_by d (Ap a) p b.header peer) [
  | inl is ↦ is
  | inr none ↦ absurd (silent (is_mine d (Ap a) b.header) refl none)
]
  where
    near : is_far (first_verdict d 0 (Ap a) [] (Managed b e)) ≡ false
    near = ap is_far verdict_is ∙ near_request d a p b.kind b e k

    silent : (c : Bool) → is_mine d (Ap a) b.header ≡ c → management_sender d (Ap a) b.header ≡ None → ⊥
    silent true mine none = cc (sym (ap is_far (managed-unknown d 0 (Ap a) [] b e mine none)) ∙ near)
    silent false other none = cc (sym (ap is_far (managed-not_mine d 0 (Ap a) [] b e other)) ∙ near)

pub request_comes : (k : Kind) (d : Domain) (a : ℕ) (octets : List ℕ) (sta : ℕ) (elements : Elements) (q : IsRequestOf k d a octets sta elements) → IsTransition k
    → IsManagementFrom d (Ap a) (Sta sta) octets (management_fields q.frame) (element_fields elements)
request_comes k d a octets sta elements q of =
    let w = q.managed in
    let b = management_fields q.frame in
    record {
      reads = w.reads;
      from = w.judged.1;
      sender_is = sender_known d a (Sta sta) b (element_fields elements) (subst IsTransition (sym q.is) of) w.judged.1 (w.judged.3 0 []);
      verdict_is = w.judged.3;
    }

-- ---- an authentication request

drawn_by : (d : Domain) (first : ℕ) (n : Node) (h : List Act) (drawn : ℕ) (b : Bool) → drawn ≡ first + draws h → nat_lt drawn draw_end ≡ b → IsDrawn d first n h (if b then Some (nonce d n drawn) else None)
drawn_by d first n h drawn true is low = (subst (λ (k : ℕ). k < draw_end) is (ltb-true drawn draw_end low), ap (nonce d n) is)
drawn_by d first n h drawn false is past = subst (λ (k : ℕ). draw_end ≤ k) is (ltb-false drawn draw_end past)

drawn_is : (d : Domain) (first : ℕ) (n : Node) (h : List Act) (drawn : ℕ) → drawn ≡ first + draws h → IsDrawn d first n h (next_drawn d n drawn)
drawn_is d first n h drawn is = drawn_by d first n h drawn (nat_lt drawn draw_end) is refl

-- what the access point was and is, beside an attempt by fast transition with a station, as that key is derived, if one is
pub record IsAuthed (old new : State) (sta : ℕ) (key : Option Keyed) : Type 0 where
  pub number : new.number ≡ old.number
  pub drawn : old.drawn < 2 ^ 64 - 1 → new.drawn ≡ old.drawn + drawn_for key
  pub group : new.group ≡ old.group
  pub sending : new.sending ≡ old.sending
  pub owing : new.owing ≡ old.owing
  pub is : station_at new.stations sta ≡ pending_beside (moves_in (station_at new.stations sta)).pending (station_at old.stations sta)
  pub others : (k : ℕ) → k ≢ sta → station_at new.stations k ≡ station_at old.stations k

owes_kept : (old new : State) (sta place : ℕ) (key : Option Keyed) → IsAuthed old new sta key → (k : ℕ) → owes_at place new.stations k ≡ owes_at place old.stations k
owes_kept old new sta place key w k = elim (cases_Bool (k == sta)) [
  | inl is ↦ (let same : k ≡ sta = eqb-true k sta is in
      subst (λ (i : ℕ). owes_at place new.stations i ≡ owes_at place old.stations i) (sym same) (ap (owes_part place) w.is))
  | inr other ↦ ap (owes_part place) (w.others k (λ (e : k ≡ sta). cc (eq-eqb k sta e, other)))
]

settled_still : (old new : State) (sta : ℕ) (key : Option Keyed) → IsAuthed old new sta key → IsSettled old → IsSettled new
settled_still old new sta key w (inl same) = inl (subst (λ (g : Pairs). g.gtk.newest.place ≡ g.gtk.current.place) (sym w.group) same)
settled_still old new sta key w (inr some) = inr (subst (λ (n : ℕ). 1 ≤ n) (sym w.owing) some)

-- one more value was drawn where a key was derived
authed_low : (first n : ℕ) (h l : List Act) (y : Option Keyed) → n ≡ first + draws l → draws l ≡ drawn_for y + draws h → first + draws h ≤ draw_end → (is_some y ≡ true → first + draws h < draw_end) → n ≤ draw_end
authed_low first n h l None is more low room = omega (arith, is, more, low)
authed_low first n h l (Some y) is more low room = omega (arith, is, more, room refl)

authed_low_by : (d : Domain) (first a : ℕ) (h : List Act) (octets : List ℕ) (root : Root) (p : Node) (part : Option (List Act)) (t : Came) (r : Reply) (n : ℕ) → TakeRow (here d first (Ap a)) h octets (auth_request_acts d root (Ap a) p part t r)
    → n ≡ first + draws (add (auth_request_acts d root (Ap a) p part t r) h) → first + draws h ≤ draw_end → n ≤ draw_end
authed_low_by d first a h octets root p part t r n row is low =
    authed_low first n h (add (auth_request_acts d root (Ap a) p part t r) h) r.derived is (auth_draws_one d root (Ap a) p part t r h) low (derived_low d first a h octets root p part t r row)

-- an attempt by fast transition is with suite 4
pending_suite : (d : Domain) (n p : Node) (o : Option TargetState) (h : List Act) → PendingStands d n p o h → (s : TargetState) → o ≡ Some s → d.akm ≡ FtPsk
pending_suite d n p None h stands s is = absurd (cc is)
pending_suite d n p (Some t) h stands s is = stands.1.suite

-- what it does, by the key that was derived
module _ (A : List ℕ → List ℕ → ℕ → PullAnswer → Type 0) (d : Domain) (old new : State) (octets : List ℕ) (sta : ℕ) (elements : Elements) (xs : List HeldRow) where
  abbrev n : Node
  n = Ap old.number

  abbrev p : Node
  p = Sta sta

  abbrev e : ElementFields
  e = element_fields elements

  authed : (Same : Type 0) (taken : Taken) (drew_next : Option (List ℕ)) (had : Bool) (waited waits : List Act) → IsRequestOf kind.FtReq d old.number octets sta elements
      → AuthTaken (request d old.number sta octets e) drew_next had (LooksBy e (λ id name answer. A id name sta answer) Same) waited waits (moves_in (station_at old.stations sta)) (moves_in (station_at new.stations sta)) taken
      → had ≡ has_attempt (station_at old.stations sta) → drew_next ≡ next_drawn d n old.drawn → IsAuthed old new sta (begun_key taken.outcome taken.key)
      → (first : ℕ) (h : List Act) → Stands d first old h → KnowsRows d n xs h
      → Does (here d first n) (Take octets) (StandsSoFar d first new) (RowsOn (AreLooked A d) d old.number xs h) h (seen waited waits taken.outcome)
  authed Same taken drew_next had waited waits q x had_is next_is w first h stands known =
      let so_far = stands.so_far in
      let low : sta < length d.stas = q.managed.judged.2 in
      let at = so_far.parts sta in
      let has = so_far.moves sta in
      let o = station_at old.stations sta in
      let m = moves_in (station_at new.stations sta) in
      let came_ = came octets e taken.outcome in
      let root = root_asked d p (asked e) in
      let said = auth_request_acts d root n p (attempt p h) came_ x.reply in
      let some_is : is_some (attempt p h) ≡ had = any_attempt d n sta o h at has ∙ sym had_is in
      let said_is : x.acts ≡ said = x.moves.says (attempt p h) some_is in
      let drew = subst (λ (v : Option (List ℕ)). IsDrawn d first n h v) (sym next_is) (drawn_is d first n h old.drawn so_far.draws_are) in
      let y = x.moves.steps first (management_fields q.frame) h has (request_comes kind.FtReq d old.number octets sta elements q (inl refl)) q.is some_is drew in
      let row : TakeRow (here d first n) h octets said = subst (λ (l : List Act). TakeRow (here d first n) h octets l) said_is y.adds in
      let stand : HasMoves d n p m (add said h) = subst (λ (l : List Act). HasMoves d n p m (add l h)) said_is y.stands in
      let key_is : begun_key taken.outcome taken.key ≡ x.reply.derived = ap (begun_key taken.outcome) x.moves.key ∙ auth_begun_key (here d first n) h octets d root n p (attempt p h) came_ x.reply row in
      let is_low : old.drawn < 2 ^ 64 - 1 = omega (arith, so_far.draws_low) in
      let drawn_now : new.drawn ≡ first + draws (add said h) = drawn_on new.drawn old.drawn (drawn_for (begun_key taken.outcome taken.key)) (drawn_for x.reply.derived) (draws h) (draws (add said h)) first (w.drawn is_low) (ap drawn_for key_is) so_far.draws_are (auth_draws_one d root n p (attempt p h) came_ x.reply h) in
      let kept = stands_with_one d first old new h (add said h) sta so_far (record {
        number = w.number;
        drawn = drawn_now;
        drawn_low = authed_low_by d first old.number h octets root p (attempt p h) came_ x.reply new.drawn row drawn_now (subst (λ (k : ℕ). k ≤ draw_end) so_far.draws_are so_far.draws_low);
        group = w.group;
        sending = w.sending;
        listed = λ past. absurd (omega (arith, past, low));
        counted = w.owing ∙ so_far.counted ∙ sym (count_same old.group.gtk.newest.place old.stations new.stations (length d.stas) (λ k below. owes_kept old new sta old.group.gtk.newest.place (begun_key taken.outcome taken.key) w k));
        same_group = auth_group d root n p (attempt p h) came_ x.reply h;
        here = subst (λ (z : Station). HasPart d n sta z (add said h)) (sym w.is) (auth_part first octets d old.number sta root (attempt p h) came_ x.reply o m.pending h row (pending_suite d n p m.pending (add said h) stand.pending) x.moves.begun at);
        others = w.others;
        goes = λ k other. auth_far d root n p (attempt p h) came_ x.reply k h other;
        moves = stand;
      }) in
      record {
        acts = said;
        row = row;
        waiting = x.adds ∙ ap (λ (l : List Act). waited ++ l) said_is;
        came = refl;
        stands = kept;
        marks = (auth_looked A d Same root n sta (attempt p h) came_ x.reply low x.looks, left d n xs said h (auth_rows d root n p (attempt p h) came_ x.reply) known);
      }
    where
      drawn_on : (a b c k l m start : ℕ) → a ≡ b + c → c ≡ k → b ≡ start + l → m ≡ k + l → a ≡ start + m
      drawn_on a b c k l m start one two three four = omega (arith, one, two, three, four)

  pub takes_auth : (Same : Type 0) (taken : Taken) (drew_next : Option (List ℕ)) (had : Bool) (waited waits : List Act) → IsRequestOf kind.FtReq d old.number octets sta elements
      → AuthTaken (request d old.number sta octets e) drew_next had (LooksBy e (λ id name answer. A id name sta answer) Same) waited waits (moves_in (station_at old.stations sta)) (moves_in (station_at new.stations sta)) taken
      → had ≡ has_attempt (station_at old.stations sta) → drew_next ≡ next_drawn d n old.drawn → IsAuthed old new sta (begun_key taken.outcome taken.key)
      → ((why : Reason) → taken.outcome ≡ Refused why → new ≡ old) → IsTakenWith (AreLooked A d) d (Take octets) old new xs xs (seen waited waits taken.outcome)
  takes_auth Same taken drew_next had waited waits q x had_is next_is w refused = record {
    number = w.number;
    steps = λ first h stands known.
        settled_marked d first (Take octets) old new (RowsOn (AreLooked A d) d old.number xs h) (seen waited waits taken.outcome) h w.number (settled_still old new sta (begun_key taken.outcome taken.key) w stands.settled)
        (authed Same taken drew_next had waited waits q x had_is next_is w first h stands known);
    refused = refused;
  }

-- ---- as the code comes by them

-- less is told of an answer
looks_less : (e : ElementFields) (B A : List ℕ → List ℕ → PullAnswer → Type 0) (Same : Type 0) (o : Option PullAnswer) → ((id name : List ℕ) (answer : PullAnswer) → B id name answer → A id name answer) → LooksBy e B Same o → LooksBy e A Same o
looks_less e B A Same None less looks = looks
looks_less e B A Same (Some answer) less looks = record { a = looks.a; asks = looks.asks; name = looks.name; named = looks.named; answered = less looks.a.r0kh_id looks.name answer looks.answered }

pub auth_less : (q : Request) (v : Option (List ℕ)) (had : Bool) (B A : List ℕ → List ℕ → PullAnswer → Type 0) (Same : Type 0) (before after : List Act) (old new : Moves) (t : Taken) → ((id name : List ℕ) (answer : PullAnswer) → B id name answer → A id name answer)
    → AuthTaken q v had (LooksBy q.fields B Same) before after old new t → AuthTaken q v had (LooksBy q.fields A Same) before after old new t
auth_less q v had B A Same before after old new t less x = record { reply = x.reply; acts = x.acts; adds = x.adds; moves = x.moves; looks = looks_less q.fields B A Same x.reply.looked less x.looks }

pub auth_refused : (q : Request) (v : Option (List ℕ)) (had : Bool) (Looks : Option PullAnswer → Type 0) (before after : List Act) (old new : Moves) (t : Taken) (why : Reason) → AuthTaken q v had Looks before after old new t → t.outcome ≡ Refused why → new ≡ old
auth_refused q v had Looks before after old new t why x is = x.moves.refused why is

pub no_key : (o : Outcome) (key : Option Keyed) (why : Reason) → o ≡ Refused why → begun_key o key ≡ None
no_key o key why is = ap (λ (x : Outcome). begun_key x key) is

pub some_key : (o : Outcome) (key : Option Keyed) (y : Keyed) (why : Reason) → begun_key o key ≡ Some y → o ≡ Refused why → ⊥
some_key o key y why some is = cc (sym some ∙ no_key o key why is)

-- ---- a reassociation request

-- what the access point was and is, beside what it has with a station
pub record IsReplaced (d : Domain) (old new : State) (sta : ℕ) (key : Option Keyed) (m : Moves) : Type 0 where
  pub beside : IsBeside old new sta
  pub few : length d.stas < 2 ^ 64 - 1
  pub is : IsPlaced d (Ap old.number) (Sta sta) key m (station_at old.stations sta) (station_at new.stations sta)

-- the fast transitions back in their place change nothing
same_place : (x : Station) → with_moves (moves_in x) (without_moves x) ≡ x
same_place x = ap (λ (o : Option Trying). the_station o (with_held (held_by x.session) (without_held x.session))) (by x.attempt) ∙ ap (λ (o : Option Kept). the_station x.attempt o) (back x.session)
  where
    by : (o : Option Trying) → with_pending (pending_by o) (associated o) ≡ o
    by None = refl
    by (Some (trying.Association a)) = refl
    by (Some (trying.Transition t)) = refl

    back : (o : Option Kept) → with_held (held_by o) (without_held o) ≡ o
    back None = refl
    back (Some s) = refl

pub placed_same : (m : Moves) (x y : Station) → m ≡ moves_in x → y ≡ with_moves m (without_moves x) → y ≡ x
placed_same m x y same is = is ∙ ap (λ (z : Moves). with_moves z (without_moves x)) same ∙ same_place x

part_replaced : (first : ℕ) (octets : List ℕ) (d : Domain) (a sta : ℕ) (root : Root) (had : Bool) (t : Came) (r : Reply) (key : Option Keyed) (m : Moves) (newest : GroupKey) (old new : Station) (h : List Act)
    → TakeRow (here d first (Ap a)) h octets (reassoc_request_acts d root (Ap a) (Sta sta) had t r) → r.installed ≡ key → HasMoves d (Ap a) (Sta sta) m (add (reassoc_request_acts d root (Ap a) (Sta sta) had t r) h)
    → HasMoved key (moves_in old) m → IsLast groups.Gtk newest (group_keys groups.Gtk h) → IsPlaced d (Ap a) (Sta sta) key m old new → HasPart d (Ap a) sta old h
    → HasPart d (Ap a) sta new (add (reassoc_request_acts d root (Ap a) (Sta sta) had t r) h)
part_replaced first octets d a sta root had t r None m newest old new h row is stand moved last placed at =
    subst (λ (z : Station). HasPart d (Ap a) sta z (add (reassoc_request_acts d root (Ap a) (Sta sta) had t r) h)) (sym (placed_same m old new moved placed)) (reassoc_same_part first octets d a sta root had t r old h row is at)
part_replaced first octets d a sta root had t r (Some y) m newest old new h row is stand moved last placed at =
    reassoc_part first octets d a sta root had t r y (moves_in old) m newest new h row is stand moved last placed

abbrev the_moves : Option TargetState → Option TargetState → Moves
the_moves pending held = record { pending = pending; held = held }

moves_replaced : (d : Domain) (n p : Node) (key : Option Keyed) (m : Moves) (old new : Station) → HasMoved key (moves_in old) m → IsPlaced d n p key m old new → moves_in new ≡ m
moves_replaced d n p None m old new moved placed = ap moves_in (placed_same m old new moved placed) ∙ sym moved
moves_replaced d n p (Some y) m old new moved placed = ap moves_in placed.is ∙ ap (λ (z : Moves). the_moves None z.held) moved.1 ∙ sym moved.1

pub takes_reassoc : (d : Domain) (old new : State) (octets : List ℕ) (sta : ℕ) (elements : Elements) (taken : Taken) (newest : News) (had : Bool) (m : Moves) (waited waits : List Act) → IsRequestOf kind.ReReq d old.number octets sta elements
    → ReassocTaken (request d old.number sta octets (element_fields elements)) newest had waited waits (moves_in (station_at old.stations sta)) m taken
    → had ≡ has_session (station_at old.stations sta) → newest ≡ newest_of old → IsReplaced d old new sta (begun_key taken.outcome taken.key) m
    → ((why : Reason) → taken.outcome ≡ Refused why → new ≡ old) → IsDone d (Take octets) old new (seen waited waits taken.outcome)
takes_reassoc d old new octets sta elements taken newest had m waited waits q x had_is newest_is w refused = record {
  number = w.beside.number;
  does = λ first h stands.
      (let n = Ap old.number in
      let p = Sta sta in
      let e = element_fields elements in
      let so_far = stands.so_far in
      let beside = w.beside in
      let low : sta < length d.stas = q.managed.judged.2 in
      let at = so_far.parts sta in
      let has = so_far.moves sta in
      let o = station_at old.stations sta in
      let came_ = came octets e taken.outcome in
      let root = root_at d p (id_of (meant e (moves_in o))) in
      let said = reassoc_request_acts d root n p had came_ x.reply in
      let said_is : x.acts ≡ said = x.moves.says in
      let some_is : is_some (session p h) ≡ had = any_session d n sta o h at ∙ sym had_is in
      let last : IsNewest d newest h = subst (λ (g : News). IsNewest d g h) (sym newest_is) (is_newest d first old h so_far) in
      let y = x.moves.steps first (management_fields q.frame) h has (request_comes kind.ReReq d old.number octets sta elements q (inr refl)) q.is some_is last in
      let row : TakeRow (here d first n) h octets said = subst (λ (l : List Act). TakeRow (here d first n) h octets l) said_is y.adds in
      let stand : HasMoves d n p m (add said h) = subst (λ (l : List Act). HasMoves d n p m (add l h)) said_is y.stands in
      let key_is : begun_key taken.outcome taken.key ≡ x.reply.installed = ap (begun_key taken.outcome) x.moves.key ∙ reassoc_begun_key (here d first n) h octets d root n p had came_ x.reply row in
      let placed : IsPlaced d n p x.reply.installed m o (station_at new.stations sta) = subst (λ (k : Option Keyed). IsPlaced d n p k m o (station_at new.stations sta)) key_is w.is in
      record {
        acts = said;
        row = row;
        waiting = x.adds ∙ ap (λ (l : List Act). waited ++ l) said_is;
        came = refl;
        stands = stands_with_one d first old new h (add said h) sta so_far (record {
          number = beside.number;
          drawn = beside.drawn ∙ so_far.draws_are ∙ ap (λ (k : ℕ). first + k) (sym (reassoc_draws_none d root n p had came_ x.reply h));
          drawn_low = subst (λ (k : ℕ). k ≤ draw_end) (sym beside.drawn) so_far.draws_low;
          group = beside.group;
          sending = beside.sending;
          listed = λ past. absurd (omega (arith, past, low));
          counted = beside.counts (length d.stas) low w.few so_far.counted;
          same_group = reassoc_group d root n p had came_ x.reply h;
          here = part_replaced first octets d old.number sta root had came_ x.reply x.reply.installed m old.group.gtk.newest o (station_at new.stations sta) h row refl stand y.moved so_far.group_is.gtk.newest placed at;
          others = beside.others;
          goes = λ k other. reassoc_far d root n p had came_ x.reply k h other;
          moves = subst (λ (z : Moves). HasMoves d n p z (add said h)) (sym (moves_replaced d n p x.reply.installed m o (station_at new.stations sta) y.moved placed)) stand;
        });
        marks = plain_of said (reassoc_no_looks d root n p had came_ x.reply) (reassoc_rows d root n p had came_ x.reply);
      });
  refused = refused;
}

-- by other names of the number and of what there was
pub reassoc_as : (d : Domain) (a b sta : ℕ) (octets : List ℕ) (e : ElementFields) (newest : News) (had : Bool) (before after : List Act) (raw old new : Moves) (t : Taken) → a ≡ b → raw ≡ old
    → ReassocTaken (request d a sta octets e) newest had before after raw new t → ReassocTaken (request d b sta octets e) newest had before after old new t
reassoc_as d a b sta octets e newest had before after raw old new t number moves x =
    subst (λ (m : Moves). ReassocTaken (request d b sta octets e) newest had before after m new t) moves (subst (λ (k : ℕ). ReassocTaken (request d k sta octets e) newest had before after raw new t) number x)
