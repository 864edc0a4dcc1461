-- Association requests.
use Rattle.std.proofs.Common.{◌≡◌, ℕ, suc, ◌+◌, ◌<◌, ◌≤◌, Bool, true, false, List, [], ◌∷◌, ◌++◌, length, Option, Some, None, Result, Ok, Err, refl, sym, ap, subst, ◌∙◌, arith, inl, inr}
use Rattle.std.specs.Prelude.{◌==◌, ◌⊎◌, nat_lt, if◌then◌else◌, is_some, option_map, IfOk, OnOk}
use Rattle.std.proofs.lemmas.Bool.{lt-ltb, le-ltb, cases_Bool, eqb-true, eq-eqb}
use Rattle.domain_base.specs.declared.names.Node.{Node}
use Rattle.domain_base.specs.declared.names.Node.TheVariants.{Ap, Sta}
use Rattle.rsn_elements.specs.declared.framing.Within.TheVariants.{Body}
use Rattle.rsn_elements.specs.declared.reading.Elements.{Elements}
use Rattle.rsn_elements.specs.Elements.{ElementFields}
use Rattle.rsn_elements.specs.Fields.{element_fields}
use Rattle.run_journal.specs.declared.domain.Domain.{Domain}
use Rattle.run_journal.specs.declared.acts.Start.TheVariants.{Connect}
use Rattle.run_journal.specs.declared.acts.Drawn.TheVariants.{Nonce}
use Rattle.run_journal.specs.declared.acts.Kind.{Kind}
use Rattle.run_journal.specs.declared.acts.Kind.TheVariants as kind
use Rattle.run_journal.specs.declared.acts.Part.TheVariants.{Attempt as OfAttempt}
use Rattle.run_journal.specs.declared.acts.Reason.{Reason}
use Rattle.run_journal.specs.declared.acts.Reason.TheVariants as reason
use Rattle.run_journal.specs.declared.acts.Outcome.{Outcome}
use Rattle.run_journal.specs.declared.acts.Outcome.TheVariants.{Accepted, Refused}
use Rattle.run_journal.specs.declared.acts.Act.{Act}
use Rattle.run_journal.specs.declared.acts.Act.TheVariants.{Opened, Closed, Drew, Took}
use Rattle.run_journal.specs.Acts.{same}
use Rattle.run_journal.specs.declared.acts.GroupKind.TheVariants as groups
use Rattle.run_journal.specs.Questions.{or_else, attempt, session, group_keys, handshake, draws, add}
use Rattle.domain_rules.specs.Network.{nonce, draw_end}
use Rattle.domain_rules.specs.Reading.{Management, Managed}
use Rattle.domain_rules.specs.Frames.{sent_assoc_resp, sent_m1, sent_refusal}
use Rattle.domain_rules.specs.AccessPointKeys.{HasRsne, session_origin}
use Rattle.domain_rules.specs.Asking.{offered, has_heard}
use Rattle.domain_rules.specs.Counters.{next_in_session}
use Rattle.domain_rules.specs.Associating.{rsne_status, without_status, management_verdict, assoc_req_verdict}
use Rattle.domain_rules.specs.FastTransition.{mobility_status}
use Rattle.domain_rules.specs.TransitionRows.{look_answer, look_of_kind, refused_look}
use Rattle.domain_rules.specs.Verdict.{management_sender, first_verdict, management_further, further_from, further, and_then, verdict}
use Rattle.key_hierarchy.specs.declared.fast_transition.PmkR1.{PmkR1}
use Rattle.domain_rules.specs.Rows.{Take, By_assoc_req}
use Rattle.domain_rules.specs.Closing.{close_attempt, next_nonce}
use Rattle.domain_rules.proofs.Parts.{same-refl, request_more, request_opened}
use Rattle.domain_rules.proofs.Effects.{answer_acts, answer-add, heard-request, answer-apart, answer-draws}
use Rattle.domain_rules.proofs.Refused.{no_facts, refused_first}
use Rattle.domain_rules.proofs.Unprotected.{reads_so}
use Rattle.domain_rules.proofs.Verdicts.{accepted-rsne}
use Rattle.frame_intake.specs.declared.delivered.Management.{Management as AnyFrame}
use Rattle.frame_intake.specs.Views.{management_fields}
use Rattle.node_base.specs.Events.{seen}
use Rattle.authenticator.specs.State.{State as Part, with_session}
use Rattle.authenticator.specs.Stands.{AuthenticatorStands}
use Rattle.ap_node.specs.declared.station.Station.{Station}
use Rattle.group_key.specs.Keys.{Pairs}
use Rattle.eapol_key.specs.declared.messages.Message.TheVariants.{G1, G2}
use Rattle.ccmp_guard.specs.Held.{Held}
use Rattle.authenticator.specs.Kinds.{kinds, abandoned_in, abandoned, renews_in}
use Rattle.authenticator.specs.Stands.{Counts, left_in, session_request, HasSession}
use Rattle.authenticator.proofs.Standing.{associated_as, request_as}
use Rattle.authenticator.specs.declared.attempt.Attempt.{Attempt}
use Rattle.authenticator.specs.Steps.{IsBegun}
use Rattle.authenticator.specs.declared.session.Session.{Session}
use Rattle.ft_exchange.proofs.TargetStanding.{took_passes}
use Rattle.ft_exchange.specs.State.{TargetState}
use Rattle.authenticator.specs.Groups.{owes_in}
use Rattle.targets.specs.declared.moves.Moves.{Moves}
use Rattle.targets.specs.State.{without_pending}
use Rattle.targets.specs.Stands.{HasMoves}
use Rattle.targets.proofs.Beginning.{opened_connect, closed_attempt}
use Rattle.targets.proofs.Passing.{moves_more, drew_passes, sent_any_passes}
use Rattle.ap_node.specs.declared.station.Attempt.{Attempt as Trying}
use Rattle.ap_node.specs.declared.station.Attempt.TheVariants.{Association}
use Rattle.ap_node.specs.declared.station.Session.{Session as Kept}
use Rattle.ap_node.specs.State.{State, station_at, has_attempt, session_by, session_in, key_by, key_in, held_by, moves_in, unrenewed}
use Rattle.ap_node.specs.Counts.{owes_part}
use Rattle.ap_node.specs.Keys.{HasKey}
use Rattle.ap_node.specs.Stands.{IsRenewing, IsOfSession, IsKept, HasPart, StandsSoFar, IsSettled}
use Rattle.ap_node.specs.Takes.{IsTaken, IsManagedAtAp, IsRequest, Begins, BeginsWith, closed, request_status, associated_acts}
use Rattle.ap_node.proofs.Others.{IsSameGroup, AllLeave, keeps, key_as, far_on}
use Rattle.ap_node.proofs.Owed.{owes_at, count_same}
use Rattle.ap_node.proofs.Attempts.{kind_none, kind_renews, any_attempt}
use Rattle.ap_node.proofs.Plain.{plain_append, plain_closed}
use Rattle.ap_node.proofs.Ending.{settled_steps}
use Rattle.ap_node.proofs.Standing.{stands_with_one}
use Rattle.ap_node.proofs.Refusing.{Stays, takes_refused}

-- ---- what comes of it

verdict_is : (d : Domain) (a : ℕ) (octets : List ℕ) (station : ℕ) (frame : AnyFrame) (elements : Elements) → IsManagedAtAp d a octets (Sta station) frame elements → frame.kind ≡ kind.AssocReq → (first : ℕ) (h : List Act)
    → first_verdict d first (Ap a) h (Managed (management_fields frame) (element_fields elements)) ≡ assoc_req_verdict d (first + draws h) (element_fields elements)
verdict_is d a octets station frame elements w is first h = w.judged.3 first h ∙ ap (λ (k : Kind). management_verdict d (first + draws h) (Ap a) h (Sta station) k (management_fields frame) (element_fields elements)) is

-- no key holder is asked for an association request
unasked : (a : ℕ) (p : Node) (b : Management) (e : ElementFields) (why : Reason) → b.kind ≡ kind.AssocReq → (pulled : Option PmkR1) → refused_look (Ap a) (Some p) (Managed b e) pulled why ≡ []
unasked a p b e why is pulled = ap (λ (k : Kind). look_of_kind k p e (look_answer why pulled)) is

-- by the status, if any
status_by : (o p : Option ℕ) (then_ : Outcome) → without_status o (without_status p then_) ≡ without_status (or_else o p) then_
status_by None p then_ = refl
status_by (Some code) p then_ = refl

by_status : (d : Domain) (drawn : ℕ) (e : ElementFields) → assoc_req_verdict d drawn e ≡ without_status (request_status d e) (if nat_lt drawn draw_end then Accepted else Refused reason.Spent)
by_status d drawn e = status_by (rsne_status d e.rsne) (mobility_status d.akm d e.mde) (if nat_lt drawn draw_end then Accepted else Refused reason.Spent)

by_draws : (d : Domain) (drawn : ℕ) (e : ElementFields) (b : Bool) → request_status d e ≡ None → nat_lt drawn draw_end ≡ b → assoc_req_verdict d drawn e ≡ (if b then Accepted else Refused reason.Spent)
by_draws d drawn e b none low =
    by_status d drawn e ∙ ap (λ (o : Option ℕ). without_status o (if nat_lt drawn draw_end then Accepted else Refused reason.Spent)) none ∙ ap (λ (x : Bool). if x then Accepted else Refused reason.Spent) low

-- then the RSNE is one
rsne_of : (d : Domain) (e : ElementFields) → request_status d e ≡ None → rsne_status d e.rsne ≡ None
rsne_of d e none = by (rsne_status d e.rsne) (mobility_status d.akm d e.mde) none
  where
    by : (o p : Option ℕ) → or_else o p ≡ None → o ≡ None
    by None p is = refl
    by (Some code) p is = absurd (cc is)

-- refused with a status
pub takes_status : (d : Domain) (s : State) (octets : List ℕ) (station : ℕ) (elements : Elements) (status : ℕ) (n : Node) (waited waits : List Act) → IsRequest d s.number octets station elements
    → request_status d (element_fields elements) ≡ Some status → n ≡ Ap s.number → waits ≡ waited ++ Took (Some (Sta station)) octets kind.AssocReq (Refused (reason.Status status)) None ∷ sent_refusal d n (Sta station) status ∷ []
    → Stays d s octets waited waits (Refused (reason.Status status))
takes_status d s octets station elements status n waited waits q status_is node waiting =
    let w = q.managed in
    let b = management_fields q.frame in
    let e = element_fields elements in
    let r = Managed b e in
    takes_refused d s octets r (Some (Sta station)) kind.AssocReq (reason.Status status) None (sent_refusal d (Ap s.number) (Sta station) status ∷ []) waited waits (reads_so d octets r refl w.reads) (sym w.judged.1) (sym q.is) refl
    (unasked s.number (Sta station) b e (reason.Status status) q.is)
    (λ first h stands. refused_first d first (Ap s.number) h r (reason.Status status)
    (verdict_is d s.number octets station q.frame elements w q.is first h ∙ by_status d (first + draws h) e ∙ ap (λ (o : Option ℕ). without_status o (if nat_lt (first + draws h) draw_end then Accepted else Refused reason.Spent)) status_is))
    (waiting ∙ ap (λ (x : Node). waited ++ Took (Some (Sta station)) octets kind.AssocReq (Refused (reason.Status status)) None ∷ sent_refusal d x (Sta station) status ∷ []) node)

-- refused as the draws are at their end
pub takes_spent : (d : Domain) (s : State) (octets : List ℕ) (station : ℕ) (elements : Elements) (waited waits : List Act) → IsRequest d s.number octets station elements
    → request_status d (element_fields elements) ≡ None → draw_end ≤ s.drawn → waits ≡ waited ++ Took (Some (Sta station)) octets kind.AssocReq (Refused reason.Spent) None ∷ []
    → Stays d s octets waited waits (Refused reason.Spent)
takes_spent d s octets station elements waited waits q none spent waiting =
    let w = q.managed in
    let b = management_fields q.frame in
    let e = element_fields elements in
    let r = Managed b e in
    takes_refused d s octets r (Some (Sta station)) kind.AssocReq reason.Spent None [] waited waits (reads_so d octets r refl w.reads) (sym w.judged.1) (sym q.is) refl
    (unasked s.number (Sta station) b e reason.Spent q.is)
    (λ first h stands. refused_first d first (Ap s.number) h r reason.Spent
    (verdict_is d s.number octets station q.frame elements w q.is first h ∙ by_draws d (first + draws h) e false none (le-ltb (first + draws h) draw_end (subst (λ (x : ℕ). draw_end ≤ x) stands.so_far.draws_are spent))))
    waiting

-- ---- accepted

-- the acts are those of the history
closed_by : (p : Node) (b : Bool) (o : Option (List Act)) → is_some o ≡ b → closed p b ≡ close_attempt p o
closed_by p b None is = ap (closed p) (sym is)
closed_by p b (Some part) is = ap (closed p) (sym is)

associated_is : (d : Domain) (first : ℕ) (n : Node) (sta : ℕ) (octets : List ℕ) (x : Station) (drawn : ℕ) (h : List Act) → HasPart d n sta x h → HasMoves d n (Sta sta) (moves_in x) h → drawn ≡ first + draws h
    → associated_acts d n (Sta sta) octets (has_attempt x) (nonce d n drawn) ≡ answer_acts d n (Sta sta) octets (attempt (Sta sta) h) (next_nonce d first n h)
associated_is d first n sta octets x drawn h at moves drawn_is = rw (closed_by (Sta sta) (has_attempt x) (attempt (Sta sta) h) (any_attempt d n sta x h at moves), drawn_is) refl

-- the history before the Opened of the attempt that it begins
abbrev before_opened : Node → List ℕ → Option (List Act) → List Act → List Act
before_opened p octets o h = add (close_attempt p o) (Took (Some p) octets kind.AssocReq Accepted None ∷ h)

-- and before its M1
abbrev before_m1 : Domain → Node → Node → List ℕ → Option (List Act) → List ℕ → List Act → List Act
before_m1 d n p octets o v h = sent_assoc_resp d n p ∷ Drew (Nonce v) ∷ Opened p Connect ∷ before_opened p octets o h

is_begun : (d : Domain) (n p : Node) (octets v rsne : List ℕ) (o : Option (List Act)) (h : List Act) → HasRsne d.akm octets (Some rsne) → IsBegun d p v rsne (before_m1 d n p octets o v h)
is_begun d n p octets v rsne o h said = record {
  part = sent_assoc_resp d n p ∷ Drew (Nonce v) ∷ Opened p Connect ∷ [];
  is = rw (same-refl p) refl;
  begun = refl;
  nonce = refl;
  no_m1 = rw (same-refl p) refl;
  no_m3 = rw (same-refl p) refl;
  no_first = rw (same-refl p) refl;
  no_m2 = refl;
  request = octets;
  heard_last = request_more p (sent_assoc_resp d n p) (Drew (Nonce v) ∷ Opened p Connect ∷ before_opened p octets o h) refl refl refl
      ∙ request_more p (Drew (Nonce v)) (Opened p Connect ∷ before_opened p octets o h) refl refl refl
      ∙ request_opened p (Opened p Connect) (before_opened p octets o h) (same-refl p) ∙ heard-request p octets o h;
  has_rsne = said;
}

session-before : (d : Domain) (n p : Node) (octets : List ℕ) (o : Option (List Act)) (v : List ℕ) (h : List Act) → session p (before_m1 d n p octets o v h) ≡ session p h
session-before d n p octets None v h = refl
session-before d n p octets (Some part) v h = refl

-- the acts before M1, the attempt that was there being closed or not: the session goes on, and takes no counter of them
origin-before : (d : Domain) (n p : Node) (octets : List ℕ) (o : Option (List Act)) (v : List ℕ) (h : List Act) → session_origin p (before_m1 d n p octets o v h) ≡ session_origin p h
origin-before d n p octets None v h = refl
origin-before d n p octets (Some part) v h = refl

next-before : (d : Domain) (n p : Node) (octets : List ℕ) (o : Option (List Act)) (v : List ℕ) (h : List Act) → next_in_session p (before_m1 d n p octets o v h) ≡ next_in_session p h
next-before d n p octets None v h = rw (same-refl p) refl
next-before d n p octets (Some part) v h = rw (same-refl p) refl

keys-before : (d : Domain) (n p : Node) (octets : List ℕ) (o : Option (List Act)) (v : List ℕ) (h : List Act) → group_keys groups.Gtk (before_m1 d n p octets o v h) ≡ group_keys groups.Gtk h
keys-before d n p octets None v h = refl
keys-before d n p octets (Some part) v h = refl

offers-before : (d : Domain) (n p : Node) (octets : List ℕ) (o : Option (List Act)) (v : List ℕ) (h : List Act) → offered p G1 (handshake groups.Gtk p (before_m1 d n p octets o v h)) ≡ offered p G1 (handshake groups.Gtk p h)
offers-before d n p octets None v h = rw (same-refl p) refl
offers-before d n p octets (Some part) v h = rw (same-refl p) refl

answers-before : (d : Domain) (n p : Node) (octets : List ℕ) (o : Option (List Act)) (v : List ℕ) (h : List Act) → has_heard p (kind.Key G2) (handshake groups.Gtk p (before_m1 d n p octets o v h)) ≡ has_heard p (kind.Key G2) (handshake groups.Gtk p h)
answers-before d n p octets None v h = rw (same-refl p) refl
answers-before d n p octets (Some part) v h = rw (same-refl p) refl

draws-before : (d : Domain) (n p : Node) (octets : List ℕ) (o : Option (List Act)) (v : List ℕ) (h : List Act) → draws (before_m1 d n p octets o v h) ≡ suc (draws h)
draws-before d n p octets None v h = refl
draws-before d n p octets (Some part) v h = refl

-- the attempt that begins renews no key
left-before : (d : Domain) (n p : Node) (octets : List ℕ) (o : Option (List Act)) (v : List ℕ) (h : List Act) → left_in p (attempt p (before_m1 d n p octets o v h)) ≡ 0
left-before d n p octets o v h = rw (same-refl p) refl

counts-before : (d : Domain) (n p : Node) (octets : List ℕ) (o : Option (List Act)) (v : List ℕ) (h : List Act) (s : Session) → Counts p s h → Counts p s (before_m1 d n p octets o v h)
counts-before d n p octets o v h s at = record {
  place = at.place;
  here = record {
    next = next-before d n p octets o v h ∙ at.here.next;
    newest = ap (λ (l : List (List ℕ)). length l) (keys-before d n p octets o v h) ∙ at.here.newest;
    drawn = at.here.drawn;
    offers = offers-before d n p octets o v h ∙ at.here.offers;
    answered = answers-before d n p octets o v h ∙ at.here.answered;
    low = omega (arith, at.here.low, draws-before d n p octets o v h, left-before d n p octets o v h);
  };
}

-- where an association request is accepted
session_begun : (d : Domain) (n p : Node) (octets v : List ℕ) (h : List Act) (o : Option Session) → HasSession d n p o h → HasSession d n p o (before_m1 d n p octets (attempt p h) v h)
session_begun d n p octets v h None at = session-before d n p octets (attempt p h) v h ∙ at
session_begun d n p octets v h (Some s) at = record {
  x = at.x;
  is = session-before d n p octets (attempt p h) v h ∙ at.is;
  key = at.key;
  counts = counts-before d n p octets (attempt p h) v h s at.counts;
  associated = associated_as d n p s.association (session_request p h) (session_request p (before_m1 d n p octets (attempt p h) v h)) (request_as p h (before_m1 d n p octets (attempt p h) v h) (origin-before d n p octets (attempt p h) v h)) at.associated;
}

answer-group : (d : Domain) (n p : Node) (octets : List ℕ) (o : Option (List Act)) (v : List ℕ) (h : List Act) → IsSameGroup h (add (answer_acts d n p octets o v) h)
answer-group d n p octets None v h = record { keys_are = λ x. refl; switches_are = λ x. refl; uses_are = λ x. refl }
answer-group d n p octets (Some part) v h = record { keys_are = λ x. refl; switches_are = λ x. refl; uses_are = λ x. refl }

answer-leaves : (q : Node) (d : Domain) (n p : Node) (octets : List ℕ) (o : Option (List Act)) (v : List ℕ) → AllLeave q (answer_acts d n p octets o v)
answer-leaves q d n p octets None v tk = (
  record { used = λ h. refl; got = λ tid h. refl },
  (
    record { used = λ h. refl; got = λ tid h. refl },
    (
      record { used = λ h. refl; got = λ tid h. refl },
      (
        record { used = λ h. refl; got = λ tid h. refl },
        (record { used = λ h. refl; got = λ tid h. refl }, tt),
      ),
    ),
  ),
)
answer-leaves q d n p octets (Some part) v tk = (
  record { used = λ h. refl; got = λ tid h. refl },
  (
    record { used = λ h. refl; got = λ tid h. refl },
    (
      record { used = λ h. refl; got = λ tid h. refl },
      (
        record { used = λ h. refl; got = λ tid h. refl },
        (
          record { used = λ h. refl; got = λ tid h. refl },
          (record { used = λ h. refl; got = λ tid h. refl }, tt),
        ),
      ),
    ),
  ),
)

answer-session : (d : Domain) (n p : Node) (octets : List ℕ) (o : Option (List Act)) (v : List ℕ) (h : List Act) → session p (add (answer_acts d n p octets o v) h) ≡ session p h
answer-session d n p octets None v h = refl
answer-session d n p octets (Some part) v h = refl

-- no attempt renews the key of the session then
unrenewed_attempt : (d : Domain) (o : Option Trying) (q : Part) → IsOfSession d o (kinds q) → (abandoned q).attempt ≡ None
unrenewed_attempt d o q of = by of.attempt
  where
    by : ((kinds q).attempt ≡ None) ⊎ IsRenewing d o (kinds q) → (abandoned q).attempt ≡ None
    by (inl none) = ap (λ (a : Option Attempt). abandoned_in (renews_in a) a) (kind_none q none)
    by (inr renewing) = ap (λ (b : Bool). abandoned_in b q.attempt) (kind_renews q true renewing.begun)

unrenewed_kept : (d : Domain) (n p : Node) (o t : Option Trying) (s : Option Kept) → IsKept d n p o s → IsKept d n p t (unrenewed s)
unrenewed_kept d n p o t None kept = tt
unrenewed_kept d n p o t (Some s) kept = (
  kept.0,
  record {
    attempt = inl (ap (option_map (λ (a : Attempt). a.renews)) (unrenewed_attempt d o s.part kept.1));
    session = kept.1.session;
  },
)

unrenewed_session : (s : Option Kept) → session_by (unrenewed s) ≡ session_by s
unrenewed_session None = refl
unrenewed_session (Some s) = refl

unrenewed_key : (s : Option Kept) → key_by (unrenewed s) ≡ key_by s
unrenewed_key None = refl
unrenewed_key (Some s) = refl

unrenewed_held : (s : Option Kept) → held_by (unrenewed s) ≡ held_by s
unrenewed_held None = refl
unrenewed_held (Some s) = refl

-- what there is with the station then: the old session goes on beside the new attempt, under its key
begun_at : (d : Domain) (old new : State) (sta : ℕ) (octets rsne : List ℕ) (h : List Act) (w : BeginsWith d old new sta rsne) → HasRsne d.akm octets (Some rsne) → HasPart d (Ap old.number) sta (station_at old.stations sta) h
    → HasPart d (Ap old.number) sta (station_at new.stations sta) (add (answer_acts d (Ap old.number) (Sta sta) octets (attempt (Sta sta) h) (nonce d (Ap old.number) old.drawn)) h)
begun_at d old new sta octets rsne h w said at =
    let n = Ap old.number in
    let p = Sta sta in
    let o = attempt p h in
    let v = nonce d n old.drawn in
    let old_station = station_at old.stations sta in
    let x = session_in old_station in
    let past = before_m1 d n p octets o v h in
    let before = session_begun d n p octets v h x at.session_is in
    let stands = w.begins past x (is_begun d n p octets v rsne o h said) before in
    let said = answer_acts d n p octets o v in
    let now = subst (λ (g : List Act). AuthenticatorStands d n p (with_session x w.part) g) (sym (answer-add d n p octets o v h)) stands in
    let key = key_as p (session p h) (session p (add said h)) (key_in old_station) h (add said h) (answer-session d n p octets o v h) (keeps p said h (answer-leaves p d n p octets o v)) at.key in
    subst (λ (y : Station). HasPart d n sta y (add said h)) (sym w.is) (record {
      tried = (now.ends, w.begun);
      kept = unrenewed_kept d n p old_station.attempt (Some (Association w.part)) old_station.session at.kept;
      attempt_is = now.attempt_is;
      session_is = subst (λ (q : Option Session). HasSession d n p q (add said h)) (sym (unrenewed_session old_station.session)) now.session_is;
      key = subst (λ (k : Option Held). HasKey p (session p (add said h)) k (add said h)) (sym (unrenewed_key old_station.session)) key;
    })

-- an attempt by fast transition is at its end then
begun_moves : (d : Domain) (n : Node) (sta : ℕ) (octets : List ℕ) (o : Option (List Act)) (v : List ℕ) (m : Moves) (h : List Act) → HasMoves d n (Sta sta) m h → HasMoves d n (Sta sta) (without_pending m) (add (answer_acts d n (Sta sta) octets o v) h)
begun_moves d n sta octets o v m h has = by o
  where
    p : Node
    p = Sta sta

    took : List Act
    took = Took (Some p) octets kind.AssocReq Accepted None ∷ h

    heard : HasMoves d n p m took
    heard = moves_more d n p m _ h (took_passes p (Some p) octets kind.AssocReq Accepted None) has

    rest : (l : List Act) → HasMoves d n p (without_pending m) (Opened p Connect ∷ l) → HasMoves d n p (without_pending m) (sent_m1 d n p 1 v ∷ sent_assoc_resp d n p ∷ Drew (Nonce v) ∷ Opened p Connect ∷ l)
    rest l at =
        moves_more d n p (without_pending m) _ _ (sent_any_passes p _ _ _ _)
        (moves_more d n p (without_pending m) _ _ (sent_any_passes p _ _ _ _) (moves_more d n p (without_pending m) _ _ (drew_passes p (Nonce v)) at))

    by : (o : Option (List Act)) → HasMoves d n p (without_pending m) (add (answer_acts d n p octets o v) h)
    by None = rest took (opened_connect d n p m took heard)
    by (Some part) = rest (Closed p OfAttempt ∷ took) (opened_connect d n p (without_pending m) (Closed p OfAttempt ∷ took) (closed_attempt d n sta m took heard))

abbrev the_moves : Option TargetState → Moves
the_moves held = record { pending = None; held = held }

-- no session owes more or less than before
owes_kept : (d : Domain) (old new : State) (sta place : ℕ) (rsne : List ℕ) → BeginsWith d old new sta rsne → (k : ℕ) → owes_at place new.stations k ≡ owes_at place old.stations k
owes_kept d old new sta place rsne w k = elim (cases_Bool (k == sta)) [
  | inl is ↦ (let same : k ≡ sta = eqb-true k sta is in
      subst (λ (i : ℕ). owes_at place new.stations i ≡ owes_at place old.stations i) (sym same) (ap (owes_part place) w.is ∙ ap (owes_in place) (unrenewed_session (station_at old.stations sta).session)))
  | inr other ↦ ap (owes_part place) (w.others k (λ (e : k ≡ sta). cc (eq-eqb k sta e, other)))
]

stands_associated : (d : Domain) (first : ℕ) (old new : State) (sta : ℕ) (octets rsne : List ℕ) (h : List Act) → sta < length d.stas → HasRsne d.akm octets (Some rsne) → old.drawn < draw_end → BeginsWith d old new sta rsne → StandsSoFar d first old h
    → StandsSoFar d first new (add (associated_acts d (Ap old.number) (Sta sta) octets (has_attempt (station_at old.stations sta)) (nonce d (Ap old.number) old.drawn)) h)
stands_associated d first old new sta octets rsne h low said room w stands =
    let n = Ap old.number in
    let p = Sta sta in
    let v = next_nonce d first n h in
    let v_is : nonce d n old.drawn ≡ v = ap (nonce d n) stands.draws_are in
    let o = attempt p h in
    let x = station_at old.stations sta in
    let place = old.group.gtk.newest.place in
    let says = associated_is d first n sta octets x old.drawn h (stands.parts sta) (stands.moves sta) stands.draws_are in
    subst (λ (g : List Act). StandsSoFar d first new (add g h)) (sym says)
    (stands_with_one d first old new h (add (answer_acts d n p octets o v) h) sta stands (record {
      number = w.number;
      drawn = omega (arith, w.drawn, stands.draws_are, answer-draws d n p octets o v h);
      drawn_low = omega (arith, w.drawn, room);
      group = w.group;
      sending = w.sending;
      listed = λ past. absurd (omega (arith, past, low));
      counted = w.owing ∙ stands.counted ∙ sym (count_same place old.stations new.stations (length d.stas) (λ k below. owes_kept d old new sta place rsne w k));
      same_group = answer-group d n p octets o v h;
      here = subst (λ (u : List ℕ). HasPart d n sta (station_at new.stations sta) (add (answer_acts d n p octets o u) h)) v_is (begun_at d old new sta octets rsne h w said (stands.parts sta));
      others = w.others;
      goes = λ k other. far_on (Sta k) (answer_acts d n p octets o v) h (answer-apart d n p octets o v k other) (answer-leaves (Sta k) d n p octets o v);
      moves = subst (λ (m : Moves). HasMoves d n p m (add (answer_acts d n p octets o v) h)) (sym (ap moves_in w.is ∙ ap the_moves (unrenewed_held x.session))) (begun_moves d n sta octets o v (moves_in x) h (stands.moves sta));
    }))

-- and no switch is to come
settled_still : (d : Domain) (old new : State) (sta : ℕ) (rsne : List ℕ) → BeginsWith d old new sta rsne → IsSettled old → IsSettled new
settled_still d old new sta rsne w (inl same) = inl (subst (λ (g : Pairs). g.gtk.newest.place ≡ g.gtk.current.place) (sym w.group) same)
settled_still d old new sta rsne w (inr some) = inr (omega (arith, w.owing, some))

-- reading further refuses nothing of an association request
further_request : (d : Domain) (drawn a : ℕ) (h : List Act) (b : Management) (e : ElementFields) (o : Option Node) → b.kind ≡ kind.AssocReq → further_from o (λ p. management_further d drawn (Ap a) h p b e no_facts b.kind) ≡ Accepted
further_request d drawn a h b e None is = refl
further_request d drawn a h b e (Some p) is = ap (λ (k : Kind). management_further d drawn (Ap a) h p b e no_facts k) is

request_accepted : (d : Domain) (first a : ℕ) (h : List Act) (b : Management) (e : ElementFields) → b.kind ≡ kind.AssocReq → first_verdict d first (Ap a) h (Managed b e) ≡ Accepted → verdict d first (Ap a) h (Managed b e) no_facts ≡ Accepted
request_accepted d first a h b e kind_is is =
    ap (λ (o : Outcome). and_then o (further d first (Ap a) h (Managed b e) no_facts)) is
    ∙ ap (λ (o : Outcome). and_then Accepted o) (further_request d (first + draws h) a h b e (management_sender d (Ap a) b.header) kind_is)

pub takes_associated : (d : Domain) (old new : State) (octets : List ℕ) (sta : ℕ) (elements : Elements) (rsne raw : List ℕ) (waited waits : List Act) → IsRequest d old.number octets sta elements
    → request_status d (element_fields elements) ≡ None → old.drawn < draw_end → (element_fields elements).rsne_octets ≡ Some raw → rsne ≡ raw → BeginsWith d old new sta rsne
    → waits ≡ waited ++ associated_acts d (Ap old.number) (Sta sta) octets (has_attempt (station_at old.stations sta)) (nonce d (Ap old.number) old.drawn)
    → IsTaken d (Take octets) old new (seen waited waits Accepted)
takes_associated d old new octets sta elements rsne raw waited waits q none low raw_is rsne_is begun waiting = record {
  number = begun.number;
  steps = λ first h stands.
      (let so_far = stands.so_far in
      let w = q.managed in
      let m = management_fields q.frame in
      let e = element_fields elements in
      let n = Ap old.number in
      let had = has_attempt (station_at old.stations sta) in
      let accepted = verdict_is d old.number octets sta q.frame elements w q.is first h ∙ by_draws d (first + draws h) e true none (lt-ltb (first + draws h) draw_end (subst (λ (x : ℕ). x < draw_end) so_far.draws_are low)) in
      settled_steps d first (Take octets) old new (seen waited waits Accepted) h begun.number (settled_still d old new sta rsne begun stands.settled)
      (record {
        acts = associated_acts d n (Sta sta) octets had (nonce d n old.drawn);
        row = record {
          r = Managed m e;
          reads = reads_so d octets (Managed m e) refl w.reads;
          facts = no_facts;
          knows = λ far from sent. tt;
          row = By_assoc_req (record {
            b = m;
            e = e;
            is = refl;
            kind_is = q.is;
            p = Sta sta;
            from = w.judged.1;
            accepted = request_accepted d first old.number h m e q.is accepted;
            says = associated_is d first n sta octets (station_at old.stations sta) old.drawn h (so_far.parts sta) (so_far.moves sta) so_far.draws_are;
          });
        };
        waiting = waiting;
        came = refl;
        stands = stands_associated d first old new sta octets rsne h w.judged.2 (e, ((m, w.reads), ap (λ (x : List ℕ). Some x) rsne_is ∙ sym raw_is)) low begun so_far;
        marks = ((tt, refl), plain_append (closed (Sta sta) had) _ (plain_closed (Sta sta) had) ((tt, refl), ((tt, refl), ((tt, refl), ((tt, refl), tt)))));
      }));
  refused = λ why is. absurd (cc is);
}

-- with no status there are the octets of an RSNE
pub some_rsne : (d : Domain) (a : ℕ) (octets : List ℕ) (station : ℕ) (elements : Elements) → IsRequest d a octets station elements → request_status d (element_fields elements) ≡ None → (element_fields elements).rsne_octets ≡ None → ⊥
some_rsne d a octets station elements q none raw = cc ((accepted-rsne d Body (management_fields q.frame).elements (element_fields elements) q.managed.reads.1 (rsne_of d (element_fields elements) none)).1, raw)

-- ---- as the code comes by them

joined : (old : List Act) (p : Node) (had : Bool) (t x y z : Act) (sends : List Act) → (((old ++ t ∷ []) ++ closed p had) ++ x ∷ y ∷ z ∷ []) ++ sends ≡ old ++ (t ∷ closed p had ++ x ∷ y ∷ z ∷ sends)
joined [] p false t x y z sends = refl
joined [] p true t x y z sends = refl
joined (o ∷ os) p had t x y z sends = ap (λ (l : List Act). o ∷ l) (joined os p had t x y z sends)

-- the acts are added one by one
pub accepted_added : (old first second third last : List Act) (p : Node) (had : Bool) (t x y u : Act) (sends : List Act) → first ≡ old ++ t ∷ [] → second ≡ first ++ closed p had
    → third ≡ second ++ x ∷ y ∷ u ∷ [] → last ≡ third ++ sends → last ≡ old ++ (t ∷ closed p had ++ x ∷ y ∷ u ∷ sends)
accepted_added old first second third last p had t x y u sends one two three four =
    four ∙ ap (λ (l : List Act). l ++ sends) (three ∙ ap (λ (l : List Act). l ++ x ∷ y ∷ u ∷ []) (two ∙ ap (λ (l : List Act). l ++ closed p had) one))
    ∙ joined old p had t x y u sends

-- and they are those of the acceptance
pub associated_added : (d : Domain) (n p : Node) (octets : List ℕ) (had : Bool) (v : List ℕ) (t u : Act) (old spare sends last : List Act) → spare ≡ old → last ≡ spare ++ (t ∷ closed p had ++ Opened p Connect ∷ Drew (Nonce v) ∷ u ∷ sends)
    → t ≡ Took (Some p) octets kind.AssocReq Accepted None → u ≡ sent_assoc_resp d n p → sends ≡ sent_m1 d n p 1 v ∷ []
    → last ≡ old ++ associated_acts d n p octets had v
associated_added d n p octets had v t u old spare sends last kept added t_is u_is sends_are = added ∙ rw (kept, t_is, u_is, sends_are) refl

pub associated_same : (d : Domain) (n m p : Node) (octets : List ℕ) (had has : Bool) (v w : List ℕ) → n ≡ m → had ≡ has → v ≡ w → associated_acts d n p octets had v ≡ associated_acts d m p octets has w
associated_same d n m p octets had has v w node had_is nonce_is = rw (node, had_is, nonce_is) refl

-- by other names of the number and the nonce
pub begins_as : (d : Domain) (n m sta : ℕ) (v w rsne : List ℕ) (x : Part) → n ≡ m → v ≡ w → Begins d n sta v rsne x → Begins d m sta w rsne x
begins_as d n m sta v w rsne x number nonce_is begins = subst (λ (a : ℕ). Begins d a sta w rsne x) number (subst (λ (u : List ℕ). Begins d n sta u rsne x) nonce_is begins)

-- the outcome and two facts together make what is to hold of the outcome
pub if_begun : {E : Type 0} (r : Result Outcome E) (o : Outcome) (P : Outcome → Type 0) (A B : Type 0) → IfOk r (λ came. came ≡ o) → OnOk r A → OnOk r B → (A → B → P o) → IfOk r P
if_begun (Ok came) o P A B is a b then_ = subst P (sym is) (then_ a b)
if_begun (Err e) o P A B is a b then_ = tt
