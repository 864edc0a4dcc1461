-- Each way in which a station takes an event, by what its code did.
use Rattle.std.proofs.Common.{◌+◌, ◌≡◌, ◌≢◌, inl, inr, true, false, ℕ, ◌<◌, ◌≤◌, List, [], ◌∷◌, ◌++◌, length, Option, Some, None, refl, sym, ap, subst, ◌∙◌}
use Rattle.std.specs.Prelude.{Result, Ok, Err, IfOk, OnOk, OnErr, is_some, option_map}
use Rattle.domain_base.specs.declared.names.Node.{Node}
use Rattle.domain_base.specs.declared.names.Node.TheVariants.{Ap, Sta}
use Rattle.rsn_elements.specs.Elements.{ElementFields}
use Rattle.run_journal.specs.declared.domain.Domain.{Domain}
use Rattle.run_journal.specs.declared.acts.Start.TheVariants.{Connect}
use Rattle.run_journal.specs.declared.acts.Drawn.TheVariants.{Nonce}
use Rattle.run_journal.specs.declared.acts.Kind.{Kind}
use Rattle.run_journal.specs.declared.acts.Kind.TheVariants as kind
use Rattle.run_journal.specs.declared.acts.Reason.{Reason}
use Rattle.run_journal.specs.declared.acts.Reason.TheVariants as reason
use Rattle.run_journal.specs.declared.acts.Why.TheVariants as why
use Rattle.run_journal.specs.declared.acts.Outcome.{Outcome}
use Rattle.run_journal.specs.declared.acts.Outcome.TheVariants.{Accepted, Ignored, Refused, Done}
use Rattle.run_journal.specs.declared.acts.Outcome.TheVariants.{Idle as IdleBy}
use Rattle.run_journal.specs.declared.acts.Act.{Act}
use Rattle.run_journal.specs.declared.acts.Act.TheVariants.{Opened, Drew, Took, Idle}
use Rattle.run_journal.specs.declared.reply.Keyed.{Keyed as PairwiseKey}
use Rattle.run_journal.specs.Questions.{draws, add}
use Rattle.domain_rules.specs.Here.{here}
use Rattle.domain_rules.specs.Network.{nonce, draw_end}
use Rattle.domain_rules.specs.Frames.{sent_assoc_req}
use Rattle.domain_rules.specs.Reading.{Management, KeyMessage, Reading, PassedOver, Managed, Keyed, ReadsAt, kind_of}
use Rattle.domain_rules.specs.Replies.{IsMessageFrom, taken_as}
use Rattle.domain_rules.specs.Verdict.{first_verdict, key_verdict}
use Rattle.domain_rules.specs.Associating.{management_verdict}
use Rattle.domain_rules.specs.Rows.{NodeEvent, Take, Begin, Leave}
use Rattle.domain_rules.specs.Closing.{close_pending, close_associated, sender}
use Rattle.domain_rules.proofs.Switching.{station_adds}
use Rattle.domain_rules.proofs.Unprotected.{reads_so}
use Rattle.ccmp_guard.specs.Held.{Held}
use Rattle.group_key.specs.Keys.{Memories}
use Rattle.group_key.specs.Holds.{RemembersAll}
use Rattle.frame_intake.specs.declared.delivered.Heard.{Heard}
use Rattle.frame_intake.specs.Views.{message_fields}
use Rattle.frame_intake.specs.Judging.{IsSettled}
use Rattle.node_base.specs.Changing.{after}
use Rattle.node_base.specs.Events.{Steps, seen}
use Rattle.supplicant.specs.State.{State as Supplicant, Both, both}
use Rattle.supplicant.specs.Stands.{SupplicantStands}
use Rattle.supplicant.specs.Steps.{SupplicantSteps}
use Rattle.supplicant.specs.Taken.{OpensNone}
use Rattle.data_frames.specs.Holding.{fresh_key}
use Rattle.ft_exchange.specs.State.{OriginatorState}
use Rattle.ft_exchange.specs.Comes.{IsManagementFrom}
use Rattle.station_node.specs.Responses.{response_outcome}
use Rattle.station_node.specs.declared.attempt.Attempt.{Attempt}
use Rattle.station_node.specs.declared.attempt.Association.TheVariants as association
use Rattle.station_node.specs.declared.session.Session.{Session}
use Rattle.station_node.specs.declared.handing.Came.{Came}
use Rattle.station_node.specs.State.{State, memory_at, is_there, set_memory}
use Rattle.station_node.specs.Parts.{peer_of_attempt, peer_of_session, peer_pending, opens_by, has_neither, IsElsewhere, IsNotRequested, IsNotMoving}
use Rattle.station_node.specs.Stands.{Stands, HaveIds}
use Rattle.station_node.specs.Steps.{IsTaken, Turn, turn, Takes}
use Rattle.station_node.specs.Handed.{Handing, handing, IsHanded}
use Rattle.station_node.proofs.Beginning.{HasBegun, asked_state, associated_state}
use Rattle.station_node.proofs.Handed.{IsOnly, told_acts, tried_state, finished_state, held_state, stands-tried, stands-finished, stands-held, stands-renewed}
use Rattle.station_node.proofs.Openings.{opens_pending, opens_beside}
use Rattle.station_node.proofs.Verdicts.{response-unawaited, response-awaited, message-nowhere, message-requested, message-roamed, management-other, auth-unawaited, reassoc-unawaited}
use Rattle.station_node.proofs.Standing.{accepted_is, held_is}
use Rattle.station_node.proofs.Asking.{steps-spent, steps-asked}
use Rattle.station_node.proofs.Leaving.{left_state, steps-nothing, steps-left}
use Rattle.station_node.proofs.Taking.{steps-refused, steps-ignored, steps-associated}
use Rattle.station_node.proofs.MemoryPlaces.{memory_there, memory_elsewhere, memory_back}

-- ---- what is returned

-- the outcome and the acts, where there was memory, and nothing else
pub takes_by : {E : Type 0} (d : Domain) (event : NodeEvent) (t : Turn) (r : Result Outcome E) (o : Outcome) (A : Type 0) → IfOk r (λ came. came ≡ o) → OnOk r A → OnErr r (t.waits ≡ t.waited) → t.new ≡ t.old → (A → IsTaken d event t o) → Takes d event t r
takes_by d event t (Ok came) o A is acts kept same then_ = subst (λ (x : Outcome). IsTaken d event t x) (sym is) (then_ acts)
takes_by d event t (Err e) o A is acts kept same then_ = (same, kept)

-- of the station alone, and of its histories
pub takes_number : {E : Type 0} (d : Domain) (event : NodeEvent) (t : Turn) (r : Result Outcome E) → Takes d event t r → t.new.number ≡ t.old.number
takes_number d event t (Ok came) taken = taken.number
takes_number d event t (Err e) left = ap (λ (s : State). s.number) left.0

pub takes_steps : {E : Type 0} (d : Domain) (event : NodeEvent) (t : Turn) (r : Result Outcome E) → Takes d event t r
    → IfOk r (λ o. (first : ℕ) (h : List Act) → Stands d first t.old h → Steps (here d first (Sta t.old.number)) event (Stands d first t.new) h (seen t.waited t.waits o))
takes_steps d event t (Ok came) taken = taken.steps
takes_steps d event t (Err e) left = tt

pub takes_event : {E : Type 0} (d : Domain) (event asked : NodeEvent) (t : Turn) (r : Result Outcome E) → asked ≡ event → Takes d event t r
    → IfOk r (λ o. (first : ℕ) (h : List Act) → Stands d first t.old h → Steps (here d first (Sta t.old.number)) asked (Stands d first t.new) h (seen t.waited t.waits o))
takes_event d event asked t r is taken = subst (λ (e : NodeEvent). IfOk r (λ o. (first : ℕ) (h : List Act) → Stands d first t.old h → Steps (here d first (Sta t.old.number)) e (Stands d first t.new) h (seen t.waited t.waits o))) (sym is) (takes_steps d event t r taken)

-- the same where what it stands for is of the network after the event
pub takes_after : {E : Type 0} (d : Domain) (event asked : NodeEvent) (t : Turn) (r : Result Outcome E) → asked ≡ event → Takes d event t r → after d event ≡ d
    → IfOk r (λ o. (first : ℕ) (h : List Act) → Stands d first t.old h → Steps (here d first (Sta t.old.number)) asked (Stands (after d asked) first t.new) h (seen t.waited t.waits o))
takes_after d event asked t r is taken same =
    subst (λ (e : NodeEvent). IfOk r (λ o. (first : ℕ) (h : List Act) → Stands d first t.old h → Steps (here d first (Sta t.old.number)) e (Stands (after d e) first t.new) h (seen t.waited t.waits o))) (sym is)
    (subst (λ (x : Domain). IfOk r (λ o. (first : ℕ) (h : List Act) → Stands d first t.old h → Steps (here d first (Sta t.old.number)) event (Stands x first t.new) h (seen t.waited t.waits o))) (sym same) (takes_steps d event t r taken))

pub takes_refused : {E : Type 0} (d : Domain) (event : NodeEvent) (t : Turn) (r : Result Outcome E) → Takes d event t r → IfOk r (λ o. (why : Reason) → o ≡ Refused why → t.new ≡ t.old)
takes_refused d event t (Ok came) taken = taken.refused
takes_refused d event t (Err e) left = tt

pub takes_same : {E : Type 0} (d : Domain) (event : NodeEvent) (t : Turn) (r : Result Outcome E) → Takes d event t r → OnErr r (t.new ≡ t.old)
takes_same d event t (Ok came) taken = tt
takes_same d event t (Err e) left = left.0

pub takes_kept : {E : Type 0} (d : Domain) (event : NodeEvent) (t : Turn) (r : Result Outcome E) → Takes d event t r → OnErr r (t.waits ≡ t.waited)
takes_kept d event t (Ok came) taken = tt
takes_kept d event t (Err e) left = left.1

-- ---- it begins an attempt

pub taken-spent : (d : Domain) (s : State) (p : ℕ) (waited waits : List Act) → draw_end ≤ s.drawn → waits ≡ waited ++ Idle why.Spent ∷ [] → IsTaken d (Begin p) (turn s s waited waits) (IdleBy why.Spent)
taken-spent d s p waited waits spent is = record {
  number = refl;
  steps = λ first h st. subst (λ (w : List Act). Steps (here d first (Sta s.number)) (Begin p) (Stands d first s) h (seen waited w (IdleBy why.Spent))) (sym is) (steps-spent d first s.number s h p waited st spent);
  refused = λ w e. cc;
}

asking-waits : (waited closed opened drew waits g : List Act) (a b c : Act) → closed ≡ g → opened ≡ closed ++ a ∷ [] → drew ≡ opened ++ b ∷ [] → waits ≡ drew ++ c ∷ []
    → waits ≡ ((g ++ (a ∷ [])) ++ (b ∷ [])) ++ c ∷ []
asking-waits waited closed opened drew waits g a b c closes opens draws asks = cc

pub taken-asked : (d : Domain) (s new : State) (p : ℕ) (v : List ℕ) (request : Act) (waited closed opened drew waits : List Act) → p < length d.aps → s.drawn < draw_end → v ≡ nonce d (Sta s.number) s.drawn
    → new ≡ asked_state s p v
    → closed ≡ (waited ++ close_pending (peer_pending s.attempt s.session)) ++ close_associated (peer_of_session s.session) → opened ≡ closed ++ Opened (Ap p) Connect ∷ [] → drew ≡ opened ++ Drew (Nonce v) ∷ [] → request ≡ sent_assoc_req d (Sta s.number) (Ap p) → waits ≡ drew ++ request ∷ []
    → IsTaken d (Begin p) (turn s new waited waits) Done
taken-asked d s new p v request waited closed opened drew waits listed low v_is new_is closes opens draws request_is asks = record {
  number = ap (λ (t : State). t.number) new_is;
  steps = λ first h st. subst (λ (t : State). Steps (here d first (Sta s.number)) (Begin p) (Stands d first t) h (seen waited waits Done)) (sym new_is)
      (subst (λ (w : List Act). Steps (here d first (Sta s.number)) (Begin p) (Stands d first (asked_state s p v)) h (seen waited w Done))
      (sym (asking-waits waited closed opened drew waits ((waited ++ close_pending (peer_pending s.attempt s.session)) ++ close_associated (peer_of_session s.session)) (Opened (Ap p) Connect) (Drew (Nonce v)) (sent_assoc_req d (Sta s.number) (Ap p)) closes opens draws (asks ∙ ap (λ (x : Act). drew ++ x ∷ []) request_is)))
      (steps-asked d first s.number s h p v waited st listed low v_is));
  refused = λ w e. cc;
}

-- ---- it drops what it has

pub taken-nothing : (d : Domain) (s : State) (waited waits : List Act) → has_neither s.attempt s.session ≡ true → waits ≡ waited ++ Idle why.Nothing ∷ [] → IsTaken d Leave (turn s s waited waits) (IdleBy why.Nothing)
taken-nothing d s waited waits none is = record {
  number = refl;
  steps = λ first h st. subst (λ (w : List Act). Steps (here d first (Sta s.number)) Leave (Stands d first s) h (seen waited w (IdleBy why.Nothing))) (sym is) (steps-nothing d first s.number s h waited st none);
  refused = λ w e. cc;
}

pub taken-left : (d : Domain) (s new : State) (waited waits : List Act) → has_neither s.attempt s.session ≡ false → new ≡ left_state s
    → waits ≡ (waited ++ close_pending (peer_pending s.attempt s.session)) ++ close_associated (peer_of_session s.session) → IsTaken d Leave (turn s new waited waits) Done
taken-left d s new waited waits some new_is is = record {
  number = ap (λ (t : State). t.number) new_is;
  steps = λ first h st. subst (λ (t : State). Steps (here d first (Sta s.number)) Leave (Stands d first t) h (seen waited waits Done)) (sym new_is)
      (subst (λ (w : List Act). Steps (here d first (Sta s.number)) Leave (Stands d first (left_state s)) h (seen waited w Done)) (sym is) (steps-left d first s.number s h waited st some));
  refused = λ w e. cc;
}

-- ---- it refuses a frame, or passes over it

pub taken-refused : (d : Domain) (s : State) (octets : List ℕ) (r : Reading) (from : Option Node) (k : Kind) (w : Reason) (waited waits : List Act) → ReadsAt d octets r
    → ((first : ℕ) (h : List Act) → Stands d first s h → first_verdict d first (Sta s.number) h r ≡ Refused w)
    → sender d (Sta s.number) r ≡ from → kind_of r ≡ k → waits ≡ waited ++ Took from octets k (Refused w) None ∷ []
    → IsTaken d (Take octets) (turn s s waited waits) (Refused w)
taken-refused d s octets r from k w waited waits reads verdict_is from_is kind_is is = record {
  number = refl;
  steps = λ first h st. subst (λ (x : List Act). Steps (here d first (Sta s.number)) (Take octets) (Stands d first s) h (seen waited x (Refused w)))
      (ap (λ (f : Option Node). waited ++ Took f octets (kind_of r) (Refused w) None ∷ []) from_is ∙ ap (λ (m : Kind). waited ++ Took from octets m (Refused w) None ∷ []) kind_is ∙ sym is)
      (steps-refused d first s.number s h octets r w waited st reads (verdict_is first h st));
  refused = λ y e. refl;
}

taken-quiet : (d : Domain) (s : State) (octets : List ℕ) (r : Reading) (w : Reason) (waited waits : List Act) → ReadsAt d octets r → ((first : ℕ) (h : List Act) → first_verdict d first (Sta s.number) h r ≡ Refused w)
    → waits ≡ waited ++ Took (sender d (Sta s.number) r) octets (kind_of r) (Refused w) None ∷ [] → IsTaken d (Take octets) (turn s s waited waits) (Refused w)
taken-quiet d s octets r w waited waits reads verdict_is is =
    taken-refused d s octets r (sender d (Sta s.number) r) (kind_of r) w waited waits reads (λ first h st. verdict_is first h) refl refl is

taken-passed_over : (d : Domain) (s : State) (octets : List ℕ) (waited waits : List Act) → ReadsAt d octets PassedOver → waits ≡ waited ++ Took None octets kind.Ignored Ignored None ∷ [] → IsTaken d (Take octets) (turn s s waited waits) Ignored
taken-passed_over d s octets waited waits reads is = record {
  number = refl;
  steps = λ first h st. subst (λ (x : List Act). Steps (here d first (Sta s.number)) (Take octets) (Stands d first s) h (seen waited x Ignored)) (sym is) (steps-ignored d first s.number s h octets waited st reads);
  refused = λ y e. cc;
}

-- as it is settled before any question to the history
pub taken-settled : (d : Domain) (s : State) (octets : List ℕ) (r : Reading) (from : Option Node) (outcome : Outcome) (waited waits : List Act) → ReadsAt d octets r
    → from ≡ sender d (Sta s.number) r → ((first : ℕ) (h : List Act) → first_verdict d first (Sta s.number) h r ≡ outcome) → IsSettled d (Sta s.number) r outcome
    → waits ≡ waited ++ Took from octets (kind_of r) outcome None ∷ [] → IsTaken d (Take octets) (turn s s waited waits) outcome
taken-settled d s octets r from outcome waited waits reads from_is verdict_is (inl passed) is =
    let took_is : waits ≡ waited ++ Took None octets kind.Ignored Ignored None ∷ [] =
    is ∙ ap (λ (f : Option Node). waited ++ Took f octets (kind_of r) outcome None ∷ []) from_is
    ∙ ap (λ (x : Reading). waited ++ Took (sender d (Sta s.number) x) octets (kind_of x) outcome None ∷ []) passed.1
    ∙ ap (λ (o : Outcome). waited ++ Took None octets kind.Ignored o None ∷ []) passed.0 in
    subst (λ (o : Outcome). IsTaken d (Take octets) (turn s s waited waits) o) (sym passed.0)
    (taken-passed_over d s octets waited waits (subst (λ (x : Reading). ReadsAt d octets x) passed.1 reads) took_is)
taken-settled d s octets r from outcome waited waits reads from_is verdict_is (inr refused) is =
    let took_is : waits ≡ waited ++ Took (sender d (Sta s.number) r) octets (kind_of r) (Refused refused.0) None ∷ [] =
    is ∙ ap (λ (f : Option Node). waited ++ Took f octets (kind_of r) outcome None ∷ []) from_is
    ∙ ap (λ (o : Outcome). waited ++ Took (sender d (Sta s.number) r) octets (kind_of r) o None ∷ []) refused.1 in
    subst (λ (o : Outcome). IsTaken d (Take octets) (turn s s waited waits) o) (sym refused.1)
    (taken-quiet d s octets r refused.0 waited waits reads (λ first h. verdict_is first h ∙ refused.1) took_is)

-- ---- it takes a management frame of an access point

-- what comes of it by its kind
pub kind_verdict : (d : Domain) (first sta : ℕ) (h : List Act) (p : ℕ) (octets : List ℕ) (b : Management) (e : ElementFields) (k : Kind) → IsManagementFrom d (Sta sta) (Ap p) octets b e → b.kind ≡ k
    → first_verdict d first (Sta sta) h (Managed b e) ≡ management_verdict d (first + draws h) (Sta sta) h (Ap p) k b e
kind_verdict d first sta h p octets b e k m kind_is = m.verdict_is first h ∙ ap (λ (x : Kind). management_verdict d (first + draws h) (Sta sta) h (Ap p) x b e) kind_is

pub taken-refused_kind : (d : Domain) (s : State) (p : ℕ) (octets : List ℕ) (b : Management) (e : ElementFields) (k : Kind) (w : Reason) (waited waits : List Act) → IsManagementFrom d (Sta s.number) (Ap p) octets b e → b.kind ≡ k
    → ((first : ℕ) (h : List Act) → Stands d first s h → management_verdict d (first + draws h) (Sta s.number) h (Ap p) k b e ≡ Refused w)
    → waits ≡ waited ++ Took (Some (Ap p)) octets k (Refused w) None ∷ [] → IsTaken d (Take octets) (turn s s waited waits) (Refused w)
taken-refused_kind d s p octets b e k w waited waits m kind_is refuses is =
    taken-refused d s octets (Managed b e) (Some (Ap p)) k w waited waits (reads_so d octets (Managed b e) refl m.reads) (λ first h st. kind_verdict d first s.number h p octets b e k m kind_is ∙ refuses first h st) m.from kind_is is

pub taken-other_management : (d : Domain) (s : State) (p : ℕ) (octets : List ℕ) (b : Management) (e : ElementFields) (k : Kind) (waited waits : List Act) → IsManagementFrom d (Sta s.number) (Ap p) octets b e → b.kind ≡ k
    → k ≢ kind.AssocResp → k ≢ kind.FtResp → k ≢ kind.ReResp
    → waits ≡ waited ++ Took (Some (Ap p)) octets k (Refused reason.Unawaited) None ∷ [] → IsTaken d (Take octets) (turn s s waited waits) (Refused reason.Unawaited)
taken-other_management d s p octets b e k waited waits m kind_is one two three is =
    taken-refused_kind d s p octets b e k reason.Unawaited waited waits m kind_is (λ first h st. management-other d first s h p k b e one two three) is

pub taken-response_unawaited : (d : Domain) (s : State) (p : ℕ) (octets : List ℕ) (b : Management) (e : ElementFields) (waited waits : List Act) → IsManagementFrom d (Sta s.number) (Ap p) octets b e → b.kind ≡ kind.AssocResp → IsNotRequested s.attempt p
    → waits ≡ waited ++ Took (Some (Ap p)) octets kind.AssocResp (Refused reason.Unawaited) None ∷ [] → IsTaken d (Take octets) (turn s s waited waits) (Refused reason.Unawaited)
taken-response_unawaited d s p octets b e waited waits m kind_is none is =
    taken-refused_kind d s p octets b e kind.AssocResp reason.Unawaited waited waits m kind_is (λ first h st. response-unawaited d first s h p b e st none) is

pub taken-response_fault : (d : Domain) (s : State) (p : ℕ) (v octets : List ℕ) (b : Management) (e : ElementFields) (w : Reason) (waited waits : List Act) → IsManagementFrom d (Sta s.number) (Ap p) octets b e → b.kind ≡ kind.AssocResp
    → s.attempt ≡ Some (record { ap = p; association = association.Requested v }) → Refused w ≡ response_outcome d p b.status e
    → waits ≡ waited ++ Took (Some (Ap p)) octets kind.AssocResp (Refused w) None ∷ [] → IsTaken d (Take octets) (turn s s waited waits) (Refused w)
taken-response_fault d s p v octets b e w waited waits m kind_is has refuses is =
    taken-refused_kind d s p octets b e kind.AssocResp w waited waits m kind_is (λ first h st. response-awaited d first s h p v b e st has ∙ sym refuses) is

pub taken-response : (d : Domain) (s new : State) (p : ℕ) (v octets : List ℕ) (b : Management) (e : ElementFields) (x : Supplicant) (memories : List (ℕ × Memories)) (act : Act) (waited waits : List Act) → IsManagementFrom d (Sta s.number) (Ap p) octets b e
    → b.kind ≡ kind.AssocResp → s.attempt ≡ Some (record { ap = p; association = association.Requested v }) → Accepted ≡ response_outcome d p b.status e → HasBegun d (Sta s.number) (Ap p) v octets x
    → ((k : ℕ) → memory_at memories k ≡ memory_at s.memories k)
    → new ≡ associated_state s p x memories → act ≡ Took (Some (Ap p)) octets kind.AssocResp Accepted None → waits ≡ waited ++ act ∷ [] → IsTaken d (Take octets) (turn s new waited waits) Accepted
taken-response d s new p v octets b e x memories act waited waits m kind_is has accepts begun same_memory new_is act_is is = subst (λ (t : State). IsTaken d (Take octets) (turn s t waited waits) Accepted) (sym new_is) (record {
  number = refl;
  steps = λ first h st. subst (λ (w : List Act). Steps (here d first (Sta s.number)) (Take octets) (Stands d first (associated_state s p x memories)) h (seen waited w Accepted)) (sym (is ∙ ap (λ (y : Act). waited ++ y ∷ []) act_is))
      (steps-associated d first s h octets b e p v x memories waited st has begun same_memory m.reads m.from kind_is (sym accepts) (kind_verdict d first s.number h p octets b e kind.AssocResp m kind_is));
  refused = λ y f. cc;
})

-- ---- frames of a fast transition that nothing awaits

pub taken-auth_unawaited : (d : Domain) (s : State) (p : ℕ) (octets : List ℕ) (b : Management) (e : ElementFields) (waited waits : List Act) → IsManagementFrom d (Sta s.number) (Ap p) octets b e → b.kind ≡ kind.FtResp → IsNotMoving s.attempt p
    → waits ≡ waited ++ Took (Some (Ap p)) octets kind.FtResp (Refused reason.Unawaited) None ∷ [] → IsTaken d (Take octets) (turn s s waited waits) (Refused reason.Unawaited)
taken-auth_unawaited d s p octets b e waited waits m kind_is none is =
    taken-refused_kind d s p octets b e kind.FtResp reason.Unawaited waited waits m kind_is (λ first h st. auth-unawaited d first s h p b e st none) is

pub taken-reassoc_unawaited : (d : Domain) (s : State) (p : ℕ) (octets : List ℕ) (b : Management) (e : ElementFields) (waited waits : List Act) → IsManagementFrom d (Sta s.number) (Ap p) octets b e → b.kind ≡ kind.ReResp → IsNotMoving s.attempt p
    → waits ≡ waited ++ Took (Some (Ap p)) octets kind.ReResp (Refused reason.Unawaited) None ∷ [] → IsTaken d (Take octets) (turn s s waited waits) (Refused reason.Unawaited)
taken-reassoc_unawaited d s p octets b e waited waits m kind_is none is =
    taken-refused_kind d s p octets b e kind.ReResp reason.Unawaited waited waits m kind_is (λ first h st. reassoc-unawaited d first s h p b e st none) is

-- ---- it takes an EAPOL-Key message of an access point with which there is nothing

taken-unawaited : (d : Domain) (s : State) (p : ℕ) (octets : List ℕ) (k : KeyMessage) (waited waits : List Act) → IsMessageFrom d (Sta s.number) (Ap p) octets k
    → ((first : ℕ) (h : List Act) → Stands d first s h → key_verdict d (first + draws h) (Sta s.number) h (Ap p) k k.message ≡ Refused reason.Unawaited)
    → waits ≡ waited ++ Took (Some (Ap p)) octets (kind.Key k.message) (Refused reason.Unawaited) None ∷ [] → IsTaken d (Take octets) (turn s s waited waits) (Refused reason.Unawaited)
taken-unawaited d s p octets k waited waits f verdict_is is =
    taken-refused d s octets (Keyed k) (Some (Ap p)) (kind.Key k.message) reason.Unawaited waited waits f.reads
    (λ first h st. f.verdict_is first h ∙ verdict_is first h st) f.from refl is

pub taken-nowhere : (d : Domain) (s : State) (p : ℕ) (octets : List ℕ) (k : KeyMessage) (waited waits : List Act) → IsMessageFrom d (Sta s.number) (Ap p) octets k
    → IsElsewhere (peer_of_attempt s.attempt) p → IsElsewhere (peer_of_session s.session) p
    → waits ≡ waited ++ Took (Some (Ap p)) octets (kind.Key k.message) (Refused reason.Unawaited) None ∷ [] → IsTaken d (Take octets) (turn s s waited waits) (Refused reason.Unawaited)
taken-nowhere d s p octets k waited waits f tried held is =
    taken-unawaited d s p octets k waited waits f (λ first h st. message-nowhere d first s h p k k.message st tried held) is

-- and of one that has not answered
pub taken-requested : (d : Domain) (s : State) (p : ℕ) (v octets : List ℕ) (k : KeyMessage) (waited waits : List Act) → IsMessageFrom d (Sta s.number) (Ap p) octets k
    → s.attempt ≡ Some (record { ap = p; association = association.Requested v })
    → waits ≡ waited ++ Took (Some (Ap p)) octets (kind.Key k.message) (Refused reason.Unawaited) None ∷ [] → IsTaken d (Take octets) (turn s s waited waits) (Refused reason.Unawaited)
taken-requested d s p v octets k waited waits f has is =
    taken-unawaited d s p octets k waited waits f (λ first h st. message-requested d first s h p v k k.message st has) is

-- and of one to which a fast transition is under way
pub taken-roamed : (d : Domain) (s : State) (p : ℕ) (o : OriginatorState) (octets : List ℕ) (k : KeyMessage) (waited waits : List Act) → IsMessageFrom d (Sta s.number) (Ap p) octets k
    → s.attempt ≡ Some (record { ap = p; association = association.Moving o })
    → waits ≡ waited ++ Took (Some (Ap p)) octets (kind.Key k.message) (Refused reason.Unawaited) None ∷ [] → IsTaken d (Take octets) (turn s s waited waits) (Refused reason.Unawaited)
taken-roamed d s p o octets k waited waits f has is =
    taken-unawaited d s p octets k waited waits f (λ first h st. message-roamed d first s h p o k k.message st has) is

-- ---- it hands it to a supplicant

-- the one of access point p among the memories of a station
pub record IsHandedBy (d : Domain) (s : State) (p : ℕ) (m : Heard) (has : List (ℕ × Memories)) (t : Handing) : Type 0 where
  pub from : IsMessageFrom d (Sta s.number) (Ap p) m.octets.now (message_fields m.message)
  pub had_is : t.old.keys ≡ memory_at s.memories p
  pub has_is : t.new.keys ≡ memory_at has p
  pub only : IsOnly p s.memories has
  pub left : t.new.keys ≡ t.old.keys → has ≡ s.memories

-- the place of one access point is written
pub handed_by : (d : Domain) (s : State) (p : ℕ) (m : Heard) (had has : Memories) (old new : Supplicant) (waited waits : List Act) → IsMessageFrom d (Sta s.number) (Ap p) m.octets.now (message_fields m.message) → is_there s.memories p ≡ true → had ≡ memory_at s.memories p
    → IsHandedBy d s p m (set_memory s.memories p has) (handing (both old had) (both new has) waited waits)
handed_by d s p m had has old new waited waits from placed had_is = record {
  from = from;
  had_is = had_is;
  has_is = sym (memory_there s.memories p has placed);
  only = record { others = λ q other. memory_elsewhere s.memories p q has other };
  left = λ same. memory_back s.memories p has (same ∙ had_is);
}

-- what the supplicant does of it
steps-supplicant : (d : Domain) (s : State) (p : ℕ) (m : Heard) (has : List (ℕ × Memories)) (t : Handing) (came : Came) (first : ℕ) (h : List Act) → IsHandedBy d s p m has t → (x : IsHanded d (Sta s.number) (Ap p) m t came)
    → SupplicantStands d (Sta s.number) (Ap p) t.old.part h → RemembersAll (Ap p) (memory_at s.memories p) h → OpensNone m.message.message d h (Ap p)
    → SupplicantSteps (here d first (Sta s.number)) (Ap p) (is_some t.old.part.session) (taken_as m.octets.now (message_fields m.message) came.outcome) (both t.new.part (memory_at has p)) x.reply h
steps-supplicant d s p m has t came first h b x st remembers opens =
    subst (λ (ks : Memories). SupplicantSteps (here d first (Sta s.number)) (Ap p) (is_some t.old.part.session) (taken_as m.octets.now (message_fields m.message) came.outcome) (both t.new.part ks) x.reply h) b.has_is
    (x.taken.steps d first s.number p m.octets.now (message_fields m.message) h st (subst (λ (ks : Memories). RemembersAll (Ap p) ks h) (sym b.had_is) remembers) b.from refl refl refl opens)

-- the key ids behind it
ids-behind : (d : Domain) (s : State) (p : ℕ) (m : Heard) (has : List (ℕ × Memories)) (t : Handing) (came : Came) (first : ℕ) (h : List Act) → IsHandedBy d s p m has t → IsHanded d (Sta s.number) (Ap p) m t came → Stands d first s h
    → HaveIds (memory_at has p)
ids-behind d s p m has t came first h b x st = subst HaveIds b.has_is (x.taken.ids (subst HaveIds (sym b.had_is) (st.ids p)))

-- what the station adds, with the supplicant where it is then
steps-handed : (d : Domain) (s new : State) (p : ℕ) (m : Heard) (t : Handing) (came : Came) (first : ℕ) (h : List Act) (has : List (ℕ × Memories)) → (x : IsHanded d (Sta s.number) (Ap p) m t came)
    → SupplicantSteps (here d first (Sta s.number)) (Ap p) (is_some t.old.part.session) (taken_as m.octets.now (message_fields m.message) came.outcome) (both t.new.part (memory_at has p)) x.reply h
    → Stands d first new (add (told_acts d t.new.part.base.r0kh_id (Sta s.number) p (is_some t.old.part.session) (taken_as m.octets.now (message_fields m.message) came.outcome) x.reply) h)
    → Steps (here d first (Sta s.number)) (Take m.octets.now) (Stands d first new) h (seen t.waited t.waits came.outcome)
steps-handed d s new p m t came first h has x steps stands =
    let acts : List ℕ → List Act = λ id. told_acts d id (Sta s.number) p (is_some t.old.part.session) (taken_as m.octets.now (message_fields m.message) came.outcome) x.reply in
    record {
      acts = acts t.new.part.base.r0kh_id;
      adds = station_adds d first s.number h (Take m.octets.now) (acts t.new.part.base.r0kh_id) steps.adds;
      waiting = x.acts;
      came = refl;
      stands = stands;
    }

-- a refusal leaves supplicant and memories
left_by : (d : Domain) (s : State) (p : ℕ) (m : Heard) (has : List (ℕ × Memories)) (t : Handing) (came : Came) (w : Reason) → IsHandedBy d s p m has t → IsHanded d (Sta s.number) (Ap p) m t came → came.outcome ≡ Refused w → (t.new.part ≡ t.old.part) × (has ≡ s.memories)
left_by d s p m has t came w b x is =
    let same : t.new ≡ t.old = (x.taken.refused w is).0 in
    (ap (λ (y : Both). y.part) same, b.left (ap (λ (y : Both). y.keys) same))

not_installed : (o : Option PairwiseKey) → option_map (λ (y : PairwiseKey). y.ptk.tk) o ≡ None → o ≡ None
not_installed None is = refl
not_installed (Some y) is = cc

installed_there : (o : Option PairwiseKey) (tk : List ℕ) → option_map (λ (y : PairwiseKey). y.ptk.tk) o ≡ Some tk → (y : PairwiseKey) × ((o ≡ Some y) × (y.ptk.tk ≡ tk))
installed_there None tk is = absurd (cc is)
installed_there (Some y) tk is = (y, (refl, cc is))

not_both : (o : Option PairwiseKey) (y : PairwiseKey) → o ≡ None → o ≡ Some y → ⊥
not_both o y none some = cc

-- in an attempt that goes on
pub taken-tried : (d : Domain) (s : State) (p : ℕ) (m : Heard) (has : List (ℕ × Memories)) (t : Handing) (came : Came) → s.attempt ≡ Some (record { ap = p; association = association.Accepted t.old.part }) → IsHandedBy d s p m has t
    → IsHanded d (Sta s.number) (Ap p) m t came → came.installed ≡ None → IsTaken d (Take m.octets.now) (turn s (tried_state s p t.new.part has) t.waited t.waits) came.outcome
taken-tried d s p m has t came is b x goes_on = record {
  number = refl;
  steps = λ first h st. (
      let place = accepted_is d first s h p t.old.part st is in
      let steps = steps-supplicant d s p m has t came first h b x place.1.stands (st.remembers p) (opens_pending m.message.message d h (Ap p) (Ap p) (st.pending_is ∙ ap (λ (o : Option Attempt). peer_pending o s.session) is)) in
      steps-handed d s (tried_state s p t.new.part has) p m t came first h has x steps
      (stands-tried d first s h p (is_some t.old.part.session) (taken_as m.octets.now (message_fields m.message) came.outcome) x.reply t.old.part t.new.part has st is x.taken.ends.1 (not_installed x.reply.installed (sym x.installed ∙ goes_on)) b.only (ids-behind d s p m has t came first h b x st) steps));
  refused = λ w e. (let l = left_by d s p m has t came w b x e in
      ap (λ (y : Supplicant). tried_state s p y has) l.0 ∙ ap (tried_state s p t.old.part) l.1
      ∙ ap (λ (o : Option Attempt). record { number = s.number; drawn = s.drawn; attempt = o; session = s.session; memories = s.memories; r0kh_id = s.r0kh_id }) (sym is));
}

-- that becomes a session
pub taken-finished : (d : Domain) (s : State) (p : ℕ) (m : Heard) (tk id : List ℕ) (has : List (ℕ × Memories)) (t : Handing) (came : Came) → s.attempt ≡ Some (record { ap = p; association = association.Accepted t.old.part }) → IsHandedBy d s p m has t
    → IsHanded d (Sta s.number) (Ap p) m t came → came.installed ≡ Some tk → (length t.new.part.base.r0kh_id ≤ 48 → id ≡ t.new.part.base.r0kh_id)
    → IsTaken d (Take m.octets.now) (turn s (finished_state s p t.new.part tk id has) t.waited t.waits) came.outcome
taken-finished d s p m tk id has t came is b x done kept = record {
  number = refl;
  steps = λ first h st. (
      let place = accepted_is d first s h p t.old.part st is in
      let steps = steps-supplicant d s p m has t came first h b x place.1.stands (st.remembers p) (opens_pending m.message.message d h (Ap p) (Ap p) (st.pending_is ∙ ap (λ (o : Option Attempt). peer_pending o s.session) is)) in
      let y = installed_there x.reply.installed tk (sym x.installed ∙ done) in
      steps-handed d s (finished_state s p t.new.part tk id has) p m t came first h has x steps
      (subst (λ (z : List ℕ). Stands d first (finished_state s p t.new.part z id has) (add (told_acts d t.new.part.base.r0kh_id (Sta s.number) p (is_some t.old.part.session) (taken_as m.octets.now (message_fields m.message) came.outcome) x.reply) h)) y.1.1
      (stands-finished d first s h p (is_some t.old.part.session) (taken_as m.octets.now (message_fields m.message) came.outcome) x.reply y.0 t.old.part t.new.part id has st is x.taken.ends.1 kept y.1.0 b.only (ids-behind d s p m has t came first h b x st) steps)));
  refused = λ w e. absurd (not_both x.reply.installed (installed_there x.reply.installed tk (sym x.installed ∙ done)).0 (x.taken.refused w e).1 (installed_there x.reply.installed tk (sym x.installed ∙ done)).1.0);
}

-- or in a session, where it installs nothing
pub taken-held : (d : Domain) (s : State) (p : ℕ) (m : Heard) (k : Held) (has : List (ℕ × Memories)) (t : Handing) (came : Came) → s.session ≡ Some (record { ap = p; supplicant = t.old.part; key = k }) → opens_by d s.attempt s.session p m.message.message ≡ false → IsHandedBy d s p m has t
    → IsHanded d (Sta s.number) (Ap p) m t came → came.installed ≡ None → IsTaken d (Take m.octets.now) (turn s (held_state s p t.new.part k has) t.waited t.waits) came.outcome
taken-held d s p m k has t came is other b x goes_on = record {
  number = refl;
  steps = λ first h st. (
      let place = held_is d first s h p t.old.part k st is in
      let steps = steps-supplicant d s p m has t came first h b x place.stands (st.remembers p) (opens_beside d first s h p t.old.part k m.message.message st is other) in
      steps-handed d s (held_state s p t.new.part k has) p m t came first h has x steps
      (stands-held d first s h p (is_some t.old.part.session) (taken_as m.octets.now (message_fields m.message) came.outcome) x.reply t.old.part t.new.part k has st is (not_installed x.reply.installed (sym x.installed ∙ goes_on)) b.only (ids-behind d s p m has t came first h b x st) steps.stands steps.remembers));
  refused = λ w e. (let l = left_by d s p m has t came w b x e in
      ap (λ (y : Supplicant). held_state s p y k has) l.0 ∙ ap (held_state s p t.old.part k) l.1
      ∙ ap (λ (o : Option Session). record { number = s.number; drawn = s.drawn; attempt = s.attempt; session = o; memories = s.memories; r0kh_id = s.r0kh_id }) (sym is));
}

-- and where it installs the key that is renewed
pub taken-renewed : (d : Domain) (s : State) (p : ℕ) (m : Heard) (k : Held) (tk : List ℕ) (has : List (ℕ × Memories)) (t : Handing) (came : Came) → s.session ≡ Some (record { ap = p; supplicant = t.old.part; key = k }) → opens_by d s.attempt s.session p m.message.message ≡ false → IsHandedBy d s p m has t
    → IsHanded d (Sta s.number) (Ap p) m t came → came.installed ≡ Some tk → IsTaken d (Take m.octets.now) (turn s (held_state s p t.new.part (fresh_key tk) has) t.waited t.waits) came.outcome
taken-renewed d s p m k tk has t came is other b x done = record {
  number = refl;
  steps = λ first h st. (
      let place = held_is d first s h p t.old.part k st is in
      let steps = steps-supplicant d s p m has t came first h b x place.stands (st.remembers p) (opens_beside d first s h p t.old.part k m.message.message st is other) in
      let y = installed_there x.reply.installed tk (sym x.installed ∙ done) in
      steps-handed d s (held_state s p t.new.part (fresh_key tk) has) p m t came first h has x steps
      (subst (λ (z : List ℕ). Stands d first (held_state s p t.new.part (fresh_key z) has) (add (told_acts d t.new.part.base.r0kh_id (Sta s.number) p (is_some t.old.part.session) (taken_as m.octets.now (message_fields m.message) came.outcome) x.reply) h)) y.1.1
      (stands-renewed d first s h p (is_some t.old.part.session) (taken_as m.octets.now (message_fields m.message) came.outcome) x.reply y.0 t.old.part t.new.part k has st is y.1.0 b.only (ids-behind d s p m has t came first h b x st) steps)));
  refused = λ w e. absurd (not_both x.reply.installed (installed_there x.reply.installed tk (sym x.installed ∙ done)).0 (x.taken.refused w e).1 (installed_there x.reply.installed tk (sym x.installed ∙ done)).1.0);
}
