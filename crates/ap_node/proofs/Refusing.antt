-- Frames that change nothing.
use Rattle.std.proofs.Common.{◌+◌, ◌≡◌, ◌≢◌, ℕ, true, false, true≢false, List, [], ◌∷◌, ◌++◌, Option, Some, None, refl, sym, ap, subst, ◌∙◌, inl, inr}
use Rattle.domain_base.specs.declared.names.Node.{Node}
use Rattle.domain_base.specs.declared.names.Node.TheVariants.{Ap, Sta}
use Rattle.air_frame.specs.declared.frame.Action.{Action as ActionFrame}
use Rattle.rsn_elements.specs.declared.reading.Elements.{Elements}
use Rattle.rsn_elements.specs.Fields.{element_fields}
use Rattle.eapol_key.specs.declared.messages.Message.{Message}
use Rattle.eapol_key.specs.declared.messages.Message.TheVariants.{M2, M4, G2}
use Rattle.run_journal.specs.declared.domain.Domain.{Domain}
use Rattle.run_journal.specs.declared.acts.Kind.{Kind}
use Rattle.run_journal.specs.declared.acts.Kind.TheVariants as kind
use Rattle.run_journal.specs.declared.acts.Reason.{Reason}
use Rattle.run_journal.specs.declared.acts.Reason.TheVariants as reason
use Rattle.run_journal.specs.declared.acts.Outcome.{Outcome}
use Rattle.run_journal.specs.declared.acts.Outcome.TheVariants.{Ignored, Refused}
use Rattle.run_journal.specs.declared.acts.Seal.{Seal}
use Rattle.run_journal.specs.declared.acts.Act.{Act}
use Rattle.run_journal.specs.declared.acts.Act.TheVariants.{Took}
use Rattle.run_journal.specs.Questions.{add, attempt, session, draws}
use Rattle.domain_rules.specs.Here.{here}
use Rattle.domain_rules.specs.Network.{is_ap}
use Rattle.domain_rules.specs.Reading.{KeyMessage, Reading, PassedOver, Managed, ReadsAt, kind_of}
use Rattle.domain_rules.specs.AccessPointKeys.{g2_verdict_by}
use Rattle.domain_rules.specs.Verdict.{ComesSoFar, first_verdict, further, and_then, key_verdict}
use Rattle.domain_rules.specs.Rows.{NodeEvent, Take, By_ignored, By_refusal, refused_seal, response}
use Rattle.domain_rules.specs.TransitionRows.{refused_look}
use Rattle.key_hierarchy.specs.declared.fast_transition.PmkR1.{PmkR1}
use Rattle.domain_rules.specs.Closing.{sender}
use Rattle.domain_rules.proofs.Effects.{refused_acts}
use Rattle.domain_rules.proofs.Refused.{IsRefused, no_facts, refused_first}
use Rattle.domain_rules.proofs.Unprotected.{reads_here, reads_so}
use Rattle.frame_intake.specs.declared.delivered.Management.{Management as AnyFrame}
use Rattle.frame_intake.specs.declared.delivered.KeyMessage.{KeyMessage as AnyMessage}
use Rattle.frame_intake.specs.declared.delivered.SealedData.{SealedData}
use Rattle.frame_intake.specs.SealedFields.{sealed_reading}
use Rattle.frame_intake.specs.Views.{management_fields, sealed_fields}
use Rattle.frame_intake.specs.declared.judging.Judged.TheVariants as judged
use Rattle.frame_intake.specs.Judging.{IsJudged, IsSilent, IsSettled}
use Rattle.run_journal.specs.Events.{IsPeerOf}
use Rattle.node_base.specs.Events.{Seen, seen}
use Rattle.authenticator.specs.Stands.{IsNoConnect, HasAttempt, HasSession}
use Rattle.authenticator.specs.declared.attempt.Attempt.{Attempt}
use Rattle.authenticator.proofs.Handshaking.{owing_no_session}
use Rattle.authenticator.proofs.Refusing.{unawaited_m2, unawaited_m4}
use Rattle.ap_node.specs.declared.station.Station.{Station}
use Rattle.ap_node.specs.declared.station.Session.{Session as Kept}
use Rattle.ap_node.specs.State.{State, renewal_by, session_by}
use Rattle.ap_node.specs.Parts.{IsForSession}
use Rattle.ap_node.specs.Stands.{AllPlain, HasPart, StandsSoFar, Stands}
use Rattle.ap_node.specs.Takes.{Does, IsTaken, IsManagedAtAp, IsRequestOf, IsKeyedAtAp, IsSealedAtAp}
use Rattle.frame_intake.proofs.Silence.{silent_unawaited}
use Rattle.ap_node.proofs.Attempts.{other_kind}
use Rattle.ap_node.proofs.Hearing.{no_attempt_by}
use Rattle.ap_node.proofs.Others.{same-refused, same-ignored}
use Rattle.ap_node.proofs.Standing.{so_far_as_before}
use Rattle.ap_node.proofs.Plain.{plain_response}
use Rattle.ap_node.proofs.Ending.{settled_steps}

-- it takes the frame, and is as it was
abbrev pub Stays : Domain → State → List ℕ → List Act → List Act → Outcome → Type 0
Stays d s octets waited waits outcome = IsTaken d (Take octets) s s (seen waited waits outcome)

pub stays : (d : Domain) (s : State) (event : NodeEvent) (x : Seen) → ((first : ℕ) (h : List Act) → Stands d first s h → Does (here d first (Ap s.number)) event (StandsSoFar d first s) AllPlain h x) → IsTaken d event s s x
stays d s event x does = record {
  number = refl;
  steps = λ first h stands. settled_steps d first event s s x h refl stands.settled (does first h stands);
  refused = λ why is. refl;
}

-- ---- refused, whatever is sealed and answered

abbrev pub RefusedAfter : Domain → State → Reading → Reason → Option Seal → Type 0
RefusedAfter d s r why seal = (first : ℕ) (h : List Act) → Stands d first s h → IsRefused d first (Ap s.number) h r why seal

-- no key holder was asked before it was refused
abbrev pub Unasked : State → Option Node → Reading → Reason → Type 0
Unasked s from r why = (pulled : Option PmkR1) → refused_look (Ap s.number) from r pulled why ≡ []

says_refused : (octets : List ℕ) (why : Reason) (from other : Option Node) (k m : Kind) (s t : Option Seal) (answer look more : List Act) → from ≡ other → k ≡ m → s ≡ t → look ≡ [] → answer ≡ more
    → Took from octets k (Refused why) s ∷ answer ≡ Took other octets m (Refused why) t ∷ look ++ more
says_refused octets why from other k m s t answer look more from_is kind_is seal_is none answer_is = rw (from_is, kind_is, seal_is, none, answer_is) refl

-- after that history
does_refused : (d : Domain) (s : State) (octets : List ℕ) (r : Reading) (from : Option Node) (k : Kind) (why : Reason) (seal : Option Seal) (answer waited waits : List Act) (first : ℕ) (h : List Act) → Stands d first s h → ReadsAt d octets r
    → from ≡ sender d (Ap s.number) r → k ≡ kind_of r → answer ≡ response d (Ap s.number) from k why → Unasked s from r why → IsRefused d first (Ap s.number) h r why seal → waits ≡ waited ++ Took from octets k (Refused why) seal ∷ answer
    → Does (here d first (Ap s.number)) (Take octets) (StandsSoFar d first s) AllPlain h (seen waited waits (Refused why))
does_refused d s octets r from k why seal answer waited waits first h stands reads from_is kind_is answer_is unasked w waiting =
    let n = Ap s.number in
    let look_is : refused_look n (sender d n r) r w.facts.pulled why ≡ [] = ap (λ (o : Option Node). refused_look n o r w.facts.pulled why) (sym from_is) ∙ unasked w.facts.pulled in
    let more_is : answer ≡ response d n (sender d n r) (kind_of r) why = answer_is ∙ ap (λ (o : Option Node). response d n o k why) from_is ∙ ap (λ (m : Kind). response d n (sender d n r) m why) kind_is in
    record {
      acts = Took from octets k (Refused why) seal ∷ answer;
      row = record {
        r = r;
        reads = reads;
        facts = w.facts;
        knows = w.knows;
        row = By_refusal (record {
          why = why;
          refused = w.refused;
          says = says_refused octets why from (sender d n r) k (kind_of r) seal (refused_seal d first n h r) answer (refused_look n (sender d n r) r w.facts.pulled why) (response d n (sender d n r) (kind_of r) why) from_is kind_is w.seal_is look_is more_is;
        });
      };
      waiting = waiting;
      came = refl;
      stands = subst (λ (g : List Act). StandsSoFar d first s (add (Took from octets k (Refused why) seal ∷ g) h)) (sym answer_is)
          (so_far_as_before d first s h (add (refused_acts d (Ap s.number) from octets k why seal) h) (same-refused d (Ap s.number) from octets k why seal h) stands.so_far);
      marks = ((tt, refl), subst (λ (g : List Act). AllPlain g) (sym answer_is) (plain_response d (Ap s.number) from k why));
    }

pub takes_refused : (d : Domain) (s : State) (octets : List ℕ) (r : Reading) (from : Option Node) (k : Kind) (why : Reason) (seal : Option Seal) (answer waited waits : List Act) → ReadsAt d octets r
    → from ≡ sender d (Ap s.number) r → k ≡ kind_of r → answer ≡ response d (Ap s.number) from k why → Unasked s from r why → RefusedAfter d s r why seal → waits ≡ waited ++ Took from octets k (Refused why) seal ∷ answer
    → Stays d s octets waited waits (Refused why)
takes_refused d s octets r from k why seal answer waited waits reads from_is kind_is answer_is unasked refused waiting = stays d s (Take octets) (seen waited waits (Refused why)) (λ first h stands.
    does_refused d s octets r from k why seal answer waited waits first h stands reads from_is kind_is answer_is unasked (refused first h stands) waiting)

-- ---- refused by the frame and the history alone

pub does_quiet : (d : Domain) (s : State) (octets : List ℕ) (r : Reading) (from : Option Node) (k : Kind) (why : Reason) (waited : List Act) (first : ℕ) (h : List Act) → Stands d first s h → ReadsAt d octets r
    → from ≡ sender d (Ap s.number) r → k ≡ kind_of r → IsSilent d (Ap s.number) why → first_verdict d first (Ap s.number) h r ≡ Refused why
    → Does (here d first (Ap s.number)) (Take octets) (StandsSoFar d first s) AllPlain h (seen waited (waited ++ Took from octets k (Refused why) None ∷ []) (Refused why))
does_quiet d s octets r from k why waited first h stands reads from_is kind_is quiet refused =
    does_refused d s octets r from k why None [] waited (waited ++ Took from octets k (Refused why) None ∷ []) first h stands reads from_is kind_is (sym (quiet.answer from k)) (quiet.look from r) (refused_first d first (Ap s.number) h r why refused) refl

pub takes_quiet : (d : Domain) (s : State) (octets : List ℕ) (r : Reading) (from : Option Node) (k : Kind) (why : Reason) (waited waits : List Act) → ReadsAt d octets r → from ≡ sender d (Ap s.number) r → k ≡ kind_of r
    → IsSilent d (Ap s.number) why → ((first : ℕ) (h : List Act) → Stands d first s h → first_verdict d first (Ap s.number) h r ≡ Refused why) → waits ≡ waited ++ Took from octets k (Refused why) None ∷ []
    → Stays d s octets waited waits (Refused why)
takes_quiet d s octets r from k why waited waits reads from_is kind_is quiet refused waiting =
    takes_refused d s octets r from k why None [] waited waits reads from_is kind_is (sym (quiet.answer from k)) (quiet.look from r)
    (λ first h stands. refused_first d first (Ap s.number) h r why (refused first h stands)) waiting

-- ---- ignored

takes_ignored : (d : Domain) (s : State) (octets : List ℕ) (r : Reading) (from : Option Node) (waited waits : List Act) → ReadsAt d octets r → from ≡ sender d (Ap s.number) r → r ≡ PassedOver
    → ((first : ℕ) (h : List Act) → first_verdict d first (Ap s.number) h r ≡ Ignored) → waits ≡ waited ++ Took from octets (kind_of r) Ignored None ∷ []
    → Stays d s octets waited waits Ignored
takes_ignored d s octets r from waited waits reads from_is passed ignored waiting = stays d s (Take octets) (seen waited waits Ignored) (λ first h stands. record {
  acts = Took None octets kind.Ignored Ignored None ∷ [];
  row = record {
    r = r;
    reads = reads;
    facts = no_facts;
    knows = λ far. absurd (subst ComesSoFar (ignored first h) far);
    row = By_ignored (record { ignored = ap (λ (o : Outcome). and_then o (further d first (Ap s.number) h r no_facts)) (ignored first h); says = refl });
  };
  waiting = waiting ∙ ap (λ (act : Act). waited ++ act ∷ []) (cc (from_is ∙ ap (sender d (Ap s.number)) passed, ap kind_of passed));
  came = refl;
  stands = so_far_as_before d first s h (Took None octets kind.Ignored Ignored None ∷ h) (same-ignored octets h) stands.so_far;
  marks = ((tt, refl), tt);
})

-- ---- judged with no question to the history

settled_by : (d : Domain) (s : State) (octets : List ℕ) (r : Reading) (from : Option Node) (o : Outcome) (waited waits : List Act) → ReadsAt d octets r → from ≡ sender d (Ap s.number) r
    → ((first : ℕ) (h : List Act) → first_verdict d first (Ap s.number) h r ≡ o) → IsSettled d (Ap s.number) r o → waits ≡ waited ++ Took from octets (kind_of r) o None ∷ []
    → Stays d s octets waited waits o
settled_by d s octets r from o waited waits reads from_is first_is (inl ignored) waiting =
    subst (λ (x : Outcome). Stays d s octets waited waits x) (sym ignored.0)
    (takes_ignored d s octets r from waited waits reads from_is ignored.1 (λ first h. first_is first h ∙ ignored.0) (waiting ∙ ap (λ (x : Outcome). waited ++ Took from octets (kind_of r) x None ∷ []) ignored.0))
settled_by d s octets r from o waited waits reads from_is first_is (inr refused) waiting =
    subst (λ (x : Outcome). Stays d s octets waited waits x) (sym refused.1)
    (takes_quiet d s octets r from (kind_of r) refused.0 waited waits reads from_is refl refused.2 (λ first h stands. first_is first h ∙ refused.1) (waiting ∙ ap (λ (x : Outcome). waited ++ Took from octets (kind_of r) x None ∷ []) refused.1))

pub takes_settled : (d : Domain) (s : State) (octets : List ℕ) (r : Reading) (from : Option Node) (k : Kind) (o : Outcome) (n : Node) (waited waits : List Act) → ReadsAt d octets r → IsJudged d n r (judged.Settled from o) → n ≡ Ap s.number → k ≡ kind_of r
    → waits ≡ waited ++ Took from octets k o None ∷ [] → Stays d s octets waited waits o
takes_settled d s octets r from k o n waited waits reads was number kind_is waiting =
    let here : IsJudged d (Ap s.number) r (judged.Settled from o) = subst (λ (x : Node). IsJudged d x r (judged.Settled from o)) number was in
    settled_by d s octets r from o waited waits reads here.0 here.1 here.2 (waiting ∙ ap (λ (x : Kind). waited ++ Took from octets x o None ∷ []) kind_is)

-- ---- other messages are unawaited

pub unawaited_quiet : (d : Domain) (n : Node) → IsSilent d n reason.Unawaited
unawaited_quiet d n = silent_unawaited d n

pub takes_other : (d : Domain) (s : State) (octets : List ℕ) (from : Node) (frame : AnyFrame) (elements : Elements) (waited waits : List Act) → IsManagedAtAp d s.number octets from frame elements → frame.kind ≢ kind.AssocReq → frame.kind ≢ kind.FtReq → frame.kind ≢ kind.ReReq
    → waits ≡ waited ++ Took (Some from) octets frame.kind (Refused reason.Unawaited) None ∷ [] → Stays d s octets waited waits (Refused reason.Unawaited)
takes_other d s octets from frame elements waited waits w no_association no_auth no_reassociation waiting =
    takes_quiet d s octets (Managed (management_fields frame) (element_fields elements)) (Some from) frame.kind reason.Unawaited waited waits (reads_so d octets (Managed (management_fields frame) (element_fields elements)) refl w.reads) (sym w.judged.1) refl (unawaited_quiet d (Ap s.number))
    (λ first h stands. w.judged.3 first h ∙ other_kind d (first + draws h) s.number h from frame.kind (management_fields frame) (element_fields elements) no_association no_auth no_reassociation) waiting

-- an EAPOL-Key message is unawaited without a session, where it is G2 or there is no attempt by a four-way handshake
pub unawaited_message : (d : Domain) (drawn a : ℕ) (h : List Act) (p : Node) (k : KeyMessage) (m : Message) → (m ≢ G2 → IsNoConnect (attempt p h)) → session p h ≡ None → key_verdict d drawn (Ap a) h p k m ≡ Refused reason.Unawaited
unawaited_message d drawn a h p k M2 none no_session = unawaited_m2 d (Ap a) h p k (attempt p h) (none (λ is. cc is))
unawaited_message d drawn a h p k M4 none no_session = unawaited_m4 d p k (attempt p h) (none (λ is. cc is))
unawaited_message d drawn a h p k G2 none no_session = ap (g2_verdict_by d h p k) (owing_no_session p h no_session)
unawaited_message d drawn a h p k m none no_session = refl

pub no_attempt_for : (d : Domain) (n : Node) (sta : ℕ) (x : Station) (m : Message) (h : List Act) → x.session ≡ None → IsForSession m x → HasPart d n sta x h → m ≢ G2 → IsNoConnect (attempt (Sta sta) h)
no_attempt_for d n sta x m h none (inl is) at other = absurd (other is)
no_attempt_for d n sta x m h none (inr alone) at other = subst (λ (o : Option Attempt). HasAttempt d n (Sta sta) o h) (no_attempt_by x.attempt x.session alone (ap renewal_by none)) at.attempt_is

pub no_session_for : (d : Domain) (n : Node) (sta : ℕ) (x : Station) (h : List Act) → x.session ≡ None → HasPart d n sta x h → session (Sta sta) h ≡ None
no_session_for d n sta x h none at = subst (λ (o : Option Kept). HasSession d n (Sta sta) (session_by o) h) none at.session_is

-- ---- what is judged further

-- by another name of the number
judged_as : (d : Domain) (n : Node) (a : ℕ) (r : Reading) (j : judged.the_data) → n ≡ Ap a → IsJudged d n r j → IsJudged d (Ap a) r j
judged_as d n a r j node was = subst (λ (x : Node). IsJudged d x r j) node was

-- no Action frame is for an access point
pub no_action : (d : Domain) (n : Node) (a : ℕ) (r : Reading) (from : Node) (frame : ActionFrame) → IsJudged d n r (judged.Acting from frame) → n ≡ Ap a → ⊥
no_action d n a r from frame was node =
    let here : is_ap (Ap a) ≡ false = subst (λ (x : Node). is_ap x ≡ false) node was.4 in
    true≢false here

pub managed_from : (d : Domain) (n : Node) (a : ℕ) (octets : List ℕ) (r : Reading) (from : Node) (frame : AnyFrame) (elements : Elements) → ReadsAt d octets r → IsJudged d n r (judged.Managed from frame elements) → n ≡ Ap a → IsManagedAtAp d a octets from frame elements
managed_from d n a octets r from frame elements reads was node =
    let here = judged_as d n a r (judged.Managed from frame elements) node was in
    record { reads = reads_here d octets (Managed (management_fields frame) (element_fields elements)) (λ is. cc is) (subst (λ (x : Reading). ReadsAt d octets x) was.0 reads); judged = subst (λ (x : Reading). IsJudged d (Ap a) x (judged.Managed from frame elements)) was.0 here }

pub keyed_from : (d : Domain) (n : Node) (a : ℕ) (octets : List ℕ) (r : Reading) (from : Node) (message : AnyMessage) → ReadsAt d octets r → IsJudged d n r (judged.Keyed from message) → n ≡ Ap a → IsKeyedAtAp d a octets from message
keyed_from d n a octets r from message reads was node =
    let here = judged_as d n a r (judged.Keyed from message) node was in
    record { reads = subst (λ (x : Reading). ReadsAt d octets x) was.0 reads; judged = subst (λ (x : Reading). IsJudged d (Ap a) x (judged.Keyed from message)) was.0 here }

pub sealed_from : (d : Domain) (n : Node) (a : ℕ) (octets : List ℕ) (r : Reading) (from : Node) (frame : SealedData) → ReadsAt d octets r → IsJudged d n r (judged.Sealed from frame) → n ≡ Ap a → IsSealedAtAp d a octets from frame
sealed_from d n a octets r from frame reads was node =
    let here = judged_as d n a r (judged.Sealed from frame) node was in
    record { reads = reads_here d octets (sealed_reading (sealed_fields frame)) (λ is. cc is) (subst (λ (x : Reading). ReadsAt d octets x) was.0 reads); judged = subst (λ (x : Reading). IsJudged d (Ap a) x (judged.Sealed from frame)) was.0 here }

-- the sender of a frame is a station
pub is_station : (d : Domain) (n : Node) (a : ℕ) (from : Node) → n ≡ Ap a → IsPeerOf d n from → is_ap from ≡ false
is_station d n a from node peer = station_by from (subst (λ (x : Node). IsPeerOf d x from) node peer)
  where
    station_by : (q : Node) → IsPeerOf d (Ap a) q → is_ap q ≡ false
    station_by (Ap k) peer = absurd peer
    station_by (Sta k) peer = refl

pub request_from : (d : Domain) (a : ℕ) (k : Kind) (octets : List ℕ) (from : Node) (station : ℕ) (frame : AnyFrame) (elements : Elements) → from ≡ Sta station → frame.kind ≡ k → IsManagedAtAp d a octets from frame elements → IsRequestOf k d a octets station elements
request_from d a k octets from station frame elements is kind_is managed = record { frame = frame; is = kind_is; managed = subst (λ (x : Node). IsManagedAtAp d a octets x frame elements) is managed }
