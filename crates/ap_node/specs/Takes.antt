-- What an event does to an access point, and what is known of a frame that is for it (profile).
use Rattle.std.specs.Prelude.{◌≡◌, ◌≢◌, ◌+◌, ◌-◌, ◌^◌, ◌<◌, ℕ, Bool, true, false, List, [], ◌∷◌, ◌++◌, Option, Some, None}
use Rattle.domain_base.specs.declared.names.Node.{Node}
use Rattle.domain_base.specs.declared.names.Node.TheVariants.{Ap, Sta}
use Rattle.rsn_elements.specs.declared.reading.Elements.{Elements}
use Rattle.rsn_elements.specs.Elements.{ElementFields}
use Rattle.rsn_elements.specs.Fields.{element_fields}
use Rattle.key_holders.specs.declared.rows.HeldRow.{HeldRow}
use Rattle.run_journal.specs.declared.domain.Domain.{Domain}
use Rattle.run_journal.specs.declared.acts.Start.TheVariants.{Connect}
use Rattle.run_journal.specs.declared.acts.Drawn.TheVariants.{Nonce}
use Rattle.run_journal.specs.declared.acts.Kind.{Kind}
use Rattle.run_journal.specs.declared.acts.Kind.TheVariants as kind
use Rattle.run_journal.specs.declared.acts.Part.TheVariants.{Attempt as OfAttempt, Session as OfSession}
use Rattle.run_journal.specs.declared.acts.Why.TheVariants as why
use Rattle.run_journal.specs.declared.acts.Reason.{Reason}
use Rattle.run_journal.specs.declared.acts.Outcome.TheVariants.{Accepted, Refused}
use Rattle.run_journal.specs.declared.acts.Act.{Act}
use Rattle.run_journal.specs.declared.acts.Act.TheVariants.{Closed, Took, Opened, Drew, Idle}
use Rattle.run_journal.specs.Questions.{or_else, add}
use Rattle.domain_rules.specs.Here.{Here, here}
use Rattle.domain_rules.specs.Network.{nonce}
use Rattle.domain_rules.specs.Suites.{rsne_status}
use Rattle.domain_rules.specs.FastTransition.{mobility_status}
use Rattle.domain_rules.specs.Reading.{Managed, Keyed, Reads, ReadsAt}
use Rattle.domain_rules.specs.Frames.{sent_assoc_resp, sent_m1}
use Rattle.domain_rules.specs.Rows.{NodeEvent, RowOf, outcome_of}
use Rattle.frame_intake.specs.declared.delivered.Management.{Management}
use Rattle.frame_intake.specs.declared.delivered.KeyMessage.{KeyMessage}
use Rattle.frame_intake.specs.declared.delivered.SealedData.{SealedData}
use Rattle.frame_intake.specs.declared.judging.Judged.TheVariants as judged
use Rattle.frame_intake.specs.SealedFields.{sealed_reading}
use Rattle.frame_intake.specs.Views.{management_fields, message_fields, sealed_fields}
use Rattle.frame_intake.specs.Judging.{IsJudged}
use Rattle.node_base.specs.Events.{Steps, Seen}
use Rattle.authenticator.specs.Kinds.{kinds}
use Rattle.authenticator.specs.State.{State as Part, with_session}
use Rattle.authenticator.specs.Steps.{IsBegun}
use Rattle.authenticator.specs.Stands.{HasSession, AuthenticatorStands}
use Rattle.authenticator.specs.declared.session.Session.{Session}
use Rattle.ap_node.specs.Counts.{owing_below}
use Rattle.ap_node.specs.State.{State, station_at, begun_over}
use Rattle.held_rows.specs.Knows.{KnowsRows}
use Rattle.ap_node.specs.Stands.{StandsSoFar, AllPlain, Stands}
use Rattle.held_rows.specs.Looks.{NoLooks}

-- after the history h these are the acts of the event itself, before the switch at its end, and they are so marked
pub record Does (w : Here) (event : NodeEvent) (StandsFor Marks : List Act → Type 0) (h : List Act) (s : Seen) : Type 0 where
  pub acts : List Act
  pub row : RowOf w h event acts
  pub waiting : s.waits ≡ s.waited ++ acts
  pub came : s.outcome ≡ outcome_of acts
  pub stands : StandsFor (add acts h)
  pub marks : Marks acts

-- the event with the switch at its end, and its acts are so marked
pub record Marked (w : Here) (event : NodeEvent) (StandsFor Marks : List Act → Type 0) (h : List Act) (s : Seen) : Type 0 where
  pub steps : Steps w event StandsFor h s
  pub marks : Marks steps.acts

-- it does what the event itself is, whichever history it stands for, and the switch may be to come
pub record IsDone (d : Domain) (event : NodeEvent) (old new : State) (s : Seen) : Type 0 where
  pub number : new.number ≡ old.number
  pub does : (first : ℕ) (h : List Act) → Stands d first old h
      → Does (here d first (Ap old.number)) event (StandsSoFar d first new) AllPlain h s
  pub refused : (why : Reason) → s.outcome ≡ Refused why → new ≡ old

-- after the acts these rows of the own key holder are those of the history, and so do they tell of key holders that
-- were asked
abbrev pub RowsOn : (List Act → Type 0) → Domain → ℕ → List HeldRow → List Act → List Act → Type 0
RowsOn Looks d a ys h g = Looks g × KnowsRows d (Ap a) ys (add g h)

-- with its own key holder, which has these rows before and those after it; no key holder is asked
pub record IsDoneWith (d : Domain) (event : NodeEvent) (old new : State) (xs ys : List HeldRow) (s : Seen) : Type 0 where
  pub number : new.number ≡ old.number
  pub does : (first : ℕ) (h : List Act) → Stands d first old h → KnowsRows d (Ap old.number) xs h
      → Does (here d first (Ap old.number)) event (StandsSoFar d first new) (RowsOn NoLooks d old.number ys h) h s
  pub refused : (why : Reason) → s.outcome ≡ Refused why → new ≡ old

-- what the access point was and is, beside what it has with a station
pub record IsBeside (old new : State) (sta : ℕ) : Type 0 where
  pub number : new.number ≡ old.number
  pub drawn : new.drawn ≡ old.drawn
  pub group : new.group ≡ old.group
  pub sending : new.sending ≡ old.sending
  pub counts : (m : ℕ) → sta < m → m < 2 ^ 64 - 1 → old.owing ≡ owing_below old.group.gtk.newest.place old.stations m → new.owing ≡ owing_below old.group.gtk.newest.place new.stations m
  pub others : (k : ℕ) → k ≢ sta → station_at new.stations k ≡ station_at old.stations k

-- it takes the event, whichever history it stands for, and a refusal leaves it
pub record IsTaken (d : Domain) (event : NodeEvent) (old new : State) (s : Seen) : Type 0 where
  pub number : new.number ≡ old.number
  pub steps : (first : ℕ) (h : List Act) → Stands d first old h
      → Marked (here d first (Ap old.number)) event (Stands d first new) AllPlain h s
  pub refused : (why : Reason) → s.outcome ≡ Refused why → new ≡ old

-- with its own key holder, which has these rows before and those after it, and so telling of those that were asked
pub record IsTakenWith (Looks : List Act → Type 0) (d : Domain) (event : NodeEvent) (old new : State) (xs ys : List HeldRow) (s : Seen) : Type 0 where
  pub number : new.number ≡ old.number
  pub steps : (first : ℕ) (h : List Act) → Stands d first old h → KnowsRows d (Ap old.number) xs h
      → Marked (here d first (Ap old.number)) event (Stands d first new) (RowsOn Looks d old.number ys h) h s
  pub refused : (why : Reason) → s.outcome ≡ Refused why → new ≡ old

-- the status with which an association request is refused, where it is: that of its RSNE, and with suite 4 that of its MDE
abbrev pub request_status : Domain → ElementFields → Option ℕ
request_status d e = or_else (rsne_status d e.rsne) (mobility_status d.akm d e.mde)

-- the octets are a management frame for access point a from a node
pub record IsManagedAtAp (d : Domain) (a : ℕ) (octets : List ℕ) (from : Node) (frame : Management)
    (elements : Elements) : Type 0 where
  pub reads : Reads d.akm octets (Managed (management_fields frame) (element_fields elements))
  pub judged : IsJudged d (Ap a) (Managed (management_fields frame) (element_fields elements))
      (judged.Managed from frame elements)

-- a request of that kind of that station
pub record IsRequestOf (k : Kind) (d : Domain) (a : ℕ) (octets : List ℕ) (station : ℕ) (elements : Elements) : Type 0 where
  pub frame : Management
  pub is : frame.kind ≡ k
  pub managed : IsManagedAtAp d a octets (Sta station) frame elements

-- an association request
abbrev pub IsRequest : Domain → ℕ → List ℕ → ℕ → Elements → Type 0
IsRequest d a octets station elements = IsRequestOf kind.AssocReq d a octets station elements

-- the octets are an EAPOL-Key message for access point a from a node
pub record IsKeyedAtAp (d : Domain) (a : ℕ) (octets : List ℕ) (from : Node) (message : KeyMessage) : Type 0 where
  pub reads : ReadsAt d octets (Keyed (message_fields message))
  pub judged : IsJudged d (Ap a) (Keyed (message_fields message)) (judged.Keyed from message)

-- the octets are protected data for access point a from a node
pub record IsSealedAtAp (d : Domain) (a : ℕ) (octets : List ℕ) (from : Node) (frame : SealedData) : Type 0 where
  pub reads : Reads d.akm octets (sealed_reading (sealed_fields frame))
  pub judged : IsJudged d (Ap a) (sealed_reading (sealed_fields frame)) (judged.Sealed from frame)

-- a part of access point a with a station has begun an attempt, by that nonce and RSNE: it stands for the history with M1, beside
-- whatever session there is
abbrev pub Begins : Domain → ℕ → ℕ → List ℕ → List ℕ → Part → Type 0
Begins d a station v rsne x =
    (h : List Act) (session : Option Session) → IsBegun d (Sta station) v rsne h → HasSession d (Ap a) (Sta station) session h
    → AuthenticatorStands d (Ap a) (Sta station) (with_session session x) (sent_m1 d (Ap a) (Sta station) 1 v ∷ h)

-- an attempt with a station has begun, by the next nonce and that RSNE: its part is that of the station now, and the session goes
-- on in it
pub record BeginsWith (d : Domain) (old new : State) (station : ℕ) (rsne : List ℕ) : Type 0 where
  pub number : new.number ≡ old.number
  pub drawn : new.drawn ≡ old.drawn + 1
  pub group : new.group ≡ old.group
  pub sending : new.sending ≡ old.sending
  pub owing : new.owing ≡ old.owing
  pub part : Part
  pub is : station_at new.stations station ≡ begun_over (station_at old.stations station) part
  pub begun : (kinds part).attempt ≡ Some false
  pub begins : Begins d old.number station (nonce d (Ap old.number) old.drawn) rsne part
  pub others : (k : ℕ) → k ≢ station → station_at new.stations k ≡ station_at old.stations k

-- The attempt that was there is closed: by whether the code has one, where `close_attempt` of the rows goes by what the history
-- answers. The two are the same for a history that the access point stands for.
abbrev pub closed : Node → Bool → List Act
closed p false = []
closed p true = Closed p OfAttempt ∷ []

-- what access point n does as it accepts an association request of p, by whether it had an attempt with it
abbrev pub associated_acts : Domain → Node → Node → List ℕ → Bool → List ℕ → List Act
associated_acts d n p octets had v =
    Took (Some p) octets kind.AssocReq Accepted None ∷ closed p had
    ++ Opened p Connect ∷ Drew (Nonce v) ∷ sent_assoc_resp d n p ∷ sent_m1 d n p 1 v ∷ []

-- what an access point does as it drops what it has with p, by whether it had an attempt and a session
abbrev pub expired_acts : Node → Bool → Bool → List Act
expired_acts p false false = Idle why.Nothing ∷ []
expired_acts p false true = Closed p OfSession ∷ []
expired_acts p true false = Closed p OfAttempt ∷ []
expired_acts p true true = Closed p OfAttempt ∷ Closed p OfSession ∷ []
