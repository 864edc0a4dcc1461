-- What a delivered frame is judged as before any question to the history (profile).
use Rattle.std.specs.Prelude.{◌≡◌, ℕ, ◌+◌, false, List, [], Option, Some, ◌⊎◌}
use Rattle.domain_base.specs.declared.names.Node.{Node}
use Rattle.air_frame.specs.Views.{header_of}
use Rattle.eapol_key.specs.Fields.{IsKeyFrame}
use Rattle.key_hierarchy.specs.declared.fast_transition.PmkR1.{PmkR1}
use Rattle.rsn_elements.specs.Fields.{element_fields}
use Rattle.run_journal.specs.declared.domain.Domain.{Domain}
use Rattle.run_journal.specs.declared.acts.Reason.{Reason}
use Rattle.run_journal.specs.declared.acts.Kind.{Kind}
use Rattle.run_journal.specs.declared.acts.Outcome.{Outcome}
use Rattle.run_journal.specs.declared.acts.Outcome.TheVariants.{Ignored, Refused}
use Rattle.run_journal.specs.declared.acts.Act.{Act}
use Rattle.run_journal.specs.Questions.{draws}
use Rattle.domain_rules.specs.Network.{is_ap}
use Rattle.domain_rules.specs.Reading.{Reading, PassedOver, Managed, Keyed}
use Rattle.domain_rules.specs.Verdict.{management_sender, first_verdict, key_verdict}
use Rattle.domain_rules.specs.Associating.{management_verdict}
use Rattle.domain_rules.specs.DataVerdict.{data_verdict}
use Rattle.domain_rules.specs.ManagementFrames.{action_verdict}
use Rattle.domain_rules.specs.Closing.{sender}
use Rattle.domain_rules.specs.Rows.{response}
use Rattle.domain_rules.specs.TransitionRows.{refused_look}
use Rattle.run_journal.specs.Events.{IsPeerOf}
use Rattle.frame_intake.specs.declared.judging.Judged.{Judged}
use Rattle.frame_intake.specs.declared.judging.Judged.TheVariants as judged
use Rattle.frame_intake.specs.SealedFields.{sealed_reading, IsSealedData}
use Rattle.frame_intake.specs.ActionFields.{action_reading, IsActionFrame}
use Rattle.frame_intake.specs.Views.{management_fields, message_fields, sealed_fields, action_fields}

-- a refusal that nothing answers, and before which no key holder was asked
pub record IsSilent (d : Domain) (n : Node) (why : Reason) : Type 0 where
  pub answer : (from : Option Node) (k : Kind) → response d n from k why ≡ []
  pub look : (from : Option Node) (r : Reading) (pulled : Option PmkR1) → refused_look n from r pulled why ≡ []

-- the frame is passed over, or refused so
abbrev pub IsSettled : Domain → Node → Reading → Outcome → Type 0
IsSettled d n r o =
    ((o ≡ Ignored) × (r ≡ PassedOver)) ⊎ ((why : Reason) × (o ≡ Refused why) × IsSilent d n why)

-- what a frame is judged as before any question to the history: passed over; refused, with nothing sealed and no
-- answer; or left to ask, as a management frame, message or protected data of a listed peer, or at a station as an
-- Action frame of one
abbrev pub IsJudged : Domain → Node → Reading → Judged → Type 0
IsJudged d n r (judged.Settled from outcome) =
    (from ≡ sender d n r)
    × ((first : ℕ) (h : List Act) → first_verdict d first n h r ≡ outcome)
    × IsSettled d n r outcome
IsJudged d n r (judged.Managed from frame elements) =
    (r ≡ Managed (management_fields frame) (element_fields elements))
    × (sender d n r ≡ Some from)
    × IsPeerOf d n from
    × ((first : ℕ) (h : List Act) → first_verdict d first n h r
    ≡ management_verdict d (first + draws h) n h from frame.kind
    (management_fields frame) (element_fields elements))
IsJudged d n r (judged.Keyed from message) =
    (r ≡ Keyed (message_fields message))
    × (sender d n r ≡ Some from)
    × IsPeerOf d n from
    × IsKeyFrame message.frame
    × ((first : ℕ) (h : List Act) → first_verdict d first n h r
    ≡ key_verdict d (first + draws h) n h from (message_fields message) message.message)
IsJudged d n r (judged.Sealed from frame) =
    (r ≡ sealed_reading (sealed_fields frame))
    × (sender d n r ≡ Some from)
    × IsPeerOf d n from
    × IsSealedData (sealed_fields frame)
    × ((first : ℕ) (h : List Act) → first_verdict d first n h r
    ≡ data_verdict n h from (header_of frame.header) frame.tid frame.body.now)
IsJudged d n r (judged.Acting from frame) =
    (r ≡ action_reading (action_fields frame))
    × (sender d n r ≡ Some from)
    × IsPeerOf d n from
    × IsActionFrame (action_fields frame)
    × (is_ap n ≡ false)
    × (management_sender d n (header_of frame.header) ≡ Some from)
    × ((first : ℕ) (h : List Act) → first_verdict d first n h r ≡ action_verdict h from frame.body.now)
