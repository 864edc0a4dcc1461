-- What taking an Action frame under an IGTK that a station keeps comes to (IEEE Std 802.11-2020, 12.5.4.6, profile).
use Rattle.std.specs.Prelude.{◌≡◌, ℕ, List, [], ◌∷◌, Some, None}
use Rattle.domain_base.specs.declared.names.Node.{Node}
use Rattle.bip_guard.specs.Bip.{ipn_in}
use Rattle.run_journal.specs.declared.acts.Kind.TheVariants.{Action}
use Rattle.run_journal.specs.declared.acts.Outcome.{Outcome}
use Rattle.run_journal.specs.declared.acts.Outcome.TheVariants.{Accepted}
use Rattle.run_journal.specs.declared.acts.Act.{Act}
use Rattle.run_journal.specs.declared.acts.Act.TheVariants.{Took, HandedUp}
use Rattle.run_journal.specs.Acts.{GroupKey}
use Rattle.domain_rules.specs.ManagementFrames.{action_seal, action_verdict, action_further_by, before_mme, before_mic}
use Rattle.domain_rules.specs.Closing.{sender}
use Rattle.domain_rules.specs.Here.{Here}
use Rattle.domain_rules.specs.Reading.{ReadsAt}
use Rattle.domain_rules.specs.Verdict.{management_sender, first_verdict}
use Rattle.frame_intake.specs.ActionFields.{ActionFields, action_reading, IsActionFrame}

-- an IGTK with its key id
abbrev pub integrity : List ℕ → ℕ → GroupKey
integrity key id = record { key = key; id = id }

-- what comes of an Action frame under that IGTK, with that receive counter
abbrev pub action_outcome : ActionFields → GroupKey → ℕ → Outcome
action_outcome f g kept = action_further_by f.header f.body kept (Some g)

-- the acts of taking these octets of p, which are that frame, by what came of it: what stands before the MME is handed up,
-- or the frame is refused
abbrev pub action_acts : Node → List ℕ → ActionFields → GroupKey → Outcome → List Act
action_acts p octets f g Accepted =
    Took (Some p) octets Action Accepted (Some (action_seal g.key f.header.octets (before_mic f.body)))
    ∷ HandedUp p g.key g.id 0 (ipn_in f.body) (before_mme f.body) ∷ []
action_acts p octets f g outcome = Took (Some p) octets Action outcome None ∷ []

-- octets that are an Action frame for the node from p
pub record IsActionFrom (w : Here) (h : List Act) (p : Node) (octets : List ℕ) (f : ActionFields) : Type 0 where
  pub reads : ReadsAt w.domain octets (action_reading f)
  pub whole : IsActionFrame f
  pub from : sender w.domain w.node (action_reading f) ≡ Some p
  pub named : management_sender w.domain w.node f.header ≡ Some p
  pub verdict_is : first_verdict w.domain w.first w.node h (action_reading f) ≡ action_verdict h p f.body
