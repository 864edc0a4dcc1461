-- A key that one access point revokes in the round in which another one looks it up: its key holder may answer either
-- way. So the rounds do not determine what key holders answer, where two access points have events in one: `HeldRight`
-- lets both answers through (profile).
use Rattle.std.specs.Prelude.{ℕ, List, [], ◌∷◌, Some, None}
use Rattle.domain_base.specs.declared.names.Node.TheVariants.{Ap, Sta}
use Rattle.domain_rules.specs.Explained.{Explained}
use Rattle.domain_rules.specs.HeldRight.{HeldRight}
use Rattle.domain_rules.specs.Network.{r0kh_id}
use Rattle.key_hierarchy.specs.declared.answers.PullAnswer.{PullAnswer}
use Rattle.key_hierarchy.specs.declared.answers.PullAnswer.TheVariants.{Found, Absent}
use Rattle.key_hierarchy.specs.declared.answers.RevokeAnswer.TheVariants as revoke
use Rattle.run_journal.specs.Premises.{In}
use Rattle.run_journal.specs.Questions.{history}
use Rattle.run_journal.specs.declared.acts.Act.TheVariants.{Took, Looked, Revoked}
use Rattle.run_journal.specs.declared.acts.Entry.{Entry}
use Rattle.run_journal.specs.declared.acts.Kind.TheVariants.{FtReq}
use Rattle.run_journal.specs.declared.acts.Outcome.{Outcome}
use Rattle.run_journal.specs.declared.acts.Outcome.TheVariants.{Accepted, Refused}
use Rattle.run_journal.specs.declared.acts.Reason.TheVariants.{Name}
use Rattle.run_journal.specs.declared.domain.Domain.{Domain}
use Rattle.run_journal.specs.declared.domain.Event.{Event}
use Rattle.run_journal.specs.declared.domain.Event.TheVariants.{Roam, Deliver, Revoke}
use Rattle.example_domains.specs.Roaming.{association, r0_name_at, r1_at}

-- the rounds, the last first: station m is associated with access point k, it asks access point l for a fast transition, and in one
-- round k revokes its key and the request comes to l
abbrev pub revoked_meanwhile : ℕ → ℕ → ℕ → List (List Event)
revoked_meanwhile k l m = (Revoke k m ∷ Deliver 7 (Ap l) ∷ []) ∷ (Roam m l ∷ []) ∷ association k m

-- a journal of these rounds in which key holders answer rightly, and in which the key was revoked at k and looked up by l, with that answer, and
-- that came of the request
pub record IsAnswered (d : Domain) (k l m : ℕ) (answer : PullAnswer) (outcome : Outcome) : Type 0 where
  pub journal : List Entry
  pub explained : Explained d (revoked_meanwhile k l m) journal
  pub held : HeldRight d journal
  pub revoked : In (Revoked (r0kh_id d (Ap k)) (r0_name_at d k m) (Sta m) revoke.Revoked) (history (Ap k) journal)
  pub looked : In (Looked (r0kh_id d (Ap k)) (r0_name_at d k m) (Sta m) answer) (history (Ap l) journal)
  pub request : List ℕ
  pub took : In (Took (Some (Sta m)) request FtReq outcome None) (history (Ap l) journal)

-- there is one in which the look finds the key, and the request is accepted, and one in which it finds none, and the request is refused
pub record HasEitherAnswer (d : Domain) (k l m : ℕ) : Type 0 where
  pub found : IsAnswered d k l m (Found (r1_at d k m l)) Accepted
  pub absent : IsAnswered d k l m Absent (Refused Name)
