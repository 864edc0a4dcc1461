-- The supplicant of a session that a fast transition made (this project's choice).
-- For the code alone: no public contract speaks of it.
use Rattle.std.specs.Prelude.{◌≡◌, ℕ, Some, None}
use Rattle.domain_base.specs.declared.names.Node.TheVariants.{Ap, Sta}
use Rattle.key_hierarchy.specs.declared.inputs.Ptk.{Ptk}
use Rattle.run_journal.specs.declared.domain.Domain.{Domain}
use Rattle.node_base.specs.Ends.{AreEnds}
use Rattle.supplicant.specs.declared.session.Session.TheVariants.{Ft}
use Rattle.supplicant.specs.State.{State}

-- that of a station with an access point, under that key
pub record IsTransferredTo (d : Domain) (sta ap : ℕ) (k : Ptk) (s : State) : Type 0 where
  pub ends : AreEnds d (Sta sta) (Ap ap) s.ends
  pub attempt_is : s.attempt ≡ None
  pub session_is : s.session ≡ Some (Ft k None)
