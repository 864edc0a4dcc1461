-- Which histories the fast transitions of an access point stand for (IEEE Std 802.11-2020, 13.8, profile).
use Rattle.std.specs.Prelude.{◌≡◌, true, List, Option, Some, None}
use Rattle.domain_base.specs.declared.names.Node.{Node}
use Rattle.run_journal.specs.declared.domain.Domain.{Domain}
use Rattle.run_journal.specs.declared.acts.Act.{Act}
use Rattle.run_journal.specs.Questions.{attempt}
use Rattle.domain_rules.specs.Asking.{is_four_way}
use Rattle.domain_rules.specs.TransitionKeys.{session_transition}
use Rattle.ft_exchange.specs.State.{TargetState}
use Rattle.ft_exchange.specs.Stands.{TargetStands, PendingStands}
use Rattle.targets.specs.declared.moves.Moves.{Moves}

-- the target of the session, where there is one, is installed; else the session, if there is one, came of no fast transition
abbrev pub HeldStands : Domain → Node → Node → Option TargetState → List Act → Type 0
HeldStands d n p None h = session_transition p h ≡ None
HeldStands d n p (Some s) h = (s.is_installed ≡ true) × TargetStands d n p s h

-- where no fast transition is pending, an attempt that is under way has a four-way handshake
abbrev pub IsOther : Option TargetState → Option (List Act) → Type 0
IsOther None None = Unit {0}
IsOther None (Some part) = is_four_way part ≡ true
IsOther (Some s) part = Unit {0}

-- access point n has these fast transitions with station p
pub record HasMoves (d : Domain) (n p : Node) (m : Moves) (h : List Act) : Type 0 where
  pub pending : PendingStands d n p m.pending h
  pub held : HeldStands d n p m.held h
  pub other : IsOther m.pending (attempt p h)
