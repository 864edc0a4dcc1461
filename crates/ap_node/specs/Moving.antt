-- What fast transitions do to what there is with a station (this project's choice).
-- For the code alone: no public contract speaks of it.
use Rattle.std.specs.Prelude.{◌≡◌, ℕ, Bool, cond, nat_lt, if◌then◌else◌, List, Option, Some, None, Result, Ok, Err}
use Rattle.domain_base.specs.declared.names.Node.{Node}
use Rattle.eapol_key.specs.declared.messages.Message.TheVariants.{G1}
use Rattle.key_hierarchy.specs.declared.inputs.Ptk.{Ptk}
use Rattle.run_journal.specs.declared.domain.Domain.{Domain}
use Rattle.run_journal.specs.declared.acts.Act.{Act}
use Rattle.run_journal.specs.declared.acts.Outcome.{Outcome}
use Rattle.run_journal.specs.declared.acts.Outcome.TheVariants.{Refused, GaveUp}
use Rattle.run_journal.specs.declared.reply.Keyed.{Keyed}
use Rattle.domain_rules.specs.Network.{nonce, draw_end}
use Rattle.authenticator.specs.State.{State as Part}
use Rattle.authenticator.specs.Stands.{AuthenticatorStands}
use Rattle.authenticator.specs.Begins.{IsTransferred}
use Rattle.ft_exchange.specs.State.{TargetState}
use Rattle.targets.specs.declared.moves.Moves.{Moves}
use Rattle.targets.specs.declared.taken.Taken.{Taken}
use Rattle.targets.specs.State.{without_held}
use Rattle.ap_node.specs.declared.station.Station.{Station}
use Rattle.ap_node.specs.State.{associated, with_pending, with_moves, without_moves}
use Rattle.ap_node.specs.Keys.{fresh}

-- a refusal changes nothing
abbrev pub begun_key : Outcome → Option Keyed → Option Keyed
begun_key (Refused why) key = None
begun_key _ key = key

-- the key of an attempt that was begun, if one was
abbrev pub begun_of : {E : Type 0} → Result Taken E → Option Keyed
begun_of (Ok taken) = begun_key taken.outcome taken.key
begun_of (Err e) = None

-- the nonce of the attempt in which that key was derived, if one was
abbrev pub drawn_for : Option Keyed → ℕ
drawn_for None = 0
drawn_for (Some y) = 1

-- with that attempt by fast transition, if any, beside the session: it takes the place of the one that there was
abbrev pub pending_beside : Option TargetState → Station → Station
pending_beside m x = record { attempt = with_pending m (associated x.attempt); session = x.session }

-- a part whose session came of that fast transition and has that key in use, as it was installed
abbrev pub seated : Part → List ℕ → Option TargetState → Station
seated part tk m = record { attempt = None; session = Some (record { part = part; key = fresh tk; came_of = m }) }

-- a part is with p that stands for each history at whose end a fast transition installed that key, under the key as it was installed
pub record IsSeated (d : Domain) (n p : Node) (ptk : Ptk) (m : Option TargetState) (x : Station) : Type 0 where
  pub part : Part
  pub is : x ≡ seated part ptk.tk m
  pub none : part.attempt ≡ None
  pub stands : (h : List Act) → IsTransferred p ptk h → AuthenticatorStands d n p part h

-- what there is with p after its reassociation request, by the key that was installed, if any
abbrev pub IsPlaced : Domain → Node → Node → Option Keyed → Moves → Station → Station → Type 0
IsPlaced d n p None m old new = new ≡ with_moves m (without_moves old)
IsPlaced d n p (Some y) m old new = IsSeated d n p y.ptk m.held new

-- the nonce that node n draws next, where it has drawn so often and draws one more
abbrev pub next_drawn : Domain → Node → ℕ → Option (List ℕ)
next_drawn d n drawn = if nat_lt drawn draw_end then Some (nonce d n drawn) else None

-- as the last message of an attempt is accepted, the session is not of a fast transition
abbrev pub finished_moves : Bool → Moves → Moves
finished_moves final m = cond final (without_held m) m

-- the session is given up that a fast transition installed
abbrev pub given_up_moves : Outcome → Moves → Moves
given_up_moves (GaveUp G1) m = without_held m
given_up_moves _ m = m
