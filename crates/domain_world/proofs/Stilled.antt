-- Events that change no key leave the network, and what is said but for a changed key is said of them.
use Rattle.std.proofs.Common.{◌≡◌, ℕ, List, refl, subst}
use Rattle.domain_base.specs.declared.names.Node.TheVariants.{Ap, Sta}
use Rattle.key_holders.specs.declared.rows.HeldRow.{HeldRow}
use Rattle.run_journal.specs.declared.domain.Domain.{Domain}
use Rattle.run_journal.specs.declared.acts.Act.{Act}
use Rattle.run_journal.specs.declared.acts.Outcome.{Outcome}
use Rattle.domain_rules.specs.Here.{here}
use Rattle.domain_rules.specs.Rows.{NodeEvent, Secret}
use Rattle.node_base.specs.Changing.{after, ButSecret, IsStill}
use Rattle.node_base.specs.Events.{Steps, seen}
use Rattle.ap_node.specs.State.{State as ApState}
use Rattle.ap_node.specs.Putting.{LeavesOthers, LeavesRest, OneMove}
use Rattle.ap_node.specs.Stands.{StandsWith as ApStands}
use Rattle.station_node.specs.State.{State as StationState}
use Rattle.station_node.specs.Stands.{Stands as StationStands}

still_after : (d : Domain) (e : NodeEvent) → IsStill e → after d e ≡ d
still_after d (Secret named psk) still = absurd still
still_after d _ still = refl

still_said : (e : NodeEvent) (P : Type 0) → IsStill e → ButSecret e P → P
still_said (Secret named psk) P still said = absurd still
still_said _ P still said = said

pub still_ap : (d : Domain) (e : NodeEvent) (s t : ApState) (xs ys : List HeldRow) (waited waits : List Act) (outcome : Outcome) → IsStill e
    → ((first : ℕ) (h : List Act) → ApStands d first s xs h → Steps (here d first (Ap s.number)) e (ApStands (after d e) first t ys) h (seen waited waits outcome))
    → (first : ℕ) (h : List Act) → ApStands d first s xs h → Steps (here d first (Ap s.number)) e (ApStands d first t ys) h (seen waited waits outcome)
still_ap d e s t xs ys waited waits outcome still steps =
    subst (λ (x : Domain). (first : ℕ) (h : List Act) → ApStands d first s xs h → Steps (here d first (Ap s.number)) e (ApStands x first t ys) h (seen waited waits outcome)) (still_after d e still) steps

pub still_station : (d : Domain) (e : NodeEvent) (s t : StationState) (waited waits : List Act) (outcome : Outcome) → IsStill e
    → ((first : ℕ) (h : List Act) → StationStands d first s h → Steps (here d first (Sta s.number)) e (StationStands (after d e) first t) h (seen waited waits outcome))
    → (first : ℕ) (h : List Act) → StationStands d first s h → Steps (here d first (Sta s.number)) e (StationStands d first t) h (seen waited waits outcome)
still_station d e s t waited waits outcome still steps =
    subst (λ (x : Domain). (first : ℕ) (h : List Act) → StationStands d first s h → Steps (here d first (Sta s.number)) e (StationStands x first t) h (seen waited waits outcome)) (still_after d e still) steps

pub still_others : (e : NodeEvent) (a : ℕ) (ids_old ids_new : List (List ℕ)) (has_old has_new : List ℕ) (old new : ℕ → List HeldRow) → IsStill e
    → LeavesRest a ids_old ids_new has_old has_new old new → ButSecret e (OneMove (old a) (new a)) → LeavesOthers a ids_old ids_new has_old has_new old new
still_others e a ids_old ids_new has_old has_new old new still rest one =
    record { ids = rest.ids; still_has = rest.still_has; others = rest.others; one = still_said e (OneMove (old a) (new a)) still one }
