-- The memory for the acts of a request, by the access point and what the request asks for.
use Rattle.std.proofs.Common.{◌≡◌, ℕ, List, Result, Ok, Err, sym, subst}
use Rattle.std.specs.Prelude.{OnErr}
use Rattle.domain_base.specs.declared.names.Node.{Node}
use Rattle.domain_base.specs.declared.names.Node.TheVariants.{Ap, Sta}
use Rattle.mac_prf.specs.declared.reassociation.Reassociation.TheVariants.{Request}
use Rattle.rsn_elements.specs.Elements.{ElementFields}
use Rattle.run_journal.specs.declared.domain.Domain.{Domain}
use Rattle.domain_rules.specs.Network.{Root, root_at, station_of}
use Rattle.domain_rules.specs.TransitionKeys.{asked}
use Rattle.ft_exchange.specs.TargetSteps.{root_asked}
use Rattle.transition_acts.specs.declared.room.TransitionRoom.{TransitionRoom}
use Rattle.transition_acts.specs.Rooms.{IsRoom}

pub auth_room : (d : Domain) (a sta : ℕ) (n : Node) (octets : List ℕ) (e : ElementFields) (id : List ℕ) (room : TransitionRoom) → n ≡ Ap a → root_asked d (Sta sta) (asked e) ≡ root_at d (Sta sta) id
    → IsRoom d (root_at d (station_of n (Sta sta)) id) n (Sta sta) octets e Request room → IsRoom d (root_asked d (Sta sta) (asked e)) (Ap a) (Sta sta) octets e Request room
auth_room d a sta n octets e id room at root is =
    subst (λ (x : Root). IsRoom d x (Ap a) (Sta sta) octets e Request room) (sym root) (subst (λ (x : Node). IsRoom d (root_at d (station_of x (Sta sta)) id) x (Sta sta) octets e Request room) at is)

pub reassoc_room : (d : Domain) (a sta : ℕ) (n : Node) (octets : List ℕ) (e : ElementFields) (id other : List ℕ) (room : TransitionRoom) → n ≡ Ap a → id ≡ other
    → IsRoom d (root_at d (station_of n (Sta sta)) id) n (Sta sta) octets e Request room → IsRoom d (root_at d (Sta sta) other) (Ap a) (Sta sta) octets e Request room
reassoc_room d a sta n octets e id other room at same is =
    subst (λ (x : List ℕ). IsRoom d (root_at d (Sta sta) x) (Ap a) (Sta sta) octets e Request room) same (subst (λ (x : Node). IsRoom d (root_at d (station_of x (Sta sta)) id) x (Sta sta) octets e Request room) at is)

-- where memory was wanted, and else as well
pub err_at : {A E : Type 0} (r : Result A E) (P : Type 0) → P → OnErr r P
err_at (Ok x) P at = tt
err_at (Err e) P at = at
