-- An attempt that moves: the places that it has, and that want of memory leaves the station as it was; and where there is none.
use Rattle.std.proofs.Common.{◌≡◌, ℕ, List, Option, Some, None, sym, ap, subst, ◌∙◌, true}
use Rattle.domain_base.specs.declared.names.Node.TheVariants.{Ap}
use Rattle.group_key.specs.Keys.{Memories}
use Rattle.ft_exchange.specs.State.{OriginatorState}
use Rattle.station_node.specs.declared.attempt.Attempt.{Attempt}
use Rattle.station_node.specs.declared.attempt.Association.{Association}
use Rattle.station_node.specs.declared.attempt.Association.TheVariants.{Moving}
use Rattle.station_node.specs.declared.session.Session.{Session}
use Rattle.station_node.specs.State.{State, HasPlaceHeld, HavePlaces, memory_at, is_there, set_memory, KeepsPlaces}
use Rattle.station_node.specs.Parts.{peer_of_attempt, IsElsewhere}
use Rattle.station_node.proofs.Arriving.{moving_state}
use Rattle.station_node.proofs.Placed.{held_stays, same_memories}

pub left-moving : (s : State) (a : Attempt) (i : ℕ) (old new : OriginatorState) (had has : Memories) → s.attempt ≡ Some a → a.association ≡ Moving old → new ≡ old → has ≡ had → had ≡ memory_at s.memories i
    → moving_state s a.ap new (set_memory s.memories i has) ≡ s
left-moving s a i old new had has is there same kept value =
    ap (λ (y : OriginatorState). moving_state s a.ap y (set_memory s.memories i has)) same
    ∙ ap (moving_state s a.ap old) (same_memories s.memories i had has kept value)
    ∙ ap (λ (x : Association). record { number = s.number; drawn = s.drawn; attempt = Some (record { ap = a.ap; association = x }); session = s.session; memories = s.memories; r0kh_id = s.r0kh_id }) (sym there)
    ∙ ap (λ (o : Option Attempt). record { number = s.number; drawn = s.drawn; attempt = o; session = s.session; memories = s.memories; r0kh_id = s.r0kh_id }) (sym is)

pub roamed_places : (x : Option Session) (p : ℕ) (o : OriginatorState) (had has : List (ℕ × Memories)) → KeepsPlaces had has → is_there has p ≡ true → HasPlaceHeld x had → HavePlaces (Some (record { ap = p; association = Moving o })) x has
roamed_places x p o had has more place held = record { tried = place; held = held_stays x had has more held }

-- ---- where no attempt is with an access point

no_peer : (p : ℕ) → None ≡ Some (Ap p) → ⊥
no_peer p is = cc

same_peer : (q p : ℕ) → Some (Ap q) ≡ Some (Ap p) → q ≡ p
same_peer q p is = cc

pub no_attempt_there : (o : Option Attempt) (p : ℕ) → o ≡ None → IsElsewhere (peer_of_attempt o) p
no_attempt_there o p none = subst (λ (y : Option Attempt). IsElsewhere (peer_of_attempt y) p) (sym none) (no_peer p)

pub other_attempt : (o : Option Attempt) (a : Attempt) (p : ℕ) → o ≡ Some a → (a.ap ≡ p → ⊥) → IsElsewhere (peer_of_attempt o) p
other_attempt o a p is other = subst (λ (y : Option Attempt). IsElsewhere (peer_of_attempt y) p) (sym is) (λ same. other (same_peer a.ap p same))
