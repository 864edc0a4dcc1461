-- A frame of a fast transition handed to the originator of a station's attempt, by what its code gave.
use Rattle.std.proofs.Common.{◌≡◌, ◌∙◌, ℕ, List, [], ◌∷◌, ◌++◌, Option, Some, None, refl, sym, ap, subst, true}
use Rattle.std.specs.Prelude.{Result, Ok, Err, IfOk, OnOk, OnErr}
use Rattle.domain_base.specs.declared.names.Node.TheVariants.{Ap, Sta}
use Rattle.rsn_elements.specs.Fields.{element_fields}
use Rattle.run_journal.specs.declared.domain.Domain.{Domain}
use Rattle.run_journal.specs.declared.acts.Kind.TheVariants as kind
use Rattle.run_journal.specs.declared.acts.Reason.TheVariants as reason
use Rattle.run_journal.specs.declared.acts.Outcome.{Outcome}
use Rattle.run_journal.specs.declared.acts.Outcome.TheVariants.{Refused}
use Rattle.run_journal.specs.declared.acts.Act.{Act}
use Rattle.run_journal.specs.declared.acts.Act.TheVariants.{Took}
use Rattle.run_journal.specs.declared.reply.Keyed.{Keyed}
use Rattle.domain_rules.specs.Rows.{Take}
use Rattle.frame_intake.specs.Views.{management_fields}
use Rattle.ccmp_guard.specs.Held.{Held}
use Rattle.data_frames.specs.Holding.{fresh_key}
use Rattle.group_key.specs.Keys.{Memories}
use Rattle.ft_exchange.specs.State.{OriginatorState}
use Rattle.ft_exchange.specs.Comes.{IsManagementFrom}
use Rattle.ft_exchange.specs.Exchange.{both}
use Rattle.station_node.specs.declared.attempt.Attempt.{Attempt}
use Rattle.station_node.specs.declared.attempt.Association.{Association}
use Rattle.station_node.specs.declared.attempt.Association.TheVariants.{Moving}
use Rattle.station_node.specs.declared.session.Session.{Session}
use Rattle.station_node.specs.declared.managed.Managed.{Managed}
use Rattle.station_node.specs.declared.moving.Way.{Way}
use Rattle.station_node.specs.declared.moving.Arrival.{Arrival}
use Rattle.station_node.specs.Moved.{move, IsAnswered, IsArrived}
use Rattle.station_node.specs.State.{State, HasPlace, HasPlaceTried, memory_at, is_there, set_memory}
use Rattle.station_node.specs.Parts.{IsNotMoving}
use Rattle.station_node.specs.Transferred.{IsTransferredTo}
use Rattle.station_node.specs.Steps.{IsTaken, turn, Takes}
use Rattle.station_node.proofs.Taken.{takes_by, taken-auth_unawaited, taken-reassoc_unawaited}
use Rattle.station_node.proofs.Placed.{whole_attempt}
use Rattle.station_node.proofs.Arriving.{moving_state}
use Rattle.station_node.proofs.Moved.{IsGiven, moving_same, among_by, taken-answered, taken-moving, taken-arrived}

-- ---- where no fast transition to the access point is under way

pub none_moving : (o : Option Attempt) (p : ℕ) → o ≡ None → IsNotMoving o p
none_moving o p none x is = cc (none, is)

pub other_moving : (o : Option Attempt) (a : Attempt) (p : ℕ) → o ≡ Some a → (a.ap ≡ p → ⊥) → IsNotMoving o p
other_moving o a p is other x there = other (same a p x (sym is ∙ there))
  where
    same : (a : Attempt) (p : ℕ) (x : OriginatorState) → Some a ≡ Some (record { ap = p; association = Moving x }) → a.ap ≡ p
    same a p x is = cc

pub not_moving : (o : Option Attempt) (a : Attempt) (p : ℕ) → o ≡ Some a → ((x : OriginatorState) → a.association ≡ Moving x → ⊥) → IsNotMoving o p
not_moving o a p is other x there = other x (same a p x (sym is ∙ there))
  where
    same : (a : Attempt) (p : ℕ) (x : OriginatorState) → Some a ≡ Some (record { ap = p; association = Moving x }) → a.association ≡ Moving x
    same a p x is = cc

pub refused-auth : {E : Type 0} (d : Domain) (s self : State) (p : ℕ) (m : Managed) (waited waits : List Act) (r : Result Outcome E) → self ≡ s → IsManagementFrom d (Sta s.number) (Ap p) m.octets.now (management_fields m.frame) (element_fields m.elements) → m.frame.kind ≡ kind.FtResp
    → IsNotMoving s.attempt p → IfOk r (λ came. came ≡ Refused reason.Unawaited) → OnOk r (waits ≡ waited ++ Took (Some (Ap p)) m.octets.now kind.FtResp (Refused reason.Unawaited) None ∷ []) → OnErr r (waits ≡ waited) → Takes d (Take m.octets.now) (turn s self waited waits) r
refused-auth d s self p m waited waits r same from kind_is other outcome acts kept =
    subst (λ (t : State). Takes d (Take m.octets.now) (turn s t waited waits) r) (sym same)
    (takes_by d (Take m.octets.now) (turn s s waited waits) r (Refused reason.Unawaited) _ outcome acts kept refl
    (λ is. taken-auth_unawaited d s p m.octets.now (management_fields m.frame) (element_fields m.elements) waited waits from kind_is other is))

pub refused-reassoc : {E : Type 0} (d : Domain) (s self : State) (p : ℕ) (m : Managed) (waited waits : List Act) (r : Result Outcome E) → self ≡ s → IsManagementFrom d (Sta s.number) (Ap p) m.octets.now (management_fields m.frame) (element_fields m.elements) → m.frame.kind ≡ kind.ReResp
    → IsNotMoving s.attempt p → IfOk r (λ came. came ≡ Refused reason.Unawaited) → OnOk r (waits ≡ waited ++ Took (Some (Ap p)) m.octets.now kind.ReResp (Refused reason.Unawaited) None ∷ []) → OnErr r (waits ≡ waited) → Takes d (Take m.octets.now) (turn s self waited waits) r
refused-reassoc d s self p m waited waits r same from kind_is other outcome acts kept =
    subst (λ (t : State). Takes d (Take m.octets.now) (turn s t waited waits) r) (sym same)
    (takes_by d (Take m.octets.now) (turn s s waited waits) r (Refused reason.Unawaited) _ outcome acts kept refl
    (λ is. taken-reassoc_unawaited d s p m.octets.now (management_fields m.frame) (element_fields m.elements) waited waits from kind_is other is))

-- ---- an authentication response

pub takes-answered : {E : Type 0} (d : Domain) (s : State) (a : Attempt) (p : ℕ) (w : Way) (m : Managed) (old new : OriginatorState) (waited waits : List Act) (r : Result Outcome E) → s.attempt ≡ Some a → a.ap ≡ p → a.association ≡ Moving old → IsGiven d s p w m
    → m.frame.kind ≡ kind.FtResp → IfOk r (λ outcome. (ks : Memories) → IsAnswered d (Sta s.number) w m (move (both old ks) (both new ks) waited waits) outcome) → OnErr r (new ≡ old) → OnErr r (waits ≡ waited)
    → Takes d (Take m.octets.now) (turn s (moving_state s a.ap new s.memories) waited waits) r
takes-answered d s a p w m old new waited waits (Ok outcome) is here there g kind_is answered same kept =
    let none : Memories = record { gtks = []; igtks = [] } in
    subst (λ (q : ℕ). IsTaken d (Take m.octets.now) (turn s (moving_state s q new s.memories) waited waits) outcome) (sym here)
    (taken-answered d s p w m old new none waited waits outcome (is ∙ whole_attempt a p (Moving old) here there) g kind_is (answered none))
takes-answered d s a p w m old new waited waits (Err e) is here there g kind_is answered same kept =
    (ap (λ (o : OriginatorState). moving_state s a.ap o s.memories) same ∙ moving_same s a.ap old (is ∙ whole_attempt a a.ap (Moving old) refl there), kept)

-- ---- a reassociation response

-- the memory of the access point has a place
pub record IsPlaced (s : State) (p : ℕ) (had : Memories) : Type 0 where
  pub place : HasPlaceTried s.attempt s.memories
  pub value : had ≡ memory_at s.memories p

moving_place : (o : Option Attempt) (a : Attempt) (old : OriginatorState) (memories : List (ℕ × Memories)) → o ≡ Some a → a.association ≡ Moving old → HasPlaceTried o memories → is_there memories a.ap ≡ true
moving_place o a old memories is has place = subst (λ (x : Association). HasPlace a.ap x memories) has (subst (λ (y : Option Attempt). HasPlaceTried y memories) is place)

pub handed-moving : (d : Domain) (s : State) (a : Attempt) (p : ℕ) (w : Way) (m : Managed) (old new : OriginatorState) (had has : Memories) (waited waits : List Act) (came : Arrival) → s.attempt ≡ Some a → a.ap ≡ p → a.association ≡ Moving old → IsPlaced s p had
    → IsGiven d s p w m → m.frame.kind ≡ kind.ReResp → IsArrived d (Sta s.number) w m (move (both old had) (both new has) waited waits) came → came.installed ≡ None
    → IsTaken d (Take m.octets.now) (turn s (moving_state s a.ap new (set_memory s.memories p has)) waited waits) came.outcome
handed-moving d s a p w m old new had has waited waits came is here there b g kind_is x none =
    let placed : is_there s.memories p ≡ true = subst (λ (q : ℕ). is_there s.memories q ≡ true) here (moving_place s.attempt a old s.memories is there b.place) in
    subst (λ (q : ℕ). IsTaken d (Take m.octets.now) (turn s (moving_state s q new (set_memory s.memories p has)) waited waits) came.outcome) (sym here)
    (taken-moving d s p w m (set_memory s.memories p has) (move (both old had) (both new has) waited waits) came (is ∙ whole_attempt a p (Moving old) here there) g kind_is
    (among_by s p had has old new waited waits placed b.value) x none)

abbrev pub with_session : State → Session → List (ℕ × Memories) → State
with_session s z memories = record { number = s.number; drawn = s.drawn; attempt = None; session = Some z; memories = memories; r0kh_id = s.r0kh_id }

whole_session : (z : Session) (p : ℕ) (k : Held) → z.ap ≡ p → z.key ≡ k → z ≡ record { ap = p; supplicant = z.supplicant; key = k }
whole_session z p k here there = ap (λ (q : ℕ). record { ap = q; supplicant = z.supplicant; key = z.key }) here ∙ ap (λ (y : Held). record { ap = p; supplicant = z.supplicant; key = y }) there

pub handed-arrived : (d : Domain) (s : State) (a : Attempt) (p : ℕ) (w : Way) (m : Managed) (old new : OriginatorState) (z : Session) (y : Keyed) (had has : Memories) (waited waits : List Act) (came : Arrival) → s.attempt ≡ Some a → a.ap ≡ p → a.association ≡ Moving old → IsPlaced s p had
    → IsGiven d s p w m → m.frame.kind ≡ kind.ReResp → IsArrived d (Sta s.number) w m (move (both old had) (both new has) waited waits) came → came.installed ≡ Some y → z.ap ≡ p → IsTransferredTo d s.number p y.ptk z.supplicant → z.key ≡ fresh_key y.ptk.tk
    → IsTaken d (Take m.octets.now) (turn s (with_session s z (set_memory s.memories p has)) waited waits) came.outcome
handed-arrived d s a p w m old new z y had has waited waits came is here there b g kind_is x some with_ap begun keyed =
    let placed : is_there s.memories p ≡ true = subst (λ (q : ℕ). is_there s.memories q ≡ true) here (moving_place s.attempt a old s.memories is there b.place) in
    subst (λ (v : Session). IsTaken d (Take m.octets.now) (turn s (with_session s v (set_memory s.memories p has)) waited waits) came.outcome) (sym (whole_session z p (fresh_key y.ptk.tk) with_ap keyed))
    (taken-arrived d s p w m (set_memory s.memories p has) (move (both old had) (both new has) waited waits) came y z.supplicant (is ∙ whole_attempt a p (Moving old) here there) g kind_is
    (among_by s p had has old new waited waits placed b.value) x some begun)
