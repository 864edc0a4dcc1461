-- Protected data that a station sends and takes, by what its code gave.
use Rattle.std.proofs.Common.{◌≡◌, ◌∙◌, ◌++◌, ℕ, true, false, List, [], ◌∷◌, Option, Some, None, refl, sym, ap, subst}
use Rattle.std.specs.Prelude.{Result, Ok, Err, IfOk, OnOk, OnErr}
use Rattle.domain_base.specs.declared.names.Node.{Node}
use Rattle.domain_base.specs.declared.names.Node.TheVariants.{Ap, Sta}
use Rattle.domain_base.specs.declared.names.Peer.{Peer}
use Rattle.domain_base.specs.declared.names.Peer.TheVariants.{One}
use Rattle.ccmp_guard.specs.Held.{Held}
use Rattle.run_journal.specs.declared.domain.Domain.{Domain}
use Rattle.run_journal.specs.declared.acts.Kind.TheVariants as kind
use Rattle.run_journal.specs.declared.acts.Why.TheVariants as why
use Rattle.run_journal.specs.declared.acts.Reason.TheVariants as reason
use Rattle.run_journal.specs.declared.acts.Outcome.{Outcome}
use Rattle.run_journal.specs.declared.acts.Outcome.TheVariants.{Refused}
use Rattle.run_journal.specs.declared.acts.Outcome.TheVariants.{Idle as IdleBy}
use Rattle.run_journal.specs.declared.acts.Act.{Act}
use Rattle.run_journal.specs.declared.acts.Act.TheVariants.{Took, Idle}
use Rattle.domain_rules.specs.DataRows.{used_acts}
use Rattle.run_journal.specs.Addresses.{is_group}
use Rattle.domain_rules.specs.Rows.{NodeEvent, Take, Send}
use Rattle.frame_intake.specs.SealedFields.{SealedFields, IsSealedData}
use Rattle.node_base.specs.Events.{seen}
use Rattle.run_journal.specs.Events.{IsReceiverOf}
use Rattle.group_key.specs.Keys.{Memories}
use Rattle.data_frames.specs.Sending.{send_key_of, used_once, outcome_under}
use Rattle.data_frames.specs.Taking.{IsOpenedUnder}
use Rattle.station_node.specs.declared.session.Session.{Session}
use Rattle.station_node.specs.State.{State, memory_at, HasPlaceHeld, is_there, set_memory}
use Rattle.station_node.specs.Parts.{peer_of_session, IsElsewhere}
use Rattle.station_node.specs.Steps.{IsTaken, turn, Takes, IsDataFrom}
use Rattle.station_node.specs.GroupData.{IsGroupTaken}
use Rattle.station_node.proofs.Handed.{held_state}
use Rattle.station_node.proofs.Placed.{held_place, same_memories}
use Rattle.station_node.proofs.Taken.{takes_by}
use Rattle.station_node.proofs.Traffic.{in_session, taken-sent, taken-no_key_to, taken-no_session, taken-pairwise, taken-group}

-- the session is the one with that access point
session_with : (s : State) (z : Session) (p : ℕ) → s.session ≡ Some z → z.ap ≡ p → s.session ≡ in_session p z.supplicant z.key
session_with s z p is here = is ∙ ap (λ (q : ℕ). in_session q z.supplicant z.key) here

held_again : (s : State) (z : Session) → s.session ≡ Some z → held_state s z.ap z.supplicant z.key s.memories ≡ s
held_again s z is = ap (λ (o : Option Session). record { number = s.number; drawn = s.drawn; attempt = s.attempt; session = o; memories = s.memories; r0kh_id = s.r0kh_id }) (sym is)

-- ---- sent

pub takes-sent : {E : Type 0} (d : Domain) (s : State) (n : Node) (to : Peer) (tid : Option ℕ) (plain : List ℕ) (z : Session) (new : Held) (waited waits : List Act) (r : Result Outcome E) → s.session ≡ Some z → to ≡ One (Ap z.ap) → n ≡ Sta s.number
    → OnOk r (waits ≡ waited ++ used_acts d n to tid plain (send_key_of z.key)) → IfOk r (λ came. came ≡ outcome_under z.key) → OnOk r (new ≡ used_once z.key) → OnErr r (new ≡ z.key) → OnErr r (waits ≡ waited)
    → Takes d (Send to tid plain) (turn s (held_state s z.ap z.supplicant new s.memories) waited waits) r
takes-sent d s n to tid plain z new waited waits (Ok outcome) is to_is n_is acts came used same kept =
    let acts_are : waits ≡ waited ++ used_acts d (Sta s.number) (One (Ap z.ap)) tid plain (send_key_of z.key) =
    acts ∙ ap (λ (q : Peer). waited ++ used_acts d n q tid plain (send_key_of z.key)) to_is ∙ ap (λ (m : Node). waited ++ used_acts d m (One (Ap z.ap)) tid plain (send_key_of z.key)) n_is in
    subst (λ (q : Peer). IsTaken d (Send q tid plain) (turn s (held_state s z.ap z.supplicant new s.memories) waited waits) outcome) (sym to_is)
    (subst (λ (k : Held). IsTaken d (Send (One (Ap z.ap)) tid plain) (turn s (held_state s z.ap z.supplicant k s.memories) waited waits) outcome) (sym used)
    (taken-sent d s z.ap z.supplicant z.key tid plain waited waits outcome is acts_are came))
takes-sent d s n to tid plain z new waited waits (Err e) is to_is n_is acts came used same kept = (ap (λ (k : Held). held_state s z.ap z.supplicant k s.memories) same ∙ held_again s z is, kept)

-- not without a session with that access point
pub not_sent : (d : Domain) (s self : State) (to : Peer) (tid : Option ℕ) (plain : List ℕ) (waited mid waits : List Act) → self ≡ s → IsReceiverOf d (Sta s.number) to → ((p : ℕ) → to ≡ One (Ap p) → IsElsewhere (peer_of_session s.session) p)
    → mid ≡ waited → waits ≡ mid ++ Idle why.NoKey ∷ [] → IsTaken d (Send to tid plain) (turn s self waited waits) (IdleBy why.NoKey)
not_sent d s self to tid plain waited mid waits same receiver other reserved is =
    subst (λ (t : State). IsTaken d (Send to tid plain) (turn s t waited waits) (IdleBy why.NoKey)) (sym same)
    (taken-no_key_to d s to tid plain waited waits receiver other (is ∙ ap (λ (l : List Act). l ++ Idle why.NoKey ∷ []) reserved))

same_receiver : (a p : ℕ) → ◌≡◌ {A = Peer} (One (Ap a)) (One (Ap p)) → a ≡ p
same_receiver a p is = cc

pub other_receiver : (o : Option Node) (to : Peer) (a : ℕ) → to ≡ One (Ap a) → IsElsewhere o a → (p : ℕ) → to ≡ One (Ap p) → IsElsewhere o p
other_receiver o to a is other p to_is = subst (IsElsewhere o) (same_receiver a p (sym is ∙ to_is)) other

-- ---- taken

pub refused-no_session : {E : Type 0} (d : Domain) (s self : State) (p : ℕ) (octets : List ℕ) (f : SealedFields) (waited waits : List Act) (r : Result Outcome E) → self ≡ s → IsDataFrom d s.number p octets f → IsElsewhere (peer_of_session s.session) p
    → IfOk r (λ came. came ≡ Refused reason.NoKey) → OnOk r (waits ≡ waited ++ Took (Some (Ap p)) octets kind.Data (Refused reason.NoKey) None ∷ []) → OnErr r (waits ≡ waited)
    → Takes d (Take octets) (turn s self waited waits) r
refused-no_session d s self p octets f waited waits r same m held outcome acts kept =
    subst (λ (t : State). Takes d (Take octets) (turn s t waited waits) r) (sym same)
    (takes_by d (Take octets) (turn s s waited waits) r (Refused reason.NoKey) _ outcome acts kept refl (λ is. taken-no_session d s p octets f waited waits m held is))

pub takes-pairwise : {E : Type 0} (d : Domain) (s : State) (p : ℕ) (octets : List ℕ) (f : SealedFields) (z : Session) (new : Held) (waited waits : List Act) (r : Result Outcome E) → s.session ≡ Some z → z.ap ≡ p → IsDataFrom d s.number p octets f → IsSealedData f
    → is_group f.header.a1 ≡ false → IfOk r (λ outcome. IsOpenedUnder (Ap p) octets f z.key new (seen waited waits outcome)) → OnErr r (new ≡ z.key) → OnErr r (waits ≡ waited)
    → Takes d (Take octets) (turn s (held_state s z.ap z.supplicant new s.memories) waited waits) r
takes-pairwise d s p octets f z new waited waits (Ok outcome) is here m whole alone opened same kept =
    subst (λ (q : ℕ). IsTaken d (Take octets) (turn s (held_state s q z.supplicant new s.memories) waited waits) outcome) (sym here)
    (taken-pairwise d s p octets f z.supplicant z.key new waited waits outcome (session_with s z p is here) m whole alone opened)
takes-pairwise d s p octets f z new waited waits (Err e) is here m whole alone opened same kept = (ap (λ (k : Held). held_state s z.ap z.supplicant k s.memories) same ∙ held_again s z is, kept)

-- of the group keys of the access point
pub record IsPlaceOf (s : State) (z : Session) (p : ℕ) (had : Memories) : Type 0 where
  pub is : s.session ≡ Some z
  pub here : z.ap ≡ p
  pub place : HasPlaceHeld s.session s.memories
  pub value : had ≡ memory_at s.memories p

pub takes-group : {E : Type 0} (d : Domain) (s : State) (p : ℕ) (octets : List ℕ) (f : SealedFields) (z : Session) (had has : Memories) (waited waits : List Act) (r : Result Outcome E) → IsPlaceOf s z p had → IsDataFrom d s.number p octets f → IsSealedData f
    → is_group f.header.a1 ≡ true → IfOk r (λ outcome. IsGroupTaken p octets f had has (seen waited waits outcome)) → OnErr r (has ≡ had) → OnErr r (waits ≡ waited)
    → Takes d (Take octets) (turn s (held_state s z.ap z.supplicant z.key (set_memory s.memories p has)) waited waits) r
takes-group d s p octets f z had has waited waits (Ok outcome) b m whole group taken same kept =
    let placed : is_there s.memories p ≡ true = subst (λ (q : ℕ). is_there s.memories q ≡ true) b.here (held_place s.session z s.memories b.is b.place) in
    subst (λ (q : ℕ). IsTaken d (Take octets) (turn s (held_state s q z.supplicant z.key (set_memory s.memories p has)) waited waits) outcome) (sym b.here)
    (taken-group d s p octets f z.supplicant z.key has waited waits outcome (session_with s z p b.is b.here) m whole group placed
    (subst (λ (ks : Memories). IsGroupTaken p octets f ks has (seen waited waits outcome)) b.value taken))
takes-group d s p octets f z had has waited waits (Err e) b m whole group taken same kept =
    (ap (held_state s z.ap z.supplicant z.key) (same_memories s.memories p had has same b.value) ∙ held_again s z b.is, kept)

-- ---- as the code names them

pub takes_named : {E : Type 0} (d : Domain) (event : NodeEvent) (s was new now : State) (waited waits all : List Act) (r q : Result Outcome E) → s ≡ was → new ≡ now → waits ≡ all → r ≡ q → Takes d event (turn s now waited all) q → Takes d event (turn was new waited waits) r
takes_named {E = E} d event s was new now waited waits all r q same is are came x =
    subst (λ (t : State). Takes d event (turn t new waited waits) r) same
    (subst (λ (t : State). Takes d event (turn s t waited waits) r) (sym is)
    (subst (λ (l : List Act). Takes d event (turn s now waited l) r) (sym are)
    (subst (λ (o : Result Outcome E). Takes d event (turn s now waited all) o) (sym came) x)))
