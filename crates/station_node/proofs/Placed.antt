-- A message handed to the supplicant in a slot of a station, by what its code gave.
use Rattle.std.proofs.Common.{◌≡◌, ℕ, ◌≤◌, Bool, true, false, List, [], ◌∷◌, ◌++◌, length, Option, Some, None, refl, sym, ap, subst, ◌∙◌}
use Rattle.std.specs.Prelude.{Result, Ok, Err, IsErr, IfOk, OnOk, OnErr}
use Rattle.std.proofs.lemmas.Bool.{eqb-true}
use Rattle.domain_base.specs.declared.names.Node.TheVariants.{Ap, Sta}
use Rattle.run_journal.specs.declared.domain.Domain.{Domain}
use Rattle.run_journal.specs.declared.acts.Kind.TheVariants as kind
use Rattle.run_journal.specs.declared.acts.Reason.TheVariants as reason
use Rattle.run_journal.specs.declared.acts.Outcome.{Outcome}
use Rattle.run_journal.specs.declared.acts.Outcome.TheVariants.{Refused}
use Rattle.run_journal.specs.declared.acts.Act.{Act}
use Rattle.run_journal.specs.declared.acts.Act.TheVariants.{Took}
use Rattle.domain_rules.specs.Replies.{IsMessageFrom}
use Rattle.domain_rules.specs.Rows.{NodeEvent, Take}
use Rattle.ccmp_guard.specs.Held.{Held}
use Rattle.data_frames.specs.Holding.{fresh_key}
use Rattle.group_key.specs.Keys.{Memories}
use Rattle.frame_intake.specs.declared.delivered.Heard.{Heard}
use Rattle.frame_intake.specs.Views.{message_fields}
use Rattle.supplicant.specs.State.{State as Supplicant, both}
use Rattle.ft_exchange.specs.State.{OriginatorState}
use Rattle.station_node.specs.declared.attempt.Attempt.{Attempt}
use Rattle.station_node.specs.declared.attempt.Association.{Association}
use Rattle.station_node.specs.declared.attempt.Association.TheVariants.{Requested, Accepted, Moving}
use Rattle.station_node.specs.declared.session.Session.{Session}
use Rattle.station_node.specs.declared.handing.Came.{Came}
use Rattle.station_node.specs.State.{State, memory_at, HasPlace, HasPlaceTried, HasPlaceHeld, HavePlaces, is_there, set_memory, KeepsPlaces}
use Rattle.station_node.specs.Parts.{peer_of_attempt, peer_of_session, is_with, opens_by, IsElsewhere}
use Rattle.station_node.specs.Steps.{IsTaken, Turn, turn, Takes}
use Rattle.station_node.specs.Handed.{handing, IsHanded}
use Rattle.station_node.proofs.Handed.{tried_state, held_state}
use Rattle.station_node.proofs.Standing.{nobody, not_here}
use Rattle.station_node.proofs.Taken.{takes_by, taken-nowhere, handed_by, taken-tried, taken-finished, taken-held, taken-renewed}
use Rattle.station_node.proofs.MemoryPlaces.{memory_back, places_kept}

-- ---- places

place_stays : (a : ℕ) (x : Association) (had has : List (ℕ × Memories)) → KeepsPlaces had has → HasPlace a x had → HasPlace a x has
place_stays a (Requested v) had has more place = tt
place_stays a (Accepted s) had has more place = more a place
place_stays a (Moving o) had has more place = more a place

tried_stays : (o : Option Attempt) (had has : List (ℕ × Memories)) → KeepsPlaces had has → HasPlaceTried o had → HasPlaceTried o has
tried_stays None had has more place = tt
tried_stays (Some a) had has more place = place_stays a.ap a.association had has more place

pub held_stays : (o : Option Session) (had has : List (ℕ × Memories)) → KeepsPlaces had has → HasPlaceHeld o had → HasPlaceHeld o has
held_stays None had has more place = tt
held_stays (Some x) had has more place = more x.ap place

-- of the attempt whose supplicant took a message
pub accepted_place : (o : Option Attempt) (a : Attempt) (old : Supplicant) (memories : List (ℕ × Memories)) → o ≡ Some a → a.association ≡ Accepted old → HasPlaceTried o memories → is_there memories a.ap ≡ true
accepted_place o a old memories is has place = subst (λ (x : Association). HasPlace a.ap x memories) has (subst (λ (y : Option Attempt). HasPlaceTried y memories) is place)

pub tried_places : (o : Option Attempt) (x : Option Session) (a : Attempt) (old new : Supplicant) (memories : List (ℕ × Memories)) (i : ℕ) (ks : Memories) → o ≡ Some a → a.association ≡ Accepted old → HavePlaces o x memories
    → HavePlaces (Some (record { ap = a.ap; association = Accepted new })) x (set_memory memories i ks)
tried_places o x a old new memories i ks is has places =
    let more = places_kept memories i ks in
    let placed = accepted_place o a old memories is has places.tried in
    record { tried = more a.ap placed; held = held_stays x memories (set_memory memories i ks) more places.held }

pub finished_places : (o b : Option Attempt) (x y : Option Session) (a : Attempt) (old new : Supplicant) (k : Held) (memories : List (ℕ × Memories)) (i : ℕ) (ks : Memories) → o ≡ Some a → a.association ≡ Accepted old → HavePlaces o x memories
    → b ≡ None → y ≡ Some (record { ap = a.ap; supplicant = new; key = k }) → HavePlaces b y (set_memory memories i ks)
finished_places o b x y a old new k memories i ks is has places none there =
    let more = places_kept memories i ks in
    let placed = accepted_place o a old memories is has places.tried in
    record {
      tried = subst (λ (z : Option Attempt). HasPlaceTried z (set_memory memories i ks)) (sym none) tt;
      held = subst (λ (z : Option Session). HasPlaceHeld z (set_memory memories i ks)) (sym there) (more a.ap placed);
    }

-- of the attempt whose originator took a reassociation response
pub moving_place : (o : Option Attempt) (a : Attempt) (old : OriginatorState) (memories : List (ℕ × Memories)) → o ≡ Some a → a.association ≡ Moving old → HasPlaceTried o memories → is_there memories a.ap ≡ true
moving_place o a old memories is has place = subst (λ (x : Association). HasPlace a.ap x memories) has (subst (λ (y : Option Attempt). HasPlaceTried y memories) is place)

pub moving_places : (o : Option Attempt) (x : Option Session) (a : Attempt) (old new : OriginatorState) (memories : List (ℕ × Memories)) (i : ℕ) (ks : Memories) → o ≡ Some a → a.association ≡ Moving old → HavePlaces o x memories
    → HavePlaces (Some (record { ap = a.ap; association = Moving new })) x (set_memory memories i ks)
moving_places o x a old new memories i ks is has places =
    let more = places_kept memories i ks in
    let placed = moving_place o a old memories is has places.tried in
    record { tried = more a.ap placed; held = held_stays x memories (set_memory memories i ks) more places.held }

pub arrived_places : (o : Option Attempt) (x : Option Session) (a : Attempt) (old : OriginatorState) (z : Session) (p : ℕ) (memories : List (ℕ × Memories)) (i : ℕ) (ks : Memories) → o ≡ Some a → a.association ≡ Moving old → a.ap ≡ p → z.ap ≡ p → HavePlaces o x memories
    → HavePlaces None (Some z) (set_memory memories i ks)
arrived_places o x a old z p memories i ks is has here there places =
    let more = places_kept memories i ks in
    let placed = subst (λ (q : ℕ). is_there memories q ≡ true) (here ∙ sym there) (moving_place o a old memories is has places.tried) in
    record { tried = tt; held = more z.ap placed }

-- and of such a session
pub held_place : (o : Option Session) (x : Session) (memories : List (ℕ × Memories)) → o ≡ Some x → HasPlaceHeld o memories → is_there memories x.ap ≡ true
held_place o x memories is place = subst (λ (y : Option Session). HasPlaceHeld y memories) is place

pub held_places : (o : Option Attempt) (s : Option Session) (x : Session) (new : Supplicant) (k : Held) (memories : List (ℕ × Memories)) (i : ℕ) (ks : Memories) → s ≡ Some x → HavePlaces o s memories
    → HavePlaces o (Some (record { ap = x.ap; supplicant = new; key = k })) (set_memory memories i ks)
held_places o s x new k memories i ks is places =
    let more = places_kept memories i ks in
    let placed = held_place s x memories is places.held in
    record { tried = tried_stays o memories (set_memory memories i ks) more places.tried; held = more x.ap placed }

-- where attempt and session stay
pub kept_places : (o : Option Attempt) (x : Option Session) (memories : List (ℕ × Memories)) (i : ℕ) (m : Memories) → HavePlaces o x memories → HavePlaces o x (set_memory memories i m)
kept_places o x memories i m places =
    let more = places_kept memories i m in
    record { tried = tried_stays o memories (set_memory memories i m) more places.tried; held = held_stays x memories (set_memory memories i m) more places.held }

-- of the session with that access point
pub with_place : (o : Option Session) (p : ℕ) (memories : List (ℕ × Memories)) → is_with o p ≡ true → HasPlaceHeld o memories → is_there memories p ≡ true
with_place None p memories is place = absurd (cc is)
with_place (Some x) p memories is place = subst (λ (q : ℕ). is_there memories q ≡ true) (eqb-true x.ap p is) place

-- ---- without memory

not_err : ◌≡◌ {A = Bool} false true → ⊥
not_err is = cc

pub takes_nothing : {E : Type 0} (d : Domain) (event : NodeEvent) (t : Turn) (r : Result Outcome E) → IsErr r → t.new ≡ t.old → t.waits ≡ t.waited → Takes d event t r
takes_nothing d event t (Ok o) err same kept = absurd (not_err err)
takes_nothing d event t (Err e) err same kept = (same, kept)

pub same_memories : (memories : List (ℕ × Memories)) (i : ℕ) (had has : Memories) → has ≡ had → had ≡ memory_at memories i → set_memory memories i has ≡ memories
same_memories memories i had has same value = memory_back memories i has (same ∙ value)

pub left-tried : (s : State) (a : Attempt) (i : ℕ) (old new : Supplicant) (had has : Memories) → s.attempt ≡ Some a → a.association ≡ Accepted old → new ≡ old → has ≡ had → had ≡ memory_at s.memories i
    → tried_state s a.ap new (set_memory s.memories i has) ≡ s
left-tried s a i old new had has is there same kept value =
    ap (λ (y : Supplicant). tried_state s a.ap y (set_memory s.memories i has)) same
    ∙ ap (tried_state s a.ap old) (same_memories s.memories i had has kept value)
    ∙ ap (λ (x : Association). record { number = s.number; drawn = s.drawn; attempt = Some (record { ap = a.ap; association = x }); session = s.session; memories = s.memories; r0kh_id = s.r0kh_id }) (sym there)
    ∙ ap (λ (o : Option Attempt). record { number = s.number; drawn = s.drawn; attempt = o; session = s.session; memories = s.memories; r0kh_id = s.r0kh_id }) (sym is)

pub left-held : (s : State) (x : Session) (i : ℕ) (old new : Supplicant) (had has : Memories) → s.session ≡ Some x → x.supplicant ≡ old → new ≡ old → has ≡ had → had ≡ memory_at s.memories i
    → held_state s x.ap new x.key (set_memory s.memories i has) ≡ s
left-held s x i old new had has is there same kept value =
    ap (λ (y : Supplicant). held_state s x.ap y x.key (set_memory s.memories i has)) (same ∙ sym there)
    ∙ ap (held_state s x.ap x.supplicant x.key) (same_memories s.memories i had has kept value)
    ∙ ap (λ (o : Option Session). record { number = s.number; drawn = s.drawn; attempt = s.attempt; session = o; memories = s.memories; r0kh_id = s.r0kh_id }) (sym is)

-- ---- with it

-- where the supplicant is, and its group keys
pub whole_attempt : (a : Attempt) (p : ℕ) (x : Association) → a.ap ≡ p → a.association ≡ x → Some a ≡ Some (record { ap = p; association = x })
whole_attempt a p x here there = ap (λ (q : ℕ). Some (record { ap = q; association = a.association })) here ∙ ap (λ (y : Association). Some (record { ap = p; association = y })) there

whole_session : (x : Session) (p : ℕ) (old : Supplicant) → x.ap ≡ p → x.supplicant ≡ old → Some x ≡ Some (record { ap = p; supplicant = old; key = x.key })
whole_session x p old here there = ap (λ (q : ℕ). Some (record { ap = q; supplicant = x.supplicant; key = x.key })) here ∙ ap (λ (y : Supplicant). Some (record { ap = p; supplicant = y; key = x.key })) there

-- the message is for the supplicant with access point p, whose group keys these are
pub record IsFor (d : Domain) (s : State) (p : ℕ) (m : Heard) (had : Memories) : Type 0 where
  pub from : IsMessageFrom d (Sta s.number) (Ap p) m.octets.now (message_fields m.message)
  pub value : had ≡ memory_at s.memories p

pub handed-tried : (d : Domain) (s : State) (a : Attempt) (p : ℕ) (m : Heard) (old new : Supplicant) (had has : Memories) (waited waits : List Act) (came : Came) → s.attempt ≡ Some a → a.ap ≡ p → a.association ≡ Accepted old
    → HasPlaceTried s.attempt s.memories → IsFor d s p m had → IsHanded d (Sta s.number) (Ap p) m (handing (both old had) (both new has) waited waits) came → came.installed ≡ None
    → IsTaken d (Take m.octets.now) (turn s (tried_state s a.ap new (set_memory s.memories p has)) waited waits) came.outcome
handed-tried d s a p m old new had has waited waits came is here there place b x goes_on =
    let placed : is_there s.memories p ≡ true = subst (λ (q : ℕ). is_there s.memories q ≡ true) here (accepted_place s.attempt a old s.memories is there place) in
    subst (λ (q : ℕ). IsTaken d (Take m.octets.now) (turn s (tried_state s q new (set_memory s.memories p has)) waited waits) came.outcome) (sym here)
    (taken-tried d s p m (set_memory s.memories p has) (handing (both old had) (both new has) waited waits) came (is ∙ whole_attempt a p (Accepted old) here there)
    (handed_by d s p m had has old new waited waits b.from placed b.value) x goes_on)

pub handed-finished : (d : Domain) (s : State) (a : Attempt) (b : Option Attempt) (y : Option Session) (p : ℕ) (m : Heard) (old new : Supplicant) (tk id : List ℕ) (had has : Memories) (waited waits : List Act) (came : Came) → s.attempt ≡ Some a → a.ap ≡ p → a.association ≡ Accepted old
    → HasPlaceTried s.attempt s.memories → IsFor d s p m had → IsHanded d (Sta s.number) (Ap p) m (handing (both old had) (both new has) waited waits) came → came.installed ≡ Some tk → (length new.base.r0kh_id ≤ 48 → id ≡ new.base.r0kh_id)
    → b ≡ None → y ≡ Some (record { ap = a.ap; supplicant = new; key = fresh_key tk })
    → IsTaken d (Take m.octets.now) (turn s (record { number = s.number; drawn = s.drawn; attempt = b; session = y; memories = set_memory s.memories p has; r0kh_id = id }) waited waits) came.outcome
handed-finished d s a b y p m old new tk id had has waited waits came is here there place f x done kept none one =
    let placed : is_there s.memories p ≡ true = subst (λ (q : ℕ). is_there s.memories q ≡ true) here (accepted_place s.attempt a old s.memories is there place) in
    let new_state : Option Attempt → Option Session → State = λ o z. record { number = s.number; drawn = s.drawn; attempt = o; session = z; memories = set_memory s.memories p has; r0kh_id = id } in
    subst (λ (o : Option Attempt). IsTaken d (Take m.octets.now) (turn s (new_state o y) waited waits) came.outcome) (sym none)
    (subst (λ (z : Option Session). IsTaken d (Take m.octets.now) (turn s (new_state None z) waited waits) came.outcome) (sym (one ∙ ap (λ (q : ℕ). Some (record { ap = q; supplicant = new; key = fresh_key tk })) here))
    (taken-finished d s p m tk id (set_memory s.memories p has) (handing (both old had) (both new has) waited waits) came (is ∙ whole_attempt a p (Accepted old) here there)
    (handed_by d s p m had has old new waited waits f.from placed f.value) x done kept))

pub handed-held : (d : Domain) (s : State) (z : Session) (p : ℕ) (m : Heard) (old new : Supplicant) (had has : Memories) (waited waits : List Act) (came : Came) → s.session ≡ Some z → z.ap ≡ p → z.supplicant ≡ old → opens_by d s.attempt s.session p m.message.message ≡ false
    → HasPlaceHeld s.session s.memories → IsFor d s p m had → IsHanded d (Sta s.number) (Ap p) m (handing (both old had) (both new has) waited waits) came → came.installed ≡ None
    → IsTaken d (Take m.octets.now) (turn s (held_state s z.ap new z.key (set_memory s.memories p has)) waited waits) came.outcome
handed-held d s z p m old new had has waited waits came is here there other place b x goes_on =
    let placed : is_there s.memories p ≡ true = subst (λ (q : ℕ). is_there s.memories q ≡ true) here (held_place s.session z s.memories is place) in
    subst (λ (q : ℕ). IsTaken d (Take m.octets.now) (turn s (held_state s q new z.key (set_memory s.memories p has)) waited waits) came.outcome) (sym here)
    (taken-held d s p m z.key (set_memory s.memories p has) (handing (both old had) (both new has) waited waits) came (is ∙ whole_session z p old here there) other
    (handed_by d s p m had has old new waited waits b.from placed b.value) x goes_on)

pub handed-renewed : (d : Domain) (s : State) (z : Session) (p : ℕ) (m : Heard) (old new : Supplicant) (k : Held) (tk : List ℕ) (had has : Memories) (waited waits : List Act) (came : Came) → s.session ≡ Some z → z.ap ≡ p → z.supplicant ≡ old → opens_by d s.attempt s.session p m.message.message ≡ false
    → HasPlaceHeld s.session s.memories → IsFor d s p m had → IsHanded d (Sta s.number) (Ap p) m (handing (both old had) (both new has) waited waits) came → came.installed ≡ Some tk → k ≡ fresh_key tk
    → IsTaken d (Take m.octets.now) (turn s (held_state s z.ap new k (set_memory s.memories p has)) waited waits) came.outcome
handed-renewed d s z p m old new k tk had has waited waits came is here there other place b x done fresh =
    let placed : is_there s.memories p ≡ true = subst (λ (q : ℕ). is_there s.memories q ≡ true) here (held_place s.session z s.memories is place) in
    subst (λ (q : ℕ). IsTaken d (Take m.octets.now) (turn s (held_state s q new k (set_memory s.memories p has)) waited waits) came.outcome) (sym here)
    (subst (λ (y : Held). IsTaken d (Take m.octets.now) (turn s (held_state s p new y (set_memory s.memories p has)) waited waits) came.outcome) (sym fresh)
    (taken-renewed d s p m z.key tk (set_memory s.memories p has) (handing (both old had) (both new has) waited waits) came (is ∙ whole_session z p old here there) other
    (handed_by d s p m had has old new waited waits b.from placed b.value) x done))

-- ---- where there is nothing with the access point

pub no_session_there : (o : Option Session) (p : ℕ) → o ≡ None → IsElsewhere (peer_of_session o) p
no_session_there o p none = nobody (peer_of_session o) p (ap peer_of_session none)

pub other_session : (o : Option Session) (x : Session) (p : ℕ) → o ≡ Some x → (x.ap ≡ p → ⊥) → IsElsewhere (peer_of_session o) p
other_session o x p is other = subst (λ (y : Option Session). IsElsewhere (peer_of_session y) p) (sym is) (not_here x.ap p other)

pub refused-nowhere : {E : Type 0} (d : Domain) (s self : State) (p : ℕ) (m : Heard) (waited waits : List Act) (r : Result Outcome E) → self ≡ s → IsMessageFrom d (Sta s.number) (Ap p) m.octets.now (message_fields m.message)
    → IsElsewhere (peer_of_attempt s.attempt) p → IsElsewhere (peer_of_session s.session) p
    → IfOk r (λ came. came ≡ Refused reason.Unawaited) → OnOk r (waits ≡ waited ++ Took (Some (Ap p)) m.octets.now (kind.Key m.message.message) (Refused reason.Unawaited) None ∷ []) → OnErr r (waits ≡ waited)
    → Takes d (Take m.octets.now) (turn s self waited waits) r
refused-nowhere d s self p m waited waits r same from tried held outcome acts kept =
    subst (λ (t : State). Takes d (Take m.octets.now) (turn s t waited waits) r) (sym same)
    (takes_by d (Take m.octets.now) (turn s s waited waits) r (Refused reason.Unawaited) _ outcome acts kept refl
    (λ is. taken-nowhere d s p m.octets.now (message_fields m.message) waited waits from tried held is))

-- what a later call does to the same station
pub takes_same_old : {E : Type 0} (d : Domain) (event : NodeEvent) (s self new : State) (waited waits : List Act) (r : Result Outcome E) → self ≡ s → Takes d event (turn self new waited waits) r → Takes d event (turn s new waited waits) r
takes_same_old d event s self new waited waits r same taken = subst (λ (t : State). Takes d event (turn t new waited waits) r) same taken
