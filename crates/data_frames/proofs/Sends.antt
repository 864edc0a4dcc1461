-- What sending under a key, and what taking under one, comes to, in parts.
use Rattle.std.proofs.Common.{◌≡◌, ◌∙◌, ◌++◌, ℕ, suc, Bool, true, List, [], ◌∷◌, Option, Some, Result, Ok, Err, refl, sym, subst, append_assoc}
use Rattle.std.specs.Prelude.{nat_lt, if◌then◌else◌, IfOk, OnOk}
use Rattle.domain_base.specs.declared.names.Node.{Node}
use Rattle.domain_base.specs.declared.names.Peer.{Peer}
use Rattle.air_frame.specs.declared.frame.Direction.{Direction}
use Rattle.air_frame.specs.Sent.{data_header_octets}
use Rattle.ccmp_guard.specs.Ccmp.{sealed_octets}
use Rattle.replay_window.specs.Numbers.{last_number}
use Rattle.ccmp_guard.specs.Held.{Held, with_next}
use Rattle.run_journal.specs.declared.domain.Domain.{Domain}
use Rattle.run_journal.specs.declared.acts.Kind.TheVariants.{Data}
use Rattle.run_journal.specs.declared.acts.Why.TheVariants as why
use Rattle.run_journal.specs.declared.acts.Outcome.{Outcome}
use Rattle.run_journal.specs.declared.acts.Outcome.TheVariants as outcome
use Rattle.run_journal.specs.declared.acts.Seal.{Seal}
use Rattle.run_journal.specs.declared.acts.Act.{Act}
use Rattle.run_journal.specs.declared.acts.Act.TheVariants.{Idle, Used, Sent}
use Rattle.domain_rules.specs.Network.{address, direction}
use Rattle.domain_rules.specs.DataFrames.{data_header, data_body, sent_data, receiver, bssid_with}
use Rattle.domain_rules.specs.DataRows.{used_acts}
use Rattle.node_base.specs.Events.{seen}
use Rattle.frame_intake.specs.SealedFields.{SealedFields}
use Rattle.act_memory.specs.Templates.{seal_over}
use Rattle.data_frames.specs.Rooms.{IsRoomFor}
use Rattle.data_frames.specs.declared.rooms.TakeRoom.{TakeRoom}
use Rattle.data_frames.specs.Sending.{send_key_of, used_once, outcome_under}
use Rattle.data_frames.specs.Taking.{covered_front, IsOpenedUnder}

-- the acts of sending, with what was put into the room for them
pub sends : (d : Domain) (n : Node) (q : Peer) (tid : Option ℕ) (tk : List ℕ) (id pn : ℕ) (plain header copied covered : List ℕ) (old mid new : List Act) → header ≡ data_header d n q tid → copied ≡ plain → covered ≡ 3 ∷ sealed_octets header pn plain → mid ≡ old
    → new ≡ mid ++ Used q tk id pn copied ∷ Sent q Data (header ++ data_body tk header id pn plain) (Some (seal_over covered tk)) ∷ []
    → new ≡ old ++ Used q tk id pn plain ∷ sent_data d n q tid tk id pn plain ∷ []
sends d n q tid tk id pn plain header copied covered old mid new h c s same is = is ∙ rw (same, c, s, h) refl

-- the front, and the plain text behind it
pub covers : (header plain front all : List ℕ) (pn : ℕ) → front ≡ covered_front header pn → all ≡ front ++ plain → all ≡ 3 ∷ sealed_octets header pn plain
covers header plain front all pn f a = a ∙ rw (f) (simp append_assoc)

-- the room holds what it was taken for
pub room_for : (octets : List ℕ) (f : SealedFields) (r : TakeRoom) → IsRoomFor octets f r → IsRoomFor r.taken.items f r
room_for octets f r is = record { taken = refl; plain = is.plain; covered = is.covered; capacity = is.capacity }

pub came_in : (p : Node) (octets taken : List ℕ) (f : SealedFields) (old new : Held) (waited mid waits : List Act) (o : Outcome) → mid ≡ waited → taken ≡ octets
    → IsOpenedUnder p taken f old new (seen mid waits o) → IsOpenedUnder p octets f old new (seen waited waits o)
came_in p octets taken f old new waited mid waits o same is t =
    subst (λ (l : List Act). IsOpenedUnder p octets f old new (seen l waits o)) same (subst (λ (l : List ℕ). IsOpenedUnder p l f old new (seen mid waits o)) is t)

pub two_added : (old mid new : List Act) (a b x y : Act) → mid ≡ old ++ a ∷ [] → new ≡ mid ++ b ∷ [] → a ≡ x → b ≡ y → new ≡ old ++ x ∷ y ∷ []
two_added old mid new a b x y m n p q = n ∙ rw (m, p, q) (simp append_assoc)

pub header_as : (d : Domain) (n : Node) (q : Peer) (tid : Option ℕ) (way : Direction) (a1 a2 a3 header : List ℕ) → way ≡ direction n → a1 ≡ receiver d q → a2 ≡ address d n → a3 ≡ bssid_with d n q → header ≡ data_header_octets way true tid a1 a2 a3
    → header ≡ data_header d n q tid
header_as d n q tid way a1 a2 a3 header w r a b is = is ∙ rw (w, r, a, b) refl

pub used_as : (q : Peer) (tk key : List ℕ) (id key_id pn number : ℕ) (plain : List ℕ) → tk ≡ key → id ≡ key_id → pn ≡ number → Used q tk id pn plain ≡ Used q key key_id number plain
used_as q tk key id key_id pn number plain k i n = rw (k, i, n) refl

pub sent_as : (q : Peer) (tk key frame octets covered : List ℕ) (seal : Seal) → tk ≡ key → frame ≡ octets → seal ≡ seal_over covered tk → Sent q Data frame (Some seal) ≡ Sent q Data octets (Some (seal_over covered key))
sent_as q tk key frame octets covered seal k f s = rw (s, k, f) refl

-- by whether there is a number that was not used
pub acts_by : {E : Type 0} (r : Result Outcome E) (d : Domain) (n : Node) (q : Peer) (tid : Option ℕ) (plain : List ℕ) (k : Held) (b : Bool) (old new : List Act) → nat_lt k.used last_number ≡ b
    → OnOk r (new ≡ old ++ (if b then Used q k.key (send_key_of k).id (suc k.used) plain ∷ sent_data d n q tid k.key (send_key_of k).id (suc k.used) plain ∷ [] else Idle why.Spent ∷ []))
    → OnOk r (new ≡ old ++ used_acts d n q tid plain (send_key_of k))
acts_by r d n q tid plain k b old new is x =
    subst (λ (c : Bool). OnOk r (new ≡ old ++ (if c then Used q k.key (send_key_of k).id (suc k.used) plain ∷ sent_data d n q tid k.key (send_key_of k).id (suc k.used) plain ∷ [] else Idle why.Spent ∷ []))) (sym is) x

pub outcome_by : {E : Type 0} (r : Result Outcome E) (k : Held) (b : Bool) → nat_lt k.used last_number ≡ b → IfOk r (λ came. came ≡ (if b then outcome.Done else outcome.Idle why.Spent)) → IfOk r (λ came. came ≡ outcome_under k)
outcome_by r k b is x = subst (λ (c : Bool). IfOk r (λ came. came ≡ (if c then outcome.Done else outcome.Idle why.Spent))) (sym is) x

pub used_by : {E : Type 0} (r : Result Outcome E) (k new : Held) (b : Bool) → nat_lt k.used last_number ≡ b → OnOk r (new ≡ (if b then with_next k else k)) → OnOk r (new ≡ used_once k)
used_by r k new b is x = subst (λ (c : Bool). OnOk r (new ≡ (if c then with_next k else k))) (sym is) x

pub always : {E : Type 0} (r : Result Outcome E) (A : Type 0) → A → OnOk r A
always (Ok came) A a = a
always (Err e) A a = tt
