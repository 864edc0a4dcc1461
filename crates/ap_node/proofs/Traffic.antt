-- Protected data that is sent and taken: the acts are those of the rules.
use Rattle.std.proofs.Common.{◌≡◌, ◌≢◌, ◌∙◌, ◌++◌, ◌+◌, ◌≤◌, ℕ, suc, Bool, true, false, List, [], ◌∷◌, length, Option, Some, None, refl, sym, ap, subst, inl, inr}
use Rattle.std.specs.Prelude.{◌==◌, nat_lt, option_map, if◌then◌else◌}
use Rattle.std.specs.List.{AllByRecursion}
use Rattle.std.proofs.lemmas.Bool.{cases_Bool, eqb-true, eq-eqb}
use Rattle.domain_base.specs.declared.names.Node.{Node}
use Rattle.domain_base.specs.declared.names.Node.TheVariants.{Ap, Sta}
use Rattle.domain_base.specs.declared.names.Peer.{Peer}
use Rattle.domain_base.specs.declared.names.Peer.TheVariants.{One, All}
use Rattle.eapol_key.specs.declared.messages.Message.{Message}
use Rattle.eapol_key.specs.declared.messages.Message.TheVariants.{M1, M2, M3, M4, G1, G2}
use Rattle.replay_window.specs.Numbers.{last_number}
use Rattle.ccmp_guard.specs.Ccmp.{packet_number}
use Rattle.ccmp_guard.specs.Roles.{key_id, counter_of}
use Rattle.ccmp_guard.specs.declared.guard.GuardFault.{GuardFault}
use Rattle.ccmp_guard.specs.Held.{Held}
use Rattle.run_journal.specs.declared.acts.GroupKind.{GroupKind}
use Rattle.run_journal.specs.declared.acts.GroupKind.TheVariants as groups
use Rattle.run_journal.specs.declared.domain.Domain.{Domain}
use Rattle.run_journal.specs.declared.acts.Kind.TheVariants as kind
use Rattle.run_journal.specs.declared.acts.Why.TheVariants as why
use Rattle.run_journal.specs.declared.acts.Reason.{Reason}
use Rattle.run_journal.specs.declared.acts.Reason.TheVariants as reason
use Rattle.run_journal.specs.declared.acts.Outcome.{Outcome}
use Rattle.run_journal.specs.declared.acts.Outcome.TheVariants.{Accepted, Refused, Done, Idle as IdleBy}
use Rattle.run_journal.specs.declared.acts.Act.{Act}
use Rattle.run_journal.specs.declared.acts.Act.TheVariants.{Used, Idle}
use Rattle.run_journal.specs.Acts.{same, same_kind, Derivation}
use Rattle.run_journal.specs.Events.{protects}
use Rattle.run_journal.specs.Questions.{session, draws, add}
use Rattle.domain_rules.specs.Here.{here}
use Rattle.domain_rules.specs.Network.{draw_end}
use Rattle.domain_rules.specs.PacketNumbers.{SendKey}
use Rattle.domain_rules.specs.DataFrames.{sent_data, data_seal}
use Rattle.domain_rules.specs.DataRows.{used_acts, send_acts_by}
use Rattle.domain_rules.specs.DataVerdict.{data_verdict}
use Rattle.domain_rules.specs.Rows.{Take, Send, outcome_of}
use Rattle.domain_rules.proofs.Parts.{IsApart, apart-took, apart-sent_kind, apart-idle}
use Rattle.domain_rules.proofs.Unprotected.{reads_so}
use Rattle.group_key.specs.Keys.{Pairs}
use Rattle.group_key.specs.Holds.{LeavesGroupKeys}
use Rattle.group_key.proofs.Newest.{all_others}
use Rattle.frame_intake.specs.declared.delivered.SealedData.{SealedData}
use Rattle.frame_intake.specs.SealedFields.{SealedFields, sealed_reading}
use Rattle.frame_intake.specs.Views.{sealed_fields}
use Rattle.node_base.specs.Events.{seen}
use Rattle.data_frames.specs.Holding.{HoldsPairwise, HoldsGroup, LeavesPairwise}
use Rattle.data_frames.specs.Rows.{IsDataFrom, OpensBy}
use Rattle.data_frames.specs.Sending.{send_key_of, used_once}
use Rattle.data_frames.specs.Taking.{reason_of, refusal, taken_acts, IsOpenedTo, IsStoppedBy, IsOpenedUnder, HandsUp, Refuses}
use Rattle.data_frames.proofs.DataRows.{handed_up_row, refused_row}
use Rattle.data_frames.proofs.Integrity.{integrity_beside_group}
use Rattle.data_frames.proofs.Using.{group_sends, pairwise_used, group_used, pairwise_opens, pairwise_taken}
use Rattle.ap_node.specs.declared.sending.Sending.{Sending}
use Rattle.ap_node.specs.declared.station.Station.{Station}
use Rattle.ap_node.specs.Keys.{HasKey, sent_under, used_in, IsTakenUnder}
use Rattle.ft_exchange.specs.State.{TargetState}
use Rattle.authenticator.specs.Groups.{owes_in}
use Rattle.authenticator.specs.Stands.{HasAttempt, HasSession, AuthenticatorStands}
use Rattle.authenticator.specs.declared.attempt.Attempt.{Attempt}
use Rattle.authenticator.specs.declared.session.Session.{Session}
use Rattle.ap_node.specs.declared.station.Session.{Session as Kept}
use Rattle.ap_node.specs.declared.station.Attempt.{Attempt as Trying}
use Rattle.ap_node.specs.State.{State, no_station, station_at, renewal_by, pending_by, session_by, key_by, key_in, held_by, moves_in, rekeyed, with_key}
use Rattle.ap_node.specs.Renewing.{HasUsed}
use Rattle.ap_node.specs.Counts.{owes_part}
use Rattle.ap_node.specs.Stands.{IsKept, HasPart, HoldsAnnouncing, StandsSoFar, IsSettled}
use Rattle.ap_node.specs.Takes.{IsTaken, IsSealedAtAp}
use Rattle.ap_node.proofs.Others.{KeepsMoves, IsSameGroup, AllLeave, IsFar, far_on, same-refused}
use Rattle.ap_node.proofs.Hearing.{attempt_kept}
use Rattle.ap_node.proofs.Owed.{owes_at, count_same}
use Rattle.ap_node.proofs.Standing.{ends_of, part_with, part_of, part_on, so_far_as_before, stands_with_one}
use Rattle.authenticator.proofs.Standing.{other_on, stands_on}
use Rattle.frame_intake.proofs.Silence.{silent_no_key}
use Rattle.ft_exchange.proofs.TargetStanding.{took_passes}
use Rattle.targets.specs.declared.moves.Moves.{Moves}
use Rattle.targets.specs.Stands.{HasMoves}
use Rattle.targets.proofs.Passing.{moves_add, moves_apart, handed_up_passes}
use Rattle.ap_node.proofs.Plain.{plain_data}
use Rattle.ap_node.proofs.Ending.{settled_steps}
use Rattle.ap_node.proofs.Refusing.{stays, does_quiet}
use Rattle.ap_node.proofs.DataTaken.{apart-handed_up, stands_handed_up}

-- ---- what the acts of sending leave

-- data is no EAPOL-Key message
pub no_key_frame : (m : Message) → same_kind (kind.Key m) kind.Data ≡ false
no_key_frame M1 = refl
no_key_frame M2 = refl
no_key_frame M3 = refl
no_key_frame M4 = refl
no_key_frame G1 = refl
no_key_frame G2 = refl

pub apart-used : (p : Node) (q : Peer) (key : List ℕ) (id number : ℕ) (plain : List ℕ) → IsApart p (Used q key id number plain)
apart-used p q key id number plain = record { opens_none = refl; ends_none = refl; accepts_none = λ k. refl; replies_none = λ k. refl; sends_none = λ m. refl; derives_none = refl; finishes_none = refl; closes_none = refl }

-- what holds of the two acts of sending, and of the one of not sending, holds of them
by_sent : (P : List Act → Type 0) (d : Domain) (n : Node) (q : Peer) (tid : Option ℕ) (plain : List ℕ) (k : SendKey) → P (Used q k.key k.id (suc k.used) plain ∷ sent_data d n q tid k.key k.id (suc k.used) plain ∷ [])
    → P (Idle why.Spent ∷ []) → P (used_acts d n q tid plain k)
by_sent P d n q tid plain k sends spent = by (nat_lt k.used last_number)
  where
    by : (b : Bool) → P (if b then Used q k.key k.id (suc k.used) plain ∷ sent_data d n q tid k.key k.id (suc k.used) plain ∷ [] else Idle why.Spent ∷ [])
    by true = sends
    by false = spent

by_sent_in : (P : List Act → Type 0) (d : Domain) (n : Node) (q : Peer) (tid : Option ℕ) (plain : List ℕ) (o : Option SendKey) → ((k : SendKey) → P (Used q k.key k.id (suc k.used) plain ∷ sent_data d n q tid k.key k.id (suc k.used) plain ∷ []))
    → P (Idle why.Spent ∷ []) → P (Idle why.NoKey ∷ []) → P (send_acts_by d n q tid plain o)
by_sent_in P d n q tid plain None sends spent none = none
by_sent_in P d n q tid plain (Some k) sends spent none = by_sent P d n q tid plain k (sends k) spent

sent-apart : (p : Node) (d : Domain) (n : Node) (q : Peer) (tid : Option ℕ) (plain : List ℕ) (o : Option SendKey) → AllByRecursion (IsApart p) (send_acts_by d n q tid plain o)
sent-apart p d n q tid plain o =
    by_sent_in (λ (g : List Act). AllByRecursion (IsApart p) g) d n q tid plain o
    (λ k. (apart-used p q k.key k.id (suc k.used) plain, (apart-sent_kind p q kind.Data _ _ no_key_frame, tt))) (apart-idle p why.Spent, tt) (apart-idle p why.NoKey, tt)

pub sent-draws : (d : Domain) (n : Node) (q : Peer) (tid : Option ℕ) (plain : List ℕ) (o : Option SendKey) (h : List Act) → draws (add (send_acts_by d n q tid plain o) h) ≡ draws h
sent-draws d n q tid plain o h = by_sent_in (λ (g : List Act). draws (add g h) ≡ draws h) d n q tid plain o (λ k. refl) refl refl

-- to a station

sent-group : (d : Domain) (n p : Node) (tid : Option ℕ) (plain : List ℕ) (o : Option SendKey) (h : List Act) → IsSameGroup h (add (send_acts_by d n (One p) tid plain o) h)
sent-group d n p tid plain o h = by_sent_in (λ (g : List Act). IsSameGroup h (add g h)) d n (One p) tid plain o
    (λ k. (record { keys_are = λ x. refl; switches_are = λ x. refl; uses_are = λ x. refl })) (record { keys_are = λ x. refl; switches_are = λ x. refl; uses_are = λ x. refl }) (record { keys_are = λ x. refl; switches_are = λ x. refl; uses_are = λ x. refl })

sent-leaves : (q p : Node) (d : Domain) (n : Node) (tid : Option ℕ) (plain : List ℕ) (o : Option SendKey) → same q p ≡ false → AllLeave q (send_acts_by d n (One p) tid plain o)
sent-leaves q p d n tid plain o other tk = by_sent_in (λ (g : List Act). AllByRecursion (LeavesPairwise q tk) g) d n (One p) tid plain o
    (λ k. (record { used = λ h. rw other refl; got = λ t h. refl }, (record { used = λ h. refl; got = λ t h. refl }, tt)))
    (record { used = λ h. refl; got = λ t h. refl }, tt) (record { used = λ h. refl; got = λ t h. refl }, tt)

-- to all

all-leaves : (q : Node) (d : Domain) (n : Node) (tid : Option ℕ) (plain : List ℕ) (o : Option SendKey) → AllLeave q (send_acts_by d n All tid plain o)
all-leaves q d n tid plain o tk = by_sent_in (λ (g : List Act). AllByRecursion (LeavesPairwise q tk) g) d n All tid plain o
    (λ k. (record { used = λ h. refl; got = λ t h. refl }, (record { used = λ h. refl; got = λ t h. refl }, tt)))
    (record { used = λ h. refl; got = λ t h. refl }, tt) (record { used = λ h. refl; got = λ t h. refl }, tt)

all-keys : (k : GroupKind) (d : Domain) (n : Node) (tid : Option ℕ) (plain : List ℕ) (o : Option SendKey) → AllByRecursion (LeavesGroupKeys k) (send_acts_by d n All tid plain o)
all-keys k d n tid plain o = by_sent_in (λ (g : List Act). AllByRecursion (LeavesGroupKeys k) g) d n All tid plain o
    (λ k. (record { drawn = refl; made = refl }, (record { drawn = refl; made = refl }, tt))) (record { drawn = refl; made = refl }, tt) (record { drawn = refl; made = refl }, tt)

-- what came of it is no refusal
pub sent-unrefused : (d : Domain) (n : Node) (q : Peer) (tid : Option ℕ) (plain : List ℕ) (o : Option SendKey) (r : Reason) → outcome_of (send_acts_by d n q tid plain o) ≡ Refused r → ⊥
sent-unrefused d n q tid plain o r = by_sent_in (λ (g : List Act). outcome_of g ≡ Refused r → ⊥) d n q tid plain o (λ k is. cc is) (λ is. cc is) (λ is. cc is)

-- what came of it under a key in use
pub under_outcome : (d : Domain) (n : Node) (q : Peer) (tid : Option ℕ) (plain : List ℕ) (k : Held) → (if nat_lt k.used last_number then Done else IdleBy why.Spent) ≡ outcome_of (used_acts d n q tid plain (send_key_of k))
under_outcome d n q tid plain k = by (nat_lt k.used last_number) refl
  where
    by : (b : Bool) → nat_lt k.used last_number ≡ b → (if nat_lt k.used last_number then Done else IdleBy why.Spent) ≡ outcome_of (used_acts d n q tid plain (send_key_of k))
    by true is = rw is refl
    by false is = rw is refl

-- ---- the access point, as the key in use with one station is another

-- beside that nothing is changed
pub record IsRekeyed (old new : State) (sta : ℕ) (key : Option Held) : Type 0 where
  pub number : new.number ≡ old.number
  pub drawn : new.drawn ≡ old.drawn
  pub group : new.group ≡ old.group
  pub sending : new.sending ≡ old.sending
  pub owing : new.owing ≡ old.owing
  pub is : station_at new.stations sta ≡ with_key key (station_at old.stations sta)
  pub others : (k : ℕ) → k ≢ sta → station_at new.stations k ≡ station_at old.stations k

-- the session is the same under another key
rekeyed_session : (k : Option Held) (o : Option Kept) → session_by (rekeyed k o) ≡ session_by o
rekeyed_session (Some k) (Some s) = refl
rekeyed_session (Some k) None = refl
rekeyed_session None o = refl

rekeyed_held : (k : Option Held) (o : Option Kept) → held_by (rekeyed k o) ≡ held_by o
rekeyed_held (Some k) (Some s) = refl
rekeyed_held (Some k) None = refl
rekeyed_held None o = refl

rekeyed_kept : (d : Domain) (n p : Node) (t : Option Trying) (k : Option Held) (o : Option Kept) → IsKept d n p t o → IsKept d n p t (rekeyed k o)
rekeyed_kept d n p t (Some k) (Some s) kept = kept
rekeyed_kept d n p t (Some k) None kept = kept
rekeyed_kept d n p t None o kept = kept

pub rekeyed_renewal : (k : Option Held) (o : Option Kept) → renewal_by (rekeyed k o) ≡ renewal_by o
rekeyed_renewal (Some k) (Some s) = refl
rekeyed_renewal (Some k) None = refl
rekeyed_renewal None o = refl

used_key : (o : Option Kept) → key_by (rekeyed (used_in (key_by o)) o) ≡ used_in (key_by o)
used_key None = refl
used_key (Some s) = refl

taken_key : (m : Held) (o : Option Kept) (k : Held) → key_by o ≡ Some k → key_by (rekeyed (Some m) o) ≡ Some m
taken_key m None k is = absurd (cc is)
taken_key m (Some s) k is = refl

with_key_none : (k : Option Held) → with_key k no_station ≡ no_station
with_key_none None = refl
with_key_none (Some k) = refl

rekeyed_part : (d : Domain) (n : Node) (sta : ℕ) (k : Option Held) (x : Station) (h l : List Act) → HasPart d n sta x h → AuthenticatorStands d n (Sta sta) (part_with (ends_of d n (Sta sta)) x) l → HasKey (Sta sta) (session (Sta sta) l) (key_in (with_key k x)) l
    → HasPart d n sta (with_key k x) l
rekeyed_part d n sta k x h l at stands key = record {
  tried = at.tried;
  kept = rekeyed_kept d n (Sta sta) x.attempt k x.session at.kept;
  attempt_is = subst (λ (o : Option Attempt). HasAttempt d n (Sta sta) o l) (sym (attempt_kept x.attempt x.session (rekeyed k x.session) (rekeyed_renewal k x.session))) stands.attempt_is;
  session_is = subst (λ (o : Option Session). HasSession d n (Sta sta) o l) (sym (rekeyed_session k x.session)) stands.session_is;
  key = key;
}

owes_with : (place : ℕ) (key : Option Held) (x : Station) → owes_part place (with_key key x) ≡ owes_part place x
owes_with place key x = ap (owes_in place) (rekeyed_session key x.session)

abbrev the_moves : Option TargetState → Option TargetState → Moves
the_moves pending held = record { pending = pending; held = held }

moves_with : (key : Option Held) (x : Station) → moves_in (with_key key x) ≡ moves_in x
moves_with key x = ap (λ (o : Option TargetState). the_moves (pending_by x.attempt) o) (rekeyed_held key x.session)

owes_kept : (old new : State) (sta place : ℕ) (key : Option Held) → IsRekeyed old new sta key → (k : ℕ) → owes_at place new.stations k ≡ owes_at place old.stations k
owes_kept old new sta place key w k = elim (cases_Bool (k == sta)) [
  | inl is ↦ (let same : k ≡ sta = eqb-true k sta is in
      subst (λ (i : ℕ). owes_at place new.stations i ≡ owes_at place old.stations i) (sym same) (ap (owes_part place) w.is ∙ owes_with place key (station_at old.stations sta)))
  | inr other ↦ ap (owes_part place) (w.others k (λ (e : k ≡ sta). cc (eq-eqb k sta e, other)))
]

settled_still : (old new : State) (sta : ℕ) (key : Option Held) → IsRekeyed old new sta key → IsSettled old → IsSettled new
settled_still old new sta key w (inl same) = inl (ap (λ (g : Pairs). g.gtk.newest.place) w.group ∙ same ∙ sym (ap (λ (g : Pairs). g.gtk.current.place) w.group))
settled_still old new sta key w (inr some) = inr (subst (λ (n : ℕ). 1 ≤ n) (sym w.owing) some)

-- it stands for the acts, where the part of the station and its key do
rekeyed_stands : (d : Domain) (first : ℕ) (old new : State) (sta : ℕ) (key : Option Held) (acts h : List Act) → IsRekeyed old new sta key → StandsSoFar d first old h → draws (add acts h) ≡ draws h → IsSameGroup h (add acts h)
    → HasPart d (Ap old.number) sta (with_key key (station_at old.stations sta)) (add acts h) → ((k : ℕ) → same (Sta k) (Sta sta) ≡ false → IsFar (Sta k) h (add acts h))
    → KeepsMoves (Sta sta) h (add acts h) → StandsSoFar d first new (add acts h)
rekeyed_stands d first old new sta key acts h w at draws_are group part far keeps = stands_with_one d first old new h (add acts h) sta at (record {
  number = w.number;
  drawn = w.drawn ∙ at.draws_are ∙ ap (λ (m : ℕ). first + m) (sym draws_are);
  drawn_low = subst (λ (m : ℕ). m ≤ draw_end) (sym w.drawn) at.draws_low;
  group = w.group;
  sending = w.sending;
  listed = λ past. w.is ∙ ap (with_key key) (at.listed sta past) ∙ with_key_none key;
  counted = w.owing ∙ at.counted ∙ sym (count_same old.group.gtk.newest.place old.stations new.stations (length d.stas) (λ k low. owes_kept old new sta old.group.gtk.newest.place key w k));
  same_group = group;
  here = subst (λ (x : Station). HasPart d (Ap old.number) sta x (add acts h)) (sym w.is) part;
  others = w.others;
  goes = far;
  moves = subst (λ (m : Moves). HasMoves d (Ap old.number) (Sta sta) m (add acts h)) (sym (ap moves_in w.is ∙ moves_with key (station_at old.stations sta)))
      (keeps d (Ap old.number) (moves_in (station_at old.stations sta)) (at.moves sta));
})

-- ---- sent to a station

-- the key in use with it, after one more packet number
key_used : (d : Domain) (n p : Node) (tid : Option ℕ) (plain : List ℕ) (h : List Act) (x : Option Derivation) (k : Option Held) → HasKey p x k h → HasKey p x (used_in k) (add (sent_under d n (One p) tid plain k) h)
key_used d n p tid plain h None None at = tt
key_used d n p tid plain h None (Some k) at = at
key_used d n p tid plain h (Some x) None at = at
key_used d n p tid plain h (Some x) (Some k) at = pairwise_used p x.ptk.tk k d n tid plain h at

part_used : (d : Domain) (n : Node) (sta : ℕ) (tid : Option ℕ) (plain : List ℕ) (x : Station) (h : List Act) → HasPart d n sta x h
    → HasPart d n sta (with_key (used_in (key_in x)) x) (add (sent_under d n (One (Sta sta)) tid plain (key_in x)) h)
part_used d n sta tid plain x h at =
    let p = Sta sta in
    let acts = sent_under d n (One p) tid plain (key_in x) in
    let other = other_on p acts h (sent-apart p d n (One p) tid plain (option_map send_key_of (key_in x))) in
    let key = subst (λ (y : Option Derivation). HasKey p y (used_in (key_in x)) (add acts h)) (sym other.goes.has) (key_used d n p tid plain h (session p h) (key_in x) at.key) in
    rekeyed_part d n sta (used_in (key_in x)) x h (add acts h) at (stands_on d n p (part_with (ends_of d n p) x) h (add acts h) other (part_of d n sta x h at))
    (subst (λ (k : Option Held). HasKey p (session p (add acts h)) k (add acts h)) (sym (used_key x.session)) key)

-- so is that of the session with a station, as one more number is used
pub rekeyed_of : (old new : State) (sta : ℕ) → HasUsed old new sta → IsRekeyed old new sta (used_in (key_in (station_at old.stations sta)))
rekeyed_of old new sta w = record { number = w.number; drawn = w.drawn; group = w.group; sending = w.sending; owing = w.owing; is = w.is; others = w.others }

pub sent_settled : (old new : State) (sta : ℕ) → HasUsed old new sta → IsSettled old → IsSettled new
sent_settled old new sta w settled = settled_still old new sta (used_in (key_in (station_at old.stations sta))) (rekeyed_of old new sta w) settled

pub sent_stands : (d : Domain) (first : ℕ) (old new : State) (sta : ℕ) (tid : Option ℕ) (plain : List ℕ) (h : List Act) → HasUsed old new sta → StandsSoFar d first old h
    → StandsSoFar d first new (add (sent_under d (Ap old.number) (One (Sta sta)) tid plain (key_in (station_at old.stations sta))) h)
sent_stands d first old new sta tid plain h w at =
    let n = Ap old.number in
    let p = Sta sta in
    let o = station_at old.stations sta in
    let key = option_map send_key_of (key_in o) in
    let acts = send_acts_by d n (One p) tid plain key in
    rekeyed_stands d first old new sta (used_in (key_in o)) acts h (rekeyed_of old new sta w) at (sent-draws d n (One p) tid plain key h) (sent-group d n p tid plain key h)
    (part_used d n sta tid plain o h (at.parts sta))
    (λ k other. far_on (Sta k) acts h (sent-apart (Sta k) d n (One p) tid plain key) (sent-leaves (Sta k) p d n tid plain key other))
    (λ e m x has. moves_apart e m p x acts h (sent-apart p d n (One p) tid plain key) has)

-- further acts change nothing of what came of it
pub sent_outcome : (d : Domain) (n : Node) (q : Peer) (tid : Option ℕ) (plain : List ℕ) (o : Option SendKey) (g : List Act) → outcome_of (send_acts_by d n q tid plain o ++ g) ≡ outcome_of (send_acts_by d n q tid plain o)
sent_outcome d n q tid plain o g = by_sent_in (λ (l : List Act). outcome_of (l ++ g) ≡ outcome_of l) d n q tid plain o (λ k. refl) refl refl

-- ---- sent to all

-- the IGTK in use stays as it was
announcing_beside : (b : Bool) (o : Option SendKey) (k : Held) (d : Domain) (n : Node) (tid : Option ℕ) (plain : List ℕ) (h : List Act) → HoldsAnnouncing b o h → HoldsGroup k h → HoldsAnnouncing b o (add (used_acts d n All tid plain (send_key_of k)) h)
announcing_beside false None k d n tid plain h at holds = tt
announcing_beside false (Some i) k d n tid plain h at holds = absurd at
announcing_beside true None k d n tid plain h at holds = absurd at
announcing_beside true (Some i) k d n tid plain h at holds = integrity_beside_group i k d n tid plain h at holds

abbrev pub sending_of : Held → Option SendKey → Sending
sending_of k o = record { gtk = k; igtk = o }

-- the keys in use after one more frame under the GTK
abbrev pub data_used : Sending → Sending
data_used x = record { gtk = used_once x.gtk; igtk = x.igtk }

spent_stands : (d : Domain) (first : ℕ) (s : State) (tid : Option ℕ) (plain : List ℕ) (h : List Act) → StandsSoFar d first s h
    → StandsSoFar d first (record s { sending = data_used s.sending }) (add (used_acts d (Ap s.number) All tid plain (send_key_of s.sending.gtk)) h)
spent_stands d first s tid plain h at =
    let n = Ap s.number in
    let key = Some (send_key_of s.sending.gtk) in
    let acts = send_acts_by d n All tid plain key in
    record {
      draws_are = at.draws_are ∙ ap (λ (m : ℕ). first + m) (sym (sent-draws d n All tid plain key h));
      draws_low = at.draws_low;
      group_is = all_others (protects d) s.group acts h at.group_is (all-keys groups.Gtk d n tid plain key) (all-keys groups.Igtk d n tid plain key);
      pending = at.pending;
      sending_is = record {
        gtk = group_used s.sending.gtk d n tid plain h at.sending_is.gtk;
        igtk = announcing_beside (protects d) s.sending.igtk s.sending.gtk d n tid plain h at.sending_is.igtk at.sending_is.gtk;
      };
      listed = at.listed;
      counted = at.counted;
      parts = λ k. part_on d n k (station_at s.stations k) h (add acts h) (far_on (Sta k) acts h (sent-apart (Sta k) d n All tid plain key) (all-leaves (Sta k) d n tid plain key)) (at.parts k);
      moves = λ k. moves_apart d n (Sta k) (moves_in (station_at s.stations k)) acts h (sent-apart (Sta k) d n All tid plain key) (at.moves k);
    }

pub takes_sent_all : (d : Domain) (old : State) (tid : Option ℕ) (plain : List ℕ) (waited waits : List Act) (outcome : Outcome)
    → waits ≡ waited ++ used_acts d (Ap old.number) All tid plain (send_key_of old.sending.gtk) → outcome ≡ outcome_of (used_acts d (Ap old.number) All tid plain (send_key_of old.sending.gtk))
    → IsTaken d (Send All tid plain) old (record old { sending = data_used old.sending }) (seen waited waits outcome)
takes_sent_all d old tid plain waited waits outcome waiting came_is =
    let n = Ap old.number in
    let key = Some (send_key_of old.sending.gtk) in
    let acts = send_acts_by d n All tid plain key in
    let new : State = record old { sending = data_used old.sending } in
    record {
      number = refl;
      steps = λ first h stands.
          settled_steps d first (Send All tid plain) old new (seen waited waits outcome) h refl stands.settled (record {
            acts = acts;
            row = ap (send_acts_by d n All tid plain) (sym (group_sends old.sending.gtk h stands.so_far.sending_is.gtk));
            waiting = waiting;
            came = came_is;
            stands = spent_stands d first old tid plain h stands.so_far;
            marks = plain_data d n All tid plain key;
          });
      refused = λ r is. absurd (sent-unrefused d n All tid plain key r (sym came_is ∙ is));
    }

-- ---- taken

data_from : (d : Domain) (first a : ℕ) (octets : List ℕ) (p : Node) (frame : SealedData) (h : List Act) → IsSealedAtAp d a octets p frame → IsDataFrom (here d first (Ap a)) h p octets (sealed_fields frame)
data_from d first a octets p frame h w = record { reads = w.reads; whole = w.judged.3; from = w.judged.1; verdict_is = w.judged.4 first h }

-- without a session
no_session_verdict : (d : Domain) (a : ℕ) (p : Node) (f : SealedFields) (h : List Act) → session p h ≡ None → data_verdict (Ap a) h p f.header f.tid f.body ≡ Refused reason.NoKey
no_session_verdict d a p f h none = rw none refl

no_session_by : (p : Node) (k : Option Held) (h : List Act) → k ≡ None → HasKey p (session p h) k h → session p h ≡ None
no_session_by p k h none at = by (session p h) refl (subst (λ (m : Option Held). HasKey p (session p h) m h) none at)
  where
    by : (x : Option Derivation) → session p h ≡ x → HasKey p x None h → session p h ≡ None
    by None is has = is
    by (Some x) is has = absurd has

takes_no_key : (d : Domain) (s : State) (octets : List ℕ) (sta : ℕ) (frame : SealedData) (waited : List Act) → IsSealedAtAp d s.number octets (Sta sta) frame → key_in (station_at s.stations sta) ≡ None
    → IsTaken d (Take octets) s s (seen waited (waited ++ refusal (Sta sta) octets reason.NoKey) (Refused reason.NoKey))
takes_no_key d s octets sta frame waited w none =
    let p = Sta sta in
    let f = sealed_fields frame in
    stays d s (Take octets) (seen waited (waited ++ refusal p octets reason.NoKey) (Refused reason.NoKey)) (λ first h stands.
    does_quiet d s octets (sealed_reading f) (Some p) kind.Data reason.NoKey waited first h stands (reads_so d octets (sealed_reading f) refl w.reads) (sym w.judged.1) refl (silent_no_key d (Ap s.number))
    (w.judged.4 first h ∙ no_session_verdict d s.number p f h (no_session_by p (key_in (station_at s.stations sta)) h none (stands.so_far.parts sta).key)))

-- the key in use is that by which the rules open it
opens_at : (d : Domain) (first a : ℕ) (octets : List ℕ) (p : Node) (f : SealedFields) (k : Held) (h : List Act) → HasKey p (session p h) (Some k) h → IsDataFrom (here d first (Ap a)) h p octets f → (x : Derivation) × (session p h ≡ Some x) × HoldsPairwise p x.ptk.tk k h × OpensBy (here d first (Ap a)) h p f k
opens_at d first a octets p f k h at w = by (session p h) refl at
  where
    by : (o : Option Derivation) → session p h ≡ o → HasKey p o (Some k) h → (x : Derivation) × (session p h ≡ Some x) × HoldsPairwise p x.ptk.tk k h × OpensBy (here d first (Ap a)) h p f k
    by None is has = absurd has
    by (Some x) is has = (x, is, has, pairwise_opens (here d first (Ap a)) h p f k x is has w.whole refl)

-- refused, and nothing is changed
takes_refused : (d : Domain) (s : State) (octets : List ℕ) (sta : ℕ) (frame : SealedData) (k : Held) (why_ : GuardFault) (waited : List Act) → IsSealedAtAp d s.number octets (Sta sta) frame → key_in (station_at s.stations sta) ≡ Some k
    → IsStoppedBy (sealed_fields frame) k why_ → IsTaken d (Take octets) s s (seen waited (waited ++ refusal (Sta sta) octets (reason_of why_)) (Refused (reason_of why_)))
takes_refused d s octets sta frame k why_ waited w is stopped =
    let n = Ap s.number in
    let p = Sta sta in
    let f = sealed_fields frame in
    let r = reason_of why_ in
    stays d s (Take octets) (seen waited (waited ++ refusal p octets r) (Refused r)) (λ first h stands.
    (let from = data_from d first s.number octets p frame h w in
    let key = subst (λ (m : Option Held). HasKey p (session p h) m h) is (stands.so_far.parts sta).key in
    let at = opens_at d first s.number octets p f k h key from in
    record {
      acts = refusal p octets r;
      row = refused_row (here d first n) h p octets f k from at.3 why_ stopped;
      waiting = refl;
      came = refl;
      stands = so_far_as_before d first s h (add (refusal p octets r) h) (same-refused d n (Some p) octets kind.Data r None h) stands.so_far;
      marks = ((tt, refl), tt);
    }))

-- handed up
taken_leaves : (q p : Node) (octets : List ℕ) (f : SealedFields) (k : Held) (plain : List ℕ) → same q p ≡ false → AllLeave q (taken_acts p octets f k plain)
taken_leaves q p octets f k plain other tk = (record { used = λ h. refl; got = λ t h. refl }, (record { used = λ h. refl; got = λ t h. rw other refl }, tt))

taken_apart : (q p : Node) (octets : List ℕ) (f : SealedFields) (k : Held) (plain : List ℕ) → same q p ≡ false → AllByRecursion (IsApart q) (taken_acts p octets f k plain)
taken_apart q p octets f k plain other = (apart-took q (Some p) octets kind.Data Accepted _ other, (apart-handed_up q p k.key (key_id k.role) (counter_of k.role f.header.octets) (packet_number f.body) plain, tt))

part_taken : (d : Domain) (n : Node) (sta : ℕ) (octets : List ℕ) (f : SealedFields) (o : Station) (k m : Held) (plain : List ℕ) (x : Derivation) (h : List Act) → key_in o ≡ Some k → HasPart d n sta o h → session (Sta sta) h ≡ Some x
    → HoldsPairwise (Sta sta) x.ptk.tk m (add (taken_acts (Sta sta) octets f k plain) h) → HasPart d n sta (with_key (Some m) o) (add (taken_acts (Sta sta) octets f k plain) h)
part_taken d n sta octets f o k m plain x h there at is holds =
    let p = Sta sta in
    let l = add (taken_acts p octets f k plain) h in
    let key = subst (λ (y : Option Derivation). HasKey p y (Some m) l) (sym is) holds in
    rekeyed_part d n sta (Some m) o h l at
    (stands_handed_up d n p octets (Some (data_seal k.key f.header.octets (packet_number f.body) plain)) (part_with (ends_of d n p) o) k.key (key_id k.role) (counter_of k.role f.header.octets) (packet_number f.body) plain h (part_of d n sta o h at))
    (subst (λ (z : Option Held). HasKey p (session p l) z l) (sym (taken_key m o.session k there)) key)

takes_handed_up : (d : Domain) (old new : State) (octets : List ℕ) (sta : ℕ) (frame : SealedData) (k m : Held) (text : List ℕ) (waited : List Act) → IsSealedAtAp d old.number octets (Sta sta) frame → key_in (station_at old.stations sta) ≡ Some k
    → IsRekeyed old new sta (Some m) → IsOpenedTo (sealed_fields frame) k m text → IsTaken d (Take octets) old new (seen waited (waited ++ taken_acts (Sta sta) octets (sealed_fields frame) k text) Accepted)
takes_handed_up d old new octets sta frame k m text waited w is rekeyed opened =
    let n = Ap old.number in
    let p = Sta sta in
    let f = sealed_fields frame in
    let acts = taken_acts p octets f k text in
    record {
      number = rekeyed.number;
      steps = λ first h stands.
          (let from = data_from d first old.number octets p frame h w in
          let part = stands.so_far.parts sta in
          let key = subst (λ (z : Option Held). HasKey p (session p h) z h) is part.key in
          let at = opens_at d first old.number octets p f k h key from in
          settled_steps d first (Take octets) old new (seen waited (waited ++ acts) Accepted) h rekeyed.number (settled_still old new sta (Some m) rekeyed stands.settled) (record {
            acts = acts;
            row = handed_up_row (here d first n) h p octets f k from at.3 m text opened;
            waiting = refl;
            came = refl;
            stands = rekeyed_stands d first old new sta (Some m) acts h rekeyed stands.so_far refl (record { keys_are = λ x. refl; switches_are = λ x. refl; uses_are = λ x. refl })
                (part_taken d n sta octets f (station_at old.stations sta) k m text at.0 h is part at.1 (pairwise_taken p at.0.ptk.tk octets f k m text h at.2 opened))
                (λ j other. far_on (Sta j) acts h (taken_apart (Sta j) p octets f k text other) (taken_leaves (Sta j) p octets f k text other))
                (λ e i x has. moves_add e i p x acts h (took_passes p _ _ _ _ _, (handed_up_passes p _ _ _ _ _ _, tt)) has);
            marks = ((tt, refl), ((tt, refl), tt));
          }));
      refused = λ why_ e. absurd (cc e);
    }

-- ---- as the code comes by them

by_names : (d : Domain) (octets : List ℕ) (old new now : State) (waited waits all : List Act) (outcome came : Outcome) → new ≡ now → waits ≡ all → outcome ≡ came → IsTaken d (Take octets) old now (seen waited all came) → IsTaken d (Take octets) old new (seen waited waits outcome)
by_names d octets old new now waited waits all outcome came same are is x =
    subst (λ (s : State). IsTaken d (Take octets) old s (seen waited waits outcome)) (sym same)
    (subst (λ (l : List Act). IsTaken d (Take octets) old now (seen waited l outcome)) (sym are)
    (subst (λ (o : Outcome). IsTaken d (Take octets) old now (seen waited all o)) (sym is) x))

pub takes_data : (d : Domain) (old new : State) (octets : List ℕ) (sta : ℕ) (frame : SealedData) (waited waits : List Act) (outcome : Outcome) → IsSealedAtAp d old.number octets (Sta sta) frame → IsRekeyed old new sta (key_in (station_at new.stations sta))
    → ((r : Reason) → outcome ≡ Refused r → new ≡ old)
    → IsTakenUnder (Sta sta) octets (sealed_fields frame) (key_in (station_at old.stations sta)) (key_in (station_at new.stations sta)) (seen waited waits outcome) → IsTaken d (Take octets) old new (seen waited waits outcome)
takes_data d old new octets sta frame waited waits outcome w rekeyed refused x = by (key_in (station_at old.stations sta)) refl x
  where
    opened : (k m : Held) → key_in (station_at old.stations sta) ≡ Some k → key_in (station_at new.stations sta) ≡ Some m → IsOpenedUnder (Sta sta) octets (sealed_fields frame) k m (seen waited waits outcome) → IsTaken d (Take octets) old new (seen waited waits outcome)
    opened k m is now (HandsUp plain o came are) =
        by_names d octets old new new waited waits (waited ++ taken_acts (Sta sta) octets (sealed_fields frame) k plain) outcome Accepted refl are came
        (takes_handed_up d old new octets sta frame k m plain waited w is (subst (λ (z : Option Held). IsRekeyed old new sta z) now rekeyed) o)
    opened k m is now (Refuses why_ stopped same came are) =
        by_names d octets old new old waited waits (waited ++ refusal (Sta sta) octets (reason_of why_)) outcome (Refused (reason_of why_)) (refused (reason_of why_) came) are came (takes_refused d old octets sta frame k why_ waited w is stopped)

    by : (key : Option Held) → key_in (station_at old.stations sta) ≡ key → IsTakenUnder (Sta sta) octets (sealed_fields frame) key (key_in (station_at new.stations sta)) (seen waited waits outcome) → IsTaken d (Take octets) old new (seen waited waits outcome)
    by None is t =
        by_names d octets old new old waited waits (waited ++ refusal (Sta sta) octets reason.NoKey) outcome (Refused reason.NoKey) (refused reason.NoKey t.1) t.2 t.1 (takes_no_key d old octets sta frame waited w is)
    by (Some k) is t = opened k t.0 is t.1 t.2
