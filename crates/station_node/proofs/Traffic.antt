-- Protected data that a station sends and takes: the acts are those of the rules, and what it stands for behind them.
use Rattle.std.proofs.Common.{◌≡◌, ◌∙◌, ◌++◌, ℕ, ◌<◌, suc, Bool, true, false, List, [], ◌∷◌, Option, Some, None, refl, sym, ap, subst, inl, inr}
use Rattle.std.specs.Prelude.{◌==◌, nat_lt, if◌then◌else◌}
use Rattle.std.proofs.lemmas.Bool.{ne_eqb}
use Rattle.std.proofs.lemmas.Bool.Decides.{eqb_tells}
use Rattle.domain_base.specs.declared.names.Node.TheVariants.{Ap, Sta}
use Rattle.domain_base.specs.declared.names.Peer.{Peer}
use Rattle.domain_base.specs.declared.names.Peer.TheVariants.{One, All}
use Rattle.replay_window.specs.Numbers.{last_number}
use Rattle.ccmp_guard.specs.Ccmp.{packet_number, key_id_in}
use Rattle.ccmp_guard.specs.Roles.{key_id, counter_of}
use Rattle.ccmp_guard.specs.declared.guard.GuardFault.{GuardFault}
use Rattle.ccmp_guard.specs.declared.guard.Role.{Role}
use Rattle.ccmp_guard.specs.Held.{Held}
use Rattle.run_journal.specs.declared.domain.Domain.{Domain}
use Rattle.run_journal.specs.declared.acts.Kind.TheVariants as kind
use Rattle.run_journal.specs.declared.acts.Why.TheVariants as why
use Rattle.run_journal.specs.declared.acts.Reason.{Reason}
use Rattle.run_journal.specs.declared.acts.Reason.TheVariants as reason
use Rattle.run_journal.specs.declared.acts.Outcome.{Outcome}
use Rattle.run_journal.specs.declared.acts.Outcome.TheVariants.{Accepted, Refused, Done, Idle as IdleBy}
use Rattle.run_journal.specs.declared.acts.Act.{Act}
use Rattle.run_journal.specs.declared.acts.Act.TheVariants.{Took, Used, HandedUp, Idle}
use Rattle.run_journal.specs.Acts.{same}
use Rattle.run_journal.specs.Questions.{session, add}
use Rattle.domain_rules.specs.Here.{here}
use Rattle.domain_rules.specs.PacketNumbers.{send_key}
use Rattle.domain_rules.specs.DataFrames.{sent_data, data_seal}
use Rattle.domain_rules.specs.DataRows.{used_acts, send_acts_by}
use Rattle.run_journal.specs.Addresses.{is_group}
use Rattle.domain_rules.specs.DataVerdict.{data_verdict, data_verdict_by}
use Rattle.domain_rules.specs.Rows.{Take, Send, outcome_of}
use Rattle.domain_rules.proofs.Switching.{station_adds}
use Rattle.domain_rules.proofs.Unprotected.{reads_so}
use Rattle.act_memory.proofs.RepliedActs.{remembers_on, remembers_more}
use Rattle.frame_intake.specs.SealedFields.{SealedFields, sealed_reading, IsSealedData}
use Rattle.node_base.specs.Events.{seen}
use Rattle.run_journal.specs.Events.{IsReceiverOf}
use Rattle.group_key.specs.Keys.{Kept, Memories, found, taken}
use Rattle.group_key.specs.Holds.{RemembersAll}
use Rattle.data_frames.specs.Holding.{kept_key}
use Rattle.data_frames.specs.Rows.{OpensBy}
use Rattle.data_frames.specs.Rows.{IsDataFrom as IsDataOf}
use Rattle.data_frames.specs.Sending.{send_key_of, used_once, outcome_under}
use Rattle.data_frames.specs.Taking.{reason_of, refusal, taken_acts, IsOpenedTo, IsStoppedBy, IsOpenedUnder, HandsUp, Refuses}
use Rattle.data_frames.proofs.Standing.{others}
use Rattle.data_frames.proofs.DataRows.{handed_up_row, refused_row}
use Rattle.supplicant.specs.State.{State as Supplicant}
use Rattle.station_node.specs.declared.session.Session.{Session}
use Rattle.station_node.specs.State.{State, memory_at, is_there, set_memory}
use Rattle.station_node.specs.Parts.{peer_of_session, IsElsewhere}
use Rattle.station_node.specs.Stands.{Stands, HaveIds}
use Rattle.station_node.specs.Steps.{IsTaken, turn, IsDataFrom}
use Rattle.station_node.specs.GroupData.{counters_after, with_gtks, IsGroupTaken, Without, Under}
use Rattle.station_node.proofs.Acts.{plain-refused, plain-idle, keeps-took, keeps-used, keeps-sent, keeps-idle}
use Rattle.station_node.proofs.Carrying.{AreOf, quiet-taken, quiet-sending, quiet-nothing, HoldsOn, AreKept, stands-quiet}
use Rattle.station_node.proofs.Counters.{found_group_id, ids_taken, remembers_beside, remembers_far, remembers_taken, leaves_group, group_nothing, group_opens}
use Rattle.station_node.proofs.Handed.{held_state}
use Rattle.station_node.proofs.Standing.{stands-plain, held_is}
use Rattle.station_node.proofs.Taken.{taken-refused}
use Rattle.data_frames.proofs.Using.{pairwise_sends, pairwise_used, pairwise_opens, faultless_above, pairwise_taken}
use Rattle.station_node.proofs.MemoryPlaces.{memory_there, memory_elsewhere, memory_back}

-- ---- what is known of the frame and of the session

data_of : (d : Domain) (first sta p : ℕ) (octets : List ℕ) (f : SealedFields) (h : List Act) → IsDataFrom d sta p octets f → IsSealedData f → IsDataOf (here d first (Sta sta)) h (Ap p) octets f
data_of d first sta p octets f h m whole = record { reads = m.reads; whole = whole; from = m.from; verdict_is = m.verdict_is first h }

abbrev pub in_session : ℕ → Supplicant → Held → Option Session
in_session p x k = Some (record { ap = p; supplicant = x; key = k })

-- the station as it was
held_same : (s : State) (p : ℕ) (x : Supplicant) (k : Held) → s.session ≡ in_session p x k → held_state s p x k s.memories ≡ s
held_same s p x k is = ap (λ (o : Option Session). record { number = s.number; drawn = s.drawn; attempt = s.attempt; session = o; memories = s.memories; r0kh_id = s.r0kh_id }) (sym is)

-- ---- it is sent

abbrev under_acts : Domain → ℕ → ℕ → Option ℕ → List ℕ → Held → List Act
under_acts d sta p tid plain k = used_acts d (Sta sta) (One (Ap p)) tid plain (send_key_of k)

-- what holds of the two acts of sending, and of the one of not sending, holds of them
by_sent : (P : List Act → Type 0) (d : Domain) (sta p : ℕ) (tid : Option ℕ) (plain : List ℕ) (k : Held)
    → P (Used (One (Ap p)) k.key (key_id k.role) (suc k.used) plain ∷ sent_data d (Sta sta) (One (Ap p)) tid k.key (key_id k.role) (suc k.used) plain ∷ [])
    → P (Idle why.Spent ∷ []) → P (under_acts d sta p tid plain k)
by_sent P d sta p tid plain k sends spent = by (nat_lt k.used last_number)
  where
    by : (b : Bool)
        → P (if b then Used (One (Ap p)) k.key (key_id k.role) (suc k.used) plain ∷ sent_data d (Sta sta) (One (Ap p)) tid k.key (key_id k.role) (suc k.used) plain ∷ [] else Idle why.Spent ∷ [])
    by true = sends
    by false = spent

sent-quiet : (d : Domain) (sta p : ℕ) (tid : Option ℕ) (plain : List ℕ) (k : Held) → AreOf p (under_acts d sta p tid plain k)
sent-quiet d sta p tid plain k = by_sent (AreOf p) d sta p tid plain k (quiet-sending p k.key (key_id k.role) (suc k.used) plain _ _) (quiet-nothing p why.Spent)

sent-remembers : (d : Domain) (sta p q : ℕ) (tid : Option ℕ) (plain : List ℕ) (k : Held) (ks : Memories) (h : List Act) → RemembersAll (Ap q) ks h → RemembersAll (Ap q) ks (add (under_acts d sta p tid plain k) h)
sent-remembers d sta p q tid plain k ks h r =
    by_sent (λ (g : List Act). RemembersAll (Ap q) ks (add g h)) d sta p tid plain k
    (remembers_on (Ap q) ks (Used (One (Ap p)) k.key (key_id k.role) (suc k.used) plain ∷ sent_data d (Sta sta) (One (Ap p)) tid k.key (key_id k.role) (suc k.used) plain ∷ []) h (keeps-used (Ap q) _ _ _ _ _, (keeps-sent (Ap q) _ _ _ _, tt)) r) (remembers_on (Ap q) ks (Idle why.Spent ∷ []) h (keeps-idle (Ap q) why.Spent, tt) r)

sent-outcome : (d : Domain) (sta p : ℕ) (tid : Option ℕ) (plain : List ℕ) (k : Held) → outcome_under k ≡ outcome_of (under_acts d sta p tid plain k)
sent-outcome d sta p tid plain k = by (nat_lt k.used last_number) refl
  where
    by : (b : Bool) → nat_lt k.used last_number ≡ b → outcome_under k ≡ outcome_of (under_acts d sta p tid plain k)
    by true is = rw is refl
    by false is = rw is refl

-- it is no refusal
sent-unrefused : (k : Held) (w : Reason) → outcome_under k ≡ Refused w → ⊥
sent-unrefused k w = by (nat_lt k.used last_number)
  where
    by : (b : Bool) → (if b then Done else IdleBy why.Spent) ≡ Refused w → ⊥
    by true is = cc is
    by false is = cc is

pub taken-sent : (d : Domain) (s : State) (p : ℕ) (x : Supplicant) (k : Held) (tid : Option ℕ) (plain : List ℕ) (waited waits : List Act) (outcome : Outcome) → s.session ≡ in_session p x k
    → waits ≡ waited ++ used_acts d (Sta s.number) (One (Ap p)) tid plain (send_key_of k) → outcome ≡ outcome_under k
    → IsTaken d (Send (One (Ap p)) tid plain) (turn s (held_state s p x (used_once k) s.memories) waited waits) outcome
taken-sent d s p x k tid plain waited waits outcome is waiting came = record {
  number = refl;
  steps = λ first h st. (
      let place = held_is d first s h p x k st is in
      let acts : List Act = under_acts d s.number p tid plain k in
      record {
        acts = acts;
        adds = station_adds d first s.number h (Send (One (Ap p)) tid plain) acts
            (ap (send_acts_by d (Sta s.number) (One (Ap p)) tid plain) (sym (pairwise_sends (Ap p) k place.keyed.key h place.keyed.is place.keyed.holds)));
        waiting = waiting;
        came = came ∙ sent-outcome d s.number p tid plain k;
        stands = stands-quiet d first s acts h p x k (used_once k) s.memories st is (sent-quiet d s.number p tid plain k)
            (λ y there holds. pairwise_used (Ap p) y.ptk.tk k d (Sta s.number) tid plain h holds)
            (record { remembers = λ q. sent-remembers d s.number p q tid plain k (memory_at s.memories q) h (st.remembers q); ids = st.ids });
      });
  refused = λ w e. absurd (sent-unrefused k w (sym came ∙ e));
}

-- without a session with the access point it is not
no_send_key : (p : ℕ) (h : List Act) → session (Ap p) h ≡ None → send_key h (One (Ap p)) ≡ None
no_send_key p h none = rw none refl

no_key_to : (d : Domain) (s : State) (to : Peer) (tid : Option ℕ) (plain : List ℕ) (waited : List Act) → IsReceiverOf d (Sta s.number) to → ((p : ℕ) → to ≡ One (Ap p) → IsElsewhere (peer_of_session s.session) p)
    → IsTaken d (Send to tid plain) (turn s s waited (waited ++ Idle why.NoKey ∷ [])) (IdleBy why.NoKey)
no_key_to d s All tid plain waited receiver other = absurd receiver
no_key_to d s (One (Sta q)) tid plain waited receiver other = absurd receiver
no_key_to d s (One (Ap p)) tid plain waited receiver other = record {
  number = refl;
  steps = λ first h st. (record {
    acts = Idle why.NoKey ∷ [];
    adds = station_adds d first s.number h (Send (One (Ap p)) tid plain) (Idle why.NoKey ∷ [])
        (ap (send_acts_by d (Sta s.number) (One (Ap p)) tid plain) (sym (no_send_key p h (st.no_session p (other p refl)))));
    waiting = refl;
    came = refl;
    stands = stands-plain d first s h (Idle why.NoKey) (plain-idle why.NoKey) st;
  });
  refused = λ w e. cc;
}

pub taken-no_key_to : (d : Domain) (s : State) (to : Peer) (tid : Option ℕ) (plain : List ℕ) (waited waits : List Act) → IsReceiverOf d (Sta s.number) to → ((p : ℕ) → to ≡ One (Ap p) → IsElsewhere (peer_of_session s.session) p)
    → waits ≡ waited ++ Idle why.NoKey ∷ [] → IsTaken d (Send to tid plain) (turn s s waited waits) (IdleBy why.NoKey)
taken-no_key_to d s to tid plain waited waits receiver other is =
    subst (λ (w : List Act). IsTaken d (Send to tid plain) (turn s s waited w) (IdleBy why.NoKey)) (sym is) (no_key_to d s to tid plain waited receiver other)

-- ---- it is refused

-- without a key it is refused so
no_open_key : (d : Domain) (sta p : ℕ) (octets : List ℕ) (f : SealedFields) (s : State) (waited waits : List Act) → s.number ≡ sta → IsDataFrom d sta p octets f
    → ((first : ℕ) (h : List Act) → Stands d first s h → data_verdict (Sta sta) h (Ap p) f.header f.tid f.body ≡ Refused reason.NoKey)
    → waits ≡ waited ++ refusal (Ap p) octets reason.NoKey → IsTaken d (Take octets) (turn s s waited waits) (Refused reason.NoKey)
no_open_key d sta p octets f s waited waits number m verdict_is is =
    let from : IsDataFrom d s.number p octets f = subst (λ (n : ℕ). IsDataFrom d n p octets f) (sym number) m in
    taken-refused d s octets (sealed_reading f) (Some (Ap p)) kind.Data reason.NoKey waited waits (reads_so d octets (sealed_reading f) refl from.reads)
    (λ first h st. from.verdict_is first h ∙ subst (λ (n : ℕ). data_verdict (Sta n) h (Ap p) f.header f.tid f.body ≡ Refused reason.NoKey) (sym number) (verdict_is first h st)) from.from refl is

no_session_key : (sta p : ℕ) (f : SealedFields) (h : List Act) → session (Ap p) h ≡ None → data_verdict (Sta sta) h (Ap p) f.header f.tid f.body ≡ Refused reason.NoKey
no_session_key sta p f h none = rw none refl

pub taken-no_session : (d : Domain) (s : State) (p : ℕ) (octets : List ℕ) (f : SealedFields) (waited waits : List Act) → IsDataFrom d s.number p octets f → IsElsewhere (peer_of_session s.session) p
    → waits ≡ waited ++ Took (Some (Ap p)) octets kind.Data (Refused reason.NoKey) None ∷ [] → IsTaken d (Take octets) (turn s s waited waits) (Refused reason.NoKey)
taken-no_session d s p octets f waited waits m held is = no_open_key d s.number p octets f s waited waits refl m (λ first h st. no_session_key s.number p f h (st.no_session p held)) is

-- or it is stopped under the key by which the rules open it
stopped_under : (d : Domain) (s : State) (p : ℕ) (octets : List ℕ) (f : SealedFields) (k : Held) (w : GuardFault) (waited : List Act) → IsDataFrom d s.number p octets f → IsSealedData f
    → ((first : ℕ) (h : List Act) → Stands d first s h → OpensBy (here d first (Sta s.number)) h (Ap p) f k) → IsStoppedBy f k w
    → IsTaken d (Take octets) (turn s s waited (waited ++ refusal (Ap p) octets (reason_of w))) (Refused (reason_of w))
stopped_under d s p octets f k w waited m whole opens stopped = record {
  number = refl;
  steps = λ first h st. (record {
    acts = refusal (Ap p) octets (reason_of w);
    adds = station_adds d first s.number h (Take octets) (refusal (Ap p) octets (reason_of w))
        (refused_row (here d first (Sta s.number)) h (Ap p) octets f k (data_of d first s.number p octets f h m whole) (opens first h st) w stopped);
    waiting = refl;
    came = refl;
    stands = stands-plain d first s h _ (plain-refused (Some (Ap p)) octets kind.Data (reason_of w) None) st;
  });
  refused = λ y e. refl;
}

-- ---- it is handed up

opened_under : (d : Domain) (s : State) (p : ℕ) (octets : List ℕ) (f : SealedFields) (x : Supplicant) (k key new after : Held) (plain : List ℕ) (memories : List (ℕ × Memories)) (waited : List Act) → s.session ≡ in_session p x k
    → IsDataFrom d s.number p octets f → IsSealedData f
    → ((first : ℕ) (h : List Act) → Stands d first s h → OpensBy (here d first (Sta s.number)) h (Ap p) f key) → IsOpenedTo f key after plain
    → ((first : ℕ) (h : List Act) → Stands d first s h → HoldsOn p k new (taken_acts (Ap p) octets f key plain) h)
    → ((first : ℕ) (h : List Act) → Stands d first s h → AreKept memories (add (taken_acts (Ap p) octets f key plain) h))
    → IsTaken d (Take octets) (turn s (held_state s p x new memories) waited (waited ++ taken_acts (Ap p) octets f key plain)) Accepted
opened_under d s p octets f x k key new after plain memories waited is m whole opens o holds kept = record {
  number = refl;
  steps = λ first h st. (record {
    acts = taken_acts (Ap p) octets f key plain;
    adds = station_adds d first s.number h (Take octets) (taken_acts (Ap p) octets f key plain)
        (handed_up_row (here d first (Sta s.number)) h (Ap p) octets f key (data_of d first s.number p octets f h m whole) (opens first h st) after plain o);
    waiting = refl;
    came = refl;
    stands = stands-quiet d first s (taken_acts (Ap p) octets f key plain) h p x k new memories st is (quiet-taken p octets _ (Ap p) key.key (key_id key.role) (counter_of key.role f.header.octets) (packet_number f.body) plain) (holds first h st)
        (kept first h st);
  });
  refused = λ w e. absurd (cc e);
}

pub by_names : (d : Domain) (octets : List ℕ) (old new now : State) (waited waits all : List Act) (outcome came : Outcome) → new ≡ now → waits ≡ all → outcome ≡ came → IsTaken d (Take octets) (turn old now waited all) came → IsTaken d (Take octets) (turn old new waited waits) outcome
by_names d octets old new now waited waits all outcome came same are is x =
    subst (λ (s : State). IsTaken d (Take octets) (turn old s waited waits) outcome) (sym same)
    (subst (λ (l : List Act). IsTaken d (Take octets) (turn old now waited l) outcome) (sym are)
    (subst (λ (o : Outcome). IsTaken d (Take octets) (turn old now waited all) o) (sym is) x))

-- ---- for the station alone, under the pairwise key

pairwise_by : (d : Domain) (s : State) (p : ℕ) (f : SealedFields) (x : Supplicant) (k : Held) → s.session ≡ in_session p x k → IsSealedData f → is_group f.header.a1 ≡ false
    → (first : ℕ) (h : List Act) → Stands d first s h → OpensBy (here d first (Sta s.number)) h (Ap p) f k
pairwise_by d s p f x k is whole alone first h st =
    let place = held_is d first s h p x k st is in
    pairwise_opens (here d first (Sta s.number)) h (Ap p) f k place.keyed.key place.keyed.is place.keyed.holds whole alone

-- the group keys stay, as none of them has its key id
pairwise_kept : (d : Domain) (s : State) (p : ℕ) (octets : List ℕ) (f : SealedFields) (x : Supplicant) (k : Held) (plain : List ℕ) (first : ℕ) (h : List Act) → s.session ≡ in_session p x k → Stands d first s h
    → AreKept s.memories (add (taken_acts (Ap p) octets f k plain) h)
pairwise_kept d s p octets f x k plain first h is st =
    let role = (held_is d first s h p x k st is).keyed.holds.role in
    let took = Took (Some (Ap p)) octets kind.Data Accepted (Some (data_seal k.key f.header.octets (packet_number f.body) plain)) in
    record {
      remembers = λ q. subst (λ (r : Role). RemembersAll (Ap q) (memory_at s.memories q) (HandedUp (Ap p) k.key (key_id r) (counter_of r f.header.octets) (packet_number f.body) plain ∷ took ∷ h)) (sym role)
          (remembers_beside (Ap q) (Ap p) k.key _ (packet_number f.body) plain (memory_at s.memories q) (took ∷ h) (st.ids q) (remembers_more (Ap q) (memory_at s.memories q) took h (keeps-took (Ap q) _ _ _ _ _) (st.remembers q)));
      ids = st.ids;
    }

pub taken-pairwise : (d : Domain) (s : State) (p : ℕ) (octets : List ℕ) (f : SealedFields) (x : Supplicant) (k new : Held) (waited waits : List Act) (outcome : Outcome) → s.session ≡ in_session p x k → IsDataFrom d s.number p octets f → IsSealedData f
    → is_group f.header.a1 ≡ false → IsOpenedUnder (Ap p) octets f k new (seen waited waits outcome) → IsTaken d (Take octets) (turn s (held_state s p x new s.memories) waited waits) outcome
taken-pairwise d s p octets f x k new waited waits outcome is m whole alone (HandsUp plain o came are) =
    by_names d octets s (held_state s p x new s.memories) (held_state s p x new s.memories) waited waits (waited ++ taken_acts (Ap p) octets f k plain) outcome Accepted refl are came
    (opened_under d s p octets f x k k new new plain s.memories waited is m whole (pairwise_by d s p f x k is whole alone) o
    (λ first h st y there holds. pairwise_taken (Ap p) y.ptk.tk octets f k new plain h holds o)
    (λ first h st. pairwise_kept d s p octets f x k plain first h is st))
taken-pairwise d s p octets f x k new waited waits outcome is m whole alone (Refuses w stopped unchanged came are) =
    by_names d octets s (held_state s p x new s.memories) s waited waits (waited ++ refusal (Ap p) octets (reason_of w)) outcome (Refused (reason_of w))
    (ap (λ (y : Held). held_state s p x y s.memories) unchanged ∙ held_same s p x k is) are came
    (stopped_under d s p octets f k w waited m whole (pairwise_by d s p f x k is whole alone) stopped)

-- ---- for a group, under one of the group keys

group_by : (d : Domain) (s : State) (p : ℕ) (f : SealedFields) (x : Supplicant) (k : Held) (z : Kept) → s.session ≡ in_session p x k → is_group f.header.a1 ≡ true → found (key_id_in f.body) (memory_at s.memories p).gtks ≡ Some z
    → (first : ℕ) (h : List Act) → Stands d first s h → OpensBy (here d first (Sta s.number)) h (Ap p) f (kept_key z.key z.id z.counter)
group_by d s p f x k z is group there first h st =
    let place = held_is d first s h p x k st is in
    group_opens (here d first (Sta s.number)) h (Ap p) f z (memory_at s.memories p).gtks place.keyed.key place.keyed.is group (st.remembers p).gtks there

group_kept : (d : Domain) (s : State) (p : ℕ) (octets : List ℕ) (f : SealedFields) (z : Kept) (has : Memories) (plain : List ℕ) (first : ℕ) (h : List Act) → is_there s.memories p ≡ true → found (key_id_in f.body) (memory_at s.memories p).gtks ≡ Some z
    → z.counter < packet_number f.body → has ≡ with_gtks (taken (key_id_in f.body) (packet_number f.body) (memory_at s.memories p).gtks) (memory_at s.memories p) → Stands d first s h
    → AreKept (set_memory s.memories p has) (add (taken_acts (Ap p) octets f (kept_key z.key z.id z.counter) plain) h)
group_kept d s p octets f z has plain first h placed there above has_is st =
    let took = Took (Some (Ap p)) octets kind.Data Accepted (Some (data_seal z.key f.header.octets (packet_number f.body) plain)) in
    let ks = memory_at s.memories p in
    let on : (q : ℕ) → RemembersAll (Ap q) (memory_at s.memories q) (took ∷ h) = λ q. remembers_more (Ap q) (memory_at s.memories q) took h (keeps-took (Ap q) _ _ _ _ _) (st.remembers q) in
    let has_there : memory_at (set_memory s.memories p has) p ≡ with_gtks (taken (key_id_in f.body) (packet_number f.body) ks.gtks) ks = memory_there s.memories p has placed ∙ has_is in
    record {
      remembers = λ q. elim (eqb_tells q p) [
        | inl here_is ↦ subst (λ (j : ℕ). RemembersAll (Ap j) (memory_at (set_memory s.memories p has) j) (HandedUp (Ap p) z.key z.id 0 (packet_number f.body) plain ∷ took ∷ h)) (sym here_is.1)
            (subst (λ (l : Memories). RemembersAll (Ap p) l (HandedUp (Ap p) z.key z.id 0 (packet_number f.body) plain ∷ took ∷ h)) (sym has_there)
            (remembers_taken (Ap p) (key_id_in f.body) 0 (packet_number f.body) plain z ks (took ∷ h) (on p) there above))
        | inr other ↦ subst (λ (l : Memories). RemembersAll (Ap q) l (HandedUp (Ap p) z.key z.id 0 (packet_number f.body) plain ∷ took ∷ h)) (sym (memory_elsewhere s.memories p q has other.1))
            (remembers_far (Ap q) (Ap p) z.key z.id 0 (packet_number f.body) plain (memory_at s.memories q) (took ∷ h) (ne_eqb q p other.1) (on q))
      ];
      ids = λ q. elim (eqb_tells q p) [
        | inl here_is ↦ subst (λ (j : ℕ). HaveIds (memory_at (set_memory s.memories p has) j)) (sym here_is.1) (subst HaveIds (sym has_there) (ids_taken (key_id_in f.body) (packet_number f.body) ks.gtks (st.ids p)))
        | inr other ↦ subst HaveIds (sym (memory_elsewhere s.memories p q has other.1)) (st.ids q)
      ];
    }

group_leaves : (p : ℕ) (octets : List ℕ) (f : SealedFields) (z : Kept) (k : Held) (plain : List ℕ) (h : List Act) → (z.id == 0) ≡ false → HoldsOn p k k (taken_acts (Ap p) octets f (kept_key z.key z.id z.counter) plain) h
group_leaves p octets f z k plain h group y there holds =
    others (Ap p) y.ptk.tk k (taken_acts (Ap p) octets f (kept_key z.key z.id z.counter) plain) h holds
    (record { used = λ l. refl; got = λ t l. refl }, (leaves_group (Ap p) (Ap p) y.ptk.tk z.key z.id 0 (packet_number f.body) plain group, tt))

pub taken-group : (d : Domain) (s : State) (p : ℕ) (octets : List ℕ) (f : SealedFields) (x : Supplicant) (k : Held) (has : Memories) (waited waits : List Act) (outcome : Outcome) → s.session ≡ in_session p x k → IsDataFrom d s.number p octets f
    → IsSealedData f → is_group f.header.a1 ≡ true → is_there s.memories p ≡ true → IsGroupTaken p octets f (memory_at s.memories p) has (seen waited waits outcome)
    → IsTaken d (Take octets) (turn s (held_state s p x k (set_memory s.memories p has)) waited waits) outcome
taken-group d s p octets f x k has waited waits outcome is m whole group placed (Without none same_keys came are) =
    by_names d octets s (held_state s p x k (set_memory s.memories p has)) s waited waits (waited ++ refusal (Ap p) octets reason.NoKey) outcome (Refused reason.NoKey)
    (ap (held_state s p x k) (memory_back s.memories p has same_keys) ∙ held_same s p x k is) are came
    (no_open_key d s.number p octets f s waited _ refl m (λ first h st. (let place = held_is d first s h p x k st is in
    ap (data_verdict_by (packet_number f.body)) (group_nothing (Sta s.number) (Ap p) f (memory_at s.memories p).gtks h place.keyed.key place.keyed.is group (st.remembers p).gtks none))) refl)
taken-group d s p octets f x k has waited waits outcome is m whole group placed (Under z after there (HandsUp plain o came are) has_is) =
    by_names d octets s (held_state s p x k (set_memory s.memories p has)) (held_state s p x k (set_memory s.memories p has)) waited waits (waited ++ taken_acts (Ap p) octets f (kept_key z.key z.id z.counter) plain) outcome Accepted refl are came
    (opened_under d s p octets f x k (kept_key z.key z.id z.counter) k after plain (set_memory s.memories p has) waited is m whole (group_by d s p f x k z is group there) o
    (λ first h st. group_leaves p octets f z k plain h (found_group_id (key_id_in f.body) z (memory_at s.memories p).gtks (st.ids p) there))
    (λ first h st. group_kept d s p octets f z has plain first h placed there (faultless_above f (kept_key z.key z.id z.counter) o.faultless)
    (has_is ∙ ap (λ (y : Outcome). with_gtks (counters_after y (key_id_in f.body) (packet_number f.body) (memory_at s.memories p).gtks) (memory_at s.memories p)) came) st))
taken-group d s p octets f x k has waited waits outcome is m whole group placed (Under z after there (Refuses w stopped unchanged came are) has_is) =
    by_names d octets s (held_state s p x k (set_memory s.memories p has)) s waited waits (waited ++ refusal (Ap p) octets (reason_of w)) outcome (Refused (reason_of w))
    (ap (held_state s p x k) (memory_back s.memories p has (has_is ∙ ap (λ (y : Outcome). with_gtks (counters_after y (key_id_in f.body) (packet_number f.body) (memory_at s.memories p).gtks) (memory_at s.memories p)) came)) ∙ held_same s p x k is) are came
    (stopped_under d s p octets f (kept_key z.key z.id z.counter) w waited m whole (group_by d s p f x k z is group there) stopped)
