-- An Action frame for a group that a station takes: the acts are those of the rules, and what it stands for behind them.
use Rattle.std.proofs.Common.{◌≡◌, ◌∙◌, ◌++◌, ◌⊎◌, ℕ, ◌<◌, Bool, true, false, List, [], ◌∷◌, Option, Some, None, refl, sym, ap, subst, inl, inr}
use Rattle.std.specs.Prelude.{◌==◌, nat_lt, if◌then◌else◌, Result, Ok, Err, IfOk, OnOk, OnErr}
use Rattle.std.proofs.lemmas.Bool.{ne_eqb, eq-eqb, eqb-true, ltb-true}
use Rattle.std.proofs.lemmas.Bool.Decides.{eqb_tells}
use Rattle.domain_base.specs.declared.names.Node.TheVariants.{Ap, Sta}
use Rattle.bip_guard.specs.Bip.{key_id_in, ipn_in, mic_verifies}
use Rattle.ccmp_guard.specs.Held.{Held}
use Rattle.run_journal.specs.declared.acts.GroupKind.TheVariants as groups
use Rattle.run_journal.specs.declared.domain.Domain.{Domain}
use Rattle.run_journal.specs.declared.acts.Kind.TheVariants as kind
use Rattle.run_journal.specs.declared.acts.Reason.{Reason}
use Rattle.run_journal.specs.declared.acts.Reason.TheVariants as reason
use Rattle.run_journal.specs.declared.acts.Outcome.{Outcome}
use Rattle.run_journal.specs.declared.acts.Outcome.TheVariants.{Accepted, Refused}
use Rattle.run_journal.specs.declared.acts.Act.{Act}
use Rattle.run_journal.specs.declared.acts.Act.TheVariants.{Took, HandedUp}
use Rattle.run_journal.specs.Acts.{GroupKey}
use Rattle.run_journal.specs.Questions.{add}
use Rattle.domain_rules.specs.Here.{here}
use Rattle.domain_rules.specs.ManagementFrames.{action_seal, integrity_key, before_mic, before_mme}
use Rattle.domain_rules.specs.Rows.{Take, TakeRow}
use Rattle.domain_rules.proofs.Switching.{station_adds}
use Rattle.act_memory.proofs.RepliedActs.{remembers_more}
use Rattle.frame_intake.specs.ActionFields.{ActionFields, IsActionFrame}
use Rattle.node_base.specs.Events.{Steps, seen}
use Rattle.group_key.specs.Keys.{Kept, Memories, found, taken}
use Rattle.group_key.specs.Holds.{RemembersAll}
use Rattle.data_frames.specs.Actions.{integrity, action_outcome, action_acts}
use Rattle.data_frames.specs.Actions.{IsActionFrom as IsActionOf}
use Rattle.data_frames.proofs.ActionRows.{action_row, keyless_row}
use Rattle.data_frames.proofs.Standing.{others}
use Rattle.supplicant.specs.State.{State as Supplicant}
use Rattle.station_node.specs.declared.session.Session.{Session}
use Rattle.station_node.specs.State.{State, memory_at, HasPlaceHeld, is_there, set_memory}
use Rattle.station_node.specs.Parts.{peer_of_session, is_with, IsElsewhere}
use Rattle.station_node.specs.Stands.{Stands, HaveIds}
use Rattle.station_node.specs.Steps.{IsTaken, Takes, turn, IsActionFrom}
use Rattle.station_node.specs.GroupData.{counters_after, with_igtks, IsActionTaken, Keyless, Tried}
use Rattle.station_node.proofs.Acts.{plain-refused, keeps-took}
use Rattle.station_node.proofs.Carrying.{HoldsOn, AreKept, quiet-action, stands-quiet}
use Rattle.station_node.proofs.Counters.{found_of_kind, integrity_group_id, remembers_far, integrity_taken, leaves_group, integrity_without, integrity_nothing, integrity_found, integrity_counted}
use Rattle.station_node.proofs.Handed.{held_state}
use Rattle.station_node.proofs.MemoryPlaces.{memory_there, memory_elsewhere, memory_back}
use Rattle.station_node.proofs.Placed.{held_place, same_memories}
use Rattle.station_node.proofs.Standing.{stands-plain, held_is, not_here, nobody}
use Rattle.station_node.proofs.Taken.{takes_by}
use Rattle.station_node.proofs.Traffic.{in_session, by_names}

-- ---- what is known of the frame

action_of : (d : Domain) (first sta p : ℕ) (octets : List ℕ) (f : ActionFields) (h : List Act) → IsActionFrom d sta p octets f → IsActionFrame f → IsActionOf (here d first (Sta sta)) h (Ap p) octets f
action_of d first sta p octets f h m whole = record { reads = m.reads; whole = whole; from = m.from; named = m.named; verdict_is = m.verdict_is first h }

-- what comes of it under a key: it is handed up, above the kept number, or refused
either_by : (f : ActionFields) (g : GroupKey) (kept : ℕ) (above mic : Bool) → nat_lt kept (ipn_in f.body) ≡ above → mic_verifies g.key f.header.octets f.body ≡ mic
    → ((action_outcome f g kept ≡ Accepted) × (kept < ipn_in f.body)) ⊎ ((why : Reason) × (action_outcome f g kept ≡ Refused why))
either_by f g kept true true above mic = inl (rw (above, mic) refl, ltb-true kept (ipn_in f.body) above)
either_by f g kept true false above mic = inr (reason.Seal, rw (above, mic) refl)
either_by f g kept false mic above is = inr (reason.Replayed kept, rw above refl)

either : (f : ActionFields) (g : GroupKey) (kept : ℕ) → ((action_outcome f g kept ≡ Accepted) × (kept < ipn_in f.body)) ⊎ ((why : Reason) × (action_outcome f g kept ≡ Refused why))
either f g kept = either_by f g kept (nat_lt kept (ipn_in f.body)) (mic_verifies g.key f.header.octets f.body) refl refl

-- ---- it is refused

-- the station stands for one more act
refused_steps : (d : Domain) (first : ℕ) (s : State) (p : ℕ) (octets : List ℕ) (why : Reason) (waited h : List Act) → Stands d first s h → TakeRow (here d first (Sta s.number)) h octets (Took (Some (Ap p)) octets kind.Action (Refused why) None ∷ [])
    → Steps (here d first (Sta s.number)) (Take octets) (Stands d first s) h (seen waited (waited ++ Took (Some (Ap p)) octets kind.Action (Refused why) None ∷ []) (Refused why))
refused_steps d first s p octets why waited h st row = record {
  acts = Took (Some (Ap p)) octets kind.Action (Refused why) None ∷ [];
  adds = station_adds d first s.number h (Take octets) (Took (Some (Ap p)) octets kind.Action (Refused why) None ∷ []) row;
  waiting = refl;
  came = refl;
  stands = stands-plain d first s h (Took (Some (Ap p)) octets kind.Action (Refused why) None) (plain-refused (Some (Ap p)) octets kind.Action why None) st;
}

-- without a key
keyless : (d : Domain) (s : State) (p : ℕ) (octets : List ℕ) (f : ActionFields) (waited : List Act) → IsActionFrom d s.number p octets f → IsActionFrame f → ((first : ℕ) (h : List Act) → Stands d first s h → integrity_key (Ap p) h f.body ≡ None)
    → IsTaken d (Take octets) (turn s s waited (waited ++ Took (Some (Ap p)) octets kind.Action (Refused reason.NoKey) None ∷ [])) (Refused reason.NoKey)
keyless d s p octets f waited m whole none = record {
  number = refl;
  steps = λ first h st. refused_steps d first s p octets reason.NoKey waited h st
      (keyless_row (here d first (Sta s.number)) h (Ap p) octets f (action_of d first s.number p octets f h m whole) (none first h st));
  refused = λ why e. refl;
}

pub taken-action_nowhere : (d : Domain) (s : State) (p : ℕ) (octets : List ℕ) (f : ActionFields) (waited waits : List Act) → IsActionFrom d s.number p octets f → IsActionFrame f → IsElsewhere (peer_of_session s.session) p
    → waits ≡ waited ++ Took (Some (Ap p)) octets kind.Action (Refused reason.NoKey) None ∷ [] → IsTaken d (Take octets) (turn s s waited waits) (Refused reason.NoKey)
taken-action_nowhere d s p octets f waited waits m whole held is =
    subst (λ (l : List Act). IsTaken d (Take octets) (turn s s waited l) (Refused reason.NoKey)) (sym is)
    (keyless d s p octets f waited m whole (λ first h st. integrity_without (Ap p) f.body h (st.no_session p held)))

-- ---- under one of the IGTKs

-- the station as it was, with these group keys
abbrev pub kept_state : State → List (ℕ × Memories) → State
kept_state s memories = record { number = s.number; drawn = s.drawn; attempt = s.attempt; session = s.session; memories = memories; r0kh_id = s.r0kh_id }

kept_is : (s : State) (p : ℕ) (x : Supplicant) (k : Held) (memories : List (ℕ × Memories)) → s.session ≡ in_session p x k → held_state s p x k memories ≡ kept_state s memories
kept_is s p x k memories is = ap (λ (o : Option Session). record { number = s.number; drawn = s.drawn; attempt = s.attempt; session = o; memories = memories; r0kh_id = s.r0kh_id }) (sym is)

-- the key by which the rules try it
under_by : (d : Domain) (s : State) (p : ℕ) (f : ActionFields) (x : Supplicant) (k : Held) (z : Kept) → s.session ≡ in_session p x k → found (key_id_in f.body) (memory_at s.memories p).igtks ≡ Some z
    → (first : ℕ) (h : List Act) → Stands d first s h → integrity_key (Ap p) h f.body ≡ Some (integrity z.key z.id)
under_by d s p f x k z is there first h st =
    let place = held_is d first s h p x k st is in
    integrity_found (Ap p) f.body z (memory_at s.memories p).igtks h place.keyed.key place.keyed.is (st.remembers p).igtks there

row_by : (d : Domain) (s : State) (p : ℕ) (octets : List ℕ) (f : ActionFields) (x : Supplicant) (k : Held) (z : Kept) → s.session ≡ in_session p x k → IsActionFrom d s.number p octets f → IsActionFrame f → found (key_id_in f.body) (memory_at s.memories p).igtks ≡ Some z
    → (first : ℕ) (h : List Act) → Stands d first s h → TakeRow (here d first (Sta s.number)) h octets (action_acts (Ap p) octets f (integrity z.key z.id) (action_outcome f (integrity z.key z.id) z.counter))
row_by d s p octets f x k z is m whole there first h st =
    action_row (here d first (Sta s.number)) h (Ap p) octets f (action_of d first s.number p octets f h m whole) (integrity z.key z.id) (under_by d s p f x k z is there first h st) z.counter
    (integrity_counted (Ap p) (key_id_in f.body) z (memory_at s.memories p).igtks h (st.remembers p).igtks there)

-- what is handed up moves the counter of that IGTK alone
integrity_kept : (d : Domain) (s : State) (p : ℕ) (octets : List ℕ) (f : ActionFields) (z : Kept) (has : Memories) (first : ℕ) (h : List Act) → is_there s.memories p ≡ true → found (key_id_in f.body) (memory_at s.memories p).igtks ≡ Some z
    → z.counter < ipn_in f.body → has ≡ with_igtks (taken (key_id_in f.body) (ipn_in f.body) (memory_at s.memories p).igtks) (memory_at s.memories p) → Stands d first s h
    → AreKept (set_memory s.memories p has) (add (action_acts (Ap p) octets f (integrity z.key z.id) Accepted) h)
integrity_kept d s p octets f z has first h placed there above has_is st =
    let took : Act = Took (Some (Ap p)) octets kind.Action Accepted (Some (action_seal z.key f.header.octets (before_mic f.body))) in
    let content : List ℕ = before_mme f.body in
    let m : Memories = memory_at s.memories p in
    let on : (q : ℕ) → RemembersAll (Ap q) (memory_at s.memories q) (took ∷ h) = λ q. remembers_more (Ap q) (memory_at s.memories q) took h (keeps-took (Ap q) _ _ _ _ _) (st.remembers q) in
    let has_there : memory_at (set_memory s.memories p has) p ≡ with_igtks (taken (key_id_in f.body) (ipn_in f.body) m.igtks) m = memory_there s.memories p has placed ∙ has_is in
    record {
      remembers = λ q. elim (eqb_tells q p) [
        | inl here_is ↦ subst (λ (j : ℕ). RemembersAll (Ap j) (memory_at (set_memory s.memories p has) j) (HandedUp (Ap p) z.key z.id 0 (ipn_in f.body) content ∷ took ∷ h)) (sym here_is.1)
            (subst (λ (l : Memories). RemembersAll (Ap p) l (HandedUp (Ap p) z.key z.id 0 (ipn_in f.body) content ∷ took ∷ h)) (sym has_there)
            (integrity_taken (Ap p) (key_id_in f.body) 0 (ipn_in f.body) content z m (took ∷ h) (on p) there above))
        | inr other ↦ subst (λ (l : Memories). RemembersAll (Ap q) l (HandedUp (Ap p) z.key z.id 0 (ipn_in f.body) content ∷ took ∷ h)) (sym (memory_elsewhere s.memories p q has other.1))
            (remembers_far (Ap q) (Ap p) z.key z.id 0 (ipn_in f.body) content (memory_at s.memories q) (took ∷ h) (ne_eqb q p other.1) (on q))
      ];
      ids = λ q. elim (eqb_tells q p) [
        | inl here_is ↦ subst (λ (j : ℕ). HaveIds (memory_at (set_memory s.memories p has) j)) (sym here_is.1) (subst HaveIds (sym has_there) (st.ids p))
        | inr other ↦ subst HaveIds (sym (memory_elsewhere s.memories p q has other.1)) (st.ids q)
      ];
    }

-- and none of the pairwise key
integrity_leaves : (p : ℕ) (octets : List ℕ) (f : ActionFields) (z : Kept) (k : Held) (h : List Act) → (z.id == 0) ≡ false → HoldsOn p k k (action_acts (Ap p) octets f (integrity z.key z.id) Accepted) h
integrity_leaves p octets f z k h group y there holds =
    others (Ap p) y.ptk.tk k (action_acts (Ap p) octets f (integrity z.key z.id) Accepted) h holds
    (record { used = λ l. refl; got = λ t l. refl }, (leaves_group (Ap p) (Ap p) y.ptk.tk z.key z.id 0 (ipn_in f.body) (before_mme f.body) group, tt))

handed_up : (d : Domain) (s : State) (p : ℕ) (octets : List ℕ) (f : ActionFields) (x : Supplicant) (k : Held) (z : Kept) (has : Memories) (waited : List Act) → s.session ≡ in_session p x k → IsActionFrom d s.number p octets f → IsActionFrame f
    → is_there s.memories p ≡ true → found (key_id_in f.body) (memory_at s.memories p).igtks ≡ Some z → action_outcome f (integrity z.key z.id) z.counter ≡ Accepted → z.counter < ipn_in f.body
    → has ≡ with_igtks (taken (key_id_in f.body) (ipn_in f.body) (memory_at s.memories p).igtks) (memory_at s.memories p)
    → IsTaken d (Take octets) (turn s (held_state s p x k (set_memory s.memories p has)) waited (waited ++ action_acts (Ap p) octets f (integrity z.key z.id) Accepted)) Accepted
handed_up d s p octets f x k z has waited is m whole placed there outcome above has_is = record {
  number = refl;
  steps = λ first h st. (
      let acts : List Act = action_acts (Ap p) octets f (integrity z.key z.id) Accepted in
      let group = integrity_group_id z.id (found_of_kind groups.Igtk (key_id_in f.body) z (memory_at s.memories p).igtks (st.remembers p).igtks.ids there) in
      record {
        acts = acts;
        adds = station_adds d first s.number h (Take octets) acts
            (subst (λ (o : Outcome). TakeRow (here d first (Sta s.number)) h octets (action_acts (Ap p) octets f (integrity z.key z.id) o)) outcome (row_by d s p octets f x k z is m whole there first h st));
        waiting = refl;
        came = refl;
        stands = stands-quiet d first s acts h p x k k (set_memory s.memories p has) st is (quiet-action p octets _ (Ap p) z.key z.id 0 (ipn_in f.body) (before_mme f.body)) (integrity_leaves p octets f z k h group)
            (integrity_kept d s p octets f z has first h placed there above has_is st);
      });
  refused = λ why e. absurd (cc e);
}

stopped : (d : Domain) (s : State) (p : ℕ) (octets : List ℕ) (f : ActionFields) (x : Supplicant) (k : Held) (z : Kept) (why : Reason) (waited : List Act) → s.session ≡ in_session p x k → IsActionFrom d s.number p octets f → IsActionFrame f
    → found (key_id_in f.body) (memory_at s.memories p).igtks ≡ Some z → action_outcome f (integrity z.key z.id) z.counter ≡ Refused why
    → IsTaken d (Take octets) (turn s s waited (waited ++ action_acts (Ap p) octets f (integrity z.key z.id) (Refused why))) (Refused why)
stopped d s p octets f x k z why waited is m whole there outcome = record {
  number = refl;
  steps = λ first h st. refused_steps d first s p octets why waited h st
      (subst (λ (o : Outcome). TakeRow (here d first (Sta s.number)) h octets (action_acts (Ap p) octets f (integrity z.key z.id) o)) outcome (row_by d s p octets f x k z is m whole there first h st));
  refused = λ w e. refl;
}

held_back : (s : State) (p : ℕ) (x : Supplicant) (k : Held) (has : Memories) → s.session ≡ in_session p x k → has ≡ memory_at s.memories p → held_state s p x k (set_memory s.memories p has) ≡ s
held_back s p x k has is same =
    ap (held_state s p x k) (memory_back s.memories p has same)
    ∙ ap (λ (o : Option Session). record { number = s.number; drawn = s.drawn; attempt = s.attempt; session = o; memories = s.memories; r0kh_id = s.r0kh_id }) (sym is)

pub taken-action : (d : Domain) (s : State) (p : ℕ) (octets : List ℕ) (f : ActionFields) (x : Supplicant) (k : Held) (has : Memories) (waited waits : List Act) (outcome : Outcome) → s.session ≡ in_session p x k → IsActionFrom d s.number p octets f
    → IsActionFrame f → is_there s.memories p ≡ true → IsActionTaken p octets f (memory_at s.memories p) has (seen waited waits outcome)
    → IsTaken d (Take octets) (turn s (held_state s p x k (set_memory s.memories p has)) waited waits) outcome
taken-action d s p octets f x k has waited waits outcome is m whole placed (Keyless none same came are) =
    by_names d octets s (held_state s p x k (set_memory s.memories p has)) s waited waits (waited ++ Took (Some (Ap p)) octets kind.Action (Refused reason.NoKey) None ∷ []) outcome (Refused reason.NoKey) (held_back s p x k has is same) are came
    (keyless d s p octets f waited m whole (λ first h st. (let place = held_is d first s h p x k st is in
    integrity_nothing (Ap p) f.body (memory_at s.memories p).igtks h place.keyed.key place.keyed.is (st.remembers p).igtks (none (st.remembers p).igtks.ids))))
taken-action d s p octets f x k has waited waits outcome is m whole placed (Tried z there came are has_is) =
    elim (either f (integrity z.key z.id) z.counter) [
      | inl w ↦ (let o : outcome ≡ Accepted = came ∙ w.0 in
          by_names d octets s (held_state s p x k (set_memory s.memories p has)) (held_state s p x k (set_memory s.memories p has)) waited waits (waited ++ action_acts (Ap p) octets f (integrity z.key z.id) Accepted) outcome Accepted refl
          (are ∙ ap (λ (y : Outcome). waited ++ action_acts (Ap p) octets f (integrity z.key z.id) y) o) o
          (handed_up d s p octets f x k z has waited is m whole placed there w.0 w.1
          (has_is ∙ ap (λ (y : Outcome). with_igtks (counters_after y (key_id_in f.body) (ipn_in f.body) (memory_at s.memories p).igtks) (memory_at s.memories p)) o)))
      | inr w ↦ (let o : outcome ≡ Refused w.0 = came ∙ w.1 in
          by_names d octets s (held_state s p x k (set_memory s.memories p has)) s waited waits (waited ++ action_acts (Ap p) octets f (integrity z.key z.id) (Refused w.0)) outcome (Refused w.0)
          (held_back s p x k has is (has_is ∙ ap (λ (y : Outcome). with_igtks (counters_after y (key_id_in f.body) (ipn_in f.body) (memory_at s.memories p).igtks) (memory_at s.memories p)) o))
          (are ∙ ap (λ (y : Outcome). waited ++ action_acts (Ap p) octets f (integrity z.key z.id) y) o) o
          (stopped d s p octets f x k z w.0 waited is m whole there w.1))
    ]

-- ---- by what the code gave

-- the session with that access point
with_by : (o : Option Session) (p : ℕ) → is_with o p ≡ true → (z : Session) × ((o ≡ Some z) × (z.ap ≡ p))
with_by None p is = absurd (cc is)
with_by (Some z) p is = (z, (refl, eqb-true z.ap p is))

none_by : (o : Option Session) (p : ℕ) → is_with o p ≡ false → IsElsewhere (peer_of_session o) p
none_by None p is = nobody None p refl
none_by (Some z) p is = not_here z.ap p (λ e. cc (eq-eqb z.ap p e, is))

pub takes-action_nowhere : {E : Type 0} (d : Domain) (s : State) (p : ℕ) (octets : List ℕ) (f : ActionFields) (waited waits : List Act) (r : Result Outcome E) → is_with s.session p ≡ false → IsActionFrom d s.number p octets f → IsActionFrame f
    → IfOk r (λ came. came ≡ Refused reason.NoKey) → OnOk r (waits ≡ waited ++ Took (Some (Ap p)) octets kind.Action (Refused reason.NoKey) None ∷ []) → OnErr r (waits ≡ waited)
    → Takes d (Take octets) (turn s s waited waits) r
takes-action_nowhere d s p octets f waited waits r without m whole outcome acts kept =
    takes_by d (Take octets) (turn s s waited waits) r (Refused reason.NoKey) _ outcome acts kept refl (λ is. taken-action_nowhere d s p octets f waited waits m whole (none_by s.session p without) is)

pub takes-action : {E : Type 0} (d : Domain) (s : State) (p : ℕ) (octets : List ℕ) (f : ActionFields) (had has : Memories) (waited waits : List Act) (r : Result Outcome E) → is_with s.session p ≡ true → HasPlaceHeld s.session s.memories → had ≡ memory_at s.memories p
    → IsActionFrom d s.number p octets f → IsActionFrame f → IfOk r (λ outcome. IsActionTaken p octets f had has (seen waited waits outcome)) → OnErr r (has ≡ had) → OnErr r (waits ≡ waited)
    → Takes d (Take octets) (turn s (kept_state s (set_memory s.memories p has)) waited waits) r
takes-action d s p octets f had has waited waits (Ok outcome) with place value m whole taken same kept =
    let z = with_by s.session p with in
    let placed : is_there s.memories p ≡ true = subst (λ (q : ℕ). is_there s.memories q ≡ true) z.1.1 (held_place s.session z.0 s.memories z.1.0 place) in
    let is : s.session ≡ in_session p z.0.supplicant z.0.key = z.1.0 ∙ ap (λ (q : ℕ). in_session q z.0.supplicant z.0.key) z.1.1 in
    subst (λ (y : State). IsTaken d (Take octets) (turn s y waited waits) outcome) (kept_is s p z.0.supplicant z.0.key (set_memory s.memories p has) is)
    (taken-action d s p octets f z.0.supplicant z.0.key has waited waits outcome is m whole placed
    (subst (λ (l : Memories). IsActionTaken p octets f l has (seen waited waits outcome)) value taken))
takes-action d s p octets f had has waited waits (Err e) with place value m whole taken same kept =
    (ap (kept_state s) (same_memories s.memories p had has same value), kept)
