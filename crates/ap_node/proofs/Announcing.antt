-- An access point announces: the acts are those of the rules.
use Rattle.std.proofs.Common.{◌≡◌, ◌∙◌, ◌++◌, ◌+◌, ℕ, suc, Bool, true, false, List, [], ◌∷◌, Option, Some, None, refl, sym, ap, subst}
use Rattle.std.specs.Prelude.{nat_lt, option_map, if◌then◌else◌}
use Rattle.std.specs.List.{AllByRecursion}
use Rattle.domain_base.specs.declared.names.Node.{Node}
use Rattle.domain_base.specs.declared.names.Node.TheVariants.{Ap, Sta}
use Rattle.domain_base.specs.declared.names.Peer.TheVariants.{All}
use Rattle.eapol_key.specs.declared.messages.Message.{Message}
use Rattle.eapol_key.specs.declared.messages.Message.TheVariants.{M1, M2, M3, M4, G1, G2}
use Rattle.replay_window.specs.Numbers.{last_number}
use Rattle.ccmp_guard.specs.Held.{Held}
use Rattle.run_journal.specs.declared.acts.GroupKind.{GroupKind}
use Rattle.run_journal.specs.declared.acts.GroupKind.TheVariants as groups
use Rattle.run_journal.specs.declared.domain.Domain.{Domain}
use Rattle.run_journal.specs.declared.acts.Kind.TheVariants as kind
use Rattle.run_journal.specs.declared.acts.Why.TheVariants as why
use Rattle.run_journal.specs.declared.acts.Reason.{Reason}
use Rattle.run_journal.specs.declared.acts.Outcome.{Outcome}
use Rattle.run_journal.specs.declared.acts.Outcome.TheVariants.{Refused}
use Rattle.run_journal.specs.declared.acts.Act.{Act}
use Rattle.run_journal.specs.declared.acts.Act.TheVariants.{Used, Idle}
use Rattle.run_journal.specs.Acts.{same_kind}
use Rattle.run_journal.specs.Events.{protects}
use Rattle.run_journal.specs.Questions.{draws, add}
use Rattle.domain_rules.specs.ManagementFrames.{announced, sent_action, announced_acts, announce_acts_by}
use Rattle.domain_rules.specs.PacketNumbers.{SendKey, current, group_send_key}
use Rattle.domain_rules.specs.Rows.{Announce, outcome_of}
use Rattle.domain_rules.proofs.Parts.{IsApart, apart-sent_kind, apart-idle}
use Rattle.group_key.specs.Holds.{LeavesGroupKeys}
use Rattle.group_key.proofs.Newest.{all_others}
use Rattle.node_base.specs.Events.{seen}
use Rattle.data_frames.specs.Announcing.{announced_once, announced_outcome}
use Rattle.data_frames.specs.Holding.{HoldsGroup, LeavesPairwise}
use Rattle.data_frames.proofs.Integrity.{integrity_announced, integrity_announces, group_beside_announced}
use Rattle.ap_node.specs.declared.sending.Sending.{Sending}
use Rattle.ap_node.specs.InUse.{announced_by}
use Rattle.ap_node.specs.State.{State, station_at, moves_in}
use Rattle.ap_node.specs.Stands.{AllPlain, HoldsAnnouncing, HoldsInUse, StandsSoFar}
use Rattle.ap_node.specs.Takes.{IsTaken}
use Rattle.ap_node.proofs.Others.{AllLeave, far_on}
use Rattle.ap_node.proofs.Standing.{part_on}
use Rattle.ap_node.proofs.Ending.{settled_steps}
use Rattle.ap_node.proofs.Traffic.{apart-used}
use Rattle.targets.proofs.Passing.{moves_apart}

-- ---- what the acts leave

-- an Action frame is no EAPOL-Key message
no_key_frame : (m : Message) → same_kind (kind.Key m) kind.Action ≡ false
no_key_frame M1 = refl
no_key_frame M2 = refl
no_key_frame M3 = refl
no_key_frame M4 = refl
no_key_frame G1 = refl
no_key_frame G2 = refl

-- what holds of the two acts of announcing, and of the one of not announcing, holds of them
by_number : (P : List Act → Type 0) (d : Domain) (n : Node) (content : List ℕ) (k : SendKey) → P (Used All k.key k.id (suc k.used) content ∷ sent_action d n k.key k.id (suc k.used) content ∷ []) → P (Idle why.Spent ∷ []) → P (announced_acts d n content k)
by_number P d n content k sends spent = by (nat_lt k.used last_number)
  where
    by : (b : Bool) → P (if b then Used All k.key k.id (suc k.used) content ∷ sent_action d n k.key k.id (suc k.used) content ∷ [] else Idle why.Spent ∷ [])
    by true = sends
    by false = spent

by_announced : (P : List Act → Type 0) (d : Domain) (n : Node) (content : List ℕ) (o : Option SendKey) → ((k : SendKey) → P (Used All k.key k.id (suc k.used) content ∷ sent_action d n k.key k.id (suc k.used) content ∷ []))
    → P (Idle why.Spent ∷ []) → P (Idle why.NoKey ∷ []) → P (announce_acts_by d n content o)
by_announced P d n content None sends spent none = none
by_announced P d n content (Some k) sends spent none = by_number P d n content k (sends k) spent

announced-apart : (p : Node) (d : Domain) (n : Node) (content : List ℕ) (o : Option SendKey) → AllByRecursion (IsApart p) (announce_acts_by d n content o)
announced-apart p d n content o =
    by_announced (λ (g : List Act). AllByRecursion (IsApart p) g) d n content o
    (λ k. (apart-used p All k.key k.id (suc k.used) content, (apart-sent_kind p All kind.Action _ _ no_key_frame, tt))) (apart-idle p why.Spent, tt) (apart-idle p why.NoKey, tt)

announced-draws : (d : Domain) (n : Node) (content : List ℕ) (o : Option SendKey) (h : List Act) → draws (add (announce_acts_by d n content o) h) ≡ draws h
announced-draws d n content o h = by_announced (λ (g : List Act). draws (add g h) ≡ draws h) d n content o (λ k. refl) refl refl

announced-leaves : (q : Node) (d : Domain) (n : Node) (content : List ℕ) (o : Option SendKey) → AllLeave q (announce_acts_by d n content o)
announced-leaves q d n content o tk = by_announced (λ (g : List Act). AllByRecursion (LeavesPairwise q tk) g) d n content o
    (λ k. (record { used = λ h. refl; got = λ t h. refl }, (record { used = λ h. refl; got = λ t h. refl }, tt)))
    (record { used = λ h. refl; got = λ t h. refl }, tt) (record { used = λ h. refl; got = λ t h. refl }, tt)

announced-keys : (k : GroupKind) (d : Domain) (n : Node) (content : List ℕ) (o : Option SendKey) → AllByRecursion (LeavesGroupKeys k) (announce_acts_by d n content o)
announced-keys k d n content o = by_announced (λ (g : List Act). AllByRecursion (LeavesGroupKeys k) g) d n content o
    (λ i. (record { drawn = refl; made = refl }, (record { drawn = refl; made = refl }, tt))) (record { drawn = refl; made = refl }, tt) (record { drawn = refl; made = refl }, tt)

announced-plain : (d : Domain) (n : Node) (content : List ℕ) (o : Option SendKey) → AllPlain (announce_acts_by d n content o)
announced-plain d n content o = by_announced AllPlain d n content o (λ k. ((tt, refl), ((tt, refl), tt))) ((tt, refl), tt) ((tt, refl), tt)

-- ---- what came of it

came_by : (d : Domain) (n : Node) (content : List ℕ) (k : SendKey) → announced_outcome k ≡ outcome_of (announced_acts d n content k)
came_by d n content k = by (nat_lt k.used last_number) refl
  where
    by : (b : Bool) → nat_lt k.used last_number ≡ b → announced_outcome k ≡ outcome_of (announced_acts d n content k)
    by true is = rw is refl
    by false is = rw is refl

announced-came : (d : Domain) (n : Node) (content : List ℕ) (o : Option SendKey) → announced_by o ≡ outcome_of (announce_acts_by d n content o)
announced-came d n content None = refl
announced-came d n content (Some k) = came_by d n content k

-- it is no refusal
announced-unrefused : (d : Domain) (n : Node) (content : List ℕ) (o : Option SendKey) (r : Reason) → outcome_of (announce_acts_by d n content o) ≡ Refused r → ⊥
announced-unrefused d n content o r = by_announced (λ (g : List Act). outcome_of g ≡ Refused r → ⊥) d n content o (λ k is. cc is) (λ is. cc is) (λ is. cc is)

-- ---- the keys in use

-- it announces under the IGTK in use
announces_under : (o : Option SendKey) (h : List Act) → HoldsAnnouncing true o h → group_send_key groups.Igtk h (current groups.Igtk h) ≡ o
announces_under None h at = absurd at
announces_under (Some k) h at = integrity_announces k h at

-- after an announcement
abbrev pub announced_to : Sending → Sending
announced_to x = record { gtk = x.gtk; igtk = option_map announced_once x.igtk }

gtk_beside : (o : Option SendKey) (k : Held) (d : Domain) (n : Node) (content : List ℕ) (h : List Act) → HoldsAnnouncing true o h → HoldsGroup k h → HoldsGroup k (add (announce_acts_by d n content o) h)
gtk_beside None k d n content h at holds = absurd at
gtk_beside (Some i) k d n content h at holds = group_beside_announced k i d n content h holds at

igtk_then : (o : Option SendKey) (d : Domain) (n : Node) (content : List ℕ) (h : List Act) → HoldsAnnouncing true o h → HoldsAnnouncing true (option_map announced_once o) (add (announce_acts_by d n content o) h)
igtk_then None d n content h at = absurd at
igtk_then (Some k) d n content h at = integrity_announced k d n content h at

in_use_then : (b : Bool) (s : Sending) (d : Domain) (n : Node) (content : List ℕ) (h : List Act) → b ≡ true → HoldsInUse b s h → HoldsInUse b (announced_to s) (add (announce_acts_by d n content s.igtk) h)
in_use_then false s d n content h is at = absurd (cc is)
in_use_then true s d n content h is at = record { gtk = gtk_beside s.igtk s.gtk d n content h at.igtk at.gtk; igtk = igtk_then s.igtk d n content h at.igtk }

-- ---- an announcement

announced_stands : (d : Domain) (first : ℕ) (s : State) (content : List ℕ) (past : List Act) → protects d ≡ true → StandsSoFar d first s past
    → StandsSoFar d first (record s { sending = announced_to s.sending }) (add (announce_acts_by d (Ap s.number) content s.sending.igtk) past)
announced_stands d first s content past is at =
    let n = Ap s.number in
    let o = s.sending.igtk in
    let acts = announce_acts_by d n content o in
    record {
      draws_are = at.draws_are ∙ ap (λ (m : ℕ). first + m) (sym (announced-draws d n content o past));
      draws_low = at.draws_low;
      group_is = all_others (protects d) s.group acts past at.group_is (announced-keys groups.Gtk d n content o) (announced-keys groups.Igtk d n content o);
      pending = at.pending;
      sending_is = in_use_then (protects d) s.sending d n content past is at.sending_is;
      listed = at.listed;
      counted = at.counted;
      parts = λ k. part_on d n k (station_at s.stations k) past (add acts past) (far_on (Sta k) acts past (announced-apart (Sta k) d n content o) (announced-leaves (Sta k) d n content o)) (at.parts k);
      moves = λ k. moves_apart d n (Sta k) (moves_in (station_at s.stations k)) acts past (announced-apart (Sta k) d n content o) (at.moves k);
    }

-- as the rules say of it
row_of : (d : Domain) (first : ℕ) (s : State) (content : List ℕ) (h : List Act) → protects d ≡ true → StandsSoFar d first s h
    → announce_acts_by d (Ap s.number) content s.sending.igtk ≡ announce_acts_by d (Ap s.number) content (group_send_key groups.Igtk h (current groups.Igtk h))
row_of d first s content h is at =
    ap (announce_acts_by d (Ap s.number) content) (sym (announces_under s.sending.igtk h (subst (λ (b : Bool). HoldsAnnouncing b s.sending.igtk h) is at.sending_is.igtk)))

pub takes_announced : (d : Domain) (old : State) (payload : List ℕ) (waited waits : List Act) (outcome : Outcome) → protects d ≡ true → waits ≡ waited ++ announce_acts_by d (Ap old.number) (announced payload) old.sending.igtk → outcome ≡ announced_by old.sending.igtk
    → IsTaken d (Announce payload) old (record old { sending = announced_to old.sending }) (seen waited waits outcome)
takes_announced d old payload waited waits outcome is waiting came_is =
    let n = Ap old.number in
    let content = announced payload in
    let o = old.sending.igtk in
    let new : State = record old { sending = announced_to old.sending } in
    let came = came_is ∙ announced-came d n content o in
    record {
      number = refl;
      steps = λ first h stands.
          settled_steps d first (Announce payload) old new (seen waited waits outcome) h refl stands.settled (record {
            acts = announce_acts_by d n content o;
            row = row_of d first old content h is stands.so_far;
            waiting = waiting;
            came = came;
            stands = announced_stands d first old content h is stands.so_far;
            marks = announced-plain d n content o;
          });
      refused = λ r refused. absurd (announced-unrefused d n content o r (sym came ∙ refused));
    }
