-- What sending and taking under a key in use come to by the rules, and what the key stands for then.
use Rattle.std.proofs.Common.{◌≡◌, ◌∙◌, ℕ, ◌<◌, suc, Bool, true, false, cond, List, ◌∷◌, Option, Some, None, refl, sym, ap, subst, length, arith}
use Rattle.std.specs.Prelude.{max, bytes_eq, ◌||◌, ◌==◌, ◌%◌, nat_lt, nat_le, not, slice_index, slice_set, unwrap_or, if◌then◌else◌}
use Rattle.std.proofs.lemmas.Bool.{eq-eqb, eqb-true}
use Rattle.std.proofs.lemmas.List.{get_or-set_same, get_or-set_other, length-set}
use Rattle.std.proofs.lemmas.Slice.Eq.{bytes_eq-Decides}
use Rattle.domain_base.specs.declared.names.Node.{Node}
use Rattle.domain_base.specs.declared.names.Peer.TheVariants.{One, All}
use Rattle.replay_window.specs.Numbers.{last_number}
use Rattle.ccmp_guard.specs.declared.guard.GuardFault.TheVariants as fault
use Rattle.ccmp_guard.specs.declared.guard.Role.{Role}
use Rattle.ccmp_guard.specs.declared.guard.Role.TheVariants.{Pairwise}
use Rattle.ccmp_guard.specs.Faults.{unprotect_fault}
use Rattle.ccmp_guard.specs.Ccmp.{packet_number, traffic_identifier, key_id_in, ext_iv}
use Rattle.ccmp_guard.specs.Roles.{key_id, counter_of}
use Rattle.ccmp_guard.specs.Held.{Held, with_next, kept_number}
use Rattle.run_journal.specs.declared.domain.Domain.{Domain}
use Rattle.run_journal.specs.declared.acts.Kind.TheVariants.{Data}
use Rattle.run_journal.specs.declared.acts.Outcome.TheVariants.{Accepted}
use Rattle.run_journal.specs.declared.acts.Act.{Act}
use Rattle.run_journal.specs.declared.acts.Act.TheVariants.{Took, Used, HandedUp}
use Rattle.run_journal.specs.Acts.{Derivation}
use Rattle.run_journal.specs.Questions.{session, switches, group_uses, add}
use Rattle.run_journal.specs.GroupKinds.{kind_of_id}
use Rattle.run_journal.specs.declared.acts.GroupKind.TheVariants as groups
use Rattle.domain_rules.specs.Here.{Here}
use Rattle.domain_rules.specs.PacketNumbers.{pairwise_got, OpenKey, send_key}
use Rattle.domain_rules.specs.DataVerdict.{is_for_group}
use Rattle.domain_rules.specs.DataFrames.{sent_data, data_seal}
use Rattle.domain_rules.specs.DataRows.{used_acts}
use Rattle.domain_rules.proofs.Parts.{same-refl}
use Rattle.domain_rules.proofs.GroupKinds.{of_kind, kind_of_current}
use Rattle.frame_intake.specs.SealedFields.{SealedFields, IsSealedData}
use Rattle.data_frames.specs.Holding.{HoldsPairwise, HoldsGroup}
use Rattle.data_frames.specs.Sending.{send_key_of, used_once}
use Rattle.data_frames.specs.Taking.{taken_acts, IsOpenedTo}
use Rattle.data_frames.specs.Rows.{OpensBy}

-- ---- sending

pub pairwise_sends : (p : Node) (k : Held) (x : Derivation) (h : List Act) → session p h ≡ Some x → HoldsPairwise p x.ptk.tk k h → send_key h (One p) ≡ Some (send_key_of k)
pairwise_sends p k x h is s = rw (is, s.role, s.key, s.used) refl

pub group_sends : (k : Held) (h : List Act) → HoldsGroup k h → send_key h All ≡ Some (send_key_of k)
group_sends k h s = rw (s.current_is, s.role, s.used) refl

-- a packet number was used, and a frame sent
pairwise_next : (p : Node) (tk : List ℕ) (k : Held) (d : Domain) (n : Node) (tid : Option ℕ) (plain : List ℕ) (h : List Act) → HoldsPairwise p tk k h
    → HoldsPairwise p tk (with_next k) (sent_data d n (One p) tid k.key (key_id k.role) (suc k.used) plain ∷ Used (One p) k.key (key_id k.role) (suc k.used) plain ∷ h)
pairwise_next p tk k d n tid plain h s = record {
  role = s.role;
  key = s.key;
  used = ap suc s.used ∙ sym (rw (same-refl p) refl);
  size = s.size;
  kept = s.kept;
}

pub pairwise_used : (p : Node) (tk : List ℕ) (k : Held) (d : Domain) (n : Node) (tid : Option ℕ) (plain : List ℕ) (h : List Act) → HoldsPairwise p tk k h
    → HoldsPairwise p tk (used_once k) (add (used_acts d n (One p) tid plain (send_key_of k)) h)
pairwise_used p tk k d n tid plain h s = by (nat_lt k.used last_number) refl
  where
    by : (b : Bool) → nat_lt k.used last_number ≡ b → HoldsPairwise p tk (used_once k) (add (used_acts d n (One p) tid plain (send_key_of k)) h)
    by true is = rw is (pairwise_next p tk k d n tid plain h s)
    by false is = rw is (record { role = s.role; key = s.key; used = s.used; size = s.size; kept = s.kept })

group_next : (k : Held) (d : Domain) (n : Node) (tid : Option ℕ) (plain : List ℕ) (h : List Act) → HoldsGroup k h
    → HoldsGroup (with_next k) (sent_data d n All tid k.key (key_id k.role) (suc k.used) plain ∷ Used All k.key (key_id k.role) (suc k.used) plain ∷ h)
group_next k d n tid plain h s =
    let current_id : kind_of_id s.id ≡ Some groups.Gtk = kind_of_current groups.Gtk (switches groups.Gtk h) (record { key = k.key; id = s.id }) s.current_is in
    let own_id : kind_of_id (key_id k.role) ≡ Some groups.Gtk = ap (λ (r : Role). kind_of_id (key_id r)) s.role ∙ current_id in
    record {
      id = s.id;
      role = s.role;
      current_is = s.current_is;
      used = ap suc s.used ∙ sym (ap (λ (b : Bool). cond b (suc (group_uses groups.Gtk h)) (group_uses groups.Gtk h)) (of_kind groups.Gtk (key_id k.role) own_id));
    }

pub group_used : (k : Held) (d : Domain) (n : Node) (tid : Option ℕ) (plain : List ℕ) (h : List Act) → HoldsGroup k h → HoldsGroup (used_once k) (add (used_acts d n All tid plain (send_key_of k)) h)
group_used k d n tid plain h s = by (nat_lt k.used last_number) refl
  where
    by : (b : Bool) → nat_lt k.used last_number ≡ b → HoldsGroup (used_once k) (add (used_acts d n All tid plain (send_key_of k)) h)
    by true is = rw is (group_next k d n tid plain h s)
    by false is = rw is (record { id = s.id; role = s.role; current_is = s.current_is; used = s.used })

-- ---- taking

low_mod : (n : ℕ) → n % 16 < 16
low_mod n = omega arith

-- there are 16 TIDs
pub tid_low : (header : List ℕ) → traffic_identifier header < 16
tid_low header = by (length header == 26) (slice_index header 24)
  where
    by : (b : Bool) (n : ℕ) → (if b then n % 16 else 0) < 16
    by true n = low_mod n
    by false n = omega arith

abbrev key_with : List ℕ → ℕ → ℕ → OpenKey
key_with key tid kept = record { key = key; id = 0; tid = tid; kept = kept }

-- by the rules, what the peer sent to the node alone is opened under the key of the session
pub pairwise_opens : (w : Here) (h : List Act) (p : Node) (f : SealedFields) (k : Held) (x : Derivation) → session p h ≡ Some x → HoldsPairwise p x.ptk.tk k h → IsSealedData f → is_for_group w.node f.header ≡ false → OpensBy w h p f k
pairwise_opens w h p f k x is s whole alone =
    let tid = traffic_identifier f.header.octets in
    let kept : slice_index k.kept tid ≡ pairwise_got p x.ptk.tk (unwrap_or f.tid 0) h = s.kept tid (tid_low f.header.octets) ∙ sym (ap (λ (t : ℕ). pairwise_got p x.ptk.tk t h) whole.tid) in
    rw (is, alone, s.role) (same_key (key_id_in f.body == 0) whole.tid (sym s.key) (sym kept))
  where
    same_key : (b : Bool) {t u a c : ℕ} {key tk : List ℕ} → t ≡ u → tk ≡ key → a ≡ c
        → (if b then Some (key_with tk t a) else None) ≡ (if b then Some (key_with key u c) else None)
    same_key b e f g = rw (e, f, g) refl

octets_same : (xs : List ℕ) → bytes_eq xs xs ≡ true
octets_same xs = (bytes_eq-Decides xs xs).1 refl

-- what was opened has a packet number above the kept one
above : (a b : ℕ) → nat_le b a ≡ false → a < b
above a b e = grind (arith, e)

pub faultless_above : (f : SealedFields) (k : Held) → unprotect_fault (Some k) f.header.octets f.body ≡ None → kept_number k f.header.octets < packet_number f.body
faultless_above f k none = by (nat_lt (length f.body) 16 || not (ext_iv f.body == 1)) (key_id_in f.body == key_id k.role) (nat_le (packet_number f.body) (kept_number k f.header.octets)) refl none
  where
    by : (a b c : Bool) → nat_le (packet_number f.body) (kept_number k f.header.octets) ≡ c
        → (if a then Some fault.Header else if not b then Some fault.KeyId else if c then Some (fault.Replayed (kept_number k f.header.octets)) else None) ≡ None
        → kept_number k f.header.octets < packet_number f.body
    by true b c is e = absurd (cc e)
    by false false c is e = absurd (cc e)
    by false true true is e = absurd (cc e)
    by false true false is e = above (kept_number k f.header.octets) (packet_number f.body) is

greater : (a b : ℕ) → a < b → max b a ≡ b
greater a b low = grind (arith, low)

-- the counter of each TID after a payload was handed up
got_after : (p : Node) (tk : List ℕ) (tid t number : ℕ) (plain : List ℕ) (h : List Act) (b : Bool) → (tid == t) ≡ b → pairwise_got p tk tid (HandedUp p tk 0 t number plain ∷ h) ≡ cond b (max number (pairwise_got p tk tid h)) (pairwise_got p tk tid h)
got_after p tk tid t number plain h b is = rw (same-refl p, octets_same tk, is) refl

pub pairwise_handed_up : (p : Node) (tk header : List ℕ) (k : Held) (number : ℕ) (plain : List ℕ) (h : List Act) → HoldsPairwise p tk k h → slice_index k.kept (traffic_identifier header) < number
    → HoldsPairwise p tk (record { role = k.role; key = k.key; used = k.used; kept = slice_set k.kept (traffic_identifier header) number }) (HandedUp p tk 0 (traffic_identifier header) number plain ∷ h)
pairwise_handed_up p tk header k number plain h s low = record {
  role = s.role;
  key = s.key;
  used = s.used;
  size = length-set k.kept (traffic_identifier header) number ∙ s.size;
  kept = λ tid below. by tid below (tid == traffic_identifier header) refl;
}
  where
    there : traffic_identifier header < length k.kept
    there = subst (λ (n : ℕ). traffic_identifier header < n) (sym s.size) (tid_low header)

    by : (tid : ℕ) → tid < 16 → (b : Bool) → (tid == traffic_identifier header) ≡ b → slice_index (slice_set k.kept (traffic_identifier header) number) tid ≡ pairwise_got p tk tid (HandedUp p tk 0 (traffic_identifier header) number plain ∷ h)
    by tid below true is =
        let same : tid ≡ traffic_identifier header = eqb-true tid (traffic_identifier header) is in
        ap (slice_index (slice_set k.kept (traffic_identifier header) number)) same
        ∙ get_or-set_same k.kept (traffic_identifier header) number 0 there
        ∙ sym (greater (pairwise_got p tk tid h) number (subst (λ (n : ℕ). n < number) (ap (slice_index k.kept) (sym same) ∙ s.kept tid below) low))
        ∙ sym (got_after p tk tid (traffic_identifier header) number plain h true is)
    by tid below false other =
        get_or-set_other k.kept (traffic_identifier header) tid number 0 (λ e. cc (eq-eqb tid (traffic_identifier header) e, other))
        ∙ s.kept tid below ∙ sym (got_after p tk tid (traffic_identifier header) number plain h false other)

-- the payload was handed up
pub pairwise_taken : (p : Node) (tk octets : List ℕ) (f : SealedFields) (k new : Held) (plain : List ℕ) (h : List Act) → HoldsPairwise p tk k h → IsOpenedTo f k new plain → HoldsPairwise p tk new (add (taken_acts p octets f k plain) h)
pairwise_taken p tk octets f k new plain h s o =
    let took = Took (Some p) octets Data Accepted (Some (data_seal k.key f.header.octets (packet_number f.body) plain)) in
    let before : HoldsPairwise p tk k (took ∷ h) = record { role = s.role; key = s.key; used = s.used; size = s.size; kept = s.kept } in
    let low : slice_index k.kept (traffic_identifier f.header.octets) < packet_number f.body =
    subst (λ (r : Role). slice_index k.kept (counter_of r f.header.octets) < packet_number f.body) s.role (faultless_above f k o.faultless) in
    subst (λ (m : Held). HoldsPairwise p tk m (add (taken_acts p octets f k plain) h)) (sym o.taken) (by took k.role k.key s.role s.key (pairwise_handed_up p tk f.header.octets k (packet_number f.body) plain (took ∷ h) before low))
  where
    -- by the names that the acts have
    by : (took : Act) (r : Role) (key : List ℕ) → r ≡ Pairwise → key ≡ tk
        → HoldsPairwise p tk (record { role = k.role; key = k.key; used = k.used; kept = slice_set k.kept (traffic_identifier f.header.octets) (packet_number f.body) }) (HandedUp p tk 0 (traffic_identifier f.header.octets) (packet_number f.body) plain ∷ took ∷ h)
        → HoldsPairwise p tk (record { role = k.role; key = k.key; used = k.used; kept = slice_set k.kept (counter_of r f.header.octets) (packet_number f.body) }) (HandedUp p key (key_id r) (counter_of r f.header.octets) (packet_number f.body) plain ∷ took ∷ h)
    by took r key e g x = rw (e, g) x
