-- The group keys that a station keeps beside payloads that are handed up, and by which of them the rules open a frame.
use Rattle.std.proofs.Common.{◌≡◌, ◌∙◌, ℕ, ◌<◌, Bool, true, false, cond, List, [], ◌∷◌, Option, Some, None, refl, sym, ap, subst}
use Rattle.std.specs.Prelude.{◌==◌, ◌&&◌, max, map, bytes_eq, option_map}
use Rattle.std.specs.List.{AllByRecursion}
use Rattle.std.proofs.lemmas.Bool.{eq-eqb, eqb-true, ne_eqb}
use Rattle.domain_base.specs.declared.names.Node.{Node}
use Rattle.ccmp_guard.specs.Ccmp.{key_id_in}
use Rattle.bip_guard.specs.Bip as bip
use Rattle.run_journal.specs.declared.acts.GroupKind.{GroupKind}
use Rattle.run_journal.specs.declared.acts.GroupKind.TheVariants as groups
use Rattle.run_journal.specs.declared.acts.Act.{Act}
use Rattle.run_journal.specs.declared.acts.Act.TheVariants.{HandedUp}
use Rattle.run_journal.specs.Acts.{same, GroupKey, Derivation}
use Rattle.run_journal.specs.Questions.{session}
use Rattle.domain_rules.specs.Here.{Here}
use Rattle.domain_rules.specs.GroupKeys.{memory, is_key, got}
use Rattle.domain_rules.specs.IntegrityKeys.{IsGot}
use Rattle.domain_rules.specs.ManagementFrames.{integrity_key_by, integrity_key}
use Rattle.domain_rules.specs.PacketNumbers.{find_id}
use Rattle.domain_rules.specs.DataVerdict.{is_for_group, opened_by}
use Rattle.act_memory.proofs.RepliedActs.{LeavesKept, remembers_more}
use Rattle.frame_intake.specs.SealedFields.{SealedFields}
use Rattle.data_frames.specs.Holding.{LeavesPairwise, kept_key}
use Rattle.data_frames.specs.Rows.{OpensBy}
use Rattle.data_frames.specs.Actions.{integrity}
use Rattle.group_key.specs.Keys.{Kept, Memories, found, taken, is_integrity_id}
use Rattle.group_key.specs.Holds.{Remembers, RemembersAll, AreOfKind, is_integrity, key_of}
use Rattle.group_key.proofs.Counting.{takes, counted, hands_beside}
use Rattle.supplicant.specs.Taken.{HaveGroupIds}
use Rattle.station_node.specs.GroupData.{with_gtks, with_igtks}
use Rattle.station_node.specs.Stands.{HaveIds}

-- ---- key ids

flipped : (a b : ℕ) (c : Bool) → (b == a) ≡ c → (a == b) ≡ c
flipped a b true is = eq-eqb a b (sym (eqb-true b a is))
flipped a b false is = ne_eqb a b (λ e. cc (eq-eqb b a (sym e), is))

-- the key that is found has the key id of a group key
found_by : (c : Bool) (x k : Kept) (o : Option Kept) → (x.id == 0) ≡ false → (o ≡ Some k → (k.id == 0) ≡ false) → cond c (Some x) o ≡ Some k → (k.id == 0) ≡ false
found_by true x k o id more is =
    let this : x ≡ k = cc is in
    subst (λ (y : Kept). (y.id == 0) ≡ false) this id
found_by false x k o id more is = more is

pub found_group_id : (id : ℕ) (k : Kept) (ks : List Kept) → HaveGroupIds ks → found id ks ≡ Some k → (k.id == 0) ≡ false
found_group_id id k [] ids is = absurd (cc is)
found_group_id id k (x ∷ ks) ids is = found_by (x.id == id) x k (found id ks) ids.0 (found_group_id id k ks ids.1) is

taken_by : (c : Bool) (number : ℕ) (k : Kept) (ks ls : List Kept) → (k.id == 0) ≡ false → HaveGroupIds ks → HaveGroupIds ls → HaveGroupIds (cond c (record { key = k.key; id = k.id; counter = number } ∷ ks) (k ∷ ls))
taken_by true number k ks ls id ids more = (id, ids)
taken_by false number k ks ls id ids more = (id, more)

pub ids_taken : (id number : ℕ) (ks : List Kept) → HaveGroupIds ks → HaveGroupIds (taken id number ks)
ids_taken id number [] ids = tt
ids_taken id number (k ∷ ks) ids = taken_by (k.id == id) number k ks (taken id number ks) ids.0 ids.1 (ids_taken id number ks ids.1)

-- and it is one of the kind of the keys
kind_by : (kind : GroupKind) (c : Bool) (x k : Kept) (o : Option Kept) → is_integrity_id x.id ≡ is_integrity kind → (o ≡ Some k → is_integrity_id k.id ≡ is_integrity kind) → cond c (Some x) o ≡ Some k → is_integrity_id k.id ≡ is_integrity kind
kind_by kind true x k o of more is =
    let this : x ≡ k = cc is in
    subst (λ (y : Kept). is_integrity_id y.id ≡ is_integrity kind) this of
kind_by kind false x k o of more is = more is

pub found_of_kind : (kind : GroupKind) (id : ℕ) (k : Kept) (ks : List Kept) → AreOfKind kind ks → found id ks ≡ Some k → is_integrity_id k.id ≡ is_integrity kind
found_of_kind kind id k [] of is = absurd (cc is)
found_of_kind kind id k (x ∷ ks) of is = kind_by kind (x.id == id) x k (found id ks) of.0 (found_of_kind kind id k ks of.1) is

-- that of an IGTK is not 0
pub integrity_group_id : (id : ℕ) → is_integrity_id id ≡ true → (id == 0) ≡ false
integrity_group_id id is = ne_eqb id 0 (λ e. (let zero : is_integrity_id id ≡ false = ap is_integrity_id e in cc (zero, is)))

-- ---- a payload under the pairwise key moves no counter of a group key

not_third : (a b c : Bool) → c ≡ false → (a && b && c) ≡ false
not_third true true c other = other
not_third true false c other = refl
not_third false b c other = refl

stays : (b : Bool) (x before : ℕ) → b ≡ false → cond b x before ≡ before
stays true x before is = cc is
stays false x before is = refl

counters_beside : (p q : Node) (tk : List ℕ) (tid number : ℕ) (plain : List ℕ) (ks : List Kept) (h : List Act) → HaveGroupIds ks → AllByRecursion (λ (k : Kept). k.counter ≡ got p k.key k.id h) ks
    → AllByRecursion (λ (k : Kept). k.counter ≡ got p k.key k.id (HandedUp q tk 0 tid number plain ∷ h)) ks
counters_beside p q tk tid number plain [] h ids counters = tt
counters_beside p q tk tid number plain (k ∷ ks) h ids counters = (
  counters.0 ∙ sym (stays (is_key p k.key k.id q tk 0) (max number (got p k.key k.id h)) (got p k.key k.id h) (not_third (same p q) (bytes_eq k.key tk) (k.id == 0) ids.0)),
  counters_beside p q tk tid number plain ks h ids.1 counters.1,
)

gtks_beside : (p q : Node) (tk : List ℕ) (tid number : ℕ) (plain : List ℕ) (ks : List Kept) (h : List Act) → HaveGroupIds ks → Remembers groups.Gtk p ks h → Remembers groups.Gtk p ks (HandedUp q tk 0 tid number plain ∷ h)
gtks_beside p q tk tid number plain ks h ids r = record { keys = r.keys; counters = counters_beside p q tk tid number plain ks h ids r.counters; apart = r.apart; ids = r.ids }

pub remembers_beside : (p q : Node) (tk : List ℕ) (tid number : ℕ) (plain : List ℕ) (m : Memories) (h : List Act) → HaveIds m → RemembersAll p m h → RemembersAll p m (HandedUp q tk 0 tid number plain ∷ h)
remembers_beside p q tk tid number plain m h ids r = record {
  gtks = gtks_beside p q tk tid number plain m.gtks h ids r.gtks;
  igtks = hands_beside groups.Igtk groups.Gtk p q tk 0 tid number plain m.igtks h refl refl r.igtks;
}

-- ---- a payload under a group key moves its own alone

far_keeps : (p q : Node) (key : List ℕ) (id tid number : ℕ) (plain : List ℕ) → same p q ≡ false → LeavesKept p (HandedUp q key id tid number plain)
far_keeps p q key id tid number plain other = record { gives_none = λ kind. refl; gets_none = λ kind x i heard before. rw other refl }

pub remembers_far : (p q : Node) (key : List ℕ) (id tid number : ℕ) (plain : List ℕ) (m : Memories) (h : List Act) → same p q ≡ false → RemembersAll p m h → RemembersAll p m (HandedUp q key id tid number plain ∷ h)
remembers_far p q key id tid number plain m h other r = remembers_more p m (HandedUp q key id tid number plain) h (far_keeps p q key id tid number plain other) r

taken_as : (kind : GroupKind) (p : Node) (id tid number : ℕ) (plain : List ℕ) (k : Kept) (ks : List Kept) (h : List Act) → Remembers kind p ks h → found id ks ≡ Some k → k.counter < number → Remembers kind p (taken id number ks) (HandedUp p k.key k.id tid number plain ∷ h)
taken_as kind p id tid number plain k ks h r is low =
    subst (λ (i : ℕ). Remembers kind p (taken id number ks) (HandedUp p k.key i tid number plain ∷ h)) (sym (counted kind p id k ks h r is).0) (takes kind p id tid number plain k ks h r is low)

-- a GTK
pub remembers_taken : (p : Node) (id tid number : ℕ) (plain : List ℕ) (k : Kept) (m : Memories) (h : List Act) → RemembersAll p m h → found id m.gtks ≡ Some k → k.counter < number
    → RemembersAll p (with_gtks (taken id number m.gtks) m) (HandedUp p k.key k.id tid number plain ∷ h)
remembers_taken p id tid number plain k m h r is low = record {
  gtks = taken_as groups.Gtk p id tid number plain k m.gtks h r.gtks is low;
  igtks = hands_beside groups.Igtk groups.Gtk p p k.key k.id tid number plain m.igtks h refl (found_of_kind groups.Gtk id k m.gtks r.gtks.ids is) r.igtks;
}

-- an IGTK
pub integrity_taken : (p : Node) (id tid number : ℕ) (plain : List ℕ) (k : Kept) (m : Memories) (h : List Act) → RemembersAll p m h → found id m.igtks ≡ Some k → k.counter < number
    → RemembersAll p (with_igtks (taken id number m.igtks) m) (HandedUp p k.key k.id tid number plain ∷ h)
integrity_taken p id tid number plain k m h r is low = record {
  gtks = hands_beside groups.Gtk groups.Igtk p p k.key k.id tid number plain m.gtks h refl (found_of_kind groups.Igtk id k m.igtks r.igtks.ids is) r.gtks;
  igtks = taken_as groups.Igtk p id tid number plain k m.igtks h r.igtks is low;
}

-- and none of a pairwise key
no_third : (a b c d : Bool) → c ≡ false → ((a && b && c) && d) ≡ false
no_third true true c d other = rw other refl
no_third true false c d other = refl
no_third false b c d other = refl

pub leaves_group : (p q : Node) (tk key : List ℕ) (id tid number : ℕ) (plain : List ℕ) → (id == 0) ≡ false → LeavesPairwise p tk (HandedUp q key id tid number plain)
leaves_group p q tk key id tid number plain group = record {
  used = λ h. refl;
  got = λ t h. stays _ _ _ (no_third (same p q) (bytes_eq tk key) (0 == id) (t == tid) (flipped 0 id false group));
}

-- ---- by the rules a frame for a group is opened under the later of the keys with its key id

found_key_by : (c : Bool) (x : Kept) (o : Option Kept) (n : Option GroupKey) → n ≡ option_map key_of o → cond c (Some (key_of x)) n ≡ option_map key_of (cond c (Some x) o)
found_key_by true x o n is = refl
found_key_by false x o n is = is

found_key : (id : ℕ) (ks : List Kept) → find_id id (map key_of ks) ≡ option_map key_of (found id ks)
found_key id [] = refl
found_key id (k ∷ ks) =
    ap (λ (b : Bool). cond b (Some (key_of k)) (find_id id (map key_of ks))) (flipped id k.id (k.id == id) refl)
    ∙ found_key_by (k.id == id) k (found id ks) (find_id id (map key_of ks)) (found_key id ks)

pub found_there : (kind : GroupKind) (p : Node) (id : ℕ) (ks : List Kept) (h : List Act) → Remembers kind p ks h → find_id id (memory kind p h) ≡ option_map key_of (found id ks)
found_there kind p id ks h r = ap (find_id id) (sym r.keys) ∙ found_key id ks

-- where none is kept it is opened under nothing
pub group_nothing : (n p : Node) (f : SealedFields) (ks : List Kept) (h : List Act) (x : Derivation) → session p h ≡ Some x → is_for_group n f.header ≡ true → Remembers groups.Gtk p ks h → found (key_id_in f.body) ks ≡ None
    → opened_by n h p f.header f.tid f.body ≡ None
group_nothing n p f ks h x is group r none =
    let nothing : find_id (key_id_in f.body) (memory groups.Gtk p h) ≡ None = found_there groups.Gtk p (key_id_in f.body) ks h r ∙ ap (option_map key_of) none in
    rw (is, group, nothing) refl

pub group_opens : (w : Here) (h : List Act) (p : Node) (f : SealedFields) (k : Kept) (ks : List Kept) (x : Derivation) → session p h ≡ Some x → is_for_group w.node f.header ≡ true → Remembers groups.Gtk p ks h → found (key_id_in f.body) ks ≡ Some k
    → OpensBy w h p f (kept_key k.key k.id k.counter)
group_opens w h p f k ks x is group r here_is =
    let there : find_id (key_id_in f.body) (memory groups.Gtk p h) ≡ Some (key_of k) = found_there groups.Gtk p (key_id_in f.body) ks h r ∙ ap (option_map key_of) here_is in
    let at = counted groups.Gtk p (key_id_in f.body) k ks h r here_is in
    let same_id : (key_id_in f.body == k.id) ≡ true = eq-eqb (key_id_in f.body) k.id (sym at.0) in
    let counter : got p k.key k.id h ≡ k.counter = ap (λ (i : ℕ). got p k.key i h) at.0 ∙ sym at.1 in
    rw (is, group, there, same_id, counter) refl

-- ---- by the rules an Action frame is tried under the later of the IGTKs with its key id

-- without a session under none
pub integrity_without : (p : Node) (body : List ℕ) (h : List Act) → session p h ≡ None → integrity_key p h body ≡ None
integrity_without p body h none = ap (integrity_key_by p h (bip.key_id_in body)) none

pub integrity_nothing : (p : Node) (body : List ℕ) (ks : List Kept) (h : List Act) (x : Derivation) → session p h ≡ Some x → Remembers groups.Igtk p ks h → found (bip.key_id_in body) ks ≡ None → integrity_key p h body ≡ None
integrity_nothing p body ks h x is r none =
    ap (integrity_key_by p h (bip.key_id_in body)) is ∙ found_there groups.Igtk p (bip.key_id_in body) ks h r ∙ ap (option_map key_of) none

pub integrity_found : (p : Node) (body : List ℕ) (k : Kept) (ks : List Kept) (h : List Act) (x : Derivation) → session p h ≡ Some x → Remembers groups.Igtk p ks h → found (bip.key_id_in body) ks ≡ Some k → integrity_key p h body ≡ Some (integrity k.key k.id)
integrity_found p body k ks h x is r here_is =
    ap (integrity_key_by p h (bip.key_id_in body)) is ∙ found_there groups.Igtk p (bip.key_id_in body) ks h r ∙ ap (option_map key_of) here_is

-- its counter is the one of the history
pub integrity_counted : (p : Node) (id : ℕ) (k : Kept) (ks : List Kept) (h : List Act) → Remembers groups.Igtk p ks h → found id ks ≡ Some k → IsGot groups.Igtk p k.key k.id h k.counter
integrity_counted p id k ks h r here_is =
    let at = counted groups.Igtk p id k ks h r here_is in
    subst (λ (i : ℕ). IsGot groups.Igtk p k.key i h k.counter) (sym at.0) at.1
