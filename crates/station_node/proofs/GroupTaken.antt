-- A frame for a group that a station takes, by what its code did: under a GTK, or an Action frame under an IGTK.
use Rattle.std.proofs.Common.{◌≡◌, ◌∙◌, ◌++◌, ◌<◌, ℕ, Bool, true, false, cond, List, [], ◌∷◌, length, Option, Some, None, refl, sym, ap, subst, eqb-true, arith}
use Rattle.std.specs.Prelude.{◌==◌, ◌||◌, slice_index, option_map, IfSome, if◌then◌else◌}
use Rattle.domain_base.specs.declared.names.Node.TheVariants.{Ap}
use Rattle.ccmp_guard.specs.Ccmp.{packet_number, key_id_in}
use Rattle.ccmp_guard.specs.Held.{Held}
use Rattle.std.proofs.lemmas.Bool.{ne_eqb}
use Rattle.std.proofs.lemmas.List.{drop_at}
use Rattle.std.proofs.lemmas.List.Elements.{All-drop}
use Rattle.domain_base.specs.Octets.{AreOctets}
use Rattle.domain_base.proofs.OctetLemmas.{get_or_below}
use Rattle.bip_guard.specs.Bip.{ipn_in}
use Rattle.bip_guard.specs.Bip as bip
use Rattle.run_journal.specs.declared.acts.GroupKind.TheVariants as groups
use Rattle.run_journal.specs.declared.acts.Outcome.{Outcome}
use Rattle.run_journal.specs.declared.acts.Outcome.TheVariants.{Accepted}
use Rattle.node_base.specs.Events.{Seen}
use Rattle.frame_intake.specs.SealedFields.{SealedFields, IsSealedData}
use Rattle.frame_intake.specs.ActionFields.{ActionFields}
use Rattle.data_frames.specs.Actions.{integrity, action_outcome, action_acts}
use Rattle.data_frames.specs.Holding.{kept_key}
use Rattle.data_frames.specs.Taking.{IsOpenedUnder}
use Rattle.run_journal.specs.Acts.{GroupKey}
use Rattle.group_key.specs.Keys.{Kept, Memories, found, taken, is_integrity_id, kept_in, with_kept}
use Rattle.group_key.specs.Holds.{AreOfKind}
use Rattle.station_node.specs.GroupData.{counters_after, with_gtks, with_igtks, IsGroupTaken, Under, IsActionTaken, Tried}

id_by : (c : Bool) (id : ℕ) (x k : Kept) (o : Option Kept) → (x.id == id) ≡ c → (o ≡ Some k → k.id ≡ id) → cond c (Some x) o ≡ Some k → k.id ≡ id
id_by true id x k o here more is =
    let this : x ≡ k = cc is in
    subst (λ (y : Kept). y.id ≡ id) this (eqb-true x.id id here)
id_by false id x k o other more is = more is

found_id : (id : ℕ) (k : Kept) (ks : List Kept) → found id ks ≡ Some k → k.id ≡ id
found_id id k [] is = absurd (cc is)
found_id id k (x ∷ ks) is = id_by (x.id == id) id x k (found id ks) refl (found_id id k ks) is

abbrev first_of : Option (List ℕ × ℕ) → List ℕ
first_of None = []
first_of (Some x) = x.0

abbrev second_of : Option (List ℕ × ℕ) → ℕ
second_of None = 0
second_of (Some x) = x.1

kept_as : (a : ℕ) (octets : List ℕ) (f : SealedFields) (after : Held) (s : Seen) (key : List ℕ) (id counter : ℕ) (k : Kept) → k.id ≡ id → ◌≡◌ {A = Option (List ℕ × ℕ)} (Some (key, counter)) (Some (k.key, k.counter)) → IsOpenedUnder (Ap a) octets f (kept_key key id counter) after s
    → IsOpenedUnder (Ap a) octets f (kept_key k.key k.id k.counter) after s
kept_as a octets f after s key id counter k ids same o =
    let keys : key ≡ k.key = ap first_of same in
    let counters : counter ≡ k.counter = ap second_of same in
    subst (λ (n : ℕ). IsOpenedUnder (Ap a) octets f (kept_key k.key k.id n) after s) counters
    (subst (λ (i : ℕ). IsOpenedUnder (Ap a) octets f (kept_key k.key i counter) after s) (sym ids)
    (subst (λ (y : List ℕ). IsOpenedUnder (Ap a) octets f (kept_key y id counter) after s) keys o))

-- ---- which of the memories a key id is one of

data_octets : (f : SealedFields) → IsSealedData f → AreOctets f.body
data_octets f whole =
    subst AreOctets (drop_at f.header.octets f.body (length f.header.octets) refl) (All-drop (λ octet. octet < 256) (length f.header.octets) (f.header.octets ++ f.body) whole.octets)

low_id : (n : ℕ) → n < 4 → is_integrity_id n ≡ false
low_id n low = rw (ne_eqb n 4 (λ e. omega (arith, low, e)), ne_eqb n 5 (λ e. omega (arith, low, e))) refl

-- the key id of protected data has two bits
pub data_id : (f : SealedFields) → IsSealedData f → is_integrity_id (key_id_in f.body) ≡ false
data_id f whole =
    let octet : slice_index f.body 3 < 256 = get_or_below f.body 3 (data_octets f whole) in
    let low : key_id_in f.body < 4 = omega (arith, octet) in
    low_id (key_id_in f.body) low

pub kept_gtks : (id : ℕ) (m : Memories) → is_integrity_id id ≡ false → kept_in id m ≡ m.gtks
kept_gtks id m is = ap (λ (b : Bool). if b then m.igtks else m.gtks) is

pub kept_igtks : (id : ℕ) (m : Memories) → is_integrity_id id ≡ true → kept_in id m ≡ m.igtks
kept_igtks id m is = ap (λ (b : Bool). if b then m.igtks else m.gtks) is

-- where a key id is none of IGTKs, none of them has it
none_by : (id : ℕ) (x : Kept) (o : Option Kept) (c : Bool) → (x.id == id) ≡ c → is_integrity_id id ≡ false → is_integrity_id x.id ≡ true → o ≡ None → cond c (Some x) o ≡ None
none_by id x o true here other of none = absurd (let same : x.id ≡ id = eqb-true x.id id here in cc (ap is_integrity_id same, other, of))
none_by id x o false here other of none = none

pub none_found : (id : ℕ) (ks : List Kept) → is_integrity_id id ≡ false → AreOfKind groups.Igtk ks → found id ks ≡ None
none_found id [] other of = refl
none_found id (x ∷ ks) other of = none_by id x (found id ks) (x.id == id) refl other of.0 (none_found id ks other of.1)

-- ---- what was taken

-- the memories after a frame of which that came: the number is taken where it was accepted
abbrev pub taken_after : Outcome → ℕ → ℕ → Memories → Memories
taken_after Accepted id number m = with_kept id (taken id number (kept_in id m)) m
taken_after _ id number m = m

-- what was not accepted moves no counter
pub no_counter : (o : Outcome) (id number : ℕ) (m : Memories) → (o ≡ Accepted → ⊥) → taken_after o id number m ≡ m
no_counter Accepted id number m other = absurd (other refl)
no_counter _ id number m other = refl

gtks_after : (o : Outcome) (id number : ℕ) (m : Memories) → is_integrity_id id ≡ false → taken_after o id number m ≡ with_gtks (counters_after o id number m.gtks) m
gtks_after Accepted id number m is = rw is refl
gtks_after _ id number m is = refl

igtks_after : (o : Outcome) (id number : ℕ) (m : Memories) → is_integrity_id id ≡ true → taken_after o id number m ≡ with_igtks (counters_after o id number m.igtks) m
igtks_after Accepted id number m is = rw is refl
igtks_after _ id number m is = refl

abbrev Found : List ℕ → ℕ → Option Kept → Type 0
Found key counter o = ◌≡◌ {A = Option (List ℕ × ℕ)} (Some (key, counter)) (option_map (λ (k : Kept). (k.key, k.counter)) o)

pub group_taken : (a : ℕ) (octets : List ℕ) (f : SealedFields) (old new : Memories) (id : ℕ) (key : List ℕ) (counter : ℕ) (after : Held) (s : Seen) → IsSealedData f → id ≡ key_id_in f.body → Found key counter (found id (kept_in id old))
    → IsOpenedUnder (Ap a) octets f (kept_key key id counter) after s → new ≡ taken_after s.outcome id (packet_number f.body) old → IsGroupTaken a octets f old new s
group_taken a octets f old new id key counter after s whole id_is found_is o new_is =
    let of_data : is_integrity_id id ≡ false = ap is_integrity_id id_is ∙ data_id f whole in
    by of_data (found id old.gtks) refl (subst (λ (ks : List Kept). Found key counter (found id ks)) (kept_gtks id old of_data) found_is)
  where
    by : is_integrity_id id ≡ false → (x : Option Kept) → found id old.gtks ≡ x → Found key counter x → IsGroupTaken a octets f old new s
    by of_data None there is = absurd (cc is)
    by of_data (Some k) there is =
        Under k after (subst (λ (i : ℕ). found i old.gtks ≡ Some k) id_is there) (kept_as a octets f after s key id counter k (found_id id k old.gtks there) is o)
        (new_is ∙ gtks_after s.outcome id (packet_number f.body) old of_data ∙ ap (λ (i : ℕ). with_gtks (counters_after s.outcome i (packet_number f.body) old.gtks) old) id_is)

-- none is kept with the key id of protected data
no_gtk : (o : Option Kept) → ◌≡◌ {A = Option (List ℕ × ℕ)} (option_map (λ (k : Kept). (k.key, k.counter)) o) None → o ≡ None
no_gtk None is = refl
no_gtk (Some k) is = absurd (cc is)

pub none_kept : (f : SealedFields) (m : Memories) (id : ℕ) → IsSealedData f → id ≡ key_id_in f.body → ◌≡◌ {A = Option (List ℕ × ℕ)} (option_map (λ (k : Kept). (k.key, k.counter)) (found id (kept_in id m))) None → found (key_id_in f.body) m.gtks ≡ None
none_kept f m id whole id_is none =
    let of_data : is_integrity_id id ≡ false = ap is_integrity_id id_is ∙ data_id f whole in
    subst (λ (i : ℕ). found i m.gtks ≡ None) id_is (subst (λ (ks : List Kept). found id ks ≡ None) (kept_gtks id m of_data) (no_gtk (found id (kept_in id m)) none))

-- the number that is taken is above the counter of the key that was found
pub found_below : (id : ℕ) (key : List ℕ) (counter number : ℕ) (ks : List Kept) → Found key counter (found id ks) → counter < number → IfSome (found id ks) (λ k. k.counter < number)
found_below id key counter number ks is low = by (found id ks) is
  where
    by : (o : Option Kept) → Found key counter o → IfSome o (λ k. k.counter < number)
    by None is = absurd (cc is)
    by (Some k) is = let same : counter ≡ k.counter = ap second_of is in subst (λ (n : ℕ). n < number) same low

-- ---- an Action frame

pub none_kept_there : (f : ActionFields) (m : Memories) (id : ℕ) → id ≡ bip.key_id_in f.body → is_integrity_id id ≡ true → ◌≡◌ {A = Option (List ℕ × ℕ)} (option_map (λ (k : Kept). (k.key, k.counter)) (found id (kept_in id m))) None → found (bip.key_id_in f.body) m.igtks ≡ None
none_kept_there f m id id_is of none =
    subst (λ (i : ℕ). found i m.igtks ≡ None) id_is (subst (λ (ks : List Kept). found id ks ≡ None) (kept_igtks id m of) (no_gtk (found id (kept_in id m)) none))

integrity_as : (key : List ℕ) (id counter : ℕ) (k : Kept) → k.id ≡ id → Found key counter (Some k) → (integrity key id ≡ integrity k.key k.id) × (counter ≡ k.counter)
integrity_as key id counter k ids same =
    let keys : key ≡ k.key = ap first_of same in
    (rw (keys, ids) refl, ap second_of same)

pub action_taken : (a : ℕ) (octets : List ℕ) (f : ActionFields) (old new : Memories) (id : ℕ) (key : List ℕ) (counter : ℕ) (s : Seen) → id ≡ bip.key_id_in f.body → is_integrity_id id ≡ true → Found key counter (found id (kept_in id old))
    → s.outcome ≡ action_outcome f (integrity key id) counter → s.waits ≡ s.waited ++ action_acts (Ap a) octets f (integrity key id) (action_outcome f (integrity key id) counter)
    → new ≡ taken_after s.outcome id (ipn_in f.body) old → IsActionTaken a octets f old new s
action_taken a octets f old new id key counter s id_is of found_is came acts new_is =
    by (found id old.igtks) refl (subst (λ (ks : List Kept). Found key counter (found id ks)) (kept_igtks id old of) found_is)
  where
    by : (x : Option Kept) → found id old.igtks ≡ x → Found key counter x → IsActionTaken a octets f old new s
    by None there is = absurd (cc is)
    by (Some k) there is =
        let same = integrity_as key id counter k (found_id id k old.igtks there) is in
        let outcome : s.outcome ≡ action_outcome f (integrity k.key k.id) k.counter =
        came ∙ ap (λ (g : GroupKey). action_outcome f g counter) same.0 ∙ ap (action_outcome f (integrity k.key k.id)) same.1 in
        Tried k (subst (λ (i : ℕ). found i old.igtks ≡ Some k) id_is there) outcome
        (acts ∙ ap (λ (o : Outcome). s.waited ++ action_acts (Ap a) octets f (integrity key id) o) (sym came) ∙ ap (λ (g : GroupKey). s.waited ++ action_acts (Ap a) octets f g s.outcome) same.0)
        (new_is ∙ igtks_after s.outcome id (ipn_in f.body) old of ∙ ap (λ (i : ℕ). with_igtks (counters_after s.outcome i (ipn_in f.body) old.igtks) old) id_is)
