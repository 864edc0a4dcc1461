-- The key ids of group keys: an accepted one is other than 0.
use Rattle.std.proofs.Common.{◌≡◌, ℕ, zero, suc, ◌<◌, ◌%◌, Bool, true, false, cond, List, [], ◌∷◌, Option, Some, None, refl, sym, ap, subst, ◌∙◌, arith}
use Rattle.std.specs.Prelude.{◌==◌, not, ◌&&◌, bytes_eq, max, take, length, slice_index, if◌then◌else◌, Ok}
use Rattle.domain_base.specs.declared.names.Akm.{Akm}
use Rattle.rsn_elements.specs.declared.framing.Within.TheVariants.{KeyData}
use Rattle.rsn_elements.specs.Framing.{Element, Says}
use Rattle.rsn_elements.specs.Elements.{ElementFields, SpellsElements, AGtkKde, is as is_element}
use Rattle.rsn_elements.specs.KeyData.{GtkKdeFields, SpellsGtkKde, IgtkKdeFields}
use Rattle.run_journal.specs.declared.acts.Reason.{Reason}
use Rattle.run_journal.specs.declared.acts.Reason.TheVariants as reason
use Rattle.run_journal.specs.declared.acts.KeyDataFault.TheVariants as key_data
use Rattle.run_journal.specs.declared.acts.Outcome.{Outcome}
use Rattle.run_journal.specs.declared.acts.Outcome.TheVariants.{Accepted, Refused}
use Rattle.run_journal.specs.Acts.{GroupKey}
use Rattle.domain_rules.specs.Facts.{is_same, ReadsKeyData}
use Rattle.domain_rules.specs.StationKeys.{is_group_key, is_integrity_key, igtk_data}
use Rattle.domain_rules.specs.StationRows.{carried_in, carried, carried_igtk_in}
use Rattle.group_key.specs.Keys.{Kept, has_key, raised, given, is_integrity_id}
use Rattle.supplicant.specs.declared.key_data.CarriedKey.{CarriedKey}
use Rattle.supplicant.specs.declared.key_data.CarriedKeys.{CarriedKeys}
use Rattle.supplicant.specs.KeyData.{group_key, has_mdid_by, keys_said, m3_said, wrapped_by, IsWrappedSaid}
use Rattle.frame_making.specs.KeyData.{rsne_by}
use Rattle.supplicant.specs.declared.base.Base.{Base}
use Rattle.frame_making.specs.Mobile.{Mobility}
use Rattle.supplicant.specs.Taken.{HaveGroupIds}

-- ---- that of an accepted group key

if_accepted : (b : Bool) (why : Reason) → (if b then Accepted else Refused why) ≡ Accepted → b ≡ true
if_accepted true why is = refl
if_accepted false why is = cc is

unless_accepted : (b : Bool) (why : Reason) (o : Outcome) → (if b then Refused why else o) ≡ Accepted → o ≡ Accepted
unless_accepted true why o is = cc is
unless_accepted false why o is = is

other_id : (a b : Bool) → (a && not b) ≡ true → b ≡ false
other_id true false is = refl
other_id true true is = cc is
other_id false b is = cc is

group_id : (o : Option GtkKdeFields) (c : CarriedKey) → is_group_key o ≡ true → carried_in o ≡ group_key c → (c.id == 0) ≡ false
group_id None c is same = cc is
group_id (Some g) c is same =
    let ids : g.id ≡ c.id = ap (λ (x : GroupKey). x.id) same in
    subst (λ (n : ℕ). (n == 0) ≡ false) ids (other_id (length g.key == 16) (g.id == 0) is)

-- key data is accepted by a GTK, and what comes of the IGTK
keys_by : (b : Bool) (why : Reason) (o : Outcome) → (if b then o else Refused why) ≡ Accepted → (b ≡ true) × (o ≡ Accepted)
keys_by true why o is = (refl, is)
keys_by false why o is = cc is

pub keys_accepted : (protected : Bool) (e : ElementFields) → keys_said protected e ≡ Accepted → (is_group_key e.gtk ≡ true) × (igtk_data protected e.igtk ≡ Accepted)
keys_accepted protected e is = keys_by (is_group_key e.gtk) (reason.KeyData key_data.Gtk) (igtk_data protected e.igtk) is

said_keys : (protected : Bool) (akm : Akm) (o : Option Mobility) (e : ElementFields) → m3_said protected akm o (Some e) ≡ Accepted → keys_said protected e ≡ Accepted
said_keys protected akm None e is = unless_accepted (not (is_same e.rsne_octets (Some (rsne_by protected akm None)))) (reason.KeyData key_data.Rsne) (keys_said protected e) is
said_keys protected akm (Some m) e is =
    let has_fte : Bool = is_same e.fte_octets (Some m.fte) in
    let behind_fte : Outcome = if not has_fte then Refused (reason.KeyData key_data.Fte) else keys_said protected e in
    let has_mde : Bool = has_mdid_by (Some m) e.mde in
    let behind_mde : Outcome = if not has_mde then Refused (reason.KeyData key_data.Mde) else behind_fte in
    unless_accepted (not has_fte) (reason.KeyData key_data.Fte) (keys_said protected e)
    (unless_accepted (not has_mde) (reason.KeyData key_data.Mde) behind_fte
    (unless_accepted (not (is_same e.rsne_octets (Some (rsne_by protected akm (Some m.name))))) (reason.KeyData key_data.Rsne) behind_mde is))

unsaid : (protected : Bool) (akm : Akm) (o : Option Mobility) → m3_said protected akm o None ≡ Accepted → ⊥
unsaid protected akm None is = cc is
unsaid protected akm (Some m) is = cc is

-- what was accepted says elements, and its group keys are accepted
pub says_keys : (protected : Bool) (asked : Option Base) (plain : Option (List ℕ)) (says : Option ElementFields) → wrapped_by protected asked plain says ≡ Accepted → (e : ElementFields) × ((says ≡ Some e) × (keys_said protected e ≡ Accepted))
says_keys protected asked None says is = absurd (cc is)
says_keys protected None (Some plain) None is = absurd (cc is)
says_keys protected None (Some plain) (Some e) is = (e, (refl, is))
says_keys protected (Some b) (Some plain) None is = absurd (unsaid protected b.akm b.mobility is)
says_keys protected (Some b) (Some plain) (Some e) is = (e, (refl, said_keys protected b.akm b.mobility e is))

pub carried_id : (protected : Bool) (asked : Option Base) (plain : Option (List ℕ)) (says : Option ElementFields) (c : CarriedKeys) → IsWrappedSaid protected asked plain says (Ok c) → (c.gtk.id == 0) ≡ false
carried_id protected asked plain says c is =
    let found = says_keys protected asked plain says is.0 in
    let e : ElementFields = found.0 in
    group_id e.gtk c.gtk (keys_accepted protected e found.1.1).0 (ap carried (sym found.1.0) ∙ is.1.0)

-- that of a GTK has two bits, and is none of IGTKs
low_id : (m : ℕ) → m < 4 → is_integrity_id m ≡ false
low_id zero low = refl
low_id (suc zero) low = refl
low_id (suc (suc zero)) low = refl
low_id (suc (suc (suc zero))) low = refl
low_id (suc (suc (suc (suc m)))) low = absurd (omega (arith, low))

two_bits : (n : ℕ) → is_integrity_id (n % 4) ≡ false
two_bits n = low_id (n % 4) (omega arith)

kde_id : (es : List Element) (o : Option GtkKdeFields) (c : CarriedKey) → Says (is_element KeyData AGtkKde) SpellsGtkKde es o → is_group_key o ≡ true → carried_in o ≡ group_key c → is_integrity_id c.id ≡ false
kde_id es None c says is same = absurd (cc is)
kde_id es (Some g) c says is same =
    let spelled : SpellsGtkKde says.0.body g = says.2 in
    let ids : g.id ≡ c.id = ap (λ (x : GroupKey). x.id) same in
    subst (λ (n : ℕ). is_integrity_id n ≡ false) ids (ap (λ (x : GtkKdeFields). is_integrity_id x.id) spelled.1 ∙ two_bits (slice_index says.0.body 4))

pub gtk_id : (protected : Bool) (asked : Option Base) (plain : Option (List ℕ)) (says : Option ElementFields) (c : CarriedKeys) → ((p : List ℕ) → plain ≡ Some p → ReadsKeyData p says) → IsWrappedSaid protected asked plain says (Ok c) → is_integrity_id c.gtk.id ≡ false
gtk_id protected asked None says c reads is = let no : Refused reason.Wrap ≡ Accepted = is.0 in absurd (cc no)
gtk_id protected asked (Some p) says c reads is =
    let found = says_keys protected asked (Some p) says is.0 in
    let e : ElementFields = found.0 in
    let spelled : SpellsElements KeyData p e = subst (λ (o : Option ElementFields). ReadsKeyData p o) found.1.0 (reads p refl) in
    kde_id spelled.elements e.gtk c.gtk spelled.tells.gtk (keys_accepted protected e found.1.1).0 (ap carried (sym found.1.0) ∙ is.1.0)

-- the key id of an IGTK is one of IGTKs
integrity_by : (a b : Bool) → (a && b) ≡ true → b ≡ true
integrity_by true b is = is
integrity_by false b is = cc is

igtk_accepted : (o : Option IgtkKdeFields) → igtk_data true o ≡ Accepted → is_integrity_key o ≡ true
igtk_accepted o is = if_accepted (is_integrity_key o) (reason.KeyData key_data.Igtk) is

pub integrity_id : (o : Option IgtkKdeFields) (c : CarriedKey) → igtk_data true o ≡ Accepted → carried_igtk_in o ≡ group_key c → is_integrity_id c.id ≡ true
integrity_id None c is same = absurd (cc (igtk_accepted None is))
integrity_id (Some k) c is same =
    let ids : k.id ≡ c.id = ap (λ (x : GroupKey). x.id) same in
    subst (λ (n : ℕ). is_integrity_id n ≡ true) ids (integrity_by (length k.key == 16) (is_integrity_id k.id) (igtk_accepted (Some k) is))

-- ---- those of the keys that are kept

raised_by : (b : Bool) (key : List ℕ) (rsc : ℕ) (k : Kept) (ks : List Kept) → (k.id == 0) ≡ false → HaveGroupIds ks → HaveGroupIds (raised key rsc ks)
    → HaveGroupIds (cond b (record { key = k.key; id = k.id; counter = max rsc k.counter } ∷ ks) (k ∷ raised key rsc ks))
raised_by true key rsc k ks id ids more = (id, ids)
raised_by false key rsc k ks id ids more = (id, more)

ids_raised : (key : List ℕ) (rsc : ℕ) (ks : List Kept) → HaveGroupIds ks → HaveGroupIds (raised key rsc ks)
ids_raised key rsc [] ids = tt
ids_raised key rsc (k ∷ ks) ids = raised_by (bytes_eq key k.key) key rsc k ks ids.0 ids.1 (ids_raised key rsc ks ids.1)

ids_first : (ks : List Kept) → HaveGroupIds ks → HaveGroupIds (take 1 ks)
ids_first [] ids = tt
ids_first (k ∷ ks) ids = (ids.0, tt)

given_by : (b : Bool) (key : List ℕ) (id rsc : ℕ) (ks : List Kept) → (id == 0) ≡ false → HaveGroupIds ks → HaveGroupIds (cond b (raised key rsc ks) (take 2 (record { key = key; id = id; counter = rsc } ∷ ks)))
given_by true key id rsc ks new ids = ids_raised key rsc ks ids
given_by false key id rsc ks new ids = (new, ids_first ks ids)

pub ids_given : (key : List ℕ) (id rsc : ℕ) (ks : List Kept) → (id == 0) ≡ false → HaveGroupIds ks → HaveGroupIds (given key id rsc ks)
ids_given key id rsc ks new ids = given_by (has_key key ks) key id rsc ks new ids
