-- The key data of M3 and of G1, and what comes of M3 before it.
use Rattle.std.proofs.Common.{◌≡◌, ℕ, ◌<◌, ◌≤◌, ◌-◌, [], get_or, true, false, List, Option, Some, None, length, drop, refl, sym, ap, subst, ◌∙◌, arith}
use Rattle.std.specs.Prelude.{Bool, not, ◌&&◌, ◌==◌, if◌then◌else◌, bytes_eq, option_map, Result, Ok, Err}
use Rattle.std.proofs.lemmas.Bool.{eq-eqb}
use Rattle.std.specs.Int.{w16}
use Rattle.std.proofs.lemmas.Slice.Eq.{bytes_eq-Decides}
use Rattle.std.proofs.lemmas.List.{append-nil, take_all, length-take}
use Rattle.domain_base.specs.declared.names.Akm.{Akm}
use Rattle.domain_base.specs.Places.{part, big_endian_at}
use Rattle.rsn_elements.specs.declared.framing.Within.TheVariants.{KeyData}
use Rattle.rsn_elements.specs.KeyData.{IgtkKdeFields}
use Rattle.rsn_elements.specs.Elements.{ElementFields, SpellsElements}
use Rattle.domain_base.specs.Octets.{AreOctets}
use Rattle.key_wrap.specs.KeyWrap.{Wraps}
use Rattle.key_wrap.proofs.OutLemmas.{octets_unwrapped}
use Rattle.mac_prf.specs.Mic.{mic}
use Rattle.eapol_key.specs.KeyFrame.{KeyFields, SpellsKeyFrame}
use Rattle.run_journal.specs.declared.acts.KeyDataFault.{KeyDataFault}
use Rattle.run_journal.specs.declared.acts.KeyDataFault.TheVariants as fault
use Rattle.run_journal.specs.declared.acts.Reason.{Reason}
use Rattle.run_journal.specs.declared.acts.Reason.TheVariants as reason
use Rattle.run_journal.specs.declared.acts.Outcome.{Outcome}
use Rattle.run_journal.specs.declared.acts.Outcome.TheVariants.{Accepted, Refused}
use Rattle.domain_rules.specs.Facts.{is_same, ReadsKeyData}
use Rattle.domain_rules.specs.IntegrityKeys.{ipn_value, kde_ipn}
use Rattle.domain_rules.specs.StationKeys.{is_group_key, is_integrity_key, igtk_data}
use Rattle.domain_rules.specs.Asking.{above}
use Rattle.domain_rules.specs.StationRows.{carried_in, carried_igtk_in}
use Rattle.domain_rules.proofs.Peers.{not_same}
use Rattle.group_key.specs.Keys.{is_integrity_id}
use Rattle.group_key.specs.Holds.{under}
use Rattle.domain_rules.proofs.Verdicts.{above-low, above-high}
use Rattle.supplicant.specs.declared.key_data.CarriedKey.{CarriedKey}
use Rattle.supplicant.specs.declared.key_data.CarriedIgtk.{CarriedIgtk}
use Rattle.supplicant.specs.declared.key_data.CarriedKeys.{CarriedKeys}
use Rattle.frame_making.specs.KeyData.{rsne_by}
use Rattle.frame_making.specs.Mobile.{Mobility}
use Rattle.supplicant.specs.declared.base.Base.{Base}
use Rattle.supplicant.specs.KeyData.{group_key, has_rsne, has_mdid_by, has_mdid, has_fte_by, has_fte, element_fault, keys_said, m3_said, said_by, CarriesIgtk, IsPlain, IsOpened}
use Rattle.supplicant.specs.M3.{Under, IsAbove, IsNotAbove, IsVerified, IsM3, before_key_data}

-- ---- how long it is

-- no longer than its length field says
pub key_data_few : (octets : List ℕ) (f : KeyFields) (said : ℕ) → said ≡ big_endian_at w16 97 octets → SpellsKeyFrame octets f (length octets) → length f.key_data ≤ said
key_data_few octets f said is s =
    let size : length octets - 99 ≡ said = omega (arith, is, s.key_data_length) in
    let whole : length f.key_data ≡ length (part 99 (length octets - 99) octets) = ap (λ (g : KeyFields). length g.key_data) s.fields in
    omega (arith, whole, size, length-take (length octets - 99) (drop 99 octets))

pub frame_long : (octets : List ℕ) (f : KeyFields) → SpellsKeyFrame octets f (length octets) → 99 ≤ length octets
frame_long octets f s = omega (arith, s.key_data_length)

-- ---- an IGTK KDE

both_true : (a b : Bool) → a ≡ true → b ≡ true → (a && b) ≡ true
both_true a b first more = rw (first, more) refl

pub igtk_found : (k : IgtkKdeFields) (o : Option IgtkKdeFields) (key : List ℕ) (id ipn : ℕ) → o ≡ Some k → length k.key ≡ 16 → (is_integrity_id k.id ≡ true) × (id ≡ k.id) → key ≡ part 0 16 k.key → ipn ≡ ipn_value k.ipn
    → (is_integrity_key o ≡ true) × ((carried_igtk_in o ≡ group_key (record { key = key; id = id })) × (kde_ipn o ≡ ipn))
igtk_found k o key id ipn is long of same number =
    let whole : k.key ≡ key = sym (same ∙ take_all 16 k.key (omega (arith, long))) in (
      ap is_integrity_key is ∙ both_true (length k.key == 16) (is_integrity_id k.id) (eq-eqb (length k.key) 16 long) of.0,
      (ap carried_igtk_in is ∙ ap (λ (x : List ℕ). under x k.id) whole ∙ ap (λ (n : ℕ). under key n) (sym of.1), ap kde_ipn is ∙ sym number),
    )

-- ---- plain key data

not_read : (protected : Bool) (asked : Option Base) → said_by protected asked None ≡ Refused (reason.KeyData fault.Unreadable)
not_read protected None = refl
not_read protected (Some b) = not_read_by b.akm b.mobility
  where
    not_read_by : (akm : Akm) (o : Option Mobility) → m3_said protected akm o None ≡ Refused (reason.KeyData fault.Unreadable)
    not_read_by akm None = refl
    not_read_by akm (Some m) = refl

-- three elements that are asked for, and what comes of the group keys
abbrev first_of : Bool → Bool → Bool → Option KeyDataFault
first_of a b c = if not a then Some fault.Rsne else if not b then Some fault.Mde else if not c then Some fault.Fte else None

abbrev pub comes_of : Bool → Bool → Bool → Outcome → Outcome
comes_of a b c keys =
    if not a then Refused (reason.KeyData fault.Rsne) else if not b then Refused (reason.KeyData fault.Mde)
    else if not c then Refused (reason.KeyData fault.Fte) else keys

first_refuses : (a b c : Bool) (keys : Outcome) (f : KeyDataFault) → first_of a b c ≡ Some f → comes_of a b c keys ≡ Refused (reason.KeyData f)
first_refuses false b c keys f is = let same : fault.Rsne ≡ f = cc is in ap (λ (x : KeyDataFault). Refused (reason.KeyData x)) same
first_refuses true false c keys f is = let same : fault.Mde ≡ f = cc is in ap (λ (x : KeyDataFault). Refused (reason.KeyData x)) same
first_refuses true true false keys f is = let same : fault.Fte ≡ f = cc is in ap (λ (x : KeyDataFault). Refused (reason.KeyData x)) same
first_refuses true true true keys f is = cc is

none_refuses : (a b c : Bool) (keys : Outcome) → first_of a b c ≡ None → comes_of a b c keys ≡ keys
none_refuses false b c keys is = cc is
none_refuses true false c keys is = cc is
none_refuses true true false keys is = cc is
none_refuses true true true keys is = refl

comes_by : (protected : Bool) (akm : Akm) (o : Option Mobility) (e : ElementFields) → m3_said protected akm o (Some e) ≡ comes_of (is_same e.rsne_octets (Some (rsne_by protected akm (option_map (λ (m : Mobility). m.name) o)))) (has_mdid_by o e.mde) (has_fte_by o e.fte_octets) (keys_said protected e)
comes_by protected akm None e = refl
comes_by protected akm (Some m) e = refl

said_of : (protected : Bool) (asked : Option Base) (e : ElementFields) → said_by protected asked (Some e) ≡ comes_of (has_rsne protected asked e.rsne_octets) (has_mdid asked e.mde) (has_fte asked e.fte_octets) (keys_said protected e)
said_of protected None e = refl
said_of protected (Some b) e = comes_by protected b.akm b.mobility e

pub plain_unreadable : (protected : Bool) (asked : Option Base) (plain : List ℕ) → ReadsKeyData plain None → IsPlain protected asked plain (Err fault.Unreadable)
plain_unreadable protected asked plain reads = record { says = None; reads = reads; is = not_read protected asked }

pub plain_other : (protected : Bool) (asked : Option Base) (plain : List ℕ) (e : ElementFields) (f : KeyDataFault) → SpellsElements KeyData plain e → element_fault protected asked e ≡ Some f → IsPlain protected asked plain (Err f)
plain_other protected asked plain e f spelled is = record {
  says = Some e;
  reads = spelled;
  is = said_of protected asked e ∙ first_refuses (has_rsne protected asked e.rsne_octets) (has_mdid asked e.mde) (has_fte asked e.fte_octets) (keys_said protected e) f is;
}

-- by its group keys, where those elements are there
by_keys : (protected : Bool) (asked : Option Base) (e : ElementFields) → element_fault protected asked e ≡ None → said_by protected asked (Some e) ≡ keys_said protected e
by_keys protected asked e is = said_of protected asked e ∙ none_refuses (has_rsne protected asked e.rsne_octets) (has_mdid asked e.mde) (has_fte asked e.fte_octets) (keys_said protected e) is

-- with a GTK or none
gtk_says : (protected b : Bool) (e : ElementFields) → is_group_key e.gtk ≡ b → keys_said protected e ≡ (if b then igtk_data protected e.igtk else Refused (reason.KeyData fault.Gtk))
gtk_says protected b e is = ap (λ (x : Bool). if x then igtk_data protected e.igtk else Refused (reason.KeyData fault.Gtk)) is

pub plain_gtk : (protected : Bool) (asked : Option Base) (plain : List ℕ) (e : ElementFields) → SpellsElements KeyData plain e → element_fault protected asked e ≡ None → is_group_key e.gtk ≡ false → IsPlain protected asked plain (Err fault.Gtk)
plain_gtk protected asked plain e spelled is none = record { says = Some e; reads = spelled; is = by_keys protected asked e is ∙ gtk_says protected false e none }

pub plain_igtk : (protected : Bool) (asked : Option Base) (plain : List ℕ) (e : ElementFields) (what : KeyDataFault) → SpellsElements KeyData plain e → element_fault protected asked e ≡ None → is_group_key e.gtk ≡ true
    → (what ≡ fault.Igtk) × (igtk_data protected e.igtk ≡ Refused (reason.KeyData fault.Igtk)) → IsPlain protected asked plain (Err what)
plain_igtk protected asked plain e what spelled is key none = record {
  says = Some e;
  reads = spelled;
  is = by_keys protected asked e is ∙ gtk_says protected true e key ∙ none.1 ∙ ap (λ (x : KeyDataFault). Refused (reason.KeyData x)) (sym none.0);
}

pub plain_keys : (protected : Bool) (asked : Option Base) (plain : List ℕ) (e : ElementFields) (c : CarriedKey) (k : Option CarriedIgtk) → SpellsElements KeyData plain e → element_fault protected asked e ≡ None
    → (is_group_key e.gtk ≡ true) × (carried_in e.gtk ≡ group_key c) → (igtk_data protected e.igtk ≡ Accepted) × CarriesIgtk protected e.igtk k → IsPlain protected asked plain (Ok (record { gtk = c; igtk = k }))
plain_keys protected asked plain e c k spelled is key igtk = record {
  says = Some e;
  reads = spelled;
  is = (by_keys protected asked e is ∙ gtk_says protected true e key.0 ∙ igtk.0, (key.1, igtk.1));
}

-- ---- wrapped key data

are_octets : (kek : List ℕ) → ((k : ℕ) → get_or kek k 0 < 256) → AreOctets kek
are_octets kek low = octets_unwrapped kek [] (subst (λ (x : List ℕ). (k : ℕ) → get_or x k 0 < 256) (sym (append-nil kek)) low)

reads_plain : (plain : List ℕ) (says : Option ElementFields) → ReadsKeyData plain says → (p : List ℕ) → Some plain ≡ Some p → ReadsKeyData p says
reads_plain plain says reads p is = let same : plain ≡ p = cc in subst (λ (x : List ℕ). ReadsKeyData x says) same reads

pub opened_not : (protected : Bool) (asked : Option Base) (kek octets : List ℕ) → ((plain : List ℕ) → Wraps kek plain octets → ⊥) → IsOpened protected asked kek octets (Err reason.Wrap)
opened_not protected asked kek octets none = record { plain = None; says = None; unwrapped = λ plain are wraps. none plain wraps; reads = λ p is. cc is; is = refl }

pub opened_key : (protected : Bool) (asked : Option Base) (kek octets plain front : List ℕ) (c : CarriedKeys) → ((k : ℕ) → get_or kek k 0 < 256) → Wraps kek front octets → plain ≡ front → IsPlain protected asked plain (Ok c) → IsOpened protected asked kek octets (Ok c)
opened_key protected asked kek octets plain front c are wraps same read = record { plain = Some plain; says = read.says; unwrapped = (are_octets kek are, subst (λ (x : List ℕ). Wraps kek x octets) (sym same) wraps); reads = reads_plain plain read.says read.reads; is = read.is }

pub opened_fault : (protected : Bool) (asked : Option Base) (kek octets plain front : List ℕ) (f : KeyDataFault) → ((k : ℕ) → get_or kek k 0 < 256) → Wraps kek front octets → plain ≡ front → IsPlain protected asked plain (Err f) → IsOpened protected asked kek octets (Err (reason.KeyData f))
opened_fault protected asked kek octets plain front f are wraps same read = record { plain = Some plain; says = read.says; unwrapped = (are_octets kek are, subst (λ (x : List ℕ). Wraps kek x octets) (sym same) wraps); reads = reads_plain plain read.says read.reads; is = read.is }

-- ---- before it

pub high_counter : (kept : Option ℕ) (counter : ℕ) → IsAbove kept counter → (o : Outcome) → above kept counter o ≡ o
high_counter None counter high o = refl
high_counter (Some k) counter high o = above-high k counter o high

pub low_counter : (kept : Option ℕ) (counter was : ℕ) → IsNotAbove kept counter was → (o : Outcome) → above kept counter o ≡ Refused (reason.Counter was)
low_counter None counter was low o = absurd low
low_counter (Some k) counter was low o = above-low k counter o low.1 ∙ ap (λ (x : ℕ). Refused (reason.Counter x)) (sym low.0)

-- where nothing was told yet
before : (u : Under) (f : KeyFields) (octets : List ℕ) (why : Reason) (v : Option (List ℕ)) → v ≡ None → ((o : Outcome) → before_key_data u f octets o ≡ Refused why) → IsM3 u f octets (Err why) v
before u f octets why v none is = subst (λ (x : Option (List ℕ)). IsM3 u f octets (Err why) x) (sym none) is

pub counter_low : (u : Under) (f : KeyFields) (octets : List ℕ) (was : ℕ) (v : Option (List ℕ)) → v ≡ None → IsNotAbove u.kept f.counter was → IsM3 u f octets (Err (reason.Counter was)) v
counter_low u f octets was v none low = before u f octets (reason.Counter was) v none (λ o. low_counter u.kept f.counter was low _)

pub nonce_other : (u : Under) (f : KeyFields) (octets : List ℕ) (v : Option (List ℕ)) → v ≡ None → IsAbove u.kept f.counter → (f.nonce ≡ u.key.anonce → ⊥) → IsM3 u f octets (Err reason.Nonce) v
nonce_other u f octets v none high other =
    let unlike = not_same f.nonce u.key.anonce other in
    before u f octets reason.Nonce v none (λ o. high_counter u.kept f.counter high _ ∙ rw unlike refl)

pub same_octets : (a b : List ℕ) → a ≡ b → bytes_eq a b ≡ true
same_octets a b same = (bytes_eq-Decides a b).1 same

pub mic_other : (u : Under) (f : KeyFields) (octets : List ℕ) (v : Option (List ℕ)) → v ≡ None → IsAbove u.kept f.counter → f.nonce ≡ u.key.anonce → (f.mic ≡ mic u.base.akm u.key.ptk.kck octets → ⊥) → IsM3 u f octets (Err reason.Mic) v
mic_other u f octets v none high same other =
    let alike = same_octets f.nonce u.key.anonce same in
    let unlike = not_same f.mic (mic u.base.akm u.key.ptk.kck octets) other in
    before u f octets reason.Mic v none (λ o. high_counter u.kept f.counter high _ ∙ rw (alike, unlike) refl)

pub is_verified : (u : Under) (f : KeyFields) (octets : List ℕ) (r : Result CarriedKeys Reason) → IsAbove u.kept f.counter → f.nonce ≡ u.key.anonce → f.mic ≡ mic u.base.akm u.key.ptk.kck octets → IsOpened u.protected (Some u.base) u.key.ptk.kek f.key_data r
    → IsM3 u f octets r (Some u.key.ptk.kck)
is_verified u f octets r high same verifies opened =
    let alike = same_octets f.nonce u.key.anonce same in
    let right = same_octets f.mic (mic u.base.akm u.key.ptk.kck octets) verifies in
    (refl, record { comes = λ o. (high_counter u.kept f.counter high _ ∙ rw (alike, right) refl); opened = opened })

-- ---- by what was told

-- a group key is that of a frame that verified
pub agreed : (u : Under) (f : KeyFields) (octets : List ℕ) (c : CarriedKeys) (v : Option (List ℕ)) → IsM3 u f octets (Ok c) v → (v ≡ Some u.key.ptk.kck) × IsVerified u f octets (Ok c)
agreed u f octets c None is = absurd is
agreed u f octets c (Some kck) is = (ap (λ (x : List ℕ). Some x) is.0, is.1)
