-- The group keys that a message carries, as a station takes them.
use Rattle.std.proofs.Common.{◌≡◌, ℕ, ◌+◌, ◌-◌, Bool, true, false, cond, List, [], ◌∷◌, take, drop, Option, Some, None, refl, sym, ap, subst, ◌∙◌, arith}
use Rattle.std.specs.Prelude.{if◌then◌else◌, Ok}
use Rattle.std.specs.Int.{w16, from_be_bytes}
use Rattle.std.proofs.lemmas.List.{drop-drop}
use Rattle.domain_base.specs.Places.{part, big_endian_at}
use Rattle.domain_base.specs.declared.names.Akm.{Akm}
use Rattle.domain_base.specs.declared.names.Node.{Node}
use Rattle.domain_base.specs.declared.names.Peer.TheVariants.{One}
use Rattle.air_frame.specs.Control.{data_header_length}
use Rattle.rsn_elements.specs.KeyData.{IgtkKdeFields}
use Rattle.rsn_elements.specs.Elements.{ElementFields}
use Rattle.eapol_key.specs.KeyFrame.{KeyFields}
use Rattle.run_journal.specs.declared.domain.Domain.{Domain}
use Rattle.run_journal.specs.Events.{protects}
use Rattle.run_journal.specs.declared.acts.GroupKind.{GroupKind}
use Rattle.run_journal.specs.declared.acts.GroupKind.TheVariants as groups
use Rattle.run_journal.specs.declared.acts.Key.TheVariants.{Group}
use Rattle.run_journal.specs.declared.acts.Outcome.TheVariants.{Accepted}
use Rattle.run_journal.specs.declared.acts.Act.{Act}
use Rattle.run_journal.specs.declared.acts.Act.TheVariants.{Installed, Resumed}
use Rattle.run_journal.specs.declared.reply.GtkNews.{GtkNews}
use Rattle.run_journal.specs.Acts.{GroupKey}
use Rattle.domain_rules.specs.Network.{mac}
use Rattle.domain_rules.specs.Facts.{IsUnwrapped, ReadsKeyData}
use Rattle.domain_rules.specs.Reading.{KeyMessage, Keyed, Reads}
use Rattle.domain_rules.specs.Replies.{group_acts}
use Rattle.domain_rules.specs.GroupKeys.{GivenKeys, give_by, give, give_igtk, give_all}
use Rattle.domain_rules.specs.IntegrityKeys.{key_data_in, kde_ipn, data_ipn, ReadsPlain, TellsIpn}
use Rattle.domain_rules.specs.StationKeys.{igtk_data}
use Rattle.domain_rules.specs.StationRows.{carried_igtk_in, carried_igtk, carried_keys}
use Rattle.group_key.specs.Keys.{Kept, Memories, kept_id, given, is_integrity_id}
use Rattle.group_key.specs.Holds.{Remembers, RemembersAll}
use Rattle.group_key.proofs.Keeping.{found_in, found_as}
use Rattle.supplicant.specs.declared.base.Base.{Base}
use Rattle.supplicant.specs.declared.key_data.CarriedKey.{CarriedKey}
use Rattle.supplicant.specs.declared.key_data.CarriedIgtk.{CarriedIgtk}
use Rattle.supplicant.specs.declared.key_data.CarriedKeys.{CarriedKeys}
use Rattle.supplicant.specs.KeyData.{group_key, news_of, news_in, given_to, igtk_news_in, igtk_given, came, all_given, wrapped_by, igtk_said, CarriesIgtk, IsOpened}
use Rattle.supplicant.specs.Taken.{HaveGroupIds}
use Rattle.supplicant.proofs.GroupIds.{says_keys, keys_accepted, carried_id, gtk_id, integrity_id, ids_given}

-- ---- which keys they are

-- an IGTK is given where management frames are protected, under a key id of IGTKs; else none is
abbrev pub GivesIgtk : Bool → GroupKey → Option CarriedIgtk → Type 0
GivesIgtk false g k = k ≡ None
GivesIgtk true g None = ⊥
GivesIgtk true g (Some z) = (g ≡ group_key z.igtk) × (is_integrity_id z.igtk.id ≡ true)

-- the keys that the history is given are those that were carried, each under a key id of its kind
pub record AreGiven (protected : Bool) (c : CarriedKeys) (keys : GivenKeys) : Type 0 where
  pub gtk_is : keys.gtk ≡ group_key c.gtk
  pub plain : is_integrity_id c.gtk.id ≡ false
  pub igtk : GivesIgtk protected keys.igtk c.igtk

igtk_as : (says : Option ElementFields) → carried_igtk says ≡ carried_igtk_in (igtk_said says)
igtk_as None = refl
igtk_as (Some e) = refl

gives_igtk : (protected : Bool) (says : Option ElementFields) (e : ElementFields) (k : Option CarriedIgtk) → says ≡ Some e → igtk_data protected e.igtk ≡ Accepted → CarriesIgtk protected (igtk_said says) k → GivesIgtk protected (carried_igtk says) k
gives_igtk false says e k is accepted none = none
gives_igtk true says e None is accepted none = absurd none
gives_igtk true says e (Some z) is accepted carried = (
  igtk_as says ∙ carried.0,
  integrity_id e.igtk z.igtk accepted (ap (λ (o : Option ElementFields). carried_igtk_in (igtk_said o)) (sym is) ∙ carried.0),
)

pub are_given : (protected : Bool) (asked : Option Base) (kek octets : List ℕ) (c : CarriedKeys) (o : IsOpened protected asked kek octets (Ok c)) → AreGiven protected c (carried_keys o.says)
are_given protected asked kek octets c o =
    let found = says_keys protected asked o.plain o.says o.is.0 in
    let e : ElementFields = found.0 in
    record {
      gtk_is = o.is.1.0;
      plain = gtk_id protected asked o.plain o.says c o.reads o.is;
      igtk = gives_igtk protected o.says e c.igtk found.1.0 (keys_accepted protected e found.1.1).1 o.is.1.1;
    }

-- ---- what is told of the IGTK

-- the key data of octets is that of the message that they read as
pub reads_key_data : (akm : Akm) (octets : List ℕ) (k : KeyMessage) → Reads akm octets (Keyed k) → key_data_in octets ≡ k.fields.key_data
reads_key_data akm octets k reads =
    let at : ℕ = data_header_length octets in
    let body : reads.body ≡ drop (at + 8) octets = cc (reads.frame.spelled.0) in
    let fields : k.fields.key_data ≡ part 99 (reads.used - 99) reads.body = ap (λ (x : KeyFields). x.key_data) reads.spelled.fields in
    let size : reads.used - 99 ≡ big_endian_at w16 97 reads.body = let long = reads.spelled.key_data_length in omega (arith, long) in
    let later : drop 97 reads.body ≡ drop (at + 105) octets = ap (λ (x : List ℕ). drop 97 x) body ∙ drop-drop 97 (at + 8) octets ∙ ap (λ (n : ℕ). drop n octets) (omega arith) in
    let last : drop 99 reads.body ≡ drop (at + 107) octets = ap (λ (x : List ℕ). drop 99 x) body ∙ drop-drop 99 (at + 8) octets ∙ ap (λ (n : ℕ). drop n octets) (omega arith) in
    sym (fields ∙ ap (λ (n : ℕ). take n (drop 99 reads.body)) (size ∙ ap (λ (x : List ℕ). from_be_bytes w16 (take 2 x)) later) ∙ ap (λ (x : List ℕ). take (big_endian_at w16 (at + 105) octets) x) last)

-- its IPN, where there is one
abbrev pub TellsOf : List ℕ → List ℕ → Option CarriedIgtk → Type 0
TellsOf kek octets None = Unit {0}
TellsOf kek octets (Some z) = TellsIpn kek octets z.ipn

ipn_as : (says : Option ElementFields) → data_ipn says ≡ kde_ipn (igtk_said says)
ipn_as None = refl
ipn_as (Some e) = refl

carried_ipn : (protected : Bool) (said : Option IgtkKdeFields) (z : CarriedIgtk) → CarriesIgtk protected said (Some z) → kde_ipn said ≡ z.ipn
carried_ipn false said z is = absurd (cc is)
carried_ipn true said z is = is.1

plain_reads : (protected : Bool) (asked : Option Base) (plain : Option (List ℕ)) (says : Option ElementFields) → wrapped_by protected asked plain says ≡ Accepted → ((p : List ℕ) → plain ≡ Some p → ReadsKeyData p says) → ReadsPlain plain says
plain_reads protected asked None says is reads = absurd (cc is)
plain_reads protected asked (Some p) says is reads = reads p refl

tells_by : (protected : Bool) (kek octets : List ℕ) (plain : Option (List ℕ)) (says : Option ElementFields) (k : Option CarriedIgtk) → IsUnwrapped kek (key_data_in octets) plain → ReadsPlain plain says → CarriesIgtk protected (igtk_said says) k → TellsOf kek octets k
tells_by protected kek octets plain says None unwrapped reads is = tt
tells_by protected kek octets plain says (Some z) unwrapped reads is =
    record { plain = plain; unwrapped = unwrapped; data_ = says; reads = reads; is = sym (ipn_as says ∙ carried_ipn protected (igtk_said says) z is) }

pub tells_of : (protected : Bool) (asked : Option Base) (kek octets key_data : List ℕ) (c : CarriedKeys) → key_data_in octets ≡ key_data → IsOpened protected asked kek key_data (Ok c) → TellsOf kek octets c.igtk
tells_of protected asked kek octets key_data c same o =
    tells_by protected kek octets o.plain o.says c.igtk (subst (λ (x : List ℕ). IsUnwrapped kek x o.plain) (sym same) o.unwrapped) (plain_reads protected asked o.plain o.says o.is.0 o.reads) o.is.1.1

-- ---- the keys that are kept

-- a key is given, by whether its key id is one of IGTKs
abbrev given_by : Bool → CarriedKey → ℕ → Memories → Memories
given_by b c rsc m =
    let ks : List Kept = given c.key c.id rsc (if b then m.igtks else m.gtks) in
    if b then record m { igtks = ks } else record m { gtks = ks }

first_gtks : (c : CarriedKey) (rsc : ℕ) (m : Memories) → is_integrity_id c.id ≡ false → (given_to c rsc m).gtks ≡ given c.key c.id rsc m.gtks
first_gtks c rsc m is = ap (λ (b : Bool). (given_by b c rsc m).gtks) is

first_igtks : (c : CarriedKey) (rsc : ℕ) (m : Memories) → is_integrity_id c.id ≡ false → (given_to c rsc m).igtks ≡ m.igtks
first_igtks c rsc m is = ap (λ (b : Bool). (given_by b c rsc m).igtks) is

beside_igtk : (protected : Bool) (k : Option CarriedIgtk) (g : GroupKey) (m : Memories) → GivesIgtk protected g k → (igtk_given k m).gtks ≡ m.gtks
beside_igtk false k g m none = ap (λ (o : Option CarriedIgtk). (igtk_given o m).gtks) none
beside_igtk true None g m is = absurd is
beside_igtk true (Some z) g m is = ap (λ (b : Bool). (given_by b z.igtk z.ipn m).gtks) is.1

-- the GTKs after both kinds were given
gtks_given : (protected : Bool) (c : CarriedKeys) (keys : GivenKeys) (rsc : ℕ) (m : Memories) → AreGiven protected c keys → (all_given c rsc m).gtks ≡ given c.gtk.key c.gtk.id rsc m.gtks
gtks_given protected c keys rsc m w = beside_igtk protected c.igtk keys.igtk (given_to c.gtk rsc m) w.igtk ∙ first_gtks c.gtk rsc m w.plain

-- their key ids are other than 0
pub ids_after : (protected : Bool) (asked : Option Base) (kek octets : List ℕ) (c : CarriedKeys) (rsc : ℕ) (had has : Memories) → IsOpened protected asked kek octets (Ok c) → has ≡ all_given c rsc had → HaveGroupIds had.gtks → HaveGroupIds has.gtks
ids_after protected asked kek octets c rsc had has o memory ids =
    let is : has.gtks ≡ given c.gtk.key c.gtk.id rsc had.gtks = ap (λ (m : Memories). m.gtks) memory ∙ gtks_given protected c (carried_keys o.says) rsc had (are_given protected asked kek octets c o) in
    subst HaveGroupIds (sym is) (ids_given c.gtk.key c.gtk.id rsc had.gtks (carried_id protected asked o.plain o.says c o.is) ids)

-- ---- the acts of group keys

-- that of one
abbrev pub news_act : GroupKind → Domain → Node → GtkNews → Act
news_act which d p g = cond g.resumed (Resumed p (Group which g.key g.id (mac d p))) (Installed (One p) (Group which g.key g.id (mac d p)))

given_act : (which : GroupKind) (d : Domain) (p : Node) (c : CarriedKey) (o : Option ℕ) → news_act which d p (news_of c o) ≡ give_by which p (mac d p) (group_key c) (found_as c.key o)
given_act which d p c None = refl
given_act which d p c (Some id) = refl

group_act : (which : GroupKind) (d : Domain) (p : Node) (c : CarriedKey) (ks : List Kept) (g : GtkNews) (h : List Act) → Remembers which p ks h → g ≡ news_of c (kept_id c.key ks) → news_act which d p g ≡ give which p (mac d p) (group_key c) h
group_act which d p c ks g h remembers is =
    ap (news_act which d p) is ∙ given_act which d p c (kept_id c.key ks) ∙ ap (give_by which p (mac d p) (group_key c)) (sym (found_in which p c.key ks h remembers.keys))

-- a key is looked for among those of its kind
news_among : (b : Bool) (c : CarriedKey) (m : Memories) → is_integrity_id c.id ≡ b → news_in c m ≡ news_of c (kept_id c.key (if b then m.igtks else m.gtks))
news_among b c m is = ap (λ (x : Bool). news_of c (kept_id c.key (if x then m.igtks else m.gtks))) is

igtk_acts : (protected : Bool) (d : Domain) (p : Node) (k : Option CarriedIgtk) (g : GroupKey) (m : Memories) (h : List Act) → GivesIgtk protected g k → Remembers groups.Igtk p m.igtks h → group_acts groups.Igtk d p (igtk_news_in k m) ≡ give_igtk protected p (mac d p) g h
igtk_acts false d p k g m h none remembers = ap (λ (o : Option CarriedIgtk). group_acts groups.Igtk d p (igtk_news_in o m)) none
igtk_acts true d p None g m h is remembers = absurd is
igtk_acts true d p (Some z) g m h is remembers =
    ap (λ (a : Act). a ∷ []) (group_act groups.Igtk d p z.igtk m.igtks (news_in z.igtk m) h remembers (news_among true z.igtk m is.1) ∙ ap (λ (x : GroupKey). give groups.Igtk p (mac d p) x h) (sym is.0))

-- those of both kinds
pub keys_acts : (d : Domain) (p : Node) (c : CarriedKeys) (keys : GivenKeys) (rsc : ℕ) (m : Memories) (h : List Act) → AreGiven (protects d) c keys → RemembersAll p m h
    → news_act groups.Gtk d p (came c rsc m).gtk ∷ group_acts groups.Igtk d p (came c rsc m).igtk ≡ give_all d p (mac d p) keys h
keys_acts d p c keys rsc m h w r =
    let first : news_act groups.Gtk d p (news_in c.gtk m) ≡ give groups.Gtk p (mac d p) keys.gtk h =
    group_act groups.Gtk d p c.gtk m.gtks (news_in c.gtk m) h r.gtks (news_among false c.gtk m w.plain) ∙ ap (λ (x : GroupKey). give groups.Gtk p (mac d p) x h) (sym w.gtk_is) in
    let igtks : Remembers groups.Igtk p (given_to c.gtk rsc m).igtks h = subst (λ (ks : List Kept). Remembers groups.Igtk p ks h) (sym (first_igtks c.gtk rsc m w.plain)) r.igtks in
    ap (λ (a : Act). a ∷ group_acts groups.Igtk d p (came c rsc m).igtk) first
    ∙ ap (λ (l : List Act). give groups.Gtk p (mac d p) keys.gtk h ∷ l) (igtk_acts (protects d) d p c.igtk keys.igtk (given_to c.gtk rsc m) h w.igtk igtks)
