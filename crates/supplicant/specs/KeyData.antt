-- The group keys that key data carries, and how key data is judged (IEEE Std 802.11-2020, 12.7.2; the order of the checks is this
-- project's choice).
-- For the code alone: no public contract speaks of it.
use Rattle.std.specs.Prelude.{◌≡◌, ℕ, Bool, true, false, not, if◌then◌else◌, bytes_eq, option_map, List, [], ◌∷◌, ◌++◌, take, Option, Some, None, Result, Ok, Err}
use Rattle.std.specs.Int.{w64, from_le_bytes}
use Rattle.domain_base.specs.declared.names.Akm.{Akm}
use Rattle.rsn_elements.specs.Transition.{MdeFields}
use Rattle.rsn_elements.specs.Elements.{ElementFields}
use Rattle.rsn_elements.specs.KeyData.{IgtkKdeFields}
use Rattle.run_journal.specs.declared.acts.KeyDataFault.{KeyDataFault}
use Rattle.run_journal.specs.declared.acts.KeyDataFault.TheVariants as fault
use Rattle.run_journal.specs.declared.acts.Reason.{Reason}
use Rattle.run_journal.specs.declared.acts.Reason.TheVariants as reason
use Rattle.run_journal.specs.declared.acts.Outcome.{Outcome}
use Rattle.run_journal.specs.declared.acts.Outcome.TheVariants.{Accepted, Refused}
use Rattle.run_journal.specs.declared.reply.GtkNews.{GtkNews}
use Rattle.run_journal.specs.Acts.{GroupKey}
use Rattle.domain_rules.specs.Facts.{is_same, IsUnwrapped, ReadsKeyData}
use Rattle.domain_rules.specs.IntegrityKeys.{kde_ipn}
use Rattle.domain_rules.specs.StationKeys.{is_group_key, igtk_data}
use Rattle.domain_rules.specs.StationRows.{carried, carried_igtk_in}
use Rattle.group_key.specs.Keys.{Memories, kept_id, given, kept_in, with_kept}
use Rattle.frame_making.specs.KeyData.{rsne_by}
use Rattle.frame_making.specs.Mobile.{Mobility}
use Rattle.supplicant.specs.declared.base.Base.{Base}
use Rattle.supplicant.specs.declared.key_data.CarriedKey.{CarriedKey}
use Rattle.supplicant.specs.declared.key_data.CarriedIgtk.{CarriedIgtk}
use Rattle.supplicant.specs.declared.key_data.CarriedKeys.{CarriedKeys}
use Rattle.supplicant.specs.declared.answers.Came.{Came}

-- the packet number that an RSC tells: six octets, the lowest first
abbrev pub packet_number_of : List ℕ → ℕ
packet_number_of rsc = from_le_bytes w64 (take 6 rsc ++ 0 ∷ 0 ∷ [])

abbrev pub group_key : CarriedKey → GroupKey
group_key c = record { key = c.key; id = c.id }

-- what becomes of a group key by the key id under which it is kept
abbrev pub news_of : CarriedKey → Option ℕ → GtkNews
news_of c None = record { resumed = false; id = c.id; key = c.key }
news_of c (Some id) = record { resumed = true; id = id; key = c.key }

-- what becomes of it, by the keys of its kind in memory
abbrev pub news_in : CarriedKey → Memories → GtkNews
news_in c m = news_of c (kept_id c.key (kept_in c.id m))

-- the memory after it was given with that RSC, or IPN
abbrev pub given_to : CarriedKey → ℕ → Memories → Memories
given_to c rsc m = with_kept c.id (given c.key c.id rsc (kept_in c.id m)) m

-- and of an IGTK, where one is carried
abbrev pub igtk_news_in : Option CarriedIgtk → Memories → Option GtkNews
igtk_news_in None m = None
igtk_news_in (Some k) m = Some (news_in k.igtk m)

abbrev pub igtk_given : Option CarriedIgtk → Memories → Memories
igtk_given None m = m
igtk_given (Some k) m = given_to k.igtk k.ipn m

-- what becomes of all group keys, and the memory after them
abbrev pub came : CarriedKeys → ℕ → Memories → Came
came c rsc m = record { gtk = news_in c.gtk m; igtk = igtk_news_in c.igtk (given_to c.gtk rsc m) }

abbrev pub all_given : CarriedKeys → ℕ → Memories → Memories
all_given c rsc m = igtk_given c.igtk (given_to c.gtk rsc m)

-- Where a base is given, key data is that of M3, which holds the RSNE of the suite, and with suite 4 what it adds; else it is that of
-- G1.

-- the RSNE that is asked for
abbrev pub asked_rsne : Bool → Base → List ℕ
asked_rsne protected b = rsne_by protected b.akm (option_map (λ (m : Mobility). m.name) b.mobility)

-- it was found
abbrev pub has_rsne : Bool → Option Base → Option (List ℕ) → Bool
has_rsne protected None found = true
has_rsne protected (Some b) found = is_same found (Some (asked_rsne protected b))

-- and the mobility domain
abbrev pub has_mdid_by : Option Mobility → Option MdeFields → Bool
has_mdid_by None found = true
has_mdid_by (Some m) None = false
has_mdid_by (Some m) (Some f) = bytes_eq f.mdid m.mdid

abbrev pub has_mdid : Option Base → Option MdeFields → Bool
has_mdid None found = true
has_mdid (Some b) found = has_mdid_by b.mobility found

-- and the FTE
abbrev pub has_fte_by : Option Mobility → Option (List ℕ) → Bool
has_fte_by None found = true
has_fte_by (Some m) found = is_same found (Some m.fte)

abbrev pub has_fte : Option Base → Option (List ℕ) → Bool
has_fte None found = true
has_fte (Some b) found = has_fte_by b.mobility found

-- the first of the three that was not found
abbrev pub element_fault : Bool → Option Base → ElementFields → Option KeyDataFault
element_fault protected asked e =
    if not (has_rsne protected asked e.rsne_octets) then Some fault.Rsne
    else if not (has_mdid asked e.mde) then Some fault.Mde
    else if not (has_fte asked e.fte_octets) then Some fault.Fte
    else None

-- what comes of the group keys: a GTK, and where management frames are protected an IGTK
abbrev pub keys_said : Bool → ElementFields → Outcome
keys_said protected e = if is_group_key e.gtk then igtk_data protected e.igtk else Refused (reason.KeyData fault.Gtk)

-- what comes of what M3 says with the other suites, and of what G1 says
abbrev pub plain_said : Bool → List ℕ → Option ElementFields → Outcome
plain_said protected rsne None = Refused (reason.KeyData fault.Unreadable)
plain_said protected rsne (Some e) =
    if not (is_same e.rsne_octets (Some rsne)) then Refused (reason.KeyData fault.Rsne)
    else keys_said protected e

abbrev pub group_said : Bool → Option ElementFields → Outcome
group_said protected None = Refused (reason.KeyData fault.Unreadable)
group_said protected (Some e) = keys_said protected e

-- what comes of what M3 says with suite 4
abbrev pub mobile_said : Bool → Akm → Mobility → Option ElementFields → Outcome
mobile_said protected akm m None = Refused (reason.KeyData fault.Unreadable)
mobile_said protected akm m (Some e) =
    if not (is_same e.rsne_octets (Some (rsne_by protected akm (Some m.name)))) then Refused (reason.KeyData fault.Rsne)
    else if not (has_mdid_by (Some m) e.mde) then Refused (reason.KeyData fault.Mde)
    else if not (is_same e.fte_octets (Some m.fte)) then Refused (reason.KeyData fault.Fte)
    else keys_said protected e

abbrev pub m3_said : Bool → Akm → Option Mobility → Option ElementFields → Outcome
m3_said protected akm None says = plain_said protected (rsne_by protected akm None) says
m3_said protected akm (Some m) says = mobile_said protected akm m says

-- what comes of what it says
abbrev pub said_by : Bool → Option Base → Option ElementFields → Outcome
said_by protected None says = group_said protected says
said_by protected (Some b) says = m3_said protected b.akm b.mobility says

-- and of what is wrapped
abbrev pub wrapped_by : Bool → Option Base → Option (List ℕ) → Option ElementFields → Outcome
wrapped_by protected asked None says = Refused reason.Wrap
wrapped_by protected asked (Some plain) says = said_by protected asked says

-- the IGTK KDE that it says
abbrev pub igtk_said : Option ElementFields → Option IgtkKdeFields
igtk_said None = None
igtk_said (Some e) = e.igtk

-- an IGTK KDE carries that IGTK, where management frames are protected; else none is looked at
abbrev pub CarriesIgtk : Bool → Option IgtkKdeFields → Option CarriedIgtk → Type 0
CarriesIgtk false said k = k ≡ None
CarriesIgtk true said None = ⊥
CarriesIgtk true said (Some k) = (carried_igtk_in said ≡ group_key k.igtk) × (kde_ipn said ≡ k.ipn)

-- key data carries those group keys
abbrev pub Carries : Bool → Option ElementFields → CarriedKeys → Type 0
Carries protected says c = (carried says ≡ group_key c.gtk) × CarriesIgtk protected (igtk_said says) c.igtk

-- plain key data carries those group keys, or what is wrong with it
abbrev pub IsKeyDataSaid : Bool → Option Base → Option ElementFields → Result CarriedKeys KeyDataFault → Type 0
IsKeyDataSaid protected asked says (Ok c) = (said_by protected asked says ≡ Accepted) × Carries protected says c
IsKeyDataSaid protected asked says (Err what) = said_by protected asked says ≡ Refused (reason.KeyData what)

pub record IsPlain (protected : Bool) (asked : Option Base) (plain : List ℕ) (r : Result CarriedKeys KeyDataFault) : Type 0 where
  pub says : Option ElementFields
  pub reads : ReadsKeyData plain says
  pub is : IsKeyDataSaid protected asked says r

-- wrapped key data carries those group keys, or why it is refused
abbrev pub IsWrappedSaid : Bool → Option Base → Option (List ℕ) → Option ElementFields → Result CarriedKeys Reason → Type 0
IsWrappedSaid protected asked plain says (Ok c) = (wrapped_by protected asked plain says ≡ Accepted) × Carries protected says c
IsWrappedSaid protected asked plain says (Err why) = wrapped_by protected asked plain says ≡ Refused why

pub record IsOpened (protected : Bool) (asked : Option Base) (kek octets : List ℕ) (r : Result CarriedKeys Reason) : Type 0 where
  pub plain : Option (List ℕ)
  pub says : Option ElementFields
  pub unwrapped : IsUnwrapped kek octets plain
  pub reads : (p : List ℕ) → plain ≡ Some p → ReadsKeyData p says
  pub is : IsWrappedSaid protected asked plain says r
