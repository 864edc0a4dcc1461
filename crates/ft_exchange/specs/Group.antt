-- Group keys under key wrap in an FTE, and what becomes of them (IEEE Std 802.11-2020, 9.4.2.47).
-- For the code alone: no public contract speaks of it.
use Rattle.std.specs.Prelude.{◌≡◌, ℕ, Bool, true, false, ◌&&◌, ◌||◌, List, [], ◌∷◌, ◌++◌, take, Option, Some, None}
use Rattle.std.specs.Int.{w64, from_le_bytes}
use Rattle.rsn_elements.specs.Transition.{WrappedGtkFields, WrappedIgtkFields, FteFields}
use Rattle.rsn_elements.specs.Sent.{ipn_octets}
use Rattle.run_journal.specs.declared.reply.GtkNews.{GtkNews}
use Rattle.run_journal.specs.Acts.{GroupKey}
use Rattle.domain_rules.specs.Facts.{IsUnwrapped}
use Rattle.domain_rules.specs.FastTransition.{to_unwrap, igtk_to_unwrap, gtk_in, igtk_in, is_wrapped_gtk, is_wrapped_igtk, has_igtk}
use Rattle.domain_rules.specs.IntegrityKeys.{ipn_value}
use Rattle.domain_rules.specs.TransitionRows.{carried_by, carried_igtk_by}
use Rattle.group_key.specs.declared.news.IgtkNews.{IgtkNews}
use Rattle.group_key.specs.Keys.{Memories, kept_id, given, kept_in, with_kept}
use Rattle.ft_exchange.specs.declared.group.Opened.{Opened}
use Rattle.ft_exchange.specs.declared.group.Opened.TheVariants.{Nothing, Bad, Plain}
use Rattle.ft_exchange.specs.declared.group.Unwrapped.{Unwrapped}
use Rattle.ft_exchange.specs.declared.group.CarriedKey.{CarriedKey}
use Rattle.ft_exchange.specs.declared.group.CarriedKeys.{CarriedKeys}
use Rattle.ft_exchange.specs.declared.group.Became.{Became}

-- ---- what is unwrapped

-- the plain text that there is
abbrev pub plain_of : Opened → Option (List ℕ)
plain_of Nothing = None
plain_of Bad = None
plain_of (Plain key) = Some key

-- what came of octets to be unwrapped, where there are some
abbrev pub IsOpened : List ℕ → Option (List ℕ) → Opened → Type 0
IsOpened kek octets Nothing = octets ≡ None
IsOpened kek octets Bad = (wrapped : List ℕ) × (octets ≡ Some wrapped) × IsUnwrapped kek wrapped None
IsOpened kek octets (Plain key) = (wrapped : List ℕ) × (octets ≡ Some wrapped) × IsUnwrapped kek wrapped (Some key)

-- what came of those of each kind in an FTE, where management frames are protected or not
pub record AreOpened (kek : List ℕ) (protected : Bool) (f : Option FteFields) (u : Unwrapped) : Type 0 where
  pub gtk : IsOpened kek (to_unwrap f) u.gtk
  pub igtk : IsOpened kek (igtk_to_unwrap protected f) u.igtk

-- there are some without a plain text, of that kind, and of either kind
abbrev pub is_bad : Opened → Bool
is_bad Nothing = false
is_bad Bad = true
is_bad (Plain key) = false

abbrev pub has_bad : Unwrapped → Bool
has_bad u = is_bad u.gtk || is_bad u.igtk

-- ---- what is carried

-- the packet number in an RSC field: six octets, the lowest first
abbrev pub packet_number_of : List ℕ → ℕ
packet_number_of rsc = from_le_bytes w64 (take 6 rsc ++ 0 ∷ 0 ∷ [])

abbrev pub gtk_rsc : Option WrappedGtkFields → ℕ
gtk_rsc None = 0
gtk_rsc (Some g) = packet_number_of g.rsc

-- and that of an IGTK, in an IPN field
abbrev pub igtk_ipn : Option WrappedIgtkFields → ℕ
igtk_ipn None = 0
igtk_ipn (Some g) = ipn_value g.ipn

-- an IGTK that is sent, by its wrapped octets
abbrev pub igtk_by : List ℕ → IgtkNews → WrappedIgtkFields
igtk_by octets k = record { id = k.igtk.id; ipn = ipn_octets k.ipn; key_length = 16; wrapped = octets }

-- without its packet number
abbrev pub group_key : CarriedKey → GroupKey
group_key c = record { key = c.key; id = c.id }

-- a GTK is there, and where management frames are protected an IGTK
abbrev pub carries_keys : Bool → Option FteFields → Bool
carries_keys protected f = is_wrapped_gtk (gtk_in f) && has_igtk protected f

-- the GTK of an FTE, unwrapped
pub record IsGtkIn (f : Option FteFields) (o : Opened) (c : CarriedKey) : Type 0 where
  pub is : carried_by (gtk_in f) (plain_of o) ≡ group_key c
  pub rsc : c.rsc ≡ gtk_rsc (gtk_in f)

-- its IGTK
pub record IsIgtkOf (f : Option FteFields) (o : Opened) (c : CarriedKey) : Type 0 where
  pub wraps : is_wrapped_igtk (igtk_in f) ≡ true
  pub is : carried_igtk_by (igtk_in f) (plain_of o) ≡ group_key c
  pub ipn : c.rsc ≡ igtk_ipn (igtk_in f)

-- which is there where management frames are protected
abbrev pub IsIgtkIn : Bool → Option FteFields → Opened → Option CarriedKey → Type 0
IsIgtkIn false f o igtk = igtk ≡ None
IsIgtkIn true f o None = ⊥
IsIgtkIn true f o (Some c) = IsIgtkOf f o c

-- both
pub record AreCarried (protected : Bool) (f : Option FteFields) (u : Unwrapped) (c : CarriedKeys) : Type 0 where
  pub gtk : IsGtkIn f u.gtk c.gtk
  pub igtk : IsIgtkIn protected f u.igtk c.igtk

-- ---- what becomes of it

-- what becomes of a group key by the key id under which it is kept
abbrev pub news_of : CarriedKey → Option ℕ → GtkNews
news_of c None = record { resumed = false; id = c.id; key = c.key }
news_of c (Some id) = record { resumed = true; id = id; key = c.key }

-- by the keys of its kind in memory
abbrev pub news_in : CarriedKey → Memories → GtkNews
news_in c m = news_of c (kept_id c.key (kept_in c.id m))

-- the memory after it was given
abbrev pub given_to : CarriedKey → Memories → Memories
given_to c m = with_kept c.id (given c.key c.id c.rsc (kept_in c.id m)) m

-- and of an IGTK, where one is carried
abbrev pub igtk_news_in : Option CarriedKey → Memories → Option GtkNews
igtk_news_in None m = None
igtk_news_in (Some c) m = Some (news_in c m)

abbrev pub igtk_given : Option CarriedKey → Memories → Memories
igtk_given None m = m
igtk_given (Some c) m = given_to c m

-- what becomes of all group keys, and the memory after them
abbrev pub became : CarriedKeys → Memories → Became
became c m = record { gtk = news_in c.gtk m; igtk = igtk_news_in c.igtk (given_to c.gtk m) }

abbrev pub all_given : CarriedKeys → Memories → Memories
all_given c m = igtk_given c.igtk (given_to c.gtk m)
