-- Elements that are sent one after the other, and what they say (profile).
use Rattle.std.specs.Prelude.{◌≡◌, ⊤, ℕ, zero, suc, ◌+◌, ◌^◌, ◌<◌, ◌≤◌, false, ◌==◌, List, [], ◌∷◌, length, fold, Option, None, Some, IfSome, unwrap_or}
use Rattle.std.specs.List.{flat_map, AllByRecursion}
use Rattle.domain_base.specs.declared.names.Akm.{Akm}
use Rattle.rsn_elements.specs.declared.framing.Within.{Within}
use Rattle.rsn_elements.specs.declared.framing.Within.TheVariants.{Body, KeyData}
use Rattle.rsn_elements.specs.Framing.{Element, element_octets, EndsReading}
use Rattle.rsn_elements.specs.Rsne.{RsneFields}
use Rattle.rsn_elements.specs.Transition.{WrappedGtkFields, WrappedIgtkFields, FteFields}
use Rattle.rsn_elements.specs.Elements.{ElementFields, ElementKind, is}
use Rattle.rsn_elements.specs.Sent.{ssid_octets, rates_octets, akm_type, rsne_octets, rsne_mfp_octets, mde_octets, fte_octets, gtk_kde_octets, ipn_octets, igtk_kde_octets, timeout_octets}

-- one element that is sent
pub data Piece : Type 0 where
  SentSsid : List ℕ → Piece
  SentRates : Piece
  SentRsne : Akm → Option (List ℕ) → Piece
  SentRsneMfp : Akm → Option (List ℕ) → Piece
  SentMde : List ℕ → Piece
  SentFte : FteFields → Piece
  SentGtkKde : ℕ → List ℕ → Piece
  SentIgtkKde : ℕ → ℕ → List ℕ → Piece
  SentTimeout : ℕ → ℕ → Piece

-- the octets of a piece
abbrev pub piece_octets : Piece → List ℕ
piece_octets (SentSsid ssid) = ssid_octets ssid
piece_octets SentRates = rates_octets
piece_octets (SentRsne akm pmkid) = rsne_octets akm pmkid
piece_octets (SentRsneMfp akm pmkid) = rsne_mfp_octets akm pmkid
piece_octets (SentMde mdid) = mde_octets mdid
piece_octets (SentFte f) = fte_octets f
piece_octets (SentGtkKde id key) = gtk_kde_octets id key
piece_octets (SentIgtkKde id ipn key) = igtk_kde_octets id ipn key
piece_octets (SentTimeout kind value) = timeout_octets kind value

-- the octets of pieces, one after the other
abbrev pub pieces_octets : List Piece → List ℕ
pieces_octets ps = flat_map piece_octets ps

-- ---- numbers and lengths that fit their fields

-- a wrapped GTK with a number of two octets and an RSC of eight
pub record FitsWrappedGtk (g : WrappedGtkFields) : Type 0 where
  pub information : g.information < 2 ^ 16
  pub rsc : length g.rsc ≡ 8

-- a wrapped IGTK with a key id that is a number of two octets, and an IPN of six
pub record FitsWrappedIgtk (g : WrappedIgtkFields) : Type 0 where
  pub id : g.id < 2 ^ 16
  pub ipn : length g.ipn ≡ 6

-- an FTE whose fields have their lengths
pub record FitsFte (f : FteFields) : Type 0 where
  pub mic_control : length f.mic_control ≡ 2
  pub mic : length f.mic ≡ 16
  pub anonce : length f.anonce ≡ 32
  pub snonce : length f.snonce ≡ 32
  pub r1kh_id : IfSome f.r1kh_id (λ id. length id ≡ 6)
  pub gtk : IfSome f.gtk FitsWrappedGtk
  pub r0kh_id : IfSome f.r0kh_id (λ id. (1 ≤ length id) × (length id ≤ 48))
  pub igtk : IfSome f.igtk FitsWrappedIgtk

-- a piece whose fields have their lengths
abbrev pub FitsPiece : Piece → Type 0
FitsPiece (SentSsid ssid) = ⊤
FitsPiece SentRates = ⊤
FitsPiece (SentRsne akm pmkid) = IfSome pmkid (λ name. length name ≡ 16)
FitsPiece (SentRsneMfp akm pmkid) = IfSome pmkid (λ name. length name ≡ 16)
FitsPiece (SentMde mdid) = length mdid ≡ 2
FitsPiece (SentFte f) = FitsFte f
FitsPiece (SentGtkKde id key) = (id < 4) × (length key ≡ 16)
FitsPiece (SentIgtkKde id ipn key) = (id < 2 ^ 16) × (length key ≡ 16)
FitsPiece (SentTimeout kind value) = value < 2 ^ 32

-- which pieces may not stand beside one another: those of one id, but KDEs and timeout intervals only where they are of
-- one type; an IGTK KDE is told from a GTK KDE by an id that nothing sent has
abbrev pub label : Piece → ℕ
label (SentSsid ssid) = 0x00
label SentRates = 0x01
label (SentRsne akm pmkid) = 0x30
label (SentRsneMfp akm pmkid) = 0x30
label (SentMde mdid) = 0x36
label (SentFte f) = 0x37
label (SentGtkKde id key) = 0xdd
label (SentIgtkKde id ipn key) = 0xde
label (SentTimeout kind value) = 0x100 + kind

-- no two pieces have one label
abbrev pub AreApart : List Piece → Type 0
AreApart [] = ⊤
AreApart (p ∷ ps) = AllByRecursion (λ q. (label p == label q) ≡ false) ps × AreApart ps

-- ---- what they say

-- the suite 00-0F-AC of this type (IEEE Std 802.11-2020, 9.4.2.24.2, 9.4.2.24.3)
abbrev pub suite : ℕ → List ℕ
suite kind = 0x00 ∷ 0x0f ∷ 0xac ∷ kind ∷ []

-- the RSNE that is sent: CCMP-128, the AKM, capabilities 12, and a name of a key, if one is given
abbrev pub sent_rsne : Akm → Option (List ℕ) → RsneFields
sent_rsne akm pmkid = record { version = 1; group = Some (suite 4); pairwise = Some (suite 4); akms = Some (suite (akm_type akm)); capabilities = Some 12; pmkids = pmkid; management = None }

-- the RSNE that is sent where management frames are protected: capabilities 140, a list of PMKIDs, also where it is
-- empty, and BIP-CMAC-128 for group management frames
abbrev pub sent_rsne_mfp : Akm → Option (List ℕ) → RsneFields
sent_rsne_mfp akm pmkid = record { version = 1; group = Some (suite 4); pairwise = Some (suite 4); akms = Some (suite (akm_type akm)); capabilities = Some 140; pmkids = Some (unwrap_or pmkid []); management = Some (suite 6) }

-- no element
abbrev pub nothing : ElementFields
nothing = record { rsne = None; mde = None; fte = None; gtk = None; igtk = None; deadline = None; lifetime = None; rsne_octets = None; mde_octets = None; fte_octets = None }

-- a timeout interval of another type than 1 and 2 says nothing
abbrev pub with_timeout : ElementFields → ℕ → ℕ → ElementFields
with_timeout f zero value = f
with_timeout f (suc zero) value = record f { deadline = Some value }
with_timeout f (suc (suc zero)) value = record f { lifetime = Some value }
with_timeout f (suc (suc (suc kind))) value = f

-- in a frame body a KDE says nothing
abbrev pub with_gtk : Within → ElementFields → ℕ → List ℕ → ElementFields
with_gtk KeyData f id key = record f { gtk = Some (record { id = id; transmit = false; key = key }) }
with_gtk Body f id key = f

abbrev pub with_igtk : Within → ElementFields → ℕ → ℕ → List ℕ → ElementFields
with_igtk KeyData f id ipn key = record f { igtk = Some (record { id = id; ipn = ipn_octets ipn; key = key }) }
with_igtk Body f id ipn key = f

-- what elements say with one more piece
abbrev pub with_piece : Within → ElementFields → Piece → ElementFields
with_piece within f (SentSsid ssid) = f
with_piece within f SentRates = f
with_piece within f (SentRsne akm pmkid) = record f { rsne = Some (sent_rsne akm pmkid); rsne_octets = Some (rsne_octets akm pmkid) }
with_piece within f (SentRsneMfp akm pmkid) = record f { rsne = Some (sent_rsne_mfp akm pmkid); rsne_octets = Some (rsne_mfp_octets akm pmkid) }
with_piece within f (SentMde mdid) = record f { mde = Some (record { mdid = mdid; capability = 0 }); mde_octets = Some (mde_octets mdid) }
with_piece within f (SentFte x) = record f { fte = Some x; fte_octets = Some (fte_octets x) }
with_piece within f (SentGtkKde id key) = with_gtk within f id key
with_piece within f (SentIgtkKde id ipn key) = with_igtk within f id ipn key
with_piece within f (SentTimeout kind value) = with_timeout f kind value

-- what all the pieces say
abbrev pub said : Within → List Piece → ElementFields
said within ps = fold (with_piece within) nothing ps

-- an element that is read past
pub record IsPassedOver (within : Within) (e : Element) : Type 0 where
  pub going : EndsReading within (element_octets e) → ⊥
  pub other : (kind : ElementKind) → is within kind e ≡ false
