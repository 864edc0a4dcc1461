-- The receive counters of the IGTKs of a station. The IPN of an IGTK stands inside the wrapped key data of M3 and of G1,
-- which no function of the octets alone opens. So a relation says which number it is, and exactly one number meets it (IEEE
-- Std 802.11-2020, 12.5.4.4, 12.7.2, profile).
use Rattle.std.specs.Prelude.{◌≡◌, ℕ, ◌+◌, List, [], ◌∷◌, ◌++◌, drop, Option, Some, None}
use Rattle.std.specs.Int.{w16, w64, from_le_bytes}
use Rattle.domain_base.specs.Places.{part, big_endian_at}
use Rattle.domain_base.specs.declared.names.Node.{Node}
use Rattle.air_frame.specs.Control.{data_header_length}
use Rattle.rsn_elements.specs.Elements.{ElementFields}
use Rattle.rsn_elements.specs.KeyData.{IgtkKdeFields}
use Rattle.eapol_key.specs.declared.messages.Message.TheVariants.{M3, G1}
use Rattle.run_journal.specs.declared.acts.Kind.TheVariants as frame_kind
use Rattle.run_journal.specs.declared.acts.GroupKind.{GroupKind}
use Rattle.run_journal.specs.declared.acts.GroupKind.TheVariants as groups
use Rattle.run_journal.specs.declared.acts.Act.{Act}
use Rattle.run_journal.specs.Acts.{Derivation, accepted}
use Rattle.run_journal.specs.Questions.{derivation, session}
use Rattle.domain_rules.specs.Facts.{ReadsKeyData, IsUnwrapped}
use Rattle.domain_rules.specs.GroupKeys.{body_of, told, got, got_by}

-- the key data of an EAPOL-Key frame in data, by the length that stands before it (12.7.2)
abbrev pub key_data_in : List ℕ → List ℕ
key_data_in octets = part (data_header_length octets + 107) (big_endian_at w16 (data_header_length octets + 105) octets) octets

-- six octets of a packet number, the lowest first (12.7.2)
abbrev pub ipn_value : List ℕ → ℕ
ipn_value octets = from_le_bytes w64 (octets ++ 0 ∷ 0 ∷ [])

-- the IPN of an IGTK KDE, where there is one (12.7.2)
abbrev pub kde_ipn : Option IgtkKdeFields → ℕ
kde_ipn None = 0
kde_ipn (Some k) = ipn_value k.ipn

-- the IPN that key data tells, where it can be read (12.7.2)
abbrev pub data_ipn : Option ElementFields → ℕ
data_ipn None = 0
data_ipn (Some e) = kde_ipn e.igtk

-- what key data says, where it has a plain text (12.7.2, profile)
abbrev pub ReadsPlain : Option (List ℕ) → Option ElementFields → Type 0
ReadsPlain None data_ = data_ ≡ None
ReadsPlain (Some plain) data_ = ReadsKeyData plain data_

-- the key data of a message tells that IPN to whoever has the KEK (12.7.2)
pub record TellsIpn (kek octets : List ℕ) (n : ℕ) : Type 0 where
  pub plain : Option (List ℕ)
  pub unwrapped : IsUnwrapped kek (key_data_in octets) plain
  pub data_ : Option ElementFields
  pub reads : ReadsPlain plain data_
  pub is : n ≡ data_ipn data_

-- to whoever has that key; without a key nothing is told (12.7.2, profile)
abbrev pub TellsUnder : Option Derivation → List ℕ → ℕ → Type 0
TellsUnder None octets n = n ≡ 0
TellsUnder (Some x) octets n = TellsIpn x.ptk.kek octets n

-- what a message told under that key, else what was told before (12.7.2)
abbrev pub ToldBy : Option Derivation → Option (List ℕ) → ℕ → Type 0 → Type 0
ToldBy x None n before = before
ToldBy x (Some octets) n before = TellsUnder x octets n

-- the packet number that a reassociation response tells of the IGTK: the IPN in the IGTK subelement of its FTE, six octets,
-- the lowest first. Its elements stand after 30 octets, the subelements of an FTE after 82 (9.4.2.47)
abbrev pub ipn_in_response : List ℕ → ℕ
ipn_in_response octets = ipn_value (part 2 6 (body_of 4 0 (drop 82 (body_of 0x37 0 (drop 30 octets)))))

-- what a reassociation response told, else what was told before (9.4.2.47)
abbrev pub ToldByResponse : Option (List ℕ) → ℕ → Type 0 → Type 0
ToldByResponse None n before = before
ToldByResponse (Some octets) n before = n ≡ ipn_in_response octets

-- what the last M3, G1 or reassociation response that was accepted from p told of the IGTK: M3 under the key derived last, G1
-- under that of the session, and the response in clear. One without an IGTK tells 0 (12.7.2, profile)
abbrev pub IsIpnTold : Node → List Act → ℕ → Type 0
IsIpnTold p [] n = n ≡ 0
IsIpnTold p (e ∷ h) n =
    ToldBy (derivation p h) (accepted p (frame_kind.Key M3) e) n
    (ToldBy (session p h) (accepted p (frame_kind.Key G1) e) n (ToldByResponse (accepted p frame_kind.ReResp e) n (IsIpnTold p h n)))

-- this was told of the group key of that kind (12.7.2)
abbrev pub IsTold : GroupKind → Node → List Act → ℕ → Type 0
IsTold groups.Gtk p h n = n ≡ told p h
IsTold groups.Igtk p h n = IsIpnTold p h n

-- the receive counter of an IGTK of p at a station is this number (12.5.4.4, profile)
abbrev pub IsIpnGot : Node → List ℕ → ℕ → List Act → ℕ → Type 0
IsIpnGot p key id [] n = n ≡ 0
IsIpnGot p key id (e ∷ h) n =
    (heard : ℕ) × (IsIpnTold p h heard × ((before : ℕ) × (IsIpnGot p key id h before × (n ≡ got_by groups.Igtk p key id e heard before))))

-- the receive counter of a group key of that kind is this number (12.5.3.4.4, 12.5.4.4, profile)
abbrev pub IsGot : GroupKind → Node → List ℕ → ℕ → List Act → ℕ → Type 0
IsGot groups.Gtk p key id h n = n ≡ got p key id h
IsGot groups.Igtk p key id h n = IsIpnGot p key id h n
