-- Protected data as nodes send it. What addresses it has is this project's choice (IEEE Std 802.11-2020, 9.3.2.1,
-- 12.5.3, profile).
use Rattle.std.specs.Prelude.{ℕ, true, List, [], ◌∷◌, ◌++◌, Option, Some}
use Rattle.domain_base.specs.declared.names.Node.{Node}
use Rattle.domain_base.specs.declared.names.Peer.{Peer}
use Rattle.domain_base.specs.declared.names.Peer.TheVariants.{One, All}
use Rattle.air_frame.specs.Sent.{data_header_octets, protected_data_octets}
use Rattle.ccmp_guard.specs.Ccm.{encrypted, encrypted_authentication}
use Rattle.ccmp_guard.specs.Ccmp.{ccm_nonce, ccm_aad, ccmp_header, sealed_octets}
use Rattle.run_journal.specs.declared.domain.Domain.{Domain}
use Rattle.run_journal.specs.declared.acts.Kind.TheVariants.{Data}
use Rattle.run_journal.specs.declared.acts.Seal.{Seal}
use Rattle.run_journal.specs.declared.acts.Act.{Act}
use Rattle.run_journal.specs.declared.acts.Act.TheVariants.{Sent}
use Rattle.domain_rules.specs.Network.{address, bssid, direction}

-- the broadcast address (9.2.4.3)
abbrev pub broadcast : List ℕ
broadcast = 0xff ∷ 0xff ∷ 0xff ∷ 0xff ∷ 0xff ∷ 0xff ∷ []

-- A1: the peer's address, or that of all (9.3.2.1, 12.5.3.2, profile)
abbrev pub receiver : Domain → Peer → List ℕ
receiver d (One p) = address d p
receiver d All = broadcast

-- A3: the access point's BSSID, and to all only access points send (9.3.2.1, 12.5.3.2, profile)
abbrev pub bssid_with : Domain → Node → Peer → List ℕ
bssid_with d n (One p) = bssid d n p
bssid_with d n All = address d n

-- the header: QoS data exactly where there is a TID (9.3.2.1, 12.5.3.2, profile)
abbrev pub data_header : Domain → Node → Peer → Option ℕ → List ℕ
data_header d n q tid = data_header_octets (direction n) true tid (receiver d q) (address d n) (bssid_with d n q)

-- the body: the CCMP header, and after it the plain text sealed (12.5.3.2)
abbrev pub data_body : List ℕ → List ℕ → ℕ → ℕ → List ℕ → List ℕ
data_body tk header id pn plain =
    ccmp_header id pn ++ (encrypted tk (ccm_nonce header pn) plain ++ encrypted_authentication tk (ccm_nonce header pn) (ccm_aad header) plain)

-- what CCM covers: the octet 3 and nonce, additional authenticated data and plain text, under the temporal key
-- (12.5.3.3, profile)
abbrev pub data_seal : List ℕ → List ℕ → ℕ → List ℕ → Seal
data_seal tk header pn plain = record { octets = 3 ∷ sealed_octets header pn plain; key = tk }

-- protected data from n, under a temporal key with its key id and a packet number (9.3.2.1, 12.5.3.2, profile)
abbrev pub sent_data : Domain → Node → Peer → Option ℕ → List ℕ → ℕ → ℕ → List ℕ → Act
sent_data d n q tid tk id pn plain =
    Sent q Data (protected_data_octets (direction n) tid (receiver d q) (address d n) (bssid_with d n q) (data_body tk (data_header d n q tid) id pn plain))
    (Some (data_seal tk (data_header d n q tid) pn plain))
