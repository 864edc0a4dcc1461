-- Which events can happen in a network (profile).
use Rattle.std.specs.Prelude.{◌≡◌, ℕ, zero, suc, ◌<◌, ◌≤◌, Bool, true, false, ◌&&◌, length, Option, Some, None}
use Rattle.domain_base.specs.declared.names.Akm.{Akm}
use Rattle.domain_base.specs.declared.names.Akm.TheVariants.{FtPsk}
use Rattle.domain_base.specs.declared.names.Node.{Node}
use Rattle.domain_base.specs.declared.names.Node.TheVariants.{Ap, Sta}
use Rattle.domain_base.specs.declared.names.Peer.{Peer}
use Rattle.domain_base.specs.declared.names.Peer.TheVariants as peers
use Rattle.run_journal.specs.declared.domain.Version.{Version}
use Rattle.run_journal.specs.declared.domain.Version.TheVariants.{One, Two}
use Rattle.run_journal.specs.declared.domain.Domain.{Domain}
use Rattle.run_journal.specs.declared.domain.Event.{Event}
use Rattle.run_journal.specs.declared.domain.Event.TheVariants.{Connect, Roam, Deliver, Alter, Cut, Inject, Retry, Rekey, Send, Expire, Revoke, Leave, Secret, Renew, Announce}

-- the node is listed
abbrev pub IsListed : Domain → Node → Type 0
IsListed d (Ap k) = k < length d.aps
IsListed d (Sta k) = k < length d.stas

-- the other node is of the other kind, and listed
abbrev pub IsPeerOf : Domain → Node → Node → Type 0
IsPeerOf d (Ap k) (Sta i) = i < length d.stas
IsPeerOf d (Sta k) (Ap i) = i < length d.aps
IsPeerOf d n p = ⊥

-- to whom a node sends data: to a node of the other kind, and an access point to all
abbrev pub IsReceiverOf : Domain → Node → Peer → Type 0
IsReceiverOf d n (peers.One p) = IsPeerOf d n p
IsReceiverOf d (Ap k) peers.All = Unit {0}
IsReceiverOf d (Sta k) peers.All = ⊥

-- the octets of a payload at most (IEEE Std 802.11-2020, 9.2.4.8.1)
abbrev pub most_payload : ℕ
most_payload = 2304

-- the station is listed, where one is named: where none is, all are meant
abbrev pub NamesSta : Domain → Option ℕ → Type 0
NamesSta d None = Unit {0}
NamesSta d (Some s) = s < length d.stas

-- in the second version of scripts pairwise keys are renewed inside their sessions (profile)
abbrev pub is_second : Version → Bool
is_second One = false
is_second Two = true

-- with this suite pairwise keys can be renewed: with all but suite 4
abbrev pub can_renew : Akm → Bool
can_renew FtPsk = false
can_renew _ = true

-- the rules of renewed pairwise keys hold in the network (profile)
abbrev pub has_renewals : Domain → Bool
has_renewals d = is_second d.extras.version

-- pairwise keys are renewed inside their sessions: with suites 2 and 6 (profile)
abbrev pub renews : Domain → Bool
renews d = has_renewals d && can_renew d.akm

-- group-addressed management frames are protected in the network (IEEE Std 802.11-2020, 12.5.4)
abbrev pub protects : Domain → Bool
protects d = d.extras.mfp

-- The event names listed nodes of the right kinds, and a frame that is there with so many octets at least: an octet that it changes, and
-- octets that it keeps, are the frame's. A payload has at most so many octets; a fast transition is begun with suite 4 alone, keys are
-- changed in version 2 alone, pairwise keys are renewed in a network that renews them alone, and an announcement is made in a network
-- alone that protects it.
abbrev pub IsEventOf : Domain → (ℕ → ℕ → Type 0) → Event → Type 0
IsEventOf d IsThere (Connect s a) = (s < length d.stas) × (a < length d.aps)
IsEventOf d IsThere (Roam s a) = (s < length d.stas) × (a < length d.aps) × (d.akm ≡ FtPsk)
IsEventOf d IsThere (Deliver number to) = IsListed d to × IsThere number zero
IsEventOf d IsThere (Alter number place mask to) = IsListed d to × IsThere number (suc place)
IsEventOf d IsThere (Cut number size to) = IsListed d to × IsThere number size
IsEventOf d IsThere (Inject to octets) = IsListed d to
IsEventOf d IsThere (Retry a s) = (a < length d.aps) × (s < length d.stas)
IsEventOf d IsThere (Rekey a) = a < length d.aps
IsEventOf d IsThere (Send from to tid octets) = IsListed d from × IsReceiverOf d from to × (length octets ≤ most_payload)
IsEventOf d IsThere (Expire a s) = (a < length d.aps) × (s < length d.stas)
IsEventOf d IsThere (Revoke a s) = (a < length d.aps) × (s < length d.stas)
IsEventOf d IsThere (Leave s) = s < length d.stas
IsEventOf d IsThere (Secret named psk) = (d.extras.version ≡ Two) × NamesSta d named
IsEventOf d IsThere (Renew a s) = (a < length d.aps) × (s < length d.stas) × (renews d ≡ true)
IsEventOf d IsThere (Announce a octets) = (a < length d.aps) × (length octets ≤ most_payload) × (protects d ≡ true)
