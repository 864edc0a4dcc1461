-- The octets between two ends (IEEE Std 802.11-2020, 9.3.2.1).
-- For the code alone: no public contract speaks of it.
use Rattle.std.specs.Prelude.{ℕ, List}
use Rattle.air_frame.specs.declared.frame.Direction.{Direction}
use Rattle.air_frame.specs.declared.frame.Direction.TheVariants.{ToDs, FromDs}
use Rattle.air_frame.specs.Sent.{eapol_data_octets}
use Rattle.node_base.specs.declared.ends.Ends.{Ends}

-- of the two ends, the access point's address
abbrev pub bssid_by : Direction → List ℕ → List ℕ → List ℕ
bssid_by FromDs own peer = own
bssid_by ToDs own peer = peer

abbrev pub bssid_between : Ends → List ℕ
bssid_between l = bssid_by l.direction l.own.0 l.peer.0

-- an EAPOL frame between the two ends, in a data frame
abbrev pub octets_between : Ends → List ℕ → List ℕ
octets_between l frame = eapol_data_octets l.direction l.peer.0 l.own.0 (bssid_between l) frame
