-- The pairwise key between two ends. That each is kept with its nonces is this project's choice (IEEE Std 802.11-2020,
-- 12.7.1.3, 12.7.1.6, profile).
use Rattle.std.specs.Prelude.{◌≡◌, ℕ, List}
use Rattle.domain_base.specs.declared.names.Akm.{Akm}
use Rattle.domain_base.specs.declared.names.Akm.TheVariants as akm
use Rattle.domain_base.specs.declared.names.Mac.{Mac}
use Rattle.domain_base.specs.declared.names.Node.{Node}
use Rattle.domain_base.specs.declared.names.Node.TheVariants.{Ap, Sta}
use Rattle.air_frame.specs.declared.frame.Direction.{Direction}
use Rattle.air_frame.specs.declared.frame.Direction.TheVariants.{ToDs, FromDs}
use Rattle.key_hierarchy.specs.declared.inputs.Ptk.{Ptk}
use Rattle.key_hierarchy.specs.FastTransition.{pmk_r0, pmk_r1, ft_ptk}
use Rattle.key_hierarchy.specs.Keys.{pairwise_ptk}
use Rattle.run_journal.specs.declared.domain.Domain.{Domain}
use Rattle.domain_rules.specs.Network.{Root, mac}
use Rattle.node_base.specs.declared.pairwise.Pmk.{Pmk}
use Rattle.node_base.specs.declared.pairwise.Pmk.TheVariants.{Psk, PskSha256, R1}
use Rattle.run_journal.specs.declared.reply.Keyed.{Keyed}
use Rattle.node_base.specs.declared.ends.Ends.{Ends}

-- of the two ends, by the way in which the own one sends data, the access point and the station (12.7.1.3)
abbrev pub ap_by : Direction → Mac → Mac → Mac
ap_by FromDs own peer = own
ap_by ToDs own peer = peer

abbrev pub sta_by : Direction → Mac → Mac → Mac
sta_by FromDs own peer = peer
sta_by ToDs own peer = own

-- what the pairwise keys of an access point and a station go back to: with suites 2 and 6 the pre-shared key, with
-- suite 4 the PMK-R1 (12.7.1.3, 12.7.1.6.4)
abbrev pub pmk_by : Akm → Domain → Root → Mac → Mac → Pmk
pmk_by akm.Psk d r aa spa = Psk r.psk
pmk_by akm.PskSha256 d r aa spa = PskSha256 r.psk
pmk_by akm.FtPsk d r aa spa = R1 (pmk_r1 (pmk_r0 r.psk d.ssid r.mdid r.r0kh_id spa) aa spa)

-- what the pairwise keys of a node with its peer go back to (12.7.1.3, 12.7.1.6.4)
abbrev pub pmk_of : Domain → Root → Node → Node → Pmk
pmk_of d r (Ap k) p = pmk_by d.akm d r (mac d (Ap k)) (mac d p)
pmk_of d r (Sta k) p = pmk_by d.akm d r (mac d p) (mac d (Sta k))

-- what two nonces make of it (12.7.1.3)
abbrev pub ptk_with : Ends → Pmk → List ℕ → List ℕ → Ptk
ptk_with l (Psk psk) anonce snonce =
    pairwise_ptk akm.Psk psk (ap_by l.direction l.own l.peer) (sta_by l.direction l.own l.peer)
    anonce snonce
ptk_with l (PskSha256 psk) anonce snonce =
    pairwise_ptk akm.PskSha256 psk (ap_by l.direction l.own l.peer) (sta_by l.direction l.own l.peer)
    anonce snonce
ptk_with l (R1 r1) anonce snonce =
    ft_ptk r1 snonce anonce (ap_by l.direction l.own l.peer) (sta_by l.direction l.own l.peer)

-- the pairwise key between two ends, of both nonces (12.7.1.3, profile)
abbrev pub key_with : Ends → Pmk → List ℕ → List ℕ → Keyed
key_with l pmk anonce snonce = record {
  ptk = ptk_with l pmk anonce snonce;
  anonce = anonce;
  snonce = snonce;
}

-- a key is that of its nonces (12.7.1.3, profile)
abbrev pub IsKeyOf : Ends → Pmk → Keyed → Type 0
IsKeyOf l pmk y = y.ptk ≡ ptk_with l pmk y.anonce y.snonce
