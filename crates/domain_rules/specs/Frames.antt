-- Every octet of the frames that nodes send. Order and choice of elements are this project's (IEEE Std 802.11-2020,
-- 9.3, 9.4.2, 12.7.6, profile).
use Rattle.std.specs.Prelude.{ℕ, suc, ◌+◌, Bool, true, false, List, [], ◌∷◌, ◌++◌, Option, Some, None}
use Rattle.domain_base.specs.declared.names.Akm.{Akm}
use Rattle.domain_base.specs.declared.names.Akm.TheVariants.{FtPsk}
use Rattle.domain_base.specs.declared.names.Node.{Node}
use Rattle.domain_base.specs.declared.names.Node.TheVariants.{Ap, Sta}
use Rattle.domain_base.specs.declared.names.Peer.TheVariants.{One}
use Rattle.air_frame.specs.Sent.{assoc_req_octets, assoc_resp_octets, eapol_data_octets}
use Rattle.rsn_elements.specs.Sent.{ssid_octets, rates_octets, mde_octets, fte_octets, timeout_octets, gtk_kde_octets, igtk_kde_octets}
use Rattle.key_wrap.specs.KeyWrap.{last_registers}
use Rattle.mac_prf.specs.Mic.{without_mic}
use Rattle.eapol_key.specs.declared.messages.Message.{Message}
use Rattle.eapol_key.specs.declared.messages.Message.TheVariants.{M1, M2, M3, M4, G1, G2}
use Rattle.eapol_key.specs.KeyFrame.{KeyFields}
use Rattle.eapol_key.specs.Octets.{frame_octets}
use Rattle.eapol_key.specs.Sent.{sent_fields}
use Rattle.eapol_key.specs.Sealed.{sealed}
use Rattle.eapol_key.specs.KeyData.{padded}
use Rattle.key_hierarchy.specs.Keys.{ptk}
use Rattle.key_hierarchy.specs.declared.inputs.Inputs.{Inputs}
use Rattle.run_journal.specs.declared.domain.Domain.{Domain}
use Rattle.run_journal.specs.declared.acts.Kind.TheVariants as kind
use Rattle.run_journal.specs.declared.acts.Seal.{Seal}
use Rattle.run_journal.specs.declared.acts.Act.{Act}
use Rattle.run_journal.specs.declared.acts.Act.TheVariants.{Sent}
use Rattle.run_journal.specs.Acts.{Derivation}
use Rattle.domain_rules.specs.Network.{address, bssid, direction}
use Rattle.domain_rules.specs.Suites.{network_rsne}
use Rattle.domain_rules.specs.FastTransition.{r1_name, assoc_fte}
use Rattle.domain_rules.specs.GroupKeys.{IgtkNews, News}

-- SSID, rates, RSNE; with suite 4 the MDE too (13.4.2)
abbrev pub assoc_req_elements_by : Akm → Domain → List ℕ
assoc_req_elements_by FtPsk d = ssid_octets d.ssid ++ rates_octets ++ network_rsne d None ++ mde_octets d.mdid
assoc_req_elements_by _ d = ssid_octets d.ssid ++ rates_octets ++ network_rsne d None

abbrev pub assoc_req_elements : Domain → List ℕ
assoc_req_elements d = assoc_req_elements_by d.akm d

-- an association request as it is sent, from station n to access point p: SSID, rates and RSNE, with suite 4 the MDE
-- too (9.3.3.5, profile)
abbrev pub sent_assoc_req : Domain → Node → Node → Act
sent_assoc_req d n p = Sent (One p) kind.AssocReq (assoc_req_octets (address d p) (address d n) (address d p) (assoc_req_elements d)) None

-- the association identifier of a station: its place from 1, with bits 14 and 15 set (9.4.1.8)
abbrev pub aid : Node → ℕ
aid (Ap k) = 0
aid (Sta k) = 49152 + suc k

-- rates; with suite 4 the MDE and the FTE too (13.4.2)
abbrev pub assoc_resp_elements_by : Akm → Domain → Node → List ℕ
assoc_resp_elements_by FtPsk d n = rates_octets ++ mde_octets d.mdid ++ fte_octets (assoc_fte d n)
assoc_resp_elements_by _ d n = rates_octets

abbrev pub assoc_resp_elements : Domain → Node → List ℕ
assoc_resp_elements d n = assoc_resp_elements_by d.akm d n

-- from access point n to station p: with status 0 its AID and elements (9.3.3.6, 9.4.1.8, 13.4.2, profile)
abbrev pub sent_assoc_resp : Domain → Node → Node → Act
sent_assoc_resp d n p = Sent (One p) kind.AssocResp (assoc_resp_octets (address d p) (address d n) (address d n) 0 (aid p) (assoc_resp_elements d n)) None

-- an association response with another status than 0, as it is sent: no elements (9.3.3.6, profile)
abbrev pub sent_refusal : Domain → Node → Node → ℕ → Act
sent_refusal d n p status = Sent (One p) kind.AssocResp (assoc_resp_octets (address d p) (address d n) (address d n) status 0 []) None

-- an EAPOL-Key frame from n to p in a data frame (12.7.2, profile)
abbrev pub in_data : Domain → Node → Node → List ℕ → List ℕ
in_data d n p frame = eapol_data_octets (direction n) (address d p) (address d n) (bssid d n p) frame

-- what the MIC of an EAPOL-Key frame covers (12.7.2, profile)
abbrev pub frame_seal : List ℕ → List ℕ → Seal
frame_seal kck frame = record { octets = 1 ∷ without_mic frame; key = kck }

-- the act of sending an EAPOL-Key frame with what is sealed in it (12.7.2, profile)
abbrev pub sent_sealed : Domain → Node → Node → Message → List ℕ → List ℕ → Act
sent_sealed d n p m kck frame = Sent (One p) (kind.Key m) (in_data d n p frame) (Some (frame_seal kck frame))

-- M1: no MIC, no key data (12.7.6.2)
abbrev pub sent_m1 : Domain → Node → Node → ℕ → List ℕ → Act
sent_m1 d n p counter anonce = Sent (One p) (kind.Key M1) (in_data d n p (frame_octets (sent_fields M1 d.akm counter anonce 0 []))) None

-- the key of these inputs (12.7.1.3)
abbrev pub keyed_by : Inputs → Derivation
keyed_by i = record { inputs = i; ptk = ptk i }

-- the key data of M2: the RSNE as in the association request; with suite 4 the RSNE with PMKR1Name, the MDE, and the FTE of the
-- association response (13.4.2)
abbrev pub sent_m2_key_data : Akm → Domain → Derivation → List ℕ → List ℕ
sent_m2_key_data FtPsk d x fte = network_rsne d (Some (r1_name x.inputs)) ++ mde_octets d.mdid ++ fte
sent_m2_key_data _ d x fte = network_rsne d None

-- M2, under a derived key (12.7.6.3, 13.4.2)
abbrev pub m2_frame : Domain → Derivation → ℕ → List ℕ → List ℕ
m2_frame d x counter fte = sealed d.akm x.ptk.kck (frame_octets (sent_fields M2 d.akm counter x.inputs.snonce 0 (sent_m2_key_data d.akm d x fte)))

-- M2 as it is sent: the RSNE of the request, with suite 4 that RSNE with PMKR1Name, the MDE and the FTE of the
-- association response (12.7.6.3, 13.4.2)
abbrev pub sent_m2 : Domain → Node → Node → Derivation → ℕ → List ℕ → Act
sent_m2 d n p x counter fte = sent_sealed d n p M2 x.ptk.kck (m2_frame d x counter fte)

-- fields with the Secure bit set as well, where it is not (12.7.2)
abbrev pub secured : KeyFields → KeyFields
secured f = record f { information = 512 + f.information }

-- M2 of an attempt that renews the key of a session: with Secure set, by which the access point tells it from one that
-- begins a session (12.7.6.3, profile)
abbrev pub renewal_m2_frame : Domain → Derivation → ℕ → List ℕ
renewal_m2_frame d x counter = sealed d.akm x.ptk.kck (frame_octets (secured (sent_fields M2 d.akm counter x.inputs.snonce 0 (sent_m2_key_data d.akm d x []))))

-- M2 of such an attempt, or of one that begins a session (12.7.6.3, profile)
abbrev pub m2_frame_by : Bool → Domain → Derivation → ℕ → List ℕ → List ℕ
m2_frame_by false d x counter fte = m2_frame d x counter fte
m2_frame_by true d x counter fte = renewal_m2_frame d x counter

-- as it is sent (12.7.6.3, profile)
abbrev pub sent_m2_by : Bool → Domain → Node → Node → Derivation → ℕ → List ℕ → Act
sent_m2_by renewing d n p x counter fte = sent_sealed d n p M2 x.ptk.kck (m2_frame_by renewing d x counter fte)

-- key data under key wrap (RFC 3394)
abbrev pub wrapped : List ℕ → List ℕ → List ℕ
wrapped kek plain = (last_registers kek plain).check ++ (last_registers kek plain).blocks

-- the deadline for a reassociation and the lifetime of the key, in milliseconds and seconds: written, and looked at by
-- none (9.4.2.48)
abbrev pub timeouts : List ℕ
timeouts = timeout_octets 1 1000 ++ timeout_octets 2 86400

-- after these octets the KDE of the IGTK, where there is one (12.7.2)
abbrev pub and_igtk_kde : Option IgtkNews → List ℕ → List ℕ
and_igtk_kde None octets = octets
and_igtk_kde (Some k) octets = octets ++ igtk_kde_octets k.igtk.id k.ipn k.igtk.key

-- the KDEs of the group keys: the GTK, and after it the IGTK (12.7.2)
abbrev pub group_kdes : News → List ℕ
group_kdes keys = and_igtk_kde keys.igtk (gtk_kde_octets keys.gtk.id keys.gtk.key)

-- the key data of M3 from access point n: the RSNE as in the association request, and the group keys, padded. With suite
-- 4 the RSNE with PMKR1Name, the MDE, the group keys, the FTE of the association response, and both timeouts (12.7.6.4,
-- 13.4.2)
abbrev pub m3_key_data_by : Akm → Domain → Node → Derivation → News → List ℕ
m3_key_data_by FtPsk d n x keys =
    padded (network_rsne d (Some (r1_name x.inputs)) ++ mde_octets d.mdid ++ group_kdes keys ++ fte_octets (assoc_fte d n) ++ timeouts)
m3_key_data_by _ d n x keys = padded (network_rsne d None ++ group_kdes keys)

-- the key data of M3 from access point n (12.7.6.4, 13.4.2, profile)
abbrev pub m3_key_data : Domain → Node → Derivation → News → List ℕ
m3_key_data d n x keys = m3_key_data_by d.akm d n x keys

-- M3, with the group keys of an access point (12.7.6.4, 13.4.2, profile)
abbrev pub m3_frame : Domain → Node → Derivation → ℕ → News → List ℕ
m3_frame d n x counter keys =
    sealed d.akm x.ptk.kck (frame_octets (sent_fields M3 d.akm counter x.inputs.anonce keys.rsc (wrapped x.ptk.kek (m3_key_data d n x keys))))

-- M3 as it is sent: the RSNE and the KDEs of the group keys, padded, under key wrap; with suite 4 the MDE, the FTE of the association
-- response and both timeouts too (12.7.6.4, 13.4.2, profile)
abbrev pub sent_m3 : Domain → Node → Node → Derivation → ℕ → News → Act
sent_m3 d n p x counter keys = sent_sealed d n p M3 x.ptk.kck (m3_frame d n x counter keys)

-- M4 (12.7.6.5)
abbrev pub m4_frame : Domain → Derivation → ℕ → List ℕ
m4_frame d x counter = sealed d.akm x.ptk.kck (frame_octets (sent_fields M4 d.akm counter [] 0 []))

-- M4 as it is sent (12.7.6.5)
abbrev pub sent_m4 : Domain → Node → Node → Derivation → ℕ → Act
sent_m4 d n p x counter = sent_sealed d n p M4 x.ptk.kck (m4_frame d x counter)

-- the key data of G1: the group keys, padded (12.7.7.2)
abbrev pub g1_key_data : News → List ℕ
g1_key_data keys = padded (group_kdes keys)

-- G1, with the group keys of an access point (12.7.7.2, profile)
abbrev pub g1_frame : Domain → Derivation → ℕ → News → List ℕ
g1_frame d x counter keys =
    sealed d.akm x.ptk.kck (frame_octets (sent_fields G1 d.akm counter [] keys.rsc (wrapped x.ptk.kek (g1_key_data keys))))

-- G1 as it is sent: the KDEs of the group keys under key wrap, and the RSC (12.7.7.2, profile)
abbrev pub sent_g1 : Domain → Node → Node → Derivation → ℕ → News → Act
sent_g1 d n p x counter keys = sent_sealed d n p G1 x.ptk.kck (g1_frame d x counter keys)

-- G2 (12.7.7.3)
abbrev pub g2_frame : Domain → Derivation → ℕ → List ℕ
g2_frame d x counter = sealed d.akm x.ptk.kck (frame_octets (sent_fields G2 d.akm counter [] 0 []))

-- G2 as it is sent, without key data (12.7.7.3)
abbrev pub sent_g2 : Domain → Node → Node → Derivation → ℕ → Act
sent_g2 d n p x counter = sent_sealed d n p G2 x.ptk.kck (g2_frame d x counter)
