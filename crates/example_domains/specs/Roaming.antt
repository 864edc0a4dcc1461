-- An association with suite 4, a fast transition over the air to another access point and back, and a key that is
-- revoked. They inhabit the definitions of fast transition by two access points and a station in every network in form
-- with suite 4. Every field of every row is filled, and key holders answer rightly (`HeldRight`). Nothing is asked of
-- digests and drawn values: of names, nonces and keys none has to differ from another. What the network puts into
-- frames has its sizes and is of octets, since M3 carries it under key wrap. No row of the tables of fast transition is
-- missing but those of a repeated authentication request and of an event that does nothing (profile).
use Rattle.std.specs.Prelude.{◌≡◌, ◌≢◌, ℕ, ◌<◌, false, List, [], ◌∷◌, length, Some, None, codes}
use Rattle.std.specs.List.{AllByRecursion}
use Rattle.air_frame.specs.Sent.{ft_resp_octets}
use Rattle.domain_base.specs.Octets.{AreOctets}
use Rattle.domain_base.specs.declared.names.Akm.TheVariants.{FtPsk}
use Rattle.domain_base.specs.declared.names.Node.TheVariants.{Ap, Sta}
use Rattle.domain_base.specs.declared.names.Peer.TheVariants.{One}
use Rattle.domain_rules.specs.DataExample.{HaveOctets}
use Rattle.domain_rules.specs.Example.{AreWhole}
use Rattle.domain_rules.specs.Explained.{WasSent, Explained}
use Rattle.domain_rules.specs.FastTransition.{root_name}
use Rattle.domain_rules.specs.HeldRight.{HeldRight}
use Rattle.domain_rules.specs.Network.{mac, address, nonce, gtk, psk_of, r0kh_id, root_at, inputs_at, InForm}
use Rattle.key_hierarchy.specs.FastTransition.{pmk_r0, pmk_r1}
use Rattle.key_hierarchy.specs.Keys.{ptk}
use Rattle.key_hierarchy.specs.declared.answers.PullAnswer.TheVariants.{Found, Absent}
use Rattle.key_hierarchy.specs.declared.answers.PutAnswer.TheVariants.{Held}
use Rattle.key_hierarchy.specs.declared.answers.RevokeAnswer.TheVariants as revoke
use Rattle.key_hierarchy.specs.declared.fast_transition.PmkR1.{PmkR1}
use Rattle.key_hierarchy.specs.declared.inputs.Inputs.{Inputs}
use Rattle.run_journal.specs.declared.acts.GroupKind.TheVariants as groups
use Rattle.run_journal.specs.Premises.{In}
use Rattle.run_journal.specs.Questions.{history}
use Rattle.run_journal.specs.declared.acts.Act.TheVariants.{Closed, Sent, Took, Installed, Resumed, Used, HandedUp, Put, Looked, Revoked}
use Rattle.run_journal.specs.declared.acts.Entry.{Entry}
use Rattle.run_journal.specs.declared.acts.Key.TheVariants.{Pairwise, Group}
use Rattle.run_journal.specs.declared.acts.Kind.TheVariants.{FtReq, FtResp, ReReq}
use Rattle.run_journal.specs.declared.acts.Outcome.TheVariants.{Answered, Refused}
use Rattle.run_journal.specs.declared.acts.Part.TheVariants.{Session}
use Rattle.run_journal.specs.declared.acts.Reason.TheVariants.{Name}
use Rattle.run_journal.specs.declared.acts.Seal.{Seal}
use Rattle.run_journal.specs.Events.{protects}
use Rattle.run_journal.specs.declared.domain.Domain.{Domain}
use Rattle.run_journal.specs.declared.domain.Event.TheVariants.{Connect, Roam, Deliver, Send, Revoke}
use Rattle.run_journal.specs.declared.domain.Event.{Event}
use Rattle.run_journal.specs.declared.domain.ListedAp.{ListedAp}
use Rattle.run_journal.specs.declared.domain.Version.TheVariants as version

-- a mobility domain of two octets, and R0KH-IDs of octets
pub record IsMobile (d : Domain) : Type 0 where
  pub mdid : length d.mdid ≡ 2
  pub mdid_octets : AreOctets d.mdid
  pub id_octets : AllByRecursion (λ (a : ListedAp). AreOctets a.r0kh_id) d.aps

-- access points k and l and station m of a network in form with suite 4, whose addresses are of six octets, its mobility domain of two, and its
-- R0KH-IDs of octets
pub record CanRoam (d : Domain) (k l m : ℕ) : Type 0 where
  pub form : InForm d
  pub suite : d.akm ≡ FtPsk
  pub unprotected : protects d ≡ false
  pub whole : AreWhole d
  pub octets : HaveOctets d
  pub mobile : IsMobile d
  pub first : k < length d.aps
  pub second : l < length d.aps
  pub differ : k ≢ l
  pub station : m < length d.stas

-- PMKR0Name of a station whose first association was at an access point, and its PMK-R1 for an access point (IEEE Std
-- 802.11-2020, 12.7.1.6)
abbrev pub r0_name_at : Domain → ℕ → ℕ → List ℕ
r0_name_at d k m = root_name d (root_at d (Sta m) (r0kh_id d (Ap k))) (Sta m)

abbrev pub r1_at : Domain → ℕ → ℕ → ℕ → PmkR1
r1_at d k m a = pmk_r1 (pmk_r0 (psk_of d (Sta m)) d.ssid d.mdid (r0kh_id d (Ap k)) (mac d (Sta m))) (mac d (Ap a)) (mac d (Sta m))

-- ---- the rounds, the last first

-- station m asks access point k for association, and the messages up to M4 are accepted (IEEE Std 802.11-2020, 13.4.2,
-- profile)
abbrev pub association : ℕ → ℕ → List (List Event)
association k m =
    (Deliver 6 (Ap k) ∷ []) ∷ (Deliver 5 (Sta m) ∷ []) ∷ (Deliver 4 (Ap k) ∷ []) ∷ (Deliver 3 (Sta m) ∷ []) ∷ (Deliver 2 (Sta m) ∷ []) ∷ (Deliver 1 (Ap k) ∷ []) ∷ (Connect m k ∷ []) ∷ []

-- then it roams to access point l, where the reassociation request comes twice (IEEE Std 802.11-2020, 13.5.2, profile)
abbrev pub roaming : ℕ → ℕ → ℕ → List (List Event)
roaming k l m =
    (Deliver 10 (Sta m) ∷ []) ∷ (Deliver 9 (Ap l) ∷ []) ∷ (Deliver 9 (Ap l) ∷ []) ∷ (Deliver 8 (Sta m) ∷ []) ∷ (Deliver 7 (Ap l) ∷ []) ∷ (Roam m l ∷ []) ∷ association k m

-- then it sends a payload with TID 5, and the access point sends it one
abbrev pub service : ℕ → ℕ → ℕ → List ℕ → List ℕ → List (List Event)
service k l m up down =
    (Deliver 13 (Sta m) ∷ []) ∷ (Send (Ap l) (One (Sta m)) None down ∷ []) ∷ (Deliver 12 (Ap l) ∷ []) ∷ (Send (Sta m) (One (Ap l)) (Some 5) up ∷ []) ∷ roaming k l m

-- the journal in which the station then roams back (IEEE Std 802.11-2020, 13.5.2, profile)
abbrev pub return : ℕ → ℕ → ℕ → List ℕ → List ℕ → List (List Event)
return k l m up down =
    (Deliver 17 (Sta m) ∷ []) ∷ (Deliver 16 (Ap k) ∷ []) ∷ (Deliver 15 (Sta m) ∷ []) ∷ (Deliver 14 (Ap k) ∷ []) ∷ (Roam m k ∷ []) ∷ service k l m up down

-- then its key is revoked, and it roams to access point l again (IEEE Std 802.11-2020, 9.4.1.9, profile)
abbrev pub revocation : ℕ → ℕ → ℕ → List ℕ → List ℕ → List (List Event)
revocation k l m up down =
    (Deliver 18 (Ap l) ∷ []) ∷ (Roam m l ∷ []) ∷ (Revoke k m ∷ []) ∷ return k l m up down

-- ---- journals that they explain

-- both install one pairwise key, the station the group key, and the access point puts the PMK-R0 with its key holder
-- (IEEE Std 802.11-2020, 13.4.2, profile)
pub record HasAssociation (d : Domain) (k m : ℕ) : Type 0 where
  pub journal : List Entry
  pub explained : Explained d (association k m) journal
  pub held : HeldRight d journal
  pub i : Inputs
  pub of_first : i ≡ inputs_at d (Sta m) (Ap k) (r0kh_id d (Ap k)) (nonce d (Sta m) 0) (nonce d (Ap k) 1)
  pub station : In (Installed (One (Ap k)) (Pairwise (ptk i).tk i)) (history (Sta m) journal)
  pub access_point : In (Installed (One (Sta m)) (Pairwise (ptk i).tk i)) (history (Ap k) journal)
  pub given : In (Installed (One (Ap k)) (Group groups.Gtk (gtk d (Ap k) 0) 1 (mac d (Ap k)))) (history (Sta m) journal)
  pub put : In (Put (r0kh_id d (Ap k)) (r0_name_at d k m) (Sta m) Held) (history (Ap k) journal)

-- the other access point looks the key up and finds it; both install one pairwise key of it, the station the group key,
-- and it leaves the first session. The repeated request is answered with the octets of the first response: frames 10
-- and 11 (IEEE Std 802.11-2020, 13.5.2)
pub record HasRoaming (d : Domain) (k l m : ℕ) : Type 0 where
  pub journal : List Entry
  pub explained : Explained d (roaming k l m) journal
  pub held : HeldRight d journal
  pub looked : In (Looked (r0kh_id d (Ap k)) (r0_name_at d k m) (Sta m) (Found (r1_at d k m l))) (history (Ap l) journal)
  pub i : Inputs
  pub of_second : i ≡ inputs_at d (Sta m) (Ap l) (r0kh_id d (Ap k)) (nonce d (Sta m) 1) (nonce d (Ap l) 1)
  pub station : In (Installed (One (Ap l)) (Pairwise (ptk i).tk i)) (history (Sta m) journal)
  pub access_point : In (Installed (One (Sta m)) (Pairwise (ptk i).tk i)) (history (Ap l) journal)
  pub given : In (Installed (One (Ap l)) (Group groups.Gtk (gtk d (Ap l) 0) 1 (mac d (Ap l)))) (history (Sta m) journal)
  pub left : In (Closed (Ap k) Session) (history (Sta m) journal)
  pub request : List ℕ
  pub seal : Seal
  pub answered : In (Took (Some (Sta m)) request ReReq Answered (Some seal)) (history (Ap l) journal)
  pub response : List ℕ
  pub sent : WasSent journal 14 10 response
  pub again : WasSent journal 14 11 response

-- each payload is sent under the first packet number of the key and handed up with it
pub record HasService (d : Domain) (k l m : ℕ) (up down : List ℕ) : Type 0 where
  pub journal : List Entry
  pub explained : Explained d (service k l m up down) journal
  pub held : HeldRight d journal
  pub i : Inputs
  pub of_second : i ≡ inputs_at d (Sta m) (Ap l) (r0kh_id d (Ap k)) (nonce d (Sta m) 1) (nonce d (Ap l) 1)
  pub sent_up : In (Used (One (Ap l)) (ptk i).tk 0 1 up) (history (Sta m) journal)
  pub taken_up : In (HandedUp (Sta m) (ptk i).tk 0 5 1 up) (history (Ap l) journal)
  pub sent_down : In (Used (One (Sta m)) (ptk i).tk 0 1 down) (history (Ap l) journal)
  pub taken_down : In (HandedUp (Ap l) (ptk i).tk 0 0 1 down) (history (Sta m) journal)

-- the first access point finds the key with its own holder, both install a new pairwise key of it, and the station
-- resumes the group key (IEEE Std 802.11-2020, 13.5.2, profile)
pub record HasReturn (d : Domain) (k l m : ℕ) (up down : List ℕ) : Type 0 where
  pub journal : List Entry
  pub explained : Explained d (return k l m up down) journal
  pub held : HeldRight d journal
  pub looked : In (Looked (r0kh_id d (Ap k)) (r0_name_at d k m) (Sta m) (Found (r1_at d k m k))) (history (Ap k) journal)
  pub i : Inputs
  pub of_third : i ≡ inputs_at d (Sta m) (Ap k) (r0kh_id d (Ap k)) (nonce d (Sta m) 2) (nonce d (Ap k) 2)
  pub station : In (Installed (One (Ap k)) (Pairwise (ptk i).tk i)) (history (Sta m) journal)
  pub access_point : In (Installed (One (Sta m)) (Pairwise (ptk i).tk i)) (history (Ap k) journal)
  pub replaced : In (Closed (Sta m) Session) (history (Ap k) journal)
  pub left : In (Closed (Ap l) Session) (history (Sta m) journal)
  pub resumed : In (Resumed (Ap k) (Group groups.Gtk (gtk d (Ap k) 0) 1 (mac d (Ap k)))) (history (Sta m) journal)

-- the first access point revokes the key, the other one looks it up and finds none, refuses the request for its name,
-- and sends the station a response with status 53 and no elements (IEEE Std 802.11-2020, 9.4.1.9, profile)
pub record HasRevocation (d : Domain) (k l m : ℕ) (up down : List ℕ) : Type 0 where
  pub journal : List Entry
  pub explained : Explained d (revocation k l m up down) journal
  pub held : HeldRight d journal
  pub revoked : In (Revoked (r0kh_id d (Ap k)) (r0_name_at d k m) (Sta m) revoke.Revoked) (history (Ap k) journal)
  pub looked : In (Looked (r0kh_id d (Ap k)) (r0_name_at d k m) (Sta m) Absent) (history (Ap l) journal)
  pub request : List ℕ
  pub refused : In (Took (Some (Sta m)) request FtReq (Refused Name) None) (history (Ap l) journal)
  pub sent : In (Sent (One (Sta m)) FtResp (ft_resp_octets (address d (Sta m)) (address d (Ap l)) (address d (Ap l)) 53 []) None) (history (Ap l) journal)

-- ---- a small network

-- two access points and one station with suite 4, of any seed, name, pre-shared key and mobility domain
abbrev pub pair : List ℕ → List ℕ → List ℕ → List ℕ → Domain
pair seed ssid psk mdid = record {
  seed = seed;
  ssid = ssid;
  akm = FtPsk;
  mdid = mdid;
  extras = record { version = version.One; renew_at = None; mfp = false };
  aps = record { address = record { 0 = 0x02 ∷ 0 ∷ 0 ∷ 0 ∷ 0 ∷ 0x01 ∷ [] }; r0kh_id = codes "r0kh-1" } ∷ record { address = record { 0 = 0x02 ∷ 0 ∷ 0 ∷ 0 ∷ 0 ∷ 0x02 ∷ [] }; r0kh_id = codes "r0kh-2" } ∷ [];
  stas = record { address = record { 0 = 0x02 ∷ 0 ∷ 0 ∷ 0 ∷ 0 ∷ 0x11 ∷ [] }; psk = psk } ∷ [];
}
