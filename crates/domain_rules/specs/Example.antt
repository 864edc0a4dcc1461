-- A whole four-way handshake with a retry, a repeated M3 and a second attempt; then a group key handshake and a second
-- association. They inhabit `Explained` by an access point and a station in every network in form with suite 2 or 6,
-- every field of every row filled. Digests and drawn values are left as they are named, but the two group keys have to
-- differ. And a small network. With suite 4 it is `example_domains` that inhabits them (profile).
use Rattle.std.specs.Prelude.{◌≡◌, ℕ, false, List, [], ◌∷◌, Some, None, codes}
use Rattle.std.specs.List.{AllByRecursion}
use Rattle.domain_base.specs.declared.names.Akm.{Akm}
use Rattle.domain_base.specs.declared.names.Node.TheVariants.{Ap, Sta}
use Rattle.domain_base.specs.declared.names.Peer.TheVariants.{One, All}
use Rattle.air_frame.specs.Sent.{IsAddress}
use Rattle.eapol_key.specs.declared.messages.Message.TheVariants.{M3, G2}
use Rattle.key_hierarchy.specs.declared.inputs.Inputs.{Inputs}
use Rattle.key_hierarchy.specs.Keys.{ptk}
use Rattle.run_journal.specs.declared.acts.GroupKind.TheVariants as groups
use Rattle.run_journal.specs.declared.domain.ListedAp.{ListedAp}
use Rattle.run_journal.specs.declared.domain.ListedSta.{ListedSta}
use Rattle.run_journal.specs.declared.domain.Version.TheVariants as version
use Rattle.run_journal.specs.declared.domain.Domain.{Domain}
use Rattle.run_journal.specs.declared.domain.Event.{Event}
use Rattle.run_journal.specs.declared.domain.Event.TheVariants.{Connect, Deliver, Retry, Rekey}
use Rattle.run_journal.specs.declared.acts.Act.TheVariants.{Drew, Took, Installed, Resumed, Finished}
use Rattle.run_journal.specs.declared.acts.Act.{Act}
use Rattle.run_journal.specs.declared.acts.Entry.{Entry}
use Rattle.run_journal.specs.declared.acts.Drawn.TheVariants as draw
use Rattle.run_journal.specs.declared.acts.Drawn.TheVariants.{Nonce}
use Rattle.run_journal.specs.declared.acts.Kind.TheVariants.{Key}
use Rattle.run_journal.specs.declared.acts.Outcome.TheVariants.{Accepted, Answered}
use Rattle.run_journal.specs.declared.acts.Seal.{Seal}
use Rattle.run_journal.specs.declared.acts.Key.TheVariants.{Pairwise, Group}
use Rattle.run_journal.specs.Acts.{GroupKey}
use Rattle.run_journal.specs.Questions.{history, attempt, session, own_nonce}
use Rattle.run_journal.specs.Premises.{In}
use Rattle.domain_rules.specs.Network.{mac, nonce, gtk, root, inputs}
use Rattle.domain_rules.specs.Explained.{Explained}

-- one access point and one station, of any suite, seed, name and pre-shared key
abbrev pub small : Akm → List ℕ → List ℕ → List ℕ → Domain
small akm seed ssid psk = record {
  seed = seed;
  ssid = ssid;
  akm = akm;
  mdid = 0 ∷ 0 ∷ [];
  extras = record { version = version.One; renew_at = None; mfp = false };
  aps = record { address = record { 0 = 0x02 ∷ 0 ∷ 0 ∷ 0 ∷ 0 ∷ 0x01 ∷ [] }; r0kh_id = codes "r0kh-1" } ∷ [];
  stas = record { address = record { 0 = 0x02 ∷ 0 ∷ 0 ∷ 0 ∷ 0 ∷ 0x11 ∷ [] }; psk = psk } ∷ [];
}

-- all addresses have six octets
pub record AreWhole (d : Domain) : Type 0 where
  pub aps : AllByRecursion (λ (a : ListedAp). IsAddress a.address.0) d.aps
  pub stas : AllByRecursion (λ (s : ListedSta). IsAddress s.address.0) d.stas

-- the last round first: a station asks an access point, the messages up to M3 are accepted, M3 is sent again and
-- answered again, the last answer is accepted, and the station asks again
abbrev pub handshake : ℕ → ℕ → List (List Event)
handshake a s =
    (Deliver 9 (Ap a) ∷ []) ∷ (Connect s a ∷ []) ∷ (Deliver 8 (Ap a) ∷ []) ∷ (Deliver 7 (Sta s) ∷ []) ∷ (Retry a s ∷ [])
    ∷ (Deliver 5 (Sta s) ∷ []) ∷ (Deliver 4 (Ap a) ∷ []) ∷ (Deliver 3 (Sta s) ∷ []) ∷ (Deliver 2 (Sta s) ∷ []) ∷ (Deliver 1 (Ap a) ∷ []) ∷ (Connect s a ∷ []) ∷ []

-- a journal that these rounds explain, in which both nodes finish a first attempt with one key of the same inputs
-- installed, and the station with the access point's group key. A repeated M3 is answered, and both nodes are in a
-- second attempt with a nonce of its own
pub record HasHandshake (d : Domain) (a s : ℕ) : Type 0 where
  pub journal : List Entry
  pub explained : Explained d (handshake a s) journal
  -- the pairwise key, of the nonces of the first attempt
  pub i : Inputs
  pub of_first : i ≡ inputs d (root d (Sta s)) (Sta s) (Ap a) (nonce d (Sta s) 0) (nonce d (Ap a) 1)
  pub station : In (Installed (One (Ap a)) (Pairwise (ptk i).tk i)) (history (Sta s) journal)
  pub access_point : In (Installed (One (Sta s)) (Pairwise (ptk i).tk i)) (history (Ap a) journal)
  pub station_ends : In (Finished (Ap a) i) (history (Sta s) journal)
  pub access_point_ends : In (Finished (Sta s) i) (history (Ap a) journal)
  -- the group key
  pub group : GroupKey
  pub current : In (Installed All (Group groups.Gtk group.key group.id (mac d (Ap a)))) (history (Ap a) journal)
  pub given : In (Installed (One (Ap a)) (Group groups.Gtk group.key group.id (mac d (Ap a)))) (history (Sta s) journal)
  -- M3, answered again
  pub octets : List ℕ
  pub seal : Seal
  pub repeated : In (Took (Some (Ap a)) octets (Key M3) Answered (Some seal)) (history (Sta s) journal)
  -- the station's second attempt: its session is closed
  pub station_part : List Act
  pub station_again : attempt (Ap a) (history (Sta s) journal) ≡ Some station_part
  pub station_nonce : own_nonce station_part ≡ Some (nonce d (Sta s) 1)
  pub station_drew : In (Drew (Nonce (nonce d (Sta s) 1))) (history (Sta s) journal)
  pub station_drops : session (Ap a) (history (Sta s) journal) ≡ None
  -- the access point's second attempt: its session stays. The first that it draws is its group key
  pub access_point_part : List Act
  pub access_point_again : attempt (Sta s) (history (Ap a) journal) ≡ Some access_point_part
  pub access_point_nonce : own_nonce access_point_part ≡ Some (nonce d (Ap a) 2)
  pub access_point_drew : In (Drew (Nonce (nonce d (Ap a) 2))) (history (Ap a) journal)
  pub access_point_keeps : session (Sta s) (history (Ap a) journal) ≡ Some (record { inputs = i; ptk = ptk i })

-- the last round first: as above up to M4, then the access point draws a new group key, G1 and G2 are accepted, the station asks anew,
-- and its messages up to M3 are accepted
abbrev pub renewal : ℕ → ℕ → List (List Event)
renewal a s =
    (Deliver 15 (Sta s) ∷ []) ∷ (Deliver 14 (Ap a) ∷ []) ∷ (Deliver 13 (Sta s) ∷ []) ∷ (Deliver 12 (Sta s) ∷ []) ∷ (Deliver 11 (Ap a) ∷ []) ∷ (Connect s a ∷ [])
    ∷ (Deliver 10 (Ap a) ∷ []) ∷ (Deliver 9 (Sta s) ∷ []) ∷ (Rekey a ∷ []) ∷ (Deliver 8 (Ap a) ∷ []) ∷ (Deliver 7 (Sta s) ∷ []) ∷ (Retry a s ∷ [])
    ∷ (Deliver 5 (Sta s) ∷ []) ∷ (Deliver 4 (Ap a) ∷ []) ∷ (Deliver 3 (Sta s) ∷ []) ∷ (Deliver 2 (Sta s) ∷ []) ∷ (Deliver 1 (Ap a) ∷ []) ∷ (Connect s a ∷ []) ∷ []

-- a journal that these rounds explain, in which the station installs the new group key, the access point takes the answer and makes
-- the key current, and the station resumes it in its second association
pub record HasRenewal (d : Domain) (a s : ℕ) : Type 0 where
  pub journal : List Entry
  pub explained : Explained d (renewal a s) journal
  -- the third value that the access point draws, with the second key id
  pub new : GroupKey
  pub is_new : new ≡ record { key = gtk d (Ap a) 2; id = 2 }
  pub drawn : In (Drew (draw.Group groups.Gtk new.key)) (history (Ap a) journal)
  pub given : In (Installed (One (Ap a)) (Group groups.Gtk new.key new.id (mac d (Ap a)))) (history (Sta s) journal)
  pub octets : List ℕ
  pub seal : Seal
  pub answered : In (Took (Some (Sta s)) octets (Key G2) Accepted (Some seal)) (history (Ap a) journal)
  pub current : In (Installed All (Group groups.Gtk new.key new.id (mac d (Ap a)))) (history (Ap a) journal)
  -- the pairwise key, of the nonces of the second association
  pub i : Inputs
  pub of_second : i ≡ inputs d (root d (Sta s)) (Sta s) (Ap a) (nonce d (Sta s) 1) (nonce d (Ap a) 3)
  pub station : In (Installed (One (Ap a)) (Pairwise (ptk i).tk i)) (history (Sta s) journal)
  pub resumed : In (Resumed (Ap a) (Group groups.Gtk new.key new.id (mac d (Ap a)))) (history (Sta s) journal)
