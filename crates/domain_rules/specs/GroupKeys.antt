-- The group keys of access points and stations. The key ids and how many a station keeps are this project's choice
-- (IEEE Std 802.11-2020, 12.7.7, profile).
use Rattle.std.specs.Prelude.{ℕ, zero, suc, ◌+◌, ◌%◌, ◌==◌, max, Bool, true, false, ◌&&◌, cond, List, [], ◌∷◌, ◌++◌, length, take, drop, slice_index, Option, Some, None, bytes_eq}
use Rattle.std.specs.Int.{w64, from_le_bytes}
use Rattle.domain_base.specs.Places.{part}
use Rattle.air_frame.specs.Control.{data_header_length}
use Rattle.eapol_key.specs.declared.messages.Message.TheVariants.{M3, G1}
use Rattle.run_journal.specs.declared.acts.Kind.TheVariants as frame_kind
use Rattle.domain_base.specs.declared.names.Mac.{Mac}
use Rattle.domain_base.specs.declared.names.Node.{Node}
use Rattle.domain_base.specs.declared.names.Peer.TheVariants.{One}
use Rattle.run_journal.specs.declared.acts.GroupKind.{GroupKind}
use Rattle.run_journal.specs.declared.acts.GroupKind.TheVariants as groups
use Rattle.run_journal.specs.GroupKinds.{same_group_kind}
use Rattle.run_journal.specs.declared.domain.Domain.{Domain}
use Rattle.run_journal.specs.Events.{protects}
use Rattle.run_journal.specs.declared.acts.Key.TheVariants.{Group}
use Rattle.run_journal.specs.declared.acts.Act.{Act}
use Rattle.run_journal.specs.declared.acts.Act.TheVariants.{Installed, Resumed, HandedUp}
use Rattle.run_journal.specs.Acts.{same, accepted, GroupKey}
use Rattle.run_journal.specs.Questions.{group_keys, switches, given, group_uses}

-- the GTKs of an access point have the key ids 1, 2, 1, 2, .. in the order of drawing, and its IGTKs 4, 5, 4, 5, ..
abbrev pub key_id : GroupKind → ℕ → ℕ
key_id groups.Gtk place = suc (place % 2)
key_id groups.Igtk place = 4 + place % 2

-- the first of these keys with its key id, or an empty key where there is none (profile)
abbrev pub newest_of : GroupKind → List (List ℕ) → GroupKey
newest_of kind [] = record { key = []; id = 0 }
newest_of kind (key ∷ older) = record { key = key; id = key_id kind (length older) }

-- the group key of that kind that an access point drew last (profile)
abbrev pub newest : GroupKind → List Act → GroupKey
newest kind h = newest_of kind (group_keys kind h)

-- the newest is current: as many were made current as were drawn. They are told apart by their place in the order of drawing, never
-- by their octets or key ids
abbrev pub is_current : GroupKind → List Act → Bool
is_current kind h = length (switches kind h) == length (group_keys kind h)

-- how many packet numbers were used under the newest: none as long as another is current (profile)
abbrev pub newest_uses : GroupKind → List Act → ℕ
newest_uses kind h = cond (is_current kind h) (group_uses kind h) 0

-- an IGTK, and how many packet numbers were used under it (profile)
pub record IgtkNews : Type 0 where
  pub igtk : GroupKey
  pub ipn : ℕ

-- the group keys that a message of an access point carries, and how many packet numbers were used under each: an IGTK only where
-- management frames are protected (profile)
pub record News : Type 0 where
  pub gtk : GroupKey
  pub rsc : ℕ
  pub igtk : Option IgtkNews

-- a GTK with the count of packet numbers that were used under it, and no IGTK (profile)
abbrev pub gtk_news : GroupKey → ℕ → News
gtk_news g rsc = record { gtk = g; rsc = rsc; igtk = None }

-- the newest IGTK of an access point, where management frames are protected (profile)
abbrev pub igtk_news : Bool → List Act → Option IgtkNews
igtk_news false h = None
igtk_news true h = Some (record { igtk = newest groups.Igtk h; ipn = newest_uses groups.Igtk h })

-- the newest group keys of an access point (profile)
abbrev pub news : Domain → List Act → News
news d h = record { gtk = newest groups.Gtk h; rsc = newest_uses groups.Gtk h; igtk = igtk_news (protects d) h }

-- a station remembers the last two group keys of a kind that it installed from an access point (profile)
abbrev pub memory : GroupKind → Node → List Act → List GroupKey
memory kind p h = take 2 (given kind p h)

-- the key in memory that has these octets (profile)
abbrev pub find_key : List ℕ → List GroupKey → Option GroupKey
find_key key [] = None
find_key key (g ∷ gs) = cond (bytes_eq key g.key) (Some g) (find_key key gs)

-- a group key from p is installed, and one that is remembered is resumed under the key id that it was installed with
-- (profile)
abbrev pub give_by : GroupKind → Node → Mac → GroupKey → Option GroupKey → Act
give_by kind p b g None = Installed (One p) (Group kind g.key g.id b)
give_by kind p b g (Some kept) = Resumed p (Group kind kept.key kept.id b)

abbrev pub give : GroupKind → Node → Mac → GroupKey → List Act → Act
give kind p b g h = give_by kind p b g (find_key g.key (memory kind p h))

-- the group keys that a message carries to a station (profile)
pub record GivenKeys : Type 0 where
  pub gtk : GroupKey
  pub igtk : GroupKey

-- the IGTK is installed, or resumed, where management frames are protected (profile)
abbrev pub give_igtk : Bool → Node → Mac → GroupKey → List Act → List Act
give_igtk false p b g h = []
give_igtk true p b g h = give groups.Igtk p b g h ∷ []

-- each of them is installed, or resumed: the GTK, and after it the IGTK (profile)
abbrev pub give_all : Domain → Node → Mac → GivenKeys → List Act → List Act
give_all d p b keys h = give groups.Gtk p b keys.gtk h ∷ give_igtk (protects d) p b keys.igtk h

-- the packet number that an EAPOL-Key frame in data tells of the GTK: the RSC, six octets, the lowest first (12.7.2)
abbrev pub rsc_in : List ℕ → ℕ
rsc_in octets = from_le_bytes w64 (part (data_header_length octets + 73) 6 octets ++ 0 ∷ 0 ∷ [])

-- the body of the first element with that id among octets of which so many are to be passed over (9.4.2.1)
abbrev pub body_of : ℕ → ℕ → List ℕ → List ℕ
body_of id skip [] = []
body_of id (suc skip) (x ∷ octets) = body_of id skip octets
body_of id zero (x ∷ octets) = cond (x == id) (take (slice_index octets 0) (drop 1 octets)) (body_of id (suc (slice_index octets 0)) octets)

-- the packet number that a reassociation response tells of the GTK: the RSC in the GTK subelement of its FTE, six octets,
-- the lowest first. Its elements stand after 30 octets, the subelements of an FTE after 82 (9.4.2.47)
abbrev pub rsc_in_response : List ℕ → ℕ
rsc_in_response octets = from_le_bytes w64 (part 3 6 (body_of 2 0 (drop 82 (body_of 0x37 0 (drop 30 octets)))) ++ 0 ∷ 0 ∷ [])

-- what a reassociation response told, else what was told before (12.7.2)
abbrev pub told_by_response : Option (List ℕ) → ℕ → ℕ
told_by_response None before = before
told_by_response (Some octets) before = rsc_in_response octets

-- what a message told, else what was told before (12.7.2)
abbrev pub told_by : Option (List ℕ) → ℕ → ℕ
told_by None before = before
told_by (Some octets) before = rsc_in octets

-- what the last frame that was accepted from p and carries a GTK told of it (12.7.2)
abbrev pub told : Node → List Act → ℕ
told p [] = 0
told p (e ∷ h) =
    told_by (accepted p (frame_kind.Key M3) e)
    (told_by (accepted p (frame_kind.Key G1) e) (told_by_response (accepted p frame_kind.ReResp e) (told p h)))

-- two group keys are one: of one access point, with the same octets and key id (profile)
abbrev pub is_key : Node → List ℕ → ℕ → Node → List ℕ → ℕ → Bool
is_key p key id q k i = same p q && bytes_eq key k && (id == i)

-- an act with p puts the counter of a group key: an installation to what was told, a resumption to no less than what
-- was told, and a payload that was handed up to its packet number: its key id is one that keys of that kind alone have
-- (12.7.2, profile)
abbrev pub got_by : GroupKind → Node → List ℕ → ℕ → Act → ℕ → ℕ → ℕ
got_by kind p key id (Installed (One q) (Group other k i b)) heard before = cond (same_group_kind kind other) (cond (is_key p key id q k i) heard before) before
got_by kind p key id (Resumed q (Group other k i b)) heard before = cond (same_group_kind kind other) (cond (is_key p key id q k i) (max heard before) before) before
got_by kind p key id (HandedUp q k i tid number octets) heard before = cond (is_key p key id q k i) (max number before) before
got_by kind p key id _ heard before = before

-- the receive counter of a GTK of p at a station. That of an IGTK no frame tells in clear: `IntegrityKeys` has it (12.7.2,
-- profile)
abbrev pub got : Node → List ℕ → ℕ → List Act → ℕ
got p key id [] = 0
got p key id (e ∷ h) = got_by groups.Gtk p key id e (told p h) (got p key id h)
