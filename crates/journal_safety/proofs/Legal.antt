-- Which act may come next in the history of a node, whatever event adds it: what all of the proof of safety rests on.
use Rattle.std.proofs.Common.{ℕ, suc, ◌≡◌, ◌+◌, ◌<◌, ◌≤◌, ◌⊎◌, inr, Bool, true, false, not, cond, List, [], ◌∷◌, ◌++◌, length, Option, Some, None}
use Rattle.std.specs.Prelude.{◌==◌, option_map}
use Rattle.std.specs.List.{AllByRecursion}
use Rattle.domain_base.specs.Octets.{AreOctets}
use Rattle.key_wrap.specs.KeyWrap.{Wraps}
use Rattle.domain_base.specs.declared.names.Akm.TheVariants.{FtPsk}
use Rattle.domain_base.specs.declared.names.Mac.{Mac}
use Rattle.domain_base.specs.declared.names.Node.{Node}
use Rattle.domain_base.specs.declared.names.Node.TheVariants.{Ap, Sta}
use Rattle.domain_base.specs.declared.names.Peer.{Peer}
use Rattle.domain_base.specs.declared.names.Peer.TheVariants.{One, All}
use Rattle.rsn_elements.specs.declared.framing.Within.TheVariants.{KeyData}
use Rattle.rsn_elements.specs.Elements.{ElementFields, SpellsElements}
use Rattle.eapol_key.specs.declared.messages.Message.{Message}
use Rattle.eapol_key.specs.declared.messages.Message.TheVariants.{M1, M2, M3, M4, G1, G2}
use Rattle.key_hierarchy.specs.Keys.{ptk}
use Rattle.key_hierarchy.specs.declared.inputs.Inputs.{Inputs}
use Rattle.key_hierarchy.specs.declared.inputs.Ptk.{Ptk}
use Rattle.run_journal.specs.declared.domain.Domain.{Domain}
use Rattle.run_journal.specs.declared.acts.Start.{Start}
use Rattle.run_journal.specs.declared.acts.Start.TheVariants.{Connect, Roam, Renew}
use Rattle.run_journal.specs.declared.acts.Drawn.{Drawn}
use Rattle.run_journal.specs.declared.acts.Drawn.TheVariants as draw
use Rattle.run_journal.specs.declared.acts.Drawn.TheVariants.{Nonce}
use Rattle.run_journal.specs.declared.acts.Kind.{Kind}
use Rattle.run_journal.specs.declared.acts.Kind.TheVariants as kind
use Rattle.run_journal.specs.declared.acts.Outcome.{Outcome}
use Rattle.run_journal.specs.declared.acts.Seal.{Seal}
use Rattle.run_journal.specs.declared.acts.Key.{Key}
use Rattle.run_journal.specs.declared.acts.Key.TheVariants.{Pairwise, Group}
use Rattle.run_journal.specs.declared.acts.Act.{Act}
use Rattle.run_journal.specs.declared.acts.Act.TheVariants.{Opened, Closed, Drew, Derived, Sent, Took, Installed, Resumed, Used, HandedUp, Finished, Looked}
use Rattle.run_journal.specs.Acts.{same, GroupKey, Derivation}
use Rattle.run_journal.specs.GroupKinds.{same_group_kind, kind_of_id}
use Rattle.run_journal.specs.declared.acts.Outcome.TheVariants.{Accepted}
use Rattle.run_journal.specs.declared.acts.Part.TheVariants.{Session}
use Rattle.run_journal.specs.Questions.{attempt, since, chain, own_nonce, derivation, session, associated, before_sent, handshake, given, group_keys, switches, pairwise_uses, group_uses, draws}
use Rattle.run_journal.specs.Premises.{In}
use Rattle.air_frame.specs.Sent.{IsAddress}
use Rattle.domain_rules.specs.Network.{mac, address, is_ap, root_at, draw_end, has_renewals, renews}
use Rattle.run_journal.specs.Events.{IsListed, protects}
use Rattle.run_journal.specs.Safe.{up_of}
use Rattle.key_hierarchy.specs.FastTransition.{pmk_r0, pmk_r1}
use Rattle.key_hierarchy.specs.declared.answers.PullAnswer.{PullAnswer}
use Rattle.key_hierarchy.specs.declared.answers.PullAnswer.TheVariants.{Found}
use Rattle.rsn_elements.specs.Transition.{WrappedGtkFields, WrappedIgtkFields, FteFields}
use Rattle.domain_rules.specs.Asking.{in_renewal, has_heard, replay_counter}
use Rattle.domain_rules.specs.Counters.{sent_count, next_in_session}
use Rattle.domain_rules.specs.AccessPointRows.{most_sends}
use Rattle.domain_rules.specs.Frames.{keyed_by}
use Rattle.domain_rules.specs.GroupKeys.{memory, find_key}
use Rattle.domain_rules.specs.IntegrityKeys.{IsGot}
use Rattle.domain_rules.specs.PacketNumbers.{pairwise_got}
use Rattle.domain_rules.specs.StationRows.{carried, carried_igtk}
use Rattle.journal_safety.proofs.Ends.{Tail}
use Rattle.journal_safety.proofs.Covers.{covered_message, covered_counter, covered_secure, covered_key_data}
use Rattle.journal_safety.proofs.CoversData.{covered_form, covered_tid}
use Rattle.journal_safety.proofs.CoversFrame.{IsFrame, CoversFrame}
use Rattle.journal_safety.proofs.CoversFte.{fte_number, CoversFte}
use Rattle.run_journal.specs.declared.acts.GroupKind.{GroupKind}
use Rattle.run_journal.specs.declared.acts.GroupKind.TheVariants as groups

-- the Ack bit: set by access points alone
abbrev pub ack : Message → Bool
ack M1 = true
ack M2 = false
ack M3 = true
ack M4 = false
ack G1 = true
ack G2 = false

-- a MIC is in an EAPOL-Key frame, or in the FTE of a reassociation frame
pub data IsMic (covered : List ℕ) : Type 0 where
  Of_key : covered_form covered ≡ 1 → IsMic covered
  Of_fte : covered_form covered ≡ 2 → IsMic covered

-- octets that a MIC covers are those of a frame from an access point to a station, by the Ack bit, or by the number of the frame
abbrev pub goes_down : List ℕ → Bool
goes_down covered = cond (covered_form covered == 2) (fte_number covered == 6) (ack (covered_message covered))

-- and the kind of that frame
abbrev pub covered_kind : List ℕ → Kind
covered_kind covered = cond (covered_form covered == 2) (cond (fte_number covered == 6) kind.ReResp kind.ReReq) (kind.Key (covered_message covered))

-- of a node that derived from these inputs: its own nonce, its own address, its peer's
abbrev pub nonce_of : Node → Inputs → List ℕ
nonce_of (Ap k) i = i.anonce
nonce_of (Sta k) i = i.snonce

abbrev pub own_address : Node → Inputs → Mac
own_address (Ap k) i = i.aa
own_address (Sta k) i = i.spa

abbrev pub peer_address : Node → Inputs → Mac
peer_address (Ap k) i = i.spa
peer_address (Sta k) i = i.aa

-- the derivation with p
abbrev pub derives : Node → Inputs → Act
derives p i = Derived p i (ptk i)

-- the attempt goes on, from the node's own nonce in the inputs
pub record Alive (n : Node) (h : List Act) (p : Node) (i : Inputs) : Type 0 where
  pub part : List Act
  pub awaited : attempt p h ≡ Some part
  pub own : own_nonce part ≡ Some (nonce_of n i)

-- and its key is the one derived last in it
pub record Current (n : Node) (h : List Act) (p : Node) (i : Inputs) : Type 0 where
  pub alive : Alive n h p i
  pub last : derivation p (since p h) ≡ Some (keyed_by i)

-- what all inputs of a network have in common, whatever the station
pub record AreCommon (d : Domain) (i : Inputs) : Type 0 where
  pub akm : i.akm ≡ d.akm
  pub ssid : i.ssid ≡ d.ssid
  pub mdid : (s : Node) → i.mdid ≡ (root_at d s i.r0kh_id).mdid
  pub r0kh_id : (s : Node) → i.r0kh_id ≡ (root_at d s i.r0kh_id).r0kh_id

-- the node derived with a listed node of the other kind, from its own nonce of the attempt; an access point before it sent M3
pub record LegalDerived (d : Domain) (n : Node) (h : List Act) (p : Node) (i : Inputs) (k : Ptk) : Type 0 where
  pub roles : is_ap p ≡ not (is_ap n)
  pub listed : IsListed d n
  pub peer_listed : IsListed d p
  pub alive : Alive n h p i
  pub address : own_address n i ≡ mac d n
  pub peer : peer_address n i ≡ mac d p
  pub common : AreCommon d i
  pub key : k ≡ ptk i
  pub no_m3 : is_ap n ≡ true → before_sent p (kind.Key M3) h ≡ None

-- the node took a frame of the other direction, sealed with the KCK of inputs that it derived from
pub record Verified (n : Node) (h : List Act) (p : Node) (i : Inputs) : Type 0 where
  pub derived : In (derives p i) h
  pub from : Option Node
  pub octets : List ℕ
  pub kind : Kind
  pub outcome : Outcome
  pub covered : List ℕ
  pub took : In (Took from octets kind outcome (Some (record { octets = covered; key = (ptk i).kck }))) h
  pub form : IsMic covered
  pub direction : goes_down covered ≡ not (is_ap n)

-- the node took M2, and where keys are renewed its Secure bit is set in an attempt that renews a key alone
pub record Seen (d : Domain) (n : Node) (h : List Act) (p : Node) (i : Inputs) : Type 0 where
  pub verified : Verified n h p i
  pub from_m2 : covered_kind verified.covered ≡ kind.Key M2
  pub secure : has_renewals d ≡ true → covered_secure verified.covered ≡ true → in_renewal (attempt p h) ≡ true

-- the group key that was drawn last
abbrev pub IsNewest : GroupKind → List ℕ → List Act → Type 0
IsNewest which key h = (older : List (List ℕ)) × (group_keys which h ≡ key ∷ older)

-- key data was made now or at an earlier moment: with the newest group key, after a message of the peer had verified, in an attempt
-- that went on
pub record Built (which : GroupKind) (n : Node) (h : List Act) (p : Node) (i : Inputs) (key : List ℕ) : Type 0 where
  pub past : List Act
  pub tail : Tail past h
  pub newest : IsNewest which key past
  pub verified : Verified n past p i
  pub alive : Alive n past p i

-- group keys of that kind are in use: IGTKs where management frames are protected
abbrev pub IsUsed : Domain → GroupKind → Type 0
IsUsed d groups.Gtk = Unit {0}
IsUsed d groups.Igtk = protects d ≡ true

-- the group key of a kind that key data carries, and the wrapped octets of one in an FTE
abbrev pub carried_as : GroupKind → Option ElementFields → GroupKey
carried_as groups.Gtk data_ = carried data_
carried_as groups.Igtk data_ = carried_igtk data_

abbrev pub wrapped_as : GroupKind → FteFields → Option (List ℕ)
wrapped_as groups.Gtk f = option_map (λ (w : WrappedGtkFields). w.wrapped) f.gtk
wrapped_as groups.Igtk f = option_map (λ (w : WrappedIgtkFields). w.wrapped) f.igtk

-- what holds of each kind that is in use
pub for_used : (d : Domain) (holds : GroupKind → Type 0) → holds groups.Gtk → (protects d ≡ true → holds groups.Igtk) → (which : GroupKind) → IsUsed d which → holds which
for_used d holds gtk igtk groups.Gtk used = gtk
for_used d holds gtk igtk groups.Igtk used = igtk used

-- what a MIC covers carries that group key of a kind under key wrap: in the key data of an EAPOL-Key frame, or in the FTE of a reassociation response
pub data Opens (which : GroupKind) (kek covered g : List ℕ) : Type 0 where
  Of_key_data : covered_form covered ≡ 1 → (plain : List ℕ) → Wraps kek plain (covered_key_data covered) → (e : ElementFields) → SpellsElements KeyData plain e → (carried_as which (Some e)).key ≡ g → Opens which kek covered g
  Of_response : (f : FteFields) → CoversFte covered 6 f → (octets : List ℕ) → wrapped_as which f ≡ Some octets → Wraps kek g octets → Opens which kek covered g

-- whoever opens it has this key
abbrev pub Gives : GroupKind → Inputs → List ℕ → List ℕ → Type 0
Gives which i covered key = (g : List ℕ) → Opens which (ptk i).kek covered g → key ≡ g

-- M2 is sent in an attempt, and in one that renews a key with its Secure bit set
pub record CarriesM2 (n : Node) (h : List Act) (p : Node) (i : Inputs) (covered : List ℕ) : Type 0 where
  pub alive : Alive n h p i
  pub secure : in_renewal (attempt p h) ≡ true → covered_secure covered ≡ true

-- M4 is sent after the final message was accepted
abbrev pub CarriesM4 : List Act → Node → Inputs → Type 0
CarriesM4 h p i = In (Finished p i) h

-- a reassociation response carries a group key that was the newest as it was wrapped
pub record CarriesResponse (which : GroupKind) (n : Node) (h : List Act) (p : Node) (i : Inputs) (covered : List ℕ) : Type 0 where
  pub key : List ℕ
  pub gives : Gives which i covered key
  pub built : Built which n h p i key

-- in an attempt that renews a key it has the next replay counter of the session, and the key data is made now
pub record Renewed (which : GroupKind) (h : List Act) (p : Node) (covered key : List ℕ) : Type 0 where
  pub counter : covered_counter covered ≡ next_in_session p h
  pub newest : IsNewest which key h

-- and so does M3, under the key derived last, after M2 was taken
pub record CarriesM3 (d : Domain) (which : GroupKind) (n : Node) (h : List Act) (p : Node) (i : Inputs) (covered : List ℕ) : Type 0 where
  pub load : CarriesResponse which n h p i covered
  pub current : Current n h p i
  pub seen : Seen d n h p i
  pub renewed : in_renewal (attempt p h) ≡ true → Renewed which h p covered load.key

-- G1 carries the newest group key, and the next replay counter of the session
pub record CarriesG1 (which : GroupKind) (n : Node) (h : List Act) (p : Node) (i : Inputs) (covered : List ℕ) : Type 0 where
  pub key : List ℕ
  pub gives : Gives which i covered key
  pub newest : IsNewest which key h
  pub awaited : session p h ≡ Some (keyed_by i)
  pub counter : covered_counter covered ≡ next_in_session p h

abbrev pub Carries : Domain → GroupKind → Node → List Act → Node → Inputs → List ℕ → Kind → Type 0
Carries d which n h p i covered (kind.Key M2) = CarriesM2 n h p i covered
Carries d which n h p i covered (kind.Key M3) = CarriesM3 d which n h p i covered
Carries d which n h p i covered (kind.Key M4) = CarriesM4 h p i
Carries d which n h p i covered (kind.Key G1) = CarriesG1 which n h p i covered
Carries d which n h p i covered kind.ReResp = CarriesResponse which n h p i covered
Carries d which n h p i covered _ = Unit {0}

-- what a node seals with a KCK, in a MIC, is of its own direction, its kind is that of what is sealed, and the node derived that KCK
pub record LegalSeal (d : Domain) (n : Node) (h : List Act) (p : Node) (k : Kind) (s : Seal) : Type 0 where
  pub i : Inputs
  pub there : In (derives p i) h
  pub is : (ptk i).kck ≡ s.key
  pub direction : goes_down s.octets ≡ is_ap n
  pub kind_is : k ≡ covered_kind s.octets
  pub carries : (which : GroupKind) → IsUsed d which → Carries d which n h p i s.octets (covered_kind s.octets)

-- the receiver has an address
abbrev pub IsReceiver : Domain → Peer → Type 0
IsReceiver d (One p) = IsAddress (address d p)
IsReceiver d All = Unit {0}

-- a node used a packet number just before it seals data with CCM, or an announcement with BIP; and where the addresses are such, what is
-- sealed is of its own direction, with that number and plain text
pub record LegalData (d : Domain) (n : Node) (h : List Act) (s : Seal) : Type 0 where
  pub form : IsFrame s.octets
  pub peer : Peer
  pub id : ℕ
  pub number : ℕ
  pub plain : List ℕ
  pub before : List Act
  pub is : h ≡ Used peer s.key id number plain ∷ before
  pub covers : IsAddress (address d n) → IsReceiver d peer → CoversFrame s.octets (is_ap n) (covered_tid s.octets) number plain

-- data and announcements
abbrev pub is_framed : Kind → Bool
is_framed kind.Data = true
is_framed kind.Action = true
is_framed _ = false

-- with a KCK nothing is sealed for all, with a temporal key or an IGTK it may be, and data and announcements alone
pub data LegalSealing (d : Domain) (n : Node) (h : List Act) (q : Peer) (k : Kind) (s : Seal) : Type 0 where
  With_mic : (p : Node) → q ≡ One p → IsMic s.octets → LegalSeal d n h p k s → LegalSealing d n h q k s
  With_frame : is_framed k ≡ true → LegalData d n h s → LegalSealing d n h q k s

abbrev pub LegalSealed : Domain → Node → List Act → Peer → Kind → Option Seal → Type 0
LegalSealed d n h q k None = Unit {0}
LegalSealed d n h q k (Some s) = LegalSealing d n h q k s

-- a group key was drawn
abbrev pub HasDrawn : GroupKind → List Act → Type 0
HasDrawn which h = (g : List ℕ) × In g (group_keys which h)

-- and so was one of each kind in use
abbrev pub HaveDrawn : Domain → List Act → Type 0
HaveDrawn d h = (which : GroupKind) → IsUsed d which → HasDrawn which h

-- M3 is sent in an attempt in which M2 was accepted, under the key derived last, at most four times
pub record SendsM3 (d : Domain) (n : Node) (h : List Act) (p : Node) : Type 0 where
  pub part : List Act
  pub awaited : attempt p h ≡ Some part
  pub heard : has_heard p (kind.Key M2) part ≡ true
  pub few : sent_count p M3 (since p h) < most_sends
  pub i : Inputs
  pub last : derivation p part ≡ Some (keyed_by i)
  pub seen : Seen d n h p i
  pub drawn : HaveDrawn d h

-- what may be sent by its kind: M1 and M3 at most four times in an attempt, G1 at most four times for a group key in a session
abbrev pub Sends : Domain → Node → List Act → Node → Message → Type 0
Sends d n h p M1 = sent_count p M1 (since p h) < most_sends
Sends d n h p M3 = SendsM3 d n h p
Sends d n h p G1 = sent_count p G1 (handshake groups.Gtk p h) < most_sends
Sends d n h p _ = Unit {0}

abbrev pub LegalKind : Domain → Node → List Act → Peer → Kind → Type 0
LegalKind d n h (One p) (kind.Key m) = Sends d n h p m
LegalKind d n h q k = Unit {0}

-- the act installs a key of p. Beside an attempt that renews a key its session goes on, in which group keys are given
abbrev pub gives : Node → Bool → Act → Bool
gives p renewal (Installed (One q) (Pairwise tk i)) = same p q
gives p renewal (Installed (One q) (Group which g id b)) = cond renewal false (same p q)
gives p renewal _ = false

abbrev pub Uninstalled : Node → Bool → List Act → Type 0
Uninstalled p renewal part = (e : Act) → In e part → gives p renewal e ≡ false

-- a pairwise key is installed after a message of the peer verified under it, once in an attempt, before the group key that comes with
-- it, and where there is no session
pub record LegalPairwise (n : Node) (h : List Act) (p : Node) (tk : List ℕ) (i : Inputs) : Type 0 where
  pub verified : Verified n h p i
  pub alive : Alive n h p i
  pub renewal : Bool
  pub first : Uninstalled p renewal alive.part
  pub is : tk ≡ (ptk i).tk
  pub none : session p h ≡ None

-- the frames that give a group key
pub data GivesKey (k : Kind) : Type 0 where
  In_m3 : k ≡ kind.Key M3 → GivesKey k
  In_g1 : k ≡ kind.Key G1 → GivesKey k
  In_response : k ≡ kind.ReResp → GivesKey k

abbrev pub seal_under : Inputs → List ℕ → Seal
seal_under i covered = record { octets = covered; key = (ptk i).kck }

-- a station accepted a frame with a group key since the last Opened with p, under these inputs
pub record Given (d : Domain) (which : GroupKind) (n : Node) (h : List Act) (p : Node) (i : Inputs) (g : List ℕ) : Type 0 where
  pub used : IsUsed d which
  pub frame : Kind
  pub octets : List ℕ
  pub covered : List ℕ
  pub took : In (Took (Some p) octets frame Accepted (Some (seal_under i covered))) (since p h)
  pub gives_key : GivesKey frame
  pub form : IsMic covered
  pub down : goes_down covered ≡ true
  pub frame_is : covered_kind covered ≡ frame
  pub counter : frame ≡ kind.Key G1 → replay_counter octets ≡ covered_counter covered
  pub derived : In (derives p i) h
  pub opens : Opens which (ptk i).kek covered g

-- the pairwise key of these inputs is installed
abbrev pub installs_key : Node → Inputs → Act
installs_key p i = Installed (One p) (Pairwise (ptk i).tk i)

-- by M3 or a reassociation response in an attempt that begins a session: it is the first that comes in the attempt, after the pairwise
-- key
pub record GivenM3 (d : Domain) (which : GroupKind) (n : Node) (h : List Act) (p : Node) (g : List ℕ) : Type 0 where
  pub station : is_ap n ≡ false
  pub i : Inputs
  pub given : Given d which n h p i g
  pub no_g1 : given.frame ≡ kind.Key G1 → ⊥
  pub alive : Alive n h p i
  pub begins : in_renewal (attempt p h) ≡ false
  pub pairwise : In (installs_key p i) (since p h)
  pub first : (key : List ℕ) (id : ℕ) (b : Mac) → In (Installed (One p) (Group which key id b)) alive.part → ⊥

-- each G1 accepted from p in that part has a smaller replay counter
abbrev pub Above : Node → ℕ → List Act → Type 0
Above p counter part = (octets : List ℕ) (s : Option Seal) → In (Took (Some p) octets (kind.Key G1) Accepted s) part → replay_counter octets < counter

-- the act gives a group key of another kind: with one message come a GTK and an IGTK
abbrev pub is_other : GroupKind → Act → Bool
is_other which (Installed (One q) (Group other g id b)) = not (same_group_kind which other)
is_other which (Resumed q (Group other g id b)) = not (same_group_kind which other)
is_other which _ = false

abbrev pub Others : GroupKind → List Act → Type 0
Others which acts = AllByRecursion (λ e. is_other which e ≡ true) acts

-- by G1: it comes in the session, with a replay counter above all before it; other group keys that came with it may have been given
pub record GivenG1 (d : Domain) (which : GroupKind) (n : Node) (h : List Act) (p : Node) (g : List ℕ) : Type 0 where
  pub station : is_ap n ≡ false
  pub i : Inputs
  pub given : Given d which n h p i g
  pub kind_is : given.frame ≡ kind.Key G1
  pub before : List Act
  pub from : Option Node
  pub octets : List ℕ
  pub kind : Kind
  pub outcome : Outcome
  pub seal : Option Seal
  pub between : List Act
  pub others : Others which between
  pub is : h ≡ between ++ Took from octets kind outcome seal ∷ before
  pub awaited : session p before ≡ Some (keyed_by i)
  pub above : Above p (covered_counter given.covered) (chain p before)

-- by M3 in an attempt that renews a key: it has a replay counter above all before it, and comes after the pairwise key, which is the first
-- in the attempt, in place of that of the session; other group keys that came with it may have been given
pub record GivenRenewal (d : Domain) (which : GroupKind) (n : Node) (h : List Act) (p : Node) (g : List ℕ) : Type 0 where
  pub station : is_ap n ≡ false
  pub i : Inputs
  pub given : Given d which n h p i g
  pub kind_is : given.frame ≡ kind.Key M3
  pub before : List Act
  pub from : Option Node
  pub octets : List ℕ
  pub kind : Kind
  pub outcome : Outcome
  pub seal : Option Seal
  pub between : List Act
  pub others : Others which between
  pub is : h ≡ between ++ installs_key p i ∷ Closed p Session ∷ Took from octets kind outcome seal ∷ before
  pub awaited : Alive n before p i
  pub renewal : in_renewal (attempt p before) ≡ true
  pub clean : (key : List ℕ) (j : Inputs) → In (Installed (One p) (Pairwise key j)) (since p before) → ⊥
  pub above : Above p (covered_counter given.covered) (chain p before)

-- so a station takes a group key
pub data LegalGroup (d : Domain) (which : GroupKind) (n : Node) (h : List Act) (p : Node) (g : List ℕ) : Type 0 where
  By_m3 : GivenM3 d which n h p g → LegalGroup d which n h p g
  By_g1 : GivenG1 d which n h p g → LegalGroup d which n h p g
  By_renewal : GivenRenewal d which n h p g → LegalGroup d which n h p g

-- it installs one that it does not remember
pub record LegalNew (d : Domain) (which : GroupKind) (n : Node) (h : List Act) (p : Node) (g : List ℕ) : Type 0 where
  pub group : LegalGroup d which n h p g
  pub new : find_key g (memory which p h) ≡ None

-- and resumes one that it installed
pub record LegalAgain (d : Domain) (which : GroupKind) (n : Node) (h : List Act) (p : Node) (g : GroupKey) : Type 0 where
  pub group : LegalGroup d which n h p g.key
  pub had : In g (given which p h)

abbrev pub LegalResumed : Domain → Node → List Act → Node → Key → Type 0
LegalResumed d n h p (Pairwise tk i) = ⊥
LegalResumed d n h p (Group which g id b) = LegalAgain d which n h p (record { key = g; id = id })

-- an access point makes a key current that it drew and did not make current yet
pub record LegalCurrent (which : GroupKind) (n : Node) (h : List Act) (g : List ℕ) : Type 0 where
  pub ap : is_ap n ≡ true
  pub newest : group_keys which h ≡ g ∷ switches which h

abbrev pub LegalInstalled : Domain → Node → List Act → Peer → Key → Type 0
LegalInstalled d n h (One p) (Pairwise tk i) = LegalPairwise n h p tk i
LegalInstalled d n h (One p) (Group which g id b) = LegalNew d which n h p g
LegalInstalled d n h All (Pairwise tk i) = ⊥
LegalInstalled d n h All (Group which g id b) = LegalCurrent which n h g

-- an access point draws group keys, and a node draws no more than so often
pub record LegalGroupKey (which : GroupKind) (n : Node) (h : List Act) (v : List ℕ) : Type 0 where
  pub ap : is_ap n ≡ true
  pub octets : AreOctets v
  pub size : length v ≡ 16
  pub few : draws h < draw_end

pub record LegalNonce (h : List Act) (v : List ℕ) : Type 0 where
  pub size : length v ≡ 32
  pub few : draws h < draw_end

abbrev pub LegalDrew : Node → List Act → Drawn → Type 0
LegalDrew n h (Nonce v) = LegalNonce h v
LegalDrew n h (draw.Group which v) = LegalGroupKey which n h v

-- a final message is accepted where a message of the peer verified, under the key derived last, which alone was installed in the
-- attempt. A station has no other session
pub record LegalFinished (d : Domain) (n : Node) (h : List Act) (p : Node) (i : Inputs) : Type 0 where
  pub verified : Verified n h p i
  pub final : (d.akm ≡ FtPsk → ⊥) → covered_kind verified.covered ≡ cond (is_ap n) (kind.Key M4) (kind.Key M3)
  pub alive : Alive n h p i
  pub current : derivation p (since p h) ≡ Some (keyed_by i)
  pub last : derivation p h ≡ Some (keyed_by i)
  pub installed : In (installs_key p i) h
  pub only : (key : List ℕ) (j : Inputs) → In (Installed (One p) (Pairwise key j)) (since p h) → j ≡ i
  pub alone : is_ap n ≡ false → associated h ≡ None

-- how many attempts were begun
abbrev pub is_opened : Act → Bool
is_opened (Opened p s) = true
is_opened _ = false

abbrev pub openings : List Act → ℕ
openings [] = 0
openings (e ∷ h) = cond (is_opened e) (suc (openings h)) (openings h)

-- a nonce was drawn for each attempt before
abbrev pub ArePaid : List Act → Type 0
ArePaid h = openings h + length (group_keys groups.Gtk h) ≤ draws h

-- where keys are renewed an attempt begins that renews the key of a session, beside which there is no attempt with the same peer
pub record LegalRenewal (d : Domain) (h : List Act) (p : Node) : Type 0 where
  pub renewing : renews d ≡ true
  pub x : Derivation
  pub awaited : session p h ≡ Some x
  pub none : attempt p h ≡ None

-- a station has no session as it begins an attempt by connect, and none with p as it begins one with p, but for an attempt that renews
-- the key of that session. A fast transition is begun with suite 4 alone
pub record LegalOpened (d : Domain) (n : Node) (h : List Act) (p : Node) (s : Start) : Type 0 where
  pub none : s ≡ Connect → is_ap n ≡ false → associated h ≡ None
  pub alone : (s ≡ Renew → ⊥) → is_ap n ≡ false → associated h ≡ Some p → ⊥
  pub access : is_ap n ≡ false → is_ap p ≡ true
  pub mobile : s ≡ Roam → d.akm ≡ FtPsk
  pub renewed : s ≡ Renew → LegalRenewal d h p
  pub paid : ArePaid h

-- a station ends the only session that it has, where it has one
abbrev pub LegalClosed : Node → List Act → Node → Type 0
LegalClosed n h p = is_ap n ≡ false → (associated h ≡ None) ⊎ (associated h ≡ Some p)

-- a packet number is the next under the key of the session with p
pub record LegalUsedWith (h : List Act) (p : Node) (key : List ℕ) (number : ℕ) : Type 0 where
  pub i : Inputs
  pub awaited : session p h ≡ Some (keyed_by i)
  pub is : key ≡ (ptk i).tk
  pub next : number ≡ suc (pairwise_uses p h)

-- or under the access point's current group key of the kind that has that key id
pub record LegalUsedAll (h : List Act) (key : List ℕ) (id number : ℕ) : Type 0 where
  pub which : GroupKind
  pub kind_is : kind_of_id id ≡ Some which
  pub older : List (List ℕ)
  pub current : switches which h ≡ key ∷ older
  pub next : number ≡ suc (group_uses which h)

abbrev pub LegalUsed : List Act → Peer → List ℕ → ℕ → ℕ → Type 0
LegalUsed h (One p) key id number = LegalUsedWith h p key number
LegalUsed h All key id number = LegalUsedAll h key id number

-- before the last act, by which nothing was handed up, a group key had a kept number below that one
pub record IsAbove (which : GroupKind) (p : Node) (key : List ℕ) (id number : ℕ) (h : List Act) : Type 0 where
  pub act : Act
  pub before : List Act
  pub is : h ≡ act ∷ before
  pub no_up : up_of act ≡ None
  pub kept : ℕ
  pub got : IsGot which p key id before kept
  pub above : kept < number

-- a payload is handed up under the key of the session with p, or under a group key that was installed from p, with a number above the
-- kept one
pub data OpensUnder (d : Domain) (n : Node) (h : List Act) (p : Node) (key : List ℕ) (id tid number : ℕ) (covered : List ℕ) : Type 0 where
  With_session : (i : Inputs) → session p h ≡ Some (keyed_by i) → key ≡ (ptk i).tk → id ≡ 0 → tid ≡ covered_tid covered → IsAddress (address d n) → pairwise_got p key tid h < number → OpensUnder d n h p key id tid number covered
  With_group : is_ap n ≡ false → (which : GroupKind) → (b : Mac) → In (Installed (One p) (Group which key id b)) h → tid ≡ 0 → IsAbove which p key id number h → OpensUnder d n h p key id tid number covered

-- data or an announcement from p was taken, sealed under that key in the other direction, with that number and those octets
pub record LegalUp (d : Domain) (n : Node) (h : List Act) (p : Node) (key : List ℕ) (id tid number : ℕ) (plain : List ℕ) : Type 0 where
  pub covered : List ℕ
  pub octets : List ℕ
  pub kind : Kind
  pub took : In (Took (Some p) octets kind Accepted (Some (record { octets = covered; key = key }))) h
  pub covers : CoversFrame covered (not (is_ap n)) (covered_tid covered) number plain
  pub whole : IsAddress (address d p)
  pub roles : is_ap p ≡ not (is_ap n)
  pub under : OpensUnder d n h p key id tid number covered

-- with suite 4 a key holder that has a key gives one of some pre-shared key: which one it was then, the history does not tell
abbrev pub LegalLook : Domain → Node → List ℕ → Node → PullAnswer → Type 0
LegalLook d n id p (Found k) = d.akm ≡ FtPsk → (psk : List ℕ) × (k ≡ pmk_r1 (pmk_r0 psk d.ssid d.mdid id (mac d p)) (mac d n) (mac d p))
LegalLook d n id p _ = Unit {0}

abbrev pub Legal : Domain → Node → List Act → Act → Type 0
Legal d n h (Opened p s) = LegalOpened d n h p s
Legal d n h (Closed p Session) = LegalClosed n h p
Legal d n h (Drew v) = LegalDrew n h v
Legal d n h (Derived p i k) = LegalDerived d n h p i k
Legal d n h (Sent q k octets s) = LegalSealed d n h q k s × LegalKind d n h q k
Legal d n h (Installed q key) = LegalInstalled d n h q key
Legal d n h (Resumed p key) = LegalResumed d n h p key
Legal d n h (Finished p i) = LegalFinished d n h p i
Legal d n h (Used q key id number octets) = LegalUsed h q key id number
Legal d n h (HandedUp p key id tid number octets) = LegalUp d n h p key id tid number octets
Legal d n h (Looked id name p answer) = LegalLook d n id p answer
Legal d n h _ = Unit {0}

-- each act was legal after those before it
abbrev pub LegalHistory : Domain → Node → List Act → Type 0
LegalHistory d n [] = Unit {0}
LegalHistory d n (e ∷ h) = Legal d n h e × LegalHistory d n h

-- these acts may follow, in order
abbrev pub Chain : Domain → Node → List Act → List Act → Type 0
Chain d n h [] = Unit {0}
Chain d n h (e ∷ g) = Legal d n h e × Chain d n (e ∷ h) g

unfoldable pub verified_more : (n p : Node) (h : List Act) (e : Act) (i : Inputs) → Verified n h p i → Verified n (e ∷ h) p i
verified_more n p h e i v = record { derived = inr v.derived; from = v.from; octets = v.octets; kind = v.kind; outcome = v.outcome; covered = v.covered; took = inr v.took; form = v.form; direction = v.direction }
