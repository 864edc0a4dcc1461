-- A history of legal acts is one as the network grows, and as keys of stations change.
use Rattle.std.proofs.Common.{ℕ, ◌≡◌, ◌<◌, List, [], ◌∷◌, Option, Some, None, refl, sym, ap, ◌∙◌, subst, arith}
use Rattle.domain_base.specs.declared.names.Akm.{Akm}
use Rattle.domain_base.specs.declared.names.Akm.TheVariants.{Psk, PskSha256, FtPsk}
use Rattle.domain_base.specs.declared.names.Mac.{Mac}
use Rattle.domain_base.specs.declared.names.Node.{Node}
use Rattle.domain_base.specs.declared.names.Node.TheVariants.{Ap, Sta}
use Rattle.domain_base.specs.declared.names.Peer.{Peer}
use Rattle.domain_base.specs.declared.names.Peer.TheVariants.{One, All}
use Rattle.key_hierarchy.specs.declared.answers.PullAnswer.TheVariants.{Found, NoHolder, Absent}
use Rattle.key_hierarchy.specs.declared.inputs.Inputs.{Inputs}
use Rattle.key_hierarchy.specs.declared.inputs.Ptk.{Ptk}
use Rattle.run_journal.specs.declared.domain.Domain.{Domain}
use Rattle.run_journal.specs.declared.acts.Key.TheVariants.{Pairwise, Group}
use Rattle.run_journal.specs.declared.acts.Kind.{Kind}
use Rattle.run_journal.specs.declared.acts.Part.TheVariants.{Session, Attempt}
use Rattle.run_journal.specs.declared.acts.Seal.{Seal}
use Rattle.run_journal.specs.declared.acts.Start.{Start}
use Rattle.run_journal.specs.declared.acts.Act.{Act}
use Rattle.run_journal.specs.declared.acts.Act.TheVariants.{Opened, Derived, Sent, Used, HandedUp, Looked}
use Rattle.run_journal.specs.declared.acts.Act.TheVariants as acts
use Rattle.run_journal.specs.Events.{IsListed}
use Rattle.air_frame.specs.Sent.{IsAddress}
use Rattle.domain_rules.specs.Network.{mac, address, root_by}
use Rattle.domain_rules.specs.Rows.{NodeEvent, Secret}
use Rattle.domain_rules.proofs.ChangedNetwork.{length_rekeyed, mac_changed, named_changed, octets_changed}
use Rattle.node_base.specs.Changing.{after}
use Rattle.node_base.specs.Growing.{Grows}
use Rattle.node_base.proofs.Grown.{grows_alike, mac_grown, listed_grown}
use Rattle.journal_safety.proofs.Legal.{AreCommon, LegalDerived, IsReceiver, LegalData, LegalSealing, With_mic, With_frame, LegalSealed, LegalOpened, LegalUsedWith, OpensUnder, With_session, With_group, LegalUp, Legal, LegalHistory}
use Rattle.journal_safety.proofs.Likenesses.{IsLike, renewals_as, renews_as, protects_as, seal_as, kind_as, opened_as, finished_as, new_as, again_as}
use Rattle.journal_safety.proofs.Names.{listed_by}
use Rattle.journal_safety.proofs.Rows.{RightAct, RightActs}
use Rattle.node_safety.specs.Alone.{IsRightLook, AreRightLooks, IsKeyedLook, AreKeyedLooks, IsWhole}
use Rattle.node_safety.proofs.Sole.{made}
use Rattle.node_safety.proofs.Numbers.{session_derived}

mac_as : (d e : Domain) (n : Node) → Grows d e → IsListed d n → mac e n ≡ mac d n
mac_as d e n g listed = mac_grown d e n (grows_alike d e g) listed

pub listed_as : (d e : Domain) (n : Node) → Grows d e → IsListed d n → IsListed e n
listed_as d e n g listed = listed_grown d e n (grows_alike d e g) listed

address_grown : (d e : Domain) (n : Node) → Grows d e → IsListed d n → address e n ≡ address d n
address_grown d e n g listed = ap (λ (m : Mac). m.0) (mac_as d e n g listed)

-- ---- derivations

mdid_by : (d e : Domain) (s : Node) (id : List ℕ) → Grows d e → (a : Akm) → (root_by a e s id).mdid ≡ (root_by a d s id).mdid
mdid_by d e s id g Psk = refl
mdid_by d e s id g PskSha256 = refl
mdid_by d e s id g FtPsk = g.mdid

holder_by : (d e : Domain) (s : Node) (id : List ℕ) (a : Akm) → (root_by a e s id).r0kh_id ≡ (root_by a d s id).r0kh_id
holder_by d e s id Psk = refl
holder_by d e s id PskSha256 = refl
holder_by d e s id FtPsk = refl

common_grown : (d e : Domain) (i : Inputs) → Grows d e → AreCommon d i → AreCommon e i
common_grown d e i g c = record {
  akm = c.akm ∙ sym g.akm;
  ssid = c.ssid ∙ sym g.ssid;
  mdid = λ s. c.mdid s ∙ sym (ap (λ (a : Akm). (root_by a e s i.r0kh_id).mdid) g.akm ∙ mdid_by d e s i.r0kh_id g d.akm);
  r0kh_id = λ s. c.r0kh_id s ∙ sym (ap (λ (a : Akm). (root_by a e s i.r0kh_id).r0kh_id) g.akm ∙ holder_by d e s i.r0kh_id d.akm);
}

derived_grown : (d e : Domain) (n : Node) (h : List Act) (p : Node) (i : Inputs) (k : Ptk) → Grows d e → LegalDerived d n h p i k → LegalDerived e n h p i k
derived_grown d e n h p i k g l = record {
  roles = l.roles;
  listed = listed_as d e n g l.listed;
  peer_listed = listed_as d e p g l.peer_listed;
  alive = l.alive;
  address = l.address ∙ sym (mac_as d e n g l.listed);
  peer = l.peer ∙ sym (mac_as d e p g l.peer_listed);
  common = common_grown d e i g l.common;
  key = l.key;
  no_m3 = l.no_m3;
}

-- ---- data: whom a packet number was used with has a session, so it was listed

receiver_by : (d e : Domain) (n : Node) (q : Peer) (key : List ℕ) (id number : ℕ) (plain : List ℕ) (before : List Act) → Grows d e → LegalHistory d n (Used q key id number plain ∷ before) → IsReceiver e q → IsReceiver d q
receiver_by d e n (One p) key id number plain before g legal is =
    let l : LegalUsedWith before p key number = legal.0 in
    let m = made d n p l.i before legal.1 (session_derived d n p l.i before legal.1 l.awaited) in
    subst IsAddress (address_grown d e p g m.legal.peer_listed) is
receiver_by d e n All key id number plain before g legal is = tt

data_grown : (d e : Domain) (n : Node) (h : List Act) (s : Seal) → Grows d e → IsListed d n → LegalHistory d n h → LegalData d n h s → LegalData e n h s
data_grown d e n h s g listed legal l = record {
  form = l.form;
  peer = l.peer;
  id = l.id;
  number = l.number;
  plain = l.plain;
  before = l.before;
  is = l.is;
  covers = λ own other. l.covers (subst IsAddress (address_grown d e n g listed) own)
      (receiver_by d e n l.peer s.key l.id l.number l.plain l.before g (subst (LegalHistory d n) l.is legal) other);
}

sealing_grown : (d e : Domain) (n : Node) (h : List Act) (q : Peer) (k : Kind) (s : Seal) → Grows d e → IsListed d n → LegalHistory d n h → LegalSealing d n h q k s → LegalSealing e n h q k s
sealing_grown d e n h q k s g listed legal (With_mic p is mic l) = With_mic p is mic (seal_as d e (renewals_as d e g.extras) (protects_as d e g.extras) n h p k s l)
sealing_grown d e n h q k s g listed legal (With_frame is l) = With_frame is (data_grown d e n h s g listed legal l)

sealed_grown : (d e : Domain) (n : Node) (h : List Act) (q : Peer) (k : Kind) (o : Option Seal) → Grows d e → IsListed d n → LegalHistory d n h → LegalSealed d n h q k o → LegalSealed e n h q k o
sealed_grown d e n h q k None g listed legal l = tt
sealed_grown d e n h q k (Some s) g listed legal l = sealing_grown d e n h q k s g listed legal l

-- ---- payloads

under_grown : (d e : Domain) (n : Node) (h : List Act) (p : Node) (key : List ℕ) (id tid number : ℕ) (covered : List ℕ) → Grows d e → IsListed d n → OpensUnder d n h p key id tid number covered → OpensUnder e n h p key id tid number covered
under_grown d e n h p key id tid number covered g listed (With_session i s is zero_ same own more) =
    With_session i s is zero_ same (subst IsAddress (sym (address_grown d e n g listed)) own) more
under_grown d e n h p key id tid number covered g listed (With_group role which b there same more) = With_group role which b there same more

up_grown : (d e : Domain) (n : Node) (h : List Act) (p : Node) (key : List ℕ) (id tid number : ℕ) (plain : List ℕ) → Grows d e → IsListed d n → LegalUp d n h p key id tid number plain → LegalUp e n h p key id tid number plain
up_grown d e n h p key id tid number plain g listed l =
    let theirs : IsListed d p = listed_by d p (omega (arith, l.whole)) in
    record {
      covered = l.covered;
      octets = l.octets;
      kind = l.kind;
      took = l.took;
      covers = l.covers;
      whole = subst IsAddress (sym (address_grown d e p g theirs)) l.whole;
      roles = l.roles;
      under = under_grown d e n h p key id tid number l.covered g listed l.under;
    }

-- ---- acts

opened_grown : (d e : Domain) (n : Node) (h : List Act) (p : Node) (s : Start) → Grows d e → LegalOpened d n h p s → LegalOpened e n h p s
opened_grown d e n h p s g l = opened_as d e g.akm (renews_as d e g.extras g.akm) n h p s l

pub right_act : (d : Domain) (n : Node) (a : Act) → IsRightLook d n a → RightAct d n a
right_act d n (Looked id name p (Found k)) right = right
right_act d n (Looked id name p NoHolder) right = λ suite. tt
right_act d n (Looked id name p Absent) right = λ suite. tt
right_act d n _ right = tt

pub right_acts : (d : Domain) (n : Node) (g : List Act) → AreRightLooks d n g → RightActs d n g
right_acts d n [] right = tt
right_acts d n (a ∷ g) right = (right_act d n a right.0, right_acts d n g right.1)

legal_grown : (d e : Domain) (n : Node) (a : Act) (h : List Act) → Grows d e → IsListed d n → LegalHistory d n h → IsKeyedLook e n a → Legal d n h a → Legal e n h a
legal_grown d e n (Opened p s) h g listed legal right l = opened_grown d e n h p s g l
legal_grown d e n (acts.Closed p Session) h g listed legal right l = l
legal_grown d e n (acts.Closed p Attempt) h g listed legal right l = l
legal_grown d e n (acts.Drew v) h g listed legal right l = l
legal_grown d e n (Derived p i k) h g listed legal right l = derived_grown d e n h p i k g l
legal_grown d e n (Sent q k octets s) h g listed legal right l = (sealed_grown d e n h q k s g listed legal l.0, kind_as d e (renewals_as d e g.extras) (protects_as d e g.extras) n h q k l.1)
legal_grown d e n (acts.Took from octets k o s) h g listed legal right l = l
legal_grown d e n (acts.Installed (One p) (Pairwise tk i)) h g listed legal right l = l
legal_grown d e n (acts.Installed (One p) (Group which key id b)) h g listed legal right l = new_as d e (protects_as d e g.extras) which n h p key l
legal_grown d e n (acts.Installed All (Pairwise tk i)) h g listed legal right l = l
legal_grown d e n (acts.Installed All (Group which key id b)) h g listed legal right l = l
legal_grown d e n (acts.Resumed p (Pairwise tk i)) h g listed legal right l = l
legal_grown d e n (acts.Resumed p (Group which key id b)) h g listed legal right l = again_as d e (protects_as d e g.extras) which n h p (record { key = key; id = id }) l
legal_grown d e n (Used q key id number octets) h g listed legal right l = l
legal_grown d e n (HandedUp p key id tid number octets) h g listed legal right l = up_grown d e n h p key id tid number octets g listed l
legal_grown d e n (acts.Finished p i) h g listed legal right l = finished_as d e g.akm n h p i l
legal_grown d e n (acts.Put id name p answer) h g listed legal right l = l
legal_grown d e n (Looked id name p (Found k)) h g listed legal right l = right
legal_grown d e n (Looked id name p NoHolder) h g listed legal right l = tt
legal_grown d e n (Looked id name p Absent) h g listed legal right l = tt
legal_grown d e n (acts.Secret p psk) h g listed legal right l = l
legal_grown d e n (acts.Revoked id name p answer) h g listed legal right l = l
legal_grown d e n (acts.GaveUp p m) h g listed legal right l = l
legal_grown d e n (acts.Idle why_) h g listed legal right l = l
legal_grown d e n (acts.Link sta step) h g listed legal right l = l

pub history_grown : (d e : Domain) (n : Node) (h : List Act) → Grows d e → IsListed d n → AreKeyedLooks e n h → LegalHistory d n h → LegalHistory e n h
history_grown d e n [] g listed right legal = tt
history_grown d e n (a ∷ h) g listed right legal =
    (legal_grown d e n a h g listed legal.1 right.0 legal.0, history_grown d e n h g listed right.1 legal.1)

-- ---- keys of stations change

pub like_after : (d : Domain) (event : NodeEvent) → IsLike d (after d event)
like_after d (Secret named psk) = record { akm = refl; ssid = refl; mdid = refl; extras = refl; macs = λ n. sym (mac_changed named psk d n); aps = refl; stas = sym (length_rekeyed named psk 0 d.stas) }
like_after d _ = record { akm = refl; ssid = refl; mdid = refl; extras = refl; macs = λ n. refl; aps = refl; stas = refl }

pub listed_after : (d : Domain) (event : NodeEvent) (n : Node) → IsListed d n → IsListed (after d event) n
listed_after d (Secret named psk) (Ap k) listed = listed
listed_after d (Secret named psk) (Sta k) listed = subst (λ (count : ℕ). k < count) (sym (length_rekeyed named psk 0 d.stas)) listed
listed_after d _ n listed = listed

pub whole_after : (d : Domain) (event : NodeEvent) → IsWhole d → IsWhole (after d event)
whole_after d (Secret named psk) w = record { names = named_changed named psk d w.names; octets = λ suite. octets_changed named psk d (w.octets suite) }
whole_after d _ w = w
