-- What is legal in a network is legal in one that differs in pre-shared keys alone: so no change of a key takes back what was legal before.
use Rattle.std.proofs.Common.{ℕ, ◌≡◌, ◌<◌, inl, inr, List, [], ◌∷◌, length, Option, Some, None, refl, sym, ap, subst, ◌∙◌}
use Rattle.domain_base.specs.declared.names.Akm.{Akm}
use Rattle.domain_base.specs.declared.names.Akm.TheVariants.{Psk, PskSha256, FtPsk}
use Rattle.domain_base.specs.declared.names.Mac.{Mac}
use Rattle.domain_base.specs.declared.names.Node.{Node}
use Rattle.domain_base.specs.declared.names.Node.TheVariants.{Ap, Sta}
use Rattle.domain_base.specs.declared.names.Peer.{Peer}
use Rattle.domain_base.specs.declared.names.Peer.TheVariants.{One, All}
use Rattle.air_frame.specs.Sent.{IsAddress}
use Rattle.key_hierarchy.specs.FastTransition.{pmk_r0, pmk_r1}
use Rattle.key_hierarchy.specs.declared.inputs.Inputs.{Inputs}
use Rattle.key_hierarchy.specs.declared.answers.PullAnswer.{PullAnswer}
use Rattle.key_hierarchy.specs.declared.answers.PullAnswer.TheVariants.{Found, NoHolder, Absent}
use Rattle.run_journal.specs.declared.domain.Domain.{Domain}
use Rattle.run_journal.specs.declared.acts.GroupKind.{GroupKind}
use Rattle.run_journal.specs.declared.acts.GroupKind.TheVariants as groups
use Rattle.run_journal.specs.declared.acts.Key.TheVariants.{Group}
use Rattle.run_journal.specs.Acts.{GroupKey}
use Rattle.run_journal.specs.declared.acts.Start.{Start}
use Rattle.run_journal.specs.declared.acts.Kind.{Kind}
use Rattle.run_journal.specs.declared.acts.Kind.TheVariants as kind
use Rattle.run_journal.specs.declared.acts.Seal.{Seal}
use Rattle.run_journal.specs.declared.acts.Part.TheVariants.{Attempt, Session}
use Rattle.run_journal.specs.declared.acts.Act.{Act}
use Rattle.run_journal.specs.declared.acts.Act.TheVariants.{Opened, Closed, Derived, Sent, Installed, Resumed, Finished, HandedUp, Looked}
use Rattle.run_journal.specs.declared.acts.Entry.{Entry}
use Rattle.run_journal.specs.declared.domain.Extras.{Extras}
use Rattle.run_journal.specs.Events.{IsListed, is_second, can_renew, protects}
use Rattle.domain_rules.specs.Network.{mac, address, root_by, has_renewals, renews}
use Rattle.domain_rules.specs.Present.{present}
use Rattle.domain_rules.proofs.PresentNetwork.{length_keyed, mac_present, named_present, octets_present}
use Rattle.eapol_key.specs.declared.messages.Message.TheVariants.{M1, M2, M3, M4, G1, G2}
use Rattle.std.specs.Prelude.{◌&&◌}
use Rattle.journal_safety.proofs.Legal.{covered_kind, AreCommon, IsUsed, HaveDrawn, Seen, Carries, LegalSeal, LegalKind, Given, By_m3, By_g1, By_renewal, LegalGroup, LegalNew, LegalAgain, LegalFinished, LegalOpened, LegalData, LegalSealing, With_mic, With_frame, LegalSealed, IsReceiver, OpensUnder, With_session, With_group, LegalLook, Legal, LegalHistory, Chain}
use Rattle.journal_safety.proofs.Settled.{Ground, Nearly, Settled, Fine}

-- two networks that have all in common but pre-shared keys, as far as acts go
pub record IsLike (d e : Domain) : Type 0 where
  pub akm : d.akm ≡ e.akm
  pub ssid : d.ssid ≡ e.ssid
  pub mdid : d.mdid ≡ e.mdid
  pub extras : d.extras ≡ e.extras
  pub macs : (n : Node) → mac d n ≡ mac e n
  pub aps : length d.aps ≡ length e.aps
  pub stas : length d.stas ≡ length e.stas

pub like_back : (d e : Domain) → IsLike d e → IsLike e d
like_back d e w = record { akm = sym w.akm; ssid = sym w.ssid; mdid = sym w.mdid; extras = sym w.extras; macs = λ n. sym (w.macs n); aps = sym w.aps; stas = sym w.stas }

-- the present network is like that of the header
pub like_present : (d : Domain) (j : List Entry) → IsLike d (present d j)
like_present d j = record { akm = refl; ssid = refl; mdid = refl; extras = refl; macs = λ n. sym (mac_present d j n); aps = refl; stas = sym (length_keyed j 0 d.stas) }

pub ground_present : (d : Domain) (j : List Entry) → Ground d → Ground (present d j)
ground_present d j ground = record { names = named_present d j ground.names; octets = λ suite. octets_present d j (ground.octets suite) }

like_listed : (d e : Domain) → IsLike d e → (n : Node) → IsListed d n → IsListed e n
like_listed d e w (Ap k) low = subst (λ (m : ℕ). k < m) w.aps low
like_listed d e w (Sta k) low = subst (λ (m : ℕ). k < m) w.stas low

like_address : (d e : Domain) → IsLike d e → (n : Node) → address d n ≡ address e n
like_address d e w n = ap (λ (m : Mac). m.0) (w.macs n)

-- ---- inputs

root_mdid : (akm : Akm) (d e : Domain) → IsLike d e → (s : Node) (id : List ℕ) → (root_by akm d s id).mdid ≡ (root_by akm e s id).mdid
root_mdid FtPsk d e w s id = w.mdid
root_mdid Psk d e w s id = refl
root_mdid PskSha256 d e w s id = refl

root_holder : (akm : Akm) (d e : Domain) (s : Node) (id : List ℕ) → (root_by akm d s id).r0kh_id ≡ (root_by akm e s id).r0kh_id
root_holder FtPsk d e s id = refl
root_holder Psk d e s id = refl
root_holder PskSha256 d e s id = refl

like_common : (d e : Domain) → IsLike d e → (i : Inputs) → AreCommon d i → AreCommon e i
like_common d e w i c = record {
  akm = c.akm ∙ w.akm;
  ssid = c.ssid ∙ w.ssid;
  mdid = λ s. (c.mdid s ∙ root_mdid d.akm d e w s i.r0kh_id ∙ ap (λ (a : Akm). (root_by a e s i.r0kh_id).mdid) w.akm);
  r0kh_id = λ s. (c.r0kh_id s ∙ root_holder d.akm d e s i.r0kh_id ∙ ap (λ (a : Akm). (root_by a e s i.r0kh_id).r0kh_id) w.akm);
}

-- ---- what is sealed and opened

like_receiver : (d e : Domain) → IsLike d e → (q : Peer) → IsReceiver e q → IsReceiver d q
like_receiver d e w (One p) six = subst (λ (x : List ℕ). IsAddress x) (sym (like_address d e w p)) six
like_receiver d e w All six = tt

like_data : (d e : Domain) → IsLike d e → (n : Node) (h : List Act) (s : Seal) → LegalData d n h s → LegalData e n h s
like_data d e w n h s l = record {
  form = l.form;
  peer = l.peer;
  id = l.id;
  number = l.number;
  plain = l.plain;
  before = l.before;
  is = l.is;
  covers = λ own theirs. l.covers (subst (λ (x : List ℕ). IsAddress x) (sym (like_address d e w n)) own) (like_receiver d e w l.peer theirs);
}

-- as far as these say whether keys are renewed
pub renewals_as : (d e : Domain) → e.extras ≡ d.extras → has_renewals e ≡ has_renewals d
renewals_as d e same = ap (λ (x : Extras). is_second x.version) same

pub renews_as : (d e : Domain) → e.extras ≡ d.extras → e.akm ≡ d.akm → renews e ≡ renews d
renews_as d e same suite = ap (λ (x : Extras). is_second x.version && can_renew e.akm) same ∙ ap (λ (x : Akm). is_second d.extras.version && can_renew x) suite

pub protects_as : (d e : Domain) → e.extras ≡ d.extras → protects e ≡ protects d
protects_as d e same = ap (λ (x : Extras). x.mfp) same

-- and so say which group keys are in use
pub used_as : (d e : Domain) → protects e ≡ protects d → (which : GroupKind) → IsUsed d which → IsUsed e which
used_as d e alike groups.Gtk used = tt
used_as d e alike groups.Igtk used = alike ∙ used

pub drawn_as : (d e : Domain) → protects e ≡ protects d → (h : List Act) → HaveDrawn d h → HaveDrawn e h
drawn_as d e alike h drawn = λ which used. drawn which (used_as e d (sym alike) which used)

seen_as : (d e : Domain) → has_renewals e ≡ has_renewals d → (n : Node) (h : List Act) (p : Node) (i : Inputs) → Seen d n h p i → Seen e n h p i
seen_as d e same n h p i s = record { verified = s.verified; from_m2 = s.from_m2; secure = λ some bit. s.secure (sym same ∙ some) bit }

carries_as : (d e : Domain) → has_renewals e ≡ has_renewals d → (which : GroupKind) (n : Node) (h : List Act) (p : Node) (i : Inputs) (covered : List ℕ) (k : Kind) → Carries d which n h p i covered k → Carries e which n h p i covered k
carries_as d e same which n h p i covered (kind.Key M1) c = tt
carries_as d e same which n h p i covered (kind.Key M2) c = c
carries_as d e same which n h p i covered (kind.Key M3) c = record { load = c.load; current = c.current; seen = seen_as d e same n h p i c.seen; renewed = c.renewed }
carries_as d e same which n h p i covered (kind.Key M4) c = c
carries_as d e same which n h p i covered (kind.Key G1) c = c
carries_as d e same which n h p i covered (kind.Key G2) c = tt
carries_as d e same which n h p i covered kind.ReResp c = c
carries_as d e same which n h p i covered _ c = tt

pub seal_as : (d e : Domain) → has_renewals e ≡ has_renewals d → protects e ≡ protects d → (n : Node) (h : List Act) (p : Node) (k : Kind) (s : Seal) → LegalSeal d n h p k s → LegalSeal e n h p k s
seal_as d e same alike n h p k s l = record { i = l.i; there = l.there; is = l.is; direction = l.direction; kind_is = l.kind_is; carries = λ which used. carries_as d e same which n h p l.i s.octets (covered_kind s.octets) (l.carries which (used_as e d (sym alike) which used)) }

pub kind_as : (d e : Domain) → has_renewals e ≡ has_renewals d → protects e ≡ protects d → (n : Node) (h : List Act) (q : Peer) (k : Kind) → LegalKind d n h q k → LegalKind e n h q k
kind_as d e same alike n h (One p) (kind.Key M1) l = l
kind_as d e same alike n h (One p) (kind.Key M2) l = tt
kind_as d e same alike n h (One p) (kind.Key M3) l = record { part = l.part; awaited = l.awaited; heard = l.heard; few = l.few; i = l.i; last = l.last; seen = seen_as d e same n h p l.i l.seen; drawn = drawn_as d e alike h l.drawn }
kind_as d e same alike n h (One p) (kind.Key M4) l = tt
kind_as d e same alike n h (One p) (kind.Key G1) l = l
kind_as d e same alike n h (One p) (kind.Key G2) l = tt
kind_as d e same alike n h q k l = tt

pub opened_as : (d e : Domain) → e.akm ≡ d.akm → renews e ≡ renews d → (n : Node) (h : List Act) (p : Node) (s : Start) → LegalOpened d n h p s → LegalOpened e n h p s
opened_as d e suite same n h p s l = record {
  none = l.none;
  alone = l.alone;
  access = l.access;
  mobile = λ roams. suite ∙ l.mobile roams;
  renewed = λ renews_. (let r = l.renewed renews_ in record { renewing = same ∙ r.renewing; x = r.x; awaited = r.awaited; none = r.none });
  paid = l.paid;
}

pub finished_as : (d e : Domain) → e.akm ≡ d.akm → (n : Node) (h : List Act) (p : Node) (i : Inputs) → LegalFinished d n h p i → LegalFinished e n h p i
finished_as d e suite n h p i l = record {
  verified = l.verified;
  final = λ other. l.final (λ mobile. other (suite ∙ mobile));
  alive = l.alive;
  current = l.current;
  last = l.last;
  installed = l.installed;
  only = l.only;
  alone = l.alone;
}

like_sealing : (d e : Domain) → IsLike d e → (n : Node) (h : List Act) (q : Peer) (k : Kind) (s : Seal) → LegalSealing d n h q k s → LegalSealing e n h q k s
like_sealing d e w n h q k s (With_mic p is mic l) = With_mic p is mic (seal_as d e (renewals_as d e (sym w.extras)) (protects_as d e (sym w.extras)) n h p k s l)
like_sealing d e w n h q k s (With_frame is l) = With_frame is (like_data d e w n h s l)

like_sealed : (d e : Domain) → IsLike d e → (n : Node) (h : List Act) (q : Peer) (k : Kind) (s : Option Seal) → LegalSealed d n h q k s → LegalSealed e n h q k s
like_sealed d e w n h q k None l = tt
like_sealed d e w n h q k (Some s) l = like_sealing d e w n h q k s l

like_under : (d e : Domain) → IsLike d e → (n : Node) (h : List Act) (p : Node) (key : List ℕ) (id tid number : ℕ) (covered : List ℕ) → OpensUnder d n h p key id tid number covered → OpensUnder e n h p key id tid number covered
like_under d e w n h p key id tid number covered (With_session i awaited is zero_ tids six above) =
    With_session i awaited is zero_ tids (subst (λ (x : List ℕ). IsAddress x) (like_address d e w n) six) above
like_under d e w n h p key id tid number covered (With_group role which b there none above) = With_group role which b there none above

-- ---- group keys that are given

given_as : (d e : Domain) → protects e ≡ protects d → (which : GroupKind) (n : Node) (h : List Act) (p : Node) (i : Inputs) (g : List ℕ) → Given d which n h p i g → Given e which n h p i g
given_as d e alike which n h p i g v = record {
  used = used_as d e alike which v.used;
  frame = v.frame;
  octets = v.octets;
  covered = v.covered;
  took = v.took;
  gives_key = v.gives_key;
  form = v.form;
  down = v.down;
  frame_is = v.frame_is;
  counter = v.counter;
  derived = v.derived;
  opens = v.opens;
}

group_as : (d e : Domain) → protects e ≡ protects d → (which : GroupKind) (n : Node) (h : List Act) (p : Node) (g : List ℕ) → LegalGroup d which n h p g → LegalGroup e which n h p g
unfolding given_as
group_as d e alike which n h p g (By_m3 v) = By_m3 (record {
  station = v.station;
  i = v.i;
  given = given_as d e alike which n h p v.i g v.given;
  no_g1 = v.no_g1;
  alive = v.alive;
  begins = v.begins;
  pairwise = v.pairwise;
  first = v.first;
})
group_as d e alike which n h p g (By_g1 v) = By_g1 (record {
  station = v.station;
  i = v.i;
  given = given_as d e alike which n h p v.i g v.given;
  kind_is = v.kind_is;
  before = v.before;
  from = v.from;
  octets = v.octets;
  kind = v.kind;
  outcome = v.outcome;
  seal = v.seal;
  between = v.between;
  others = v.others;
  is = v.is;
  awaited = v.awaited;
  above = v.above;
})
group_as d e alike which n h p g (By_renewal v) = By_renewal (record {
  station = v.station;
  i = v.i;
  given = given_as d e alike which n h p v.i g v.given;
  kind_is = v.kind_is;
  before = v.before;
  from = v.from;
  octets = v.octets;
  kind = v.kind;
  outcome = v.outcome;
  seal = v.seal;
  between = v.between;
  others = v.others;
  is = v.is;
  awaited = v.awaited;
  renewal = v.renewal;
  clean = v.clean;
  above = v.above;
})

pub new_as : (d e : Domain) → protects e ≡ protects d → (which : GroupKind) (n : Node) (h : List Act) (p : Node) (g : List ℕ) → LegalNew d which n h p g → LegalNew e which n h p g
new_as d e alike which n h p g l = record { group = group_as d e alike which n h p g l.group; new = l.new }

pub again_as : (d e : Domain) → protects e ≡ protects d → (which : GroupKind) (n : Node) (h : List Act) (p : Node) (g : GroupKey) → LegalAgain d which n h p g → LegalAgain e which n h p g
again_as d e alike which n h p g l = record { group = group_as d e alike which n h p g.key l.group; had = l.had }

-- ---- looks

like_look : (d e : Domain) → IsLike d e → (n : Node) (id : List ℕ) (p : Node) (answer : PullAnswer) → LegalLook d n id p answer → LegalLook e n id p answer
like_look d e w n id p (Found k) l = λ suite. (
    let x = l (w.akm ∙ suite) in
    let psk : List ℕ = x.0 in (
      psk,
      x.1
          ∙ ap (λ (v : List ℕ). pmk_r1 (pmk_r0 psk v d.mdid id (mac d p)) (mac d n) (mac d p)) w.ssid
          ∙ ap (λ (v : List ℕ). pmk_r1 (pmk_r0 psk e.ssid v id (mac d p)) (mac d n) (mac d p)) w.mdid
          ∙ ap (λ (m : Mac). pmk_r1 (pmk_r0 psk e.ssid e.mdid id m) (mac d n) m) (w.macs p)
          ∙ ap (λ (m : Mac). pmk_r1 (pmk_r0 psk e.ssid e.mdid id (mac e p)) m (mac e p)) (w.macs n),
    ))
like_look d e w n id p NoHolder l = tt
like_look d e w n id p Absent l = tt

-- ---- histories

pub legal_like : (d e : Domain) → IsLike d e → (n : Node) (h : List Act) (a : Act) → Legal d n h a → Legal e n h a
legal_like d e w n h (Opened p s) l = opened_as d e (sym w.akm) (renews_as d e (sym w.extras) (sym w.akm)) n h p s l
legal_like d e w n h (Closed p Session) l = l
legal_like d e w n h (Closed p Attempt) l = tt
legal_like d e w n h (Derived p i k) l = record {
  roles = l.roles;
  listed = like_listed d e w n l.listed;
  peer_listed = like_listed d e w p l.peer_listed;
  alive = l.alive;
  address = l.address ∙ w.macs n;
  peer = l.peer ∙ w.macs p;
  common = like_common d e w i l.common;
  key = l.key;
  no_m3 = l.no_m3;
}
legal_like d e w n h (Installed (One p) (Group which g id b)) l = new_as d e (protects_as d e (sym w.extras)) which n h p g l
legal_like d e w n h (Resumed p (Group which g id b)) l = again_as d e (protects_as d e (sym w.extras)) which n h p (record { key = g; id = id }) l
legal_like d e w n h (Finished p i) l = finished_as d e (sym w.akm) n h p i l
legal_like d e w n h (Sent q k octets s) l = (like_sealed d e w n h q k s l.0, kind_as d e (renewals_as d e (sym w.extras)) (protects_as d e (sym w.extras)) n h q k l.1)
legal_like d e w n h (HandedUp p key id tid number octets) l = record {
  covered = l.covered;
  octets = l.octets;
  kind = l.kind;
  took = l.took;
  covers = l.covers;
  whole = subst (λ (x : List ℕ). IsAddress x) (like_address d e w p) l.whole;
  roles = l.roles;
  under = like_under d e w n h p key id tid number l.covered l.under;
}
legal_like d e w n h (Looked id name p answer) l = like_look d e w n id p answer l
legal_like d e w n h _ l = l

pub history_like : (d e : Domain) → IsLike d e → (n : Node) (h : List Act) → LegalHistory d n h → LegalHistory e n h
history_like d e w n [] l = tt
history_like d e w n (a ∷ h) l = (legal_like d e w n h a l.0, history_like d e w n h l.1)

chain_like : (d e : Domain) → IsLike d e → (n : Node) (h g : List Act) → Chain d n h g → Chain e n h g
chain_like d e w n h [] l = tt
chain_like d e w n h (a ∷ g) l = (legal_like d e w n h a l.0, chain_like d e w n (a ∷ h) g l.1)

pub nearly_as : (d e : Domain) → protects e ≡ protects d → (h : List Act) → Nearly d h → Nearly e h
nearly_as d e alike h (inl all) = inl (λ which used. all which (used_as e d (sym alike) which used))
nearly_as d e alike h (inr ahead) = inr (λ which used. ahead which (used_as e d (sym alike) which used))

pub settled_like : (d e : Domain) → IsLike d e → Ground e → (n : Node) (h : List Act) → Settled d n h → Settled e n h
settled_like d e w ground n h s = record {
  ground = ground;
  bare = s.bare;
  nonced = s.nonced;
  started = λ role listed. drawn_as d e (protects_as d e (sym w.extras)) h (s.started role (like_listed e d (like_back d e w) n listed));
  nearly = nearly_as d e (protects_as d e (sym w.extras)) h s.nearly;
  paid = s.paid;
}

pub fine_like : (d e : Domain) → IsLike d e → Ground e → (n : Node) (h g : List Act) → Fine d n h g → Fine e n h g
fine_like d e w ground n h g f = record { chain = chain_like d e w n h g f.chain; settled = settled_like d e w ground n _ f.settled }
