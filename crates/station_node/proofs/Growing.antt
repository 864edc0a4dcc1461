-- As the network grows, or keys of other stations change, a station stands for what it stood for.
use Rattle.std.proofs.Common.{◌≡◌, ℕ, ◌<◌, true, List, [], length, Option, Some, None, refl, sym, ap, subst, ◌∙◌}
use Rattle.std.specs.Prelude.{option_map, ◌&&◌}
use Rattle.domain_base.specs.declared.names.Akm.{Akm}
use Rattle.domain_base.specs.declared.names.Node.{Node}
use Rattle.domain_base.specs.declared.names.Node.TheVariants.{Ap, Sta}
use Rattle.key_hierarchy.specs.FastTransition.{pmk_r0}
use Rattle.run_journal.specs.declared.domain.Domain.{Domain}
use Rattle.run_journal.specs.declared.domain.Extras.{Extras}
use Rattle.run_journal.specs.Events.{is_second, can_renew}
use Rattle.run_journal.specs.declared.acts.Kind.TheVariants as kind
use Rattle.run_journal.specs.declared.acts.Act.{Act}
use Rattle.run_journal.specs.declared.reply.Keyed.{Keyed}
use Rattle.run_journal.specs.Acts.{Derivation}
use Rattle.run_journal.specs.Questions.{associated, heard}
use Rattle.frame_making.proofs.Growing.{mobility_grown}
use Rattle.node_base.specs.Changing.{Rekeys}
use Rattle.node_base.specs.Growing.{Grows}
use Rattle.node_base.proofs.Grown.{Alike, grows_alike, rekeys_alike, mac_grown, psk_grown, ends_grown, inputs_at_grown, inputs_by_grown, key_grown, pmk_grown, listed_grown}
use Rattle.supplicant.specs.declared.base.Base.{Base}
use Rattle.supplicant.specs.declared.attempt.Attempt.{Attempt as SupplicantAttempt}
use Rattle.supplicant.specs.declared.session.Session.{Session as SupplicantSession}
use Rattle.supplicant.specs.declared.session.Session.TheVariants.{Connect, Ft}
use Rattle.supplicant.specs.Bases.{IsBaseOf, fte_in}
use Rattle.supplicant.specs.State.{State as Supplicant}
use Rattle.supplicant.specs.Stands.{SupplicantStands, Responds, IsBased, Holds, IsTrying, HasAttempt as HasSupplicantAttempt, HasSession as HasSupplicantSession}
use Rattle.domain_rules.specs.FastTransition.{r1_name}
use Rattle.domain_rules.specs.Replies.{key_by}
use Rattle.domain_rules.specs.Network.{renews, mac, psk_of, root_at, inputs_at, station_of}
use Rattle.ft_exchange.specs.State.{OriginatorState}
use Rattle.ft_exchange.specs.declared.originator.Stage.{Stage}
use Rattle.ft_exchange.specs.declared.originator.Stage.TheVariants as stage
use Rattle.ft_exchange.specs.declared.originator.Transit.{Transit}
use Rattle.ft_exchange.specs.Stands.{IsKeyed, IsUnderWay, HasStage, OriginatorStands}
use Rattle.station_node.specs.declared.attempt.Attempt.{Attempt}
use Rattle.station_node.specs.declared.attempt.Association.{Association}
use Rattle.station_node.specs.declared.attempt.Association.TheVariants.{Requested, Accepted, Moving}
use Rattle.station_node.specs.declared.session.Session.{Session}
use Rattle.station_node.specs.State.{State}
use Rattle.station_node.specs.Parts.{peer_of_session}
use Rattle.station_node.specs.Stands.{Stands, HasAssociation, HasAttempt, HasSession}

-- ---- keys

keys_grown : {S : Node → Type 0} (d e : Domain) (id : List ℕ) (n p : Node) (o : Option Keyed) → Alike d e S → S n → S p → option_map (key_by d (root_at d (station_of n p) id) n p) o ≡ option_map (key_by e (root_at e (station_of n p) id) n p) o
keys_grown d e id n p None g here there = refl
keys_grown d e id n p (Some y) g here there = ap (λ (x : Derivation). Some x) (key_grown d e n p id y g here there)

-- ---- supplicants

-- the same networks renew keys
renews_grown : {S : Node → Type 0} (d e : Domain) → Alike d e S → renews d ≡ true → renews e ≡ true
renews_grown d e g is =
    ap (λ (x : Extras). is_second x.version && can_renew e.akm) g.extras ∙ ap (λ (k : Akm). is_second d.extras.version && can_renew k) g.akm ∙ is

base_grown : {S : Node → Type 0} (d e : Domain) (n p : Node) (fte : List ℕ) (b : Base) → Alike d e S → S n → S p → IsBaseOf d n p fte b → IsBaseOf e n p fte b
base_grown d e n p fte b g here there at = record {
  akm = at.akm ∙ sym g.akm;
  pmk = at.pmk ∙ sym (pmk_grown d e n p b.r0kh_id g here there);
  mobility = mobility_grown d e (inputs_at d n p b.r0kh_id [] []) (inputs_at e n p b.r0kh_id [] []) fte fte b.mobility g (inputs_at_grown d e n p b.r0kh_id [] [] g here there) refl at.mobility;
  id = at.id;
}

based_grown : {S : Node → Type 0} (d e : Domain) (n p : Node) (b : Base) (part : List Act) → Alike d e S → S n → S p → IsBased d n p b part → IsBased e n p b part
based_grown d e n p b part g here there at = record {
  of = base_grown d e n p (fte_in b) b g here there at.of;
  says = at.says;
  responds = subst (λ (k : Akm). Responds k (heard p kind.AssocResp part) at.says b) (sym g.akm) at.responds;
}

trying_grown : {S : Node → Type 0} (d e : Domain) (n p : Node) (b : Base) (z : Option SupplicantSession) (x : SupplicantAttempt) (h : List Act) → Alike d e S → S n → S p → IsTrying d n p b z x h → IsTrying e n p b z x h
trying_grown d e n p b None x h g here there st = record {
  part = st.part;
  is = st.is;
  begun = st.begun;
  nonce = st.nonce;
  hears = st.hears;
  based = based_grown d e n p b st.part g here there st.based;
  keeps = st.keeps;
  asked = st.asked;
  keyed = st.keyed ∙ keys_grown d e b.r0kh_id n p x.key g here there;
}
trying_grown d e n p b (Some z) x h g here there st = record {
  part = st.part;
  is = st.is;
  begun = st.begun;
  nonce = st.nonce;
  has = st.has;
  keyed = st.keyed ∙ keys_grown d e b.r0kh_id n p x.key g here there;
  renewed = renews_grown d e g st.renewed;
}

tried_grown : {S : Node → Type 0} (d e : Domain) (n p : Node) (b : Base) (z : Option SupplicantSession) (o : Option SupplicantAttempt) (h : List Act) → Alike d e S → S n → S p → HasSupplicantAttempt d n p b z o h → HasSupplicantAttempt e n p b z o h
tried_grown d e n p b z None h g here there none = none
tried_grown d e n p b z (Some x) h g here there st = trying_grown d e n p b z x h g here there st

holds_grown : {S : Node → Type 0} (d e : Domain) (n p : Node) (b : Base) (x : SupplicantSession) (h : List Act) → Alike d e S → S n → S p → Holds d n p b x h → Holds e n p b x h
holds_grown d e n p b (Connect key counter) h g here there st = record {
  is = st.is ∙ ap (λ (z : Derivation). Some z) (key_grown d e n p b.r0kh_id key g here there);
  begun = st.begun;
  based = based_grown d e n p b _ g here there st.based;
  keeps = st.keeps;
}
holds_grown d e n p b (Ft ptk counter) h g here there st = st

held_grown : {S : Node → Type 0} (d e : Domain) (n p : Node) (b : Base) (o : Option SupplicantSession) (h : List Act) → Alike d e S → S n → S p → HasSupplicantSession d n p b o h → HasSupplicantSession e n p b o h
held_grown d e n p b None h g here there none = none
held_grown d e n p b (Some x) h g here there st = holds_grown d e n p b x h g here there st

supplicant_grown : {S : Node → Type 0} (d e : Domain) (n p : Node) (s : Supplicant) (h : List Act) → Alike d e S → S n → S p → SupplicantStands d n p s h → SupplicantStands e n p s h
supplicant_grown d e n p s h g here there st = record {
  ends = ends_grown d e n p s.ends g here there st.ends;
  attempt_is = tried_grown d e n p s.base s.session s.attempt h g here there st.attempt_is;
  session_is = held_grown d e n p s.base s.session h g here there st.session_is;
}

-- ---- originators

transit_grown : {S : Node → Type 0} (d e : Domain) (n p : Node) (id : List ℕ) (t : Option Transit) (part : List Act) → Alike d e S → S n → S p → IsKeyed d n p id t part → IsKeyed e n p id t part
transit_grown d e n p id None part g here there st = tt
transit_grown d e n p id (Some t) part g here there st = (
  st.0 ∙ ap (λ (x : Derivation). Some x) (key_grown d e n p id t.key g here there),
  st.1 ∙ ap r1_name (sym (inputs_by_grown d e n p id t.key g here there)),
)

-- the access point of the session, which is left, is listed
under_way_grown : {S : Node → Type 0} (d e : Domain) (n p : Node) (s : OriginatorState) (t : Option Transit) (h : List Act) → Alike d e S → S n → S p → ((q : Node) → associated h ≡ Some q → S q) → IsUnderWay d n p s t h → IsUnderWay e n p s t h
under_way_grown d e n p s t h g here there left u = record {
  q = u.q;
  from = u.from;
  current = u.current ∙ sym (mac_grown d e u.q g (left u.q u.from));
  part = u.part;
  is = u.is;
  begun = u.begun;
  nonce = u.nonce;
  hears = u.hears;
  keyed = transit_grown d e n p s.r0kh_id t u.part g here there u.keyed;
}

stage_grown : {S : Node → Type 0} (d e : Domain) (n p : Node) (s : OriginatorState) (x : Stage) (h : List Act) → Alike d e S → S n → S p → ((q : Node) → associated h ≡ Some q → S q) → HasStage d n p s x h → HasStage e n p s x h
stage_grown d e n p s stage.Asked h g here there left st = under_way_grown d e n p s None h g here there left st
stage_grown d e n p s (stage.Keyed t) h g here there left st = under_way_grown d e n p s (Some t) h g here there left st
stage_grown d e n p s stage.Done h g here there left st = st

r0_grown : {S : Node → Type 0} (d e : Domain) (n : Node) (id : List ℕ) → Alike d e S → S n → pmk_r0 (psk_of e n) e.ssid e.mdid id (mac e n) ≡ pmk_r0 (psk_of d n) d.ssid d.mdid id (mac d n)
r0_grown d e n id g here = rw (psk_grown d e n g here, g.ssid, g.mdid, mac_grown d e n g here) refl

originator_grown : {S : Node → Type 0} (d e : Domain) (n p : Node) (s : OriginatorState) (h : List Act) → Alike d e S → S n → S p → ((q : Node) → associated h ≡ Some q → S q) → OriginatorStands d n p s h → OriginatorStands e n p s h
originator_grown d e n p s h g here there left st = record {
  suite = g.akm ∙ st.suite;
  mfp_is = st.mfp_is ∙ sym (ap (λ (x : Extras). x.mfp) g.extras);
  own = st.own ∙ sym (mac_grown d e n g here);
  peer = st.peer ∙ sym (mac_grown d e p g there);
  ssid = st.ssid ∙ sym g.ssid;
  mdid = st.mdid ∙ sym g.mdid;
  r0kh_id = st.r0kh_id;
  r0 = st.r0 ∙ sym (r0_grown d e n s.r0kh_id g here);
  stage_is = stage_grown d e n p s s.stage h g here there left st.stage_is;
}

-- ---- stations

association_grown : {S : Node → Type 0} (d e : Domain) (sta a : ℕ) (x : Association) (h : List Act) → Alike d e S → S (Sta sta) → S (Ap a) → ((q : Node) → associated h ≡ Some q → S q) → HasAssociation d (Sta sta) a x h → HasAssociation e (Sta sta) a x h
association_grown d e sta a (Requested v) h g listed peer left has = has
association_grown d e sta a (Accepted s) h g listed peer left has = record { stands = supplicant_grown d e (Sta sta) (Ap a) s h g listed peer has.stands; names = λ suite. has.names (sym g.akm ∙ suite) }
association_grown d e sta a (Moving o) h g listed peer left has = record { stands = originator_grown d e (Sta sta) (Ap a) o h g listed peer left has.stands; keeps = has.keeps }

attempt_grown : {S : Node → Type 0} (d e : Domain) (sta : ℕ) (o : Option Attempt) (h : List Act) → Alike d e S → S (Sta sta) → ((q : Node) → associated h ≡ Some q → S q) → HasAttempt d (Sta sta) o h → HasAttempt e (Sta sta) o h
attempt_grown d e sta None h g listed left has = tt
attempt_grown d e sta (Some a) h g listed left has = (listed_grown d e (Ap a.ap) g has.0, association_grown d e sta a.ap a.association h g listed (g.aps a.ap has.0) left has.1)

session_grown : {S : Node → Type 0} (d e : Domain) (sta : ℕ) (o : Option Session) (h : List Act) → Alike d e S → S (Sta sta) → HasSession d (Sta sta) o h → HasSession e (Sta sta) o h
session_grown d e sta None h g listed has = tt
session_grown d e sta (Some x) h g listed has = record {
  listed = listed_grown d e (Ap x.ap) g has.listed;
  stands = supplicant_grown d e (Sta sta) (Ap x.ap) x.supplicant h g listed (g.aps x.ap has.listed) has.stands;
  keyed = has.keyed;
}

-- of the access point of the session the network tells the same
session_same : {S : Node → Type 0} (d e : Domain) (sta : ℕ) (o : Option Session) (h : List Act) (q : Node) → Alike d e S → HasSession d (Sta sta) o h → peer_of_session o ≡ Some q → S q
session_same d e sta None h q g has is = absurd (cc is)
session_same {S} d e sta (Some x) h q g has is = subst S (same x q is) (g.aps x.ap has.listed)
  where
    same : (x : Session) (q : Node) → peer_of_session (Some x) ≡ Some q → Ap x.ap ≡ q
    same x q is = cc

alike : {S : Node → Type 0} (d e : Domain) (first : ℕ) (s : State) (h : List Act) → Alike d e S → S (Sta s.number) → Stands d first s h → Stands e first s h
alike d e first s h g listed st = record {
  draws_are = st.draws_are;
  pending_is = st.pending_is;
  associated_is = st.associated_is;
  alone = st.alone;
  attempt_is = attempt_grown d e s.number s.attempt h g listed (λ q is. session_same d e s.number s.session h q g st.session_is (sym st.associated_is ∙ is)) st.attempt_is;
  session_is = session_grown d e s.number s.session h g listed st.session_is;
  no_attempt = st.no_attempt;
  no_session = st.no_session;
  remembers = st.remembers;
  ids = st.ids;
  holder = λ suite. st.holder (sym g.akm ∙ suite);
}

pub grown : (d e : Domain) (first : ℕ) (s : State) (h : List Act) → Grows d e → s.number < length d.stas → Stands d first s h → Stands e first s h
grown d e first s h g listed st = alike d e first s h (grows_alike d e g) listed st

-- and as keys of other stations change
pub rekeyed : (d e : Domain) (first : ℕ) (s : State) (h : List Act) → Rekeys d e (λ k. k ≡ s.number) → s.number < length d.stas → Stands d first s h → Stands e first s h
rekeyed d e first s h r listed st = alike d e first s h (rekeys_alike d e (λ (k : ℕ). k ≡ s.number) r) refl st
