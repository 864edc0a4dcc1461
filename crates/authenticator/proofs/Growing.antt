-- The network grows, or keys of other stations change: an authenticator of it stands for the same histories.
use Rattle.std.proofs.Common.{◌≡◌, ℕ, List, [], ◌++◌, Option, Some, None, sym, ap, subst, ◌∙◌}
use Rattle.domain_base.specs.declared.names.Akm.{Akm}
use Rattle.domain_base.specs.declared.names.Akm.TheVariants.{Psk, PskSha256, FtPsk}
use Rattle.domain_base.specs.declared.names.Mac.{Mac}
use Rattle.domain_base.specs.declared.names.Node.{Node}
use Rattle.run_journal.specs.declared.domain.Domain.{Domain}
use Rattle.run_journal.specs.declared.acts.Act.{Act}
use Rattle.run_journal.specs.declared.reply.Keyed.{Keyed}
use Rattle.run_journal.specs.Acts.{Derivation}
use Rattle.rsn_elements.specs.Sent.{mde_octets, fte_octets}
use Rattle.rsn_elements.specs.Transition.{FteFields}
use Rattle.eapol_key.specs.KeyData.{padded}
use Rattle.domain_rules.specs.FastTransition.{r1_name, no_nonce, plain_fte, assoc_fte}
use Rattle.domain_rules.specs.Frames.{timeouts, m3_key_data_by, m3_key_data, group_kdes}
use Rattle.domain_rules.specs.Network.{address, r0kh_id, root_at, station_of, inputs_at}
use Rattle.authenticator.specs.declared.base.Base.{Base}
use Rattle.authenticator.specs.Bases.{home, own_pair, IsBaseOf}
use Rattle.domain_rules.specs.AccessPointKeys.{HasRsne, request}
use Rattle.domain_rules.specs.Replies.{key_by}
use Rattle.domain_rules.specs.GroupKeys.{News}
use Rattle.domain_rules.specs.Suites.{network_rsne}
use Rattle.group_key.specs.News.{carried_news}
use Rattle.group_key.proofs.Newest.{newest_in}
use Rattle.frame_making.specs.KeyData.{rsne_by}
use Rattle.run_journal.specs.Events.{protects}
use Rattle.run_journal.specs.declared.domain.Extras.{Extras}
use Rattle.frame_making.proofs.Growing.{mobility_grown}
use Rattle.node_base.specs.PairwiseKeys.{pmk_of}
use Rattle.node_base.proofs.Grown.{Alike, mac_grown, ends_grown, r0kh_id_grown, inputs_at_grown, key_grown, pmk_grown}
use Rattle.authenticator.specs.Agreed.{Agreed}
use Rattle.authenticator.specs.Associated.{Associated}
use Rattle.authenticator.specs.State.{State}
use Rattle.authenticator.specs.Stands.{IsAgreed, IsAssociationOf, IsAssociated, session_request, HasAttempt, HasSession, AuthenticatorStands}
use Rattle.authenticator.specs.declared.attempt.Attempt.{Attempt}
use Rattle.authenticator.specs.declared.counters.Offers.{Offers}
use Rattle.authenticator.specs.declared.session.Session.{Session}

home_key_grown : {S : Node → Type 0} (d e : Domain) (n p : Node) (y : Keyed) → Alike d e S → S n → S p → key_by d (home d n p) n p y ≡ key_by e (home e n p) n p y
home_key_grown d e n p y g here there =
    key_grown d e n p (r0kh_id d n) y g here there ∙ ap (λ (id : List ℕ). key_by e (root_at e (station_of n p) id) n p y) (sym (r0kh_id_grown d e n g here))

fte_grown : {S : Node → Type 0} (d e : Domain) (n : Node) → Alike d e S → S n → assoc_fte e n ≡ assoc_fte d n
fte_grown d e n g here =
    ap (λ (m : Mac). plain_fte no_nonce no_nonce (Some m.0) (r0kh_id e n)) (mac_grown d e n g here)
    ∙ ap (λ (id : List ℕ). plain_fte no_nonce no_nonce (Some (address d n)) id) (r0kh_id_grown d e n g here)

rsne_grown : {S : Node → Type 0} (d e : Domain) (name : Option (List ℕ)) → Alike d e S → network_rsne e name ≡ network_rsne d name
rsne_grown d e name g =
    ap (λ (x : Extras). rsne_by x.mfp e.akm name) g.extras ∙ ap (λ (akm : Akm). rsne_by (protects d) akm name) g.akm

data_by_grown : {S : Node → Type 0} (akm : Akm) (d e : Domain) (n : Node) (x : Derivation) (k : News) → Alike d e S → S n → m3_key_data_by akm e n x k ≡ m3_key_data_by akm d n x k
data_by_grown Psk d e n x k g here = ap (λ (r : List ℕ). padded (r ++ group_kdes k)) (rsne_grown d e None g)
data_by_grown PskSha256 d e n x k g here = ap (λ (r : List ℕ). padded (r ++ group_kdes k)) (rsne_grown d e None g)
data_by_grown FtPsk d e n x k g here =
    ap (λ (r : List ℕ). padded (r ++ mde_octets e.mdid ++ group_kdes k ++ fte_octets (assoc_fte e n) ++ timeouts)) (rsne_grown d e (Some (r1_name x.inputs)) g)
    ∙ ap (λ (mdid : List ℕ). padded (network_rsne d (Some (r1_name x.inputs)) ++ mde_octets mdid ++ group_kdes k ++ fte_octets (assoc_fte e n) ++ timeouts)) g.mdid
    ∙ ap (λ (f : FteFields). padded (network_rsne d (Some (r1_name x.inputs)) ++ mde_octets d.mdid ++ group_kdes k ++ fte_octets f ++ timeouts)) (fte_grown d e n g here)

data_grown : {S : Node → Type 0} (d e : Domain) (n : Node) (x : Derivation) (k : News) → Alike d e S → S n → m3_key_data e n x k ≡ m3_key_data d n x k
data_grown d e n x k g here = ap (λ (akm : Akm). m3_key_data_by akm e n x k) g.akm ∙ data_by_grown d.akm d e n x k g here

agreed_grown : {S : Node → Type 0} (d e : Domain) (n p : Node) (o : Option Agreed) (m3s : Offers) (part h : List Act) → Alike d e S → S n → S p → IsAgreed (own_pair d n p) o m3s part h → IsAgreed (own_pair e n p) o m3s part h
agreed_grown d e n p None m3s part h g here there at = at
agreed_grown d e n p (Some y) m3s part h g here there at = (
  at.0 ∙ ap (λ (x : Derivation). Some x) (home_key_grown d e n p y.key g here there),
  record { past = at.1.past; is = at.1.is; newest = newest_in d e y.news at.1.past (ap (λ (x : Extras). x.mfp) g.extras) at.1.newest },
  at.2 ∙ ap (λ (x : Derivation). m3_key_data d n x (carried_news y.news)) (home_key_grown d e n p y.key g here there) ∙ sym (data_grown d e n (key_by e (home e n p) n p y.key) (carried_news y.news) g here),
)

home_pmk_grown : {S : Node → Type 0} (d e : Domain) (n p : Node) → Alike d e S → S n → S p → pmk_of e (home e n p) n p ≡ pmk_of d (home d n p) n p
home_pmk_grown d e n p g here there =
    ap (λ (id : List ℕ). pmk_of e (root_at e (station_of n p) id) n p) (r0kh_id_grown d e n g here) ∙ pmk_grown d e n p (r0kh_id d n) g here there

home_inputs_grown : {S : Node → Type 0} (d e : Domain) (n p : Node) → Alike d e S → S n → S p → inputs_at e n p (r0kh_id e n) [] [] ≡ inputs_at d n p (r0kh_id d n) [] []
home_inputs_grown d e n p g here there =
    ap (λ (id : List ℕ). inputs_at e n p id [] []) (r0kh_id_grown d e n g here) ∙ inputs_at_grown d e n p (r0kh_id d n) [] [] g here there

base_grown : {S : Node → Type 0} (d e : Domain) (n p : Node) (b : Base) → Alike d e S → S n → S p → IsBaseOf d n p b → IsBaseOf e n p b
base_grown d e n p b g here there at = record {
  pmk = at.pmk ∙ sym (home_pmk_grown d e n p g here there);
  mobility = mobility_grown d e (inputs_at d n p (r0kh_id d n) [] []) (inputs_at e n p (r0kh_id e n) [] []) (fte_octets (assoc_fte d n)) (fte_octets (assoc_fte e n)) b.mobility g (home_inputs_grown d e n p g here there)
      (ap fte_octets (fte_grown d e n g here)) at.mobility;
}

association_grown : {S : Node → Type 0} (d e : Domain) (n p : Node) (a : Associated) (o : Option (List ℕ)) → Alike d e S → S n → S p → IsAssociationOf d n p a o → IsAssociationOf e n p a o
association_grown d e n p a o g here there at = record {
  request = at.request;
  heard_last = at.heard_last;
  rsne = subst (λ (k : Akm). HasRsne k at.request (Some a.rsne)) (sym g.akm) at.rsne;
  base = base_grown d e n p a.base g here there at.base;
}

associated_grown : {S : Node → Type 0} (d e : Domain) (n p : Node) (a : Option Associated) (o : Option (List ℕ)) → Alike d e S → S n → S p → IsAssociated d n p a o → IsAssociated e n p a o
associated_grown d e n p None o g here there at = tt
associated_grown d e n p (Some a) o g here there at = association_grown d e n p a o g here there at

attempt_grown : {S : Node → Type 0} (d e : Domain) (n p : Node) (o : Option Attempt) (h : List Act) → Alike d e S → S n → S p → HasAttempt d n p o h → HasAttempt e n p o h
attempt_grown d e n p None h g here there at = at
attempt_grown d e n p (Some a) h g here there at = record {
  part = at.part;
  is = at.is;
  begun = at.begun;
  beside = at.beside;
  nonce = at.nonce;
  m1_offers = at.m1_offers;
  m3_offers = at.m3_offers;
  answered = at.answered;
  agreed = agreed_grown d e n p a.agreed a.m3s at.part h g here there at.agreed;
  associated = association_grown d e n p a.association (request p h) g here there at.associated;
}

session_grown : {S : Node → Type 0} (d e : Domain) (n p : Node) (o : Option Session) (h : List Act) → Alike d e S → S n → S p → HasSession d n p o h → HasSession e n p o h
session_grown d e n p None h g here there at = at
session_grown d e n p (Some s) h g here there at = record {
  x = at.x;
  is = at.is;
  key = at.key;
  counts = at.counts;
  associated = associated_grown d e n p s.association (session_request p h) g here there at.associated;
}

pub grown : {S : Node → Type 0} (d e : Domain) (n p : Node) (s : State) (h : List Act) → Alike d e S → S n → S p → AuthenticatorStands d n p s h → AuthenticatorStands e n p s h
grown d e n p s h g here there at = record {
  ends = ends_grown d e n p s.ends g here there at.ends;
  attempt_is = attempt_grown d e n p s.attempt h g here there at.attempt_is;
  session_is = session_grown d e n p s.session h g here there at.session_is;
}
