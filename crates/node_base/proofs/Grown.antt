-- What is said of nodes of a network is said of them in another that tells the same of them: one that has grown, or in
-- which keys of other stations are changed.
use Rattle.std.proofs.Common.{◌≡◌, ℕ, zero, suc, ◌<◌, false, List, [], ◌∷◌, ◌++◌, length, Option, refl, sym, ap, ◌∙◌, arith, length-append}
use Rattle.std.specs.Prelude.{slice_get, option_map, unwrap_or}
use Rattle.domain_base.specs.declared.names.Akm.{Akm}
use Rattle.domain_base.specs.declared.names.Akm.TheVariants.{Psk, PskSha256, FtPsk}
use Rattle.domain_base.specs.declared.names.Mac.{Mac}
use Rattle.domain_base.specs.declared.names.Node.{Node}
use Rattle.domain_base.specs.declared.names.Node.TheVariants.{Ap, Sta}
use Rattle.key_hierarchy.specs.declared.inputs.Inputs.{Inputs}
use Rattle.run_journal.specs.declared.domain.Domain.{Domain}
use Rattle.run_journal.specs.declared.domain.Extras.{Extras}
use Rattle.run_journal.specs.declared.domain.ListedAp.{ListedAp}
use Rattle.run_journal.specs.declared.domain.ListedSta.{ListedSta}
use Rattle.run_journal.specs.declared.reply.Keyed.{Keyed}
use Rattle.run_journal.specs.Changed.{is_named, changed}
use Rattle.run_journal.specs.Events.{IsListed}
use Rattle.domain_rules.specs.Network.{mac, psk_of, r0kh_id, station_of, Root, root_by, root_at, inputs, inputs_at}
use Rattle.domain_rules.specs.Replies.{inputs_by, key_by}
use Rattle.domain_rules.proofs.ChangedNetwork.{length_rekeyed, mac_changed, same_psk}
use Rattle.node_base.specs.declared.ends.Ends.{Ends}
use Rattle.node_base.specs.Changing.{Rekeys}
use Rattle.node_base.specs.Growing.{Grows}
use Rattle.node_base.specs.Ends.{AreEnds}
use Rattle.node_base.specs.PairwiseKeys.{pmk_by, pmk_of}

-- two networks with one header tell the same of these nodes, and have what the one has listed
pub record Alike (d e : Domain) (IsSame : Node → Type 0) : Type 0 where
  pub seed : e.seed ≡ d.seed
  pub ssid : e.ssid ≡ d.ssid
  pub akm : e.akm ≡ d.akm
  pub mdid : e.mdid ≡ d.mdid
  pub extras : e.extras ≡ d.extras
  pub macs : (n : Node) → IsSame n → mac e n ≡ mac d n
  pub ids : (n : Node) → IsSame n → r0kh_id e n ≡ r0kh_id d n
  pub psks : (n : Node) → IsSame n → psk_of e n ≡ psk_of d n
  pub aps : (k : ℕ) → IsListed d (Ap k) → IsSame (Ap k)
  pub listed : (n : Node) → IsListed d n → IsListed e n

-- ---- a network that grows

-- what stands in front of more stays
get_front : {X : Type 0} (xs ys : List X) (i : ℕ) → i < length xs → slice_get (xs ++ ys) i ≡ slice_get xs i
get_front [] ys i low = absurd (omega (arith, low))
get_front (x ∷ xs) ys zero low = refl
get_front (x ∷ xs) ys (suc i) low = get_front xs ys i (omega (arith, low))

mac_more : (d e : Domain) (n : Node) → Grows d e → IsListed d n → mac e n ≡ mac d n
mac_more d e (Ap k) g listed =
    ap (λ (l : List ListedAp). unwrap_or (option_map (λ (a : ListedAp). a.address) (slice_get l k)) (record { 0 = [] })) g.aps
    ∙ ap (λ (o : Option ListedAp). unwrap_or (option_map (λ (a : ListedAp). a.address) o) (record { 0 = [] })) (get_front d.aps g.more_aps k listed)
mac_more d e (Sta k) g listed =
    ap (λ (l : List ListedSta). unwrap_or (option_map (λ (s : ListedSta). s.address) (slice_get l k)) (record { 0 = [] })) g.stas
    ∙ ap (λ (o : Option ListedSta). unwrap_or (option_map (λ (s : ListedSta). s.address) o) (record { 0 = [] })) (get_front d.stas g.more_stas k listed)

listed_more : (d e : Domain) (n : Node) → Grows d e → IsListed d n → IsListed e n
listed_more d e (Ap k) g listed = omega (arith, listed, ap (λ (l : List ListedAp). length l) g.aps, length-append d.aps g.more_aps)
listed_more d e (Sta k) g listed = omega (arith, listed, ap (λ (l : List ListedSta). length l) g.stas, length-append d.stas g.more_stas)

id_more : (d e : Domain) (n : Node) → Grows d e → IsListed d n → r0kh_id e n ≡ r0kh_id d n
id_more d e (Ap k) g listed =
    ap (λ (l : List ListedAp). unwrap_or (option_map (λ (a : ListedAp). a.r0kh_id) (slice_get l k)) []) g.aps
    ∙ ap (λ (o : Option ListedAp). unwrap_or (option_map (λ (a : ListedAp). a.r0kh_id) o) []) (get_front d.aps g.more_aps k listed)
id_more d e (Sta k) g listed = refl

psk_more : (d e : Domain) (n : Node) → Grows d e → IsListed d n → psk_of e n ≡ psk_of d n
psk_more d e (Ap k) g listed = refl
psk_more d e (Sta k) g listed =
    ap (λ (l : List ListedSta). unwrap_or (option_map (λ (s : ListedSta). s.psk) (slice_get l k)) []) g.stas
    ∙ ap (λ (o : Option ListedSta). unwrap_or (option_map (λ (s : ListedSta). s.psk) o) []) (get_front d.stas g.more_stas k listed)

-- it tells the same of the nodes that were listed
pub grows_alike : (d e : Domain) → Grows d e → Alike d e (IsListed d)
grows_alike d e g = record {
  seed = g.seed;
  ssid = g.ssid;
  akm = g.akm;
  mdid = g.mdid;
  extras = g.extras;
  macs = λ n listed. mac_more d e n g listed;
  ids = λ n listed. id_more d e n g listed;
  psks = λ n listed. psk_more d e n g listed;
  aps = λ k listed. listed;
  listed = λ n listed. listed_more d e n g listed;
}

-- ---- a network in which keys are changed

-- the nodes of which it tells the same: access points, and stations with the same key
abbrev pub AreSame : (ℕ → Type 0) → Node → Type 0
AreSame IsSame (Ap k) = Unit {0}
AreSame IsSame (Sta k) = IsSame k

pub rekeys_alike : (d e : Domain) (IsSame : ℕ → Type 0) → Rekeys d e IsSame → Alike d e (AreSame IsSame)
rekeys_alike d e IsSame r = record {
  seed = r.seed;
  ssid = r.ssid;
  akm = r.akm;
  mdid = r.mdid;
  extras = r.extras;
  macs = macs_same;
  ids = ids_same;
  psks = psks_same;
  aps = λ k listed. tt;
  listed = listed_same;
}
  where
    macs_same : (n : Node) → AreSame IsSame n → mac e n ≡ mac d n
    macs_same (Ap k) same = ap (λ (l : List ListedAp). unwrap_or (option_map (λ (a : ListedAp). a.address) (slice_get l k)) (record { 0 = [] })) r.aps
    macs_same (Sta k) same = r.macs k

    ids_same : (n : Node) → AreSame IsSame n → r0kh_id e n ≡ r0kh_id d n
    ids_same (Ap k) same = ap (λ (l : List ListedAp). unwrap_or (option_map (λ (a : ListedAp). a.r0kh_id) (slice_get l k)) []) r.aps
    ids_same (Sta k) same = refl

    psks_same : (n : Node) → AreSame IsSame n → psk_of e n ≡ psk_of d n
    psks_same (Ap k) same = refl
    psks_same (Sta k) same = r.keys k same

    listed_same : (n : Node) → IsListed d n → IsListed e n
    listed_same (Ap k) listed = omega (arith, listed, ap (λ (l : List ListedAp). length l) r.aps)
    listed_same (Sta k) listed = omega (arith, listed, r.count)

-- the network with the changed key is such: the others have the same key
pub changed_rekeys : (d : Domain) (named : Option ℕ) (psk : List ℕ) → Rekeys d (changed d named psk) (λ k. is_named named k ≡ false)
changed_rekeys d named psk = record {
  seed = refl;
  ssid = refl;
  akm = refl;
  mdid = refl;
  extras = refl;
  aps = refl;
  count = length_rekeyed named psk 0 d.stas;
  macs = λ k. mac_changed named psk d (Sta k);
  keys = λ k other. same_psk named psk d k other;
}

-- ---- nodes of which they tell the same

-- a node has its address still
pub mac_grown : {S : Node → Type 0} (d e : Domain) (n : Node) → Alike d e S → S n → mac e n ≡ mac d n
mac_grown d e n g same = g.macs n same

pub ends_grown : {S : Node → Type 0} (d e : Domain) (n p : Node) (l : Ends) → Alike d e S → S n → S p → AreEnds d n p l → AreEnds e n p l
ends_grown d e n p l g here there ends = record {
  akm = ends.akm ∙ sym g.akm;
  direction_is = ends.direction_is;
  own = ends.own ∙ sym (mac_grown d e n g here);
  peer = ends.peer ∙ sym (mac_grown d e p g there);
  version = ends.version ∙ sym (ap (λ (x : Extras). x.version) g.extras);
  mfp_is = ends.mfp_is ∙ sym (ap (λ (x : Extras). x.mfp) g.extras);
}

-- listed nodes are listed still
pub listed_grown : {S : Node → Type 0} (d e : Domain) (n : Node) → Alike d e S → IsListed d n → IsListed e n
listed_grown d e n g listed = g.listed n listed

-- ---- what keys go back to

pub r0kh_id_grown : {S : Node → Type 0} (d e : Domain) (n : Node) → Alike d e S → S n → r0kh_id e n ≡ r0kh_id d n
r0kh_id_grown d e n g same = g.ids n same

pub psk_grown : {S : Node → Type 0} (d e : Domain) (n : Node) → Alike d e S → S n → psk_of e n ≡ psk_of d n
psk_grown d e n g same = g.psks n same

root_by_grown : {S : Node → Type 0} (akm : Akm) (d e : Domain) (s : Node) (id : List ℕ) → Alike d e S → S s → root_by akm e s id ≡ root_by akm d s id
root_by_grown Psk d e s id g listed = rw (psk_grown d e s g listed) refl
root_by_grown PskSha256 d e s id g listed = rw (psk_grown d e s g listed) refl
root_by_grown FtPsk d e s id g listed = rw (psk_grown d e s g listed, g.mdid) refl

pub root_grown : {S : Node → Type 0} (d e : Domain) (s : Node) (id : List ℕ) → Alike d e S → S s → root_at e s id ≡ root_at d s id
root_grown d e s id g listed = ap (λ (akm : Akm). root_by akm e s id) g.akm ∙ root_by_grown d.akm d e s id g listed

-- ---- the keys of two listed nodes

pub inputs_of_grown : {S : Node → Type 0} (d e : Domain) (r : Root) (n p : Node) (own other : List ℕ) → Alike d e S → S n → S p → inputs e r n p own other ≡ inputs d r n p own other
inputs_of_grown d e r (Ap k) p own other g listed peer = rw (g.akm, g.ssid, mac_grown d e (Ap k) g listed, mac_grown d e p g peer) refl
inputs_of_grown d e r (Sta k) p own other g listed peer = rw (g.akm, g.ssid, mac_grown d e (Sta k) g listed, mac_grown d e p g peer) refl

same_station : (S : Node → Type 0) (n p : Node) → S n → S p → S (station_of n p)
same_station S (Ap k) p here there = there
same_station S (Sta k) p here there = here

pub inputs_at_grown : {S : Node → Type 0} (d e : Domain) (n p : Node) (id own other : List ℕ) → Alike d e S → S n → S p → inputs_at e n p id own other ≡ inputs_at d n p id own other
inputs_at_grown {S} d e n p id own other g listed peer =
    ap (λ (r : Root). inputs e r n p own other) (root_grown d e (station_of n p) id g (same_station S n p listed peer))
    ∙ inputs_of_grown d e (root_at d (station_of n p) id) n p own other g listed peer

pub inputs_by_grown : {S : Node → Type 0} (d e : Domain) (n p : Node) (id : List ℕ) (y : Keyed) → Alike d e S → S n → S p → inputs_by e (root_at e (station_of n p) id) n p y ≡ inputs_by d (root_at d (station_of n p) id) n p y
inputs_by_grown d e (Ap k) p id y g listed peer = inputs_at_grown d e (Ap k) p id y.anonce y.snonce g listed peer
inputs_by_grown d e (Sta k) p id y g listed peer = inputs_at_grown d e (Sta k) p id y.snonce y.anonce g listed peer

pub key_grown : {S : Node → Type 0} (d e : Domain) (n p : Node) (id : List ℕ) (y : Keyed) → Alike d e S → S n → S p → key_by d (root_at d (station_of n p) id) n p y ≡ key_by e (root_at e (station_of n p) id) n p y
key_grown d e n p id y g listed peer = ap (λ (i : Inputs). record { inputs = i; ptk = y.ptk }) (sym (inputs_by_grown d e n p id y g listed peer))

pmk_by_grown : {S : Node → Type 0} (akm : Akm) (d e : Domain) (r : Root) (aa spa : Mac) → Alike d e S → pmk_by akm e r aa spa ≡ pmk_by akm d r aa spa
pmk_by_grown Psk d e r aa spa g = refl
pmk_by_grown PskSha256 d e r aa spa g = refl
pmk_by_grown FtPsk d e r aa spa g = rw (g.ssid) refl

pmk_of_grown : {S : Node → Type 0} (d e : Domain) (r : Root) (aa spa : Node) → Alike d e S → S aa → S spa → pmk_by e.akm e r (mac e aa) (mac e spa) ≡ pmk_by d.akm d r (mac d aa) (mac d spa)
pmk_of_grown d e r aa spa g ap_listed sta_listed =
    ap (λ (akm : Akm). pmk_by akm e r (mac e aa) (mac e spa)) g.akm
    ∙ ap (λ (m : Mac). pmk_by d.akm e r m (mac e spa)) (mac_grown d e aa g ap_listed)
    ∙ ap (λ (m : Mac). pmk_by d.akm e r (mac d aa) m) (mac_grown d e spa g sta_listed)
    ∙ pmk_by_grown d.akm d e r (mac d aa) (mac d spa) g

pub pmk_grown : {S : Node → Type 0} (d e : Domain) (n p : Node) (id : List ℕ) → Alike d e S → S n → S p → pmk_of e (root_at e (station_of n p) id) n p ≡ pmk_of d (root_at d (station_of n p) id) n p
pmk_grown d e (Ap k) p id g listed peer = ap (λ (r : Root). pmk_of e r (Ap k) p) (root_grown d e p id g peer) ∙ pmk_of_grown d e (root_at d p id) (Ap k) p g listed peer
pmk_grown d e (Sta k) p id g listed peer = ap (λ (r : Root). pmk_of e r (Sta k) p) (root_grown d e (Sta k) id g listed) ∙ pmk_of_grown d e (root_at d (Sta k) id) p (Sta k) g peer listed
