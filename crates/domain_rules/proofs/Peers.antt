-- Addresses and the nodes that have them.
use Rattle.std.proofs.Common.{◌≡◌, ◌≢◌, inl, inr, ℕ, zero, suc, ◌<◌, Bool, true, false, cond, ltb, List, [], ◌∷◌, length, get_or, Option, Some, None, refl, sym, ap, subst, ◌∙◌, arith}
use Rattle.std.specs.Prelude.{not, unwrap_or, option_map, bytes_eq}
use Rattle.std.specs.List.{AllByRecursion, position, position_or_len}
use Rattle.std.proofs.lemmas.Bool.{lt-ltb, ltb-true, cases_Bool}
use Rattle.std.proofs.lemmas.List.Sums.{passes_at_first, position_or_len_is}
use Rattle.std.proofs.lemmas.Option.{slice_get-get_or}
use Rattle.std.proofs.lemmas.Slice.Eq.{bytes_eq-Decides}
use Rattle.domain_base.specs.Octets.{AreOctets}
use Rattle.domain_base.specs.declared.names.Node.{Node}
use Rattle.domain_base.specs.declared.names.Node.TheVariants.{Ap, Sta}
use Rattle.air_frame.specs.Sent.{IsAddress}
use Rattle.run_journal.specs.declared.domain.Domain.{Domain}
use Rattle.run_journal.specs.declared.domain.ListedAp.{ListedAp}
use Rattle.run_journal.specs.declared.domain.ListedSta.{ListedSta}
use Rattle.domain_rules.specs.Network.{address, peer_of, is_ap, AreAps, AreStas, IsUnicast, IsNamed, InForm}
use Rattle.run_journal.specs.Events.{IsListed}

-- ---- the first that passes

found_by : {A : Type 0} (test : A → Bool) (xs : List A) (i : ℕ) (b : Bool) → ltb (position_or_len test xs) (length xs) ≡ b → cond b (Some (position_or_len test xs)) None ≡ Some i
    → (i < length xs) × ((d : A) → test (get_or xs i d) ≡ true)
found_by test xs i true within s =
    let here : position_or_len test xs ≡ i = cc s in
    let low : position_or_len test xs < length xs = ltb-true (position_or_len test xs) (length xs) within in
    (subst (λ (k : ℕ). k < length xs) here low, λ d. subst (λ (k : ℕ). test (get_or xs k d) ≡ true) here (passes_at_first test xs d low))
found_by test xs i false within s = absurd (cc s)

pub found : {A : Type 0} (test : A → Bool) (xs : List A) (i : ℕ) → position test xs ≡ Some i → (i < length xs) × ((d : A) → test (get_or xs i d) ≡ true)
found test xs i s = found_by test xs i (ltb (position_or_len test xs) (length xs)) refl s

finds : {A : Type 0} (test : A → Bool) (xs : List A) (i : ℕ) (d : A) → i < length xs → ((k : ℕ) → k < i → test (get_or xs k d) ≡ false) → test (get_or xs i d) ≡ true → position test xs ≡ Some i
finds test xs i d low none here =
    let place : position_or_len test xs ≡ i = position_or_len_is test xs i d (omega arith) none (λ h. here) in
    rw (place, lt-ltb i (length xs) low) refl

-- ---- the address of a listed node

no_sta : ListedSta
no_sta = record { address = record { 0 = [] }; psk = [] }

no_ap : ListedAp
no_ap = record { address = record { 0 = [] }; r0kh_id = [] }

pub ap_address : (d : Domain) (k : ℕ) → k < length d.aps → (e : ListedAp) → address d (Ap k) ≡ (get_or d.aps k e).address.0
ap_address d k low e = ap (λ (o : Option ListedAp). (unwrap_or (option_map (λ (a : ListedAp). a.address) o) (record { 0 = [] })).0) (slice_get-get_or d.aps k e low)

pub sta_address : (d : Domain) (k : ℕ) → k < length d.stas → (e : ListedSta) → address d (Sta k) ≡ (get_or d.stas k e).address.0
sta_address d k low e = ap (λ (o : Option ListedSta). (unwrap_or (option_map (λ (s : ListedSta). s.address) o) (record { 0 = [] })).0) (slice_get-get_or d.stas k e low)

-- what all have the one at a place has
pub all_at : {A : Type 0} (P : A → Type 0) (xs : List A) (k : ℕ) (d : A) → AllByRecursion P xs → k < length xs → P (get_or xs k d)
all_at P [] k d all low = absurd (omega arith)
all_at P (x ∷ xs) zero d all low = all.0
all_at P (x ∷ xs) (suc k) d all low = all_at P xs k d all.1 (omega arith)

-- has six octets where all have
pub listed-address : (d : Domain) (n : Node) → AllByRecursion (λ (a : ListedAp). IsAddress a.address.0) d.aps → AllByRecursion (λ (s : ListedSta). IsAddress s.address.0) d.stas → IsListed d n → IsAddress (address d n)
listed-address d (Ap k) aps stas low = subst (λ (x : List ℕ). IsAddress x) (sym (ap_address d k low no_ap)) (all_at (λ (a : ListedAp). IsAddress a.address.0) d.aps k no_ap aps low)
listed-address d (Sta k) aps stas low = subst (λ (x : List ℕ). IsAddress x) (sym (sta_address d k low no_sta)) (all_at (λ (s : ListedSta). IsAddress s.address.0) d.stas k no_sta stas low)

-- is of octets where all are
pub listed-octets : (d : Domain) (n : Node) → AllByRecursion (λ (a : ListedAp). AreOctets a.address.0) d.aps → AllByRecursion (λ (s : ListedSta). AreOctets s.address.0) d.stas → IsListed d n → AreOctets (address d n)
listed-octets d (Ap k) aps stas low = subst (λ (x : List ℕ). AreOctets x) (sym (ap_address d k low no_ap)) (all_at (λ (a : ListedAp). AreOctets a.address.0) d.aps k no_ap aps low)
listed-octets d (Sta k) aps stas low = subst (λ (x : List ℕ). AreOctets x) (sym (sta_address d k low no_sta)) (all_at (λ (s : ListedSta). AreOctets s.address.0) d.stas k no_sta stas low)

-- a station's is that of one node
sta_unicast : (aps : List ListedAp) (stas : List ListedSta) (k : ℕ) → AreStas aps stas → k < length stas → IsUnicast (get_or stas k no_sta).address.0
sta_unicast aps [] k are low = absurd (omega (arith, low))
sta_unicast aps (m ∷ stas) zero are low = are.0
sta_unicast aps (m ∷ stas) (suc k) are low = sta_unicast aps stas k are.2 (omega (arith, low))

pub listed-unicast : (d : Domain) (k : ℕ) → InForm d → k < length d.stas → IsUnicast (address d (Sta k))
listed-unicast d k form low = subst IsUnicast (sym (sta_address d k low no_sta)) (sta_unicast d.aps d.stas k form.stas low)

-- ---- the node that has an address

pub record IsPeer (d : Domain) (n p : Node) (octets : List ℕ) : Type 0 where
  pub listed : IsListed d p
  pub has : address d p ≡ octets
  pub other : is_ap p ≡ not (is_ap n)

sta_peer : (d : Domain) (k : ℕ) (octets : List ℕ) (p : Node) (o : Option ℕ) → position (λ (s : ListedSta). bytes_eq s.address.0 octets) d.stas ≡ o → option_map (λ i. Sta i) o ≡ Some p → IsPeer d (Ap k) p octets
sta_peer d k octets p None is s = cc
sta_peer d k octets p (Some i) is s =
    let here = found (λ (s : ListedSta). bytes_eq s.address.0 octets) d.stas i is in
    let same : Sta i ≡ p = cc s in
    subst (λ (x : Node). IsPeer d (Ap k) x octets) same (record {
      listed = here.0;
      has = sta_address d i here.0 no_sta ∙ (bytes_eq-Decides (get_or d.stas i no_sta).address.0 octets).0 (here.1 no_sta);
      other = refl;
    })

ap_peer : (d : Domain) (k : ℕ) (octets : List ℕ) (p : Node) (o : Option ℕ) → position (λ (a : ListedAp). bytes_eq a.address.0 octets) d.aps ≡ o → option_map (λ i. Ap i) o ≡ Some p → IsPeer d (Sta k) p octets
ap_peer d k octets p None is s = cc
ap_peer d k octets p (Some i) is s =
    let here = found (λ (a : ListedAp). bytes_eq a.address.0 octets) d.aps i is in
    let same : Ap i ≡ p = cc s in
    subst (λ (x : Node). IsPeer d (Sta k) x octets) same (record {
      listed = here.0;
      has = ap_address d i here.0 no_ap ∙ (bytes_eq-Decides (get_or d.aps i no_ap).address.0 octets).0 (here.1 no_ap);
      other = refl;
    })

pub peer_is : (d : Domain) (n p : Node) (octets : List ℕ) → peer_of d n octets ≡ Some p → IsPeer d n p octets
peer_is d (Ap k) p octets s = sta_peer d k octets p (position (λ (s : ListedSta). bytes_eq s.address.0 octets) d.stas) refl s
peer_is d (Sta k) p octets s = ap_peer d k octets p (position (λ (a : ListedAp). bytes_eq a.address.0 octets) d.aps) refl s

-- ---- a listed node is found by its address

pub named : (d : Domain) → InForm d → IsNamed d
named d form = record { aps = form.aps; stas = form.stas }

pub not_same : (xs ys : List ℕ) → xs ≢ ys → bytes_eq xs ys ≡ false
not_same xs ys other = elim (cases_Bool (bytes_eq xs ys)) [ inl is ↦ absurd (other ((bytes_eq-Decides xs ys).0 is)) | inr none ↦ none ]

stas_differ : (aps : List ListedAp) (stas : List ListedSta) → AreStas aps stas → (k i : ℕ) (d : ListedSta) → k < i → i < length stas → (get_or stas k d).address.0 ≢ (get_or stas i d).address.0
stas_differ aps [] are k i d before low = absurd (omega arith)
stas_differ aps (s ∷ stas) are zero zero d before low = absurd (omega arith)
stas_differ aps (s ∷ stas) are zero (suc i) d before low =
    λ same. all_at (λ (x : ListedSta). x.address ≢ s.address) stas i d are.1.no_sta (omega arith) (ap (λ (x : List ℕ). record { 0 = x }) (sym same))
stas_differ aps (s ∷ stas) are (suc k) zero d before low = absurd (omega arith)
stas_differ aps (s ∷ stas) are (suc k) (suc i) d before low = stas_differ aps stas are.2 k i d (omega arith) (omega arith)

aps_differ : (aps : List ListedAp) → AreAps aps → (k i : ℕ) (d : ListedAp) → k < i → i < length aps → (get_or aps k d).address.0 ≢ (get_or aps i d).address.0
aps_differ [] are k i d before low = absurd (omega arith)
aps_differ (a ∷ aps) are zero zero d before low = absurd (omega arith)
aps_differ (a ∷ aps) are zero (suc i) d before low =
    λ same. all_at (λ (x : ListedAp). x.address ≢ a.address) aps i d are.3 (omega arith) (ap (λ (x : List ℕ). record { 0 = x }) (sym same))
aps_differ (a ∷ aps) are (suc k) zero d before low = absurd (omega arith)
aps_differ (a ∷ aps) are (suc k) (suc i) d before low = aps_differ aps are.5 k i d (omega arith) (omega arith)

pub finds-sta : (d : Domain) (a k : ℕ) → IsNamed d → k < length d.stas → peer_of d (Ap a) (address d (Sta k)) ≡ Some (Sta k)
finds-sta d a k names low =
    ap (option_map (λ i. Sta i))
    (finds (λ (s : ListedSta). bytes_eq s.address.0 (address d (Sta k))) d.stas k no_sta low
    (λ i before. rw (sta_address d k low no_sta) (not_same (get_or d.stas i no_sta).address.0 (get_or d.stas k no_sta).address.0 (stas_differ d.aps d.stas names.stas i k no_sta before low)))
    ((bytes_eq-Decides (get_or d.stas k no_sta).address.0 (address d (Sta k))).1 (sym (sta_address d k low no_sta))))

pub finds-ap : (d : Domain) (s k : ℕ) → IsNamed d → k < length d.aps → peer_of d (Sta s) (address d (Ap k)) ≡ Some (Ap k)
finds-ap d s k names low =
    ap (option_map (λ i. Ap i))
    (finds (λ (a : ListedAp). bytes_eq a.address.0 (address d (Ap k))) d.aps k no_ap low
    (λ i before. rw (ap_address d k low no_ap) (not_same (get_or d.aps i no_ap).address.0 (get_or d.aps k no_ap).address.0 (aps_differ d.aps names.aps i k no_ap before low)))
    ((bytes_eq-Decides (get_or d.aps k no_ap).address.0 (address d (Ap k))).1 (sym (ap_address d k low no_ap))))
