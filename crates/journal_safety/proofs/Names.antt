-- Addresses tell listed nodes apart, and what equal names of inputs say.
use Rattle.std.proofs.Common.{refl, ◌≡◌, ◌≢◌, ◌⊎◌, inl, inr, ℕ, zero, suc, ◌<◌, ◌≤◌, List, [], ◌∷◌, length, get_or, Option, Some, sym, ap, ◌∙◌, subst, arith}
use Rattle.std.specs.Prelude.{unwrap_or, option_map}
use Rattle.std.specs.Ordering.{nat_cmp}
use Rattle.std.specs.declared.cmp.Ordering.{Ordering}
use Rattle.std.specs.declared.cmp.Ordering.TheVariants.{Less, Equal, Greater}
use Rattle.std.specs.Cmp.Lexicographic.{slice_cmp}
use Rattle.std.proofs.lemmas.Bool.{cases_lt}
use Rattle.std.proofs.lemmas.Option.{slice_get_past}
use Rattle.domain_base.specs.declared.names.Akm.{Akm}
use Rattle.domain_base.specs.declared.names.Akm.TheVariants.{Psk, PskSha256, FtPsk}
use Rattle.domain_base.specs.declared.names.Node.{Node}
use Rattle.domain_base.specs.declared.names.Node.TheVariants.{Ap, Sta}
use Rattle.key_hierarchy.specs.declared.inputs.Inputs.{Inputs}
use Rattle.key_hierarchy.specs.Keys.{choose, lesser, greater}
use Rattle.run_journal.specs.declared.domain.Domain.{Domain}
use Rattle.run_journal.specs.declared.domain.ListedAp.{ListedAp}
use Rattle.run_journal.specs.declared.domain.ListedSta.{ListedSta}
use Rattle.run_journal.specs.Premises.{Name, name_by, name}
use Rattle.domain_rules.specs.Network.{address, peer_of, AreStas, IsNamed}
use Rattle.run_journal.specs.Events.{IsListed}
use Rattle.domain_rules.proofs.Peers.{ap_address, sta_address, finds-sta, finds-ap, all_at}

-- ---- addresses

no_sta : ListedSta
no_sta = record { address = record { 0 = [] }; psk = [] }

no_ap : ListedAp
no_ap = record { address = record { 0 = [] }; r0kh_id = [] }

kinds_differ : (aps : List ListedAp) (stas : List ListedSta) → AreStas aps stas → (k i : ℕ) → k < length aps → i < length stas → (get_or aps k no_ap).address.0 ≢ (get_or stas i no_sta).address.0
kinds_differ aps [] are k i low few = absurd (omega arith)
kinds_differ aps (s ∷ stas) are k zero low few = λ same. all_at (λ (a : ListedAp). a.address ≢ s.address) aps k no_ap are.1.no_ap low (ap (λ (x : List ℕ). record { 0 = x }) same)
kinds_differ aps (s ∷ stas) are k (suc i) low few = kinds_differ aps stas are.2 k i low (omega arith)

apart_kinds : (d : Domain) (k i : ℕ) → IsNamed d → k < length d.aps → i < length d.stas → address d (Ap k) ≡ address d (Sta i) → ⊥
apart_kinds d k i names low few same = kinds_differ d.aps d.stas names.stas k i low few (sym (ap_address d k low no_ap) ∙ same ∙ sta_address d i few no_sta)

-- listed nodes that are named
pub one_address : (d : Domain) (n m : Node) → IsNamed d → IsListed d n → IsListed d m → address d n ≡ address d m → n ≡ m
one_address d (Ap k) (Ap i) names l r same =
    let a = finds-ap d 0 k names l in
    let b = finds-ap d 0 i names r in
    let c : peer_of d (Sta 0) (address d (Ap i)) ≡ Some (Ap k) = subst (λ (x : List ℕ). peer_of d (Sta 0) x ≡ Some (Ap k)) same a in
    cc (b, c)
one_address d (Sta k) (Sta i) names l r same =
    let a = finds-sta d 0 k names l in
    let b = finds-sta d 0 i names r in
    let c : peer_of d (Ap 0) (address d (Sta i)) ≡ Some (Sta k) = subst (λ (x : List ℕ). peer_of d (Ap 0) x ≡ Some (Sta k)) same a in
    cc (b, c)
one_address d (Ap k) (Sta i) names l r same = absurd (apart_kinds d k i names l r same)
one_address d (Sta i) (Ap k) names l r same = absurd (apart_kinds d k i names r l (sym same))

-- ---- a node with an address is listed

past_ap : (d : Domain) (k : ℕ) → length d.aps ≤ k → address d (Ap k) ≡ []
past_ap d k high = ap (λ (o : Option ListedAp). (unwrap_or (option_map (λ (a : ListedAp). a.address) o) (record { 0 = [] })).0) (slice_get_past d.aps k high)

past_sta : (d : Domain) (k : ℕ) → length d.stas ≤ k → address d (Sta k) ≡ []
past_sta d k high = ap (λ (o : Option ListedSta). (unwrap_or (option_map (λ (s : ListedSta). s.address) o) (record { 0 = [] })).0) (slice_get_past d.stas k high)

pub listed_by : (d : Domain) (n : Node) → 1 ≤ length (address d n) → IsListed d n
listed_by d (Ap k) some = elim (cases_lt k (length d.aps)) [ inl low ↦ low | inr high ↦ absurd (omega (arith, some, ap length (past_ap d k high))) ]
listed_by d (Sta k) some = elim (cases_lt k (length d.stas)) [ inl low ↦ low | inr high ↦ absurd (omega (arith, some, ap length (past_sta d k high))) ]

-- ---- names

-- two pairs are the same, as they stand or crossed
abbrev pub Crossed : List ℕ → List ℕ → List ℕ → List ℕ → Type 0
Crossed a b c e = ((a ≡ c) × (b ≡ e)) ⊎ ((a ≡ e) × (b ≡ c))

crossed_by : (a b c e : List ℕ) (o p : Ordering) → choose o a b ≡ choose p c e → choose o b a ≡ choose p e c → Crossed a b c e
crossed_by a b c e Less Less x y = inl (x, y)
crossed_by a b c e Less Equal x y = inl (x, y)
crossed_by a b c e Less Greater x y = inr (x, y)
crossed_by a b c e Equal Less x y = inl (x, y)
crossed_by a b c e Equal Equal x y = inl (x, y)
crossed_by a b c e Equal Greater x y = inr (x, y)
crossed_by a b c e Greater Less x y = inr (y, x)
crossed_by a b c e Greater Equal x y = inr (y, x)
crossed_by a b c e Greater Greater x y = inl (y, x)

crossed : (a b c e : List ℕ) → lesser a b ≡ lesser c e → greater a b ≡ greater c e → Crossed a b c e
crossed a b c e x y = crossed_by a b c e (slice_cmp nat_cmp a b) (slice_cmp nat_cmp c e) x y

-- the inputs as the derivation reads them: the pre-shared key, addresses and nonces without their roles, and with suite 4 the R0KH-ID
pub record IsSameName (i k : Inputs) : Type 0 where
  pub psk : i.psk ≡ k.psk
  pub holder : k.akm ≡ FtPsk → i.r0kh_id ≡ k.r0kh_id
  pub addresses : Crossed i.aa.0 i.spa.0 k.aa.0 k.spa.0
  pub nonces : Crossed i.anonce i.snonce k.anonce k.snonce

same_by : (akm : Akm) (i k : Inputs) → k.akm ≡ akm → name_by akm i ≡ name_by akm k → IsSameName i k
same_by Psk i k suite e = record {
  psk = ap (λ (x : Name). x.psk) e;
  holder = λ mobile. absurd (cc (suite, mobile));
  addresses = crossed i.aa.0 i.spa.0 k.aa.0 k.spa.0 (ap (λ (x : Name). x.addresses.0) e) (ap (λ (x : Name). x.addresses.1) e);
  nonces = crossed i.anonce i.snonce k.anonce k.snonce (ap (λ (x : Name). x.nonces.0) e) (ap (λ (x : Name). x.nonces.1) e);
}
same_by PskSha256 i k suite e = record {
  psk = ap (λ (x : Name). x.psk) e;
  holder = λ mobile. absurd (cc (suite, mobile));
  addresses = crossed i.aa.0 i.spa.0 k.aa.0 k.spa.0 (ap (λ (x : Name). x.addresses.0) e) (ap (λ (x : Name). x.addresses.1) e);
  nonces = crossed i.anonce i.snonce k.anonce k.snonce (ap (λ (x : Name). x.nonces.0) e) (ap (λ (x : Name). x.nonces.1) e);
}
same_by FtPsk i k suite e = record {
  psk = ap (λ (x : Name). x.psk) e;
  holder = λ mobile. ap (λ (x : Name). x.r0kh_id) e;
  addresses = inl (ap (λ (x : Name). x.addresses.0) e, ap (λ (x : Name). x.addresses.1) e);
  nonces = inl (ap (λ (x : Name). x.nonces.0) e, ap (λ (x : Name). x.nonces.1) e);
}

pub same_name : (i k : Inputs) → i.akm ≡ k.akm → name i ≡ name k → IsSameName i k
same_name i k akm e = same_by k.akm i k refl (subst (λ (a : Akm). name_by a i ≡ name k) akm e)
