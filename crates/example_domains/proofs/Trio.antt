-- Two access points and a station of a network in form with suite 4.
use Rattle.std.proofs.Common.{◌≡◌, ◌≢◌, ℕ, zero, suc, ◌<◌, ◌≤◌, Bool, false, List, [], ◌∷◌, length, get_or, Option, Some, refl, sym, ap, subst, arith}
use Rattle.std.proofs.lemmas.Bool.{lt-ltb}
use Rattle.std.proofs.lemmas.List.Sums.{position_or_len_is}
use Rattle.std.proofs.lemmas.Option.{slice_get-get_or}
use Rattle.std.proofs.lemmas.Slice.Eq.{bytes_eq-Decides}
use Rattle.std.specs.List.{position, position_or_len}
use Rattle.std.specs.Prelude.{◌==◌, unwrap_or, option_map, bytes_eq}
use Rattle.air_frame.specs.Sent.{IsAddress}
use Rattle.domain_base.specs.Octets.{AreOctets}
use Rattle.domain_base.specs.declared.names.Node.TheVariants.{Ap, Sta}
use Rattle.domain_rules.proofs.Parts.{same-other}
use Rattle.domain_rules.proofs.Peers.{listed-address, listed-octets, listed-unicast, named, not_same, finds-sta, finds-ap, all_at}
use Rattle.domain_rules.specs.DataExample.{HaveOctets}
use Rattle.run_journal.specs.Addresses.{is_group}
use Rattle.domain_rules.specs.Example.{AreWhole}
use Rattle.domain_rules.specs.Network.{address, r0kh_id, holder_of, peer_of, AreAps, InForm}
use Rattle.run_journal.specs.declared.domain.Domain.{Domain}
use Rattle.run_journal.specs.declared.domain.ListedAp.{ListedAp}
use Rattle.example_domains.proofs.Elements.{IsHolder}
use Rattle.example_domains.proofs.Stages.{AreTwo}
use Rattle.example_domains.specs.Roaming.{IsMobile}

pub record IsTrio (d : Domain) (k l m : ℕ) : Type 0 where
  pub apart : AreTwo k l
  pub ap_whole : IsAddress (address d (Ap k))
  pub to_whole : IsAddress (address d (Ap l))
  pub sta_whole : IsAddress (address d (Sta m))
  pub ap_octets : AreOctets (address d (Ap k))
  pub to_octets : AreOctets (address d (Ap l))
  pub sta_octets : AreOctets (address d (Sta m))
  pub finds_ap : peer_of d (Sta m) (address d (Ap k)) ≡ Some (Ap k)
  pub finds_to : peer_of d (Sta m) (address d (Ap l)) ≡ Some (Ap l)
  pub ap_finds : peer_of d (Ap k) (address d (Sta m)) ≡ Some (Sta m)
  pub to_finds : peer_of d (Ap l) (address d (Sta m)) ≡ Some (Sta m)
  pub holds : holder_of d (r0kh_id d (Ap k)) ≡ Some (Ap k)
  pub holder : IsHolder (r0kh_id d (Ap k))
  pub id_octets : AreOctets (r0kh_id d (Ap k))
  pub mdid : length d.mdid ≡ 2
  pub mdid_octets : AreOctets d.mdid
  pub alone : is_group (address d (Sta m)) ≡ false
  pub ap_low : k < length d.aps
  pub to_low : l < length d.aps
  pub sta_low : m < 1024

no_ap : ListedAp
no_ap = record { address = record { 0 = [] }; r0kh_id = [] }

ap_id : (d : Domain) (k : ℕ) → k < length d.aps → r0kh_id d (Ap k) ≡ (get_or d.aps k no_ap).r0kh_id
ap_id d k low = ap (λ (o : Option ListedAp). unwrap_or (option_map (λ (a : ListedAp). a.r0kh_id) o) []) (slice_get-get_or d.aps k no_ap low)

ids_differ : (aps : List ListedAp) → AreAps aps → (k i : ℕ) → k < i → i < length aps → (get_or aps k no_ap).r0kh_id ≢ (get_or aps i no_ap).r0kh_id
ids_differ [] are k i before low = absurd (omega arith)
ids_differ (a ∷ aps) are zero zero before low = absurd (omega arith)
ids_differ (a ∷ aps) are zero (suc i) before low = λ same. all_at (λ (x : ListedAp). x.r0kh_id ≢ a.r0kh_id) aps i no_ap are.4 (omega arith) (sym same)
ids_differ (a ∷ aps) are (suc k) zero before low = absurd (omega arith)
ids_differ (a ∷ aps) are (suc k) (suc i) before low = ids_differ aps are.5 k i (omega arith) (omega arith)

finds-holder : (d : Domain) (k : ℕ) → InForm d → k < length d.aps → holder_of d (r0kh_id d (Ap k)) ≡ Some (Ap k)
finds-holder d k form low =
    let test : ListedAp → Bool = λ (a : ListedAp). bytes_eq a.r0kh_id (r0kh_id d (Ap k)) in
    let place : position_or_len test d.aps ≡ k = position_or_len_is test d.aps k no_ap (omega arith)
    (λ i before. rw (ap_id d k low) (not_same (get_or d.aps i no_ap).r0kh_id (get_or d.aps k no_ap).r0kh_id (ids_differ d.aps form.aps i k before low)))
    (λ h. (bytes_eq-Decides (get_or d.aps k no_ap).r0kh_id (r0kh_id d (Ap k))).1 (sym (ap_id d k low))) in
    ap (option_map (λ i. Ap i)) (found_at test d.aps k place low)
  where
    found_at : (test : ListedAp → Bool) (xs : List ListedAp) (i : ℕ) → position_or_len test xs ≡ i → i < length xs → position test xs ≡ Some i
    found_at test xs i place less = rw (place, lt-ltb i (length xs) less) refl

holder_at : (aps : List ListedAp) (k : ℕ) → AreAps aps → k < length aps → (1 ≤ length (get_or aps k no_ap).r0kh_id) × (length (get_or aps k no_ap).r0kh_id ≤ 48)
holder_at [] k are low = absurd (omega (arith, low))
holder_at (a ∷ aps) zero are low = (are.1, are.2)
holder_at (a ∷ aps) (suc k) are low = holder_at aps k are.5 (omega (arith, low))

apart_by : (k l : ℕ) → k ≢ l → (k == l) ≡ false
apart_by k l other = same-other (Ap k) (Ap l) (λ (e : Ap k ≡ Ap l). other (cc e))

pub trio : (d : Domain) (k l m : ℕ) → InForm d → AreWhole d → HaveOctets d → IsMobile d → k < length d.aps → l < length d.aps → k ≢ l → m < length d.stas → IsTrio d k l m
trio d k l m form are octets is k_low l_low differ m_low =
    let w = holder_at d.aps k form.aps k_low in
    record {
      apart = record { one = apart_by k l differ; other = apart_by l k (λ e. differ (sym e)) };
      ap_whole = listed-address d (Ap k) are.aps are.stas k_low;
      to_whole = listed-address d (Ap l) are.aps are.stas l_low;
      sta_whole = listed-address d (Sta m) are.aps are.stas m_low;
      ap_octets = listed-octets d (Ap k) octets.aps octets.stas k_low;
      to_octets = listed-octets d (Ap l) octets.aps octets.stas l_low;
      sta_octets = listed-octets d (Sta m) octets.aps octets.stas m_low;
      finds_ap = finds-ap d m k (named d form) k_low;
      finds_to = finds-ap d m l (named d form) l_low;
      ap_finds = finds-sta d k m (named d form) m_low;
      to_finds = finds-sta d l m (named d form) m_low;
      holds = finds-holder d k form k_low;
      holder = subst IsHolder (sym (ap_id d k k_low)) (record { some = w.0; few = w.1 });
      id_octets = subst AreOctets (sym (ap_id d k k_low)) (all_at (λ (a : ListedAp). AreOctets a.r0kh_id) d.aps k no_ap is.id_octets k_low);
      mdid = is.mdid;
      mdid_octets = is.mdid_octets;
      alone = ap (λ (n : ℕ). n == 1) (listed-unicast d m form m_low).1;
      ap_low = k_low;
      to_low = l_low;
      sta_low = omega (arith, form.few_stas, m_low);
    }
