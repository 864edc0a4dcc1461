-- The small network of two access points and a station with suite 4 is one in which the station can roam.
use Rattle.std.proofs.Common.{◌≡◌, ℕ, List, [], ◌∷◌, length, get_or, refl, ap, arith}
use Rattle.std.specs.Prelude.{codes}
use Rattle.domain_base.specs.Octets.{AreOctets}
use Rattle.domain_base.specs.declared.names.Mac.{Mac}
use Rattle.domain_rules.proofs.CarriedKey.{octets_few}
use Rattle.domain_rules.specs.Network.{InForm}
use Rattle.key_hierarchy.specs.Sizes.{IsSsid}
use Rattle.example_domains.specs.Roaming.{CanRoam, pair}

apart_ids : codes "r0kh-2" ≡ codes "r0kh-1" → ⊥
apart_ids e = let last : 50 ≡ 49 = ap (λ (x : List ℕ). get_or x 5 0) e in omega (arith, last)

pair-in_form : (seed ssid psk mdid : List ℕ) → IsSsid ssid → InForm (pair seed ssid psk mdid)
pair-in_form seed ssid psk mdid is = record {
  some = is.least;
  few = is.most;
  aps = (((λ e. cc), refl), omega arith, omega arith, ((λ e. cc (ap (λ (x : Mac). x.0) e)), tt), (apart_ids, tt), (((λ e. cc), refl), omega arith, omega arith, tt, tt, tt));
  stas = (((λ e. cc), refl), record { no_ap = ((λ e. cc (ap (λ (x : Mac). x.0) e)), ((λ e. cc (ap (λ (x : Mac). x.0) e)), tt)); no_sta = tt }, tt);
  few_aps = omega arith;
  few_stas = omega arith;
}

pub pair-can_roam : (seed ssid psk mdid : List ℕ) → IsSsid ssid → length mdid ≡ 2 → AreOctets mdid → CanRoam (pair seed ssid psk mdid) 0 1 0
pair-can_roam seed ssid psk mdid is two octets = record {
  form = pair-in_form seed ssid psk mdid is;
  suite = refl;
  unprotected = refl;
  whole = record { aps = (refl, (refl, tt)); stas = (refl, tt) };
  octets = record {
    aps = (octets_few (0x02 ∷ 0 ∷ 0 ∷ 0 ∷ 0 ∷ 0x01 ∷ []) refl, (octets_few (0x02 ∷ 0 ∷ 0 ∷ 0 ∷ 0 ∷ 0x02 ∷ []) refl, tt));
    stas = (octets_few (0x02 ∷ 0 ∷ 0 ∷ 0 ∷ 0 ∷ 0x11 ∷ []) refl, tt);
  };
  mobile = record { mdid = two; mdid_octets = octets; id_octets = (octets_few (codes "r0kh-1") refl, (octets_few (codes "r0kh-2") refl, tt)) };
  first = omega arith;
  second = omega arith;
  differ = λ e. omega (arith, e);
  station = omega arith;
}
