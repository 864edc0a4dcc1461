-- The example in every network in form with suite 4.
use Rattle.std.proofs.Common.{◌≡◌, ℕ, List, length, refl, sym, ap, subst, ◌∙◌, inl, inr}
use Rattle.std.specs.Prelude.{Bool, false}
use Rattle.domain_base.specs.Octets.{AreOctets}
use Rattle.key_hierarchy.specs.Sizes.{IsSsid}
use Rattle.domain_base.specs.declared.names.Akm.TheVariants.{FtPsk}
use Rattle.domain_base.specs.declared.names.Akm.{Akm}
use Rattle.domain_rules.specs.DataExample.{IsPayload}
use Rattle.run_journal.specs.Events.{protects}
use Rattle.run_journal.specs.declared.domain.Domain.{Domain}
use Rattle.example_domains.proofs.AssociationRounds.{stage7}
use Rattle.example_domains.proofs.PairNetwork.{pair-can_roam}
use Rattle.example_domains.proofs.RoamingActs as w
use Rattle.example_domains.proofs.RoamingRounds.{stage13}
use Rattle.example_domains.proofs.ServiceRounds.{stage17}
use Rattle.example_domains.proofs.ReturnRounds.{stage22}
use Rattle.example_domains.proofs.RevocationRounds.{stage25}
use Rattle.example_domains.proofs.EitherAnswer.{either_answer}
use Rattle.example_domains.proofs.ChangedKeyRounds.{changed}
use Rattle.example_domains.proofs.AssociatedAnew.{associated as associated_anew}
use Rattle.example_domains.proofs.SecondChangeRounds.{changed as changed_again}
use Rattle.example_domains.proofs.RoamingActs.{mobile}
use Rattle.example_domains.proofs.Stages.{TimelyIsRight, at_sta, at_ap, at_to}
use Rattle.example_domains.proofs.Trio.{IsTrio, trio}
use Rattle.example_domains.specs.EitherAnswer.{HasEitherAnswer}
use Rattle.example_domains.specs.ChangedKey.{second_pair, HasChange, HasAnew}
use Rattle.example_domains.specs.SecondChange.{HasSecondChange}
use Rattle.example_domains.specs.Roaming.{CanRoam, association, roaming, service, return, revocation, HasAssociation, HasRoaming, HasService, HasReturn, HasRevocation}

-- a network with that suite, where management frames are protected or not
abbrev with_suite : Domain → Bool → Akm → Domain
with_suite d mfp akm = record d { akm = akm; extras = record { version = d.extras.version; renew_at = d.extras.renew_at; mfp = mfp } }

is_mobile : (d : Domain) → d.akm ≡ FtPsk → protects d ≡ false → mobile d ≡ d
is_mobile d is off = ap (with_suite d false) (sym is) ∙ ap (λ (b : Bool). with_suite d b d.akm) (sym off)

module _ (law : TimelyIsRight) (c : Domain) (k l m : ℕ) (t : IsTrio (mobile c) k l m) where
  associated : HasAssociation (mobile c) k m
  associated =
      let st = stage7 c k l m t in
      record {
        journal = st.journal;
        explained = st.explained;
        held = law (mobile c) st.journal st.right;
        i = w.i c k l m;
        of_first = refl;
        station = at_sta (mobile c) (mobile c) k l m (association k m) _ _ _ _ st _ (inr (inr (inr (inl refl))));
        access_point = at_ap (mobile c) (mobile c) k l m (association k m) _ _ _ _ st _ (inr (inr (inl refl)));
        given = at_sta (mobile c) (mobile c) k l m (association k m) _ _ _ _ st _ (inr (inr (inl refl)));
        put = at_ap (mobile c) (mobile c) k l m (association k m) _ _ _ _ st _ (inl refl);
      }

  roamed : HasRoaming (mobile c) k l m
  roamed =
      let st = stage13 c k l m t in
      record {
        journal = st.journal;
        explained = st.explained;
        held = law (mobile c) st.journal st.right;
        looked = at_to (mobile c) (mobile c) k l m (roaming k l m) _ _ _ _ st _ (inr (inr (inr (inr (inr (inr (inr (inr (inr (inr (inl refl)))))))))));
        i = w.i2 c k l m;
        of_second = refl;
        station = at_sta (mobile c) (mobile c) k l m (roaming k l m) _ _ _ _ st _ (inr (inr (inl refl)));
        access_point = at_to (mobile c) (mobile c) k l m (roaming k l m) _ _ _ _ st _ (inr (inr (inr (inr (inl refl)))));
        given = at_sta (mobile c) (mobile c) k l m (roaming k l m) _ _ _ _ st _ (inr (inl refl));
        left = at_sta (mobile c) (mobile c) k l m (roaming k l m) _ _ _ _ st _ (inr (inr (inr (inl refl))));
        request = w.octets9 c k l m;
        seal = w.seal9 c k l m;
        answered = at_to (mobile c) (mobile c) k l m (roaming k l m) _ _ _ _ st _ (inr (inl refl));
        response = w.octets10 c k l m;
        sent = st.were.1.0;
        again = st.were.0;
      }

  -- with these payloads
  module _ (up down : List ℕ) (up_is : IsPayload up) (down_is : IsPayload down) where
    served : HasService (mobile c) k l m up down
    served =
        let st = stage17 c k l m t up down up_is down_is in
        record {
          journal = st.journal;
          explained = st.explained;
          held = law (mobile c) st.journal st.right;
          i = w.i2 c k l m;
          of_second = refl;
          sent_up = at_sta (mobile c) (mobile c) k l m (service k l m up down) _ _ _ _ st _ (inr (inr (inr (inl refl))));
          taken_up = at_to (mobile c) (mobile c) k l m (service k l m up down) _ _ _ _ st _ (inr (inr (inl refl)));
          sent_down = at_to (mobile c) (mobile c) k l m (service k l m up down) _ _ _ _ st _ (inr (inl refl));
          taken_down = at_sta (mobile c) (mobile c) k l m (service k l m up down) _ _ _ _ st _ (inl refl);
        }

    returned : HasReturn (mobile c) k l m up down
    returned =
        let st = stage22 c k l m t up down up_is down_is in
        record {
          journal = st.journal;
          explained = st.explained;
          held = law (mobile c) st.journal st.right;
          looked = at_ap (mobile c) (mobile c) k l m (return k l m up down) _ _ _ _ st _ (inr (inr (inr (inr (inr (inr (inr (inr (inr (inl refl))))))))));
          i = w.i3 c k l m;
          of_third = refl;
          station = at_sta (mobile c) (mobile c) k l m (return k l m up down) _ _ _ _ st _ (inr (inr (inl refl)));
          access_point = at_ap (mobile c) (mobile c) k l m (return k l m up down) _ _ _ _ st _ (inr (inr (inl refl)));
          replaced = at_ap (mobile c) (mobile c) k l m (return k l m up down) _ _ _ _ st _ (inr (inr (inr (inl refl))));
          left = at_sta (mobile c) (mobile c) k l m (return k l m up down) _ _ _ _ st _ (inr (inr (inr (inl refl))));
          resumed = at_sta (mobile c) (mobile c) k l m (return k l m up down) _ _ _ _ st _ (inr (inl refl));
        }

    ended : HasRevocation (mobile c) k l m up down
    ended =
        let st = stage25 c k l m t up down up_is down_is in
        record {
          journal = st.journal;
          explained = st.explained;
          held = law (mobile c) st.journal st.right;
          revoked = at_ap (mobile c) (mobile c) k l m (revocation k l m up down) _ _ _ _ st _ (inl refl);
          looked = at_to (mobile c) (mobile c) k l m (revocation k l m up down) _ _ _ _ st _ (inr (inl refl));
          request = w.octets18 c k l m;
          refused = at_to (mobile c) (mobile c) k l m (revocation k l m up down) _ _ _ _ st _ (inr (inr (inl refl)));
          sent = at_to (mobile c) (mobile c) k l m (revocation k l m up down) _ _ _ _ st _ (inl refl);
        }

-- of any network
in_mobile : (d : Domain) (k l m : ℕ) → CanRoam d k l m → IsTrio (mobile d) k l m
in_mobile d k l m can = subst (λ (x : Domain). IsTrio x k l m) (sym (is_mobile d can.suite can.unprotected)) (trio d k l m can.form can.whole can.octets can.mobile can.first can.second can.differ can.station)

pub association_explained : TimelyIsRight → (d : Domain) (k l m : ℕ) → CanRoam d k l m → HasAssociation d k m
association_explained law d k l m can = subst (λ (x : Domain). HasAssociation x k m) (is_mobile d can.suite can.unprotected) (associated law d k l m (in_mobile d k l m can))

pub roaming_explained : TimelyIsRight → (d : Domain) (k l m : ℕ) → CanRoam d k l m → HasRoaming d k l m
roaming_explained law d k l m can = subst (λ (x : Domain). HasRoaming x k l m) (is_mobile d can.suite can.unprotected) (roamed law d k l m (in_mobile d k l m can))

pub service_explained : TimelyIsRight → (d : Domain) (k l m : ℕ) (up down : List ℕ) → CanRoam d k l m → IsPayload up → IsPayload down → HasService d k l m up down
service_explained law d k l m up down can up_is down_is =
    subst (λ (x : Domain). HasService x k l m up down) (is_mobile d can.suite can.unprotected) (served law d k l m (in_mobile d k l m can) up down up_is down_is)

pub return_explained : TimelyIsRight → (d : Domain) (k l m : ℕ) (up down : List ℕ) → CanRoam d k l m → IsPayload up → IsPayload down → HasReturn d k l m up down
return_explained law d k l m up down can up_is down_is =
    subst (λ (x : Domain). HasReturn x k l m up down) (is_mobile d can.suite can.unprotected) (returned law d k l m (in_mobile d k l m can) up down up_is down_is)

pub revocation_explained : TimelyIsRight → (d : Domain) (k l m : ℕ) (up down : List ℕ) → CanRoam d k l m → IsPayload up → IsPayload down → HasRevocation d k l m up down
revocation_explained law d k l m up down can up_is down_is =
    subst (λ (x : Domain). HasRevocation x k l m up down) (is_mobile d can.suite can.unprotected) (ended law d k l m (in_mobile d k l m can) up down up_is down_is)

pub either_answer_explained : TimelyIsRight → (d : Domain) (k l m : ℕ) → CanRoam d k l m → HasEitherAnswer d k l m
either_answer_explained law d k l m can = subst (λ (x : Domain). HasEitherAnswer x k l m) (is_mobile d can.suite can.unprotected) (either_answer d k l m (in_mobile d k l m can) law)

-- ---- there are such networks of version 2

second-can_roam : (seed ssid psk mdid : List ℕ) → IsSsid ssid → length mdid ≡ 2 → AreOctets mdid → CanRoam (second_pair seed ssid psk mdid) 0 1 0
second-can_roam seed ssid psk mdid is size octets =
    let can = pair-can_roam seed ssid psk mdid is size octets in
    let f = can.form in
    record {
      form = record { some = f.some; few = f.few; aps = f.aps; stas = f.stas; few_aps = f.few_aps; few_stas = f.few_stas };
      suite = refl;
      unprotected = refl;
      whole = record { aps = can.whole.aps; stas = can.whole.stas };
      octets = record { aps = can.octets.aps; stas = can.octets.stas };
      mobile = record { mdid = can.mobile.mdid; mdid_octets = can.mobile.mdid_octets; id_octets = can.mobile.id_octets };
      first = can.first;
      second = can.second;
      differ = can.differ;
      station = can.station;
    }

pub change_explained : TimelyIsRight → (seed ssid psk mdid key : List ℕ) → IsSsid ssid → length mdid ≡ 2 → AreOctets mdid → HasChange (second_pair seed ssid psk mdid) key
change_explained law seed ssid psk mdid key is size octets =
    changed seed ssid psk mdid key (in_mobile (second_pair seed ssid psk mdid) 0 1 0 (second-can_roam seed ssid psk mdid is size octets))
    (in_mobile (second_pair seed ssid key mdid) 0 1 0 (second-can_roam seed ssid key mdid is size octets)) law

pub anew_explained : TimelyIsRight → (seed ssid psk mdid key : List ℕ) → IsSsid ssid → length mdid ≡ 2 → AreOctets mdid → HasAnew (second_pair seed ssid psk mdid) key
anew_explained law seed ssid psk mdid key is size octets =
    associated_anew seed ssid psk mdid key (in_mobile (second_pair seed ssid psk mdid) 0 1 0 (second-can_roam seed ssid psk mdid is size octets))
    (in_mobile (second_pair seed ssid key mdid) 0 1 0 (second-can_roam seed ssid key mdid is size octets)) law

pub second_change_explained : TimelyIsRight → (seed ssid psk mdid key last : List ℕ) → IsSsid ssid → length mdid ≡ 2 → AreOctets mdid → HasSecondChange (second_pair seed ssid psk mdid) key last
second_change_explained law seed ssid psk mdid key last is size octets =
    changed_again seed ssid psk mdid key last (in_mobile (second_pair seed ssid psk mdid) 0 1 0 (second-can_roam seed ssid psk mdid is size octets))
    (in_mobile (second_pair seed ssid key mdid) 0 1 0 (second-can_roam seed ssid key mdid is size octets)) law
