-- The last rounds of that example, in which a payload each way is sent under the second pairwise key; and that there are such networks.
use Rattle.std.proofs.Common.{◌≡◌, ◌≢◌, ℕ, ◌<◌, Bool, true, false, List, [], ◌∷◌, length, None, refl, sym, ap, subst, ◌∙◌, arith, inl, inr}
use Rattle.std.specs.Prelude.{◌==◌, ◌&&◌}
use Rattle.domain_base.specs.declared.names.Akm.TheVariants.{FtPsk}
use Rattle.domain_base.specs.declared.names.Akm.{Akm}
use Rattle.domain_base.specs.declared.names.Node.TheVariants.{Ap, Sta}
use Rattle.domain_base.specs.declared.names.Node.{Node}
use Rattle.domain_rules.proofs.DataRounds.{IsSender}
use Rattle.domain_rules.proofs.Example.{broadcast_octets, renewing-in_form, renewing-whole, renewing-renews, small-octets}
use Rattle.domain_rules.proofs.Exchange.{IsPair, Stage}
use Rattle.domain_rules.proofs.Parts.{same-refl}
use Rattle.domain_rules.proofs.Peers.{listed-address, listed-octets, listed-unicast, named, finds-sta, finds-ap}
use Rattle.domain_rules.specs.DataExample.{HaveOctets}
use Rattle.domain_rules.specs.Example.{AreWhole}
use Rattle.domain_rules.specs.Network.{renews, renews_at, gtk, InForm}
use Rattle.run_journal.specs.Events.{protects}
use Rattle.domain_rules.specs.RenewedKey.{renewing}
use Rattle.key_hierarchy.specs.Keys.{ptk}
use Rattle.key_hierarchy.specs.Sizes.{IsSsid}
use Rattle.key_hierarchy.specs.declared.inputs.Inputs.{Inputs}
use Rattle.mac_prf.proofs.Parts.{length-mic}
use Rattle.run_journal.specs.Acts.{Derivation}
use Rattle.run_journal.specs.Premises.{In}
use Rattle.run_journal.specs.Questions.{history, attempt, session, add}
use Rattle.run_journal.specs.declared.acts.Act.{Act}
use Rattle.run_journal.specs.declared.domain.Domain.{Domain}
use Rattle.run_journal.specs.declared.domain.Event.TheVariants.{Deliver, Send}
use Rattle.run_journal.specs.declared.domain.Event.{Event}
use Rattle.domain_base.specs.declared.names.Peer.TheVariants.{One}
use Rattle.std.specs.Prelude.{Some}
use Rattle.example_domains.proofs.Elements.{same_bytes}
use Rattle.example_domains.proofs.UsedActs as w
use Rattle.example_domains.proofs.UsedData.{sends_up, takes_up, sends_down, takes_down, octets_up, octets_down, carried_up, carried_down}
use Rattle.example_domains.proofs.UsedLast.{stage20}
use Rattle.example_domains.specs.UsedKeys.{Carried, AreCarried, used_rounds, HasUsedKeys}

module _ (d : Domain) (k m : ℕ) (p : Carried) (pair : IsPair d k m) (from : IsSender d k m) (fit : AreCarried p) (begins : renews d ≡ true) (never : renews_at d 1 ≡ false) (listed : m < length d.stas) (differ : gtk d (Ap k) 3 ≢ gtk d (Ap k) 0) where
  abbrev a : Node
  a = Ap k

  abbrev s : Node
  s = Sta m

  abbrev i : Inputs
  i = w.i d k m p.before

  abbrev i2 : Inputs
  i2 = w.i2 d k m p.before

  abbrev tk2 : List ℕ
  tk2 = (ptk i2).tk

  abbrev key2 : Derivation
  key2 = w.key2 d k m p.before

  abbrev rounds20 : List (List Event)
  rounds20 = w.rounds20 d k m p.before

  abbrev sta19 : List Act
  sta19 = w.sta19 d k m p.before

  abbrev ap20 : List Act
  ap20 = w.ap20 d k m p.before

  -- ---- rounds 21 and 22: the station sends a payload, and the access point hands it up

  abbrev sta21 : List Act
  sta21 = add (sends_up d a s tk2 p.up) sta19

  abbrev ap22 : List Act
  ap22 = add (takes_up d a s tk2 p.up) ap20

  abbrev rounds22 : List (List Event)
  rounds22 = (Deliver 18 a ∷ []) ∷ (Send s (One a) (Some 5) p.up ∷ []) ∷ rounds20

  has21 : session a sta19 ≡ Some key2
  has21 = rw (same-refl a) refl

  has22 : session s ap20 ≡ Some key2
  has22 = rw (same-refl s) refl

  stage22 : Stage d k m rounds22 sta21 ap22 18 (octets_up d a s tk2 p.up)
  stage22 = carried_up d k m pair from i2 rounds20 sta19 ap20 17 (w.octets17 d k m p.before) (stage20 d k m p.before pair from fit.before begins listed differ) p.up fit.up has21 (rw (same-refl a) refl) has22
      (rw (same-refl s, same_bytes tk2) refl) refl

  -- ---- rounds 23 and 24: the access point sends one, and the station hands it up

  abbrev sta24 : List Act
  sta24 = add (takes_down d a s tk2 p.down) sta21

  abbrev ap23 : List Act
  ap23 = add (sends_down d a s tk2 p.down) ap22

  stage24 : Stage d k m (used_rounds k m p) sta24 ap23 19 (octets_down d a s tk2 p.down)
  stage24 = carried_down d k m pair from i2 rounds22 sta21 ap22 18 (octets_up d a s tk2 p.up) stage22 p.down fit.down never (rw (same-refl s) refl) (rw (same-refl s) refl) (rw (same-refl a) refl)
      (rw (same-refl a, same_bytes tk2) refl) refl

  -- ---- what they come to

  at_sta : (e : Act) → In e sta24 → In e (history s stage24.journal)
  at_sta e there = subst (λ (h : List Act). In e h) (sym stage24.sta_is) there

  at_ap : (e : Act) → In e ap23 → In e (history a stage24.journal)
  at_ap e there = subst (λ (h : List Act). In e h) (sym stage24.ap_is) there

  used_keys : HasUsedKeys d k m p
  used_keys = record {
    journal = stage24.journal;
    explained = stage24.explained;
    i = i;
    of_first = refl;
    j = i2;
    of_second = refl;
    sent_before = at_sta _ (inr (inr (inr (inr (inr (inr (inr (inr (inr (inr (inr (inr (inr (inr (inr (inr (inr (inr (inr (inl refl))))))))))))))))))));
    taken_before = at_ap _ (inr (inr (inr (inr (inr (inr (inr (inr (inr (inr (inr (inr (inr (inr (inr (inr (inr (inr (inr (inr (inl refl)))))))))))))))))))));
    sent_up = at_sta _ (inr (inr (inr (inl refl))));
    taken_up = at_ap _ (inr (inr (inl refl)));
    sent_down = at_ap _ (inr (inl refl));
    taken_down = at_sta _ (inl refl);
    station_first = at_sta _ (inr (inr (inr (inr (inr (inr (inr (inr (inr (inr (inr (inr (inr (inr (inr (inr (inr (inr (inr (inr (inr (inr (inr (inr (inr (inl refl))))))))))))))))))))))))));
    station_ends_first = at_sta _ (inr (inr (inr (inr (inr (inr (inr (inr (inr (inr (inr (inr (inr (inr (inr (inr (inr (inr (inr (inr (inr (inr (inr (inl refl))))))))))))))))))))))));
    station_begins = at_sta _ (inr (inr (inr (inr (inr (inr (inr (inr (inr (inr (inr (inr (inr (inr (inr (inr (inl refl)))))))))))))))));
    station_leaves = at_sta _ (inr (inr (inr (inr (inr (inr (inr (inr (inl refl)))))))));
    station_installs = at_sta _ (inr (inr (inr (inr (inr (inr (inr (inl refl))))))));
    station_ends = at_sta _ (inr (inr (inr (inr (inr (inl refl))))));
    station_alone = ap (attempt a) stage24.sta_is;
    station_has = ap (session a) stage24.sta_is ∙ rw (same-refl a) refl;
    access_point_first = at_ap _ (inr (inr (inr (inr (inr (inr (inr (inr (inr (inr (inr (inr (inr (inr (inr (inr (inr (inr (inr (inr (inr (inr (inr (inl refl))))))))))))))))))))))));
    access_point_ends_first = at_ap _ (inr (inr (inr (inr (inr (inr (inr (inr (inr (inr (inr (inr (inr (inr (inr (inr (inr (inr (inr (inr (inr (inr (inl refl)))))))))))))))))))))));
    access_point_begins = at_ap _ (inr (inr (inr (inr (inr (inr (inr (inr (inr (inr (inr (inr (inr (inr (inr (inr (inr (inr (inr (inl refl))))))))))))))))))));
    access_point_leaves = at_ap _ (inr (inr (inr (inr (inr (inr (inr (inl refl))))))));
    access_point_installs = at_ap _ (inr (inr (inr (inr (inr (inr (inl refl)))))));
    access_point_ends = at_ap _ (inr (inr (inr (inr (inr (inl refl))))));
    access_point_alone = ap (attempt s) stage24.ap_is ∙ rw (same-refl s) refl;
    access_point_has = ap (session s) stage24.ap_is ∙ rw (same-refl s) refl;
    new = w.new d k m p.before;
    is_new = refl;
    given = at_sta _ (inr (inr (inr (inr (inr (inr (inr (inr (inr (inr (inr (inl refl))))))))))));
    current = at_ap _ (inr (inr (inr (inr (inr (inr (inr (inr (inr (inr (inl refl)))))))))));
    resumed = at_sta _ (inr (inr (inr (inr (inr (inr (inl refl)))))));
  }

-- ---- in every network in form

pair_of : (d : Domain) (a s : ℕ) → InForm d → AreWhole d → d.akm ≢ FtPsk → protects d ≡ false → a < length d.aps → s < length d.stas → IsPair d a s
pair_of d a s form are akm off ap_low sta_low = record {
  ap_whole = listed-address d (Ap a) are.aps are.stas ap_low;
  sta_whole = listed-address d (Sta s) are.aps are.stas sta_low;
  finds_ap = finds-ap d s a (named d form) ap_low;
  finds_sta = finds-sta d a s (named d form) sta_low;
  ap_low = ap_low;
  sta_low = omega (arith, form.few_stas);
  has_mic = length-mic d.akm;
  suite = akm;
  unprotected = off;
}

pub used_keys_explained : (d : Domain) (a s : ℕ) (p : Carried) → InForm d → AreWhole d → HaveOctets d → d.akm ≢ FtPsk → protects d ≡ false → a < length d.aps → s < length d.stas → AreCarried p → renews d ≡ true → renews_at d 1 ≡ false → gtk d (Ap a) 3 ≢ gtk d (Ap a) 0 → HasUsedKeys d a s p
used_keys_explained d a s p form are octets akm off ap_low sta_low fit begins never differ = used_keys d a s p (pair_of d a s form are akm off ap_low sta_low) (record {
  ap_octets = listed-octets d (Ap a) octets.aps octets.stas ap_low;
  sta_octets = listed-octets d (Sta s) octets.aps octets.stas sta_low;
  alone = ap (λ (n : ℕ). n == 1) (listed-unicast d s form sta_low).1;
  all_octets = broadcast_octets;
}) fit begins never sta_low differ

-- ---- the small network, whose pairwise keys are renewed where the access point is told to

none_at : (b : Bool) → (b && false) ≡ false
none_at true = refl
none_at false = refl

pub renewing_networks : (akm : Akm) (seed ssid psk : List ℕ) → IsSsid ssid → akm ≢ FtPsk
    → InForm (renewing akm None seed ssid psk) × AreWhole (renewing akm None seed ssid psk) × HaveOctets (renewing akm None seed ssid psk) × (renews (renewing akm None seed ssid psk) ≡ true) × (renews_at (renewing akm None seed ssid psk) 1 ≡ false) × (protects (renewing akm None seed ssid psk) ≡ false)
renewing_networks akm seed ssid psk is other =
    let octets = small-octets akm seed ssid psk in (
      renewing-in_form akm None seed ssid psk is,
      renewing-whole akm None seed ssid psk,
      record { aps = octets.aps; stas = octets.stas },
      renewing-renews akm None seed ssid psk other,
      none_at (renews (renewing akm None seed ssid psk)),
      refl,
    )
