-- A whole handshake in every network in form, and a small network.
use Rattle.domain_base.specs.declared.names.Akm.TheVariants.{Psk, PskSha256, FtPsk}
use Rattle.domain_base.specs.declared.names.Mac.{Mac}
use Rattle.domain_base.specs.declared.names.Node.TheVariants.{Ap, Sta}
use Rattle.domain_base.specs.Octets.{AreOctets}
use Rattle.domain_base.proofs.OctetLemmas.{octets_by_entries}
use Rattle.domain_rules.proofs.Peers.{listed-address, listed-octets, listed-unicast, named, finds-sta, finds-ap}
use Rattle.domain_rules.specs.Example.{small, AreWhole, HasHandshake, HasRenewal}
use Rattle.domain_rules.specs.DataExample.{HaveOctets, Payloads, ArePayloads, HasExchange}
use Rattle.domain_rules.specs.DataFrames.{broadcast}
use Rattle.domain_rules.specs.Network.{InForm, renews, renews_at, gtk}
use Rattle.run_journal.specs.Events.{protects}
use Rattle.domain_rules.proofs.Exchange.{IsPair}
use Rattle.key_hierarchy.specs.Sizes.{IsSsid}
use Rattle.run_journal.specs.declared.domain.Domain.{Domain}
use Rattle.domain_base.specs.declared.names.Akm.{Akm}
use Rattle.mac_prf.proofs.Parts.{length-mic}
use Rattle.std.proofs.Common.{◌≡◌, ◌≢◌, true, false, Option, ℕ, zero, suc, ◌<◌, List, [], ◌∷◌, length, get_or, refl, ap, arith}
use Rattle.std.specs.Prelude.{◌==◌}
use Rattle.domain_rules.proofs.LastRounds.{whole}
use Rattle.domain_rules.proofs.ResumedRounds.{renewed}
use Rattle.domain_rules.proofs.DataRounds.{exchanged}
use Rattle.domain_rules.proofs.RenewedLast.{renewed_key}
use Rattle.domain_rules.specs.RenewedKey.{renewing, HasRenewedKey}

pair_of : (d : Domain) (a s : ℕ) → InForm d → AreWhole d → d.akm ≢ FtPsk → protects d ≡ false → a < length d.aps → s < length d.stas → IsPair d a s
pair_of d a s form are akm off ap_low sta_low = record {
  ap_whole = listed-address d (Ap a) are.aps are.stas ap_low;
  sta_whole = listed-address d (Sta s) are.aps are.stas sta_low;
  finds_ap = finds-ap d s a (named d form) ap_low;
  finds_sta = finds-sta d a s (named d form) sta_low;
  ap_low = ap_low;
  sta_low = omega (arith, form.few_stas);
  has_mic = length-mic d.akm;
  suite = akm;
  unprotected = off;
}

pub handshake_explained : (d : Domain) (a s : ℕ) → InForm d → AreWhole d → d.akm ≢ FtPsk → protects d ≡ false → a < length d.aps → s < length d.stas → HasHandshake d a s
handshake_explained d a s form are akm off ap_low sta_low = whole d a s (pair_of d a s form are akm off ap_low sta_low)

-- where the two group keys that it draws differ
pub renewal_explained : (d : Domain) (a s : ℕ) → InForm d → AreWhole d → d.akm ≢ FtPsk → protects d ≡ false → a < length d.aps → s < length d.stas → gtk d (Ap a) 2 ≢ gtk d (Ap a) 0 → HasRenewal d a s
renewal_explained d a s form are akm off ap_low sta_low differ = renewed d a s (pair_of d a s form are akm off ap_low sta_low) sta_low differ

-- where the key that it draws in the renewal differs from the first
pub renewed_key_explained : (d : Domain) (a s : ℕ) → InForm d → AreWhole d → d.akm ≢ FtPsk → protects d ≡ false → a < length d.aps → s < length d.stas → renews d ≡ true → gtk d (Ap a) 3 ≢ gtk d (Ap a) 0 → HasRenewedKey d a s
renewed_key_explained d a s form are akm off ap_low sta_low begins differ = renewed_key d a s (pair_of d a s form are akm off ap_low sta_low) begins sta_low differ

-- the small network is in form
pub small-in_form : (akm : Akm) (seed ssid psk : List ℕ) → IsSsid ssid → InForm (small akm seed ssid psk)
small-in_form akm seed ssid psk is = record {
  some = is.least;
  few = is.most;
  aps = ((λ e. cc, refl), omega arith, omega arith, tt, tt, tt);
  stas = ((λ e. cc, refl), record { no_ap = (λ e. cc (ap (λ (x : Mac). x.0) e), tt); no_sta = tt }, tt);
  few_aps = omega arith;
  few_stas = omega arith;
}

-- and so it is where it renews pairwise keys, which it does with suites 2 and 6
pub renewing-in_form : (akm : Akm) (at : Option ℕ) (seed ssid psk : List ℕ) → IsSsid ssid → InForm (renewing akm at seed ssid psk)
renewing-in_form akm at seed ssid psk is =
    let small = small-in_form akm seed ssid psk is in
    record { some = small.some; few = small.few; aps = small.aps; stas = small.stas; few_aps = small.few_aps; few_stas = small.few_stas }

pub renewing-whole : (akm : Akm) (at : Option ℕ) (seed ssid psk : List ℕ) → AreWhole (renewing akm at seed ssid psk)
renewing-whole akm at seed ssid psk = record { aps = (refl, tt); stas = (refl, tt) }

pub renewing-renews : (akm : Akm) (at : Option ℕ) (seed ssid psk : List ℕ) → akm ≢ FtPsk → renews (renewing akm at seed ssid psk) ≡ true
renewing-renews Psk at seed ssid psk other = refl
renewing-renews PskSha256 at seed ssid psk other = refl
renewing-renews FtPsk at seed ssid psk other = absurd (other refl)

pub small-whole : (akm : Akm) (seed ssid psk : List ℕ) → AreWhole (small akm seed ssid psk)
small-whole akm seed ssid psk = record { aps = (refl, tt); stas = (refl, tt) }

-- octets, each below 256
pub broadcast_octets : AreOctets broadcast
broadcast_octets = octets_by_entries broadcast low
  where
    low : (k : ℕ) → get_or broadcast k 0 < 256
    low zero = omega arith
    low (suc zero) = omega arith
    low (suc (suc zero)) = omega arith
    low (suc (suc (suc zero))) = omega arith
    low (suc (suc (suc (suc zero)))) = omega arith
    low (suc (suc (suc (suc (suc zero))))) = omega arith
    low (suc (suc (suc (suc (suc (suc k)))))) = omega arith

pub exchange_explained : (d : Domain) (a s : ℕ) (p : Payloads) → InForm d → AreWhole d → HaveOctets d → d.akm ≢ FtPsk → protects d ≡ false → a < length d.aps → s < length d.stas → ArePayloads p → renews_at d 1 ≡ false → HasExchange d a s p
exchange_explained d a s p form are octets akm off ap_low sta_low fit never = exchanged d a s p (pair_of d a s form are akm off ap_low sta_low) (record {
  ap_octets = listed-octets d (Ap a) octets.aps octets.stas ap_low;
  sta_octets = listed-octets d (Sta s) octets.aps octets.stas sta_low;
  alone = ap (λ (n : ℕ). n == 1) (listed-unicast d s form sta_low).1;
  all_octets = broadcast_octets;
}) fit never

-- the small network's addresses are octets
low_six : (last : ℕ) → last < 256 → AreOctets (0x02 ∷ 0 ∷ 0 ∷ 0 ∷ 0 ∷ last ∷ [])
low_six last low_last = octets_by_entries (0x02 ∷ 0 ∷ 0 ∷ 0 ∷ 0 ∷ last ∷ []) low
  where
    low : (k : ℕ) → get_or (0x02 ∷ 0 ∷ 0 ∷ 0 ∷ 0 ∷ last ∷ []) k 0 < 256
    low zero = omega arith
    low (suc zero) = omega arith
    low (suc (suc zero)) = omega arith
    low (suc (suc (suc zero))) = omega arith
    low (suc (suc (suc (suc zero)))) = omega arith
    low (suc (suc (suc (suc (suc zero))))) = low_last
    low (suc (suc (suc (suc (suc (suc k)))))) = omega arith

pub small-octets : (akm : Akm) (seed ssid psk : List ℕ) → HaveOctets (small akm seed ssid psk)
small-octets akm seed ssid psk = record { aps = (low_six 0x01 (omega arith), tt); stas = (low_six 0x11 (omega arith), tt) }
