-- A network with a changed key is as it was but for the keys of the stations that are named.
use Rattle.std.proofs.Common.{◌≡◌, ℕ, zero, suc, ◌+◌, ◌<◌, ◌≤◌, Bool, false, cond, List, [], ◌∷◌, length, Option, refl, sym, ap, subst, ◌∙◌, arith}
use Rattle.std.specs.Prelude.{◌≢◌, slice_get, option_map, unwrap_or}
use Rattle.std.specs.List.{AllByRecursion}
use Rattle.domain_base.specs.Octets.{AreOctets}
use Rattle.domain_base.specs.declared.names.Mac.{Mac}
use Rattle.domain_base.specs.declared.names.Node.{Node}
use Rattle.domain_base.specs.declared.names.Node.TheVariants.{Ap, Sta}
use Rattle.air_frame.specs.Sent.{IsAddress}
use Rattle.run_journal.specs.declared.domain.Domain.{Domain}
use Rattle.run_journal.specs.declared.domain.ListedAp.{ListedAp}
use Rattle.run_journal.specs.declared.domain.ListedSta.{ListedSta}
use Rattle.run_journal.specs.Changed.{is_named, rekeyed, changed}
use Rattle.run_journal.specs.Limits.{most_stas}
use Rattle.domain_rules.specs.Network.{mac, psk_of, AreStas, InForm, IsNamed}
use Rattle.domain_rules.specs.InOctets.{InOctets}

module _ (named : Option ℕ) (psk : List ℕ) where
  pub length_rekeyed : (k : ℕ) (stas : List ListedSta) → length (rekeyed named psk k stas) ≡ length stas
  length_rekeyed k [] = refl
  length_rekeyed k (s ∷ stas) = ap suc (length_rekeyed (suc k) stas)

  address_at : (k : ℕ) (stas : List ListedSta) (i : ℕ) → option_map (λ (s : ListedSta). s.address) (slice_get (rekeyed named psk k stas) i) ≡ option_map (λ (s : ListedSta). s.address) (slice_get stas i)
  address_at k [] i = refl
  address_at k (s ∷ stas) zero = refl
  address_at k (s ∷ stas) (suc i) = address_at (suc k) stas i

  psk_at : (k : ℕ) (stas : List ListedSta) (i m : ℕ) → m ≡ k + i → i < length stas
      → unwrap_or (option_map (λ (s : ListedSta). s.psk) (slice_get (rekeyed named psk k stas) i)) [] ≡ cond (is_named named m) psk (unwrap_or (option_map (λ (s : ListedSta). s.psk) (slice_get stas i)) [])
  psk_at k [] i m is low = absurd (omega arith)
  psk_at k (s ∷ stas) zero m is low = let here_ : k ≡ m = omega (arith, is) in ap (λ (x : ℕ). cond (is_named named x) psk s.psk) here_
  psk_at k (s ∷ stas) (suc i) m is low = psk_at (suc k) stas i m (omega (arith, is)) (omega (arith, low))

  same_at : (k : ℕ) (stas : List ListedSta) (i m : ℕ) → m ≡ k + i → is_named named m ≡ false
      → unwrap_or (option_map (λ (s : ListedSta). s.psk) (slice_get (rekeyed named psk k stas) i)) [] ≡ unwrap_or (option_map (λ (s : ListedSta). s.psk) (slice_get stas i)) []
  same_at k [] i m is other = refl
  same_at k (s ∷ stas) zero m is other = let here_ : k ≡ m = omega (arith, is) in ap (λ (b : Bool). cond b psk s.psk) (ap (is_named named) here_ ∙ other)
  same_at k (s ∷ stas) (suc i) m is other = same_at (suc k) stas i m (omega (arith, is)) other

  all_rekeyed : (P : Mac → Type 0) (k : ℕ) (stas : List ListedSta) → AllByRecursion (λ (s : ListedSta). P s.address) stas → AllByRecursion (λ (s : ListedSta). P s.address) (rekeyed named psk k stas)
  all_rekeyed P k [] all = tt
  all_rekeyed P k (s ∷ stas) all = (all.0, all_rekeyed P (suc k) stas all.1)

  are_rekeyed : (aps : List ListedAp) (k : ℕ) (stas : List ListedSta) → AreStas aps stas → AreStas aps (rekeyed named psk k stas)
  are_rekeyed aps k [] are = tt
  are_rekeyed aps k (s ∷ stas) are = (
    are.0,
    record { no_ap = are.1.no_ap; no_sta = all_rekeyed (λ (m : Mac). m ≢ s.address) (suc k) stas are.1.no_sta },
    are_rekeyed aps (suc k) stas are.2,
  )

  -- ---- the network

  pub mac_changed : (d : Domain) (n : Node) → mac (changed d named psk) n ≡ mac d n
  mac_changed d (Ap k) = refl
  mac_changed d (Sta k) = ap (λ (o : Option Mac). unwrap_or o (record { 0 = [] })) (address_at zero d.stas k)

  pub psk_changed : (d : Domain) (s : ℕ) → s < length d.stas → psk_of (changed d named psk) (Sta s) ≡ cond (is_named named s) psk (psk_of d (Sta s))
  psk_changed d s low = psk_at zero d.stas s s (omega arith) low

  pub same_psk : (d : Domain) (s : ℕ) → is_named named s ≡ false → psk_of (changed d named psk) (Sta s) ≡ psk_of d (Sta s)
  same_psk d s other = same_at zero d.stas s s (omega arith) other

  pub named_changed : (d : Domain) → IsNamed d → IsNamed (changed d named psk)
  named_changed d names = record { aps = names.aps; stas = are_rekeyed d.aps zero d.stas names.stas }

  pub in_form_changed : (d : Domain) → InForm d → InForm (changed d named psk)
  in_form_changed d form = record {
    some = form.some;
    few = form.few;
    aps = form.aps;
    stas = are_rekeyed d.aps zero d.stas form.stas;
    few_aps = form.few_aps;
    few_stas = subst (λ (n : ℕ). n ≤ most_stas) (sym (length_rekeyed zero d.stas)) form.few_stas;
  }

  pub octets_changed : (d : Domain) → InOctets d → InOctets (changed d named psk)
  octets_changed d octets = record {
    mdid = octets.mdid;
    ap_sizes = octets.ap_sizes;
    sta_sizes = all_rekeyed (λ (m : Mac). IsAddress m.0) zero d.stas octets.sta_sizes;
    mdid_octets = octets.mdid_octets;
    ap_octets = octets.ap_octets;
    sta_octets = all_rekeyed (λ (m : Mac). AreOctets m.0) zero d.stas octets.sta_octets;
    id_octets = octets.id_octets;
  }
