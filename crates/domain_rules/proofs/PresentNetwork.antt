-- The network after a journal is that of the header but for the keys of its stations.
use Rattle.std.proofs.Common.{◌≡◌, ℕ, zero, suc, ◌+◌, ◌<◌, ◌≤◌, Bool, cond, List, [], ◌∷◌, length, Option, refl, ap, ◌∙◌, arith, inl, inr}
use Rattle.std.specs.Prelude.{◌≢◌, slice_get, option_map, unwrap_or}
use Rattle.std.specs.List.{AllByRecursion}
use Rattle.std.proofs.lemmas.Bool.{lt-ltb, le-ltb}
use Rattle.domain_base.specs.Octets.{AreOctets}
use Rattle.domain_base.specs.declared.names.Mac.{Mac}
use Rattle.domain_base.specs.declared.names.Node.{Node}
use Rattle.domain_base.specs.declared.names.Node.TheVariants.{Ap, Sta}
use Rattle.air_frame.specs.Sent.{IsAddress}
use Rattle.run_journal.specs.declared.acts.Act.{Act}
use Rattle.run_journal.specs.declared.acts.Entry.{Entry}
use Rattle.run_journal.specs.Premises.{In}
use Rattle.run_journal.specs.declared.domain.Domain.{Domain}
use Rattle.run_journal.specs.declared.domain.ListedAp.{ListedAp}
use Rattle.run_journal.specs.declared.domain.ListedSta.{ListedSta}
use Rattle.run_journal.specs.Secrets.{last_secret_in}
use Rattle.domain_rules.specs.Network.{mac, psk_of, AreStas, IsNamed}
use Rattle.domain_rules.specs.InOctets.{InOctets}
use Rattle.domain_rules.specs.Present.{keyed, present, earlier}
use Rattle.domain_rules.specs.Explained.{number_of, push}

-- ---- station by station

pub length_keyed : (j : List Entry) (k : ℕ) (stas : List ListedSta) → length (keyed j k stas) ≡ length stas
length_keyed j k [] = refl
length_keyed j k (s ∷ stas) = ap suc (length_keyed j (suc k) stas)

address_at : (j : List Entry) (k : ℕ) (stas : List ListedSta) (i : ℕ) → option_map (λ (s : ListedSta). s.address) (slice_get (keyed j k stas) i) ≡ option_map (λ (s : ListedSta). s.address) (slice_get stas i)
address_at j k [] i = refl
address_at j k (s ∷ stas) zero = refl
address_at j k (s ∷ stas) (suc i) = address_at j (suc k) stas i

psk_at : (j : List Entry) (k : ℕ) (stas : List ListedSta) (i m : ℕ) → m ≡ k + i → i < length stas
    → unwrap_or (option_map (λ (s : ListedSta). s.psk) (slice_get (keyed j k stas) i)) [] ≡ unwrap_or (last_secret_in (Sta m) j) (unwrap_or (option_map (λ (s : ListedSta). s.psk) (slice_get stas i)) [])
psk_at j k [] i m is low = absurd (omega arith)
psk_at j k (s ∷ stas) zero m is low = let here_ : k ≡ m = omega (arith, is) in ap (λ (x : ℕ). unwrap_or (last_secret_in (Sta x) j) s.psk) here_
psk_at j k (s ∷ stas) (suc i) m is low = psk_at j (suc k) stas i m (omega (arith, is)) (omega (arith, low))

all_keyed : (P : Mac → Type 0) (j : List Entry) (k : ℕ) (stas : List ListedSta) → AllByRecursion (λ (s : ListedSta). P s.address) stas → AllByRecursion (λ (s : ListedSta). P s.address) (keyed j k stas)
all_keyed P j k [] all = tt
all_keyed P j k (s ∷ stas) all = (all.0, all_keyed P j (suc k) stas all.1)

are_keyed : (aps : List ListedAp) (j : List Entry) (k : ℕ) (stas : List ListedSta) → AreStas aps stas → AreStas aps (keyed j k stas)
are_keyed aps j k [] are = tt
are_keyed aps j k (s ∷ stas) are = (
  are.0,
  record { no_ap = are.1.no_ap; no_sta = all_keyed (λ (m : Mac). m ≢ s.address) j (suc k) stas are.1.no_sta },
  are_keyed aps j (suc k) stas are.2,
)

-- ---- the network

pub mac_present : (d : Domain) (j : List Entry) (n : Node) → mac (present d j) n ≡ mac d n
mac_present d j (Ap k) = refl
mac_present d j (Sta k) = ap (λ (o : Option Mac). unwrap_or o (record { 0 = [] })) (address_at j zero d.stas k)

pub psk_present : (d : Domain) (j : List Entry) (s : ℕ) → s < length d.stas → psk_of (present d j) (Sta s) ≡ unwrap_or (last_secret_in (Sta s) j) (psk_of d (Sta s))
psk_present d j s low = psk_at j zero d.stas s s (omega arith) low

pub named_present : (d : Domain) (j : List Entry) → IsNamed d → IsNamed (present d j)
named_present d j names = record { aps = names.aps; stas = are_keyed d.aps j zero d.stas names.stas }

pub octets_present : (d : Domain) (j : List Entry) → InOctets d → InOctets (present d j)
octets_present d j octets = record {
  mdid = octets.mdid;
  ap_sizes = octets.ap_sizes;
  sta_sizes = all_keyed (λ (m : Mac). IsAddress m.0) j zero d.stas octets.sta_sizes;
  mdid_octets = octets.mdid_octets;
  ap_octets = octets.ap_octets;
  sta_octets = all_keyed (λ (m : Mac). AreOctets m.0) j zero d.stas octets.sta_octets;
  id_octets = octets.id_octets;
}

-- ---- the entries of earlier rounds

pub earlier_entry : (round : ℕ) (e : Entry) (j : List Entry) → round ≤ e.round → earlier round (e ∷ j) ≡ earlier round j
earlier_entry round e j late = rw (le-ltb e.round round late) refl

pub earlier_push : (k r : ℕ) (n : Node) (g : List Act) (past : List Entry) → k ≤ r → earlier k (push r n g past) ≡ earlier k past
earlier_push k r n [] past late = refl
earlier_push k r n (e ∷ g) past late =
    let entry : Entry = record { round = r; node = n; number = number_of e past; act = e } in
    earlier_push k r n g (entry ∷ past) late ∙ earlier_entry k entry past late

pub earlier_below : (k r : ℕ) (past : List Entry) → r < k → ((m : Entry) → In m past → m.round ≤ r) → earlier k past ≡ past
earlier_below k r [] low until = refl
earlier_below k r (e ∷ past) low until =
    let first : e.round ≤ r = until e (inl refl) in
    ap (λ (b : Bool). cond b (e ∷ earlier k past) (earlier k past)) (lt-ltb e.round k (omega (arith, first, low))) ∙ ap (λ (l : List Entry). e ∷ l) (earlier_below k r past low (λ m there. until m (inr there)))
