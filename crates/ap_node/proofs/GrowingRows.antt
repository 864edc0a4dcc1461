-- The network grows: the rows of a key holder are those of the same history.
use Rattle.std.proofs.Common.{◌≡◌, ℕ, ◌<◌, ◌≤◌, Bool, true, false, true≢false, List, [], ◌∷◌, length, Option, Some, None, refl, sym, ap, ◌∙◌, subst, arith, inl, inr}
use Rattle.std.specs.Prelude.{◌&&◌, ◌||◌, bytes_eq}
use Rattle.std.specs.List.{AllByRecursion, list_any}
use Rattle.std.proofs.lemmas.Bool.{cases_lt}
use Rattle.domain_base.specs.declared.names.Mac.{Mac}
use Rattle.domain_base.specs.declared.names.Node.{Node}
use Rattle.domain_base.specs.declared.names.Node.TheVariants.{Ap, Sta}
use Rattle.key_hierarchy.specs.FastTransition.{pmk_r0}
use Rattle.key_holders.specs.declared.rows.HolderRow.{HolderRow}
use Rattle.key_holders.specs.declared.rows.HeldRow.{HeldRow}
use Rattle.key_holders.specs.Keys.{row_of}
use Rattle.key_holders.specs.Pulls.{is_match}
use Rattle.run_journal.specs.declared.domain.Domain.{Domain}
use Rattle.run_journal.specs.declared.acts.Act.{Act}
use Rattle.run_journal.specs.Acts.{same}
use Rattle.run_journal.specs.Holders.{row}
use Rattle.domain_rules.specs.Network.{IsNamed, mac, peer_of}
use Rattle.run_journal.specs.Events.{IsListed}
use Rattle.domain_rules.specs.HeldRight.{is_of}
use Rattle.domain_rules.proofs.Parts.{same-other}
use Rattle.domain_rules.proofs.Peers.{finds-sta, not_same}
use Rattle.node_base.specs.Growing.{Grows}
use Rattle.node_base.proofs.Grown.{grows_alike, listed_grown, mac_grown, psk_grown, r0kh_id_grown}
use Rattle.held_rows.specs.Knows.{row_by, IsOwn, IsListedSta, KnowsRows}

-- ---- stations that are listed behind those that there were

further : (d e : Domain) (j k : ℕ) → Grows d e → IsNamed e → j < length d.stas → length d.stas ≤ k → k < length e.stas → mac d (Sta j) ≡ mac e (Sta k) → ⊥
further d e j k g names low past there same_mac =
    let within : j < length e.stas = listed_grown d e (Sta j) (grows_alike d e g) low in
    let here : mac e (Sta j) ≡ mac e (Sta k) = mac_grown d e (Sta j) (grows_alike d e g) low ∙ same_mac in
    let found : Some (Sta j) ≡ Some (Sta k) = sym (finds-sta e 0 j names within) ∙ (ap (λ (m : Mac). peer_of e (Ap 0) m.0) here ∙ finds-sta e 0 k names there) in
    let one : j ≡ k = cc found in
    absurd (omega (arith, low, past, one))

not_second : (a b : Bool) → b ≡ false → (a && b) ≡ false
not_second true b e = e
not_second false b e = refl

neither : (a b : Bool) → a ≡ false → b ≡ false → (a || b) ≡ false
neither true b e f = absurd (true≢false e)
neither false b e f = f

as_mac : (m n : Mac) → m.0 ≡ n.0 → m ≡ n
as_mac m n e = λ i. record { 0 = e i }

module _ (d e : Domain) (n : Node) (g : Grows d e) (names : IsNamed e) where
  none_yet : (k : ℕ) → length d.stas ≤ k → k < length e.stas → (name : List ℕ) (xs : List HeldRow) → AllByRecursion (IsOwn d n) xs → list_any (is_match name (mac e (Sta k))) xs ≡ false
  none_yet k past there name [] all = refl
  none_yet k past there name (x ∷ xs) all =
      neither (is_match name (mac e (Sta k)) x) (list_any (is_match name (mac e (Sta k))) xs)
      (not_second (x.live && bytes_eq x.row.name name) (bytes_eq x.row.sta.0 (mac e (Sta k)).0)
      (not_same x.row.sta.0 (mac e (Sta k)).0
      (λ bytes. further d e all.0.sta k g names all.0.listed past there (sym (ap (λ (r : HolderRow). r.sta) all.0.is) ∙ as_mac x.row.sta (mac e (Sta k)) bytes))))
      (none_yet k past there name xs all.1)

  no_row : (k : ℕ) (o : Option Node) → length d.stas ≤ k → IsListedSta d o → is_of (Sta k) o ≡ false
  no_row k None past at = refl
  no_row k (Some p) past at =
      subst (λ (q : Node). same (Sta k) q ≡ false) (sym at.2)
      (same-other (Sta k) (Sta at.0) (λ (is : Sta k ≡ Sta at.0). (let one : k ≡ at.0 = cc is in absurd (omega (arith, past, at.1, one)))))

  listed_still : (o : Option Node) → IsListedSta d o → IsListedSta e o
  listed_still None at = tt
  listed_still (Some p) at = (at.0, listed_grown d e (Sta at.0) (grows_alike d e g) at.1, at.2)

  row_grown : IsListed d n → (key : List ℕ) (k : ℕ) → k < length d.stas → row_by key e n (Sta k) ≡ row_by key d n (Sta k)
  row_grown here key k low = by (λ i. key) g.ssid g.mdid (r0kh_id_grown d e n (grows_alike d e g) here) (mac_grown d e (Sta k) (grows_alike d e g) low)
    where
      by : {a b c f i j l o : List ℕ} {m w : Mac} → a ≡ b → c ≡ f → i ≡ j → l ≡ o → m ≡ w → row_of (pmk_r0 a c i l m) m ≡ row_of (pmk_r0 b f j o w) w
      by p q r s t = rw (p, q, r, s, t) refl

  own_still : IsListed d n → (xs : List HeldRow) → AllByRecursion (IsOwn d n) xs → AllByRecursion (IsOwn e n) xs
  own_still here [] all = tt
  own_still here (x ∷ xs) all = (
    record {
      sta = all.0.sta;
      listed = listed_grown d e (Sta all.0.sta) (grows_alike d e g) all.0.listed;
      psk = all.0.psk;
      is = all.0.is ∙ sym (row_grown here all.0.psk all.0.sta all.0.listed);
      present = λ live. all.0.present live ∙ sym (psk_grown d e (Sta all.0.sta) (grows_alike d e g) all.0.listed);
    },
    own_still here xs all.1,
  )

  station_still : (xs : List HeldRow) (h : List Act) → KnowsRows d n xs h → (name : List ℕ) (k : ℕ) → k < length e.stas → list_any (is_match name (mac e (Sta k))) xs ≡ is_of (Sta k) (row name h)
  station_still xs h at name k there = elim (cases_lt k (length d.stas)) [
    | inl low ↦ ap (λ (m : Mac). list_any (is_match name m) xs) (mac_grown d e (Sta k) (grows_alike d e g) low) ∙ at.station_is name k low
    | inr past ↦ none_yet k past there name xs at.own ∙ sym (no_row k (row name h) past (at.listed name))
  ]

  pub rows_grown : (xs : List HeldRow) (h : List Act) → IsListed d n → KnowsRows d n xs h → KnowsRows e n xs h
  rows_grown xs h here at = record {
    count = at.count;
    live_is = at.live_is;
    station_is = station_still xs h at;
    last = at.last;
    listed = λ name. listed_still (row name h) (at.listed name);
    own = own_still here xs at.own;
    suite = λ other. at.suite (λ same. other (g.akm ∙ same));
  }
