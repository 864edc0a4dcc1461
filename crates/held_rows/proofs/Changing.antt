-- The rows of a key holder as the key of a station is changed.
use Rattle.std.proofs.Common.{◌≡◌, ℕ, ◌<◌, Bool, true, false, true≢false, List, [], ◌∷◌, length, Option, Some, None, refl, sym, ap, ◌∙◌, subst, inl, inr}
use Rattle.std.specs.Prelude.{◌&&◌, ◌||◌, is_some, bytes_eq}
use Rattle.std.specs.List.{AllByRecursion, list_any}
use Rattle.std.proofs.lemmas.Bool.{cases_Bool, eqb-true}
use Rattle.std.proofs.lemmas.Slice.Eq.{bytes_eq-Decides}
use Rattle.domain_base.specs.declared.names.Akm.{Akm}
use Rattle.domain_base.specs.declared.names.Akm.TheVariants.{Psk, PskSha256, FtPsk}
use Rattle.domain_base.specs.declared.names.Mac.{Mac}
use Rattle.domain_base.specs.declared.names.Node.{Node}
use Rattle.domain_base.specs.declared.names.Node.TheVariants.{Ap, Sta}
use Rattle.key_hierarchy.specs.FastTransition.{pmk_r0}
use Rattle.key_holders.specs.declared.rows.HolderRow.{HolderRow}
use Rattle.key_holders.specs.declared.rows.HeldRow.{HeldRow}
use Rattle.key_holders.specs.Keys.{row_of}
use Rattle.key_holders.specs.Rows.{holds_live}
use Rattle.key_holders.specs.Pulls.{is_match}
use Rattle.run_journal.specs.declared.domain.Domain.{Domain}
use Rattle.run_journal.specs.declared.acts.Act.{Act}
use Rattle.run_journal.specs.Changed.{is_named, changed}
use Rattle.run_journal.specs.Holders.{row}
use Rattle.domain_rules.specs.Network.{r0kh_id}
use Rattle.domain_rules.specs.ChangedKeys.{IsNamedSta}
use Rattle.domain_rules.proofs.ChangedNetwork.{length_rekeyed, mac_changed, same_psk}
use Rattle.held_rows.specs.Knows.{row_by, own_row, IsOwn, IsListedSta, KnowsRows}

-- a listed station whose key is changed is named
named_sta : (d : Domain) (named : Option ℕ) (k : ℕ) → k < length d.stas → is_named named k ≡ true → IsNamedSta d named k
named_sta d None k low is = low
named_sta d (Some s) k low is = sym (eqb-true s k is)

-- the row of a key of a station names it by its address, which it keeps
row_kept : (d : Domain) (n : Node) (named : Option ℕ) (psk key : List ℕ) (k : ℕ) → row_by key (changed d named psk) n (Sta k) ≡ row_by key d n (Sta k)
row_kept d (Ap a) named psk key k = ap (λ (m : Mac). row_of (pmk_r0 key d.ssid d.mdid (r0kh_id d (Ap a)) m) m) (mac_changed named psk d (Sta k))
row_kept d (Sta a) named psk key k = ap (λ (m : Mac). row_of (pmk_r0 key d.ssid d.mdid [] m) m) (mac_changed named psk d (Sta k))

-- a live row of that name is there
live_in : (name : List ℕ) (x : HeldRow) (xs : List HeldRow) → x.live ≡ true → x.row.name ≡ name → holds_live name (x ∷ xs) ≡ true
live_in name x xs live is = rw (live, is, (bytes_eq-Decides name name).1 refl) refl

module _ (d : Domain) (n : Node) (named : Option ℕ) (psk : List ℕ) where
  abbrev e : Domain
  e = changed d named psk

  -- none of these rows is a live one of an old key
  abbrev HasNone : List HeldRow → Type 0
  HasNone xs = (k : ℕ) → IsNamedSta d named k → holds_live (own_row d n (Sta k)).name xs ≡ false

  behind_none : (x : HeldRow) (xs : List HeldRow) → HasNone (x ∷ xs) → HasNone xs
  behind_none x xs none k is = second (x.live && bytes_eq x.row.name (own_row d n (Sta k)).name) (holds_live (own_row d n (Sta k)).name xs) (none k is)
    where
      second : (a b : Bool) → (a || b) ≡ false → b ≡ false
      second true b e = absurd (true≢false e)
      second false b e = e

  own_changed : (x : HeldRow) (xs : List HeldRow) → HasNone (x ∷ xs) → IsOwn d n x → IsOwn e n x
  own_changed x xs none own = record {
    sta = own.sta;
    listed = subst (λ (count : ℕ). own.sta < count) (sym (length_rekeyed named psk 0 d.stas)) own.listed;
    psk = own.psk;
    is = own.is ∙ sym (row_kept d n named psk own.psk own.sta);
    present = λ live. elim (cases_Bool (is_named named own.sta)) [
      | inl yes_ ↦ absurd (true≢false (sym (live_in (own_row d n (Sta own.sta)).name x xs live (ap (λ (r : HolderRow). r.name) (own.is ∙ ap (λ (key : List ℕ). row_by key d n (Sta own.sta)) (own.present live)))) ∙ none own.sta (named_sta d named own.sta own.listed yes_)))
      | inr no_ ↦ own.present live ∙ sym (same_psk named psk d own.sta no_)
    ];
  }

  all_changed : (xs : List HeldRow) → HasNone xs → AllByRecursion (IsOwn d n) xs → AllByRecursion (IsOwn e n) xs
  all_changed [] none all = tt
  all_changed (x ∷ xs) none all = (own_changed x xs none all.0, all_changed xs (behind_none x xs none) all.1)

  listed_changed : (o : Option Node) → IsListedSta d o → IsListedSta e o
  listed_changed None at = tt
  listed_changed (Some p) at = (at.0, subst (λ (count : ℕ). at.0 < count) (sym (length_rekeyed named psk 0 d.stas)) at.1, at.2)

  -- by the history there is none, where the suite is that of fast transition; with another there are no rows
  none_live : (akm : Akm) (xs : List HeldRow) (h : List Act) → d.akm ≡ akm → KnowsRows d n xs h
      → ((k : ℕ) → IsNamedSta d named k → d.akm ≡ FtPsk → row (own_row d n (Sta k)).name h ≡ None) → HasNone xs
  none_live FtPsk xs h is at old k named_ = at.live_is (own_row d n (Sta k)).name ∙ ap (λ (o : Option Node). is_some o) (old k named_ is)
  none_live Psk xs h is at old k named_ = ap (holds_live (own_row d n (Sta k)).name) (at.suite (λ same. cc (sym is ∙ same)))
  none_live PskSha256 xs h is at old k named_ = ap (holds_live (own_row d n (Sta k)).name) (at.suite (λ same. cc (sym is ∙ same)))

pub rows_changed : (d : Domain) (n : Node) (named : Option ℕ) (psk : List ℕ) (xs : List HeldRow) (h : List Act) → KnowsRows d n xs h
    → ((k : ℕ) → IsNamedSta d named k → d.akm ≡ FtPsk → row (own_row d n (Sta k)).name h ≡ None) → KnowsRows (changed d named psk) n xs h
rows_changed d n named psk xs h at old = record {
  count = at.count;
  live_is = at.live_is;
  station_is = λ name k low. ap (λ (m : Mac). list_any (is_match name m) xs) (mac_changed named psk d (Sta k)) ∙ at.station_is name k (subst (λ (count : ℕ). k < count) (length_rekeyed named psk 0 d.stas) low);
  last = at.last;
  listed = λ name. listed_changed d n named psk (row name h) (at.listed name);
  own = all_changed d n named psk xs (none_live d n named psk d.akm xs h refl at old) at.own;
  suite = at.suite;
}
