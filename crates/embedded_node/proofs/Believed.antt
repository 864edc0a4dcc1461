-- Where what others gave is right, so is what is answered.
use Rattle.std.proofs.Common.{◌≡◌, ℕ, zero, suc, ◌<◌, true, List, [], ◌∷◌, length, map, Some, refl, sym, ap, ◌∙◌, subst, inl, inr}
use Rattle.std.specs.Prelude.{slice_get, option_map, unwrap_or}
use Rattle.std.specs.List.{AllByRecursion}
use Rattle.std.proofs.lemmas.Bool.{eqb-true, and_parts}
use Rattle.std.proofs.lemmas.Slice.Eq.{bytes_eq-Decides}
use Rattle.domain_base.specs.declared.names.Mac.{Mac}
use Rattle.domain_base.specs.declared.names.Node.{Node}
use Rattle.domain_base.specs.declared.names.Node.TheVariants.{Ap, Sta}
use Rattle.key_hierarchy.specs.declared.fast_transition.PmkR0.{PmkR0}
use Rattle.key_hierarchy.specs.declared.fast_transition.PmkR1.{PmkR1}
use Rattle.key_hierarchy.specs.declared.answers.PullAnswer.{PullAnswer}
use Rattle.key_hierarchy.specs.declared.answers.PullAnswer.TheVariants.{Found}
use Rattle.key_hierarchy.specs.FastTransition.{pmk_r0, pmk_r0_name, pmk_r1, pmk_r1_name}
use Rattle.key_holders.specs.declared.rows.HolderRow.{HolderRow}
use Rattle.key_holders.specs.declared.rows.HeldRow.{HeldRow}
use Rattle.key_holders.specs.Keys.{row_r1}
use Rattle.key_holders.specs.Listed.{below, rows_at}
use Rattle.key_holders.specs.Pulls.{MayPull}
use Rattle.key_holders.specs.Rows.{live}
use Rattle.key_holders.proofs.KeysOfRows.{r1-row_of}
use Rattle.run_journal.specs.declared.domain.Domain.{Domain}
use Rattle.run_journal.specs.declared.domain.ListedAp.{ListedAp}
use Rattle.run_journal.specs.declared.acts.Act.{Act}
use Rattle.run_journal.specs.declared.acts.Act.TheVariants.{Looked}
use Rattle.domain_rules.specs.Network.{IsNamed, mac, psk_of}
use Rattle.ft_exchange.specs.Asking.{ids_of}
use Rattle.held_rows.proofs.Putting.{one_station}
use Rattle.held_rows.specs.Knows.{own_r0, row_by, own_row, IsOwn, KnowsRows}
use Rattle.held_rows.specs.Looks.{IsNoLook, NoLooks, IsLookOf, AreLooked}
use Rattle.ap_node.specs.Looking.{AnsweredBy}
use Rattle.embedded_node.specs.declared.holders.PushedKey.{PushedKey}
use Rattle.embedded_node.specs.Pushed.{Holding, ids_in, is_asked, MayGive, GivenBy, PulledFrom}
use Rattle.embedded_node.specs.Believed.{r0_at, AreRight, IsRightLook, AreRightLooks}

same_some : {A : Type 0} (p q : A) → Some p ≡ Some q → p ≡ q
same_some p q e = cc

-- ---- by the own rows

own_at : (d : Domain) (n : Node) (xs : List HeldRow) (j : ℕ) (x : HeldRow) → AllByRecursion (IsOwn d n) xs → slice_get xs j ≡ Some x → IsOwn d n x
own_at d n [] j x all e = absurd (cc)
own_at d n (y ∷ ys) zero x all e = subst (IsOwn d n) (same_some y x e) all.0
own_at d n (y ∷ ys) (suc j) x all e = own_at d n ys j x all.1 e

right_row : (d : Domain) (n : Node) (row : HolderRow) (r1kh : Mac) (s : ℕ) → IsNamed d → s < length d.stas → IsOwn d n (live row) → row.sta ≡ mac d (Sta s)
    → row_r1 row r1kh ≡ pmk_r1 (own_r0 d n (Sta s)) r1kh (mac d (Sta s))
right_row d n row r1kh s names low own is =
    let has : mac d (Sta s) ≡ mac d (Sta own.sta) = sym is ∙ ap (λ (x : HolderRow). x.sta) own.is in
    let here : Sta own.sta ≡ Sta s = one_station d s own.sta names low own.listed has in
    let keyed : row ≡ own_row d n (Sta own.sta) = own.is ∙ ap (λ (key : List ℕ). row_by key d n (Sta own.sta)) (own.present refl) in
    ap (λ (x : HolderRow). row_r1 x r1kh) (keyed ∙ ap (own_row d n) here) ∙ r1-row_of (own_r0 d n (Sta s)) (mac d (Sta s)) r1kh

-- the own R0KH-ID is the first
first_id : (aps : List ListedAp) (id : List ℕ) → slice_get (map (λ (a : ListedAp). a.r0kh_id) aps) 0 ≡ Some id → unwrap_or (option_map (λ (a : ListedAp). a.r0kh_id) (slice_get aps 0)) [] ≡ id
first_id [] id e = absurd (cc)
first_id (a ∷ aps) id e = same_some a.r0kh_id id e

own_right : (d : Domain) (xs : List HeldRow) (h : List Act) (id name : List ℕ) (s : ℕ) (r1 : PmkR1) → IsNamed d → s < length d.stas → KnowsRows d (Ap 0) xs h → slice_get (ids_of d) 0 ≡ Some id
    → MayPull xs name (mac d (Ap 0)) (mac d (Sta s)) (Found r1) → r1 ≡ pmk_r1 (r0_at d id s) (mac d (Ap 0)) (mac d (Sta s))
own_right d xs h id name s r1 names low at is m =
    m.4 ∙ right_row d (Ap 0) m.1 (mac d (Ap 0)) s names low (own_at d (Ap 0) xs m.0 (live m.1) at.own m.2) m.3.1
    ∙ ap (λ (i : List ℕ). pmk_r1 (r0_at d i s) (mac d (Ap 0)) (mac d (Sta s))) (first_id d.aps id is)

-- ---- by what was given

name-pmk_r1 : (r0 : PmkR0) (r1kh sta : Mac) → (pmk_r1 r0 r1kh sta).name ≡ pmk_r1_name (pmk_r0_name r0) r1kh sta
unfolding pmk_r1
name-pmk_r1 r0 r1kh sta = refl

abbrev named : List ℕ → List ℕ → PmkR1
named key name = record { key = key; name = name }

-- a key with its name
whole : (r1 k : PmkR1) → r1.key ≡ k.key → r1.name ≡ k.name → r1 ≡ k
whole r1 k key name = ap (λ (x : List ℕ). named x r1.name) key ∙ ap (λ (x : List ℕ). named k.key x) name

record_of : (k : ℕ) (name : List ℕ) (sta : Mac) (x : PushedKey) → is_asked k name sta x ≡ true → (x.live ≡ true) × (x.holder ≡ k) × (x.name ≡ name) × (x.sta ≡ sta)
record_of k name sta x asked =
    let a = and_parts _ _ asked in
    let b = and_parts _ _ a.0 in
    let c = and_parts _ _ b.0 in
    (c.0, eqb-true x.holder k c.1, (bytes_eq-Decides x.name name).0 b.1, (λ i. record { 0 = (bytes_eq-Decides x.sta.0 sta.0).0 a.1 i }))

given_right : (d : Domain) (a : Holding) (k : ℕ) (id name : List ℕ) (s : ℕ) (r1 : PmkR1) → s < length d.stas → AreRight d a → slice_get (ids_in a) (suc k) ≡ Some id
    → MayGive a.pushed k name (mac d (Ap 0)) (mac d (Sta s)) (Found r1) → r1 ≡ pmk_r1 (r0_at d id s) (mac d (Ap 0)) (mac d (Sta s))
given_right d a k id name s r1 low right there m =
    let r1kh = mac d (Ap 0) in let sta = mac d (Sta s) in
    let x = record_of k name sta m.1 m.3 in
    let is = right m.0 m.1 id s m.2 x.0 (subst (λ (j : ℕ). slice_get (ids_in a) (suc j) ≡ Some id) (sym x.1) there) low x.3 in
    whole r1 (pmk_r1 (r0_at d id s) r1kh sta)
    (ap (λ (y : PmkR1). y.key) m.4 ∙ is.key)
    (ap (λ (y : PmkR1). y.name) m.4 ∙ ap (λ (n : List ℕ). pmk_r1_name n r1kh sta) (sym x.2 ∙ is.name) ∙ sym (name-pmk_r1 (r0_at d id s) r1kh sta))

-- ---- by either

module _ (d : Domain) (a : Holding) (h : List Act) (names : IsNamed d) (ids : ids_in a ≡ ids_of d) (at : KnowsRows d (Ap 0) (rows_at a.rows 0) h) (right : AreRight d a) where
  by_place : (r : ℕ) (id name : List ℕ) (s : ℕ) (r1 : PmkR1) → s < length d.stas → slice_get (ids_in a) r ≡ Some id → GivenBy a name (mac d (Ap 0)) (mac d (Sta s)) r (Found r1)
      → r1 ≡ pmk_r1 (r0_at d id s) (mac d (Ap 0)) (mac d (Sta s))
  by_place zero id name s r1 low there m = own_right d (rows_at a.rows 0) h id name s r1 names low at (subst (λ (l : List (List ℕ)). slice_get l 0 ≡ Some id) ids there) m
  by_place (suc k) id name s r1 low there m = given_right d a k id name s r1 low right there m

  abbrev Answered : List ℕ → List ℕ → ℕ → PullAnswer → Type 0
  Answered = AnsweredBy (PulledFrom a) (ids_in a) (below 1) (λ (r : ℕ). rows_at a.rows r) d 0

  look_right : (e : Act) → IsLookOf Answered d e → IsRightLook d e
  look_right (Looked id name p (Found r1)) w =
      let f = w.3.0 in
      subst (λ (q : Node). r1 ≡ pmk_r1 (pmk_r0 (psk_of d q) d.ssid d.mdid id (mac d q)) (mac d (Ap 0)) (mac d q)) (sym w.2) (by_place f.0 id name w.0 r1 w.1 f.1 f.2)
  look_right _ w = tt

  looks_right : (g : List Act) → AllByRecursion (IsLookOf Answered d) g → AreRightLooks d g
  looks_right [] all = tt
  looks_right (e ∷ g) all = (look_right e all.0, looks_right g all.1)

  no_look : (e : Act) → IsNoLook e → IsRightLook d e
  no_look (Looked id name p answer) none = absurd none
  no_look _ none = tt

  no_looks : (g : List Act) → NoLooks g → AreRightLooks d g
  no_looks [] all = tt
  no_looks (e ∷ g) all = (no_look e all.0, no_looks g all.1)

  pub believed : (g : List Act) → AreLooked Answered d g → AreRightLooks d g
  believed g (inl none) = no_looks g none
  believed g (inr looked) = looks_right g looked.1
