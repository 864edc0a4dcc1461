-- What a pull answers by rows that are those of a history.
use Rattle.std.proofs.Common.{◌≡◌, ◌≢◌, ℕ, zero, suc, ◌<◌, Bool, true, false, cond, true≢false, List, [], ◌∷◌, length, map, Option, Some, None, refl, sym, ap, ◌∙◌, subst, inl, inr}
use Rattle.std.specs.Prelude.{not, ◌&&◌, ◌||◌, bytes_eq, slice_get, position, option_map, unwrap_or}
use Rattle.std.specs.List.{AllByRecursion, list_any}
use Rattle.std.proofs.lemmas.Bool.{cases_Bool}
use Rattle.std.proofs.lemmas.Slice.Eq.{bytes_eq-Decides}
use Rattle.domain_base.specs.declared.names.Mac.{Mac}
use Rattle.domain_base.specs.declared.names.Node.{Node}
use Rattle.domain_base.specs.declared.names.Node.TheVariants.{Ap, Sta}
use Rattle.key_hierarchy.specs.declared.answers.PullAnswer.{PullAnswer}
use Rattle.key_hierarchy.specs.declared.answers.PullAnswer.TheVariants.{Found, NoHolder, Absent}
use Rattle.key_hierarchy.specs.FastTransition.{pmk_r1}
use Rattle.key_holders.specs.declared.rows.HolderRow.{HolderRow}
use Rattle.key_holders.specs.declared.rows.HeldRow.{HeldRow}
use Rattle.key_holders.specs.Keys.{row_r1}
use Rattle.key_holders.specs.Rows.{live, is_in}
use Rattle.key_holders.specs.Pulls.{Matches, is_match, NoneLives, MayPull, Answers}
use Rattle.key_holders.proofs.Searches.{at_position, none_at}
use Rattle.key_holders.proofs.Lives.{match_lives}
use Rattle.key_holders.proofs.KeysOfRows.{r1-row_of}
use Rattle.run_journal.specs.declared.domain.Domain.{Domain}
use Rattle.run_journal.specs.declared.domain.ListedAp.{ListedAp}
use Rattle.run_journal.specs.declared.acts.Act.{Act}
use Rattle.run_journal.specs.declared.acts.Entry.{Entry}
use Rattle.run_journal.specs.Acts.{same}
use Rattle.run_journal.specs.Questions.{history}
use Rattle.run_journal.specs.Holders.{is_ended}
use Rattle.domain_rules.specs.Network.{AreAps, IsNamed, mac, r0kh_id, holder_of}
use Rattle.domain_rules.specs.HeldRight.{puts_row, stands_here, Looking, AnswersAt, GivesRightKey}
use Rattle.held_rows.proofs.Putting.{one_station}
use Rattle.held_rows.specs.Knows.{own_r0, row_by, own_row, IsOwn, stands_in, KnowsRows}

-- ---- by the acts of the access point alone

by_own : (own puts ends s t : Bool) (rest : Bool) → s ≡ t → rest ≡ cond own (puts || (not ends && t)) t → ((own && puts) || (not (own && ends) && s)) ≡ rest
by_own true puts ends s t rest same is = ap (λ (x : Bool). puts || (not ends && x)) same ∙ sym is
by_own false puts ends s t rest same is = same ∙ sym is

in_history : (name : List ℕ) (p : Node) (own : Bool) (e : Act) (g : List Act) → stands_in name p (cond own (e ∷ g) g) ≡ cond own (puts_row name p e || (not (is_ended name e) && stands_in name p g)) (stands_in name p g)
in_history name p true e g = refl
in_history name p false e g = refl

pub stands_there : (r : Node) (name : List ℕ) (p : Node) (past : List Entry) → stands_here r name p past ≡ stands_in name p (history r past)
stands_there r name p [] = refl
stands_there r name p (e ∷ past) =
    by_own (same r e.node) (puts_row name p e.act) (is_ended name e.act) (stands_here r name p past) (stands_in name p (history r past)) (stands_in name p (history r (e ∷ past)))
    (stands_there r name p past) (in_history name p (same r e.node) e.act (history r past))

-- ---- a row that matches, or none

either : (a b : Bool) → b ≡ true → (a || b) ≡ true
either true b e = refl
either false b e = e

first : (a b : Bool) → a ≡ true → (a || b) ≡ true
first true b e = refl
first false b e = absurd (true≢false (sym e))

same_some : {A : Type 0} (p q : A) → Some p ≡ Some q → p ≡ q
same_some p q e = cc

matches : (name : List ℕ) (sta : Mac) (row : HolderRow) → Matches name sta row → is_match name sta (live row) ≡ true
matches name sta row m = both (bytes_eq row.name name) (bytes_eq row.sta.0 sta.0) ((bytes_eq-Decides row.name name).1 m.0) ((bytes_eq-Decides row.sta.0 sta.0).1 (ap (λ (s : Mac). s.0) m.1))
  where
    both : (a b : Bool) → a ≡ true → b ≡ true → (a && b) ≡ true
    both true b e f = f
    both false b e f = absurd (true≢false (sym e))

one_matches : (name : List ℕ) (sta : Mac) (xs : List HeldRow) (j : ℕ) (row : HolderRow) → slice_get xs j ≡ Some (live row) → Matches name sta row → list_any (is_match name sta) xs ≡ true
one_matches name sta [] j row e m = absurd (cc)
one_matches name sta (x ∷ xs) zero row e m = first (is_match name sta x) (list_any (is_match name sta) xs) (ap (is_match name sta) (same_some x (live row) e) ∙ matches name sta row m)
one_matches name sta (x ∷ xs) (suc j) row e m = either (is_match name sta x) (list_any (is_match name sta) xs) (one_matches name sta xs j row e m)

neither : (a b : Bool) → a ≡ false → b ≡ false → (a || b) ≡ false
neither true b e f = absurd (true≢false e)
neither false b e f = f

none_matches : (name : List ℕ) (sta : Mac) (xs : List HeldRow) → NoneLives name sta xs → list_any (is_match name sta) xs ≡ false
none_matches name sta [] none = refl
none_matches name sta (x ∷ xs) none =
    neither (is_match name sta x) (list_any (is_match name sta) xs)
    (elim (cases_Bool (is_match name sta x)) [
      | inl is ↦ (let m = match_lives name sta x is in absurd (true≢false (sym (ap (λ (y : HeldRow). y.live) m.0) ∙ none zero x refl m.1)))
      | inr other ↦ other
    ])
    (none_matches name sta xs (λ j y e m. none (suc j) y e m))

own_at : (d : Domain) (n : Node) (xs : List HeldRow) (j : ℕ) (x : HeldRow) → AllByRecursion (IsOwn d n) xs → slice_get xs j ≡ Some x → IsOwn d n x
own_at d n [] j x all e = absurd (cc)
own_at d n (y ∷ ys) zero x all e = subst (IsOwn d n) (same_some y x e) all.0
own_at d n (y ∷ ys) (suc j) x all e = own_at d n ys j x all.1 e

-- ---- the answer

right_key : (d : Domain) (n : Node) (row : HolderRow) (r1kh : Mac) (p : Node) (k : ℕ) → IsNamed d → k < length d.stas → p ≡ Sta k → IsOwn d n (live row) → row.sta ≡ mac d p
    → row_r1 row r1kh ≡ pmk_r1 (own_r0 d n p) r1kh (mac d p)
right_key d n row r1kh p k names low station own is =
    let has : mac d (Sta k) ≡ mac d (Sta own.sta) = sym (is ∙ ap (mac d) station) ∙ ap (λ (x : HolderRow). x.sta) own.is in
    let here : Sta own.sta ≡ p = one_station d k own.sta names low own.listed has ∙ sym station in
    let keyed : row ≡ own_row d n (Sta own.sta) = own.is ∙ ap (λ (key : List ℕ). row_by key d n (Sta own.sta)) (own.present refl) in
    ap (λ (x : HolderRow). row_r1 x r1kh) (keyed ∙ ap (own_row d n) here) ∙ r1-row_of (own_r0 d n p) (mac d p) r1kh

module _ (d : Domain) (n : Node) (xs : List HeldRow) (past : List Entry) (l : Looking) (k : ℕ) where
  -- a row stands exactly where one of them matches
  abbrev pub StandsBy : Type 0
  StandsBy = stands_here n l.name l.sta past ≡ list_any (is_match l.name (mac d l.sta)) xs

  pub stood : k < length d.stas → l.sta ≡ Sta k → KnowsRows d n xs (history n past) → StandsBy
  stood low is at =
      stands_there n l.name l.sta past
      ∙ (ap (λ (p : Node). stands_in l.name p (history n past)) is ∙ (at.last l.name k ∙ (sym (at.station_is l.name k low) ∙ ap (λ (p : Node). list_any (is_match l.name (mac d p)) xs) (sym is))))

  answers_by_stood : (answer : PullAnswer) → IsNamed d → k < length d.stas → l.sta ≡ Sta k → StandsBy → AllByRecursion (IsOwn d n) xs → MayPull xs l.name (mac d l.node) (mac d l.sta) answer → AnswersAt n l answer past × GivesRightKey d (r0kh_id d n) l answer
  answers_by_stood (Found r1) names low is at own m = (
    at ∙ one_matches l.name (mac d l.sta) xs m.0 m.1 m.2 m.3,
    m.4 ∙ right_key d n m.1 (mac d l.node) l.sta k names low is (own_at d n xs m.0 (live m.1) own m.2) m.3.1,
  )
  answers_by_stood Absent names low is at own m = (at ∙ none_matches l.name (mac d l.sta) xs m, tt)
  answers_by_stood NoHolder names low is at own m = absurd m

  pub answers_by_rows : (answer : PullAnswer) → IsNamed d → k < length d.stas → l.sta ≡ Sta k → KnowsRows d n xs (history n past) → MayPull xs l.name (mac d l.node) (mac d l.sta) answer → AnswersAt n l answer past × GivesRightKey d (r0kh_id d n) l answer
  answers_by_rows answer names low is at m = answers_by_stood answer names low is (stood low is at) at.own m

-- ---- the access point that has an R0KH-ID

abbrev ids : List ListedAp → List (List ℕ)
ids aps = map (λ (a : ListedAp). a.r0kh_id) aps

listed_id : (aps : List ListedAp) (i : ℕ) (a : ListedAp) → slice_get aps i ≡ Some a → slice_get (ids aps) i ≡ Some a.r0kh_id
listed_id [] i a e = absurd (cc)
listed_id (x ∷ aps) zero a e = ap (λ (y : ListedAp). Some y.r0kh_id) (same_some x a e)
listed_id (x ∷ aps) (suc i) a e = listed_id aps i a e

id_listed : (aps : List ListedAp) (i : ℕ) (id : List ℕ) → slice_get (ids aps) i ≡ Some id → (a : ListedAp) × (slice_get aps i ≡ Some a) × (a.r0kh_id ≡ id)
id_listed [] i id e = absurd (cc)
id_listed (x ∷ aps) zero id e = (x, refl, same_some x.r0kh_id id e)
id_listed (x ∷ aps) (suc i) id e = id_listed aps i id e

other_id : (aps : List ListedAp) (i : ℕ) (id other : List ℕ) → AllByRecursion (λ (b : ListedAp). b.r0kh_id ≢ other) aps → slice_get (ids aps) i ≡ Some id → id ≢ other
other_id [] i id other all e = absurd (cc)
other_id (x ∷ aps) zero id other all e = λ same. all.0 (same_some x.r0kh_id id e ∙ same)
other_id (x ∷ aps) (suc i) id other all e = other_id aps i id other all.1 e

one_place : (aps : List ListedAp) → AreAps aps → (i k : ℕ) (id : List ℕ) → slice_get (ids aps) i ≡ Some id → slice_get (ids aps) k ≡ Some id → i ≡ k
one_place [] are i k id e f = absurd (cc)
one_place (a ∷ aps) are zero zero id e f = refl
one_place (a ∷ aps) are zero (suc k) id e f = absurd (other_id aps k id a.r0kh_id are.4 f (sym (same_some a.r0kh_id id e)))
one_place (a ∷ aps) are (suc i) zero id e f = absurd (other_id aps i id a.r0kh_id are.4 e (sym (same_some a.r0kh_id id f)))
one_place (a ∷ aps) are (suc i) (suc k) id e f = ap suc (one_place aps are.5 i k id e f)

abbrev place_of : Domain → List ℕ → Option ℕ
place_of d id = position (λ (a : ListedAp). bytes_eq a.r0kh_id id) d.aps

at_place : (o : Option ℕ) (r : ℕ) → option_map (λ i. Ap i) o ≡ Some (Ap r) → Some r ≡ o
at_place None r e = absurd (cc)
at_place (Some i) r e = cc

no_place : (o : Option ℕ) → option_map (λ i. Ap i) o ≡ None → None ≡ o
no_place None e = refl
no_place (Some i) e = absurd (cc)

holder_is : (d : Domain) (id : List ℕ) (r : ℕ) → holder_of d id ≡ Some (Ap r) → (a : ListedAp) × (slice_get d.aps r ≡ Some a) × (a.r0kh_id ≡ id)
holder_is d id r e =
    let t = at_position (λ (a : ListedAp). bytes_eq a.r0kh_id id) d.aps r (at_place (place_of d id) r e) in
    (t.0, t.1, (bytes_eq-Decides t.0.r0kh_id id).0 t.2)

id_of_holder : (d : Domain) (r : ℕ) (a : ListedAp) → slice_get d.aps r ≡ Some a → r0kh_id d (Ap r) ≡ a.r0kh_id
id_of_holder d r a is = ap (λ (o : Option ListedAp). unwrap_or (option_map (λ (x : ListedAp). x.r0kh_id) o) []) is

module _ (d : Domain) (has : List ℕ) (rows : ℕ → List HeldRow) (past : List Entry) (l : Looking) (k r : ℕ) (id : List ℕ) where
  by_one : (answer : PullAnswer) (s : ℕ) → IsNamed d → k < length d.stas → l.sta ≡ Sta k → holder_of d id ≡ Some (Ap r) → is_in r has ≡ true → StandsBy d (Ap r) (rows r) past l k → AllByRecursion (IsOwn d (Ap r)) (rows r)
      → slice_get (ids d.aps) s ≡ Some id → (is_in s has ≡ true → MayPull (rows s) l.name (mac d l.node) (mac d l.sta) answer) → AnswersAt (Ap r) l answer past × GivesRightKey d id l answer
  by_one answer s names low is holds in_has at own there may =
      let a = holder_is d id r holds in
      let here : slice_get (ids d.aps) r ≡ Some id = listed_id d.aps r a.0 a.1 ∙ ap (λ (x : List ℕ). Some x) a.2 in
      let same : s ≡ r = one_place d.aps names.aps s r id there here in
      let w = answers_by_stood d (Ap r) (rows r) past l k answer names low is at own (subst (λ (x : ℕ). is_in x has ≡ true → MayPull (rows x) l.name (mac d l.node) (mac d l.sta) answer) same may in_has) in
      (w.0, subst (λ (x : List ℕ). GivesRightKey d x l answer) (id_of_holder d r a.0 a.1 ∙ a.2) w.1)

  pub answers_as_stood : (answer : PullAnswer) → IsNamed d → k < length d.stas → l.sta ≡ Sta k → holder_of d id ≡ Some (Ap r) → is_in r has ≡ true → StandsBy d (Ap r) (rows r) past l k → AllByRecursion (IsOwn d (Ap r)) (rows r)
      → Answers (ids d.aps) has rows id l.name (mac d l.node) (mac d l.sta) answer → AnswersAt (Ap r) l answer past × GivesRightKey d id l answer
  answers_as_stood (Found r1) names low is holds in_has at own w = by_one (Found r1) w.0 names low is holds in_has at own w.1 w.2
  answers_as_stood Absent names low is holds in_has at own w = by_one Absent w.0 names low is holds in_has at own w.1 w.2
  answers_as_stood NoHolder names low is holds in_has at own w =
      let a = holder_is d id r holds in
      absurd (w r (listed_id d.aps r a.0 a.1 ∙ ap (λ (x : List ℕ). Some x) a.2))

  pub answers_by_holder : (answer : PullAnswer) → IsNamed d → k < length d.stas → l.sta ≡ Sta k → holder_of d id ≡ Some (Ap r) → is_in r has ≡ true → KnowsRows d (Ap r) (rows r) (history (Ap r) past)
      → Answers (ids d.aps) has rows id l.name (mac d l.node) (mac d l.sta) answer → AnswersAt (Ap r) l answer past × GivesRightKey d id l answer
  answers_by_holder answer names low is holds in_has at w = answers_as_stood answer names low is holds in_has (stood d (Ap r) (rows r) past l k low is at) at.own w

unlisted : (d : Domain) (id : List ℕ) (s : ℕ) → holder_of d id ≡ None → slice_get (ids d.aps) s ≡ Some id → ⊥
unlisted d id s none there =
    let a = id_listed d.aps s id there in
    true≢false (sym ((bytes_eq-Decides a.0.r0kh_id id).1 a.2) ∙ none_at (λ (x : ListedAp). bytes_eq x.r0kh_id id) d.aps (no_place (place_of d id) none) s a.0 a.1)

pub answers_no_holder : (d : Domain) (has : List ℕ) (rows : ℕ → List HeldRow) (l : Looking) (id : List ℕ) (answer : PullAnswer) → holder_of d id ≡ None → Answers (ids d.aps) has rows id l.name (mac d l.node) (mac d l.sta) answer → answer ≡ NoHolder
answers_no_holder d has rows l id (Found r1) none w = absurd (unlisted d id w.0 none w.1)
answers_no_holder d has rows l id Absent none w = absurd (unlisted d id w.0 none w.1)
answers_no_holder d has rows l id NoHolder none w = refl
