-- What is answered by the own key holder, or by what another gave.
use Rattle.std.proofs.Common.{◌≡◌, ◌≢◌, ℕ, zero, suc, true, List, [], ◌∷◌, ◌++◌, length, get_or, Some, None, refl, sym, ap, ◌∙◌, subst, arith}
use Rattle.std.specs.Prelude.{Bool, Option, if◌then◌else◌, slice_get, position, bytes_eq}
use Rattle.std.proofs.lemmas.Option.{slice_get_within, slice_get_read}
use Rattle.domain_base.specs.declared.names.Mac.{Mac}
use Rattle.key_hierarchy.specs.declared.fast_transition.PmkR1.{PmkR1}
use Rattle.key_hierarchy.specs.declared.answers.PullAnswer.{PullAnswer}
use Rattle.key_hierarchy.specs.declared.answers.PullAnswer.TheVariants.{Found, NoHolder, Absent}
use Rattle.key_hierarchy.specs.FastTransition.{pmk_r1_name}
use Rattle.key_holders.specs.Rows.{is_in}
use Rattle.key_holders.specs.Pulls.{Answers, IsNamed, MayPull}
use Rattle.key_holders.specs.Listed.{Listed, below, rows_at, Pulled}
use Rattle.key_holders.proofs.Holding.{holder_at, no_holder}
use Rattle.key_holders.proofs.Listing.{in_below}
use Rattle.key_holders.proofs.Searches.{at_position, none_at}
use Rattle.embedded_node.specs.declared.holders.PushedKey.{PushedKey}
use Rattle.embedded_node.specs.declared.untaken.Untaken.TheVariants.{Unfit}
use Rattle.embedded_node.specs.Pushed.{Holding, ids_in, is_asked, push_fault, MayGive, GivenBy, PulledFrom}

-- the key holders of the own one, the R0KH-IDs of the others, and what these gave
abbrev pub held : Listed → List (List ℕ) → List PushedKey → Holding
held own others pushed = record { own = own.ids; others = others; rows = own.rows; pushed = pushed }

-- what the key is that was found for one of the others
pub may_give : (xs : List PushedKey) (k : ℕ) (name : List ℕ) (r1kh sta : Mac) (place : ℕ) (x : PushedKey) (r1 : PmkR1) → Some place ≡ position (is_asked k name sta) xs → x ≡ get_or xs place x
    → r1 ≡ record { key = x.key; name = pmk_r1_name name r1kh sta } → MayGive xs k name r1kh sta (Found r1)
may_give xs k name r1kh sta place x r1 e is key =
    let t = at_position (is_asked k name sta) xs place e in
    let there : slice_get xs place ≡ Some x = slice_get_read xs (length xs) place x refl (slice_get_within xs place t.0 t.1) is in
    let same : t.0 ≡ x = same_some (sym t.1 ∙ there) in
    (place, x, there, ap (is_asked k name sta) (sym same) ∙ t.2, key)
  where
    same_some : {a b : PushedKey} → Some a ≡ Some b → a ≡ b
    same_some e = cc

pub may_not_give : (xs : List PushedKey) (k : ℕ) (name : List ℕ) (r1kh sta : Mac) → None ≡ position (is_asked k name sta) xs → MayGive xs k name r1kh sta Absent
may_not_give xs k name r1kh sta e = none_at (is_asked k name sta) xs e

-- the own R0KH-ID is the first of all
own_is_first : (own others : List (List ℕ)) (id : List ℕ) (r : ℕ) → length own ≡ 1 → slice_get own r ≡ Some id → (r ≡ 0) × (slice_get (own ++ others) 0 ≡ Some id)
own_is_first [] others id r one e = absurd (omega (arith, one))
own_is_first (x ∷ []) others id zero one e = (refl, e)
own_is_first (x ∷ []) others id (suc r) one e = absurd (cc)
own_is_first (x ∷ y ∷ own) others id r one e = absurd (omega (arith, one))

-- those of the others come after it
other_is_after : (own others : List (List ℕ)) (id : List ℕ) (k : ℕ) → length own ≡ 1 → slice_get others k ≡ Some id → slice_get (own ++ others) (suc k) ≡ Some id
other_is_after [] others id k one e = absurd (omega (arith, one))
other_is_after (x ∷ []) others id k one e = e
other_is_after (x ∷ y ∷ own) others id k one e = absurd (omega (arith, one))

neither : (own others : List (List ℕ)) (id : List ℕ) → length own ≡ 1 → ((r : ℕ) → slice_get own r ≢ Some id) → ((r : ℕ) → slice_get others r ≢ Some id) → (r : ℕ) → slice_get (own ++ others) r ≢ Some id
neither [] others id one mine theirs r = absurd (omega (arith, one))
neither (x ∷ []) others id one mine theirs zero = mine zero
neither (x ∷ []) others id one mine theirs (suc r) = theirs r
neither (x ∷ y ∷ own) others id one mine theirs r = absurd (omega (arith, one))

module _ (a : Holding) (id name : List ℕ) (r1kh sta : Mac) (one : length a.own ≡ 1) where
  abbrev Own : PullAnswer → Type 0
  Own answer = Pulled (record { ids = a.own; rows = a.rows }) id name r1kh sta answer

  at_own : (answer : PullAnswer) (r : ℕ) → r ≡ 0 → MayPull (rows_at a.rows r) name r1kh sta answer → GivenBy a name r1kh sta 0 answer
  at_own answer r is m = subst (λ (x : ℕ). MayPull (rows_at a.rows x) name r1kh sta answer) is m

  pub own_found : (r1 : PmkR1) → Own (Found r1) → PulledFrom a id name r1kh sta (Found r1)
  own_found r1 p = let f = own_is_first a.own a.others id p.0 one p.1 in (zero, f.1, at_own (Found r1) p.0 f.0 p.2)

  pub own_absent : Own Absent → PulledFrom a id name r1kh sta Absent
  own_absent p = let f = own_is_first a.own a.others id p.0 one p.1 in (zero, f.1, at_own Absent p.0 f.0 p.2)

  pub other_gives : (answer : PullAnswer) (k : ℕ) → Some k ≡ position (λ (i : List ℕ). bytes_eq i id) a.others → MayGive a.pushed k name r1kh sta answer → PulledFrom a id name r1kh sta answer
  other_gives (Found r1) k e m = (suc k, other_is_after a.own a.others id k one (holder_at a.others id k e), m)
  other_gives Absent k e m = (suc k, other_is_after a.own a.others id k one (holder_at a.others id k e), m)
  other_gives NoHolder k e m = absurd m

  pub none_holds : Own NoHolder → None ≡ position (λ (i : List ℕ). bytes_eq i id) a.others → PulledFrom a id name r1kh sta NoHolder
  none_holds p e = neither a.own a.others id one p (no_holder a.others id e)

  -- of the own one alone it is said what its rows are
  by_rows : (answer : PullAnswer) (r : ℕ) → GivenBy a name r1kh sta r answer → is_in r (below 1) ≡ true → MayPull (rows_at a.rows r) name r1kh sta answer
  by_rows answer zero m has = m
  by_rows answer (suc k) m has = let low = in_below (suc k) 1 has in absurd (omega (arith, low))

  pub pulled_answers : (answer : PullAnswer) → PulledFrom a id name r1kh sta answer → Answers (ids_in a) (below 1) (λ (r : ℕ). rows_at a.rows r) id name r1kh sta answer
  pulled_answers (Found r1) p = (p.0, p.1, by_rows (Found r1) p.0 p.2)
  pulled_answers Absent p = (p.0, p.1, by_rows Absent p.0 p.2)
  pulled_answers NoHolder p = p

-- what was given has the PMKR1Name of the PMKR0Name that was asked for
pub given_named : (xs : List PushedKey) (k : ℕ) (name : List ℕ) (r1kh sta : Mac) (answer : PullAnswer) → MayGive xs k name r1kh sta answer → IsNamed name r1kh sta answer
given_named xs k name r1kh sta (Found r1) m = ap (λ (y : PmkR1). y.name) m.4
given_named xs k name r1kh sta Absent m = tt
given_named xs k name r1kh sta NoHolder m = tt

-- ---- the own one is the first access point

pub has_first : (n r : ℕ) → n ≡ 1 → is_in r (below 1) ≡ true → is_in r (below n) ≡ true
has_first n r one has = subst (λ (x : ℕ). is_in r (below x) ≡ true) (sym one) has

-- ---- one of the others, and a station, are listed

pub no_fault : (o : Option ℕ) (k : ℕ) (listed : Bool) → Some k ≡ o → listed ≡ true → push_fault o listed ≡ None
no_fault o k listed there is = subst (λ (x : Option ℕ). push_fault x listed ≡ None) there (ap (λ (b : Bool). if b then None else Some Unfit) is)
