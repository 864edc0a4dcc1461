-- Rows at a moment between two others.
use Rattle.std.proofs.Common.{◌≡◌, ◌⊎◌, ℕ, suc, Bool, true, false, true≢false, List, [], ◌∷◌, ◌++◌, length, Some, refl, sym, ap, ◌∙◌, subst, arith, inl, inr}
use Rattle.std.specs.Prelude.{bytes_eq, ◌&&◌, ◌||◌, if◌then◌else◌}
use Rattle.std.specs.List.{AllByRecursion, list_any}
use Rattle.std.proofs.lemmas.Bool.{cases_Bool}
use Rattle.std.proofs.lemmas.Slice.Eq.{bytes_eq-Decides}
use Rattle.domain_base.specs.declared.names.Mac.{Mac}
use Rattle.domain_base.specs.declared.names.Node.{Node}
use Rattle.key_hierarchy.specs.declared.answers.PutAnswer.TheVariants as put
use Rattle.key_hierarchy.specs.declared.answers.RevokeAnswer.TheVariants as revoked
use Rattle.key_holders.specs.declared.rows.HolderRow.{HolderRow}
use Rattle.key_holders.specs.declared.rows.HeldRow.{HeldRow}
use Rattle.key_holders.specs.Rows.{live, ended_row, ended}
use Rattle.key_holders.specs.Pulls.{is_match}
use Rattle.run_journal.specs.declared.domain.Domain.{Domain}
use Rattle.held_rows.specs.Knows.{IsOwn}
use Rattle.holder_table.specs.declared.history.HolderEvent.{HolderEvent}
use Rattle.holder_table.specs.Histories.{Follows, Grows}
use Rattle.ap_node.specs.Putting.{OneMove, Stays, PutsOne, EndsOne}

same_some : {A : Type 0} (p q : A) → Some p ≡ Some q → p ≡ q
same_some p q e = cc

-- ---- histories

-- of two beginnings of one history one is a beginning of the other
two_beginnings : (since other a b : List HolderEvent) → since ++ a ≡ other ++ b → Follows a b ⊎ Follows b a
two_beginnings [] other a b e = inr (other, e)
two_beginnings (x ∷ since) [] a b e = inl (x ∷ since, sym e)
two_beginnings (x ∷ since) (y ∷ other) a b e = two_beginnings since other a b cc

pub either_first : (a b whole : List HolderEvent) → Follows a whole → Follows b whole → Follows a b ⊎ Follows b a
either_first a b whole f g = two_beginnings f.0 g.0 a b (sym f.1 ∙ g.1)

-- ---- rows that grow

tail_grows : (x y : HeldRow) (xs ys : List HeldRow) → Grows (x ∷ xs) (y ∷ ys) → Grows xs ys
tail_grows x y xs ys grows j p e = grows (suc j) p e

head_grows : (x y : HeldRow) (xs ys : List HeldRow) → Grows (x ∷ xs) (y ∷ ys) → (y.row ≡ x.row) × (x.live ≡ false → y.live ≡ false)
head_grows x y xs ys grows =
    let at = grows 0 x refl in
    let is : at.0 ≡ y = same_some at.0 y (sym at.1) in
    (ap (λ (z : HeldRow). z.row) (sym is) ∙ at.2, λ dead. ap (λ (z : HeldRow). z.live) (sym is) ∙ at.3 dead)

nothing_grows : (x : HeldRow) (xs : List HeldRow) → Grows (x ∷ xs) [] → ⊥
nothing_grows x xs grows = let at = grows 0 x refl in cc

by_parts : (x z : HeldRow) → z.row ≡ x.row → (x.live ≡ false → z.live ≡ false) → (z.live ≡ false → x.live ≡ false) → z ≡ x
by_parts x z row dies died = ap (λ (r : HolderRow). record { row = r; live = z.live }) row ∙ ap (λ b. record { row = x.row; live = b }) (one x.live z.live dies died)
  where
    one : (a b : Bool) → (a ≡ false → b ≡ false) → (b ≡ false → a ≡ false) → b ≡ a
    one true true f g = refl
    one true false f g = sym (g refl)
    one false b f g = f refl

-- an element between two that are the same
same_head : (x z y : HeldRow) (xs zs ys : List HeldRow) → y ≡ x → Grows (x ∷ xs) (z ∷ zs) → Grows (z ∷ zs) (y ∷ ys) → z ≡ x
same_head x z y xs zs ys is first last =
    let a = head_grows x z xs zs first in
    let b = head_grows z y zs ys last in
    by_parts x z a.0 a.1 (λ dead. ap (λ (w : HeldRow). w.live) (sym is) ∙ b.1 dead)

-- rows between two that are the same
pub same_between : (xs zs : List HeldRow) → Grows xs zs → Grows zs xs → zs ≡ xs
same_between [] [] first last = refl
same_between [] (z ∷ zs) first last = absurd (nothing_grows z zs last)
same_between (x ∷ xs) [] first last = absurd (nothing_grows x xs first)
same_between (x ∷ xs) (z ∷ zs) first last =
    ap (λ (w : HeldRow). w ∷ zs) (same_head x z x xs zs xs refl first last) ∙ ap (λ (ws : List HeldRow). x ∷ ws) (same_between xs zs (tail_grows x z xs zs first) (tail_grows z x zs xs last))

-- before a row is put or behind it
put_between : (xs zs : List HeldRow) (row : HolderRow) → Grows xs zs → Grows zs (xs ++ live row ∷ []) → (zs ≡ xs) ⊎ (zs ≡ xs ++ live row ∷ [])
put_between [] [] row first last = inl refl
put_between [] (z ∷ []) row first last =
    let at = head_grows z (live row) [] [] last in
    inr (ap (λ (w : HeldRow). w ∷ []) (by_parts (live row) z (sym at.0) (λ dead. absurd (true≢false dead)) (λ dead. at.1 dead)))
put_between [] (z ∷ y ∷ zs) row first last = absurd (nothing_grows y zs (tail_grows z (live row) (y ∷ zs) [] last))
put_between (x ∷ xs) [] row first last = absurd (nothing_grows x xs first)
put_between (x ∷ xs) (z ∷ zs) row first last =
    let is = same_head x z x xs zs (xs ++ live row ∷ []) refl first last in
    elim (put_between xs zs row (tail_grows x z xs zs first) (tail_grows z x zs (xs ++ live row ∷ []) last)) [
      | inl before ↦ inl (ap (λ (w : HeldRow). w ∷ zs) is ∙ ap (λ (ws : List HeldRow). x ∷ ws) before)
      | inr behind ↦ inr (ap (λ (w : HeldRow). w ∷ zs) is ∙ ap (λ (ws : List HeldRow). x ∷ ws) behind)
    ]

-- ---- rows of a name that end

both_false : (a b c : Bool) → a ≡ false → ((b && a) && c) ≡ false
both_false a true c e = rw e refl
both_false a false c e = refl

match_named : (name : List ℕ) (sta : Mac) (x : HeldRow) → bytes_eq x.row.name name ≡ false → is_match name sta x ≡ false
match_named name sta x other = both_false (bytes_eq x.row.name name) x.live (bytes_eq x.row.sta.0 sta.0) other

match_dead : (name : List ℕ) (sta : Mac) (x : HeldRow) → x.live ≡ false → is_match name sta x ≡ false
match_dead name sta x dead = ap (λ b. (b && bytes_eq x.row.name name) && bytes_eq x.row.sta.0 sta.0) dead

-- a row between one and what a revocation leaves of it, by whether it has the name that was revoked
other_head : (n name : List ℕ) (sta : Mac) (x z : HeldRow) (b : Bool) → bytes_eq x.row.name n ≡ b → (n ≡ name → ⊥) → z.row ≡ x.row → (x.live ≡ false → z.live ≡ false)
    → (z.live ≡ false → (if b then record { row = x.row; live = false } else x).live ≡ false) → is_match name sta z ≡ is_match name sta x
other_head n name sta x z true e apart row dies died =
    let named : x.row.name ≡ n = (bytes_eq-Decides x.row.name n).0 e in
    let not_x : bytes_eq x.row.name name ≡ false = elim (cases_Bool (bytes_eq x.row.name name)) [ inl is ↦ absurd (apart (sym named ∙ (bytes_eq-Decides x.row.name name).0 is)) | inr not_so ↦ not_so ] in
    match_named name sta z (ap (λ (r : HolderRow). bytes_eq r.name name) row ∙ not_x) ∙ sym (match_named name sta x not_x)
other_head n name sta x z false e apart row dies died = ap (is_match name sta) (by_parts x z row dies died)

others_between : (n name : List ℕ) (sta : Mac) (xs zs : List HeldRow) → (n ≡ name → ⊥) → Grows xs zs → Grows zs (ended n xs) → list_any (is_match name sta) zs ≡ list_any (is_match name sta) xs
others_between n name sta [] [] apart first last = refl
others_between n name sta [] (z ∷ zs) apart first last = absurd (nothing_grows z zs last)
others_between n name sta (x ∷ xs) [] apart first last = absurd (nothing_grows x xs first)
others_between n name sta (x ∷ xs) (z ∷ zs) apart first last =
    let a = head_grows x z xs zs first in
    let b = head_grows z (ended_row n x) zs (ended n xs) last in
    let here = other_head n name sta x z (bytes_eq x.row.name n) refl apart a.0 a.1 b.1 in
    let there = others_between n name sta xs zs apart (tail_grows x z xs zs first) (tail_grows z (ended_row n x) zs (ended n xs) last) in
    λ i. here i || there i

-- no row of the name that was revoked is live
none_left : (n : List ℕ) (sta : Mac) (xs : List HeldRow) → list_any (is_match n sta) (ended n xs) ≡ false
none_left n sta [] = refl
none_left n sta (x ∷ xs) = neither (is_match n sta (ended_row n x)) (list_any (is_match n sta) (ended n xs)) (head (bytes_eq x.row.name n) refl) (none_left n sta xs)
  where
    neither : (a b : Bool) → a ≡ false → b ≡ false → (a || b) ≡ false
    neither true b e f = absurd (true≢false e)
    neither false b e f = f

    head : (b : Bool) → bytes_eq x.row.name n ≡ b → is_match n sta (if b then record { row = x.row; live = false } else x) ≡ false
    head true e = refl
    head false e = match_named n sta x e

-- a live row of a name and a station was live before
was_live : (name : List ℕ) (sta : Mac) (xs zs : List HeldRow) → length zs ≡ length xs → Grows xs zs → list_any (is_match name sta) zs ≡ true → list_any (is_match name sta) xs ≡ true
was_live name sta [] [] count first is = is
was_live name sta [] (z ∷ zs) count first is = absurd (omega (arith, count))
was_live name sta (x ∷ xs) [] count first is = absurd (nothing_grows x xs first)
was_live name sta (x ∷ xs) (z ∷ zs) count first is =
    let a = head_grows x z xs zs first in
    by_or (is_match name sta z) (is_match name sta x) (list_any (is_match name sta) zs) (list_any (is_match name sta) xs) (one a.0 a.1) (was_live name sta xs zs (omega (arith, count)) (tail_grows x z xs zs first)) is
  where
    by_or : (a b c d : Bool) → (a ≡ true → b ≡ true) → (c ≡ true → d ≡ true) → (a || c) ≡ true → (b || d) ≡ true
    by_or true b c d f g e = ap (λ x. x || d) (f refl)
    by_or false true c d f g e = refl
    by_or false false c d f g e = g e

    one : z.row ≡ x.row → (x.live ≡ false → z.live ≡ false) → is_match name sta z ≡ true → is_match name sta x ≡ true
    one row dies e = elim (cases_Bool x.live) [
      | inl lives ↦ (elim (cases_Bool z.live) [
        | inl still ↦ ap (λ b. (b && bytes_eq x.row.name name) && bytes_eq x.row.sta.0 sta.0) lives ∙ sym (ap (λ b. (b && bytes_eq x.row.name name) && bytes_eq x.row.sta.0 sta.0) still) ∙ (ap (λ (r : HolderRow). (z.live && bytes_eq r.name name) && bytes_eq r.sta.0 sta.0) (sym row) ∙ e)
        | inr dead ↦ absurd (true≢false (sym e ∙ match_dead name sta z dead))
      ])
      | inr dead ↦ absurd (true≢false (sym e ∙ match_dead name sta z (dies dead)))
    ]

ended_len : (n : List ℕ) (xs : List HeldRow) → length (ended n xs) ≡ length xs
ended_len n [] = refl
ended_len n (x ∷ xs) = ap suc (ended_len n xs)

same_length : (xs zs ys : List HeldRow) → length ys ≡ length xs → Grows xs zs → Grows zs ys → length zs ≡ length xs
same_length [] [] ys e f g = refl
same_length [] (z ∷ zs) [] e f g = absurd (nothing_grows z zs g)
same_length [] (z ∷ zs) (y ∷ ys) e f g = absurd (omega (arith, e))
same_length (x ∷ xs) [] ys e f g = absurd (nothing_grows x xs f)
same_length (x ∷ xs) (z ∷ zs) [] e f g = absurd (nothing_grows z zs g)
same_length (x ∷ xs) (z ∷ zs) (y ∷ ys) e f g = ap suc (same_length xs zs ys (omega (arith, e)) (tail_grows x z xs zs f) (tail_grows z y zs ys g))

-- before a revocation, or behind it
end_between : (n name : List ℕ) (sta : Mac) (xs zs : List HeldRow) → Grows xs zs → Grows zs (ended n xs)
    → (list_any (is_match name sta) zs ≡ list_any (is_match name sta) xs) ⊎ (list_any (is_match name sta) zs ≡ list_any (is_match name sta) (ended n xs))
end_between n name sta xs zs first last = elim (cases_Bool (bytes_eq n name)) [
  | inl is ↦
      let named : n ≡ name = (bytes_eq-Decides n name).0 is in
      let none : list_any (is_match name sta) (ended n xs) ≡ false = ap (λ (m : List ℕ). list_any (is_match name sta) (ended m xs)) named ∙ none_left name sta xs in
      elim (cases_Bool (list_any (is_match name sta) zs)) [
        | inl some ↦ inl (some ∙ sym (was_live name sta xs zs (same_length xs zs (ended n xs) (ended_len n xs) first last) first some))
        | inr dead ↦ inr (dead ∙ sym none)
      ]
  | inr other ↦ inl (others_between n name sta xs zs (λ same. true≢false (sym ((bytes_eq-Decides n name).1 same) ∙ other)) first last)
]

-- ---- one move

-- Where rows moved at most once, then whether a row of a name and a station is live is at any moment between as before or as behind.
pub move_between : (name : List ℕ) (sta : Mac) (xs zs ys : List HeldRow) → OneMove xs ys → Grows xs zs → Grows zs ys
    → (list_any (is_match name sta) zs ≡ list_any (is_match name sta) xs) ⊎ (list_any (is_match name sta) zs ≡ list_any (is_match name sta) ys)
move_between name sta xs zs ys (Stays is) first last = inl (ap (list_any (is_match name sta)) (same_between xs zs first (subst (Grows zs) is last)))
move_between name sta xs zs ys (PutsOne row put.Held is) first last = elim (put_between xs zs row first (subst (Grows zs) is last)) [
  | inl before ↦ inl (ap (list_any (is_match name sta)) before)
  | inr behind ↦ inr (ap (list_any (is_match name sta)) (behind ∙ sym is))
]
move_between name sta xs zs ys (PutsOne row put.HeldAlready is) first last = inl (ap (list_any (is_match name sta)) (same_between xs zs first (subst (Grows zs) is last)))
move_between name sta xs zs ys (PutsOne row put.Full is) first last = inl (ap (list_any (is_match name sta)) (same_between xs zs first (subst (Grows zs) is last)))
move_between name sta xs zs ys (PutsOne row put.NoMemory is) first last = inl (ap (list_any (is_match name sta)) (same_between xs zs first (subst (Grows zs) is last)))
move_between name sta xs zs ys (EndsOne n revoked.Revoked is) first last = elim (end_between n name sta xs zs first (subst (Grows zs) is last)) [
  | inl before ↦ inl before
  | inr behind ↦ inr (behind ∙ ap (list_any (is_match name sta)) (sym is))
]
move_between name sta xs zs ys (EndsOne n revoked.Absent is) first last = inl (ap (list_any (is_match name sta)) (same_between xs zs first (subst (Grows zs) is last)))

-- ---- whose rows they are

-- a row that lives lived before
still_own : (d : Domain) (n : Node) (x z : HeldRow) → z.row ≡ x.row → (x.live ≡ false → z.live ≡ false) → IsOwn d n x → IsOwn d n z
still_own d n x z row dies own = record {
  sta = own.sta;
  listed = own.listed;
  psk = own.psk;
  is = row ∙ own.is;
  present = λ lives. elim (cases_Bool x.live) [
    | inl lived ↦ own.present lived
    | inr dead ↦ absurd (true≢false (sym lives ∙ dies dead))
  ];
}

own_on : (d : Domain) (n : Node) (xs zs : List HeldRow) → length zs ≡ length xs → Grows xs zs → AllByRecursion (IsOwn d n) xs → AllByRecursion (IsOwn d n) zs
own_on d n xs [] count grows all = tt
own_on d n [] (z ∷ zs) count grows all = absurd (omega (arith, count))
own_on d n (x ∷ xs) (z ∷ zs) count grows all =
    let a = head_grows x z xs zs grows in
    (still_own d n x z a.0 a.1 all.0, own_on d n xs zs (omega (arith, count)) (tail_grows x z xs zs grows) all.1)

-- Where rows moved at most once, those at any moment between are of the stations whose they were before and are behind.
pub own_between : (d : Domain) (n : Node) (xs zs ys : List HeldRow) → OneMove xs ys → Grows xs zs → Grows zs ys → AllByRecursion (IsOwn d n) xs → AllByRecursion (IsOwn d n) ys → AllByRecursion (IsOwn d n) zs
own_between d n xs zs ys (Stays is) first last before behind = subst (AllByRecursion (IsOwn d n)) (sym (same_between xs zs first (subst (Grows zs) is last))) before
own_between d n xs zs ys (PutsOne row put.Held is) first last before behind = elim (put_between xs zs row first (subst (Grows zs) is last)) [
  | inl here_ ↦ subst (AllByRecursion (IsOwn d n)) (sym here_) before
  | inr there ↦ subst (AllByRecursion (IsOwn d n)) (is ∙ sym there) behind
]
own_between d n xs zs ys (PutsOne row put.HeldAlready is) first last before behind = subst (AllByRecursion (IsOwn d n)) (sym (same_between xs zs first (subst (Grows zs) is last))) before
own_between d n xs zs ys (PutsOne row put.Full is) first last before behind = subst (AllByRecursion (IsOwn d n)) (sym (same_between xs zs first (subst (Grows zs) is last))) before
own_between d n xs zs ys (PutsOne row put.NoMemory is) first last before behind = subst (AllByRecursion (IsOwn d n)) (sym (same_between xs zs first (subst (Grows zs) is last))) before
own_between d n xs zs ys (EndsOne name revoked.Revoked is) first last before behind =
    own_on d n xs zs (same_length xs zs (ended name xs) (ended_len name xs) first (subst (Grows zs) is last)) first before
own_between d n xs zs ys (EndsOne name revoked.Absent is) first last before behind = subst (AllByRecursion (IsOwn d n)) (sym (same_between xs zs first (subst (Grows zs) is last))) before
