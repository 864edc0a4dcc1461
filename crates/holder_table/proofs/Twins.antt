-- Where no two live rows have one name, one row ends at a time, and to end it is to end the rows of its name.
use Rattle.std.proofs.Common.{◌≡◌, ◌⊎◌, ℕ, zero, suc, Bool, true, false, cond, true≢false, List, [], ◌∷◌, ◌++◌, length, Some, refl, sym, ap, ◌∙◌, inl, inr, ⊎_elim, arith}
use Rattle.std.specs.Prelude.{slice_get, bytes_eq}
use Rattle.std.proofs.lemmas.Slice.Eq.{bytes_eq-Decides}
use Rattle.key_holders.specs.declared.rows.HolderRow.{HolderRow}
use Rattle.key_holders.specs.Rows.{ended}
use Rattle.key_holders.proofs.Lives.{same_some}
use Rattle.holder_table.specs.Histories.{HeldRow, live, ended_at, NoTwins}

-- each row of that name is revoked
abbrev pub NoneNamed : List ℕ → List HeldRow → Type 0
NoneNamed name ps = (j : ℕ) (p : HeldRow) → slice_get ps j ≡ Some p → p.row.name ≡ name → p.live ≡ false

abbrev pub dead : HeldRow → HeldRow
dead p = record { row = p.row; live = false }

-- a place that is dead if it has the name stays
stays : (p : HeldRow) (b : Bool) → (b ≡ true → p.live ≡ false) → cond b (dead p) p ≡ p
stays p true h = ap (λ (x : Bool). record { row = p.row; live = x }) (sym (h refl))
stays p false h = refl

none_ends : (name : List ℕ) (ps : List HeldRow) → NoneNamed name ps → ended name ps ≡ ps
none_ends name [] h = refl
none_ends name (p ∷ ps) h =
    let b : Bool = bytes_eq p.row.name name in
    let here : cond b (dead p) p ≡ p = stays p b (λ e. h zero p refl ((bytes_eq-Decides p.row.name name).0 e)) in
    let rest = none_ends name ps (λ j q e n. h (suc j) q e n) in
    λ i. here i ∷ rest i

live_or_not : (b : Bool) → (b ≡ true) ⊎ (b ≡ false)
live_or_not true = inl refl
live_or_not false = inr refl

not_twin : (i : ℕ) → zero ≡ suc i → ⊥
not_twin i e = omega arith

pub one_ends : (ps : List HeldRow) (j : ℕ) (row : HolderRow) → NoTwins ps → slice_get ps j ≡ Some (live row) → ended_at j ps ≡ ended row.name ps
one_ends [] j row one e = absurd (cc)
one_ends (p ∷ ps) zero row one e =
    let is : p ≡ live row = same_some p (live row) e in
    let name : p.row.name ≡ row.name = ap (λ (x : HeldRow). x.row.name) is in
    let lives : p.live ≡ true = ap (λ (x : HeldRow). x.live) is in
    let here : cond (bytes_eq p.row.name row.name) (dead p) p ≡ dead p = ap (λ (b : Bool). cond b (dead p) p) ((bytes_eq-Decides p.row.name row.name).1 name) in
    let rest = none_ends row.name ps (λ k q at n. ⊎_elim (λ (l : q.live ≡ true). absurd (not_twin k (one zero (suc k) p q refl at lives l (name ∙ sym n)))) (λ (d : q.live ≡ false). d) (live_or_not q.live)) in
    λ i. sym here i ∷ sym rest i
one_ends (p ∷ ps) (suc j) row one e =
    let b : Bool = bytes_eq p.row.name row.name in
    let here : cond b (dead p) p ≡ p = stays p b (λ t. ⊎_elim (λ (l : p.live ≡ true). absurd (not_twin j (one zero (suc j) p (live row) refl e l refl ((bytes_eq-Decides p.row.name row.name).0 t)))) (λ (d : p.live ≡ false). d) (live_or_not p.live)) in
    let rest = one_ends ps j row (λ x y q r ex ey lq lr n. down x y (one (suc x) (suc y) q r ex ey lq lr n)) e in
    λ i. sym here i ∷ rest i
  where
    down : (x y : ℕ) → suc x ≡ suc y → x ≡ y
    down x y e = omega arith

-- a put of a name that no live row has, and a revocation, keep it so
at_end : (ps : List HeldRow) (row : HolderRow) (i : ℕ) (p : HeldRow) → slice_get (ps ++ live row ∷ []) i ≡ Some p → (slice_get ps i ≡ Some p) ⊎ ((i ≡ length ps) × (live row ≡ p))
at_end [] row zero p e = inr (refl, same_some (live row) p e)
at_end [] row (suc i) p e = absurd (cc)
at_end (x ∷ ps) row zero p e = inl e
at_end (x ∷ ps) row (suc i) p e = ⊎_elim (λ (h : slice_get ps i ≡ Some p). inl h) (λ (h : (i ≡ length ps) × (live row ≡ p)). inr (ap suc h.0, h.1)) (at_end ps row i p e)

pub put_no_twins : (ps : List HeldRow) (row : HolderRow) → NoTwins ps → NoneNamed row.name ps → NoTwins (ps ++ live row ∷ [])
put_no_twins ps row one none i j p q ei ej lp lq n =
    ⊎_elim
    (λ (a : slice_get ps i ≡ Some p). ⊎_elim
    (λ (b : slice_get ps j ≡ Some q). one i j p q a b lp lq n)
    (λ (b : (j ≡ length ps) × (live row ≡ q)). absurd (true≢false (sym lp ∙ none i p a (n ∙ ap (λ (x : HeldRow). x.row.name) (sym b.1)))))
    (at_end ps row j q ej))
    (λ (a : (i ≡ length ps) × (live row ≡ p)). ⊎_elim
    (λ (b : slice_get ps j ≡ Some q). absurd (true≢false (sym lq ∙ none j q b (sym n ∙ ap (λ (x : HeldRow). x.row.name) (sym a.1)))))
    (λ (b : (j ≡ length ps) × (live row ≡ q)). a.0 ∙ sym b.0)
    (at_end ps row j q ej))
    (at_end ps row i p ei)

was_live : (k : ℕ) (ps : List HeldRow) (i : ℕ) (p : HeldRow) → slice_get (ended_at k ps) i ≡ Some p → p.live ≡ true → slice_get ps i ≡ Some p
was_live k [] i p e l = absurd (cc)
was_live zero (x ∷ ps) zero p e l = absurd (true≢false (sym l ∙ ap (λ (y : HeldRow). y.live) (sym (same_some (dead x) p e))))
was_live zero (x ∷ ps) (suc i) p e l = e
was_live (suc k) (x ∷ ps) zero p e l = e
was_live (suc k) (x ∷ ps) (suc i) p e l = was_live k ps i p e l

pub end_no_twins : (k : ℕ) (ps : List HeldRow) → NoTwins ps → NoTwins (ended_at k ps)
end_no_twins k ps one i j p q ei ej lp lq n = one i j p q (was_live k ps i p ei lp) (was_live k ps j q ej lq) lp lq n
