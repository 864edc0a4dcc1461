-- Keys that are forgotten one place after the other.
use Rattle.std.proofs.Common.{◌≡◌, ℕ, zero, suc, ◌+◌, ◌<◌, ◌≤◌, refl, List, [], ◌∷◌, ◌++◌, length, take, drop, set, get_or, sym, ap, ◌∙◌, subst, arith, Option}
use Rattle.domain_base.specs.declared.names.Mac.{Mac}
use Rattle.embedded_node.specs.declared.holders.PushedKey.{PushedKey}
use Rattle.embedded_node.specs.Pushed.{forgotten, forgotten_key}

forgotten_then : (sta : Option Mac) (xs : List PushedKey) (i : ℕ) (x : PushedKey) → i < length xs → x ≡ get_or (forgotten sta (take i xs) ++ drop i xs) i x
    → set (forgotten sta (take i xs) ++ drop i xs) i (forgotten_key sta x) ≡ forgotten sta (take (suc i) xs) ++ drop (suc i) xs
forgotten_then sta [] i x few e = absurd (omega arith)
forgotten_then sta (y ∷ xs) zero x few e = ap (λ (z : PushedKey). forgotten_key sta z ∷ xs) e
forgotten_then sta (y ∷ xs) (suc i) x few e = ap (λ (ys : List PushedKey). forgotten_key sta y ∷ ys) (forgotten_then sta xs i x (omega arith) e)

pub forgotten_next : (sta : Option Mac) (xs ys : List PushedKey) (i : ℕ) (x : PushedKey) → i < length xs → ys ≡ forgotten sta (take i xs) ++ drop i xs → x ≡ get_or ys i x
    → set ys i (forgotten_key sta x) ≡ forgotten sta (take (i + 1) xs) ++ drop (i + 1) xs
forgotten_next sta xs ys i x few is e =
    let one : suc i ≡ i + 1 = omega arith in
    subst (λ (zs : List PushedKey). set zs i (forgotten_key sta x) ≡ forgotten sta (take (i + 1) xs) ++ drop (i + 1) xs) (sym is)
    (subst (λ (n : ℕ). set (forgotten sta (take i xs) ++ drop i xs) i (forgotten_key sta x) ≡ forgotten sta (take n xs) ++ drop n xs) one
    (forgotten_then sta xs i x few (e ∙ ap (λ (zs : List PushedKey). get_or zs i x) is)))

forgotten_to : (sta : Option Mac) (xs : List PushedKey) (i : ℕ) → length xs ≤ i → forgotten sta (take i xs) ++ drop i xs ≡ forgotten sta xs
forgotten_to sta [] zero all = refl
forgotten_to sta [] (suc i) all = refl
forgotten_to sta (x ∷ xs) zero all = absurd (omega (arith, all))
forgotten_to sta (x ∷ xs) (suc i) all = ap (λ (ys : List PushedKey). forgotten_key sta x ∷ ys) (forgotten_to sta xs i (omega (arith, all)))

pub forgotten_all : (sta : Option Mac) (xs ys : List PushedKey) (i : ℕ) → length xs ≤ i → ys ≡ forgotten sta (take i xs) ++ drop i xs → ys ≡ forgotten sta xs
forgotten_all sta xs ys i all is = is ∙ forgotten_to sta xs i all
