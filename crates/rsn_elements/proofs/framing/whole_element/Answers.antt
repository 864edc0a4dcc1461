use Rattle.std.proofs.Common.{◌≡◌, ℕ, suc, ◌+◌, ◌-◌, ◌≤◌, List, [], ◌∷◌, ◌++◌, length, take, drop, get_or, sym, ap, ◌∙◌, arith}
use Rattle.std.proofs.lemmas.List.{length-take-le, take-append-drop, take_all}
use Rattle.rsn_elements.proofs.framing.whole_element.Goals as goal

-- the id, the length, and a body of that length
element_cut : (octets body rest whole : List ℕ) (size : ℕ) → 2 ≤ length octets → size ≡ get_or octets 1 0 → size ≤ length (take (length octets - 2) (drop 2 octets))
    → body ≡ take size (take (length octets - 2) (drop 2 octets)) → rest ≡ drop size (take (length octets - 2) (drop 2 octets)) → whole ≡ take (2 + size) octets
    → (octets ≡ get_or octets 0 0 ∷ length body ∷ (body ++ rest)) × (whole ≡ get_or octets 0 0 ∷ length body ∷ body)
element_cut [] body rest whole size low is high front back all = absurd (omega arith)
element_cut (x ∷ []) body rest whole size low is high front back all = absurd (omega arith)
element_cut (x ∷ y ∷ t) body rest whole size low is high front back all =
    let tail : take (length (x ∷ y ∷ t) - 2) t ≡ t = take_all (length (x ∷ y ∷ t) - 2) t (omega arith) in
    let long : length body ≡ size = ap length front ∙ length-take-le size (take (length (x ∷ y ∷ t) - 2) t) high in
    let same : y ≡ length body = sym is ∙ sym long in
    let count : 2 + size ≡ suc (suc size) = omega arith in
    let first : body ≡ take size t = front ∙ ap (λ (w : List ℕ). take size w) tail in
    let second : rest ≡ drop size t = back ∙ ap (λ (w : List ℕ). drop size w) tail in
    let cut : body ++ rest ≡ t = ap (λ (w : List ℕ). w ++ rest) first ∙ ap (λ (w : List ℕ). take size t ++ w) second ∙ take-append-drop size t in (
      ap (λ (w : List ℕ). x ∷ y ∷ w) (sym cut) ∙ ap (λ (n : ℕ). x ∷ n ∷ (body ++ rest)) same,
      all ∙ ap (λ (n : ℕ). take n (x ∷ y ∷ t)) count ∙ ap (λ (w : List ℕ). x ∷ y ∷ w) (sym first) ∙ ap (λ (n : ℕ). x ∷ n ∷ body) same,
    )

pub returns : goal.returns
returns c =
    element_cut c.args.octets.now _ _ _ _ c.in-len2-up.len_at_least c.from-size.ensures c.if-tail-size.false c.split_at.ensures.front c.split_at.ensures.back c.split_at-2.ensures.front
