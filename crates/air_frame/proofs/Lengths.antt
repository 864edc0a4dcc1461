-- How long a frame is: its header, its numbers and what is behind them.
use Rattle.std.proofs.Common.{◌≡◌, ◌≤◌, ◌+◌, ℕ, List, ◌++◌, length, take, sym, ap, ◌∙◌, arith}
use Rattle.std.proofs.lemmas.List.{length-append, append_assoc, take_all}

pub put_size : (header fixed numbers rest : List ℕ) (n : ℕ) → fixed ≡ numbers → n ≡ length header + length fixed + length rest → n ≡ length (header ++ (numbers ++ rest))
put_size header fixed numbers rest n is size = omega (arith, size, ap length is, length-append header (numbers ++ rest), length-append numbers rest)

pub put_room : (header fixed numbers rest : List ℕ) (room : ℕ) → fixed ≡ numbers → length (header ++ (numbers ++ rest)) ≤ room → length header + length fixed + length rest ≤ room
put_room header fixed numbers rest room is enough = omega (arith, enough, ap length is, length-append header (numbers ++ rest), length-append numbers rest)

-- with a part between the numbers and the rest
module _ (header fixed numbers part rest : List ℕ) (is : fixed ≡ numbers) where
  pub part_room : (room : ℕ) → length (header ++ (numbers ++ (part ++ rest))) ≤ room → length header + length fixed + length part ≤ room
  part_room room enough = omega (arith, enough, ap length is, length-append header (numbers ++ (part ++ rest)), length-append numbers (part ++ rest), length-append part rest)

  pub rest_room : (room now n : ℕ) → length (header ++ (numbers ++ (part ++ rest))) ≤ room → now ≡ room → n ≡ length header + length fixed + length part → n + length rest ≤ now
  rest_room room now n enough same at = omega (arith, enough, same, at, ap length is, length-append header (numbers ++ (part ++ rest)), length-append numbers (part ++ rest), length-append part rest)

  pub part_size : (n end : ℕ) → n ≡ length header + length fixed + length part → end ≡ n + length rest → end ≡ length (header ++ (numbers ++ (part ++ rest)))
  part_size n end at last = omega (arith, at, last, ap length is, length-append header (numbers ++ (part ++ rest)), length-append numbers (part ++ rest), length-append part rest)

  pub part_octets : (head front whole : List ℕ) → header ≡ head → front ≡ header ++ (fixed ++ part) → whole ≡ front ++ rest → whole ≡ head ++ (numbers ++ (part ++ rest))
  part_octets head front whole named first all =
      all ∙ ap (λ (w : List ℕ). w ++ rest) (first ∙ ap (λ (w : List ℕ). header ++ (w ++ part)) is) ∙ append_assoc header (numbers ++ part) rest
      ∙ ap (λ (w : List ℕ). header ++ w) (append_assoc numbers part rest) ∙ ap (λ (w : List ℕ). w ++ (numbers ++ (part ++ rest))) named

-- a header piece by piece
pub header_written : (p a1 a2 a3 z o1 o2 o3 o4 o5 : List ℕ) (n : ℕ) → o1 ≡ p → o2 ≡ o1 ++ a1 → o3 ≡ o2 ++ a2 → o4 ≡ o3 ++ a3 → take n o5 ≡ o4 ++ z → length o5 ≤ n → o5 ≡ p ++ (a1 ++ (a2 ++ (a3 ++ z)))
header_written p a1 a2 a3 z o1 o2 o3 o4 o5 n f1 f2 f3 f4 f5 whole =
    sym (take_all n o5 whole) ∙ f5
    ∙ ap (λ (w : List ℕ). w ++ z) (f4 ∙ ap (λ (w : List ℕ). w ++ a3) (f3 ∙ ap (λ (w : List ℕ). w ++ a2) (f2 ∙ ap (λ (w : List ℕ). w ++ a1) f1)))
    ∙ append_assoc ((p ++ a1) ++ a2) a3 z ∙ append_assoc (p ++ a1) a2 (a3 ++ z) ∙ append_assoc p a1 (a2 ++ (a3 ++ z))
