-- A row and the octets that its words hold.
use Rattle.std.proofs.Common.{◌≡◌, ℕ, zero, suc, ◌+◌, ◌^◌, ◌<◌, ◌≤◌, List, ◌∷◌, ◌++◌, length, take, drop, get_or, refl, sym, ap, subst, ◌∙◌, append_assoc, inl, inr, arith}
use Rattle.std.specs.Prelude.{slice_index}
use Rattle.std.specs.Int.{w64, to_be_bytes, from_be_bytes}
use Rattle.std.proofs.lemmas.Nat.{from_be_bytes-to_be_bytes_8}
use Rattle.std.proofs.lemmas.List.{take-append-drop, drop-drop, take_all, length-drop, get_or-take, get_or-drop, get_or_past}
use Rattle.std.proofs.lemmas.Bool.{cases_lt}
use Rattle.domain_base.specs.Places.{part}
use Rattle.key_holders.specs.declared.rows.HolderRow.{HolderRow}
use Rattle.holder_table.specs.declared.words.NameWords.{NameWords}
use Rattle.holder_table.specs.declared.words.RowWords.{RowWords}
use Rattle.holder_table.specs.Words.{octets_in, piece, row_of, row_words, name_octets}

pub piece_back : (ws : List ℕ) (k : ℕ) → k < 7 → octets_in k (slice_index ws k) ≡ piece (row_of ws) k
piece_back ws zero h = refl
piece_back ws (suc zero) h = refl
piece_back ws (suc (suc zero)) h = refl
piece_back ws (suc (suc (suc zero))) h = refl
piece_back ws (suc (suc (suc (suc zero)))) h = refl
piece_back ws (suc (suc (suc (suc (suc zero))))) h = refl
piece_back ws (suc (suc (suc (suc (suc (suc zero)))))) h = refl
piece_back ws (suc (suc (suc (suc (suc (suc (suc k))))))) h = absurd (omega arith)

-- eight octets from a place on, and what follows
front : (n : ℕ) (xs : List ℕ) → take 8 (drop n xs) ++ drop (n + 8) xs ≡ drop n xs
front n xs = ap (λ (w : List ℕ). take 8 (drop n xs) ++ w) (sym (drop-drop 8 n xs)) ∙ take-append-drop 8 (drop n xs)

pub four_parts : (xs : List ℕ) → part 0 8 xs ++ part 8 8 xs ++ part 16 8 xs ++ drop 24 xs ≡ xs
four_parts xs =
    let first = part 0 8 xs in
    let second = part 8 8 xs in
    append_assoc (first ++ second) (part 16 8 xs) (drop 24 xs)
    ∙ (ap (λ (w : List ℕ). (first ++ second) ++ w) (front 16 xs)
    ∙ (append_assoc first second (drop 16 xs)
    ∙ (ap (λ (w : List ℕ). first ++ w) (front 8 xs)
    ∙ take-append-drop 8 xs)))

pub key_parts : (xs : List ℕ) → length xs ≡ 32 → part 0 8 xs ++ part 8 8 xs ++ part 16 8 xs ++ part 24 8 xs ≡ xs
key_parts xs len =
    let rest = length-drop 24 xs in
    let last : part 24 8 xs ≡ drop 24 xs = take_all 8 (drop 24 xs) (omega (arith, rest, len)) in
    ap (λ (w : List ℕ). part 0 8 xs ++ part 8 8 xs ++ part 16 8 xs ++ w) last ∙ four_parts xs

pub name_parts : (xs : List ℕ) → length xs ≡ 16 → part 0 8 xs ++ part 8 8 xs ≡ xs
name_parts xs len =
    let rest = length-drop 8 xs in
    let last : part 8 8 xs ≡ drop 8 xs = take_all 8 (drop 8 xs) (omega (arith, rest, len)) in
    ap (λ (w : List ℕ). part 0 8 xs ++ w) last ∙ take-append-drop 8 xs

-- octets stay octets in a part
pub part_small : (xs : List ℕ) (at : ℕ) → ((i : ℕ) → get_or xs i 0 < 256) → length (part at 8 xs) ≡ 8 → (i : ℕ) → get_or (part at 8 xs) i 0 < 256
part_small xs at small len i = elim (cases_lt i 8) [
  | inl lt ↦ subst (λ (n : ℕ). n < 256) (sym (get_or-take 8 (drop at xs) i 0 lt ∙ get_or-drop at xs i 0)) (small (at + i))
  | inr ge ↦ subst (λ (n : ℕ). n < 256) (sym (get_or_past (part at 8 xs) i 0 (omega (arith, len, ge)))) (omega arith)
]

-- six octets behind two, in eight
pub mac_whole : (n : ℕ) (xs ys : List ℕ) → length xs ≡ 8 → length ys ≡ 6 → n ≡ 2 + length ys → take n xs ≡ 0 ∷ 0 ∷ ys → xs ≡ 0 ∷ 0 ∷ ys
mac_whole n xs ys len six end front = sym (take_all n xs (omega (arith, len, six, end))) ∙ front

mac_small : (ys : List ℕ) → ((i : ℕ) → get_or ys i 0 < 256) → (i : ℕ) → get_or (0 ∷ 0 ∷ ys) i 0 < 256
mac_small ys small zero = omega arith
mac_small ys small (suc zero) = omega arith
mac_small ys small (suc (suc i)) = small i

pub whole_small : (xs ys : List ℕ) → xs ≡ 0 ∷ 0 ∷ ys → ((i : ℕ) → get_or ys i 0 < 256) → (i : ℕ) → get_or xs i 0 < 256
whole_small xs ys whole small i = subst (λ (w : List ℕ). get_or w i 0 < 256) (sym whole) (mac_small ys small i)

pub mac_part : (xs ys : List ℕ) → xs ≡ 0 ∷ 0 ∷ ys → length ys ≡ 6 → part 2 6 xs ≡ ys
mac_part xs ys whole six = ap (λ (w : List ℕ). part 2 6 w) whole ∙ take_all 6 ys (omega (arith, six))

-- octets that were put one after the other up to the end
pub two_put : (a b : List ℕ) (m n : ℕ) (xs ys : List ℕ) → take m xs ≡ a → take n ys ≡ take m xs ++ b → length ys ≤ n → ys ≡ a ++ b
two_put a b m n xs ys first second whole = sym (take_all n ys whole) ∙ (second ∙ ap (λ (w : List ℕ). w ++ b) first)

pub four_put : (a b c d : List ℕ) (k l m n : ℕ) (vs ws xs ys : List ℕ) → take k vs ≡ a → take l ws ≡ take k vs ++ b → take m xs ≡ take l ws ++ c → take n ys ≡ take m xs ++ d → length ys ≤ n → ys ≡ a ++ b ++ c ++ d
four_put a b c d k l m n vs ws xs ys first second third fourth whole =
    sym (take_all n ys whole) ∙ (fourth ∙ ap (λ (w : List ℕ). w ++ d) (third ∙ ap (λ (w : List ℕ). w ++ c) (second ∙ ap (λ (w : List ℕ). w ++ b) first)))

-- words that hold the octets of a row make it
pub pieces_meet : (ws : List ℕ) (row : HolderRow) → ((k : ℕ) → k < 7 → octets_in k (slice_index ws k) ≡ piece row k) → row_of ws ≡ row
pieces_meet ws row h =
    let a : octets_in 0 (slice_index ws 0) ≡ part 0 8 row.name = h 0 (omega arith) in
    let b : octets_in 1 (slice_index ws 1) ≡ drop 8 row.name = h 1 (omega arith) in
    let c : octets_in 2 (slice_index ws 2) ≡ part 0 8 row.key = h 2 (omega arith) in
    let d : octets_in 3 (slice_index ws 3) ≡ part 8 8 row.key = h 3 (omega arith) in
    let e : octets_in 4 (slice_index ws 4) ≡ part 16 8 row.key = h 4 (omega arith) in
    let f : octets_in 5 (slice_index ws 5) ≡ drop 24 row.key = h 5 (omega arith) in
    let g : octets_in 6 (slice_index ws 6) ≡ row.sta.0 = h 6 (omega arith) in
    let name : (row_of ws).name ≡ row.name = (λ i. a i ++ b i) ∙ take-append-drop 8 row.name in
    let key : (row_of ws).key ≡ row.key = (λ i. c i ++ d i ++ e i ++ f i) ∙ four_parts row.key in
    λ i. record { name = name i; key = key i; sta = record { 0 = g i } }

-- words of the same octets are the same
pub same_word : (a b : ℕ) → a < 2 ^ 64 → b < 2 ^ 64 → to_be_bytes w64 a ≡ to_be_bytes w64 b → a ≡ b
same_word a b small less e =
    sym (from_be_bytes-to_be_bytes_8 a small) ∙ (ap (λ (w : List ℕ). from_be_bytes w64 w) e ∙ from_be_bytes-to_be_bytes_8 b less)

-- a name whose words are these, and one of which a word is another
pub name_met : (row : HolderRow) (w : NameWords) → octets_in 0 w.high ≡ piece row 0 → octets_in 1 w.low ≡ piece row 1 → row.name ≡ name_octets w
name_met row w a b = sym (take-append-drop 8 row.name) ∙ (λ i. sym a i ++ sym b i)

pub high_apart : (row : HolderRow) (n : ℕ) (w : NameWords) → n < 2 ^ 64 → w.high < 2 ^ 64 → octets_in 0 n ≡ piece row 0 → row.name ≡ name_octets w → n ≡ w.high
high_apart row n w small less a is = same_word n w.high small less (a ∙ ap (λ (xs : List ℕ). take 8 xs) is)

pub low_apart : (row : HolderRow) (n : ℕ) (w : NameWords) → n < 2 ^ 64 → w.low < 2 ^ 64 → octets_in 1 n ≡ piece row 1 → row.name ≡ name_octets w → n ≡ w.low
low_apart row n w small less a is = same_word n w.low small less (a ∙ ap (λ (xs : List ℕ). drop 8 xs) is)

-- the words of a row, one after the other
pub words_meet : (w : RowWords) (row : HolderRow) → octets_in 0 w.name.high ≡ piece row 0 → octets_in 1 w.name.low ≡ piece row 1 → octets_in 2 w.first ≡ piece row 2 → octets_in 3 w.second ≡ piece row 3 → octets_in 4 w.third ≡ piece row 4 → octets_in 5 w.fourth ≡ piece row 5 → octets_in 6 w.sta ≡ piece row 6 → row_of (row_words w) ≡ row
words_meet w row a b c d e f g = pieces_meet (row_words w) row each
  where
    each : (k : ℕ) → k < 7 → octets_in k (slice_index (row_words w) k) ≡ piece row k
    each zero h = a
    each (suc zero) h = b
    each (suc (suc zero)) h = c
    each (suc (suc (suc zero))) h = d
    each (suc (suc (suc (suc zero)))) h = e
    each (suc (suc (suc (suc (suc zero))))) h = f
    each (suc (suc (suc (suc (suc (suc zero)))))) h = g
    each (suc (suc (suc (suc (suc (suc (suc k))))))) h = absurd (omega arith)
