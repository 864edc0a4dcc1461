-- The steps on the registers as the source keeps them: the blocks stay in place, and those before
-- the next one to be changed are the last of the standard's.
use Rattle.std.proofs.Common.{◌≡◌, ℕ, ◌<◌, ◌≤◌, ◌+◌, ◌-◌, ◌*◌, ◌/◌, ◌%◌, List, ◌++◌, length, take, drop, refl, sym, ap, ap₂, ◌∙◌, arith, length-append, length-take, length-drop, add-one, add-zero, inl, inr}
use Rattle.std.proofs.lemmas.Bool.{cases_eq}
use Rattle.std.proofs.lemmas.Nat.{div-add-mod', mod-mul-add, mod_below}
use Rattle.std.proofs.lemmas.List.{append_assoc, append-nil, take_at, drop_at, take_all, drop_all, drop-drop, take-append-drop, take-append-le, drop-append-le, length-take-le}
use Rattle.aes_block.specs.Octets.{exclusive_or}
use Rattle.aes_block.specs.Cipher.{cipher}
use Rattle.aes_block.proofs.OctetLemmas.{length-exclusive_or, exclusive_or_twice}
use Rattle.aes_block.proofs.CipherLemmas.{length-cipher}
use Rattle.key_wrap.specs.KeyWrap.{Registers, counter, step, after_steps}

-- ---- the blocks in place

-- the blocks from block i on, and then those before it
unfoldable pub turned : ℕ → List ℕ → List ℕ
turned i blocks = drop (8 * i) blocks ++ take (8 * i) blocks

-- the blocks with another block i
unfoldable pub with_block : ℕ → List ℕ → List ℕ → List ℕ
with_block i blocks new = take (8 * i) blocks ++ (new ++ drop (8 * i + 8) blocks)

pub length-with_block : (i : ℕ) (blocks new : List ℕ) → 8 * i + 8 ≤ length blocks → length new ≡ 8 → length (with_block i blocks new) ≡ length blocks
unfolding with_block
length-with_block i blocks new h len = omega (
  arith,
  length-append (take (8 * i) blocks) (new ++ drop (8 * i + 8) blocks),
  length-append new (drop (8 * i + 8) blocks),
  length-take (8 * i) blocks,
  length-drop (8 * i + 8) blocks,
)

-- the first of the turned blocks is block i
pub take-turned : (i : ℕ) (blocks : List ℕ) → 8 * i + 8 ≤ length blocks → take 8 (turned i blocks) ≡ take 8 (drop (8 * i) blocks)
unfolding turned
take-turned i blocks h =
    take-append-le 8 (drop (8 * i) blocks) (take (8 * i) blocks) (omega (arith, length-drop (8 * i) blocks))

-- block i given up at the front and another taken in at the end: the blocks with that one, turned by one more
pub turned-more : (i : ℕ) (blocks new : List ℕ) → 8 * i + 8 ≤ length blocks → length new ≡ 8
    → drop 8 (turned i blocks) ++ new ≡ turned (i + 1) (with_block i blocks new)
unfolding turned with_block
turned-more i blocks new h len =
    let front : List ℕ = take (8 * i) blocks in
    let back : List ℕ = drop (8 * i + 8) blocks in
    let front_len : length front ≡ 8 * i = length-take-le (8 * i) blocks (omega arith) in
    let place : 8 * (i + 1) ≡ 8 * i + 8 = omega arith in
    let both : length (front ++ new) ≡ 8 * i + 8 = omega (arith, length-append front new) in
    let dropped : drop 8 (drop (8 * i) blocks ++ front) ≡ back ++ front =
    drop-append-le 8 (drop (8 * i) blocks) front (omega (arith, length-drop (8 * i) blocks))
    ∙ ap (λ (w : List ℕ). w ++ front) (drop-drop 8 (8 * i) blocks) in
    let cut : drop (8 * (i + 1)) (front ++ (new ++ back)) ≡ back =
    ap (λ (k : ℕ). drop k (front ++ (new ++ back))) place ∙ ap (drop (8 * i + 8)) (sym (append_assoc front new back))
    ∙ drop_at (front ++ new) back (8 * i + 8) both in
    let kept : take (8 * (i + 1)) (front ++ (new ++ back)) ≡ front ++ new =
    ap (λ (k : ℕ). take k (front ++ (new ++ back))) place ∙ ap (take (8 * i + 8)) (sym (append_assoc front new back))
    ∙ take_at (front ++ new) back (8 * i + 8) both in
    ap (λ (w : List ℕ). w ++ new) dropped ∙ append_assoc back front new
    ∙ sym (ap₂ (λ (v w : List ℕ). v ++ w) cut kept)

pub turned-zero : (blocks : List ℕ) → turned 0 blocks ≡ blocks
unfolding turned
turned-zero blocks = append-nil blocks

-- blocks that are turned by their number are as they were
pub turned-all : (n : ℕ) (blocks : List ℕ) → length blocks ≡ 8 * n → turned n blocks ≡ turned 0 blocks
unfolding turned
turned-all n blocks len =
    ap₂ (λ (v w : List ℕ). v ++ w) (drop_all (8 * n) blocks (omega arith)) (take_all (8 * n) blocks (omega arith))
    ∙ sym (append-nil blocks)

-- (t + 1) % n, at the end of a round over the blocks and before it
next_zero : (t n : ℕ) → t % n + 1 ≡ n → (t + 1) % n ≡ 0
next_zero t n e =
    let whole : t + 1 ≡ (t / n + 1) * n + 0 = omega (arith, div-add-mod' t n) in
    ap (λ (w : ℕ). w % n) whole ∙ mod-mul-add (t / n + 1) n 0 (omega arith)

next_more : (t n : ℕ) → 0 < n → (t % n + 1 ≡ n → ⊥) → (t + 1) % n ≡ t % n + 1
next_more t n some more =
    let whole : t + 1 ≡ t / n * n + (t % n + 1) = omega (arith, div-add-mod' t n) in
    ap (λ (w : ℕ). w % n) whole ∙ mod-mul-add (t / n) n (t % n + 1) (omega (arith, mod_below t n some, more))

-- after block t modulo n the next one is t + 1 modulo n
pub turned-next : (t n : ℕ) (blocks : List ℕ) → 0 < n → length blocks ≡ 8 * n → turned (t % n + 1) blocks ≡ turned ((t + 1) % n) blocks
turned-next t n blocks some len = elim (cases_eq (t % n + 1) n) [
  | inl last ↦
      let next : (t + 1) % n ≡ 0 = next_zero t n last in
      ap (λ (k : ℕ). turned k blocks) last ∙ turned-all n blocks len ∙ ap (λ (k : ℕ). turned k blocks) (sym next)
  | inr more ↦
      ap (λ (k : ℕ). turned k blocks) (sym (next_more t n some more))
]

-- a block put back
pub with_block_back : (i : ℕ) (blocks new : List ℕ) → 8 * i + 8 ≤ length blocks → length new ≡ 8
    → with_block i (with_block i blocks new) (take 8 (drop (8 * i) blocks)) ≡ blocks
unfolding with_block
with_block_back i blocks new h len =
    let front : List ℕ = take (8 * i) blocks in
    let back : List ℕ = drop (8 * i + 8) blocks in
    let front_len : length front ≡ 8 * i = length-take-le (8 * i) blocks (omega arith) in
    let both : length (front ++ new) ≡ 8 * i + 8 = omega (arith, length-append front new) in
    let before : take (8 * i) (front ++ (new ++ back)) ≡ front = take_at front (new ++ back) (8 * i) front_len in
    let after : drop (8 * i + 8) (front ++ (new ++ back)) ≡ back =
    ap (drop (8 * i + 8)) (sym (append_assoc front new back)) ∙ drop_at (front ++ new) back (8 * i + 8) both in
    let here : take 8 (drop (8 * i) blocks) ++ back ≡ drop (8 * i) blocks =
    ap (λ (w : List ℕ). take 8 (drop (8 * i) blocks) ++ w) (sym (drop-drop 8 (8 * i) blocks)) ∙ take-append-drop 8 (drop (8 * i) blocks) in
    ap₂ (λ (v w : List ℕ). v ++ (take 8 (drop (8 * i) blocks) ++ w)) before after ∙ ap (λ (w : List ℕ). front ++ w) here
    ∙ take-append-drop (8 * i) blocks

-- what was put in is there
pub take-with_block : (i : ℕ) (blocks new : List ℕ) → 8 * i + 8 ≤ length blocks → length new ≡ 8
    → take 8 (drop (8 * i) (with_block i blocks new)) ≡ new
unfolding with_block
take-with_block i blocks new h len =
    let front : List ℕ = take (8 * i) blocks in
    let back : List ℕ = drop (8 * i + 8) blocks in
    let front_len : length front ≡ 8 * i = length-take-le (8 * i) blocks (omega arith) in
    ap (take 8) (drop_at front (new ++ back) (8 * i) front_len) ∙ take_at new back 8 len

-- ---- a step

-- the registers, from what the source keeps
unfoldable pub registers_at : List ℕ → List ℕ → ℕ → ℕ → Registers
registers_at check blocks t n = record { check = check; blocks = turned (t % n) blocks }

-- a step of the source is step t + 1 of the standard
pub step-registers_at : (kek check check' block block' blocks : List ℕ) (t n : ℕ) → 0 < n → length blocks ≡ 8 * n
    → block ≡ take 8 (drop (8 * (t % n)) blocks)
    → check' ≡ exclusive_or (take 8 (cipher kek (check ++ block))) (counter (t + 1))
    → block' ≡ drop 8 (cipher kek (check ++ block))
    → step kek (t + 1) (registers_at check blocks t n) ≡ registers_at check' (with_block (t % n) blocks block') (t + 1) n
unfolding step registers_at
step-registers_at kek check check' block block' blocks t n some len here ec eb =
    let i : ℕ = t % n in
    let lt : i < n = mod_below t n some in
    let inside : 8 * i + 8 ≤ length blocks = omega arith in
    let first : take 8 (turned i blocks) ≡ block = take-turned i blocks inside ∙ sym here in
    let encrypted : List ℕ = cipher kek (check ++ block) in
    let half : length (drop 8 encrypted) ≡ 8 = omega (arith, length-drop 8 encrypted, length-cipher kek (check ++ block)) in
    let same : cipher kek (check ++ take 8 (turned i blocks)) ≡ encrypted = ap (λ (w : List ℕ). cipher kek (check ++ w)) first in
    let upper : exclusive_or (take 8 (cipher kek (check ++ take 8 (turned i blocks)))) (counter (t + 1)) ≡ check' =
    ap (λ (w : List ℕ). exclusive_or (take 8 w) (counter (t + 1))) same ∙ sym ec in
    let lower : drop 8 (turned i blocks) ++ drop 8 (cipher kek (check ++ take 8 (turned i blocks)))
    ≡ turned ((t + 1) % n) (with_block i blocks block') =
    ap (λ (w : List ℕ). drop 8 (turned i blocks) ++ drop 8 w) same
    ∙ ap (λ (w : List ℕ). drop 8 (turned i blocks) ++ w) (sym eb)
    ∙ turned-more i blocks block' inside (ap length eb ∙ half)
    ∙ turned-next t n (with_block i blocks block') some (length-with_block i blocks block' inside (ap length eb ∙ half) ∙ len) in
    ap₂ (λ (v w : List ℕ). let r : Registers = record { check = v; blocks = w } in r) upper lower

pub after_steps-more : (kek : List ℕ) (start : Registers) (t : ℕ) → after_steps kek start (t + 1) ≡ step kek (t + 1) (after_steps kek start t)
unfolding after_steps
after_steps-more kek start t = rw add-one refl

pub after_steps-none : (kek : List ℕ) (start : Registers) → after_steps kek start 0 ≡ start
unfolding after_steps
after_steps-none kek start = refl

-- before the first step, and after any number of whole rounds, the blocks stand as they are
pub registers_at-rounds : (check blocks : List ℕ) (rounds t n : ℕ) → 0 < n → t ≡ rounds * n
    → registers_at check blocks t n ≡ record { check = check; blocks = blocks }
unfolding registers_at
registers_at-rounds check blocks rounds t n some is =
    let none : t % n ≡ 0 = ap (λ (w : ℕ). w % n) (is ∙ sym (add-zero (rounds * n))) ∙ mod-mul-add rounds n 0 some in
    ap (λ (w : List ℕ). let r : Registers = record { check = check; blocks = w } in r)
    (ap (λ (k : ℕ). turned k blocks) none ∙ turned-zero blocks)

-- a step of the source undone
pub step-undone : (kek check check' block block' blocks : List ℕ) (t n : ℕ) → 0 < n → length blocks ≡ 8 * n → length check ≡ 8
    → length block' ≡ 8 → block ≡ take 8 (drop (8 * (t % n)) blocks)
    → cipher kek (check' ++ block') ≡ exclusive_or check (counter (t + 1)) ++ block
    → step kek (t + 1) (registers_at check' (with_block (t % n) blocks block') t n) ≡ registers_at check blocks (t + 1) n
step-undone kek check check' block block' blocks t n some len len_check len_block here e =
    let i : ℕ = t % n in
    let lt : i < n = mod_below t n some in
    let inside : 8 * i + 8 ≤ length blocks = omega arith in
    let bs : List ℕ = with_block i blocks block' in
    let added : List ℕ = exclusive_or check (counter (t + 1)) in
    let len_added : length added ≡ 8 = length-exclusive_or check (counter (t + 1)) ∙ len_check in
    let upper : take 8 (cipher kek (check' ++ block')) ≡ added = ap (take 8) e ∙ take_at added block 8 len_added in
    let lower : drop 8 (cipher kek (check' ++ block')) ≡ block = ap (drop 8) e ∙ drop_at added block 8 len_added in
    let is_check : check ≡ exclusive_or (take 8 (cipher kek (check' ++ block'))) (counter (t + 1)) =
    sym (ap (λ (w : List ℕ). exclusive_or w (counter (t + 1))) upper ∙ exclusive_or_twice check (counter (t + 1))) in
    let back : with_block i bs block ≡ blocks =
    ap (with_block i bs) here ∙ with_block_back i blocks block' inside len_block in
    step-registers_at kek check' check block' block bs t n some (length-with_block i blocks block' inside len_block ∙ len)
    (sym (take-with_block i blocks block' inside len_block)) is_check (sym lower)
    ∙ ap (λ (w : List ℕ). registers_at check w (t + 1) n) back

-- ---- the octets that the source moves

-- the 16 octets of A and a block, put together half by half
pub joined_is : (check block zeros check' block' : List ℕ) → length check ≡ 8 → length block ≡ 8 → length zeros ≡ 8 → check' ≡ check → block' ≡ block
    → take 8 (check' ++ zeros) ++ (block' ++ drop 8 (drop 8 (check' ++ zeros))) ≡ check ++ block
joined_is check block zeros check' block' len _ none ec eb =
    let len' : length check' ≡ 8 = ap length ec ∙ len in
    ap₂ (λ (v w : List ℕ). v ++ (block' ++ w)) (take_at check' zeros 8 len')
    (ap (drop 8) (drop_at check' zeros 8 len') ∙ drop_all 8 zeros (omega arith))
    ∙ ap (λ (w : List ℕ). check' ++ w) (append-nil block') ∙ ap₂ (λ (v w : List ℕ). v ++ w) ec eb

-- ---- the turns of the source's loops, whose slice of block i is written as the checker has it

-- the block that is lent
lent : ℕ → List ℕ → List ℕ
lent i blocks = take (8 * i + 8 - 8 * i) (drop (8 * i) blocks)

-- the blocks once it is back
given_back : ℕ → List ℕ → List ℕ → List ℕ
given_back i blocks new = take (8 * i) blocks ++ (new ++ drop (8 * i + 8 - 8 * i) (drop (8 * i) blocks))

lent_is : (i : ℕ) (blocks : List ℕ) → lent i blocks ≡ take 8 (drop (8 * i) blocks)
unfolding lent
lent_is i blocks =
    let width : 8 * i + 8 - 8 * i ≡ 8 = omega arith in
    ap (λ (k : ℕ). take k (drop (8 * i) blocks)) width

given_back_is : (i : ℕ) (blocks new : List ℕ) → given_back i blocks new ≡ with_block i blocks new
unfolding given_back with_block
given_back_is i blocks new =
    let width : 8 * i + 8 - 8 * i ≡ 8 = omega arith in
    ap (λ (k : ℕ). take (8 * i) blocks ++ (new ++ drop k (drop (8 * i) blocks))) width
    ∙ ap (λ (w : List ℕ). take (8 * i) blocks ++ (new ++ w)) (drop-drop 8 (8 * i) blocks)

-- block t modulo n lies within the blocks
pub block_within : (t n len : ℕ) → 0 < n → len ≡ 8 * n → 8 * (t % n) + 8 ≤ len
block_within t n len some is = let lt : t % n < n = mod_below t n some in omega arith

pub length-given_back : (i : ℕ) (blocks new : List ℕ) → 8 * i + 8 ≤ length blocks → length new ≡ 8
    → length (take (8 * i) blocks ++ (new ++ drop (8 * i + 8 - 8 * i) (drop (8 * i) blocks))) ≡ length blocks
unfolding given_back
length-given_back i blocks new h len = ap length (given_back_is i blocks new) ∙ length-with_block i blocks new h len

pub wrap_turn : (kek : List ℕ) (start : Registers) (check check' new blocks : List ℕ) (t n : ℕ) → 0 < n → length blocks ≡ 8 * n
    → after_steps kek start t ≡ registers_at check blocks t n
    → check' ≡ exclusive_or (take 8 (cipher kek (check ++ take (8 * (t % n) + 8 - 8 * (t % n)) (drop (8 * (t % n)) blocks)))) (counter (t + 1))
    → new ≡ drop 8 (cipher kek (check ++ take (8 * (t % n) + 8 - 8 * (t % n)) (drop (8 * (t % n)) blocks)))
    → after_steps kek start (t + 1)
    ≡ registers_at check' (take (8 * (t % n)) blocks ++ (new ++ drop (8 * (t % n) + 8 - 8 * (t % n)) (drop (8 * (t % n)) blocks))) (t + 1) n
unfolding lent given_back
wrap_turn kek start check check' new blocks t n some len at ec eb =
    after_steps-more kek start t ∙ ap (step kek (t + 1)) at
    ∙ step-registers_at kek check check' (lent (t % n) blocks) new blocks t n some len (lent_is (t % n) blocks) ec eb
    ∙ ap (λ (w : List ℕ). registers_at check' w (t + 1) n) (sym (given_back_is (t % n) blocks new))

pub unwrap_turn : (kek : List ℕ) (start : Registers) (check check' new blocks : List ℕ) (t n : ℕ) → 0 < n → length blocks ≡ 8 * n
    → length check ≡ 8 → length new ≡ 8
    → cipher kek (check' ++ new) ≡ exclusive_or check (counter (t + 1)) ++ take (8 * (t % n) + 8 - 8 * (t % n)) (drop (8 * (t % n)) blocks)
    → after_steps kek start t
    ≡ registers_at check' (take (8 * (t % n)) blocks ++ (new ++ drop (8 * (t % n) + 8 - 8 * (t % n)) (drop (8 * (t % n)) blocks))) t n
    → after_steps kek start (t + 1) ≡ registers_at check blocks (t + 1) n
unfolding lent given_back
unwrap_turn kek start check check' new blocks t n some len len_check len_new e at =
    after_steps-more kek start t ∙ ap (step kek (t + 1)) (at ∙ ap (λ (w : List ℕ). registers_at check' w t n) (given_back_is (t % n) blocks new))
    ∙ step-undone kek check check' (lent (t % n) blocks) new blocks t n some len len_check len_new (lent_is (t % n) blocks) e

-- the halves of what is encrypted or decrypted
pub lower_half : (e : List ℕ) → length e ≡ 16 → take 8 (drop 8 e) ≡ drop 8 e
lower_half e len = take_all 8 (drop 8 e) (omega (arith, length-drop 8 e))
