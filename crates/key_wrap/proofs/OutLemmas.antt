-- What the two public calls leave in the slice that they write to.
use Rattle.std.proofs.Common.{◌≡◌, ℕ, ◌<◌, ◌≤◌, ◌+◌, ◌-◌, ◌*◌, ◌/◌, ◌%◌, List, [], ◌++◌, get_or, length, take, drop, sym, ap, ap₂, ◌∙◌, arith, length-append, length-drop}
use Rattle.std.proofs.lemmas.List.{get_or_append_left, append_assoc, append-nil, take_at, drop_at, take_all, drop-drop, drop-take, drop_all, length-take-le}
use Rattle.std.proofs.lemmas.List.Elements.{All-from_get_or}
use Rattle.domain_base.specs.Octets.{AreOctets}
use Rattle.key_wrap.specs.KeyWrap.{Registers, after_steps, initial_value, last_registers, Wraps}
use Rattle.key_wrap.proofs.UniqueLemmas.{start_of}

-- two lists of which the second is what an old one had from the end of the first on
pub drop_joined : (front old : List ℕ) (end n : ℕ) → length front ≡ end → end ≤ n → drop n (front ++ drop end old) ≡ drop n old
drop_joined front old end n len h =
    let more : end + (n - end) ≡ n = omega arith in
    ap (λ (k : ℕ). drop k (front ++ drop end old)) (sym more) ∙ sym (drop-drop (n - end) end (front ++ drop end old))
    ∙ ap (drop (n - end)) (drop_at front (drop end old) end len)
    ∙ drop-drop (n - end) end old ∙ ap (λ (k : ℕ). drop k old) more

-- ---- wrapping: the plain text is copied behind the first 8 octets, wrapped there, and A put before it

-- the plain text as it stands in the slice
pub copied : (out copy : List ℕ) (k : ℕ) → 8 ≤ length out → length copy ≡ k
    → take k (drop 8 (take 8 out ++ (copy ++ drop k (drop 8 out)))) ≡ copy
copied out copy k room len =
    ap (take k) (drop_at (take 8 out) (copy ++ drop k (drop 8 out)) 8 (length-take-le 8 out room))
    ∙ take_at copy (drop k (drop 8 out)) k len

-- the octets that are wrapped in their place: it is the plain text that stands behind the first 8
pub copied_behind : (out copy : List ℕ) (n k : ℕ) → k ≡ n → n + 8 ≤ length out → length copy ≡ n
    → drop 8 (take (n + 8) (take 8 out ++ (copy ++ drop k (drop 8 out)))) ≡ copy
copied_behind out copy n k same room len =
    let first : List ℕ = take 8 out ++ (copy ++ drop k (drop 8 out)) in
    let turned : n + 8 ≡ 8 + k = omega arith in
    ap (λ (m : ℕ). drop 8 (take m first)) turned ∙ drop-take 8 k first ∙ copied out copy k (omega arith) (omega arith)

-- and what stands behind it is as it was
pub copied_rest : (out copy : List ℕ) (n k m : ℕ) → k ≡ n → n + 8 ≤ length out → length copy ≡ n → n + 8 ≤ m
    → drop m (take 8 out ++ (copy ++ drop k (drop 8 out))) ≡ drop m out
copied_rest out copy n k m same room len h =
    let front : length (take 8 out ++ copy) ≡ n + 8 = omega (arith, length-append (take 8 out) copy, length-take-le 8 out (omega arith)) in
    let turned : 8 + k ≡ n + 8 = omega arith in
    ap (drop m) (sym (append_assoc (take 8 out) copy (drop k (drop 8 out))) ∙ ap (λ (w : List ℕ). (take 8 out ++ copy) ++ w) (drop-drop k 8 out ∙ ap (λ (i : ℕ). drop i out) turned))
    ∙ drop_joined (take 8 out ++ copy) out (n + 8) m front h

-- the blocks are wrapped in their place, and A is put before them
pub wrapped_in_place : (octets blocks check : List ℕ) (k : ℕ) → 8 ≤ length octets → k ≡ length octets - 8
    → check ++ drop 8 (take 8 octets ++ (blocks ++ drop k (drop 8 octets))) ≡ check ++ blocks
wrapped_in_place octets blocks check k room len =
    let none : drop k (drop 8 octets) ≡ [] = drop_all k (drop 8 octets) (omega (arith, length-drop 8 octets)) in
    ap (λ (w : List ℕ). check ++ w)
    (drop_at (take 8 octets) (blocks ++ drop k (drop 8 octets)) 8 (length-take-le 8 octets room) ∙ ap (λ (w : List ℕ). blocks ++ w) none ∙ append-nil blocks)

pub take_wrapped : (front old : List ℕ) (end : ℕ) → length front ≡ end → take end (front ++ drop end old) ≡ front
take_wrapped front old end len = take_at front (drop end old) end len

pub Wraps-made : (kek key plain copy check written blocks : List ℕ) → length plain % 8 ≡ 0 → 16 ≤ length plain → AreOctets plain
    → key ≡ kek → copy ≡ plain → written ≡ check
    → after_steps key (start_of initial_value copy) (6 * (length copy / 8)) ≡ start_of check blocks
    → Wraps kek plain (written ++ blocks)
Wraps-made kek key plain copy check written blocks whole two are ek ec ew at =
    let last : last_registers kek plain ≡ start_of check blocks =
    ap₂ (λ (k p : List ℕ). after_steps k (start_of initial_value p) (6 * (length p / 8))) (sym ek) (sym ec) ∙ at in record {
      whole_blocks = whole;
      two_blocks = two;
      are_octets = are;
      wrapped = ap (λ (w : List ℕ). w ++ blocks) ew ∙ sym (ap (λ (r : Registers). r.check ++ r.blocks) last);
    }

-- ---- unwrapping: the blocks are copied to the front and unwrapped there

-- the registers that the steps take to the input
pub unwrapped_at : (kek key wrapped out copy first check blocks : List ℕ) (end : ℕ) → 8 ≤ length wrapped → end ≡ length wrapped - 8
    → key ≡ kek → copy ≡ take end (drop 8 wrapped) → first ≡ take 8 wrapped → length blocks ≡ end
    → after_steps key (start_of check blocks) (6 * (length (take end (copy ++ drop end out)) / 8)) ≡ start_of first (take end (copy ++ drop end out))
    → after_steps kek (start_of check blocks) (6 * (length blocks / 8)) ≡ start_of (take 8 wrapped) (drop 8 wrapped)
unwrapped_at kek key wrapped out copy first check blocks end long is ek ec ef len at =
    let whole : copy ≡ drop 8 wrapped = ec ∙ take_all end (drop 8 wrapped) (omega (arith, length-drop 8 wrapped)) in
    let len_copy : length copy ≡ end = ap length whole ∙ omega (arith, length-drop 8 wrapped) in
    let same : take end (copy ++ drop end out) ≡ copy = take_at copy (drop end out) end len_copy in
    let count : length blocks ≡ length (take end (copy ++ drop end out)) = len ∙ sym (ap length same ∙ len_copy) in
    ap₂ (λ (k : List ℕ) (m : ℕ). after_steps k (start_of check blocks) (6 * (m / 8))) (sym ek) count ∙ at
    ∙ ap₂ start_of ef (same ∙ whole)

-- the slice at the end
pub take_unwrapped : (out copy blocks : List ℕ) (end : ℕ) → length blocks ≡ end → take end (blocks ++ drop end (copy ++ drop end out)) ≡ blocks
take_unwrapped out copy blocks end len = take_at blocks (drop end (copy ++ drop end out)) end len

pub drop_unwrapped : (out copy blocks : List ℕ) (end n : ℕ) → length blocks ≡ end → length copy ≡ end → end ≤ n
    → drop n (blocks ++ drop end (copy ++ drop end out)) ≡ drop n out
drop_unwrapped out copy blocks end n len len' h =
    drop_joined blocks (copy ++ drop end out) end n len h ∙ drop_joined copy out end n len' h

-- the front of a slice of octets
pub octets_unwrapped : (front rest : List ℕ) → ((k : ℕ) → get_or (front ++ rest) k 0 < 256) → AreOctets front
octets_unwrapped front rest below = All-from_get_or (λ (x : ℕ). x < 256) front 0 (λ k h.
    let e = get_or_append_left front rest 0 k h in
    let b = below k in
    omega arith)
