-- No two registers are taken to one by the steps, so no two plain texts are wrapped to one input.
use Rattle.std.proofs.Common.{◌≡◌, ℕ, zero, suc, ◌<◌, ◌≤◌, ◌+◌, ◌-◌, ◌*◌, ◌/◌, ◌%◌, List, [], ◌∷◌, ◌++◌, length, take, drop, refl, sym, ap, ap₂, ◌∙◌, arith, length-append, length-drop}
use Rattle.std.proofs.lemmas.Nat.{mod_below}
use Rattle.std.proofs.lemmas.List.{take_at, drop_at, take-append-drop, length-take-le}
use Rattle.std.proofs.lemmas.List.Elements.{All-append, All-take, All-drop, All-cons, All-nil, All-replicate}
use Rattle.domain_base.specs.Octets.{AreOctets}
use Rattle.aes_block.specs.Octets.{IsBlock}
use Rattle.aes_block.specs.Cipher.{cipher}
use Rattle.aes_block.proofs.OctetLemmas.{length-exclusive_or, exclusive_or-cancel, AreOctets-exclusive_or}
use Rattle.aes_block.proofs.CipherLemmas.{length-cipher, AreOctets-cipher, cipher-injective}
use Rattle.key_wrap.specs.KeyWrap.{Registers, counter, step, after_steps, initial_value, last_registers, Wraps}

-- A has 8 octets, and there are n blocks of 8 octets
pub record AreRegisters (s : Registers) (n : ℕ) : Type 0 where
  pub check_len : length s.check ≡ 8
  pub blocks_len : length s.blocks ≡ 8 * n
  pub check_octets : AreOctets s.check
  pub blocks_octets : AreOctets s.blocks

eight_octets : (a b c d e f g h : ℕ) → a < 256 → b < 256 → c < 256 → d < 256 → e < 256 → f < 256 → g < 256 → h < 256
    → AreOctets (a ∷ b ∷ c ∷ d ∷ e ∷ f ∷ g ∷ h ∷ [])
eight_octets a b c d e f g h pa pb pc pd pe pf pg ph =
    let P : ℕ → Type 0 = λ x. x < 256 in
    All-cons P a (b ∷ c ∷ d ∷ e ∷ f ∷ g ∷ h ∷ []) pa (All-cons P b (c ∷ d ∷ e ∷ f ∷ g ∷ h ∷ []) pb
    (All-cons P c (d ∷ e ∷ f ∷ g ∷ h ∷ []) pc (All-cons P d (e ∷ f ∷ g ∷ h ∷ []) pd (All-cons P e (f ∷ g ∷ h ∷ []) pe
    (All-cons P f (g ∷ h ∷ []) pf (All-cons P g (h ∷ []) pg (All-cons P h [] ph (All-nil P))))))))

AreOctets-counter : (t : ℕ) → AreOctets (counter t)
unfolding counter
AreOctets-counter t =
    let some : 0 < 256 = omega arith in
    let low = λ (x : ℕ). mod_below x 256 some in
    eight_octets _ _ _ _ _ _ _ _ (low (t / 72057594037927936)) (low (t / 281474976710656)) (low (t / 1099511627776)) (low (t / 4294967296))
    (low (t / 16777216)) (low (t / 65536)) (low (t / 256)) (low t)

-- what a step encrypts is a block
IsBlock-front : (s : Registers) (n : ℕ) → AreRegisters s (suc n) → IsBlock (s.check ++ take 8 s.blocks)
IsBlock-front s n h = record {
  sixteen = omega (arith, length-append s.check (take 8 s.blocks), h.check_len, length-take-le 8 s.blocks (omega (arith, h.blocks_len)));
  are_octets = All-append (λ (x : ℕ). x < 256) s.check (take 8 s.blocks) h.check_octets (All-take (λ (x : ℕ). x < 256) 8 s.blocks h.blocks_octets);
}

AreRegisters-step : (kek : List ℕ) (t n : ℕ) (s : Registers) → AreOctets kek → AreRegisters s (suc n) → AreRegisters (step kek t s) (suc n)
unfolding step
AreRegisters-step kek t n s of_kek h =
    let P : ℕ → Type 0 = λ x. x < 256 in
    let block : List ℕ = s.check ++ take 8 s.blocks in
    let e : List ℕ = cipher kek block in
    let len : length e ≡ 16 = length-cipher kek block in
    let are : AreOctets e = AreOctets-cipher kek block of_kek (IsBlock-front s n h).are_octets in record {
      check_len = length-exclusive_or (take 8 e) (counter t) ∙ length-take-le 8 e (omega arith);
      blocks_len = omega (arith, length-append (drop 8 s.blocks) (drop 8 e), length-drop 8 s.blocks, length-drop 8 e, h.blocks_len);
      check_octets = AreOctets-exclusive_or (take 8 e) (counter t) (All-take P 8 e are) (AreOctets-counter t);
      blocks_octets = All-append P (drop 8 s.blocks) (drop 8 e) (All-drop P 8 s.blocks h.blocks_octets) (All-drop P 8 e are);
    }

pub AreRegisters-after_steps : (kek : List ℕ) (n : ℕ) (s : Registers) (t : ℕ) → AreOctets kek → AreRegisters s (suc n)
    → AreRegisters (after_steps kek s t) (suc n)
unfolding after_steps
AreRegisters-after_steps kek n s zero of_kek h = h
AreRegisters-after_steps kek n s (suc t) of_kek h =
    AreRegisters-step kek (suc t) n (after_steps kek s t) of_kek (AreRegisters-after_steps kek n s t of_kek h)

-- two pairs of lists that join to one, where the first are of one length
pub append-parts : (a b c d : List ℕ) → length a ≡ length c → a ++ b ≡ c ++ d → (a ≡ c) × (b ≡ d)
append-parts a b c d len e = (
  sym (take_at a b (length a) refl) ∙ ap (take (length a)) e ∙ take_at c d (length a) (sym len),
  sym (drop_at a b (length a) refl) ∙ ap (drop (length a)) e ∙ drop_at c d (length a) (sym len),
)

-- two lists that agree in their first 8 octets and in the others are one
same_from_parts : (a b : List ℕ) → take 8 a ≡ take 8 b → drop 8 a ≡ drop 8 b → a ≡ b
same_from_parts a b e f = sym (take-append-drop 8 a) ∙ ap₂ (λ (v w : List ℕ). v ++ w) e f ∙ take-append-drop 8 b

pub same_registers : (s s' : Registers) → s.check ≡ s'.check → s.blocks ≡ s'.blocks → s ≡ s'
same_registers s s' e f = ap₂ (λ (v w : List ℕ). let r : Registers = record { check = v; blocks = w } in r) e f

step-injective : (kek : List ℕ) (t n : ℕ) (s s' : Registers) → AreOctets kek → AreRegisters s (suc n) → AreRegisters s' (suc n)
    → step kek t s ≡ step kek t s' → s ≡ s'
unfolding step
step-injective kek t n s s' of_kek h h' same =
    let p : List ℕ = s.check ++ take 8 s.blocks in
    let p' : List ℕ = s'.check ++ take 8 s'.blocks in
    let e : List ℕ = cipher kek p in
    let e' : List ℕ = cipher kek p' in
    let upper : take 8 e ≡ take 8 e' = exclusive_or-cancel (take 8 e) (take 8 e') (counter t) (ap (λ (r : Registers). r.check) same) in
    let blocks : drop 8 s.blocks ++ drop 8 e ≡ drop 8 s'.blocks ++ drop 8 e' = ap (λ (r : Registers). r.blocks) same in
    let parts = append-parts (drop 8 s.blocks) (drop 8 e) (drop 8 s'.blocks) (drop 8 e')
    (omega (arith, length-drop 8 s.blocks, length-drop 8 s'.blocks, h.blocks_len, h'.blocks_len)) blocks in
    let encrypted : e ≡ e' = same_from_parts e e' upper parts.1 in
    let front : p ≡ p' = cipher-injective kek p p' of_kek (IsBlock-front s n h) (IsBlock-front s' n h') encrypted in
    let halves = append-parts s.check (take 8 s.blocks) s'.check (take 8 s'.blocks) (h.check_len ∙ sym h'.check_len) front in
    same_registers s s' halves.0 (same_from_parts s.blocks s'.blocks halves.1 parts.0)

pub after_steps-injective : (kek : List ℕ) (n : ℕ) (s s' : Registers) (t : ℕ) → AreOctets kek → AreRegisters s (suc n) → AreRegisters s' (suc n)
    → after_steps kek s t ≡ after_steps kek s' t → s ≡ s'
unfolding after_steps
after_steps-injective kek n s s' zero of_kek h h' same = same
after_steps-injective kek n s s' (suc t) of_kek h h' same =
    after_steps-injective kek n s s' t of_kek h h' (step-injective kek (suc t) n (after_steps kek s t) (after_steps kek s' t) of_kek
    (AreRegisters-after_steps kek n s t of_kek h) (AreRegisters-after_steps kek n s' t of_kek h') same)

-- ---- wrapping

abbrev pub start_of : List ℕ → List ℕ → Registers
start_of check blocks = record { check = check; blocks = blocks }

AreRegisters-plain : (plain : List ℕ) → length plain % 8 ≡ 0 → 16 ≤ length plain → AreOctets plain
    → AreRegisters (start_of initial_value plain) (suc (length plain / 8 - 1))
AreRegisters-plain plain whole two are = record {
  check_len = refl;
  blocks_len = omega arith;
  check_octets = All-replicate (λ (x : ℕ). x < 256) 8 0xa6 (omega arith);
  blocks_octets = are;
}

-- what is wrapped is the registers at the end, in a row
Wraps-last : (kek plain out : List ℕ) → AreOctets kek → Wraps kek plain out
    → (last_registers kek plain ≡ start_of (take 8 out) (drop 8 out)) × (length out ≡ length plain + 8)
Wraps-last kek plain out of_kek w =
    let l : Registers = last_registers kek plain in
    let are = AreRegisters-after_steps kek (length plain / 8 - 1) (start_of initial_value plain) (6 * (length plain / 8)) of_kek
    (AreRegisters-plain plain w.whole_blocks w.two_blocks w.are_octets) in
    let len : length out ≡ length plain + 8 =
    ap length w.wrapped ∙ length-append l.check l.blocks ∙ omega (arith, are.check_len, are.blocks_len, w.whole_blocks, w.two_blocks) in
    let front : length l.check ≡ length (take 8 out) =
    are.check_len ∙ sym (length-take-le 8 out (omega arith)) in
    let parts = append-parts l.check l.blocks (take 8 out) (drop 8 out) front (sym w.wrapped ∙ sym (take-append-drop 8 out)) in
    (same_registers l (start_of (take 8 out) (drop 8 out)) parts.0 parts.1, len)

-- the registers that the steps take to an input are the plain text's, where one is wrapped to the input
pub Wraps-start : (kek plain out check blocks : List ℕ) → AreOctets kek → length blocks % 8 ≡ 0 → 8 ≤ length blocks
    → length check ≡ 8 → AreOctets check → AreOctets blocks
    → after_steps kek (start_of check blocks) (6 * (length blocks / 8)) ≡ start_of (take 8 out) (drop 8 out)
    → Wraps kek plain out → (check ≡ initial_value) × (blocks ≡ plain)
Wraps-start kek plain out check blocks of_kek whole some len are_check are_blocks at w =
    let m : ℕ = length blocks / 8 - 1 in
    let s : Registers = start_of check blocks in
    let h : AreRegisters s (suc m) = record { check_len = len; blocks_len = omega arith; check_octets = are_check; blocks_octets = are_blocks } in
    let after = AreRegisters-after_steps kek m s (6 * (length blocks / 8)) of_kek h in
    let last = Wraps-last kek plain out of_kek w in
    let end : length (drop 8 out) ≡ length blocks =
    sym (ap (λ (r : Registers). length r.blocks) at) ∙ after.blocks_len ∙ omega arith in
    let same_len : length plain ≡ length blocks = omega (arith, length-drop 8 out, last.1) in
    let h' : AreRegisters (start_of initial_value plain) (suc m) = record {
      check_len = refl;
      blocks_len = omega arith;
      check_octets = All-replicate (λ (x : ℕ). x < 256) 8 0xa6 (omega arith);
      blocks_octets = w.are_octets;
    } in
    let plain_at : after_steps kek (start_of initial_value plain) (6 * (length blocks / 8)) ≡ start_of (take 8 out) (drop 8 out) =
    ap (λ (k : ℕ). after_steps kek (start_of initial_value plain) (6 * (k / 8))) (sym same_len) ∙ last.0 in
    let one : s ≡ start_of initial_value plain =
    after_steps-injective kek m s (start_of initial_value plain) (6 * (length blocks / 8)) of_kek h h' (at ∙ sym plain_at) in
    (ap (λ (r : Registers). r.check) one, ap (λ (r : Registers). r.blocks) one)

pub Wraps-unique : (kek plain other out : List ℕ) → AreOctets kek → Wraps kek plain out → Wraps kek other out → plain ≡ other
Wraps-unique kek plain other out of_kek w w' =
    let last = Wraps-last kek plain out of_kek w in
    (Wraps-start kek other out initial_value plain of_kek w.whole_blocks (omega (arith, w.two_blocks)) refl
    (All-replicate (λ (x : ℕ). x < 256) 8 0xa6 (omega arith)) w.are_octets last.0 w').1

-- the length of what is wrapped
pub length-Wraps : (kek plain out : List ℕ) → AreOctets kek → Wraps kek plain out
    → (length out ≡ length plain + 8) × (24 ≤ length out) × (length out % 8 ≡ 0)
length-Wraps kek plain out of_kek w =
    let last = Wraps-last kek plain out of_kek w in
    (last.1, omega (arith, last.1, w.two_blocks), omega (arith, last.1, w.whole_blocks))

-- registers that the steps take to an input wrap to it, where they begin with the initial value
pub Wraps-from : (kek out check blocks : List ℕ) → length blocks % 8 ≡ 0 → 16 ≤ length blocks → AreOctets blocks
    → after_steps kek (start_of check blocks) (6 * (length blocks / 8)) ≡ start_of (take 8 out) (drop 8 out)
    → check ≡ initial_value → Wraps kek blocks out
Wraps-from kek out check blocks whole two are at is =
    let from : last_registers kek blocks ≡ start_of (take 8 out) (drop 8 out) =
    ap (λ (c : List ℕ). after_steps kek (start_of c blocks) (6 * (length blocks / 8))) (sym is) ∙ at in record {
      whole_blocks = whole;
      two_blocks = two;
      are_octets = are;
      wrapped = sym (ap (λ (r : Registers). r.check ++ r.blocks) from ∙ take-append-drop 8 out);
    }
