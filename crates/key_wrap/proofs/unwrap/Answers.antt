use Rattle.std.proofs.Common.{◌≡◌, ◌<◌, ◌*◌, ◌/◌, ◌-◌, ◌≤◌, ℕ, List, length, get_or, take, drop, ap, arith, ◌∙◌, rules, length-drop, length-take, length-append, ◌++◌}
use Rattle.std.proofs.lemmas.List.Elements.{All-from_get_or}
use Rattle.std.proofs.lemmas.Slice.Eq.{slice_eq-Decides}
use Rattle.std.proofs.lemmas.Bool.{both_ways}
use Rattle.std.proofs.lemmas.Bool.Decides.{Decides-eqb}
use Rattle.domain_base.specs.Octets.{AreOctets}
use Rattle.key_wrap.specs.KeyWrap.{after_steps, initial_value, Wraps}
use Rattle.key_wrap.proofs.UniqueLemmas.{start_of, Wraps-start, Wraps-from, length-Wraps}
use Rattle.key_wrap.proofs.OutLemmas.{unwrapped_at, take_unwrapped, drop_unwrapped, octets_unwrapped}
use Rattle.key_wrap.proofs.unwrap.Goals as goal
use Rattle.key_wrap.proofs.unwrap.Goals.{After-unwrap_blocks-check, then-wrapped-lt-SHORTEST-via-then-wrapped-lt-SHORTEST, then-wrapped-lt-SHORTEST-via-else-wrapped-lt-SHORTEST+then-wrapped-ne0}

-- the number of octets written
written : (c : After-unwrap_blocks-check) → length c.unwrap_blocks-check.new.blocks ≡ length c.args.wrapped.now - 8
written c = omega (arith, c.unwrap_blocks-check.auto.blocks, length-take {A = ℕ}, length-append {A = ℕ}, length-drop {A = ℕ})

-- the registers that the steps take to the input
start_is : (c : After-unwrap_blocks-check)
    → after_steps c.args.kek.now (start_of c.unwrap_blocks-check.result c.unwrap_blocks-check.new.blocks) (6 * (length c.unwrap_blocks-check.new.blocks / 8))
    ≡ start_of (take 8 c.args.wrapped.now) (drop 8 c.args.wrapped.now)
start_is c =
    unwrapped_at c.args.kek.now c.new.result c.args.wrapped.now c.args.out.now c.copy_from_slice.new.self c.upper_half-check.result
    c.unwrap_blocks-check.result c.unwrap_blocks-check.new.blocks (length c.args.wrapped.now - 8) (omega arith) (omega arith)
    c.new.ensures.value c.copy_from_slice.ensures.after c.upper_half-check.ensures (written c) c.unwrap_blocks-check.ensures

-- where a plain text is wrapped to the input, they are its registers
start_of_plain : (c : After-unwrap_blocks-check) → AreOctets c.unwrap_blocks-check.new.blocks → (plain : List ℕ) → Wraps c.args.kek.now plain c.args.wrapped.now
    → (c.unwrap_blocks-check.result ≡ initial_value) × (c.unwrap_blocks-check.new.blocks ≡ plain)
start_of_plain c octets plain w =
    let check = c.unwrap_blocks-check.result in
    let below : (k : ℕ) → get_or check k 0 < 256 = search rules in
    Wraps-start c.args.kek.now plain c.args.wrapped.now check c.unwrap_blocks-check.new.blocks c.new.ensures.octets.are_octets
    (omega (arith, written c)) (omega (arith, written c)) (omega arith) (All-from_get_or (λ (x : ℕ). x < 256) check 0 (λ k h. below k)) octets (start_is c) w

-- what stays of the slice
rest_is : (c : After-unwrap_blocks-check) (n : ℕ) → length c.args.wrapped.now - 8 ≤ n
    → drop n (c.unwrap_blocks-check.new.blocks ++ drop (length c.args.wrapped.now - 8) (c.copy_from_slice.new.self ++ drop (length c.args.wrapped.now - 8) c.args.out.now))
    ≡ drop n c.args.out.now
rest_is c n h =
    drop_unwrapped c.args.out.now c.copy_from_slice.new.self c.unwrap_blocks-check.new.blocks (length c.args.wrapped.now - 8) n (written c)
    (omega (arith, ap length c.copy_from_slice.ensures.after, length-take {A = ℕ}, length-drop {A = ℕ})) h

pub returns-then-wrapped-lt-SHORTEST-clause-only : goal.returns-then-wrapped-lt-SHORTEST-clause-only
returns-then-wrapped-lt-SHORTEST-clause-only c = λ plain w.
    let of_kek : AreOctets c.args.kek.now = All-from_get_or (λ (x : ℕ). x < 256) c.args.kek.now 0 (λ k h. c.fits-kek k) in
    let len = length-Wraps c.args.kek.now plain c.args.wrapped.now of_kek w in
    elim c.then-wrapped-lt-SHORTEST.branch [
      | then-wrapped-lt-SHORTEST-via-then-wrapped-lt-SHORTEST b ↦ absurd (omega (arith, len.1))
      | then-wrapped-lt-SHORTEST-via-else-wrapped-lt-SHORTEST+then-wrapped-ne0 b ↦ absurd (omega (arith, len.2))
    ]

pub returns-then-wrapped-lt-SHORTEST-clause-bad_wrap : goal.returns-then-wrapped-lt-SHORTEST-clause-bad_wrap
returns-then-wrapped-lt-SHORTEST-clause-bad_wrap c = returns-then-wrapped-lt-SHORTEST-clause-only c

pub returns-then-eq-clause-unwrapped : goal.returns-then-eq-clause-unwrapped
returns-then-eq-clause-unwrapped c =
    let at = (goal.at.returns-then-eq-clause-unwrapped c).After-unwrap_blocks-check in
    let blocks = c.unwrap_blocks-check.new.blocks in
    let len = written at in
    let test = slice_eq-Decides Decides-eqb c.unwrap_blocks-check.result initial_value c.eq.result c.eq.ensures in
    rw (take_unwrapped c.args.out.now c.copy_from_slice.new.self blocks _ len)
    (Wraps-from c.args.kek.now c.args.wrapped.now c.unwrap_blocks-check.result blocks (omega arith) (omega arith)
    (octets_unwrapped blocks _ (λ k. (c.type_inv.out k).fits)) (start_is at) (test.0 c.if-eq.true))

pub returns-then-eq-clause-only : goal.returns-then-eq-clause-only
returns-then-eq-clause-only c = λ plain w.
    let at = (goal.at.returns-then-eq-clause-only c).After-unwrap_blocks-check in
    let blocks = c.unwrap_blocks-check.new.blocks in
    take_unwrapped c.args.out.now c.copy_from_slice.new.self blocks _ (written at)
    ∙ (start_of_plain at (octets_unwrapped blocks _ (λ k. (c.type_inv.out k).fits)) plain w).1

pub returns-then-eq-clause-bad_wrap : goal.returns-then-eq-clause-bad_wrap
returns-then-eq-clause-bad_wrap c = tt

pub returns-then-eq-clause-rest : goal.returns-then-eq-clause-rest
returns-then-eq-clause-rest c = rest_is (goal.at.returns-then-eq-clause-rest c).After-unwrap_blocks-check

pub returns-else-eq-clause-only : goal.returns-else-eq-clause-only
returns-else-eq-clause-only c = λ plain w.
    let at = (goal.at.returns-else-eq-clause-only c).After-unwrap_blocks-check in
    let test = slice_eq-Decides Decides-eqb c.unwrap_blocks-check.result initial_value c.eq.result c.eq.ensures in
    let octets = octets_unwrapped c.unwrap_blocks-check.new.blocks _ (λ k. (c.type_inv.out k).fits) in
    absurd (both_ways c.eq.result c.if-eq.false (test.1 (start_of_plain at octets plain w).0))

pub returns-else-eq-clause-bad_wrap : goal.returns-else-eq-clause-bad_wrap
returns-else-eq-clause-bad_wrap c = returns-else-eq-clause-only c

pub returns-else-eq-clause-rest : goal.returns-else-eq-clause-rest
returns-else-eq-clause-rest c = rest_is (goal.at.returns-else-eq-clause-rest c).After-unwrap_blocks-check
