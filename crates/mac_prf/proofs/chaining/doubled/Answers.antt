use Rattle.std.proofs.Common.{◌∙◌, ◌<◌, ◌≤◌, ℕ, ap, arith}
use Rattle.std.specs.Prelude.{◌^◌, ◌%◌, ◌*◌, bit_xor}
use Rattle.std.specs.Int.{w128, to_be_bytes, from_be_bytes}
use Rattle.mac_prf.proofs.Chains.{doubled-low, doubled-high}
use Rattle.mac_prf.proofs.chaining.doubled.Goals as goal

pub returns-then-bits-eq0 : goal.returns-then-bits-eq0
returns-then-bits-eq0 c =
    let low : from_be_bytes w128 c.args.block < 2 ^ 127 = omega (arith, c.if-bits-eq0.true, c.from_be_bytes-bits.ensures) in
    c.to_be_bytes.ensures ∙ ap (λ (n : ℕ). to_be_bytes w128 (n * 2 % 2 ^ 128)) c.from_be_bytes-bits.ensures ∙ doubled-low c.args.block low

pub returns-else-bits-eq0 : goal.returns-else-bits-eq0
returns-else-bits-eq0 c =
    let high : 2 ^ 127 ≤ from_be_bytes w128 c.args.block = omega (arith, c.if-bits-eq0.false, c.from_be_bytes-bits.ensures) in
    c.to_be_bytes-else-bits-eq0.ensures ∙ ap (λ (n : ℕ). to_be_bytes w128 (bit_xor (n * 2 % 2 ^ 128) 0x87)) c.from_be_bytes-bits.ensures ∙ doubled-high c.args.block high
