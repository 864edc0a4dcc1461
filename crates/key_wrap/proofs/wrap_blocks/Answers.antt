use Rattle.std.proofs.Common.{◌≡◌, ◌<◌, ◌*◌, ◌/◌, ◌%◌, ℕ, length, ap, arith, ◌∙◌, sym}
use Rattle.key_wrap.specs.KeyWrap.{Registers, after_steps, initial_value}
use Rattle.key_wrap.proofs.StepLemmas.{after_steps-none, registers_at-rounds, wrap_turn, length-given_back, block_within}
use Rattle.key_wrap.proofs.wrap_blocks.Goals as goal

pub loop-t-init : goal.loop-t-init
loop-t-init c =
    let blocks = c.args.blocks.now in
    let some : 0 < length blocks / 8 = omega arith in
    let start : Registers = record { check = initial_value; blocks = blocks } in record {
      counted = omega arith;
      steps = after_steps-none c.args.key.now start ∙ sym (registers_at-rounds initial_value blocks 0 0 (length blocks / 8) some (omega arith));
    }

pub loop-t-preserved : goal.loop-t-preserved
loop-t-preserved c =
    let n : ℕ = length c.args.blocks.now / 8 in
    let t = c.loop-t.t in
    let some : 0 < n = omega arith in
    let within = block_within t n (length c.loop-t.blocks) some c.loop-t.invariant.counted in record {
      counted = length-given_back (t % n) c.loop-t.blocks c.wrap_step.new.block within (omega arith) ∙ c.loop-t.invariant.counted;
      steps = wrap_turn c.args.key.now (record { check = initial_value; blocks = c.args.blocks.now }) c.loop-t.check c.wrap_step.new.check c.wrap_step.new.block
          c.loop-t.blocks t n some c.loop-t.invariant.counted c.loop-t.invariant.steps c.wrap_step.ensures.check c.wrap_step.ensures.block;
    }

pub returns : goal.returns
returns c =
    let n : ℕ = length c.args.blocks.now / 8 in
    let some : 0 < n = omega arith in
    let all : c.loop-t.t ≡ 6 * n = omega arith in
    ap (after_steps c.args.key.now (record { check = initial_value; blocks = c.args.blocks.now })) (sym all)
    ∙ c.loop-t.invariant.steps ∙ registers_at-rounds c.loop-t.check c.loop-t.blocks 6 c.loop-t.t n some all
