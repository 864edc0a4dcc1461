use Rattle.std.proofs.Common.{◌≡◌, ◌<◌, ◌*◌, ◌/◌, ◌%◌, ◌+◌, ◌-◌, ℕ, length, ap, arith, ◌∙◌, sym, refl}
use Rattle.key_wrap.specs.KeyWrap.{Registers, after_steps}
use Rattle.key_wrap.proofs.StepLemmas.{after_steps-none, registers_at, registers_at-rounds, unwrap_turn, length-given_back, block_within}
use Rattle.key_wrap.proofs.unwrap_blocks.Goals as goal

pub loop-t-init : goal.loop-t-init
loop-t-init c = record { len = omega arith; counted = omega arith; steps = λ start e. e }

pub loop-t-preserved : goal.loop-t-preserved
loop-t-preserved c =
    let n : ℕ = length c.args.blocks.now / 8 in
    let t : ℕ = c.loop-t.t - 1 in
    let some : 0 < n = omega arith in
    let within = block_within t n (length c.loop-t.blocks) some c.loop-t.invariant.counted in
    let next : t + 1 ≡ c.loop-t.t = omega arith in
    record {
      len = omega arith;
      counted = length-given_back (t % n) c.loop-t.blocks c.unwrap_step.new.block within (omega arith) ∙ c.loop-t.invariant.counted;
      steps = λ start e.
          let turn = unwrap_turn c.args.key.now start c.loop-t.first c.unwrap_step.new.check c.unwrap_step.new.block c.loop-t.blocks t n some
          c.loop-t.invariant.counted c.loop-t.invariant.len (omega arith) c.unwrap_step.ensures e in
          c.loop-t.invariant.steps start (ap (after_steps c.args.key.now start) (sym next) ∙ turn ∙ ap (λ (k : ℕ). registers_at c.loop-t.first c.loop-t.blocks k n) next);
    }

pub returns : goal.returns
returns c =
    let n : ℕ = length c.args.blocks.now / 8 in
    let some : 0 < n = omega arith in
    let none : c.loop-t.t ≡ 0 = omega arith in
    let start : Registers = record { check = c.loop-t.first; blocks = c.loop-t.blocks } in
    let begun : after_steps c.args.key.now start c.loop-t.t ≡ registers_at c.loop-t.first c.loop-t.blocks c.loop-t.t n =
    ap (after_steps c.args.key.now start) none ∙ after_steps-none c.args.key.now start
    ∙ sym (registers_at-rounds c.loop-t.first c.loop-t.blocks 0 c.loop-t.t n some (omega arith)) in
    c.loop-t.invariant.steps start begun ∙ registers_at-rounds c.args.check c.args.blocks.now 6 (6 * n) n some refl
