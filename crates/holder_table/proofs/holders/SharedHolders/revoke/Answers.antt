use Rattle.std.proofs.Common.{arith}
use Rattle.std.proofs.Common.{◌≡◌, ◌≢◌, ℕ, true, sym, subst}
use Rattle.key_holders.specs.Rows.{after_revoke}
use Rattle.holder_table.specs.Histories.{is_in, held_at}
use Rattle.holder_table.specs.Pass.{Pass}
use Rattle.holder_table.specs.Knowledge.{NoLess}
use Rattle.holder_table.proofs.After.{revoke_rows, revoke_others, revoke_knows, revoke_twins}
use Rattle.holder_table.proofs.Rest.{rest_after}
use Rattle.std.proofs.lemmas.Grind.{common_steps}
use Rattle.holder_table.proofs.holders.SharedHolders.revoke.Goals as goal

-- the pass has the access point
has : (c : goal.After-revoke) → is_in c.args.r0kh c.pass.inside.seat.me.0.has ≡ true
has c = subst (λ (p : Pass). is_in c.args.r0kh p.knows.has ≡ true) (sym c.pass.view_is) c.requires.has

pub invariant_of-pass : goal.invariant_of-pass
invariant_of-pass c =
    let me = c.pass.inside.seat.me in
    let now = c.revoke.new.seat.me in
    let less = revoke_knows c.args.r0kh c.args.name.now me.0 now.0 c.revoke.result c.revoke.ensures.effect in
    rest_after c.pass.inside.seat.table_id c.revoke.new.seat.table_id me now c.revoke.ensures.pass.0 c.revoke.ensures.pass.1 less.0 less.1
    (revoke_twins c.args.r0kh c.args.name.now me.0 now.0 c.revoke.result (has c) c.revoke.ensures.effect c.pass.invariant.twins)
    (c.revoke.ensures.lasting c.pass.invariant.lasting)
    c.pass.invariant

pub returns-clause-rows : goal.returns-clause-rows
returns-clause-rows c =
    let w = c.revoke.new.seat.me.0 in
    subst (λ (p : Pass). held_at c.args.r0kh w.seen ≡ after_revoke c.args.name.now c.revoke.result (held_at c.args.r0kh p.knows.seen)) c.pass.view_is
    (revoke_rows c.args.r0kh c.args.name.now c.pass.inside.seat.me.0 w c.revoke.result (has c) (c.pass.invariant.twins c.args.r0kh (has c)) c.revoke.ensures.effect)

pub returns-clause-others : goal.returns-clause-others
returns-clause-others c =
    let w = c.revoke.new.seat.me.0 in
    subst (λ (p : Pass). (s : ℕ) → s ≢ c.args.r0kh → is_in s p.knows.has ≡ true → held_at s w.seen ≡ held_at s p.knows.seen) c.pass.view_is
    (revoke_others c.args.r0kh c.args.name.now c.pass.inside.seat.me.0 w c.revoke.result c.revoke.ensures.effect)

pub returns-clause-no_less : goal.returns-clause-no_less
returns-clause-no_less c =
    let w = c.revoke.new.seat.me.0 in
    subst (λ (p : Pass). NoLess p.knows w) c.pass.view_is (revoke_knows c.args.r0kh c.args.name.now c.pass.inside.seat.me.0 w c.revoke.result c.revoke.ensures.effect).0

pub returns-clause-lasting : goal.returns-clause-lasting
returns-clause-lasting c = c.revoke.ensures.lasting c.pass.invariant.lasting

pub returns-clause-effect : goal.returns-clause-effect
returns-clause-effect c = grind (arith, common_steps)
