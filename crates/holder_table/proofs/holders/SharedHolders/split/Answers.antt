use Rattle.std.proofs.Common.{◌≡◌, true, sym, subst}
use Rattle.holder_table.specs.Histories.{is_in}
use Rattle.holder_table.specs.Knowledge.{Gave}
use Rattle.holder_table.specs.Pass.{Pass}
use Rattle.holder_table.proofs.Rest.{rest_gave, rest_given}
use Rattle.holder_table.proofs.holders.SharedHolders.split.Goals as goal

pub invariant_of-pass : goal.invariant_of-pass
invariant_of-pass c = rest_gave c.args.ap c.pass.inside.seat.table_id c.split-seat.new.seat.table_id c.pass.inside.seat.me c.split-seat.new.seat.me c.split-seat.result.me.0 c.split-seat.ensures.pass.0 c.split-seat.ensures.pass.1 c.split-seat.ensures.gave c.split-seat.ensures.lasting.0 c.pass.invariant

pub invariant_of-result : goal.invariant_of-result
invariant_of-result c =
    let has : is_in c.args.ap c.pass.inside.seat.me.0.has ≡ true = subst (λ (p : Pass). is_in c.args.ap p.knows.has ≡ true) (sym c.pass.view_is) c.requires.has in
    rest_given c.args.ap c.pass.inside.seat.table_id c.split-seat.result.table_id c.pass.inside.seat.me c.split-seat.result.me c.split-seat.new.seat.me c.split-seat.ensures.given_pass.0 c.split-seat.ensures.given_pass.1 c.split-seat.ensures.gave has c.split-seat.ensures.lasting.1 c.pass.invariant

pub returns-clause-lasting : goal.returns-clause-lasting
returns-clause-lasting c = c.split-seat.ensures.lasting

pub returns-clause-gave : goal.returns-clause-gave
returns-clause-gave c = subst (λ (q : Pass). Gave c.args.ap q.knows c.split-seat.new.seat.me.0 c.split-seat.result.me.0) c.pass.view_is c.split-seat.ensures.gave
