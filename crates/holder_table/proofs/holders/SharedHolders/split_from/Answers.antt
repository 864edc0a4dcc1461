use Rattle.std.proofs.Common.{subst}
use Rattle.holder_table.specs.Knowledge.{GaveFrom}
use Rattle.holder_table.specs.Pass.{Pass}
use Rattle.holder_table.proofs.Rest.{rest_gave_from, rest_given_from}
use Rattle.holder_table.proofs.holders.SharedHolders.split_from.Goals as goal

pub invariant_of-pass : goal.invariant_of-pass
invariant_of-pass c =
    rest_gave_from c.args.ap c.pass.inside.seat.table_id c.split_from-seat.new.seat.table_id c.pass.inside.seat.me c.split_from-seat.new.seat.me c.split_from-seat.result.me.0 c.split_from-seat.ensures.pass.0 c.split_from-seat.ensures.pass.1 c.split_from-seat.ensures.gave
    c.split_from-seat.ensures.lasting.0 c.pass.invariant

pub invariant_of-result : goal.invariant_of-result
invariant_of-result c =
    rest_given_from c.args.ap c.pass.inside.seat.table_id c.split_from-seat.result.table_id c.pass.inside.seat.me c.split_from-seat.result.me c.split_from-seat.new.seat.me c.split_from-seat.ensures.given_pass.0 c.split_from-seat.ensures.given_pass.1 c.split_from-seat.ensures.gave
    c.split_from-seat.ensures.lasting.1 c.pass.invariant

pub returns-clause-lasting : goal.returns-clause-lasting
returns-clause-lasting c = c.split_from-seat.ensures.lasting

pub returns-clause-gave : goal.returns-clause-gave
returns-clause-gave c = subst (λ (q : Pass). GaveFrom c.args.ap q.knows c.split_from-seat.new.seat.me.0 c.split_from-seat.result.me.0) c.pass.view_is c.split_from-seat.ensures.gave
