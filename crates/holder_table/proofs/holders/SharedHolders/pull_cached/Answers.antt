use Rattle.std.proofs.Common.{arith}
use Rattle.std.proofs.Common.{◌≡◌, ℕ, List, None, sym, ◌∙◌, subst, rules}
use Rattle.std.specs.Prelude.{position, bytes_eq}
use Rattle.key_holders.specs.Pulls.{Answers}
use Rattle.key_holders.proofs.Holding.{holder_at, no_holder}
use Rattle.holder_table.specs.Histories.{held_at}
use Rattle.holder_table.specs.Pass.{Pass}
use Rattle.holder_table.specs.Knowledge.{NoLess, Pulled}
use Rattle.holder_table.specs.Relations.{no_less_same}
use Rattle.holder_table.proofs.Knows.{no_less-more}
use Rattle.holder_table.proofs.After.{asked_at, more_twins, none_pulled, pull_answers, pull_named}
use Rattle.holder_table.proofs.Rest.{rest_after}
use Rattle.std.proofs.lemmas.Grind.{common_steps}
use Rattle.holder_table.proofs.holders.SharedHolders.pull_cached.Goals as goal

-- what the rows of an access point say
pulled : (c : goal.After-pull_cached) → Pulled c.args.self.now.ids c.args.r0kh_id.now c.args.name.now c.args.r1kh c.args.sta c.pass.inside.seat.me.0 c.pull_cached.new.seat.me.0 c.pull_cached.result
pulled c =
    let holds = holder_at c.args.self.now.ids c.args.r0kh_id.now c.in-Some.r0kh (sym c.in-Some.is ∙ c.holder_of.ensures) in
    record { less = no_less-more c.pass.inside.seat.me.0 c.pull_cached.new.seat.me.0 c.pull_cached.ensures.more; own = c.pull_cached.ensures.more.own; found = asked_at c.args.self.now.ids c.args.r0kh_id.now c.args.name.now c.args.r1kh c.args.sta c.pass.inside.seat.me.0 c.pull_cached.new.seat.me.0 c.in-Some.r0kh c.pull_cached.result holds c.pull_cached.ensures.pulls }

pub invariant_of-pass : goal.invariant_of-pass
invariant_of-pass c =
    let me = c.pass.inside.seat.me in
    let now = c.pull_cached.new.seat.me in
    rest_after c.pass.inside.seat.table_id c.pull_cached.new.seat.table_id me now c.pull_cached.ensures.pass.0 c.pull_cached.ensures.pass.1 (no_less-more me.0 now.0 c.pull_cached.ensures.more) c.pull_cached.ensures.more.settled
    (more_twins me.0 now.0 c.pull_cached.ensures.more c.pass.invariant.twins)
    (c.pull_cached.ensures.lasting c.pass.invariant.lasting)
    c.pass.invariant

pub returns-clause-pulled : goal.returns-clause-pulled
returns-clause-pulled c =
    subst (λ (p : Pass). Pulled c.args.self.now.ids c.args.r0kh_id.now c.args.name.now c.args.r1kh c.args.sta p.knows c.pull_cached.new.seat.me.0 c.pull_cached.result) c.pass.view_is (pulled c)

pub returns-clause-own : goal.returns-clause-own
returns-clause-own c =
    subst (λ (p : Pass). Answers c.args.self.now.ids p.knows.has (λ r. held_at r p.knows.seen) c.args.r0kh_id.now c.args.name.now c.args.r1kh c.args.sta c.pull_cached.result) c.pass.view_is
    (pull_answers c.args.self.now.ids c.args.r0kh_id.now c.args.name.now c.args.r1kh c.args.sta c.pass.inside.seat.me.0 c.pull_cached.new.seat.me.0 c.pull_cached.result (pulled c))

pub returns-clause-named : goal.returns-clause-named
returns-clause-named c = pull_named c.args.self.now.ids c.args.r0kh_id.now c.args.name.now c.args.r1kh c.args.sta c.pass.inside.seat.me.0 c.pull_cached.new.seat.me.0 c.pull_cached.result (pulled c)

pub returns-clause-no_less : goal.returns-clause-no_less
returns-clause-no_less c =
    subst (λ (p : Pass). NoLess p.knows c.pull_cached.new.seat.me.0) c.pass.view_is (no_less-more c.pass.inside.seat.me.0 c.pull_cached.new.seat.me.0 c.pull_cached.ensures.more)

pub returns-in_default-clause-pulled : goal.returns-in_default-clause-pulled
returns-in_default-clause-pulled c =
    let none : None ≡ position (λ (i : List ℕ). bytes_eq i c.args.r0kh_id.now) c.args.self.now.ids = search rules in
    none_pulled c.args.self.now.ids c.args.r0kh_id.now c.args.name.now c.args.r1kh c.args.sta c.args.pass.now.knows none

pub returns-in_default-clause-own : goal.returns-in_default-clause-own
returns-in_default-clause-own c =
    let none : None ≡ position (λ (i : List ℕ). bytes_eq i c.args.r0kh_id.now) c.args.self.now.ids = search rules in
    no_holder c.args.self.now.ids c.args.r0kh_id.now none

pub returns-in_default-clause-no_less : goal.returns-in_default-clause-no_less
returns-in_default-clause-no_less c = no_less_same _

pub returns-clause-lasting : goal.returns-clause-lasting
returns-clause-lasting c = c.pull_cached.ensures.lasting c.pass.invariant.lasting

pub returns-in_default-clause-lasting : goal.returns-in_default-clause-lasting
returns-in_default-clause-lasting c = grind (arith, common_steps)
