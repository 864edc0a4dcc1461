use Rattle.std.proofs.Common.{◌≡◌, ℕ, List, refl, ap, ◌∙◌, sym, subst, arith}
use Rattle.holder_table.specs.declared.view.View.{View}
use Rattle.holder_table.specs.Rule.{LoadsLast}
use Rattle.holder_table.specs.Knowledge.{KnowsMore, GaveFrom}
use Rattle.holder_table.specs.Steps.{those_below, those_from, below_part, from_part}
use Rattle.holder_table.proofs.Passes.{splits_from}
use Rattle.holder_table.proofs.row_table.RowTable.split_from.Goals as goal

gave : (ap : ℕ) (v u w given : View) → KnowsMore v u → u.gives ≡ ap → w ≡ below_part u → given ≡ from_part u → GaveFrom ap v w given
gave r v u w given more gives left right =
    subst (λ (x : View). GaveFrom r v x given) (sym left) (subst (λ (x : View). GaveFrom r v (below_part u) x) (sym right) (record {
      seen = more.seen;
      own = more.own;
      loads = more.loads;
      has = ap (λ (a : ℕ). those_below a u.has) gives ∙ ap (λ (xs : List ℕ). those_below r xs) more.has;
      given_has = ap (λ (a : ℕ). those_from a u.has) gives ∙ ap (λ (xs : List ℕ). those_from r xs) more.has;
      alike = (refl, refl);
      settled = (more.settled, refl);
    }))

pub split_seat-requires : goal.split_seat-requires
split_seat-requires c =
    let shared = c.args.self.now.table.shared in
    let size = c.args.self.now.sized in
    let seat = c.look_at.new.seat in
    let told = c.look_at.ensures in
    (told.pass.0 ∙ c.requires.pass, omega (arith, size), splits_from shared.key seat.id seat.me.0 told.more.settled)

pub returns-clause-gave : goal.returns-clause-gave
returns-clause-gave c = gave c.args.ap c.args.seat.now.me.0 c.look_at.new.seat.me.0 c.split_seat.new.seat.me.0 c.split_seat.result.me.0 c.look_at.ensures.more c.look_at.ensures.gives (ap (λ m. m.0) c.split_seat.ensures.2) (ap (λ m. m.0) c.split_seat.ensures.4)

pub returns-clause-lasting : goal.returns-clause-lasting
returns-clause-lasting c =
    let u = c.look_at.new.seat.me.0 in
    let last : LoadsLast u = c.look_at.ensures.lasting in (
      subst (λ (x : View). LoadsLast x) (sym (ap (λ m. m.0) c.split_seat.ensures.2)) last,
      subst (λ (x : View). LoadsLast x) (sym (ap (λ m. m.0) c.split_seat.ensures.4)) last,
    )
