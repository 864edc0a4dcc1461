use Rattle.std.proofs.Common.{◌≡◌, Bool, List, [], ◌∷◌, ◌++◌, length, sym, ap, subst, ◌∙◌, arith}
use Rattle.run_journal.specs.declared.acts.Act.{Act}
use Rattle.ap_node.specs.Putting.{PutsWhere}
use Rattle.ap_node.proofs.Rows.{same_others}
use Rattle.ap_node.proofs.putting.between.Goals as goal

pub returns-in_err-act-clause-change : goal.returns-in_err-act-clause-change
returns-in_err-act-clause-change over c = c.put_row.ensures.change

pub returns-then-not-is_put-clause-others : goal.returns-then-not-is_put-clause-others
returns-then-not-is_put-clause-others over c = same_others _ _ _ _

pub returns-then-not-is_put-clause-no_less : goal.returns-then-not-is_put-clause-no_less
returns-then-not-is_put-clause-no_less over c = over.met.H.Holders.same c.args.holders.now

pub returns-clause-put : goal.returns-clause-put
returns-clause-put over c =
    let a = c.args.ap in
    let act = c.in_ok-act.act in
    let one : c.push_reserved.new.self.items ≡ act ∷ [] = c.push_reserved.ensures.items ∙ ap (λ (l : List Act). l ++ act ∷ []) (c.reserve.ensures.items ∙ c.nothing-between.ensures.put) in
    subst (λ (b : Bool). PutsWhere b c.args.here.domain.now a c.args.station (over.H.Holders.rows c.args.holders.now a) (over.H.Holders.rows c.put_row.new.holders a) c.push_reserved.new.self.items) (sym c.if-not-is_put.false) (act, one, c.in_ok-act.ensures.put)

pub returns-clause-few : goal.returns-clause-few
returns-clause-few over c =
    let act = c.in_ok-act.act in
    let one : c.push_reserved.new.self.items ≡ act ∷ [] = c.push_reserved.ensures.items ∙ ap (λ (l : List Act). l ++ act ∷ []) (c.reserve.ensures.items ∙ c.nothing-between.ensures.put) in
    omega (arith, ap (λ (l : List Act). length l) c.nothing-between.ensures.opened, ap (λ (l : List Act). length l) one)
