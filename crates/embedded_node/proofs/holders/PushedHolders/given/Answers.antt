use Rattle.std.proofs.Common.{◌≡◌, ℕ, List, get_or, ap, ◌∙◌, sym, subst}
use Rattle.embedded_node.specs.Pushed.{Holding}
use Rattle.embedded_node.proofs.Pulled.{may_give, may_not_give}
use Rattle.embedded_node.proofs.holders.PushedHolders.given.Goals as goal

pub returns-in-Some : goal.returns-in-Some
returns-in-Some c =
    let x = c.index.result.now in
    let here = subst (λ (h : Holding). x ≡ get_or h.pushed c.in-Some.place x) c.self.view_is c.index.ensures in
    may_give c.args.self.now.pushed c.args.holder c.args.name.now c.args.r1kh c.args.sta c.in-Some.place x _ (sym c.in-Some.is ∙ c.place_of.ensures) here
    (ap (λ (n : List ℕ). record { key = x.key; name = n }) c.r1_name.ensures)

pub returns-in-None : goal.returns-in-None
returns-in-None c = may_not_give c.args.self.now.pushed c.args.holder c.args.name.now c.args.r1kh c.args.sta (sym c.in-None.is ∙ c.place_of.ensures)
