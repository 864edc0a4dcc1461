use Rattle.std.proofs.Common.{◌≡◌, List, get_or, ◌∙◌, sym, subst}
use Rattle.key_holders.specs.declared.rows.HeldRow.{HeldRow}
use Rattle.key_holders.proofs.Holding.{may_found, may_absent}
use Rattle.key_holders.proofs.holder_rows.HolderRows.pull.Goals as goal

pub returns-in-Some : goal.returns-in-Some
returns-in-Some c =
    let held = c.index.result.now in
    let here = subst (λ (rows : List HeldRow). held ≡ get_or rows c.in-Some.place held) c.self.view_is c.index.ensures in
    may_found c.args.self.now c.args.name.now c.args.r1kh c.args.sta c.in-Some.place held c.r1.result (sym c.in-Some.is ∙ c.place_of.ensures) here c.r1.ensures

pub returns-in-None : goal.returns-in-None
returns-in-None c = may_absent c.args.self.now c.args.name.now c.args.r1kh c.args.sta (sym c.in-None.is ∙ c.place_of.ensures)
