use Rattle.std.proofs.Common.{rules, tests}
use Rattle.std.proofs.lemmas.Iterator.{YieldsList-from_slice}
use Rattle.std.proofs.lemmas.Iterator.Search.{position_from_yields_List}
use Rattle.embedded_node.specs.Pushed.{is_asked}
use Rattle.embedded_node.proofs.holders.PushedHolders.place_of.Goals as goal

pub returns : goal.returns
returns c =
    position_from_yields_List (is_asked c.args.holder c.args.name.now c.args.sta) _ _ _ c.position.ensures.ran (YieldsList-from_slice c.args.self.now.pushed cc) (λ x b q k. search (rules, tests) fits 200)
