use Rattle.std.proofs.Common.{rules, tests}
use Rattle.std.proofs.lemmas.Iterator.{YieldsList-from_slice}
use Rattle.std.proofs.lemmas.Iterator.Search.{position_from_yields_List}
use Rattle.key_holders.specs.Pulls.{is_match}
use Rattle.key_holders.proofs.holder_rows.HolderRows.place_of.Goals as goal

pub returns : goal.returns
returns c =
    position_from_yields_List (λ h. is_match c.args.name.now c.args.sta h) _ _ _ c.position.ensures.ran (YieldsList-from_slice c.args.self.now cc) (λ x b q k. search (rules, tests) fits 200)
