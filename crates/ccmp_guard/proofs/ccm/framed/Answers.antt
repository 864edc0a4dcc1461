use Rattle.std.proofs.Common.{◌∙◌, ◌∷◌, ◌++◌, [], arith, drop}
use Rattle.std.proofs.lemmas.List.{drop_all, length-append, length-drop}
use Rattle.ccmp_guard.proofs.Blocks.{two_written}
use Rattle.ccmp_guard.proofs.ccm.framed.Goals as goal

pub returns : goal.returns
returns c =
    let first = c.args.flags in
    let row = first ∷ (c.copy_from_slice.new.self ++ first ∷ first ∷ []) in
    two_written first _ c.args.nonce.now _ _ (first ∷ first ∷ []) _ 13 c.told-nonce c.copy_from_slice.ensures.after (c.copy_from_slice-2.ensures.after ∙ c.to_be_bytes.ensures)
    (drop_all 2 (drop 14 row) (omega (arith, length-drop 14 row, length-append c.copy_from_slice.new.self (first ∷ first ∷ []), c.copy_from_slice.auto.self)))
