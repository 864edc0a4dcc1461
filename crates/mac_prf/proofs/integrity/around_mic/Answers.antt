use Rattle.std.proofs.Common.{◌∙◌, ap, drop}
use Rattle.std.proofs.lemmas.List.{drop-drop}
use Rattle.mac_prf.proofs.integrity.around_mic.Goals as goal

pub returns-clause-behind : goal.returns-clause-behind
returns-clause-behind c = c.split_at-2.ensures.back ∙ ap (drop 16) c.split_at.ensures.back ∙ drop-drop 16 81 c.args.frame.now
