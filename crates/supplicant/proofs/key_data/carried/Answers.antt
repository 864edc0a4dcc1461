use Rattle.std.proofs.Common.{arith}
use Rattle.rsn_elements.specs.Fields.{element_fields}
use Rattle.std.proofs.Common.{sym, ◌∙◌}
use Rattle.supplicant.proofs.KeyDataRead.{plain_other}
use Rattle.std.proofs.lemmas.Grind.{common_steps}
use Rattle.supplicant.proofs.key_data.carried.Goals as goal

pub returns-in-Some : goal.returns-in-Some
returns-in-Some c = plain_other c.args.mfp _ c.args.plain.now (element_fields c.in-Ok.elements) c.in-Some.fault c.in-Ok.ensures.found (sym c.element_fault.ensures ∙ c.in-Some.is)

pub returns-in_default : goal.returns-in_default
returns-in_default c = grind (arith, common_steps)
