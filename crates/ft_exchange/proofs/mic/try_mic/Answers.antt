use Rattle.std.proofs.Common.{◌≡◌, true, false}
use Rattle.rsn_elements.specs.Fields.{fte_fields, element_fields}
use Rattle.ft_exchange.proofs.MicThere.{mic_wrong}
use Rattle.ft_exchange.proofs.mic.try_mic.Goals as goal

not_true : false ≡ true → ⊥
not_true is = cc

pub returns-else-verify_fte_mic : goal.returns-else-verify_fte_mic
returns-else-verify_fte_mic c =
    mic_wrong (element_fields c.args.elements.now) (fte_fields c.args.fte.now) c.args.between c.in-Some.covered c.args.key.now.ptk.kck c.requires.raw c.requires.fte c.in-Some.ensures.covered
    (λ is. not_true (c.if-verify_fte_mic.ensures.1 is))
