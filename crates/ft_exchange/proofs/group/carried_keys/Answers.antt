use Rattle.std.specs.Prelude.{option_map}
use Rattle.rsn_elements.specs.Fields.{fte_fields}
use Rattle.ft_exchange.proofs.Carrying.{found_plain, found_protected}
use Rattle.ft_exchange.proofs.group.carried_keys.Goals as goal

pub returns-then-mfp : goal.returns-then-mfp
returns-then-mfp c =
    found_protected c.args.mfp (option_map fte_fields c.args.fte) c.args.unwrapped c.in-Some.gtk c.with_igtk.result c.if-mfp.true c.in-Some.ensures.0
    (record { is = c.in-Some.ensures.1; rsc = c.in-Some.ensures.2 }) c.with_igtk.ensures

pub returns-else-mfp : goal.returns-else-mfp
returns-else-mfp c =
    found_plain c.args.mfp (option_map fte_fields c.args.fte) c.args.unwrapped c.in-Some.gtk c.if-mfp.false c.in-Some.ensures.0 (record { is = c.in-Some.ensures.1; rsc = c.in-Some.ensures.2 })
