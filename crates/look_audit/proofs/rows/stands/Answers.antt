use Rattle.std.proofs.Common.{false, reverse, sym, ap, ◌∙◌}
use Rattle.std.specs.Prelude.{unwrap_or}
use Rattle.look_audit.specs.Asked.{bound_of}
use Rattle.look_audit.proofs.Own.{told_last}
use Rattle.look_audit.proofs.rows.stands.Goals as goal

pub returns-in-Some-told_by : goal.returns-in-Some-told_by
returns-in-Some-told_by c =
    sym
    (told_last c.args.holder c.args.name.now c.args.station (bound_of c.args.put) (bound_of c.args.revoked) (reverse c.args.later.now) (reverse c.args.theirs.now) c.told_by.result c.told_by-2.result c.told_by.ensures c.in_default.is c.told_by-2.ensures
    ∙ ap (λ o. unwrap_or o false) c.in-Some-told_by.is)

pub returns-in-None : goal.returns-in-None
returns-in-None c =
    sym
    (told_last c.args.holder c.args.name.now c.args.station (bound_of c.args.put) (bound_of c.args.revoked) (reverse c.args.later.now) (reverse c.args.theirs.now) c.told_by.result c.told_by-2.result c.told_by.ensures c.in_default.is c.told_by-2.ensures
    ∙ ap (λ o. unwrap_or o false) c.in-None.is)
