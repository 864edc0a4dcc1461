use Rattle.std.proofs.Common.{Option, option_map, ap, arith}
use Rattle.rsn_elements.specs.declared.keys.IgtkKde.{IgtkKde}
use Rattle.rsn_elements.specs.Fields.{igtk_kde_fields}
use Rattle.supplicant.proofs.KeyDataRead.{igtk_found}
use Rattle.supplicant.proofs.key_data.igtk_of.Goals as goal

pub returns : goal.returns
returns c =
    igtk_found (igtk_kde_fields c.in-Some.kde) (option_map igtk_kde_fields c.args.found) c.array_at.result c.in-Some-igtk_id.id c.ipn_of.result (ap (λ (o : Option IgtkKde). option_map igtk_kde_fields o) c.in-Some.is)
    (omega (arith, c.if-kde-ne-KEY_LEN.false)) c.in-Some-igtk_id.ensures c.array_at.ensures c.ipn_of.ensures
