use Rattle.std.proofs.Common.{sym, ◌∙◌}
use Rattle.script_lines.proofs.Freed.{can-list_ap}
use Rattle.script_lines.proofs.Listing.{ap_said, ap_unfit, ap_no_id}
use Rattle.script_lines.proofs.nodes.ap_line.Goals as goal

pub returns-clause-can : goal.returns-clause-can
returns-clause-can c =
    can-list_ap c.args.domain.now _ _ c.in_ok-address.ensures.single (sym c.is_text.ensures ∙ c.if-not-is_text.false) c.in_ok-new_ap.ensures.room c.in_ok-new_ap.ensures.free c.in_ok-new_ap.ensures.other

pub returns-clause-says : goal.returns-clause-says
returns-clause-says c =
    ap_said c.args.domain.now c.args.text.now _ _ _ c.in-Some.ensures c.in_ok-address.ensures.says (sym c.is_text.ensures ∙ c.if-not-is_text.false) c.in_ok-new_ap.ensures.says

pub returns-then-not-is_text-clause-says : goal.returns-then-not-is_text-clause-says
returns-then-not-is_text-clause-says c =
    ap_unfit c.args.domain.now c.args.text.now _ _ _ c.in-Some.ensures c.in_ok-address.ensures.says (sym c.is_text.ensures ∙ c.if-not-is_text.true)

pub returns-in_default-clause-says : goal.returns-in_default-clause-says
returns-in_default-clause-says c = ap_no_id c.args.domain.now c.args.text.now c.in_default.ensures
