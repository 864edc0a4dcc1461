use Rattle.std.proofs.Common.{sym, ◌∙◌}
use Rattle.script_lines.proofs.Listing.{tells_by_as, first_said, bare_said, own_said}
use Rattle.script_lines.proofs.nodes.sta_line.Goals as goal

pub returns-then-not-is_second-clause-says : goal.returns-then-not-is_second-clause-says
returns-then-not-is_second-clause-says c =
    tells_by_as _ _ _ _ (first_said c.args.header.now c.args.text.now (sym c.is_second.ensures ∙ c.if-not-is_second.true)) c.bare_sta.ensures.says

pub returns-in-Some-clause-says : goal.returns-in-Some-clause-says
returns-in-Some-clause-says c =
    tells_by_as _ _ _ _ (own_said c.args.header.now c.args.text.now _ _ (sym c.is_second.ensures ∙ c.if-not-is_second.false) c.in-Some.ensures) c.keyed_sta.ensures.says

pub returns-in-None-clause-says : goal.returns-in-None-clause-says
returns-in-None-clause-says c =
    tells_by_as _ _ _ _ (bare_said c.args.header.now c.args.text.now (sym c.is_second.ensures ∙ c.if-not-is_second.false) c.in-None.ensures) c.bare_sta-in-None.ensures.says
