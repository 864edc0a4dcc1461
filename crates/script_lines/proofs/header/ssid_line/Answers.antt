use Rattle.std.proofs.Common.{sym, ◌∙◌}
use Rattle.script_lines.proofs.Suites.{not_word_true, not_word_false, no_ssid, ssid_said, wrong_ssid}
use Rattle.script_lines.proofs.header.ssid_line.Goals as goal

pub returns-then-ne-clause-says : goal.returns-then-ne-clause-says
returns-then-ne-clause-says c h = no_ssid h _ _ (not_word_true _ _ _ _ c.ne.ensures c.as_slice.ensures c.if-ne.true)

pub returns-then-is_text-clause-says : goal.returns-then-is_text-clause-says
returns-then-is_text-clause-says c h =
    ssid_said h _ _ (not_word_false _ _ _ _ c.ne.ensures c.as_slice.ensures c.if-ne.false) (sym c.is_text.ensures ∙ c.if-is_text.true)

pub returns-else-is_text-clause-says : goal.returns-else-is_text-clause-says
returns-else-is_text-clause-says c h =
    wrong_ssid h _ _ (not_word_false _ _ _ _ c.ne.ensures c.as_slice.ensures c.if-ne.false) (sym c.is_text.ensures ∙ c.if-is_text.false)
