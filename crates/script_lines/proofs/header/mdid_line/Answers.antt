use Rattle.script_lines.proofs.Suites.{not_word_true, no_mdid}
use Rattle.script_lines.proofs.header.mdid_line.Goals as goal

pub returns-then-ne : goal.returns-then-ne
returns-then-ne c h = no_mdid h _ _ (not_word_true _ _ _ _ c.ne.ensures c.as_slice.ensures c.if-ne.true)
