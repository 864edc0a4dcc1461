use Rattle.key_wrap.proofs.UniqueLemmas.{Wraps-unique}
use Rattle.key_wrap.proofs.plain_text_is_unique.Goals as goal

pub returns : goal.returns
returns c = Wraps-unique
