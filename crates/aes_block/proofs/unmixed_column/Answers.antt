use Rattle.std.proofs.Common.{ℕ, ◌/◌, ◌^◌, get_or, sym, ◌∙◌, ap}
use Rattle.aes_block.specs.declared.constants.TheConstants.{UNMIXED_FIRST, UNMIXED_SECOND, UNMIXED_THIRD, UNMIXED_FOURTH}
use Rattle.aes_block.proofs.WordLemmas.{unmixed_column_is, and_octet}
use Rattle.aes_block.proofs.unmixed_column.Goals as goal

pub returns : goal.returns
returns c = λ e f g h he hf hg hh ee ef eg eh.
    unmixed_column_is e f g h he hf hg hh
    (ap (λ (w : ℕ). get_or UNMIXED_FIRST w 0) (sym ee))
    (ap (λ (w : ℕ). get_or UNMIXED_SECOND w 0) (and_octet (c.args.b / 2 ^ 16) ∙ sym ef))
    (ap (λ (w : ℕ). get_or UNMIXED_THIRD w 0) (and_octet (c.args.c / 2 ^ 8) ∙ sym eg))
    (ap (λ (w : ℕ). get_or UNMIXED_FOURTH w 0) (and_octet c.args.d ∙ sym eh))
