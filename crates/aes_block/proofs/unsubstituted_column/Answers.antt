use Rattle.std.proofs.Common.{ℕ, ◌/◌, ◌^◌, get_or, sym, ◌∙◌, ap}
use Rattle.aes_block.specs.declared.constants.TheConstants.{INVERSE_SUBSTITUTION}
use Rattle.aes_block.proofs.WordLemmas.{unsubstituted_column_is, and_octet}
use Rattle.aes_block.proofs.unsubstituted_column.Goals as goal

pub returns : goal.returns
returns c = λ e f g h he hf hg hh ee ef eg eh.
    unsubstituted_column_is e f g h he hf hg hh
    (ap (λ (w : ℕ). get_or INVERSE_SUBSTITUTION w 0) (sym ee))
    (ap (λ (w : ℕ). get_or INVERSE_SUBSTITUTION w 0) (and_octet (c.args.b / 2 ^ 16) ∙ sym ef))
    (ap (λ (w : ℕ). get_or INVERSE_SUBSTITUTION w 0) (and_octet (c.args.c / 2 ^ 8) ∙ sym eg))
    (ap (λ (w : ℕ). get_or INVERSE_SUBSTITUTION w 0) (and_octet c.args.d ∙ sym eh))
    c.from_be_bytes.ensures
