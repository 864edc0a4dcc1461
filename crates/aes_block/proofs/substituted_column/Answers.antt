use Rattle.std.proofs.Common.{ℕ, ◌/◌, ◌%◌, ◌^◌, get_or, refl, ap, arith}
use Rattle.aes_block.specs.declared.constants.TheConstants.{SUBSTITUTION}
use Rattle.aes_block.proofs.WordLemmas.{substituted_column_is, and_octet}
use Rattle.aes_block.proofs.substituted_column.Goals as goal

pub returns : goal.returns
returns c =
    substituted_column_is (c.args.a / 2 ^ 24) (c.args.b / 2 ^ 16 % 256) (c.args.c / 2 ^ 8 % 256) (c.args.d % 256)
    (omega arith) (omega arith) (omega arith) (omega arith)
    refl (ap (λ (w : ℕ). get_or SUBSTITUTION w 0) (and_octet (c.args.b / 2 ^ 16))) (ap (λ (w : ℕ). get_or SUBSTITUTION w 0) (and_octet (c.args.c / 2 ^ 8)))
    (ap (λ (w : ℕ). get_or SUBSTITUTION w 0) (and_octet c.args.d))
    c.from_be_bytes.ensures
