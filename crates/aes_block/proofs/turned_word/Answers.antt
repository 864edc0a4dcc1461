use Rattle.std.proofs.Common.{ℕ, ◌/◌, ◌%◌, ◌^◌, get_or, refl, ap, arith}
use Rattle.aes_block.specs.declared.constants.TheConstants.{SUBSTITUTION}
use Rattle.aes_block.proofs.WordLemmas.{substituted_column_is, and_octet}
use Rattle.aes_block.proofs.turned_word.Goals as goal

pub returns : goal.returns
returns c =
    let w = c.args.word in
    substituted_column_is (w / 2 ^ 16 % 256) (w / 2 ^ 8 % 256) (w % 256) (w / 2 ^ 24)
    (omega arith) (omega arith) (omega arith) (omega arith)
    (ap (λ (v : ℕ). get_or SUBSTITUTION v 0) (and_octet (w / 2 ^ 16))) (ap (λ (v : ℕ). get_or SUBSTITUTION v 0) (and_octet (w / 2 ^ 8)))
    (ap (λ (v : ℕ). get_or SUBSTITUTION v 0) (and_octet w)) refl
    c.from_be_bytes.ensures
