use Rattle.std.proofs.Common.{refl}
use Rattle.aes_block.proofs.CipherLemmas.{cipher-injective, Decrypts-some}
use Rattle.aes_block.proofs.decryption_undoes_encryption.Goals as goal

pub returns-clause-undone : goal.returns-clause-undone
returns-clause-undone c = λ key plain of_key of_plain. record { is_block = of_plain; encrypted = refl }

pub returns-clause-alone : goal.returns-clause-alone
returns-clause-alone c = λ key plain other of_key of_plain d. cipher-injective key other plain of_key d.is_block of_plain d.encrypted

pub returns-clause-some : goal.returns-clause-some
returns-clause-some c = Decrypts-some
