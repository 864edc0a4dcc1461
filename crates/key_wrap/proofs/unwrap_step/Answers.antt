use Rattle.std.proofs.Common.{◌++◌, ℕ, List, ap, ap₂, ◌∙◌}
use Rattle.std.proofs.lemmas.List.{take-append-drop}
use Rattle.aes_block.specs.Cipher.{cipher}
use Rattle.key_wrap.proofs.StepLemmas.{lower_half}
use Rattle.key_wrap.proofs.unwrap_step.Goals as goal

pub returns : goal.returns
returns c =
    let plain = c.decrypt-decrypted.result in
    let lower = c.copy_from_slice.ensures.after ∙ lower_half plain c.decrypt-decrypted.ensures.is_block.sixteen in
    let whole = ap₂ (λ (v w : List ℕ). v ++ w) c.upper_half-upper.ensures lower ∙ take-append-drop 8 plain in
    ap (cipher c.args.key.now) whole ∙ c.decrypt-decrypted.ensures.encrypted ∙ c.joined.ensures
    ∙ ap (λ (w : List ℕ). w ++ c.args.block.now) c.with_count.ensures
