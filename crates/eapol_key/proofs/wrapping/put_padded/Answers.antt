use Rattle.std.proofs.Common.{ℕ, ◌∙◌, ap, arith, replicate}
use Rattle.eapol_key.proofs.Wrapped.{padded-put}
use Rattle.eapol_key.proofs.wrapping.put_padded.Goals as goal

pub returns-then-plain-out : goal.returns-then-plain-out
returns-then-plain-out c =
    padded-put c.args.plain.now c.copy_from_slice.new.self c.fill.new.self c.copy_from_slice.ensures.after
    (c.fill.ensures.after (λ y e. e) ∙ ap (λ (n : ℕ). replicate n 0) c.requires) (omega arith)
