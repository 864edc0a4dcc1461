use Rattle.std.proofs.Common.{◌≡◌, ℕ, zero, suc, ◌≤◌, List, ◌∷◌, take, replicate, refl, ap, subst, ◌∙◌, arith}
use Rattle.std.proofs.lemmas.List.{take-replicate}
use Rattle.domain_base.specs.Padding.{padding_octets}
use Rattle.rsn_elements.specs.Writer.{Appends}
use Rattle.rsn_elements.proofs.writing.ElementWriter.pad.Goals as goal

-- a front of dd and zeros
padding_front : (n : ℕ) → n ≤ 16 → take n (0xdd ∷ replicate 15 0) ≡ padding_octets n
padding_front zero h = refl
padding_front (suc k) h = ap (λ (w : List ℕ). 0xdd ∷ w) (take-replicate k 15 0 (omega arith))

pub returns : goal.returns
returns c =
    let front = c.split_at.ensures.front ∙ padding_front c.lacking-lacking.result c.lacking-lacking.ensures.few ∙ ap padding_octets c.lacking-lacking.ensures.count in
    subst (λ (w : List ℕ). Appends c.args.self.now c.append.new.self w) front c.append.ensures
