use Rattle.std.proofs.Common.{◌≡◌, ◌<◌, ℕ, List, get_or, length, sym, ◌∙◌, subst, rules}
use Rattle.std.proofs.lemmas.Nat.{be_bytes_8}
use Rattle.holder_table.proofs.Pieces.{part_small}
use Rattle.holder_table.proofs.words.word_at.Goals as goal

pub returns : goal.returns
returns c =
    let len : length c.array_at.result ≡ 8 = search rules in
    let small = part_small c.args.octets.now c.args.at (λ i. (c.type_inv.octets i).fits) (subst (λ (w : List ℕ). length w ≡ 8) c.array_at.ensures len) in
    be_bytes_8 c.array_at.result _ len (λ i. subst (λ (w : List ℕ). get_or w i 0 < 256) (sym c.array_at.ensures) (small i)) c.from_be_bytes.ensures
    ∙ c.array_at.ensures
