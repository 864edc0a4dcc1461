use Rattle.std.proofs.Common.{◌≡◌, ℕ, List, ◌++◌, length, ap, ◌∙◌, arith}
use Rattle.holder_table.proofs.Pieces.{two_put}
use Rattle.holder_table.proofs.words.NameWords.octets.Goals as goal

pub returns : goal.returns
returns c =
    let a = c.to_be_bytes.ensures in
    let b = c.to_be_bytes-2.ensures in
    let e : length c.to_be_bytes.result ≡ 8 = ap (λ (w : List ℕ). length w) c.to_be_bytes.ensures in
    let f : length c.to_be_bytes-2.result ≡ 8 = ap (λ (w : List ℕ). length w) c.to_be_bytes-2.ensures in
    let all : length c.put.new.out ≡ 16 = c.put.ensures.len ∙ c.put-end.ensures.len in
    two_put c.to_be_bytes.result c.to_be_bytes-2.result c.put-end.result c.put.result c.put-end.new.out c.put.new.out
    c.put-end.ensures.front c.put.ensures.front (omega (arith, all, e, f, c.put-end.ensures.end, c.put.ensures.end))
    ∙ (λ i. a i ++ b i)
