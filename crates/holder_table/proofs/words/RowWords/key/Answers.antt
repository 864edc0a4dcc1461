use Rattle.std.proofs.Common.{◌≡◌, ℕ, List, ◌++◌, length, ap, ◌∙◌, arith}
use Rattle.holder_table.proofs.Pieces.{four_put}
use Rattle.holder_table.proofs.words.RowWords.key.Goals as goal

pub returns : goal.returns
returns c =
    let a = c.to_be_bytes.ensures in
    let b = c.to_be_bytes-2.ensures in
    let d = c.to_be_bytes-3.ensures in
    let e = c.to_be_bytes-4.ensures in
    let la : length c.to_be_bytes.result ≡ 8 = ap (λ (w : List ℕ). length w) c.to_be_bytes.ensures in
    let lb : length c.to_be_bytes-2.result ≡ 8 = ap (λ (w : List ℕ). length w) c.to_be_bytes-2.ensures in
    let ld : length c.to_be_bytes-3.result ≡ 8 = ap (λ (w : List ℕ). length w) c.to_be_bytes-3.ensures in
    let le : length c.to_be_bytes-4.result ≡ 8 = ap (λ (w : List ℕ). length w) c.to_be_bytes-4.ensures in
    let all : length c.put.new.out ≡ 32 = c.put.ensures.len ∙ (c.put-end-3.ensures.len ∙ (c.put-end-2.ensures.len ∙ c.put-end.ensures.len)) in
    four_put c.to_be_bytes.result c.to_be_bytes-2.result c.to_be_bytes-3.result c.to_be_bytes-4.result
    c.put-end.result c.put-end-2.result c.put-end-3.result c.put.result
    c.put-end.new.out c.put-end-2.new.out c.put-end-3.new.out c.put.new.out
    c.put-end.ensures.front c.put-end-2.ensures.front c.put-end-3.ensures.front c.put.ensures.front
    (omega (arith, all, la, lb, ld, le, c.put-end.ensures.end, c.put-end-2.ensures.end, c.put-end-3.ensures.end, c.put.ensures.end))
    ∙ (λ i. a i ++ b i ++ d i ++ e i)
