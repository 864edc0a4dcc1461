use Rattle.std.proofs.Common.{ap, ◌∙◌, arith}
use Rattle.aes_block.specs.Cipher.{round_key, after_rounds, cipher}
use Rattle.aes_block.specs.Words.{columns, octets_of}
use Rattle.aes_block.proofs.KeyLemmas.{IsBlock-round_key}
use Rattle.aes_block.proofs.WordLemmas.{octets_of-columns}
use Rattle.aes_block.proofs.CipherLemmas.{IsBlock-after_rounds, IsBlock-cipher, after_rounds-first, after_round, after_rounds-last}
use Rattle.aes_block.proofs.encrypted.Goals as goal

pub returns : goal.returns
returns c = λ k s bk bs es keys.
    let start =
    c.added-start.ensures s (round_key k 0) bs (IsBlock-round_key k 0 bk) es (keys 0 (omega arith)) ∙ ap columns (after_rounds-first k s) in
    let first = after_round k s 0 bk bs start (keys 1 (omega arith)) c.full_round-first.ensures in
    let second = after_round k s 1 bk bs first (keys 2 (omega arith)) c.full_round-second.ensures in
    let third = after_round k s 2 bk bs second (keys 3 (omega arith)) c.full_round-third.ensures in
    let fourth = after_round k s 3 bk bs third (keys 4 (omega arith)) c.full_round-fourth.ensures in
    let fifth = after_round k s 4 bk bs fourth (keys 5 (omega arith)) c.full_round-fifth.ensures in
    let sixth = after_round k s 5 bk bs fifth (keys 6 (omega arith)) c.full_round-sixth.ensures in
    let seventh = after_round k s 6 bk bs sixth (keys 7 (omega arith)) c.full_round-seventh.ensures in
    let eighth = after_round k s 7 bk bs seventh (keys 8 (omega arith)) c.full_round-eighth.ensures in
    let ninth = after_round k s 8 bk bs eighth (keys 9 (omega arith)) c.full_round-ninth.ensures in
    c.octets.ensures
    ∙ ap octets_of (c.last_round.ensures (after_rounds k s 9) (round_key k 10) (IsBlock-after_rounds k s 9 bk bs)
    (IsBlock-round_key k 10 bk) ninth (keys 10 (omega arith))
    ∙ ap columns (after_rounds-last k s))
    ∙ octets_of-columns (cipher k s) (IsBlock-cipher k s bk.are_octets bs.are_octets)
