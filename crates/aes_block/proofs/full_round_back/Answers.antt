use Rattle.std.proofs.Common.{ℕ, get_or, ◌∙◌}
use Rattle.domain_base.proofs.OctetLemmas.{get_or_below}
use Rattle.aes_block.specs.Words.{unmix_columns}
use Rattle.aes_block.proofs.WordLemmas.{four_words}
use Rattle.aes_block.proofs.RoundLemmas.{IsBlock-unmixed, added_is, is_turned, columns-unmixed}
use Rattle.aes_block.proofs.full_round_back.Goals as goal

pub returns : goal.returns
returns c = λ s k bs bk es ek.
    let at = λ (i : ℕ). get_or_below s i bs.are_octets in
    let t = is_turned s c.args.state bs es in
    added_is (unmix_columns s) k _ c.args.key (IsBlock-unmixed s bs) bk
    (four_words
    (c.unmixed_column.ensures (get_or s 0 0) (get_or s 1 0) (get_or s 2 0) (get_or s 3 0) (at 0) (at 1) (at 2) (at 3) t.first.0 t.second.0 t.third.0 t.fourth.0)
    (c.unmixed_column-2.ensures (get_or s 4 0) (get_or s 5 0) (get_or s 6 0) (get_or s 7 0) (at 4) (at 5) (at 6) (at 7) t.first.1 t.second.1 t.third.1 t.fourth.1)
    (c.unmixed_column-3.ensures (get_or s 8 0) (get_or s 9 0) (get_or s 10 0) (get_or s 11 0) (at 8) (at 9) (at 10) (at 11) t.first.2 t.second.2 t.third.2 t.fourth.2)
    (c.unmixed_column-4.ensures (get_or s 12 0) (get_or s 13 0) (get_or s 14 0) (get_or s 15 0) (at 12) (at 13) (at 14) (at 15) t.first.3 t.second.3 t.third.3 t.fourth.3)
    ∙ columns-unmixed s bs.sixteen) ek
