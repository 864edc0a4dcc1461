use Rattle.std.proofs.Common.{◌≡◌, Some, sym, ◌∙◌, subst}
use Rattle.std.specs.Prelude.{slice_get}
use Rattle.atomic_table.specs.Table.{Me}
use Rattle.holder_table.specs.declared.view.View.{View}
use Rattle.holder_table.specs.Histories.{held_at}
use Rattle.holder_table.proofs.Pieces.{words_meet}
use Rattle.holder_table.proofs.row_table.RowTable.row_words.Goals as goal

pub returns-clause-row : goal.returns-clause-row
returns-clause-row c = λ p there.
    let at : (m : Me (Unit {0}) View) → m ≡ c.args.seat.now.me → slice_get (held_at c.args.ap m.0.seen) c.args.place ≡ Some p
    = λ m same. subst (λ (x : Me (Unit {0}) View). slice_get (held_at c.args.ap x.0.seen) c.args.place ≡ Some p) (sym same) there in
    let e1 = c.word_of-high.ensures.pass.1 in
    let e2 = c.word_of-low.ensures.pass.1 ∙ e1 in
    let e3 = c.word_of-first.ensures.pass.1 ∙ e2 in
    let e4 = c.word_of-second.ensures.pass.1 ∙ e3 in
    let e5 = c.word_of-third.ensures.pass.1 ∙ e4 in
    let e6 = c.word_of-fourth.ensures.pass.1 ∙ e5 in
    words_meet _ p.row
    (c.word_of-high.ensures.word p there)
    (c.word_of-low.ensures.word p (at _ e1))
    (c.word_of-first.ensures.word p (at _ e2))
    (c.word_of-second.ensures.word p (at _ e3))
    (c.word_of-third.ensures.word p (at _ e4))
    (c.word_of-fourth.ensures.word p (at _ e5))
    (c.word_of-sta.ensures.word p (at _ e6))
