use Rattle.std.proofs.Common.{ℕ, List, length, sym, ap, ◌∙◌, arith}
use Rattle.atomic_table.specs.Table.{Me}
use Rattle.holder_table.specs.declared.view.View.{View}
use Rattle.holder_table.specs.declared.history.HolderEvent.{HolderEvent}
use Rattle.holder_table.specs.Histories.{held_at}
use Rattle.holder_table.specs.Steps.{drafted}
use Rattle.holder_table.proofs.Drafts.{goes_on}
use Rattle.holder_table.proofs.row_table.RowTable.write_row.Goals as goal

pub returns-clause-draft : goal.returns-clause-draft
returns-clause-draft c =
    let r : ℕ = c.args.ap in
    let words = c.args.words.now in
    c.write_word-7.ensures.draft
    ∙ ap (λ (m : Me (Unit {0}) View). (drafted m.0 r 6 words.sta, m.1)) (c.write_word-6.ensures.draft
    ∙ ap (λ (m : Me (Unit {0}) View). (drafted m.0 r 5 words.fourth, m.1)) (c.write_word-5.ensures.draft
    ∙ ap (λ (m : Me (Unit {0}) View). (drafted m.0 r 4 words.third, m.1)) (c.write_word-4.ensures.draft
    ∙ ap (λ (m : Me (Unit {0}) View). (drafted m.0 r 3 words.second, m.1)) (c.write_word-3.ensures.draft
    ∙ ap (λ (m : Me (Unit {0}) View). (drafted m.0 r 2 words.first, m.1)) (c.write_word-2.ensures.draft
    ∙ ap (λ (m : Me (Unit {0}) View). (drafted m.0 r 1 words.name.low, m.1)) c.write_word.ensures.draft)))))

pub write_word-requires-2-clause-place : goal.write_word-requires-2-clause-place
write_word-requires-2-clause-place c = c.requires.place ∙ ap (λ (h : List HolderEvent). length (held_at c.args.ap h)) (sym (ap (λ (m : Me (Unit {0}) View). m.0.seen) c.write_word.ensures.draft))

pub write_word-requires-2-clause-on : goal.write_word-requires-2-clause-on
write_word-requires-2-clause-on c =
    let on-2 = goes_on c.write_word.new.seat.me c.args.seat.now.me.0 c.args.seat.now.me.1 c.args.ap 0 c.args.words.now.name.high (omega arith) c.write_word.ensures.draft in
    on-2

pub write_word-requires-3-clause-place : goal.write_word-requires-3-clause-place
write_word-requires-3-clause-place c = c.requires.place ∙ ap (λ (h : List HolderEvent). length (held_at c.args.ap h)) (sym (ap (λ (m : Me (Unit {0}) View). m.0.seen) c.write_word-2.ensures.draft ∙ (ap (λ (m : Me (Unit {0}) View). m.0.seen) c.write_word.ensures.draft)))

pub write_word-requires-3-clause-on : goal.write_word-requires-3-clause-on
write_word-requires-3-clause-on c =
    let on-2 = goes_on c.write_word.new.seat.me c.args.seat.now.me.0 c.args.seat.now.me.1 c.args.ap 0 c.args.words.now.name.high (omega arith) c.write_word.ensures.draft in
    let on-3 = goes_on c.write_word-2.new.seat.me c.write_word.new.seat.me.0 c.write_word.new.seat.me.1 c.args.ap 1 c.args.words.now.name.low on-2.0 c.write_word-2.ensures.draft in
    on-3

pub write_word-requires-4-clause-place : goal.write_word-requires-4-clause-place
write_word-requires-4-clause-place c = c.requires.place ∙ ap (λ (h : List HolderEvent). length (held_at c.args.ap h)) (sym (ap (λ (m : Me (Unit {0}) View). m.0.seen) c.write_word-3.ensures.draft ∙ (ap (λ (m : Me (Unit {0}) View). m.0.seen) c.write_word-2.ensures.draft ∙ (ap (λ (m : Me (Unit {0}) View). m.0.seen) c.write_word.ensures.draft))))

pub write_word-requires-4-clause-on : goal.write_word-requires-4-clause-on
write_word-requires-4-clause-on c =
    let on-2 = goes_on c.write_word.new.seat.me c.args.seat.now.me.0 c.args.seat.now.me.1 c.args.ap 0 c.args.words.now.name.high (omega arith) c.write_word.ensures.draft in
    let on-3 = goes_on c.write_word-2.new.seat.me c.write_word.new.seat.me.0 c.write_word.new.seat.me.1 c.args.ap 1 c.args.words.now.name.low on-2.0 c.write_word-2.ensures.draft in
    let on-4 = goes_on c.write_word-3.new.seat.me c.write_word-2.new.seat.me.0 c.write_word-2.new.seat.me.1 c.args.ap 2 c.args.words.now.first on-3.0 c.write_word-3.ensures.draft in
    on-4

pub write_word-requires-5-clause-place : goal.write_word-requires-5-clause-place
write_word-requires-5-clause-place c = c.requires.place ∙ ap (λ (h : List HolderEvent). length (held_at c.args.ap h)) (sym (ap (λ (m : Me (Unit {0}) View). m.0.seen) c.write_word-4.ensures.draft ∙ (ap (λ (m : Me (Unit {0}) View). m.0.seen) c.write_word-3.ensures.draft ∙ (ap (λ (m : Me (Unit {0}) View). m.0.seen) c.write_word-2.ensures.draft ∙ (ap (λ (m : Me (Unit {0}) View). m.0.seen) c.write_word.ensures.draft)))))

pub write_word-requires-5-clause-on : goal.write_word-requires-5-clause-on
write_word-requires-5-clause-on c =
    let on-2 = goes_on c.write_word.new.seat.me c.args.seat.now.me.0 c.args.seat.now.me.1 c.args.ap 0 c.args.words.now.name.high (omega arith) c.write_word.ensures.draft in
    let on-3 = goes_on c.write_word-2.new.seat.me c.write_word.new.seat.me.0 c.write_word.new.seat.me.1 c.args.ap 1 c.args.words.now.name.low on-2.0 c.write_word-2.ensures.draft in
    let on-4 = goes_on c.write_word-3.new.seat.me c.write_word-2.new.seat.me.0 c.write_word-2.new.seat.me.1 c.args.ap 2 c.args.words.now.first on-3.0 c.write_word-3.ensures.draft in
    let on-5 = goes_on c.write_word-4.new.seat.me c.write_word-3.new.seat.me.0 c.write_word-3.new.seat.me.1 c.args.ap 3 c.args.words.now.second on-4.0 c.write_word-4.ensures.draft in
    on-5

pub write_word-requires-6-clause-place : goal.write_word-requires-6-clause-place
write_word-requires-6-clause-place c = c.requires.place ∙ ap (λ (h : List HolderEvent). length (held_at c.args.ap h)) (sym (ap (λ (m : Me (Unit {0}) View). m.0.seen) c.write_word-5.ensures.draft ∙ (ap (λ (m : Me (Unit {0}) View). m.0.seen) c.write_word-4.ensures.draft ∙ (ap (λ (m : Me (Unit {0}) View). m.0.seen) c.write_word-3.ensures.draft ∙ (ap (λ (m : Me (Unit {0}) View). m.0.seen) c.write_word-2.ensures.draft ∙ (ap (λ (m : Me (Unit {0}) View). m.0.seen) c.write_word.ensures.draft))))))

pub write_word-requires-6-clause-on : goal.write_word-requires-6-clause-on
write_word-requires-6-clause-on c =
    let on-2 = goes_on c.write_word.new.seat.me c.args.seat.now.me.0 c.args.seat.now.me.1 c.args.ap 0 c.args.words.now.name.high (omega arith) c.write_word.ensures.draft in
    let on-3 = goes_on c.write_word-2.new.seat.me c.write_word.new.seat.me.0 c.write_word.new.seat.me.1 c.args.ap 1 c.args.words.now.name.low on-2.0 c.write_word-2.ensures.draft in
    let on-4 = goes_on c.write_word-3.new.seat.me c.write_word-2.new.seat.me.0 c.write_word-2.new.seat.me.1 c.args.ap 2 c.args.words.now.first on-3.0 c.write_word-3.ensures.draft in
    let on-5 = goes_on c.write_word-4.new.seat.me c.write_word-3.new.seat.me.0 c.write_word-3.new.seat.me.1 c.args.ap 3 c.args.words.now.second on-4.0 c.write_word-4.ensures.draft in
    let on-6 = goes_on c.write_word-5.new.seat.me c.write_word-4.new.seat.me.0 c.write_word-4.new.seat.me.1 c.args.ap 4 c.args.words.now.third on-5.0 c.write_word-5.ensures.draft in
    on-6

pub write_word-requires-7-clause-place : goal.write_word-requires-7-clause-place
write_word-requires-7-clause-place c = c.requires.place ∙ ap (λ (h : List HolderEvent). length (held_at c.args.ap h)) (sym (ap (λ (m : Me (Unit {0}) View). m.0.seen) c.write_word-6.ensures.draft ∙ (ap (λ (m : Me (Unit {0}) View). m.0.seen) c.write_word-5.ensures.draft ∙ (ap (λ (m : Me (Unit {0}) View). m.0.seen) c.write_word-4.ensures.draft ∙ (ap (λ (m : Me (Unit {0}) View). m.0.seen) c.write_word-3.ensures.draft ∙ (ap (λ (m : Me (Unit {0}) View). m.0.seen) c.write_word-2.ensures.draft ∙ (ap (λ (m : Me (Unit {0}) View). m.0.seen) c.write_word.ensures.draft)))))))

pub write_word-requires-7-clause-on : goal.write_word-requires-7-clause-on
write_word-requires-7-clause-on c =
    let on-2 = goes_on c.write_word.new.seat.me c.args.seat.now.me.0 c.args.seat.now.me.1 c.args.ap 0 c.args.words.now.name.high (omega arith) c.write_word.ensures.draft in
    let on-3 = goes_on c.write_word-2.new.seat.me c.write_word.new.seat.me.0 c.write_word.new.seat.me.1 c.args.ap 1 c.args.words.now.name.low on-2.0 c.write_word-2.ensures.draft in
    let on-4 = goes_on c.write_word-3.new.seat.me c.write_word-2.new.seat.me.0 c.write_word-2.new.seat.me.1 c.args.ap 2 c.args.words.now.first on-3.0 c.write_word-3.ensures.draft in
    let on-5 = goes_on c.write_word-4.new.seat.me c.write_word-3.new.seat.me.0 c.write_word-3.new.seat.me.1 c.args.ap 3 c.args.words.now.second on-4.0 c.write_word-4.ensures.draft in
    let on-6 = goes_on c.write_word-5.new.seat.me c.write_word-4.new.seat.me.0 c.write_word-4.new.seat.me.1 c.args.ap 4 c.args.words.now.third on-5.0 c.write_word-5.ensures.draft in
    let on-7 = goes_on c.write_word-6.new.seat.me c.write_word-5.new.seat.me.0 c.write_word-5.new.seat.me.1 c.args.ap 5 c.args.words.now.fourth on-6.0 c.write_word-6.ensures.draft in
    on-7
