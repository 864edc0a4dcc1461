use Rattle.std.proofs.Common.{◌≤◌, ◌<◌, List, ℕ, length, sym, ap, ◌∙◌, subst, arith}
use Rattle.key_holders.specs.declared.rows.HolderRow.{HolderRow}
use Rattle.key_holders.specs.Rows.{put_answer}
use Rattle.key_holders.proofs.Lives.{put_again, put_full, put_held}
use Rattle.holder_table.specs.declared.history.HolderEvent.TheVariants.{Put}
use Rattle.holder_table.specs.Histories.{held_at}
use Rattle.holder_table.specs.Words.{name_octets}
use Rattle.holder_table.specs.Knowledge.{Did}
use Rattle.holder_table.proofs.Knows.{did_on}
use Rattle.holder_table.proofs.Lasting.{added_lasts}
use Rattle.holder_table.proofs.Spots.{spot_lives, spot_none, spot_length}
use Rattle.holder_table.proofs.row_table.RowTable.put.Goals as goal

pub returns-in-Live-clause-answer : goal.returns-in-Live-clause-answer
returns-in-Live-clause-answer c =
    let r : ℕ = c.args.ap in
    let v = c.args.seat.now.me.0 in
    let name = ap (λ (row : HolderRow). row.name) c.of-words.ensures in
    let lives = spot_lives r (name_octets c.of-words.result.name) v c.scan.new.seat.me.0 c.in-Live.ensures.more c.requires.has c.in-Live.field-0 c.in-Live.ensures.spot in
    sym (put_again (name_octets c.of-words.result.name) (held_at r v.seen) lives) ∙ ap (λ (n : List ℕ). put_answer n (held_at r v.seen)) name

pub returns-then-place-ge-ROWS-clause-answer : goal.returns-then-place-ge-ROWS-clause-answer
returns-then-place-ge-ROWS-clause-answer c =
    let r : ℕ = c.args.ap in
    let v = c.args.seat.now.me.0 in
    let name = ap (λ (row : HolderRow). row.name) c.of-words.ensures in
    let none = spot_none r (name_octets c.of-words.result.name) v c.scan.new.seat.me.0 c.in-Free.ensures.more c.requires.has c.in-Free.place c.in-Free.ensures.spot in
    let many = spot_length r (name_octets c.of-words.result.name) v c.scan.new.seat.me.0 c.in-Free.ensures.more c.requires.has c.in-Free.place c.in-Free.ensures.spot in
    let least : 64 ≤ length (held_at r v.seen) = omega (arith, many, c.if-place-ge-ROWS.true) in
    sym (put_full (name_octets c.of-words.result.name) (held_at r v.seen) none least) ∙ ap (λ (n : List ℕ). put_answer n (held_at r v.seen)) name

pub returns-else-place-ge-ROWS-clause-answer : goal.returns-else-place-ge-ROWS-clause-answer
returns-else-place-ge-ROWS-clause-answer c =
    let r : ℕ = c.args.ap in
    let v = c.args.seat.now.me.0 in
    let name = ap (λ (row : HolderRow). row.name) c.of-words.ensures in
    let none = spot_none r (name_octets c.of-words.result.name) v c.scan.new.seat.me.0 c.in-Free.ensures.more c.requires.has c.in-Free.place c.in-Free.ensures.spot in
    let few = spot_length r (name_octets c.of-words.result.name) v c.scan.new.seat.me.0 c.in-Free.ensures.more c.requires.has c.in-Free.place c.in-Free.ensures.spot in
    let most : length (held_at r v.seen) < 64 = omega (arith, few, c.if-place-ge-ROWS.false) in
    sym (put_held (name_octets c.of-words.result.name) (held_at r v.seen) none most) ∙ ap (λ (n : List ℕ). put_answer n (held_at r v.seen)) name

pub returns-else-place-ge-ROWS-clause-effect : goal.returns-else-place-ge-ROWS-clause-effect
returns-else-place-ge-ROWS-clause-effect c =
    subst (λ (row : HolderRow). Did (Put c.args.ap row) c.args.seat.now.me.0 c.append.new.seat.me.0) c.of-words.ensures (did_on _ _ _ _ c.in-Free.ensures.more c.append.ensures.adds)

pub returns-else-place-ge-ROWS-clause-lasting : goal.returns-else-place-ge-ROWS-clause-lasting
returns-else-place-ge-ROWS-clause-lasting c = λ last. added_lasts _ _ _ c.append.ensures.adds (c.in-Free.ensures.lasting last)
