use Rattle.std.proofs.Common.{◌≡◌, ◌+◌, ◌*◌, ◌<◌, ℕ, length, sym, ap, ◌∙◌, subst, arith}
use Rattle.atomic_table.specs.Table.{Me}
use Rattle.key_holders.specs.declared.rows.HolderRow.{HolderRow}
use Rattle.holder_table.specs.declared.history.HolderEvent.TheVariants.{Put}
use Rattle.holder_table.specs.declared.words.RowWords.{RowWords}
use Rattle.holder_table.specs.Histories.{is_in, held_at}
use Rattle.holder_table.specs.declared.view.View.{View}
use Rattle.holder_table.specs.Words.{row_of, row_words}
use Rattle.holder_table.specs.Steps.{Adds, written}
use Rattle.holder_table.proofs.Stores.{publishes}
use Rattle.holder_table.proofs.row_table.RowTable.append.Goals as goal

-- an event of a pass that had written a row
was_written : (v w u : View) (r s : ℕ) (row : HolderRow) (new : RowWords) → v ≡ written u s new → Adds (Put r row) v w → Adds (Put r row) u w
was_written v w u r s row new is a =
    let b : Adds (Put r row) (written u s new) w = subst (λ (x : View). Adds (Put r row) x w) is a in
    record { between = b.between; seen = b.seen; same = b.same; has = b.has; loads = b.loads; settled = b.settled }

pub store-requires : goal.store-requires
store-requires c =
    let shared = c.args.self.now.table.shared in
    let size = c.args.self.now.sized in
    let seat = c.write_row.new.seat in
    let r : ℕ = c.args.ap in
    let is = ap (λ (m : Me (Unit {0}) View). m.0) c.write_row.ensures.draft in (
      c.write_row.ensures.pass ∙ c.requires.pass,
      omega (arith, size, c.requires.ap, c.requires.room),
      publishes shared.key shared.table_id.slots seat.id _ r c.args.words.now seat.me
          (subst (λ (v : View). length (held_at r v.seen) < 64) (sym is) (subst (λ (n : ℕ). n < 64) c.requires.place c.requires.room))
          (ap (λ (v : View). is_in r v.has) is ∙ c.requires.has)
          (ap (λ (v : View). v.writes) is)
          (ap (λ (v : View). v.draft) is)
          (ap (λ (n : ℕ). 1 + 8 * (64 * r + n)) (c.requires.place ∙ ap (λ (v : View). length (held_at r v.seen)) (sym is))),
    )

-- what the last step told
told : (c : goal.After-store) → Adds (Put c.args.ap (row_of (row_words c.args.words.now))) c.write_row.new.seat.me.0 c.store.new.seat.me.0 × (c.store.new.seat.me.1 ≡ c.write_row.new.seat.me.1)
told c =
    let r : ℕ = c.args.ap in
    let is = ap (λ (m : Me (Unit {0}) View). m.0) c.write_row.ensures.draft in
    let last = c.store.ensures.2 r
    (subst (λ (v : View). length (held_at r v.seen) < 64) (sym is) (subst (λ (n : ℕ). n < 64) c.requires.place c.requires.room))
    (ap (λ (n : ℕ). 1 + 8 * (64 * r + n)) (c.requires.place ∙ ap (λ (v : View). length (held_at r v.seen)) (sym is))) in
    (subst (λ (row : HolderRow). Adds (Put r row) c.write_row.new.seat.me.0 c.store.new.seat.me.0) (ap (λ (v : View). row_of v.draft) is) last.0, last.1)

pub returns-clause-pass : goal.returns-clause-pass
returns-clause-pass c = (c.store.ensures.0 ∙ c.write_row.ensures.pass, (told c).1 ∙ ap (λ (m : Me (Unit {0}) View). m.1) c.write_row.ensures.draft)

pub returns-clause-adds : goal.returns-clause-adds
returns-clause-adds c = was_written c.write_row.new.seat.me.0 c.store.new.seat.me.0 c.args.seat.now.me.0 c.args.ap c.args.ap (row_of (row_words c.args.words.now)) c.args.words.now (ap (λ (m : Me (Unit {0}) View). m.0) c.write_row.ensures.draft) (told c).0
