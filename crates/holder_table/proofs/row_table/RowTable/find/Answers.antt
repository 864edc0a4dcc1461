use Rattle.std.proofs.Common.{◌≡◌, List, ℕ, Some, None, sym, ap, ◌∙◌, subst}
use Rattle.key_holders.specs.declared.rows.HolderRow.{HolderRow}
use Rattle.holder_table.specs.declared.view.View.{View}
use Rattle.holder_table.specs.Histories.{live}
use Rattle.holder_table.specs.Words.{name_octets}
use Rattle.holder_table.specs.Rule.{LoadsLast}
use Rattle.holder_table.specs.Knowledge.{KnowsMore, Finds}
use Rattle.holder_table.proofs.Spots.{finds_row, finds_none}
use Rattle.holder_table.proofs.row_table.RowTable.find.Goals as goal

pub returns-in-Live-clause-more : goal.returns-in-Live-clause-more
returns-in-Live-clause-more c =
    subst (λ (x : View). KnowsMore c.args.seat.now.me.0 x) (sym (ap (λ m. m.0) c.row_words-words.ensures.pass.1)) c.in-Live.ensures.more

pub returns-in-Live-clause-finds : goal.returns-in-Live-clause-finds
returns-in-Live-clause-finds c =
    let r : ℕ = c.args.ap in
    let v = c.args.seat.now.me.0 in
    let w = c.scan.new.seat.me.0 in
    let spot = c.in-Live.ensures.spot in
    let row = spot.1.0 in
    let same : c.row_words-words.new.seat.me.0 ≡ w = ap (λ m. m.0) c.row_words-words.ensures.pass.1 in
    let is : c.row.result ≡ row = c.row.ensures ∙ c.row_words-words.ensures.row (live row) spot.1.1 in
    subst (λ (x : View). Finds r c.args.name.now c.args.sta v x (Some c.row.result)) (sym same)
    (subst (λ (x : HolderRow). Finds r c.args.name.now c.args.sta v w (Some x)) (sym is)
    (subst (λ (n : List ℕ). Finds r n c.args.sta v w (Some row)) c.of.ensures (finds_row r (name_octets c.of.result) c.args.sta v w c.in-Live.place row spot spot.1.1)))

pub returns-in-Free-clause-finds : goal.returns-in-Free-clause-finds
returns-in-Free-clause-finds c =
    let w = c.scan.new.seat.me.0 in
    subst (λ (n : List ℕ). Finds c.args.ap n c.args.sta c.args.seat.now.me.0 w None) c.of.ensures
    (finds_none c.args.ap (name_octets c.of.result) c.args.sta c.args.seat.now.me.0 w c.in-Free.field-0 c.in-Free.ensures.spot)

pub returns-in-Live-clause-lasting : goal.returns-in-Live-clause-lasting
returns-in-Live-clause-lasting c = λ last. subst (λ (x : View). LoadsLast x) (sym (ap (λ m. m.0) c.row_words-words.ensures.pass.1)) (c.in-Live.ensures.lasting last)
