use Rattle.std.proofs.Common.{Bool, List, ℕ, ap, sym, ◌∙◌}
use Rattle.std.specs.Prelude.{slice_get, if◌then◌else◌}
use Rattle.key_hierarchy.specs.declared.answers.RevokeAnswer.TheVariants.{Revoked, Absent}
use Rattle.key_holders.specs.Rows.{revoke_answer}
use Rattle.holder_table.specs.Histories.{HeldRow, held_at}
use Rattle.holder_table.specs.Words.{name_octets}
use Rattle.holder_table.proofs.Knows.{did_on}
use Rattle.holder_table.proofs.Lasting.{added_lasts}
use Rattle.holder_table.proofs.Spots.{spot_lives, spot_none}
use Rattle.holder_table.proofs.row_table.RowTable.revoke.Goals as goal

pub returns-in-Live-clause-answer : goal.returns-in-Live-clause-answer
returns-in-Live-clause-answer c =
    let r : ℕ = c.args.ap in
    let v = c.args.seat.now.me.0 in
    let lives = spot_lives r (name_octets c.of.result) v c.scan.new.seat.me.0 c.in-Live.ensures.more c.requires.has c.in-Live.place c.in-Live.ensures.spot in
    ap (λ (b : Bool). if b then Revoked else Absent) (sym lives) ∙ ap (λ (n : List ℕ). revoke_answer n (held_at r v.seen)) c.of.ensures

pub returns-in-Live-clause-effect : goal.returns-in-Live-clause-effect
returns-in-Live-clause-effect c =
    let found = c.in-Live.ensures.spot.1 in
    let same = c.in-Live.ensures.more.own c.args.ap c.requires.has in
    (c.in-Live.place, found.0, ap (λ (ps : List HeldRow). slice_get ps c.in-Live.place) (sym same) ∙ found.1, found.2.0 ∙ c.of.ensures, did_on _ _ _ _ c.in-Live.ensures.more c.end_row.ensures.adds)

pub returns-in-Free-clause-answer : goal.returns-in-Free-clause-answer
returns-in-Free-clause-answer c =
    let r : ℕ = c.args.ap in
    let v = c.args.seat.now.me.0 in
    let none = spot_none r (name_octets c.of.result) v c.scan.new.seat.me.0 c.in-Free.ensures.more c.requires.has c.in-Free.field-0 c.in-Free.ensures.spot in
    ap (λ (b : Bool). if b then Revoked else Absent) (sym none) ∙ ap (λ (n : List ℕ). revoke_answer n (held_at r v.seen)) c.of.ensures

pub returns-in-Live-clause-lasting : goal.returns-in-Live-clause-lasting
returns-in-Live-clause-lasting c = λ last. added_lasts _ _ _ c.end_row.ensures.adds (c.in-Live.ensures.lasting last)
