use Rattle.std.proofs.Common.{ℕ, List, subst, sym, ap, ◌∙◌}
use Rattle.run_journal.specs.declared.acts.Act.{Act}
use Rattle.key_holders.specs.declared.rows.HeldRow.{HeldRow}
use Rattle.key_holders.specs.Listed.{rows_at}
use Rattle.ap_node.specs.Stands.{StandsWith}
use Rattle.embedded_node.specs.States.{Ap}
use Rattle.embedded_node.proofs.Standing.{ap_stays, ap_listed, ap_unlisted, rows_listed, pushed_listed}
use Rattle.embedded_node.proofs.access_point.EmbeddedAp.list_ap.Goals as goal

-- it is the first access point of the larger network
pub invariant_of-self : goal.invariant_of-self
invariant_of-self c =
    let s = c.self.inside in let l = c.list_other in let e = l.ensures in
    ap_listed l.result s.domain l.new.domain s.node s.holders l.new.holders s.out.acts c.args.address c.args.r0kh_id.now e.form e.domain e.holders e.same e.same_holders c.self.invariant

-- it stands for the same histories in the larger network
pub returns-clause-stands : goal.returns-clause-stands
returns-clause-stands c =
    let s = c.self.inside in let l = c.list_other in let e = l.ensures in
    let rows = rows_at s.holders.rows 0 in
    let same = ap (λ (x : List (List HeldRow)). rows_at x 0) (sym (rows_listed l.result s.holders l.new.holders c.args.r0kh_id.now e.holders e.same_holders)) in
    let stays = ap_stays l.result s.domain l.new.domain s.node rows c.stands_as_the_network_grows.ensures.with_rows e.form e.grows e.same c.self.invariant.form c.self.invariant.number c.self.invariant.listed in
    subst (λ (v : Ap). (first : ℕ) (h : List Act) → StandsWith v.domain first v.node (rows_at v.holders.rows 0) h → StandsWith l.new.domain first s.node (rows_at l.new.holders.rows 0) h) c.self.view_is
    (subst (λ (xs : List HeldRow). (first : ℕ) (h : List Act) → StandsWith s.domain first s.node rows h → StandsWith l.new.domain first s.node xs h) same stays)

pub returns-clause-pushed : goal.returns-clause-pushed
returns-clause-pushed c =
    let l = c.list_other in
    pushed_listed l.result c.self.inside.holders l.new.holders c.args.r0kh_id.now l.ensures.holders l.ensures.same_holders ∙ ap (λ (v : Ap). v.holders.pushed) c.self.view_is

pub returns-clause-same : goal.returns-clause-same
returns-clause-same c =
    let s = c.self.inside in let l = c.list_other in
    ap_unlisted l.result s.domain l.new.domain s.node s.holders l.new.holders s.out.acts _ l.ensures.same l.ensures.same_holders c.self.view_is
