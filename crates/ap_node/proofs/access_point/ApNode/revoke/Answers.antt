use Rattle.std.proofs.Common.{◌≡◌, ℕ, ap, subst}
use Rattle.run_journal.specs.declared.acts.Outcome.TheVariants.{Done}
use Rattle.domain_rules.specs.Rows.{Revoke}
use Rattle.node_base.specs.Events.{seen}
use Rattle.act_memory.proofs.Returning.{if_settled}
use Rattle.held_rows.specs.Looks.{NoLooks}
use Rattle.ap_node.specs.State.{State}
use Rattle.ap_node.specs.Putting.{LeavesOthers}
use Rattle.ap_node.specs.Takes.{IsTakenWith}
use Rattle.ap_node.proofs.RevokedKeys.{takes_revoked}
use Rattle.ap_node.proofs.Rows.{change_at}
use Rattle.ap_node.proofs.access_point.ApNode.revoke.Goals as goal

pub returns-clause-taken : goal.returns-clause-taken
returns-clause-taken over c =
    let d = c.args.here.domain.now in
    let s = c.args.self.now in
    let waited = c.args.out.now.acts in
    let waits = c.revoke.new.out.acts in
    let before = over.H.Holders.rows c.args.holders.now in
    let after = over.H.Holders.rows c.revoke.new.holders in
    let number : c.self.inside.number ≡ s.number = ap (λ (t : State). t.number) c.self.view_is in
    if_settled c.revoke.result Done (λ outcome. IsTakenWith NoLooks d (Revoke c.args.station) s s (before s.number) (after s.number) (seen waited waits outcome)) _ c.revoke.ensures.outcome c.revoke.ensures.acts
    (λ w. subst (λ (k : ℕ). IsTakenWith NoLooks d (Revoke c.args.station) s s (before k) (after k) (seen waited waits Done)) number
    (takes_revoked d s c.self.inside.number c.args.station (before c.self.inside.number) (after c.self.inside.number) waited waits number w))

pub returns-clause-change : goal.returns-clause-change
returns-clause-change over c = change_at _ _ _ c.self.inside.number c.args.self.now.number _ _ (ap (λ (t : State). t.number) c.self.view_is) c.revoke.ensures.change

pub returns-clause-others : goal.returns-clause-others
returns-clause-others over c =
    let before = c.args.holders.now in
    let after = c.revoke.new.holders in
    subst (λ (k : ℕ). LeavesOthers k (over.H.Holders.ids before) (over.H.Holders.ids after) (over.H.Holders.has before) (over.H.Holders.has after) (over.H.Holders.rows before) (over.H.Holders.rows after)) (ap (λ (t : State). t.number) c.self.view_is) c.revoke.ensures.others
