use Rattle.std.proofs.Common.{◌≡◌, ◌++◌, List, ap, ◌∙◌, subst, sym}
use Rattle.domain_base.specs.declared.names.Node.{Node}
use Rattle.domain_base.specs.declared.names.Node.TheVariants.{Ap}
use Rattle.std.specs.Prelude.{IfOk}
use Rattle.domain_base.specs.declared.names.Peer.{Peer}
use Rattle.domain_base.specs.declared.names.Peer.TheVariants.{One, All}
use Rattle.run_journal.specs.declared.acts.Act.{Act}
use Rattle.run_journal.specs.Events.{IsReceiverOf}
use Rattle.domain_rules.specs.Rows.{Send, outcome_of}
use Rattle.node_base.specs.Events.{seen}
use Rattle.ap_node.specs.State.{State}
use Rattle.ap_node.specs.Takes.{IsTaken}
use Rattle.ap_node.proofs.Messaging.{the_state}
use Rattle.ap_node.proofs.Traffic.{data_used, sending_of, takes_sent_all, under_outcome}
use Rattle.ap_node.proofs.Requesting.{if_begun}
use Rattle.ap_node.proofs.AtPlaces.{err_back}
use Rattle.ccmp_guard.specs.Held.{Held}
use Rattle.domain_rules.specs.DataRows.{used_acts}
use Rattle.data_frames.specs.Sending.{send_key_of, outcome_under}
use Rattle.ap_node.proofs.access_point.ApNode.send.Goals as goal

pub returns-in-One-clause-taken : goal.returns-in-One-clause-taken
returns-in-One-clause-taken c =
    subst (λ (q : Peer). IfOk c.send_one.result (λ outcome. IsTaken c.args.here.domain.now (Send q c.args.tid c.args.payload.now) c.args.self.now c.send_one.new.self (seen c.args.out.now.acts c.send_one.new.out.acts outcome)))
    (sym (c.in-One.is ∙ ap One c.number_of.ensures)) c.send_one.ensures.taken

pub send_one-requires-clause-receiver : goal.send_one-requires-clause-receiver
send_one-requires-clause-receiver c = subst (λ (q : Peer). IsReceiverOf c.args.here.domain.now (Ap c.args.self.now.number) q) (c.in-One.is ∙ ap One c.number_of.ensures) c.requires.receiver

pub returns-in-All-clause-taken : goal.returns-in-All-clause-taken
returns-in-All-clause-taken c =
    let d = c.args.here.domain.now in
    let tid = c.args.tid in
    let plain = c.args.payload.now in
    let old = c.args.self.now in
    let waited = c.args.out.now.acts in
    let waits = c.send.new.out.acts in
    let k = c.self.inside.sending.gtk in
    let k_is = ap (λ (s : State). s.sending.gtk) c.self.view_is in
    let new : State = the_state c.self.inside.number c.self.inside.drawn c.self.inside.group (sending_of c.send.new.self c.self.inside.sending.igtk) c.self.inside.stations.entries c.self.inside.owing in
    let acts_as = λ (n : Node) (x : Held). used_acts d n All tid plain (send_key_of x) in
    let same_acts : acts_as c.args.here.node k ≡ acts_as (Ap old.number) old.sending.gtk = ap (λ (n : Node). acts_as n k) c.requires.node ∙ ap (acts_as (Ap old.number)) k_is in
    let came = outcome_under k in
    subst (λ (q : Peer). IfOk c.send.result (λ outcome. IsTaken d (Send q tid plain) old new (seen waited waits outcome))) (sym c.in-All.is)
    (if_begun c.send.result came (λ outcome. IsTaken d (Send All tid plain) old new (seen waited waits outcome)) _ _ c.send.ensures.outcome c.send.ensures.acts c.send.ensures.used
    (λ waiting used.
    subst (λ (s : State). IsTaken d (Send All tid plain) old s (seen waited waits came))
    (sym (ap (λ (x : Held). the_state c.self.inside.number c.self.inside.drawn c.self.inside.group (sending_of x c.self.inside.sending.igtk) c.self.inside.stations.entries c.self.inside.owing) used ∙ ap (λ (s : State). record s { sending = data_used s.sending }) c.self.view_is))
    (takes_sent_all d old tid plain waited waits came (waiting ∙ ap (λ (l : List Act). waited ++ l) same_acts)
    (under_outcome d c.args.here.node All tid plain k ∙ ap outcome_of same_acts))))

pub returns-in-All-clause-same : goal.returns-in-All-clause-same
returns-in-All-clause-same c =
    let k = c.self.inside.sending.gtk in
    let with_key : Held → State = λ x. the_state c.self.inside.number c.self.inside.drawn c.self.inside.group (sending_of x c.self.inside.sending.igtk) c.self.inside.stations.entries c.self.inside.owing in
    err_back c.send.result (c.send.new.self ≡ k) _ (λ (same : c.send.new.self ≡ k). ap with_key same ∙ c.self.view_is) c.send.ensures.same
