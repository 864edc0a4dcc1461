use Rattle.std.proofs.Common.{◌≡◌, ◌∙◌, ◌++◌, List, Option, sym, ap, subst}
use Rattle.domain_base.specs.declared.names.Node.{Node}
use Rattle.domain_base.specs.declared.names.Node.TheVariants.{Ap}
use Rattle.domain_base.specs.declared.names.Peer.TheVariants.{All}
use Rattle.run_journal.specs.declared.acts.Act.{Act}
use Rattle.run_journal.specs.Events.{IsReceiverOf}
use Rattle.domain_rules.specs.ManagementFrames.{announced, announce_acts_by}
use Rattle.domain_rules.specs.PacketNumbers.{SendKey}
use Rattle.domain_rules.specs.Rows.{Announce}
use Rattle.node_base.specs.Events.{seen}
use Rattle.ap_node.specs.InUse.{announced_by}
use Rattle.ap_node.specs.State.{State}
use Rattle.ap_node.specs.Takes.{IsTaken}
use Rattle.ap_node.proofs.AtPlaces.{err_back}
use Rattle.ap_node.proofs.Announcing.{announced_to, takes_announced}
use Rattle.ap_node.proofs.Listed.{ap_listed}
use Rattle.ap_node.proofs.Messaging.{the_state}
use Rattle.ap_node.proofs.Requesting.{if_begun}
use Rattle.ap_node.proofs.Traffic.{sending_of}
use Rattle.ap_node.proofs.access_point.ApNode.announce.Goals as goal

pub returns-clause-taken : goal.returns-clause-taken
returns-clause-taken c =
    let d = c.args.here.domain.now in
    let payload = c.args.payload.now in
    let old = c.args.self.now in
    let waited = c.args.out.now.acts in
    let waits = c.announce_under.new.out.acts in
    let o = c.self.inside.sending.igtk in
    let o_is = ap (λ (s : State). s.sending.igtk) c.self.view_is in
    let new : State = the_state c.self.inside.number c.self.inside.drawn c.self.inside.group (sending_of c.self.inside.sending.gtk c.announce_under.new.igtk) c.self.inside.stations.entries c.self.inside.owing in
    let acts_as = λ (n : Node) (x : Option SendKey). announce_acts_by d n (announced payload) x in
    let same_acts : acts_as c.args.here.node o ≡ acts_as (Ap old.number) old.sending.igtk = ap (λ (n : Node). acts_as n o) c.requires.node ∙ ap (acts_as (Ap old.number)) o_is in
    let came = announced_by o in
    if_begun c.announce_under.result came (λ outcome. IsTaken d (Announce payload) old new (seen waited waits outcome)) _ _ c.announce_under.ensures.outcome c.announce_under.ensures.acts c.announce_under.ensures.used
    (λ waiting used.
    subst (λ (s : State). IsTaken d (Announce payload) old s (seen waited waits came))
    (sym (ap (λ (x : Option SendKey). the_state c.self.inside.number c.self.inside.drawn c.self.inside.group (sending_of c.self.inside.sending.gtk x) c.self.inside.stations.entries c.self.inside.owing) used ∙ ap (λ (s : State). record s { sending = announced_to s.sending }) c.self.view_is))
    (takes_announced d old payload waited waits came c.requires.protects (waiting ∙ ap (λ (l : List Act). waited ++ l) same_acts) (ap announced_by o_is)))

pub returns-clause-same : goal.returns-clause-same
returns-clause-same c =
    let o = c.self.inside.sending.igtk in
    let with_key : Option SendKey → State = λ x. the_state c.self.inside.number c.self.inside.drawn c.self.inside.group (sending_of c.self.inside.sending.gtk x) c.self.inside.stations.entries c.self.inside.owing in
    err_back c.announce_under.result (c.announce_under.new.igtk ≡ o) _ (λ (same : c.announce_under.new.igtk ≡ o). ap with_key same ∙ c.self.view_is) c.announce_under.ensures.same

pub announce_under-requires-clause-listed : goal.announce_under-requires-clause-listed
announce_under-requires-clause-listed c = ap_listed c.args.here.domain.now c.args.here.node c.args.self.now.number c.requires.node c.requires.listed

pub announce_under-requires-clause-receiver : goal.announce_under-requires-clause-receiver
announce_under-requires-clause-receiver c = subst (λ (n : Node). IsReceiverOf c.args.here.domain.now n All) (sym c.requires.node) tt
