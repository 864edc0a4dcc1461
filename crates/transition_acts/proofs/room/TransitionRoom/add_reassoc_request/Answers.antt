use Rattle.std.proofs.Common.{◌≡◌, ◌++◌, sym, subst}
use Rattle.domain_base.specs.declared.names.Node.{Node}
use Rattle.mac_prf.specs.declared.reassociation.Reassociation.TheVariants.{Request}
use Rattle.ft_exchange.specs.Told.{came, reassoc_request_acts}
use Rattle.transition_acts.specs.Rooms.{IsRoom}
use Rattle.transition_acts.proofs.Chaining.{five}
use Rattle.transition_acts.proofs.room.TransitionRoom.add_reassoc_request.Goals as goal

pub returns-clause-acts : goal.returns-clause-acts
returns-clause-acts c d root n p octets e room =
    let q : Node = c.args.self.peer in
    let here : IsRoom d root n q octets e Request c.args.self = subst (λ (x : Node). IsRoom d root n x octets e Request c.args.self) (sym room.peer) room in
    let chained =
    five _ _ _ _ _ _ _ _ _ _ _ (c.add_sealed.ensures.acts octets _ here.taken) c.add_replaced.ensures.acts (c.add_installed.ensures.acts d root n here.key)
    (c.add_finished.ensures.acts d root n here.finished) (c.add_sent.ensures.acts d n q here.sent) in
    subst (λ (x : Node). c.add_sent.new.out.acts ≡ c.args.out.now.acts ++ reassoc_request_acts d root n x c.args.had_session (came octets e c.args.outcome) c.args.reply.now) room.peer chained
