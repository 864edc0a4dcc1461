use Rattle.std.proofs.Common.{◌≡◌, ◌++◌, sym, subst}
use Rattle.domain_base.specs.declared.names.Node.{Node}
use Rattle.ft_exchange.specs.Told.{came, auth_response_acts}
use Rattle.transition_acts.specs.Rooms.{IsRoom}
use Rattle.transition_acts.proofs.Chaining.{three}
use Rattle.transition_acts.proofs.room.TransitionRoom.add_auth_response.Goals as goal

pub returns-clause-acts : goal.returns-clause-acts
returns-clause-acts c d root n p octets e frame room =
    let q : Node = c.args.self.peer in
    let here : IsRoom d root n q octets e frame c.args.self = subst (λ (x : Node). IsRoom d root n x octets e frame c.args.self) (sym room.peer) room in
    let chained =
    three _ _ _ _ _ _ _ (c.add_plain.ensures.acts octets _ here.taken) (c.add_derived.ensures.acts d root n here.key) (c.add_sent.ensures.acts d n q here.sent) in
    subst (λ (x : Node). c.add_sent.new.out.acts ≡ c.args.out.now.acts ++ auth_response_acts d root n x (came octets e c.args.outcome) c.args.reply.now) room.peer chained
