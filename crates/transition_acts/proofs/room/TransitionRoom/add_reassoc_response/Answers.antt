use Rattle.std.proofs.Common.{◌≡◌, ◌∙◌, ◌++◌, sym, ap, subst}
use Rattle.domain_base.specs.declared.names.Node.{Node}
use Rattle.mac_prf.specs.declared.reassociation.Reassociation.TheVariants.{Response}
use Rattle.ft_exchange.specs.Told.{came, reassoc_response_acts}
use Rattle.transition_acts.specs.declared.sides.Side.{Side}
use Rattle.transition_acts.specs.Rooms.{IsRoom}
use Rattle.transition_acts.proofs.Chaining.{six}
use Rattle.transition_acts.proofs.room.TransitionRoom.add_reassoc_response.Goals as goal

pub returns-clause-acts : goal.returns-clause-acts
returns-clause-acts c d root n p octets e room =
    let q : Node = c.args.self.peer in
    let here : IsRoom d root n q octets e Response c.args.self = subst (λ (x : Node). IsRoom d root n x octets e Response c.args.self) (sym room.peer) room in
    let bssid = ap (λ (s : Side). s.peer) c.side.ensures ∙ here.sent.side.peer in
    let chained =
    six _ _ _ _ _ _ _ _ _ _ _ _ _ (c.add_sealed.ensures.acts octets _ here.taken) c.add_left.ensures.acts (c.add_installed.ensures.acts d root n here.key)
    (c.add_group_key.ensures.acts d bssid) (c.add_group_key-2.ensures.acts d bssid) (c.add_finished.ensures.acts d root n here.finished) in
    subst (λ (x : Node). c.add_finished.new.out.acts ≡ c.args.out.now.acts ++ reassoc_response_acts d root n x c.args.left (came octets e c.args.outcome) c.args.reply.now) room.peer chained
