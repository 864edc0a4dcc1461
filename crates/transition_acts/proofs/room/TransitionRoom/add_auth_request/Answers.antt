use Rattle.std.proofs.Common.{◌≡◌, ◌∙◌, ◌++◌, List, sym, ap, subst}
use Rattle.std.specs.Prelude.{Option}
use Rattle.domain_base.specs.declared.names.Node.{Node}
use Rattle.run_journal.specs.declared.acts.Act.{Act}
use Rattle.domain_rules.specs.TransitionKeys.{asked}
use Rattle.ft_exchange.specs.Told.{came, auth_request_acts}
use Rattle.transition_acts.specs.declared.looking.Look.{Look}
use Rattle.transition_acts.specs.Looks.{look_acts}
use Rattle.transition_acts.specs.Rooms.{IsRoom}
use Rattle.transition_acts.proofs.Chaining.{five}
use Rattle.transition_acts.proofs.Asking.{look_is}
use Rattle.transition_acts.proofs.room.TransitionRoom.add_auth_request.Goals as goal

pub returns-clause-acts : goal.returns-clause-acts
returns-clause-acts c d root n p octets e frame part room had =
    let q : Node = c.args.self.peer in
    let here : IsRoom d root n q octets e frame c.args.self = subst (λ (x : Node). IsRoom d root n x octets e frame c.args.self) (sym room.peer) room in
    let looked = ap (λ (x : Option Look). look_acts q x c.args.reply.now.looked) here.looked ∙ look_is q (asked e) c.args.reply.now.looked in
    let chained =
    five _ _ _ _ _ _ _ _ _ _ _ (c.add_plain.ensures.acts octets _ here.taken) (c.add_looked.ensures.acts ∙ ap (λ (l : List Act). c.add_plain.new.out.acts ++ l) looked)
    (c.add_begun.ensures.acts part had) (c.add_derived.ensures.acts d root n here.key) (c.add_sent.ensures.acts d n q here.sent) in
    subst (λ (x : Node). c.add_sent.new.out.acts ≡ c.args.out.now.acts ++ auth_request_acts d root n x part (came octets e c.args.outcome) c.args.reply.now) room.peer chained
