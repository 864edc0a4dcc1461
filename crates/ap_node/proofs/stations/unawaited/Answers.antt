use Rattle.ap_node.proofs.stations.unawaited.Goals as goal

pub returns-clause-acts : goal.returns-clause-acts
returns-clause-acts c d id n p octets k room_is = (c.empty-reply.result, c.empty-reply.ensures, c.add_reply.ensures.acts d id n p octets k room_is)

pub add_reply-requires-clause-keys : goal.add_reply-requires-clause-keys
add_reply-requires-clause-keys c = record { derived = λ no. c.empty-reply.ensures.derived; installed = λ no. c.empty-reply.ensures.installed }
