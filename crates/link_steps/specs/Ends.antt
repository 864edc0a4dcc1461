-- The two ends of a link between two processes (profile).
use Rattle.domain_base.specs.declared.names.Node.{Node}
use Rattle.domain_base.specs.declared.names.Node.TheVariants.{Ap}
use Rattle.link_steps.specs.declared.ends.LinkEnd.{LinkEnd}
use Rattle.link_steps.specs.declared.ends.LinkEnd.TheVariants.{Holder, Asker}
use Rattle.link_steps.specs.declared.steps.LinkEvent.{LinkEvent}
use Rattle.link_steps.specs.declared.steps.LinkEvent.TheVariants.{Ask, Forget, Row, Revoke, ToAsker, ToHolder}

-- the other one
abbrev pub other_end : LinkEnd → LinkEnd
other_end Holder = Asker
other_end Asker = Holder

-- a1 has the key holder, and a2 asks
abbrev pub node_of : LinkEnd → Node
node_of Holder = Ap 0
node_of Asker = Ap 1

-- the end at which an event happens
abbrev pub end_of : LinkEvent → LinkEnd
end_of (Ask q nonce) = Asker
end_of (Forget n) = Asker
end_of (ToAsker octets) = Asker
end_of (Row row) = Holder
end_of (Revoke name) = Holder
end_of (ToHolder octets) = Holder
