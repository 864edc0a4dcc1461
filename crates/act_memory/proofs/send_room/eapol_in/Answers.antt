use Rattle.act_memory.proofs.send_room.eapol_in.Goals as goal

pub returns-clause-octets : goal.returns-clause-octets
returns-clause-octets c = c.split_at.ensures.back
