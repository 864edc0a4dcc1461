use Rattle.key_hierarchy.proofs.derivation.psk_of.Goals as goal

pub returns : goal.returns
returns c = c.pbkdf2.ensures
