use Rattle.key_hierarchy.proofs.pairwise.expanded.Goals as goal

pub returns-in-Psk : goal.returns-in-Psk
returns-in-Psk c = rw c.in-Psk.is c.prf.ensures

pub returns-in-PskSha256 : goal.returns-in-PskSha256
returns-in-PskSha256 c = rw c.in-PskSha256.is c.kdf.ensures
