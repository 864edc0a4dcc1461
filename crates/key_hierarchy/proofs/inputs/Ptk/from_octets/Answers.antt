use Rattle.std.proofs.Common.{refl}
use Rattle.key_hierarchy.proofs.inputs.Ptk.from_octets.Goals as goal

pub returns : goal.returns
returns c = rw (c.array_at.ensures, c.array_at-2.ensures, c.array_at-3.ensures) refl
