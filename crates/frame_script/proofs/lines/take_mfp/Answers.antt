use Rattle.std.proofs.Common.{refl, subst}
use Rattle.script_lines.specs.declared.header.Due.{Due}
use Rattle.script_lines.specs.Sentences.{IsKept}
use Rattle.frame_script.proofs.Taking.{no_mfp}
use Rattle.frame_script.proofs.lines.take_mfp.Goals as goal

pub take_protection-requires : goal.take_protection-requires
take_protection-requires c = subst (λ (d : Due). IsKept d) c.in-Nodes.is c.requires

pub returns-in-Nodes-clause-takes : goal.returns-in-Nodes-clause-takes
returns-in-Nodes-clause-takes c sizes = rw c.in-Nodes.is (c.take_protection.ensures.takes sizes)

pub returns-in_default-clause-takes : goal.returns-in_default-clause-takes
returns-in_default-clause-takes c sizes = (no_mfp c.args.due.now c.args.rounds c.in_default.not-Nodes, refl)
