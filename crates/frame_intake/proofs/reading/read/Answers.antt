use Rattle.std.proofs.Common.{Bool, refl, subst}
use Rattle.domain_rules.specs.Reading.{PassedOver, ReadsBy}
use Rattle.frame_intake.specs.Views.{reading_of}
use Rattle.frame_intake.proofs.reading.read.Goals as goal

pub returns-then-is_passed_over-clause-reads : goal.returns-then-is_passed_over-clause-reads
returns-then-is_passed_over-clause-reads c = subst (λ (b : Bool). ReadsBy b c.args.akm c.args.octets.now PassedOver) c.if-is_passed_over.ensures refl

pub returns-else-is_passed_over-clause-reads : goal.returns-else-is_passed_over-clause-reads
returns-else-is_passed_over-clause-reads c = subst (λ (b : Bool). ReadsBy b c.args.akm c.args.octets.now (reading_of c.read_frame.result)) c.if-is_passed_over.ensures c.read_frame.ensures.reads
