use Rattle.std.proofs.Common.{ap, sym}
use Rattle.domain_rules.specs.Verdict.{air_reason}
use Rattle.frame_intake.proofs.judging.air_reason.Goals as goal

pub returns-in-OutOfProfile : goal.returns-in-OutOfProfile
returns-in-OutOfProfile c = ap air_reason (sym c.in-OutOfProfile.is)

pub returns-in-Short : goal.returns-in-Short
returns-in-Short c = ap air_reason (sym c.in-Short.is)

pub returns-in-Body : goal.returns-in-Body
returns-in-Body c = ap air_reason (sym c.in-Body.is)
