use Rattle.std.proofs.Common.{arith}
use Rattle.rsn_elements.specs.Fields.{element_of}
use Rattle.rsn_elements.proofs.Gathering.{gathers_passed, IsOtherId, passed_id}
use Rattle.rsn_elements.proofs.reading.Gathered.take.Goals as goal

pub returns-in_default-clause-ok : goal.returns-in_default-clause-ok
returns-in_default-clause-ok c es going g =
    let e = element_of c.args.element in
    let other : IsOtherId c.args.element.id = record { rsne = λ h. omega (arith, h); mde = λ h. omega (arith, h); fte = λ h. omega (arith, h); timeout = λ h. omega (arith, h); vendor = λ h. omega (arith, h) } in
    gathers_passed c.args.within es e c.args.self.now going (passed_id c.args.within e other) g
