use Rattle.std.proofs.Common.{refl, arith}
use Rattle.std.proofs.lemmas.Bool.{eq-eqb}
use Rattle.rsn_elements.specs.Transition.{SpellsFte}
use Rattle.rsn_elements.specs.Fields.{element_of, fte_fields}
use Rattle.rsn_elements.specs.Elements.{AnFte, is}
use Rattle.rsn_elements.proofs.Gathering.{tells_fte, gathers_other}
use Rattle.rsn_elements.proofs.Refusing.{none_said, some_said, sized_fte, refuses_fte, refuses_subelement, refuses_second}
use Rattle.rsn_elements.proofs.Subelements.{at_value, at_no_value}
use Rattle.rsn_elements.proofs.reading.Gathered.take_fte.Goals as goal

pub returns-in-Err-clause-err : goal.returns-in-Err-clause-err
returns-in-Err-clause-err c within es g = refuses_fte within es (element_of c.args.element) _ c.requires.id c.in-Err.ensures

pub returns-then-is_some-clause-err : goal.returns-then-is_some-clause-err
returns-then-is_some-clause-err c within es g =
    let e = element_of c.args.element in
    let some = some_said (is within AnFte) SpellsFte es fte_fields c.args.self.now.elements.fte c.if-is_some.ensures g.tells.fte in
    refuses_second within es e _ AnFte c.fault_of.ensures (sized_fte within e c.requires.id c.in-Ok.ensures.0 c.in-Ok.ensures.1) (eq-eqb _ _ c.requires.id) some

pub returns-in-Some-clause-err : goal.returns-in-Some-clause-err
returns-in-Some-clause-err c within es g =
    let e = element_of c.args.element in
    let none = none_said (is within AnFte) SpellsFte es fte_fields c.args.self.now.elements.fte c.if-is_some.ensures g.tells.fte in
    refuses_subelement within es e c.in-Some.place c.requires.id c.in-Ok.ensures.0 c.in-Ok.ensures.1 none (at_value _ _ _ _ c.in-Some.is c.in-Ok.ensures.2)

pub returns-clause-ok : goal.returns-clause-ok
returns-clause-ok c within es going g =
    let e = element_of c.args.element in
    let none = none_said (is within AnFte) SpellsFte es fte_fields c.args.self.now.elements.fte c.if-is_some.ensures g.tells.fte in
    gathers_other within es e c.args.self.now _ (λ h. omega (arith, h, c.requires.id)) refl g
    (tells_fte within es e _ going g.tells (fte_fields c.in-Ok.read.fte) c.args.element.whole.now c.requires.whole c.requires.id none (at_no_value _ _ _ c.in_default.is c.in-Ok.ensures.2))
