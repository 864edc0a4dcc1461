use Rattle.std.proofs.Common.{refl, arith}
use Rattle.std.proofs.lemmas.Bool.{eq-eqb}
use Rattle.rsn_elements.specs.Transition.{SpellsMde}
use Rattle.rsn_elements.specs.Fields.{element_of, mde_fields}
use Rattle.rsn_elements.specs.Elements.{AnMde, is}
use Rattle.rsn_elements.proofs.Gathering.{tells_mde, gathers_other}
use Rattle.rsn_elements.proofs.Refusing.{none_said, some_said, no_version, sized_mde, refuses_length, refuses_second}
use Rattle.rsn_elements.proofs.reading.Gathered.take_mde.Goals as goal

pub returns-clause-ok : goal.returns-clause-ok
returns-clause-ok c within es going g =
    let e = element_of c.args.element in
    let none = none_said (is within AnMde) SpellsMde es mde_fields c.args.self.now.elements.mde c.if-is_some.ensures g.tells.mde in
    gathers_other within es e c.args.self.now _ (λ h. omega (arith, h, c.requires.id)) refl g
    (tells_mde within es e _ going g.tells (mde_fields c.in-Some.mde) c.args.element.whole.now c.requires.whole c.requires.id none c.in-Some.ensures)

pub returns-then-is_some-clause-err : goal.returns-then-is_some-clause-err
returns-then-is_some-clause-err c within es g =
    let e = element_of c.args.element in
    let some = some_said (is within AnMde) SpellsMde es mde_fields c.args.self.now.elements.mde c.if-is_some.ensures g.tells.mde in
    refuses_second within es e _ AnMde c.fault_of-then-is_some.ensures (sized_mde within e c.requires.id (c.in-Some.ensures.0)) (eq-eqb _ _ c.requires.id) some

pub returns-in_default-clause-err : goal.returns-in_default-clause-err
returns-in_default-clause-err c within es g =
    let e = element_of c.args.element in
    refuses_length within es e _ AnMde c.fault_of.ensures (no_version within e 0x36 c.requires.id (λ h. omega (arith, h))) (eq-eqb _ _ c.requires.id) c.in_default.ensures
