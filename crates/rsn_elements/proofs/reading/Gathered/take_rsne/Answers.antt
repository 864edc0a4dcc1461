use Rattle.std.proofs.Common.{refl, arith}
use Rattle.std.proofs.lemmas.Bool.{eq-eqb}
use Rattle.rsn_elements.specs.Rsne.{SpellsRsne}
use Rattle.rsn_elements.specs.Fields.{element_of, rsne_fields}
use Rattle.rsn_elements.specs.Elements.{AnRsne, is}
use Rattle.rsn_elements.proofs.Gathering.{tells_rsne, gathers_other}
use Rattle.rsn_elements.proofs.Refusing.{none_said, some_said, sized_rsne, refuses_rsne, refuses_second}
use Rattle.rsn_elements.proofs.reading.Gathered.take_rsne.Goals as goal

pub returns-clause-ok : goal.returns-clause-ok
returns-clause-ok c within es going g =
    let e = element_of c.args.element in
    let none = none_said (is within AnRsne) SpellsRsne es rsne_fields c.args.self.now.elements.rsne c.if-is_some.ensures g.tells.rsne in
    gathers_other within es e c.args.self.now _ (λ h. omega (arith, h, c.requires.id)) refl g
    (tells_rsne within es e _ going g.tells (rsne_fields c.in-Ok.rsne) c.args.element.whole.now c.requires.whole c.requires.id none c.in-Ok.ensures)

pub returns-then-is_some-clause-err : goal.returns-then-is_some-clause-err
returns-then-is_some-clause-err c within es g =
    let e = element_of c.args.element in
    let some = some_said (is within AnRsne) SpellsRsne es rsne_fields c.args.self.now.elements.rsne c.if-is_some.ensures g.tells.rsne in
    refuses_second within es e _ AnRsne c.fault_of-then-is_some.ensures (sized_rsne within e (rsne_fields c.in-Ok.rsne) c.requires.id c.in-Ok.ensures) (eq-eqb _ _ c.requires.id) some

pub returns-in-Err-clause-err : goal.returns-in-Err-clause-err
returns-in-Err-clause-err c within es g = refuses_rsne within es (element_of c.args.element) _ c.in-Err.kind c.fault_of.ensures c.requires.id c.in-Err.ensures
