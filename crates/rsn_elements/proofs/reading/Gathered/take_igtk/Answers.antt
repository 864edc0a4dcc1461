use Rattle.std.proofs.Common.{refl, arith}
use Rattle.rsn_elements.specs.declared.framing.Within.TheVariants.{KeyData}
use Rattle.rsn_elements.specs.KeyData.{SpellsIgtkKde}
use Rattle.rsn_elements.specs.Fields.{element_of, igtk_kde_fields}
use Rattle.rsn_elements.specs.Elements.{AnIgtkKde, is}
use Rattle.rsn_elements.proofs.Gathering.{is-id, tells_igtk, gathers_other}
use Rattle.rsn_elements.proofs.Refusing.{none_said, some_said, no_version, sized_igtk, refuses_length, refuses_second}
use Rattle.rsn_elements.proofs.reading.Gathered.take_igtk.Goals as goal

pub returns-clause-ok : goal.returns-clause-ok
returns-clause-ok c es going g =
    let e = element_of c.args.element in
    let id = is-id KeyData AnIgtkKde e c.requires in
    let none = none_said (is KeyData AnIgtkKde) SpellsIgtkKde es igtk_kde_fields c.args.self.now.elements.igtk c.if-is_some.ensures g.tells.igtk in
    gathers_other KeyData es e c.args.self.now _ (λ h. omega (arith, h, id)) refl g
    (tells_igtk KeyData es e _ going g.tells (igtk_kde_fields c.in-Some.igtk) c.requires none c.in-Some.ensures)

pub returns-then-is_some-clause-err : goal.returns-then-is_some-clause-err
returns-then-is_some-clause-err c es g =
    let e = element_of c.args.element in
    let some = some_said (is KeyData AnIgtkKde) SpellsIgtkKde es igtk_kde_fields c.args.self.now.elements.igtk c.if-is_some.ensures g.tells.igtk in
    refuses_second KeyData es e _ AnIgtkKde c.fault_of-then-is_some.ensures (sized_igtk KeyData e c.requires c.in-Some.ensures.0) c.requires some

pub returns-in_default-clause-err : goal.returns-in_default-clause-err
returns-in_default-clause-err c es g =
    let e = element_of c.args.element in
    refuses_length KeyData es e _ AnIgtkKde c.fault_of.ensures (no_version KeyData e 0xdd (is-id KeyData AnIgtkKde e c.requires) (λ h. omega (arith, h))) c.requires c.in_default.ensures
