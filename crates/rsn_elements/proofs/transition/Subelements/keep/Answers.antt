use Rattle.std.proofs.Common.{◌≡◌, refl, arith, length, ◌∙◌}
use Rattle.std.proofs.lemmas.Bool.{ne_eqb, eq-eqb}
use Rattle.std.proofs.lemmas.List.{take_all}
use Rattle.rsn_elements.specs.Transition.{SpellsR1khId, SpellsWrappedGtk, SpellsR0khId, SpellsWrappedIgtk, has_id}
use Rattle.rsn_elements.specs.Fields.{wrapped_gtk_fields, wrapped_igtk_fields}
use Rattle.rsn_elements.proofs.Saying.{Says-other, Says-one, none_from, none_mapped}
use Rattle.rsn_elements.proofs.transition.Subelements.keep.Goals as goal

pub returns-in-1-clause-kept : goal.returns-in-1-clause-kept
returns-in-1-clause-kept c true_is es say =
    let size : length c.args.subelement.body.now ≡ 6 = c.requires.first c.in-1.is in
    record {
      first = Says-one (has_id 1) SpellsR1khId es _ _ _ (eq-eqb _ _ (omega arith)) (none_from _ c.if-is_none.ensures) say.first (size, c.array_at.ensures ∙ take_all 6 c.args.subelement.body.now (omega arith));
      second = Says-other (has_id 2) SpellsWrappedGtk es _ _ (ne_eqb _ _ (omega arith)) say.second;
      third = Says-other (has_id 3) SpellsR0khId es _ _ (ne_eqb _ _ (omega arith)) say.third;
      fourth = Says-other (has_id 4) SpellsWrappedIgtk es _ _ (ne_eqb _ _ (omega arith)) say.fourth;
    }

pub returns-in-2-clause-kept : goal.returns-in-2-clause-kept
returns-in-2-clause-kept c true_is es say = record {
  first = Says-other (has_id 1) SpellsR1khId es _ _ (ne_eqb _ _ (omega arith)) say.first;
  second = Says-one (has_id 2) SpellsWrappedGtk es _ _ _ (eq-eqb _ _ (omega arith)) (none_mapped wrapped_gtk_fields _ c.if-is_none-2.ensures) say.second c.wrapped_gtk.ensures;
  third = Says-other (has_id 3) SpellsR0khId es _ _ (ne_eqb _ _ (omega arith)) say.third;
  fourth = Says-other (has_id 4) SpellsWrappedIgtk es _ _ (ne_eqb _ _ (omega arith)) say.fourth;
}

pub returns-in-3-clause-kept : goal.returns-in-3-clause-kept
returns-in-3-clause-kept c true_is es say =
    let size = c.requires.third c.in-3.is in
    record {
      first = Says-other (has_id 1) SpellsR1khId es _ _ (ne_eqb _ _ (omega arith)) say.first;
      second = Says-other (has_id 2) SpellsWrappedGtk es _ _ (ne_eqb _ _ (omega arith)) say.second;
      third = Says-one (has_id 3) SpellsR0khId es _ _ _ (eq-eqb _ _ (omega arith)) (none_mapped (λ x. x.now) _ c.if-is_none-3.ensures) say.third (size.0, size.1, refl);
      fourth = Says-other (has_id 4) SpellsWrappedIgtk es _ _ (ne_eqb _ _ (omega arith)) say.fourth;
    }

pub returns-in-4-clause-kept : goal.returns-in-4-clause-kept
returns-in-4-clause-kept c true_is es say = record {
  first = Says-other (has_id 1) SpellsR1khId es _ _ (ne_eqb _ _ (omega arith)) say.first;
  second = Says-other (has_id 2) SpellsWrappedGtk es _ _ (ne_eqb _ _ (omega arith)) say.second;
  third = Says-other (has_id 3) SpellsR0khId es _ _ (ne_eqb _ _ (omega arith)) say.third;
  fourth = Says-one (has_id 4) SpellsWrappedIgtk es _ _ _ (eq-eqb _ _ (omega arith)) (none_mapped wrapped_igtk_fields _ c.if-is_none-4.ensures) say.fourth c.wrapped_igtk.ensures;
}

pub returns-in_default-clause-kept : goal.returns-in_default-clause-kept
returns-in_default-clause-kept c true_is es say = record {
  first = Says-other (has_id 1) SpellsR1khId es _ _ (ne_eqb _ _ (omega arith)) say.first;
  second = Says-other (has_id 2) SpellsWrappedGtk es _ _ (ne_eqb _ _ (omega arith)) say.second;
  third = Says-other (has_id 3) SpellsR0khId es _ _ (ne_eqb _ _ (omega arith)) say.third;
  fourth = Says-other (has_id 4) SpellsWrappedIgtk es _ _ (ne_eqb _ _ (omega arith)) say.fourth;
}
