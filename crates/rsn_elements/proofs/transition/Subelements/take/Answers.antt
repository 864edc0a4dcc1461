use Rattle.std.proofs.Common.{◌≡◌, ◌++◌, ◌∷◌, [], refl, ap, sym, subst, ◌∙◌}
use Rattle.std.specs.Prelude.{is_some, false}
use Rattle.rsn_elements.specs.declared.transition.Subelements.{Subelements}
use Rattle.rsn_elements.specs.Fields.{element_of}
use Rattle.rsn_elements.specs.TransitionSteps.{Say, Reached}
use Rattle.rsn_elements.specs.Transition.{HasRepeatedSubelement}
use Rattle.rsn_elements.proofs.Subelements.{at_none, from_none, at_some, once_each}
use Rattle.rsn_elements.proofs.transition.Subelements.take.Goals as goal
use Rattle.rsn_elements.proofs.transition.Subelements.take.Goals.{else-is_none-via-then-is_none+else-not-keep, else-is_none-via-else-is_none}

pub returns-then-not-keep : goal.returns-then-not-keep
returns-then-not-keep c octets es behind cut at reached =
    let say = at_none _ (Say es c.args.self.now) (HasRepeatedSubelement octets) c.if-is_none.ensures reached in
    let second = c.if-not-keep.ensures.second refl es say in
    record { before = es; again = element_of c.args.subelement; behind = behind; cut = cut; at = at; low = second.0; high = second.1; second = second.2; once = once_each es _ _ _ _ say }

pub returns-else-is_none : goal.returns-else-is_none
returns-else-is_none c octets es behind cut at reached =
    let more = es ++ element_of c.args.subelement ∷ [] in
    elim c.else-is_none.branch [
      | else-is_none-via-then-is_none+else-not-keep w ↦
          let say = at_none _ (Say es c.args.self.now) (HasRepeatedSubelement octets) w.if-is_none.ensures reached in
          let none : is_some w.keep.new.self.repeated ≡ false = ap is_some w.keep.ensures.repeated ∙ w.if-is_none.ensures in
          subst (λ (s : Subelements). Reached octets more s) (sym w.self-is) (from_none _ (Say more w.keep.new.self) (HasRepeatedSubelement octets) none (w.if-not-keep.ensures.kept refl es say))
      | else-is_none-via-else-is_none w ↦
          subst (λ (s : Subelements). Reached octets more s) (sym w.self-is) (at_some _ (Say es c.args.self.now) (Say more c.args.self.now) (HasRepeatedSubelement octets) w.if-is_none.ensures reached)
    ]
