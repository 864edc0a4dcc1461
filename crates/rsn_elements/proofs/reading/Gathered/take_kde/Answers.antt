use Rattle.std.proofs.Common.{◌≡◌, false, eqb, ◌∷◌, [], sym}
use Rattle.std.specs.List.{starts_with}
use Rattle.std.proofs.lemmas.Bool.{and_right}
use Rattle.rsn_elements.specs.declared.framing.Within.TheVariants.{KeyData}
use Rattle.rsn_elements.specs.Framing.{Element}
use Rattle.rsn_elements.specs.Elements.{AGtkKde, AnIgtkKde, is}
use Rattle.rsn_elements.specs.Fields.{element_of}
use Rattle.rsn_elements.proofs.Gathering.{gathers_passed, passed_vendor}
use Rattle.rsn_elements.proofs.reading.Gathered.take_kde.Goals as goal

-- a body that begins otherwise is of neither KDE
no_gtk_body : (e : Element) → false ≡ starts_with eqb e.body (0 ∷ 15 ∷ 172 ∷ 1 ∷ []) → is KeyData AGtkKde e ≡ false
no_gtk_body e h = and_right _ _ (sym h)

no_igtk_body : (e : Element) → false ≡ starts_with eqb e.body (0 ∷ 15 ∷ 172 ∷ 9 ∷ []) → is KeyData AnIgtkKde e ≡ false
no_igtk_body e h = and_right _ _ (sym h)

pub returns-else-starts_with-2-clause-ok : goal.returns-else-starts_with-2-clause-ok
returns-else-starts_with-2-clause-ok c es going g =
    let e = element_of c.args.element in
    gathers_passed KeyData es e c.args.self.now going (passed_vendor KeyData e c.requires (no_gtk_body e c.if-starts_with.ensures.value) (no_igtk_body e c.if-starts_with-2.ensures.value)) g
