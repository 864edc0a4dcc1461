use Rattle.std.proofs.Common.{◌≡◌, ◌+◌, ◌++◌, ℕ, List, [], ap, sym, ◌∙◌, arith}
use Rattle.std.specs.Prelude.{length}
use Rattle.std.proofs.lemmas.List.{length-append}
use Rattle.air_frame.specs.Control.{eapol_llc}
use Rattle.air_frame.specs.Views.{fields_of}
use Rattle.air_frame.specs.Sent.{air_octets}
use Rattle.std.proofs.lemmas.Grind.{common_steps}
use Rattle.air_frame.proofs.writing.put_octets.Goals as goal

three : (h f r : List ℕ) → length h + length f + length r ≡ length (h ++ (f ++ r))
three h f r = omega (arith, length-append h (f ++ r), length-append f r)

pub returns-in-Eapol-clause-size : goal.returns-in-Eapol-clause-size
returns-in-Eapol-clause-size c = c.put_frame.ensures.size ∙ (three _ eapol_llc c.in-Eapol.f.body.now ∙ sym (ap (λ a. length (air_octets (fields_of a))) c.in-Eapol.is))

pub returns-in-Protected-clause-size : goal.returns-in-Protected-clause-size
returns-in-Protected-clause-size c = c.put_frame-in-Protected.ensures.size ∙ (three _ [] c.in-Protected.f.body.now ∙ sym (ap (λ a. length (air_octets (fields_of a))) c.in-Protected.is))

pub put_frame-requires : goal.put_frame-requires
put_frame-requires c = grind (arith, common_steps)

pub put_frame-requires-in-Protected : goal.put_frame-requires-in-Protected
put_frame-requires-in-Protected c = grind (arith, common_steps)
