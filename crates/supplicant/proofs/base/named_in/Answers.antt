use Rattle.std.proofs.Common.{List, ℕ, Bor, Option, option_map, ap}
use Rattle.std.specs.Option.{option_copied}
use Rattle.rsn_elements.specs.declared.transition.Fte.{Fte}
use Rattle.rsn_elements.specs.Fields.{fte_fields, element_fields}
use Rattle.supplicant.proofs.Basing.{named_none, named_other, named_some}
use Rattle.supplicant.proofs.base.named_in.Goals as goal

pub returns-in_default : goal.returns-in_default
returns-in_default c e spelled = absurd (c.in_default.ensures.only e spelled)

pub returns-in_default-fte : goal.returns-in_default-fte
returns-in_default-fte c e spelled =
    named_none e (element_fields c.in-Ok.elements) c.of-in_default-fte.result c.of-in_default-fte.ensures
    (ap (λ (o : Option Fte). option_map fte_fields o) c.in_default-fte.is) (c.in-Ok.ensures.only e spelled)

pub returns-in-Some-r0kh_id : goal.returns-in-Some-r0kh_id
returns-in-Some-r0kh_id c e spelled =
    named_some e (element_fields c.in-Ok.elements) (fte_fields c.in-Some.fte) c.in-Some-r0kh_id.id.now c.of-in-Some-r0kh_id.result c.of-in-Some-r0kh_id.ensures
    (ap (λ (o : Option Fte). option_map fte_fields o) c.in-Some.is) (ap (λ (o : Option (Bor (List ℕ))). option_copied o) c.in-Some-r0kh_id.is) (c.in-Ok.ensures.only e spelled)

pub returns-in-None : goal.returns-in-None
returns-in-None c e spelled =
    named_other e (element_fields c.in-Ok.elements) (fte_fields c.in-Some.fte) c.of-in-None.result c.of-in-None.ensures
    (ap (λ (o : Option Fte). option_map fte_fields o) c.in-Some.is) (ap (λ (o : Option (Bor (List ℕ))). option_copied o) c.in-None.is) (c.in-Ok.ensures.only e spelled)
