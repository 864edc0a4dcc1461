use Rattle.std.proofs.Common.{◌≡◌, false, refl}
use Rattle.rsn_elements.specs.declared.framing.Within.{Within}
use Rattle.rsn_elements.specs.declared.framing.Within.TheVariants.{Body, KeyData}
use Rattle.rsn_elements.specs.Framing.{Element}
use Rattle.rsn_elements.specs.Elements.{AGtkKde, AnIgtkKde, is}
use Rattle.rsn_elements.specs.Fields.{element_of}
use Rattle.rsn_elements.proofs.Gathering.{gathers_passed, passed_vendor}
use Rattle.rsn_elements.proofs.reading.Gathered.take_vendor.Goals as goal

-- in a frame body no KDE stands
in_body : (within : Within) (e : Element) → within ≡ Body → (is within AGtkKde e ≡ false) × (is within AnIgtkKde e ≡ false)
in_body Body e h = (refl, refl)
in_body KeyData e h = absurd cc

pub returns-in-Body-clause-ok : goal.returns-in-Body-clause-ok
returns-in-Body-clause-ok c es going g =
    let e = element_of c.args.element in
    let none = in_body c.args.within e c.in-Body.is in
    gathers_passed c.args.within es e c.args.self.now going (passed_vendor c.args.within e c.requires none.0 none.1) g
