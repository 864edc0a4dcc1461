use Rattle.std.proofs.Common.{◌∙◌, refl}
use Rattle.key_hierarchy.proofs.Kept.{r0_again}
use Rattle.key_hierarchy.proofs.last_derived.DerivedR0.given.Goals as goal

pub returns-then-is_of : goal.returns-then-is_of
returns-then-is_of c =
    c.fork.ensures ∙ r0_again c.args.self.now c.args.psk.now c.args.ssid.now c.args.mdid c.args.r0kh_id.now c.args.sta (c.if-is_of.ensures refl)
