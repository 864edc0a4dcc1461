use Rattle.std.proofs.Common.{◌∙◌, sym, slice_index}
use Rattle.std.proofs.lemmas.Bool.{eqb-true, eq-eqb}
use Rattle.std.proofs.lemmas.Nat.Bits.{shr_and_one}
use Rattle.ccmp_guard.proofs.ccmp.has_ext_iv.Goals as goal

pub returns : goal.returns
returns c =
    let is = shr_and_one (slice_index c.args.body.now 3) 5 in
    (λ t. sym is ∙ eqb-true _ _ t, λ e. eq-eqb _ _ (is ∙ e))
