use Rattle.std.proofs.Common.{◌∙◌, ap, ap₂}
use Rattle.std.specs.Prelude.{bytes_eq}
use Rattle.bip_guard.specs.Bip.{bip_mic, mic_verifies}
use Rattle.bip_guard.proofs.frame.mic_verifies.Goals as goal

pub returns : goal.returns
unfolding mic_verifies
returns c =
    c.eq.ensures
    ∙ ap₂ bytes_eq c.array_at.ensures
    (c.mic_of.ensures ∙ ap (bip_mic c.args.igtk.now c.args.header.now) c.split_at.ensures.front)
