use Rattle.std.proofs.Common.{◌∙◌, ◌++◌, [], ◌∷◌, ap}
use Rattle.run_journal.specs.declared.domain.ListedSta.{ListedSta}
use Rattle.storm.proofs.Listed.{stas-more}
use Rattle.storm.proofs.header.stas.Goals as goal

pub loop-place-preserved : goal.loop-place-preserved
loop-place-preserved c =
    let pushed = c.in_ok-push.ensures.ok ∙ ap (λ (s : ListedSta). c.loop-place.stas ++ s ∷ []) c.sta_of.ensures in
    stas-more c.args.psk c.loop-place.place c.loop-place.stas _ c.loop-place.invariant pushed
