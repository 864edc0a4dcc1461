use Rattle.std.proofs.Common.{[], ℕ, refl, sym, subst}
use Rattle.text_lines.specs.declared.limits.Limits.{Limits}
use Rattle.text_lines.specs.Cuts.{HasCut}
use Rattle.script_runs.specs.States.{IsReady}
use Rattle.text_lines.specs.Texts.{TellsIn}
use Rattle.script_runs.proofs.feeder.LineFeeder.new.Goals as goal

pub returns-clause-ready : goal.returns-clause-ready
returns-clause-ready c = subst (λ (n : ℕ). IsReady c.start.result 0 n []) (sym c.in_ok-cutter.ensures.empty) c.start.ensures.ready

pub returns-clause-come : goal.returns-clause-come
unfolding TellsIn
returns-clause-come c = record {
  good = [];
  cut = subst (λ (l : Limits). HasCut l c.in_ok-cutter.cutter [] []) c.script_limits-limits.ensures c.in_ok-cutter.ensures.cut;
  spelled = (refl, refl);
  stands = c.start.ensures.stands;
}
