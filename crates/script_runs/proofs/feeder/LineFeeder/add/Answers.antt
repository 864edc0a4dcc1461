use Rattle.std.proofs.Common.{◌++◌, ◌∙◌, subst, sym}
use Rattle.script_runs.specs.declared.stops.Stop.{Stop}
use Rattle.script_runs.specs.Script.{point_of, script_limits}
use Rattle.script_runs.specs.Stops.{IsRefusal, Stopped}
use Rattle.script_runs.proofs.Lines.{Stopped-long}
use Rattle.text_lines.proofs.Texts.{NoFeed-append}
use Rattle.script_runs.proofs.feeder.LineFeeder.add.Goals as goal

pub returns-in-Err-clause-come : goal.returns-in-Err-clause-come
returns-in-Err-clause-come c octets draft rounds j r =
    let s = c.args.self.now in
    let p = point_of s.state.reader.mode j draft rounds in
    subst (λ (x : Stop). Stopped 1 x (octets ++ c.args.octets.now) p) (sym c.refused.ensures)
    (Stopped-long octets c.args.octets.now _ _ r.good s.cutter.line.items p r.cut.begins (NoFeed-append s.cutter.line.items c.args.octets.now r.cut.open_line c.requires)
    (c.in-Err.ensures.cut script_limits octets r.good r.cut) (c.add.ensures.lines ∙ r.cut.count) (record { spelled = r.spelled; journal = r.stands.journal }))

pub returns-in-Err-clause-refused : goal.returns-in-Err-clause-refused
returns-in-Err-clause-refused c = subst (λ (x : Stop). IsRefusal x) (sym c.refused.ensures) tt

pub returns-in-Ok-clause-come : goal.returns-in-Ok-clause-come
returns-in-Ok-clause-come c before draft rounds j r =
    record { good = r.good; cut = c.in-Ok.ensures.cut script_limits before r.good r.cut; spelled = r.spelled; stands = r.stands }
