use Rattle.std.proofs.Common.{◌∙◌, ap, refl}
use Rattle.link_lines.specs.Drafts.{LinkDraft}
use Rattle.link_lines.specs.declared.said.LinkSaid.TheVariants as said
use Rattle.link_runs.proofs.Doing.{goes_said, is_event_line, says_as, state_as}
use Rattle.link_runs.proofs.Leaving.{leaves_event, leaves_turn}
use Rattle.link_runs.proofs.Standing.{leaves_begin, leaves_draw, leaves_nothing}
use Rattle.link_runs.proofs.state.take.Goals as goal

pub returns-in-Nothing-clause-leaves : goal.returns-in-Nothing-clause-leaves
returns-in-Nothing-clause-leaves g c first t stands =
    leaves_nothing g.A.L.Link.told first _ c.args.state.now (state_as c.line.new.self c.args.state.now.running) c.asked-asked.result c.args.line.now _ t (tt {0}) stands refl c.asked-asked.ensures
    (says_as _ _ _ _ c.in-Ok.said said.Nothing c.in-Nothing.is c.in-Ok.ensures.heard) (goes_said _ _ c.in-Ok.said said.Nothing c.in-Nothing.is c.in-Ok.ensures.goes)

pub returns-in-Draw-clause-leaves : goal.returns-in-Draw-clause-leaves
returns-in-Draw-clause-leaves g c first t stands =
    let goes = goes_said _ _ c.in-Ok.said said.Draw c.in-Draw.is c.in-Ok.ensures.goes in
    leaves_draw g.A.L.Link.told first _ _ _ c.args.state.now (state_as c.line.new.self c.args.state.now.running) (state_as c.draw.new.reader c.args.state.now.running) c.asked-asked.result c.args.line.now _ t c.draw.result stands c.requires.begun refl c.asked-asked.ensures
    (says_as _ _ _ _ c.in-Ok.said said.Draw c.in-Draw.is c.in-Ok.ensures.heard) goes (c.draw.ensures.end ∙ ap (λ (d : LinkDraft). d.end) goes.1) c.draw.ensures.drawn c.draw.ensures.kept c.draw.ensures.fault

pub returns-in-Begin-clause-leaves : goal.returns-in-Begin-clause-leaves
returns-in-Begin-clause-leaves g c first t stands =
    leaves_begin g.A.L.Link.told first _ _ _ c.args.state.now (state_as c.line.new.self c.args.state.now.running) c.start_end.new.state c.asked-asked.result c.args.line.now _ t c.start_end.result stands c.requires.begun refl c.start_end.ensures.reader c.asked-asked.ensures
    (says_as _ _ _ _ c.in-Ok.said said.Begin c.in-Begin.is c.in-Ok.ensures.heard) (goes_said _ _ c.in-Ok.said said.Begin c.in-Begin.is c.in-Ok.ensures.goes) c.start_end.ensures.began c.start_end.ensures.same c.start_end.ensures.running c.start_end.ensures.error

pub returns-in-Turn-clause-leaves : goal.returns-in-Turn-clause-leaves
returns-in-Turn-clause-leaves g c first t stands =
    leaves_turn g.A.L.Link.told first _ c.args.state.now (state_as c.line.new.self c.args.state.now.running) c.run_turn.new.state c.asked-asked.result c.args.line.now _ _ t c.run_turn.result stands refl c.run_turn.ensures.reader c.asked-asked.ensures
    (says_as _ _ _ _ c.in-Ok.said said.Turn c.in-Turn.is c.in-Ok.ensures.heard) (goes_said _ _ c.in-Ok.said said.Turn c.in-Turn.is c.in-Ok.ensures.goes) c.run_turn.ensures.takes

pub returns-in-Row-clause-leaves : goal.returns-in-Row-clause-leaves
returns-in-Row-clause-leaves g c first t stands =
    leaves_event g.A.L.Link.told first _ c.args.state.now (state_as c.line.new.self c.args.state.now.running) c.run_event.new.state c.asked-asked.result c.args.line.now c.in-Ok.said _ _ t c.run_event.result stands refl c.run_event.ensures.reader c.asked-asked.ensures
    (is_event_line c.in-Ok.said c.in-Row.is) c.in-Ok.ensures.heard c.in-Ok.ensures.goes c.run_event.ensures.steps
