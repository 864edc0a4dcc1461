use Rattle.std.proofs.Common.{◌≡◌, Err, refl, ap, subst, ◌∙◌}
use Rattle.frame_script.specs.Headers.{OnRead, ReadsIn, sizes_named}
use Rattle.script_lines.specs.declared.refusal.Untaken.{Untaken}
use Rattle.script_lines.specs.declared.step.Step.TheVariants as step
use Rattle.script_runs.specs.Outer.{Blame, outer, IsBlamed}
use Rattle.domain_links.specs.declared.breaks.Break.{Break}
use Rattle.script_runs.specs.States.{BreaksLine, world_of}
use Rattle.script_runs.specs.Turning.{break_blame}
use Rattle.script_runs.proofs.Answering.{blamed_line, ready_then, told_line}
use Rattle.script_runs.proofs.Blamed.{unblamed}
use Rattle.script_runs.proofs.Followed.{can_list}
use Rattle.script_runs.proofs.Outside.{blamed_draw, blamed_turn, breaks_turn, broken_blame, can_turn, draws_due, draws_live, ready_draw, ready_turn, tells_turn, told_draw, turn_done}
use Rattle.script_runs.proofs.Taking.{can_line, is_plain, links_line, read_to, refuses_line, took_as}
use Rattle.script_runs.proofs.state.ScriptState.take.Goals as goal

-- the line is refused
pub returns-in-Err-Refused-clause-told : goal.returns-in-Err-Refused-clause-told
returns-in-Err-Refused-clause-told g c draft rounds first stands met =
    let s = c.args.self.now in
    let sizes = subst (λ (x : Untaken). OnRead (Err x) (c.take.new.self.sizes ≡ sizes_named s.reader c.args.journal.now.entries)) c.in-Err-Refused.field-0-is c.in-Err-Refused.ensures.sizes in
    let reads = subst (λ (x : Untaken). ReadsIn s.reader.mode s.reader c.take.new.self (sizes_named s.reader c.args.journal.now.entries) c.args.line.now (Err x)) c.in-Err-Refused.field-0-is c.in-Err-Refused.ensures.takes in
    refuses_line g.A.L.Link.told first _ s (read_to s c.take.new.self) c.args.line.now draft rounds c.args.journal.now.entries c.in-Err-Refused.refusal c.requires.ready.world_is stands c.take.ensures.mode sizes reads

pub returns-in-Err-Refused-clause-blamed : goal.returns-in-Err-Refused-clause-blamed
returns-in-Err-Refused-clause-blamed g c = unblamed g.A.L.Link.faults _ _ _

pub returns-in-Err-NoMemory-clause-blamed : goal.returns-in-Err-NoMemory-clause-blamed
returns-in-Err-NoMemory-clause-blamed g c = unblamed g.A.L.Link.faults _ _ _

-- a seed is drawn
pub draw-requires-clause-live : goal.draw-requires-clause-live
draw-requires-clause-live g c = draws_live c.args.self.now c.take.new.self c.args.line.now c.args.journal.now.entries (took_as c.args.self.now c.take.new.self c.args.line.now c.args.journal.now.entries c.in-Ok.step step.Draw c.in-Draw.is c.take.ensures.mode c.in-Ok.ensures.seen c.in-Ok.ensures.sizes c.in-Ok.ensures.takes)

pub draw-requires-clause-due : goal.draw-requires-clause-due
draw-requires-clause-due g c = draws_due c.args.self.now c.take.new.self c.args.line.now c.args.journal.now.entries (took_as c.args.self.now c.take.new.self c.args.line.now c.args.journal.now.entries c.in-Ok.step step.Draw c.in-Draw.is c.take.ensures.mode c.in-Ok.ensures.seen c.in-Ok.ensures.sizes c.in-Ok.ensures.takes)

pub returns-in-Draw-clause-ready : goal.returns-in-Draw-clause-ready
returns-in-Draw-clause-ready g c lines ready = ready_draw c.args.self.now c.take.new.self _ _ _ lines c.args.line.now c.args.journal.now.entries c.draw.result ready (took_as c.args.self.now c.take.new.self c.args.line.now c.args.journal.now.entries c.in-Ok.step step.Draw c.in-Draw.is c.take.ensures.mode c.in-Ok.ensures.seen c.in-Ok.ensures.sizes c.in-Ok.ensures.takes) c.draw.ensures.drawn

pub returns-in-Draw-clause-told : goal.returns-in-Draw-clause-told
returns-in-Draw-clause-told g c draft rounds first stands met =
    told_draw g.A.L.Link.told first c.args.self.now c.take.new.self _ _ _ _ _ c.args.line.now draft rounds c.args.journal.now.entries c.draw.result c.requires.ready
    (took_as c.args.self.now c.take.new.self c.args.line.now c.args.journal.now.entries c.in-Ok.step step.Draw c.in-Draw.is c.take.ensures.mode c.in-Ok.ensures.seen c.in-Ok.ensures.sizes c.in-Ok.ensures.takes) stands met c.draw.ensures.drawn c.draw.ensures.same c.draw.ensures.kept c.draw.ensures.fault

pub returns-in-Draw-clause-blamed : goal.returns-in-Draw-clause-blamed
returns-in-Draw-clause-blamed g c = blamed_draw g.A.L.Link.faults _ _ _ _ c.draw.result c.draw.ensures.fault c.draw.ensures.cause c.draw.ensures.unfailed

-- a turn
pub run_turn-requires-clause-can : goal.run_turn-requires-clause-can
run_turn-requires-clause-can g c = can_turn c.args.self.now c.take.new.self _ c.args.line.now c.args.journal.now.entries c.requires.ready (took_as c.args.self.now c.take.new.self c.args.line.now c.args.journal.now.entries c.in-Ok.step step.Turn c.in-Turn.is c.take.ensures.mode c.in-Ok.ensures.seen c.in-Ok.ensures.sizes c.in-Ok.ensures.takes)

pub returns-in-Ok-run_turn-clause-ready : goal.returns-in-Ok-run_turn-clause-ready
returns-in-Ok-run_turn-clause-ready g c lines ready =
    ready_turn g.A.L.Link.told g.A.L.Link.faults c.args.self.now c.run_turn.new.self _ _ lines c.args.line.now _ _ _ ready
    (turn_done g.A.L.Link.told g.A.L.Link.faults c.args.self.now c.take.new.self c.run_turn.new.self _ _ c.args.line.now _ _ _ c.requires.ready (took_as c.args.self.now c.take.new.self c.args.line.now c.args.journal.now.entries c.in-Ok.step step.Turn c.in-Turn.is c.take.ensures.mode c.in-Ok.ensures.seen c.in-Ok.ensures.sizes c.in-Ok.ensures.takes) c.run_turn.ensures.reader c.run_turn.ensures.waiting c.in-Ok-run_turn.ensures.did)

pub returns-in-Ok-run_turn-clause-told : goal.returns-in-Ok-run_turn-clause-told
returns-in-Ok-run_turn-clause-told g c draft rounds first stands met =
    let last = g.D.Draws.last c.args.draws.now in
    let air = g.A.Air.told c.args.air.now in
    tells_turn g.A.L.Link.told g.A.L.Link.faults c.looks_are_right.ensures first c.args.self.now c.run_turn.new.self (outer c.args.links.now.items air last) (outer c.run_turn.new.links.items air last) c.args.line.now draft rounds c.args.journal.now.entries c.run_turn.new.journal.entries _ refl refl stands met
    (turn_done g.A.L.Link.told g.A.L.Link.faults c.args.self.now c.take.new.self c.run_turn.new.self _ _ c.args.line.now _ _ _ c.requires.ready (took_as c.args.self.now c.take.new.self c.args.line.now c.args.journal.now.entries c.in-Ok.step step.Turn c.in-Turn.is c.take.ensures.mode c.in-Ok.ensures.seen c.in-Ok.ensures.sizes c.in-Ok.ensures.takes) c.run_turn.ensures.reader c.run_turn.ensures.waiting c.in-Ok-run_turn.ensures.did)

pub returns-in-Ok-run_turn-clause-blamed : goal.returns-in-Ok-run_turn-clause-blamed
returns-in-Ok-run_turn-clause-blamed g c = blamed_turn g.A.L.Link.told g.A.L.Link.faults _ _ _ _ _ _ _ _ _ c.in-Ok-run_turn.ensures.did

pub returns-in-Err-ByLink-clause-told : goal.returns-in-Err-ByLink-clause-told
returns-in-Err-ByLink-clause-told g c draft rounds first stands met =
    let last = g.D.Draws.last c.args.draws.now in
    let air = g.A.Air.told c.args.air.now in
    let new = outer c.run_turn.new.links.items air last in
    subst (λ (x : Break). BreaksLine g.A.L.Link.told x first new c.run_turn.new.self.reader.mode c.args.line.now draft rounds c.args.journal.now.entries c.run_turn.new.journal.entries) c.in-Err-ByLink.field-0-is
    (breaks_turn g.A.L.Link.told g.A.L.Link.faults c.looks_are_right.ensures first c.args.self.now c.run_turn.new.self (outer c.args.links.now.items air last) new c.args.line.now draft rounds c.args.journal.now.entries c.run_turn.new.journal.entries c.in-Err-ByLink.field-0 refl refl stands met
    (turn_done g.A.L.Link.told g.A.L.Link.faults c.args.self.now c.take.new.self c.run_turn.new.self _ _ c.args.line.now _ _ _ c.requires.ready (took_as c.args.self.now c.take.new.self c.args.line.now c.args.journal.now.entries c.in-Ok.step step.Turn c.in-Turn.is c.take.ensures.mode c.in-Ok.ensures.seen c.in-Ok.ensures.sizes c.in-Ok.ensures.takes) c.run_turn.ensures.reader c.run_turn.ensures.waiting c.in-Err-ByLink.ensures.did))

pub returns-in-Err-ByLink-clause-blamed : goal.returns-in-Err-ByLink-clause-blamed
returns-in-Err-ByLink-clause-blamed g c =
    let air = g.A.Air.faults c.args.air.now in
    let draws = g.D.Draws.faults c.args.draws.now in
    subst (λ (b : Blame). IsBlamed g.A.L.Link.faults b c.args.links.now.items c.run_turn.new.links.items air air draws draws) (ap (λ (x : Break). break_blame {T = Unit {0}} (Err x)) c.in-Err-ByLink.field-0-is ∙ broken_blame (Unit {0}) c.in-Err-ByLink.error) (blamed_turn g.A.L.Link.told g.A.L.Link.faults _ _ _ _ _ _ _ _ _ c.in-Err-ByLink.ensures.did)

pub returns-in-Err-ByWrite-clause-told : goal.returns-in-Err-ByWrite-clause-told
returns-in-Err-ByWrite-clause-told g c draft rounds first stands met =
    let last = g.D.Draws.last c.args.draws.now in
    let air = g.A.Air.told c.args.air.now in
    let new = outer c.run_turn.new.links.items air last in
    subst (λ (x : Break). BreaksLine g.A.L.Link.told x first new c.run_turn.new.self.reader.mode c.args.line.now draft rounds c.args.journal.now.entries c.run_turn.new.journal.entries) c.in-Err-ByWrite.field-0-is
    (breaks_turn g.A.L.Link.told g.A.L.Link.faults c.looks_are_right.ensures first c.args.self.now c.run_turn.new.self (outer c.args.links.now.items air last) new c.args.line.now draft rounds c.args.journal.now.entries c.run_turn.new.journal.entries c.in-Err-ByWrite.field-0 refl refl stands met
    (turn_done g.A.L.Link.told g.A.L.Link.faults c.args.self.now c.take.new.self c.run_turn.new.self _ _ c.args.line.now _ _ _ c.requires.ready (took_as c.args.self.now c.take.new.self c.args.line.now c.args.journal.now.entries c.in-Ok.step step.Turn c.in-Turn.is c.take.ensures.mode c.in-Ok.ensures.seen c.in-Ok.ensures.sizes c.in-Ok.ensures.takes) c.run_turn.ensures.reader c.run_turn.ensures.waiting c.in-Err-ByWrite.ensures.did))

pub returns-in-Err-ByWrite-clause-blamed : goal.returns-in-Err-ByWrite-clause-blamed
returns-in-Err-ByWrite-clause-blamed g c =
    let air = g.A.Air.faults c.args.air.now in
    let draws = g.D.Draws.faults c.args.draws.now in
    subst (λ (b : Blame). IsBlamed g.A.L.Link.faults b c.args.links.now.items c.run_turn.new.links.items air air draws draws) (ap (λ (x : Break). break_blame {T = Unit {0}} (Err x)) c.in-Err-ByWrite.field-0-is) (blamed_turn g.A.L.Link.told g.A.L.Link.faults _ _ _ _ _ _ _ _ _ c.in-Err-ByWrite.ensures.did)

-- a line of both kinds of run
pub run_line-requires-clause-can : goal.run_line-requires-clause-can
run_line-requires-clause-can g c regions within = can_line c.args.self.now c.take.new.self _ c.args.line.now c.args.journal.now.entries c.in-Ok.step c.requires.ready (is_plain c.in-Ok.step c.in_default.not-Draw c.in_default.not-Turn) (took_as c.args.self.now c.take.new.self c.args.line.now c.args.journal.now.entries c.in-Ok.step c.in-Ok.step refl c.take.ensures.mode c.in-Ok.ensures.seen c.in-Ok.ensures.sizes c.in-Ok.ensures.takes)

pub run_line-requires-clause-first : goal.run_line-requires-clause-first
run_line-requires-clause-first g c regions within =
    let s = c.args.self.now in
    can_list (world_of s.session) s.waiting s.reader c.take.new.self.draft c.args.journal.now.entries c.in-Ok.step c.requires.ready.world_is (can_line s c.take.new.self _ c.args.line.now c.args.journal.now.entries c.in-Ok.step c.requires.ready (is_plain c.in-Ok.step c.in_default.not-Draw c.in_default.not-Turn) (took_as c.args.self.now c.take.new.self c.args.line.now c.args.journal.now.entries c.in-Ok.step c.in-Ok.step refl c.take.ensures.mode c.in-Ok.ensures.seen c.in-Ok.ensures.sizes c.in-Ok.ensures.takes))

pub run_line-requires-clause-links : goal.run_line-requires-clause-links
run_line-requires-clause-links g c regions within = links_line c.args.self.now c.take.new.self _ 65536 c.args.journal.now.entries c.take.ensures.mode c.requires.ready

pub returns-in_default-clause-ready : goal.returns-in_default-clause-ready
returns-in_default-clause-ready g c lines ready =
    ready_then g.A.L.Link.told c.args.self.now c.take.new.self c.run_line.new.self c.args.links.now.items c.run_line.new.links.items _ _ lines c.args.line.now c.args.journal.now.entries c.run_line.new.journal.entries c.in-Ok.step c.run_line.result ready (is_plain c.in-Ok.step c.in_default.not-Draw c.in_default.not-Turn)
    (took_as c.args.self.now c.take.new.self c.args.line.now c.args.journal.now.entries c.in-Ok.step c.in-Ok.step refl c.take.ensures.mode c.in-Ok.ensures.seen c.in-Ok.ensures.sizes c.in-Ok.ensures.takes) c.run_line.ensures.reader c.run_line.ensures.did

pub returns-in_default-clause-told : goal.returns-in_default-clause-told
returns-in_default-clause-told g c draft rounds first stands met =
    told_line g.A.L.Link.told c.looks_are_right.ensures first c.args.self.now c.take.new.self c.run_line.new.self c.args.links.now.items c.run_line.new.links.items _ _ _ c.args.line.now draft rounds c.args.journal.now.entries c.run_line.new.journal.entries c.in-Ok.step c.run_line.result c.requires.ready (is_plain c.in-Ok.step c.in_default.not-Draw c.in_default.not-Turn)
    (took_as c.args.self.now c.take.new.self c.args.line.now c.args.journal.now.entries c.in-Ok.step c.in-Ok.step refl c.take.ensures.mode c.in-Ok.ensures.seen c.in-Ok.ensures.sizes c.in-Ok.ensures.takes) c.run_line.ensures.reader stands met c.run_line.ensures.did

pub returns-in_default-clause-blamed : goal.returns-in_default-clause-blamed
returns-in_default-clause-blamed g c =
    blamed_line g.A.L.Link.told g.A.L.Link.faults _ _ _ _ c.args.links.now.items c.run_line.new.links.items _ _ _ _ _ _ c.run_line.result c.run_line.ensures.did c.run_line.ensures.blamed

pub returns-in-Err-NoMemory-clause-told : goal.returns-in-Err-NoMemory-clause-told
returns-in-Err-NoMemory-clause-told g c draft rounds first stands met = (refl, refl)
