use Rattle.std.proofs.Common.{◌≡◌, ◌≢◌, ◌⊎◌, [], arith, length, List, ℕ, ap, subst, inl, inr, true, false, sym}
use Rattle.std.specs.Prelude.{◌==◌}
use Rattle.std.proofs.lemmas.Bool.Decides.{nat_tests}
use Rattle.std.proofs.lemmas.List.{nil_from_length}
use Rattle.script_runs.specs.Outer.{outer, Blame, IsBlamed}
use Rattle.script_runs.specs.States.{TellsLine}
use Rattle.script_runs.specs.Stops.{StopsLine}
use Rattle.script_runs.proofs.Coming.{closes_here, closes_last, closes_line}
use Rattle.script_runs.proofs.feeder.LineFeeder.finish.Goals.{else-is_empty-via-then-is_empty+else-self-gt0, else-is_empty-via-else-is_empty}
use Rattle.script_runs.proofs.Blamed.{unblamed}
use Rattle.script_runs.proofs.Ended.{ended_blame, ended_read, stopped_read}
use Rattle.script_runs.proofs.Writings.{ended_at, found_stop, goes_as, goes_none}
use Rattle.script_runs.proofs.feeder.LineFeeder.finish.Goals as goal

some_octets : (line : List ℕ) (n : ℕ) → n ≡ length line → false ≡ (n == 0) → line ≢ []
some_octets line n count e none = let empty = ap (λ (l : List ℕ). length l) none in grind (arith, nat_tests)

no_octets : (line : List ℕ) (n : ℕ) → n ≡ length line → true ≡ (n == 0) → line ≡ []
no_octets line n count e = nil_from_length line (grind (arith, nat_tests))

-- the last line has its line feed
pub returns-then-self-gt0-clause-told : goal.returns-then-self-gt0-clause-told
returns-then-self-gt0-clause-told g c first octets r =
    let s = c.args.self.now in
    closes_here g.A.L.Link.told first _ s c.ended.result octets _ r (no_octets s.cutter.line.items _ s.cutter.line.ok.0 c.if-is_empty.ensures) c.if-self-gt0.true c.ended.ensures

-- or lacks it
pub returns-in-Ok-clause-told : goal.returns-in-Ok-clause-told
returns-in-Ok-clause-told g c first octets r =
    let s = c.args.self.now in
    let j = c.args.journal.now.entries in
    let k = c.take_line-taken.new.journal.entries in
    let o = outer c.take_line-taken.new.links.items (g.A.Air.told c.take_line-taken.new.air) (g.D.Draws.last c.take_line-taken.new.draws) in
    let some : (s.cutter.line.items ≢ []) ⊎ (r.come.good ≡ []) =
    elim c.else-is_empty.branch [
      | else-is_empty-via-then-is_empty+else-self-gt0 w ↦ inr (nil_from_length r.come.good (omega (arith, r.come.cut.count)))
      | else-is_empty-via-else-is_empty w ↦ inl (some_octets s.cutter.line.items _ s.cutter.line.ok.0 w.if-is_empty.ensures)
    ] in
    let told = subst (λ (w : List ℕ). TellsLine g.A.L.Link.told first o w r.draft r.rounds c.take_line-taken.new.state j k) c.deref.ensures.value (c.in-Ok.ensures.told r.draft r.rounds first r.come.stands r.met) in
    closes_line g.A.L.Link.told first o s c.take_line-taken.new.state c.ended-in-Ok.result octets r.draft r.rounds j k r.come c.in-Ok.ensures.few some c.take_line-taken.ensures.mode told c.ended-in-Ok.ensures

pub returns-in-Err-clause-told : goal.returns-in-Err-clause-told
returns-in-Err-clause-told g c first octets r =
    let s = c.args.self.now in
    let j = c.args.journal.now.entries in
    let k = c.take_line-taken.new.journal.entries in
    let old = outer c.args.links.now.items (g.A.Air.told c.args.air.now) (g.D.Draws.last c.args.draws.now) in
    let new = outer c.take_line-taken.new.links.items (g.A.Air.told c.take_line-taken.new.air) (g.D.Draws.last c.take_line-taken.new.draws) in
    let some : (s.cutter.line.items ≢ []) ⊎ (r.come.good ≡ []) =
    elim c.else-is_empty.branch [
      | else-is_empty-via-then-is_empty+else-self-gt0 w ↦ inr (nil_from_length r.come.good (omega (arith, r.come.cut.count)))
      | else-is_empty-via-else-is_empty w ↦ inl (some_octets s.cutter.line.items _ s.cutter.line.ok.0 w.if-is_empty.ensures)
    ] in
    let stops = subst (λ (w : List ℕ). StopsLine c.in-Err.stop g.A.L.Link.told first old new s.state.reader.mode s.cutter.lines w r.draft r.rounds j k) c.deref.ensures.value (c.in-Err.ensures.told r.draft r.rounds first r.come.stands r.met) in
    closes_last g.A.L.Link.told first old new s c.in-Err.stop octets r.draft r.rounds j k r.come r.met some stops

pub returns-then-self-gt0-clause-blamed : goal.returns-then-self-gt0-clause-blamed
returns-then-self-gt0-clause-blamed g c =
    let links = c.args.links.now.items in
    let air = g.A.Air.faults c.args.air.now in
    let draws = g.D.Draws.faults c.args.draws.now in
    subst (λ (b : Blame). IsBlamed g.A.L.Link.faults b links links air air draws draws) (sym (ended_blame c.ended.result _ _ c.ended.ensures)) (unblamed g.A.L.Link.faults links air draws)

pub returns-in-Ok-clause-blamed : goal.returns-in-Ok-clause-blamed
returns-in-Ok-clause-blamed g c =
    let t = c.take_line-taken.new in
    subst (λ (b : Blame). IsBlamed g.A.L.Link.faults b c.args.links.now.items t.links.items (g.A.Air.faults c.args.air.now) (g.A.Air.faults t.air) (g.D.Draws.faults c.args.draws.now) (g.D.Draws.faults t.draws))
    (sym (ended_blame c.ended-in-Ok.result _ _ c.ended-in-Ok.ensures)) c.in-Ok.ensures.blamed

pub returns-in-Ok-clause-not_read : goal.returns-in-Ok-clause-not_read
returns-in-Ok-clause-not_read g c = ended_read c.ended-in-Ok.result _ _ c.ended-in-Ok.ensures

pub returns-in-Err-clause-not_read : goal.returns-in-Err-clause-not_read
returns-in-Err-clause-not_read g c is = stopped_read c.in-Err.stop is

pub returns-then-self-gt0-clause-wrote : goal.returns-then-self-gt0-clause-wrote
returns-then-self-gt0-clause-wrote g c = goes_as false _ _ _ _ _ _ _ (sym (ended_at c.ended.result _ _ c.ended.ensures)) (goes_none _ _ _ c.requires.written)

pub returns-in-Ok-clause-wrote : goal.returns-in-Ok-clause-wrote
returns-in-Ok-clause-wrote g c = goes_as false _ _ _ _ _ _ _ (sym (ended_at c.ended-in-Ok.result _ _ c.ended-in-Ok.ensures)) c.in-Ok.ensures.wrote

pub returns-in-Err-clause-wrote : goal.returns-in-Err-clause-wrote
returns-in-Err-clause-wrote g c = goes_as _ _ _ _ _ _ _ _ (found_stop (Unit {0}) c.in-Err.stop) c.in-Err.ensures.wrote
