use Rattle.std.proofs.Common.{ℕ, ◌≤◌, Bool, true, false, Err, length, ap, sym, subst, refl}
use Rattle.frame_script.specs.declared.reader.Mode.{Mode}
use Rattle.script_runs.specs.Outer.{Blame, IsBlamed}
use Rattle.script_runs.specs.States.{world_of}
use Rattle.script_runs.specs.declared.session.SessionFault.{SessionFault}
use Rattle.script_runs.specs.Turning.{HasLinked}
use Rattle.script_runs.specs.Written.{session_short}
use Rattle.script_runs.proofs.Owned.{ran_fault, unrun_fault}
use Rattle.script_runs.proofs.Writings.{goes_as}
use Rattle.script_runs.proofs.Followed.{linked_then, long_then, broken_blame, done_with}
use Rattle.script_runs.proofs.Linked.{blamed_none}
use Rattle.script_runs.proofs.state.ScriptState.run_line.Goals as goal

pub follow-requires-clause-few : goal.follow-requires-clause-few
follow-requires-clause-few g c =
    let s = c.args.self.now in
    let few = linked_then s.reader.mode (world_of s.session) (world_of c.run_step.new.session) s.waiting c.run_step.new.waiting s.reader.draft c.args.journal.now.entries c.run_step.new.journal.entries c.args.step _ c.requires.links c.in-Ok.ensures.did in
    subst (λ (m : Mode). HasLinked m (world_of c.run_step.new.session) (length c.args.links.now.items)) (sym c.mode-kind.ensures) few

pub follow-requires-clause-within : goal.follow-requires-clause-within
follow-requires-clause-within g c =
    let s = c.args.self.now in
    let j = c.args.journal.now.entries in
    let k = c.run_step.new.journal.entries in
    subst (λ (n : ℕ). n ≤ length k) (sym c.len-from.ensures) (long_then (world_of s.session) (world_of c.run_step.new.session) s.waiting c.run_step.new.waiting s.reader.draft j k c.args.step c.requires.first c.in-Ok.ensures.did)

pub returns-in-Err-NoMemory-clause-blamed : goal.returns-in-Err-NoMemory-clause-blamed
returns-in-Err-NoMemory-clause-blamed g c = blamed_none g.A.L.Link.faults c.args.links.now.items c.args.links.now.items _ _ 0 refl (λ none. none)

pub returns-in-Ok-follow-clause-did : goal.returns-in-Ok-follow-clause-did
returns-in-Ok-follow-clause-did g c =
    done_with g.A.L.Link.told c.args.self.now _ _ _ c.args.journal.now.entries c.run_step.new.journal.entries c.args.step _ _ _ c.len-from.ensures c.mode-kind.ensures c.in-Ok.ensures.did c.in-Ok-follow.ensures.goes

pub returns-in-Err-clause-did : goal.returns-in-Err-clause-did
returns-in-Err-clause-did g c =
    done_with g.A.L.Link.told c.args.self.now _ _ _ c.args.journal.now.entries c.run_step.new.journal.entries c.args.step _ _ _ c.len-from.ensures c.mode-kind.ensures c.in-Ok.ensures.did c.in-Err.ensures.goes

pub returns-in-Err-clause-blamed : goal.returns-in-Err-clause-blamed
returns-in-Err-clause-blamed g c =
    subst (λ (b : Blame). IsBlamed g.A.L.Link.faults b c.args.links.now.items c.follow.new.links.items (g.A.Air.faults c.args.air.now) (g.A.Air.faults c.follow.new.air) 0 0) (broken_blame (Unit {0}) (Unit {0}) c.in-Err.error) c.in-Err.ensures.blamed

pub returns-in-Err-WriteFault-clause-blamed : goal.returns-in-Err-WriteFault-clause-blamed
returns-in-Err-WriteFault-clause-blamed g c = blamed_none g.A.L.Link.faults c.args.links.now.items c.args.links.now.items _ _ 0 refl (λ none. none)

pub returns-in-Err-NoMemory-clause-did : goal.returns-in-Err-NoMemory-clause-did
returns-in-Err-NoMemory-clause-did g c = (unrun_fault c.in-Err-NoMemory.field-0 _ c.in-Err-NoMemory.field-0-is c.in-Err-NoMemory.ensures.kept, refl)

pub returns-in-Err-WriteFault-clause-did : goal.returns-in-Err-WriteFault-clause-did
returns-in-Err-WriteFault-clause-did g c = record {
  did = ran_fault c.in-Err-WriteFault.field-0 _ c.in-Err-WriteFault.field-0-is c.in-Err-WriteFault.ensures.did;
  round = c.in-Err-WriteFault.ensures.round (ap Err c.in-Err-WriteFault.field-0-is);
  same = refl;
}

-- what was written
abbrev short_of : SessionFault → Bool
short_of x = session_short {T = Unit {0}} (Err x)

pub returns-in-Ok-follow-clause-wrote : goal.returns-in-Ok-follow-clause-wrote
returns-in-Ok-follow-clause-wrote g c = c.in-Ok.ensures.wrote

pub returns-in-Err-clause-wrote : goal.returns-in-Err-clause-wrote
returns-in-Err-clause-wrote g c = c.in-Ok.ensures.wrote

pub returns-in-Err-NoMemory-clause-wrote : goal.returns-in-Err-NoMemory-clause-wrote
returns-in-Err-NoMemory-clause-wrote g c = goes_as _ false _ _ _ _ _ _ (ap short_of c.in-Err-NoMemory.field-0-is) c.in-Err-NoMemory.ensures.wrote

pub returns-in-Err-WriteFault-clause-wrote : goal.returns-in-Err-WriteFault-clause-wrote
returns-in-Err-WriteFault-clause-wrote g c = goes_as _ true _ _ _ _ _ _ (ap short_of c.in-Err-WriteFault.field-0-is) c.in-Err-WriteFault.ensures.wrote
