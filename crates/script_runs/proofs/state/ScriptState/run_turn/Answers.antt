use Rattle.std.proofs.Common.{Option, Some, sym, subst}
use Rattle.script_runs.specs.declared.session.Session.{Session}
use Rattle.script_runs.specs.States.{world_of}
use Rattle.script_runs.specs.Turning.{DidTurnBy}
use Rattle.script_runs.proofs.Owned.{few_turn, goes_some, links_turn, own_turn, written_some}
use Rattle.script_runs.proofs.state.ScriptState.run_turn.Goals as goal

pub turn-requires-clause-own : goal.turn-requires-clause-own
turn-requires-clause-own g c = own_turn c.args.self.now.session _ _ _ c.in-Some.is c.requires.can

pub turn-requires-clause-links : goal.turn-requires-clause-links
turn-requires-clause-links g c = links_turn c.args.self.now.session _ _ _ c.in-Some.is c.requires.can

pub turn-requires-clause-few : goal.turn-requires-clause-few
turn-requires-clause-few g c = few_turn c.args.self.now.session _ _ _ c.in-Some.is c.requires.can

pub turn-requires-clause-written : goal.turn-requires-clause-written
turn-requires-clause-written g c = written_some c.args.self.now.session _ _ c.in-Some.is c.requires.written

pub returns-clause-did : goal.returns-clause-did
returns-clause-did g c =
    subst (λ (o : Option Session). DidTurnBy g.L.Link.told g.L.Link.faults c.args.links.now.items c.turn.new.links.items (world_of o) (Some c.turn.new.session.world) c.args.journal.now.entries c.turn.new.journal.entries c.turn.result) (sym c.in-Some.is) c.turn.ensures.did

pub returns-clause-wrote : goal.returns-clause-wrote
returns-clause-wrote g c = goes_some _ c.args.self.now.session _ _ _ _ _ _ c.in-Some.is c.turn.ensures.wrote
