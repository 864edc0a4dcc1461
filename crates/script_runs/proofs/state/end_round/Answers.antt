use Rattle.std.proofs.Common.{List, suc, sym, subst, ◌∙◌}
use Rattle.run_journal.specs.declared.domain.Domain.{Domain}
use Rattle.run_journal.specs.declared.domain.Event.{Event}
use Rattle.domain_rules.specs.Explained.{Follows}
use Rattle.domain_world.specs.Owning.{IsSince}
use Rattle.script_runs.specs.Sessions.{OnRun}
use Rattle.script_runs.specs.States.{DidEnd, Waiting}
use Rattle.script_runs.proofs.Owned.{ran_round}
use Rattle.script_runs.proofs.Writings.{later_round, went_on}
use Rattle.script_runs.proofs.state.end_round.Goals as goal

pub returns-clause-did : goal.returns-clause-did
returns-clause-did g c =
    let w = c.args.session.now.world in
    let j = c.args.journal.now.entries in
    let k = c.round.new.journal.entries in
    let steps = subst (λ (es : List Event). OnRun c.round.result ((d : Domain) → IsSince d w j → Follows d (suc w.rounds) es j k)) c.deref.ensures.value c.round.ensures.steps in
    let v = c.round.new.self.world in
    let ran = ran_round c.round.result w v c.args.waiting.now c.in-Some.events j k (sym c.take.ensures.value ∙ c.in-Some.is) c.requires.own c.round.ensures.domain c.round.ensures.rounds steps c.round.ensures.since in
    subst (λ (o : Waiting). OnRun c.round.result (DidEnd w v c.args.waiting.now o j k)) (sym c.take.ensures.after) ran

pub returns-clause-wrote : goal.returns-clause-wrote
returns-clause-wrote g c =
    went_on c.round.result _ _ _ _ _ _ c.requires.written (later_round c.round.result c.args.session.now.world c.deref.result.now _ _ c.requires.own c.round.ensures.steps) c.round.ensures.kept c.round.ensures.writes
