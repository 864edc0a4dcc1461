use Rattle.std.proofs.Common.{◌≡◌, ◌∙◌, ◌++◌, [], ◌∷◌, List, ap, arith}
use Rattle.std.proofs.lemmas.List.{nil_from_length}
use Rattle.ap_node.specs.State.{State as ApState}
use Rattle.domain_world.proofs.Running.{one_run}
use Rattle.domain_world.proofs.working.alone.Goals as goal

pub returns-clause-ran : goal.returns-clause-ran
returns-clause-ran g c =
    let s = c.in-Some.node in
    let worked = c.work-node in
    let t = worked.result.node in
    let none : c.pop.new.self.items ≡ [] = nil_from_length c.pop.new.self.items (omega (arith, c.in-Some.ensures.cases, c.pop.new.self.ok.0, c.requires.one)) in
    one_run (g.W.Acts.domain c.args.round.now) (g.W.Acts.turns c.args.round.now) c.args.table.now.table c.args.batch _ s t c.split-given.new.pass worked.result.pass c.split-given.result.knows c.requires.batch
    (c.in-Some.ensures.items ∙ ap (λ (l : List ApState). l ++ s ∷ []) none) (c.push_reserved.ensures.items ∙ ap (λ (l : List ApState). l ++ t ∷ []) none) worked.ensures.number c.split-given.ensures.pass.0 c.split-given.ensures.gave worked.ensures.no_less c.join.ensures.pass
    c.join.ensures.took_in worked.ensures.worked
