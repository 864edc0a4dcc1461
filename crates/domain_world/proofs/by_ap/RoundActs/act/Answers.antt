use Rattle.std.proofs.Common.{◌∙◌, ◌++◌, [], ◌∷◌, List, take, refl, sym, ap, subst}
use Rattle.holder_table.specs.Relations.{KnowsNoLess, no_less_here, no_less_then}
use Rattle.domain_world.specs.declared.working.Turn.{Turn}
use Rattle.domain_world.specs.declared.part.Part.{Part}
use Rattle.domain_world.specs.Working.{Worked, turns_at}
use Rattle.domain_world.proofs.Turning.{turns_here, turns_other, all_at, for_here}
use Rattle.domain_world.proofs.Workers.{one_more, none_worked, same_history}
use Rattle.domain_world.proofs.by_ap.RoundActs.act.Goals as goal
use Rattle.domain_world.proofs.by_ap.RoundActs.act.Goals.{then-is_at+in_ok-act_once+in_ok-push, else-is_at}

pub act_once-requires-clause-event : goal.act_once-requires-clause-event
act_once-requires-clause-event c =
    let d = c.args.self.now.domain.now in
    let t = c.turn_of-item.result in
    for_here d c.args.number t (sym c.is_at.ensures ∙ c.if-is_at.true) (all_at _ c.args.self.now.turns.now c.loop-turn_of.turn_of-index t c.requires.round.turns_are c.loop-turn_of-test.true c.turn_of-item.is)

pub act_once-requires-clause-still : goal.act_once-requires-clause-still
act_once-requires-clause-still c =
    (all_at _ c.args.self.now.turns.now c.loop-turn_of.turn_of-index c.turn_of-item.result c.requires.round.turns_are c.loop-turn_of-test.true c.turn_of-item.is).2

pub loop-turn_of-init : goal.loop-turn_of-init
loop-turn_of-init c =
    let seen = c.args.holders.now.pass.knows.seen in (
      subst (Worked c.args.self.now.domain.now c.args.number [] c.args.node.now c.args.node.now seen seen) (sym c.new-parts.ensures.items) (none_worked c.args.self.now.domain.now c.args.number c.args.node.now seen seen (same_history seen) refl),
      c.requires.number,
      no_less_here c.args.holders.now.table.now c.args.holders.now.pass,
    )

pub returns-in_err-act_once-clause-no_less : goal.returns-in_err-act_once-clause-no_less
returns-in_err-act_once-clause-no_less c = no_less_then _ _ _ _ _ _ c.loop-turn_of.invariant.2 c.act_once.ensures.no_less

pub returns-in_err-push-clause-no_less : goal.returns-in_err-push-clause-no_less
returns-in_err-push-clause-no_less c = no_less_then _ _ _ _ _ _ c.loop-turn_of.invariant.2 c.act_once.ensures.no_less

pub loop-turn_of-preserved : goal.loop-turn_of-preserved
loop-turn_of-preserved c = elim c.if-is_at.branch [
  | then-is_at+in_ok-act_once+in_ok-push w ↦
      let d = c.args.self.now.domain.now in
      let n = c.args.number in
      let held = c.loop-turn_of.invariant in
      let ts = c.args.self.now.turns.now in
      let t = c.turn_of-item.result in
      let part = w.in_ok-act_once.field-0 in
      let old = c.args.holders.now in
      let mid = c.loop-turn_of.holders in
      let new = w.act_once.new.holders in
      let more = turns_here n ts c.loop-turn_of.turn_of-index t c.loop-turn_of-test.true c.turn_of-item.is (sym c.is_at.ensures ∙ w.if-is_at.true) in
      let worked = one_more d n (turns_at n (take c.loop-turn_of.turn_of-index ts)) t c.args.node.now c.loop-turn_of.node w.act_once.new.node old.pass.knows.seen mid.pass.knows.seen new.pass.knows.seen c.loop-turn_of.parts.items part
      held.0 (w.act_once.ensures.number ∙ sym held.1) w.in_ok-act_once.ensures.at w.in_ok-act_once.ensures.turned in
      let items = ap (λ p. p.items) w.parts-is ∙ w.in_ok-push.ensures.items in
      let less = no_less_then old.table.now old.pass mid.table.now mid.pass new.table.now new.pass held.2 w.act_once.ensures.no_less in (
        subst (λ (es : List Turn). Worked d n es c.args.node.now c.if-is_at.node old.pass.knows.seen c.if-is_at.holders.pass.knows.seen c.if-is_at.parts.items) (sym more)
            (subst (λ (ps : List Part). Worked d n (turns_at n (take c.loop-turn_of.turn_of-index ts) ++ t ∷ []) c.args.node.now c.if-is_at.node old.pass.knows.seen c.if-is_at.holders.pass.knows.seen ps) (sym items)
            (subst (λ h. Worked d n (turns_at n (take c.loop-turn_of.turn_of-index ts) ++ t ∷ []) c.args.node.now c.if-is_at.node old.pass.knows.seen h.pass.knows.seen (c.loop-turn_of.parts.items ++ part ∷ [])) (sym w.holders-is)
            (subst (λ x. Worked d n (turns_at n (take c.loop-turn_of.turn_of-index ts) ++ t ∷ []) c.args.node.now x old.pass.knows.seen new.pass.knows.seen (c.loop-turn_of.parts.items ++ part ∷ [])) (sym w.node-is) worked))),
        ap (λ x. x.number) w.node-is ∙ w.act_once.ensures.number,
        subst (λ h. KnowsNoLess old.table.now old.pass h.table.now h.pass) (sym w.holders-is) less,
      )
  | else-is_at w ↦
      let same = turns_other c.args.number c.args.self.now.turns.now c.loop-turn_of.turn_of-index c.turn_of-item.result c.loop-turn_of-test.true c.turn_of-item.is (sym c.is_at.ensures ∙ w.if-is_at.false) in
      search (same, c.loop-turn_of.invariant, w.node-is, w.holders-is, w.parts-is)
]
