use Rattle.std.proofs.Common.{◌≡◌, length, sym, subst, ◌∙◌}
use Rattle.key_hierarchy.specs.declared.answers.PullAnswer.TheVariants.{Found, NoHolder, Absent}
use Rattle.embedded_node.specs.Pushed.{Holding, PulledFrom}
use Rattle.embedded_node.proofs.Pulled.{held, own_found, own_absent, other_gives, none_holds, pulled_answers}
use Rattle.embedded_node.proofs.holders.PushedHoldersHolders.pull.Goals as goal

-- ---- the own one answers

pub returns-in-Found-clause-pulls : goal.returns-in-Found-clause-pulls
returns-in-Found-clause-pulls c =
    let s = c.self.inside in let id = c.args.r0kh_id.now in let name = c.args.name.now in let r1 = c.in-Found.r1 in
    subst (λ (h : Holding). PulledFrom h id name c.args.r1kh c.args.sta (Found r1)) c.self.view_is
    (own_found (held s.own s.others.items s.pushed.items) id name c.args.r1kh c.args.sta c.self.invariant r1 c.in-Found.ensures.pulls.0)

pub returns-in-Found-clause-answer : goal.returns-in-Found-clause-answer
returns-in-Found-clause-answer c =
    let one = subst (λ (h : Holding). length h.own ≡ 1) c.self.view_is c.self.invariant in
    pulled_answers c.args.self.now c.args.r0kh_id.now c.args.name.now c.args.r1kh c.args.sta one (Found c.in-Found.r1) (returns-in-Found-clause-pulls c)

pub returns-in-Absent-clause-pulls : goal.returns-in-Absent-clause-pulls
returns-in-Absent-clause-pulls c =
    let s = c.self.inside in let id = c.args.r0kh_id.now in let name = c.args.name.now in
    subst (λ (h : Holding). PulledFrom h id name c.args.r1kh c.args.sta Absent) c.self.view_is
    (own_absent (held s.own s.others.items s.pushed.items) id name c.args.r1kh c.args.sta c.self.invariant c.in-Absent.ensures.pulls.0)

pub returns-in-Absent-clause-answer : goal.returns-in-Absent-clause-answer
returns-in-Absent-clause-answer c =
    let one = subst (λ (h : Holding). length h.own ≡ 1) c.self.view_is c.self.invariant in
    pulled_answers c.args.self.now c.args.r0kh_id.now c.args.name.now c.args.r1kh c.args.sta one Absent (returns-in-Absent-clause-pulls c)

-- ---- what another gave

pub returns-in-Some-clause-pulls : goal.returns-in-Some-clause-pulls
returns-in-Some-clause-pulls c =
    let s = c.self.inside in let id = c.args.r0kh_id.now in let name = c.args.name.now in let answer = c.given.result in
    subst (λ (h : Holding). PulledFrom h id name c.args.r1kh c.args.sta answer) c.self.view_is
    (other_gives (held s.own s.others.items s.pushed.items) id name c.args.r1kh c.args.sta c.self.invariant answer c.in-Some.holder (sym c.in-Some.is ∙ c.other_of.ensures) c.given.ensures)

pub returns-in-Some-clause-answer : goal.returns-in-Some-clause-answer
returns-in-Some-clause-answer c =
    let one = subst (λ (h : Holding). length h.own ≡ 1) c.self.view_is c.self.invariant in
    pulled_answers c.args.self.now c.args.r0kh_id.now c.args.name.now c.args.r1kh c.args.sta one c.given.result (returns-in-Some-clause-pulls c)

pub returns-in-None-clause-pulls : goal.returns-in-None-clause-pulls
returns-in-None-clause-pulls c =
    let s = c.self.inside in let id = c.args.r0kh_id.now in let name = c.args.name.now in
    subst (λ (h : Holding). PulledFrom h id name c.args.r1kh c.args.sta NoHolder) c.self.view_is
    (none_holds (held s.own s.others.items s.pushed.items) id name c.args.r1kh c.args.sta c.self.invariant c.in-NoHolder.ensures.pulls.0 (sym c.in-None.is ∙ c.other_of.ensures))

pub returns-in-None-clause-answer : goal.returns-in-None-clause-answer
returns-in-None-clause-answer c = returns-in-None-clause-pulls c
