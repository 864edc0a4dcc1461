use Rattle.std.proofs.Common.{◌≡◌, sym, subst, ◌∙◌}
use Rattle.std.specs.Prelude.{Result, None, IfErr}
use Rattle.std.specs.List.{list_any}
use Rattle.run_journal.specs.declared.domain.ListedSta.{ListedSta}
use Rattle.embedded_node.specs.declared.untaken.Untaken.{Untaken}
use Rattle.embedded_node.specs.Free.{is_same, IsCause}
use Rattle.embedded_node.specs.Pushed.{other_of, push_fault}
use Rattle.embedded_node.specs.States.{Ap}
use Rattle.embedded_node.proofs.Standing.{ap_of}
use Rattle.embedded_node.proofs.Pulled.{no_fault}
use Rattle.embedded_node.proofs.access_point.EmbeddedAp.push.Goals.{in-Ok, in-Err}
use Rattle.embedded_node.proofs.access_point.EmbeddedAp.push.Goals as goal

-- where nothing speaks against the key, memory ran out
pub returns-clause-cause : goal.returns-clause-cause
returns-clause-cause c =
    let s = c.self.inside in let id = c.args.r0kh_id.now in
    let listed = λ (v : Ap). list_any (λ (x : ListedSta). is_same x.address c.args.sta) v.domain.stas in
    let none = no_fault (other_of s.holders id) c.in-Some.holder (listed (ap_of s.domain s.node s.holders s.out.acts)) (sym c.in-Some.is ∙ c.other_of.ensures) (sym c.is_of_sta.ensures ∙ c.if-not-is_of_sta.false) in
    let fit : push_fault (other_of c.args.self.now.holders id) (listed c.args.self.now) ≡ None = subst (λ (v : Ap). push_fault (other_of v.holders id) (listed v) ≡ None) c.self.view_is none in
    let cause = IsCause (push_fault (other_of c.args.self.now.holders id) (listed c.args.self.now)) in
    elim c.match-give.branch [
      | in-Ok w ↦ subst (λ (r : Result (Unit {0}) Untaken). IfErr r cause) (sym w.result-is) tt
      | in-Err w ↦ subst (λ (r : Result (Unit {0}) Untaken). IfErr r cause) (sym w.result-is) fit
    ]
