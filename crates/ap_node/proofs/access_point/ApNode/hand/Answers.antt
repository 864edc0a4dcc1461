use Rattle.std.proofs.Common.{◌≡◌, ℕ, List, ap, subst, ◌∙◌}
use Rattle.run_journal.specs.declared.acts.Act.{Act}
use Rattle.domain_rules.specs.Rows.{Take}
use Rattle.domain_rules.proofs.Peers.{named}
use Rattle.frame_intake.specs.Views.{message_fields}
use Rattle.node_base.specs.Events.{seen}
use Rattle.authenticator.specs.Judged.{frame_of}
use Rattle.ap_node.specs.Handed.{IsHandedOver}
use Rattle.ap_node.specs.Parts.{is_final_at}
use Rattle.ap_node.specs.Putting.{LeavesOthers}
use Rattle.ap_node.specs.State.{State, station_at}
use Rattle.ap_node.specs.Takes.{IsDoneWith}
use Rattle.ap_node.proofs.Messaging.{takes_handed, ready_as}
use Rattle.ap_node.proofs.Rows.{change_at, same_others}
use Rattle.ap_node.proofs.Listed.{number_listed}
use Rattle.ap_node.proofs.access_point.ApNode.hand.Goals as goal

pub returns-clause-done : goal.returns-clause-done
returns-clause-done over c =
    let d = c.args.here.domain.now in
    let old = c.args.self.now in
    let mid = c.hand_ready.new.self in
    let sta = c.args.station in
    let m = c.args.heard.now.message in
    let octets = c.args.heard.now.octets.now in
    let waited = c.args.out.now.acts in
    let waits = c.hand_ready.new.out.acts in
    let outcome = c.hand_ready.result in
    let final_is : c.is_final-is_final.result ≡ is_final_at (station_at old.stations sta) m.message (frame_of m.frame) =
    c.is_final-is_final.ensures ∙ ap (λ (s : State). is_final_at (station_at s.stations sta) m.message (frame_of m.frame)) c.self.view_is in
    let number : c.self.inside.number ≡ old.number = ap (λ (s : State). s.number) c.self.view_is in
    subst (λ (k : ℕ). IsDoneWith d (Take octets) old mid (over.H.Holders.rows c.args.holders.now k) (over.H.Holders.rows c.prepare.new.holders k) (seen waited waits outcome)) number
    (takes_handed d old mid octets sta m outcome _ _ c.in_ok-ready.ready waited waits c.hand_ready.ensures.beside c.requires.frame c.requires.form (named d c.requires.form)
    (ready_as d c.self.inside.number old.number sta octets (message_fields m) c.is_final-is_final.result (is_final_at (station_at old.stations sta) m.message (frame_of m.frame)) _ _ c.in_ok-ready.ready number final_is c.in_ok-ready.ensures.ready)
    c.hand_ready.ensures.refused
    (subst (λ (l : List Act). IsHandedOver sta m c.in_ok-ready.ready old mid (seen l waits outcome)) c.reserve.ensures.acts c.hand_ready.ensures.handed))

pub returns-in_err-reserve-clause-no_less : goal.returns-in_err-reserve-clause-no_less
returns-in_err-reserve-clause-no_less over c = over.met.H.Holders.same c.args.holders.now

pub returns-in_err-ready-clause-change : goal.returns-in_err-ready-clause-change
returns-in_err-ready-clause-change over c = change_at _ _ _ c.self.inside.number c.args.self.now.number _ _ (ap (λ (t : State). t.number) c.self.view_is) c.prepare.ensures.change

pub returns-clause-change : goal.returns-clause-change
returns-clause-change over c = change_at _ _ _ c.self.inside.number c.args.self.now.number _ _ (ap (λ (t : State). t.number) c.self.view_is) c.prepare.ensures.change

pub returns-in_err-reserve-clause-others : goal.returns-in_err-reserve-clause-others
returns-in_err-reserve-clause-others over c = same_others _ _ _ _

pub returns-in_err-ready-clause-others : goal.returns-in_err-ready-clause-others
returns-in_err-ready-clause-others over c =
    subst (λ (k : ℕ). LeavesOthers k (over.H.Holders.ids c.args.holders.now) (over.H.Holders.ids c.prepare.new.holders) (over.H.Holders.has c.args.holders.now) (over.H.Holders.has c.prepare.new.holders) (over.H.Holders.rows c.args.holders.now) (over.H.Holders.rows c.prepare.new.holders)) (ap (λ (t : State). t.number) c.self.view_is) c.prepare.ensures.others

pub returns-in_err-ready-clause-no_less : goal.returns-in_err-ready-clause-no_less
returns-in_err-ready-clause-no_less over c = c.prepare.ensures.no_less

pub returns-clause-others : goal.returns-clause-others
returns-clause-others over c =
    subst (λ (k : ℕ). LeavesOthers k (over.H.Holders.ids c.args.holders.now) (over.H.Holders.ids c.prepare.new.holders) (over.H.Holders.has c.args.holders.now) (over.H.Holders.has c.prepare.new.holders) (over.H.Holders.rows c.args.holders.now) (over.H.Holders.rows c.prepare.new.holders)) (ap (λ (t : State). t.number) c.self.view_is) c.prepare.ensures.others

pub returns-clause-no_less : goal.returns-clause-no_less
returns-clause-no_less over c = c.prepare.ensures.no_less

pub returns-clause-number : goal.returns-clause-number
returns-clause-number over c = c.hand_ready.ensures.beside.number

pub prepare-requires-clause-ap : goal.prepare-requires-clause-ap
prepare-requires-clause-ap over c = number_listed c.args.here.domain.now _ c.args.self.now c.self.view_is c.requires.listed

pub hand_ready-requires-clause-judged : goal.hand_ready-requires-clause-judged
hand_ready-requires-clause-judged over c =
    let m = c.args.heard.now.message in
    c.in_ok-ready.ensures.ready.judged ∙ c.is_final-is_final.ensures ∙ ap (λ (s : State). is_final_at (station_at s.stations c.args.station) m.message (frame_of m.frame)) c.self.view_is

pub hand_ready-requires-clause-same : goal.hand_ready-requires-clause-same
hand_ready-requires-clause-same over c = c.in_ok-ready.ensures.ready.room.message
