use Rattle.std.proofs.Common.{ap, ℕ, Option, ◌∙◌, refl}
use Rattle.domain_rules.specs.Rows.{Begin, Roam, Take, Send, Leave}
use Rattle.node_base.specs.Events.{event_of}
use Rattle.station_node.specs.Steps.{turn}
use Rattle.station_node.proofs.Rekeyed.{key_number, key_event, key_refused, key_same, key_kept, not_changed, room_for, room_left}
use Rattle.station_node.proofs.Taken.{takes_number, takes_after, takes_refused, takes_same, takes_kept}
use Rattle.station_node.proofs.station.StationNode.step.Goals as goal

pub returns-in-Connect-clause-number : goal.returns-in-Connect-clause-number
returns-in-Connect-clause-number c = takes_number c.args.domain.now (Begin c.in-Connect.ap) (turn c.args.self.now c.connect.new.self c.args.out.now.acts c.connect.new.out.acts) c.connect.result c.connect.ensures

pub returns-in-Connect-clause-steps : goal.returns-in-Connect-clause-steps
returns-in-Connect-clause-steps c = takes_after c.args.domain.now (Begin c.in-Connect.ap) (event_of c.args.event) (turn c.args.self.now c.connect.new.self c.args.out.now.acts c.connect.new.out.acts) c.connect.result (ap event_of c.in-Connect.is) c.connect.ensures refl

pub returns-in-Connect-clause-refused : goal.returns-in-Connect-clause-refused
returns-in-Connect-clause-refused c = takes_refused c.args.domain.now (Begin c.in-Connect.ap) (turn c.args.self.now c.connect.new.self c.args.out.now.acts c.connect.new.out.acts) c.connect.result c.connect.ensures

pub returns-in-Connect-clause-same : goal.returns-in-Connect-clause-same
returns-in-Connect-clause-same c = takes_same c.args.domain.now (Begin c.in-Connect.ap) (turn c.args.self.now c.connect.new.self c.args.out.now.acts c.connect.new.out.acts) c.connect.result c.connect.ensures

pub returns-in-Connect-clause-kept : goal.returns-in-Connect-clause-kept
returns-in-Connect-clause-kept c = takes_kept c.args.domain.now (Begin c.in-Connect.ap) (turn c.args.self.now c.connect.new.self c.args.out.now.acts c.connect.new.out.acts) c.connect.result c.connect.ensures

pub returns-in-Take-clause-number : goal.returns-in-Take-clause-number
returns-in-Take-clause-number c = takes_number c.args.domain.now (Take c.in-Take.octets.now) (turn c.args.self.now c.take.new.self c.args.out.now.acts c.take.new.out.acts) c.take.result c.take.ensures

pub returns-in-Take-clause-steps : goal.returns-in-Take-clause-steps
returns-in-Take-clause-steps c = takes_after c.args.domain.now (Take c.in-Take.octets.now) (event_of c.args.event) (turn c.args.self.now c.take.new.self c.args.out.now.acts c.take.new.out.acts) c.take.result (ap event_of c.in-Take.is) c.take.ensures refl

pub returns-in-Take-clause-refused : goal.returns-in-Take-clause-refused
returns-in-Take-clause-refused c = takes_refused c.args.domain.now (Take c.in-Take.octets.now) (turn c.args.self.now c.take.new.self c.args.out.now.acts c.take.new.out.acts) c.take.result c.take.ensures

pub returns-in-Take-clause-same : goal.returns-in-Take-clause-same
returns-in-Take-clause-same c = takes_same c.args.domain.now (Take c.in-Take.octets.now) (turn c.args.self.now c.take.new.self c.args.out.now.acts c.take.new.out.acts) c.take.result c.take.ensures

pub returns-in-Take-clause-kept : goal.returns-in-Take-clause-kept
returns-in-Take-clause-kept c = takes_kept c.args.domain.now (Take c.in-Take.octets.now) (turn c.args.self.now c.take.new.self c.args.out.now.acts c.take.new.out.acts) c.take.result c.take.ensures

pub returns-in-Send-default-Some-default-clause-number : goal.returns-in-Send-default-Some-default-clause-number
returns-in-Send-default-Some-default-clause-number c = takes_number c.args.domain.now (Send _ _ _) (turn c.args.self.now c.send.new.self c.args.out.now.acts c.send.new.out.acts) c.send.result c.send.ensures

pub returns-in-Send-default-Some-default-clause-refused : goal.returns-in-Send-default-Some-default-clause-refused
returns-in-Send-default-Some-default-clause-refused c = takes_refused c.args.domain.now (Send _ _ _) (turn c.args.self.now c.send.new.self c.args.out.now.acts c.send.new.out.acts) c.send.result c.send.ensures

pub returns-in-Send-default-Some-default-clause-same : goal.returns-in-Send-default-Some-default-clause-same
returns-in-Send-default-Some-default-clause-same c = takes_same c.args.domain.now (Send _ _ _) (turn c.args.self.now c.send.new.self c.args.out.now.acts c.send.new.out.acts) c.send.result c.send.ensures

pub returns-in-Send-default-Some-default-clause-kept : goal.returns-in-Send-default-Some-default-clause-kept
returns-in-Send-default-Some-default-clause-kept c = takes_kept c.args.domain.now (Send _ _ _) (turn c.args.self.now c.send.new.self c.args.out.now.acts c.send.new.out.acts) c.send.result c.send.ensures

pub returns-in-Send-default-None-default-clause-number : goal.returns-in-Send-default-None-default-clause-number
returns-in-Send-default-None-default-clause-number c = takes_number c.args.domain.now (Send _ _ _) (turn c.args.self.now c.send-in-Send-default-None-default.new.self c.args.out.now.acts c.send-in-Send-default-None-default.new.out.acts) c.send-in-Send-default-None-default.result c.send-in-Send-default-None-default.ensures

pub returns-in-Send-default-None-default-clause-refused : goal.returns-in-Send-default-None-default-clause-refused
returns-in-Send-default-None-default-clause-refused c = takes_refused c.args.domain.now (Send _ _ _) (turn c.args.self.now c.send-in-Send-default-None-default.new.self c.args.out.now.acts c.send-in-Send-default-None-default.new.out.acts) c.send-in-Send-default-None-default.result c.send-in-Send-default-None-default.ensures

pub returns-in-Send-default-None-default-clause-same : goal.returns-in-Send-default-None-default-clause-same
returns-in-Send-default-None-default-clause-same c = takes_same c.args.domain.now (Send _ _ _) (turn c.args.self.now c.send-in-Send-default-None-default.new.self c.args.out.now.acts c.send-in-Send-default-None-default.new.out.acts) c.send-in-Send-default-None-default.result c.send-in-Send-default-None-default.ensures

pub returns-in-Send-default-None-default-clause-kept : goal.returns-in-Send-default-None-default-clause-kept
returns-in-Send-default-None-default-clause-kept c = takes_kept c.args.domain.now (Send _ _ _) (turn c.args.self.now c.send-in-Send-default-None-default.new.self c.args.out.now.acts c.send-in-Send-default-None-default.new.out.acts) c.send-in-Send-default-None-default.result c.send-in-Send-default-None-default.ensures

pub returns-in-Leave-clause-number : goal.returns-in-Leave-clause-number
returns-in-Leave-clause-number c = takes_number c.args.domain.now Leave (turn c.args.self.now c.leave.new.self c.args.out.now.acts c.leave.new.out.acts) c.leave.result (c.leave.ensures c.args.domain.now)

pub returns-in-Leave-clause-steps : goal.returns-in-Leave-clause-steps
returns-in-Leave-clause-steps c = takes_after c.args.domain.now Leave (event_of c.args.event) (turn c.args.self.now c.leave.new.self c.args.out.now.acts c.leave.new.out.acts) c.leave.result (ap event_of c.in-Leave.is) (c.leave.ensures c.args.domain.now) refl

pub returns-in-Leave-clause-refused : goal.returns-in-Leave-clause-refused
returns-in-Leave-clause-refused c = takes_refused c.args.domain.now Leave (turn c.args.self.now c.leave.new.self c.args.out.now.acts c.leave.new.out.acts) c.leave.result (c.leave.ensures c.args.domain.now)

pub returns-in-Leave-clause-same : goal.returns-in-Leave-clause-same
returns-in-Leave-clause-same c = takes_same c.args.domain.now Leave (turn c.args.self.now c.leave.new.self c.args.out.now.acts c.leave.new.out.acts) c.leave.result (c.leave.ensures c.args.domain.now)

pub returns-in-Leave-clause-kept : goal.returns-in-Leave-clause-kept
returns-in-Leave-clause-kept c = takes_kept c.args.domain.now Leave (turn c.args.self.now c.leave.new.self c.args.out.now.acts c.leave.new.out.acts) c.leave.result (c.leave.ensures c.args.domain.now)

pub returns-in-Roam-clause-number : goal.returns-in-Roam-clause-number
returns-in-Roam-clause-number c = takes_number c.args.domain.now (Roam c.in-Roam.ap) (turn c.args.self.now c.roam.new.self c.args.out.now.acts c.roam.new.out.acts) c.roam.result c.roam.ensures

pub returns-in-Roam-clause-steps : goal.returns-in-Roam-clause-steps
returns-in-Roam-clause-steps c = takes_after c.args.domain.now (Roam c.in-Roam.ap) (event_of c.args.event) (turn c.args.self.now c.roam.new.self c.args.out.now.acts c.roam.new.out.acts) c.roam.result (ap event_of c.in-Roam.is) c.roam.ensures refl

pub returns-in-Roam-clause-refused : goal.returns-in-Roam-clause-refused
returns-in-Roam-clause-refused c = takes_refused c.args.domain.now (Roam c.in-Roam.ap) (turn c.args.self.now c.roam.new.self c.args.out.now.acts c.roam.new.out.acts) c.roam.result c.roam.ensures

pub returns-in-Roam-clause-same : goal.returns-in-Roam-clause-same
returns-in-Roam-clause-same c = takes_same c.args.domain.now (Roam c.in-Roam.ap) (turn c.args.self.now c.roam.new.self c.args.out.now.acts c.roam.new.out.acts) c.roam.result c.roam.ensures

pub returns-in-Roam-clause-kept : goal.returns-in-Roam-clause-kept
returns-in-Roam-clause-kept c = takes_kept c.args.domain.now (Roam c.in-Roam.ap) (turn c.args.self.now c.roam.new.self c.args.out.now.acts c.roam.new.out.acts) c.roam.result c.roam.ensures

pub returns-in-Send-default-Some-default-clause-steps : goal.returns-in-Send-default-Some-default-clause-steps
returns-in-Send-default-Some-default-clause-steps c =
    let e = c.in-Send-default-Some-default in
    takes_after c.args.domain.now (Send _ _ _) (event_of c.args.event) (turn c.args.self.now c.send.new.self c.args.out.now.acts c.send.new.out.acts) c.send.result (ap event_of e.is ∙ ap (λ (o : Option ℕ). Send e.to o e.payload.now) (rw e.is at e.field-1-is)) c.send.ensures refl

pub returns-in-Send-default-None-default-clause-steps : goal.returns-in-Send-default-None-default-clause-steps
returns-in-Send-default-None-default-clause-steps c =
    let e = c.in-Send-default-None-default in
    let sent = c.send-in-Send-default-None-default in
    takes_after c.args.domain.now (Send _ _ _) (event_of c.args.event) (turn c.args.self.now sent.new.self c.args.out.now.acts sent.new.out.acts) sent.result (ap event_of e.is ∙ ap (λ (o : Option ℕ). Send e.to o e.payload.now) (rw e.is at e.field-1-is)) sent.ensures refl

pub returns-in-Secret-clause-number : goal.returns-in-Secret-clause-number
returns-in-Secret-clause-number c = key_number c.args.domain.now c.in-Secret.field-0 c.in-Secret.psk.now (turn c.args.self.now c.change.new.self c.args.out.now.acts c.change.new.out.acts) c.change.result (c.change.ensures.taken c.args.domain.now c.in-Secret.field-0)

pub returns-in-Secret-clause-steps : goal.returns-in-Secret-clause-steps
returns-in-Secret-clause-steps c = key_event c.args.domain.now c.in-Secret.field-0 c.in-Secret.psk.now (event_of c.args.event) (turn c.args.self.now c.change.new.self c.args.out.now.acts c.change.new.out.acts) c.change.result (ap event_of c.in-Secret.is) (c.change.ensures.taken c.args.domain.now c.in-Secret.field-0)

pub returns-in-Secret-clause-refused : goal.returns-in-Secret-clause-refused
returns-in-Secret-clause-refused c = key_refused c.args.domain.now c.in-Secret.field-0 c.in-Secret.psk.now (turn c.args.self.now c.change.new.self c.args.out.now.acts c.change.new.out.acts) c.change.result (c.change.ensures.taken c.args.domain.now c.in-Secret.field-0)

pub returns-in-Secret-clause-same : goal.returns-in-Secret-clause-same
returns-in-Secret-clause-same c = key_same c.args.domain.now c.in-Secret.field-0 c.in-Secret.psk.now (turn c.args.self.now c.change.new.self c.args.out.now.acts c.change.new.out.acts) c.change.result (c.change.ensures.taken c.args.domain.now c.in-Secret.field-0)

pub returns-in-Secret-clause-kept : goal.returns-in-Secret-clause-kept
returns-in-Secret-clause-kept c = key_kept c.args.domain.now c.in-Secret.field-0 c.in-Secret.psk.now (turn c.args.self.now c.change.new.self c.args.out.now.acts c.change.new.out.acts) c.change.result (c.change.ensures.taken c.args.domain.now c.in-Secret.field-0)

pub returns-in-Connect-clause-always : goal.returns-in-Connect-clause-always
returns-in-Connect-clause-always c = not_changed c.args.domain.now (event_of c.args.event) (Begin c.in-Connect.ap) c.args.out.now.spare _ (ap event_of c.in-Connect.is) (λ none. none)

pub returns-in-Connect-clause-spare : goal.returns-in-Connect-clause-spare
returns-in-Connect-clause-spare c = not_changed c.args.domain.now (event_of c.args.event) (Begin c.in-Connect.ap) c.args.out.now.spare _ (ap event_of c.in-Connect.is) (λ none. none)

pub returns-in-Take-clause-always : goal.returns-in-Take-clause-always
returns-in-Take-clause-always c = not_changed c.args.domain.now (event_of c.args.event) (Take c.in-Take.octets.now) c.args.out.now.spare _ (ap event_of c.in-Take.is) (λ none. none)

pub returns-in-Take-clause-spare : goal.returns-in-Take-clause-spare
returns-in-Take-clause-spare c = not_changed c.args.domain.now (event_of c.args.event) (Take c.in-Take.octets.now) c.args.out.now.spare _ (ap event_of c.in-Take.is) (λ none. none)

pub returns-in-Send-default-Some-default-clause-always : goal.returns-in-Send-default-Some-default-clause-always
returns-in-Send-default-Some-default-clause-always c =
    let e = c.in-Send-default-Some-default in
    not_changed c.args.domain.now (event_of c.args.event) _ c.args.out.now.spare _ (ap event_of e.is ∙ ap (λ (o : Option ℕ). Send e.to o e.payload.now) (rw e.is at e.field-1-is)) (λ none. none)

pub returns-in-Send-default-Some-default-clause-spare : goal.returns-in-Send-default-Some-default-clause-spare
returns-in-Send-default-Some-default-clause-spare c =
    let e = c.in-Send-default-Some-default in
    not_changed c.args.domain.now (event_of c.args.event) _ c.args.out.now.spare _ (ap event_of e.is ∙ ap (λ (o : Option ℕ). Send e.to o e.payload.now) (rw e.is at e.field-1-is)) (λ none. none)

pub returns-in-Send-default-None-default-clause-always : goal.returns-in-Send-default-None-default-clause-always
returns-in-Send-default-None-default-clause-always c =
    let e = c.in-Send-default-None-default in
    not_changed c.args.domain.now (event_of c.args.event) _ c.args.out.now.spare _ (ap event_of e.is ∙ ap (λ (o : Option ℕ). Send e.to o e.payload.now) (rw e.is at e.field-1-is)) (λ none. none)

pub returns-in-Send-default-None-default-clause-spare : goal.returns-in-Send-default-None-default-clause-spare
returns-in-Send-default-None-default-clause-spare c =
    let e = c.in-Send-default-None-default in
    not_changed c.args.domain.now (event_of c.args.event) _ c.args.out.now.spare _ (ap event_of e.is ∙ ap (λ (o : Option ℕ). Send e.to o e.payload.now) (rw e.is at e.field-1-is)) (λ none. none)

pub returns-in-Leave-clause-always : goal.returns-in-Leave-clause-always
returns-in-Leave-clause-always c = not_changed c.args.domain.now (event_of c.args.event) Leave c.args.out.now.spare _ (ap event_of c.in-Leave.is) (λ none. none)

pub returns-in-Leave-clause-spare : goal.returns-in-Leave-clause-spare
returns-in-Leave-clause-spare c = not_changed c.args.domain.now (event_of c.args.event) Leave c.args.out.now.spare _ (ap event_of c.in-Leave.is) (λ none. none)

pub returns-in-Roam-clause-always : goal.returns-in-Roam-clause-always
returns-in-Roam-clause-always c = not_changed c.args.domain.now (event_of c.args.event) (Roam c.in-Roam.ap) c.args.out.now.spare _ (ap event_of c.in-Roam.is) (λ none. none)

pub returns-in-Roam-clause-spare : goal.returns-in-Roam-clause-spare
returns-in-Roam-clause-spare c = not_changed c.args.domain.now (event_of c.args.event) (Roam c.in-Roam.ap) c.args.out.now.spare _ (ap event_of c.in-Roam.is) (λ none. none)

pub returns-in-Secret-clause-always : goal.returns-in-Secret-clause-always
returns-in-Secret-clause-always c room = c.change.ensures.always (room_for c.args.domain.now (event_of c.args.event) c.in-Secret.field-0 c.in-Secret.psk.now c.args.out.now.spare (ap event_of c.in-Secret.is) room)

pub returns-in-Secret-clause-spare : goal.returns-in-Secret-clause-spare
returns-in-Secret-clause-spare c room = room_left c.args.domain.now c.args.out.now.spare c.change.new.out.spare (c.change.ensures.spare (room_for c.args.domain.now (event_of c.args.event) c.in-Secret.field-0 c.in-Secret.psk.now c.args.out.now.spare (ap event_of c.in-Secret.is) room))
