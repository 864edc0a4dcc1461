use Rattle.std.proofs.Common.{refl}
use Rattle.rsn_elements.specs.Fields.{element_fields}
use Rattle.run_journal.specs.declared.acts.Outcome.TheVariants.{Refused}
use Rattle.run_journal.specs.declared.acts.Reason.TheVariants as reason
use Rattle.domain_rules.specs.Rows.{Take}
use Rattle.frame_intake.specs.Views.{management_fields}
use Rattle.station_node.specs.Steps.{turn}
use Rattle.station_node.proofs.Taken.{takes_by, taken-other_management}
use Rattle.station_node.proofs.station.StationNode.take_management.Goals as goal

pub returns-in_default : goal.returns-in_default
returns-in_default c =
    let d = c.args.here.domain.now in
    let m = c.args.managed.now in
    takes_by d (Take m.octets.now) (turn c.args.self.now c.args.self.now c.args.out.now.acts c.refuse.new.out.acts) c.refuse.result (Refused reason.Unawaited) _ c.refuse.ensures.outcome c.refuse.ensures.acts c.refuse.ensures.kept refl
    (λ is. taken-other_management d c.args.self.now c.args.ap m.octets.now (management_fields m.frame) (element_fields m.elements) m.frame.kind c.args.out.now.acts c.refuse.new.out.acts c.requires.managed refl c.in_default.not-AssocResp c.in_default.not-FtResp c.in_default.not-ReResp is)
