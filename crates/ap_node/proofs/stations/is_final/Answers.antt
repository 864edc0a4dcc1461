use Rattle.std.proofs.Common.{◌∙◌, Some, sym, ap}
use Rattle.authenticator.specs.Judged.{frame_of}
use Rattle.ap_node.specs.declared.station.Station.{Station}
use Rattle.ap_node.specs.Parts.{is_final_at}
use Rattle.ap_node.proofs.AtPlaces.{read_some, read_none}
use Rattle.ap_node.proofs.stations.is_final.Goals as goal

pub returns-in-Some : goal.returns-in-Some
returns-in-Some c =
    let found = ap Some c.station.ensures ∙ c.in-Some.ensures.value in
    c.is_final.ensures ∙ sym (ap (λ (s : Station). is_final_at s c.args.message.now.message (frame_of c.args.message.now.frame)) (read_some c.args.stations.now.entries c.args.station c.station.result.now found))

pub returns-in-None : goal.returns-in-None
returns-in-None c = sym (ap (λ (s : Station). is_final_at s c.args.message.now.message (frame_of c.args.message.now.frame)) (read_none c.args.stations.now.entries c.args.station c.in-None.ensures.value))
