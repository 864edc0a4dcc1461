use Rattle.std.proofs.Common.{List, ◌++◌, refl, ap, ◌∙◌}
use Rattle.domain_base.specs.declared.names.Node.TheVariants.{Ap}
use Rattle.rsn_elements.specs.Fields.{element_fields}
use Rattle.run_journal.specs.declared.acts.Act.{Act}
use Rattle.domain_rules.specs.Network.{root_at, station_of}
use Rattle.ft_exchange.specs.Told.{came, reassoc_response_acts}
use Rattle.station_node.proofs.moving.arrive.Goals as goal

pub returns-clause-arrived : goal.returns-clause-arrived
returns-clause-arrived c =
    let d = c.args.here.domain.now in
    let n = c.args.here.node in
    let m = c.args.managed.now in
    let e = element_fields m.elements in
    let root = root_at d (station_of n (Ap c.args.way.ap)) c.args.way.r0kh_id.now in
    let acts = reassoc_response_acts d root n (Ap c.args.way.ap) c.args.way.left (came m.octets.now e c.on_reassoc-outcome.result) c.on_reassoc-outcome.new.reply in
    record {
      reply = c.on_reassoc-outcome.new.reply;
      acts = c.add_reassoc_response.ensures.acts d root n (Ap c.args.way.ap) m.octets.now e c.in_ok-room.ensures ∙ ap (λ (l : List Act). l ++ acts) c.in_ok-reserve.ensures.acts;
      taken = c.on_reassoc-outcome.ensures;
      installed = refl;
    }
