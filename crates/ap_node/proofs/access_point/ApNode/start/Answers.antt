use Rattle.domain_base.specs.declared.names.Node.TheVariants.{Ap}
use Rattle.ap_node.proofs.Starting.{AreFirst, started_as, starts_with, first_low, id_one, first_fits}
use Rattle.ap_node.proofs.access_point.ApNode.start.Goals as goal

pub returns-clause-stands : goal.returns-clause-stands
returns-clause-stands c =
    let d = c.args.domain.now in
    let first = c.args.first_draw in
    let keys = c.draw_keys-keys.result in
    let w : AreFirst d (Ap c.args.ap) first keys.gtk keys.igtk c.new-group.result c.newest-gtk.result c.newest_igtk-igtk.result = record {
      key_is = c.draw_keys-keys.ensures.gtk;
      igtk_is = c.draw_keys-keys.ensures.igtk;
      gtk_pair = c.new-group.ensures.gtk;
      igtk_pair = c.new-group.ensures.igtk;
      newest = c.newest-gtk.ensures;
      beside = c.newest_igtk-igtk.ensures;
    } in
    starts_with d first c.args.ap c.number_after.result keys.gtk keys.igtk c.new-group.result c.newest-gtk.result c.newest_igtk-igtk.result c.made-sending.result c.new.result.entries c.requires.draw w c.number_after.ensures c.made-sending.ensures c.new.ensures.empty

pub returns-clause-acts : goal.returns-clause-acts
returns-clause-acts c =
    let d = c.args.domain.now in
    let first = c.args.first_draw in
    let keys = c.draw_keys-keys.result in
    let w : AreFirst d (Ap c.args.ap) first keys.gtk keys.igtk c.new-group.result c.newest-gtk.result c.newest_igtk-igtk.result = record {
      key_is = c.draw_keys-keys.ensures.gtk;
      igtk_is = c.draw_keys-keys.ensures.igtk;
      gtk_pair = c.new-group.ensures.gtk;
      igtk_pair = c.new-group.ensures.igtk;
      newest = c.newest-gtk.ensures;
      beside = c.newest_igtk-igtk.ensures;
    } in
    started_as d (Ap c.args.ap) first c.args.out.now.acts _ _ _ keys.gtk keys.igtk c.new-group.result c.newest-gtk.result c.newest_igtk-igtk.result c.address.result w c.reserve.ensures.acts c.add_drawn.ensures.acts c.add_made.ensures.acts c.address.ensures.mac

pub invariant_of-result : goal.invariant_of-result
invariant_of-result c = first_fits c.new-group.result.gtk c.draw_keys-keys.result.gtk c.args.domain.now.extras.mfp c.args.first_draw c.number_after.result c.new-group.ensures.gtk c.number_after.ensures

pub made-sending-requires : goal.made-sending-requires
made-sending-requires c = id_one c.newest-gtk.result c.draw_keys-keys.result.gtk c.new-group.result.gtk c.newest-gtk.ensures c.new-group.ensures.gtk

pub draw_keys-keys-requires-clause-low : goal.draw_keys-keys-requires-clause-low
draw_keys-keys-requires-clause-low c = first_low c.args.domain.now c.args.first_draw c.requires.draw

pub number_after-requires : goal.number_after-requires
number_after-requires c = first_low c.args.domain.now c.args.first_draw c.requires.draw
