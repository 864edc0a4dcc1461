use Rattle.std.proofs.Common.{ap}
use Rattle.std.specs.Prelude.{not}
use Rattle.ap_node.proofs.Asked.{requested}
use Rattle.ap_node.proofs.transitions.take_request.Goals as goal

pub returns-clause-taken : goal.returns-clause-taken
returns-clause-taken g c =
    (requested c.ask_at-taken.result _ _ _ c.args.out.now.acts c.ask_at-taken.new.out.acts c.args.station c.args.stations.now.entries c.make_place.new.stations.entries c.ask_at-taken.new.stations.entries c.unmake_place.new.stations.entries
    c.make_place.ensures.same c.in_ok-is_new.ensures.there c.ask_at-taken.ensures.set c.ask_at-taken.ensures.taken c.ask_at-taken.ensures.beside c.ask_at-taken.ensures.same
    c.in_ok-is_new.is_new (not c.has_begun-is_in_vain.result) c.in_ok-is_new.ensures.made (ap not c.has_begun-is_in_vain.ensures) c.unmake_place.ensures).taken

pub returns-clause-beside : goal.returns-clause-beside
returns-clause-beside g c =
    (requested c.ask_at-taken.result _ _ _ c.args.out.now.acts c.ask_at-taken.new.out.acts c.args.station c.args.stations.now.entries c.make_place.new.stations.entries c.ask_at-taken.new.stations.entries c.unmake_place.new.stations.entries
    c.make_place.ensures.same c.in_ok-is_new.ensures.there c.ask_at-taken.ensures.set c.ask_at-taken.ensures.taken c.ask_at-taken.ensures.beside c.ask_at-taken.ensures.same
    c.in_ok-is_new.is_new (not c.has_begun-is_in_vain.result) c.in_ok-is_new.ensures.made (ap not c.has_begun-is_in_vain.ensures) c.unmake_place.ensures).beside

pub returns-clause-others : goal.returns-clause-others
returns-clause-others g c =
    (requested c.ask_at-taken.result _ _ _ c.args.out.now.acts c.ask_at-taken.new.out.acts c.args.station c.args.stations.now.entries c.make_place.new.stations.entries c.ask_at-taken.new.stations.entries c.unmake_place.new.stations.entries
    c.make_place.ensures.same c.in_ok-is_new.ensures.there c.ask_at-taken.ensures.set c.ask_at-taken.ensures.taken c.ask_at-taken.ensures.beside c.ask_at-taken.ensures.same
    c.in_ok-is_new.is_new (not c.has_begun-is_in_vain.result) c.in_ok-is_new.ensures.made (ap not c.has_begun-is_in_vain.ensures) c.unmake_place.ensures).others

pub returns-clause-refused : goal.returns-clause-refused
returns-clause-refused g c =
    (requested c.ask_at-taken.result _ _ _ c.args.out.now.acts c.ask_at-taken.new.out.acts c.args.station c.args.stations.now.entries c.make_place.new.stations.entries c.ask_at-taken.new.stations.entries c.unmake_place.new.stations.entries
    c.make_place.ensures.same c.in_ok-is_new.ensures.there c.ask_at-taken.ensures.set c.ask_at-taken.ensures.taken c.ask_at-taken.ensures.beside c.ask_at-taken.ensures.same
    c.in_ok-is_new.is_new (not c.has_begun-is_in_vain.result) c.in_ok-is_new.ensures.made (ap not c.has_begun-is_in_vain.ensures) c.unmake_place.ensures).refused

pub returns-clause-same : goal.returns-clause-same
returns-clause-same g c =
    (requested c.ask_at-taken.result _ _ _ c.args.out.now.acts c.ask_at-taken.new.out.acts c.args.station c.args.stations.now.entries c.make_place.new.stations.entries c.ask_at-taken.new.stations.entries c.unmake_place.new.stations.entries
    c.make_place.ensures.same c.in_ok-is_new.ensures.there c.ask_at-taken.ensures.set c.ask_at-taken.ensures.taken c.ask_at-taken.ensures.beside c.ask_at-taken.ensures.same
    c.in_ok-is_new.is_new (not c.has_begun-is_in_vain.result) c.in_ok-is_new.ensures.made (ap not c.has_begun-is_in_vain.ensures) c.unmake_place.ensures).same
