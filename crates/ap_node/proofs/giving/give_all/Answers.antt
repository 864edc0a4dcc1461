use Rattle.std.proofs.Common.{◌≡◌, ℕ, [], refl, sym, ap, subst, ◌∙◌, arith}
use Rattle.std.proofs.lemmas.List.{append-nil}
use Rattle.ap_node.specs.State.{station_at}
use Rattle.ap_node.specs.Counts.{owes_part, owing_below}
use Rattle.ap_node.specs.Giving.{AreGiven}
use Rattle.ap_node.proofs.Owed.{bit, bit_low}
use Rattle.ap_node.proofs.EachGiven.{counted_as, count_next, given_next, behind}
use Rattle.ap_node.proofs.giving.give_all.Goals as goal

pub loop-station-preserved : goal.loop-station-preserved
loop-station-preserved c =
    let l = c.loop-station.invariant in
    let old = c.args.stations.now.entries in
    let xs = c.loop-station.stations.entries in
    let ys = c.give_at.new.stations.entries in
    let k = c.loop-station.station in
    let place = c.args.newest.now.gtk.place in
    let owes = owes_part place (station_at ys k) in
    let one : c.from-owing.result ≡ bit owes = counted_as c.give_at.result owes c.from-owing.result c.give_at.ensures.owes c.from-owing.ensures in
    let others = c.give_at.ensures.others in
    record {
      rooms = omega (arith, l.rooms, c.pop.ensures.len, c.in-Some.ensures.len);
      in_range = omega (arith, c.loop-station-test.true);
      few = omega (arith, l.few, bit_low owes, one);
      counted = omega (arith, l.counted, one, count_next place xs ys k others);
      spare = omega (arith, l.spare, c.give_at.ensures.spare);
      behind = behind old xs ys k others l.behind;
      given = given_next c.args.newest.now old xs ys k c.args.out.now.acts c.loop-station.out.acts c.give_at.new.out.acts others (l.behind k (omega arith)) l.given c.give_at.ensures.given;
    }

pub loop-station-init : goal.loop-station-init
loop-station-init c = record {
  rooms = omega (arith, c.requires.rooms);
  in_range = omega arith;
  few = omega arith;
  counted = refl;
  spare = omega arith;
  behind = λ k low. refl;
  given = ([], sym (append-nil _), refl);
}

pub returns-clause-owing : goal.returns-clause-owing
returns-clause-owing c =
    let last : c.loop-station.station ≡ c.args.count = omega (arith, c.loop-station.invariant.in_range, c.loop-station-test.false) in
    c.loop-station.invariant.counted ∙ ap (owing_below c.args.newest.now.gtk.place c.loop-station.stations.entries) last

pub returns-clause-given : goal.returns-clause-given
returns-clause-given c =
    let last : c.loop-station.station ≡ c.args.count = omega (arith, c.loop-station.invariant.in_range, c.loop-station-test.false) in
    let g = c.loop-station.invariant.given in
    (g.0, g.1, subst (λ (n : ℕ). AreGiven c.args.newest.now c.args.stations.now.entries c.loop-station.stations.entries n g.0) last g.2)

pub returns-clause-behind : goal.returns-clause-behind
returns-clause-behind c k low = c.loop-station.invariant.behind k (omega (arith, low, c.loop-station.invariant.in_range))
