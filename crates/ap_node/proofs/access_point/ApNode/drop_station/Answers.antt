use Rattle.std.proofs.Common.{◌≡◌, ◌≢◌, ◌<◌, ◌^◌, ℕ, false, sym, ap, subst, ◌∙◌}
use Rattle.std.specs.Prelude.{◌-◌}
use Rattle.ap_node.specs.State.{State, station_at, has_attempt, has_session}
use Rattle.ap_node.specs.Counts.{owes_part, recounted}
use Rattle.ap_node.specs.Takes.{IsBeside}
use Rattle.ap_node.proofs.Messaging.{the_state, owes_same, beside_count, few_stas}
use Rattle.ap_node.proofs.Dropping.{drops}
use Rattle.ap_node.proofs.access_point.ApNode.drop_station.Goals as goal

pub returns-clause-done : goal.returns-clause-done
returns-clause-done c d form low =
    let old = c.args.self.now in
    let sta = c.args.station in
    let waited = c.args.out.now.acts in
    let g = c.newest-newest.result in
    let newest_is : g ≡ old.group.gtk.newest = c.newest-newest.ensures ∙ ap (λ (s : State). s.group.gtk.newest) c.self.view_is in
    let was : station_at c.self.inside.stations.entries sta ≡ station_at old.stations sta = ap (λ (s : State). station_at s.stations sta) c.self.view_is in
    let new : State = the_state c.self.inside.number c.self.inside.drawn c.self.inside.group c.self.inside.sending c.drop_part-had_attempt.new.stations.entries c.recounted-self-inside.result in
    let q = station_at new.stations sta in
    let others = λ (k : ℕ) (other : k ≢ sta). c.drop_part-had_attempt.ensures.others k other ∙ ap (λ (s : State). station_at s.stations k) c.self.view_is in
    let owed_is = c.owes-owed.ensures ∙ owes_same g old.group.gtk.newest (station_at c.self.inside.stations.entries sta) (station_at old.stations sta) newest_is was in
    let owes_is = sym (ap (owes_part old.group.gtk.newest.place) c.drop_part-had_attempt.ensures.left) in
    let exact = subst (λ (n : ℕ). n < 2 ^ 64 - 1 → c.recounted-self-inside.result ≡ recounted n c.owes-owed.result false) (ap (λ (s : State). s.owing) c.self.view_is) c.recounted-self-inside.ensures.exact in
    let beside : IsBeside old new sta = record {
      number = ap (λ (s : State). s.number) c.self.view_is;
      drawn = ap (λ (s : State). s.drawn) c.self.view_is;
      group = ap (λ (s : State). s.group) c.self.view_is;
      sending = ap (λ (s : State). s.sending) c.self.view_is;
      counts = beside_count old new sta c.owes-owed.result false others owed_is owes_is exact;
      others = others;
    } in
    drops d old new sta c.drop_part-had_attempt.result.0 c.drop_part-had_attempt.result.1 waited c.add_dropped.new.out.acts c.add_dropped.result beside low (few_stas d form)
    (c.drop_part-had_attempt.ensures.attempt ∙ ap has_attempt was) (c.drop_part-had_attempt.ensures.session ∙ ap has_session was)
    c.drop_part-had_attempt.ensures.left c.add_dropped.ensures.acts c.add_dropped.ensures.outcome

pub returns-clause-number : goal.returns-clause-number
returns-clause-number c = ap (λ (s : State). s.number) c.self.view_is
