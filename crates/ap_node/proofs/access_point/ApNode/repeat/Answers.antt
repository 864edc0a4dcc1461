use Rattle.std.proofs.Common.{◌≡◌, ◌≢◌, ◌<◌, ◌^◌, ℕ, List, refl, sym, ap, subst, ◌∙◌}
use Rattle.std.specs.Prelude.{◌-◌}
use Rattle.run_journal.specs.declared.acts.Act.{Act}
use Rattle.group_key.specs.declared.news.News.{News}
use Rattle.domain_rules.specs.Rows.{Retry}
use Rattle.node_base.specs.Events.{seen}
use Rattle.ap_node.specs.State.{State, station_at, newest_of}
use Rattle.ap_node.specs.Counts.{recounted}
use Rattle.ap_node.specs.Takes.{IsDone, IsBeside}
use Rattle.ap_node.proofs.Messaging.{the_state, owes_same, beside_count, few_stas}
use Rattle.ap_node.proofs.Repeating.{retries, resent_as}
use Rattle.ap_node.proofs.access_point.ApNode.repeat.Goals as goal

pub returns-clause-done : goal.returns-clause-done
returns-clause-done c =
    let d = c.args.here.domain.now in
    let outcome = c.in_ok-outcome.outcome in
    let old = c.args.self.now in
    let sta = c.args.station in
    let waited = c.args.out.now.acts in
    let g = c.newest-newest.result in
    let same_newest : g ≡ newest_of old = c.newest-newest.ensures.news in
    let newest_is : g.gtk ≡ old.group.gtk.newest = ap (λ (n : News). n.gtk) same_newest in
    let was : station_at c.self.inside.stations.entries sta ≡ station_at old.stations sta = ap (λ (s : State). station_at s.stations sta) c.self.view_is in
    let new : State = the_state c.self.inside.number c.self.inside.drawn c.self.inside.group c.self.inside.sending c.retry.new.stations.entries c.recounted-self-inside.result in
    let q = station_at new.stations sta in
    let others = λ (k : ℕ) (other : k ≢ sta). c.retry.ensures.others k other ∙ ap (λ (s : State). station_at s.stations k) c.self.view_is in
    let owed_is = c.owes-owed.ensures ∙ owes_same g.gtk old.group.gtk.newest (station_at c.self.inside.stations.entries sta) (station_at old.stations sta) newest_is was in
    let owes_is = c.owes-owes.ensures ∙ owes_same g.gtk old.group.gtk.newest q q newest_is refl in
    let exact = subst (λ (n : ℕ). n < 2 ^ 64 - 1 → c.recounted-self-inside.result ≡ recounted n c.owes-owed.result c.owes-owes.result) (ap (λ (s : State). s.owing) c.self.view_is) c.recounted-self-inside.ensures.exact in
    let beside : IsBeside old new sta = record {
      number = ap (λ (s : State). s.number) c.self.view_is;
      drawn = ap (λ (s : State). s.drawn) c.self.view_is;
      group = ap (λ (s : State). s.group) c.self.view_is;
      sending = ap (λ (s : State). s.sending) c.self.view_is;
      counts = beside_count old new sta c.owes-owed.result c.owes-owes.result others owed_is owes_is exact;
      others = others;
    } in
    let x = c.in_ok-outcome.ensures.resent in
    subst (λ (l : List Act). IsDone d (Retry sta) old new (seen waited l outcome)) (sym x.1)
    (retries d old new sta x.0 waited outcome beside c.requires.station (few_stas d c.requires.form) x.2 (resent_as sta g (newest_of old) _ (station_at old.stations sta) q x.0 same_newest was x.3))

pub returns-clause-number : goal.returns-clause-number
returns-clause-number c = ap (λ (s : State). s.number) c.self.view_is
