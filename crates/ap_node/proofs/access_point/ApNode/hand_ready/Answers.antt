use Rattle.std.proofs.Common.{◌≡◌, ◌≢◌, ◌<◌, ◌^◌, ℕ, List, refl, sym, ap, subst, ◌∙◌}
use Rattle.std.specs.Prelude.{◌-◌}
use Rattle.domain_rules.specs.Replies.{taken_as}
use Rattle.group_key.specs.declared.news.News.{News}
use Rattle.act_memory.specs.Rooms.{between_of}
use Rattle.authenticator.specs.Judged.{frame_of}
use Rattle.node_base.specs.Pairs.{pair_at}
use Rattle.ap_node.specs.declared.station.Station.{Station}
use Rattle.ap_node.specs.State.{State, station_at, newest_of}
use Rattle.ap_node.specs.Counts.{owes_part, recounted}
use Rattle.ap_node.specs.Parts.{is_final_at}
use Rattle.ap_node.proofs.Messaging.{the_state, kept_state, owes_same, beside_count, handed_as}
use Rattle.ap_node.proofs.access_point.ApNode.hand_ready.Goals as goal

pub returns-clause-handed : goal.returns-clause-handed
returns-clause-handed c d id n p octets k room_is =
    let old = c.args.self.now in
    let sta = c.args.station in
    let g = c.newest-newest.result in
    let same_newest : g ≡ newest_of old = c.newest-newest.ensures.news in
    let was : station_at c.self.inside.stations.entries sta ≡ station_at old.stations sta = ap (λ (s : State). station_at s.stations sta) c.self.view_is in
    let x = c.take_message-outcome.ensures.handed d id n p octets k room_is in (
      x.0,
      x.1,
      handed_as (pair_at d id n p) c.args.message.now.message (frame_of c.args.message.now.frame) g (newest_of old) (taken_as octets k c.take_message-outcome.result) (between_of c.args.ready.between)
          (station_at c.self.inside.stations.entries sta) (station_at old.stations sta) _ x.0 same_newest was x.2,
    )

pub returns-clause-beside : goal.returns-clause-beside
returns-clause-beside c =
    let old = c.args.self.now in
    let sta = c.args.station in
    let g = c.newest-newest.result in
    let newest_is : g.gtk ≡ old.group.gtk.newest = ap (λ (n : News). n.gtk) c.newest-newest.ensures.news in
    let was : station_at c.self.inside.stations.entries sta ≡ station_at old.stations sta = ap (λ (s : State). station_at s.stations sta) c.self.view_is in
    let new : State = the_state c.self.inside.number c.self.inside.drawn c.self.inside.group c.self.inside.sending c.take_message-outcome.new.stations.entries c.recounted-self-inside.result in
    let q = station_at new.stations sta in
    let others = λ (k : ℕ) (other : k ≢ sta). c.take_message-outcome.ensures.others k other ∙ ap (λ (s : State). station_at s.stations k) c.self.view_is in
    let owed_is = c.owes-owed.ensures ∙ owes_same g.gtk old.group.gtk.newest (station_at c.self.inside.stations.entries sta) (station_at old.stations sta) newest_is was in
    let owes_is = c.owes-owes.ensures ∙ owes_same g.gtk old.group.gtk.newest q q newest_is refl in
    let exact = subst (λ (n : ℕ). n < 2 ^ 64 - 1 → c.recounted-self-inside.result ≡ recounted n c.owes-owed.result c.owes-owes.result) (ap (λ (s : State). s.owing) c.self.view_is) c.recounted-self-inside.ensures.exact in
    record {
      number = ap (λ (s : State). s.number) c.self.view_is;
      drawn = ap (λ (s : State). s.drawn) c.self.view_is;
      group = ap (λ (s : State). s.group) c.self.view_is;
      sending = ap (λ (s : State). s.sending) c.self.view_is;
      counts = beside_count old new sta c.owes-owed.result c.owes-owes.result others owed_is owes_is exact;
      others = others;
    }

pub returns-clause-refused : goal.returns-clause-refused
returns-clause-refused c why is =
    let old = c.args.self.now in
    let sta = c.args.station in
    let g = c.newest-newest.result in
    let newest_is : g.gtk ≡ old.group.gtk.newest = ap (λ (n : News). n.gtk) c.newest-newest.ensures.news in
    let was : station_at c.self.inside.stations.entries sta ≡ station_at old.stations sta = ap (λ (s : State). station_at s.stations sta) c.self.view_is in
    let q = station_at c.take_message-outcome.new.stations.entries sta in
    let owed_is = c.owes-owed.ensures ∙ owes_same g.gtk old.group.gtk.newest (station_at c.self.inside.stations.entries sta) (station_at old.stations sta) newest_is was in
    let owes_is = c.owes-owes.ensures ∙ owes_same g.gtk old.group.gtk.newest q q newest_is refl in
    let same = c.take_message-outcome.ensures.refused why is in
    let still = ap (λ (l : List (ℕ × Station)). station_at l sta) same in
    kept_state c.self.inside.number c.self.inside.drawn c.recounted-self-inside.result c.self.inside.owing c.self.inside.group c.self.inside.sending c.take_message-outcome.new.stations.entries c.self.inside.stations.entries same
    (c.recounted-self-inside.ensures.same (owed_is ∙ ap (owes_part old.group.gtk.newest.place) (sym was ∙ sym still) ∙ sym owes_is)) ∙ c.self.view_is

pub take_message-outcome-requires-clause-judged : goal.take_message-outcome-requires-clause-judged
take_message-outcome-requires-clause-judged c =
    c.requires.judged ∙ sym (ap (λ (s : State). is_final_at (station_at s.stations c.args.station) c.args.message.now.message (frame_of c.args.message.now.frame)) c.self.view_is)
