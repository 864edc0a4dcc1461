use Rattle.std.proofs.Common.{◌≡◌, ◌≢◌, ◌<◌, ◌^◌, ℕ, List, refl, sym, ap, subst, ◌∙◌}
use Rattle.std.specs.Prelude.{◌-◌}
use Rattle.domain_base.specs.declared.names.Node.TheVariants.{Ap, Sta}
use Rattle.rsn_elements.specs.Fields.{element_fields}
use Rattle.run_journal.specs.declared.acts.Outcome.TheVariants.{Refused}
use Rattle.run_journal.specs.declared.acts.Reason.{Reason}
use Rattle.group_key.specs.declared.news.News.{News}
use Rattle.ap_node.specs.declared.station.Station.{Station}
use Rattle.ap_node.specs.State.{State, station_at, has_session, moves_in, newest_of}
use Rattle.ap_node.specs.Counts.{owes_part, recounted}
use Rattle.ap_node.specs.Moving.{begun_key, IsPlaced}
use Rattle.ap_node.proofs.Messaging.{the_state, kept_state, owes_same, beside_count, few_stas}
use Rattle.ap_node.proofs.Transits.{IsReplaced, takes_reassoc, reassoc_as}
use Rattle.ap_node.proofs.Listed.{number_listed}
use Rattle.ap_node.proofs.access_point.ApNode.move_over.Goals as goal

pub returns-clause-done : goal.returns-clause-done
returns-clause-done c =
    let d = c.args.here.domain.now in
    let old = c.args.self.now in
    let sta = c.args.station in
    let xs = c.self.inside.stations.entries in
    let taken = c.in_ok-taken.taken in
    let g = c.newest-newest.result in
    let same_newest : g ≡ newest_of old = c.newest-newest.ensures.news in
    let newest_is : g.gtk ≡ old.group.gtk.newest = ap (λ (n : News). n.gtk) same_newest in
    let number : c.self.inside.number ≡ old.number = ap (λ (s : State). s.number) c.self.view_is in
    let was : station_at xs sta ≡ station_at old.stations sta = ap (λ (s : State). station_at s.stations sta) c.self.view_is in
    let new : State = the_state c.self.inside.number c.self.inside.drawn c.self.inside.group c.self.inside.sending c.take_move.new.stations.entries c.recounted-self-inside.result in
    let q = station_at new.stations sta in
    let others = λ (k : ℕ) (other : k ≢ sta). c.take_move.ensures.others k other ∙ ap (λ (s : State). station_at s.stations k) c.self.view_is in
    let owed_is = c.owes-owed.ensures ∙ owes_same g.gtk old.group.gtk.newest (station_at xs sta) (station_at old.stations sta) newest_is was in
    let owes_is = c.owes-owes.ensures ∙ owes_same g.gtk old.group.gtk.newest q q newest_is refl in
    let exact = subst (λ (n : ℕ). n < 2 ^ 64 - 1 → c.recounted-self-inside.result ≡ recounted n c.owes-owed.result c.owes-owes.result) (ap (λ (s : State). s.owing) c.self.view_is) c.recounted-self-inside.ensures.exact in
    let moved = c.in_ok-taken.ensures.moved in
    let m = moved.0 in
    let key = begun_key taken.outcome taken.key in
    let w : IsReplaced d old new sta key m = record {
      beside = record {
        number = number;
        drawn = ap (λ (s : State). s.drawn) c.self.view_is;
        group = ap (λ (s : State). s.group) c.self.view_is;
        sending = ap (λ (s : State). s.sending) c.self.view_is;
        counts = beside_count old new sta c.owes-owed.result c.owes-owes.result others owed_is owes_is exact;
        others = others;
      };
      few = few_stas d c.requires.form;
      is = subst (λ (k : ℕ). IsPlaced d (Ap k) (Sta sta) key m (station_at old.stations sta) q) number
          (subst (λ (x : Station). IsPlaced d (Ap c.self.inside.number) (Sta sta) key m x q) was moved.2);
    } in
    let refused : (why : Reason) → taken.outcome ≡ Refused why → new ≡ old = λ why is.
    (let same = c.in_ok-taken.ensures.refused why is in
    let still = ap (λ (l : List (ℕ × Station)). station_at l sta) same in
    kept_state c.self.inside.number c.self.inside.drawn c.recounted-self-inside.result c.self.inside.owing c.self.inside.group c.self.inside.sending c.take_move.new.stations.entries xs same
    (c.recounted-self-inside.ensures.same (owed_is ∙ ap (owes_part old.group.gtk.newest.place) (sym was ∙ sym still) ∙ sym owes_is)) ∙ c.self.view_is) in
    takes_reassoc d old new c.args.octets.now sta c.args.elements.now taken g (has_session (station_at xs sta)) m c.args.out.now.acts c.take_move.new.out.acts c.requires.frame
    (reassoc_as d c.self.inside.number old.number sta c.args.octets.now (element_fields c.args.elements.now) g (has_session (station_at xs sta)) c.args.out.now.acts c.take_move.new.out.acts (moves_in (station_at xs sta)) (moves_in (station_at old.stations sta)) m taken number
    (ap moves_in was) moved.1)
    (ap has_session was) same_newest w refused

pub returns-clause-number : goal.returns-clause-number
returns-clause-number c = ap (λ (s : State). s.number) c.self.view_is

pub take_move-requires-clause-ap : goal.take_move-requires-clause-ap
take_move-requires-clause-ap c = number_listed c.args.here.domain.now _ c.args.self.now c.self.view_is c.requires.listed

pub take_move-requires-clause-sta : goal.take_move-requires-clause-sta
take_move-requires-clause-sta c = c.requires.frame.managed.judged.2
