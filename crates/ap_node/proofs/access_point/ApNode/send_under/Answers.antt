use Rattle.std.proofs.Common.{◌≡◌, ◌∙◌, ◌++◌, List, refl, ap, subst}
use Rattle.std.specs.Prelude.{IfOk}
use Rattle.domain_base.specs.declared.names.Node.{Node}
use Rattle.domain_base.specs.declared.names.Node.TheVariants.{Ap, Sta}
use Rattle.domain_base.specs.declared.names.Peer.TheVariants.{One}
use Rattle.run_journal.specs.declared.acts.Act.{Act}
use Rattle.domain_rules.specs.Rows.{outcome_of}
use Rattle.ap_node.specs.declared.station.Station.{Station}
use Rattle.ap_node.specs.Keys.{sent_under, used_in}
use Rattle.ap_node.specs.State.{State, station_at, key_in, with_key}
use Rattle.ap_node.proofs.Messaging.{kept_state}
use Rattle.ap_node.proofs.AtPlaces.{ok_then, err_back}
use Rattle.ap_node.proofs.access_point.ApNode.send_under.Goals as goal

pub returns-clause-used : goal.returns-clause-used
returns-clause-used c =
    let sta = c.args.station in
    let was = ap (λ (s : State). station_at s.stations sta) c.self.view_is in
    ok_then c.send_to.result _ _ (λ used. record {
      number = ap (λ (s : State). s.number) c.self.view_is;
      drawn = ap (λ (s : State). s.drawn) c.self.view_is;
      group = ap (λ (s : State). s.group) c.self.view_is;
      sending = ap (λ (s : State). s.sending) c.self.view_is;
      owing = ap (λ (s : State). s.owing) c.self.view_is;
      is = used ∙ ap (λ (x : Station). with_key (used_in (key_in x)) x) was;
      others = λ k other. c.send_to.ensures.others k other ∙ ap (λ (s : State). station_at s.stations k) c.self.view_is;
    }) c.send_to.ensures.used

pub returns-clause-acts : goal.returns-clause-acts
returns-clause-acts c =
    let sta = c.args.station in
    let acts_as = λ (n : Node) (x : Station). sent_under c.args.here.domain.now n (One (Sta sta)) c.args.tid c.args.payload.now (key_in x) in
    let same_acts = ap (λ (n : Node). acts_as n (station_at c.self.inside.stations.entries sta)) c.requires.node ∙ ap (λ (s : State). acts_as (Ap c.args.self.now.number) (station_at s.stations sta)) c.self.view_is in
    ok_then c.send_to.result _ _ (λ waiting. waiting ∙ ap (λ (l : List Act). c.args.out.now.acts ++ l) same_acts) c.send_to.ensures.acts

pub returns-clause-outcome : goal.returns-clause-outcome
returns-clause-outcome c =
    let sta = c.args.station in
    let acts_as = λ (n : Node) (x : Station). sent_under c.args.here.domain.now n (One (Sta sta)) c.args.tid c.args.payload.now (key_in x) in
    let same_acts = ap (λ (n : Node). acts_as n (station_at c.self.inside.stations.entries sta)) c.requires.node ∙ ap (λ (s : State). acts_as (Ap c.args.self.now.number) (station_at s.stations sta)) c.self.view_is in
    subst (λ (l : List Act). IfOk c.send_to.result (λ came. came ≡ outcome_of l)) same_acts c.send_to.ensures.outcome

pub returns-clause-spare : goal.returns-clause-spare
returns-clause-spare c =
    let was = ap (λ (s : State). key_in (station_at s.stations c.args.station)) c.self.view_is in
    ok_then c.send_to.result _ _ (λ few k is. few k (was ∙ is)) c.send_to.ensures.spare

pub returns-clause-same : goal.returns-clause-same
returns-clause-same c =
    err_back c.send_to.result _ _
    (λ same. kept_state c.self.inside.number c.self.inside.drawn c.self.inside.owing c.self.inside.owing c.self.inside.group c.self.inside.sending c.send_to.new.stations.entries c.self.inside.stations.entries same refl ∙ c.self.view_is)
    c.send_to.ensures.same
