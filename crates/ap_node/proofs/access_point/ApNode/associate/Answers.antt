use Rattle.std.proofs.Common.{◌≡◌, ℕ, ◌+◌, List, [], ◌∷◌, ◌++◌, sym, ap, ◌∙◌, arith}
use Rattle.domain_base.specs.declared.names.Node.{Node}
use Rattle.domain_base.specs.declared.names.Node.TheVariants.{Ap, Sta}
use Rattle.domain_rules.specs.Frames.{sent_m1}
use Rattle.domain_rules.specs.Network.{nonce}
use Rattle.run_journal.specs.declared.acts.Act.{Act}
use Rattle.ap_node.specs.declared.station.Station.{Station}
use Rattle.ap_node.specs.State.{State, station_at, has_attempt, begun_over}
use Rattle.ap_node.proofs.Requesting.{begins_as, associated_added, associated_same}
use Rattle.ap_node.proofs.Listed.{ap_listed, number_listed}
use Rattle.ap_node.proofs.access_point.ApNode.associate.Goals as goal

pub returns-clause-begun : goal.returns-clause-begun
returns-clause-begun c =
    let d = c.args.here.domain.now in
    let sta = c.args.station in
    let old = c.args.self.now in
    let number = ap (λ (s : State). s.number) c.self.view_is in
    let v_is = c.nonce-anonce.ensures ∙ ap (λ (m : Node). nonce d m c.self.inside.drawn) c.requires.node ∙ ap (λ (s : State). nonce d (Ap old.number) s.drawn) c.self.view_is in
    let same = λ (k : ℕ). c.make_place.ensures.same k ∙ ap (λ (s : State). station_at s.stations k) c.self.view_is in
    let begun = c.begin_attempt-had.ensures.begun in
    record {
      number = number;
      drawn = ap (λ (s : State). s.drawn + 1) c.self.view_is;
      group = ap (λ (s : State). s.group) c.self.view_is;
      sending = ap (λ (s : State). s.sending) c.self.view_is;
      owing = ap (λ (s : State). s.owing) c.self.view_is;
      part = begun.0;
      is = begun.1 ∙ ap (λ (x : Station). begun_over x begun.0) (same sta);
      begun = begun.2;
      begins = begins_as d c.self.inside.number old.number sta c.nonce-anonce.result (nonce d (Ap old.number) old.drawn) c.args.rsne.now begun.0 number v_is begun.3;
      others = λ k other. c.begin_attempt-had.ensures.others k other ∙ same k;
    }

pub returns-clause-acts : goal.returns-clause-acts
returns-clause-acts c =
    let d = c.args.here.domain.now in
    let sta = c.args.station in
    let old = c.args.self.now in
    let n = c.args.here.node in
    let accepted = c.in_ok-acceptance.acceptance in
    let v = c.nonce-anonce.result in
    let had = c.begin_attempt-had.result in
    let node : Ap c.self.inside.number ≡ n = ap (λ (s : State). Ap s.number) c.self.view_is ∙ sym c.requires.node in
    let v_is = c.nonce-anonce.ensures ∙ ap (λ (m : Node). nonce d m c.self.inside.drawn) c.requires.node ∙ ap (λ (s : State). nonce d (Ap old.number) s.drawn) c.self.view_is in
    let was = c.make_place.ensures.same sta ∙ ap (λ (s : State). station_at s.stations sta) c.self.view_is in
    associated_added d n (Sta sta) c.args.octets.now had v accepted.taken accepted.response c.args.out.now.acts c.reserve.new.self.acts _ c.add_accepted.new.out.acts
    c.reserve.ensures.acts c.add_accepted.ensures c.in_ok-acceptance.ensures.taken c.in_ok-acceptance.ensures.response
    (c.begin_attempt-had.ensures.sends ∙ ap (λ (m : Node). sent_m1 d m (Sta sta) 1 v ∷ []) node)
    ∙ ap (λ (l : List Act). c.args.out.now.acts ++ l)
    (associated_same d n (Ap old.number) (Sta sta) c.args.octets.now had (has_attempt (station_at old.stations sta)) v (nonce d (Ap old.number) old.drawn)
    c.requires.node (c.begin_attempt-had.ensures.had ∙ ap has_attempt was) v_is)

pub begin_attempt-had-requires-clause-ap : goal.begin_attempt-had-requires-clause-ap
begin_attempt-had-requires-clause-ap c = number_listed c.args.here.domain.now _ c.args.self.now c.self.view_is c.requires.listed

pub nonce-anonce-requires : goal.nonce-anonce-requires
nonce-anonce-requires c = ap_listed c.args.here.domain.now c.args.here.node c.args.self.now.number c.requires.node c.requires.listed

pub accept-requires-clause-ap : goal.accept-requires-clause-ap
accept-requires-clause-ap c = ap_listed c.args.here.domain.now c.args.here.node c.args.self.now.number c.requires.node c.requires.listed

pub overflow_add-self : goal.overflow_add-self
overflow_add-self c = omega (arith, c.requires.draw, ap (λ (s : State). s.drawn) c.self.view_is)

pub add_accepted-requires-clause-whole : goal.add_accepted-requires-clause-whole
add_accepted-requires-clause-whole c = c.begin_attempt-had.ensures.whole

pub begin_attempt-had-requires-clause-there : goal.begin_attempt-had-requires-clause-there
begin_attempt-had-requires-clause-there c = c.in_ok-make_place.ensures.there
