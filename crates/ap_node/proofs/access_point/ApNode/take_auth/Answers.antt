use Rattle.std.proofs.Common.{◌≡◌, ◌<◌, ◌+◌, ◌^◌, ℕ, List, Option, None, refl, sym, ap, subst, ◌∙◌}
use Rattle.std.specs.Prelude.{◌-◌}
use Rattle.std.specs.Option.{option_copied}
use Rattle.domain_base.specs.declared.names.Mac.{Mac}
use Rattle.domain_base.specs.declared.names.Node.{Node}
use Rattle.domain_base.specs.declared.names.Node.TheVariants.{Ap}
use Rattle.key_hierarchy.specs.declared.answers.PullAnswer.{PullAnswer}
use Rattle.key_holders.specs.declared.rows.HeldRow.{HeldRow}
use Rattle.rsn_elements.specs.Fields.{element_fields}
use Rattle.run_journal.specs.declared.acts.Outcome.TheVariants.{Refused}
use Rattle.run_journal.specs.declared.acts.Reason.{Reason}
use Rattle.run_journal.specs.declared.reply.Keyed.{Keyed}
use Rattle.domain_rules.specs.Rows.{Take}
use Rattle.node_base.specs.Events.{seen}
use Rattle.held_rows.specs.Looks.{AreLooked}
use Rattle.ft_exchange.specs.TargetSteps.{LooksBy}
use Rattle.targets.specs.declared.moves.Moves.{Moves}
use Rattle.targets.specs.Steps.{request, AuthTaken}
use Rattle.ap_node.specs.declared.station.Station.{Station}
use Rattle.ap_node.specs.State.{State, station_at, has_attempt, moves_in}
use Rattle.ap_node.specs.Looking.{AnsweredBy}
use Rattle.ap_node.specs.Moving.{next_drawn, begun_key, drawn_for, pending_beside}
use Rattle.ap_node.specs.Putting.{Stays, Unchanged}
use Rattle.ap_node.specs.Takes.{IsTakenWith}
use Rattle.ap_node.proofs.Messaging.{the_state}
use Rattle.ap_node.proofs.AtPlaces.{err_at}
use Rattle.ap_node.proofs.Transits.{IsAuthed, takes_auth, auth_less, no_key}
use Rattle.ap_node.proofs.TransitingLooks.{taken_unlooked}
use Rattle.ap_node.proofs.Listed.{ap_listed, number_listed}
use Rattle.ap_node.proofs.access_point.ApNode.take_auth.Goals as goal

pub returns-in_err-taken-clause-same : goal.returns-in_err-taken-clause-same
returns-in_err-taken-clause-same over c =
    err_at c.from_residual.result _
    (ap (λ (l : List (ℕ × Station)). the_state c.self.inside.number c.self.inside.drawn c.self.inside.group c.self.inside.sending l c.self.inside.owing) c.in_err-taken.ensures.same
    ∙ c.self.view_is)

pub returns-in_err-taken-clause-change : goal.returns-in_err-taken-clause-change
returns-in_err-taken-clause-change over c = err_at c.from_residual.result _ (Unchanged c.in_err-taken.ensures.unasked)

pub returns-clause-unasked : goal.returns-clause-unasked
returns-clause-unasked over c = λ g is none. Unchanged
    (taken_unlooked (request c.args.here.domain.now c.self.inside.number c.args.station c.args.octets.now (element_fields c.args.elements.now)) (option_copied c.as_ref.result) (has_attempt (station_at c.self.inside.stations.entries c.args.station)) _ _
    c.args.out.now.acts c.take_request.new.out.acts (moves_in (station_at c.self.inside.stations.entries c.args.station)) (moves_in (station_at c.take_request.new.stations.entries c.args.station)) c.in_ok-taken.taken c.in_ok-taken.ensures.taken g is none)

pub returns-clause-taken : goal.returns-clause-taken
returns-clause-taken over c =
    let d = c.args.here.domain.now in
    let old = c.args.self.now in
    let sta = c.args.station in
    let octets = c.args.octets.now in
    let e = element_fields c.args.elements.now in
    let xs = c.self.inside.stations.entries in
    let ys = c.take_request.new.stations.entries in
    let taken = c.in_ok-taken.taken in
    let waited = c.args.out.now.acts in
    let waits = c.take_request.new.out.acts in
    let number : c.self.inside.number ≡ old.number = ap (λ (s : State). s.number) c.self.view_is in
    let was : station_at xs sta ≡ station_at old.stations sta = ap (λ (s : State). station_at s.stations sta) c.self.view_is in
    let key_is : c.begun_key.result ≡ begun_key taken.outcome taken.key = c.begun_key.ensures in
    let new : State = the_state c.self.inside.number c.drawn_with-self-inside.result c.self.inside.group c.self.inside.sending ys c.self.inside.owing in
    let next_is : option_copied c.as_ref.result ≡ next_drawn d (Ap old.number) old.drawn =
    c.as_ref.ensures.value ∙ c.next_nonce-anonce.ensures ∙ ap (λ (m : Node). next_drawn d m c.self.inside.drawn) c.requires.node ∙ ap (λ (s : State). next_drawn d (Ap old.number) s.drawn) c.self.view_is in
    let w : IsAuthed old new sta (begun_key taken.outcome taken.key) = record {
      number = number;
      drawn = subst (λ (k : ℕ). k < 2 ^ 64 - 1 → new.drawn ≡ k + drawn_for (begun_key taken.outcome taken.key)) (ap (λ (s : State). s.drawn) c.self.view_is)
          (subst (λ (y : Option Keyed). c.self.inside.drawn < 2 ^ 64 - 1 → new.drawn ≡ c.self.inside.drawn + drawn_for y) key_is c.drawn_with-self-inside.ensures.exact);
      group = ap (λ (s : State). s.group) c.self.view_is;
      sending = ap (λ (s : State). s.sending) c.self.view_is;
      owing = ap (λ (s : State). s.owing) c.self.view_is;
      is = c.in_ok-taken.ensures.beside ∙ ap (pending_beside (moves_in (station_at ys sta)).pending) was;
      others = λ k other. c.take_request.ensures.others k other ∙ ap (λ (s : State). station_at s.stations k) c.self.view_is;
    } in
    let P = λ (id name : List ℕ) (r1kh s : Mac) (answer : PullAnswer). over.H.Holders.pulls c.args.holders.now id name r1kh s c.take_request.new.holders answer in
    let A = λ (k : ℕ). AnsweredBy P (over.H.Holders.ids c.args.holders.now) (over.H.Holders.has c.args.holders.now) (over.H.Holders.rows c.args.holders.now) d k in
    let Same = c.take_request.new.holders ≡ c.args.holders.now in
    let told = auth_less (request d c.self.inside.number sta octets e) (option_copied c.as_ref.result) (has_attempt (station_at xs sta)) _ (λ id name answer. A c.self.inside.number id name sta answer) Same waited waits (moves_in (station_at xs sta)) (moves_in (station_at ys sta)) taken
    (λ id name answer x. (x.0, x.1)) c.in_ok-taken.ensures.taken in
    let x = subst (λ (m : Moves). AuthTaken (request d old.number sta octets e) (option_copied c.as_ref.result) (has_attempt (station_at xs sta)) (LooksBy e (λ id name answer. A old.number id name sta answer) Same) waited waits m (moves_in (station_at ys sta)) taken) (ap moves_in was)
    (subst (λ (k : ℕ). AuthTaken (request d k sta octets e) (option_copied c.as_ref.result) (has_attempt (station_at xs sta)) (LooksBy e (λ id name answer. A k id name sta answer) Same) waited waits (moves_in (station_at xs sta)) (moves_in (station_at ys sta)) taken) number told) in
    let refused : (why : Reason) → taken.outcome ≡ Refused why → new ≡ old = λ why is.
    (let none : c.begun_key.result ≡ None = key_is ∙ no_key taken.outcome taken.key why is in
    as_before (c.drawn_with-self-inside.ensures.same none) (c.in_ok-taken.ensures.refused why is) ∙ c.self.view_is) in
    subst (λ (zs : List HeldRow). IsTakenWith (AreLooked (A old.number) d) d (Take octets) old new (over.H.Holders.rows c.args.holders.now old.number) zs (seen waited waits taken.outcome))
    (sym (c.take_request.ensures.rows old.number c.requires.has))
    (takes_auth (A old.number) d old new octets sta c.args.elements.now (over.H.Holders.rows c.args.holders.now old.number) Same taken (option_copied c.as_ref.result) (has_attempt (station_at xs sta)) waited waits c.requires.frame x (ap has_attempt was) next_is w refused)
  where
    as_before : {m n : ℕ} {xs ys : List (ℕ × Station)} → m ≡ n → xs ≡ ys
        → the_state c.self.inside.number m c.self.inside.group c.self.inside.sending xs c.self.inside.owing ≡ the_state c.self.inside.number n c.self.inside.group c.self.inside.sending ys c.self.inside.owing
    as_before f g = rw (f, g) refl

pub returns-clause-others : goal.returns-clause-others
returns-clause-others over c = record {
  ids = c.take_request.ensures.ids;
  still_has = c.take_request.ensures.still_has;
  others = λ r other in_has. c.take_request.ensures.rows r in_has;
  one = Stays (c.take_request.ensures.rows c.args.self.now.number c.requires.has);
}

pub take_request-requires-clause-ap : goal.take_request-requires-clause-ap
take_request-requires-clause-ap over c = number_listed c.args.here.domain.now _ c.args.self.now c.self.view_is c.requires.listed

pub next_nonce-anonce-requires : goal.next_nonce-anonce-requires
next_nonce-anonce-requires over c = ap_listed c.args.here.domain.now c.args.here.node c.args.self.now.number c.requires.node c.requires.listed
