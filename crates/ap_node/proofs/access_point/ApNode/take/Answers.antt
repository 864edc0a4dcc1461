use Rattle.std.proofs.Common.{subst, ◌≡◌, refl, ap, ◌∙◌}
use Rattle.domain_base.specs.declared.names.Node.{Node}
use Rattle.domain_rules.specs.Rows.{Take}
use Rattle.run_journal.specs.declared.acts.Outcome.TheVariants.{Refused}
use Rattle.run_journal.specs.declared.acts.Reason.TheVariants as reason
use Rattle.frame_intake.specs.Views.{reading_of, management_fields, sealed_fields}
use Rattle.act_memory.proofs.Returning.{if_settled}
use Rattle.ap_node.specs.Takes.{IsKeyedAtAp, IsSealedAtAp, IsTaken}
use Rattle.run_journal.specs.declared.acts.Kind.TheVariants as kind
use Rattle.ap_node.proofs.Refusing.{Stays, takes_settled, takes_other, no_action, managed_from, keyed_from, sealed_from, request_from, is_station}
use Rattle.rsn_elements.specs.Fields.{element_fields}
use Rattle.ap_node.specs.Putting.{Unchanged}
use Rattle.ap_node.proofs.Raw.{managed_raw}
use Rattle.ap_node.proofs.AtPlaces.{err_back}
use Rattle.ap_node.proofs.Rows.{if_same, if_none, if_change, err_change, same_others}
use Rattle.ap_node.proofs.Listed.{ap_listed}
use Rattle.ap_node.proofs.access_point.ApNode.take.Goals as goal
use Rattle.domain_base.specs.declared.names.Node.TheVariants.{Sta}
use Rattle.node_base.specs.Events.{seen}
use Rattle.ap_node.specs.Keys.{IsTakenUnder}
use Rattle.ap_node.specs.State.{State, station_at, key_in, with_key}
use Rattle.ap_node.specs.declared.station.Station.{Station}
use Rattle.ap_node.proofs.Messaging.{the_state, kept_state, if_both}
use Rattle.ap_node.proofs.Traffic.{IsRekeyed, takes_data}

pub take_request-requires-clause-frame : goal.take_request-requires-clause-frame
take_request-requires-clause-frame over c =
    let d = c.args.here.domain.now in
    let a = c.args.self.now.number in
    let octets = c.args.octets.now in
    request_from d a kind.AssocReq octets c.in-Managed.from c.number_of.result c.in-Managed.frame c.in-Managed.elements c.number_of.ensures c.in-AssocReq.is
    (managed_from d c.args.here.node a octets (reading_of c.read-delivered.result) c.in-Managed.from c.in-Managed.frame c.in-Managed.elements c.read-delivered.ensures.reads c.in-Managed.ensures c.requires.node)

pub take_auth-requires-clause-frame : goal.take_auth-requires-clause-frame
take_auth-requires-clause-frame over c =
    let d = c.args.here.domain.now in
    let a = c.args.self.now.number in
    let octets = c.args.octets.now in
    request_from d a kind.FtReq octets c.in-Managed.from c.number_of-in-FtReq.result c.in-Managed.frame c.in-Managed.elements c.number_of-in-FtReq.ensures c.in-FtReq.is
    (managed_from d c.args.here.node a octets (reading_of c.read-delivered.result) c.in-Managed.from c.in-Managed.frame c.in-Managed.elements c.read-delivered.ensures.reads c.in-Managed.ensures c.requires.node)

pub take_reassoc-requires-clause-frame : goal.take_reassoc-requires-clause-frame
take_reassoc-requires-clause-frame over c =
    let d = c.args.here.domain.now in
    let a = c.args.self.now.number in
    let octets = c.args.octets.now in
    request_from d a kind.ReReq octets c.in-Managed.from c.number_of-in-ReReq.result c.in-Managed.frame c.in-Managed.elements c.number_of-in-ReReq.ensures c.in-ReReq.is
    (managed_from d c.args.here.node a octets (reading_of c.read-delivered.result) c.in-Managed.from c.in-Managed.frame c.in-Managed.elements c.read-delivered.ensures.reads c.in-Managed.ensures c.requires.node)

pub take_keyed-requires-clause-frame : goal.take_keyed-requires-clause-frame
take_keyed-requires-clause-frame over c =
    let d = c.args.here.domain.now in
    let a = c.args.self.now.number in
    let octets = c.args.octets.now in
    subst (λ (q : Node). IsKeyedAtAp d a octets q c.in-Keyed.message) c.number_of-in-Keyed.ensures
    (keyed_from d c.args.here.node a octets (reading_of c.read-delivered.result) c.in-Keyed.from c.in-Keyed.message c.read-delivered.ensures.reads c.in-Keyed.ensures c.requires.node)

pub returns-in-Settled-clause-taken : goal.returns-in-Settled-clause-taken
returns-in-Settled-clause-taken over c =
    let d = c.args.here.domain.now in
    let s = c.args.self.now in
    let waited = c.args.out.now.acts in
    let waits = c.settle.new.out.acts in
    if_same c.settle.result _ d (Take c.args.octets.now) s s _ waited waits
    (if_settled c.settle.result c.in-Settled.outcome (λ outcome. Stays d s c.args.octets.now waited waits outcome) _ c.settle.ensures.outcome c.settle.ensures.acts
    (λ waiting. takes_settled d s c.args.octets.now (reading_of c.read-delivered.result) c.in-Settled.from c.kind.result c.in-Settled.outcome c.args.here.node waited waits c.read-delivered.ensures.reads c.in-Settled.ensures
    c.requires.node c.kind.ensures waiting))

pub returns-in_default-clause-taken : goal.returns-in_default-clause-taken
returns-in_default-clause-taken over c =
    let d = c.args.here.domain.now in
    let s = c.args.self.now in
    let waited = c.args.out.now.acts in
    let waits = c.settle-in_default.new.out.acts in
    if_same c.settle-in_default.result _ d (Take c.args.octets.now) s s _ waited waits
    (if_settled c.settle-in_default.result (Refused reason.Unawaited) (λ outcome. Stays d s c.args.octets.now waited waits outcome) _ c.settle-in_default.ensures.outcome c.settle-in_default.ensures.acts
    (λ waiting. takes_other d s c.args.octets.now c.in-Managed.from c.in-Managed.frame c.in-Managed.elements waited waits
    (managed_from d c.args.here.node s.number c.args.octets.now (reading_of c.read-delivered.result) c.in-Managed.from c.in-Managed.frame c.in-Managed.elements c.read-delivered.ensures.reads c.in-Managed.ensures c.requires.node)
    c.in_default.not-AssocReq c.in_default.not-FtReq c.in_default.not-ReReq waiting))

pub returns-in-AssocReq-clause-taken : goal.returns-in-AssocReq-clause-taken
returns-in-AssocReq-clause-taken over c =
    if_same c.take_request.result _ c.args.here.domain.now (Take c.args.octets.now) c.args.self.now c.take_request.new.self _ c.args.out.now.acts c.take_request.new.out.acts c.take_request.ensures.taken

pub returns-in-ReReq-clause-taken : goal.returns-in-ReReq-clause-taken
returns-in-ReReq-clause-taken over c =
    if_same c.take_reassoc.result _ c.args.here.domain.now (Take c.args.octets.now) c.args.self.now c.take_reassoc.new.self _ c.args.out.now.acts c.take_reassoc.new.out.acts c.take_reassoc.ensures.taken

pub returns-in-Keyed-clause-taken : goal.returns-in-Keyed-clause-taken
returns-in-Keyed-clause-taken over c =
    if_none c.take_keyed.result _ c.args.here.domain.now (Take c.args.octets.now) c.args.self.now c.take_keyed.new.self _ _ c.args.out.now.acts c.take_keyed.new.out.acts c.take_keyed.ensures.taken

pub returns-in-Sealed-clause-taken : goal.returns-in-Sealed-clause-taken
returns-in-Sealed-clause-taken over c =
    let d = c.args.here.domain.now in
    let octets = c.args.octets.now in
    let sta = c.number_of-station.result in
    let old = c.args.self.now in
    let waited = c.args.out.now.acts in
    let waits = c.take_data.new.out.acts in
    let was : station_at c.self.inside.stations.entries sta ≡ station_at old.stations sta = ap (λ (s : State). station_at s.stations sta) c.self.view_is in
    let new : State = the_state c.self.inside.number c.self.inside.drawn c.self.inside.group c.self.inside.sending c.take_data.new.stations.entries c.self.inside.owing in
    let q = key_in (station_at new.stations sta) in
    let rekeyed : IsRekeyed old new sta q = record {
      number = ap (λ (s : State). s.number) c.self.view_is;
      drawn = ap (λ (s : State). s.drawn) c.self.view_is;
      group = ap (λ (s : State). s.group) c.self.view_is;
      sending = ap (λ (s : State). s.sending) c.self.view_is;
      owing = ap (λ (s : State). s.owing) c.self.view_is;
      is = c.take_data.ensures.part ∙ ap (with_key q) was;
      others = λ k other. c.take_data.ensures.others k other ∙ ap (λ (s : State). station_at s.stations k) c.self.view_is;
    } in
    let frame_is : IsSealedAtAp d old.number octets (Sta sta) c.in-Sealed.frame = subst (λ (q : Node). IsSealedAtAp d old.number octets q c.in-Sealed.frame) c.number_of-station.ensures
    (sealed_from d c.args.here.node old.number octets (reading_of c.read-delivered.result) c.in-Sealed.from c.in-Sealed.frame c.read-delivered.ensures.reads c.in-Sealed.ensures c.requires.node) in
    if_same c.take_data.result _ d (Take octets) old new _ waited waits
    (if_both c.take_data.result _ _ (λ outcome. IsTaken d (Take octets) old new (seen waited waits outcome)) c.take_data.ensures.taken c.take_data.ensures.refused
    (λ outcome x refused. takes_data d old new octets sta c.in-Sealed.frame waited waits outcome frame_is rekeyed
    (λ why is. kept_state c.self.inside.number c.self.inside.drawn c.self.inside.owing c.self.inside.owing c.self.inside.group c.self.inside.sending new.stations c.self.inside.stations.entries (refused why is) refl ∙ c.self.view_is)
    (subst (λ (o : Station). IsTakenUnder (Sta sta) octets (sealed_fields c.in-Sealed.frame) (key_in o) q (seen waited waits outcome)) was x)))

pub returns-in-Settled-clause-unasked : goal.returns-in-Settled-clause-unasked
returns-in-Settled-clause-unasked over c = if_change c.settle.result _ _ _ (Unchanged refl)

pub returns-in-Settled-clause-change : goal.returns-in-Settled-clause-change
returns-in-Settled-clause-change over c = err_change c.settle.result _ (Unchanged refl)

pub returns-in_default-clause-unasked : goal.returns-in_default-clause-unasked
returns-in_default-clause-unasked over c = if_change c.settle-in_default.result _ _ _ (Unchanged refl)

pub returns-in_default-clause-change : goal.returns-in_default-clause-change
returns-in_default-clause-change over c = err_change c.settle-in_default.result _ (Unchanged refl)

pub returns-in-AssocReq-clause-unasked : goal.returns-in-AssocReq-clause-unasked
returns-in-AssocReq-clause-unasked over c = if_change c.take_request.result _ _ _ (Unchanged refl)

pub returns-in-AssocReq-clause-change : goal.returns-in-AssocReq-clause-change
returns-in-AssocReq-clause-change over c = err_change c.take_request.result _ (Unchanged refl)

pub returns-in-FtReq-clause-unasked : goal.returns-in-FtReq-clause-unasked
returns-in-FtReq-clause-unasked over c = c.take_auth.ensures.unasked

pub returns-in-FtReq-clause-change : goal.returns-in-FtReq-clause-change
returns-in-FtReq-clause-change over c = c.take_auth.ensures.change

pub returns-in-ReReq-clause-unasked : goal.returns-in-ReReq-clause-unasked
returns-in-ReReq-clause-unasked over c = if_change c.take_reassoc.result _ _ _ (Unchanged refl)

pub returns-in-ReReq-clause-change : goal.returns-in-ReReq-clause-change
returns-in-ReReq-clause-change over c = err_change c.take_reassoc.result _ (Unchanged refl)

pub returns-in-Keyed-clause-unasked : goal.returns-in-Keyed-clause-unasked
returns-in-Keyed-clause-unasked over c = if_change c.take_keyed.result _ _ _ c.take_keyed.ensures.change

pub returns-in-Keyed-clause-change : goal.returns-in-Keyed-clause-change
returns-in-Keyed-clause-change over c = err_change c.take_keyed.result _ c.take_keyed.ensures.change

pub returns-in-Sealed-clause-unasked : goal.returns-in-Sealed-clause-unasked
returns-in-Sealed-clause-unasked over c = if_change c.take_data.result _ _ _ (Unchanged refl)

pub returns-in-Sealed-clause-change : goal.returns-in-Sealed-clause-change
returns-in-Sealed-clause-change over c = err_change c.take_data.result _ (Unchanged refl)

pub returns-in-Settled-clause-same : goal.returns-in-Settled-clause-same
returns-in-Settled-clause-same over c = err_change c.settle.result _ refl

pub returns-in-Settled-clause-same_rows : goal.returns-in-Settled-clause-same_rows
returns-in-Settled-clause-same_rows over c = err_change c.settle.result _ refl

pub returns-in-Settled-clause-kept : goal.returns-in-Settled-clause-kept
returns-in-Settled-clause-kept over c = c.settle.ensures.kept

pub returns-in-Settled-clause-others : goal.returns-in-Settled-clause-others
returns-in-Settled-clause-others over c = same_others _ _ _ _

pub returns-in-Settled-clause-no_less : goal.returns-in-Settled-clause-no_less
returns-in-Settled-clause-no_less over c = over.met.H.Holders.same c.args.holders.now

pub returns-in_default-clause-same : goal.returns-in_default-clause-same
returns-in_default-clause-same over c = err_change c.settle-in_default.result _ refl

pub returns-in_default-clause-same_rows : goal.returns-in_default-clause-same_rows
returns-in_default-clause-same_rows over c = err_change c.settle-in_default.result _ refl

pub returns-in_default-clause-kept : goal.returns-in_default-clause-kept
returns-in_default-clause-kept over c = c.settle-in_default.ensures.kept

pub returns-in_default-clause-others : goal.returns-in_default-clause-others
returns-in_default-clause-others over c = same_others _ _ _ _

pub returns-in_default-clause-no_less : goal.returns-in_default-clause-no_less
returns-in_default-clause-no_less over c = over.met.H.Holders.same c.args.holders.now

pub returns-in-AssocReq-clause-same : goal.returns-in-AssocReq-clause-same
returns-in-AssocReq-clause-same over c = c.take_request.ensures.same

pub returns-in-AssocReq-clause-same_rows : goal.returns-in-AssocReq-clause-same_rows
returns-in-AssocReq-clause-same_rows over c = err_change c.take_request.result _ refl

pub returns-in-AssocReq-clause-kept : goal.returns-in-AssocReq-clause-kept
returns-in-AssocReq-clause-kept over c = c.take_request.ensures.kept

pub returns-in-AssocReq-clause-others : goal.returns-in-AssocReq-clause-others
returns-in-AssocReq-clause-others over c = same_others _ _ _ _

pub returns-in-AssocReq-clause-no_less : goal.returns-in-AssocReq-clause-no_less
returns-in-AssocReq-clause-no_less over c = over.met.H.Holders.same c.args.holders.now

pub returns-in-ReReq-clause-same : goal.returns-in-ReReq-clause-same
returns-in-ReReq-clause-same over c = c.take_reassoc.ensures.same

pub returns-in-ReReq-clause-same_rows : goal.returns-in-ReReq-clause-same_rows
returns-in-ReReq-clause-same_rows over c = err_change c.take_reassoc.result _ refl

pub returns-in-ReReq-clause-kept : goal.returns-in-ReReq-clause-kept
returns-in-ReReq-clause-kept over c = c.take_reassoc.ensures.kept

pub returns-in-ReReq-clause-others : goal.returns-in-ReReq-clause-others
returns-in-ReReq-clause-others over c = same_others _ _ _ _

pub returns-in-ReReq-clause-no_less : goal.returns-in-ReReq-clause-no_less
returns-in-ReReq-clause-no_less over c = over.met.H.Holders.same c.args.holders.now

pub returns-in-FtReq-clause-taken : goal.returns-in-FtReq-clause-taken
returns-in-FtReq-clause-taken over c = c.take_auth.ensures.taken

pub returns-in-FtReq-clause-same : goal.returns-in-FtReq-clause-same
returns-in-FtReq-clause-same over c = c.take_auth.ensures.same

pub returns-in-FtReq-clause-same_rows : goal.returns-in-FtReq-clause-same_rows
returns-in-FtReq-clause-same_rows over c = c.take_auth.ensures.same_rows

pub returns-in-FtReq-clause-kept : goal.returns-in-FtReq-clause-kept
returns-in-FtReq-clause-kept over c = c.take_auth.ensures.kept

pub returns-in-FtReq-clause-others : goal.returns-in-FtReq-clause-others
returns-in-FtReq-clause-others over c = c.take_auth.ensures.others

pub returns-in-FtReq-clause-no_less : goal.returns-in-FtReq-clause-no_less
returns-in-FtReq-clause-no_less over c = c.take_auth.ensures.no_less

pub returns-in-Keyed-clause-same : goal.returns-in-Keyed-clause-same
returns-in-Keyed-clause-same over c = c.take_keyed.ensures.same

pub returns-in-Keyed-clause-same_rows : goal.returns-in-Keyed-clause-same_rows
returns-in-Keyed-clause-same_rows over c = c.take_keyed.ensures.same_rows

pub returns-in-Keyed-clause-kept : goal.returns-in-Keyed-clause-kept
returns-in-Keyed-clause-kept over c = c.take_keyed.ensures.kept

pub returns-in-Keyed-clause-others : goal.returns-in-Keyed-clause-others
returns-in-Keyed-clause-others over c = c.take_keyed.ensures.others

pub returns-in-Keyed-clause-no_less : goal.returns-in-Keyed-clause-no_less
returns-in-Keyed-clause-no_less over c = c.take_keyed.ensures.no_less

pub returns-in-Sealed-clause-same_rows : goal.returns-in-Sealed-clause-same_rows
returns-in-Sealed-clause-same_rows over c = err_change c.take_data.result _ refl

pub returns-in-Sealed-clause-kept : goal.returns-in-Sealed-clause-kept
returns-in-Sealed-clause-kept over c = c.take_data.ensures.kept

pub returns-in-Sealed-clause-others : goal.returns-in-Sealed-clause-others
returns-in-Sealed-clause-others over c = same_others _ _ _ _

pub returns-in-Sealed-clause-no_less : goal.returns-in-Sealed-clause-no_less
returns-in-Sealed-clause-no_less over c = over.met.H.Holders.same c.args.holders.now

pub number_of-requires : goal.number_of-requires
number_of-requires over c = is_station c.args.here.domain.now c.args.here.node c.args.self.now.number c.in-Managed.from c.requires.node c.in-Managed.ensures.2

pub number_of-requires-in-FtReq : goal.number_of-requires-in-FtReq
number_of-requires-in-FtReq over c = is_station c.args.here.domain.now c.args.here.node c.args.self.now.number c.in-Managed.from c.requires.node c.in-Managed.ensures.2

pub number_of-requires-in-ReReq : goal.number_of-requires-in-ReReq
number_of-requires-in-ReReq over c = is_station c.args.here.domain.now c.args.here.node c.args.self.now.number c.in-Managed.from c.requires.node c.in-Managed.ensures.2

pub number_of-requires-in-Keyed : goal.number_of-requires-in-Keyed
number_of-requires-in-Keyed over c = is_station c.args.here.domain.now c.args.here.node c.args.self.now.number c.in-Keyed.from c.requires.node c.in-Keyed.ensures.2

pub number_of-station-requires : goal.number_of-station-requires
number_of-station-requires over c = is_station c.args.here.domain.now c.args.here.node c.args.self.now.number c.in-Sealed.from c.requires.node c.in-Sealed.ensures.2

pub judge-requires-clause-listed : goal.judge-requires-clause-listed
judge-requires-clause-listed over c = ap_listed c.args.here.domain.now c.args.here.node c.args.self.now.number c.requires.node c.requires.listed

pub take_auth-requires-clause-node : goal.take_auth-requires-clause-node
take_auth-requires-clause-node over c = c.requires.node

pub take_auth-requires-clause-listed : goal.take_auth-requires-clause-listed
take_auth-requires-clause-listed over c = c.requires.listed

pub take_reassoc-requires-clause-node : goal.take_reassoc-requires-clause-node
take_reassoc-requires-clause-node over c = c.requires.node

pub take_reassoc-requires-clause-listed : goal.take_reassoc-requires-clause-listed
take_reassoc-requires-clause-listed over c = c.requires.listed

pub take_keyed-requires-clause-node : goal.take_keyed-requires-clause-node
take_keyed-requires-clause-node over c = c.requires.node

pub take_keyed-requires-clause-listed : goal.take_keyed-requires-clause-listed
take_keyed-requires-clause-listed over c = c.requires.listed

pub take_request-requires-clause-node : goal.take_request-requires-clause-node
take_request-requires-clause-node over c = c.requires.node

pub take_request-requires-clause-listed : goal.take_request-requires-clause-listed
take_request-requires-clause-listed over c = c.requires.listed

pub take_auth-requires-clause-raw : goal.take_auth-requires-clause-raw
take_auth-requires-clause-raw over c =
    managed_raw c.read-delivered.result (management_fields c.in-Managed.frame) (element_fields c.in-Managed.elements) c.read-delivered.ensures.whole c.in-Managed.ensures.0

pub take_reassoc-requires-clause-raw : goal.take_reassoc-requires-clause-raw
take_reassoc-requires-clause-raw over c =
    managed_raw c.read-delivered.result (management_fields c.in-Managed.frame) (element_fields c.in-Managed.elements) c.read-delivered.ensures.whole c.in-Managed.ensures.0

pub returns-in-Sealed-clause-same : goal.returns-in-Sealed-clause-same
returns-in-Sealed-clause-same over c =
    err_back c.take_data.result _ _
    (λ same. kept_state c.self.inside.number c.self.inside.drawn c.self.inside.owing c.self.inside.owing c.self.inside.group c.self.inside.sending c.take_data.new.stations.entries c.self.inside.stations.entries same refl ∙ c.self.view_is)
    c.take_data.ensures.same

pub unreachable-requires : goal.unreachable-requires
unreachable-requires over c = no_action c.args.here.domain.now c.args.here.node c.args.self.now.number (reading_of c.read-delivered.result) c.in-Acting.field-0 c.in-Acting.field-1 c.in-Acting.ensures c.requires.node
