use Rattle.std.proofs.Common.{◌≡◌, ◌∙◌, ◌++◌, ◌<◌, ℕ, true, false, length, List, refl, sym, ap, subst, arith}
use Rattle.domain_base.specs.declared.names.Node.TheVariants.{Ap, Sta}
use Rattle.domain_base.specs.declared.names.Peer.TheVariants.{One}
use Rattle.run_journal.specs.declared.acts.Act.{Act}
use Rattle.domain_rules.specs.Network.{draw_end}
use Rattle.domain_rules.specs.Rows.{Send}
use Rattle.node_base.specs.Events.{seen}
use Rattle.ap_node.specs.Keys.{sent_under}
use Rattle.ap_node.specs.State.{State, station_at, key_in}
use Rattle.ap_node.specs.Renewing.{is_due_at}
use Rattle.ap_node.specs.Takes.{IsTaken}
use Rattle.ap_node.proofs.Requesting.{if_begun}
use Rattle.ap_node.proofs.Renewals.{due_facts, takes_sent, takes_due, used_renewable}
use Rattle.ap_node.proofs.access_point.ApNode.send_one.Goals as goal

pub returns-then-not-is_due-clause-taken : goal.returns-then-not-is_due-clause-taken
returns-then-not-is_due-clause-taken c =
    let d = c.args.here.domain.now in
    let sta = c.args.station in
    let old = c.args.self.now in
    let waited = c.args.out.now.acts in
    let waits = c.send_under.new.out.acts in
    let none : is_due_at d old.drawn (station_at old.stations sta) ≡ false = sym (ap (λ (s : State). is_due_at d s.drawn (station_at s.stations sta)) c.self.view_is) ∙ sym c.is_due.ensures ∙ c.if-not-is_due.true in
    if_begun c.send_under.result _ (λ outcome. IsTaken d (Send (One (Sta sta)) c.args.tid c.args.payload.now) old c.send_under.new.self (seen waited waits outcome)) _ _ c.send_under.ensures.outcome c.send_under.ensures.acts c.send_under.ensures.used
    (λ waiting used. takes_sent d old c.send_under.new.self sta c.args.tid c.args.payload.now used none waited waits _ waiting refl)

pub returns-clause-taken : goal.returns-clause-taken
returns-clause-taken c =
    let d = c.args.here.domain.now in
    let sta = c.args.station in
    let old = c.args.self.now in
    let due : is_due_at d old.drawn (station_at old.stations sta) ≡ true = sym (ap (λ (s : State). is_due_at d s.drawn (station_at s.stations sta)) c.self.view_is) ∙ sym c.is_due.ensures ∙ c.if-not-is_due.false in
    let sent = c.in_ok-outcome.ensures in
    let begins = c.begin_renewal.ensures.begun in
    takes_due d old c.send_under-2.new.self sta c.args.tid c.args.payload.now sent.used c.begin_renewal.new.self begins.0 due begins.2 c.args.out.now.acts c.send_under-2.new.out.acts c.begin_renewal.new.out.acts c.in_ok-outcome.outcome
    (sent.acts ∙ ap (λ (l : List Act). l ++ sent_under d (Ap old.number) (One (Sta sta)) c.args.tid c.args.payload.now (key_in (station_at old.stations sta))) c.in_ok-reserve.ensures.acts) sent.outcome begins.1

pub begin_renewal-requires-clause-renewable : goal.begin_renewal-requires-clause-renewable
begin_renewal-requires-clause-renewable c =
    let d = c.args.here.domain.now in
    let sta = c.args.station in
    let old = c.args.self.now in
    let due : is_due_at d old.drawn (station_at old.stations sta) ≡ true = sym (ap (λ (s : State). is_due_at d s.drawn (station_at s.stations sta)) c.self.view_is) ∙ sym c.is_due.ensures ∙ c.if-not-is_due.false in
    used_renewable d old c.send_under-2.new.self sta c.args.tid c.args.payload.now c.in_ok-outcome.ensures.used ∙ (due_facts d old.drawn (station_at old.stations sta) due).able

pub begin_renewal-requires-clause-draw : goal.begin_renewal-requires-clause-draw
begin_renewal-requires-clause-draw c =
    let d = c.args.here.domain.now in
    let sta = c.args.station in
    let old = c.args.self.now in
    let due : is_due_at d old.drawn (station_at old.stations sta) ≡ true = sym (ap (λ (s : State). is_due_at d s.drawn (station_at s.stations sta)) c.self.view_is) ∙ sym c.is_due.ensures ∙ c.if-not-is_due.false in
    subst (λ (m : ℕ). m < draw_end) (sym c.in_ok-outcome.ensures.used.drawn) (due_facts d old.drawn (station_at old.stations sta) due).low

pub begin_renewal-requires-clause-node : goal.begin_renewal-requires-clause-node
begin_renewal-requires-clause-node c = c.requires.node ∙ ap Ap (sym c.in_ok-outcome.ensures.used.number)

pub begin_renewal-requires-clause-listed : goal.begin_renewal-requires-clause-listed
begin_renewal-requires-clause-listed c = subst (λ (m : ℕ). m < length c.args.here.domain.now.aps) (sym c.in_ok-outcome.ensures.used.number) c.requires.listed

pub begin_renewal-requires-clause-room : goal.begin_renewal-requires-clause-room
begin_renewal-requires-clause-room c =
    let d = c.args.here.domain.now in
    let sta = c.args.station in
    let old = c.args.self.now in
    let due : is_due_at d old.drawn (station_at old.stations sta) ≡ true = sym (ap (λ (s : State). is_due_at d s.drawn (station_at s.stations sta)) c.self.view_is) ∙ sym c.is_due.ensures ∙ c.if-not-is_due.false in
    let facts = due_facts d old.drawn (station_at old.stations sta) due in
    omega (arith, c.in_ok-reserve.ensures.spare, c.in_ok-outcome.ensures.spare facts.key facts.in_use facts.used)
