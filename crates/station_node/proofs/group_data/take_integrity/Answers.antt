use Rattle.std.proofs.Common.{◌≡◌, ◌<◌, ◌++◌, ◌∷◌, [], ℕ, Option, Some, None, true, false, refl, sym, ap, subst, ◌∙◌}
use Rattle.std.specs.Prelude.{MatchOption}
use Rattle.domain_base.specs.declared.names.Node.TheVariants.{Ap}
use Rattle.bip_guard.specs.Bip.{key_id_in, ipn_in}
use Rattle.run_journal.specs.declared.acts.Kind.TheVariants.{Action}
use Rattle.run_journal.specs.declared.acts.Reason.TheVariants as reason
use Rattle.run_journal.specs.declared.acts.Outcome.{Outcome}
use Rattle.run_journal.specs.declared.acts.Outcome.TheVariants.{Refused}
use Rattle.run_journal.specs.declared.acts.Act.TheVariants.{Took}
use Rattle.act_memory.proofs.Returning.{if_settled}
use Rattle.frame_intake.specs.Views.{action_fields}
use Rattle.group_key.specs.Keys.{is_integrity_id, kept_in, taken, with_kept}
use Rattle.node_base.specs.Events.{seen}
use Rattle.station_node.specs.GroupData.{IsActionTaken, Keyless}
use Rattle.station_node.proofs.GroupTaken.{taken_after, no_counter, action_taken, none_found, none_kept_there, found_below}
use Rattle.station_node.proofs.group_data.take_integrity.Goals as goal

pub returns-in_default-clause-taken : goal.returns-in_default-clause-taken
returns-in_default-clause-taken c =
    let f = action_fields c.args.frame.now in
    let m = c.args.memory.now in
    let waited = c.args.out.now.acts in
    let waits = c.refuse.new.out.acts in
    let id = key_id_in f.body in
    let other : is_integrity_id id ≡ false = subst (λ (o : Option ℕ). MatchOption o (is_integrity_id id ≡ false) (λ i. (i ≡ id) × (is_integrity_id i ≡ true))) c.in_default.is c.integrity_id.ensures in
    if_settled c.refuse.result (Refused reason.NoKey) (λ (o : Outcome). IsActionTaken c.args.ap c.args.octets.now f m m (seen waited waits o)) (waits ≡ waited ++ Took (Some (Ap c.args.ap)) c.args.octets.now Action (Refused reason.NoKey) None ∷ []) c.refuse.ensures.outcome c.refuse.ensures.acts
    (λ acts. Keyless (λ of. none_found id m.igtks other of) refl refl acts)

pub returns-in_default-find-clause-taken : goal.returns-in_default-find-clause-taken
returns-in_default-find-clause-taken c =
    let f = action_fields c.args.frame.now in
    let m = c.args.memory.now in
    let waited = c.args.out.now.acts in
    let waits = c.refuse-in_default-find.new.out.acts in
    if_settled c.refuse-in_default-find.result (Refused reason.NoKey) (λ (o : Outcome). IsActionTaken c.args.ap c.args.octets.now f m m (seen waited waits o)) (waits ≡ waited ++ Took (Some (Ap c.args.ap)) c.args.octets.now Action (Refused reason.NoKey) None ∷ []) c.refuse-in_default-find.ensures.outcome c.refuse-in_default-find.ensures.acts
    (λ acts. Keyless (λ of. none_kept_there f m c.in-Some.id c.in-Some.ensures.0 c.in-Some.ensures.1 (sym c.find.ensures ∙ c.in_default-find.is)) refl refl acts)

pub returns-in-Accepted-clause-taken : goal.returns-in-Accepted-clause-taken
returns-in-Accepted-clause-taken c =
    let f = action_fields c.args.frame.now in
    let id = c.in-Some.id in
    let m = c.args.memory.now in
    action_taken c.args.ap c.args.octets.now f m c.take.new.self id c.in-Some-find.found.0 c.in-Some-find.found.1 (seen c.args.out.now.acts c.take_action.new.out.acts c.in_ok-outcome.outcome) c.in-Some.ensures.0 c.in-Some.ensures.1 c.in-Some-find.ensures c.in_ok-outcome.ensures.outcome c.in_ok-outcome.ensures.acts
    (c.take.ensures ∙ ap (λ n. with_kept id (taken id n (kept_in id m)) m) c.ipn_in.ensures ∙ sym (ap (λ (o : Outcome). taken_after o id (ipn_in f.body) m) c.in-Accepted.is))

pub returns-in_default-outcome : goal.returns-in_default-outcome
returns-in_default-outcome c =
    let f = action_fields c.args.frame.now in
    let id = c.in-Some.id in
    let m = c.args.memory.now in
    record {
      taken = action_taken c.args.ap c.args.octets.now f m m id c.in-Some-find.found.0 c.in-Some-find.found.1 (seen c.args.out.now.acts c.take_action.new.out.acts c.in_ok-outcome.outcome) c.in-Some.ensures.0 c.in-Some.ensures.1 c.in-Some-find.ensures c.in_ok-outcome.ensures.outcome c.in_ok-outcome.ensures.acts
          (sym (no_counter c.in_ok-outcome.outcome id (ipn_in f.body) m c.in_default-outcome.not-Accepted));
      same = tt;
      kept = tt;
    }

pub take-requires : goal.take-requires
take-requires c =
    found_below c.in-Some.id c.in-Some-find.found.0 c.in-Some-find.found.1 c.ipn_in.result (kept_in c.in-Some.id c.args.memory.now) c.in-Some-find.ensures
    (subst (λ (n : ℕ). c.in-Some-find.found.1 < n) (sym c.ipn_in.ensures) (c.in_ok-outcome.ensures.above c.in-Accepted.is))
