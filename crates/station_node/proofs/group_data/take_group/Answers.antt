use Rattle.std.proofs.Common.{◌≡◌, ◌<◌, ◌++◌, ℕ, refl, sym, ap, subst, ◌∙◌}
use Rattle.domain_base.specs.declared.names.Node.TheVariants.{Ap}
use Rattle.ccmp_guard.specs.Ccmp.{packet_number}
use Rattle.run_journal.specs.declared.acts.Reason.TheVariants as reason
use Rattle.run_journal.specs.declared.acts.Outcome.{Outcome}
use Rattle.run_journal.specs.declared.acts.Outcome.TheVariants.{Refused}
use Rattle.act_memory.proofs.Returning.{if_settled}
use Rattle.data_frames.specs.Taking.{refusal}
use Rattle.frame_intake.specs.Views.{sealed_fields}
use Rattle.group_key.specs.Keys.{kept_in, taken, with_kept}
use Rattle.node_base.specs.Events.{seen}
use Rattle.station_node.specs.GroupData.{IsGroupTaken, Without}
use Rattle.station_node.proofs.GroupTaken.{taken_after, no_counter, group_taken, none_kept, found_below}
use Rattle.station_node.proofs.group_data.take_group.Goals as goal

pub returns-in_default-clause-taken : goal.returns-in_default-clause-taken
returns-in_default-clause-taken c =
    let f = sealed_fields c.args.frame.now in
    let m = c.args.memory.now in
    let waited = c.args.out.now.acts in
    let waits = c.refuse.new.out.acts in
    if_settled c.refuse.result (Refused reason.NoKey) (λ (o : Outcome). IsGroupTaken c.args.ap c.args.octets.now f m m (seen waited waits o)) (waits ≡ waited ++ refusal (Ap c.args.ap) c.args.octets.now reason.NoKey) c.refuse.ensures.outcome c.refuse.ensures.acts
    (λ acts. Without (none_kept f m c.key_id_in-id.result c.requires.whole c.key_id_in-id.ensures (sym c.find.ensures ∙ c.in_default.is)) refl refl acts)

pub returns-in-Accepted-clause-taken : goal.returns-in-Accepted-clause-taken
returns-in-Accepted-clause-taken c =
    let f = sealed_fields c.args.frame.now in
    let id = c.key_id_in-id.result in
    let m = c.args.memory.now in
    let came = c.in_ok-outcome.ensures.taken in
    group_taken c.args.ap c.args.octets.now f m c.take-in-Accepted.new.self id c.in-Some.found.0 c.in-Some.found.1 came.0 (seen c.args.out.now.acts c.take.new.out.acts c.in_ok-outcome.outcome) c.requires.whole c.key_id_in-id.ensures c.in-Some.ensures came.1
    (c.take-in-Accepted.ensures ∙ ap (λ n. with_kept id (taken id n (kept_in id m)) m) c.packet_number.ensures.value ∙ sym (ap (λ (o : Outcome). taken_after o id (packet_number f.body) m) c.in-Accepted.is))

pub returns-in_default-outcome : goal.returns-in_default-outcome
returns-in_default-outcome c =
    let f = sealed_fields c.args.frame.now in
    let id = c.key_id_in-id.result in
    let m = c.args.memory.now in
    let came = c.in_ok-outcome.ensures.taken in
    record {
      taken = group_taken c.args.ap c.args.octets.now f m m id c.in-Some.found.0 c.in-Some.found.1 came.0 (seen c.args.out.now.acts c.take.new.out.acts c.in_ok-outcome.outcome) c.requires.whole c.key_id_in-id.ensures c.in-Some.ensures came.1
          (sym (no_counter c.in_ok-outcome.outcome id (packet_number f.body) m c.in_default-outcome.not-Accepted));
      same = tt;
      kept = tt;
    }

pub take-requires-in-Accepted : goal.take-requires-in-Accepted
take-requires-in-Accepted c = found_below c.key_id_in-id.result c.in-Some.found.0 c.in-Some.found.1 c.packet_number.result (kept_in c.key_id_in-id.result c.args.memory.now) c.in-Some.ensures
    (subst (λ (n : ℕ). c.in-Some.found.1 < n) (sym c.packet_number.ensures.value) (c.in_ok-outcome.ensures.above c.in-Accepted.is))
