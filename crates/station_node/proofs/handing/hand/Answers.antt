use Rattle.std.proofs.Common.{◌≡◌, length, arith, Bool, List, ℕ, sym, ap, subst, ◌∙◌, ◌++◌}
use Rattle.domain_base.specs.declared.names.Node.TheVariants.{Ap}
use Rattle.eapol_key.specs.declared.messages.Message.{Message}
use Rattle.run_journal.specs.declared.acts.Act.{Act}
use Rattle.group_key.specs.Replied.{HasKeysOf}
use Rattle.domain_rules.specs.Network.{root_at, station_of}
use Rattle.domain_rules.specs.Replies.{reply_acts, taken_as}
use Rattle.node_base.specs.Pairs.{pair_at}
use Rattle.frame_intake.specs.Views.{message_fields}
use Rattle.act_memory.specs.Rooms.{IsRoom}
use Rattle.act_memory.proofs.RepliedActs.{nothing_between}
use Rattle.supplicant.specs.declared.base.Base.{Base}
use Rattle.station_node.proofs.handing.hand.Goals as goal

pub returns-clause-handed : goal.returns-clause-handed
returns-clause-handed c =
    let d = c.args.here.domain.now in
    let n = c.args.here.node in
    let octets = c.args.heard.now.octets.now in
    let k = message_fields c.args.heard.now.message in
    let outcome = c.step-outcome.result in
    let reply = c.step-outcome.new.reply in
    let id = c.step-outcome.new.self.base.r0kh_id in
    let same : c.r0kh_id.result.now ≡ id = c.r0kh_id.ensures ∙ sym (ap (λ (b : Base). b.r0kh_id) c.step-outcome.ensures.taken.ends.1) in
    let had : Bool = c.has_session-had_session.result in
    record {
      reply = reply;
      acts = c.add_reply.ensures.acts d id n (Ap c.args.ap) octets k (subst (λ (i : List ℕ). IsRoom d i n (Ap c.args.ap) octets k c.in_ok-room.room) same c.in_ok-room.ensures)
          ∙ ap (λ (l : List Act). c.reserve.new.self.acts ++ l) (nothing_between d (root_at d (station_of n (Ap c.args.ap)) id) n (Ap c.args.ap) had octets k outcome reply c.nothing-between.result c.nothing-between.ensures.opened c.nothing-between.ensures.put)
          ∙ ap (λ (l : List Act). l ++ reply_acts (pair_at d id n (Ap c.args.ap)) had (taken_as octets k outcome) reply) c.in_ok-reserve.ensures.acts
          ∙ ap (λ (b : Bool). c.args.out.now.acts ++ reply_acts (pair_at d id n (Ap c.args.ap)) b (taken_as octets k outcome) reply) c.has_session-had_session.ensures;
      taken = c.step-outcome.ensures.taken;
      installed = c.installed_key-installed.ensures;
    }

pub add_reply-requires-clause-room : goal.add_reply-requires-clause-room
add_reply-requires-clause-room c = omega (arith, c.in_ok-reserve.ensures.spare, ap length c.nothing-between.ensures.opened, ap length c.nothing-between.ensures.put)

pub add_reply-requires-clause-keys : goal.add_reply-requires-clause-keys
add_reply-requires-clause-keys c = subst (λ (m : Message). HasKeysOf m c.step-outcome.new.reply) (sym c.in_ok-room.ensures.message) c.step-outcome.ensures.keys
