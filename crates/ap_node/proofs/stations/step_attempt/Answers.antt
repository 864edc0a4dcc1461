use Rattle.std.proofs.Common.{Bool, refl, sym, ap, subst}
use Rattle.eapol_key.specs.declared.messages.Message.{Message}
use Rattle.group_key.specs.Replied.{HasKeysOf}
use Rattle.domain_rules.specs.Replies.{replied_acts, taken_as}
use Rattle.node_base.specs.Pairs.{pair_at}
use Rattle.act_memory.specs.Rooms.{between_of}
use Rattle.ap_node.proofs.Handing.{refused_none, step_back}
use Rattle.ap_node.proofs.stations.step_attempt.Goals as goal

pub returns-clause-handed : goal.returns-clause-handed
returns-clause-handed c d id n p octets k room_is =
    let outcome = c.step_judged-outcome.result in
    let r = c.step_judged-outcome.new.reply in
    let part = c.step_judged-outcome.new.self in
    let b = between_of c.args.ready.between in (
      replied_acts (pair_at d id n p) c.args.had_session (taken_as octets k outcome) r b,
      c.add_reply.ensures.acts d id n p octets k room_is,
      λ x there had. record {
        reply = r;
        was = c.args.part.now;
        part = part;
        there = there;
        is = refl;
        other = c.requires.other;
        says = ap (λ (z : Bool). replied_acts (pair_at d id n p) z (taken_as octets k outcome) r b) had;
        steps = c.step_judged-outcome.ensures.beside;
        installs = c.step_judged-outcome.ensures.installs;
        derives = c.step_judged-outcome.ensures.derives;
        final = c.step_judged-outcome.ensures.is_final;
        kinds_are = c.step_judged-outcome.ensures.kinds;
        refused = λ why is. step_back x _ c.args.part.now part r.installed there refl (refused_none outcome r part why c.step_judged-outcome.ensures.installs is) (c.step_judged-outcome.ensures.refused why is);
      },
    )

pub returns-clause-refused : goal.returns-clause-refused
returns-clause-refused c why is =
    let r = c.step_judged-outcome.new.reply in
    let part = c.step_judged-outcome.new.self in (
      c.step_judged-outcome.ensures.refused why is,
      refused_none c.step_judged-outcome.result r part why c.step_judged-outcome.ensures.installs is,
    )

pub add_reply-requires-clause-keys : goal.add_reply-requires-clause-keys
add_reply-requires-clause-keys c = subst (λ (m : Message). HasKeysOf m c.step_judged-outcome.new.reply) (sym c.requires.same) c.step_judged-outcome.ensures.keys
