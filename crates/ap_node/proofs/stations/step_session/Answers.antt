use Rattle.std.proofs.Common.{◌∙◌, true, refl, sym, subst}
use Rattle.eapol_key.specs.declared.messages.Message.{Message}
use Rattle.group_key.specs.Replied.{HasKeysOf}
use Rattle.domain_rules.specs.Replies.{replied_acts, taken_as}
use Rattle.node_base.specs.Pairs.{pair_at}
use Rattle.act_memory.specs.Rooms.{between_of}
use Rattle.ap_node.proofs.Handing.{refused_none, kept_same, kept_back}
use Rattle.ap_node.proofs.stations.step_session.Goals as goal

pub returns-clause-handed : goal.returns-clause-handed
returns-clause-handed c d id n p octets k room_is =
    let outcome = c.step_judged-outcome.result in
    let r = c.step_judged-outcome.new.reply in
    let b = between_of c.args.ready.between in (
      replied_acts (pair_at d id n p) true (taken_as octets k outcome) r b,
      c.add_reply.ensures.acts d id n p octets k room_is,
      record {
        reply = r;
        part = c.step_judged-outcome.new.self;
        is = c.use_key.ensures ∙ kept_same c.step_judged-outcome.new.self c.step_judged-outcome.new.self r.installed c.args.session.now;
        says = refl;
        steps = c.step_judged-outcome.ensures.steps;
        beside = c.step_judged-outcome.ensures.in_session;
        installs = c.step_judged-outcome.ensures.installs;
        derives = c.step_judged-outcome.ensures.derives;
        final = c.step_judged-outcome.ensures.is_final;
        kinds_are = c.step_judged-outcome.ensures.kinds;
      },
    )

pub returns-clause-refused : goal.returns-clause-refused
returns-clause-refused c why is =
    let r = c.step_judged-outcome.new.reply in
    let part = c.step_judged-outcome.new.self in
    c.use_key.ensures ∙ kept_same part part r.installed c.args.session.now ∙ kept_back part r.installed c.args.session.now (refused_none c.step_judged-outcome.result r part why c.step_judged-outcome.ensures.installs is) (c.step_judged-outcome.ensures.refused why is)

pub add_reply-requires-clause-keys : goal.add_reply-requires-clause-keys
add_reply-requires-clause-keys c = subst (λ (m : Message). HasKeysOf m c.step_judged-outcome.new.reply) (sym c.requires.same) c.step_judged-outcome.ensures.keys
