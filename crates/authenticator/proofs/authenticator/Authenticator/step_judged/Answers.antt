use Rattle.std.proofs.Common.{◌∙◌, Option, refl, sym, subst, ap}
use Rattle.std.specs.Prelude.{is_some}
use Rattle.eapol_key.specs.declared.messages.Message.{Message}
use Rattle.run_journal.specs.declared.reply.Keyed.{Keyed}
use Rattle.run_journal.specs.declared.acts.Outcome.TheVariants.{Refused}
use Rattle.run_journal.specs.declared.acts.Reason.TheVariants as reason
use Rattle.authenticator.specs.declared.attempt.Attempt.{Attempt}
use Rattle.eapol_key.specs.declared.messages.Message.TheVariants.{M2, M4, G2}
use Rattle.authenticator.specs.Judged.{frame_of, is_final}
use Rattle.authenticator.specs.Kinds.{kinds}
use Rattle.authenticator.specs.Taken.{given}
use Rattle.authenticator.proofs.Final.{other_final}
use Rattle.authenticator.proofs.Refusing.{as_message, no_other, steps_to}
use Rattle.authenticator.proofs.Replying.{empty_whole}
use Rattle.authenticator.proofs.Unchanging.{none_some}
use Rattle.authenticator.specs.Beside.{session_after}
use Rattle.authenticator.specs.State.{with_session, with_attempt}
use Rattle.authenticator.specs.declared.session.Session.{Session}
use Rattle.authenticator.proofs.Beside.{none_after, leaves_none}
use Rattle.group_key.specs.Replied.{HasKeysOf}
use Rattle.authenticator.proofs.KindsOf.{kinds_none}
use Rattle.authenticator.proofs.KeysOf.{no_keys, derived_by, installed_by}
use Rattle.authenticator.proofs.authenticator.Authenticator.step_judged.Goals as goal

pub returns-in-M2-clause-steps : goal.returns-in-M2-clause-steps
returns-in-M2-clause-steps c = as_message c.args.self.now c.take_m2.new.self c.args.message M2 (frame_of c.args.frame.now) c.args.news.now c.take_m2.result c.take_m2.new.reply c.in-M2.is c.take_m2.ensures.steps

pub returns-in-M4-clause-steps : goal.returns-in-M4-clause-steps
returns-in-M4-clause-steps c = as_message c.args.self.now c.take_m4.new.self c.args.message M4 (frame_of c.args.frame.now) c.args.news.now c.take_m4.result c.take_m4.new.reply c.in-M4.is c.take_m4.ensures.steps

pub returns-in-G2-clause-steps : goal.returns-in-G2-clause-steps
returns-in-G2-clause-steps c =
    as_message c.args.self.now c.take_g2.new.self c.args.message G2 (frame_of c.args.frame.now) c.args.news.now c.take_g2.result c.take_g2.new.reply c.in-G2.is c.take_g2.ensures.steps

pub returns-in_default-clause-steps : goal.returns-in_default-clause-steps
returns-in_default-clause-steps c =
    no_other c.args.self.now (given c.args.message (frame_of c.args.frame.now) c.args.news.now) c.empty.result c.in_default.not-M2 c.in_default.not-M4 c.in_default.not-G2 c.empty.ensures

pub returns-in-M2-clause-is_final : goal.returns-in-M2-clause-is_final
returns-in-M2-clause-is_final c =
    ap (λ (o : Option Keyed). is_some o) c.take_m2.ensures.none ∙ sym (ap (λ (m : Message). is_final c.args.self.now.ends.akm c.args.self.now.attempt m (frame_of c.args.frame.now)) c.in-M2.is)

pub returns-in-G2-clause-is_final : goal.returns-in-G2-clause-is_final
returns-in-G2-clause-is_final c =
    ap (λ (o : Option Keyed). is_some o) c.take_g2.ensures.none ∙ sym (ap (λ (m : Message). is_final c.args.self.now.ends.akm c.args.self.now.attempt m (frame_of c.args.frame.now)) c.in-G2.is)

pub returns-in-M4-clause-is_final : goal.returns-in-M4-clause-is_final
returns-in-M4-clause-is_final c =
    c.take_m4.ensures.is_final ∙ sym (ap (λ (m : Message). is_final c.args.self.now.ends.akm c.args.self.now.attempt m (frame_of c.args.frame.now)) c.in-M4.is)

pub returns-in_default-clause-is_final : goal.returns-in_default-clause-is_final
returns-in_default-clause-is_final c =
    ap (λ (o : Option Keyed). is_some o) c.empty.ensures.installed ∙ sym (other_final c.args.self.now.ends.akm c.args.self.now.attempt c.args.message (frame_of c.args.frame.now) c.in_default.not-M4)

pub returns-in_default-clause-whole : goal.returns-in_default-clause-whole
returns-in_default-clause-whole c = empty_whole c.empty.result c.empty.ensures

pub returns-in_default-clause-installs : goal.returns-in_default-clause-installs
returns-in_default-clause-installs c y some = absurd (none_some c.empty.result.installed y c.empty.ensures.installed some)

pub returns-in_default-clause-derives : goal.returns-in_default-clause-derives
returns-in_default-clause-derives c y some = absurd (none_some c.empty.result.derived y c.empty.ensures.derived some)

-- an attempt beside whatever session there is
pub returns-in-M2-clause-beside : goal.returns-in-M2-clause-beside
returns-in-M2-clause-beside c o plain other =
    let new = c.take_m2.new.self in
    let r = c.take_m2.new.reply in
    as_message (with_session o c.args.self.now) (with_session (session_after r.installed new.session o) new) c.args.message M2 (frame_of c.args.frame.now) c.args.news.now c.take_m2.result r c.in-M2.is
    (steps_to (with_session o c.args.self.now) (with_session o new) (with_session (session_after r.installed new.session o) new) (given M2 (frame_of c.args.frame.now) c.args.news.now) c.take_m2.result r
    (ap (λ (q : Option Session). with_session q new) (none_after r.installed new.session o c.take_m2.ensures.none)) (c.take_m2.ensures.beside o plain))

pub returns-in-M4-clause-beside : goal.returns-in-M4-clause-beside
returns-in-M4-clause-beside c o plain other =
    let new = c.take_m4.new.self in
    let r = c.take_m4.new.reply in
    as_message (with_session o c.args.self.now) (with_session (session_after r.installed new.session o) new) c.args.message M4 (frame_of c.args.frame.now) c.args.news.now c.take_m4.result r c.in-M4.is (c.take_m4.ensures.beside o plain)

pub returns-in-G2-clause-beside : goal.returns-in-G2-clause-beside
returns-in-G2-clause-beside c o plain other = absurd (other c.in-G2.is)

pub returns-in_default-clause-beside : goal.returns-in_default-clause-beside
returns-in_default-clause-beside c o plain other =
    let s = c.args.self.now in
    let r = c.empty.result in
    let x = given c.args.message (frame_of c.args.frame.now) c.args.news.now in
    steps_to (with_session o s) (with_session o s) (with_session (session_after r.installed s.session o) s) x (Refused reason.Unawaited) r
    (ap (λ (q : Option Session). with_session q s) (none_after r.installed s.session o c.empty.ensures.installed))
    (no_other (with_session o s) x r c.in_default.not-M2 c.in_default.not-M4 c.in_default.not-G2 c.empty.ensures)

-- and a session beside whatever attempt there is
pub returns-in-M2-clause-in_session : goal.returns-in-M2-clause-in_session
returns-in-M2-clause-in_session c a is = absurd (cc (c.in-M2.is, is))

pub returns-in-M4-clause-in_session : goal.returns-in-M4-clause-in_session
returns-in-M4-clause-in_session c a is = absurd (cc (c.in-M4.is, is))

pub returns-in-G2-clause-in_session : goal.returns-in-G2-clause-in_session
returns-in-G2-clause-in_session c a is =
    as_message (with_attempt a c.args.self.now) (with_attempt a c.take_g2.new.self) c.args.message G2 (frame_of c.args.frame.now) c.args.news.now c.take_g2.result c.take_g2.new.reply c.in-G2.is (c.take_g2.ensures.beside a)

pub returns-in_default-clause-in_session : goal.returns-in_default-clause-in_session
returns-in_default-clause-in_session c a is = absurd (c.in_default.not-G2 is)

pub returns-in-M2-clause-attempt : goal.returns-in-M2-clause-attempt
returns-in-M2-clause-attempt c = leaves_none c.take_m2.new.reply.installed c.args.self.now c.take_m2.new.self c.take_m2.ensures.none c.take_m2.ensures.attempt

pub returns-in-M4-clause-attempt : goal.returns-in-M4-clause-attempt
returns-in-M4-clause-attempt c = c.take_m4.ensures.attempt

pub returns-in-G2-clause-attempt : goal.returns-in-G2-clause-attempt
returns-in-G2-clause-attempt c = leaves_none c.take_g2.new.reply.installed c.args.self.now c.take_g2.new.self c.take_g2.ensures.none (ap (λ (o : Option Attempt). is_some o) c.take_g2.ensures.attempt)

pub returns-in_default-clause-attempt : goal.returns-in_default-clause-attempt
returns-in_default-clause-attempt c = leaves_none c.empty.result.installed c.args.self.now c.args.self.now c.empty.ensures.installed refl

pub returns-in-M2-clause-keys : goal.returns-in-M2-clause-keys
returns-in-M2-clause-keys c = subst (λ (m : Message). HasKeysOf m c.take_m2.new.reply) (sym c.in-M2.is) (derived_by c.take_m2.new.reply c.take_m2.ensures.none)

pub returns-in-M4-clause-keys : goal.returns-in-M4-clause-keys
returns-in-M4-clause-keys c = subst (λ (m : Message). HasKeysOf m c.take_m4.new.reply) (sym c.in-M4.is) (installed_by c.take_m4.new.reply c.take_m4.ensures.underived)

pub returns-in-G2-clause-keys : goal.returns-in-G2-clause-keys
returns-in-G2-clause-keys c = no_keys c.args.message c.take_g2.new.reply c.take_g2.ensures.underived c.take_g2.ensures.none

pub returns-in_default-clause-keys : goal.returns-in_default-clause-keys
returns-in_default-clause-keys c = no_keys c.args.message c.empty.result c.empty.ensures.derived c.empty.ensures.installed

-- which kinds there are
pub returns-in-M2-clause-kinds : goal.returns-in-M2-clause-kinds
returns-in-M2-clause-kinds c = kinds_none c.take_m2.new.reply.installed (kinds c.take_m2.new.self) (kinds c.args.self.now) c.take_m2.ensures.none c.take_m2.ensures.kinds

pub returns-in-M4-clause-kinds : goal.returns-in-M4-clause-kinds
returns-in-M4-clause-kinds c = c.take_m4.ensures.kinds

pub returns-in-G2-clause-kinds : goal.returns-in-G2-clause-kinds
returns-in-G2-clause-kinds c = kinds_none c.take_g2.new.reply.installed (kinds c.take_g2.new.self) (kinds c.args.self.now) c.take_g2.ensures.none c.take_g2.ensures.kinds

pub returns-in_default-clause-kinds : goal.returns-in_default-clause-kinds
returns-in_default-clause-kinds c = kinds_none c.empty.result.installed (kinds c.args.self.now) (kinds c.args.self.now) c.empty.ensures.installed refl
