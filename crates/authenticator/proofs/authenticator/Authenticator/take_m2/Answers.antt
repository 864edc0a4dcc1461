use Rattle.std.proofs.Common.{Option, Some, sym, ap, subst, ◌∙◌}
use Rattle.std.specs.Prelude.{is_some}
use Rattle.eapol_key.specs.declared.messages.Message.TheVariants.{M2}
use Rattle.run_journal.specs.declared.acts.Outcome.TheVariants.{Accepted, Refused}
use Rattle.run_journal.specs.declared.acts.Reason.TheVariants as reason
use Rattle.authenticator.specs.Agreed.{Agreed}
use Rattle.authenticator.specs.Counters.{moved}
use Rattle.authenticator.specs.Kinds.{kinds}
use Rattle.authenticator.specs.Judged.{frame_of, answered, Answers, TellsDerived}
use Rattle.authenticator.specs.State.{State}
use Rattle.authenticator.specs.Taken.{given}
use Rattle.authenticator.specs.declared.attempt.Attempt.{Attempt}
use Rattle.authenticator.proofs.Refusing.{no_m2, steps_to}
use Rattle.authenticator.proofs.Answering.{takes_refused_m2, takes_other_m2, takes_agreed}
use Rattle.authenticator.proofs.Replying.{empty_whole}
use Rattle.authenticator.proofs.Beside.{shown_as, moved_plain, plain_in, next_plain}
use Rattle.authenticator.proofs.KindsOf.{kinds_on}
use Rattle.authenticator.proofs.Unchanging.{not_refused, none_some, in_attempt, named_whole, attempt_back}
use Rattle.authenticator.proofs.authenticator.Authenticator.take_m2.Goals as goal

pub returns-in_default-clause-steps : goal.returns-in_default-clause-steps
returns-in_default-clause-steps c =
    let s : State = record { ends = c.self.inside.ends; attempt = c.self.inside.attempt; session = c.self.inside.session } in
    rw (← c.self.view_is) (no_m2 s (frame_of c.args.frame.now) c.args.news.now c.args.reply.now c.in_default.is c.requires.empty)

pub returns-in-Refused-clause-steps : goal.returns-in-Refused-clause-steps
returns-in-Refused-clause-steps c =
    let s : State = record { ends = c.self.inside.ends; attempt = c.self.inside.attempt; session = c.self.inside.session } in
    rw (← c.self.view_is)
    (steps_to s s (record s { attempt = Some c.in-Some.attempt }) (given M2 (frame_of c.args.frame.now) c.args.news.now) (Refused c.in-Refused.why) c.args.reply.now
    (ap (λ (o : Option Attempt). record s { attempt = o }) c.in-Some.is)
    (takes_refused_m2 s c.in-Some.attempt (frame_of c.args.frame.now) c.args.news.now c.in-Refused.why c.args.reply.now c.in-Some.is c.in-Refused.ensures c.requires.empty))

pub returns-in-Other-clause-steps : goal.returns-in-Other-clause-steps
returns-in-Other-clause-steps c =
    let s : State = record { ends = c.self.inside.ends; attempt = c.self.inside.attempt; session = c.self.inside.session } in
    rw (← c.self.view_is)
    (steps_to s s (record s { attempt = Some c.in-Some.attempt }) (given M2 (frame_of c.args.frame.now) c.args.news.now) (Refused (reason.KeyData c.in-Other.fault)) (record c.args.reply.now { verified = Some c.in-Other.key.ptk.kck })
    (ap (λ (o : Option Attempt). record s { attempt = o }) c.in-Some.is)
    (takes_other_m2 s c.in-Some.attempt (frame_of c.args.frame.now) c.args.news.now c.in-Other.fault c.in-Other.key c.args.reply.now c.in-Some.is c.in-Other.ensures c.requires.empty))

pub returns-clause-steps : goal.returns-clause-steps
returns-clause-steps c =
    let s : State = record { ends = c.self.inside.ends; attempt = c.self.inside.attempt; session = c.self.inside.session } in
    let a = c.in-Some.attempt in
    let y : Agreed = record { key = c.in-Agreed.key; news = c.args.news.now; plain = c.m3_key_data-plain.result } in
    let counter = c.next-counter.result in
    let r = c.answer_m2.new.reply in
    rw (← c.self.view_is)
    (steps_to s (record s { attempt = Some (answered counter y a); session = moved a.renews counter s.session }) (record s { attempt = Some c.answer_m2.new.self; session = c.move_on.new.session }) (given M2 (frame_of c.args.frame.now) c.args.news.now) Accepted r
    (shown_as s (Some (answered counter y a)) (Some c.answer_m2.new.self) (moved a.renews counter s.session) c.move_on.new.session
    (ap (λ (b : Attempt). Some b) (sym (c.answer_m2.ensures.attempt ∙ ap (λ (z : Agreed). answered counter z a) c.of-agreement.ensures)))
    (sym (c.move_on.ensures ∙ ap (λ (z : Attempt). moved z.renews counter s.session) c.answer_m2.ensures.attempt)))
    (takes_agreed s a (frame_of c.args.frame.now) y counter r c.in-Some.is c.in-Agreed.ensures c.next-counter.ensures (subst (λ (z : Agreed). Answers s.ends counter z r) c.of-agreement.ensures c.answer_m2.ensures.sends)
    (subst (λ (z : Agreed). TellsDerived z.key r) c.of-agreement.ensures c.answer_m2.ensures.told) c.m3_key_data-plain.ensures.octets))

pub returns-in_default-clause-refused : goal.returns-in_default-clause-refused
returns-in_default-clause-refused c why is = c.self.view_is

pub returns-in-Refused-clause-refused : goal.returns-in-Refused-clause-refused
returns-in-Refused-clause-refused c why is =
    let s : State = record { ends = c.self.inside.ends; attempt = c.self.inside.attempt; session = c.self.inside.session } in
    attempt_back s c.args.self.now (Some c.in-Some.attempt) c.self.view_is c.in-Some.is

pub returns-in-Other-clause-refused : goal.returns-in-Other-clause-refused
returns-in-Other-clause-refused c why is =
    let s : State = record { ends = c.self.inside.ends; attempt = c.self.inside.attempt; session = c.self.inside.session } in
    attempt_back s c.args.self.now (Some c.in-Some.attempt) c.self.view_is c.in-Some.is

pub returns-in_default-clause-installs : goal.returns-in_default-clause-installs
returns-in_default-clause-installs c y some = absurd (none_some c.args.reply.now.installed y c.requires.empty.installed some)

pub returns-in-Refused-clause-installs : goal.returns-in-Refused-clause-installs
returns-in-Refused-clause-installs c y some = absurd (none_some c.args.reply.now.installed y c.requires.empty.installed some)

pub returns-in-Other-clause-installs : goal.returns-in-Other-clause-installs
returns-in-Other-clause-installs c y some = absurd (none_some c.args.reply.now.installed y c.requires.empty.installed some)

pub returns-clause-installs : goal.returns-clause-installs
returns-clause-installs c y some = absurd (none_some c.answer_m2.new.reply.installed y c.answer_m2.ensures.told.installed some)

pub returns-in_default-clause-derives : goal.returns-in_default-clause-derives
returns-in_default-clause-derives c y some = absurd (none_some c.args.reply.now.derived y c.requires.empty.derived some)

pub returns-in-Refused-clause-derives : goal.returns-in-Refused-clause-derives
returns-in-Refused-clause-derives c y some = absurd (none_some c.args.reply.now.derived y c.requires.empty.derived some)

pub returns-in-Other-clause-derives : goal.returns-in-Other-clause-derives
returns-in-Other-clause-derives c y some = absurd (none_some c.args.reply.now.derived y c.requires.empty.derived some)

pub returns-clause-derives : goal.returns-clause-derives
returns-clause-derives c y some =
    let s : State = record { ends = c.self.inside.ends; attempt = c.self.inside.attempt; session = c.self.inside.session } in
    in_attempt s c.args.self.now c.in-Some.attempt c.self.view_is c.in-Some.is

pub returns-in_default-clause-fits : goal.returns-in_default-clause-fits
returns-in_default-clause-fits c = empty_whole c.args.reply.now c.requires.empty

pub returns-in-Refused-clause-fits : goal.returns-in-Refused-clause-fits
returns-in-Refused-clause-fits c = empty_whole c.args.reply.now c.requires.empty

pub returns-in-Other-clause-fits : goal.returns-in-Other-clause-fits
returns-in-Other-clause-fits c = named_whole c.args.reply.now (Some c.in-Other.key.ptk.kck) c.requires.empty

pub returns-clause-fits : goal.returns-clause-fits
returns-clause-fits c = c.answer_m2.ensures.fits

pub returns-in_default-clause-none : goal.returns-in_default-clause-none
returns-in_default-clause-none c = c.requires.empty.installed

pub returns-in-Refused-clause-none : goal.returns-in-Refused-clause-none
returns-in-Refused-clause-none c = c.requires.empty.installed

pub returns-in-Other-clause-none : goal.returns-in-Other-clause-none
returns-in-Other-clause-none c = c.requires.empty.installed

pub returns-clause-none : goal.returns-clause-none
returns-clause-none c = c.answer_m2.ensures.told.installed

pub returns-clause-refused : goal.returns-clause-refused
returns-clause-refused c why is = absurd (not_refused why is)

-- beside whatever session there is
pub returns-in_default-clause-beside : goal.returns-in_default-clause-beside
returns-in_default-clause-beside c o plain =
    let s : State = record { ends = c.self.inside.ends; attempt = c.self.inside.attempt; session = o } in
    rw (← c.self.view_is) (no_m2 s (frame_of c.args.frame.now) c.args.news.now c.args.reply.now c.in_default.is c.requires.empty)

pub returns-in-Refused-clause-beside : goal.returns-in-Refused-clause-beside
returns-in-Refused-clause-beside c o plain =
    let s : State = record { ends = c.self.inside.ends; attempt = c.self.inside.attempt; session = o } in
    rw (← c.self.view_is)
    (steps_to s s (record s { attempt = Some c.in-Some.attempt }) (given M2 (frame_of c.args.frame.now) c.args.news.now) (Refused c.in-Refused.why) c.args.reply.now
    (ap (λ (o : Option Attempt). record s { attempt = o }) c.in-Some.is)
    (takes_refused_m2 s c.in-Some.attempt (frame_of c.args.frame.now) c.args.news.now c.in-Refused.why c.args.reply.now c.in-Some.is c.in-Refused.ensures c.requires.empty))

pub returns-in-Other-clause-beside : goal.returns-in-Other-clause-beside
returns-in-Other-clause-beside c o plain =
    let s : State = record { ends = c.self.inside.ends; attempt = c.self.inside.attempt; session = o } in
    rw (← c.self.view_is)
    (steps_to s s (record s { attempt = Some c.in-Some.attempt }) (given M2 (frame_of c.args.frame.now) c.args.news.now) (Refused (reason.KeyData c.in-Other.fault)) (record c.args.reply.now { verified = Some c.in-Other.key.ptk.kck })
    (ap (λ (o : Option Attempt). record s { attempt = o }) c.in-Some.is)
    (takes_other_m2 s c.in-Some.attempt (frame_of c.args.frame.now) c.args.news.now c.in-Other.fault c.in-Other.key c.args.reply.now c.in-Some.is c.in-Other.ensures c.requires.empty))

pub returns-clause-beside : goal.returns-clause-beside
returns-clause-beside c o none =
    let s : State = record { ends = c.self.inside.ends; attempt = c.self.inside.attempt; session = o } in
    let was : State = record { ends = c.self.inside.ends; attempt = c.self.inside.attempt; session = c.self.inside.session } in
    let a = c.in-Some.attempt in
    let y : Agreed = record { key = c.in-Agreed.key; news = c.args.news.now; plain = c.m3_key_data-plain.result } in
    let counter = c.next-counter.result in
    let r = c.answer_m2.new.reply in
    let plain = plain_in was c.args.self.now a c.self.view_is c.in-Some.is none in
    rw (← c.self.view_is)
    (steps_to s (record s { attempt = Some (answered counter y a); session = moved a.renews counter o }) (record s { attempt = Some c.answer_m2.new.self }) (given M2 (frame_of c.args.frame.now) c.args.news.now) Accepted r
    (shown_as s (Some (answered counter y a)) (Some c.answer_m2.new.self) (moved a.renews counter o) o
    (ap (λ (b : Attempt). Some b) (sym (c.answer_m2.ensures.attempt ∙ ap (λ (z : Agreed). answered counter z a) c.of-agreement.ensures)))
    (moved_plain a.renews counter o plain))
    (takes_agreed s a (frame_of c.args.frame.now) y counter r c.in-Some.is c.in-Agreed.ensures (next_plain a c.self.inside.session o counter plain c.next-counter.ensures) (subst (λ (z : Agreed). Answers s.ends counter z r) c.of-agreement.ensures c.answer_m2.ensures.sends)
    (subst (λ (z : Agreed). TellsDerived z.key r) c.of-agreement.ensures c.answer_m2.ensures.told) c.m3_key_data-plain.ensures.octets))

pub returns-in_default-clause-attempt : goal.returns-in_default-clause-attempt
returns-in_default-clause-attempt c = ap (λ (s : State). is_some s.attempt) c.self.view_is

pub returns-in-Refused-clause-attempt : goal.returns-in-Refused-clause-attempt
returns-in-Refused-clause-attempt c =
    let s : State = record { ends = c.self.inside.ends; attempt = c.self.inside.attempt; session = c.self.inside.session } in
    sym (in_attempt s c.args.self.now c.in-Some.attempt c.self.view_is c.in-Some.is)

pub returns-in-Other-clause-attempt : goal.returns-in-Other-clause-attempt
returns-in-Other-clause-attempt c =
    let s : State = record { ends = c.self.inside.ends; attempt = c.self.inside.attempt; session = c.self.inside.session } in
    sym (in_attempt s c.args.self.now c.in-Some.attempt c.self.view_is c.in-Some.is)

pub returns-clause-attempt : goal.returns-clause-attempt
returns-clause-attempt c =
    let s : State = record { ends = c.self.inside.ends; attempt = c.self.inside.attempt; session = c.self.inside.session } in
    sym (in_attempt s c.args.self.now c.in-Some.attempt c.self.view_is c.in-Some.is)

-- which kinds there are
pub returns-in_default-clause-kinds : goal.returns-in_default-clause-kinds
returns-in_default-clause-kinds c = ap kinds c.self.view_is

pub returns-in-Refused-clause-kinds : goal.returns-in-Refused-clause-kinds
returns-in-Refused-clause-kinds c =
    let s : State = record { ends = c.self.inside.ends; attempt = c.self.inside.attempt; session = c.self.inside.session } in
    ap kinds (attempt_back s c.args.self.now (Some c.in-Some.attempt) c.self.view_is c.in-Some.is)

pub returns-in-Other-clause-kinds : goal.returns-in-Other-clause-kinds
returns-in-Other-clause-kinds c =
    let s : State = record { ends = c.self.inside.ends; attempt = c.self.inside.attempt; session = c.self.inside.session } in
    ap kinds (attempt_back s c.args.self.now (Some c.in-Some.attempt) c.self.view_is c.in-Some.is)

pub returns-clause-kinds : goal.returns-clause-kinds
returns-clause-kinds c =
    let s : State = record { ends = c.self.inside.ends; attempt = c.self.inside.attempt; session = c.self.inside.session } in
    kinds_on s c.in-Some.attempt c.answer_m2.new.self c.next-counter.result c.move_on.new.session c.in-Some.is (ap (λ (z : Attempt). z.renews) c.answer_m2.ensures.attempt)
    (c.move_on.ensures ∙ ap (λ (z : Attempt). moved z.renews c.next-counter.result s.session) c.answer_m2.ensures.attempt)
    ∙ ap kinds c.self.view_is
