use Rattle.std.proofs.Common.{◌≡◌, Option, Some, None, refl, sym, ap, ◌∙◌}
use Rattle.eapol_key.specs.declared.messages.Message.TheVariants.{M4}
use Rattle.run_journal.specs.declared.acts.Outcome.TheVariants.{Accepted, Refused}
use Rattle.run_journal.specs.declared.acts.Reason.TheVariants as reason
use Rattle.std.specs.Prelude.{is_some}
use Rattle.authenticator.specs.Judged.{frame_of, is_final_m4}
use Rattle.run_journal.specs.declared.reply.Keyed.{Keyed}
use Rattle.authenticator.specs.Kinds.{kinds}
use Rattle.authenticator.specs.State.{State}
use Rattle.authenticator.specs.Taken.{given}
use Rattle.authenticator.specs.declared.attempt.Attempt.{Attempt}
use Rattle.authenticator.proofs.Final.{final_finished, final_refused, judged_as}
use Rattle.authenticator.proofs.Refusing.{no_m4, steps_to}
use Rattle.authenticator.proofs.Finishing.{takes_refused_m4, takes_finished}
use Rattle.authenticator.proofs.Installing.{installs_finished}
use Rattle.authenticator.proofs.Replying.{empty_whole}
use Rattle.authenticator.proofs.Unchanging.{not_refused, none_some, in_attempt, attempt_back}
use Rattle.authenticator.specs.Beside.{session_after}
use Rattle.authenticator.proofs.Beside.{none_after, some_after, shown_as, leaves_none, leaves_some, plain_in, last_plain}
use Rattle.authenticator.proofs.KindsOf.{kinds_none, kinds_finished}
use Rattle.authenticator.proofs.authenticator.Authenticator.take_m4.Goals as goal

pub returns-in_default-clause-steps : goal.returns-in_default-clause-steps
returns-in_default-clause-steps c =
    let s : State = record { ends = c.self.inside.ends; attempt = c.self.inside.attempt; session = c.self.inside.session } in
    let none : s.attempt ≡ None = sym c.take.ensures.value ∙ c.in_default.is in
    rw (← c.self.view_is)
    (steps_to s s (record s { attempt = c.take.new.self }) (given M4 (frame_of c.args.frame.now) c.args.news.now) (Refused reason.Unawaited) c.args.reply.now
    (ap (λ (o : Option Attempt). record s { attempt = o }) (none ∙ sym c.take.ensures.after)) (no_m4 s (frame_of c.args.frame.now) c.args.news.now c.args.reply.now none c.requires.empty))

pub returns-in-Refused-clause-steps : goal.returns-in-Refused-clause-steps
returns-in-Refused-clause-steps c =
    let s : State = record { ends = c.self.inside.ends; attempt = c.self.inside.attempt; session = c.self.inside.session } in
    let some : s.attempt ≡ Some c.in-Some.attempt = sym c.take.ensures.value ∙ c.in-Some.is in
    rw (← c.self.view_is)
    (steps_to s s (record s { attempt = Some c.in-Refused.attempt }) (given M4 (frame_of c.args.frame.now) c.args.news.now) (Refused c.in-Refused.why) c.args.reply.now
    (ap (λ (o : Option Attempt). record s { attempt = o }) (some ∙ ap (λ (a : Attempt). Some a) (sym (c.in-Refused.ensures c.self.inside.ends.akm (judged_as c.args.is_last c.self.inside.ends c.self.inside.attempt c.self.inside.session c.args.self.now c.in-Some.attempt (frame_of c.args.frame.now) c.self.view_is (sym c.take.ensures.value ∙ c.in-Some.is) c.requires.judged)).0)))
    (takes_refused_m4 s c.in-Some.attempt (frame_of c.args.frame.now) c.args.news.now c.in-Refused.why c.args.reply.now some (c.in-Refused.ensures c.self.inside.ends.akm (judged_as c.args.is_last c.self.inside.ends c.self.inside.attempt c.self.inside.session c.args.self.now c.in-Some.attempt (frame_of c.args.frame.now) c.self.view_is (sym c.take.ensures.value ∙ c.in-Some.is) c.requires.judged)).1 c.requires.empty))

pub returns-in-Finished-clause-steps : goal.returns-in-Finished-clause-steps
returns-in-Finished-clause-steps c =
    let s : State = record { ends = c.self.inside.ends; attempt = c.self.inside.attempt; session = c.self.inside.session } in
    let u = c.install-session.result in
    rw (← c.self.view_is)
    (steps_to s (record s { attempt = None; session = Some u }) (record s { attempt = c.take.new.self; session = Some u }) (given M4 (frame_of c.args.frame.now) c.args.news.now) Accepted c.install-session.new.reply
    (ap (λ (o : Option Attempt). record s { attempt = o; session = Some u }) (sym c.take.ensures.after))
    (takes_finished s c.in-Some.attempt (frame_of c.args.frame.now) c.args.news.now c.last-last.result c.in-Finished.finish u c.install-session.new.reply (sym c.take.ensures.value ∙ c.in-Some.is) c.last-last.ensures (c.in-Finished.ensures c.self.inside.ends.akm (judged_as c.args.is_last c.self.inside.ends c.self.inside.attempt c.self.inside.session c.args.self.now c.in-Some.attempt (frame_of c.args.frame.now) c.self.view_is (sym c.take.ensures.value ∙ c.in-Some.is) c.requires.judged)) c.install-session.ensures.installed))

pub returns-in-Finished-clause-installs : goal.returns-in-Finished-clause-installs
returns-in-Finished-clause-installs c =
    let u = c.install-session.result in
    let s : State = record { ends = c.self.inside.ends; attempt = c.take.new.self; session = Some u } in
    installs_finished c.self.inside.ends c.args.news.now c.in-Finished.finish u c.install-session.new.reply s
    ((c.in-Finished.ensures c.self.inside.ends.akm (judged_as c.args.is_last c.self.inside.ends c.self.inside.attempt c.self.inside.session c.args.self.now c.in-Some.attempt (frame_of c.args.frame.now) c.self.view_is (sym c.take.ensures.value ∙ c.in-Some.is) c.requires.judged)).ptk_is ∙ ap (λ (y : Keyed). y.ptk) (sym (c.in-Finished.ensures c.self.inside.ends.akm (judged_as c.args.is_last c.self.inside.ends c.self.inside.attempt c.self.inside.session c.args.self.now c.in-Some.attempt (frame_of c.args.frame.now) c.self.view_is (sym c.take.ensures.value ∙ c.in-Some.is) c.requires.judged)).key_is)) c.install-session.ensures.installed refl

pub returns-in_default-clause-is_final : goal.returns-in_default-clause-is_final
returns-in_default-clause-is_final c =
    let none : c.self.inside.attempt ≡ None = sym c.take.ensures.value ∙ c.in_default.is in
    rw (← c.self.view_is)
    (ap (λ (o : Option Keyed). is_some o) c.requires.empty.installed ∙ ap (λ (o : Option Attempt). is_final_m4 c.self.inside.ends.akm o (frame_of c.args.frame.now)) (sym none))

pub returns-in-Refused-clause-is_final : goal.returns-in-Refused-clause-is_final
returns-in-Refused-clause-is_final c =
    let some : c.self.inside.attempt ≡ Some c.in-Some.attempt = sym c.take.ensures.value ∙ c.in-Some.is in
    rw (← c.self.view_is)
    (ap (λ (o : Option Keyed). is_some o) c.requires.empty.installed
    ∙ sym (ap (λ (o : Option Attempt). is_final_m4 c.self.inside.ends.akm o (frame_of c.args.frame.now)) some ∙ final_refused c.self.inside.ends.akm c.in-Some.attempt (frame_of c.args.frame.now) c.in-Refused.why (c.in-Refused.ensures c.self.inside.ends.akm (judged_as c.args.is_last c.self.inside.ends c.self.inside.attempt c.self.inside.session c.args.self.now c.in-Some.attempt (frame_of c.args.frame.now) c.self.view_is (sym c.take.ensures.value ∙ c.in-Some.is) c.requires.judged)).1))

pub returns-in-Finished-clause-is_final : goal.returns-in-Finished-clause-is_final
returns-in-Finished-clause-is_final c =
    let some : c.self.inside.attempt ≡ Some c.in-Some.attempt = sym c.take.ensures.value ∙ c.in-Some.is in
    rw (← c.self.view_is)
    (ap (λ (o : Option Keyed). is_some o) c.install-session.ensures.installed.installed
    ∙ sym (ap (λ (o : Option Attempt). is_final_m4 c.self.inside.ends.akm o (frame_of c.args.frame.now)) some ∙ final_finished c.self.inside.ends.akm c.in-Some.attempt (frame_of c.args.frame.now) c.args.news.now.gtk c.last-last.result c.in-Finished.finish (c.in-Finished.ensures c.self.inside.ends.akm (judged_as c.args.is_last c.self.inside.ends c.self.inside.attempt c.self.inside.session c.args.self.now c.in-Some.attempt (frame_of c.args.frame.now) c.self.view_is (sym c.take.ensures.value ∙ c.in-Some.is) c.requires.judged))))

pub returns-in_default-clause-refused : goal.returns-in_default-clause-refused
returns-in_default-clause-refused c why is =
    let s : State = record { ends = c.self.inside.ends; attempt = c.self.inside.attempt; session = c.self.inside.session } in
    let none : s.attempt ≡ None = sym c.take.ensures.value ∙ c.in_default.is in
    attempt_back s c.args.self.now c.take.new.self c.self.view_is (none ∙ sym c.take.ensures.after)

pub returns-in-Refused-clause-refused : goal.returns-in-Refused-clause-refused
returns-in-Refused-clause-refused c why is =
    let s : State = record { ends = c.self.inside.ends; attempt = c.self.inside.attempt; session = c.self.inside.session } in
    let some : s.attempt ≡ Some c.in-Some.attempt = sym c.take.ensures.value ∙ c.in-Some.is in
    attempt_back s c.args.self.now (Some c.in-Refused.attempt) c.self.view_is (some ∙ ap (λ (a : Attempt). Some a) (sym (c.in-Refused.ensures c.self.inside.ends.akm (judged_as c.args.is_last c.self.inside.ends c.self.inside.attempt c.self.inside.session c.args.self.now c.in-Some.attempt (frame_of c.args.frame.now) c.self.view_is (sym c.take.ensures.value ∙ c.in-Some.is) c.requires.judged)).0))

pub returns-in_default-clause-installs : goal.returns-in_default-clause-installs
returns-in_default-clause-installs c y some = absurd (none_some c.args.reply.now.installed y c.requires.empty.installed some)

pub returns-in_default-clause-derives : goal.returns-in_default-clause-derives
returns-in_default-clause-derives c y some = absurd (none_some c.args.reply.now.derived y c.requires.empty.derived some)

pub returns-in_default-clause-fits : goal.returns-in_default-clause-fits
returns-in_default-clause-fits c = empty_whole c.args.reply.now c.requires.empty

pub returns-in-Refused-clause-installs : goal.returns-in-Refused-clause-installs
returns-in-Refused-clause-installs c y some = absurd (none_some c.args.reply.now.installed y c.requires.empty.installed some)

pub returns-in-Refused-clause-derives : goal.returns-in-Refused-clause-derives
returns-in-Refused-clause-derives c y some = absurd (none_some c.args.reply.now.derived y c.requires.empty.derived some)

pub returns-in-Refused-clause-fits : goal.returns-in-Refused-clause-fits
returns-in-Refused-clause-fits c = empty_whole c.args.reply.now c.requires.empty

pub returns-in-Finished-clause-derives : goal.returns-in-Finished-clause-derives
returns-in-Finished-clause-derives c y some =
    let s : State = record { ends = c.self.inside.ends; attempt = c.self.inside.attempt; session = c.self.inside.session } in
    let some : s.attempt ≡ Some c.in-Some.attempt = sym c.take.ensures.value ∙ c.in-Some.is in
    in_attempt s c.args.self.now c.in-Some.attempt c.self.view_is some

pub returns-in-Finished-clause-fits : goal.returns-in-Finished-clause-fits
returns-in-Finished-clause-fits c = c.install-session.ensures.fits

pub returns-in-Finished-clause-refused : goal.returns-in-Finished-clause-refused
returns-in-Finished-clause-refused c why is = absurd (not_refused why is)

-- beside whatever session there is
pub returns-in_default-clause-beside : goal.returns-in_default-clause-beside
returns-in_default-clause-beside c o plain =
    let s : State = record { ends = c.self.inside.ends; attempt = c.self.inside.attempt; session = o } in
    let none : s.attempt ≡ None = sym c.take.ensures.value ∙ c.in_default.is in
    rw (← c.self.view_is)
    (steps_to s s (record s { attempt = c.take.new.self; session = session_after c.args.reply.now.installed c.self.inside.session o }) (given M4 (frame_of c.args.frame.now) c.args.news.now) (Refused reason.Unawaited) c.args.reply.now
    (shown_as s s.attempt c.take.new.self o _ (none ∙ sym c.take.ensures.after) (none_after c.args.reply.now.installed c.self.inside.session o c.requires.empty.installed))
    (no_m4 s (frame_of c.args.frame.now) c.args.news.now c.args.reply.now none c.requires.empty))

pub returns-in-Refused-clause-beside : goal.returns-in-Refused-clause-beside
returns-in-Refused-clause-beside c o plain =
    let s : State = record { ends = c.self.inside.ends; attempt = c.self.inside.attempt; session = o } in
    let some : s.attempt ≡ Some c.in-Some.attempt = sym c.take.ensures.value ∙ c.in-Some.is in
    rw (← c.self.view_is)
    (steps_to s s (record s { attempt = Some c.in-Refused.attempt; session = session_after c.args.reply.now.installed c.self.inside.session o }) (given M4 (frame_of c.args.frame.now) c.args.news.now) (Refused c.in-Refused.why) c.args.reply.now
    (shown_as s s.attempt (Some c.in-Refused.attempt) o _ (some ∙ ap (λ (a : Attempt). Some a) (sym (c.in-Refused.ensures c.self.inside.ends.akm (judged_as c.args.is_last c.self.inside.ends c.self.inside.attempt c.self.inside.session c.args.self.now c.in-Some.attempt (frame_of c.args.frame.now) c.self.view_is (sym c.take.ensures.value ∙ c.in-Some.is) c.requires.judged)).0)) (none_after c.args.reply.now.installed c.self.inside.session o c.requires.empty.installed))
    (takes_refused_m4 s c.in-Some.attempt (frame_of c.args.frame.now) c.args.news.now c.in-Refused.why c.args.reply.now some (c.in-Refused.ensures c.self.inside.ends.akm (judged_as c.args.is_last c.self.inside.ends c.self.inside.attempt c.self.inside.session c.args.self.now c.in-Some.attempt (frame_of c.args.frame.now) c.self.view_is (sym c.take.ensures.value ∙ c.in-Some.is) c.requires.judged)).1 c.requires.empty))

pub returns-in-Finished-clause-beside : goal.returns-in-Finished-clause-beside
returns-in-Finished-clause-beside c o none =
    let s : State = record { ends = c.self.inside.ends; attempt = c.self.inside.attempt; session = o } in
    let was : State = record { ends = c.self.inside.ends; attempt = c.self.inside.attempt; session = c.self.inside.session } in
    let plain = plain_in was c.args.self.now c.in-Some.attempt c.self.view_is (sym c.take.ensures.value ∙ c.in-Some.is) none in
    let u = c.install-session.result in
    let r = c.install-session.new.reply in
    rw (← c.self.view_is)
    (steps_to s (record s { attempt = None; session = Some u }) (record s { attempt = c.take.new.self; session = session_after r.installed (Some u) o }) (given M4 (frame_of c.args.frame.now) c.args.news.now) Accepted r
    (shown_as s None c.take.new.self (Some u) _ (sym c.take.ensures.after) (some_after r.installed c.in-Finished.finish.key (Some u) o c.install-session.ensures.installed.installed))
    (takes_finished s c.in-Some.attempt (frame_of c.args.frame.now) c.args.news.now c.last-last.result c.in-Finished.finish u r (sym c.take.ensures.value ∙ c.in-Some.is) (c.last-last.ensures ∙ last_plain c.in-Some.attempt c.self.inside.session o plain) (c.in-Finished.ensures c.self.inside.ends.akm (judged_as c.args.is_last c.self.inside.ends c.self.inside.attempt c.self.inside.session c.args.self.now c.in-Some.attempt (frame_of c.args.frame.now) c.self.view_is (sym c.take.ensures.value ∙ c.in-Some.is) c.requires.judged)) c.install-session.ensures.installed))

pub returns-in_default-clause-attempt : goal.returns-in_default-clause-attempt
returns-in_default-clause-attempt c =
    let s : State = record { ends = c.self.inside.ends; attempt = c.self.inside.attempt; session = c.self.inside.session } in
    let none : s.attempt ≡ None = sym c.take.ensures.value ∙ c.in_default.is in
    leaves_none c.args.reply.now.installed c.args.self.now (record s { attempt = c.take.new.self }) c.requires.empty.installed
    (ap (λ (o : Option Attempt). is_some o) (c.take.ensures.after ∙ sym none) ∙ ap (λ (z : State). is_some z.attempt) c.self.view_is)

pub returns-in-Refused-clause-attempt : goal.returns-in-Refused-clause-attempt
returns-in-Refused-clause-attempt c =
    let s : State = record { ends = c.self.inside.ends; attempt = c.self.inside.attempt; session = c.self.inside.session } in
    let some : s.attempt ≡ Some c.in-Some.attempt = sym c.take.ensures.value ∙ c.in-Some.is in
    leaves_none c.args.reply.now.installed c.args.self.now (record s { attempt = Some c.in-Refused.attempt }) c.requires.empty.installed (sym (in_attempt s c.args.self.now c.in-Some.attempt c.self.view_is some))

pub returns-in-Finished-clause-attempt : goal.returns-in-Finished-clause-attempt
returns-in-Finished-clause-attempt c =
    let u = c.install-session.result in
    let s : State = record { ends = c.self.inside.ends; attempt = c.take.new.self; session = Some u } in
    leaves_some c.install-session.new.reply.installed c.in-Finished.finish.key c.args.self.now s c.install-session.ensures.installed.installed c.take.ensures.after

pub install-session-requires-clause-fresh : goal.install-session-requires-clause-fresh
install-session-requires-clause-fresh c =
    (c.in-Finished.ensures c.self.inside.ends.akm (judged_as c.args.is_last c.self.inside.ends c.self.inside.attempt c.self.inside.session c.args.self.now c.in-Some.attempt (frame_of c.args.frame.now) c.self.view_is (sym c.take.ensures.value ∙ c.in-Some.is) c.requires.judged)).fresh

pub returns-in_default-clause-underived : goal.returns-in_default-clause-underived
returns-in_default-clause-underived c = c.requires.empty.derived

pub returns-in-Refused-clause-underived : goal.returns-in-Refused-clause-underived
returns-in-Refused-clause-underived c = c.requires.empty.derived

pub returns-in-Finished-clause-underived : goal.returns-in-Finished-clause-underived
returns-in-Finished-clause-underived c = c.install-session.ensures.installed.derived

-- which kinds there are
pub returns-in_default-clause-kinds : goal.returns-in_default-clause-kinds
returns-in_default-clause-kinds c =
    let s : State = record { ends = c.self.inside.ends; attempt = c.self.inside.attempt; session = c.self.inside.session } in
    let none : s.attempt ≡ None = sym c.take.ensures.value ∙ c.in_default.is in
    kinds_none c.args.reply.now.installed (kinds (record s { attempt = c.take.new.self })) (kinds c.args.self.now) c.requires.empty.installed (ap kinds (attempt_back s c.args.self.now c.take.new.self c.self.view_is (none ∙ sym c.take.ensures.after)))

pub returns-in-Refused-clause-kinds : goal.returns-in-Refused-clause-kinds
returns-in-Refused-clause-kinds c =
    let s : State = record { ends = c.self.inside.ends; attempt = c.self.inside.attempt; session = c.self.inside.session } in
    let some : s.attempt ≡ Some c.in-Some.attempt = sym c.take.ensures.value ∙ c.in-Some.is in
    kinds_none c.args.reply.now.installed (kinds (record s { attempt = Some c.in-Refused.attempt })) (kinds c.args.self.now) c.requires.empty.installed
    (ap kinds (attempt_back s c.args.self.now (Some c.in-Refused.attempt) c.self.view_is (some ∙ ap (λ (a : Attempt). Some a) (sym (c.in-Refused.ensures c.self.inside.ends.akm (judged_as c.args.is_last c.self.inside.ends c.self.inside.attempt c.self.inside.session c.args.self.now c.in-Some.attempt (frame_of c.args.frame.now) c.self.view_is (sym c.take.ensures.value ∙ c.in-Some.is) c.requires.judged)).0))))

pub returns-in-Finished-clause-kinds : goal.returns-in-Finished-clause-kinds
returns-in-Finished-clause-kinds c =
    let s : State = record { ends = c.self.inside.ends; attempt = c.self.inside.attempt; session = c.self.inside.session } in
    let u = c.install-session.result in
    ap (λ (o : Option Attempt). kinds (record s { attempt = o; session = Some u })) c.take.ensures.after
    ∙ kinds_finished s c.install-session.new.reply.installed c.in-Finished.finish.key u c.in-Some.attempt.association (kinds c.args.self.now) c.install-session.ensures.installed.installed
    (c.install-session.ensures.installed.associated ∙ (c.in-Finished.ensures c.self.inside.ends.akm (judged_as c.args.is_last c.self.inside.ends c.self.inside.attempt c.self.inside.session c.args.self.now c.in-Some.attempt (frame_of c.args.frame.now) c.self.view_is (sym c.take.ensures.value ∙ c.in-Some.is) c.requires.judged)).associated)
