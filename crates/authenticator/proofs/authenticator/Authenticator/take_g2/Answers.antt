use Rattle.std.proofs.Common.{Option, Some, sym, ap, ◌∙◌}
use Rattle.eapol_key.specs.declared.messages.Message.TheVariants.{G2}
use Rattle.run_journal.specs.declared.acts.Outcome.TheVariants.{Accepted, Refused}
use Rattle.authenticator.specs.Groups.{replied_to}
use Rattle.authenticator.specs.Judged.{frame_of}
use Rattle.authenticator.specs.Kinds.{kinds}
use Rattle.authenticator.specs.State.{State}
use Rattle.authenticator.specs.Taken.{given}
use Rattle.authenticator.specs.declared.session.Session.{Session}
use Rattle.authenticator.proofs.Refusing.{steps_to}
use Rattle.authenticator.proofs.Answered.{no_g2, takes_refused_g2, takes_answered}
use Rattle.authenticator.proofs.Replying.{empty_whole}
use Rattle.authenticator.proofs.KindsOf.{kinds_in}
use Rattle.authenticator.proofs.Unchanging.{not_refused, none_some, named_whole, session_back}
use Rattle.authenticator.proofs.authenticator.Authenticator.take_g2.Goals as goal

pub returns-in_default-clause-steps : goal.returns-in_default-clause-steps
returns-in_default-clause-steps c =
    let s : State = record { ends = c.self.inside.ends; attempt = c.self.inside.attempt; session = c.self.inside.session } in
    rw (← c.self.view_is) (no_g2 s (frame_of c.args.frame.now) c.args.news.now c.args.reply.now c.in_default.is c.requires.empty)

pub returns-in-Err-clause-steps : goal.returns-in-Err-clause-steps
returns-in-Err-clause-steps c =
    let s : State = record { ends = c.self.inside.ends; attempt = c.self.inside.attempt; session = c.self.inside.session } in
    rw (← c.self.view_is)
    (steps_to s s (record s { session = Some c.in-Some.session }) (given G2 (frame_of c.args.frame.now) c.args.news.now) (Refused c.in-Err.why) c.args.reply.now
    (ap (λ (o : Option Session). record s { session = o }) c.in-Some.is)
    (takes_refused_g2 s c.in-Some.session (frame_of c.args.frame.now) c.args.news.now c.in-Err.why c.args.reply.now c.in-Some.is c.in-Err.ensures c.requires.empty))

pub returns-clause-steps : goal.returns-clause-steps
returns-clause-steps c =
    let s : State = record { ends = c.self.inside.ends; attempt = c.self.inside.attempt; session = c.self.inside.session } in
    let t = c.in-Some.session in
    rw (← c.self.view_is)
    (steps_to s (record s { session = Some (replied_to t) }) (record s { session = Some c.answer.new.self }) (given G2 (frame_of c.args.frame.now) c.args.news.now) Accepted (record c.args.reply.now { verified = Some t.ptk.kck })
    (ap (λ (z : Session). record s { session = Some z }) (sym c.answer.ensures))
    (takes_answered s t (frame_of c.args.frame.now) c.args.news.now c.args.reply.now c.in-Some.is c.in-Ok.ensures c.requires.empty))

pub returns-in_default-clause-refused : goal.returns-in_default-clause-refused
returns-in_default-clause-refused c why is = c.self.view_is

pub returns-in-Err-clause-refused : goal.returns-in-Err-clause-refused
returns-in-Err-clause-refused c why is =
    let s : State = record { ends = c.self.inside.ends; attempt = c.self.inside.attempt; session = c.self.inside.session } in
    session_back s c.args.self.now (Some c.in-Some.session) c.self.view_is c.in-Some.is

pub returns-in_default-clause-installs : goal.returns-in_default-clause-installs
returns-in_default-clause-installs c y some = absurd (none_some c.args.reply.now.installed y c.requires.empty.installed some)

pub returns-in_default-clause-derives : goal.returns-in_default-clause-derives
returns-in_default-clause-derives c y some = absurd (none_some c.args.reply.now.derived y c.requires.empty.derived some)

pub returns-in-Err-clause-installs : goal.returns-in-Err-clause-installs
returns-in-Err-clause-installs c y some = absurd (none_some c.args.reply.now.installed y c.requires.empty.installed some)

pub returns-in-Err-clause-derives : goal.returns-in-Err-clause-derives
returns-in-Err-clause-derives c y some = absurd (none_some c.args.reply.now.derived y c.requires.empty.derived some)

pub returns-clause-installs : goal.returns-clause-installs
returns-clause-installs c y some = absurd (none_some c.args.reply.now.installed y c.requires.empty.installed some)

pub returns-clause-derives : goal.returns-clause-derives
returns-clause-derives c y some = absurd (none_some c.args.reply.now.derived y c.requires.empty.derived some)

pub returns-in_default-clause-fits : goal.returns-in_default-clause-fits
returns-in_default-clause-fits c = empty_whole c.args.reply.now c.requires.empty

pub returns-in-Err-clause-fits : goal.returns-in-Err-clause-fits
returns-in-Err-clause-fits c = empty_whole c.args.reply.now c.requires.empty

pub returns-clause-fits : goal.returns-clause-fits
returns-clause-fits c = named_whole c.args.reply.now (Some c.in-Some.session.ptk.kck) c.requires.empty

pub returns-in_default-clause-none : goal.returns-in_default-clause-none
returns-in_default-clause-none c = c.requires.empty.installed

pub returns-in-Err-clause-none : goal.returns-in-Err-clause-none
returns-in-Err-clause-none c = c.requires.empty.installed

pub returns-clause-none : goal.returns-clause-none
returns-clause-none c = c.requires.empty.installed

pub returns-clause-refused : goal.returns-clause-refused
returns-clause-refused c why is = absurd (not_refused why is)

-- beside whatever attempt there is
pub returns-in_default-clause-beside : goal.returns-in_default-clause-beside
returns-in_default-clause-beside c o =
    let s : State = record { ends = c.self.inside.ends; attempt = o; session = c.self.inside.session } in
    rw (← c.self.view_is) (no_g2 s (frame_of c.args.frame.now) c.args.news.now c.args.reply.now c.in_default.is c.requires.empty)

pub returns-in-Err-clause-beside : goal.returns-in-Err-clause-beside
returns-in-Err-clause-beside c o =
    let s : State = record { ends = c.self.inside.ends; attempt = o; session = c.self.inside.session } in
    rw (← c.self.view_is)
    (steps_to s s (record s { session = Some c.in-Some.session }) (given G2 (frame_of c.args.frame.now) c.args.news.now) (Refused c.in-Err.why) c.args.reply.now
    (ap (λ (o : Option Session). record s { session = o }) c.in-Some.is)
    (takes_refused_g2 s c.in-Some.session (frame_of c.args.frame.now) c.args.news.now c.in-Err.why c.args.reply.now c.in-Some.is c.in-Err.ensures c.requires.empty))

pub returns-clause-beside : goal.returns-clause-beside
returns-clause-beside c o =
    let s : State = record { ends = c.self.inside.ends; attempt = o; session = c.self.inside.session } in
    let t = c.in-Some.session in
    rw (← c.self.view_is)
    (steps_to s (record s { session = Some (replied_to t) }) (record s { session = Some c.answer.new.self }) (given G2 (frame_of c.args.frame.now) c.args.news.now) Accepted (record c.args.reply.now { verified = Some t.ptk.kck })
    (ap (λ (z : Session). record s { session = Some z }) (sym c.answer.ensures))
    (takes_answered s t (frame_of c.args.frame.now) c.args.news.now c.args.reply.now c.in-Some.is c.in-Ok.ensures c.requires.empty))

pub returns-in_default-clause-attempt : goal.returns-in_default-clause-attempt
returns-in_default-clause-attempt c = ap (λ (s : State). s.attempt) c.self.view_is

pub returns-in-Err-clause-attempt : goal.returns-in-Err-clause-attempt
returns-in-Err-clause-attempt c = ap (λ (s : State). s.attempt) c.self.view_is

pub returns-clause-attempt : goal.returns-clause-attempt
returns-clause-attempt c = ap (λ (s : State). s.attempt) c.self.view_is

pub returns-in_default-clause-underived : goal.returns-in_default-clause-underived
returns-in_default-clause-underived c = c.requires.empty.derived

pub returns-in-Err-clause-underived : goal.returns-in-Err-clause-underived
returns-in-Err-clause-underived c = c.requires.empty.derived

pub returns-clause-underived : goal.returns-clause-underived
returns-clause-underived c = c.requires.empty.derived

-- which kinds there are
pub returns-in_default-clause-kinds : goal.returns-in_default-clause-kinds
returns-in_default-clause-kinds c = ap kinds c.self.view_is

pub returns-in-Err-clause-kinds : goal.returns-in-Err-clause-kinds
returns-in-Err-clause-kinds c =
    let s : State = record { ends = c.self.inside.ends; attempt = c.self.inside.attempt; session = c.self.inside.session } in
    ap kinds (session_back s c.args.self.now (Some c.in-Some.session) c.self.view_is c.in-Some.is)

pub returns-clause-kinds : goal.returns-clause-kinds
returns-clause-kinds c =
    let s : State = record { ends = c.self.inside.ends; attempt = c.self.inside.attempt; session = c.self.inside.session } in
    kinds_in s c.in-Some.session c.answer.new.self c.in-Some.is (ap (λ (z : Session). z.association) c.answer.ensures) ∙ ap kinds c.self.view_is
