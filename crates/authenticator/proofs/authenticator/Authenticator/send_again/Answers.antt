use Rattle.std.proofs.Common.{Bool, Option, Some, None, refl, sym, ap, ◌∙◌}
use Rattle.std.specs.Prelude.{is_some}
use Rattle.authenticator.specs.declared.attempt.Attempt.{Attempt}
use Rattle.authenticator.specs.declared.authenticator.Again.TheVariants as again
use Rattle.authenticator.specs.Counters.{moved}
use Rattle.authenticator.specs.Kinds.{kinds, kinds_without}
use Rattle.authenticator.specs.State.{State}
use Rattle.authenticator.proofs.Asking.{retries_to}
use Rattle.authenticator.proofs.Retrying.{retries_sent, retries_given_up}
use Rattle.authenticator.proofs.Beside.{shown_as, leaves_sent, leaves_given_up, moved_plain, plain_in, next_plain}
use Rattle.authenticator.proofs.KindsOf.{kinds_on, kinds_given_up}
use Rattle.authenticator.proofs.authenticator.Authenticator.send_again.Goals as goal

pub returns-in-Ok-clause-retries : goal.returns-in-Ok-clause-retries
returns-in-Ok-clause-retries c =
    let s : State = record { ends = c.self.inside.ends; attempt = c.self.inside.attempt; session = c.self.inside.session } in
    let a = c.in-Some.attempt in
    let b = c.send_again.new.self in
    let counter = c.next-counter.result in
    let r = c.send_again.new.reply in
    rw (← c.self.view_is)
    (retries_to s (record s { attempt = Some b; session = moved a.renews counter s.session }) (record s { attempt = Some b; session = c.move_on.new.session }) c.args.news.now again.Sent r
    (shown_as s (Some b) (Some b) (moved a.renews counter s.session) c.move_on.new.session refl (sym (c.move_on.ensures ∙ ap (λ (z : Bool). moved z counter s.session) c.in-Ok.ensures.kind)))
    (retries_sent s a b c.args.news.now counter r c.in-Some.is c.next-counter.ensures c.in-Ok.ensures.again))

pub returns-in-Err-clause-retries : goal.returns-in-Err-clause-retries
returns-in-Err-clause-retries c =
    let s : State = record { ends = c.self.inside.ends; attempt = c.self.inside.attempt; session = c.self.inside.session } in
    rw (← c.self.view_is) (retries_given_up s c.in-Some.attempt c.in-Err.message c.args.news.now c.send_again.new.reply c.in-Some.is c.in-Err.ensures.again)

-- beside whatever session there is
pub returns-in_default-clause-beside : goal.returns-in_default-clause-beside
returns-in_default-clause-beside c o plain some = absurd (cc (sym (ap (λ (x : Option Attempt). is_some x) c.in_default.is) ∙ ap (λ (s : State). is_some s.attempt) c.self.view_is ∙ some))

pub returns-in-Ok-clause-beside : goal.returns-in-Ok-clause-beside
returns-in-Ok-clause-beside c o none some =
    let s : State = record { ends = c.self.inside.ends; attempt = c.self.inside.attempt; session = o } in
    let was : State = record { ends = c.self.inside.ends; attempt = c.self.inside.attempt; session = c.self.inside.session } in
    let a = c.in-Some.attempt in
    let b = c.send_again.new.self in
    let counter = c.next-counter.result in
    let r = c.send_again.new.reply in
    let plain = plain_in was c.args.self.now a c.self.view_is c.in-Some.is none in
    rw (← c.self.view_is)
    (retries_to s (record s { attempt = Some b; session = moved a.renews counter o }) (record s { attempt = Some b }) c.args.news.now again.Sent r
    (shown_as s (Some b) (Some b) (moved a.renews counter o) o refl (moved_plain a.renews counter o plain))
    (retries_sent s a b c.args.news.now counter r c.in-Some.is (next_plain a c.self.inside.session o counter plain c.next-counter.ensures) c.in-Ok.ensures.again))

pub returns-in-Err-clause-beside : goal.returns-in-Err-clause-beside
returns-in-Err-clause-beside c o plain some =
    let s : State = record { ends = c.self.inside.ends; attempt = c.self.inside.attempt; session = o } in
    rw (← c.self.view_is) (retries_given_up s c.in-Some.attempt c.in-Err.message c.args.news.now c.send_again.new.reply c.in-Some.is c.in-Err.ensures.again)

pub returns-in-Ok-clause-leaves : goal.returns-in-Ok-clause-leaves
returns-in-Ok-clause-leaves c =
    let s : State = record { ends = c.self.inside.ends; attempt = c.self.inside.attempt; session = c.self.inside.session } in
    leaves_sent c.args.self.now.attempt c.in-Some.attempt c.args.self.now (record s { attempt = Some c.send_again.new.self; session = c.move_on.new.session }) (sym (ap (λ (z : State). z.attempt) c.self.view_is) ∙ c.in-Some.is) refl

pub returns-in-Err-clause-leaves : goal.returns-in-Err-clause-leaves
returns-in-Err-clause-leaves c =
    let s : State = record { ends = c.self.inside.ends; attempt = c.self.inside.attempt; session = c.self.inside.session } in
    leaves_given_up c.args.self.now.attempt c.in-Some.attempt c.in-Err.message c.args.self.now (record s { attempt = None }) (sym (ap (λ (z : State). z.attempt) c.self.view_is) ∙ c.in-Some.is) c.in-Err.ensures.again refl

-- which kinds there are
pub returns-in-Ok-clause-kinds : goal.returns-in-Ok-clause-kinds
returns-in-Ok-clause-kinds c =
    let s : State = record { ends = c.self.inside.ends; attempt = c.self.inside.attempt; session = c.self.inside.session } in
    kinds_on s c.in-Some.attempt c.send_again.new.self c.next-counter.result c.move_on.new.session c.in-Some.is c.in-Ok.ensures.kind
    (c.move_on.ensures ∙ ap (λ (z : Bool). moved z c.next-counter.result s.session) c.in-Ok.ensures.kind)
    ∙ ap kinds c.self.view_is

pub returns-in-Err-clause-kinds : goal.returns-in-Err-clause-kinds
returns-in-Err-clause-kinds c =
    let s : State = record { ends = c.self.inside.ends; attempt = c.self.inside.attempt; session = c.self.inside.session } in
    kinds_given_up s c.in-Some.attempt c.in-Err.message c.in-Err.ensures.again ∙ ap (λ (z : State). kinds_without c.in-Err.message (kinds z)) c.self.view_is
