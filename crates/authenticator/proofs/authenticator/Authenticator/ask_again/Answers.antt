use Rattle.std.proofs.Common.{◌≡◌, Option, Some, None, refl, sym, ap, ◌∙◌}
use Rattle.eapol_key.specs.declared.messages.Message.TheVariants.{G1}
use Rattle.authenticator.specs.Kinds.{kinds, kinds_without}
use Rattle.authenticator.specs.State.{State}
use Rattle.authenticator.specs.declared.authenticator.Again.TheVariants as again
use Rattle.authenticator.specs.declared.session.Session.{Session}
use Rattle.authenticator.proofs.Asking.{retries_asked, retries_session_given_up, retries_no_session, retries_unowed, retries_to}
use Rattle.authenticator.proofs.Beside.{leaves_alone}
use Rattle.authenticator.proofs.KindsOf.{kinds_in}
use Rattle.authenticator.proofs.Unchanging.{session_back}
use Rattle.authenticator.proofs.authenticator.Authenticator.ask_again.Goals as goal

pub returns-in_default-clause-retries : goal.returns-in_default-clause-retries
returns-in_default-clause-retries c =
    let s : State = record { ends = c.self.inside.ends; attempt = c.self.inside.attempt; session = c.self.inside.session } in
    let none : s.attempt ≡ None = ap (λ (z : State). z.attempt) c.self.view_is ∙ c.requires.none in
    rw (← c.self.view_is) (retries_no_session s c.args.news.now c.args.reply.now none c.in_default.is)

pub returns-then-not-owes-clause-retries : goal.returns-then-not-owes-clause-retries
returns-then-not-owes-clause-retries c =
    let s : State = record { ends = c.self.inside.ends; attempt = c.self.inside.attempt; session = c.self.inside.session } in
    let none : s.attempt ≡ None = ap (λ (z : State). z.attempt) c.self.view_is ∙ c.requires.none in
    rw (← c.self.view_is)
    (retries_to s s (record s { session = Some c.in-Some.session }) c.args.news.now again.Nothing c.args.reply.now (ap (λ (o : Option Session). record s { session = o }) c.in-Some.is)
    (retries_unowed s c.in-Some.session c.args.news.now c.args.reply.now none c.in-Some.is (sym c.owes.ensures ∙ c.if-not-owes.true)))

pub returns-then-is_in_vain-clause-retries : goal.returns-then-is_in_vain-clause-retries
returns-then-is_in_vain-clause-retries c =
    let s : State = record { ends = c.self.inside.ends; attempt = c.self.inside.attempt; session = c.self.inside.session } in
    let none : s.attempt ≡ None = ap (λ (z : State). z.attempt) c.self.view_is ∙ c.requires.none in
    rw (← c.self.view_is) (retries_session_given_up s c.in-Some.session c.args.news.now c.args.reply.now none c.in-Some.is (sym c.owes.ensures ∙ c.if-not-owes.false) (sym c.is_in_vain.ensures ∙ c.if-is_in_vain.true))

pub returns-clause-retries : goal.returns-clause-retries
returns-clause-retries c =
    let s : State = record { ends = c.self.inside.ends; attempt = c.self.inside.attempt; session = c.self.inside.session } in
    let none : s.attempt ≡ None = ap (λ (z : State). z.attempt) c.self.view_is ∙ c.requires.none in
    rw (← c.self.view_is)
    (retries_asked s c.in-Some.session c.send_g1.new.self c.args.news.now c.send_g1.new.reply none c.in-Some.is (sym c.owes.ensures ∙ c.if-not-owes.false) (sym c.is_in_vain.ensures ∙ c.if-is_in_vain.false) c.send_g1.ensures.asks)

-- what is left
pub returns-in_default-clause-leaves : goal.returns-in_default-clause-leaves
returns-in_default-clause-leaves c =
    let s : State = record { ends = c.self.inside.ends; attempt = c.self.inside.attempt; session = c.self.inside.session } in
    leaves_alone c.args.self.now.attempt again.Nothing c.args.self.now s c.requires.none c.self.view_is

pub returns-then-not-owes-clause-leaves : goal.returns-then-not-owes-clause-leaves
returns-then-not-owes-clause-leaves c =
    let s : State = record { ends = c.self.inside.ends; attempt = c.self.inside.attempt; session = c.self.inside.session } in
    leaves_alone c.args.self.now.attempt again.Nothing c.args.self.now (record s { session = Some c.in-Some.session }) c.requires.none
    (session_back s c.args.self.now (Some c.in-Some.session) c.self.view_is c.in-Some.is)

pub returns-then-is_in_vain-clause-leaves : goal.returns-then-is_in_vain-clause-leaves
returns-then-is_in_vain-clause-leaves c =
    let s : State = record { ends = c.self.inside.ends; attempt = c.self.inside.attempt; session = c.self.inside.session } in
    let none : s.attempt ≡ None = ap (λ (z : State). z.attempt) c.self.view_is ∙ c.requires.none in
    leaves_alone c.args.self.now.attempt (again.GaveUp G1) c.args.self.now (record s { session = None }) c.requires.none (refl, none, refl)

pub returns-clause-leaves : goal.returns-clause-leaves
returns-clause-leaves c =
    let s : State = record { ends = c.self.inside.ends; attempt = c.self.inside.attempt; session = c.self.inside.session } in
    let none : s.attempt ≡ None = ap (λ (z : State). z.attempt) c.self.view_is ∙ c.requires.none in
    leaves_alone c.args.self.now.attempt again.Sent c.args.self.now (record s { session = Some c.send_g1.new.self }) c.requires.none (none, refl)

-- which kinds there are
pub returns-in_default-clause-kinds : goal.returns-in_default-clause-kinds
returns-in_default-clause-kinds c = ap kinds c.self.view_is

pub returns-then-not-owes-clause-kinds : goal.returns-then-not-owes-clause-kinds
returns-then-not-owes-clause-kinds c =
    let s : State = record { ends = c.self.inside.ends; attempt = c.self.inside.attempt; session = c.self.inside.session } in
    ap kinds (session_back s c.args.self.now (Some c.in-Some.session) c.self.view_is c.in-Some.is)

pub returns-then-is_in_vain-clause-kinds : goal.returns-then-is_in_vain-clause-kinds
returns-then-is_in_vain-clause-kinds c = ap (λ (z : State). kinds_without G1 (kinds z)) c.self.view_is

pub returns-clause-kinds : goal.returns-clause-kinds
returns-clause-kinds c =
    let s : State = record { ends = c.self.inside.ends; attempt = c.self.inside.attempt; session = c.self.inside.session } in
    kinds_in s c.in-Some.session c.send_g1.new.self c.in-Some.is c.send_g1.ensures.association ∙ ap kinds c.self.view_is
