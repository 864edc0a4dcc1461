use Rattle.std.proofs.Common.{ap, ◌∙◌}
use Rattle.authenticator.specs.Groups.{owes_in}
use Rattle.authenticator.specs.Kinds.{can_renew}
use Rattle.authenticator.specs.State.{State}
use Rattle.authenticator.proofs.KindsOf.{kinds_renewed, owes_renewed, can_association}
use Rattle.authenticator.proofs.Renewing.{renews}
use Rattle.authenticator.proofs.authenticator.Authenticator.renew.Goals as goal

pub returns-clause-renews : goal.returns-clause-renews
returns-clause-renews c =
    let s : State = record { ends = c.self.inside.ends; attempt = c.self.inside.attempt; session = c.self.inside.session } in
    rw (← c.self.view_is) (renews s c.in-Some.session c.renewing-attempt.new.session c.args.anonce.now c.renewing-attempt.result c.renewing-attempt.new.reply c.in-Some.is c.renewing-attempt.ensures.renewal)

pub returns-clause-kinds : goal.returns-clause-kinds
returns-clause-kinds c =
    let s : State = record { ends = c.self.inside.ends; attempt = c.self.inside.attempt; session = c.self.inside.session } in
    kinds_renewed s c.in-Some.session c.renewing-attempt.new.session c.args.anonce.now c.renewing-attempt.result c.renewing-attempt.new.reply c.renewing-attempt.ensures.renewal

pub returns-clause-owes : goal.returns-clause-owes
returns-clause-owes c place =
    let s : State = record { ends = c.self.inside.ends; attempt = c.self.inside.attempt; session = c.self.inside.session } in
    owes_renewed s c.in-Some.session c.renewing-attempt.new.session c.args.anonce.now c.renewing-attempt.result c.renewing-attempt.new.reply place c.in-Some.is c.renewing-attempt.ensures.renewal
    ∙ ap (λ (z : State). owes_in place z.session) c.self.view_is

pub renewing-attempt-requires : goal.renewing-attempt-requires
renewing-attempt-requires c =
    let s : State = record { ends = c.self.inside.ends; attempt = c.self.inside.attempt; session = c.self.inside.session } in
    can_association s c.in-Some.session (ap can_renew c.self.view_is ∙ c.requires) c.in-Some.is
