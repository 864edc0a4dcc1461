-- The key that a message installs is that of the session.
use Rattle.std.proofs.Common.{◌≡◌, Some, refl, ap, ◌∙◌}
use Rattle.node_base.specs.declared.ends.Ends.{Ends}
use Rattle.group_key.specs.declared.news.News.{News}
use Rattle.run_journal.specs.declared.acts.Outcome.TheVariants.{Accepted}
use Rattle.run_journal.specs.declared.reply.Keyed.{Keyed}
use Rattle.run_journal.specs.declared.reply.Reply.{Reply}
use Rattle.authenticator.specs.Installed.{IsInstalled}
use Rattle.authenticator.specs.State.{State}
use Rattle.authenticator.specs.Taken.{Installs}
use Rattle.authenticator.specs.declared.attempt.Finish.{Finish}
use Rattle.authenticator.specs.declared.session.Session.{Session}

pub installs_finished : (l : Ends) (g : News) (x : Finish) (t : Session) (r : Reply) (s : State) → x.session.ptk ≡ x.key.ptk → IsInstalled l g x t r → s.session ≡ Some t → Installs Accepted r s
installs_finished l g x t r s same at is y installed =
    let one : x.key ≡ y = cc (at.installed, installed) in
    (refl, t, is, at.ptk ∙ same ∙ ap (λ (z : Keyed). z.ptk) one)
