-- What an authenticator begins with (profile).
use Rattle.std.specs.Prelude.{ℕ, List, [], ◌∷◌, Option, Some, None}
use Rattle.domain_base.specs.declared.names.Node.{Node}
use Rattle.run_journal.specs.declared.domain.Domain.{Domain}
use Rattle.run_journal.specs.declared.acts.Act.{Act}
use Rattle.domain_rules.specs.Frames.{sent_m1}
use Rattle.authenticator.specs.declared.session.Session.{Session}
use Rattle.authenticator.specs.declared.authenticator.ApStart.{ApStart}
use Rattle.authenticator.specs.declared.authenticator.ApStart.TheVariants.{Connect, Ft}
use Rattle.authenticator.specs.Groups.{transferred}

-- the RSNE of the association request
abbrev pub rsne_in : ApStart → List ℕ
rsne_in (Connect anonce rsne) = rsne.now
rsne_in (Ft ptk) = []

-- what an authenticator sends as it begins
abbrev pub first_acts : Domain → Node → Node → ApStart → List Act
first_acts d n p (Connect anonce rsne) = sent_m1 d n p 1 anonce.now ∷ []
first_acts d n p (Ft ptk) = []

-- the session that an authenticator has as it begins
abbrev pub held_at_first : ApStart → Option Session
held_at_first (Connect anonce rsne) = None
held_at_first (Ft ptk) = Some (transferred ptk.now)
