-- For which histories an authenticator stands as it begins (IEEE Std 802.11-2020, 13.4.2, profile).
use Rattle.std.specs.Prelude.{◌≡◌, List, [], ◌∷◌, Option, Some, None}
use Rattle.domain_base.specs.declared.names.Node.{Node}
use Rattle.key_hierarchy.specs.declared.inputs.Ptk.{Ptk}
use Rattle.run_journal.specs.declared.domain.Domain.{Domain}
use Rattle.run_journal.specs.declared.acts.Act.{Act}
use Rattle.run_journal.specs.Acts.{Derivation}
use Rattle.run_journal.specs.Questions.{attempt, session, handshake, group_keys}
use Rattle.run_journal.specs.declared.acts.GroupKind.TheVariants as groups
use Rattle.domain_rules.specs.Counters.{next_in_session}
use Rattle.domain_rules.specs.Frames.{sent_m1}
use Rattle.group_key.specs.declared.keys.GroupKey.{GroupKey}
use Rattle.group_key.specs.Holds.{IsLast}
use Rattle.authenticator.specs.State.{State, with_session}
use Rattle.authenticator.specs.Stands.{AuthenticatorStands, HasSession}
use Rattle.authenticator.specs.Steps.{IsBegun}
use Rattle.authenticator.specs.declared.session.Session.{Session}
use Rattle.authenticator.specs.declared.authenticator.ApStart.{ApStart}
use Rattle.authenticator.specs.declared.authenticator.ApStart.TheVariants.{Connect, Ft}

-- a fast transition has just installed that key: there is no attempt, and nothing was sent in the session
pub record IsTransferred (p : Node) (ptk : Ptk) (h : List Act) : Type 0 where
  pub none : attempt p h ≡ None
  pub x : Derivation
  pub is : session p h ≡ Some x
  pub key : x.ptk ≡ ptk
  pub next : next_in_session p h ≡ 1
  pub quiet : handshake groups.Gtk p h ≡ []
  pub newest : GroupKey
  pub last : IsLast groups.Gtk newest (group_keys groups.Gtk h)

-- as it begins it stands for each history in which that attempt has begun and M1 was sent, or in which a fast
-- transition has just installed that key
abbrev pub StandsAtFirst : Domain → Node → Node → ApStart → State → Type 0
StandsAtFirst d n p (Connect anonce rsne) s =
    (h : List Act) (session : Option Session) → IsBegun d p anonce.now rsne.now h → HasSession d n p session h
    → AuthenticatorStands d n p (with_session session s) (sent_m1 d n p 1 anonce.now ∷ h)
StandsAtFirst d n p (Ft ptk) s = (h : List Act) → IsTransferred p ptk.now h → AuthenticatorStands d n p s h
