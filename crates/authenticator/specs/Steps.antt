-- What begins an attempt, and what messages and retries do. That an attempt is given up is IEEE Std 802.11-2020,
-- 12.7.6.6 (IEEE Std 802.11-2020, 12.7.6.6, profile).
use Rattle.std.specs.Prelude.{◌≡◌, ◌<◌, ℕ, true, false, List, [], ◌∷◌, Some, None}
use Rattle.domain_base.specs.declared.names.Node.{Node}
use Rattle.eapol_key.specs.declared.messages.Message.{Message}
use Rattle.eapol_key.specs.declared.messages.Message.TheVariants.{M1, M2, M3, G1}
use Rattle.run_journal.specs.declared.domain.Domain.{Domain}
use Rattle.run_journal.specs.declared.acts.Kind.{Kind}
use Rattle.run_journal.specs.declared.acts.Kind.TheVariants.{Key}
use Rattle.run_journal.specs.declared.acts.Part.{Part}
use Rattle.run_journal.specs.declared.acts.Part.TheVariants.{Attempt as OfAttempt, Session as OfSession}
use Rattle.run_journal.specs.declared.acts.Drawn.TheVariants.{Nonce}
use Rattle.run_journal.specs.declared.acts.Start.TheVariants.{Renew}
use Rattle.run_journal.specs.declared.acts.Why.TheVariants as why
use Rattle.run_journal.specs.declared.acts.Act.{Act}
use Rattle.run_journal.specs.declared.acts.Act.TheVariants.{Opened, Closed, Drew, GaveUp, Idle}
use Rattle.run_journal.specs.declared.reply.Reply.{Reply}
use Rattle.run_journal.specs.Questions.{add, attempt, session, own_nonce, before_sent, handshake}
use Rattle.run_journal.specs.declared.acts.GroupKind.TheVariants as groups
use Rattle.run_journal.specs.Acts.{Derivation}
use Rattle.domain_rules.specs.Replies.{Pair, sent_acts}
use Rattle.domain_rules.specs.Rows.{TakeRow}
use Rattle.domain_rules.specs.AccessPointRows.{retry_acts, g1_to}
use Rattle.domain_rules.specs.Asking.{by_connect, offered, has_heard}
use Rattle.domain_rules.specs.Counters.{sent_count, next_in_session}
use Rattle.domain_rules.specs.Frames.{sent_m1}
use Rattle.domain_rules.specs.AccessPointKeys.{HasRsne, request as last_request}
use Rattle.domain_rules.specs.Here.{Here}
use Rattle.authenticator.specs.State.{State}
use Rattle.authenticator.specs.Stands.{AuthenticatorStands}
use Rattle.authenticator.specs.declared.authenticator.Again.{Again}
use Rattle.authenticator.specs.declared.authenticator.Again.TheVariants as again
use Rattle.authenticator.specs.declared.authenticator.Retried.{Retried}
use Rattle.authenticator.specs.declared.authenticator.Retried.TheVariants as retried

-- an attempt with p, by association with that RSNE, in which that nonce was drawn, no M1 and no M3 was sent, and no M2
-- accepted (profile)
pub record IsBegun (d : Domain) (p : Node) (anonce rsne : List ℕ) (h : List Act) : Type 0 where
  pub part : List Act
  pub is : attempt p h ≡ Some part
  pub begun : by_connect part ≡ true
  pub nonce : own_nonce part ≡ Some anonce
  pub no_m1 : offered p M1 part ≡ []
  pub no_m3 : offered p M3 part ≡ []
  pub no_first : before_sent p (Key M3) h ≡ None
  pub no_m2 : has_heard p (Key M2) part ≡ false
  pub request : List ℕ
  pub heard_last : last_request p h ≡ Some request
  pub has_rsne : HasRsne d.akm request (Some rsne)

-- After the history h, these acts are what the octet string adds, and the authenticator then stands for the longer
-- history (profile).
pub record Steps (w : Here) (p : Node) (octets : List ℕ) (acts : List Act) (new : State) (h : List Act) : Type 0 where
  pub adds : TakeRow w h octets acts
  pub stands : AuthenticatorStands w.domain w.node p new (add acts h)

-- what is given up with a message: a session with G1, and else an attempt (profile)
abbrev pub part_of : Message → Part
part_of G1 = OfSession
part_of _ = OfAttempt

-- the acts of sending again, by what came of it (12.7.6.6, 12.7.7.4, profile)
abbrev pub again_acts : Node → Again → Reply → List Act
again_acts p again.Sent r = sent_acts p r
again_acts p (again.GaveUp m) r = GaveUp p m ∷ Closed p (part_of m) ∷ []
again_acts p again.Nothing r = Idle why.Nothing ∷ []

-- After the history h, they are what sending again adds, and the authenticator then stands for the longer history
-- (12.7.6.6, 12.7.7.4, profile).
pub record Retries (w : Pair) (acts : List Act) (new : State) (h : List Act) : Type 0 where
  pub adds : retry_acts w.domain w.node h w.peer (attempt w.peer h) ≡ acts
  pub stands : AuthenticatorStands w.domain w.node w.peer new (add acts h)

-- After the history h, they are G1 to the session. Where it was sent less than four times for the newest group key the
-- authenticator then stands for the longer history (12.7.7.2).
pub record Gives (w : Pair) (acts : List Act) (new : State) (h : List Act) : Type 0 where
  pub x : Derivation
  pub has : session w.peer h ≡ Some x
  pub adds : g1_to w.domain w.node w.peer h x ∷ [] ≡ acts
  pub stands : sent_count w.peer G1 (handshake groups.Gtk w.peer h) < 4 → AuthenticatorStands w.domain w.node w.peer new (add acts h)

-- After the history h, in which an attempt was then opened that renews the key of the session and that nonce was drawn,
-- they are its M1, with the next replay counter of the session. The authenticator then stands for the longer history
-- (12.7.6.2, profile).
pub record Renews (w : Pair) (anonce : List ℕ) (acts : List Act) (new : State) (h : List Act) : Type 0 where
  pub adds : acts ≡ sent_m1 w.domain w.node w.peer (next_in_session w.peer h) anonce ∷ []
  pub stands : AuthenticatorStands w.domain w.node w.peer new (add acts (Drew (Nonce anonce) ∷ Opened w.peer Renew ∷ h))

-- what came of sending again, where a kind names the message that was sent in vain (profile)
abbrev pub IsNamed : Again → Retried → Kind → Type 0
IsNamed again.Sent came kind = came ≡ retried.Sent
IsNamed (again.GaveUp m) came kind = (came ≡ retried.GaveUp) × (kind ≡ Key m)
IsNamed again.Nothing came kind = came ≡ retried.Nothing
