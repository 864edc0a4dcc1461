-- What a message does, whichever history the supplicant stands for (profile).
use Rattle.std.specs.Prelude.{◌≡◌, ◌==◌, ℕ, ◌+◌, ◌<◌, ◌≤◌, Bool, true, false, not, ◌&&◌, List, Option, Some, None, is_some}
use Rattle.std.specs.List.{AllByRecursion}
use Rattle.domain_base.specs.declared.names.Node.{Node}
use Rattle.domain_base.specs.declared.names.Node.TheVariants.{Ap, Sta}
use Rattle.eapol_key.specs.declared.frame.KeyFrame.{KeyFrame}
use Rattle.eapol_key.specs.declared.messages.Message.{Message}
use Rattle.eapol_key.specs.declared.messages.Message.TheVariants.{M1}
use Rattle.eapol_key.specs.Fields.{fields_of}
use Rattle.run_journal.specs.declared.domain.Domain.{Domain}
use Rattle.run_journal.specs.declared.acts.Reason.{Reason}
use Rattle.run_journal.specs.declared.acts.Outcome.{Outcome}
use Rattle.run_journal.specs.declared.acts.Outcome.TheVariants.{Refused}
use Rattle.run_journal.specs.declared.acts.Act.{Act}
use Rattle.run_journal.specs.declared.reply.Reply.{Reply}
use Rattle.run_journal.specs.Questions.{pending, draws}
use Rattle.run_journal.specs.Replies.{IsWhole}
use Rattle.domain_rules.specs.Network.{renews, draw_end}
use Rattle.domain_rules.specs.StationKeys.{opens_renewal}
use Rattle.domain_rules.specs.Closing.{next_nonce}
use Rattle.domain_rules.specs.Here.{here}
use Rattle.domain_rules.specs.Reading.{KeyMessage}
use Rattle.domain_rules.specs.Replies.{IsMessageFrom, taken_as}
use Rattle.group_key.specs.Keys.{Kept}
use Rattle.group_key.specs.Holds.{RemembersAll}
use Rattle.supplicant.specs.Held.{is_connected}
use Rattle.supplicant.specs.State.{State, Both}
use Rattle.supplicant.specs.Stands.{SupplicantStands}
use Rattle.supplicant.specs.Steps.{SupplicantSteps, SupplicantOpens}

-- the message is no M1 that begins to renew the key of a session (12.7.6.2, profile)
abbrev pub OpensNone : Message → Domain → List Act → Node → Type 0
OpensNone M1 d h p = opens_renewal d h p ≡ false
OpensNone message d h p = Unit {0}

-- it adds what outcome and reply say to each of those histories
abbrev pub AddsToAll : Message → KeyFrame → Both → Both → Outcome → Reply → Type 0
AddsToAll message f old new outcome r =
    (d : Domain) (first sta ap : ℕ) (octets : List ℕ) (k : KeyMessage) (h : List Act)
    → SupplicantStands d (Sta sta) (Ap ap) old.part h → RemembersAll (Ap ap) old.keys h
    → IsMessageFrom d (Sta sta) (Ap ap) octets k
    → k.message ≡ message → k.fields ≡ fields_of f → k.octets ≡ f.octets.now
    → OpensNone message d h (Ap ap)
    → SupplicantSteps (here d first (Sta sta)) (Ap ap) (is_some old.part.session) (taken_as octets k outcome) new r h

-- the keys have key ids other than 0, which is that of pairwise keys
abbrev pub HaveGroupIds : List Kept → Type 0
HaveGroupIds ks = AllByRecursion (λ (k : Kept). (k.id == 0) ≡ false) ks

-- with the group keys that are in memory before and after it; a refusal changes and installs nothing, and a GTK that is
-- installed has the key id of one
pub record IsTaken (message : Message) (f : KeyFrame) (old new : Both) (outcome : Outcome) (r : Reply) : Type 0 where
  pub steps : AddsToAll message f old new outcome r
  pub refused : (why : Reason) → outcome ≡ Refused why → (new ≡ old) × (r.installed ≡ None)
  pub whole : IsWhole r
  pub ends : (new.part.ends ≡ old.part.ends) × (new.part.base ≡ old.part.base)
  pub ids : HaveGroupIds old.keys.gtks → HaveGroupIds new.keys.gtks

-- ---- an M1 that begins to renew the key of the session

-- the supplicant has a session that began by a four-way handshake, and no attempt
abbrev pub may_renew : State → Bool
may_renew s = not (is_some s.attempt) && is_connected s.session

-- the next nonce that node n draws, where it can draw one
abbrev pub IsNextNonce : Domain → ℕ → Node → List Act → Option (List ℕ) → Type 0
IsNextNonce d first n h None = draw_end ≤ first + draws h
IsNextNonce d first n h (Some v) = (first + draws h < draw_end) × (v ≡ next_nonce d first n h)

-- it adds what outcome and reply say to each of those histories of a network that renews keys, in which nothing is
-- pending
abbrev pub OpensInAll : KeyFrame → Option (List ℕ) → State → State → Outcome → Reply → Type 0
OpensInAll f v old new outcome r =
    (d : Domain) (first sta ap : ℕ) (octets : List ℕ) (k : KeyMessage) (h : List Act)
    → SupplicantStands d (Sta sta) (Ap ap) old h → IsMessageFrom d (Sta sta) (Ap ap) octets k
    → k.message ≡ M1 → k.fields ≡ fields_of f
    → renews d ≡ true → pending h ≡ None → IsNextNonce d first (Sta sta) h v
    → SupplicantOpens (here d first (Sta sta)) (Ap ap) v (taken_as octets k outcome) new r h

-- a refusal changes nothing
pub record IsOpening (f : KeyFrame) (v : Option (List ℕ)) (old new : State) (outcome : Outcome) (r : Reply) : Type 0 where
  pub steps : OpensInAll f v old new outcome r
  pub refused : (why : Reason) → outcome ≡ Refused why → new ≡ old
  pub whole : IsWhole r
  pub installs : r.installed ≡ None
  pub ends : (new.ends ≡ old.ends) × (new.base ≡ old.base)
