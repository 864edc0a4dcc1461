-- A key that is changed again after it was used. A station with suite 4 that was associated anew under its second key asks the second access
-- point for a fast transition, which finds a key, and then its pre-shared key is changed again. What was found is of the key of that round,
-- which is neither that of the header nor the last one; and what each node does as the key is changed is told in its order (profile).
use Rattle.std.specs.Prelude.{◌≡◌, ℕ, List, [], ◌∷◌, Some}
use Rattle.domain_base.specs.declared.names.Node.TheVariants.{Ap, Sta}
use Rattle.domain_rules.specs.Explained.{Explained}
use Rattle.domain_rules.specs.HeldRight.{HeldRight}
use Rattle.domain_rules.specs.Network.{r0kh_id, psk_of}
use Rattle.domain_rules.specs.Present.{present, earlier}
use Rattle.key_hierarchy.specs.declared.answers.PullAnswer.TheVariants.{Found}
use Rattle.key_hierarchy.specs.declared.answers.RevokeAnswer.TheVariants as revoke
use Rattle.run_journal.specs.Premises.{In}
use Rattle.run_journal.specs.Questions.{history}
use Rattle.run_journal.specs.declared.acts.Act.TheVariants.{Closed, Looked, Revoked, Secret}
use Rattle.run_journal.specs.declared.acts.Entry.{Entry}
use Rattle.run_journal.specs.declared.acts.Part.TheVariants.{Attempt, Session}
use Rattle.run_journal.specs.declared.domain.Domain.{Domain}
use Rattle.run_journal.specs.declared.domain.Event.{Event}
use Rattle.run_journal.specs.declared.domain.Event.TheVariants.{Roam, Deliver}
use Rattle.run_journal.specs.declared.domain.Event.TheVariants as event
use Rattle.example_domains.specs.ChangedKey.{anew}
use Rattle.example_domains.specs.Roaming.{r0_name_at, r1_at}

-- the rounds, the last first: after the new association the station asks the second access point for a fast transition, the request comes in round
-- 19, and in round 20 its key is changed again
abbrev pub second_change : List ℕ → List ℕ → List (List Event)
second_change key last = (event.Secret (Some 0) last ∷ []) ∷ (Deliver 15 (Ap 1) ∷ []) ∷ (Roam 0 1 ∷ []) ∷ anew key

-- a journal of these rounds in which key holders answer rightly. In the network as it was before round 19 the station has its second key, and the
-- PMK-R1 that is found is of that one. In round 20 these are all acts of each node, the last first
pub record HasSecondChange (d : Domain) (key last : List ℕ) : Type 0 where
  pub journal : List Entry
  pub explained : Explained d (second_change key last) journal
  pub held : HeldRight d journal
  pub network : Domain
  pub is_network : present d (earlier 19 journal) ≡ network
  pub psk_is : psk_of network (Sta 0) ≡ key
  pub found : In (Looked (r0kh_id d (Ap 0)) (r0_name_at network 0 0) (Sta 0) (Found (r1_at network 0 0 1))) (history (Ap 1) journal)
  pub last_is : psk_of (present d journal) (Sta 0) ≡ last
  pub at_first : history (Ap 0) journal ≡ Secret (Sta 0) last ∷ Closed (Sta 0) Session ∷ Revoked (r0kh_id d (Ap 0)) (r0_name_at network 0 0) (Sta 0) revoke.Revoked ∷ history (Ap 0) (earlier 20 journal)
  pub at_second : history (Ap 1) journal ≡ Secret (Sta 0) last ∷ Closed (Sta 0) Attempt ∷ Revoked (r0kh_id d (Ap 1)) (r0_name_at network 1 0) (Sta 0) revoke.Absent ∷ history (Ap 1) (earlier 20 journal)
  pub at_station : history (Sta 0) journal ≡ Secret (Sta 0) last ∷ Closed (Ap 0) Session ∷ Closed (Ap 1) Attempt ∷ history (Sta 0) (earlier 20 journal)
