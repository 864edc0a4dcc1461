-- A key that is changed between a request and its coming. A station with suite 4 is associated with the first access
-- point and asks the second one for a fast transition; then its pre-shared key is changed, and the request, which names
-- the old key, is refused, and the station associates anew under the new one. The rounds inhabit the definitions of a changed key by a small network of version 2 with two
-- access points and a station; no digest or drawn value has to differ from another (profile).
use Rattle.std.specs.Prelude.{◌≡◌, ℕ, false, List, [], ◌∷◌, Some, None}
use Rattle.domain_base.specs.declared.names.Node.TheVariants.{Ap, Sta}
use Rattle.domain_rules.specs.Explained.{Explained}
use Rattle.domain_rules.specs.HeldRight.{HeldRight}
use Rattle.domain_rules.specs.Network.{mac, nonce, gtk, r0kh_id, psk_of, inputs_at}
use Rattle.domain_rules.specs.Present.{present}
use Rattle.domain_base.specs.declared.names.Peer.TheVariants.{One}
use Rattle.key_hierarchy.specs.Keys.{ptk}
use Rattle.key_hierarchy.specs.declared.inputs.Inputs.{Inputs}
use Rattle.key_hierarchy.specs.declared.answers.PullAnswer.TheVariants.{Absent}
use Rattle.key_hierarchy.specs.declared.answers.PutAnswer.TheVariants.{Held}
use Rattle.key_hierarchy.specs.declared.answers.RevokeAnswer.TheVariants as revoke
use Rattle.run_journal.specs.declared.acts.GroupKind.TheVariants as groups
use Rattle.run_journal.specs.Premises.{In}
use Rattle.run_journal.specs.Questions.{history}
use Rattle.run_journal.specs.declared.acts.Act.TheVariants.{Closed, Took, Installed, Resumed, Put, Looked, Revoked, Secret}
use Rattle.run_journal.specs.declared.acts.Entry.{Entry}
use Rattle.run_journal.specs.declared.acts.Key.TheVariants.{Pairwise, Group}
use Rattle.run_journal.specs.declared.acts.Kind.TheVariants.{FtReq}
use Rattle.run_journal.specs.declared.acts.Outcome.TheVariants.{Refused}
use Rattle.run_journal.specs.declared.acts.Part.TheVariants.{Attempt, Session}
use Rattle.run_journal.specs.declared.acts.Reason.TheVariants.{Name}
use Rattle.run_journal.specs.declared.domain.Domain.{Domain}
use Rattle.run_journal.specs.declared.domain.Event.{Event}
use Rattle.run_journal.specs.declared.domain.Event.TheVariants.{Connect, Roam, Deliver}
use Rattle.run_journal.specs.declared.domain.Event.TheVariants as event
use Rattle.run_journal.specs.declared.domain.Version.TheVariants as version
use Rattle.example_domains.specs.Roaming.{association, r0_name_at, pair}

-- a network of version 2
abbrev pub of_second : Domain → Domain
of_second d = record d { extras = record { version = version.Two; renew_at = None; mfp = false } }

-- the small network, of version 2
abbrev pub second_pair : List ℕ → List ℕ → List ℕ → List ℕ → Domain
second_pair seed ssid psk mdid = of_second (pair seed ssid psk mdid)

-- the rounds, the last first: the station is associated with the first access point and asks the second one for a fast transition, its key is
-- changed to this one, and the request comes
abbrev pub change : List ℕ → List (List Event)
change key = (Deliver 7 (Ap 1) ∷ []) ∷ (event.Secret (Some 0) key ∷ []) ∷ (Roam 0 1 ∷ []) ∷ association 0 0

-- a journal of these rounds in which key holders answer rightly. The row of the old key is revoked at the first access point, and there is none at
-- the second; the session and the attempt end, and each node has the new key. The look for the old name finds none
pub record HasChange (d : Domain) (key : List ℕ) : Type 0 where
  pub journal : List Entry
  pub explained : Explained d (change key) journal
  pub held : HeldRight d journal
  pub revoked : In (Revoked (r0kh_id d (Ap 0)) (r0_name_at d 0 0) (Sta 0) revoke.Revoked) (history (Ap 0) journal)
  pub none_there : In (Revoked (r0kh_id d (Ap 1)) (r0_name_at d 1 0) (Sta 0) revoke.Absent) (history (Ap 1) journal)
  pub closed : In (Closed (Sta 0) Session) (history (Ap 0) journal)
  pub dropped : In (Closed (Ap 1) Attempt) (history (Sta 0) journal)
  pub left : In (Closed (Ap 0) Session) (history (Sta 0) journal)
  pub at_first : In (Secret (Sta 0) key) (history (Ap 0) journal)
  pub at_second : In (Secret (Sta 0) key) (history (Ap 1) journal)
  pub at_station : In (Secret (Sta 0) key) (history (Sta 0) journal)
  pub key_is : psk_of (present d journal) (Sta 0) ≡ key
  pub looked : In (Looked (r0kh_id d (Ap 0)) (r0_name_at d 0 0) (Sta 0) Absent) (history (Ap 1) journal)
  pub request : List ℕ
  pub refused : In (Took (Some (Sta 0)) request FtReq (Refused Name) None) (history (Ap 1) journal)

-- then it associates anew with the first access point, up to M4
abbrev pub anew : List ℕ → List (List Event)
anew key =
    (Deliver 14 (Ap 0) ∷ []) ∷ (Deliver 13 (Sta 0) ∷ []) ∷ (Deliver 12 (Ap 0) ∷ []) ∷ (Deliver 11 (Sta 0) ∷ []) ∷ (Deliver 10 (Sta 0) ∷ []) ∷ (Deliver 9 (Ap 0) ∷ []) ∷ (Connect 0 0 ∷ []) ∷ change key

-- a journal of these rounds in which key holders answer rightly. Both install a pairwise key of the new pre-shared key, the station resumes
-- the group key of its first association, and the access point puts the PMK-R0 of the new key with its key holder
pub record HasAnew (d : Domain) (key : List ℕ) : Type 0 where
  pub journal : List Entry
  pub explained : Explained d (anew key) journal
  pub held : HeldRight d journal
  pub network : Domain
  pub is_network : present d journal ≡ network
  pub i : Inputs
  pub of_third : i ≡ inputs_at network (Sta 0) (Ap 0) (r0kh_id network (Ap 0)) (nonce network (Sta 0) 2) (nonce network (Ap 0) 2)
  pub psk_is : i.psk ≡ key
  pub station : In (Installed (One (Ap 0)) (Pairwise (ptk i).tk i)) (history (Sta 0) journal)
  pub access_point : In (Installed (One (Sta 0)) (Pairwise (ptk i).tk i)) (history (Ap 0) journal)
  pub resumed : In (Resumed (Ap 0) (Group groups.Gtk (gtk d (Ap 0) 0) 1 (mac d (Ap 0)))) (history (Sta 0) journal)
  pub put : In (Put (r0kh_id d (Ap 0)) (r0_name_at network 0 0) (Sta 0) Held) (history (Ap 0) journal)
