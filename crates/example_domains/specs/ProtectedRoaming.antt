-- A fast transition where management frames are protected: a station with suite 4 is associated, with the GTK and the
-- IGTK of its access point, and roams to another one, whose reassociation response brings the keys of that one in its
-- FTE. No digest or drawn value has to differ from another (profile).
use Rattle.std.specs.Prelude.{◌≡◌, ℕ, true, List, [], ◌∷◌, None}
use Rattle.domain_base.specs.declared.names.Node.TheVariants.{Ap, Sta}
use Rattle.domain_base.specs.declared.names.Peer.TheVariants.{One}
use Rattle.domain_rules.specs.Explained.{Explained}
use Rattle.domain_rules.specs.HeldRight.{HeldRight}
use Rattle.domain_rules.specs.Network.{mac, nonce, gtk, r0kh_id, inputs_at}
use Rattle.key_hierarchy.specs.Keys.{ptk}
use Rattle.key_hierarchy.specs.declared.answers.PullAnswer.TheVariants.{Found}
use Rattle.key_hierarchy.specs.declared.inputs.Inputs.{Inputs}
use Rattle.run_journal.specs.Premises.{In}
use Rattle.run_journal.specs.Questions.{history}
use Rattle.run_journal.specs.declared.acts.Act.TheVariants.{Installed, Looked}
use Rattle.run_journal.specs.declared.acts.Entry.{Entry}
use Rattle.run_journal.specs.declared.acts.GroupKind.TheVariants as groups
use Rattle.run_journal.specs.declared.acts.Key.TheVariants.{Pairwise, Group}
use Rattle.run_journal.specs.declared.domain.Domain.{Domain}
use Rattle.run_journal.specs.declared.domain.Event.{Event}
use Rattle.run_journal.specs.declared.domain.Event.TheVariants.{Roam, Deliver}
use Rattle.run_journal.specs.declared.domain.Version.TheVariants as version
use Rattle.example_domains.specs.Roaming.{association, r0_name_at, r1_at, pair}

-- the small network with suite 4 where it protects management frames
abbrev pub protecting_pair : List ℕ → List ℕ → List ℕ → List ℕ → Domain
protecting_pair seed ssid psk mdid = record (pair seed ssid psk mdid) { extras = record { version = version.Two; renew_at = None; mfp = true } }

-- the last round first: station m is associated with access point k, and roams to access point l
abbrev pub protected_roaming : ℕ → ℕ → ℕ → List (List Event)
protected_roaming k l m =
    (Deliver 10 (Sta m) ∷ []) ∷ (Deliver 9 (Ap l) ∷ []) ∷ (Deliver 8 (Sta m) ∷ []) ∷ (Deliver 7 (Ap l) ∷ []) ∷ (Roam m l ∷ []) ∷ association k m

-- a journal that these rounds explain, in which key holders answer rightly. The station has an IGTK of each of both
-- access points: by M3 of the first one, and by the FTE of the other (IEEE Std 802.11-2020, 13.8.5)
pub record HasProtectedRoaming (d : Domain) (k l m : ℕ) : Type 0 where
  pub journal : List Entry
  pub explained : Explained d (protected_roaming k l m) journal
  pub held : HeldRight d journal
  pub looked : In (Looked (r0kh_id d (Ap k)) (r0_name_at d k m) (Sta m) (Found (r1_at d k m l))) (history (Ap l) journal)
  pub i : Inputs
  pub of_second : i ≡ inputs_at d (Sta m) (Ap l) (r0kh_id d (Ap k)) (nonce d (Sta m) 1) (nonce d (Ap l) 2)
  pub station : In (Installed (One (Ap l)) (Pairwise (ptk i).tk i)) (history (Sta m) journal)
  pub access_point : In (Installed (One (Sta m)) (Pairwise (ptk i).tk i)) (history (Ap l) journal)
  pub first_igtk : In (Installed (One (Ap k)) (Group groups.Igtk (gtk d (Ap k) 1) 4 (mac d (Ap k)))) (history (Sta m) journal)
  pub gtk_given : In (Installed (One (Ap l)) (Group groups.Gtk (gtk d (Ap l) 0) 1 (mac d (Ap l)))) (history (Sta m) journal)
  pub igtk_given : In (Installed (One (Ap l)) (Group groups.Igtk (gtk d (Ap l) 1) 4 (mac d (Ap l)))) (history (Sta m) journal)
