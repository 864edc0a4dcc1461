-- Management frames that are protected. A station with suite 6 is associated, with the GTK and the IGTK of the access
-- point, and an announcement to all is handed up; the next one does not come yet. The station is associated again while
-- both keys are current, and resumes them: by the IPN that M3 tells the first announcement, which comes again, and the
-- second one, which comes late, are refused as replayed, and the third one is handed up. Then new group keys of both kinds
-- are drawn and given, and become current together. Nothing is asked of drawn values but that the two keys of each kind
-- differ (profile).
use Rattle.std.specs.Prelude.{◌≡◌, ℕ, List, [], ◌∷◌, Some, None, true}
use Rattle.domain_base.specs.declared.names.Akm.TheVariants.{PskSha256}
use Rattle.domain_base.specs.declared.names.Node.TheVariants.{Ap, Sta}
use Rattle.domain_base.specs.declared.names.Peer.TheVariants.{One, All}
use Rattle.domain_rules.specs.Example.{small}
use Rattle.domain_rules.specs.Explained.{Explained}
use Rattle.domain_rules.specs.ManagementFrames.{announced}
use Rattle.domain_rules.specs.Network.{mac, gtk}
use Rattle.run_journal.specs.Premises.{In}
use Rattle.run_journal.specs.Questions.{history}
use Rattle.run_journal.specs.declared.acts.Act.TheVariants.{Drew, Took, Installed, Resumed, Used, HandedUp}
use Rattle.run_journal.specs.declared.acts.Drawn.TheVariants as draw
use Rattle.run_journal.specs.declared.acts.Entry.{Entry}
use Rattle.run_journal.specs.declared.acts.GroupKind.TheVariants as groups
use Rattle.run_journal.specs.declared.acts.Key.TheVariants.{Group}
use Rattle.run_journal.specs.declared.acts.Kind.TheVariants.{Action}
use Rattle.run_journal.specs.declared.acts.Outcome.TheVariants.{Refused}
use Rattle.run_journal.specs.declared.acts.Reason.TheVariants.{Replayed}
use Rattle.run_journal.specs.declared.domain.Domain.{Domain}
use Rattle.run_journal.specs.declared.domain.Event.{Event}
use Rattle.run_journal.specs.declared.domain.Event.TheVariants.{Connect, Deliver, Rekey, Announce}
use Rattle.run_journal.specs.declared.domain.Version.TheVariants as version

-- one access point and one station with suite 6 that protect management frames, of any seed, name and pre-shared key
abbrev pub protecting : List ℕ → List ℕ → List ℕ → Domain
protecting seed ssid psk = record (small PskSha256 seed ssid psk) { extras = record { version = version.Two; renew_at = None; mfp = true } }

-- the last round first: an association up to M4, an announcement that is delivered, and one that is not. The association
-- comes anew, the first announcement is delivered once more, and the second one late; a third one is sent and delivered.
-- Then the access point draws new group keys, and G1 and G2 are accepted
abbrev pub protected_rounds : List ℕ → List ℕ → List ℕ → List (List Event)
protected_rounds first second third =
    (Deliver 17 (Ap 0) ∷ []) ∷ (Deliver 16 (Sta 0) ∷ []) ∷ (Rekey 0 ∷ [])
    ∷ (Deliver 15 (Sta 0) ∷ []) ∷ (Announce 0 third ∷ []) ∷ (Deliver 8 (Sta 0) ∷ []) ∷ (Deliver 7 (Sta 0) ∷ [])
    ∷ (Deliver 14 (Ap 0) ∷ []) ∷ (Deliver 13 (Sta 0) ∷ []) ∷ (Deliver 12 (Ap 0) ∷ []) ∷ (Deliver 11 (Sta 0) ∷ []) ∷ (Deliver 10 (Sta 0) ∷ []) ∷ (Deliver 9 (Ap 0) ∷ []) ∷ (Connect 0 0 ∷ [])
    ∷ (Announce 0 second ∷ []) ∷ (Deliver 7 (Sta 0) ∷ []) ∷ (Announce 0 first ∷ [])
    ∷ (Deliver 6 (Ap 0) ∷ []) ∷ (Deliver 5 (Sta 0) ∷ []) ∷ (Deliver 4 (Ap 0) ∷ []) ∷ (Deliver 3 (Sta 0) ∷ []) ∷ (Deliver 2 (Sta 0) ∷ []) ∷ (Deliver 1 (Ap 0) ∷ []) ∷ (Connect 0 0 ∷ []) ∷ []

-- a journal that these rounds explain, in which each announcement is sent under the next packet number of the first IGTK
-- and handed up with it once at most, also after that key is resumed
pub record HasProtection (d : Domain) (first second third : List ℕ) : Type 0 where
  pub journal : List Entry
  pub explained : Explained d (protected_rounds first second third) journal
  -- the first IGTK, the second value that the access point draws
  pub igtk : List ℕ
  pub is_first : igtk ≡ gtk d (Ap 0) 1
  pub drawn : In (Drew (draw.Group groups.Igtk igtk)) (history (Ap 0) journal)
  pub current : In (Installed All (Group groups.Igtk igtk 4 (mac d (Ap 0)))) (history (Ap 0) journal)
  pub given : In (Installed (One (Ap 0)) (Group groups.Igtk igtk 4 (mac d (Ap 0)))) (history (Sta 0) journal)
  pub sent : In (Used All igtk 4 1 (announced first)) (history (Ap 0) journal)
  pub taken : In (HandedUp (Ap 0) igtk 4 0 1 (announced first)) (history (Sta 0) journal)
  -- it is resumed, and its receive counter goes on with the IPN that M3 tells: no announcement that was sent before it is
  -- handed up after it
  pub resumed : In (Resumed (Ap 0) (Group groups.Igtk igtk 4 (mac d (Ap 0)))) (history (Sta 0) journal)
  pub octets : List ℕ
  pub replayed : In (Took (Some (Ap 0)) octets Action (Refused (Replayed 2)) None) (history (Sta 0) journal)
  pub sent_late : In (Used All igtk 4 2 (announced second)) (history (Ap 0) journal)
  pub late_octets : List ℕ
  pub refused_late : In (Took (Some (Ap 0)) late_octets Action (Refused (Replayed 2)) None) (history (Sta 0) journal)
  pub sent_next : In (Used All igtk 4 3 (announced third)) (history (Ap 0) journal)
  pub taken_next : In (HandedUp (Ap 0) igtk 4 0 3 (announced third)) (history (Sta 0) journal)
  -- the second GTK and IGTK, the fifth and sixth values
  pub new_gtk : List ℕ
  pub is_gtk : new_gtk ≡ gtk d (Ap 0) 4
  pub new_igtk : List ℕ
  pub is_igtk : new_igtk ≡ gtk d (Ap 0) 5
  pub gtk_given : In (Installed (One (Ap 0)) (Group groups.Gtk new_gtk 2 (mac d (Ap 0)))) (history (Sta 0) journal)
  pub igtk_given : In (Installed (One (Ap 0)) (Group groups.Igtk new_igtk 5 (mac d (Ap 0)))) (history (Sta 0) journal)
  pub gtk_current : In (Installed All (Group groups.Gtk new_gtk 2 (mac d (Ap 0)))) (history (Ap 0) journal)
  pub igtk_current : In (Installed All (Group groups.Igtk new_igtk 5 (mac d (Ap 0)))) (history (Ap 0) journal)
