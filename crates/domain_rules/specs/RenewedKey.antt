-- A pairwise key that is renewed inside its session, after a whole four-way handshake, while a new group key is given
-- beside the renewal. It inhabits the definitions of that renewal by an access point and a station in every network in
-- form with suite 2 or 6 that renews pairwise keys. Nothing is asked of drawn values but that the two group keys differ
-- (profile).
use Rattle.std.specs.Prelude.{◌≡◌, ℕ, false, List, [], ◌∷◌, Option, Some, None}
use Rattle.domain_base.specs.declared.names.Akm.{Akm}
use Rattle.domain_base.specs.declared.names.Node.TheVariants.{Ap, Sta}
use Rattle.domain_base.specs.declared.names.Peer.TheVariants.{One, All}
use Rattle.key_hierarchy.specs.declared.inputs.Inputs.{Inputs}
use Rattle.key_hierarchy.specs.Keys.{ptk}
use Rattle.run_journal.specs.declared.acts.GroupKind.TheVariants as groups
use Rattle.run_journal.specs.declared.domain.Version.TheVariants as version
use Rattle.run_journal.specs.declared.domain.Domain.{Domain}
use Rattle.run_journal.specs.declared.domain.Event.{Event}
use Rattle.run_journal.specs.declared.domain.Event.TheVariants.{Connect, Deliver, Retry, Rekey, Renew}
use Rattle.run_journal.specs.declared.acts.Act.TheVariants.{Opened, Closed, Installed, Resumed, Finished}
use Rattle.run_journal.specs.declared.acts.Start.TheVariants as start
use Rattle.run_journal.specs.declared.acts.Part.TheVariants.{Session}
use Rattle.run_journal.specs.declared.acts.Entry.{Entry}
use Rattle.run_journal.specs.declared.acts.Key.TheVariants.{Pairwise, Group}
use Rattle.run_journal.specs.Acts.{GroupKey}
use Rattle.run_journal.specs.Questions.{history, attempt, session}
use Rattle.run_journal.specs.Premises.{In}
use Rattle.domain_rules.specs.Network.{mac, nonce, gtk, root, inputs}
use Rattle.domain_rules.specs.Counters.{next_in_session}
use Rattle.domain_rules.specs.Example.{small}
use Rattle.domain_rules.specs.Explained.{Explained}

-- the small network with pairwise keys that are renewed, at that packet number too where there is one
abbrev pub renewing : Akm → Option ℕ → List ℕ → List ℕ → List ℕ → Domain
renewing akm at seed ssid psk = record (small akm seed ssid psk) { extras = record { version = version.Two; renew_at = at; mfp = false } }

-- the last round first: a handshake with M3 repeated, up to M4; then the access point begins to renew the key, M1 and M2
-- are accepted, but M3 is not delivered. It draws a new group key, G1 and G2 are accepted in the session as it is; M3 is
-- sent again, and M3 and M4 are accepted
abbrev pub renewal_rounds : ℕ → ℕ → List (List Event)
renewal_rounds a s =
    (Deliver 15 (Ap a) ∷ []) ∷ (Deliver 14 (Sta s) ∷ []) ∷ (Retry a s ∷ [])
    ∷ (Deliver 13 (Ap a) ∷ []) ∷ (Deliver 12 (Sta s) ∷ []) ∷ (Rekey a ∷ [])
    ∷ (Deliver 10 (Ap a) ∷ []) ∷ (Deliver 9 (Sta s) ∷ []) ∷ (Renew a s ∷ [])
    ∷ (Deliver 8 (Ap a) ∷ []) ∷ (Deliver 7 (Sta s) ∷ []) ∷ (Retry a s ∷ [])
    ∷ (Deliver 5 (Sta s) ∷ []) ∷ (Deliver 4 (Ap a) ∷ []) ∷ (Deliver 3 (Sta s) ∷ []) ∷ (Deliver 2 (Sta s) ∷ []) ∷ (Deliver 1 (Ap a) ∷ []) ∷ (Connect s a ∷ []) ∷ []

-- a journal that these rounds explain, in which both nodes leave their session and finish the attempt that renews its
-- key with one key installed, of nonces drawn for it: both are in a session of it. The station has the new group key
-- from G1 as M3 comes, and resumes it. The replay counters went on: seven were used, and that of the G1 behind M4
pub record HasRenewedKey (d : Domain) (a s : ℕ) : Type 0 where
  pub journal : List Entry
  pub explained : Explained d (renewal_rounds a s) journal
  -- the first pairwise key, and the one that it is renewed by
  pub i : Inputs
  pub of_first : i ≡ inputs d (root d (Sta s)) (Sta s) (Ap a) (nonce d (Sta s) 0) (nonce d (Ap a) 1)
  pub j : Inputs
  pub of_second : j ≡ inputs d (root d (Sta s)) (Sta s) (Ap a) (nonce d (Sta s) 1) (nonce d (Ap a) 2)
  -- at the station
  pub station_first : In (Installed (One (Ap a)) (Pairwise (ptk i).tk i)) (history (Sta s) journal)
  pub station_begins : In (Opened (Ap a) start.Renew) (history (Sta s) journal)
  pub station_leaves : In (Closed (Ap a) Session) (history (Sta s) journal)
  pub station_installs : In (Installed (One (Ap a)) (Pairwise (ptk j).tk j)) (history (Sta s) journal)
  pub station_ends : In (Finished (Ap a) j) (history (Sta s) journal)
  pub station_alone : attempt (Ap a) (history (Sta s) journal) ≡ None
  pub station_has : session (Ap a) (history (Sta s) journal) ≡ Some (record { inputs = j; ptk = ptk j })
  -- at the access point
  pub access_point_first : In (Installed (One (Sta s)) (Pairwise (ptk i).tk i)) (history (Ap a) journal)
  pub access_point_begins : In (Opened (Sta s) start.Renew) (history (Ap a) journal)
  pub access_point_leaves : In (Closed (Sta s) Session) (history (Ap a) journal)
  pub access_point_installs : In (Installed (One (Sta s)) (Pairwise (ptk j).tk j)) (history (Ap a) journal)
  pub access_point_ends : In (Finished (Sta s) j) (history (Ap a) journal)
  pub access_point_alone : attempt (Sta s) (history (Ap a) journal) ≡ None
  pub access_point_has : session (Sta s) (history (Ap a) journal) ≡ Some (record { inputs = j; ptk = ptk j })
  -- the group key that is given beside the renewal, the fourth value that the access point draws
  pub new : GroupKey
  pub is_new : new ≡ record { key = gtk d (Ap a) 3; id = 2 }
  pub given : In (Installed (One (Ap a)) (Group groups.Gtk new.key new.id (mac d (Ap a)))) (history (Sta s) journal)
  pub current : In (Installed All (Group groups.Gtk new.key new.id (mac d (Ap a)))) (history (Ap a) journal)
  pub resumed : In (Resumed (Ap a) (Group groups.Gtk new.key new.id (mac d (Ap a)))) (history (Sta s) journal)
  -- the replay counters
  pub counter : next_in_session (Sta s) (history (Ap a) journal) ≡ 9
