-- A pairwise key that carries a payload and is renewed inside its session, while a new group key is given beside the renewal;
-- the key that comes carries a payload each way. The rounds inhabit the definitions of data beside those of that renewal by an
-- access point and a station with suite 2 or 6. Nothing is asked of drawn values but that the two group keys differ (profile).
use Rattle.std.specs.Prelude.{◌≡◌, ℕ, List, [], ◌∷◌, Some, None}
use Rattle.domain_base.specs.declared.names.Node.TheVariants.{Ap, Sta}
use Rattle.domain_base.specs.declared.names.Peer.TheVariants.{One, All}
use Rattle.key_hierarchy.specs.declared.inputs.Inputs.{Inputs}
use Rattle.key_hierarchy.specs.Keys.{ptk}
use Rattle.run_journal.specs.declared.acts.GroupKind.TheVariants as groups
use Rattle.run_journal.specs.declared.domain.Domain.{Domain}
use Rattle.run_journal.specs.declared.domain.Event.{Event}
use Rattle.run_journal.specs.declared.domain.Event.TheVariants.{Connect, Deliver, Retry, Rekey, Renew, Send}
use Rattle.run_journal.specs.declared.acts.Act.TheVariants.{Opened, Closed, Installed, Resumed, Finished, Used, HandedUp}
use Rattle.run_journal.specs.declared.acts.Start.TheVariants as start
use Rattle.run_journal.specs.declared.acts.Part.TheVariants.{Session}
use Rattle.run_journal.specs.declared.acts.Entry.{Entry}
use Rattle.run_journal.specs.declared.acts.Key.TheVariants.{Pairwise, Group}
use Rattle.run_journal.specs.Acts.{GroupKey}
use Rattle.run_journal.specs.Questions.{history, attempt, session}
use Rattle.run_journal.specs.Premises.{In}
use Rattle.domain_rules.specs.DataExample.{IsPayload}
use Rattle.domain_rules.specs.Network.{mac, nonce, gtk, root, inputs}
use Rattle.domain_rules.specs.Explained.{Explained}

-- the payload of the station under the first pairwise key, and those of the station and of the access point under the second
pub record Carried : Type 0 where
  pub before : List ℕ
  pub up : List ℕ
  pub down : List ℕ

-- they consist of octets that CCM can seal
pub record AreCarried (p : Carried) : Type 0 where
  pub before : IsPayload p.before
  pub up : IsPayload p.up
  pub down : IsPayload p.down

-- the last round first: a handshake with M3 repeated, up to M4, and a payload of the station; then the access point begins to
-- renew the key, and M3 is not delivered. It draws a new group key, G1 and G2 are accepted in the session as it is; M3 is sent
-- again, and M3 and M4 are accepted. Then a payload of the station, and one of the access point for it
abbrev pub used_rounds : ℕ → ℕ → Carried → List (List Event)
used_rounds a s p =
    (Deliver 19 (Sta s) ∷ []) ∷ (Send (Ap a) (One (Sta s)) None p.down ∷ []) ∷ (Deliver 18 (Ap a) ∷ []) ∷ (Send (Sta s) (One (Ap a)) (Some 5) p.up ∷ [])
    ∷ (Deliver 16 (Ap a) ∷ []) ∷ (Deliver 15 (Sta s) ∷ []) ∷ (Retry a s ∷ [])
    ∷ (Deliver 14 (Ap a) ∷ []) ∷ (Deliver 13 (Sta s) ∷ []) ∷ (Rekey a ∷ [])
    ∷ (Deliver 11 (Ap a) ∷ []) ∷ (Deliver 10 (Sta s) ∷ []) ∷ (Renew a s ∷ [])
    ∷ (Deliver 9 (Ap a) ∷ []) ∷ (Send (Sta s) (One (Ap a)) (Some 5) p.before ∷ [])
    ∷ (Deliver 8 (Ap a) ∷ []) ∷ (Deliver 7 (Sta s) ∷ []) ∷ (Retry a s ∷ [])
    ∷ (Deliver 5 (Sta s) ∷ []) ∷ (Deliver 4 (Ap a) ∷ []) ∷ (Deliver 3 (Sta s) ∷ []) ∷ (Deliver 2 (Sta s) ∷ []) ∷ (Deliver 1 (Ap a) ∷ []) ∷ (Connect s a ∷ []) ∷ []

-- a journal that these rounds explain, in which each payload is sent under the first packet number of its pairwise key and handed
-- up with it. Both nodes leave their session and finish the attempt that renews its key, of nonces drawn for it
pub record HasUsedKeys (d : Domain) (a s : ℕ) (p : Carried) : Type 0 where
  pub journal : List Entry
  pub explained : Explained d (used_rounds a s p) journal
  -- the first pairwise key, and the one that it is renewed by
  pub i : Inputs
  pub of_first : i ≡ inputs d (root d (Sta s)) (Sta s) (Ap a) (nonce d (Sta s) 0) (nonce d (Ap a) 1)
  pub j : Inputs
  pub of_second : j ≡ inputs d (root d (Sta s)) (Sta s) (Ap a) (nonce d (Sta s) 1) (nonce d (Ap a) 2)
  -- the payloads
  pub sent_before : In (Used (One (Ap a)) (ptk i).tk 0 1 p.before) (history (Sta s) journal)
  pub taken_before : In (HandedUp (Sta s) (ptk i).tk 0 5 1 p.before) (history (Ap a) journal)
  pub sent_up : In (Used (One (Ap a)) (ptk j).tk 0 1 p.up) (history (Sta s) journal)
  pub taken_up : In (HandedUp (Sta s) (ptk j).tk 0 5 1 p.up) (history (Ap a) journal)
  pub sent_down : In (Used (One (Sta s)) (ptk j).tk 0 1 p.down) (history (Ap a) journal)
  pub taken_down : In (HandedUp (Ap a) (ptk j).tk 0 0 1 p.down) (history (Sta s) journal)
  -- at the station
  pub station_first : In (Installed (One (Ap a)) (Pairwise (ptk i).tk i)) (history (Sta s) journal)
  pub station_ends_first : In (Finished (Ap a) i) (history (Sta s) journal)
  pub station_begins : In (Opened (Ap a) start.Renew) (history (Sta s) journal)
  pub station_leaves : In (Closed (Ap a) Session) (history (Sta s) journal)
  pub station_installs : In (Installed (One (Ap a)) (Pairwise (ptk j).tk j)) (history (Sta s) journal)
  pub station_ends : In (Finished (Ap a) j) (history (Sta s) journal)
  pub station_alone : attempt (Ap a) (history (Sta s) journal) ≡ None
  pub station_has : session (Ap a) (history (Sta s) journal) ≡ Some (record { inputs = j; ptk = ptk j })
  -- at the access point
  pub access_point_first : In (Installed (One (Sta s)) (Pairwise (ptk i).tk i)) (history (Ap a) journal)
  pub access_point_ends_first : In (Finished (Sta s) i) (history (Ap a) journal)
  pub access_point_begins : In (Opened (Sta s) start.Renew) (history (Ap a) journal)
  pub access_point_leaves : In (Closed (Sta s) Session) (history (Ap a) journal)
  pub access_point_installs : In (Installed (One (Sta s)) (Pairwise (ptk j).tk j)) (history (Ap a) journal)
  pub access_point_ends : In (Finished (Sta s) j) (history (Ap a) journal)
  pub access_point_alone : attempt (Sta s) (history (Ap a) journal) ≡ None
  pub access_point_has : session (Sta s) (history (Ap a) journal) ≡ Some (record { inputs = j; ptk = ptk j })
  -- the group key that is given beside the renewal, the fourth value that the access point draws
  pub new : GroupKey
  pub is_new : new ≡ record { key = gtk d (Ap a) 3; id = 2 }
  pub given : In (Installed (One (Ap a)) (Group groups.Gtk new.key new.id (mac d (Ap a)))) (history (Sta s) journal)
  pub current : In (Installed All (Group groups.Gtk new.key new.id (mac d (Ap a)))) (history (Ap a) journal)
  pub resumed : In (Resumed (Ap a) (Group groups.Gtk new.key new.id (mac d (Ap a)))) (history (Sta s) journal)
