-- How an access point begins to renew the pairwise key of a session (IEEE Std 802.11-2020, 12.7.6.2, profile).
-- For the code alone: no public contract speaks of it.
use Rattle.std.specs.Prelude.{◌≡◌, ◌≢◌, ◌+◌, ◌&&◌, ℕ, suc, Bool, false, cond, not, nat_lt, List, ◌∷◌, Option, Some, None}
use Rattle.domain_base.specs.declared.names.Node.{Node}
use Rattle.domain_base.specs.declared.names.Node.TheVariants.{Ap, Sta}
use Rattle.replay_window.specs.Numbers.{last_number}
use Rattle.ccmp_guard.specs.Held.{Held}
use Rattle.run_journal.specs.declared.domain.Domain.{Domain}
use Rattle.run_journal.specs.declared.acts.Start.TheVariants.{Renew}
use Rattle.run_journal.specs.declared.acts.Drawn.TheVariants.{Nonce}
use Rattle.run_journal.specs.declared.acts.Why.{Why}
use Rattle.run_journal.specs.declared.acts.Why.TheVariants as why
use Rattle.run_journal.specs.declared.acts.Act.{Act}
use Rattle.run_journal.specs.declared.acts.Act.TheVariants.{Opened, Drew}
use Rattle.run_journal.specs.declared.reply.Reply.{Reply}
use Rattle.domain_rules.specs.Network.{nonce, renews_at, draw_end}
use Rattle.domain_rules.specs.Replies.{sent_acts}
use Rattle.authenticator.specs.Groups.{owes_in}
use Rattle.authenticator.specs.Kinds.{kinds, renewing, can_renew}
use Rattle.authenticator.specs.State.{State as Part}
use Rattle.authenticator.specs.Taken.{RenewsFrom}
use Rattle.ap_node.specs.declared.station.Station.{Station}
use Rattle.ap_node.specs.declared.station.Session.{Session as Kept}
use Rattle.ap_node.specs.State.{State, station_at, key_in, with_key, has_attempt}
use Rattle.ap_node.specs.Keys.{used_in}

-- the key of the session can be renewed: it came of a four-way handshake, and no attempt renews it yet
abbrev pub renewable : Option Kept → Bool
renewable None = false
renewable (Some s) = can_renew s.part

-- why the key of a session is not renewed, where it is not, beside an attempt or without one, and so many values drawn
abbrev pub obstacle_in : ℕ → Bool → Kept → Option Why
obstacle_in drawn busy s =
    cond busy (Some why.Nothing) (cond (nat_lt drawn draw_end) (cond (can_renew s.part) None (Some why.NoSession)) (Some why.Spent))

abbrev pub obstacle_by : ℕ → Bool → Option Kept → Option Why
obstacle_by drawn busy None = Some why.NoSession
obstacle_by drawn busy (Some s) = obstacle_in drawn busy s

-- of the session with a station
abbrev pub obstacle : ℕ → Station → Option Why
obstacle drawn x = obstacle_by drawn (has_attempt x) x.session

-- a key is to be renewed as its next packet number is used, beside an attempt or without one, and so many values drawn
abbrev pub is_due_by : Domain → ℕ → Bool → Held → Bool
is_due_by d drawn busy k = nat_lt k.used last_number && (renews_at d (suc k.used) && (not busy && nat_lt drawn draw_end))

-- that of a session, which can be renewed
abbrev pub is_due_in : Domain → ℕ → Bool → Option Kept → Bool
is_due_in d drawn busy None = false
is_due_in d drawn busy (Some s) = is_due_by d drawn busy s.key && can_renew s.part

-- with a station
abbrev pub is_due_at : Domain → ℕ → Station → Bool
is_due_at d drawn x = is_due_in d drawn (has_attempt x) x.session

-- the part of a session begins to renew its key by that nonce, and the reply has M1
pub record RenewsKey (old new : Kept) (v : List ℕ) (r : Reply) : Type 0 where
  pub part : Part
  pub is : new ≡ record { part = part; key = old.key; came_of = old.came_of }
  pub renews : RenewsFrom old.part part v r
  pub begun : kinds part ≡ renewing
  pub owes : (place : ℕ) → owes_in place part.session ≡ owes_in place old.part.session

-- so does that of the session with a station, which goes on
pub record RenewsAt (old new : Station) (v : List ℕ) (r : Reply) : Type 0 where
  pub s : Kept
  pub now : Kept
  pub there : old.session ≡ Some s
  pub is : new ≡ record { attempt = old.attempt; session = Some now }
  pub renewed : RenewsKey s now v r

-- the acts of it
abbrev pub renewal_acts : Node → List ℕ → Reply → List Act
renewal_acts p v r = Opened p Renew ∷ Drew (Nonce v) ∷ sent_acts p r

-- and so does an access point, by its next nonce: these are the acts
pub record BeginsRenewal (d : Domain) (old new : State) (sta : ℕ) (acts : List Act) : Type 0 where
  pub number : new.number ≡ old.number
  pub drawn : new.drawn ≡ old.drawn + 1
  pub group : new.group ≡ old.group
  pub sending : new.sending ≡ old.sending
  pub owing : new.owing ≡ old.owing
  pub reply : Reply
  pub renewed : RenewsAt (station_at old.stations sta) (station_at new.stations sta) (nonce d (Ap old.number) old.drawn) reply
  pub others : (k : ℕ) → k ≢ sta → station_at new.stations k ≡ station_at old.stations k
  pub says : acts ≡ renewal_acts (Sta sta) (nonce d (Ap old.number) old.drawn) reply

-- an access point sent to a station under the key of the session with it, if there is one, of which one more packet
-- number is used
pub record HasUsed (old new : State) (sta : ℕ) : Type 0 where
  pub number : new.number ≡ old.number
  pub drawn : new.drawn ≡ old.drawn
  pub group : new.group ≡ old.group
  pub sending : new.sending ≡ old.sending
  pub owing : new.owing ≡ old.owing
  pub is : station_at new.stations sta ≡ with_key (used_in (key_in (station_at old.stations sta))) (station_at old.stations sta)
  pub others : (k : ℕ) → k ≢ sta → station_at new.stations k ≡ station_at old.stations k
