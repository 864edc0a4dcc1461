-- What the parts with stations do as new group keys are given to each session (IEEE Std 802.11-2020, 12.7.7.2).
use Rattle.std.specs.Prelude.{◌≡◌, ℕ, zero, suc, List, [], ◌++◌, Option, Some, None}
use Rattle.domain_base.specs.declared.names.Node.TheVariants.{Sta}
use Rattle.run_journal.specs.declared.acts.Act.{Act}
use Rattle.run_journal.specs.declared.reply.Reply.{Reply}
use Rattle.domain_rules.specs.Replies.{sent_acts}
use Rattle.group_key.specs.declared.news.News.{News}
use Rattle.authenticator.specs.Beside.{GivesBeside}
use Rattle.authenticator.specs.Kinds.{kinds}
use Rattle.authenticator.specs.State.{State as Part}
use Rattle.authenticator.specs.declared.session.Session.{Session}
use Rattle.ap_node.specs.declared.station.Station.{Station}
use Rattle.ap_node.specs.declared.station.Session.{Session as Kept}
use Rattle.ap_node.specs.State.{session_in, station_at}

-- the part of the session sent G1 with those group keys: these acts are those of its reply
pub record IsGiven (station : ℕ) (g : News) (old new : Station) (acts : List Act) : Type 0 where
  pub reply : Reply
  pub s : Kept
  pub part : Part
  pub was : old.session ≡ Some s
  pub is : new ≡ record { attempt = old.attempt; session = Some (record { part = part; key = s.key; came_of = s.came_of }) }
  pub says : acts ≡ sent_acts (Sta station) reply
  pub gives : GivesBeside s.part part g reply
  pub attempt : part.attempt ≡ s.part.attempt
  pub kinds_are : kinds part ≡ kinds s.part

-- the part sent G1, where there is a session
abbrev pub IsGivenIn : ℕ → News → Option Session → Station → Station → List Act → Type 0
IsGivenIn station g None old new acts = (new ≡ old) × (acts ≡ [])
IsGivenIn station g (Some s) old new acts = IsGiven station g old new acts

-- of one station
abbrev pub IsGivenAt : ℕ → News → Station → Station → List Act → Type 0
IsGivenAt station g old new acts = IsGivenIn station g (session_in old) old new acts

-- the first so many did, in order
abbrev pub AreGiven : News → List (ℕ × Station) → List (ℕ × Station) → ℕ → List Act → Type 0
AreGiven g old new zero acts = acts ≡ []
AreGiven g old new (suc k) acts =
    (before one : List Act) × (acts ≡ before ++ one) × AreGiven g old new k before × IsGivenAt k g (station_at old k) (station_at new k) one
