-- The law that runs are safe (profile).
use Rattle.std.specs.Prelude.{ℕ, ◌≡◌, ◌==◌, Bool, true, if◌then◌else◌, List, [], ◌∷◌, Option, Some, None}
use Rattle.domain_base.specs.declared.names.Node.{Node}
use Rattle.run_journal.specs.declared.domain.Domain.{Domain}
use Rattle.run_journal.specs.declared.domain.Event.{Event}
use Rattle.run_journal.specs.declared.acts.Act.{Act}
use Rattle.run_journal.specs.declared.acts.Act.TheVariants.{HandedUp}
use Rattle.run_journal.specs.declared.acts.Entry.{Entry}
use Rattle.run_journal.specs.Premises.{In, Fresh, NoCollision, Unforged}
use Rattle.run_journal.specs.Safe.{Safe, Use, up_from}
use Rattle.domain_rules.specs.Network.{is_ap}
use Rattle.journal_safety.specs.NeverBack.{NeverBack}
use Rattle.journal_safety.specs.Renewed.{FollowsOthers, FormerUnused}
use Rattle.journal_safety.specs.SentFrames.{SentWith}
use Rattle.script_runs.specs.Script.{IsRun}

-- the key ids of IGTKs (IEEE Std 802.11-2020, 9.4.2.54)
abbrev pub is_igtk_id : ℕ → Bool
is_igtk_id id = if id == 4 then true else id == 5

-- an announcement that an act hands up, with its IGTK and packet number
abbrev pub announcement_of : Act → Option Use
announcement_of (HandedUp p key id tid number octets) =
    if is_igtk_id id then Some (record { key = key; number = number; octets = octets }) else None
announcement_of _ = None

-- p, an access point, had sent it before, under that key and number, and the node of the entry had not handed it up before
pub record IsAnnounced (p : Node) (u : Use) (e : Entry) (past : List Entry) : Type 0 where
  pub access_point : is_ap p ≡ true
  pub sent : SentWith p u e past
  pub once : (m : Entry) (v : Use) → In m past → m.node ≡ e.node → announcement_of m.act ≡ Some v → u.key ≡ v.key → u.number ≡ v.number → ⊥

-- each announcement that the entry hands up its access point had sent, and it is handed up once
abbrev pub AnnouncedAt : Entry → List Entry → Type 0
AnnouncedAt e past = (p : Node) (u : Use) → announcement_of e.act ≡ Some u → up_from e.act ≡ Some p → IsAnnounced p u e past

abbrev pub Announced : List Entry → Type 0
Announced [] = Unit {0}
Announced (e ∷ past) = AnnouncedAt e past × Announced past

-- the parts of safety; no group key that a station takes from an access point, installed or resumed, goes back in the order in
-- which the access point drew them; and each final message that renews a pairwise key follows one of the same peer with other nonces,
-- and from then on its node uses no packet number under the former key. Each announcement that is handed up was sent by its
-- access point, with that IGTK and packet number, and is handed up once
pub record SafeRun (j : List Entry) : Type 0 where
  pub safe : Safe j
  pub never_back : NeverBack j
  pub follows : FollowsOthers j
  pub former_unused : FormerUnused j
  pub announced : Announced j

-- a run of rounds in a network, of whatever suite, in which what is drawn is fresh, derived keys do not collide and every MIC that
-- verified was made by a holder of its key
abbrev pub RunsAreSafe : Type 0
RunsAreSafe = (d : Domain) (run : List (List Event)) (j : List Entry) → IsRun d run j → Fresh j → NoCollision j → Unforged j → SafeRun j
