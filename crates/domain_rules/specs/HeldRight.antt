-- What key holders may answer, as a fact about a journal, a list of entries, NEWEST FIRST (profile).
use Rattle.std.specs.Prelude.{◌≡◌, ℕ, suc, ◌≤◌, Bool, true, false, not, ◌&&◌, ◌||◌, nat_lt, List, [], ◌∷◌, ◌++◌, Option, Some, None, cond}
use Rattle.domain_base.specs.declared.names.Node.{Node}
use Rattle.key_hierarchy.specs.declared.answers.PullAnswer.{PullAnswer}
use Rattle.key_hierarchy.specs.declared.answers.PullAnswer.TheVariants.{Found, NoHolder, Absent}
use Rattle.key_hierarchy.specs.FastTransition.{pmk_r0, pmk_r1}
use Rattle.run_journal.specs.declared.domain.Domain.{Domain}
use Rattle.run_journal.specs.declared.acts.Act.{Act}
use Rattle.run_journal.specs.declared.acts.Act.TheVariants.{Looked}
use Rattle.run_journal.specs.declared.acts.Entry.{Entry}
use Rattle.run_journal.specs.Acts.{same}
use Rattle.run_journal.specs.Premises.{In}
use Rattle.run_journal.specs.Holders.{held, is_ended}
use Rattle.domain_rules.specs.Network.{mac, psk_of, holder_of}
use Rattle.domain_rules.specs.Present.{present, earlier}

-- the act put a row of that name and station
abbrev pub is_of : Node → Option Node → Bool
is_of p None = false
is_of p (Some q) = same p q

abbrev pub puts_row : List ℕ → Node → Act → Bool
puts_row name p e = is_of p (held name e)

-- a row of that name and station was put at access point r in a round below the first number, and since then none of
-- that name was revoked there in a round below the second (IEEE Std 802.11-2020, 12.7.1.6, profile)
abbrev pub stands : Node → List ℕ → Node → ℕ → ℕ → List Entry → Bool
stands r name p before since [] = false
stands r name p before since (e ∷ past) =
    (same r e.node && nat_lt e.round before && puts_row name p e.act)
    || (not (same r e.node && nat_lt e.round since && is_ended name e.act) && stands r name p before since past)

-- at the own holder: a row stands there before the look (IEEE Std 802.11-2020, 12.7.1.6, profile)
abbrev pub stands_here : Node → List ℕ → Node → List Entry → Bool
stands_here r name p [] = false
stands_here r name p (e ∷ past) =
    (same r e.node && puts_row name p e.act) || (not (same r e.node && is_ended name e.act) && stands_here r name p past)

-- a look, where it stands: its access point, its round, what it asked, and for whom
pub record Looking : Type 0 where
  pub node : Node
  pub round : ℕ
  pub name : List ℕ
  pub sta : Node

-- The answer of another access point's holder r: what it had at some moment of the round. Where a row was found, one
-- had been put in this round or before, and was not revoked before this round; where none was, each that had been put
-- before this round was revoked in this round or before (IEEE Std 802.11-2020, 12.7.1.6, profile).
abbrev pub AnsweredElsewhere : Node → Looking → PullAnswer → List Entry → Type 0
AnsweredElsewhere r l (Found k) j = stands r l.name l.sta (suc l.round) l.round j ≡ true
AnsweredElsewhere r l Absent j = stands r l.name l.sta l.round (suc l.round) j ≡ false
AnsweredElsewhere r l NoHolder j = ⊥

-- The answer of the own holder: what it had just then (IEEE Std 802.11-2020, 12.7.1.6, profile).
abbrev pub AnswersAt : Node → Looking → PullAnswer → List Entry → Type 0
AnswersAt r l (Found k) past = stands_here r l.name l.sta past ≡ true
AnswersAt r l Absent past = stands_here r l.name l.sta past ≡ false
AnswersAt r l NoHolder past = ⊥

-- by the holder that has the R0KH-ID, where there is one (IEEE Std 802.11-2020, 12.7.1.6, profile)
abbrev pub AnsweredBy : Option Node → Looking → PullAnswer → List Entry → List Entry → Type 0
AnsweredBy None l answer past j = answer ≡ NoHolder
AnsweredBy (Some r) l answer past j = cond (same r l.node) (AnswersAt r l answer past) (AnsweredElsewhere r l answer j)

-- the PMK-R1 that was found is the one of the station's pre-shared key in that network, the holder, the station and the access point that asked
-- (IEEE Std 802.11-2020, 12.7.1.6)
abbrev pub GivesRightKey : Domain → List ℕ → Looking → PullAnswer → Type 0
GivesRightKey d id l (Found k) = k ≡ pmk_r1 (pmk_r0 (psk_of d l.sta) d.ssid d.mdid id (mac d l.sta)) (mac d l.node) (mac d l.sta)
GivesRightKey d id l answer = Unit {0}

-- a look, by its node, round, name and station
abbrev pub looking : Entry → List ℕ → Node → Looking
looking e name p = record { node = e.node; round = e.round; name = name; sta = p }

-- the entry of journal j, after that past, is answered rightly, where it is a look. The station's key is that to which it
-- was changed last in an earlier round (IEEE Std 802.11-2020, 12.7.1.6, profile)
abbrev pub HeldAt : Domain → List Entry → Entry → List Entry → Type 0
HeldAt d j e past =
    (id name : List ℕ) (p : Node) (answer : PullAnswer) → e.act ≡ Looked id name p answer
    → AnsweredBy (holder_of d id) (looking e name p) answer past j × GivesRightKey (present d (earlier e.round j)) id (looking e name p) answer

-- and so are all entries of that end of it
unfoldable pub AllHeld : Domain → List Entry → List Entry → Type 0
AllHeld d j [] = Unit {0}
AllHeld d j (e ∷ past) = HeldAt d j e past × AllHeld d j past

-- each look of the journal is answered rightly (IEEE Std 802.11-2020, 12.7.1.6, profile)
abbrev pub HeldRight : Domain → List Entry → Type 0
HeldRight d j = AllHeld d j j

-- ---- answers that are right at one moment of a round

-- the moment is an end of the journal such that of the acts of r none before it is of a later round, and none after it
-- of an earlier one
abbrev pub NoneLater : Node → ℕ → List Entry → Type 0
NoneLater r round past = (m : Entry) → In m past → m.node ≡ r → m.round ≤ round

-- of the acts of r since then none is of an earlier round
abbrev pub NoneEarlier : Node → ℕ → List Entry → Type 0
NoneEarlier r round since = (m : Entry) → In m since → m.node ≡ r → round ≤ m.round

-- a moment of the round of a look, and what the other holder had then
pub record SomeMoment (r : Node) (l : Looking) (answer : PullAnswer) (j : List Entry) : Type 0 where
  pub since : List Entry
  pub at : List Entry
  pub cut : j ≡ since ++ at
  pub before : NoneLater r l.round at
  pub behind : NoneEarlier r l.round since
  pub answers : AnswersAt r l answer at

-- another holder answers by what it has at some moment of the round, the own one by what it has just then
abbrev pub AnsweredBySome : Option Node → Looking → PullAnswer → List Entry → List Entry → Type 0
AnsweredBySome None l answer past j = answer ≡ NoHolder
AnsweredBySome (Some r) l answer past j = cond (same r l.node) (AnswersAt r l answer past) (SomeMoment r l answer j)

-- so it is of the look of one entry, if it is one
abbrev pub InTimeAt : Domain → List Entry → Entry → List Entry → Type 0
InTimeAt d j e past =
    (id name : List ℕ) (p : Node) (answer : PullAnswer) → e.act ≡ Looked id name p answer
    → AnsweredBySome (holder_of d id) (looking e name p) answer past j × GivesRightKey (present d (earlier e.round j)) id (looking e name p) answer

-- so it is of each entry
unfoldable pub AllInTime : Domain → List Entry → List Entry → Type 0
AllInTime d j [] = Unit {0}
AllInTime d j (e ∷ past) = InTimeAt d j e past × AllInTime d j past

-- so it is of each look of a journal
abbrev pub AnsweredInTime : Domain → List Entry → Type 0
AnsweredInTime d j = AllInTime d j j
