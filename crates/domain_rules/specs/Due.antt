-- What an event adds by what a key holder gave, and which entries of a round are due, by the entries that are told. Entries
-- that are told, and that are due, stand OLDEST FIRST; journals and histories newest first (profile).
use Rattle.std.specs.Prelude.{◌≡◌, ℕ, true, List, [], ◌∷◌, ◌++◌, length, drop, Option, Some, None}
use Rattle.std.specs.List.{AllByRecursion}
use Rattle.domain_base.specs.declared.names.Akm.TheVariants.{FtPsk}
use Rattle.domain_base.specs.declared.names.Node.{Node}
use Rattle.key_hierarchy.specs.declared.answers.PullAnswer.TheVariants.{Found}
use Rattle.key_hierarchy.specs.declared.fast_transition.PmkR1.{PmkR1}
use Rattle.run_journal.specs.declared.domain.Domain.{Domain}
use Rattle.run_journal.specs.Events.{protects}
use Rattle.run_journal.specs.declared.domain.Event.{Event}
use Rattle.run_journal.specs.declared.acts.Act.{Act}
use Rattle.run_journal.specs.declared.acts.Act.TheVariants.{Looked}
use Rattle.run_journal.specs.declared.acts.Entry.{Entry}
use Rattle.run_journal.specs.Questions.{history}
use Rattle.domain_rules.specs.Network.{is_ap, renews}
use Rattle.domain_rules.specs.Rows.{NodeEvent, Take, Rekey, Roam, Renew, Announce, TakeRow, RowOf}
use Rattle.domain_rules.specs.Owing.{and_switch}
use Rattle.domain_rules.specs.Present.{present}
use Rattle.domain_rules.specs.Rounds.{Place, in_order}
use Rattle.domain_rules.specs.Explained.{number_of, push, AllHappen}
use Rattle.domain_rules.specs.Here.{Here, here}

-- ---- the acts of one event, by what a key holder gave

-- the acts of the event itself, where a holder that is asked gives that PMK-R1, or none: octets that come are judged by
-- it, and nothing else asks a holder
abbrev pub RowBy : Here → List Act → NodeEvent → Option PmkR1 → List Act → Type 0
RowBy w h (Take octets) x g = (t : TakeRow w h octets g) × (t.facts.pulled ≡ x)
RowBy w h event x g = RowOf w h event g

-- the event adds these acts by that answer, in order, to that history of the node
pub record GroupBy (w : Here) (h : List Act) (event : NodeEvent) (x : Option PmkR1) (g : List Act) : Type 0 where
  pub acts : List Act
  pub row : RowBy w h event x acts
  pub is : g ≡ and_switch w.domain w.node h acts

-- an event for which this node has a row: an access point alone draws group keys, begins to renew a pairwise key, where the
-- network renews them, and sends an announcement, where the network protects it; a station roams with suite 4 alone
abbrev pub CanCome : Domain → Node → NodeEvent → Type 0
CanCome d n Rekey = is_ap n ≡ true
CanCome d n (Roam a) = d.akm ≡ FtPsk
CanCome d n (Renew s) = (is_ap n ≡ true) × (renews d ≡ true)
CanCome d n (Announce octets) = (is_ap n ≡ true) × (protects d ≡ true)
CanCome d n event = Unit {0}

-- what a look gave, where an act is one that found a key
abbrev pub given_by : Act → Option PmkR1
given_by (Looked id name p (Found k)) = Some k
given_by _ = None

-- what a holder gave, as a group tells it: by the look that stands next after its first act
abbrev pub given_in : List Act → Option PmkR1
given_in [] = None
given_in (took ∷ []) = None
given_in (took ∷ e ∷ g) = given_by e

-- the same of entries, with which those of a group begin
abbrev pub answer_in : List Entry → Option PmkR1
answer_in [] = None
answer_in (took ∷ []) = None
answer_in (took ∷ e ∷ told) = given_by e.act

-- ---- acts as entries

-- the entry of an act of a node in a round, after that journal
abbrev pub entry_of : ℕ → Node → Act → List Entry → Entry
entry_of round n act past = record { round = round; node = n; number = number_of act past; act = act }

-- the entries of acts, in order
abbrev pub entries_of : ℕ → Node → List Act → List Entry → List Entry
entries_of round n [] past = []
entries_of round n (act ∷ g) past = entry_of round n act past ∷ entries_of round n g (entry_of round n act past ∷ past)

-- a journal with these entries put on it, in order
abbrev pub onto : List Entry → List Entry → List Entry
onto [] j = j
onto (e ∷ told) j = onto told (e ∷ j)

-- ---- the entries of a round

-- The entries that are due at these nodes, one node after the other, in that round after that journal: those that their events add,
-- each by the answer that the entries tell which stand where its own have to.
abbrev pub Due : Domain → ℕ → List Place → List Entry → List Entry → List Entry → Type 0
Due d round [] old told due = due ≡ []
Due d round (p ∷ places) old told due =
    (g : List Act) × (GroupBy (here d 0 p.node) (history p.node old) p.event (answer_in told) g
    × ((more : List Entry) × ((due ≡ entries_of round p.node g old ++ more) × Due d round places (push round p.node g old) (drop (length g) told) more)))

-- the entries that are due in a round of these events, by those that are told
pub record DueInRound (d : Domain) (round : ℕ) (events : List Event) (old told due : List Entry) : Type 0 where
  pub places : List Place
  pub happen : AllHappen d events old round places
  pub are : Due (present d old) round (in_order places) old told due

-- events that can each be one of their node
abbrev pub AllCanCome : Domain → List Place → Type 0
AllCanCome d places = AllByRecursion (λ (p : Place). CanCome d p.node p.event) places
