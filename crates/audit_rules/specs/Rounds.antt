-- The entries told of a round, met with those that are due of all its events. Journals are NEWEST FIRST, what is told and due OLDEST FIRST
-- (profile).
use Rattle.std.specs.Prelude.{ℕ, zero, suc, ◌≡◌, ◌<◌, ◌⊎◌, List, [], ◌∷◌, drop, Option, None, Some}
use Rattle.domain_base.specs.declared.names.Node.TheVariants.{Ap}
use Rattle.run_journal.specs.declared.domain.Domain.{Domain}
use Rattle.run_journal.specs.declared.acts.Act.{Act}
use Rattle.run_journal.specs.declared.acts.Entry.{Entry}
use Rattle.run_journal.specs.Questions.{history}
use Rattle.domain_rules.specs.AccessPointRows.{start_acts}
use Rattle.domain_rules.specs.Due.{GroupBy, answer_in}
use Rattle.domain_rules.specs.Explained.{push}
use Rattle.domain_rules.specs.Rounds.{Place}
use Rattle.domain_rules.specs.Here.{here}
use Rattle.audit_rules.specs.declared.cause.Cause.{Cause}
use Rattle.audit_rules.specs.declared.cause.Cause.TheVariants as cause
use Rattle.audit_rules.specs.Causes.{GroupMet}

-- At these places, from that place of what is told on, after that journal: all that is due is told and safe, up to the end; or up to that
-- place, and there is why the next is not
abbrev pub PlacesMet : Domain → ℕ → List Place → List Entry → List Entry → ℕ → ℕ → Option Cause → Type 0
PlacesMet d round [] j told at end None = end ≡ at
PlacesMet d round [] j told at end (Some c) = ⊥
PlacesMet d round (p ∷ places) j told at end o =
    (g : List Act) × (GroupBy (here d 0 p.node) (history p.node j) p.event (answer_in (drop at told)) g
    × (((mid : ℕ) × (GroupMet round p.node g j told at mid None × PlacesMet d round places (push round p.node g j) told mid end o))
    ⊎ ((c : Cause) × ((o ≡ Some c) × GroupMet round p.node g j told at end (Some c)))))

-- the same of access points that start, from that one on, so many of them
abbrev pub StartsMet : Domain → ℕ → ℕ → List Entry → List Entry → ℕ → ℕ → Option Cause → Type 0
StartsMet d k zero j told at end None = end ≡ at
StartsMet d k zero j told at end (Some c) = ⊥
StartsMet d k (suc more) j told at end o =
    ((mid : ℕ) × (GroupMet 0 (Ap k) (start_acts d 0 (Ap k)) j told at mid None × StartsMet d (suc k) more (push 0 (Ap k) (start_acts d 0 (Ap k)) j) told mid end o))
    ⊎ ((c : Cause) × ((o ≡ Some c) × GroupMet 0 (Ap k) (start_acts d 0 (Ap k)) j told at end (Some c)))

-- how a round ends where so many entries are told: all are due, or more are told, or why the next is not
abbrev pub EndsBy : (ℕ → Option Cause → Type 0) → ℕ → ℕ → Option Cause → Type 0
EndsBy Met size place None = Met place None × (place ≡ size)
EndsBy Met size place (Some cause.Surplus) = Met place None × (place < size)
EndsBy Met size place (Some c) = Met place (Some c)
