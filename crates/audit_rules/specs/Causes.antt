-- Why entries of a journal are not as they have to be (profile).
use Rattle.std.specs.Prelude.{ℕ, suc, ◌≡◌, ◌≢◌, ◌≤◌, ◌⊎◌, List, [], ◌∷◌, length, slice_get, Option, None, Some}
use Rattle.domain_base.specs.declared.names.Node.{Node}
use Rattle.run_journal.specs.declared.acts.Act.{Act}
use Rattle.run_journal.specs.declared.acts.Entry.{Entry}
use Rattle.run_journal.specs.Safe.{use_of, up_of, InstallsNew, UsesNew, JoinedAt, SourcedAt}
use Rattle.domain_rules.specs.Due.{entry_of}
use Rattle.audit_rules.specs.declared.cause.Cause.{Cause}
use Rattle.audit_rules.specs.declared.cause.Cause.TheVariants as cause

-- causes by number
abbrev pub cause_number : Cause → ℕ
cause_number cause.Other = 1
cause_number cause.Missing = 2
cause_number cause.Surplus = 3
cause_number cause.Held = 4
cause_number cause.Installed = 5
cause_number cause.Used = 6
cause_number cause.Joined = 7
cause_number cause.HandedUp = 8

-- the parts of safety hold of the entry, after that journal
pub record IsSafeAt (e : Entry) (past : List Entry) : Type 0 where
  pub installs : InstallsNew e past
  pub uses : UsesNew use_of e past
  pub joined : JoinedAt e past
  pub hands_up : UsesNew up_of e past
  pub sourced : SourcedAt e past

-- one of them does not, and those before it do
abbrev pub Lacks : Entry → List Entry → Cause → Type 0
Lacks e past cause.Installed = InstallsNew e past → ⊥
Lacks e past cause.Used = InstallsNew e past × (UsesNew use_of e past → ⊥)
Lacks e past cause.Joined = InstallsNew e past × (UsesNew use_of e past × (JoinedAt e past → ⊥))
Lacks e past cause.HandedUp = InstallsNew e past × (UsesNew use_of e past × (JoinedAt e past × (UsesNew up_of e past × SourcedAt e past → ⊥)))
Lacks e past _ = ⊥

abbrev pub Breach : Entry → List Entry → Option Cause → Type 0
Breach e past None = IsSafeAt e past
Breach e past (Some c) = Lacks e past c

-- an act that is due at that place of what is told of a round, after that journal: the entry told is that of the act and safe, or why
-- it is not
abbrev pub ActMet : ℕ → Node → Act → List Entry → List Entry → ℕ → Option Cause → Type 0
ActMet round n act j told at None = (slice_get told at ≡ Some (entry_of round n act j)) × IsSafeAt (entry_of round n act j) j
ActMet round n act j told at (Some cause.Other) = (e : Entry) × ((slice_get told at ≡ Some e) × (e ≢ entry_of round n act j))
ActMet round n act j told at (Some cause.Missing) = length told ≤ at
ActMet round n act j told at (Some c) = (slice_get told at ≡ Some (entry_of round n act j)) × Lacks (entry_of round n act j) j c

-- acts that are due one after the other, from that place of what is told on, after that journal: all are told and safe, up to the end, or
-- up to that place, and there is why the next is not
abbrev pub GroupMet : ℕ → Node → List Act → List Entry → List Entry → ℕ → ℕ → Option Cause → Type 0
GroupMet round n [] j told at end None = end ≡ at
GroupMet round n [] j told at end (Some c) = ⊥
GroupMet round n (act ∷ acts) j told at end o =
    (ActMet round n act j told at None × GroupMet round n acts (entry_of round n act j ∷ j) told (suc at) end o)
    ⊎ ((end ≡ at) × ((c : Cause) × ((o ≡ Some c) × ActMet round n act j told at (Some c))))
