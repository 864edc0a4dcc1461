-- The group keys that a station takes from one access point go on in the order of drawing (profile).
use Rattle.std.specs.Prelude.{ℕ, ◌≡◌, ◌⊎◌, List, [], ◌∷◌, ◌++◌, Option, Some, option_map}
use Rattle.domain_base.specs.declared.names.Node.{Node}
use Rattle.run_journal.specs.declared.acts.GroupKind.{GroupKind}
use Rattle.run_journal.specs.declared.acts.Act.{Act}
use Rattle.run_journal.specs.declared.acts.Act.TheVariants.{Resumed}
use Rattle.run_journal.specs.declared.acts.Entry.{Entry}
use Rattle.run_journal.specs.Acts.{GroupKey, taken_from}
use Rattle.run_journal.specs.Questions.{history, group_keys}
use Rattle.run_journal.specs.Premises.{In}

-- of the group keys of that kind that a node drew, the last first, the first stands after the second
abbrev pub DrawnBefore : GroupKind → List ℕ → List ℕ → List Act → Type 0
DrawnBefore kind first second h =
    (later : List (List ℕ)) × ((older : List (List ℕ)) × ((group_keys kind h ≡ later ++ second ∷ older) × In first older))

-- the group key of that kind that the act takes from access point p
abbrev pub key_from : GroupKind → Node → Act → Option (List ℕ)
key_from kind p act = option_map (λ (g : GroupKey). g.key) (taken_from kind p act)

-- what the act takes was drawn after that one, or is that one again where it is resumed
abbrev pub GoesOn : GroupKind → Act → List ℕ → List ℕ → List Act → Type 0
GoesOn kind (Resumed q key) old new h = (old ≡ new) ⊎ DrawnBefore kind old new h
GoesOn kind _ old new h = DrawnBefore kind old new h

-- whatever group key of a kind the entry takes from an access point goes on from each of that kind that its node took from
-- it before
abbrev pub GoesOnAt : Entry → List Entry → Type 0
GoesOnAt e past =
    (kind : GroupKind) (p : Node) (m : Entry) (new old : List ℕ) → In m past → m.node ≡ e.node → key_from kind p e.act ≡ Some new
    → key_from kind p m.act ≡ Some old → GoesOn kind e.act old new (history p past)

-- no group key that a station takes goes back in the order of drawing
abbrev pub NeverBack : List Entry → Type 0
NeverBack [] = Unit {0}
NeverBack (e ∷ past) = GoesOnAt e past × NeverBack past
