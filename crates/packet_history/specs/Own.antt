-- The parts of safety, by the entries of one node, a list, NEWEST FIRST (profile).
use Rattle.std.specs.Prelude.{ℕ, ◌≡◌, ◌⊎◌, cond, List, [], ◌∷◌, slice_get, Option, None, Some}
use Rattle.domain_base.specs.declared.names.Node.{Node}
use Rattle.key_hierarchy.specs.declared.inputs.Inputs.{Inputs}
use Rattle.key_hierarchy.specs.declared.inputs.Ptk.{Ptk}
use Rattle.run_journal.specs.declared.acts.Act.{Act}
use Rattle.run_journal.specs.declared.acts.Act.TheVariants.{Derived, Finished}
use Rattle.run_journal.specs.declared.acts.Entry.{Entry}
use Rattle.run_journal.specs.Acts.{same}
use Rattle.run_journal.specs.Premises.{In, IsBefore}
use Rattle.run_journal.specs.Safe.{Use, installed, use_of, up_of}

-- the entries of a node in a journal
abbrev pub entries_at : Node → List Entry → List Entry
entries_at n [] = []
entries_at n (e ∷ past) = cond (same n e.node) (e ∷ entries_at n past) (entries_at n past)

-- a key that the act installs, none of these entries installed before
abbrev pub InstallsNewIn : Act → List Entry → Type 0
InstallsNewIn act own = (m : Entry) (key : List ℕ) → In m own → installed act ≡ Some key → installed m.act ≡ Some key → ⊥

-- the key and the number of the act none of these entries had before
abbrev pub UsesNewIn : (Act → Option Use) → Act → List Entry → Type 0
UsesNewIn f act own = (m : Entry) (u v : Use) → In m own → f act ≡ Some u → f m.act ≡ Some v → u.key ≡ v.key → u.number ≡ v.number → ⊥

-- no two of these entries have one key and one number
abbrev pub OnceIn : (Act → Option Use) → List Entry → Type 0
OnceIn f [] = Unit {0}
OnceIn f (e ∷ own) = UsesNewIn f e.act own × OnceIn f own

-- an entry of these passes
abbrev pub SomeIn : (Entry → Type 0) → List Entry → Type 0
SomeIn P [] = ⊥
SomeIn P (e ∷ own) = P e ⊎ SomeIn P own

-- the entry derived a key from these inputs, before that one
abbrev pub DerivesBefore : Inputs → Entry → Entry → Type 0
DerivesBefore i e m = IsBefore m e × ((p : Node) × ((k : Ptk) × (m.act ≡ Derived p i k)))

-- where the entry accepts a final message, one of these entries of the peer derived from its inputs before
abbrev pub JoinedIn : Entry → List Entry → Type 0
JoinedIn e own = (p : Node) (i : Inputs) → e.act ≡ Finished p i → SomeIn (DerivesBefore i e) own

-- the entry used the key, the number and the octets, before that one
abbrev pub UsesBefore : Use → Entry → Entry → Type 0
UsesBefore u e m = IsBefore m e × (use_of m.act ≡ Some u)

-- what the entry hands up one of these entries of the peer had used before, with that key, number and octets
abbrev pub SourcedIn : Entry → List Entry → Type 0
SourcedIn e own = (u : Use) → up_of e.act ≡ Some u → SomeIn (UsesBefore u e) own

-- where an entry stands at the place, it used the packet before that one
abbrev pub UsedThere : Use → Entry → List Entry → Option ℕ → Type 0
UsedThere u e entries None = ⊥
UsedThere u e entries (Some place) = (m : Entry) × ((slice_get entries place ≡ Some m) × UsesBefore u e m)
