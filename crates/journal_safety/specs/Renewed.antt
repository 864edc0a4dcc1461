-- The renewal of a pairwise key inside a session: it follows a final message with other nonces, and from then on no packet number is
-- used under the former key (profile).
use Rattle.std.specs.Prelude.{◌≡◌, true, cond, List, [], ◌∷◌, ◌++◌, Option, Some, None}
use Rattle.domain_base.specs.declared.names.Node.{Node}
use Rattle.key_hierarchy.specs.Keys.{ptk}
use Rattle.key_hierarchy.specs.declared.inputs.Inputs.{Inputs}
use Rattle.run_journal.specs.declared.acts.Act.{Act}
use Rattle.run_journal.specs.declared.acts.Act.TheVariants.{Finished}
use Rattle.run_journal.specs.declared.acts.Entry.{Entry}
use Rattle.run_journal.specs.Acts.{same}
use Rattle.run_journal.specs.Questions.{history, or_else, attempt}
use Rattle.run_journal.specs.Safe.{Use, use_of}
use Rattle.domain_rules.specs.Asking.{in_renewal}

-- the inputs of a final message of p that the act accepts
abbrev pub finished_with : Node → Act → Option Inputs
finished_with p (Finished q i) = cond (same p q) (Some i) None
finished_with p _ = None

-- those of the last that was accepted
abbrev pub last_finished : Node → List Act → Option Inputs
last_finished p [] = None
last_finished p (e ∷ h) = or_else (finished_with p e) (last_finished p h)

-- both nonces are others
pub record NoncesDiffer (i k : Inputs) : Type 0 where
  pub anonce : i.anonce ≡ k.anonce → ⊥
  pub snonce : i.snonce ≡ k.snonce → ⊥

-- the entry accepts a final message of p with these inputs, in an attempt that renews the key of a session
pub record EndsRenewal (e : Entry) (past : List Entry) (p : Node) (i : Inputs) : Type 0 where
  pub is : e.act ≡ Finished p i
  pub renewal : in_renewal (attempt p (history e.node past)) ≡ true

-- whatever attempt that renews a key the entry ends, its node had accepted a final message of the same peer before, the last of them
-- with other nonces
abbrev pub FollowsAt : Entry → List Entry → Type 0
FollowsAt e past = (p : Node) (i : Inputs) → EndsRenewal e past p i → (k : Inputs) × ((last_finished p (history e.node past) ≡ Some k) × NoncesDiffer i k)

abbrev pub FollowsOthers : List Entry → Type 0
FollowsOthers [] = Unit {0}
FollowsOthers (e ∷ past) = FollowsAt e past × FollowsOthers past

-- where its node renewed a key before, the entry uses no packet number under the former one
abbrev pub UnusedAt : Entry → List Entry → Type 0
UnusedAt e past =
    (newer : List Entry) (m : Entry) (before : List Entry) (p : Node) (i k : Inputs) (u : Use) → past ≡ newer ++ m ∷ before → m.node ≡ e.node
    → EndsRenewal m before p i → last_finished p (history m.node before) ≡ Some k → use_of e.act ≡ Some u → u.key ≡ (ptk k).tk → ⊥

abbrev pub FormerUnused : List Entry → Type 0
FormerUnused [] = Unit {0}
FormerUnused (e ∷ past) = UnusedAt e past × FormerUnused past
