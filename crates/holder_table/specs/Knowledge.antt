-- What a call leaves a pass with (profile).
use Rattle.std.specs.Prelude.{◌≡◌, ℕ, ◌<◌, true, List, [], ◌∷◌, ◌++◌, length, Option, None, Some, slice_get}
use Rattle.domain_base.specs.declared.names.Mac.{Mac}
use Rattle.key_hierarchy.specs.declared.answers.PutAnswer.{PutAnswer}
use Rattle.key_hierarchy.specs.declared.answers.PutAnswer.TheVariants.{Held, HeldAlready, Full, NoMemory}
use Rattle.key_hierarchy.specs.declared.answers.PullAnswer.{PullAnswer}
use Rattle.key_hierarchy.specs.declared.answers.PullAnswer.TheVariants as pulled
use Rattle.key_hierarchy.specs.declared.answers.RevokeAnswer.{RevokeAnswer}
use Rattle.key_hierarchy.specs.declared.answers.RevokeAnswer.TheVariants as revoked
use Rattle.key_holders.specs.declared.rows.HolderRow.{HolderRow}
use Rattle.key_holders.specs.Keys.{row_r1}
use Rattle.key_holders.specs.Pulls.{Matches, NoneLives, ByHolder}
use Rattle.holder_table.specs.declared.history.HolderEvent.{HolderEvent}
use Rattle.holder_table.specs.declared.history.HolderEvent.TheVariants.{Put, Revoke}
use Rattle.holder_table.specs.declared.view.View.{View}
use Rattle.holder_table.specs.declared.view.Load.{Load}
use Rattle.holder_table.specs.Histories.{is_in, live, held_at, Follows}
use Rattle.holder_table.specs.Steps.{load_of, without, those_below, those_from}

-- The pass has the same access points, and knows every event and load that it knew.
pub record NoLess (v w : View) : Type 0 where
  pub seen : Follows v.seen w.seen
  pub has : w.has ≡ v.has
  pub loads : (gained : List Load) × (w.loads ≡ gained ++ v.loads)

-- The pass has the same access points, at which nothing changed, and knows no less.
pub record KnowsMore (v w : View) : Type 0 where
  pub seen : Follows v.seen w.seen
  pub has : w.has ≡ v.has
  pub own : (r : ℕ) → is_in r v.has ≡ true → held_at r w.seen ≡ held_at r v.seen
  pub loads : (gained : List Load) × (w.loads ≡ gained ++ v.loads)
  pub settled : w.brought ≡ []

-- The same, but that the pass added an event, after all that it had seen.
pub record Did (e : HolderEvent) (v w : View) : Type 0 where
  pub between : List HolderEvent
  pub seen : w.seen ≡ e ∷ between ++ v.seen
  pub has : w.has ≡ v.has
  pub own : (r : ℕ) → is_in r v.has ≡ true → held_at r (between ++ v.seen) ≡ held_at r v.seen
  pub loads : (gained : List Load) × (w.loads ≡ gained ++ v.loads)
  pub settled : w.brought ≡ []

-- The last load of a call.
abbrev pub LastLoad : Load → View → View → Type 0
LastLoad load v w = (gained : List Load) × (w.loads ≡ load ∷ gained ++ v.loads)

-- A walk over the rows of an access point found a live one that matches, whose state word it loaded last, as 1. Or
-- there was none, and the last load was of the first place that has no row, if there is one, as 0.
abbrev pub Finds : ℕ → List ℕ → Mac → View → View → Option HolderRow → Type 0
Finds r name sta v w (Some row) =
    (j : ℕ) × (slice_get (held_at r w.seen) j ≡ Some (live row)) × Matches name sta row × LastLoad (load_of r j 1) v w
Finds r name sta v w None =
    NoneLives name sta (held_at r w.seen)
    × (length (held_at r w.seen) < 64 → LastLoad (load_of r (length (held_at r w.seen)) 0) v w)

-- The answer of a pull by what a walk found.
abbrev pub PullsAt : ℕ → List ℕ → Mac → Mac → View → View → PullAnswer → Type 0
PullsAt r name r1kh sta v w (pulled.Found r1) =
    (row : HolderRow) × (r1 ≡ row_r1 row r1kh) × Finds r name sta v w (Some row)
PullsAt r name r1kh sta v w pulled.Absent = Finds r name sta v w None
PullsAt r name r1kh sta v w pulled.NoHolder = ⊥

-- A pull by an R0KH-ID: the pass knows no less, nothing changed at its access points, and the answer is by a walk at an
-- access point that has the R0KH-ID, or none has it.
pub record Pulled (ids : List (List ℕ)) (r0kh_id name : List ℕ) (r1kh sta : Mac) (v w : View) (answer : PullAnswer) : Type 0 where
  pub less : NoLess v w
  pub own : (r : ℕ) → is_in r v.has ≡ true → held_at r w.seen ≡ held_at r v.seen
  pub found : ByHolder ids r0kh_id (λ r a. PullsAt r name r1kh sta v w a) answer

-- A put: the pass knows that it added the row where it is held, and else that nothing changed at its access points.
-- Memory never runs out.
abbrev pub AfterPut : ℕ → HolderRow → View → View → PutAnswer → Type 0
AfterPut r row v w Held = Did (Put r row) v w
AfterPut r row v w HeldAlready = KnowsMore v w
AfterPut r row v w Full = KnowsMore v w
AfterPut r row v w NoMemory = ⊥

-- The row that was revoked is the live one of that name.
abbrev pub AfterRevoke : ℕ → List ℕ → View → View → RevokeAnswer → Type 0
AfterRevoke r name v w revoked.Revoked =
    (j : ℕ) × (row : HolderRow) × (slice_get (held_at r v.seen) j ≡ Some (live row)) × (row.name ≡ name) × Did (Revoke r j) v w
AfterRevoke r name v w revoked.Absent = KnowsMore v w

-- A pass gave an access point to a new one, with all that it knows.
pub record Gave (ap : ℕ) (v w given : View) : Type 0 where
  pub seen : Follows v.seen w.seen
  pub own : (r : ℕ) → is_in r v.has ≡ true → held_at r w.seen ≡ held_at r v.seen
  pub loads : (gained : List Load) × (w.loads ≡ gained ++ v.loads)
  pub has : w.has ≡ without ap v.has
  pub given_has : given.has ≡ ap ∷ []
  pub alike : (given.seen ≡ w.seen) × (given.loads ≡ w.loads)
  pub settled : (w.brought ≡ []) × (given.brought ≡ [])

-- A pass gave its access points from one on to a new one, with all that it knows.
pub record GaveFrom (ap : ℕ) (v w given : View) : Type 0 where
  pub seen : Follows v.seen w.seen
  pub own : (r : ℕ) → is_in r v.has ≡ true → held_at r w.seen ≡ held_at r v.seen
  pub loads : (gained : List Load) × (w.loads ≡ gained ++ v.loads)
  pub has : w.has ≡ those_below ap v.has
  pub given_has : given.has ≡ those_from ap v.has
  pub alike : (given.seen ≡ w.seen) × (given.loads ≡ w.loads)
  pub settled : (w.brought ≡ []) × (given.brought ≡ [])

-- A pass took another in. What either had seen is a beginning of what it sees now, and each knew all of its own access points.
pub record TookIn (v other w : View) : Type 0 where
  pub seen : Follows v.seen w.seen
  pub others_seen : Follows other.seen w.seen
  pub has : w.has ≡ v.has ++ other.has
  pub own : (r : ℕ) → is_in r v.has ≡ true → held_at r w.seen ≡ held_at r v.seen
  pub others : (r : ℕ) → is_in r other.has ≡ true → held_at r w.seen ≡ held_at r other.seen
  pub loads : w.loads ≡ other.loads ++ v.loads
  pub settled : w.brought ≡ []
