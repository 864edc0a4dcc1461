-- What contracts see of a pass and of the holders (profile).
use Rattle.std.specs.Prelude.{◌≡◌, ℕ, ◌+◌, ◌*◌, ◌<◌, true, List, []}
use Rattle.atomic_table.specs.Table.{Me}
use Rattle.atomic_table.specs.Seated.{TableId}
use Rattle.holder_table.specs.declared.view.View.{View}
use Rattle.holder_table.specs.Histories.{is_in, held_at, NoTwins}
use Rattle.holder_table.specs.Rule.{LoadsLast}

-- The holders: which table they are, and the R0KH-IDs of all access points in order.
pub record Holders : Type 0 where
  pub table : TableId
  pub ids : List (List ℕ)

-- A pass: of which table it is, and what it knows.
pub record Pass : Type 0 where
  pub table : TableId
  pub knows : View

-- Between calls a pass holds no slot of the table and owes no look, and its access points are the table's. No two live
-- rows there have one name, and what lasts of its loads is so in what it has seen.
pub record IsAtRest (id : TableId) (me : Me (Unit {0}) View) : Type 0 where
  pub free : me.1 ≡ []
  pub settled : me.0.brought ≡ []
  pub listed : (r : ℕ) → is_in r me.0.has ≡ true → 512 * r + 512 < id.words
  pub twins : (r : ℕ) → is_in r me.0.has ≡ true → NoTwins (held_at r me.0.seen)
  pub lasting : LoadsLast me.0
