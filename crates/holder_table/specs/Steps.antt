-- What each step tells the pass that takes it (profile).
use Rattle.std.specs.Prelude.{◌≡◌, ℕ, ◌<◌, ◌≤◌, ◌==◌, nat_lt, if◌then◌else◌, true, List, [], ◌∷◌, ◌++◌, length, All, take, Some, slice_get}
use Rattle.atomic_table.specs.Table.{Step, Me}
use Rattle.holder_table.specs.declared.words.RowWords.{RowWords}
use Rattle.holder_table.specs.declared.history.HolderEvent.{HolderEvent}
use Rattle.holder_table.specs.declared.history.HolderEvent.TheVariants.{Put, Revoke}
use Rattle.holder_table.specs.Histories.{HeldRow, is_in, held_at, Follows}
use Rattle.holder_table.specs.declared.view.View.{View}
use Rattle.holder_table.specs.declared.view.Load.{Load}
use Rattle.holder_table.specs.Rule.{Lasts}
use Rattle.holder_table.specs.Words.{state_word, data_word, octets_in, piece, state_of, row_words, row_of}

-- a load of the state word of a row, and what it gave
abbrev pub load_of : ℕ → ℕ → ℕ → Load
load_of r j n = record { ap = r; place = j; state = n }

-- The history is seen as it is now: it goes on from all that was seen or told, with nothing new at the pass's own
-- access points. What lasts of the loads that the pass lists is so in it.
pub record Sees (v w : View) : Type 0 where
  pub seen : Follows v.seen w.seen
  pub told : Follows v.told w.seen
  pub has : w.has ≡ v.has ++ v.brought
  pub own : (r : ℕ) → is_in r v.has ≡ true → held_at r w.seen ≡ held_at r v.seen
  pub brought : (r : ℕ) → is_in r v.brought ≡ true → held_at r w.seen ≡ held_at r v.told
  pub loads : All (Lasts w.seen) v.loads
  pub settled : (w.brought ≡ []) × (w.told ≡ [])

-- The state word of a row was loaded: it is as the history that is now seen says.
abbrev pub Looked : Step (Unit {0}) → Me (Unit {0}) View → ℕ → Me (Unit {0}) View → Type 0
Looked s v n w = (r j : ℕ) → j < 64 → s.word ≡ state_word r j →
    Sees v.0 w.0 × (n ≡ state_of (held_at r w.0.seen) j) × (w.0.loads ≡ load_of r j n ∷ v.0.loads) × (w.0.gives ≡ r) × (length (held_at r w.0.seen) ≤ 64) × (w.1 ≡ v.1)

-- Word 0 was loaded, and what a joined pass brought is its own from now on.
abbrev pub Settled : Step (Unit {0}) → Me (Unit {0}) View → ℕ → Me (Unit {0}) View → Type 0
Settled s v n w = Sees v.0 w.0 × (w.0.loads ≡ v.0.loads) × (w.1 ≡ v.1)

-- A word of a row that is known was loaded.
abbrev pub ReadWord : Step (Unit {0}) → Me (Unit {0}) View → ℕ → Me (Unit {0}) View → Type 0
ReadWord s v n w = (w ≡ v) × ((r j k : ℕ) (p : HeldRow) → j < 64 → k < 7 → s.word ≡ data_word r j k → slice_get (held_at r v.0.seen) j ≡ Some p → octets_in k n ≡ piece p.row k)

-- so many words of a row were stored, and then one more
abbrev pub drafted : View → ℕ → ℕ → ℕ → View
drafted v r k n = record v { writes = r; draft = take k v.draft ++ n ∷ [] }

-- The row that is written may go on with its k-th word.
abbrev pub GoesOn : View → ℕ → ℕ → Type 0
GoesOn v r k = (k ≤ length v.draft) × (0 < k → v.writes ≡ r)

-- The k-th word of the row that is to come was stored.
abbrev pub Wrote : Step (Unit {0}) → Me (Unit {0}) View → ℕ → Me (Unit {0}) View → Type 0
Wrote s v n w = (r k : ℕ) → k < 7 → length (held_at r v.0.seen) < 64 → s.word ≡ data_word r (length (held_at r v.0.seen)) k → w ≡ (drafted v.0 r k n, v.1)

-- All words of the row were stored.
abbrev pub written : View → ℕ → RowWords → View
written v r words = record v { writes = r; draft = row_words words }

-- One event was added to the history.
pub record Adds (e : HolderEvent) (v w : View) : Type 0 where
  pub between : List HolderEvent
  pub seen : w.seen ≡ e ∷ between ++ v.seen
  pub same : (r : ℕ) → is_in r v.has ≡ true → held_at r (between ++ v.seen) ≡ held_at r v.seen
  pub has : w.has ≡ v.has
  pub loads : w.loads ≡ v.loads
  pub settled : (w.brought ≡ []) × (w.told ≡ [])

-- The row that was written was published.
abbrev pub Published : Step (Unit {0}) → Me (Unit {0}) View → ℕ → Me (Unit {0}) View → Type 0
Published s v n w = (r : ℕ) → length (held_at r v.0.seen) < 64 → s.word ≡ state_word r (length (held_at r v.0.seen)) → Adds (Put r (row_of v.0.draft)) v.0 w.0 × (w.1 ≡ v.1)

-- The row was revoked.
abbrev pub Ended : Step (Unit {0}) → Me (Unit {0}) View → ℕ → Me (Unit {0}) View → Type 0
Ended s v n w = (r j : ℕ) → j < 64 → s.word ≡ state_word r j → Adds (Revoke r j) v.0 w.0 × (w.1 ≡ v.1)

-- all access points but that one
abbrev pub without : ℕ → List ℕ → List ℕ
without a [] = []
without a (x ∷ xs) = if x == a then without a xs else x ∷ without a xs

-- What a split leaves: all but the access point that is given away.
abbrev pub kept_part : View → View
kept_part v = record v { has = without v.gives v.has; draft = [] }

-- What it gives: that access point, and all that is known.
abbrev pub given_part : View → View
given_part v = record v { has = v.gives ∷ []; draft = []; brought = []; told = [] }

-- those below an access point
abbrev pub those_below : ℕ → List ℕ → List ℕ
those_below a [] = []
those_below a (x ∷ xs) = if nat_lt x a then x ∷ those_below a xs else those_below a xs

-- that access point, and those after it
abbrev pub those_from : ℕ → List ℕ → List ℕ
those_from a [] = []
those_from a (x ∷ xs) = if nat_lt x a then those_from a xs else x ∷ those_from a xs

-- What a split from one access point on leaves: those below it.
abbrev pub below_part : View → View
below_part v = record v { has = those_below v.gives v.has; draft = [] }

-- What it gives: that access point and those after it, and all that is known.
abbrev pub from_part : View → View
from_part v = record v { has = those_from v.gives v.has; draft = []; brought = []; told = [] }

-- The access points of the other pass, and the history that it has seen, until the next look.
abbrev pub united : View → View → View
united v w = record v { loads = w.loads ++ v.loads; draft = []; brought = w.has; told = w.seen }

-- a pass that has no access point and knows nothing
abbrev pub nobody : View
nobody = record { has = []; seen = []; loads = []; writes = 0; draft = []; brought = []; told = []; gives = 0 }
