-- Room for each line of some entries.
use Rattle.std.proofs.Common.{◌≡◌, ◌+◌, ◌<◌, ◌≤◌, ◌^◌, ℕ, List, Option, Some, None, length, take, get_or, subst, arith}
use Rattle.std.specs.Prelude.{All, IfSome, SomeIff}
use Rattle.std.proofs.lemmas.List.Elements.{All-more, All-weaker}
use Rattle.run_journal.specs.declared.acts.Entry.{Entry}
use Rattle.entry_lines.specs.Room.{line_room}

-- one entry more
pub room_more : (es : List Entry) (i : ℕ) (e : Entry) (most more : ℕ) → i < length es → e ≡ get_or es i e → most ≤ more → line_room e ≤ more → All (λ x. line_room x ≤ most) (take i es) → All (λ x. line_room x ≤ more) (take (i + 1) es)
room_more es i e most more within is over fits all =
    All-more (λ (x : Entry). line_room x ≤ more) es i e within
    (All-weaker (λ (x : Entry). line_room x ≤ most) (λ (x : Entry). line_room x ≤ more) (λ x h. omega (arith, h, over)) (take i es) all)
    (subst (λ (x : Entry). line_room x ≤ more) is fits)

-- room for the line feed, too
pub room_above : (es : List Entry) (most n : ℕ) → n ≡ most + 1 → All (λ x. line_room x ≤ most) es → All (λ x. line_room x < n) es
room_above es most n is all = All-weaker (λ (x : Entry). line_room x ≤ most) (λ (x : Entry). line_room x < n) (λ x h. omega (arith, h, is)) es all

pub some_above : (r : Option ℕ) (es : List Entry) (most : ℕ) → SomeIff r (most + 1 < 2 ^ 64) (most + 1) → All (λ x. line_room x ≤ most) es → IfSome r (λ n. All (λ x. line_room x < n) es)
some_above (Some n) es most s all = room_above es most n s.1 all
some_above None es most s all = tt

pub some_always : (r : Option ℕ) (P : Type 0) → P → IfSome r (λ _. P)
some_always (Some n) P p = p
some_always None P p = tt
