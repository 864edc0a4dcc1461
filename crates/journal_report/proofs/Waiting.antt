-- Lines that wait in a buffer, before they go out together.
use Rattle.std.proofs.Common.{◌≡◌, ℕ, ◌+◌, ◌<◌, ◌≤◌, length, take, drop, reverse, get_or, List, [], ◌++◌, Option, refl, sym, ◌∙◌, ap, append_assoc}
use Rattle.std.specs.Io.KnownBytes.{Appends}
use Rattle.domain_base.specs.Causes.{AppendsPart}
use Rattle.std.proofs.Math.Seq.{take-append-add}
use Rattle.domain_base.proofs.Taken.{Appends-then}
use Rattle.std.proofs.lemmas.List.{append-nil, take_all}
use Rattle.run_journal.specs.Report.{line, lines}
use Rattle.run_journal.specs.declared.acts.Entry.{Entry}
use Rattle.journal_report.proofs.Journals.{lines-split, lines-step}
use Rattle.journal_report.proofs.Taken.{none-gone, part-more, part-then}

-- what has gone out and what waits are the lines of the first entries
abbrev pub Waits : Option (List ℕ) → Option (List ℕ) → List ℕ → List Entry → Type 0
Waits old new waiting es = (gone : List ℕ) × ((gone ++ waiting ≡ lines (reverse es)) × Appends old new gone)

-- one line more
pub line-waits : (a b c : Option (List ℕ)) (es : List Entry) (i : ℕ) (e : Entry) (before after gone : List ℕ) → i < length es → e ≡ get_or es i e → Waits a b before (take i es) → gone ++ after ≡ before ++ line e → Appends b c gone → Waits a c after (take (i + 1) es)
line-waits a b c es i e before after gone h is (earlier, (whole, p)) cut q = (
  earlier ++ gone,
  (
    append_assoc earlier gone after
        ∙ ap (λ (w : List ℕ). earlier ++ w) cut
        ∙ sym (append_assoc earlier before (line e))
        ∙ ap (λ (w : List ℕ). w ++ line e) whole
        ∙ sym (lines-step es i e h is),
    Appends-then a b c earlier gone p q,
  ),
)

-- a part of what waits and of one line more has gone out
pub line-waits-part : (a b c : Option (List ℕ)) (es : List Entry) (i : ℕ) (e : Entry) (before : List ℕ) → i < length es → e ≡ get_or es i e → Waits a b before (take i es) → AppendsPart b c (before ++ line e) → AppendsPart a c (lines (reverse es))
line-waits-part a b c es i e before h is (earlier, (whole, p)) q =
    let both : earlier ++ (before ++ line e) ≡ lines (reverse (take i es)) ++ line e = sym (append_assoc earlier before (line e)) ∙ ap (λ (w : List ℕ). w ++ line e) whole in
    rw (lines-split es (i + 1), lines-step es i e h is, ← both)
    (part-more a c (earlier ++ (before ++ line e)) (lines (reverse (drop (i + 1) es))) (part-then a b c earlier (before ++ line e) p q))

-- all that waited has gone out, or a part of it
pub all-gone : (a b c : Option (List ℕ)) (es : List Entry) (i : ℕ) (waiting : List ℕ) → length es ≤ i → Waits a b waiting (take i es) → Appends b c waiting → Appends a c (lines (reverse es))
all-gone a b c es i waiting end (earlier, (whole, p)) q =
    let is : earlier ++ waiting ≡ lines (reverse es) = whole ∙ ap (λ (l : List Entry). lines (reverse l)) (take_all i es end) in
    rw (← is) (Appends-then a b c earlier waiting p q)

pub part-gone : (a b c : Option (List ℕ)) (es : List Entry) (i : ℕ) (waiting : List ℕ) → length es ≤ i → Waits a b waiting (take i es) → AppendsPart b c waiting → AppendsPart a c (lines (reverse es))
part-gone a b c es i waiting end (earlier, (whole, p)) q =
    let is : earlier ++ waiting ≡ lines (reverse es) = whole ∙ ap (λ (l : List Entry). lines (reverse l)) (take_all i es end) in
    rw (← is) (part-then a b c earlier waiting p q)

-- what waited and then a line: neither, the first, or both have gone out whole
pub first-gone : (a b : Option (List ℕ)) (xs ys : List ℕ) → AppendsPart a b xs → AppendsPart a b (xs ++ ys)
first-gone a b xs ys p = part-more a b xs ys p

pub second-gone : (a b c : Option (List ℕ)) (xs ys : List ℕ) → Appends a b xs → AppendsPart b c ys → AppendsPart a c (xs ++ ys)
second-gone a b c xs ys p q = part-then a b c xs ys p q

pub both-gone : (a b c : Option (List ℕ)) (xs ys : List ℕ) → Appends a b xs → Appends b c ys → (x : List ℕ) × (x ++ [] ≡ xs ++ ys) × Appends a c x
both-gone a b c xs ys p q = (xs ++ ys, append-nil (xs ++ ys), Appends-then a b c xs ys p q)

-- nothing has gone out yet, and nothing waits
pub nothing-waits : (a : Option (List ℕ)) → Waits a a [] []
unfolding lines
nothing-waits a = ([], (refl, none-gone a))

-- a line comes to wait after what waits, and nothing goes out
pub line-comes : (a : Option (List ℕ)) (waiting count : ℕ) (front room text old : List ℕ) → length front ≡ waiting → front ≡ take waiting old → take count room ≡ text → (x : List ℕ) × (x ++ take (waiting + count) (front ++ room) ≡ take waiting old ++ text) × Appends a a x
unfolding lines
line-comes a waiting count front room text old size is new = (
  [],
  ap (λ (n : ℕ). take (n + count) (front ++ room)) (sym size) ∙ take-append-add front room count ∙ ap (λ (w : List ℕ). front ++ w) new ∙ ap (λ (w : List ℕ). w ++ text) is,
  none-gone a,
)
