-- One write after another, to octets that may be known and by an object that counts its faults.
use Rattle.std.proofs.Common.{◌≡◌, ℕ, ◌+◌, ◌<◌, length, take, drop, reverse, get_or, List, [], ◌++◌, Option, Some, None, sym, ◌∙◌, ap, append_assoc}
use Rattle.std.specs.Io.KnownBytes.{Appends}
use Rattle.domain_base.specs.Causes.{AppendsPart}
use Rattle.domain_base.proofs.Taken.{Appends-then}
use Rattle.std.proofs.lemmas.Grind.{flat_map-append}
use Rattle.std.proofs.lemmas.List.{append-nil}
use Rattle.run_journal.specs.Report.{hex, line, lines}
use Rattle.run_journal.specs.declared.acts.Entry.{Entry}
use Rattle.journal_report.proofs.Journals.{lines-split, lines-step}

-- a part after a whole is a part
pub part-then : (a b c : Option (List ℕ)) (xs ys : List ℕ) → Appends a b xs → AppendsPart b c ys → AppendsPart a c (xs ++ ys)
part-then a b c xs ys p (front, rest, e, q) =
    (xs ++ front, rest, append_assoc xs front rest ∙ ap (λ (w : List ℕ). xs ++ w) e, Appends-then a b c xs front p q)

-- a part of a front is a part
pub part-more : (a b : Option (List ℕ)) (xs ys : List ℕ) → AppendsPart a b xs → AppendsPart a b (xs ++ ys)
part-more a b xs ys (front, rest, e, q) =
    (front, rest ++ ys, sym (append_assoc front rest ys) ∙ ap (λ (w : List ℕ). w ++ ys) e, q)

-- more digits have gone out, and more octets are done
pub digits-step : (a b c : Option (List ℕ)) (octets front rest piece behind : List ℕ) → front ++ rest ≡ octets → piece ++ behind ≡ rest → Appends a b (hex front) → Appends b c (hex piece) → (x : List ℕ) × ((x ++ behind ≡ octets) × Appends a c (hex x))
digits-step a b c octets front rest piece behind whole cut p q = (
  front ++ piece,
  (
    append_assoc front piece behind ∙ ap (λ (w : List ℕ). front ++ w) cut ∙ whole,
    rw flat_map-append (Appends-then a b c (hex front) (hex piece) p q),
  ),
)

-- a part of the digits has gone out
pub digits-part : (a b c : Option (List ℕ)) (octets front rest piece behind : List ℕ) → front ++ rest ≡ octets → piece ++ behind ≡ rest → Appends a b (hex front) → AppendsPart b c (hex piece) → AppendsPart a c (hex octets)
digits-part a b c octets front rest piece behind whole cut p q =
    rw (← whole, ← cut, flat_map-append, flat_map-append) (part-then a b c (hex front) (hex piece ++ hex behind) p (part-more b c (hex piece) (hex behind) q))

-- three pieces, of which the last that was tried may have gone out in part
pub part-of_first : (a b : Option (List ℕ)) (xs ys zs whole : List ℕ) → whole ≡ (xs ++ ys) ++ zs → AppendsPart a b xs → AppendsPart a b whole
part-of_first a b xs ys zs whole is p = rw is (part-more a b (xs ++ ys) zs (part-more a b xs ys p))

pub part-of_second : (a b c : Option (List ℕ)) (xs ys zs whole : List ℕ) → whole ≡ (xs ++ ys) ++ zs → Appends a b xs → AppendsPart b c ys → AppendsPart a c whole
part-of_second a b c xs ys zs whole is p q = rw is (part-more a c (xs ++ ys) zs (part-then a b c xs ys p q))

pub part-of_third : (a b c d : Option (List ℕ)) (xs ys zs whole : List ℕ) → whole ≡ (xs ++ ys) ++ zs → Appends a b xs → Appends b c ys → AppendsPart c d zs → AppendsPart a d whole
part-of_third a b c d xs ys zs whole is p q r = rw is (part-then a c d (xs ++ ys) zs (Appends-then a b c xs ys p q) r)

pub three-gone : (a b c d : Option (List ℕ)) (xs ys zs whole : List ℕ) → whole ≡ (xs ++ ys) ++ zs → Appends a b xs → Appends b c ys → Appends c d zs → Appends a d whole
three-gone a b c d xs ys zs whole is p q r = rw is (Appends-then a c d (xs ++ ys) zs (Appends-then a b c xs ys p q) r)

-- nothing has gone out yet
pub none-gone : (a : Option (List ℕ)) → Appends a a (lines [])
unfolding lines
none-gone None = tt
none-gone (Some xs) = sym (append-nil xs)

-- one line more has gone out
pub line-gone : (a b c : Option (List ℕ)) (es : List Entry) (i : ℕ) (e : Entry) → i < length es → e ≡ get_or es i e → Appends a b (lines (reverse (take i es))) → Appends b c (line e) → Appends a c (lines (reverse (take (i + 1) es)))
line-gone a b c es i e h is p q = rw (lines-step es i e h is) (Appends-then a b c (lines (reverse (take i es))) (line e) p q)

-- a part of one line more has gone out
pub line-part : (a b c : Option (List ℕ)) (es : List Entry) (i : ℕ) (e : Entry) → i < length es → e ≡ get_or es i e → Appends a b (lines (reverse (take i es))) → AppendsPart b c (line e) → AppendsPart a c (lines (reverse es))
line-part a b c es i e h is p q =
    let before = lines (reverse (take i es)) in
    rw (lines-split es (i + 1), lines-step es i e h is)
    (part-more a c (before ++ line e) (lines (reverse (drop (i + 1) es))) (part-then a b c before (line e) p q))
