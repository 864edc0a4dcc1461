-- A source read line by line.
use Rattle.std.proofs.Common.{◌≡◌, ◌≢◌, ℕ, suc, ◌+◌, ◌-◌, ◌<◌, ◌≤◌, ◌⊎◌, inl, inr, false, take, drop, get_or, List, [], ◌∷◌, ◌++◌, length, Option, refl, sym, ap, subst, ◌∙◌, append_assoc, arith}
use Rattle.std.proofs.lemmas.List.{append-nil, drop_all, drop-drop, get_or-take, length-append, length-drop, length-take, take-append-drop}
use Rattle.std.proofs.Math.Seq.{drop-cons}
use Rattle.std.proofs.lemmas.Bool.{cases_lt}
use Rattle.std.specs.Io.KnownBytes.{IsAtEnd}
use Rattle.text_lines.specs.declared.limits.Limits.{Limits}
use Rattle.text_lines.specs.declared.cutter.LineCutter.{LineCutter}
use Rattle.text_lines.specs.declared.reader.LineReader.{LineReader}
use Rattle.text_lines.specs.declared.reader.Next.{Next}
use Rattle.text_lines.specs.declared.reader.Next.TheVariants as next
use Rattle.text_lines.specs.Cuts.{HasCut}
use Rattle.text_lines.specs.Longs.{IsLong}
use Rattle.text_lines.specs.Reads.{HasRead, IsAt, IsLast, IsOver, IsShort, NextIs, unread}
use Rattle.text_lines.specs.Texts.{BeginsIn, NoFeed, without_return}
use Rattle.text_lines.proofs.Texts.{Begins-more, NoFeed-append}

-- ---- lists

apart : (more : List ℕ) → [] ≡ 10 ∷ more → ⊥
apart more e = cc

no_lines : (good : List (List ℕ)) → length good ≡ 0 → good ≡ []
no_lines [] e = refl
no_lines (line ∷ good) e = absurd cc

-- ---- what a line takes of a read

-- a line that is too long with these
pub too_long : (l : Limits) (before line rest : List ℕ) (n : ℕ) (good : List (List ℕ)) → BeginsIn l before good line → NoFeed line → NoFeed (take n rest) → l.octets < length line + length (take n rest) → IsLong l (before ++ rest) good
too_long l before line rest n good b none piece long = record {
  line = line ++ take n rest;
  after = drop n rest;
  begins = subst (λ (w : List ℕ). BeginsIn l (before ++ rest) good w) (ap (λ (w : List ℕ). line ++ w) (sym (take-append-drop n rest)) ∙ sym (append_assoc line (take n rest) (drop n rest))) (Begins-more l before rest good line b);
  open_line = NoFeed-append line (take n rest) none piece;
  long = omega (arith, long, length-append line (take n rest));
}

-- what is in no line yet, taken up to a place: the front of it is in the line, and the rest is not
pub split_read : (octets : List ℕ) (at e : ℕ) → at ≤ e → take (e - at) (drop at octets) ++ drop e octets ≡ drop at octets
split_read octets at e on =
    let place : at + (e - at) ≡ e = omega (arith, on) in
    ap (λ (w : List ℕ). take (e - at) (drop at octets) ++ w) (ap (λ (n : ℕ). drop n octets) (sym place) ∙ sym (drop-drop (e - at) at octets)) ∙ take-append-drop (e - at) (drop at octets)

pub read_on : (l : Limits) (r s : LineReader) (octets : List ℕ) (good : List (List ℕ)) (h : HasRead l r octets good) → r.at ≤ s.at → HasCut l s.cutter (h.before ++ take (s.at - r.at) (drop r.at (take r.end r.piece))) good
    → s.piece ≡ r.piece → s.end ≡ r.end → HasRead l s octets good
read_on l r s octets good h on cut piece end = record {
  before = h.before ++ take (s.at - r.at) (unread r);
  cut = cut;
  whole = h.whole ∙ ap (λ (w : List ℕ). h.before ++ w) (sym (split_read (take r.end r.piece) r.at s.at on)) ∙ sym (append_assoc h.before (take (s.at - r.at) (unread r)) (drop s.at (take r.end r.piece)))
      ∙ ap (λ (w : List ℕ). (h.before ++ take (s.at - r.at) (unread r)) ++ w) (ap (λ (n : ℕ). drop s.at (take n r.piece)) (sym end) ∙ ap (λ (p : List ℕ). drop s.at (take s.end p)) (sym piece));
}

-- a line that was not lengthened
pub cut_same : (l : Limits) (c d : LineCutter) (before : List ℕ) (good : List (List ℕ)) → HasCut l c before good → d.limits ≡ c.limits → d.lines ≡ c.lines → d.line.items ≡ c.line.items → HasCut l d before good
cut_same l c d before good h limits lines items = record {
  limits_are = limits ∙ h.limits_are;
  begins = subst (λ (w : List ℕ). BeginsIn l before good w) (sym items) h.begins;
  open_line = subst (λ (w : List ℕ). NoFeed w) (sym items) h.open_line;
  short = subst (λ (w : List ℕ). length w ≤ l.octets) (sym items) h.short;
  count = lines ∙ h.count;
  few = h.few;
}

-- ---- the end of a line

-- nothing that was read is left
none_left : (piece : List ℕ) (at end : ℕ) → end ≤ at → drop at (take end piece) ≡ []
none_left piece at end all = drop_all at (take end piece) (omega (arith, length-take end piece, all))

-- or something is
pub some_left : (r : LineReader) (more : List ℕ) → unread r ≡ 10 ∷ more → r.at < r.end
some_left r more feed = elim (cases_lt r.at r.end) [
  | inl low ↦ low
  | inr high ↦ absurd (apart more (sym (none_left r.piece r.at r.end high) ∙ feed))
]

-- its line feed is taken
pub line_ended : (l : Limits) (r s : LineReader) (octets : List ℕ) (good : List (List ℕ)) (more : List ℕ) (h : HasRead l r octets good) → unread r ≡ 10 ∷ more → s.at ≡ r.at + 1 → s.piece ≡ r.piece → s.end ≡ r.end
    → HasCut l s.cutter (h.before ++ 10 ∷ []) (r.cutter.line.items ∷ good) → HasRead l s octets (r.cutter.line.items ∷ good)
line_ended l r s octets good more h feed at piece end cut =
    let xs = take r.end r.piece in
    let rest : unread s ≡ more =
    ap (λ (p : List ℕ). drop s.at (take s.end p)) piece ∙ ap (λ (n : ℕ). drop s.at (take n r.piece)) end ∙ ap (λ (n : ℕ). drop n xs) at ∙ sym (drop-drop 1 r.at xs) ∙ ap (λ (w : List ℕ). drop 1 w) feed in
    record {
      before = h.before ++ 10 ∷ [];
      cut = cut;
      whole = h.whole ∙ ap (λ (w : List ℕ). h.before ++ w) feed ∙ sym (append_assoc h.before (10 ∷ []) more) ∙ ap (λ (w : List ℕ). (h.before ++ 10 ∷ []) ++ w) (sym rest);
    }

-- ---- what comes next

-- what was read is as it was, and no more was read
pub same_read : (l : Limits) (r : LineReader) (octets : List ℕ) (good : List (List ℕ)) → HasRead l r octets good → HasRead l r (octets ++ []) good
same_read l r octets good h = subst (λ (w : List ℕ). HasRead l r w good) (sym (append-nil octets)) h

-- the open line and what is in no line yet
all_begins : (l : Limits) (r : LineReader) (octets : List ℕ) (good : List (List ℕ)) → HasRead l r octets good → BeginsIn l octets good (r.cutter.line.items ++ unread r)
all_begins l r octets good h = subst (λ (w : List ℕ). BeginsIn l w good (r.cutter.line.items ++ unread r)) (sym h.whole) (Begins-more l h.before (unread r) good r.cutter.line.items h.cut.begins)

-- the open line alone, where all that was read was taken
open_begins : (l : Limits) (r : LineReader) (octets : List ℕ) (good : List (List ℕ)) → HasRead l r octets good → r.end ≤ r.at → BeginsIn l octets good r.cutter.line.items
open_begins l r octets good h all =
    let none : unread r ≡ [] = none_left r.piece r.at r.end all in
    subst (λ (w : List ℕ). BeginsIn l octets good w) (ap (λ (w : List ℕ). r.cutter.line.items ++ w) none ∙ append-nil r.cutter.line.items) (all_begins l r octets good h)

-- there is a line feed next
pub line_next : (l : Limits) (r : LineReader) (octets : List ℕ) (good : List (List ℕ)) → HasRead l r octets good → r.at < r.end → get_or r.piece r.at 0 ≡ 10 → length r.piece ≡ 512 → r.end ≤ 512
    → IsAt l false octets good r.cutter.line.items (without_return r.cutter.line.items) × ((more : List ℕ) × (unread r ≡ 10 ∷ more))
line_next l r octets good h some is room within =
    let xs = take r.end r.piece in
    let here : get_or xs r.at 0 ≡ 10 = get_or-take r.end r.piece r.at 0 some ∙ is in
    let feed : unread r ≡ 10 ∷ drop (suc r.at) xs = drop-cons xs r.at 0 (omega (arith, some, length-take r.end r.piece, room, within)) ∙ ap (λ (o : ℕ). o ∷ drop (suc r.at) xs) here in (
      record {
        after = unread r;
        begins = all_begins l r octets good h;
        open_line = h.cut.open_line;
        ends = inl ((drop (suc r.at) xs, feed), refl);
        short = h.cut.short;
        near = omega (arith, length-drop r.at xs, length-take r.end r.piece, within);
      },
      (drop (suc r.at) xs, feed),
    )

-- the source is at its end behind an open line, or before the first
last_next : (l : Limits) (r : LineReader) (octets : List ℕ) (good : List (List ℕ)) → HasRead l r octets good → r.end ≤ r.at → (r.cutter.line.items ≢ []) ⊎ (r.cutter.lines ≡ 0) → IsLast l octets good r.cutter.line.items
last_next l r octets good h all some = record {
  begins = open_begins l r octets good h all;
  open_line = h.cut.open_line;
  short = h.cut.short;
  some = elim some [
    | inl x ↦ inl x
    | inr none ↦ inr (no_lines good (sym h.cut.count ∙ none))
  ];
}

-- or behind a line feed
pub end_next : (l : Limits) (r : LineReader) (octets : List ℕ) (good : List (List ℕ)) → HasRead l r octets good → r.end ≤ r.at → r.cutter.line.items ≡ [] → r.cutter.lines ≢ 0 → IsOver l octets good
end_next l r octets good h all empty some = record {
  begins = subst (λ (w : List ℕ). BeginsIn l octets good w) empty (open_begins l r octets good h all);
  some = λ none. some (h.cut.count ∙ ap (λ (g : List (List ℕ)). length g) none);
}

-- the source failed
pub failed_next : (l : Limits) (r : LineReader) (octets : List ℕ) (good : List (List ℕ)) → HasRead l r octets good → r.end ≤ r.at → IsShort l octets good
failed_next l r octets good h all = record {
  rest = r.cutter.line.items;
  begins = open_begins l r octets good h all;
  open_line = h.cut.open_line;
  short = h.cut.short;
}

-- by which of the two it is at the end of the source
pub rest_next : (n : Next) (l : Limits) (r : LineReader) (left : Option (List ℕ)) (octets : List ℕ) (good : List (List ℕ)) → HasRead l r octets good → r.end ≤ r.at → IsAtEnd left
    → (n ≡ next.Last → (r.cutter.line.items ≢ []) ⊎ (r.cutter.lines ≡ 0)) → (n ≡ next.End → (r.cutter.line.items ≡ []) × (r.cutter.lines ≢ 0)) → (n ≡ next.Last) ⊎ (n ≡ next.End) → NextIs n l r left octets good
rest_next n l r left octets good h all over last end either = elim either [
  | inl is ↦ subst (λ (x : Next). NextIs x l r left octets good) (sym is) (last_next l r octets good h all (last is), over)
  | inr is ↦ subst (λ (x : Next). NextIs x l r left octets good) (sym is) (let e = end is in (end_next l r octets good h all e.0 e.1, over))
]
