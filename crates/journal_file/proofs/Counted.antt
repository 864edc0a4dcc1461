-- The lines of a script, octet by octet, and the text of the file.
use Rattle.std.proofs.Common.{◌≡◌, ◌≢◌, ◌+◌, ◌<◌, ◌≤◌, ◌==◌, cond, not, Bool, true, false, ℕ, suc, List, [], ◌∷◌, ◌++◌, append_assoc, codes, decimal, length, map, take, get_or, reverse, refl, ap, sym, subst, ◌∙◌, arith}
use Rattle.std.specs.Prelude.{All}
use Rattle.std.proofs.lemmas.Bool.{eqb-true, true≢false}
use Rattle.std.proofs.lemmas.Grind.{flat_map-append}
use Rattle.std.proofs.lemmas.List.{append-nil, length_push, reverse-reverse, take_more}
use Rattle.std.proofs.lemmas.List.Elements.{All-head, All-nil, All-push, All-tail}
use Rattle.run_journal.specs.declared.acts.Entry.{Entry}
use Rattle.entry_lines.specs.Entries.{Fits, HasLine, SpellsEntry, bare}
use Rattle.entry_lines.specs.Lines.{entry_line}
use Rattle.journal_file.specs.declared.counting.LineCount.{LineCount}
use Rattle.journal_file.specs.File.{AllSpell, IsFile, IsLined, NoFeed, fed, last_line}
use Rattle.journal_file.specs.Counting.{IsCounted, any, feed_of, head, ones, text_of, with_octet}

-- ---- one octet more

pub fed_push : (lines : List (List ℕ)) (line : List ℕ) → fed (lines ++ line ∷ []) ≡ fed lines ++ (line ++ 10 ∷ [])
fed_push lines line =
    flat_map-append (λ (l : List ℕ). l ++ 10 ∷ []) lines (line ∷ []) ∙ ap (λ (w : List ℕ). fed lines ++ w) (append-nil (line ++ 10 ∷ []))

any_push : (octets : List ℕ) (o : ℕ) → true ≡ any (octets ++ o ∷ [])
any_push [] o = refl
any_push (x ∷ xs) o = refl

ones_push : (octets : List ℕ) (o : ℕ) → 1 ≡ ones (octets ++ o ∷ [])
ones_push [] o = refl
ones_push (x ∷ xs) o = refl

-- a line that is open is counted already
count_more : (rest : List ℕ) (n lines : ℕ) (u : Bool) → lines ≡ n + ones rest → u ≡ any rest → cond u lines (suc lines) ≡ n + 1
count_more [] n lines u is e =
    let none : lines ≡ n + 0 = is in
    rw e (omega (arith, none))
count_more (x ∷ xs) n lines u is e = rw e is

lines_whole : (n : ℕ) (whole : List (List ℕ)) (line : List ℕ) → n ≡ length whole + 1 → n ≡ length (whole ++ line ∷ []) + 0
lines_whole n whole line is = omega (arith, is, length_push whole line)

line_fed : (octets rest : List ℕ) (whole : List (List ℕ)) (o : ℕ) → octets ≡ fed whole ++ rest → o ≡ 10 → octets ++ o ∷ [] ≡ fed (whole ++ rest ∷ []) ++ []
line_fed octets rest whole o are feed =
    ap (λ (w : List ℕ). w ++ o ∷ []) are
    ∙ append_assoc (fed whole) rest (o ∷ [])
    ∙ ap (λ (x : ℕ). fed whole ++ (rest ++ x ∷ [])) feed
    ∙ sym (fed_push whole rest)
    ∙ sym (append-nil (fed (whole ++ rest ∷ [])))

counted_by : (octets : List ℕ) (c : LineCount) (o : ℕ) (feed : Bool) → (o == 10) ≡ feed → IsCounted octets c
    → IsCounted (octets ++ o ∷ []) (record { lines = cond c.unended c.lines (suc c.lines); unended = not feed })
counted_by octets c o true is h = record {
  whole = h.whole ++ h.rest ∷ [];
  rest = [];
  are = line_fed octets h.rest h.whole o h.are (eqb-true o 10 is);
  apart = All-push NoFeed h.whole h.rest h.apart h.open_line;
  open_line = All-nil (λ (x : ℕ). x ≢ 10);
  lines = lines_whole _ h.whole h.rest (count_more h.rest (length h.whole) c.lines c.unended h.lines h.unended);
  unended = refl;
}
counted_by octets c o false is h = record {
  whole = h.whole;
  rest = h.rest ++ o ∷ [];
  are = ap (λ (w : List ℕ). w ++ o ∷ []) h.are ∙ append_assoc (fed h.whole) h.rest (o ∷ []);
  apart = h.apart;
  open_line = All-push (λ (x : ℕ). x ≢ 10) h.rest o h.open_line (λ e. true≢false (subst (λ (n : ℕ). (n == 10) ≡ false) e is));
  lines = count_more h.rest (length h.whole) c.lines c.unended h.lines h.unended ∙ ap (λ (n : ℕ). length h.whole + n) (ones_push h.rest o);
  unended = any_push h.rest o;
}

pub none_counted : IsCounted [] (record { lines = 0; unended = false })
none_counted = record {
  whole = [];
  rest = [];
  are = refl;
  apart = All-nil NoFeed;
  open_line = All-nil (λ (x : ℕ). x ≢ 10);
  lines = refl;
  unended = refl;
}

pub one_counted : (octets : List ℕ) (i : ℕ) (c d : LineCount) → i < length octets → d ≡ with_octet c (get_or octets i 0) → IsCounted (take i octets) c → IsCounted (take (i + 1) octets) d
one_counted octets i c d within e h =
    let o = get_or octets i 0 in
    let more : take i octets ++ o ∷ [] ≡ take (i + 1) octets = sym (take_more octets i 0 within) in
    let step : IsCounted (take i octets ++ o ∷ []) (with_octet c o) = counted_by (take i octets) c o (o == 10) refl h in
    subst (λ (x : LineCount). IsCounted (take (i + 1) octets) x) (sym e) (subst (λ (w : List ℕ). IsCounted w (with_octet c o)) more step)

few_by : (u : Bool) (n i : ℕ) → n ≤ i → cond u n (suc n) ≤ i + 1
few_by true n i few = omega (arith, few)
few_by false n i few = omega (arith, few)

-- no more lines than octets
pub few_more : (c d : LineCount) (o i : ℕ) → d ≡ with_octet c o → c.lines ≤ i → d.lines ≤ i + 1
few_more c d o i e few = subst (λ (x : LineCount). x.lines ≤ i + 1) (sym e) (few_by c.unended c.lines i few)

-- ---- the text

fed_lines : (whole : List (List ℕ)) (rest : List ℕ) (u : Bool) → u ≡ any rest → (fed whole ++ rest) ++ feed_of u ≡ fed (whole ++ last_line rest)
fed_lines whole [] u e = rw e (append-nil (fed whole ++ []) ∙ append-nil (fed whole) ∙ ap fed (sym (append-nil whole)))
fed_lines whole (o ∷ os) u e = rw e (append_assoc (fed whole) (o ∷ os) (10 ∷ []) ∙ sym (fed_push whole (o ∷ os)))

lines_number : (whole : List (List ℕ)) (rest : List ℕ) → length whole + ones rest ≡ length (whole ++ last_line rest)
lines_number whole [] =
    let same : length (whole ++ []) ≡ length whole = ap (λ (w : List (List ℕ)). length w) (append-nil whole) in
    omega (arith, same)
lines_number whole (o ∷ os) = sym (length_push whole (o ∷ os))

text_shape : (a b n o e : List ℕ) → ((a ++ (10 ∷ (b ++ (n ++ 10 ∷ [])))) ++ o) ++ e ≡ (a ++ 10 ∷ []) ++ (((b ++ n) ++ 10 ∷ []) ++ (o ++ e))
text_shape a b n o e = simp append_assoc

-- what the lines of entries are read back as
abbrev pub LinesReadBack : Type 0
LinesReadBack = (e : Entry) → HasLine e.act → Fits e → SpellsEntry (entry_line e) (bare e)

all_spell : (law : LinesReadBack) (es : List Entry) → All IsLined es → All Fits es → AllSpell (map entry_line es) es
all_spell law [] has fit = tt
all_spell law (e ∷ es) has fit = (
  law e (All-head IsLined e es has) (All-head Fits e es fit),
  all_spell law es (All-tail IsLined e es has) (All-tail Fits e es fit),
)

pub file_is : (law : LinesReadBack) (octets : List ℕ) (c : LineCount) (es : List Entry) → IsCounted octets c → All IsLined es → All Fits es → IsFile octets (reverse es) (text_of octets c es)
file_is law octets c es h has fit =
    let script : List (List ℕ) = h.whole ++ last_line h.rest in
    let lines : List (List ℕ) = map entry_line es in
    let script_fed : octets ++ feed_of c.unended ≡ fed script = ap (λ (w : List ℕ). w ++ feed_of c.unended) h.are ∙ fed_lines h.whole h.rest c.unended h.unended in
    record {
      script = script;
      lines = lines;
      script_is = record { whole = h.whole; rest = h.rest; are = h.are; apart = h.apart; open_line = h.open_line; lines_are = refl };
      spell = subst (λ (l : List Entry). AllSpell lines l) (sym (reverse-reverse es)) (all_spell law es has fit);
      text_is =
          ap (λ (n : ℕ). (head n ++ (octets ++ feed_of c.unended)) ++ fed lines) (h.lines ∙ lines_number h.whole h.rest)
          ∙ ap (λ (w : List ℕ). (head (length script) ++ w) ++ fed lines) script_fed
          ∙ text_shape (codes "audit 1") (codes "script ") (decimal (length script)) (fed script) (fed lines)
          ∙ ap (λ (w : List ℕ). (codes "audit 1" ++ 10 ∷ []) ++ (((codes "script " ++ decimal (length script)) ++ 10 ∷ []) ++ w)) (sym (flat_map-append (λ (l : List ℕ). l ++ 10 ∷ []) script lines));
    }
