-- Octets that wait, and lines behind them.
use Rattle.std.proofs.Common.{◌≡◌, ◌+◌, ◌<◌, ℕ, List, [], ◌∷◌, ◌++◌, append_assoc, length, map, take, drop, get_or, Option, refl, ap, sym, subst, ◌∙◌}
use Rattle.std.proofs.KnownBytes.{Appends-nil}
use Rattle.std.proofs.lemmas.Grind.{flat_map-append}
use Rattle.std.proofs.lemmas.List.{append-nil, map-append, map_more, take-append-drop}
use Rattle.std.specs.Io.KnownBytes.{Appends}
use Rattle.domain_base.specs.Causes.{AppendsPart}
use Rattle.domain_base.proofs.Taken.{Appends-then}
use Rattle.journal_report.proofs.Taken.{part-more, part-then}
use Rattle.run_journal.specs.declared.acts.Entry.{Entry}
use Rattle.entry_lines.specs.Lines.{entry_line}
use Rattle.journal_file.specs.File.{fed}
use Rattle.journal_file.specs.Counting.{entries_text}
use Rattle.journal_file.specs.Waiting.{Waits}
use Rattle.journal_file.proofs.Counted.{fed_push}

-- nothing waits
pub none_waits : (a : Option (List ℕ)) → Waits a a [] []
none_waits a = ([], refl, Appends-nil a)

-- all that waited has gone out
pub all_gone : (a b c : Option (List ℕ)) (waiting text : List ℕ) → Waits a b waiting text → Appends b c waiting → Appends a c text
all_gone a b c waiting text (gone, is, p) q = subst (λ (w : List ℕ). Appends a c w) is (Appends-then a b c gone waiting p q)

pub none_left : (a b c : Option (List ℕ)) (waiting text : List ℕ) → Waits a b waiting text → Appends b c waiting → Waits a c [] text
none_left a b c waiting text w q = (text, append-nil text, all_gone a b c waiting text w q)

-- or a part of it
pub part_gone : (a b c : Option (List ℕ)) (waiting text : List ℕ) → Waits a b waiting text → AppendsPart b c waiting → AppendsPart a c text
part_gone a b c waiting text (gone, is, p) q = subst (λ (w : List ℕ). AppendsPart a c w) is (part-then a b c gone waiting p q)

-- more waits
pub more_waits : (a b : Option (List ℕ)) (waiting text piece : List ℕ) → Waits a b waiting text → Waits a b (waiting ++ piece) (text ++ piece)
more_waits a b waiting text piece (gone, is, p) = (gone, sym (append_assoc gone waiting piece) ∙ ap (λ (w : List ℕ). w ++ piece) is, p)

-- ---- the lines of entries

pub entries_step : (es : List Entry) (i : ℕ) (e : Entry) → i < length es → e ≡ get_or es i e → entries_text (take i es) ++ (entry_line e ++ 10 ∷ []) ≡ entries_text (take (i + 1) es)
entries_step es i e within is =
    ap (λ (x : Entry). entries_text (take i es) ++ (entry_line x ++ 10 ∷ [])) is
    ∙ sym (fed_push (map entry_line (take i es)) (entry_line (get_or es i e)))
    ∙ ap fed (sym (map_more entry_line es i e within))

entries_split : (es : List Entry) (i : ℕ) → entries_text (take i es) ++ entries_text (drop i es) ≡ entries_text es
entries_split es i =
    sym (flat_map-append (λ (l : List ℕ). l ++ 10 ∷ []) (map entry_line (take i es)) (map entry_line (drop i es)))
    ∙ ap fed (sym (map-append entry_line (take i es) (drop i es)))
    ∙ ap entries_text (take-append-drop i es)

-- a part of the first lines is a part of all
pub front_part : (a b : Option (List ℕ)) (es : List Entry) (i : ℕ) → AppendsPart a b (entries_text (take i es)) → AppendsPart a b (entries_text es)
front_part a b es i p = subst (λ (w : List ℕ). AppendsPart a b w) (entries_split es i) (part-more a b (entries_text (take i es)) (entries_text (drop i es)) p)
