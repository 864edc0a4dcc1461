-- Fields written one after another.
use Rattle.std.proofs.Common.{◌≡◌, ℕ, ◌+◌, ◌/◌, ◌%◌, ◌<◌, ◌≤◌, List, [], ◌∷◌, ◌++◌, length, take, drop, get_or, refl, sym, ap, subst, ◌∙◌, add-one, arith, drop-cons}
use Rattle.std.specs.Prelude.{◌==◌, cond}
use Rattle.std.proofs.Math.Seq.{take-suc}
use Rattle.std.proofs.lemmas.Grind.{flat_map-append}
use Rattle.std.proofs.lemmas.List.{append-nil, map-append}
use Rattle.journal_report.specs.Writing.{Writes}
use Rattle.journal_report.proofs.Texts.{Writes-then, no_word}
use Rattle.key_hierarchy.specs.declared.inputs.Ptk.{Ptk}
use Rattle.run_journal.specs.Report.{hex, hex_digit}
use Rattle.entry_lines.specs.Lines.{after_spaces, pointed, ptk_octets}
use Rattle.entry_lines.specs.Words.{field_room, field_text, fields_room, fields_text, point}
use Rattle.entry_lines.specs.declared.words.Field.{Field}
use Rattle.entry_lines.specs.declared.words.Field.TheVariants.{Plain}

-- the field that stands for none in a lookup
abbrev pub no_field : Field
no_field = Plain no_word

-- a text that is known to be another
pub Writes-is : (p q : List ℕ) (at m : ℕ) (a b : List ℕ) → Writes p at a m b → q ≡ p → Writes q at a m b
Writes-is p q at m a b w is = subst (λ (x : List ℕ). Writes x at a m b) (sym is) w

-- room for one field more
fields_room-drop : (fs : List Field) (i : ℕ) (d : Field) → i < length fs → fields_room (drop i fs) ≡ 1 + field_room (get_or fs i d) + fields_room (drop (i + 1) fs)
fields_room-drop fs i d h = rw (add-one, drop-cons fs i d h) refl

pub field-room : (fs : List Field) (i : ℕ) (d : Field) (end limit : ℕ) → i < length fs → end + fields_room (drop i fs) ≤ limit → end + 1 + field_room (get_or fs i d) ≤ limit
field-room fs i d end limit h room = omega (arith, fields_room-drop fs i d h)

pub field-room-step : (fs : List Field) (i : ℕ) (d : Field) (end k limit : ℕ) → i < length fs → end + fields_room (drop i fs) ≤ limit → k ≤ end + 1 + field_room (get_or fs i d) → k + fields_room (drop (i + 1) fs) ≤ limit
field-room-step fs i d end k limit h room short = omega (arith, fields_room-drop fs i d h)

-- one field more
fields-more : (fs : List Field) (i : ℕ) (d : Field) → i < length fs → fields_text (take (i + 1) fs) ≡ fields_text (take i fs) ++ 32 ∷ field_text (get_or fs i d)
fields-more fs i d h = rw (add-one, take-suc fs i d h) (simp (flat_map-append, append-nil))

pub fields-step : (fs : List Field) (i : ℕ) (d : Field) (at m k : ℕ) (a b e : List ℕ) → i < length fs → Writes (fields_text (take i fs)) at a m b → Writes (32 ∷ field_text (get_or fs i d)) m b k e → Writes (fields_text (take (i + 1) fs)) at a k e
fields-step fs i d at m k a b e h u v = rw (fields-more fs i d h) (Writes-then _ _ at m k a b e u v)

-- fields after fields
pub fields-then : (ws vs : List (List ℕ)) (at m n : ℕ) (a b c : List ℕ) → Writes (after_spaces ws) at a m b → Writes (after_spaces vs) m b n c → Writes (after_spaces (ws ++ vs)) at a n c
fields-then ws vs at m n a b c u v = rw flat_map-append (Writes-then _ _ at m n a b c u v)

-- one field is what stands after one space
pub one-field : (w : List ℕ) (at m : ℕ) (a b : List ℕ) → Writes (32 ∷ w) at a m b → Writes (after_spaces (w ∷ [])) at a m b
one-field w at m a b u = rw append-nil u

-- one octet more, a point for a space
pointed-more : (text : List ℕ) (i : ℕ) (d : ℕ) → i < length text → pointed (take (i + 1) text) ≡ pointed (take i text) ++ point (get_or text i d) ∷ []
pointed-more text i d h = rw (add-one, take-suc text i d h) (map-append (λ c. cond (c == 32) 46 c) (take i text) (get_or text i d ∷ []))

pub pointed-step : (text : List ℕ) (i : ℕ) (d : ℕ) (at m k : ℕ) (a b e : List ℕ) → i < length text → Writes (pointed (take i text)) at a m b → Writes (point (get_or text i d) ∷ []) m b k e → Writes (pointed (take (i + 1) text)) at a k e
pointed-step text i d at m k a b e h u v = rw (pointed-more text i d h) (Writes-then _ _ at m k a b e u v)

-- ---- the parts of a pairwise transient key, as one word

hex-append : (xs ys : List ℕ) → hex (xs ++ ys) ≡ hex xs ++ hex ys
hex-append [] ys = refl
hex-append (o ∷ xs) ys = ap (λ (l : List ℕ). hex_digit (o / 16) ∷ hex_digit (o % 16) ∷ l) (hex-append xs ys)

pub ptk-written : (k : Ptk) (at m n p q : ℕ) (a b c d e : List ℕ) → Writes (32 ∷ []) at a m b → Writes (hex k.kck) m b n c → Writes (hex k.kek) n c p d → Writes (hex k.tk) p d q e → Writes (after_spaces (hex (ptk_octets k) ∷ [])) at a q e
ptk-written k at m n p q a b c d e u v w x =
    one-field (hex (ptk_octets k)) at q a e
    (Writes-is _ (32 ∷ hex (ptk_octets k)) _ _ _ _
    (Writes-then (32 ∷ []) (hex k.kck ++ (hex k.kek ++ hex k.tk)) at m q a b e u
    (Writes-then (hex k.kck) (hex k.kek ++ hex k.tk) m n q b c e v (Writes-then (hex k.kek) (hex k.tk) n p q c d e w x)))
    (ap (λ (l : List ℕ). 32 ∷ l) (hex-append k.kck (k.kek ++ k.tk) ∙ ap (λ (l : List ℕ). hex k.kck ++ l) (hex-append k.kek k.tk))))

-- ---- a whole line

pub line-written : (round : List ℕ) (ws vs : List (List ℕ)) (m n q : ℕ) (a b c e : List ℕ) → Writes round 0 a m b → Writes (after_spaces ws) m b n c → Writes (after_spaces vs) n c q e → Writes (round ++ after_spaces (ws ++ vs)) 0 a q e
line-written round ws vs m n q a b c e u v w = Writes-then round (after_spaces (ws ++ vs)) 0 m q a b e u (fields-then ws vs m n q b c e v w)
