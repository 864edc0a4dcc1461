-- Pieces of text written one after another, and lines of words.
use Rattle.std.specs.Prelude.{IsTrue, ◌↔◌}
use Rattle.std.proofs.Common.{◌≡◌, ℕ, ◌+◌, ◌<◌, ◌≤◌, Bool, true, false, List, [], ◌∷◌, ◌++◌, length, take, drop, get_or, map, codes, decimal, refl, subst, ap, ◌∙◌, append_assoc, add-one, arith, length-append, drop-cons}
use Rattle.std.proofs.Math.Seq.{take-suc}
use Rattle.std.proofs.lemmas.Grind.{flat_map-append}
use Rattle.std.proofs.lemmas.List.{append-nil}
use Rattle.domain_base.specs.declared.names.Node.{Node}
use Rattle.domain_base.specs.Names.{node_text}
use Rattle.run_journal.specs.Report.{hex, line, payload_text, words}
use Rattle.run_journal.specs.declared.acts.Act.TheVariants.{HandedUp}
use Rattle.run_journal.specs.declared.acts.Entry.{Entry}
use Rattle.journal_report.specs.Room.{room_of, up_head}
use Rattle.journal_report.specs.declared.words.Word.{Word}
use Rattle.journal_report.specs.declared.words.Word.TheVariants.{Text}
use Rattle.journal_report.specs.Words.{spaced, word_room, word_text, words_room}
use Rattle.journal_report.specs.Writing.{Writes}

-- a piece behind a piece
pub Writes-then : (p q : List ℕ) (at m n : ℕ) (a b c : List ℕ) → Writes p at a m b → Writes q m b n c → Writes (p ++ q) at a n c
Writes-then p q at m n a b c u v = record {
  end = omega (arith, u.end, v.end, length-append p q);
  front = v.front ∙ ap (λ (w : List ℕ). w ++ q) u.front ∙ append_assoc (take at a) p q;
  rest = λ k h. v.rest k h ∙ u.rest k (omega (arith, v.end));
  len = v.len ∙ u.len;
}

-- room for one word more
pub words_room-drop : (ws : List Word) (i : ℕ) (d : Word) → i < length ws → words_room (drop i ws) ≡ 1 + word_room (get_or ws i d) + words_room (drop (i + 1) ws)
words_room-drop ws i d h = rw (add-one, drop-cons ws i d h) refl

-- one word more, behind a space
pub spaced-more : (first : List ℕ) (ws : List Word) (i : ℕ) (d : Word) → i < length ws → spaced first (take (i + 1) ws) ≡ (spaced first (take i ws) ++ 32 ∷ []) ++ word_text (get_or ws i d)
spaced-more first ws i d h = rw (add-one, take-suc ws i d h) (simp (flat_map-append, append_assoc, append-nil))

-- a line is its words and a line feed
pub words-spaced : (first : List ℕ) (ws : List Word) → words (first ∷ map word_text ws) ≡ spaced first ws ++ 10 ∷ []
words-spaced first [] = simp append-nil
words-spaced first (w ∷ ws) = rw (words-spaced (word_text w) ws) (simp append_assoc)

-- the text after one word more
pub words-step : (first : List ℕ) (ws : List Word) (i : ℕ) (d : Word) (at m n k : ℕ) (a b c e : List ℕ) → i < length ws → Writes (spaced first (take i ws)) at a m b → Writes (32 ∷ []) m b n c → Writes (word_text (get_or ws i d)) n c k e → Writes (spaced first (take (i + 1) ws)) at a k e
words-step first ws i d at m n k a b c e h u v w =
    rw (spaced-more first ws i d h) (Writes-then _ _ at n k a c e (Writes-then _ _ at m n a b c u v) w)

-- the room for one word more
pub room-at : (ws : List Word) (i : ℕ) (d : Word) (end limit : ℕ) → i < length ws → end + words_room (drop i ws) ≤ limit → end + 1 + word_room (get_or ws i d) ≤ limit
room-at ws i d end limit h room = omega (arith, words_room-drop ws i d h)

-- the room after one word more
pub room-step : (ws : List Word) (i : ℕ) (d : Word) (end k limit : ℕ) → i < length ws → end + words_room (drop i ws) ≤ limit → k ≤ end + 1 + word_room (get_or ws i d) → k + words_room (drop (i + 1) ws) ≤ limit
room-step ws i d end k limit h room short = omega (arith, words_room-drop ws i d h)

-- the line of a payload handed up, in three pieces
pub up-line : (n p : Node) (id tid number : ℕ) (octets : List ℕ) → words (codes "up" ∷ node_text n ∷ node_text p ∷ decimal id ∷ decimal tid ∷ decimal number ∷ payload_text octets ∷ []) ≡ (up_head n p id tid number ++ payload_text octets) ++ 10 ∷ []
up-line n p id tid number octets = simp append_assoc

-- the word that stands for none in a lookup
abbrev pub no_word : Word
no_word = Text (record { ref_ptr = (0, 0); now = [] })

-- a line that does not fit is that of a payload handed up
pub long-line : (e : Entry) (p : Node) (key : List ℕ) (id tid number room : ℕ) (octets digits : List ℕ) (fits : Bool) → e.act ≡ HandedUp p key id tid number octets → digits ≡ octets → 128 ≤ room → fits ≡ false → (IsTrue fits ↔ (room_of e ≤ room)) → line e ≡ (up_head e.node p id tid number ++ hex digits) ++ 10 ∷ []
long-line e p key id tid number room [] digits fits is same low off iff =
    let on : false ≡ true = subst IsTrue off (iff.1 (rw is low)) in absurd cc
long-line e p key id tid number room (octet ∷ octets) digits fits is same low off iff =
    rw (is, same) (up-line e.node p id tid number (octet ∷ octets))
