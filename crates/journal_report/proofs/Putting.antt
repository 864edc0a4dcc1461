-- A piece that is put into a slice, before another piece and behind one.
use Rattle.std.proofs.Common.{◌≡◌, ℕ, ◌+◌, ◌*◌, ◌≤◌, List, [], ◌∷◌, ◌++◌, length, take, drop, Result, sym, ap, subst, ◌∙◌}
use Rattle.domain_base.specs.Causes.{HasCause}
use Rattle.domain_base.specs.Names.{node_text}
use Rattle.domain_base.specs.declared.names.Node.{Node}
use Rattle.run_journal.specs.Report.{words}
use Rattle.run_journal.specs.declared.acts.Act.{Act}
use Rattle.run_journal.specs.declared.acts.Act.TheVariants.{HandedUp}
use Rattle.run_journal.specs.declared.acts.Entry.{Entry}
use Rattle.journal_report.specs.Room.{payload_of, room_of}
use Rattle.journal_report.specs.declared.words.Word.{Word}
use Rattle.journal_report.specs.Words.{word_text}
use Rattle.journal_report.specs.Writing.{Writes}
use Rattle.journal_report.proofs.Texts.{Writes-then}

-- the piece alone
pub put-alone : (p : List ℕ) (at m : ℕ) (a b : List ℕ) → m ≡ at + length p → take m b ≡ take at a ++ p → ((n : ℕ) → m ≤ n → drop n b ≡ drop n a) → length b ≡ length a → Writes p at a m b
put-alone p at m a b end front rest len = record { end = end; front = front; rest = rest; len = len }

-- another behind it
pub put-then : (p q : List ℕ) (at m k : ℕ) (a b c : List ℕ) → m ≡ at + length p → take m b ≡ take at a ++ p → ((n : ℕ) → m ≤ n → drop n b ≡ drop n a) → length b ≡ length a → Writes q m b k c → Writes (p ++ q) at a k c
put-then p q at m k a b c end front rest len v = Writes-then p q at m k a b c (put-alone p at m a b end front rest len) v

-- behind another
pub then-put : (p q : List ℕ) (at m k : ℕ) (a b c : List ℕ) → Writes p at a m b → k ≡ m + length q → take k c ≡ take m b ++ q → ((n : ℕ) → k ≤ n → drop n c ≡ drop n b) → length c ≡ length b → Writes (p ++ q) at a k c
then-put p q at m k a b c u end front rest len = Writes-then p q at m k a b c u (put-alone q m k b c end front rest len)

-- a text that is known to be another
pub Writes-as : (p q : List ℕ) (at m : ℕ) (a b : List ℕ) → q ≡ p → Writes p at a m b → Writes q at a m b
Writes-as p q at m a b is w = subst (λ (x : List ℕ). Writes x at a m b) (sym is) w

-- a line of a node, its peer and one word more
pub pair-as : (verb text whole : List ℕ) (n p : Node) (last : Word) (at m : ℕ) (a b : List ℕ) → whole ≡ words (verb ∷ node_text n ∷ node_text p ∷ text ∷ []) → word_text last ≡ text → Writes (words (verb ∷ node_text n ∷ node_text p ∷ word_text last ∷ [])) at a m b → Writes whole at a m b
pair-as verb text whole n p last at m a b is same w =
    Writes-as _ whole at m a b (is ∙ ap (λ (x : List ℕ). words (verb ∷ node_text n ∷ node_text p ∷ x ∷ [])) (sym same)) w

-- room for the line of a payload handed up
pub up-room : (e : Entry) (p : Node) (key : List ℕ) (id tid number : ℕ) (octets digits : List ℕ) → e.act ≡ HandedUp p key id tid number octets → digits ≡ octets → room_of e ≡ 128 + 2 * length digits
up-room e p key id tid number octets digits is same = ap (λ (a : Act). 128 + 2 * length (payload_of a)) is ∙ ap (λ (x : List ℕ). 128 + 2 * length x) (sym same)

-- a cause of faults that are counted from before
pub cause-after : {T E : Type 0} (before now later : ℕ) (r : Result T E) → now ≡ before → HasCause now later r → HasCause before later r
cause-after before now later r same h = subst (λ (n : ℕ). HasCause n later r) same h
