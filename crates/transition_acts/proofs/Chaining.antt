-- Acts that are added one after the other.
use Rattle.std.proofs.Common.{◌≡◌, List, [], ◌∷◌, ◌++◌, append_assoc}
use Rattle.run_journal.specs.declared.acts.Act.{Act}

pub three : (old a b c x y z : List Act) → x ≡ old ++ a → y ≡ x ++ b → z ≡ y ++ c → z ≡ old ++ (a ++ (b ++ c))
three old a b c x y z p q r = rw (r, q, p) (simp append_assoc)

pub five : (old a b c d e v w x y z : List Act) → v ≡ old ++ a → w ≡ v ++ b → x ≡ w ++ c → y ≡ x ++ d → z ≡ y ++ e → z ≡ old ++ (a ++ (b ++ c ++ d ++ e))
five old a b c d e v w x y z p q r s t = rw (t, s, r, q, p) (simp append_assoc)

pub six : (old a b c d e f v w x y z u : List Act) → v ≡ old ++ a → w ≡ v ++ b → x ≡ w ++ c → y ≡ x ++ d → z ≡ y ++ e → u ≡ z ++ f → u ≡ old ++ (a ++ (b ++ c ++ d ++ e ++ f))
six old a b c d e f v w x y z u p q r s t l = rw (l, t, s, r, q, p) (simp append_assoc)

pub begun : (old closed a b c : List Act) (x y : Act) → a ≡ old ++ closed → b ≡ a ++ x ∷ [] → c ≡ b ++ y ∷ [] → c ≡ old ++ (closed ++ x ∷ y ∷ [])
begun old closed a b c x y p q r = rw (r, q, p) (simp append_assoc)
