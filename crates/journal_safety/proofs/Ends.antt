-- Ends of lists: what stood in a newest-first list at an earlier moment.
use Rattle.std.proofs.Common.{◌≡◌, ◌⊎◌, inl, inr, Bool, true, false, cond, List, [], ◌∷◌, ◌++◌, refl, sym, ap, subst}
use Rattle.domain_base.specs.declared.names.Node.{Node}
use Rattle.run_journal.specs.declared.acts.Act.{Act}
use Rattle.run_journal.specs.declared.acts.Entry.{Entry}
use Rattle.run_journal.specs.Acts.{same}
use Rattle.run_journal.specs.Premises.{In}
use Rattle.run_journal.specs.Questions.{history}

-- a is an end of b
abbrev pub Tail : {A : Type 0} → List A → List A → Type 0
Tail a [] = a ≡ []
Tail a (x ∷ b) = (a ≡ x ∷ b) ⊎ Tail a b

-- what stands before an end
pub front_of : {A : Type 0} → (a c : List A) → Tail a c → (front : List A) × (c ≡ front ++ a)
front_of a [] t = ([], sym t)
front_of a (x ∷ c) (inl is) = ([], sym is)
front_of a (x ∷ c) (inr t) = let w = front_of a c t in (x ∷ w.0, ap (λ z. x ∷ z) w.1)

pub tail_refl : {A : Type 0} → (a : List A) → Tail a a
tail_refl [] = refl
tail_refl (x ∷ a) = inl refl

pub tail_rest : {A : Type 0} → (x : A) (a b : List A) → Tail (x ∷ a) b → Tail a b
tail_rest x a [] t = cc
tail_rest x a (y ∷ b) (inl is) = let e : a ≡ b = cc in inr (subst (λ z. Tail a z) e (tail_refl a))
tail_rest x a (y ∷ b) (inr t) = inr (tail_rest x a b t)

pub tail_trans : {A : Type 0} → (a b c : List A) → Tail a b → Tail b c → Tail a c
tail_trans a b [] t u = subst (λ z. Tail a z) u t
tail_trans a b (x ∷ c) t (inl is) = subst (λ z. Tail a z) is t
tail_trans a b (x ∷ c) t (inr u) = inr (tail_trans a b c t u)

-- two ends of one list: one is an end of the other
pub tail_total : {A : Type 0} → (a b c : List A) → Tail a c → Tail b c → Tail a b ⊎ Tail b a
tail_total a b [] t u = inl (subst (λ z. Tail z b) (sym t) (subst (λ z. Tail [] z) (sym u) (tail_refl [])))
tail_total a b (x ∷ c) (inl t) u = inr (subst (λ z. Tail b z) (sym t) u)
tail_total a b (x ∷ c) (inr t) (inl u) = inl (subst (λ z. Tail a z) (sym u) (inr t))
tail_total a b (x ∷ c) (inr t) (inr u) = tail_total a b c t u

pub tail_in : {A : Type 0} → (a b : List A) (x : A) → Tail a b → In x a → In x b
tail_in a [] x t there = subst (λ z. In x z) t there
tail_in a (y ∷ b) x (inl is) there = subst (λ z. In x z) is there
tail_in a (y ∷ b) x (inr t) there = inr (tail_in a b x t there)

-- two places in one list: the same place, or one before the other
pub data Order {A : Type 0} (x : A) (a : List A) (y : A) (b : List A) : Type 0 where
  Same : x ≡ y → a ≡ b → Order x a y b
  First : Tail (x ∷ a) b → Order x a y b
  Second : Tail (y ∷ b) a → Order x a y b

pub order : {A : Type 0} → (x : A) (a : List A) (y : A) (b c : List A) → Tail (x ∷ a) c → Tail (y ∷ b) c → Order x a y b
order x a y b [] t u = cc
order x a y b (z ∷ c) (inl t) (inl u) = Same (cc) (cc)
order x a y b (z ∷ c) (inl t) (inr u) = let e : a ≡ c = cc in Second (subst (λ w. Tail (y ∷ b) w) (sym e) u)
order x a y b (z ∷ c) (inr t) (inl u) = let e : b ≡ c = cc in First (subst (λ w. Tail (x ∷ a) w) (sym e) t)
order x a y b (z ∷ c) (inr t) (inr u) = order x a y b c t u

-- where an element stands
pub place : {A : Type 0} → (x : A) (c : List A) → In x c → (a : List A) × Tail (x ∷ a) c
place x [] there = absurd there
place x (y ∷ c) (inl is) = (c, inl (ap (λ z. z ∷ c) is))
place x (y ∷ c) (inr later) = let w = place x c later in (w.0, inr w.1)

pub tail_head : {A : Type 0} → (x : A) (a c : List A) → Tail (x ∷ a) c → In x c
tail_head x a c t = tail_in (x ∷ a) c x t (inl refl)

-- of histories
history_tail_by : (n : Node) (l : Entry) (a b : List Entry) → Tail (history n a) (history n b) → (c : Bool) → Tail (history n a) (cond c (l.act ∷ history n b) (history n b))
history_tail_by n l a b t true = inr t
history_tail_by n l a b t false = t

pub history_tail : (n : Node) (a b : List Entry) → Tail a b → Tail (history n a) (history n b)
history_tail n a [] t = subst (λ z. Tail (history n z) []) (sym t) refl
history_tail n a (l ∷ b) (inl is) = subst (λ z. Tail (history n z) (history n (l ∷ b))) (sym is) (tail_refl (history n (l ∷ b)))
history_tail n a (l ∷ b) (inr t) = history_tail_by n l a b (history_tail n a b t) (same n l.node)

-- an end of a history is the history of an end
pub record EndOf (n : Node) (h : List Act) (b : List Entry) : Type 0 where
  pub journal : List Entry
  pub tail : Tail journal b
  pub is : history n journal ≡ h

end_by : (n : Node) (h : List Act) (l : Entry) (b : List Entry) → (Tail h (history n b) → EndOf n h b) → (c : Bool) → same n l.node ≡ c → Tail h (cond c (l.act ∷ history n b) (history n b)) → EndOf n h (l ∷ b)
end_by n h l b more true is (inl t) = record { journal = l ∷ b; tail = inl refl; is = rw is (sym t) }
end_by n h l b more true is (inr t) = let w = more t in record { journal = w.journal; tail = inr w.tail; is = w.is }
end_by n h l b more false is t = let w = more t in record { journal = w.journal; tail = inr w.tail; is = w.is }

pub end_of : (n : Node) (h : List Act) (b : List Entry) → Tail h (history n b) → EndOf n h b
end_of n h [] t = record { journal = []; tail = refl; is = sym t }
end_of n h (l ∷ b) t = end_by n h l b (end_of n h b) (same n l.node) refl t
