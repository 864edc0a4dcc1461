-- The group keys that a station was given are those that it installed.
use Rattle.std.proofs.Common.{ℕ, zero, suc, ◌≡◌, inl, inr, Bool, true, false, cond, List, [], ◌∷◌, Option, Some, None, refl, sym, ap, ◌∙◌, subst}
use Rattle.std.specs.Prelude.{take, bytes_eq}
use Rattle.std.proofs.lemmas.Slice.Eq.{bytes_eq-Decides}
use Rattle.domain_base.specs.declared.names.Mac.{Mac}
use Rattle.domain_base.specs.declared.names.Node.{Node}
use Rattle.domain_base.specs.declared.names.Peer.TheVariants.{One}
use Rattle.run_journal.specs.declared.acts.GroupKind.{GroupKind}
use Rattle.run_journal.specs.declared.acts.GroupKind.TheVariants as groups
use Rattle.run_journal.specs.declared.acts.Key.TheVariants.{Group}
use Rattle.run_journal.specs.declared.acts.Act.{Act}
use Rattle.run_journal.specs.declared.acts.Act.TheVariants.{Installed}
use Rattle.run_journal.specs.Acts.{same, GroupKey, given_from}
use Rattle.run_journal.specs.Questions.{listed, given}
use Rattle.run_journal.specs.Premises.{In}
use Rattle.domain_rules.specs.GroupKeys.{find_key}
use Rattle.domain_rules.proofs.Parts.{same-true, same-refl}
use Rattle.domain_rules.proofs.GroupKinds.{same_group_kind-refl}

given_same : (which : GroupKind) (p q : Node) (g : List ℕ) (id : ℕ) (b : Mac) (x : GroupKey) (c : Bool) → same p q ≡ c → cond c (Some (record { key = g; id = id })) None ≡ Some x → (Installed (One q) (Group which g id b) ≡ Installed (One p) (Group which x.key x.id b))
given_same which p q g id b x true s e =
    let to : q ≡ p = sym (same-true p q s) in
    let one : record { key = g; id = id } ≡ x = cc e in
    ap (λ (y : Node). Installed (One y) (Group which g id b)) to ∙ ap (λ (y : GroupKey). Installed (One p) (Group which y.key y.id b)) one
given_same which p q g id b x false s e = cc

pub given-is : (which : GroupKind) (p : Node) (e : Act) (x : GroupKey) → given_from which p e ≡ Some x → (b : Mac) × (e ≡ Installed (One p) (Group which x.key x.id b))
given-is groups.Gtk p (Installed (One q) (Group groups.Gtk g id b)) x is = (b, given_same groups.Gtk p q g id b x (same p q) refl is)
given-is groups.Igtk p (Installed (One q) (Group groups.Igtk g id b)) x is = (b, given_same groups.Igtk p q g id b x (same p q) refl is)
given-is which p _ x is = cc

-- each of them is an installation of the history
given_by : (which : GroupKind) (p : Node) (x : GroupKey) (e : Act) (h : List Act) → (In x (given which p h) → (b : Mac) × In (Installed (One p) (Group which x.key x.id b)) h) → (o : Option GroupKey) → given_from which p e ≡ o → In x (listed o (given which p h))
    → (b : Mac) × In (Installed (One p) (Group which x.key x.id b)) (e ∷ h)
given_by which p x e h more None is there = let w = more there in (w.0, inr w.1)
given_by which p x e h more (Some y) is (inl here) = let w = given-is which p e x (is ∙ ap Some (sym here)) in (w.0, inl (sym w.1))
given_by which p x e h more (Some y) is (inr later) = let w = more later in (w.0, inr w.1)

pub given_in : (which : GroupKind) (p : Node) (x : GroupKey) (h : List Act) → In x (given which p h) → (b : Mac) × In (Installed (One p) (Group which x.key x.id b)) h
given_in which p x [] there = absurd there
given_in which p x (e ∷ h) there = given_by which p x e h (given_in which p x h) (given_from which p e) refl there

more_given : (x : GroupKey) (o : Option GroupKey) (xs : List GroupKey) → In x xs → In x (listed o xs)
more_given x None xs there = there
more_given x (Some y) xs there = inr there

-- and each installation is one of them
pub given_listed : (which : GroupKind) (p : Node) (g : List ℕ) (id : ℕ) (b : Mac) (h : List Act) → In (Installed (One p) (Group which g id b)) h → In (record { key = g; id = id }) (given which p h)
given_listed which p g id b [] there = absurd there
given_listed which p g id b (e ∷ h) (inl here) = subst (λ (x : Act). In (record { key = g; id = id }) (listed (given_from which p x) (given which p h))) here (rw (same_group_kind-refl which, same-refl p) (inl refl))
given_listed which p g id b (e ∷ h) (inr later) = more_given (record { key = g; id = id }) (given_from which p e) (given which p h) (given_listed which p g id b h later)

-- the keys in memory are the first of them
pub front_in : (n : ℕ) (xs : List GroupKey) (g : GroupKey) → In g (take n xs) → In g xs
front_in zero [] g there = absurd there
front_in (suc n) [] g there = absurd there
front_in zero (x ∷ xs) g there = absurd there
front_in (suc n) (x ∷ xs) g (inl here) = inl here
front_in (suc n) (x ∷ xs) g (inr later) = inr (front_in n xs g later)

-- a group key that is remembered
-- a key that is found in memory was installed
found_kept : (key : List ℕ) (xs : List GroupKey) (kept : GroupKey) (x : GroupKey) (b : Bool) → bytes_eq key x.key ≡ b → (find_key key xs ≡ Some kept → In kept xs × (key ≡ kept.key)) → cond b (Some x) (find_key key xs) ≡ Some kept → In kept (x ∷ xs) × (key ≡ kept.key)
found_kept key xs kept x true is more s = let one : x ≡ kept = cc s in (inl (sym one), (bytes_eq-Decides key x.key).0 is ∙ ap (λ (y : GroupKey). y.key) one)
found_kept key xs kept x false is more s = let w = more s in (inr w.0, w.1)

pub kept_by : (key : List ℕ) (xs : List GroupKey) (kept : GroupKey) → find_key key xs ≡ Some kept → In kept xs × (key ≡ kept.key)
kept_by key [] kept s = cc s
kept_by key (x ∷ xs) kept s = found_kept key xs kept x (bytes_eq key x.key) refl (kept_by key xs kept) s
