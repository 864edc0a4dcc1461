-- The acts that give group keys of another kind, which came with the same message: what stands before them.
use Rattle.std.proofs.Common.{ℕ, ◌≡◌, inl, inr, Bool, true, false, not, cond, List, [], ◌∷◌, ◌++◌, refl, subst}
use Rattle.domain_base.specs.declared.names.Mac.{Mac}
use Rattle.domain_base.specs.declared.names.Node.{Node}
use Rattle.domain_base.specs.declared.names.Peer.TheVariants.{One}
use Rattle.run_journal.specs.declared.acts.GroupKind.{GroupKind}
use Rattle.run_journal.specs.declared.acts.Key.TheVariants.{Group}
use Rattle.run_journal.specs.declared.acts.Act.{Act}
use Rattle.run_journal.specs.declared.acts.Act.TheVariants.{Opened, Closed, Installed, Finished}
use Rattle.run_journal.specs.Acts.{opens, finishes, closes}
use Rattle.run_journal.specs.Questions.{since, session}
use Rattle.run_journal.specs.Premises.{In}
use Rattle.domain_rules.proofs.GroupKinds.{same_group_kind-refl}
use Rattle.journal_safety.proofs.Ends.{Tail, tail_refl}
use Rattle.journal_safety.proofs.Legal.{is_other, Others}

-- they begin and end nothing
other_opens : (which : GroupKind) (p : Node) (e : Act) → is_other which e ≡ true → opens p e ≡ false
other_opens which p (Opened q s) is = absurd (cc is)
other_opens which p _ is = refl

other_finishes : (which : GroupKind) (p : Node) (e : Act) → is_other which e ≡ true → finishes p e ≡ false
other_finishes which p (Finished q i) is = absurd (cc is)
other_finishes which p _ is = refl

other_closes : (which : GroupKind) (p : Node) (e : Act) → is_other which e ≡ true → closes p e ≡ false
other_closes which p (Closed q part) is = absurd (cc is)
other_closes which p _ is = refl

-- and none of them gives a key of this kind
not_other : (which : GroupKind) (p : Node) (g : List ℕ) (id : ℕ) (b : Mac) → is_other which (Installed (One p) (Group which g id b)) ≡ true → ⊥
not_other which p g id b is =
    let w : not true ≡ true = subst (λ (x : Bool). not x ≡ true) (same_group_kind-refl which) is in absurd (cc w)

pub tail_between : (between rest : List Act) → Tail rest (between ++ rest)
tail_between [] rest = tail_refl rest
tail_between (e ∷ between) rest = inr (tail_between between rest)

pub past_between : (which : GroupKind) (p : Node) (g : List ℕ) (id : ℕ) (b : Mac) (a between rest : List Act) → Others which between → Tail (Installed (One p) (Group which g id b) ∷ a) (between ++ rest) → Tail (Installed (One p) (Group which g id b) ∷ a) rest
past_between which p g id b a [] rest others t = t
past_between which p g id b a (e ∷ between) rest others (inl is) =
    let head : e ≡ Installed (One p) (Group which g id b) = cc is in
    absurd (not_other which p g id b (subst (λ (x : Act). is_other which x ≡ true) head others.0))
past_between which p g id b a (e ∷ between) rest others (inr t) = past_between which p g id b a between rest others.1 t

since_by : (p : Node) (x e : Act) (xs : List Act) (b : Bool) → b ≡ false → In x xs → In x (cond b (e ∷ []) (e ∷ xs))
since_by p x e xs true is there = absurd (cc is)
since_by p x e xs false is there = inr there

pub since_between : (which : GroupKind) (p : Node) (x : Act) (between rest : List Act) → Others which between → In x (since p rest) → In x (since p (between ++ rest))
since_between which p x [] rest others there = there
since_between which p x (e ∷ between) rest others there =
    since_by p x e (since p (between ++ rest)) (opens p e) (other_opens which p e others.0) (since_between which p x between rest others.1 there)

pub session_between : (which : GroupKind) (p : Node) (between rest : List Act) → Others which between → session p (between ++ rest) ≡ session p rest
session_between which p [] rest others = refl
session_between which p (e ∷ between) rest others = rw (other_finishes which p e others.0, other_closes which p e others.0) (session_between which p between rest others.1)
