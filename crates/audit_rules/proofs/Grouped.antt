-- Acts that are met one after the other.
use Rattle.std.proofs.Common.{◌≡◌, ◌⊎◌, ℕ, suc, List, [], ◌∷◌, ◌++◌, Option, None, Some, refl, sym, ap, subst, ◌∙◌, inl, inr}
use Rattle.domain_base.specs.declared.names.Node.{Node}
use Rattle.run_journal.specs.declared.acts.Act.{Act}
use Rattle.run_journal.specs.declared.acts.Entry.{Entry}
use Rattle.domain_rules.specs.Due.{entry_of}
use Rattle.domain_rules.specs.Explained.{push}
use Rattle.audit_rules.specs.declared.cause.Cause.{Cause}
use Rattle.audit_rules.specs.Causes.{ActMet}
use Rattle.audit_rules.specs.Causes.{GroupMet}

-- acts after others go on where those end
pub met_on : (round : ℕ) (n : Node) (f g : List Act) (j told : List Entry) (at mid end : ℕ) (o : Option Cause) → GroupMet round n f j told at mid None → GroupMet round n g (push round n f j) told mid end o → GroupMet round n (f ++ g) j told at end o
met_on round n [] g j told at mid end o is rest = subst (λ (m : ℕ). GroupMet round n g j told m end o) is rest
met_on round n (act ∷ f) g j told at mid end o (inl met) rest = inl (met.0, met_on round n f g (entry_of round n act j ∷ j) told (suc at) mid end o met.1 rest)
met_on round n (act ∷ f) g j told at mid end o (inr (same_, (c, (some, met)))) rest = absurd (cc some)

-- and what is not met is so with acts after it
pub not_met_on : (round : ℕ) (n : Node) (f g : List Act) (j told : List Entry) (at end : ℕ) (c : Cause) → GroupMet round n f j told at end (Some c) → GroupMet round n (f ++ g) j told at end (Some c)
not_met_on round n [] g j told at end c met = absurd met
not_met_on round n (act ∷ f) g j told at end c (inl met) = inl (met.0, not_met_on round n f g (entry_of round n act j ∷ j) told (suc at) end c met.1)
not_met_on round n (act ∷ f) g j told at end c (inr met) = inr met
