-- Steps of a history and those before them.
use Rattle.std.proofs.Common.{List, [], ◌∷◌, inl, inr}
use Rattle.link_steps.specs.declared.steps.Step.{Step}
use Rattle.holder_link.specs.History.{Everywhere, Somewhere}

-- some step, by another account of it
pub somewhere_by : (P Q : Step → List Step → Type 0) → ((s : Step) (g : List Step) → P s g → Q s g) → (h : List Step) → Somewhere P h → Somewhere Q h
somewhere_by P Q to [] s = s
somewhere_by P Q to (x ∷ g) (inl p) = inl (to x g p)
somewhere_by P Q to (x ∷ g) (inr r) = inr (somewhere_by P Q to g r)

-- what holds at each step holds at some step
pub meet : (P Q : Step → List Step → Type 0) (h : List Step) → Everywhere P h → Somewhere Q h → Somewhere (λ s g. P s g × Q s g) h
meet P Q [] e s = s
meet P Q (x ∷ g) e (inl q) = inl (e.0, q)
meet P Q (x ∷ g) e (inr r) = inr (meet P Q g e.1 r)

-- and so does what holds before it
pub with_earlier : (P : Step → List Step → Type 0) (h : List Step) → Everywhere P h → Everywhere (λ s g. P s g × Everywhere P g) h
with_earlier P [] e = tt
with_earlier P (x ∷ g) e = ((e.0, e.1), with_earlier P g e.1)

pub both : (P Q : Step → List Step → Type 0) (h : List Step) → Everywhere P h → Everywhere Q h → Everywhere (λ s g. P s g × Q s g) h
both P Q [] e f = tt
both P Q (x ∷ g) e f = ((e.0, f.0), both P Q g e.1 f.1)

pub everywhere_by : (P Q : Step → List Step → Type 0) → ((s : Step) (g : List Step) → P s g → Q s g) → (h : List Step) → Everywhere P h → Everywhere Q h
everywhere_by P Q to [] e = tt
everywhere_by P Q to (x ∷ g) e = (to x g e.0, everywhere_by P Q to g e.1)

-- a step before some step
pub nested : (P : Step → List Step → Type 0) (h : List Step) → Somewhere (λ s g. Somewhere P g) h → Somewhere P h
nested P [] s = s
nested P (x ∷ g) (inl p) = inr p
nested P (x ∷ g) (inr r) = inr (nested P g r)

pub nowhere : (P : Step → List Step → Type 0) (h : List Step) → ¬ Somewhere P h → Everywhere (λ s g. P s g → ⊥) h
nowhere P [] n = tt
nowhere P (x ∷ g) n = (λ p. n (inl p), nowhere P g (λ r. n (inr r)))

-- the number may be taken out
pub taken_out : {A : Type 0} (P : A → Step → List Step → Type 0) (h : List Step) → Somewhere (λ s g. (a : A) × P a s g) h → (a : A) × Somewhere (P a) h
taken_out P [] s = absurd s
taken_out P (x ∷ g) (inl p) = (p.0, inl p.1)
taken_out P (x ∷ g) (inr r) = let t = taken_out P g r in (t.0, inr t.1)
