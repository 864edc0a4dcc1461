-- One first place, and one least cause there.
use Rattle.std.proofs.Common.{◌≡◌, ◌⊎◌, ℕ, zero, suc, ◌<◌, ◌≤◌, List, [], ◌∷◌, length, Some, refl, subst, arith, inl, inr}
use Rattle.std.specs.Prelude.{slice_get, take}
use Rattle.run_journal.specs.declared.domain.Domain.{Domain}
use Rattle.run_journal.specs.declared.domain.Event.{Event}
use Rattle.run_journal.specs.declared.acts.Entry.{Entry}
use Rattle.domain_rules.specs.Due.{onto}
use Rattle.domain_rules.specs.Explained.{Explained}
use Rattle.domain_rules.proofs.Journals.{numbered}
use Rattle.audit_rules.specs.Wrong.{DiffersAt, Breaks, Held_wrongly, Installed_again, Used_again, Not_joined, Not_sourced, WrongAt, IsFirst, IsFine, AllFine, AreRight, FailsRound, MeetsRound}
use Rattle.audit_rules.proofs.Dues.{one_due_in}

-- a list does not differ from itself
pub no_difference : (told : List Entry) (place cause : ℕ) → DiffersAt told told place cause → ⊥
no_difference [] place cause differs = differs
no_difference (e ∷ told) zero cause differs = differs.0 refl
no_difference (e ∷ told) (suc place) cause differs = no_difference told place cause differs.1

pub not_broken : (d : Domain) (j : List Entry) (e : Entry) (past : List Entry) (cause : ℕ) → IsFine d j e past → Breaks d j e past cause → ⊥
not_broken d j e past cause fine (Held_wrongly is no_) = no_ fine.held
not_broken d j e past cause fine (Installed_again is no_) = no_ fine.installs
not_broken d j e past cause fine (Used_again is no_) = no_ fine.uses
not_broken d j e past cause fine (Not_joined is no_) = no_ fine.joined
not_broken d j e past cause fine (Not_sourced is no_) = no_ (fine.hands_up, fine.sourced)

-- the entry at a place is as it has to be
pub fine_at : (d : Domain) (j told old : List Entry) (place : ℕ) (e : Entry) → AllFine d j told old → slice_get told place ≡ Some e → IsFine d j e (onto (take place told) old)
fine_at d j [] old place e fine at = absurd (cc at)
fine_at d j (x ∷ told) old zero e fine at = (let same : x ≡ e = cc at in subst (λ (y : Entry). IsFine d j y old) same fine.0)
fine_at d j (x ∷ told) old (suc place) e fine at = fine_at d j told (x ∷ old) place e fine.1 at

pub right_not_wrong : (d : Domain) (old told due : List Entry) (place cause : ℕ) → AreRight d old told due → WrongAt d old told due place cause → ⊥
right_not_wrong d old told due place cause right (inl differs) = no_difference due place cause (subst (λ (l : List Entry). DiffersAt l due place cause) right.same differs)
right_not_wrong d old told due place cause right (inr b) =
    not_broken d (onto told old) b.entry (onto (take place told) old) cause (fine_at d (onto told old) told old place b.entry right.fine b.at) b.breaks

pub none_first : (d : Domain) (old told due : List Entry) (place cause : ℕ) → AreRight d old told due → IsFirst d old told due place cause → ⊥
none_first d old told due place cause right first = right_not_wrong d old told due place cause right first.wrong

pub one_first : (d : Domain) (old told due : List Entry) (place cause other least : ℕ) → IsFirst d old told due place cause → IsFirst d old told due other least → (place ≡ other) × (cause ≡ least)
one_first d old told due place cause other least s t = by (s.first other least t.wrong) (t.first place cause s.wrong)
  where
    by : ((place < other) ⊎ ((place ≡ other) × (cause ≤ least))) → ((other < place) ⊎ ((other ≡ place) × (least ≤ cause))) → (place ≡ other) × (cause ≡ least)
    by (inl a) (inl b) = absurd (omega (arith, a, b))
    by (inl a) (inr b) = absurd (omega (arith, a, b.0))
    by (inr a) (inl b) = absurd (omega (arith, a.0, b))
    by (inr a) (inr b) = (a.0, omega (arith, a.1, b.1))

-- ---- of a round

pub one_in_round : (d : Domain) (rounds : List (List Event)) (events : List Event) (old told : List Entry) (place cause other least : ℕ) → Explained d rounds old
    → FailsRound d (suc (length rounds)) events old told place cause → FailsRound d (suc (length rounds)) events old told other least → (place ≡ other) × (cause ≡ least)
one_in_round d rounds events old told place cause other least before s t =
    let same : s.due ≡ t.due = one_due_in d (suc (length rounds)) events old told s.due t.due (numbered d rounds old before) s.is_due t.is_due in
    one_first d old told t.due place cause other least (subst (λ (l : List Entry). IsFirst d old told l place cause) same s.first) t.first

pub none_in_round : (d : Domain) (rounds : List (List Event)) (events : List Event) (old told : List Entry) (place cause : ℕ) → Explained d rounds old
    → MeetsRound d (suc (length rounds)) events old told → FailsRound d (suc (length rounds)) events old told place cause → ⊥
none_in_round d rounds events old told place cause before m s =
    let same : s.due ≡ m.due = one_due_in d (suc (length rounds)) events old told s.due m.due (numbered d rounds old before) s.is_due m.is_due in
    none_first d old told m.due place cause m.right (subst (λ (l : List Entry). IsFirst d old told l place cause) same s.first)
