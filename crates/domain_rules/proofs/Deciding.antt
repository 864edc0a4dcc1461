-- Outcomes that are put together of tests, one behind the other.
use Rattle.std.proofs.Common.{◌≡◌, ◌⊎◌, ℕ, Bool, true, false, List, Option, Some, None, refl, inl, inr}
use Rattle.std.specs.Prelude.{if◌then◌else◌}
use Rattle.run_journal.specs.declared.acts.Reason.{Reason}
use Rattle.run_journal.specs.declared.acts.Reason.TheVariants as reason
use Rattle.run_journal.specs.declared.acts.Outcome.{Outcome}
use Rattle.run_journal.specs.declared.acts.Outcome.TheVariants.{Accepted, Answered, Ignored, Refused}
use Rattle.run_journal.specs.declared.acts.Act.{Act}
use Rattle.domain_rules.specs.Asking.{in_attempt}
use Rattle.domain_rules.specs.Suites.{without_status}

-- ---- a frame is accepted, answered, ignored or refused

pub data Decided (o : Outcome) : Type 0 where
  Took_in : o ≡ Accepted → Decided o
  Repeated : o ≡ Answered → Decided o
  Passed : o ≡ Ignored → Decided o
  Thrown : (why : Reason) → o ≡ Refused why → Decided o

pub decided_if : (c : Bool) (a b : Outcome) → Decided a → Decided b → Decided (if c then a else b)
decided_if true a b x y = x
decided_if false a b x y = y

pub refused : (why : Reason) → Decided (Refused why)
refused why = Thrown why refl

pub decided_attempt : (o : Option (List Act)) (f : List Act → Outcome) → ((part : List Act) → Decided (f part)) → Decided (in_attempt o f)
decided_attempt None f all = refused reason.Unawaited
decided_attempt (Some part) f all = all part

pub decided_status : (o : Option ℕ) (a : Outcome) → Decided a → Decided (without_status o a)
decided_status None a x = x
decided_status (Some status) a x = refused (reason.Status status)

-- ---- the frame is taken: accepted or answered

abbrev pub IsTaken : Outcome → Type 0
IsTaken o = (o ≡ Accepted) ⊎ (o ≡ Answered)

pub never : {C : Type 0} (why : Reason) → IsTaken (Refused why) → C
never why (inl s) = absurd cc
never why (inr s) = absurd cc

pub taken_behind : (c : Bool) (why : Reason) (a : Outcome) → IsTaken (if c then Refused why else a) → IsTaken a
taken_behind true why a (inl s) = absurd cc
taken_behind true why a (inr s) = absurd cc
taken_behind false why a s = s

pub taken_passed : (c : Bool) (why : Reason) (a : Outcome) → IsTaken (if c then a else Refused why) → (c ≡ true) × IsTaken a
taken_passed true why a s = (refl, s)
taken_passed false why a s = never why s

pub taken_attempt : (o : Option (List Act)) (f : List Act → Outcome) → IsTaken (in_attempt o f) → (part : List Act) × ((o ≡ Some part) × IsTaken (f part))
taken_attempt None f s = never reason.Unawaited s
taken_attempt (Some part) f s = (part, (refl, s))

pub taken_status : (o : Option ℕ) (a : Outcome) → IsTaken (without_status o a) → (o ≡ None) × IsTaken a
taken_status None a s = (refl, s)
taken_status (Some status) a s = never (reason.Status status) s

-- ---- what is answered is answered by no test

pub answered_behind : (c : Bool) (why : Reason) (a : Outcome) → (if c then Refused why else a) ≡ Answered → a ≡ Answered
answered_behind true why a s = cc
answered_behind false why a s = s

pub answered_passed : (c : Bool) (why : Reason) (a : Outcome) → (if c then a else Refused why) ≡ Answered → a ≡ Answered
answered_passed true why a s = s
answered_passed false why a s = cc

pub answered_status : (o : Option ℕ) (a : Outcome) → without_status o a ≡ Answered → a ≡ Answered
answered_status None a s = s
answered_status (Some status) a s = cc

pub answered_attempt : (o : Option (List Act)) (f : List Act → Outcome) → in_attempt o f ≡ Answered → (part : List Act) × ((o ≡ Some part) × (f part ≡ Answered))
answered_attempt None f s = cc
answered_attempt (Some part) f s = (part, (refl, s))
