-- The first place at which something is wrong, by what was met.
use Rattle.std.proofs.Common.{◌≡◌, ◌≢◌, ◌⊎◌, ℕ, zero, suc, ◌+◌, ◌<◌, ◌≤◌, List, [], ◌∷◌, ◌++◌, length, Option, None, Some, refl, sym, ap, subst, ◌∙◌, arith, inl, inr}
use Rattle.std.specs.Prelude.{drop, slice_get, take}
use Rattle.domain_base.specs.declared.names.Node.{Node}
use Rattle.key_hierarchy.specs.declared.answers.PullAnswer.{PullAnswer}
use Rattle.run_journal.specs.declared.domain.Domain.{Domain}
use Rattle.run_journal.specs.declared.domain.Event.{Event}
use Rattle.run_journal.specs.declared.acts.Act.{Act}
use Rattle.run_journal.specs.declared.acts.Act.TheVariants.{Looked}
use Rattle.run_journal.specs.declared.acts.Entry.{Entry}
use Rattle.run_journal.specs.Safe.{Use, installed, use_of, up_of}
use Rattle.domain_rules.specs.Due.{AllCanCome, Due, DueInRound, onto}
use Rattle.domain_rules.specs.Explained.{AllHappen}
use Rattle.domain_rules.specs.HeldRight.{HeldAt}
use Rattle.domain_rules.specs.Present.{present}
use Rattle.domain_rules.specs.Rounds.{Place, in_order}
use Rattle.audit_rules.specs.Wrong.{DiffersAt, Breaks, Held_wrongly, Installed_again, Used_again, Not_joined, Not_sourced, BreaksAt, WrongAt, IsFirst, IsFine, AllFine, AreRight, FailsRound, MeetsRound}
use Rattle.audit_rules.specs.declared.cause.Cause.{Cause}
use Rattle.audit_rules.specs.declared.cause.Cause.TheVariants as cause
use Rattle.audit_rules.specs.Causes.{IsSafeAt, Lacks, cause_number}
use Rattle.audit_rules.specs.Looks.{AllRightUpTo, IsFirstWrong}
use Rattle.audit_rules.specs.Rounds.{PlacesMet, EndsBy}
use Rattle.audit_rules.proofs.Ended.{AllSafe, Whole, AllDue, SomeDue, NextNot, places_due, places_broken}

-- ---- lists

pub append_none : (xs : List Entry) → xs ++ [] ≡ xs
append_none [] = refl
append_none (x ∷ xs) = ap (λ (l : List Entry). x ∷ l) (append_none xs)

pub drop_all : (told : List Entry) (k : ℕ) → length told ≤ k → drop k told ≡ []
drop_all [] zero low = refl
drop_all [] (suc k) low = refl
drop_all (x ∷ told) zero low = absurd (omega arith)
drop_all (x ∷ told) (suc k) low = drop_all told k (omega (arith, low))

pub drop_some : (told : List Entry) (k : ℕ) → k < length told → (e : Entry) × ((more : List Entry) × (drop k told ≡ e ∷ more))
drop_some [] k low = absurd (omega arith)
drop_some (x ∷ told) zero low = (x, (told, refl))
drop_some (x ∷ told) (suc k) low = drop_some told k (omega (arith, low))

drop_at : (told : List Entry) (k : ℕ) (e : Entry) → slice_get told k ≡ Some e → drop k told ≡ e ∷ drop (suc k) told
drop_at [] k e at = absurd (cc at)
drop_at (x ∷ told) zero e at = (let same : x ≡ e = cc at in ap (λ (y : Entry). y ∷ told) same)
drop_at (x ∷ told) (suc k) e at = drop_at told k e at

pub within : (xs : List Entry) (k : ℕ) (e : Entry) → slice_get xs k ≡ Some e → k < length xs
within [] k e at = absurd (cc at)
within (x ∷ xs) zero e at = omega arith
within (x ∷ xs) (suc k) e at = (let low = within xs k e at in omega (arith, low))

pub plain : (m n : ℕ) → m ≡ 0 + n → m ≡ n
plain m n is = omega (arith, is)

-- ---- differences after a common front

differs_on : (now xs ys : List Entry) (r b : ℕ) → DiffersAt xs ys r b → DiffersAt (now ++ xs) (now ++ ys) (length now + r) b
differs_on [] xs ys r b differs = subst (λ (k : ℕ). DiffersAt xs ys k b) (let same : r ≡ 0 + r = omega arith in same) differs
differs_on (e ∷ now) xs ys r b differs =
    subst (λ (k : ℕ). DiffersAt (e ∷ (now ++ xs)) (e ∷ (now ++ ys)) k b) (let same : suc (length now + r) ≡ suc (length now) + r = omega arith in same) (refl, differs_on now xs ys r b differs)

differs_after : (now xs ys : List Entry) (q b : ℕ) → DiffersAt (now ++ xs) (now ++ ys) q b → (r : ℕ) × ((q ≡ length now + r) × DiffersAt xs ys r b)
differs_after [] xs ys q b differs = (q, (omega arith, differs))
differs_after (e ∷ now) xs ys zero b differs = absurd (differs.0 refl)
differs_after (e ∷ now) xs ys (suc q) b differs = (let w = differs_after now xs ys q b differs.1 in let at = w.1.0 in (w.0, (omega (arith, at), w.1.1)))

-- ---- entries before

safe_at : (now xs old : List Entry) (q : ℕ) (e : Entry) → AllSafe now old → slice_get (now ++ xs) q ≡ Some e → q < length now → IsSafeAt e (onto (take q (now ++ xs)) old)
safe_at [] xs old q e safe at low = absurd (omega arith)
safe_at (x ∷ now) xs old zero e safe at low = (let same : x ≡ e = cc at in subst (λ (y : Entry). IsSafeAt y old) same safe.0)
safe_at (x ∷ now) xs old (suc q) e safe at low = safe_at now xs (x ∷ old) q e safe.1 at (omega (arith, low))

not_breaks : (d : Domain) (j : List Entry) (e : Entry) (past : List Entry) (c : ℕ) → IsSafeAt e past → HeldAt d j e past → Breaks d j e past c → ⊥
not_breaks d j e past c safe held (Held_wrongly is no_) = no_ held
not_breaks d j e past c safe held (Installed_again is no_) = no_ safe.installs
not_breaks d j e past c safe held (Used_again is no_) = no_ safe.uses
not_breaks d j e past c safe held (Not_joined is no_) = no_ safe.joined
not_breaks d j e past c safe held (Not_sourced is no_) = no_ (safe.hands_up, safe.sourced)

-- a look is safe
look_safe : (e : Entry) (past : List Entry) (id name : List ℕ) (p : Node) (answer : PullAnswer) → e.act ≡ Looked id name p answer → IsSafeAt e past
look_safe e past id name p answer is = record {
  installs = λ m key there at first second. (let none : installed e.act ≡ None = ap installed is in cc (first, none));
  uses = λ m u v there at first second key number. (let none : use_of e.act ≡ None = ap use_of is in cc (first, none));
  joined = λ q i at. absurd (cc (at, is));
  hands_up = λ m u v there at first second key number. (let none : up_of e.act ≡ None = ap up_of is in cc (first, none));
  sourced = λ q u up from. absurd (let none : up_of e.act ≡ None = ap up_of is in cc (up, none));
}

unsafe : (e : Entry) (past : List Entry) (c : Cause) → Lacks e past c → IsSafeAt e past → ⊥
unsafe e past cause.Installed lacks safe = lacks safe.installs
unsafe e past cause.Used lacks safe = lacks.1 safe.uses
unsafe e past cause.Joined lacks safe = lacks.1.1 safe.joined
unsafe e past cause.HandedUp lacks safe = lacks.1.1.1 (safe.hands_up, safe.sourced)
unsafe e past cause.Other lacks safe = lacks
unsafe e past cause.Missing lacks safe = lacks
unsafe e past cause.Surplus lacks safe = lacks
unsafe e past cause.Held lacks safe = lacks

lacks_breaks : (d : Domain) (j : List Entry) (e : Entry) (past : List Entry) (c : Cause) → Lacks e past c → Breaks d j e past (cause_number c)
lacks_breaks d j e past cause.Installed lacks = Installed_again refl lacks
lacks_breaks d j e past cause.Used lacks = Used_again refl lacks.1
lacks_breaks d j e past cause.Joined lacks = Not_joined refl lacks.1.1
lacks_breaks d j e past cause.HandedUp lacks = Not_sourced refl lacks.1.1.1
lacks_breaks d j e past cause.Other lacks = absurd lacks
lacks_breaks d j e past cause.Missing lacks = absurd lacks
lacks_breaks d j e past cause.Surplus lacks = absurd lacks
lacks_breaks d j e past cause.Held lacks = absurd lacks

-- and no lesser cause applies
held_as_no_look : (d : Domain) (j : List Entry) (e : Entry) (past : List Entry) (c : Cause) → Lacks e past c → HeldAt d j e past
held_as_no_look d j e past c lacks id name p answer is = absurd (unsafe e past c lacks (look_safe e past id name p answer is))

least : (d : Domain) (j : List Entry) (e : Entry) (past : List Entry) (c : Cause) (b : ℕ) → Lacks e past c → Breaks d j e past b → cause_number c ≤ b
least d j e past c b lacks (Held_wrongly is no_) = absurd (no_ (held_as_no_look d j e past c lacks))
least d j e past cause.Installed b lacks (Installed_again is no_) = omega (arith, is)
least d j e past cause.Installed b lacks (Used_again is no_) = omega (arith, is)
least d j e past cause.Installed b lacks (Not_joined is no_) = omega (arith, is)
least d j e past cause.Installed b lacks (Not_sourced is no_) = omega (arith, is)
least d j e past cause.Used b lacks (Installed_again is no_) = absurd (no_ lacks.0)
least d j e past cause.Used b lacks (Used_again is no_) = omega (arith, is)
least d j e past cause.Used b lacks (Not_joined is no_) = omega (arith, is)
least d j e past cause.Used b lacks (Not_sourced is no_) = omega (arith, is)
least d j e past cause.Joined b lacks (Installed_again is no_) = absurd (no_ lacks.0)
least d j e past cause.Joined b lacks (Used_again is no_) = absurd (no_ lacks.1.0)
least d j e past cause.Joined b lacks (Not_joined is no_) = omega (arith, is)
least d j e past cause.Joined b lacks (Not_sourced is no_) = omega (arith, is)
least d j e past cause.HandedUp b lacks (Installed_again is no_) = absurd (no_ lacks.0)
least d j e past cause.HandedUp b lacks (Used_again is no_) = absurd (no_ lacks.1.0)
least d j e past cause.HandedUp b lacks (Not_joined is no_) = absurd (no_ lacks.1.1.0)
least d j e past cause.HandedUp b lacks (Not_sourced is no_) = omega (arith, is)
least d j e past cause.Other b lacks broken = absurd lacks
least d j e past cause.Missing b lacks broken = absurd lacks
least d j e past cause.Surplus b lacks broken = absurd lacks
least d j e past cause.Held b lacks broken = absurd lacks

-- ---- places

cases_three : (q n : ℕ) → (q < n) ⊎ ((q ≡ n) ⊎ (n < q))
cases_three zero zero = inr (inl refl)
cases_three zero (suc n) = inl (omega arith)
cases_three (suc q) zero = inr (inr (omega arith))
cases_three (suc q) (suc n) = elim (cases_three q n) [ inl a ↦ inl (omega (arith, a)) | inr (inl b) ↦ inr (inl (ap suc b)) | inr (inr c) ↦ inr (inr (omega (arith, c))) ]

at_least : (d : Domain) (j : List Entry) (e : Entry) (past : List Entry) (b : ℕ) → Breaks d j e past b → 4 ≤ b
at_least d j e past b (Held_wrongly is no_) = omega (arith, is)
at_least d j e past b (Installed_again is no_) = omega (arith, is)
at_least d j e past b (Used_again is no_) = omega (arith, is)
at_least d j e past b (Not_joined is no_) = omega (arith, is)
at_least d j e past b (Not_sourced is no_) = omega (arith, is)

get_after : (now xs : List Entry) (x : Entry) → slice_get (now ++ x ∷ xs) (length now) ≡ Some x
get_after [] xs x = refl
get_after (e ∷ now) xs x = get_after now xs x

take_front : (now xs : List Entry) → take (length now) (now ++ xs) ≡ now
take_front [] [] = refl
take_front [] (x ∷ xs) = refl
take_front (e ∷ now) xs = ap (λ (l : List Entry). e ∷ l) (take_front now xs)

pub all_fine : (d : Domain) (j told past : List Entry) → AllSafe told past → ((q : ℕ) (e : Entry) → slice_get told q ≡ Some e → HeldAt d j e (onto (take q told) past)) → AllFine d j told past
all_fine d j [] past safe held = tt
all_fine d j (e ∷ told) past safe held = (
  record { held = held 0 e refl; installs = safe.0.installs; uses = safe.0.uses; joined = safe.0.joined; hands_up = safe.0.hands_up; sourced = safe.0.sourced },
  all_fine d j told (e ∷ past) safe.1 (λ q x at. held (suc q) x at),
)

-- ---- a round

module _ (d : Domain) (old told : List Entry) where
  -- before a place up to which all is safe and each look right, nothing breaks
  fine_before : (now xs : List Entry) (m q c : ℕ) → told ≡ now ++ xs → AllSafe now old → AllRightUpTo d old told m → q < length now → q < m → BreaksAt d old told q c → ⊥
  fine_before now xs m q c is safe right low below b =
      let safe_here : IsSafeAt b.entry (onto (take q told) old) =
      subst (λ (l : List Entry). IsSafeAt b.entry (onto (take q l) old)) (sym is) (safe_at now xs old q b.entry safe (ap (λ (l : List Entry). slice_get l q) (sym is) ∙ b.at) low) in
      not_breaks d (onto told old) b.entry (onto (take q told) old) c safe_here (right q b.entry below b.at) b.breaks

  -- a difference right after it is the first wrong place
  pub differs_first : (now xs ys : List Entry) (c : ℕ) → told ≡ now ++ xs → AllSafe now old → AllRightUpTo d old told (length now) → DiffersAt xs ys 0 c → c ≤ 3 → ((r b : ℕ) → DiffersAt xs ys r b → (r ≡ 0) × (b ≡ c))
      → IsFirst d old told (now ++ ys) (length now) c
  differs_first now xs ys c is safe right differs small only = record {
    wrong = inl (subst (λ (l : List Entry). DiffersAt l (now ++ ys) (length now) c) (sym is)
        (subst (λ (k : ℕ). DiffersAt (now ++ xs) (now ++ ys) k c) (let same : length now + 0 ≡ length now = omega arith in same) (differs_on now xs ys 0 c differs)));
    first = first;
  }
    where
      first : (q b : ℕ) → WrongAt d old told (now ++ ys) q b → (length now < q) ⊎ ((length now ≡ q) × (c ≤ b))
      first q b (inl other) =
          let w = differs_after now xs ys q b (subst (λ (l : List Entry). DiffersAt l (now ++ ys) q b) is other) in
          let v = only w.0 b w.1.1 in
          let at = w.1.0 in
          inr (omega (arith, at, v.0), omega (arith, v.1))
      first q b (inr broken) = elim (cases_three q (length now)) [
        | inl low ↦ absurd (fine_before now xs (length now) q b is safe right low low broken)
        | inr (inl same_) ↦ inr (sym same_, (let high = at_least d (onto told old) broken.entry (onto (take q told) old) b broken.breaks in omega (arith, high, small)))
        | inr (inr high) ↦ inl high
      ]

  -- an entry that is due and told, and not safe, is the first
  lacks_first : (now xs more : List Entry) (x : Entry) (c : Cause) → told ≡ now ++ x ∷ xs → AllSafe now old → AllRightUpTo d old told (length now) → Lacks x (onto now old) c → IsFirst d old told (now ++ x ∷ more) (length now) (cause_number c)
  lacks_first now xs more x c is safe right lacks = record {
    wrong = inr (record { entry = x; at = there; breaks = lacks_breaks d (onto told old) x (onto (take (length now) told) old) c lacks_here });
    first = first;
  }
    where
      there : slice_get told (length now) ≡ Some x
      there = ap (λ (l : List Entry). slice_get l (length now)) is ∙ get_after now xs x

      front : take (length now) told ≡ now
      front = ap (take (length now)) is ∙ take_front now (x ∷ xs)

      lacks_here : Lacks x (onto (take (length now) told) old) c
      lacks_here = subst (λ (l : List Entry). Lacks x (onto l old) c) (sym front) lacks

      later : (r b : ℕ) → DiffersAt (x ∷ xs) (x ∷ more) r b → 0 < r
      later zero b differs = absurd (differs.0 refl)
      later (suc r) b differs = omega arith

      at_it : (q b : ℕ) → q ≡ length now → BreaksAt d old told q b → cause_number c ≤ b
      at_it q b same_ broken =
          let one : broken.entry ≡ x = (let both : Some broken.entry ≡ Some x = sym broken.at ∙ ap (slice_get told) same_ ∙ there in cc both) in
          let breaks : Breaks d (onto told old) x (onto (take (length now) told) old) b =
          subst (λ (k : ℕ). Breaks d (onto told old) x (onto (take k told) old) b) same_ (subst (λ (e : Entry). Breaks d (onto told old) e (onto (take q told) old) b) one broken.breaks) in
          least d (onto told old) x (onto (take (length now) told) old) c b lacks_here breaks

      first : (q b : ℕ) → WrongAt d old told (now ++ x ∷ more) q b → (length now < q) ⊎ ((length now ≡ q) × (cause_number c ≤ b))
      first q b (inl other) =
          let w = differs_after now (x ∷ xs) (x ∷ more) q b (subst (λ (l : List Entry). DiffersAt l (now ++ x ∷ more) q b) is other) in
          let high = later w.0 b w.1.1 in
          let at = w.1.0 in
          inl (omega (arith, at, high))
      first q b (inr broken) = elim (cases_three q (length now)) [
        | inl low ↦ absurd (fine_before now (x ∷ xs) (length now) q b is safe right low low broken)
        | inr (inl same_) ↦ inr (sym same_, at_it q b same_ broken)
        | inr (inr high) ↦ inl high
      ]

  -- a look before it that is not answered rightly is the first
  pub held_first : (now xs ys : List Entry) (place : ℕ) → told ≡ now ++ xs → AllSafe now old → IsFirstWrong d old told (length now) (Some place) → IsFirst d old told (now ++ ys) place 4
  held_first now xs ys place is safe (low, (right, (e, (at, no_)))) = record { wrong = inr (record { entry = e; at = at; breaks = Held_wrongly refl no_ }); first = first }
    where
      first : (q b : ℕ) → WrongAt d old told (now ++ ys) q b → (place < q) ⊎ ((place ≡ q) × (4 ≤ b))
      first q b (inl other) =
          let w = differs_after now xs ys q b (subst (λ (l : List Entry). DiffersAt l (now ++ ys) q b) is other) in
          let there = w.1.0 in
          inl (omega (arith, there, low))
      first q b (inr broken) = elim (cases_three q place) [
        | inl before ↦ absurd (fine_before now xs place q b is safe right (omega (arith, before, low)) before broken)
        | inr (inl same_) ↦ inr (sym same_, at_least d (onto told old) broken.entry (onto (take q told) old) b broken.breaks)
        | inr (inr high) ↦ inl high
      ]

-- ---- how a round ended

-- what is told begins with what is due, and all that is safe
pub record Front (d : Domain) (round : ℕ) (places : List Place) (old told : List Entry) (end : ℕ) : Type 0 where
  pub now : List Entry
  pub rest : List Entry
  pub due : Due d round places old told (now ++ rest)
  pub is : told ≡ now ++ drop end told
  pub safe : AllSafe now old
  pub count : end ≡ length now

abbrev Ended : Domain → ℕ → List Place → List Entry → List Entry → ℕ → Option Cause → Type 0
Ended d round places old told end o = EndsBy (PlacesMet d round places old told 0) (length told) end o

front_all : (d : Domain) (round : ℕ) (places : List Place) (old told : List Entry) (end : ℕ) → PlacesMet d round places old told 0 end None → Front d round places old told end
front_all d round places old told end met =
    let w = places_due d round places old told 0 end met in record {
      now = w.now;
      rest = [];
      due = subst (λ (l : List Entry). Due d round places old told l) (sym (append_none w.now)) w.due;
      is = w.whole.is;
      safe = w.whole.safe;
      count = (plain end (length w.now) w.whole.count);
    }

front_some : (d : Domain) (round : ℕ) (places : List Place) (old told : List Entry) (end : ℕ) (c : Cause) → AllCanCome d places → PlacesMet d round places old told 0 end (Some c) → Front d round places old told end
front_some d round places old told end c come met =
    let w = places_broken d round places old told 0 end c come met in record { now = w.now; rest = w.next ∷ w.more; due = w.due; is = w.whole.is; safe = w.whole.safe; count = (plain end (length w.now) w.whole.count) }

front_of : (d : Domain) (round : ℕ) (places : List Place) (old told : List Entry) (end : ℕ) (o : Option Cause) → AllCanCome d places → Ended d round places old told end o → Front d round places old told end
front_of d round places old told end None come ended = front_all d round places old told end ended.0
front_of d round places old told end (Some cause.Surplus) come ended = front_all d round places old told end ended.0
front_of d round places old told end (Some cause.Other) come ended = front_some d round places old told end cause.Other come ended
front_of d round places old told end (Some cause.Missing) come ended = front_some d round places old told end cause.Missing come ended
front_of d round places old told end (Some cause.Held) come ended = front_some d round places old told end cause.Held come ended
front_of d round places old told end (Some cause.Installed) come ended = front_some d round places old told end cause.Installed come ended
front_of d round places old told end (Some cause.Used) come ended = front_some d round places old told end cause.Used come ended
front_of d round places old told end (Some cause.Joined) come ended = front_some d round places old told end cause.Joined come ended
front_of d round places old told end (Some cause.HandedUp) come ended = front_some d round places old told end cause.HandedUp come ended

pub met_round : (d : Domain) (round : ℕ) (events : List Event) (old told : List Entry) (places : List Place) (end : ℕ) → AllHappen d events old round places → Ended (present d old) round (in_order places) old told end None → IsFirstWrong d old told end None → MeetsRound d round events old told
met_round d round events old told places end happen (met, size) right =
    let w = places_due (present d old) round (in_order places) old told 0 end met in
    let is : told ≡ w.now = w.whole.is ∙ ap (λ (l : List Entry). w.now ++ l) (drop_all told end (omega (arith, size))) ∙ append_none w.now in record {
      due = w.now;
      is_due = record { places = places; happen = happen; are = w.due };
      right = record {
        same = is;
        fine = all_fine d (onto told old) told old (subst (λ (l : List Entry). AllSafe l old) (sym is) w.whole.safe)
            (λ q e at. right q e (let low = within told q e at in omega (arith, low, size)) at);
      };
    }

pub held_round : (d : Domain) (round : ℕ) (events : List Event) (old told : List Entry) (places : List Place) (end place : ℕ) (o : Option Cause) → AllHappen d events old round places → AllCanCome (present d old) (in_order places) → Ended (present d old) round (in_order places) old told end o → IsFirstWrong d old told end (Some place)
    → FailsRound d round events old told place 4
held_round d round events old told places end place o happen come ended wrong =
    let f = front_of (present d old) round (in_order places) old told end o come ended in record {
      due = f.now ++ f.rest;
      is_due = record { places = places; happen = happen; are = f.due };
      first = held_first d old told f.now (drop end told) f.rest place f.is f.safe (subst (λ (m : ℕ). IsFirstWrong d old told m (Some place)) f.count wrong);
    }

-- it is told, and not safe
by_lack : (d : Domain) (old told now more : List Entry) (x : Entry) (end : ℕ) (c : Cause) → told ≡ now ++ drop end told → AllSafe now old → end ≡ length now → AllRightUpTo d old told end → slice_get told end ≡ Some x → Lacks x (onto now old) c → IsFirst d old told (now ++ x ∷ more) end (cause_number c)
by_lack d old told now more x end c is safe count right at lacks =
    let cut : told ≡ now ++ x ∷ drop (suc end) told = is ∙ ap (λ (l : List Entry). now ++ l) (drop_at told end x at) in
    subst (λ (m : ℕ). IsFirst d old told (now ++ x ∷ more) m (cause_number c)) (sym count)
    (lacks_first d old told now (drop (suc end) told) more x c cut safe (subst (λ (m : ℕ). AllRightUpTo d old told m) count right) lacks)

-- why the next entry that is due was not met
pub by_next : (d : Domain) (old told now more : List Entry) (x : Entry) (end : ℕ) (c : Cause) → told ≡ now ++ drop end told → AllSafe now old → end ≡ length now → AllRightUpTo d old told end → NextNot told end x (onto now old) c → IsFirst d old told (now ++ x ∷ more) end (cause_number c)
by_next d old told now more x end cause.Other is safe count right (e, (at, differ)) =
    let cut : told ≡ now ++ e ∷ drop (suc end) told = is ∙ ap (λ (l : List Entry). now ++ l) (drop_at told end e at) in
    subst (λ (m : ℕ). IsFirst d old told (now ++ x ∷ more) m 1) (sym count)
    (differs_first d old told now (e ∷ drop (suc end) told) (x ∷ more) 1 cut safe (subst (λ (m : ℕ). AllRightUpTo d old told m) count right) (differ, refl) (omega arith) only)
  where
    only : (r b : ℕ) → DiffersAt (e ∷ drop (suc end) told) (x ∷ more) r b → (r ≡ 0) × (b ≡ 1)
    only zero b differs = (refl, differs.1)
    only (suc r) b differs = absurd (differ differs.0)
by_next d old told now more x end cause.Missing is safe count right few =
    let cut : told ≡ now ++ [] = is ∙ ap (λ (l : List Entry). now ++ l) (drop_all told end few) in
    subst (λ (m : ℕ). IsFirst d old told (now ++ x ∷ more) m 2) (sym count)
    (differs_first d old told now [] (x ∷ more) 2 cut safe (subst (λ (m : ℕ). AllRightUpTo d old told m) count right) (refl, refl) (omega arith) (λ r b differs. differs))
by_next d old told now more x end cause.Surplus is safe count right not_met = absurd not_met.1
by_next d old told now more x end cause.Held is safe count right not_met = absurd not_met.1
by_next d old told now more x end cause.Installed is safe count right (at, lacks) = by_lack d old told now more x end cause.Installed is safe count right at lacks
by_next d old told now more x end cause.Used is safe count right (at, lacks) = by_lack d old told now more x end cause.Used is safe count right at lacks
by_next d old told now more x end cause.Joined is safe count right (at, lacks) = by_lack d old told now more x end cause.Joined is safe count right at lacks
by_next d old told now more x end cause.HandedUp is safe count right (at, lacks) = by_lack d old told now more x end cause.HandedUp is safe count right at lacks

not_met_round : (d : Domain) (round : ℕ) (events : List Event) (old told : List Entry) (places : List Place) (end : ℕ) (c : Cause) → AllHappen d events old round places → AllCanCome (present d old) (in_order places) → PlacesMet (present d old) round (in_order places) old told 0 end (Some c) → AllRightUpTo d old told end
    → FailsRound d round events old told end (cause_number c)
not_met_round d round events old told places end c happen come met right =
    let w = places_broken (present d old) round (in_order places) old told 0 end c come met in record {
      due = w.now ++ w.next ∷ w.more;
      is_due = record { places = places; happen = happen; are = w.due };
      first = by_next d old told w.now w.more w.next end c w.whole.is w.whole.safe (plain end (length w.now) w.whole.count) right w.not_met;
    }

pub fails_round : (d : Domain) (round : ℕ) (events : List Event) (old told : List Entry) (places : List Place) (end : ℕ) (c : Cause) → AllHappen d events old round places → AllCanCome (present d old) (in_order places) → Ended (present d old) round (in_order places) old told end (Some c) → IsFirstWrong d old told end None
    → FailsRound d round events old told end (cause_number c)
fails_round d round events old told places end cause.Surplus happen come (met, more) right =
    let w = places_due (present d old) round (in_order places) old told 0 end met in
    let (e, (rest, there)) = drop_some told end more in
    let cut : told ≡ w.now ++ e ∷ rest = w.whole.is ∙ ap (λ (l : List Entry). w.now ++ l) there in record {
      due = w.now ++ [];
      is_due = record { places = places; happen = happen; are = subst (λ (l : List Entry). Due (present d old) round (in_order places) old told l) (sym (append_none w.now)) w.due };
      first = subst (λ (m : ℕ). IsFirst d old told (w.now ++ []) m 3) (sym (plain end (length w.now) w.whole.count))
          (differs_first d old told w.now (e ∷ rest) [] 3 cut w.whole.safe (subst (λ (m : ℕ). AllRightUpTo d old told m) (plain end (length w.now) w.whole.count) right) (refl, refl) (omega arith) (λ r b differs. differs));
    }
fails_round d round events old told places end cause.Other happen come ended right = not_met_round d round events old told places end cause.Other happen come ended right
fails_round d round events old told places end cause.Missing happen come ended right = not_met_round d round events old told places end cause.Missing happen come ended right
fails_round d round events old told places end cause.Held happen come ended right = not_met_round d round events old told places end cause.Held happen come ended right
fails_round d round events old told places end cause.Installed happen come ended right = not_met_round d round events old told places end cause.Installed happen come ended right
fails_round d round events old told places end cause.Used happen come ended right = not_met_round d round events old told places end cause.Used happen come ended right
fails_round d round events old told places end cause.Joined happen come ended right = not_met_round d round events old told places end cause.Joined happen come ended right
fails_round d round events old told places end cause.HandedUp happen come ended right = not_met_round d round events old told places end cause.HandedUp happen come ended right
