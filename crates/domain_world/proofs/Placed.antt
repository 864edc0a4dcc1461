-- Where in a journal the frames stand that were sent.
use Rattle.std.proofs.Common.{◌≡◌, ℕ, suc, inl, inr, Bool, true, false, cond, List, [], ◌∷◌, ◌++◌, length, reverse, Some, refl, sym, ap, subst, ◌∙◌, arith, length-append}
use Rattle.std.specs.Prelude.{slice_get}
use Rattle.std.specs.List.{AllByRecursion}
use Rattle.domain_base.specs.declared.names.Node.{Node}
use Rattle.run_journal.specs.declared.acts.Act.{Act}
use Rattle.run_journal.specs.declared.acts.Entry.{Entry}
use Rattle.run_journal.specs.Acts.{is_sent}
use Rattle.run_journal.specs.Premises.{In}
use Rattle.domain_rules.specs.Explained.{frames, number_of, push}
use Rattle.domain_world.specs.Owning.{IsNumbered, places}
use Rattle.domain_world.proofs.Lists.{get_push, get_older, get_newest}

-- as many as were sent

count_by : (b : Bool) (xs : List ℕ) (p n : ℕ) → length xs ≡ n → length (cond b (xs ++ p ∷ []) xs) ≡ cond b (suc n) n
count_by true xs p n e = omega (arith, length-append xs (p ∷ []), e)
count_by false xs p n e = e

pub places_count : (j : List Entry) → length (places j) ≡ frames j
unfolding places
places_count [] = refl
places_count (e ∷ past) = count_by (is_sent e.act) (places past) (length past) (frames past) (places_count past)

-- one more entry
pub places_more : (e : Entry) (past : List Entry) → places (e ∷ past) ≡ cond (is_sent e.act) (places past ++ length past ∷ []) (places past)
unfolding places
places_more e past = refl

-- the number of the next act
pub next_number : (act : Act) (noted : List ℕ) (past : List Entry) → noted ≡ places past → cond (is_sent act) (suc (length noted)) 0 ≡ number_of act past
next_number act noted past is = ap (λ n. cond (is_sent act) (suc n) 0) (ap length is ∙ places_count past)

pub places_none : places [] ≡ []
unfolding places
places_none = refl

pub numbered_none : IsNumbered []
unfolding IsNumbered
numbered_none = tt

pub numbered_push : (round : ℕ) (n : Node) (g : List Act) (past : List Entry) → IsNumbered past → IsNumbered (push round n g past)
unfolding IsNumbered
numbered_push round n [] past is = is
numbered_push round n (e ∷ g) past is = numbered_push round n g (record { round = round; node = n; number = number_of e past; act = e } ∷ past) (refl, is)

-- what stands there: the frame of that number, from 1
pub record Placed (j : List Entry) (number place : ℕ) : Type 0 where
  pub entry : Entry
  pub at : slice_get (reverse j) place ≡ Some entry
  pub there : In entry j
  pub sent : is_sent entry.act ≡ true
  pub number_is : entry.number ≡ number

older : (e : Entry) (past : List Entry) (number place : ℕ) → Placed past number place → Placed (e ∷ past) number place
older e past number place p = record {
  entry = p.entry;
  at = get_older past e place p.entry p.at;
  there = inr p.there;
  sent = p.sent;
  number_is = p.number_is;
}

newest : (e : Entry) (past : List Entry) (n place : ℕ) → is_sent e.act ≡ true → e.number ≡ number_of e.act past → n ≡ length (places past) → place ≡ length past → Placed (e ∷ past) (suc n) place
newest e past n place sent number last there = record {
  entry = e;
  at = ap (slice_get (reverse (e ∷ past))) there ∙ get_newest past e;
  there = inl refl;
  sent = sent;
  number_is = number ∙ ap (λ b. cond b (suc (frames past)) 0) sent ∙ ap suc (sym (places_count past)) ∙ ap suc (sym last);
}

placed_by : (b : Bool) (e : Entry) (past : List Entry) (n place : ℕ) → is_sent e.act ≡ b → e.number ≡ number_of e.act past
    → (slice_get (places past) n ≡ Some place → Placed past (suc n) place) → slice_get (cond b (places past ++ length past ∷ []) (places past)) n ≡ Some place → Placed (e ∷ past) (suc n) place
placed_by true e past n place sent number before at =
    elim (get_push (places past) n (length past) place at) [
      | inl last ↦ newest e past n place sent number last.0 last.1
      | inr earlier ↦ older e past (suc n) place (before earlier)
    ]
placed_by false e past n place sent number before at = older e past (suc n) place (before at)

pub placed : (j : List Entry) (n place : ℕ) → IsNumbered j → slice_get (places j) n ≡ Some place → Placed j (suc n) place
unfolding places IsNumbered
placed [] n place is at = cc
placed (e ∷ past) n place is at = placed_by (is_sent e.act) e past n place refl is.0 (placed past n place is.1) at

-- what holds of all entries holds of each
pub all_in : (P : Entry → Type 0) (j : List Entry) (e : Entry) → In e j → AllByRecursion P j → P e
all_in P [] e there all = absurd there
all_in P (f ∷ past) e (inl here) all = subst P (sym here) all.0
all_in P (f ∷ past) e (inr later) all = all_in P past e later all.1
