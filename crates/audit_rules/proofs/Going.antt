-- Journals that go on rightly.
use Rattle.std.proofs.Common.{◌≡◌, suc, ◌≤◌, List, [], ◌∷◌, ◌++◌, length, reverse, refl, sym, ap, subst, ◌∙◌, arith}
use Rattle.std.proofs.lemmas.List.{reverse-append, reverse-reverse}
use Rattle.run_journal.specs.declared.domain.Domain.{Domain}
use Rattle.run_journal.specs.declared.domain.Event.{Event}
use Rattle.run_journal.specs.declared.acts.Entry.{Entry}
use Rattle.run_journal.specs.Safe.{Safe, use_of, up_of, InstalledOnce, Once, Joined, Sourced}
use Rattle.domain_rules.specs.Due.{DueInRound, onto}
use Rattle.domain_rules.specs.Explained.{Explained, started}
use Rattle.domain_rules.specs.HeldRight.{AllHeld}
use Rattle.domain_rules.proofs.Journals.{explained_start}
use Rattle.audit_rules.specs.Wrong.{IsSound, IsFine, AllFine, AreRight, MeetsRound, first_due}
use Rattle.audit_rules.proofs.Dues.{due_explained, due_in_round}
use Rattle.audit_rules.proofs.Held.{all_on}
use Rattle.audit_rules.proofs.Low.{low}

-- ---- the parts of safety, and looks

installs : (d : Domain) (j told old : List Entry) → AllFine d j told old → InstalledOnce old → InstalledOnce (onto told old)
installs d j [] old fine all = all
installs d j (e ∷ told) old fine all = installs d j told (e ∷ old) fine.1 (fine.0.installs, all)

uses : (d : Domain) (j told old : List Entry) → AllFine d j told old → Once use_of old → Once use_of (onto told old)
uses d j [] old fine all = all
uses d j (e ∷ told) old fine all = uses d j told (e ∷ old) fine.1 (fine.0.uses, all)

hands_up : (d : Domain) (j told old : List Entry) → AllFine d j told old → Once up_of old → Once up_of (onto told old)
hands_up d j [] old fine all = all
hands_up d j (e ∷ told) old fine all = hands_up d j told (e ∷ old) fine.1 (fine.0.hands_up, all)

joined : (d : Domain) (j told old : List Entry) → AllFine d j told old → Joined old → Joined (onto told old)
joined d j [] old fine all = all
joined d j (e ∷ told) old fine all = joined d j told (e ∷ old) fine.1 (fine.0.joined, all)

sourced : (d : Domain) (j told old : List Entry) → AllFine d j told old → Sourced old → Sourced (onto told old)
sourced d j [] old fine all = all
sourced d j (e ∷ told) old fine all = sourced d j told (e ∷ old) fine.1 (fine.0.sourced, all)

pub safe_on : (d : Domain) (j told old : List Entry) → AllFine d j told old → Safe old → Safe (onto told old)
safe_on d j told old fine s = record {
  installed_once = installs d j told old fine s.installed_once;
  used_once = uses d j told old fine s.used_once;
  joined = joined d j told old fine s.joined;
  handed_up_once = hands_up d j told old fine s.handed_up_once;
  sourced = sourced d j told old fine s.sourced;
}

one_more : (d : Domain) (j : List Entry) (e : Entry) (old : List Entry) → IsFine d j e old → AllHeld d j old → AllHeld d j (e ∷ old)
unfolding AllHeld
one_more d j e old fine all = (fine.held, all)

held_fine : (d : Domain) (j told old : List Entry) → AllFine d j told old → AllHeld d j old → AllHeld d j (onto told old)
held_fine d j [] old fine all = all
held_fine d j (e ∷ told) old fine all = held_fine d j told (e ∷ old) fine.1 (one_more d j e old fine.0 all)

none_held : (d : Domain) (j : List Entry) → AllHeld d j []
unfolding AllHeld
none_held d j = tt

safe_none : Safe []
safe_none = record { installed_once = tt; used_once = tt; joined = tt; handed_up_once = tt; sourced = tt }

-- ---- round 0, and each round after it

pub onto_reverse : (told j : List Entry) → onto told j ≡ reverse told ++ j
onto_reverse [] j = refl
onto_reverse (e ∷ told) j =
    onto_reverse told (e ∷ j) ∙ sym (ap (λ (l : List Entry). l ++ j) (reverse-append (e ∷ []) told) ∙ assoc (reverse told) (e ∷ []) j)
  where
    assoc : (xs ys zs : List Entry) → (xs ++ ys) ++ zs ≡ xs ++ (ys ++ zs)
    assoc [] ys zs = refl
    assoc (x ∷ xs) ys zs = ap (λ (l : List Entry). x ∷ l) (assoc xs ys zs)

pub append_none : (xs : List Entry) → xs ++ [] ≡ xs
append_none [] = refl
append_none (x ∷ xs) = ap (λ (l : List Entry). x ∷ l) (append_none xs)

pub start_explained : (d : Domain) (told : List Entry) → told ≡ first_due d → Explained d [] (onto told [])
start_explained d told same =
    let is : onto told [] ≡ started d (length d.aps) = onto_reverse told [] ∙ append_none (reverse told) ∙ ap reverse same ∙ reverse-reverse (started d (length d.aps)) in
    subst (λ (l : List Entry). Explained d [] l) (sym is) (explained_start d)

pub start_sound : (d : Domain) (told : List Entry) → AreRight d [] told (first_due d) → IsSound d [] (onto told [])
start_sound d told right = record {
  explained = start_explained d told right.same;
  held = held_fine d (onto told []) told [] right.fine (none_held d (onto told []));
  safe = safe_on d (onto told []) told [] right.fine safe_none;
}

pub round_sound : (d : Domain) (rounds : List (List Event)) (events : List Event) (old told : List Entry) → IsSound d rounds old → MeetsRound d (suc (length rounds)) events old told → IsSound d (events ∷ rounds) (onto told old)
round_sound d rounds events old told s m =
    let same : m.due ≡ told = sym m.right.same in
    let due : DueInRound d (suc (length rounds)) events old told told = subst (λ (l : List Entry). DueInRound d (suc (length rounds)) events old told l) same m.is_due in record {
      explained = due_explained d rounds events old told s.explained due;
      held = held_fine d (onto told old) told old m.right.fine
          (all_on d (suc (length rounds)) told old old (λ x there. due_in_round d (suc (length rounds)) events old told told x due there)
          (λ x there. (let small : x.round ≤ length rounds = low d rounds old x s.explained there in omega (arith, small))) s.held);
      safe = safe_on d (onto told old) told old m.right.fine s.safe;
    }
