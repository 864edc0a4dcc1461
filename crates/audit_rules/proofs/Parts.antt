-- What holds of all entries of a journal holds of the one at a place.
use Rattle.std.proofs.Common.{◌≡◌, ℕ, zero, suc, ◌≤◌, List, [], ◌∷◌, Some, refl, subst, inl, inr}
use Rattle.std.specs.Prelude.{slice_get, take}
use Rattle.run_journal.specs.declared.domain.Domain.{Domain}
use Rattle.run_journal.specs.declared.acts.Entry.{Entry}
use Rattle.run_journal.specs.Premises.{In}
use Rattle.run_journal.specs.Safe.{use_of, up_of, InstallsNew, InstalledOnce, UsesNew, Once, JoinedAt, Joined, SourcedAt, Sourced, Safe}
use Rattle.domain_rules.specs.Due.{onto}
use Rattle.domain_rules.specs.HeldRight.{HeldAt, AllHeld}
use Rattle.audit_rules.specs.Wrong.{IsFine}
use Rattle.audit_rules.proofs.Held.{held_back}

module _ (R : List Entry → Type 0) (P : Entry → List Entry → Type 0) (first : (e : Entry) (past : List Entry) → R (e ∷ past) → P e past) (rest : (e : Entry) (past : List Entry) → R (e ∷ past) → R past) where
  before : (told past : List Entry) → R (onto told past) → R past
  before [] past all = all
  before (e ∷ told) past all = rest e past (before told (e ∷ past) all)

  at_place : (told old : List Entry) (place : ℕ) (e : Entry) → R (onto told old) → slice_get told place ≡ Some e → P e (onto (take place told) old)
  at_place [] old place e all at = absurd (cc at)
  at_place (x ∷ told) old zero e all at = (let same : x ≡ e = cc at in subst (λ (y : Entry). P y old) same (first x old (before told (x ∷ old) all)))
  at_place (x ∷ told) old (suc place) e all at = at_place told (x ∷ old) place e all at

held_first : (d : Domain) (j : List Entry) (e : Entry) (past : List Entry) → AllHeld d j (e ∷ past) → HeldAt d j e past
unfolding AllHeld
held_first d j e past all = all.0

held_rest : (d : Domain) (j : List Entry) (e : Entry) (past : List Entry) → AllHeld d j (e ∷ past) → AllHeld d j past
unfolding AllHeld
held_rest d j e past all = all.1

-- entries of later rounds are not asked
held_before : (d : Domain) (later j : List Entry) (e : Entry) (past : List Entry) → ((m : Entry) → In m later → suc e.round ≤ m.round) → HeldAt d (onto later j) e past → HeldAt d j e past
held_before d [] j e past late_ is = is
held_before d (x ∷ later) j e past late_ is = held_back d x j e past (late_ x (inl refl)) (held_before d later (x ∷ j) e past (λ m there. late_ m (inr there)) is)

-- an entry of a round of a journal that goes on by later rounds is as it has to be
pub fine_in : (d : Domain) (told later old : List Entry) (place : ℕ) (e : Entry) → AllHeld d (onto later (onto told old)) (onto later (onto told old)) → Safe (onto later (onto told old)) → slice_get told place ≡ Some e
    → ((m : Entry) → In m later → suc e.round ≤ m.round) → IsFine d (onto told old) e (onto (take place told) old)
fine_in d told later old place e held safe at late_ = record {
  held = held_before d later (onto told old) e (onto (take place told) old) late_
      (at_place (AllHeld d (onto later (onto told old))) (HeldAt d (onto later (onto told old))) (held_first d (onto later (onto told old))) (held_rest d (onto later (onto told old))) told old place e
      (before (AllHeld d (onto later (onto told old))) (HeldAt d (onto later (onto told old))) (held_first d (onto later (onto told old))) (held_rest d (onto later (onto told old))) later (onto told old) held) at);
  installs = at_place InstalledOnce InstallsNew (λ x past all. all.0) (λ x past all. all.1) told old place e (before InstalledOnce InstallsNew (λ x past all. all.0) (λ x past all. all.1) later (onto told old) safe.installed_once) at;
  uses = at_place (Once use_of) (UsesNew use_of) (λ x past all. all.0) (λ x past all. all.1) told old place e (before (Once use_of) (UsesNew use_of) (λ x past all. all.0) (λ x past all. all.1) later (onto told old) safe.used_once) at;
  joined = at_place Joined JoinedAt (λ x past all. all.0) (λ x past all. all.1) told old place e (before Joined JoinedAt (λ x past all. all.0) (λ x past all. all.1) later (onto told old) safe.joined) at;
  hands_up = at_place (Once up_of) (UsesNew up_of) (λ x past all. all.0) (λ x past all. all.1) told old place e (before (Once up_of) (UsesNew up_of) (λ x past all. all.0) (λ x past all. all.1) later (onto told old) safe.handed_up_once) at;
  sourced = at_place Sourced SourcedAt (λ x past all. all.0) (λ x past all. all.1) told old place e (before Sourced SourcedAt (λ x past all. all.0) (λ x past all. all.1) later (onto told old) safe.sourced) at;
}
