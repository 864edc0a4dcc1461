-- What one entry that was found, or none, tells of all earlier entries.
use Rattle.std.proofs.Common.{◌≡◌, ◌↔◌, ℕ, List, reverse, get_or, Bool, true, false, IsTrue, Option, Some, None, MatchOption, refl, sym, ◌∙◌}
use Rattle.std.specs.Prelude.{is_some, not}
use Rattle.std.specs.List.{HoldsAt}
use Rattle.std.proofs.lemmas.Bool.{false≢true}
use Rattle.run_journal.specs.declared.acts.Seal.{Seal}
use Rattle.run_journal.specs.declared.acts.Act.{Act}
use Rattle.run_journal.specs.declared.acts.Entry.{Entry}
use Rattle.run_journal.specs.Premises.{In, IsBefore, NotDrawn, drawn, seal_sent, seal_taken}
use Rattle.run_journal.specs.Looking.{Finds, maker, Agrees, AllAgree, IsSourced}
use Rattle.run_journal.proofs.Members.{In-reverse, In-from_reverse, In-get_or, none_in, some_in}
use Rattle.run_journal.proofs.Agreement.{all_agree}

-- no entry fits, or one does
none_found : (fits : Entry → Type 0) (entries : List Entry) → Finds fits entries None → (m : Entry) → In m (reverse entries) → fits m → ⊥
none_found fits entries h m i f = none_in fits entries h m (In-from_reverse m entries i) f

pub afresh : (entries : List Entry) (act : Act) (octets : List ℕ) (place : Option ℕ) (r : Bool) → is_some place ≡ not r → drawn act ≡ Some octets → Finds (λ e. drawn e.act ≡ Some octets) entries place → (IsTrue r ↔ NotDrawn act (reverse entries))
afresh entries act octets None false s d h = absurd (false≢true s)
afresh entries act octets None true s d h = (
  λ t v m p i q. none_found (λ (e : Entry). drawn e.act ≡ Some octets) entries h m i (q ∙ sym p ∙ d),
  λ n. refl,
)
afresh entries act octets (Some k) true s d h = absurd (false≢true (sym s))
afresh entries act octets (Some k) false s d h =
    let found = some_in (λ (e : Entry). drawn e.act ≡ Some octets) entries k h.0 h.1 in
    (λ t. absurd (false≢true t), λ n. absurd (n octets found.0 d (In-reverse found.0 entries found.1.0) found.1.1))

pub sourced : (entries : List Entry) (entry : Entry) (seal : Seal) (place : Option ℕ) (r : Bool) → r ≡ is_some place → seal_taken entry.act ≡ Some seal → Finds (λ e. (seal_sent e.act ≡ Some seal) × IsBefore e entry) entries place → (IsTrue r ↔ IsSourced entry (reverse entries))
sourced entries entry seal None r is d h = (
  λ t. absurd (false≢true (sym is ∙ t)),
  λ n.
      let s = n seal d in
      absurd (none_found (λ (e : Entry). (seal_sent e.act ≡ Some seal) × IsBefore e entry) entries h s.entry s.there (s.is, s.before)),
)
sourced entries entry seal (Some k) r is d h =
    let found = some_in (λ (e : Entry). (seal_sent e.act ≡ Some seal) × IsBefore e entry) entries k h.0 h.1 in (
      λ t s p. record { entry = found.0; there = In-reverse found.0 entries found.1.0; before = found.1.1.1; is = found.1.1.0 ∙ sym d ∙ p },
      λ n. is,
    )

-- what the found entry's maker tells
abbrev pub Compares : List Entry → Act → Option ℕ → Bool → Type 0
Compares entries act place r = MatchOption place (IsTrue r) (λ i. IsTrue r ↔ HoldsAt (λ e. maker e.act ≡ maker act) entries i)

pub agreed : (key : Act → Option (List ℕ)) (entries : List Entry) (entry : Entry) (octets : List ℕ) (place : Option ℕ) (r : Bool) → key entry.act ≡ Some octets → Finds (λ e. key e.act ≡ Some octets) entries place → Compares entries entry.act place r → AllAgree key (reverse entries) → (IsTrue r ↔ Agrees key entry (reverse entries))
agreed key entries entry octets None r d h t a = (
  λ _ v m p i q. absurd (none_found (λ (e : Entry). key e.act ≡ Some octets) entries h m i (q ∙ sym p ∙ d)),
  λ _. t,
)
agreed key entries entry octets (Some k) r d h t a = (
  λ s v m p i q.
      let found = get_or entries k m in
      all_agree key (reverse entries) a m found octets i (In-reverse found entries (In-get_or entries k m h.0)) (q ∙ sym p ∙ d) (h.1 m) ∙ t.0 s m,
  λ n. t.1 (λ m. n octets (get_or entries k m) d (In-reverse (get_or entries k m) entries (In-get_or entries k m h.0)) (h.1 m)),
)
