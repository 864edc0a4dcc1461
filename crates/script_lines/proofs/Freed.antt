-- Addresses that are free.
use Rattle.std.proofs.Common.{◌≡◌, ◌≢◌, ◌<◌, ℕ, Bool, true, false, if◌then◌else◌, length, refl, List, [], ◌∷◌, bytes_eq, sym, ap, ◌∙◌, arith, inl, inr}
use Rattle.std.specs.Prelude.{nat_lt}
use Rattle.std.specs.List.{AllByRecursion, list_any, position, position_or_len}
use Rattle.std.specs.Option.{is_some}
use Rattle.std.proofs.lemmas.Bool.{cases_Bool, false≢true, and_parts, or_parts, leb-true}
use Rattle.std.proofs.lemmas.Grind.{common_steps}
use Rattle.std.proofs.lemmas.Slice.Eq.{bytes_eq-Decides}
use Rattle.domain_base.specs.declared.names.Mac.{Mac}
use Rattle.run_journal.specs.declared.domain.Domain.{Domain}
use Rattle.run_journal.specs.declared.domain.ListedAp.{ListedAp}
use Rattle.run_journal.specs.Limits.{most_aps, most_stas}
use Rattle.run_journal.specs.declared.domain.ListedSta.{ListedSta}
use Rattle.script_lines.specs.Headers.{IsFreeAddress, CanListAp, CanListSta}
use Rattle.script_words.specs.Tokens.{is_text}
use Rattle.script_words.specs.Tokens.{is_single}
use Rattle.script_lines.specs.Script.{is_same, is_used, is_used_id}

-- where one passes, there is a first that does
passes-position : {X : Type 0} (p : X → Bool) (xs : List X) → nat_lt (position_or_len p xs) (length xs) ≡ list_any p xs
passes-position p [] = refl
passes-position p (x ∷ xs) = let rest = passes-position p xs in elim (cases_Bool (p x)) [
  | inl passes ↦ grind (arith, common_steps)
  | inr fails ↦ grind (arith, common_steps)
]

pub is_some-position : {X : Type 0} (p : X → Bool) (xs : List X) → is_some (position p xs) ≡ list_any p xs
is_some-position p xs = let is = passes-position p xs in elim (cases_Bool (list_any p xs)) [
  | inl passes ↦ grind (arith, common_steps)
  | inr fails ↦ grind (arith, common_steps)
]

not_equal : (xs ys : List ℕ) → bytes_eq xs ys ≡ false → xs ≢ ys
not_equal xs ys e q = false≢true (sym e ∙ (bytes_eq-Decides xs ys).1 q)

not_same : (a b : Mac) → is_same a b ≡ false → a ≢ b
not_same a b e q = not_equal a.0 b.0 e (ap (λ (m : Mac). m.0) q)

none_of_aps : (address : Mac) (aps : List ListedAp) → list_any (λ (a : ListedAp). is_same a.address address) aps ≡ false → AllByRecursion (λ (a : ListedAp). a.address ≢ address) aps
none_of_aps address [] e = tt
none_of_aps address (a ∷ aps) e =
    let parts = or_parts (is_same a.address address) (list_any (λ (b : ListedAp). is_same b.address address) aps) e in
    (not_same a.address address parts.0, none_of_aps address aps parts.1)

none_of_stas : (address : Mac) (stas : List ListedSta) → list_any (λ (s : ListedSta). is_same s.address address) stas ≡ false → AllByRecursion (λ (s : ListedSta). s.address ≢ address) stas
none_of_stas address [] e = tt
none_of_stas address (s ∷ stas) e =
    let parts = or_parts (is_same s.address address) (list_any (λ (t : ListedSta). is_same t.address address) stas) e in
    (not_same s.address address parts.0, none_of_stas address stas parts.1)

none_of : (x y : Bool) → (if x then true else y) ≡ false → (x ≡ false) × (y ≡ false)
none_of true y e = absurd (false≢true (sym e))
none_of false y e = (refl, e)

pub single-free : (d : Domain) (address : Mac) → is_single address.0 ≡ true → is_used d address ≡ false → IsFreeAddress d address
unfolding is_used
single-free d address one e =
    let parts = none_of (list_any (λ (a : ListedAp). is_same a.address address) d.aps) (list_any (λ (s : ListedSta). is_same s.address address) d.stas) e in
    record { single = one; no_ap = none_of_aps address d.aps parts.0; no_sta = none_of_stas address d.stas parts.1 }

none_of_ids : (r0kh_id : List ℕ) (aps : List ListedAp) → list_any (λ (a : ListedAp). bytes_eq a.r0kh_id r0kh_id) aps ≡ false → AllByRecursion (λ (a : ListedAp). a.r0kh_id ≢ r0kh_id) aps
none_of_ids r0kh_id [] e = tt
none_of_ids r0kh_id (a ∷ aps) e =
    let parts = or_parts (bytes_eq a.r0kh_id r0kh_id) (list_any (λ (b : ListedAp). bytes_eq b.r0kh_id r0kh_id) aps) e in
    (not_equal a.r0kh_id r0kh_id parts.0, none_of_ids r0kh_id aps parts.1)

pub other-id : (d : Domain) (r0kh_id : List ℕ) → is_used_id d r0kh_id ≡ false → AllByRecursion (λ (a : ListedAp). a.r0kh_id ≢ r0kh_id) d.aps
unfolding is_used_id
other-id d r0kh_id e = none_of_ids r0kh_id d.aps e

-- what is tested in turn
pub can-list_ap : (d : Domain) (address : Mac) (r0kh_id : List ℕ) → is_single address.0 ≡ true → is_text 48 33 r0kh_id ≡ true → length d.aps < most_aps → is_used d address ≡ false → is_used_id d r0kh_id ≡ false → CanListAp d address r0kh_id
can-list_ap d address r0kh_id one text room free other =
    let sized = and_parts _ _ (and_parts _ _ text).0 in
    record {
      address_ = single-free d address one free;
      some = leb-true 1 (length r0kh_id) sized.0;
      few = leb-true (length r0kh_id) 48 sized.1;
      other = other-id d r0kh_id other;
      room = room;
    }

pub can-list_sta : (d : Domain) (address : Mac) → is_single address.0 ≡ true → length d.stas < most_stas → is_used d address ≡ false → CanListSta d address
can-list_sta d address one room free = record { address_ = single-free d address one free; room = room }

pub ruleset listing = (can-list_ap, can-list_sta)
