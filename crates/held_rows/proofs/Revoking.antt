-- The rows behind a revocation.
use Rattle.std.proofs.Common.{◌≡◌, ℕ, suc, Bool, true, false, cond, true≢false, List, [], ◌∷◌, length, Option, Some, None, refl, sym, ap, ◌∙◌, inl, inr}
use Rattle.std.specs.Prelude.{not, ◌&&◌, ◌||◌, is_some, bytes_eq, if◌then◌else◌}
use Rattle.std.specs.List.{AllByRecursion, list_any}
use Rattle.std.proofs.lemmas.Bool.{cases_Bool, and_parts}
use Rattle.std.proofs.lemmas.Slice.Eq.{bytes_eq-Decides}
use Rattle.domain_base.specs.declared.names.Mac.{Mac}
use Rattle.domain_base.specs.declared.names.Node.{Node}
use Rattle.domain_base.specs.declared.names.Node.TheVariants.{Sta}
use Rattle.key_hierarchy.specs.declared.answers.RevokeAnswer.{RevokeAnswer}
use Rattle.key_hierarchy.specs.declared.answers.RevokeAnswer.TheVariants as revoke
use Rattle.key_holders.specs.declared.rows.HeldRow.{HeldRow}
use Rattle.key_holders.specs.Rows.{holds_live, ended_row, ended, after_revoke, revoke_answer as revoke_by}
use Rattle.key_holders.specs.Pulls.{is_match}
use Rattle.run_journal.specs.declared.domain.Domain.{Domain}
use Rattle.run_journal.specs.declared.acts.Act.{Act}
use Rattle.run_journal.specs.declared.acts.Act.TheVariants.{Revoked}
use Rattle.run_journal.specs.Holders.{row}
use Rattle.domain_rules.specs.Network.{mac}
use Rattle.domain_rules.specs.KeyHolders.{revoke_answer}
use Rattle.domain_rules.specs.HeldRight.{is_of}
use Rattle.held_rows.specs.Knows.{IsOwn, IsListedSta, stands_in, KnowsRows}

-- ---- the answer

by_row : (b : Bool) (o : Option Node) → b ≡ is_some o → (if b then revoke.Revoked else revoke.Absent) ≡ revoke_answer o
by_row b (Some p) is = rw is refl
by_row b None is = rw is refl

pub revocation_told : (d : Domain) (n : Node) (xs : List HeldRow) (h : List Act) (name : List ℕ) → KnowsRows d n xs h → revoke_by name xs ≡ revoke_answer (row name h)
revocation_told d n xs h name at = by_row (holds_live name xs) (row name h) (at.live_is name)

-- ---- rows of a name that are live no longer

abbrev dead : HeldRow → HeldRow
dead x = record { row = x.row; live = false }

ended_len : (name : List ℕ) (xs : List HeldRow) → length (ended name xs) ≡ length xs
ended_len name [] = refl
ended_len name (x ∷ xs) = ap suc (ended_len name xs)

own_row_ended : (d : Domain) (n : Node) (b : Bool) (x : HeldRow) → IsOwn d n x → IsOwn d n (if b then dead x else x)
own_row_ended d n true x is = record { sta = is.sta; listed = is.listed; psk = is.psk; is = is.is; present = λ live. absurd (true≢false (sym live)) }
own_row_ended d n false x is = is

own_ended : (d : Domain) (n : Node) (name : List ℕ) (xs : List HeldRow) → AllByRecursion (IsOwn d n) xs → AllByRecursion (IsOwn d n) (ended name xs)
own_ended d n name [] all = tt
own_ended d n name (x ∷ xs) all = (own_row_ended d n (bytes_eq x.row.name name) x all.0, own_ended d n name xs all.1)

-- a test of live rows of one name
pub record OfName (m : List ℕ) (test : HeldRow → Bool) : Type 0 where
  pub not_dead : (x : HeldRow) → test (dead x) ≡ false
  pub named : (x : HeldRow) → test x ≡ true → x.row.name ≡ m

either : (a b : Bool) → a ≡ false → b ≡ false → (a || b) ≡ false
either true b e f = absurd (true≢false e)
either false b e f = f

module _ (m : List ℕ) (test : HeldRow → Bool) (of_name : OfName m test) where
  fails_named : (x : HeldRow) (b : Bool) → bytes_eq x.row.name m ≡ b → test (if b then dead x else x) ≡ false
  fails_named x true e = of_name.not_dead x
  fails_named x false e = elim (cases_Bool (test x)) [
    | inl is ↦ absurd (true≢false (sym ((bytes_eq-Decides x.row.name m).1 (of_name.named x is)) ∙ e))
    | inr none ↦ none
  ]

  none_named : (xs : List HeldRow) → list_any test (ended m xs) ≡ false
  none_named [] = refl
  none_named (x ∷ xs) = either (test (ended_row m x)) (list_any test (ended m xs)) (fails_named x (bytes_eq x.row.name m) refl) (none_named xs)

  as_before : (name : List ℕ) → bytes_eq name m ≡ false → (x : HeldRow) (b : Bool) → bytes_eq x.row.name name ≡ b → test (if b then dead x else x) ≡ test x
  as_before name other x true e = elim (cases_Bool (test x)) [
    | inl is ↦ absurd (true≢false (sym ((bytes_eq-Decides name m).1 (sym ((bytes_eq-Decides x.row.name name).0 e) ∙ of_name.named x is)) ∙ other))
    | inr none ↦ of_name.not_dead x ∙ sym none
  ]
  as_before name other x false e = refl

  others_stay : (name : List ℕ) → bytes_eq name m ≡ false → (xs : List HeldRow) → list_any test (ended name xs) ≡ list_any test xs
  others_stay name other [] = refl
  others_stay name other (x ∷ xs) = λ i. as_before name other x (bytes_eq x.row.name name) refl i || others_stay name other xs i

  -- by what the history says of the name
  told : (name : List ℕ) (xs : List HeldRow) (o : Option Node) (ask : Option Node → Bool) (b : Bool) → bytes_eq name m ≡ b → ask None ≡ false → list_any test xs ≡ ask o → list_any test (ended name xs) ≡ ask (cond b None o)
  told name xs o ask true e none is = ap (λ (x : List ℕ). list_any test (ended x xs)) ((bytes_eq-Decides name m).0 e) ∙ (none_named xs ∙ sym none)
  told name xs o ask false e none is = others_stay name e xs ∙ is

live_of : (m : List ℕ) → OfName m (λ x. x.live && bytes_eq x.row.name m)
live_of m = record { not_dead = λ x. refl; named = λ x is. (bytes_eq-Decides x.row.name m).0 (and_parts x.live (bytes_eq x.row.name m) is).1 }

match_of : (m : List ℕ) (sta : Mac) → OfName m (is_match m sta)
match_of m sta = record {
  not_dead = λ x. refl;
  named = λ x is. (bytes_eq-Decides x.row.name m).0 (and_parts x.live (bytes_eq x.row.name m) (and_parts (x.live && bytes_eq x.row.name m) (bytes_eq x.row.sta.0 sta.0) is).0).1;
}

last_ended : (b s : Bool) (o : Option Node) (i : Node) → s ≡ is_of i o → (false || (not b && s)) ≡ is_of i (cond b None o)
last_ended true s o i is = refl
last_ended false s o i is = is

listed_ended : (d : Domain) (b : Bool) (o : Option Node) → IsListedSta d o → IsListedSta d (cond b None o)
listed_ended d true o at = tt
listed_ended d false o at = at

pub behind_revocation : (d : Domain) (n p : Node) (xs : List HeldRow) (h : List Act) (id name : List ℕ) (answer : RevokeAnswer) → KnowsRows d n xs h → answer ≡ revoke_by name xs → KnowsRows d n (after_revoke name answer xs) (Revoked id name p answer ∷ h)
behind_revocation d n p xs h id name revoke.Revoked at is = record {
  count = ended_len name xs ∙ at.count;
  live_is = λ m. told m (λ x. x.live && bytes_eq x.row.name m) (live_of m) name xs (row m h) (λ (o : Option Node). is_some o) (bytes_eq name m) refl refl (at.live_is m);
  station_is = λ m i there. told m (is_match m (mac d (Sta i))) (match_of m (mac d (Sta i))) name xs (row m h) (is_of (Sta i)) (bytes_eq name m) refl refl (at.station_is m i there);
  last = λ m i. last_ended (bytes_eq name m) (stands_in m (Sta i) h) (row m h) (Sta i) (at.last m i);
  listed = λ m. listed_ended d (bytes_eq name m) (row m h) (at.listed m);
  own = own_ended d n name xs at.own;
  suite = λ other. ap (ended name) (at.suite other);
}
behind_revocation d n p xs h id name revoke.Absent at is = record { count = at.count; live_is = at.live_is; station_is = at.station_is; last = at.last; listed = at.listed; own = at.own; suite = at.suite }
