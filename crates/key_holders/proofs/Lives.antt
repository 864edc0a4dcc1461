-- Whether a live row has a name, and what a put then answers.
use Rattle.std.proofs.Common.{◌≡◌, ℕ, zero, suc, ◌<◌, ◌≤◌, Bool, true, false, true≢false, ◌&&◌, ◌||◌, List, [], ◌∷◌, length, Some, refl, sym, ap, ◌∙◌, rules}
use Rattle.std.specs.Prelude.{slice_get, bytes_eq, nat_le, if◌then◌else◌}
use Rattle.std.proofs.lemmas.Slice.Eq.{bytes_eq-Decides}
use Rattle.domain_base.specs.declared.names.Mac.{Mac}
use Rattle.key_hierarchy.specs.declared.answers.PutAnswer.TheVariants.{Held, HeldAlready, Full}
use Rattle.key_holders.specs.declared.rows.HeldRow.{HeldRow}
use Rattle.key_holders.specs.Rows.{live, holds_live, put_answer}
use Rattle.key_holders.specs.Pulls.{Matches, is_match}

abbrev pub is_live_of : List ℕ → HeldRow → Bool
is_live_of name h = h.live && bytes_eq h.row.name name

pub same_some : {A : Type 0} (p q : A) → Some p ≡ Some q → p ≡ q
same_some p q e = cc

live_of : (name : List ℕ) (h : HeldRow) → h.live ≡ true → h.row.name ≡ name → is_live_of name h ≡ true
live_of name h l n = ap (λ (b : Bool). b && bytes_eq h.row.name name) l ∙ (bytes_eq-Decides h.row.name name).1 n

either : (a b : Bool) → b ≡ true → (a || b) ≡ true
either true b e = refl
either false b e = e

pub live_holds : (name : List ℕ) (rows : List HeldRow) (j : ℕ) (h : HeldRow) → slice_get rows j ≡ Some h → h.live ≡ true → h.row.name ≡ name → holds_live name rows ≡ true
live_holds name [] j h e l n = absurd (cc)
live_holds name (x ∷ xs) zero h e l n = ap (λ (b : Bool). b || holds_live name xs) (ap (λ (y : HeldRow). is_live_of name y) (same_some x h e) ∙ live_of name h l n)
live_holds name (x ∷ xs) (suc j) h e l n = either (is_live_of name x) (holds_live name xs) (live_holds name xs j h e l n)

neither : (a b : Bool) → (b ≡ true → a ≡ false) → (a && b) ≡ false
neither true true h = h refl
neither true false h = refl
neither false b h = refl

pub none_holds : (name : List ℕ) (rows : List HeldRow) → ((j : ℕ) (h : HeldRow) → slice_get rows j ≡ Some h → h.row.name ≡ name → h.live ≡ false) → holds_live name rows ≡ false
none_holds name [] none = refl
none_holds name (x ∷ xs) none =
    ap (λ (b : Bool). b || holds_live name xs) (neither x.live (bytes_eq x.row.name name) (λ e. none zero x refl ((bytes_eq-Decides x.row.name name).0 e)))
    ∙ none_holds name xs (λ j h e n. none (suc j) h e n)

not_live : (b : Bool) → (b ≡ true → ⊥) → b ≡ false
not_live true h = absurd (h refl)
not_live false h = refl

-- where no live row has the name, each row that has it is revoked
pub holds_none : (name : List ℕ) (rows : List HeldRow) → holds_live name rows ≡ false → (j : ℕ) (h : HeldRow) → slice_get rows j ≡ Some h → h.row.name ≡ name → h.live ≡ false
holds_none name rows none j h e n = not_live h.live (λ l. true≢false (sym (live_holds name rows j h e l n) ∙ none))

module _ (name : List ℕ) (rows : List HeldRow) where
  pub put_again : holds_live name rows ≡ true → put_answer name rows ≡ HeldAlready
  put_again e = ap (λ (b : Bool). if b then HeldAlready else if nat_le 64 (length rows) then Full else Held) e

  pub put_full : holds_live name rows ≡ false → 64 ≤ length rows → put_answer name rows ≡ Full
  put_full e many =
      let test : nat_le 64 (length rows) ≡ true = search rules in
      ap (λ (b : Bool). if b then HeldAlready else if nat_le 64 (length rows) then Full else Held) e ∙ ap (λ (b : Bool). if b then Full else Held) test

  pub put_held : holds_live name rows ≡ false → length rows < 64 → put_answer name rows ≡ Held
  put_held e few =
      let test : nat_le 64 (length rows) ≡ false = search rules in
      ap (λ (b : Bool). if b then HeldAlready else if nat_le 64 (length rows) then Full else Held) e ∙ ap (λ (b : Bool). if b then Full else Held) test

  -- a row is held where no live one had its name
  pub held_none : put_answer name rows ≡ Held → holds_live name rows ≡ false
  held_none is = not_live (holds_live name rows) (λ e. again_not_held (sym (put_again e) ∙ is))
    where
      again_not_held : HeldAlready ≡ Held → ⊥
      again_not_held e = cc

both_true : (a b : Bool) → (a && b) ≡ true → (a ≡ true) × (b ≡ true)
both_true true b e = (refl, e)
both_true false b e = absurd (true≢false (sym e))

pub match_lives : (name : List ℕ) (sta : Mac) (h : HeldRow) → is_match name sta h ≡ true → (h ≡ live h.row) × Matches name sta h.row
match_lives name sta h e =
    let a = both_true (h.live && bytes_eq h.row.name name) (bytes_eq h.row.sta.0 sta.0) e in
    let b = both_true h.live (bytes_eq h.row.name name) a.0 in (
      (λ i. record { row = h.row; live = b.0 i }),
      ((bytes_eq-Decides h.row.name name).0 b.1, (λ i. record { 0 = (bytes_eq-Decides h.row.sta.0 sta.0).0 a.1 i })),
    )

pub no_match : (name : List ℕ) (sta : Mac) (h : HeldRow) → is_match name sta h ≡ false → Matches name sta h.row → h.live ≡ false
no_match name sta h e m = not_live h.live (λ l. true≢false (sym (ap (λ (b : Bool). b && bytes_eq h.row.sta.0 sta.0) (live_of name h l m.0) ∙ (bytes_eq-Decides h.row.sta.0 sta.0).1 (ap (λ (s : Mac). s.0) m.1)) ∙ e))
