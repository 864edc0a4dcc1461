-- Which access point is asked, and what a pull then answers.
use Rattle.std.proofs.Common.{◌≡◌, ◌≢◌, ℕ, ◌<◌, true≢false, List, [], length, get_or, Some, None, refl, sym, ap, ◌∙◌, subst, arith}
use Rattle.std.specs.Prelude.{slice_get, position, bytes_eq}
use Rattle.std.proofs.lemmas.Slice.Eq.{bytes_eq-Decides}
use Rattle.std.proofs.lemmas.List.{get_or_default}
use Rattle.std.proofs.lemmas.Option.{slice_get_within, slice_get_read}
use Rattle.domain_base.specs.declared.names.Mac.{Mac}
use Rattle.key_hierarchy.specs.declared.fast_transition.PmkR1.{PmkR1}
use Rattle.key_hierarchy.specs.declared.answers.PullAnswer.{PullAnswer}
use Rattle.key_hierarchy.specs.declared.answers.PullAnswer.TheVariants.{Found, NoHolder, Absent}
use Rattle.key_holders.specs.declared.rows.HeldRow.{HeldRow}
use Rattle.key_holders.specs.Keys.{row_r1}
use Rattle.key_holders.specs.Pulls.{is_match, MayPull, IsHolder, Answers, IsNamed}
use Rattle.key_holders.specs.Listed.{Listed, below, rows_at, Pulled}
use Rattle.key_holders.proofs.Searches.{at_position, none_at}
use Rattle.key_holders.proofs.Lives.{match_lives, no_match}
use Rattle.key_holders.proofs.KeysOfRows.{name_found}

pub holder_at : (ids : List (List ℕ)) (id : List ℕ) (r : ℕ) → Some r ≡ position (λ (i : List ℕ). bytes_eq i id) ids → IsHolder ids id r
holder_at ids id r e =
    let t = at_position (λ (i : List ℕ). bytes_eq i id) ids r e in
    t.1 ∙ ap (λ (i : List ℕ). Some i) ((bytes_eq-Decides t.0 id).0 t.2)

pub no_holder : (ids : List (List ℕ)) (id : List ℕ) → None ≡ position (λ (i : List ℕ). bytes_eq i id) ids → (r : ℕ) → slice_get ids r ≢ Some id
no_holder ids id e r there = true≢false (sym ((bytes_eq-Decides id id).1 refl) ∙ none_at (λ (i : List ℕ). bytes_eq i id) ids e r id there)

pub may_found : (rows : List HeldRow) (name : List ℕ) (r1kh sta : Mac) (place : ℕ) (h : HeldRow) (r1 : PmkR1) → Some place ≡ position (λ (g : HeldRow). is_match name sta g) rows → h ≡ get_or rows place h → r1 ≡ row_r1 h.row r1kh → MayPull rows name r1kh sta (Found r1)
may_found rows name r1kh sta place h r1 e is key =
    let t = at_position (λ (g : HeldRow). is_match name sta g) rows place e in
    let there : slice_get rows place ≡ Some h = slice_get_read rows (length rows) place h refl (slice_get_within rows place t.0 t.1) is in
    let same : t.0 ≡ h = same_some (sym t.1 ∙ there) in
    let m = match_lives name sta h (ap (λ (g : HeldRow). is_match name sta g) (sym same) ∙ t.2) in
    (place, h.row, there ∙ ap (λ (g : HeldRow). Some g) m.0, m.1, key)
  where
    same_some : {a b : HeldRow} → Some a ≡ Some b → a ≡ b
    same_some e = cc

pub may_absent : (rows : List HeldRow) (name : List ℕ) (r1kh sta : Mac) → None ≡ position (λ (g : HeldRow). is_match name sta g) rows → MayPull rows name r1kh sta Absent
may_absent rows name r1kh sta e j h there m = no_match name sta h (none_at (λ (g : HeldRow). is_match name sta g) rows e j h there) m

pub rows_here : (rows : List (List HeldRow)) (r : ℕ) (x : List HeldRow) → r < length rows → x ≡ get_or rows r x → x ≡ rows_at rows r
rows_here rows r x few e = e ∙ get_or_default rows r x [] few

-- the access point that is asked, and its rows
pub asked_at : (h : Listed) (rows : List (List HeldRow)) (ids : List (List ℕ)) (id : List ℕ) (r : ℕ) (x : List HeldRow) → record { ids = ids; rows = rows } ≡ h → length rows ≡ length ids → Some r ≡ position (λ (i : List ℕ). bytes_eq i id) h.ids → x ≡ get_or rows r x → IsHolder h.ids id r × (x ≡ rows_at h.rows r)
asked_at h rows ids id r x is same e at =
    let holds = holder_at h.ids id r e in
    let within = slice_get_within h.ids r id holds in
    let listed : length ids ≡ length h.ids = ap (λ (l : Listed). length l.ids) is in
    (holds, rows_here rows r x (omega (arith, within, listed, same)) at ∙ ap (λ (l : Listed). rows_at l.rows r) is)

module _ (h : Listed) (id name : List ℕ) (r1kh sta : Mac) where
  pub pulled_at : (r : ℕ) (rows : List HeldRow) (a : PullAnswer) → IsHolder h.ids id r → rows ≡ rows_at h.rows r → MayPull rows name r1kh sta a → Pulled h id name r1kh sta a
  pulled_at r rows (Found r1) holds is m = (r, holds, subst (λ (x : List HeldRow). MayPull x name r1kh sta (Found r1)) is m)
  pulled_at r rows Absent holds is m = (r, holds, subst (λ (x : List HeldRow). MayPull x name r1kh sta Absent) is m)
  pulled_at r rows NoHolder holds is m = absurd m

  pub pulled_answers : (a : PullAnswer) → Pulled h id name r1kh sta a → Answers h.ids (below (length h.ids)) (λ r. rows_at h.rows r) id name r1kh sta a
  pulled_answers (Found r1) p = (p.0, p.1, λ _. p.2)
  pulled_answers Absent p = (p.0, p.1, λ _. p.2)
  pulled_answers NoHolder p = p

  pub pulled_named : (a : PullAnswer) → Pulled h id name r1kh sta a → IsNamed name r1kh sta a
  pulled_named (Found r1) p = name_found name r1kh sta p.2.1 r1 p.2.3 p.2.4
  pulled_named Absent p = tt
  pulled_named NoHolder p = tt
