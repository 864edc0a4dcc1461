-- What a call leaves at the access points of its pass.
use Rattle.std.proofs.Common.{◌≡◌, ◌≢◌, ℕ, true, List, [], ◌∷◌, ◌++◌, Some, None, refl, sym, ap, ◌∙◌, subst}
use Rattle.std.specs.Prelude.{slice_get, position, bytes_eq}
use mathlib.Core.Logic.{dite}
use native.Mathlib.Decide.{ℕ_discrete}
use Rattle.domain_base.specs.declared.names.Mac.{Mac}
use Rattle.key_hierarchy.specs.declared.answers.PutAnswer.{PutAnswer}
use Rattle.key_hierarchy.specs.declared.answers.PutAnswer.TheVariants.{Held, HeldAlready, Full, NoMemory}
use Rattle.key_hierarchy.specs.declared.answers.PullAnswer.{PullAnswer}
use Rattle.key_hierarchy.specs.declared.answers.PullAnswer.TheVariants as pulled
use Rattle.key_hierarchy.specs.declared.answers.RevokeAnswer.{RevokeAnswer}
use Rattle.key_hierarchy.specs.declared.answers.RevokeAnswer.TheVariants as revoked
use Rattle.key_holders.specs.declared.rows.HolderRow.{HolderRow}
use Rattle.key_holders.specs.Rows.{ended, put_answer, after_put, after_revoke}
use Rattle.key_holders.specs.Pulls.{MayPull, IsHolder, ByHolder, Answers, IsNamed}
use Rattle.key_holders.proofs.KeysOfRows.{name_found}
use Rattle.key_holders.proofs.Holding.{no_holder}
use Rattle.key_holders.proofs.Lives.{holds_none, held_none}
use Rattle.holder_table.specs.declared.history.HolderEvent.{HolderEvent}
use Rattle.holder_table.specs.declared.history.HolderEvent.TheVariants.{Put, Revoke}
use Rattle.holder_table.specs.declared.view.View.{View}
use Rattle.holder_table.specs.Histories.{HeldRow, is_in, live, ended_at, held_at, NoTwins}
use Rattle.holder_table.specs.Knowledge.{NoLess, KnowsMore, Did, AfterPut, AfterRevoke, PullsAt, Pulled}
use Rattle.holder_table.proofs.Stores.{put_here, put_other, end_here, end_other}
use Rattle.holder_table.proofs.Twins.{one_ends, put_no_twins, end_no_twins}
use Rattle.holder_table.proofs.Knows.{no_less-more, no_less-did}
use Rattle.holder_table.specs.Relations.{no_less_same}

-- the rows at the access points of a pass, after an event at one of them
module _ (v w : View) (e : HolderEvent) (d : Did e v w) where
  did_here : (r : ℕ) (F : List HeldRow → List HeldRow) → ((h : List HolderEvent) → held_at r (e ∷ h) ≡ F (held_at r h)) → is_in r v.has ≡ true → held_at r w.seen ≡ F (held_at r v.seen)
  did_here r F at has = ap (λ (h : List HolderEvent). held_at r h) d.seen ∙ (at (d.between ++ v.seen) ∙ ap F (d.own r has))

  did_other : (s : ℕ) → ((h : List HolderEvent) → held_at s (e ∷ h) ≡ held_at s h) → is_in s v.has ≡ true → held_at s w.seen ≡ held_at s v.seen
  did_other s at has = ap (λ (h : List HolderEvent). held_at s h) d.seen ∙ (at (d.between ++ v.seen) ∙ d.own s has)

module _ (r : ℕ) (row : HolderRow) (v w : View) where
  pub put_rows : (answer : PutAnswer) → is_in r v.has ≡ true → AfterPut r row v w answer → held_at r w.seen ≡ after_put row answer (held_at r v.seen)
  put_rows Held has d = did_here v w (Put r row) d r (λ ps. ps ++ live row ∷ []) (put_here r row) has
  put_rows HeldAlready has m = m.own r has
  put_rows Full has m = m.own r has
  put_rows NoMemory has m = absurd m

  pub put_others : (answer : PutAnswer) → AfterPut r row v w answer → (s : ℕ) → s ≢ r → is_in s v.has ≡ true → held_at s w.seen ≡ held_at s v.seen
  put_others Held d s ne has = did_other v w (Put r row) d s (λ h. put_other r row h s (λ e. ne (sym e))) has
  put_others HeldAlready m s ne has = m.own s has
  put_others Full m s ne has = m.own s has
  put_others NoMemory m s ne has = absurd m

  pub put_knows : (answer : PutAnswer) → AfterPut r row v w answer → NoLess v w × (w.brought ≡ [])
  put_knows Held d = (no_less-did v w (Put r row) d, d.settled)
  put_knows HeldAlready m = (no_less-more v w m, m.settled)
  put_knows Full m = (no_less-more v w m, m.settled)
  put_knows NoMemory m = absurd m

  put_twins_here : (answer : PutAnswer) → answer ≡ put_answer row.name (held_at r v.seen) → NoTwins (held_at r v.seen) → NoTwins (after_put row answer (held_at r v.seen))
  put_twins_here Held is one = put_no_twins (held_at r v.seen) row one (holds_none row.name (held_at r v.seen) (held_none row.name (held_at r v.seen) (sym is)))
  put_twins_here HeldAlready is one = one
  put_twins_here Full is one = one
  put_twins_here NoMemory is one = one

-- where rows are as they were but at one access point, no two live ones have one name
still : (v w : View) (r : ℕ) → w.has ≡ v.has → ((s : ℕ) → s ≢ r → is_in s v.has ≡ true → held_at s w.seen ≡ held_at s v.seen) → NoTwins (held_at r w.seen) → ((s : ℕ) → is_in s v.has ≡ true → NoTwins (held_at s v.seen)) → (s : ℕ) → is_in s w.has ≡ true → NoTwins (held_at s w.seen)
still v w r has others here before s in_w =
    let in_v : is_in s v.has ≡ true = ap (λ (xs : List ℕ). is_in s xs) (sym has) ∙ in_w in
    dite (ℕ_discrete s r)
    (λ is. subst (λ (x : ℕ). NoTwins (held_at x w.seen)) (sym is) here)
    (λ ne. subst (λ (ps : List HeldRow). NoTwins ps) (sym (others s ne in_v)) (before s in_v))

pub put_twins : (r : ℕ) (row : HolderRow) (v w : View) (answer : PutAnswer) → is_in r v.has ≡ true → AfterPut r row v w answer → answer ≡ put_answer row.name (held_at r v.seen) → ((s : ℕ) → is_in s v.has ≡ true → NoTwins (held_at s v.seen)) → (s : ℕ) → is_in s w.has ≡ true → NoTwins (held_at s w.seen)
put_twins r row v w answer has effect is before =
    still v w r (put_knows r row v w answer effect).0.has (put_others r row v w answer effect)
    (subst (λ (ps : List HeldRow). NoTwins ps) (sym (put_rows r row v w answer has effect)) (put_twins_here r row v w answer is (before r has)))
    before

module _ (r : ℕ) (name : List ℕ) (v w : View) where
  pub revoke_rows : (answer : RevokeAnswer) → is_in r v.has ≡ true → NoTwins (held_at r v.seen) → AfterRevoke r name v w answer → held_at r w.seen ≡ after_revoke name answer (held_at r v.seen)
  revoke_rows revoked.Revoked has one x =
      did_here v w (Revoke r x.0) x.4 r (ended_at x.0) (end_here r x.0) has
      ∙ (one_ends (held_at r v.seen) x.0 x.1 one x.2 ∙ ap (λ (n : List ℕ). ended n (held_at r v.seen)) x.3)
  revoke_rows revoked.Absent has one m = m.own r has

  pub revoke_others : (answer : RevokeAnswer) → AfterRevoke r name v w answer → (s : ℕ) → s ≢ r → is_in s v.has ≡ true → held_at s w.seen ≡ held_at s v.seen
  revoke_others revoked.Revoked x s ne has = did_other v w (Revoke r x.0) x.4 s (λ h. end_other r x.0 h s (λ e. ne (sym e))) has
  revoke_others revoked.Absent m s ne has = m.own s has

  pub revoke_knows : (answer : RevokeAnswer) → AfterRevoke r name v w answer → NoLess v w × (w.brought ≡ [])
  revoke_knows revoked.Revoked x = (no_less-did v w (Revoke r x.0) x.4, x.4.settled)
  revoke_knows revoked.Absent m = (no_less-more v w m, m.settled)

  revoke_twins_here : (answer : RevokeAnswer) → is_in r v.has ≡ true → AfterRevoke r name v w answer → NoTwins (held_at r v.seen) → NoTwins (held_at r w.seen)
  revoke_twins_here revoked.Revoked has x one = subst (λ (ps : List HeldRow). NoTwins ps) (sym (did_here v w (Revoke r x.0) x.4 r (ended_at x.0) (end_here r x.0) has)) (end_no_twins x.0 (held_at r v.seen) one)
  revoke_twins_here revoked.Absent has m one = subst (λ (ps : List HeldRow). NoTwins ps) (sym (m.own r has)) one

pub revoke_twins : (r : ℕ) (name : List ℕ) (v w : View) (answer : RevokeAnswer) → is_in r v.has ≡ true → AfterRevoke r name v w answer → ((s : ℕ) → is_in s v.has ≡ true → NoTwins (held_at s v.seen)) → (s : ℕ) → is_in s w.has ≡ true → NoTwins (held_at s w.seen)
revoke_twins r name v w answer has effect before =
    still v w r (revoke_knows r name v w answer effect).0.has (revoke_others r name v w answer effect)
    (revoke_twins_here r name v w answer has effect (before r has))
    before

pub more_twins : (v w : View) → KnowsMore v w → ((s : ℕ) → is_in s v.has ≡ true → NoTwins (held_at s v.seen)) → (s : ℕ) → is_in s w.has ≡ true → NoTwins (held_at s w.seen)
more_twins v w m before s in_w =
    let in_v : is_in s v.has ≡ true = ap (λ (xs : List ℕ). is_in s xs) (sym m.has) ∙ in_w in
    subst (λ (ps : List HeldRow). NoTwins ps) (sym (m.own s in_v)) (before s in_v)

-- at an access point of the pass, a pull is answered by the rows as they were
own_answer : (r : ℕ) (name : List ℕ) (r1kh sta : Mac) (v w : View) (a : PullAnswer) → held_at r w.seen ≡ held_at r v.seen → PullsAt r name r1kh sta v w a → MayPull (held_at r v.seen) name r1kh sta a
own_answer r name r1kh sta v w (pulled.Found r1) same x =
    let f = x.2 in
    (f.0, x.0, subst (λ (ps : List HeldRow). slice_get ps f.0 ≡ Some (live x.0)) same f.1, f.2, x.1)
own_answer r name r1kh sta v w pulled.Absent same x = λ j h e. x.0 j h (subst (λ (ps : List HeldRow). slice_get ps j ≡ Some h) (sym same) e)
own_answer r name r1kh sta v w pulled.NoHolder same x = absurd x

pub pull_answers : (ids : List (List ℕ)) (r0kh_id name : List ℕ) (r1kh sta : Mac) (v w : View) (a : PullAnswer) → Pulled ids r0kh_id name r1kh sta v w a → Answers ids v.has (λ r. held_at r v.seen) r0kh_id name r1kh sta a
pull_answers ids r0kh_id name r1kh sta v w (pulled.Found r1) p = (p.found.0, p.found.1, λ has. own_answer p.found.0 name r1kh sta v w (pulled.Found r1) (p.own p.found.0 has) p.found.2)
pull_answers ids r0kh_id name r1kh sta v w pulled.Absent p = (p.found.0, p.found.1, λ has. own_answer p.found.0 name r1kh sta v w pulled.Absent (p.own p.found.0 has) p.found.2)
pull_answers ids r0kh_id name r1kh sta v w pulled.NoHolder p = p.found

pub pull_named : (ids : List (List ℕ)) (r0kh_id name : List ℕ) (r1kh sta : Mac) (v w : View) (a : PullAnswer) → Pulled ids r0kh_id name r1kh sta v w a → IsNamed name r1kh sta a
pull_named ids r0kh_id name r1kh sta v w (pulled.Found r1) p =
    let x = p.found.2 in
    name_found name r1kh sta x.0 r1 x.2.2 x.1
pull_named ids r0kh_id name r1kh sta v w pulled.Absent p = tt
pull_named ids r0kh_id name r1kh sta v w pulled.NoHolder p = tt

pub asked_at : (ids : List (List ℕ)) (r0kh_id name : List ℕ) (r1kh sta : Mac) (v w : View) (r : ℕ) (a : PullAnswer) → IsHolder ids r0kh_id r → PullsAt r name r1kh sta v w a → ByHolder ids r0kh_id (λ r a. PullsAt r name r1kh sta v w a) a
asked_at ids r0kh_id name r1kh sta v w r (pulled.Found r1) holds x = (r, holds, x)
asked_at ids r0kh_id name r1kh sta v w r pulled.Absent holds x = (r, holds, x)
asked_at ids r0kh_id name r1kh sta v w r pulled.NoHolder holds x = absurd x

pub none_pulled : (ids : List (List ℕ)) (r0kh_id name : List ℕ) (r1kh sta : Mac) (v : View) → None ≡ position (λ (i : List ℕ). bytes_eq i r0kh_id) ids → Pulled ids r0kh_id name r1kh sta v v pulled.NoHolder
none_pulled ids r0kh_id name r1kh sta v none = record { less = no_less_same v; own = λ r has. refl; found = no_holder ids r0kh_id none }
