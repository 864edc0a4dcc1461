-- Looks are judged by the entries of the access point that asks, and of the one that holds.
use Rattle.std.proofs.Common.{◌≡◌, ◌↔◌, ℕ, suc, ◌<◌, Bool, true, false, cond, IsTrue, List, [], ◌∷◌, ◌++◌, length, Option, Some, None, refl, sym, ap, subst, ◌∙◌}
use Rattle.std.specs.Prelude.{not, ◌&&◌, ◌||◌, nat_lt, bytes_eq, position, option_map, slice_get, unwrap_or}
use Rattle.std.proofs.lemmas.Slice.Eq.{bytes_eq-Decides}
use Rattle.std.proofs.lemmas.Option.{slice_get_within}
use Rattle.domain_base.specs.declared.names.Node.{Node}
use Rattle.domain_base.specs.declared.names.Node.TheVariants.{Ap}
use Rattle.key_hierarchy.specs.declared.answers.PullAnswer.{PullAnswer}
use Rattle.key_hierarchy.specs.declared.answers.PullAnswer.TheVariants.{Found, NoHolder, Absent}
use Rattle.key_holders.proofs.Searches.{at_position}
use Rattle.run_journal.specs.declared.domain.Domain.{Domain}
use Rattle.run_journal.specs.declared.domain.ListedAp.{ListedAp}
use Rattle.run_journal.specs.declared.acts.Act.{Act}
use Rattle.run_journal.specs.declared.acts.Act.TheVariants.{Looked}
use Rattle.run_journal.specs.declared.acts.Entry.{Entry}
use Rattle.run_journal.specs.Acts.{same}
use Rattle.run_journal.specs.Holders.{is_ended}
use Rattle.domain_rules.specs.Network.{holder_of, r0kh_id}
use Rattle.domain_rules.specs.Present.{present, earlier}
use Rattle.domain_rules.specs.HeldRight.{Looking, looking, puts_row, stands, stands_here, AnswersAt, AnsweredElsewhere, AnsweredBy, GivesRightKey, HeldAt}
use Rattle.domain_rules.proofs.Parts.{same-true}
use Rattle.packet_history.specs.Own.{entries_at}
use Rattle.look_audit.specs.Own.{HeldIn}

-- ---- the entries of the holder alone

abbrev steps : (b : Bool) → List ℕ → Node → ℕ → ℕ → Entry → Bool → Bool
steps b name p before since e rest =
    (b && nat_lt e.round before && puts_row name p e.act) || (not (b && nat_lt e.round since && is_ended name e.act) && rest)

own_by : (r : Node) (b : Bool) (name : List ℕ) (p : Node) (before since : ℕ) (e : Entry) (rest : Bool) (own : List Entry) → same r e.node ≡ b → rest ≡ stands r name p before since own
    → steps b name p before since e rest ≡ stands r name p before since (cond b (e ∷ own) own)
own_by r true name p before since e rest own at is =
    ap (steps true name p before since e) is ∙ ap (λ (x : Bool). steps x name p before since e (stands r name p before since own)) (sym at)
own_by r false name p before since e rest own at is = is

stands_own : (r : Node) (name : List ℕ) (p : Node) (before since : ℕ) (j : List Entry) → stands r name p before since j ≡ stands r name p before since (entries_at r j)
stands_own r name p before since [] = refl
stands_own r name p before since (e ∷ j) =
    ap (λ (x : Bool). steps x name p before since e (stands r name p before since j)) refl
    ∙ own_by r (same r e.node) name p before since e (stands r name p before since j) (entries_at r j) refl (stands_own r name p before since j)

stands_later : (r : Node) (name : List ℕ) (p : Node) (before since : ℕ) (later j : List Entry) → stands r name p before since (later ++ j) ≡ stands r name p before since (later ++ entries_at r j)
stands_later r name p before since [] j = stands_own r name p before since j
stands_later r name p before since (e ∷ later) j = ap (steps (same r e.node) name p before since e) (stands_later r name p before since later j)

abbrev steps_here : (b : Bool) → List ℕ → Node → Entry → Bool → Bool
steps_here b name p e rest = (b && puts_row name p e.act) || (not (b && is_ended name e.act) && rest)

here_by : (r : Node) (b : Bool) (name : List ℕ) (p : Node) (e : Entry) (rest : Bool) (own : List Entry) → same r e.node ≡ b → rest ≡ stands_here r name p own
    → steps_here b name p e rest ≡ stands_here r name p (cond b (e ∷ own) own)
here_by r true name p e rest own at is = ap (steps_here true name p e) is ∙ ap (λ (x : Bool). steps_here x name p e (stands_here r name p own)) (sym at)
here_by r false name p e rest own at is = is

here_own : (r : Node) (name : List ℕ) (p : Node) (past : List Entry) → stands_here r name p past ≡ stands_here r name p (entries_at r past)
here_own r name p [] = refl
here_own r name p (e ∷ past) = here_by r (same r e.node) name p e (stands_here r name p past) (entries_at r past) refl (here_own r name p past)

-- ---- answers

elsewhere : (r : Node) (l : Looking) (answer : PullAnswer) (later j : List Entry) → AnsweredElsewhere r l answer (later ++ j) ↔ AnsweredElsewhere r l answer (later ++ entries_at r j)
elsewhere r l (Found k) later j = (let is = stands_later r l.name l.sta (suc l.round) l.round later j in (λ w. sym is ∙ w, λ w. is ∙ w))
elsewhere r l Absent later j = (let is = stands_later r l.name l.sta l.round (suc l.round) later j in (λ w. sym is ∙ w, λ w. is ∙ w))
elsewhere r l NoHolder later j = (λ w. w, λ w. w)

answers_here : (r : Node) (l : Looking) (answer : PullAnswer) (past : List Entry) → AnswersAt r l answer past ↔ AnswersAt r l answer (entries_at r past)
answers_here r l (Found k) past = (let is = here_own r l.name l.sta past in (λ w. sym is ∙ w, λ w. is ∙ w))
answers_here r l Absent past = (let is = here_own r l.name l.sta past in (λ w. sym is ∙ w, λ w. is ∙ w))
answers_here r l NoHolder past = (λ w. w, λ w. w)

either : (b : Bool) (A B C D : Type 0) → (b ≡ true → A ↔ C) → (b ≡ false → B ↔ D) → cond b A B ↔ cond b C D
either true A B C D here_ there = here_ refl
either false A B C D here_ there = there refl

answered : (o : Option Node) (l : Looking) (answer : PullAnswer) (past later j theirs : List Entry) → ((r : Node) → o ≡ Some r → theirs ≡ entries_at r j)
    → AnsweredBy o l answer past (later ++ j) ↔ AnsweredBy o l answer (entries_at l.node past) (later ++ theirs)
answered None l answer past later j theirs are = (λ w. w, λ w. w)
answered (Some r) l answer past later j theirs are =
    either (same r l.node) (AnswersAt r l answer past) (AnsweredElsewhere r l answer (later ++ j)) (AnswersAt r l answer (entries_at l.node past)) (AnsweredElsewhere r l answer (later ++ theirs))
    (λ own. subst (λ (n : Node). AnswersAt r l answer past ↔ AnswersAt r l answer (entries_at n past)) (same-true r l.node own) (answers_here r l answer past))
    (λ other. subst (λ (t : List Entry). AnsweredElsewhere r l answer (later ++ j) ↔ AnsweredElsewhere r l answer (later ++ t)) (sym (are r refl)) (elsewhere r l answer later j))

pub held : (d : Domain) (j later : List Entry) (e : Entry) (past : List Entry) (id name : List ℕ) (p : Node) (answer : PullAnswer) (theirs : List Entry) → e.act ≡ Looked id name p answer → ((r : Node) → holder_of d id ≡ Some r → theirs ≡ entries_at r j)
    → HeldAt d (later ++ j) e past ↔ HeldIn (present d (earlier e.round (later ++ j))) id (looking e name p) answer (entries_at e.node past) (later ++ theirs)
held d j later e past id name p answer theirs is are =
    let w = answered (holder_of d id) (looking e name p) answer past later j theirs are in (
      λ at. (let v = at id name p answer is in (w.0 v.0, v.1)),
      λ own x m q a at. subst Of (sym is ∙ at) (w.1 own.0, own.1),
    )
  where
    Of : Act → Type 0
    Of (Looked x m q a) = AnsweredBy (holder_of d x) (looking e m q) a past (later ++ j) × GivesRightKey (present d (earlier e.round (later ++ j))) x (looking e m q) a
    Of _ = Unit {0}

-- ---- the code

pub none_asked : (d : Domain) (id : List ℕ) (l : Looking) (answer : PullAnswer) (own theirs : List Entry) → holder_of d id ≡ None → (answer ≡ NoHolder) ↔ HeldIn d id l answer own theirs
none_asked d id l answer own theirs none = (
  λ is. (subst (λ (o : Option Node). AnsweredBy o l answer own theirs) (sym none) is, subst (λ (a : PullAnswer). GivesRightKey d id l a) (sym is) tt),
  λ held_. subst (λ (o : Option Node). AnsweredBy o l answer own theirs) none held_.0,
)

pub asked : (d : Domain) (id : List ℕ) (r : ℕ) (l : Looking) (answer : PullAnswer) (own theirs : List Entry) (a b : Bool) → holder_of d id ≡ Some (Ap r) → id ≡ r0kh_id d (Ap r) → IsTrue a ↔ AnsweredBy (Some (Ap r)) l answer own theirs → IsTrue b ↔ GivesRightKey d (r0kh_id d (Ap r)) l answer
    → IsTrue (a && b) ↔ HeldIn d id l answer own theirs
asked d id r l answer own theirs a b some is first second = by a b first second
  where
    by : (a b : Bool) → IsTrue a ↔ AnsweredBy (Some (Ap r)) l answer own theirs → IsTrue b ↔ GivesRightKey d (r0kh_id d (Ap r)) l answer → IsTrue (a && b) ↔ HeldIn d id l answer own theirs
    by true true x y = (
      λ t. (subst (λ (o : Option Node). AnsweredBy o l answer own theirs) (sym some) (x.0 refl), subst (λ (i : List ℕ). GivesRightKey d i l answer) (sym is) (y.0 refl)),
      λ w. refl,
    )
    by true false x y = (λ t. absurd (cc t), λ w. absurd (let no_ : IsTrue false = y.1 (subst (λ (i : List ℕ). GivesRightKey d i l answer) is w.1) in cc no_))
    by false b x y = (λ t. absurd (cc t), λ w. absurd (let no_ : IsTrue false = x.1 (subst (λ (o : Option Node). AnsweredBy o l answer own theirs) some w.0) in cc no_))

pub found_at : (d : Domain) (id : List ℕ) (k : ℕ) → Some k ≡ position (λ (a : ListedAp). bytes_eq a.r0kh_id id) d.aps → (k < length d.aps) × (id ≡ r0kh_id d (Ap k))
found_at d id k is =
    let w = at_position (λ (a : ListedAp). bytes_eq a.r0kh_id id) d.aps k is in
    let there : slice_get d.aps k ≡ Some w.0 = w.1 in (
      slice_get_within d.aps k w.0 there,
      sym ((bytes_eq-Decides w.0.r0kh_id id).0 w.2) ∙ sym (ap (λ (o : Option ListedAp). unwrap_or (option_map (λ (a : ListedAp). a.r0kh_id) o) []) there),
    )

append_none : (xs : List Entry) → xs ++ [] ≡ xs
append_none [] = refl
append_none (x ∷ xs) = ap (λ (l : List Entry). x ∷ l) (append_none xs)

-- what later entries leave open, those before tell
pub told_last : (r : Node) (name : List ℕ) (p : Node) (before since : ℕ) (later theirs : List Entry) (x y : Option Bool) → ((past : List Entry) → stands r name p before since (later ++ past) ≡ unwrap_or x (stands r name p before since past)) → x ≡ None
    → ((past : List Entry) → stands r name p before since (theirs ++ past) ≡ unwrap_or y (stands r name p before since past)) → stands r name p before since (later ++ theirs) ≡ unwrap_or y false
told_last r name p before since later theirs x y first none second =
    first theirs ∙ ap (λ (o : Option Bool). unwrap_or o (stands r name p before since theirs)) none ∙ ap (stands r name p before since) (sym (append_none theirs)) ∙ second []

pub id_at : (aps : List ListedAp) (id : List ℕ) (k : ℕ) → Some k ≡ position (λ (a : ListedAp). bytes_eq a.r0kh_id id) aps → id ≡ unwrap_or (option_map (λ (a : ListedAp). a.r0kh_id) (slice_get aps k)) []
id_at aps id k is =
    let w = at_position (λ (a : ListedAp). bytes_eq a.r0kh_id id) aps k is in
    sym ((bytes_eq-Decides w.0.r0kh_id id).0 w.2) ∙ sym (ap (λ (o : Option ListedAp). unwrap_or (option_map (λ (a : ListedAp). a.r0kh_id) o) []) w.1)
