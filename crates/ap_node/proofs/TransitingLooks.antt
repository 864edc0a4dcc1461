-- Which of the acts of requests of fast transition tell of a key holder that was asked.
use Rattle.std.specs.Prelude.{◌==◌, is_some}
use Rattle.std.proofs.Common.{◌≡◌, ◌∙◌, ℕ, ◌<◌, Bool, true, false, cond, List, [], ◌∷◌, ◌++◌, length, take, Option, Some, None, refl, sym, ap, subst, inr}
use Rattle.std.proofs.lemmas.List.{append_cancel_left}
use Rattle.std.specs.List.{AllByRecursion}
use Rattle.domain_base.specs.declared.names.Node.{Node}
use Rattle.domain_base.specs.declared.names.Node.TheVariants.{Ap, Sta}
use Rattle.key_hierarchy.specs.declared.answers.PullAnswer.{PullAnswer}
use Rattle.rsn_elements.specs.Elements.{ElementFields}
use Rattle.run_journal.specs.declared.domain.Domain.{Domain}
use Rattle.run_journal.specs.declared.acts.Act.{Act}
use Rattle.run_journal.specs.declared.acts.Act.TheVariants.{Looked}
use Rattle.run_journal.specs.declared.reply.Reply.{Reply}
use Rattle.run_journal.specs.declared.reply.Keyed.{Keyed}
use Rattle.domain_rules.specs.Network.{Root}
use Rattle.domain_rules.specs.FastTransition.{single}
use Rattle.domain_rules.specs.Replies.{derived_acts, replaced_acts, installed_acts, finished_acts}
use Rattle.domain_rules.specs.TransitionKeys.{Asked, asked}
use Rattle.domain_rules.specs.TransitionRows.{looked_by, looked_for}
use Rattle.act_memory.proofs.RepliedActs.{all_joined}
use Rattle.held_rows.specs.Looks.{IsNoLook, NoLooks, IsLookOf, AreLooked}
use Rattle.ft_exchange.specs.Told.{Came, came, sent_octets, transition_sent, begun_acts, auth_request_acts, reassoc_request_acts}
use Rattle.ft_exchange.specs.TargetSteps.{LooksBy}
use Rattle.targets.specs.declared.moves.Moves.{Moves}
use Rattle.targets.specs.declared.taken.Taken.{Taken}
use Rattle.targets.specs.Steps.{Request, AuthTaken}
use Rattle.ap_node.proofs.TransitingKeys.{auth_rows}

-- ---- acts that tell of none

sent_no_looks : (d : Domain) (n p : Node) (r : Reply) → NoLooks (transition_sent d n p r)
sent_no_looks d n p r = by (r.len == 0)
  where
    by : (b : Bool) → NoLooks (cond b [] (sent_octets d n p r (take r.len r.octets)))
    by true = tt
    by false = (tt, tt)

begun_no_looks : (p : Node) (part : Option (List Act)) (y : Option Keyed) → NoLooks (begun_acts p part y)
begun_no_looks p part None = tt
begun_no_looks p None (Some y) = (tt, (tt, tt))
begun_no_looks p (Some old) (Some y) = (tt, (tt, (tt, tt)))

derived_no_looks : (d : Domain) (root : Root) (n p : Node) (y : Option Keyed) → NoLooks (derived_acts d root n p y)
derived_no_looks d root n p None = tt
derived_no_looks d root n p (Some y) = (tt, tt)

replaced_no_looks : (p : Node) (had : Bool) (y : Option Keyed) → NoLooks (replaced_acts p had y)
replaced_no_looks p true None = tt
replaced_no_looks p true (Some y) = (tt, tt)
replaced_no_looks p false y = tt

installed_no_looks : (d : Domain) (root : Root) (n p : Node) (y : Option Keyed) → NoLooks (installed_acts d root n p y)
installed_no_looks d root n p None = tt
installed_no_looks d root n p (Some y) = (tt, tt)

finished_no_looks : (d : Domain) (root : Root) (n p : Node) (y : Option Keyed) → NoLooks (finished_acts d root n p y)
finished_no_looks d root n p None = tt
finished_no_looks d root n p (Some y) = (tt, tt)

-- a reassociation request asks none
pub reassoc_no_looks : (d : Domain) (root : Root) (n p : Node) (had : Bool) (t : Came) (r : Reply) → NoLooks (reassoc_request_acts d root n p had t r)
reassoc_no_looks d root n p had t r = (
  tt,
  all_joined IsNoLook _ (transition_sent d n p r)
      (all_joined IsNoLook _ (finished_acts d root n p r.installed)
      (all_joined IsNoLook (replaced_acts p had r.installed) (installed_acts d root n p r.installed) (replaced_no_looks p had r.installed) (installed_no_looks d root n p r.installed))
      (finished_no_looks d root n p r.installed))
      (sent_no_looks d n p r),
)

looked_none : (p : Node) (x : Option Asked) → NoLooks (looked_for p x None)
looked_none p None = tt
looked_none p (Some a) = by (single a.names)
  where
    by : (name : Option (List ℕ)) → NoLooks (looked_by p a name None)
    by None = tt
    by (Some name) = tt

-- ---- the look of an authentication request

module _ (Answered : List ℕ → List ℕ → ℕ → PullAnswer → Type 0) (d : Domain) where
  no_look : (e : Act) → IsNoLook e → IsLookOf Answered d e
  no_look (Looked id name p answer) none = absurd none
  no_look _ none = tt

  no_looks : (g : List Act) → NoLooks g → AllByRecursion (IsLookOf Answered d) g
  no_looks [] all = tt
  no_looks (e ∷ g) all = (no_look e all.0, no_looks g all.1)

  -- it is as it was answered
  looked_of : (sta : ℕ) (x : Option Asked) (answer : PullAnswer) → sta < length d.stas → ((a : Asked) (name : List ℕ) → x ≡ Some a → single a.names ≡ Some name → Answered a.r0kh_id name sta answer)
      → AllByRecursion (IsLookOf Answered d) (looked_for (Sta sta) x (Some answer))
  looked_of sta None answer low told = tt
  looked_of sta (Some a) answer low told = by (single a.names) (λ name. told a name refl)
    where
      by : (name : Option (List ℕ)) → ((m : List ℕ) → name ≡ Some m → Answered a.r0kh_id m sta answer) → AllByRecursion (IsLookOf Answered d) (looked_by (Sta sta) a name (Some answer))
      by None told = tt
      by (Some name) told = ((sta, low, refl, told name refl), tt)

  told_by : (sta : ℕ) (x : Option Asked) (answer : PullAnswer) (b a : Asked) (n name : List ℕ) → x ≡ Some b → single b.names ≡ Some n → Answered b.r0kh_id n sta answer → x ≡ Some a → single a.names ≡ Some name → Answered a.r0kh_id name sta answer
  told_by sta x answer b a n name is named said asks single_is =
      let same : b ≡ a = cc (is, asks) in
      let at : single b.names ≡ Some name = ap (λ (z : Asked). single z.names) same ∙ single_is in
      let same_name : n ≡ name = cc (named, at) in
      subst (λ (z : Asked). Answered z.r0kh_id name sta answer) same (subst (λ (m : List ℕ). Answered b.r0kh_id m sta answer) same_name said)

  looked_as : (Same : Type 0) (sta : ℕ) (t : Came) (answer : Option PullAnswer) → sta < length d.stas → LooksBy t.fields (λ id name said. Answered id name sta said) Same answer
      → AllByRecursion (IsLookOf Answered d) (looked_for (Sta sta) (asked t.fields) answer)
  looked_as Same sta t None low looks = no_looks (looked_for (Sta sta) (asked t.fields) None) (looked_none (Sta sta) (asked t.fields))
  looked_as Same sta t (Some answer) low looks =
      looked_of sta (asked t.fields) answer low (λ a name is named. told_by sta (asked t.fields) answer looks.a a looks.name name looks.asks looks.named looks.answered is named)

  pub auth_looks : (Same : Type 0) (root : Root) (n : Node) (sta : ℕ) (part : Option (List Act)) (t : Came) (r : Reply) → sta < length d.stas → LooksBy t.fields (λ id name said. Answered id name sta said) Same r.looked
      → AllByRecursion (IsLookOf Answered d) (auth_request_acts d root n (Sta sta) part t r)
  auth_looks Same root n sta part t r low looks = (
    tt,
    all_joined (IsLookOf Answered d) _ (transition_sent d n p r)
        (all_joined (IsLookOf Answered d) _ (derived_acts d root n p r.derived)
        (all_joined (IsLookOf Answered d) (looked_for p (asked t.fields) r.looked) (begun_acts p part r.derived) (looked_as Same sta t r.looked low looks) (no_looks (begun_acts p part r.derived) (begun_no_looks p part r.derived)))
        (no_looks (derived_acts d root n p r.derived) (derived_no_looks d root n p r.derived)))
        (no_looks (transition_sent d n p r) (sent_no_looks d n p r)),
  )
    where
      p : Node
      p = Sta sta

  -- and no row is put or revoked
  pub auth_looked : (Same : Type 0) (root : Root) (n : Node) (sta : ℕ) (part : Option (List Act)) (t : Came) (r : Reply) → sta < length d.stas → LooksBy t.fields (λ id name said. Answered id name sta said) Same r.looked
      → AreLooked Answered d (auth_request_acts d root n (Sta sta) part t r)
  auth_looked Same root n sta part t r low looks = inr (auth_rows d root n (Sta sta) part t r, auth_looks Same root n sta part t r low looks)

-- ---- where no look is told of

part_of : (had : Bool) → (part : Option (List Act)) × (is_some part ≡ had)
part_of true = (Some [], refl)
part_of false = (None, refl)

all_first : (P : Act → Type 0) (xs ys : List Act) → AllByRecursion P (xs ++ ys) → AllByRecursion P xs
all_first P [] ys all = tt
all_first P (x ∷ xs) ys all = (all.0, all_first P xs ys all.1)

-- none was made
unlooked : (Same : Type 0) (Answered : List ℕ → List ℕ → PullAnswer → Type 0) (p : Node) (e : ElementFields) (o : Option PullAnswer) → LooksBy e Answered Same o → NoLooks (looked_for p (asked e) o) → Same
unlooked Same Answered p e None looks none = looks
unlooked Same Answered p e (Some answer) looks none =
    let at : NoLooks (looked_by p looks.a (single looks.a.names) (Some answer)) = subst (λ (x : Option Asked). NoLooks (looked_for p x (Some answer))) looks.asks none in
    let here : NoLooks (looked_by p looks.a (Some looks.name) (Some answer)) = subst (λ (x : Option (List ℕ)). NoLooks (looked_by p looks.a x (Some answer))) looks.named at in
    absurd here.0

auth_unlooked : (Same : Type 0) (Answered : List ℕ → List ℕ → PullAnswer → Type 0) (d : Domain) (root : Root) (n p : Node) (part : Option (List Act)) (t : Came) (r : Reply) → LooksBy t.fields Answered Same r.looked
    → NoLooks (auth_request_acts d root n p part t r) → Same
auth_unlooked Same Answered d root n p part t r looks none =
    let looked = looked_for p (asked t.fields) r.looked in
    let begun = begun_acts p part r.derived in
    let derived = derived_acts d root n p r.derived in
    unlooked Same Answered p t.fields r.looked looks
    (all_first IsNoLook looked begun (all_first IsNoLook (looked ++ begun) derived (all_first IsNoLook ((looked ++ begun) ++ derived) (transition_sent d n p r) none.1)))

pub taken_unlooked : (q : Request) (anonce : Option (List ℕ)) (had : Bool) (Same : Type 0) (Answered : List ℕ → List ℕ → PullAnswer → Type 0) (before after : List Act) (old new : Moves) (t : Taken)
    → AuthTaken q anonce had (LooksBy q.fields Answered Same) before after old new t → (g : List Act) → after ≡ before ++ g → NoLooks g → Same
taken_unlooked q anonce had Same Answered before after old new t x g is none =
    let part = part_of had in
    let same : x.acts ≡ g = append_cancel_left before x.acts g (sym x.adds ∙ is) in
    auth_unlooked Same Answered q.domain _ (Ap q.ap) (Sta q.sta) part.0 (came q.octets q.fields t.outcome) x.reply x.looks
    (subst NoLooks (sym same ∙ x.moves.says part.0 part.1) none)
