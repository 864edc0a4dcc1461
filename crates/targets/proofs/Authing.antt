-- An authentication request and the fast transitions of an access point with a station.
use Rattle.std.proofs.Common.{◌≡◌, ◌∙◌, ℕ, Bool, true, false, cond, List, [], ◌∷◌, ◌++◌, Option, Some, None, refl, sym, ap, subst}
use Rattle.std.specs.Prelude.{◌==◌, take, is_some}
use Rattle.std.specs.List.{AllByRecursion}
use Rattle.domain_base.specs.declared.names.Node.{Node}
use Rattle.domain_base.specs.declared.names.Node.TheVariants.{Ap, Sta}
use Rattle.key_hierarchy.specs.declared.answers.PullAnswer.{PullAnswer}
use Rattle.rsn_elements.specs.Elements.{ElementFields}
use Rattle.run_journal.specs.declared.domain.Domain.{Domain}
use Rattle.run_journal.specs.declared.acts.Kind.TheVariants as kind
use Rattle.run_journal.specs.declared.acts.Outcome.{Outcome}
use Rattle.run_journal.specs.declared.acts.Act.{Act}
use Rattle.run_journal.specs.declared.acts.Act.TheVariants.{Took}
use Rattle.run_journal.specs.declared.reply.Reply.{Reply}
use Rattle.run_journal.specs.declared.reply.Keyed.{Keyed}
use Rattle.run_journal.specs.Replies.{IsWhole}
use Rattle.run_journal.specs.Questions.{attempt, add}
use Rattle.domain_rules.specs.Network.{Root}
use Rattle.domain_rules.specs.Closing.{close_attempt}
use Rattle.domain_rules.specs.FastTransition.{single}
use Rattle.domain_rules.specs.Here.{here}
use Rattle.domain_rules.specs.Replies.{derived_acts}
use Rattle.domain_rules.specs.Rows.{TakeRow}
use Rattle.domain_rules.specs.TransitionKeys.{Asked, asked}
use Rattle.domain_rules.specs.TransitionRows.{looked_by, looked_for}
use Rattle.ft_exchange.specs.State.{TargetState}
use Rattle.ft_exchange.specs.Stands.{PendingStands}
use Rattle.ft_exchange.specs.TargetSteps.{root_asked, AuthSteps, HasBegun, IsAuthTaken}
use Rattle.ft_exchange.specs.Told.{Came, came, sent_octets, transition_sent, begun_acts, auth_request_acts}
use Rattle.ft_exchange.proofs.TargetStanding.{Passes, took_passes, sent_passes, looked_passes, Leaves}
use Rattle.targets.specs.declared.moves.Moves.{Moves}
use Rattle.targets.specs.declared.taken.Taken.{Taken}
use Rattle.targets.specs.Stands.{HeldStands, IsOther}
use Rattle.targets.specs.Steps.{Request, AuthMoves, AuthTaken}
use Rattle.targets.proofs.Passing.{held_stands_add, other_add, all_leave, all_pass, pass_leave}

-- ---- its acts

pub looked_pass : (p q : Node) (x : Option Asked) (answer : Option PullAnswer) → AllByRecursion (Passes p) (looked_for q x answer)
looked_pass p q None answer = tt
looked_pass p q (Some a) answer = by (single a.names) answer
  where
    by : (name : Option (List ℕ)) (answer : Option PullAnswer) → AllByRecursion (Passes p) (looked_by q a name answer)
    by None answer = tt
    by (Some name) None = tt
    by (Some name) (Some y) = (looked_passes p a.r0kh_id name q y, tt)

pub sent_pass : (d : Domain) (n q p : Node) (r : Reply) → AllByRecursion (Passes p) (transition_sent d n q r)
sent_pass d n q p r = by (r.len == 0)
  where
    by : (b : Bool) → AllByRecursion (Passes p) (cond b [] (sent_octets d n q r (take r.len r.octets)))
    by true = tt
    by false = (sent_passes p q r.kind _ _, tt)

closing_leaves : (p q : Node) (part : Option (List Act)) → AllByRecursion (Leaves p) (close_attempt q part)
closing_leaves p q None = tt
closing_leaves p q (Some part) = (record { closes_none = refl; finishes_none = refl }, tt)

begun_leaves : (p q : Node) (part : Option (List Act)) (y : Option Keyed) → AllByRecursion (Leaves p) (begun_acts q part y)
begun_leaves p q part None = tt
begun_leaves p q part (Some y) =
    all_leave p (close_attempt q part) _ (closing_leaves p q part) (record { closes_none = refl; finishes_none = refl }, (record { closes_none = refl; finishes_none = refl }, tt))

derived_leaves : (d : Domain) (root : Root) (n q p : Node) (y : Option Keyed) → AllByRecursion (Leaves p) (derived_acts d root n q y)
derived_leaves d root n q p None = tt
derived_leaves d root n q p (Some y) = (record { closes_none = refl; finishes_none = refl }, tt)

-- the session goes on
pub auth_leaves : (d : Domain) (root : Root) (n q p : Node) (part : Option (List Act)) (t : Came) (r : Reply) → AllByRecursion (Leaves p) (auth_request_acts d root n q part t r)
auth_leaves d root n q p part t r = (
  record { closes_none = refl; finishes_none = refl },
  all_leave p (looks ++ begins ++ derives) (transition_sent d n q r)
      (all_leave p (looks ++ begins) derives (all_leave p looks begins (pass_leave p looks (looked_pass p q (asked t.fields) r.looked)) (begun_leaves p q part r.derived)) (derived_leaves d root n q p r.derived))
      (pass_leave p (transition_sent d n q r) (sent_pass d n q p r)),
)
  where
    looks : List Act
    looks = looked_for q (asked t.fields) r.looked

    begins : List Act
    begins = begun_acts q part r.derived

    derives : List Act
    derives = derived_acts d root n q r.derived

-- where no key is derived the attempt goes on too
abbrev quiet_acts : Domain → Root → Node → Node → Option (List Act) → Came → Reply → Option Keyed → List Act
quiet_acts d root n p part t r y =
    Took (Some p) t.octets kind.FtReq t.outcome None ∷ looked_for p (asked t.fields) r.looked ++ begun_acts p part y ++ derived_acts d root n p y ++ transition_sent d n p r

quiet_pass : (d : Domain) (root : Root) (n q p : Node) (part : Option (List Act)) (t : Came) (r : Reply) → AllByRecursion (Passes p) (quiet_acts d root n q part t r None)
quiet_pass d root n q p part t r = (
  took_passes p (Some q) t.octets kind.FtReq t.outcome None,
  all_pass p (looks ++ [] ++ []) (transition_sent d n q r) (all_pass p (looks ++ []) [] (all_pass p looks [] (looked_pass p q (asked t.fields) r.looked) tt) tt) (sent_pass d n q p r),
)
  where
    looks : List Act
    looks = looked_for q (asked t.fields) r.looked

auth_other : (d : Domain) (root : Root) (n p : Node) (part : Option (List Act)) (t : Came) (r : Reply) (old new : Option TargetState) (h : List Act) (y : Option Keyed) → r.derived ≡ y → HasBegun y old new → IsOther old (attempt p h)
    → IsOther new (attempt p (add (quiet_acts d root n p part t r y) h))
auth_other d root n p part t r old new h None none same at =
    subst (λ (o : Option TargetState). IsOther o (attempt p (add (quiet_acts d root n p part t r None) h))) (sym same) (other_add p old (quiet_acts d root n p part t r None) h (quiet_pass d root n p p part t r) at)
auth_other d root n p part t r old new h (Some y) some begun at = subst (λ (o : Option TargetState). IsOther o (attempt p (add (quiet_acts d root n p part t r (Some y)) h))) (sym begun.1) tt

-- ---- they do not depend on the attempt that there was, but on whether there was one

abbrev pub some_part : Bool → Option (List Act)
some_part true = Some []
some_part false = None

pub some_part_is : (b : Bool) → is_some (some_part b) ≡ b
some_part_is true = refl
some_part_is false = refl

begun_any : (p : Node) (had : Bool) (part : Option (List Act)) (y : Option Keyed) → is_some part ≡ had → begun_acts p (some_part had) y ≡ begun_acts p part y
begun_any p had part None is = refl
begun_any p true None (Some y) is = absurd cc
begun_any p true (Some part) (Some y) is = refl
begun_any p false None (Some y) is = refl
begun_any p false (Some part) (Some y) is = absurd cc

pub says_any : (d : Domain) (root : Root) (n p : Node) (had : Bool) (t : Came) (r : Reply) (part : Option (List Act)) → is_some part ≡ had → auth_request_acts d root n p (some_part had) t r ≡ auth_request_acts d root n p part t r
says_any d root n p had t r part is =
    ap (λ (l : List Act). Took (Some p) t.octets kind.FtReq t.outcome None ∷ looked_for p (asked t.fields) r.looked ++ l ++ derived_acts d root n p r.derived ++ transition_sent d n p r) (begun_any p had part r.derived is)

-- ---- what it does

abbrev pub the_moves : Option TargetState → Option TargetState → Moves
the_moves x y = record { pending = x; held = y }

pub same_moves : (a b : Moves) → a.pending ≡ b.pending → a.held ≡ b.held → a ≡ b
same_moves a b pending held = ap (λ (x : Option TargetState). the_moves x a.held) pending ∙ ap (λ (x : Option TargetState). the_moves b.pending x) held

pub auth_moves : (q : Request) (drawn_ : Option (List ℕ)) (had : Bool) (old new : Moves) (t : Taken) (r : Reply) → t.key ≡ r.derived → new.held ≡ old.held
    → IsAuthTaken q.domain q.ap q.sta q.fields drawn_ old.pending new.pending t.outcome r
    → AuthMoves q drawn_ had old new t r (auth_request_acts q.domain (root_asked q.domain (Sta q.sta) (asked q.fields)) (Ap q.ap) (Sta q.sta) (some_part had) (came q.octets q.fields t.outcome) r)
auth_moves q drawn_ had old new t r key held f = record {
  key = key;
  says = λ part is. says_any d root n p had frame r part is;
  held = held;
  begun = f.begun;
  refused = λ why is. same_moves new old (f.refused why is) held;
  steps = λ first b h has from is had_is drawn.
      (let s : AuthSteps (here d first n) p q.octets (auth_request_acts d root n p (attempt p h) frame r) new.pending h = f.steps first q.octets b h has.pending from is drawn in
      let acts = sym (says_any d root n p had frame r (attempt p h) had_is) in
      record {
        adds = subst (λ (l : List Act). TakeRow (here d first n) h q.octets l) acts s.adds;
        stands = record {
          pending = subst (λ (l : List Act). PendingStands d n p new.pending (add l h)) acts s.stands;
          held = subst (λ (o : Option TargetState). HeldStands d n p o (add (auth_request_acts d root n p (some_part had) frame r) h)) (sym held)
              (held_stands_add d n p old.held (auth_request_acts d root n p (some_part had) frame r) h (auth_leaves d root n p p (some_part had) frame r) has.held);
          other = auth_other d root n p (some_part had) frame r old.pending new.pending h r.derived refl f.begun has.other;
        };
      });
}
  where
    d : Domain
    d = q.domain

    n : Node
    n = Ap q.ap

    p : Node
    p = Sta q.sta

    root : Root
    root = root_asked q.domain (Sta q.sta) (asked q.fields)

    frame : Came
    frame = came q.octets q.fields t.outcome

-- what came of it is told by that reply
pub auth_taken : (q : Request) (drawn_ : Option (List ℕ)) (had : Bool) (Looks : Option PullAnswer → Type 0) (before mid after : List Act) (old new : Moves) (o : Outcome) (t : Taken) (r : Reply) → t.outcome ≡ o → t.key ≡ r.derived → mid ≡ before
    → after ≡ mid ++ auth_request_acts q.domain (root_asked q.domain (Sta q.sta) (asked q.fields)) (Ap q.ap) (Sta q.sta) (some_part had) (came q.octets q.fields t.outcome) r
    → new.held ≡ old.held → IsAuthTaken q.domain q.ap q.sta q.fields drawn_ old.pending new.pending o r → Looks r.looked → AuthTaken q drawn_ had Looks before after old new t
auth_taken q drawn_ had Looks before mid after old new o t r outcome key same adds held f looks = record {
  reply = r;
  acts = acts;
  adds = adds ∙ ap (λ (l : List Act). l ++ acts) same;
  moves = auth_moves q drawn_ had old new t r key held (subst (λ (x : Outcome). IsAuthTaken q.domain q.ap q.sta q.fields drawn_ old.pending new.pending x r) (sym outcome) f);
  looks = looks;
}
  where
    acts : List Act
    acts = auth_request_acts q.domain (root_asked q.domain (Sta q.sta) (asked q.fields)) (Ap q.ap) (Sta q.sta) (some_part had) (came q.octets q.fields t.outcome) r

-- the reply is whole
pub auth_whole : (d : Domain) (a sta : ℕ) (e : ElementFields) (v : Option (List ℕ)) (old new : Option TargetState) (o : Outcome) (r : Reply) → IsAuthTaken d a sta e v old new o r → IsWhole r
auth_whole d a sta e v old new o r f = f.whole
