-- A reassociation request, at the place of its station.
use Rattle.std.proofs.Common.{◌≡◌, ◌∙◌, Bool, false, List, Option, None, Result, Ok, Err, refl, sym, ap, subst}
use Rattle.std.specs.Prelude.{IfOk}
use Rattle.domain_base.specs.declared.names.Node.{Node}
use Rattle.run_journal.specs.declared.domain.Domain.{Domain}
use Rattle.run_journal.specs.declared.acts.Act.{Act}
use Rattle.run_journal.specs.declared.acts.Outcome.{Outcome}
use Rattle.run_journal.specs.declared.acts.Outcome.TheVariants.{Refused}
use Rattle.run_journal.specs.declared.acts.Reason.{Reason}
use Rattle.run_journal.specs.declared.reply.Keyed.{Keyed}
use Rattle.group_key.specs.declared.news.News.{News}
use Rattle.targets.specs.declared.moves.Moves.{Moves}
use Rattle.targets.specs.declared.taken.Taken.{Taken}
use Rattle.targets.specs.State.{no_moves}
use Rattle.targets.specs.Steps.{Request, ReassocTaken}
use Rattle.ap_node.specs.declared.station.Station.{Station}
use Rattle.ap_node.specs.State.{no_station, has_session, moves_in, with_moves, without_moves}
use Rattle.ap_node.specs.Moving.{begun_key, IsPlaced}
use Rattle.ap_node.proofs.Transits.{placed_same}

-- by another name of the newest group keys
pub taken_so : (q : Request) (n newest : News) (had : Bool) (before after : List Act) (old new : Moves) (t : Taken) → n ≡ newest → ReassocTaken q n had before after old new t → ReassocTaken q newest had before after old new t
taken_so q n newest had before after old new t is w = subst (λ (z : News). ReassocTaken q z had before after old new t) is w

pub if_taken_so : (q : Request) (n newest : News) (had : Bool) (before after : List Act) {E : Type 0} (r : Result Taken E) (old new : Moves) → n ≡ newest
    → IfOk r (λ t. ReassocTaken q n had before after old new t) → IfOk r (λ t. ReassocTaken q newest had before after old new t)
if_taken_so q n newest had before after (Ok t) old new is w = taken_so q n newest had before after old new t is w
if_taken_so q n newest had before after (Err e) old new is w = tt

-- it takes the place from old to new
abbrev pub IsMovedAt : Request → News → List Act → List Act → Domain → Node → Node → Station → Station → Taken → Type 0
IsMovedAt q newest before after d n p old new t =
    (m : Moves) × ReassocTaken q newest (has_session old) before after (moves_in old) m t × IsPlaced d n p (begun_key t.outcome t.key) m old new

pub moved_so : (q : Request) (newest : News) (before after : List Act) (d : Domain) (n p : Node) (x z : Station) (t : Taken) (had : Bool) (was m : Moves) (key : Option Keyed) → had ≡ has_session x → was ≡ moves_in x → key ≡ begun_key t.outcome t.key
    → ReassocTaken q newest had before after was m t → IsPlaced d n p key m x z → IsMovedAt q newest before after d n p x z t
moved_so q newest before after d n p x z t had was m key had_is was_is key_is w placed = (
  m,
  subst (λ (b : Bool). ReassocTaken q newest b before after (moves_in x) m t) had_is (subst (λ (o : Moves). ReassocTaken q newest had before after o m t) was_is w),
  subst (λ (k : Option Keyed). IsPlaced d n p k m x z) key_is placed,
)

-- refused, it changes nothing
pub refused_so : (q : Request) (newest : News) (before after : List Act) (d : Domain) (n p : Node) (x z : Station) (t : Taken) → IsMovedAt q newest before after d n p x z t → (why : Reason) → t.outcome ≡ Refused why → z ≡ x
refused_so q newest before after d n p x z t w why is =
    placed_same w.0 x z (w.1.moves.refused why is) (subst (λ (o : Outcome). IsPlaced d n p (begun_key o t.key) w.0 x z) is w.2)

-- where memory runs out the fast transitions are put back
pub back_so : (x y z : Station) (was m : Moves) → was ≡ moves_in x → y ≡ without_moves x → m ≡ was → z ≡ with_moves m y → z ≡ x
back_so x y z was m was_is out same is = placed_same m x z (same ∙ was_is) (is ∙ ap (with_moves m) out)

-- by other names of the place
pub moved_at : (q : Request) (newest : News) (before after : List Act) (d : Domain) (n p : Node) {E : Type 0} (r : Result Taken E) (o z x w : Station) → o ≡ x → z ≡ w
    → IfOk r (λ t. IsMovedAt q newest before after d n p x w t) → IfOk r (λ t. IsMovedAt q newest before after d n p o z t)
moved_at q newest before after d n p r o z x w was now is =
    subst (λ (s : Station). IfOk r (λ t. IsMovedAt q newest before after d n p s z t)) (sym was)
    (subst (λ (s : Station). IfOk r (λ t. IsMovedAt q newest before after d n p x s t)) (sym now) is)

-- without a place
pub moved_none : (q : Request) (newest : News) (before after : List Act) (d : Domain) (n p : Node) {E : Type 0} (r : Result Taken E) → IfOk r (λ t. ReassocTaken q newest false before after no_moves no_moves t × (t.key ≡ None))
    → IfOk r (λ t. IsMovedAt q newest before after d n p no_station no_station t)
moved_none q newest before after d n p (Ok t) w = (no_moves, w.0, subst (λ (k : Option Keyed). IsPlaced d n p k no_moves no_station no_station) (sym (none_by t.outcome)) refl)
  where
    none_by : (o : Outcome) → begun_key o t.key ≡ None
    none_by (Refused why) = refl
    none_by _ = w.1
moved_none q newest before after d n p (Err e) w = tt

pub no_moves_so : (q : Request) (newest : News) (before after : List Act) {E : Type 0} (r : Result Taken E) (m : Moves) → IfOk r (λ t. ReassocTaken q newest false before after no_moves m t) → IfOk r (λ t. (t.key ≡ None) × (m ≡ no_moves))
    → IfOk r (λ t. ReassocTaken q newest false before after no_moves no_moves t × (t.key ≡ None))
no_moves_so q newest before after (Ok t) m w none = (subst (λ (n : Moves). ReassocTaken q newest false before after no_moves n t) none.1 w, none.0)
no_moves_so q newest before after (Err e) m w none = tt

-- a refusal leaves the places as they are
pub refused_at : {E : Type 0} (r : Result Taken E) (P Q : Type 0) → (P → Q) → IfOk r (λ t. (why : Reason) → t.outcome ≡ Refused why → P) → IfOk r (λ t. (why : Reason) → t.outcome ≡ Refused why → Q)
refused_at (Ok t) P Q then_ at = λ why is. then_ (at why is)
refused_at (Err e) P Q then_ at = tt

pub always_at : {E : Type 0} (r : Result Taken E) (Q : Type 0) → Q → IfOk r (λ t. (why : Reason) → t.outcome ≡ Refused why → Q)
always_at (Ok t) Q at = λ why is. at
always_at (Err e) Q at = tt
