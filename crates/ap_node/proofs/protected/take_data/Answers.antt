use Rattle.std.proofs.Common.{◌≡◌, ◌∙◌, ◌++◌, List, ℕ, Option, Some, None, Result, Ok, Err, refl, sym, ap, subst}
use Rattle.std.specs.Prelude.{IfOk, OnOk}
use Rattle.std.specs.BTreeMap.{BTreeMap}
use Rattle.domain_base.specs.declared.names.Node.{Node}
use Rattle.domain_base.specs.declared.names.Node.TheVariants.{Sta}
use Rattle.ccmp_guard.specs.Held.{Held}
use Rattle.run_journal.specs.declared.acts.Reason.{Reason}
use Rattle.run_journal.specs.declared.acts.Reason.TheVariants as reason
use Rattle.run_journal.specs.declared.acts.Outcome.{Outcome}
use Rattle.run_journal.specs.declared.acts.Outcome.TheVariants.{Refused}
use Rattle.run_journal.specs.declared.acts.Act.{Act}
use Rattle.frame_intake.specs.SealedFields.{SealedFields}
use Rattle.frame_intake.specs.Views.{sealed_fields}
use Rattle.node_base.specs.Events.{seen}
use Rattle.data_frames.specs.Taking.{refusal, IsOpenedUnder, HandsUp, Refuses}
use Rattle.ap_node.specs.Keys.{IsTakenUnder}
use Rattle.ap_node.specs.declared.station.Station.{Station}
use Rattle.ap_node.specs.declared.station.Session.{Session as Kept}
use Rattle.ap_node.specs.State.{station_at, key_in, key_by, rekeyed}
use Rattle.ap_node.proofs.InUse.{the_station, station_as, rekeyed_as, none_as}
use Rattle.ap_node.proofs.AtPlaces.{read_some, read_none, put_there, put_others, put_back, err_back, err_at}
use Rattle.ap_node.proofs.protected.take_data.Goals as goal

-- what is refused leaves the key in use
kept_under : (p : Node) (octets : List ℕ) (f : SealedFields) (k m : Held) (waited waits : List Act) (o : Outcome) (why : Reason) → o ≡ Refused why → IsOpenedUnder p octets f k m (seen waited waits o) → m ≡ k
kept_under p octets f k m waited waits o why is (HandsUp plain opened came are) = absurd (cc (came, is))
kept_under p octets f k m waited waits o why is (Refuses fault stopped same came are) = same

kept_key : (p : Node) (octets : List ℕ) (f : SealedFields) (old new : Option Held) (waited waits : List Act) (o : Outcome) (why : Reason) → o ≡ Refused why → IsTakenUnder p octets f old new (seen waited waits o) → new ≡ old
kept_key p octets f None new waited waits o why is t = t.0
kept_key p octets f (Some k) new waited waits o why is t = t.1 ∙ ap Some (kept_under p octets f k t.0 waited waits o why is t.2)

if_kept : {E : Type 0} (r : Result Outcome E) (p : Node) (octets : List ℕ) (f : SealedFields) (old new : Option Held) (waited waits : List Act) (Q : Type 0) → IfOk r (λ outcome. IsTakenUnder p octets f old new (seen waited waits outcome)) → (new ≡ old → Q)
    → IfOk r (λ outcome. (why : Reason) → outcome ≡ Refused why → Q)
if_kept (Ok o) p octets f old new waited waits Q t then_ = λ why is. then_ (kept_key p octets f old new waited waits o why is t)
if_kept (Err e) p octets f old new waited waits Q t then_ = tt

-- whatever comes of it
ok_at : {E : Type 0} (r : Result Outcome E) (P : Outcome → Type 0) → ((o : Outcome) → P o) → IfOk r P
ok_at (Ok o) P at = at o
ok_at (Err e) P at = tt

-- by other names of the keys
taken_so : {E : Type 0} (r : Result Outcome E) (p : Node) (octets : List ℕ) (f : SealedFields) (o n old new : Option Held) (waited waits : List Act) → o ≡ old → n ≡ new
    → IfOk r (λ outcome. IsTakenUnder p octets f old new (seen waited waits outcome)) → IfOk r (λ outcome. IsTakenUnder p octets f o n (seen waited waits outcome))
taken_so r p octets f o n old new waited waits was now t =
    subst (λ (k : Option Held). IfOk r (λ outcome. IsTakenUnder p octets f k n (seen waited waits outcome))) (sym was)
    (subst (λ (k : Option Held). IfOk r (λ outcome. IsTakenUnder p octets f old k (seen waited waits outcome))) (sym now) t)

-- the session is as it was under that key
same_key : (old new : Option Kept) → new ≡ rekeyed (key_by new) old → key_by new ≡ key_by old → new ≡ old
same_key None new beside same = beside ∙ by (key_by new)
  where
    by : (k : Option Held) → rekeyed k None ≡ None
    by None = refl
    by (Some k) = refl
same_key (Some s) new beside same = beside ∙ ap (λ (k : Option Held). rekeyed k (Some s)) same

-- without a session it is refused
refused_so : {E : Type 0} (r : Result Outcome E) (p : Node) (octets : List ℕ) (f : SealedFields) (waited waits : List Act) → IfOk r (λ o. o ≡ Refused reason.NoKey) → OnOk r (waits ≡ waited ++ refusal p octets reason.NoKey)
    → IfOk r (λ outcome. IsTakenUnder p octets f None None (seen waited waits outcome))
refused_so (Ok o) p octets f waited waits is acts = (refl, is, acts)
refused_so (Err e) p octets f waited waits is acts = tt

pub returns-in-Some-clause-taken : goal.returns-in-Some-clause-taken
returns-in-Some-clause-taken c =
    let found = ap Some c.station_mut.ensures.value ∙ c.in-Some.ensures.value in
    let es = c.args.stations.now.entries in
    let k = c.args.station in
    let x = c.station_mut.result.now in
    let w = the_station x.attempt c.take_under.new.session in
    taken_so c.take_under.result (Sta k) c.args.octets.now (sealed_fields c.args.frame.now) _ _ (key_by x.session) (key_by c.take_under.new.session) c.args.out.now.acts c.take_under.new.out.acts (ap key_in (read_some es k x found))
    (ap key_in (put_there k es (c.get_mut.follows.lender w).entries x w found (c.get_mut.follows.holds w).0)) c.take_under.ensures.taken

pub returns-in-Some-clause-part : goal.returns-in-Some-clause-part
returns-in-Some-clause-part c =
    let found = ap Some c.station_mut.ensures.value ∙ c.in-Some.ensures.value in
    let es = c.args.stations.now.entries in
    let k = c.args.station in
    let x = c.station_mut.result.now in
    let w = the_station x.attempt c.take_under.new.session in
    let now = put_there k es (c.get_mut.follows.lender w).entries x w found (c.get_mut.follows.holds w).0 in
    rekeyed_as _ _ x c.take_under.new.session _ now (read_some es k x found) (c.take_under.ensures.beside ∙ ap (λ (h : Option Held). rekeyed h x.session) (sym (ap key_in now)))

pub returns-in-Some-clause-others : goal.returns-in-Some-clause-others
returns-in-Some-clause-others c =
    let w = the_station c.station_mut.result.now.attempt c.take_under.new.session in
    put_others c.args.station c.args.stations.now.entries (c.get_mut.follows.lender w).entries w (c.get_mut.follows.holds w).0

pub returns-in-Some-clause-refused : goal.returns-in-Some-clause-refused
returns-in-Some-clause-refused c =
    let found = ap Some c.station_mut.ensures.value ∙ c.in-Some.ensures.value in
    let x = c.station_mut.result.now in
    let s = c.take_under.new.session in
    let w = the_station x.attempt s in
    if_kept c.take_under.result (Sta c.args.station) c.args.octets.now (sealed_fields c.args.frame.now) (key_by x.session) (key_by s) c.args.out.now.acts c.take_under.new.out.acts _ c.take_under.ensures.taken
    (λ same. put_back c.args.station c.args.stations.now.entries (c.get_mut.follows.lender w).entries x w found (c.get_mut.follows.holds w).0 (station_as x s (same_key x.session s c.take_under.ensures.beside same)))

pub returns-in-Some-clause-same : goal.returns-in-Some-clause-same
returns-in-Some-clause-same c =
    let found = ap Some c.station_mut.ensures.value ∙ c.in-Some.ensures.value in
    let x = c.station_mut.result.now in
    let w = the_station x.attempt c.take_under.new.session in
    err_back c.take_under.result _ _ (λ same. put_back c.args.station c.args.stations.now.entries (c.get_mut.follows.lender w).entries x w found (c.get_mut.follows.holds w).0 (station_as x _ same)) c.take_under.ensures.same

pub returns-in-None-clause-taken : goal.returns-in-None-clause-taken
returns-in-None-clause-taken c =
    let k = c.args.station in
    let none = read_none c.args.stations.now.entries k c.in-None.ensures.value in
    taken_so c.refuse.result (Sta k) c.args.octets.now (sealed_fields c.args.frame.now) _ _ None None c.args.out.now.acts c.refuse.new.out.acts (ap key_in none)
    (ap key_in (ap (λ (m : BTreeMap ℕ Station). station_at m.entries k) c.get_mut.follows.holds-at-none ∙ none)) (refused_so c.refuse.result (Sta k) c.args.octets.now (sealed_fields c.args.frame.now) _ _ c.refuse.ensures.outcome c.refuse.ensures.acts)

pub returns-in-None-clause-part : goal.returns-in-None-clause-part
returns-in-None-clause-part c =
    let k = c.args.station in
    let none = read_none c.args.stations.now.entries k c.in-None.ensures.value in
    none_as _ _ _ (ap (λ (m : BTreeMap ℕ Station). station_at m.entries k) c.get_mut.follows.holds-at-none ∙ none) none

pub returns-in-None-clause-others : goal.returns-in-None-clause-others
returns-in-None-clause-others c k other = ap (λ (m : BTreeMap ℕ Station). station_at m.entries k) c.get_mut.follows.holds-at-none

pub returns-in-None-clause-refused : goal.returns-in-None-clause-refused
returns-in-None-clause-refused c = ok_at c.refuse.result _ (λ o why is. ap (λ (m : BTreeMap ℕ Station). m.entries) c.get_mut.follows.holds-at-none)

pub returns-in-None-clause-same : goal.returns-in-None-clause-same
returns-in-None-clause-same c = err_at c.refuse.result _ (ap (λ (m : BTreeMap ℕ Station). m.entries) c.get_mut.follows.holds-at-none)
