use Rattle.std.proofs.Common.{◌≡◌, List, ℕ, Option, Some, Result, Ok, Err, refl, sym, ap, subst, ◌∙◌}
use Rattle.std.specs.Prelude.{IfOk}
use Rattle.domain_base.specs.declared.names.Node.{Node}
use Rattle.domain_base.specs.declared.names.Node.TheVariants.{Sta}
use Rattle.ccmp_guard.specs.Held.{Held}
use Rattle.run_journal.specs.declared.acts.Outcome.{Outcome}
use Rattle.run_journal.specs.declared.acts.Act.{Act}
use Rattle.frame_intake.specs.SealedFields.{SealedFields}
use Rattle.frame_intake.specs.Views.{sealed_fields}
use Rattle.node_base.specs.Events.{seen}
use Rattle.data_frames.specs.Taking.{IsOpenedUnder}
use Rattle.ap_node.specs.Keys.{IsTakenUnder}
use Rattle.ap_node.specs.declared.station.Session.{Session as Kept}
use Rattle.ap_node.specs.State.{key_by, rekeyed}
use Rattle.ap_node.proofs.InUse.{rekeyed_same}
use Rattle.ap_node.proofs.AtPlaces.{err_back}
use Rattle.ap_node.proofs.protected.take_under.Goals as goal

under : {E : Type 0} (r : Result Outcome E) (p : Node) (octets : List ℕ) (f : SealedFields) (old : Option Kept) (s : Kept) (m : Held) (waited waits : List Act) → old ≡ Some s
    → IfOk r (λ outcome. IsOpenedUnder p octets f s.key m (seen waited waits outcome)) → IfOk r (λ outcome. IsTakenUnder p octets f (key_by old) (Some m) (seen waited waits outcome))
under (Ok o) p octets f old s m waited waits is x = subst (λ (z : Option Kept). IsTakenUnder p octets f (key_by z) (Some m) (seen waited waits o)) (sym is) (m, refl, x)
under (Err e) p octets f old s m waited waits is x = tt

abbrev the_session : Kept → Held → Kept
the_session s k = record { part = s.part; key = k; came_of = s.came_of }

pub returns-in-Some-clause-taken : goal.returns-in-Some-clause-taken
returns-in-Some-clause-taken c =
    under c.take.result (Sta c.args.station) c.args.octets.now (sealed_fields c.args.frame.now) c.args.session.now c.in-Some.session c.take.new.self c.args.out.now.acts c.take.new.out.acts c.in-Some.is c.take.ensures.taken

pub returns-in-Some-clause-beside : goal.returns-in-Some-clause-beside
returns-in-Some-clause-beside c = sym (ap (λ (o : Option Kept). rekeyed (Some c.take.new.self) o) c.in-Some.is)

pub returns-in-Some-clause-same : goal.returns-in-Some-clause-same
returns-in-Some-clause-same c = err_back c.take.result _ _ (λ same. ap (λ (k : Held). Some (the_session c.in-Some.session k)) same ∙ sym c.in-Some.is) c.take.ensures.same

pub returns-in-None-clause-beside : goal.returns-in-None-clause-beside
returns-in-None-clause-beside c = rekeyed_same c.args.session.now
