use Rattle.std.proofs.Common.{rules, refl, ◌≡◌, arith, sym, subst, ◌∙◌, List}
use Rattle.std.proofs.lemmas.List.{map-id}
use Rattle.std.proofs.lemmas.Iterator.Adapters.{YieldsList-from_vec}
use Rattle.std.proofs.lemmas.Iterator.Consumers.{YieldsList-end}
use Rattle.domain_links.proofs.Returned.{TakenBack-none, TakenBack-more, Rose-more, no_failed, unfailed-more}
use Rattle.domain_links.specs.Telling.{HasFailed, NoneFailed}
use Rattle.domain_links.specs.Attached.{TakenBack}
use Rattle.domain_links.proofs.attaching.give_back.Goals as goal

pub loop-link-init : goal.loop-link-init
loop-link-init g c = record {
  returned = λ now e. TakenBack-none _ _ now e;
  later = omega arith;
  cause = λ h. no_failed g.A.L.Link.faults _ _ h;
  unfailed = λ h. refl;
}

pub loop-link-preserved : goal.loop-link-preserved
loop-link-preserved g c = record {
  returned = λ now e. TakenBack-more _ _ _ _ _ _ now c.loop-link.invariant.returned c.take_back.ensures.returned e;
  later = omega (arith, c.loop-link.invariant.later, c.take_back.ensures.cause.later);
  cause = λ h. Rose-more g.A.L.Link.faults _ _ _ _ _ c.loop-link.invariant.later c.loop-link.invariant.cause c.take_back.ensures.cause h;
  unfailed = λ h. unfailed-more g.A.L.Link.faults _ _ _ _ _ c.loop-link.invariant.unfailed c.take_back.ensures.cause h;
}

pub returns-clause-returned : goal.returns-clause-returned
returns-clause-returned g c now e =
    let all : c.loop-link.yielded ≡ c.args.links.items =
    sym (map-id _) ∙ (YieldsList-end (YieldsList-from_vec c.args.links.items (search rules) (search rules)) c.loop-link.yielded _ c.loop-link.yielded_by _ c.next.new.self c.in-None.is c.next.ensures.steps).0 in
    subst (λ (w : List _). TakenBack g.A.L.Link.told w (g.A.Air.told c.args.air.now) now) all (c.loop-link.invariant.returned now e)

pub returns-clause-later : goal.returns-clause-later
returns-clause-later g c = c.loop-link.invariant.later

pub returns-clause-cause : goal.returns-clause-cause
returns-clause-cause g c h =
    let all : c.loop-link.yielded ≡ c.args.links.items =
    sym (map-id _) ∙ (YieldsList-end (YieldsList-from_vec c.args.links.items (search rules) (search rules)) c.loop-link.yielded _ c.loop-link.yielded_by _ c.next.new.self c.in-None.is c.next.ensures.steps).0 in
    c.loop-link.invariant.cause (subst (λ (w : List _). HasFailed g.A.L.Link.faults w) (sym all) h)

pub returns-clause-unfailed : goal.returns-clause-unfailed
returns-clause-unfailed g c h =
    let all : c.loop-link.yielded ≡ c.args.links.items =
    sym (map-id _) ∙ (YieldsList-end (YieldsList-from_vec c.args.links.items (search rules) (search rules)) c.loop-link.yielded _ c.loop-link.yielded_by _ c.next.new.self c.in-None.is c.next.ensures.steps).0 in
    c.loop-link.invariant.unfailed (subst (λ (w : List _). NoneFailed g.A.L.Link.faults w) (sym all) h)
