use Rattle.std.proofs.Common.{List, [], ◌∷◌, reverse, sym, ap, ◌∙◌, subst}
use Rattle.std.proofs.lemmas.List.{reverse-append}
use Rattle.domain_base.specs.Octets.{AreOctets}
use Rattle.link_steps.specs.declared.steps.Step.{Step}
use Rattle.holder_link.specs.World.{Linked}
use Rattle.holder_link.proofs.Worlds.{right_same, stands_of, right_after, acts_at, after_at}
use Rattle.holder_link.proofs.link_world.LinkWorld.event.Goals as goal

pub returns-in_err-reserve-clause-right : goal.returns-in_err-reserve-clause-right
returns-in_err-reserve-clause-right c link is differ unforged =
    right_same link c.args.self.now _ (subst (λ (w : Linked). AreOctets w.both.server.kek) c.self.view_is c.self.invariant.1)
    (ap (λ (s : List Step). reverse s) c.reserve.ensures.items ∙ ap (λ (w : Linked). w.steps) c.self.view_is) is differ unforged

pub returns-in_err-room-clause-right : goal.returns-in_err-room-clause-right
returns-in_err-room-clause-right c link is differ unforged =
    right_same link c.args.self.now _ (subst (λ (w : Linked). AreOctets w.both.server.kek) c.self.view_is c.self.invariant.1)
    (ap (λ (s : List Step). reverse s) c.reserve.ensures.items ∙ ap (λ (w : Linked). w.steps) c.self.view_is) is differ unforged

pub returns-in_err-acted-clause-right : goal.returns-in_err-acted-clause-right
returns-in_err-acted-clause-right c link is differ unforged =
    right_same link c.args.self.now _ (subst (λ (w : Linked). AreOctets w.both.server.kek) c.self.view_is c.self.invariant.1)
    (ap (λ (s : List Step). reverse s) c.reserve.ensures.items ∙ ap (λ (w : Linked). w.steps) c.self.view_is) is differ unforged

pub returns-clause-happens : goal.returns-clause-happens
returns-clause-happens c =
    let b = ap (λ (w : Linked). w.both) c.self.view_is in
    let event = c.in_ok-room.ensures in
    record {
      step = c.fill-step.result;
      event_is = ap (λ (s : Step). s.event) c.fill-step.ensures ∙ event;
      acts = acts_at _ _ _ _ _ _ _ _ b (sym (ap (λ (s : Step). s.event) c.fill-step.ensures ∙ event)) (sym (ap (λ (s : Step). s.sent) c.fill-step.ensures)) (sym (ap (λ (s : Step). s.answer) c.fill-step.ensures)) c.in_ok-acted.ensures.acts;
      both = c.in_ok-acted.ensures.state ∙ after_at _ _ _ _ _ _ b (sym (ap (λ (s : Step). s.event) c.fill-step.ensures ∙ event)) (sym (ap (λ (s : Step). s.answer) c.fill-step.ensures));
      steps =
          ap (λ (s : List Step). reverse s) c.push_reserved.ensures.items
          ∙ reverse-append c.reserve.new.self.items (c.fill-step.result ∷ [])
          ∙ ap (λ (s : List Step). c.fill-step.result ∷ reverse s) c.reserve.ensures.items
          ∙ ap (λ (w : Linked). c.fill-step.result ∷ w.steps) c.self.view_is;
    }

pub returns-clause-stands : goal.returns-clause-stands
returns-clause-stands c link is = stands_of link c.args.self.now _ c.args.event.now (returns-clause-happens c) is

pub returns-clause-right : goal.returns-clause-right
returns-clause-right c link is differ unforged =
    right_after link c.args.self.now _ c.args.event.now (subst (λ (w : Linked). AreOctets w.both.server.kek) c.self.view_is c.self.invariant.1) (returns-clause-happens c) is differ unforged
