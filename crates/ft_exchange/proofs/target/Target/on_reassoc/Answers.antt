use Rattle.std.proofs.Common.{Some, None, sym, subst}
use Rattle.rsn_elements.specs.Fields.{element_fields}
use Rattle.run_journal.specs.declared.acts.Outcome.{Outcome}
use Rattle.group_key.specs.News.{news_of}
use Rattle.ft_exchange.specs.Judged.{wanted}
use Rattle.ft_exchange.specs.TargetSteps.{IsReassocTaken}
use Rattle.ft_exchange.specs.contracts.target.Target.{the_view}
use Rattle.ft_exchange.proofs.ReassocExits.{found, exit_tried, Passed, passed, fault_is, exit_elements, exit_held, exit_pends}
use Rattle.ft_exchange.proofs.target.Target.on_reassoc.Goals as goal

pub returns-in-Some : goal.returns-in-Some
returns-in-Some c =
    exit_tried (element_fields c.args.elements.now) (news_of c.args.newest.now c.args.rsc c.args.igtk) c.args.self.now c.try_frame-tried.result c.reason.result c.in-Some.why c.empty.result
    (found c.args.self.now (the_view c.self.inside) (element_fields c.args.elements.now) c.between.result c.try_frame-tried.result c.self.view_is c.between.ensures c.try_frame-tried.ensures)
    c.reason.ensures c.in-Some.is c.empty.ensures

pub returns-in-Some-reassociation_fault : goal.returns-in-Some-reassociation_fault
returns-in-Some-reassociation_fault c =
    let p : Passed c.args.self.now (element_fields c.args.elements.now) c.kck-reply.result =
    passed (element_fields c.args.elements.now) c.args.self.now (the_view c.self.inside) c.try_frame-tried.result c.reason.result c.kck-reply.result c.self.view_is
    (found c.args.self.now (the_view c.self.inside) (element_fields c.args.elements.now) c.between.result c.try_frame-tried.result c.self.view_is c.between.ensures c.try_frame-tried.ensures)
    c.reason.ensures c.in_default.is c.kck-reply.ensures
    in
    subst (λ (o : Outcome). IsReassocTaken (element_fields c.args.elements.now) (news_of c.args.newest.now c.args.rsc c.args.igtk) c.args.self.now c.args.self.now o c.refuse_reassoc.new.reply) (sym c.refuse_reassoc.ensures.outcome)
    (exit_elements (element_fields c.args.elements.now) (news_of c.args.newest.now c.args.rsc c.args.igtk) c.args.self.now (the_view c.self.inside) c.kck-reply.result c.in-Some-reassociation_fault.why c.empty.result c.refuse_reassoc.new.reply p c.self.view_is
    (fault_is (element_fields c.args.elements.now) c.args.self.now (wanted c.expects.result) c.reassociation_fault.result (Some c.in-Some-reassociation_fault.why) c.expects.ensures c.reassociation_fault.ensures c.in-Some-reassociation_fault.is)
    c.empty.ensures c.refuse_reassoc.ensures.refuses)

pub returns-then-self : goal.returns-then-self
returns-then-self c =
    let p : Passed c.args.self.now (element_fields c.args.elements.now) c.kck-reply.result =
    passed (element_fields c.args.elements.now) c.args.self.now (the_view c.self.inside) c.try_frame-tried.result c.reason.result c.kck-reply.result c.self.view_is
    (found c.args.self.now (the_view c.self.inside) (element_fields c.args.elements.now) c.between.result c.try_frame-tried.result c.self.view_is c.between.ensures c.try_frame-tried.ensures)
    c.reason.ensures c.in_default.is c.kck-reply.ensures
    in
    exit_held (element_fields c.args.elements.now) (news_of c.args.newest.now c.args.rsc c.args.igtk) c.args.self.now (the_view c.self.inside) c.kck-reply.result c.empty.result c.answer_again.new.reply p c.self.view_is
    (fault_is (element_fields c.args.elements.now) c.args.self.now (wanted c.expects.result) c.reassociation_fault.result None c.expects.ensures c.reassociation_fault.ensures c.in_default-reassociation_fault.is)
    c.if-self.true c.empty.ensures c.answer_again.ensures

pub returns : goal.returns
returns c =
    let p : Passed c.args.self.now (element_fields c.args.elements.now) c.kck-reply.result =
    passed (element_fields c.args.elements.now) c.args.self.now (the_view c.self.inside) c.try_frame-tried.result c.reason.result c.kck-reply.result c.self.view_is
    (found c.args.self.now (the_view c.self.inside) (element_fields c.args.elements.now) c.between.result c.try_frame-tried.result c.self.view_is c.between.ensures c.try_frame-tried.ensures)
    c.reason.ensures c.in_default.is c.kck-reply.ensures
    in
    exit_pends (element_fields c.args.elements.now) c.of-news.result (news_of c.args.newest.now c.args.rsc c.args.igtk) c.args.self.now (the_view c.self.inside) c.install.new.self c.kck-reply.result c.empty.result c.install.new.reply c.of-news.ensures p c.self.view_is
    (fault_is (element_fields c.args.elements.now) c.args.self.now (wanted c.expects.result) c.reassociation_fault.result None c.expects.ensures c.reassociation_fault.ensures c.in_default-reassociation_fault.is)
    c.if-self.false c.empty.ensures c.install.ensures
