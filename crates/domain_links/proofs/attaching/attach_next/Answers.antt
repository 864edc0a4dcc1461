use Rattle.std.proofs.Common.{List, arith, refl, sym, subst}
use Rattle.domain_links.specs.Attached.{Attached}
use Rattle.domain_links.proofs.Attachment.{Attached-pushed, Attached-same, faults_pushed}
use Rattle.domain_links.proofs.attaching.attach_next.Goals as goal

pub returns-in-Err-clause-attached : goal.returns-in-Err-clause-attached
returns-in-Err-clause-attached g c nodes start is behind a =
    subst (λ (w : List _). Attached g.A.L.Link.told nodes start w (g.A.Air.told c.args.air.now)) (sym c.reserve.ensures.items) a

pub returns-in-Ok-attach-clause-attached : goal.returns-in-Ok-attach-clause-attached
returns-in-Ok-attach-clause-attached g c nodes start is behind a =
    Attached-pushed _ nodes start _ _ c.push_reserved.new.self.items c.in-Ok-attach.link c.args.node _ _ c.reserve.ensures.items c.push_reserved.ensures.items is behind c.in-Ok-attach.ensures.attached a

pub returns-in-Ok-attach-clause-fresh : goal.returns-in-Ok-attach-clause-fresh
returns-in-Ok-attach-clause-fresh g c = faults_pushed g.A.L.Link.faults _ _ c.push_reserved.new.self.items c.in-Ok-attach.link c.reserve.ensures.items c.push_reserved.ensures.items c.in-Ok-attach.ensures.fresh

pub returns-in-Err-attach-clause-attached : goal.returns-in-Err-attach-clause-attached
returns-in-Err-attach-clause-attached g c nodes start is behind a =
    subst (λ (w : List _). Attached g.A.L.Link.told nodes start w (g.A.Air.told c.attach.new.self)) (sym c.reserve.ensures.items)
    (Attached-same _ _ start _ _ _ c.in-Err-attach.ensures.kept a)

pub returns-in-Err-attach-clause-cause : goal.returns-in-Err-attach-clause-cause
returns-in-Err-attach-clause-cause g c =
    let told = c.in-Err-attach.ensures.cause in
    record { later = told.later; failed = λ is. told.failed; kept = λ is. absurd (cc is) }

pub returns-in-Err-attach-clause-untouched : goal.returns-in-Err-attach-clause-untouched
returns-in-Err-attach-clause-untouched g c is = absurd (cc is)

pub returns-in-Ok-attach-clause-cause : goal.returns-in-Ok-attach-clause-cause
returns-in-Ok-attach-clause-cause g c = record { later = c.in-Ok-attach.ensures.cause.later; failed = λ is. absurd (cc is); kept = λ is. absurd (cc is) }

pub returns-in-Ok-attach-clause-untouched : goal.returns-in-Ok-attach-clause-untouched
returns-in-Ok-attach-clause-untouched g c is = absurd (cc is)

pub returns-in-Ok-attach-clause-unfailed : goal.returns-in-Ok-attach-clause-unfailed
returns-in-Ok-attach-clause-unfailed g c = c.in-Ok-attach.ensures.unfailed

pub returns-in-Err-clause-cause : goal.returns-in-Err-clause-cause
returns-in-Err-clause-cause g c = record { later = omega arith; failed = λ is. absurd (cc is); kept = λ is. refl }
