use Rattle.std.proofs.Common.{sym, ◌∙◌, arith}
use Rattle.air_frame.proofs.ByNumber.{at_assoc_req, at_assoc_resp, at_re_req, at_re_resp, at_action, at_other}
use Rattle.air_frame.proofs.reading.management.Goals as goal

pub returns-in_default : goal.returns-in_default
returns-in_default c =
    c.authentication.ensures
    ∙ at_other c.args.octets.now (λ h. omega (arith, h, c.subtype.ensures)) (λ h. omega (arith, h, c.subtype.ensures)) (λ h. omega (arith, h, c.subtype.ensures)) (λ h. omega (arith, h, c.subtype.ensures)) (λ h. omega (arith, h, c.subtype.ensures))

pub returns-in-0 : goal.returns-in-0
returns-in-0 c = c.assoc_req.ensures ∙ at_assoc_req _ (sym c.subtype.ensures ∙ c.in-0.is)

pub returns-in-1 : goal.returns-in-1
returns-in-1 c =
    rw (c.response.ensures.header, c.response.ensures.capability, c.response.ensures.status, c.response.ensures.aid, c.response.ensures.elements)
    (at_assoc_resp _ (sym c.subtype.ensures ∙ c.in-1.is))

pub returns-in-2 : goal.returns-in-2
returns-in-2 c = c.re_req.ensures ∙ at_re_req _ (sym c.subtype.ensures ∙ c.in-2.is)

pub returns-in-3 : goal.returns-in-3
returns-in-3 c =
    rw (c.response-in-3.ensures.header, c.response-in-3.ensures.capability, c.response-in-3.ensures.status, c.response-in-3.ensures.aid, c.response-in-3.ensures.elements)
    (at_re_resp _ (sym c.subtype.ensures ∙ c.in-3.is))

pub returns-in-13 : goal.returns-in-13
returns-in-13 c = c.action.ensures ∙ at_action _ (sym c.subtype.ensures ∙ c.in-13.is)
