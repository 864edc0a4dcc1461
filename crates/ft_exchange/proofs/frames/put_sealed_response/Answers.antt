use Rattle.std.proofs.Common.{◌∙◌, ap}
use Rattle.rsn_elements.specs.Transition.{FteFields}
use Rattle.ft_exchange.specs.Sent.{sealed_of, re_resp_elements_of}
use Rattle.ft_exchange.proofs.frames.put_sealed_response.Goals as goal

pub returns-clause-front : goal.returns-clause-front
returns-clause-front c =
    c.put_response.ensures.front
    ∙ ap (λ (f : FteFields). re_resp_elements_of c.args.side.mfp c.args.name.now c.args.side.mdid f)
    (c.sealed-fte.ensures.fields ∙ ap (λ (f : FteFields). sealed_of c.args.side.mfp c.args.key.now.ptk.kck c.args.side.peer c.args.side.own 6 c.args.name.now c.args.side.mdid f) c.counted_fte-fte.ensures.fields)
