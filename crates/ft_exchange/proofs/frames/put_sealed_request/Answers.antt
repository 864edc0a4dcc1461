use Rattle.std.proofs.Common.{◌∙◌, ap}
use Rattle.rsn_elements.specs.Transition.{FteFields}
use Rattle.ft_exchange.specs.Sent.{sealed_of, re_req_elements_of}
use Rattle.ft_exchange.proofs.frames.put_sealed_request.Goals as goal

pub returns-clause-front : goal.returns-clause-front
returns-clause-front c =
    c.put_request.ensures.front
    ∙ ap (λ (f : FteFields). re_req_elements_of c.args.side.mfp c.args.ssid.now c.args.name.now c.args.side.mdid f)
    (c.sealed-fte.ensures.fields ∙ ap (λ (f : FteFields). sealed_of c.args.side.mfp c.args.key.now.ptk.kck c.args.side.own c.args.side.peer 5 c.args.name.now c.args.side.mdid f) c.counted_fte-fte.ensures.fields)
