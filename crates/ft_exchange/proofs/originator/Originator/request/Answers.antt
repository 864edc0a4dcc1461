use Rattle.std.proofs.Common.{◌∙◌, ap}
use Rattle.ft_exchange.specs.State.{OriginatorState}
use Rattle.ft_exchange.proofs.Sending.{Requests, requests}
use Rattle.ft_exchange.proofs.originator.Originator.request.Goals as goal

pub returns-clause-sends : goal.returns-clause-sends
returns-clause-sends c =
    let r : Requests c.args.self.now.mfp c.args.transit.now c.args.self.now.own c.args.self.now.peer c.args.self.now.current c.args.self.now.ssid c.args.self.now.mdid c.args.self.now.r0kh_id c.args.reply.now c.send_re_req.new.reply =
    requests c.args.self.now c.args.transit.now c.side.result.mfp c.side.result.own c.side.result.peer c.self.inside.current c.as_slice-ssid.result.now c.side.result.mdid c.side.result.r0kh_id.now c.args.reply.now c.send_re_req.new.reply
    c.side.ensures.mfp c.side.ensures.own c.side.ensures.peer (ap (λ (x : OriginatorState). x.current) c.self.view_is) (c.as_slice-ssid.ensures ∙ ap (λ (x : OriginatorState). x.ssid) c.self.view_is) c.side.ensures.mdid c.side.ensures.r0kh_id
    (record { sends = c.send_re_req.ensures.sends; covers = c.send_re_req.ensures.covers })
    in
    r.sends

pub returns-clause-covers : goal.returns-clause-covers
returns-clause-covers c =
    let r : Requests c.args.self.now.mfp c.args.transit.now c.args.self.now.own c.args.self.now.peer c.args.self.now.current c.args.self.now.ssid c.args.self.now.mdid c.args.self.now.r0kh_id c.args.reply.now c.send_re_req.new.reply =
    requests c.args.self.now c.args.transit.now c.side.result.mfp c.side.result.own c.side.result.peer c.self.inside.current c.as_slice-ssid.result.now c.side.result.mdid c.side.result.r0kh_id.now c.args.reply.now c.send_re_req.new.reply
    c.side.ensures.mfp c.side.ensures.own c.side.ensures.peer (ap (λ (x : OriginatorState). x.current) c.self.view_is) (c.as_slice-ssid.ensures ∙ ap (λ (x : OriginatorState). x.ssid) c.self.view_is) c.side.ensures.mdid c.side.ensures.r0kh_id
    (record { sends = c.send_re_req.ensures.sends; covers = c.send_re_req.ensures.covers })
    in
    r.covers
