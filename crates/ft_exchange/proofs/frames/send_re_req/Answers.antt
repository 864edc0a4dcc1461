use Rattle.std.proofs.Common.{◌∙◌, List, ℕ, Some, None, ap, arith}
use Rattle.air_frame.specs.Sent.{re_req_octets}
use Rattle.run_journal.specs.declared.acts.Kind.TheVariants as kind
use Rattle.ft_exchange.proofs.Covers.{request_covers}
use Rattle.ft_exchange.proofs.Sending.{sends_it}
use Rattle.ft_exchange.proofs.frames.send_re_req.Goals as goal

pub returns-clause-sends : goal.returns-clause-sends
returns-clause-sends c =
    sends_it _ kind.ReReq (Some c.args.key.now.ptk.kck) c.args.reply.now c.set_sent.new.reply c.write_re_req-len.new.out c.write_re_req-len.result c.set_sent.ensures
    (c.write_re_req-len.ensures.octets
    ∙ ap (λ (e : List ℕ). re_req_octets c.args.side.peer.0 c.args.side.own.0 c.args.side.peer.0 c.args.current.0 e) (c.split_at.ensures.front ∙ c.put_sealed_request-size.ensures.front))
    (omega (arith, c.write_re_req-len.ensures.size, c.split_at.ensures.front_len, c.put_sealed_request-size.ensures.some))
    (omega (arith, c.write_re_req-len.ensures.size, c.split_at.ensures.front_len, c.put_sealed_request-size.ensures.few))

pub returns-clause-covers : goal.returns-clause-covers
returns-clause-covers c =
    request_covers c.args.side.mfp c.args.side.own.0 c.args.side.peer.0 c.args.current.0 c.args.ssid.now c.args.name.now c.args.side.mdid c.args.key.now.anonce c.args.key.now.snonce c.args.side.r0kh_id.now _ None None 5
    c.whole.ensures c.whole-2.ensures c.whole-3.ensures c.put_sealed_request-size.ensures.sizes
