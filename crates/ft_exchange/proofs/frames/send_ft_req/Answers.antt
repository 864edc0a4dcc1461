use Rattle.std.proofs.Common.{◌∙◌, List, ℕ, None, ap, arith}
use Rattle.air_frame.specs.Sent.{ft_req_octets}
use Rattle.rsn_elements.specs.Transition.{FteFields}
use Rattle.run_journal.specs.declared.acts.Kind.TheVariants as kind
use Rattle.ft_exchange.specs.Sent.{named_elements}
use Rattle.ft_exchange.proofs.Sending.{sends_it}
use Rattle.ft_exchange.proofs.frames.send_ft_req.Goals as goal

pub returns : goal.returns
returns c =
    sends_it _ kind.FtReq None c.args.reply.now c.set_sent.new.reply c.write_ft_req-len.new.out c.write_ft_req-len.result c.set_sent.ensures
    (c.write_ft_req-len.ensures.octets
    ∙ ap (λ (e : List ℕ). ft_req_octets c.args.side.peer.0 c.args.side.own.0 c.args.side.peer.0 e)
    (c.split_at.ensures.front ∙ c.put_elements-size.ensures.front ∙ ap (λ (f : FteFields). named_elements c.args.side.mfp c.args.name.now c.args.side.mdid f) c.plain_fte-fte.ensures.fields))
    (omega (arith, c.write_ft_req-len.ensures.size, c.split_at.ensures.front_len, c.put_elements-size.ensures.some))
    (omega (arith, c.write_ft_req-len.ensures.size, c.split_at.ensures.front_len, c.put_elements-size.ensures.few))
