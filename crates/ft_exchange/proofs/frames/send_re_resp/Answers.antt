use Rattle.std.proofs.Common.{◌∙◌, List, ℕ, Some, ap, arith}
use Rattle.air_frame.specs.Sent.{re_resp_octets}
use Rattle.std.specs.Prelude.{option_map}
use Rattle.rsn_elements.specs.Fields.{wrapped_gtk_fields, wrapped_igtk_fields}
use Rattle.run_journal.specs.declared.acts.Kind.TheVariants as kind
use Rattle.ft_exchange.proofs.Covers.{response_covers}
use Rattle.ft_exchange.proofs.Sending.{sends_it}
use Rattle.ft_exchange.proofs.frames.send_re_resp.Goals as goal

pub returns-clause-sends : goal.returns-clause-sends
returns-clause-sends c =
    sends_it _ kind.ReResp (Some c.args.key.now.ptk.kck) c.args.reply.now c.set_sent.new.reply c.write_re_resp-len.new.out c.write_re_resp-len.result c.set_sent.ensures
    (c.write_re_resp-len.ensures.octets
    ∙ ap (λ (e : List ℕ). re_resp_octets c.args.side.peer.0 c.args.side.own.0 c.args.side.own.0 0 c.args.aid e) (c.split_at.ensures.front ∙ c.put_sealed_response-size.ensures.front))
    (omega (arith, c.write_re_resp-len.ensures.size, c.split_at.ensures.front_len, c.put_sealed_response-size.ensures.some))
    (omega (arith, c.write_re_resp-len.ensures.size, c.split_at.ensures.front_len, c.put_sealed_response-size.ensures.few))

pub returns-clause-covers : goal.returns-clause-covers
returns-clause-covers c =
    response_covers c.args.side.mfp c.args.side.own.0 c.args.side.peer.0 c.args.aid c.args.name.now c.args.side.mdid c.args.key.now.anonce c.args.key.now.snonce c.args.side.r0kh_id.now _ (Some (wrapped_gtk_fields c.args.gtk)) (option_map wrapped_igtk_fields c.args.igtk) 6
    c.whole.ensures c.whole-2.ensures c.put_sealed_response-size.ensures.sizes
