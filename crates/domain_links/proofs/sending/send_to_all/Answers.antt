use Rattle.std.proofs.Common.{List, ◌∷◌, Some, ap, sym, refl, ◌∙◌, arith}
use Rattle.domain_base.specs.declared.names.Node.TheVariants.{Sta}
use Rattle.domain_base.specs.declared.radio.SentFrame.{SentFrame}
use Rattle.domain_links.specs.NodeOrder.{stations}
use Rattle.domain_links.specs.Sends.{frames_to}
use Rattle.domain_links.proofs.Going.{sends_one, stations_next, frames_two, all_more, all_none, has_item}
use Rattle.domain_links.proofs.sending.send_to_all.Goals as goal

pub loop-place-init : goal.loop-place-init
loop-place-init g c = record { sent = λ story e. e ∙ ap Some (sym (all_none story c.args.octets.now)); unfailed = refl }

pub returns-in-Err-clause-sent : goal.returns-in-Err-clause-sent
returns-in-Err-clause-sent g c story e =
    let f = stations_next c.loop-place.place c.args.count (omega (arith, c.loop-place-test.true)) in (
      frames_to (stations c.loop-place.place) c.args.octets.now,
      frames_to (Sta c.loop-place.place ∷ f.0) c.args.octets.now,
      sym (frames_two (stations c.loop-place.place) (Sta c.loop-place.place ∷ f.0) c.args.octets.now) ∙ ap (λ (w : List _). frames_to w c.args.octets.now) f.1,
      has_item {A = SentFrame} (record { to = Sta c.loop-place.place; octets = c.args.octets.now }) (frames_to f.0 c.args.octets.now),
      sends_one _ _ _ _ _ _ (c.loop-place.invariant.sent story e) c.in-Err.ensures.sent,
    )

pub loop-place-preserved : goal.loop-place-preserved
loop-place-preserved g c = record {
  sent = λ story e. sends_one _ _ _ _ _ _ (c.loop-place.invariant.sent story e) c.in-Ok.ensures.sent ∙ ap Some (all_more story c.loop-place.place c.args.octets.now);
  unfailed = c.in-Ok.ensures.unfailed ∙ c.loop-place.invariant.unfailed;
}
