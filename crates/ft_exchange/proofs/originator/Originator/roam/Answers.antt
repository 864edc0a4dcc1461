use Rattle.std.proofs.Common.{◌∙◌, ℕ, List, ap}
use Rattle.key_hierarchy.specs.FastTransition.{pmk_r0}
use Rattle.ft_exchange.proofs.StationBegins.{begins, state_is}
use Rattle.ft_exchange.proofs.originator.Originator.roam.Goals as goal

pub returns : goal.returns
returns c =
    begins c.args.domain.now c.args.sta c.args.ap c.args.current c.args.r0kh_id.now c.args.snonce.now _ c.empty.result c.ask.new.reply c.requires.suite
    (state_is c.args.domain.now c.args.sta c.args.ap c.args.current c.args.r0kh_id.now c.args.snonce.now c.address-own.result c.address.result c.address-2.result c.as_slice-ssid.result.now c.of.result c.of-2.result c.parts.result.0
    c.address-own.ensures.mac c.address.ensures.mac c.address-2.ensures.mac c.as_slice-ssid.ensures c.of.ensures c.of-2.ensures
    (c.parts.ensures.r0 ∙ c.r0-named.ensures ∙ ap (λ (k : List ℕ). pmk_r0 k c.as_slice-ssid.result.now c.args.domain.now.mdid c.args.r0kh_id.now c.address-own.result) c.psk-key.ensures))
    c.empty.ensures c.ask.ensures
