use Rattle.std.proofs.Common.{◌++◌, arith}
use Rattle.std.proofs.lemmas.Grind.{common_steps}
use Rattle.rsn_elements.specs.Fields.{fte_fields}
use Rattle.rsn_elements.specs.Sent.{ssid_octets, rates_octets, mde_octets, fte_octets}
use Rattle.ft_exchange.specs.Sent.{named_rsne}
use Rattle.ft_exchange.proofs.Covers.{rsne_few, rsne_least}
use Rattle.ft_exchange.proofs.Written.{wrote_none, wrote_ssid, wrote_rates, wrote_rsne, wrote_mde, wrote_fte, room_for_rsne, room_for_mde, room_for_fte, some_written, few_written, behind_start, front_is}
use Rattle.ft_exchange.proofs.frames.put_request.Goals as goal

pub add_rsne-requires : goal.add_rsne-requires
add_rsne-requires c =
    let empty = wrote_none c.over-writer.ensures.empty c.over-writer.ensures.before c.requires.room in
    let ssid = wrote_ssid c.args.ssid.now empty c.ssid.ensures in
    let rates = wrote_rates ssid c.rates.ensures in
    room_for_rsne rates (omega (arith, c.requires.ssid.most))

pub mde-requires : goal.mde-requires
mde-requires c =
    let empty = wrote_none c.over-writer.ensures.empty c.over-writer.ensures.before c.requires.room in
    let ssid = wrote_ssid c.args.ssid.now empty c.ssid.ensures in
    let rates = wrote_rates ssid c.rates.ensures in
    let rsne = wrote_rsne c.args.mfp c.args.name.now rates c.add_rsne.ensures.written c.add_rsne.ensures.name in
    room_for_mde c.args.mdid rsne (omega arith) (omega (arith, c.requires.ssid.most, rsne_few c.args.mfp))

pub fte-requires-clause-room : goal.fte-requires-clause-room
fte-requires-clause-room c =
    let empty = wrote_none c.over-writer.ensures.empty c.over-writer.ensures.before c.requires.room in
    let ssid = wrote_ssid c.args.ssid.now empty c.ssid.ensures in
    let rates = wrote_rates ssid c.rates.ensures in
    let rsne = wrote_rsne c.args.mfp c.args.name.now rates c.add_rsne.ensures.written c.add_rsne.ensures.name in
    let mde = wrote_mde c.args.mdid rsne c.mde.ensures.written c.mde.ensures.fits in
    room_for_fte (fte_fields c.args.fte.now) mde c.requires.fits.body (omega (arith, c.requires.ssid.most, rsne_few c.args.mfp))

pub fte-requires-clause-r0kh_id : goal.fte-requires-clause-r0kh_id
fte-requires-clause-r0kh_id c = c.requires.fits.r0kh_id

pub returns-clause-few : goal.returns-clause-few
returns-clause-few c =
    let f = fte_fields c.args.fte.now in
    let empty = wrote_none c.over-writer.ensures.empty c.over-writer.ensures.before c.requires.room in
    let ssid = wrote_ssid c.args.ssid.now empty c.ssid.ensures in
    let rates = wrote_rates ssid c.rates.ensures in
    let rsne = wrote_rsne c.args.mfp c.args.name.now rates c.add_rsne.ensures.written c.add_rsne.ensures.name in
    let mde = wrote_mde c.args.mdid rsne c.mde.ensures.written c.mde.ensures.fits in
    let fte = wrote_fte f mde c.fte.ensures.written in
    few_written _ f c.len.ensures fte c.requires.fits.body (omega (arith, c.requires.ssid.most, rsne_few c.args.mfp))

pub returns-clause-some : goal.returns-clause-some
returns-clause-some c =
    let f = fte_fields c.args.fte.now in
    let empty = wrote_none c.over-writer.ensures.empty c.over-writer.ensures.before c.requires.room in
    let ssid = wrote_ssid c.args.ssid.now empty c.ssid.ensures in
    let rates = wrote_rates ssid c.rates.ensures in
    let rsne = wrote_rsne c.args.mfp c.args.name.now rates c.add_rsne.ensures.written c.add_rsne.ensures.name in
    let mde = wrote_mde c.args.mdid rsne c.mde.ensures.written c.mde.ensures.fits in
    let fte = wrote_fte f mde c.fte.ensures.written in
    some_written _ f c.len.ensures fte c.fte.ensures.fits (omega (arith, c.requires.ssid.most, rsne_least c.args.mfp))

pub returns-clause-front : goal.returns-clause-front
returns-clause-front c =
    let f = fte_fields c.args.fte.now in
    let empty = wrote_none c.over-writer.ensures.empty c.over-writer.ensures.before c.requires.room in
    let ssid = wrote_ssid c.args.ssid.now empty c.ssid.ensures in
    let rates = wrote_rates ssid c.rates.ensures in
    let rsne = wrote_rsne c.args.mfp c.args.name.now rates c.add_rsne.ensures.written c.add_rsne.ensures.name in
    let mde = wrote_mde c.args.mdid rsne c.mde.ensures.written c.mde.ensures.fits in
    let fte = wrote_fte f mde c.fte.ensures.written in
    front_is fte (behind_start (ssid_octets c.args.ssid.now ++ rates_octets) (named_rsne c.args.mfp c.args.name.now) (mde_octets c.args.mdid) (fte_octets f)) (grind (arith, common_steps))
