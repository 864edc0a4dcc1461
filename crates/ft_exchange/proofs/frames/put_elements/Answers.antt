use Rattle.std.proofs.Common.{List, ℕ, length, ap, arith}
use Rattle.rsn_elements.specs.Fields.{fte_fields}
use Rattle.ft_exchange.proofs.Covers.{rsne_few, rsne_least}
use Rattle.ft_exchange.proofs.Written.{wrote_none, wrote_rsne, wrote_mde, wrote_fte, room_for_mde, room_for_fte, some_written, few_written}
use Rattle.ft_exchange.proofs.frames.put_elements.Goals as goal

pub add_rsne-requires : goal.add_rsne-requires
add_rsne-requires c = omega (arith, c.over-writer.ensures.empty, ap (λ (l : List ℕ). length l) c.over-writer.ensures.before, c.requires.room)

pub mde-requires : goal.mde-requires
mde-requires c =
    let empty = wrote_none c.over-writer.ensures.empty c.over-writer.ensures.before c.requires.room in
    let rsne = wrote_rsne c.args.mfp c.args.name.now empty c.add_rsne.ensures.written c.add_rsne.ensures.name in
    room_for_mde c.args.mdid rsne (omega arith) (omega (arith, rsne_few c.args.mfp))

pub fte-requires-clause-room : goal.fte-requires-clause-room
fte-requires-clause-room c =
    let empty = wrote_none c.over-writer.ensures.empty c.over-writer.ensures.before c.requires.room in
    let rsne = wrote_rsne c.args.mfp c.args.name.now empty c.add_rsne.ensures.written c.add_rsne.ensures.name in
    let mde = wrote_mde c.args.mdid rsne c.mde.ensures.written c.mde.ensures.fits in
    room_for_fte (fte_fields c.args.fte.now) mde c.requires.fits.body (omega (arith, rsne_few c.args.mfp))

pub fte-requires-clause-r0kh_id : goal.fte-requires-clause-r0kh_id
fte-requires-clause-r0kh_id c = c.requires.fits.r0kh_id

pub returns-clause-few : goal.returns-clause-few
returns-clause-few c =
    let f = fte_fields c.args.fte.now in
    let empty = wrote_none c.over-writer.ensures.empty c.over-writer.ensures.before c.requires.room in
    let rsne = wrote_rsne c.args.mfp c.args.name.now empty c.add_rsne.ensures.written c.add_rsne.ensures.name in
    let mde = wrote_mde c.args.mdid rsne c.mde.ensures.written c.mde.ensures.fits in
    let fte = wrote_fte f mde c.fte.ensures.written in
    few_written _ f c.len.ensures fte c.requires.fits.body (omega (arith, rsne_few c.args.mfp))

pub returns-clause-some : goal.returns-clause-some
returns-clause-some c =
    let f = fte_fields c.args.fte.now in
    let empty = wrote_none c.over-writer.ensures.empty c.over-writer.ensures.before c.requires.room in
    let rsne = wrote_rsne c.args.mfp c.args.name.now empty c.add_rsne.ensures.written c.add_rsne.ensures.name in
    let mde = wrote_mde c.args.mdid rsne c.mde.ensures.written c.mde.ensures.fits in
    let fte = wrote_fte f mde c.fte.ensures.written in
    some_written _ f c.len.ensures fte c.fte.ensures.fits (omega (arith, rsne_least c.args.mfp))
