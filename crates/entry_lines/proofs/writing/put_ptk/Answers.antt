use Rattle.std.proofs.Common.{arith}
use Rattle.entry_lines.proofs.Fielded.{ptk-written}
use Rattle.entry_lines.proofs.writing.put_ptk.Goals as goal

pub returns-clause-written : goal.returns-clause-written
returns-clause-written c =
    let space = c.put-at.ensures in
    ptk-written c.args.ptk.now _ _ _ _ _ _ _ _ _ _ (record { end = space.end; front = space.front; rest = space.rest; len = space.len }) c.put_hex-at.ensures.written c.put_hex-at-2.ensures.written c.put_hex.ensures.written

pub put_hex-at-requires : goal.put_hex-at-requires
put_hex-at-requires c =
    omega (arith, c.requires, c.put-at.ensures.end, c.put-at.ensures.len, c.ptk_fits.ensures.kck.0)

pub put_hex-at-requires-2 : goal.put_hex-at-requires-2
put_hex-at-requires-2 c =
    omega (arith, c.requires, c.put-at.ensures.end, c.put-at.ensures.len, c.ptk_fits.ensures.kck.0, c.ptk_fits.ensures.kek.0, c.put_hex-at.ensures.short, c.put_hex-at.ensures.written.len)

pub put_hex-requires : goal.put_hex-requires
put_hex-requires c =
    omega (arith, c.requires, c.put-at.ensures.end, c.put-at.ensures.len, c.ptk_fits.ensures.kck.0, c.ptk_fits.ensures.kek.0, c.put_hex-at.ensures.short, c.put_hex-at.ensures.written.len, c.ptk_fits.ensures.tk.0, c.put_hex-at-2.ensures.short, c.put_hex-at-2.ensures.written.len)

pub returns-clause-short : goal.returns-clause-short
returns-clause-short c =
    omega (arith, c.put-at.ensures.end, c.ptk_fits.ensures.kck.0, c.ptk_fits.ensures.kek.0, c.ptk_fits.ensures.tk.0, c.put_hex-at.ensures.short, c.put_hex-at-2.ensures.short, c.put_hex.ensures.short)
