use Rattle.std.proofs.Common.{◌≡◌, Result, Ok, Err, false, ◌∙◌, sym, arith}
use Rattle.std.specs.Prelude.{OnOk}
use Rattle.std.specs.Result.{is_err}
use Rattle.hex.proofs.HexLemmas.{length-encode_with}
use Rattle.hex.specs.Hex.{lower_digits}
use Rattle.journal_report.proofs.Digits.{encode-hex, put_mid-Writes}
use Rattle.journal_report.proofs.pieces.put_hex.Goals as goal

from_ok : {T E : Type 0} (r : Result T E) (P : Type 0) → is_err r ≡ false → OnOk r P → P
from_ok (Ok x) P h p = p
from_ok (Err e) P h p = absurd cc

pub returns-clause-written : goal.returns-clause-written
returns-clause-written c =
    let octets = c.args.octets.now in
    let same = encode-hex octets (λ k. omega (arith, c.type_inv.octets k)) in
    let written = from_ok c.encode_to_slice.result _ (sym c.is_err.ensures.value ∙ c.if-is_err.false) c.encode_to_slice.ensures.written in
    let size = length-encode_with lower_digits octets in
    put_mid-Writes _ _ c.args.at _ c.args.out.now (written ∙ same) (rw (← same) (omega (arith, size))) (omega arith)
