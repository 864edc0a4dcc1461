use Rattle.std.proofs.Common.{List, [], ◌∷◌, ℕ, ap, sym, subst, arith}
use Rattle.std.proofs.lemmas.List.{take_all}
use Rattle.journal_report.specs.Writing.{Writes}
use Rattle.entry_lines.specs.Lines.{pointed}
use Rattle.entry_lines.proofs.Fielded.{Writes-is, pointed-step}
use Rattle.entry_lines.proofs.words.put_pointed.Goals as goal

pub put-end-requires : goal.put-end-requires
put-end-requires c = omega (arith, c.requires, c.loop-octet.auto.out, c.loop-octet.invariant.room, c.loop-octet-test.true)

pub loop-octet-preserved : goal.loop-octet-preserved
loop-octet-preserved c =
    let put = c.put-end.ensures in
    record {
      written = pointed-step c.args.text.now c.loop-octet.octet-index 0 _ _ _ _ _ _ c.loop-octet-test.true c.loop-octet.invariant.written (Writes-is (c.point.result ∷ []) _ _ _ _ _ (record { end = put.end; front = put.front; rest = put.rest; len = put.len }) (ap (λ (octet : ℕ). octet ∷ []) (sym c.point.ensures)));
      room = omega (arith, put.end, c.loop-octet.invariant.room);
      few = omega (arith, put.end, c.loop-octet.invariant.room, c.loop-octet-test.true);
    }

pub returns-clause-written : goal.returns-clause-written
returns-clause-written c =
    subst (λ (t : List ℕ). Writes (pointed t) c.args.at c.args.out.now c.loop-octet.end c.loop-octet.out)
    (take_all c.loop-octet.octet-index c.args.text.now (omega (arith, c.loop-octet-test.false))) c.loop-octet.invariant.written

pub returns-clause-short : goal.returns-clause-short
returns-clause-short c = c.loop-octet.invariant.few
