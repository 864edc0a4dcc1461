use Rattle.std.proofs.Common.{arith}
use Rattle.std.proofs.lemmas.Result.{on_ok_weaker}
use Rattle.run_journal.proofs.index.Index.room.Goals as goal

pub returns-in_err-reserve-clause-kept : goal.returns-in_err-reserve-clause-kept
returns-in_err-reserve-clause-kept c n h = record {
  values = c.reserve.ensures.kept n h.values;
  kcks = h.kcks;
  values_made = λ some. omega (arith, h.values_made some, c.reserve.ensures.longer);
  kcks_made = h.kcks_made;
}

pub returns-clause-kept : goal.returns-clause-kept
returns-clause-kept c n h = record {
  values = c.reserve.ensures.kept n h.values;
  kcks = c.reserve-2.ensures.kept n h.kcks;
  values_made = λ some. omega (arith, h.values_made some, c.reserve.ensures.longer);
  kcks_made = λ some. omega (arith, h.kcks_made some, c.reserve-2.ensures.longer);
}

pub returns-in_err-reserve-clause-indexed : goal.returns-in_err-reserve-clause-indexed
returns-in_err-reserve-clause-indexed c entries h = record { values = c.reserve.ensures.chained _ h.values; kcks = h.kcks }

pub returns-clause-indexed : goal.returns-clause-indexed
returns-clause-indexed c entries h = record { values = c.reserve.ensures.chained _ h.values; kcks = c.reserve-2.ensures.chained _ h.kcks }

pub returns-clause-room : goal.returns-clause-room
returns-clause-room c =
    on_ok_weaker c.reserve-2.result (λ k. record {
      values = c.in_ok-reserve.ensures.room.0;
      kcks = k.0;
      values_made = λ some. omega (arith, c.in_ok-reserve.ensures.room.1, c.count-chains.ensures);
      kcks_made = λ some. omega (arith, k.1, c.count-chains.ensures);
    }) c.reserve-2.ensures.room
